-- What was read of the record's bytes.
use Rattle.std.proofs.Common.{sym, ◌∙◌}
use Rattle.registrations.proofs.record_part.part_in_capture.Goals as goal

pub returns-clause-whole : goal.returns-clause-whole
returns-clause-whole c = λ _. record {
  spelled = λ parts e. c.read_part.ensures.spelled parts (c.deref.ensures.value ∙ e);
  unspelled = λ none. c.read_part.ensures.unspelled (λ parts e. none parts (sym c.deref.ensures.value ∙ e));
}
