-- All places are unset.
use Rattle.std.proofs.Common.{sym, ◌∙◌}
use Rattle.std.proofs.lemmas.Bool.{false≢true}
use Rattle.lane.proofs.SeenRows.{none-set}
use Rattle.lane.proofs.sids.seen.SeenSids.new.Goals as goal

pub returns : goal.returns
returns c channel sid seen = false≢true (sym (none-set 16384 channel sid) ∙ seen)
