use Rattle.std.proofs.Common.{◌≡◌, ◌∷◌, [], sym, ap, subst, rules}
use Rattle.std.proofs.lemmas.Result.{err_from_is_err_and}
use Rattle.text_lines.specs.Lines.{words_of}
use Rattle.text_lines.specs.Field.{SpellsBytes}
use Rattle.texts.specs.Join.Line.{OnlySpells}
use Rattle.texts.proofs.JoinLineFaults.{no_segment}
use Rattle.texts.proofs.join.join_line.read_segment.Goals as goal

pub returns-in_err-read-clause-fault : goal.returns-in_err-read-clause-fault
returns-in_err-read-clause-fault c =
    let p = err_from_is_err_and c.from_residual-in_err-read.result c.from_residual-in_err-read.ensures.1 in
    let none : words_of c.args.rest.now ≡ [] = search rules in
    let spelled : SpellsBytes c.args.field.now c.deref.result.now = subst (λ bytes. SpellsBytes c.args.field.now bytes) (sym c.deref.ensures.value) c.in_ok-bytes.ensures.spelled in
    let only : OnlySpells (c.args.field.now ∷ words_of c.args.rest.now) c.deref.result.now = record { field = c.args.field.now; alone = ap (λ words. c.args.field.now ∷ words) none; spelled = spelled } in
    rw (p.1, p.2) (no_segment (c.args.field.now ∷ words_of c.args.rest.now) c.deref.result.now c.read.result c.in_err-read.field-0.0 only c.in_err-read.was c.read.ensures.too_short.0 c.read.ensures.pointer_past.0)
