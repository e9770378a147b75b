use Rattle.std.proofs.Common.{true, false, refl, sym, ◌∙◌, rules}
use Rattle.receiver.proofs.Tallies.{tallies-ok, tallies-refused}
use Rattle.receiver.proofs.tally.LaneTally.count.Goals as goal

pub returns-then-is_some : goal.returns-then-is_some
returns-then-is_some c =
    tallies-ok c.args.self.now _ c.args.answer.now c.in-Ok.admitted true c.in-Ok.is (sym c.if-is_some.true ∙ c.is_some.ensures) (search rules) refl

pub returns-else-is_some : goal.returns-else-is_some
returns-else-is_some c =
    tallies-ok c.args.self.now _ c.args.answer.now c.in-Ok.admitted false c.in-Ok.is (sym c.if-is_some.false ∙ c.is_some.ensures) refl refl

pub returns-in-Err : goal.returns-in-Err
returns-in-Err c = tallies-refused c.args.self.now _ c.args.answer.now c.in-Err.field-0 c.in-Err.is refl (search rules)
