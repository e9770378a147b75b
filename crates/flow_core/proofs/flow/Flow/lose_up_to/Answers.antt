-- The flow takes the decision up to its number.
use Rattle.std.proofs.Common.{inl, inr, sym, ◌∙◌, arith}
use Rattle.flow_core.proofs.Stopping.{stops-everywhere}
use Rattle.flow_core.proofs.FlowDeclaring.{decision-event}
use Rattle.flow_core.proofs.flow.Flow.lose_up_to.Goals as goal
use Rattle.flow_core.proofs.flow.Flow.lose_up_to.Goals.{then-count-gt0+then-expected-number, else-count-gt0, else-count-gt0-via-then-count-gt0+else-expected-number, else-count-gt0-via-else-count-gt0}

pub returns : goal.returns
returns c =
    decision-event c.args.up_to c.args.self.now c.pass_to-count.new.self c.if-count-gt0.self c.pass_to-count.result _
    stops-everywhere
    c.requires
    c.pass_to-count.ensures.count c.pass_to-count.ensures.after c.pass_to-count.ensures.lawful
    (elim c.if-count-gt0.branch [
      | then-count-gt0+then-expected-number w ↦ inl (w.if-count-gt0.true, λ same. w.if-expected-number.true (w.expected.ensures.number ∙ same ∙ sym w.number.ensures.number), w.self-is)
      | else-count-gt0 w ↦ inr (
        elim w.else-count-gt0.branch [
          | else-count-gt0-via-then-count-gt0+else-expected-number w' ↦ inr (sym w'.expected.ensures.number ∙ w'.if-expected-number.false ∙ w'.number.ensures.number)
          | else-count-gt0-via-else-count-gt0 w' ↦ inl (let none = w'.if-count-gt0.false in omega arith)
        ],
        w.self-is,
      )
    ])
    (grind (arith))
