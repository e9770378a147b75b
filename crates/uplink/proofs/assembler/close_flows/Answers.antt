-- What was taken before is what was there, and its flows are closed.
use Rattle.std.proofs.Common.{◌≡◌, ℕ, Bool, Option, Some, None, MatchOption, List, [], sym, subst, rules}
use Rattle.uplink.specs.declared.assembler.Taking.{Taking}
use Rattle.uplink.specs.declared.feeding.Feeding.{Feeding}
use Rattle.uplink.specs.Inside.Feeding.{HasOffered}
use Rattle.uplink.specs.Inside.Offering.{ClosesFlows, ClosesFirst}
use Rattle.uplink.proofs.FramesOffered.{of-good, none-offered}
use Rattle.uplink.proofs.FlowsClosed.{none-closed, some-closed}
use Rattle.uplink.proofs.assembler.close_flows.Goals as goal

pub returns-clause-closes : goal.returns-clause-closes
returns-clause-closes g c = (
  c.in_ok-flows.field-0,
  c.in_ok-flows.was,
  search rules,
  of-good (λ counts. ClosesFlows g.C.HeaderCheck.accepts c.in_ok-flows.field-0.flows c.args.feeding.now counts.items c.close_all.new.feeding)
      c.close_all.result c.in_ok-counts.counts c.in_ok-counts.ensures.value c.close_all.ensures.closes,
)

-- some flows were closed of what was taken before
ended : {C : Type 0} (accepts : C → List ℕ → Bool) (taking : Option (Taking C)) (was : Taking C) (feeding after : Feeding) → taking ≡ Some was
    → ClosesFirst accepts was.flows feeding after
    → MatchOption taking (HasOffered feeding [] after) (λ was. ClosesFirst accepts was.flows feeding after)
ended accepts taking was feeding after is closes =
    subst (λ (o : Option (Taking _)). MatchOption o (HasOffered feeding [] after) (λ was. ClosesFirst accepts was.flows feeding after)) (sym is) closes

-- none was closed
unclosed : {C : Type 0} (accepts : C → List ℕ → Bool) (taking : Option (Taking C)) (feeding : Feeding)
    → MatchOption taking (HasOffered feeding [] feeding) (λ was. ClosesFirst accepts was.flows feeding feeding)
unclosed accepts None feeding = none-offered feeding
unclosed accepts (Some was) feeding = some-closed accepts was.flows was.flows feeding feeding [] (none-closed accepts HasOffered was.flows feeding)

pub returns-then-has_failed-clause-first : goal.returns-then-has_failed-clause-first
returns-then-has_failed-clause-first g c = unclosed g.C.HeaderCheck.accepts c.args.taking c.args.feeding.now

pub returns-in_err-flows-clause-first : goal.returns-in_err-flows-clause-first
returns-in_err-flows-clause-first g c = unclosed g.C.HeaderCheck.accepts c.args.taking c.args.feeding.now

pub returns-in_err-counts-clause-first : goal.returns-in_err-counts-clause-first
returns-in_err-counts-clause-first g c =
    ended g.C.HeaderCheck.accepts c.args.taking c.in_ok-flows.field-0 c.args.feeding.now c.close_all.new.feeding c.in_ok-flows.was c.close_all.ensures.first

pub returns-then-not-feeding-clause-first : goal.returns-then-not-feeding-clause-first
returns-then-not-feeding-clause-first g c =
    ended g.C.HeaderCheck.accepts c.args.taking c.in_ok-flows.field-0 c.args.feeding.now c.close_all.new.feeding c.in_ok-flows.was c.close_all.ensures.first

pub returns-clause-first : goal.returns-clause-first
returns-clause-first g c =
    ended g.C.HeaderCheck.accepts c.args.taking c.in_ok-flows.field-0 c.args.feeding.now c.close_all.new.feeding c.in_ok-flows.was c.close_all.ensures.first
