-- The window slides to a segment, or needn't.
use Rattle.std.proofs.Common.{◌≡◌, ℕ, ◌<◌, None, Some, List, ◌++◌, sym, ap, subst, ◌∙◌, append-nil}
use Rattle.flow_core.specs.declared.flow.Flow.{Flow}
use Rattle.flow_core.specs.declared.event.Applied.{Applied}
use Rattle.flow_core.specs.Events.{FlowEvent, skip_to}
use Rattle.flow_core.specs.Stands.{TakesEvent as FlowTakesEvent}
use Rattle.loss_rule.specs.Numbers.{IsSlidTo}
use Rattle.bonded_flows.specs.declared.bonded_flow.BondedFlow.{BondedFlow}
use Rattle.bonded_flows.specs.Stands.{HasTaken, IsUpToDate}
use Rattle.bonded_flows.specs.Taking.{SkipsSlid}
use Rattle.bonded_flows.proofs.TakenEvents.{event-taken}
use Rattle.bonded_flows.proofs.NotedNumbers.{sliding-is}

module _ (bonded : BondedFlow) (number expected : ℕ) (small : number < 8192) (up : IsUpToDate bonded) (at : expected ≡ bonded.flow.window.expected) where
  pub slid-none : IsSlidTo expected bonded.width number None → SkipsSlid bonded number None bonded
  slid-none to check setup taken sliding lasts given has slides =
      let none = sliding-is check setup bonded taken lasts given has up number None sliding small (subst (λ n. IsSlidTo n bonded.width number None) at to) slides in
      (subst (λ (events : List FlowEvent). HasTaken check setup bonded events lasts given) (sym (ap (λ (s : List FlowEvent). taken ++ s) none ∙ append-nil taken)) has, none)

  pub slid-some : (n : ℕ) (flow' : Flow) (answer : Applied) → IsSlidTo expected bonded.width number (Some n) → FlowTakesEvent bonded.flow (skip_to n) answer flow'
      → SkipsSlid bonded number (Some n) (record bonded { flow = flow' })
  slid-some n flow' answer to takes check setup taken sliding lasts given has slides =
      let some = sliding-is check setup bonded taken lasts given has up number (Some n) sliding small (subst (λ m. IsSlidTo m bonded.width number (Some n)) at to) slides in (
        subst (λ (s : List FlowEvent). HasTaken check setup (record bonded { flow = flow' }) (taken ++ s) lasts given) (sym some)
            (event-taken check setup bonded taken lasts given has up (skip_to n) answer flow' takes).0,
        some,
      )
