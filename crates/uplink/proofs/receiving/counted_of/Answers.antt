-- It is what was concluded.
use Rattle.std.proofs.Common.{◌≡◌, Option, Some, IfSome, Result, Ok, Err, IfOk, refl, sym, subst}
use Rattle.std.proofs.lemmas.Option.{same_Some}
use Rattle.std.specs.Result.{result_ok}
use Rattle.receiver.specs.declared.tally.LaneTally.{LaneTally}
use Rattle.uplink.specs.declared.finish.Concluded.{Concluded}
use Rattle.uplink.specs.Inside.Running.{HaveNotes}
use Rattle.uplink.proofs.receiving.counted_of.Goals as goal

-- what holds of a good result holds of what is there
of-good : {T E : Type 0} (P : T → Type 0) (result : Result T E) (t : T) → Some t ≡ result_ok result → IfOk result P → P t
of-good P (Ok x) t is holds = subst P (same_Some x t (sym is)) holds
of-good P (Err e) t is holds = absurd (cc)

pub lanes_in_order-requires : goal.lanes_in_order-requires
lanes_in_order-requires c =
    subst (λ (o : Option (Concluded LaneTally)). IfSome o (λ all. HaveNotes c.args.channels all.lanes)) c.in_ok-counts.was c.requires

pub returns : goal.returns
returns c = (
  c.in_ok-counts.field-0,
  c.in_ok-counts.was,
  record {
    flows_are = refl;
    lane_count = of-good _ c.lanes_in_order.result c.in_ok-lanes.lanes c.in_ok-lanes.ensures.value c.lanes_in_order.ensures.count;
    lanes_are = of-good _ c.lanes_in_order.result c.in_ok-lanes.lanes c.in_ok-lanes.ensures.value c.lanes_in_order.ensures.each;
    notes_are = refl;
  },
)
