-- The frame of a record was taken, if it holds one of the map.
use Rattle.std.proofs.Common.{◌≡◌, ℕ, Option, Some, None, List, [], sym, ap, subst, ◌∙◌}
use Rattle.std.proofs.lemmas.Option.{none-some}
use Rattle.capture_map.specs.declared.map.CaptureMap.{CaptureMap}
use Rattle.captured_flows.specs.Sids.{flow_in_map}
use Rattle.frame_comparison.specs.declared.side.Side.TheVariants.{Analyser}
use Rattle.frame_comparison.specs.Aligned.{with_all}
use Rattle.frame_comparison.specs.Frames.{came}
use Rattle.frame_records.specs.Recorded.{frame_parts}
use Rattle.frame_engine.specs.Compared.{flow_of_joined, arrivals_if, arrivals_of_flow, arrivals_of_joined, a_frame, no_frame}
use Rattle.frame_engine.specs.Comparing.{IsKeptOf}
use Rattle.frame_engine.proofs.comparing.take_recorded.Goals as goal

pub returns-in_default : goal.returns-in_default
returns-in_default c = λ before is. ([], no_frame (λ frame holds. none-some frame (c.in_default.ensures.only frame holds)), is)

pub returns-in_default-flow_of : goal.returns-in_default-flow_of
returns-in_default-flow_of c = λ before is.
    let selected = c.args.selected.now in
    let its_map : CaptureMap = c.args.flows.now.map in
    let frame = frame_parts c.in-Some.found in
    let none : flow_of_joined its_map frame ≡ None = ap (λ (n : ℕ). flow_in_map its_map c.in-Some.found.channel n) (sym c.short_sid.ensures) ∙ sym (c.in_default-flow_of.ensures c.requires.capturing) in (
      arrivals_of_joined selected its_map frame c.first_burst_ids-bursts.result.items,
      a_frame frame c.first_burst_ids-bursts.result.items c.in-Some.ensures.found c.first_burst_ids-bursts.ensures.named,
      subst (λ (flow : Option ℕ). IsKeptOf (with_all (arrivals_of_flow flow selected frame c.first_burst_ids-bursts.result.items) before) c.args.comparison.now) (sym none) is,
    )

pub returns : goal.returns
returns c = λ before is.
    let selected = c.args.selected.now in
    let its_map : CaptureMap = c.args.flows.now.map in
    let frame = frame_parts c.in-Some.found in
    let some : flow_of_joined its_map frame ≡ Some c.in-Some-flow_of.flow =
    ap (λ (n : ℕ). flow_in_map its_map c.in-Some.found.channel n) (sym c.short_sid.ensures) ∙ sym (c.in-Some-flow_of.ensures c.requires.capturing) in (
      arrivals_of_joined selected its_map frame c.first_burst_ids-bursts.result.items,
      a_frame frame c.first_burst_ids-bursts.result.items c.in-Some.ensures.found c.first_burst_ids-bursts.ensures.named,
      subst (λ (flow : Option ℕ). IsKeptOf (with_all (arrivals_of_flow flow selected frame c.first_burst_ids-bursts.result.items) before) c.take_selected.new.comparison) (sym some)
          (subst (λ (ids : List ℕ). IsKeptOf (with_all (arrivals_if selected Analyser c.in-Some-flow_of.flow (came frame.time frame.frame ids)) before) c.take_selected.new.comparison)
          c.as_slice.ensures.value (c.take_selected.ensures before is)),
    )
