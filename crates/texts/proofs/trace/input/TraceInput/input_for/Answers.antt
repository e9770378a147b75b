-- Zeros behind the header stand in for a burst that would come to no selected flow, and each other
-- burst for itself.
use Rattle.std.proofs.Common.{ℕ, inl, inr, Option, Vec, refl, sym, subst}
use Rattle.std.specs.Global.{Global}
use Rattle.std.specs.Prelude.{MatchOption}
use Rattle.flow_selection.specs.Selection.{is_selected}
use Rattle.lane.specs.declared.input.Input.{Input}
use Rattle.lane.specs.declared.input.Input.TheVariants.{Burst}
use Rattle.text_lines.specs.Field.{SpellsBytes, IsHex}
use Rattle.texts.specs.Inside.StandIn.{IsForAnother, MayStandFor}
use Rattle.texts.proofs.trace.input.TraceInput.input_for.Goals as goal

pub returns-then-is_hex-clause-in_place : goal.returns-then-is_hex-clause-in_place
returns-then-is_hex-clause-in_place g c =
    let burst = c.in-Some.burst in
    let hex = c.if-is_hex.ensures.0 refl in
    let came = Burst burst.grant burst.hcs_ok hex.0 in
    let like = c.in_ok-front.ensures.spelled hex.0 hex.1 in
    let away = subst (λ (input : Input). IsForAnother g.P.TakeEntries.would_come (is_selected c.args.selected.now) c.args.self.now.taker burst.channel input)
    c.burst_of-zeros.ensures (c.if-not-is_wanted.ensures refl) in
    record {
      came = came;
      carries = λ ring. c.in-Some.ensures.carried ring hex.0 hex.1;
      may =
          subst (λ (input : Input). MayStandFor g.P.TakeEntries.would_come (is_selected c.args.selected.now) c.args.self.now.taker burst.channel came input)
          (sym c.burst_of-zeros.ensures) (inr ((refl, refl, sym like.0, sym like.1), away));
    }

pub returns-clause-in_place : goal.returns-clause-in_place
returns-clause-in_place g c =
    let burst = c.in-Some.burst in
    let bytes = c.in-Some-2.bytes.items in
    let spells = subst (λ (found : Option (Vec ℕ Global)). MatchOption found (¬ IsHex burst.field.now) (λ found_bytes. SpellsBytes burst.field.now found_bytes.items)) c.in-Some-2.is
    c.in_ok-bytes.ensures.spelled in
    record { came = Burst burst.grant burst.hcs_ok bytes; carries = λ ring. c.in-Some.ensures.carried ring bytes spells; may = inl c.burst_of.ensures }
