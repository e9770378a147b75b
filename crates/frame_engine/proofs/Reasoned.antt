-- What is known of bursts and which reasons are listed, as more is told and compared.
use Rattle.std.proofs.Common.{◌≡◌, ℕ, ◌+◌, Bool, true, false, IsTrue, Option, Some, None, List, [], ◌∷◌, ◌++◌, length, refl, sym, ap, ◌∙◌, arith, length-append}
use Rattle.std.specs.Prelude.{slice_get}
use Rattle.std.proofs.lemmas.Bool.{false≢true}
use Rattle.std.proofs.lemmas.List.{length-map, length-replicate, length-set}
use Rattle.bonded_flows.specs.Table.{TableSetup}
use Rattle.burst_fates.specs.declared.burst_fate.ToldFate.{ToldFate}
use Rattle.burst_fates.specs.declared.missing_reason.MissingReason.{MissingReason}
use Rattle.burst_fates.specs.Fates.{kept_of}
use Rattle.capture_map.specs.declared.map.CaptureMap.{CaptureMap}
use Rattle.captured_flows.specs.Acts.{Act}
use Rattle.captured_flows.specs.Captures.{SpellsBursts, none_comes, one_more_comes}
use Rattle.captured_flows.specs.Flow.{FlowView}
use Rattle.captured_flows.specs.declared.burst_taken.BurstTaken.{BurstTaken}
use Rattle.captured_flows.specs.declared.captured_burst.CapturedBurst.{CapturedBurst}
use Rattle.frame_comparison.specs.Aligned.{Arrival, with_all}
use Rattle.frame_comparison.specs.Compared.{Comparison, with_frame, with_frame_of, moved, flow_after, nothing_came, empty_flow}
use Rattle.frame_comparison.specs.declared.side.Side.{Side}
use Rattle.frame_comparison.specs.Frames.{CameFrame, FlowFrames}
use Rattle.frame_comparison.specs.Seen.{ComparisonSeen, counts_of, seen_of}
use Rattle.frame_reasons.specs.declared.reasons.Reasons.{Reasons}
use Rattle.frame_reasons.specs.Told.{told_in_steps, explained}
use Rattle.timed_frames.specs.declared.timed_step.TimedStep.{TimedStep}
use Rattle.frame_engine.specs.Comparing.{IsKeptIn, IsWholeIn}
use Rattle.frame_engine.specs.Explaining.{Knows, NothingTold, Tells, Explains, ExplainsAfter}
use Rattle.frame_engine.specs.Reasoned.{answers_in}

-- ============ Answers ============

-- each burst has one
answers-length : {capture_map : CaptureMap} {made : TableSetup} {wait : ℕ} {flows : List FlowView} {handed : List Act} {bursts : List CapturedBurst} {more : List Act} {flows' : List FlowView}
    → (spelled : SpellsBursts capture_map made wait flows handed bursts more flows') → length (answers_in spelled) ≡ length bursts
answers-length none_comes = refl
answers-length (one_more_comes {bursts = bursts} {burst = burst} {told = told} before last) =
    length-append (answers_in before) (told ∷ [])
    ∙ ap (λ (n : ℕ). n + 1) (answers-length before)
    ∙ sym (length-append bursts (burst ∷ []))

none-long : (answers : List BurstTaken) → length answers ≡ 0 → answers ≡ []
none-long [] none = refl
none-long (one ∷ answers) none = absurd (omega (arith, none))

pub answers-none : {capture_map : CaptureMap} {made : TableSetup} {wait : ℕ} {flows : List FlowView} {handed : List Act} {more : List Act} {flows' : List FlowView}
    → (spelled : SpellsBursts capture_map made wait flows handed [] more flows') → answers_in spelled ≡ []
answers-none spelled = none-long (answers_in spelled) (answers-length spelled)

-- ============ What is known ============

-- nothing was told
pub known-nothing : (reasons : Option Reasons) → NothingTold reasons → Knows [] [] reasons
known-nothing None none = absurd none
known-nothing (Some one) none = none

-- more is told
pub known-told : (told more : List ToldFate) (reasons : List MissingReason) (old new : Option Reasons) → Knows told reasons old → Tells more old new → Knows (told ++ more) reasons new
known-told told more reasons None new knows tells = absurd knows
known-told told more reasons (Some old) None knows tells = absurd tells
known-told told more reasons (Some old) (Some new) knows tells = (tells.0 told knows.0, ap (λ listed. listed.items) tells.1 ∙ knows.1)

-- frames that are listed get their reasons
pub known-explained : (told : List ToldFate) (reasons : List MissingReason) (comparison : Comparison) (seen : Option ComparisonSeen) (old new : Option Reasons) → IsWholeIn seen → IsKeptIn comparison seen
    → Knows told reasons old → Explains seen old new → Knows told (explained (kept_of told) reasons (seen_of comparison).analyser.only) new
known-explained told reasons comparison None old new whole kept knows explains = absurd whole
known-explained told reasons comparison (Some one) None new whole kept knows explains = absurd knows
known-explained told reasons comparison (Some one) (Some old) None whole kept knows explains = absurd explains
known-explained told reasons comparison (Some one) (Some old) (Some new) whole kept knows explains = (
  ap (λ fates. fates.told.items) explains.0 ∙ knows.0,
  explains.1
      ∙ ap (λ (known : List ToldFate). explained known old.listed.items one.analyser.only) knows.0
      ∙ ap (λ (listed : List MissingReason). explained (kept_of told) listed one.analyser.only) knows.1
      ∙ ap (λ (seen : ComparisonSeen). explained (kept_of told) reasons seen.analyser.only) (kept whole),
)

-- both, of what steps say
pub known-steps : (told : List ToldFate) (reasons : List MissingReason) (steps : List TimedStep) (comparison : Comparison) (seen : Option ComparisonSeen) (old new : Option Reasons) → IsWholeIn seen
    → IsKeptIn comparison seen → Knows told reasons old → ExplainsAfter (told_in_steps steps) seen old new
    → Knows (told ++ told_in_steps steps) (explained (kept_of (told ++ told_in_steps steps)) reasons (seen_of comparison).analyser.only) new
known-steps told reasons steps comparison seen old new whole kept knows explains =
    known-explained (told ++ told_in_steps steps) reasons comparison seen explains.0 new whole kept (known-told told (told_in_steps steps) reasons old explains.0 knows explains.1) explains.2

-- ============ Where an allocation failed ============

-- what comes to be compared is of as many flows as before
moved-flows : (before : Option FlowFrames) (side : Side) (flow : ℕ) (frame : CameFrame) (comparison : Comparison)
    → length (with_frame_of before side flow frame comparison).flows ≡ length comparison.flows
moved-flows None side flow frame comparison = refl
moved-flows (Some before) side flow frame comparison =
    length-set comparison.flows flow (flow_after (moved side frame before.analyser.waiting before.here.waiting) before)

all-flows : (arrivals : List Arrival) (comparison : Comparison) → length (with_all arrivals comparison).flows ≡ length comparison.flows
all-flows [] comparison = refl
all-flows (one ∷ arrivals) comparison =
    all-flows arrivals (with_frame one.side one.flow one.frame comparison)
    ∙ moved-flows (slice_get comparison.flows one.flow) one.side one.flow one.frame comparison

counted-flows : (n : ℕ) (arrivals : List Arrival) (seen : ComparisonSeen) → seen ≡ seen_of (with_all arrivals (nothing_came n)) → length seen.counts ≡ n
counted-flows n arrivals seen is =
    ap (λ (one : ComparisonSeen). length one.counts) is
    ∙ length-map (with_all arrivals (nothing_came n)).flows counts_of
    ∙ all-flows arrivals (nothing_came n)
    ∙ length-replicate n empty_flow

-- **a comparison that is whole was whole before**: of one that wasn't, anything could have come
-- before, of no flow as well as of one
pub whole-before : (old new : Option ComparisonSeen) (one : Comparison) → IsKeptIn one old
    → ((before : Comparison) → IsKeptIn before old → (more : List Arrival) × IsKeptIn (with_all more before) new) → IsWholeIn new → IsWholeIn old
whole-before None new one kept takes whole = absurd kept
whole-before (Some old) None one kept takes whole = absurd whole
whole-before (Some old) (Some new) one kept takes whole = by_case old.is_whole refl where
  many : old.is_whole ≡ false → (n : ℕ) → length new.counts ≡ n
  many broken n =
      let came = takes (nothing_came n) (λ still. absurd (false≢true (sym broken ∙ still))) in
      counted-flows n came.0 new (came.1 whole)

  by_case : (is : Bool) → old.is_whole ≡ is → IsTrue old.is_whole
  by_case true is = is
  by_case false is = let none = many is 0 in let some = many is 1 in absurd (omega (arith, none, some))
