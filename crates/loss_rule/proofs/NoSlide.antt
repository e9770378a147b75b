-- Where all that comes is taken in, no segment comes after one that is the window's width or more
-- greater. So all falls into the window.
use Rattle.std.proofs.Common.{◌≡◌, ◌≢◌, ℕ, zero, suc, ◌≤◌, inl, inr, Some, List, [], ◌∷◌, ◌++◌, length, slice_get, refl, ap, sym, subst, arith}
use Rattle.std.proofs.lemmas.Bool.{cases_lt}
use Rattle.docsis_wire.specs.declared.segment.Segment.{Segment}
use Rattle.flow_core.specs.Fates.{no_fates}
use Rattle.flow_core.proofs.Nearness.{AreNumbered}
use Rattle.flow_core.proofs.Outcome.{open_and_settled}
use Rattle.loss_rule.specs.declared.rule.LossRule.{LossRule}
use Rattle.loss_rule.specs.declared.rule.LossRule.TheVariants.{Decided, Passed, PassedOrSlid}
use Rattle.loss_rule.specs.Rule.{Coming, on_channel, RuledFlow, no_lasts}
use Rattle.loss_rule.specs.InOrder.{Comes, AreInChannelOrder, ComeNear, ComeWithin, NeedNoSlide, FallIntoTheWindow, HaveShortOutages, SlideSafely, DecideSafely}
use Rattle.loss_rule.specs.Inside.Order.{AreWithin, AreTakenIn}
use Rattle.loss_rule.proofs.Reaching.{reached-none, leads-some}
use Rattle.loss_rule.proofs.RuledTurns.{ruled-reached}
use Rattle.loss_rule.proofs.Rulings.{ruled-some, rules-some}
use Rattle.loss_rule.proofs.Arrivals.{arrival-by, slid-looks}
use Rattle.loss_rule.proofs.Prompt.{up_to_date-after}
use Rattle.loss_rule.proofs.InStep.{slid-later_open}
use Rattle.loss_rule.proofs.Taking.{within-taken, outage-taken, safe-taken}
use Rattle.loss_rule.proofs.AllKept.{all-kept, come-near}

-- what stands before an element, and behind it
split-at : {X : Type 0} (xs : List X) (k : ℕ) (x : X) → slice_get xs k ≡ Some x → (before behind : List X) × (xs ≡ before ++ x ∷ behind) × (length before ≡ k)
split-at [] k x is = absurd cc
split-at (y ∷ xs) zero x is = let same : y ≡ x = cc in ([], xs, ap (λ z. z ∷ xs) same, refl)
split-at (y ∷ xs) (suc k) x is = let s = split-at xs k x is in (y ∷ s.0, s.1, ap (λ t. y ∷ t) s.2, ap (λ n. suc n) s.3)

module _ (rule : LossRule) (looks : rule ≢ Decided) (flow : RuledFlow) (segments : List Segment) (comings : List Coming) (index_at : ℕ → ℕ)
    (numbered : AreNumbered flow.first segments) (order : AreInChannelOrder flow segments comings index_at) (safely : DecideSafely rule flow comings index_at) where
  -- where all is taken in, none comes so late
  taken-late : AreTakenIn rule flow comings index_at → ComeWithin comings index_at flow.width
  taken-late taken p q own channel segment other is is' far =
      elim (cases_lt q p) [
        | inl before ↦ before
        | inr from ↦
            let s = split-at comings p (on_channel own segment) is in
            let ruled = rules-some rule flow (no_lasts flow) no_fates s.0 (reached-none flow.first flow.width) in
            let held = all-kept rule looks flow segments comings index_at numbered order taken safely s.0 (on_channel own segment ∷ s.1) ruled.0 ruled.1 ruled.2 s.2 ruled.3 in
            let r = ruled-reached rule flow s.0 ruled.0 ruled.1 ruled.2 ruled.3 in
            let one = ruled-some rule flow ruled.1 ruled.2 (on_channel own segment) r in
            let led = leads-some flow.first flow.width one.0 ruled.2 r in
            let t = arrival-by rule flow ruled.1 ruled.2 own segment one.0 led.0 one.1 led.1 looks r one.2 led.2 in
            let known = up_to_date-after rule flow looks s.0 ruled.0 ruled.1 ruled.2 ruled.3 in
            let fits = taken s.0 s.1 own segment ruled.0 one.0 led.0 ruled.1 one.1 ruled.2 led.1 s.2 ruled.3 held.0 held.1 t in
            let here = subst (λ k. Comes comings k own segment) (sym s.3) is in
            let free = slid-later_open flow segments comings index_at numbered order (length s.0) own segment here ruled.1 ruled.2 known held.0 rule one.0 led.0 one.1 led.1 r t
            fits.0 fits.2 q channel other (subst (λ k. k ≤ q) (sym s.3) from) is' in
            let at = ap index_at s.3 in
            let close = fits.1 in
            elim (cases_lt (index_at q) t.z) [
              | inl below ↦ absurd (open_and_settled t.slid (index_at q) free (t.expected_slid.settled (index_at q) below))
              | inr ahead ↦ absurd (omega arith)
            ]
      ]

  -- and where all lies within it as it stands, no window has to slide
  needs-none : AreWithin rule flow comings index_at → NeedNoSlide rule flow comings index_at
  needs-none all_within before behind channel x y segment events passing answers lasts noted fates between e are expected notes passes leads expected' =
      let taken = within-taken rule looks flow segments comings index_at numbered order all_within in
      let held = all-kept rule looks flow segments comings index_at numbered order taken safely before (on_channel channel segment ∷ behind) events lasts fates e are in
      (all_within before behind channel x y segment events passing answers lasts noted fates between e are held.0 expected notes passes leads expected').1

-- what is taken in by the rule that slides falls into the window
slid-falls : (flow : RuledFlow) (segments : List Segment) (comings : List Coming) (index_at : ℕ → ℕ) → AreNumbered flow.first segments
    → AreInChannelOrder flow segments comings index_at → DecideSafely PassedOrSlid flow comings index_at → AreTakenIn PassedOrSlid flow comings index_at
    → FallIntoTheWindow PassedOrSlid flow comings index_at
slid-falls flow segments comings index_at numbered order safely taken = (
  come-near PassedOrSlid slid-looks flow segments comings index_at numbered order taken safely,
  taken-late PassedOrSlid slid-looks flow segments comings index_at numbered order safely taken,
)

-- so all falls into the window, by each rule, where it lies within it as it stands
pub within-falls : (rule : LossRule) (looks : rule ≢ Decided) (flow : RuledFlow) (segments : List Segment) (comings : List Coming) (index_at : ℕ → ℕ)
    → AreNumbered flow.first segments → AreInChannelOrder flow segments comings index_at → AreWithin rule flow comings index_at
    → DecideSafely rule flow comings index_at → FallIntoTheWindow rule flow comings index_at
within-falls Decided looks flow segments comings index_at numbered order all_within safely = absurd (looks refl)
within-falls Passed looks flow segments comings index_at numbered order all_within safely =
    needs-none Passed looks flow segments comings index_at numbered order safely all_within
within-falls PassedOrSlid looks flow segments comings index_at numbered order all_within safely =
    slid-falls flow segments comings index_at numbered order safely (within-taken PassedOrSlid looks flow segments comings index_at numbered order all_within)

-- and so it does where outages are short, by the rule that slides
pub outage-falls : (flow : RuledFlow) (segments : List Segment) (comings : List Coming) (index_at : ℕ → ℕ) → AreNumbered flow.first segments
    → AreInChannelOrder flow segments comings index_at → ComeWithin comings index_at flow.width → HaveShortOutages flow comings index_at
    → DecideSafely PassedOrSlid flow comings index_at → FallIntoTheWindow PassedOrSlid flow comings index_at
outage-falls flow segments comings index_at numbered order late short safely =
    slid-falls flow segments comings index_at numbered order safely (outage-taken flow segments comings index_at numbered order late short)

-- and where slides are safe
pub safe-falls : (flow : RuledFlow) (segments : List Segment) (comings : List Coming) (index_at : ℕ → ℕ) → AreNumbered flow.first segments
    → AreInChannelOrder flow segments comings index_at → 1 ≤ flow.width → ComeNear PassedOrSlid flow comings index_at → SlideSafely flow comings index_at
    → DecideSafely PassedOrSlid flow comings index_at → FallIntoTheWindow PassedOrSlid flow comings index_at
safe-falls flow segments comings index_at numbered order some near safe safely =
    slid-falls flow segments comings index_at numbered order safely (safe-taken flow segments comings index_at numbered order some near safe)
