-- What is seen of what happens where some flows are selected.
use Rattle.std.specs.Prelude.{if◌then◌else◌}
use Rattle.std.proofs.Common.{◌≡◌, ℕ, Bool, true, false, cond, List, [], ◌∷◌, ◌++◌, map, filter, refl, ap, sym, ◌∙◌}
use Rattle.std.proofs.lemmas.List.Elements.{filter-append}
use Rattle.flow_core.specs.declared.counts.FlowCounts.{FlowCounts}
use Rattle.flow_selection.specs.declared.selection.Selection.{Selection}
use Rattle.flow_selection.specs.Selection.{is_selected}
use Rattle.consumer.specs.declared.given.Given.{Given}
use Rattle.answers.specs.Beside.{is_told_if_given}
use Rattle.selected_receiver.specs.Taking.{seen_of}
use Rattle.captured_flows.specs.Steps.{CaptureStep, gave, began_anew}
use Rattle.captured_flows.specs.Shown.{is_seen, AreSeenOf, begun_if}

-- what is left of two lists one behind the other
pub left-then : {X : Type 0} (p : X → Bool) (first one later other : List X) → one ≡ filter p first → other ≡ filter p later → one ++ other ≡ filter p (first ++ later)
left-then {X = X} p first one later other before behind =
    ap (λ (xs : List X). xs ++ other) before ∙ ap (λ (xs : List X). filter p first ++ xs) behind ∙ sym (filter-append p first later)

gave-if : (is : Bool) (one : Given) (given : List Given) → cond is (gave one ∷ map gave given) (map gave given) ≡ map gave (cond is (one ∷ given) given)
gave-if true one given = refl
gave-if false one given = refl

module _ (selected : Selection) where
  -- of what is given that is seen which is told
  seen-gave : (given : List Given) → filter (is_seen selected) (map gave given) ≡ map gave (filter (is_told_if_given selected) given)
  seen-gave [] = refl
  seen-gave (one ∷ given) =
      ap (λ (steps : List CaptureStep). cond (is_told_if_given selected one) (gave one ∷ steps) steps) (seen-gave given)
      ∙ gave-if (is_told_if_given selected one) one (filter (is_told_if_given selected) given)

  pub are_seen-gave : (given seen : List Given) → seen ≡ seen_of selected given → AreSeenOf selected (map gave given) (map gave seen)
  are_seen-gave given seen is = ap (map gave) is ∙ sym (seen-gave given)

  pub are_seen-then : (steps seen behind also : List CaptureStep) → AreSeenOf selected steps seen → AreSeenOf selected behind also
      → AreSeenOf selected (steps ++ behind) (seen ++ also)
  are_seen-then steps seen behind also before later = left-then (is_seen selected) steps seen behind also before later

  -- that a flow begins anew is seen if it is selected
  begun-seen : (flow : ℕ) (counted counts : FlowCounts) (is : Bool) → (is ≡ true → counted ≡ counts)
      → (if is then began_anew flow counts ∷ [] else []) ≡ (if is then began_anew flow counted ∷ [] else [])
  begun-seen flow counted counts true same = ap (λ (c : FlowCounts). began_anew flow c ∷ []) (sym (same refl))
  begun-seen flow counted counts false same = refl

  -- a flow gives what it has left, and begins anew
  pub are_seen-restart : (flow : ℕ) (gives seen : List Given) (counted counts : FlowCounts) → seen ≡ seen_of selected gives → (is_selected selected flow ≡ true → counted ≡ counts)
      → AreSeenOf selected (map gave gives ++ began_anew flow counted ∷ []) (map gave seen ++ begun_if selected flow counts)
  are_seen-restart flow gives seen counted counts is same =
      are_seen-then (map gave gives) (map gave seen) (began_anew flow counted ∷ []) (begun_if selected flow counts) (are_seen-gave gives seen is)
      (begun-seen flow counted counts (is_selected selected flow) same)
