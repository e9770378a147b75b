-- One element of an extended header after another.
use Rattle.std.proofs.Common.{◌≡◌, ℕ, zero, suc, ◌+◌, ◌≤◌, ◌%◌, ◌/◌, Bool, true, false, cond, ◌||◌, List, [], ◌∷◌, length, take, drop, Some, None, ap, ◌∙◌, arith, length-drop}
use Rattle.std.specs.Prelude.{nat_le}
use Rattle.std.specs.List.{list_any}
use Rattle.capture_summary.specs.Elements.{Element, front_element, elements_within, then_elements}
use Rattle.capture_summary.specs.Sequence.{says_encrypted}

-- what follows an element is shorter
pub others_shorter : (bytes : List ℕ) (front : Element × List ℕ) → front_element bytes ≡ Some front → length front.1 + 1 ≤ length bytes
others_shorter [] front is = absurd cc
others_shorter (head ∷ rest) front is = by_test (nat_le (head % 16) (length rest)) is
  where
    by_test : (test : Bool) → cond test (Some (record { kind = head / 16; value = take (head % 16) rest }, drop (head % 16) rest)) None ≡ Some front
        → length front.1 + 1 ≤ length (head ∷ rest)
    by_test true found =
        let same : drop (head % 16) rest ≡ front.1 = cc in
        omega (arith, ap length same, length-drop (head % 16) rest)
    by_test false none = absurd cc

-- one that doesn't say so was passed
pub element_passed : (most : ℕ) (bytes : List ℕ) (front : Element × List ℕ) (says : Bool) → length bytes ≤ most → says ≡ list_any says_encrypted (elements_within most bytes)
    → front_element bytes ≡ Some front → says_encrypted front.0 ≡ false
    → (fewer : ℕ) × (length front.1 ≤ fewer) × (says ≡ list_any says_encrypted (elements_within fewer front.1))
element_passed zero bytes front says enough left is passed = absurd (omega (arith, enough, others_shorter bytes front is))
element_passed (suc most) bytes front says enough left is passed = (
  most,
  omega (arith, enough, others_shorter bytes front is),
  left ∙ ap (λ f. list_any says_encrypted (then_elements (elements_within most) f)) is ∙ ap (λ b. b || list_any says_encrypted (elements_within most front.1)) passed,
)
