-- The one list of elements that an extended header has.
use Rattle.std.proofs.Common.{◌≡◌, ℕ, zero, suc, ◌+◌, ◌*◌, ◌/◌, ◌%◌, ◌≤◌, ◌<◌, Bool, true, false, cond, List, [], ◌∷◌, ◌++◌, length, take, drop, Some, None, refl, sym, ap, ◌∙◌, arith, length-append, length-drop, length-take, append_assoc}
use Rattle.std.specs.Prelude.{nat_le, flat_map}
use Rattle.std.proofs.lemmas.Bool.Decides.{nat_tests}
use Rattle.std.proofs.lemmas.List.{take-append-drop}
use Rattle.std.proofs.Math.Seq.{take-append_seam, drop-append_seam}
use Rattle.capture_summary.specs.Elements.{Element, element_bytes, IsElement, Overruns, HasElements, front_element, then_elements, elements_within}

no_elements : HasElements [] []
no_elements = record { rest = []; spelled = refl; each = tt; overrun = tt }

-- an element before others
one_more : (head : ℕ) (others : List ℕ) (elements : List Element) → head % 16 ≤ length others → HasElements (drop (head % 16) others) elements
    → HasElements (head ∷ others) (record { kind = head / 16; value = take (head % 16) others } ∷ elements)
one_more head others elements within has =
    let value = take (head % 16) others in
    let long : length value ≡ head % 16 = omega (arith, length-take (head % 16) others, within) in
    let first : head ≡ 16 * (head / 16) + length value = omega (arith, long) in
    record {
      rest = has.rest;
      spelled =
          ap (λ rest. head ∷ rest) (sym (take-append-drop (head % 16) others) ∙ ap (λ rest. value ++ rest) has.spelled)
          ∙ ap (λ h. h ∷ (value ++ (flat_map element_bytes elements ++ has.rest))) first
          ∙ ap (λ rest. (16 * (head / 16) + length value) ∷ rest) (sym (append_assoc value (flat_map element_bytes elements) has.rest));
      each = (omega (arith, long), has.each);
      overrun = has.overrun;
    }

pub elements_are_had : (most : ℕ) (bytes : List ℕ) → length bytes ≤ most → HasElements bytes (elements_within most bytes)
elements_are_had zero [] enough = no_elements
elements_are_had zero (head ∷ others) enough = absurd (omega (arith, enough))
elements_are_had (suc most) [] enough = no_elements
elements_are_had (suc most) (head ∷ others) enough =
    by_test (nat_le (head % 16) (length others)) refl
    (elements_are_had most (drop (head % 16) others) (omega (arith, enough, length-drop (head % 16) others)))
  where
    by_test : (test : Bool) → nat_le (head % 16) (length others) ≡ test → HasElements (drop (head % 16) others) (elements_within most (drop (head % 16) others))
        → HasElements (head ∷ others)
        (then_elements (elements_within most) (cond test (Some (record { kind = head / 16; value = take (head % 16) others }, drop (head % 16) others)) None))
    by_test true is after =
        let within : head % 16 ≤ length others = grind (arith, nat_tests) in
        one_more head others (elements_within most (drop (head % 16) others)) within after
    by_test false is after =
        let overrun : length others < head % 16 = grind (arith, nat_tests) in
        record { rest = head ∷ others; spelled = refl; each = tt; overrun = overrun }

-- where nothing but what overruns the bytes is left, there is no element
none_left : (most : ℕ) (rest : List ℕ) → Overruns rest → elements_within most rest ≡ []
none_left zero rest overrun = refl
none_left (suc most) [] overrun = refl
none_left (suc most) (head ∷ others) overrun =
    let false_is : nat_le (head % 16) (length others) ≡ false = grind (arith, nat_tests) in
    ap (λ test. then_elements (elements_within most) (cond test (Some (record { kind = head / 16; value = take (head % 16) others }, drop (head % 16) others)) None)) false_is

-- the element at the front is read
front_is : (element : Element) (others : List ℕ) → IsElement element
    → front_element ((16 * element.kind + length element.value) ∷ (element.value ++ others)) ≡ Some (element, others)
front_is element others is =
    let size : (16 * element.kind + length element.value) % 16 ≡ length element.value = omega (arith, is) in
    let kind : (16 * element.kind + length element.value) / 16 ≡ element.kind = omega (arith, is) in
    let within : nat_le (length element.value) (length (element.value ++ others)) ≡ true = grind (arith, nat_tests, length-append element.value others) in
    rw (size, kind, within, take-append_seam element.value others, drop-append_seam element.value others) refl

pub no_other_elements : (elements : List Element) (bytes : List ℕ) → HasElements bytes elements → (most : ℕ) → length bytes ≤ most → elements ≡ elements_within most bytes
no_other_elements [] bytes has most enough = sym (ap (elements_within most) has.spelled ∙ none_left most has.rest has.overrun)
no_other_elements (element ∷ elements) bytes has zero enough = absurd (omega (arith, enough, ap length has.spelled))
no_other_elements (element ∷ elements) bytes has (suc most) enough =
    let after = flat_map element_bytes elements ++ has.rest in
    let spelled : bytes ≡ (16 * element.kind + length element.value) ∷ (element.value ++ after) =
    has.spelled ∙ ap (λ rest. (16 * element.kind + length element.value) ∷ rest) (append_assoc element.value (flat_map element_bytes elements) has.rest) in
    let fewer : length after ≤ most = omega (arith, enough, ap length spelled, length-append element.value after) in
    ap (λ rest. element ∷ rest) (no_other_elements elements after (record { rest = has.rest; spelled = refl; each = has.each.1; overrun = has.overrun }) most fewer)
    ∙ sym (ap (λ b. then_elements (elements_within most) (front_element b)) spelled ∙ ap (then_elements (elements_within most)) (front_is element after has.each.0))
