-- The digits of some bytes and of others after them.
use Rattle.std.proofs.Common.{◌≡◌, ℕ, ◌/◌, ◌%◌, List, [], ◌∷◌, ◌++◌, take, drop, length, refl, sym, ap, subst, ◌∙◌, append-nil, arith}
use Rattle.std.specs.Prelude.{slice_index}
use Rattle.std.proofs.lemmas.List.{take-append-drop}
use Rattle.hex.specs.Hex.{encode_with, encode_lower, lower_digits}
use Rattle.text_lines.specs.Putting.{Puts}
use Rattle.text_lines.proofs.PutTexts.{puts-then}

-- bytes are spelled one after the other
encode_with-append : (t xs ys : List ℕ) → encode_with t (xs ++ ys) ≡ encode_with t xs ++ encode_with t ys
unfolding encode_with
encode_with-append t [] ys = refl
encode_with-append t (x ∷ xs) ys = ap (λ more. slice_index t (x / 16) ∷ slice_index t (x % 16) ∷ more) (encode_with-append t xs ys)

pub encode_lower_append : (xs ys : List ℕ) → encode_lower (xs ++ ys) ≡ encode_lower xs ++ encode_lower ys
encode_lower_append xs ys = encode_with-append lower_digits xs ys

no_digits : (bytes : List ℕ) → length bytes ≡ 0 → encode_lower bytes ≡ []
unfolding encode_with
no_digits [] none = refl
no_digits (x ∷ xs) none = absurd (omega (arith, none))

module _ {T : Type 0} (after : T → List ℕ → T → Type 0) where
  -- the digits of the first of some bytes were put, and those of the others behind them
  pub puts-spelled : (first middle last : T) (count : ℕ) (bytes front back : List ℕ) → front ≡ take count bytes → back ≡ drop count bytes
      → Puts after first (encode_lower front) middle → Puts after middle (encode_lower back) last → Puts after first (encode_lower bytes) last
  puts-spelled first middle last count bytes front back front_is back_is puts others_put =
      subst (λ (all : List ℕ). Puts after first all last) (sym (encode_lower_append front back) ∙ ap encode_lower whole)
      (puts-then after puts others_put)
    where
      whole : front ++ back ≡ bytes
      whole = ap (λ (t : List ℕ). t ++ back) front_is ∙ ap (λ (t : List ℕ). take count bytes ++ t) back_is ∙ take-append-drop count bytes

  -- where there are none, nothing need be put
  pub puts-none : (now : T) (bytes : List ℕ) → length bytes ≡ 0 → Puts after now (encode_lower bytes) now
  puts-none now bytes none start text was =
      subst (λ (all : List ℕ). after start all now) (sym (ap (λ (t : List ℕ). text ++ t) (no_digits bytes none) ∙ append-nil text)) was
