-- The first digits of a field spell its first bytes.
use Rattle.std.proofs.Common.{◌≡◌, ℕ, zero, suc, ◌+◌, ◌*◌, ◌/◌, ◌≤◌, inl, inr, Bool, true, false, IsTrue, IsFalse, Result, Ok, Err, List, [], ◌∷◌, length, take, refl, ap, sym, subst, ◌∙◌, length-take-le, arith}
use Rattle.hex.specs.declared.error.FromHexError.{FromHexError}
use Rattle.hex.specs.Hex.{decode_of, decode_pairs, pair_value, ◌>>=◌}
use Rattle.hex.proofs.Pairs.{decode_pairs-ok_pair, cons_byte}
use Rattle.hex.proofs.HexLemmas.{decode_of-ok, decode_of-even}
use Rattle.text_lines.specs.Field.{SpellsBytes}
use Rattle.text_lines.specs.Inside.Digits.{SpellsPairs, SpellsNothing}

-- the first byte and the others
both_ok : (first : Result ℕ FromHexError) (rest : Result (List ℕ) FromHexError) (bytes : List ℕ) → (first >>= (λ byte. rest >>= (λ more. Ok (byte ∷ more)))) ≡ Ok bytes
    → (byte : ℕ) × (more : List ℕ) × (first ≡ Ok byte) × (rest ≡ Ok more) × (byte ∷ more ≡ bytes)
both_ok (Err e) rest bytes is = absurd cc
both_ok (Ok byte) (Err e) bytes is = absurd cc
both_ok (Ok byte) (Ok more) bytes is = (byte, more, refl, refl, cc)

no_pairs : (i : ℕ) → decode_pairs i [] ≡ Ok []
unfolding decode_pairs
no_pairs i = refl

pairs_front : (n m i : ℕ) (field bytes : List ℕ) → m ≡ 2 * n → decode_pairs i field ≡ Ok bytes → decode_pairs i (take m field) ≡ Ok (take n bytes)
unfolding decode_pairs
pairs_front zero zero i field bytes twice is = no_pairs i
pairs_front zero (suc m) i field bytes twice is = absurd (omega arith)
pairs_front (suc n) zero i field bytes twice is = absurd (omega arith)
pairs_front (suc n) (suc zero) i field bytes twice is = absurd (omega arith)
pairs_front (suc n) (suc (suc m)) i [] bytes twice is =
    let none : [] ≡ bytes = cc in subst (λ (bs : List ℕ). decode_pairs i [] ≡ Ok (take (suc n) bs)) none (no_pairs i)
pairs_front (suc n) (suc (suc m)) i (a ∷ []) bytes twice is = absurd cc
pairs_front (suc n) (suc (suc m)) i (a ∷ b ∷ rest) bytes twice is =
    let both = both_ok (pair_value a b i) (decode_pairs (i + 2) rest) bytes is in
    let front = pairs_front n m (i + 2) rest both.1 (omega arith) both.3 in
    decode_pairs-ok_pair i a b both.0 (take m rest) both.2 ∙ ap (cons_byte both.0) front ∙ ap (λ (bs : List ℕ). Ok (take (suc n) bs)) both.4

-- the front of digits spells the front of their bytes
pub front_spells : (n : ℕ) (field bytes : List ℕ) → decode_of field ≡ Ok bytes → 2 * n ≤ length field → decode_of (take (2 * n) field) ≡ Ok (take n bytes)
front_spells n field bytes is within =
    let even = (decode_of-ok field bytes is).0 in
    let long = length-take-le (2 * n) field within in
    decode_of-even (take (2 * n) field) (omega arith) ∙ pairs_front n (2 * n) 0 field bytes refl (sym (decode_of-even field even) ∙ is)

-- a field that spells bytes has two digits for each, or none and less than a pair
pub spelled-half : (field bytes : List ℕ) → SpellsBytes field bytes → length bytes ≡ length field / 2
spelled-half field bytes (inl dash) = ap length dash.1 ∙ ap (λ (t : List ℕ). length t / 2) (sym dash.0)
spelled-half field bytes (inr is) = let twice = (decode_of-ok field bytes is).2 in omega arith

-- and the first of them were read, whether the answer says so or not
pub front-read : (n : ℕ) (field bytes front : List ℕ) (all : Bool) → SpellsBytes field bytes → 2 * n ≤ length field
    → (IsTrue all → SpellsPairs (take (2 * n) field) front) → (IsFalse all → SpellsNothing (take (2 * n) field)) → front ≡ take n bytes
front-read n field bytes front all spells within spelled refused = go all refl
  where
    pairs : SpellsBytes field bytes → decode_pairs 0 (take (2 * n) field) ≡ Ok (take n bytes)
    pairs (inl dash) =
        let none : n ≡ 0 = omega (arith, ap length dash.0) in
        rw none (no_pairs 0)
    pairs (inr is) = pairs_front n (2 * n) 0 field bytes refl (sym (decode_of-even field (decode_of-ok field bytes is).0) ∙ is)

    go : (b : Bool) → all ≡ b → front ≡ take n bytes
    go true e = let same : Ok front ≡ Ok (take n bytes) = sym (spelled e) ∙ pairs spells in cc same
    go false e = let bad = refused e in let same : Err bad.0 ≡ Ok (take n bytes) = sym bad.1 ∙ pairs spells in absurd (cc same)
