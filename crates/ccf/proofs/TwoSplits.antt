-- Bytes that are split in two ways, and a split of bytes that are pieces end to end.
use Rattle.std.proofs.Common.{◌≡◌, ◌≢◌, ◌⊎◌, ℕ, List, [], ◌∷◌, ◌++◌, length, drop, refl, sym, ap, ◌∙◌, inl, inr, append_assoc, drop_at}
use Rattle.std.specs.List.{concat, AllByRecursion}

-- Bytes split as xs ++ ys and as us ++ vs, where us reaches at least as far as xs: what it has more
-- is the front of ys.
pub record Reaches (xs ys us vs : List ℕ) : Type 0 where
  pub more : List ℕ
  pub front : us ≡ xs ++ more
  pub back : ys ≡ more ++ vs

-- The same splits, where us ends within xs.
pub record EndsWithin (xs ys us vs : List ℕ) : Type 0 where
  pub more : List ℕ
  pub some : more ≢ []
  pub front : xs ≡ us ++ more
  pub back : vs ≡ more ++ ys

-- of two splits of the same bytes the second reaches as far as the first, or ends within its front
pub two_splits : (xs ys us vs : List ℕ) → xs ++ ys ≡ us ++ vs → Reaches xs ys us vs ⊎ EndsWithin xs ys us vs
two_splits [] ys us vs e = inl record { more = us; front = refl; back = e }
two_splits (x ∷ xs) ys [] vs e = inr record { more = x ∷ xs; some = λ q. cc; front = refl; back = sym e }
two_splits (x ∷ xs) ys (u ∷ us) vs e =
    let same : x ≡ u = cc in
    let rest : xs ++ ys ≡ us ++ vs = cc in
    elim (two_splits xs ys us vs rest) [
      | inl h ↦ inl record { more = h.more; front = ap (λ t. u ∷ t) h.front ∙ ap (λ t. t ∷ xs ++ h.more) (sym same); back = h.back }
      | inr h ↦ inr record { more = h.more; some = h.some; front = ap (λ t. t ∷ xs) same ∙ ap (λ t. u ∷ t) h.front; back = h.back }
    ]

-- bytes with the same front, and what stands after it
pub same_behind : (xs ys us vs : List ℕ) → xs ++ ys ≡ us ++ vs → length xs ≡ length us → ys ≡ vs
same_behind xs ys us vs e n = sym (drop_at xs ys (length us) n) ∙ ap (drop (length us)) e ∙ drop_at us vs (length us) refl

-- This front is a part of the first of the pieces, and neither none nor all of it.
pub record IsWithin (pieces : List (List ℕ)) (front : List ℕ) : Type 0 where
  pub back : List ℕ
  pub behind : List (List ℕ)
  pub some_front : front ≢ []
  pub some_back : back ≢ []
  pub pieces_are : pieces ≡ (front ++ back) ∷ behind

-- Bytes that are some of the pieces, end to end, and then nothing or a part of the next.
pub record Splits (pieces : List (List ℕ)) (bytes : List ℕ) : Type 0 where
  pub whole : List (List ℕ)
  pub front : List ℕ
  pub behind : List (List ℕ)
  pub pieces_are : pieces ≡ whole ++ behind
  pub bytes_are : bytes ≡ concat whole ++ front
  pub ends : (front ≡ []) ⊎ IsWithin behind front

-- one piece more in front
Splits-further : (piece : List ℕ) (pieces : List (List ℕ)) (bytes more : List ℕ) → bytes ≡ piece ++ more → Splits pieces more → Splits (piece ∷ pieces) bytes
Splits-further piece pieces bytes more e s = record {
  whole = piece ∷ s.whole;
  front = s.front;
  behind = s.behind;
  pieces_are = ap (λ t. piece ∷ t) s.pieces_are;
  bytes_are = e ∙ ap (λ t. piece ++ t) s.bytes_are ∙ sym (append_assoc piece (concat s.whole) s.front);
  ends = s.ends;
}

-- bytes that end within the first piece
Splits-within : (piece : List ℕ) (pieces : List (List ℕ)) (bytes more : List ℕ) → piece ≡ bytes ++ more → more ≢ [] → Splits (piece ∷ pieces) bytes
Splits-within piece pieces [] more e some = record { whole = []; front = []; behind = piece ∷ pieces; pieces_are = refl; bytes_are = refl; ends = inl refl }
Splits-within piece pieces (b ∷ bs) more e some = record {
  whole = [];
  front = b ∷ bs;
  behind = piece ∷ pieces;
  pieces_are = refl;
  bytes_are = refl;
  ends = inr record { back = more; behind = pieces; some_front = λ q. cc; some_back = some; pieces_are = ap (λ t. t ∷ pieces) e };
}

-- parts of nothing are nothing
no_front : (xs ys : List ℕ) → [] ≡ xs ++ ys → xs ≡ []
no_front [] ys e = refl
no_front (x ∷ xs) ys e = absurd cc

-- the front of pieces end to end is some of them and a part of the next
pub split_pieces : (pieces : List (List ℕ)) (bytes more : List ℕ) → concat pieces ≡ bytes ++ more → Splits pieces bytes
split_pieces [] bytes more e = record { whole = []; front = []; behind = []; pieces_are = refl; bytes_are = no_front bytes more e; ends = inl refl }
split_pieces (p ∷ ps) bytes more e =
    elim (two_splits p (concat ps) bytes more e) [
      | inl h ↦ Splits-further p ps bytes h.more h.front (split_pieces ps h.more more h.back)
      | inr h ↦ Splits-within p ps bytes h.more h.front h.some
    ]

-- what holds of each of some things holds of each of a part of them
pub AllByRecursion-front : {X : Type 0} (P : X → Type 0) (xs ys : List X) → AllByRecursion P (xs ++ ys) → AllByRecursion P xs
AllByRecursion-front P [] ys h = tt
AllByRecursion-front P (x ∷ xs) ys h = (h.0, AllByRecursion-front P xs ys h.1)

pub AllByRecursion-behind : {X : Type 0} (P : X → Type 0) (xs ys : List X) → AllByRecursion P (xs ++ ys) → AllByRecursion P ys
AllByRecursion-behind P [] ys h = h
AllByRecursion-behind P (x ∷ xs) ys h = AllByRecursion-behind P xs ys h.1
