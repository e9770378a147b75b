-- Which places a ring has as it changes, and where they lie.
use Rattle.std.proofs.Common.{◌≡◌, ◌≢◌, ℕ, ◌+◌, ◌-◌, ◌<◌, ◌≤◌, ⊎_elim, List, [], ◌++◌, length, replicate, take, drop, slice_set, Option, None, refl, ap, sym, ◌∙◌, arith}
use Rattle.std.proofs.lemmas.Bool.{cases_eq, cases_lt}
use Rattle.std.proofs.lemmas.List.{length-append, length-drop, length-take, length-replicate, length-set, get_or-drop, get_or-take, get_or-append_right, get_or_append_left, get_or_past, get_or-replicate, get_or-set_same, get_or-set_other, ext_get_or}
use Rattle.std.proofs.lemmas.List.FromFn.{length-map-range_with_len, get_or-map-range_with_len, fill_by_all}
use Rattle.reorder.specs.Inside.Places.{item_at}
use Rattle.reorder.specs.Inside.Ring.{place_from, turned, from_first}

-- a place is one of them
pub place_from-within : (w f k : ℕ) → f < w → k ≤ w → place_from w f k < w
place_from-within w f k first_in few = grind arith

-- as the ring is turned places come nearer to its front, and those that it passed come last
pub place_from-place_from : (w f c k : ℕ) → f < w → c ≤ w → k < w → place_from w (place_from w f c) k ≡ place_from w f (place_from w c k)
place_from-place_from w f c k first_in few near = grind arith

-- two places so far from the first are apart
place_from-injective : (w f k d : ℕ) → f < w → k < w → d < w → place_from w f k ≡ place_from w f d → k ≡ d
place_from-injective w f k d first_in near near' same = grind arith

-- how far a place lies from the first
distance_from : (w f p : ℕ) → f < w → p < w → place_from w f (place_from w (w - f) p) ≡ p
distance_from w f p first_in place_in = grind arith

distance_from-within : (w f p : ℕ) → f < w → p < w → place_from w (w - f) p < w
distance_from-within w f p first_in place_in = grind arith

module _ {T : Type 0} where
  -- places that were reached and are empty change no item
  pub item_at-reached : (ps : List (Option T)) (n i : ℕ) → item_at (ps ++ replicate n None) i ≡ item_at ps i
  item_at-reached ps n i =
      ⊎_elim
      (λ (before : i < length ps). get_or_append_left ps (replicate n None) None i before)
      (λ (behind : length ps ≤ i).
      get_or-append_right ps (replicate n None) (length ps) i None refl behind
      ∙ ⊎_elim
      (λ (there : i - length ps < n). get_or-replicate n (i - length ps) None None there)
      (λ (past : n ≤ i - length ps). get_or_past (replicate n None) (i - length ps) None (omega (arith, length-replicate {A = Option T} n None)))
      (cases_lt (i - length ps) n)
      ∙ sym (get_or_past ps i None behind))
      (cases_lt i (length ps))

  -- a turned ring begins so many places later
  item_at-turned : (ps : List (Option T)) (c k : ℕ) → c ≤ length ps → k < length ps → item_at (turned c ps) k ≡ item_at ps (place_from (length ps) c k)
  item_at-turned ps c k few near =
      ⊎_elim
      (λ (ahead : c + k < length ps).
      get_or_append_left (drop c ps) (take c ps) None k (omega (arith, length-drop c ps))
      ∙ get_or-drop c ps k None
      ∙ ap (item_at ps) (grind arith))
      (λ (round : length ps ≤ c + k).
      get_or-append_right (drop c ps) (take c ps) (length ps - c) k None (length-drop c ps) (omega arith)
      ∙ get_or-take c ps (k - (length ps - c)) None (omega arith)
      ∙ ap (item_at ps) (grind arith))
      (cases_lt (c + k) (length ps))

  -- to turn a ring leaves it as many places as it has
  pub length-turned : (ps : List (Option T)) (k : ℕ) → k ≤ length ps → length (turned k ps) ≡ length ps
  length-turned ps k within = length-append (drop k ps) (take k ps) ∙ omega (arith, length-drop k ps, length-take k ps)

  -- where the first places were empty, the others are as much nearer to the front
  pub item_at-turned_empty : (ps : List (Option T)) (k i : ℕ) → k ≤ length ps → ((j : ℕ) → j < k → item_at ps j ≡ None) → item_at (turned k ps) i ≡ item_at ps (i + k)
  item_at-turned_empty ps k i within empty =
      ⊎_elim
      (λ (near : i + k < length ps).
      get_or_append_left (drop k ps) (take k ps) None i (omega (arith, length-drop k ps))
      ∙ get_or-drop k ps i None
      ∙ ap (item_at ps) (omega arith))
      (λ (round : length ps ≤ i + k).
      get_or-append_right (drop k ps) (take k ps) (length ps - k) i None (length-drop k ps) (omega arith)
      ∙ went_round (i - (length ps - k))
      ∙ sym (get_or_past ps (i + k) None round))
      (cases_lt (i + k) (length ps))
    where
      went_round : (j : ℕ) → item_at (take k ps) j ≡ None
      went_round j =
          ⊎_elim
          (λ (passed : j < k). get_or-take k ps j None passed ∙ empty j passed)
          (λ (past : k ≤ j). get_or_past (take k ps) j None (omega (arith, length-take k ps)))
          (cases_lt j k)

  -- a ring of which all places are empty is as it was before it was turned
  pub turned-empty : (ps : List (Option T)) (k : ℕ) → k ≤ length ps → ((i : ℕ) → item_at ps i ≡ None) → ps ≡ turned k ps
  turned-empty ps k within empty = ext_get_or None ps (turned k ps) (sym (length-turned ps k within)) (λ i there. empty i ∙ sym (item_at-turned_empty ps k i within (λ j below. empty j) ∙ empty (i + k)))

  -- a ring has as many places as it is wide, whether or not they were reached
  pub length-from_first : (w f : ℕ) (ps : List (Option T)) → length (from_first w f ps) ≡ w
  unfolding from_first
  length-from_first w f ps = length-map-range_with_len (λ k. item_at ps (place_from w f k)) 0 w

  -- and there each item is
  pub item_at-from_first : (w f : ℕ) (ps : List (Option T)) (k : ℕ) → k < w → item_at (from_first w f ps) k ≡ item_at ps (place_from w f k)
  unfolding from_first
  item_at-from_first w f ps k near = get_or-map-range_with_len (λ i. item_at ps (place_from w f i)) 0 w k k None near (omega arith)

  -- no other places are there
  is-from_first : (w f : ℕ) (ps qs : List (Option T)) → length qs ≡ w → ((k : ℕ) → k < w → item_at qs k ≡ item_at ps (place_from w f k)) → qs ≡ from_first w f ps
  unfolding from_first
  is-from_first w f ps qs long same = fill_by_all (λ k. item_at ps (place_from w f k)) qs w None long same

  -- a new ring is empty
  pub from_first-new : (w : ℕ) → from_first {T = T} w 0 [] ≡ replicate w None
  from_first-new w = sym (is-from_first w 0 [] (replicate w None) (length-replicate w None) (λ k near. get_or-replicate w k None None near ∙ sym (get_or_past [] (place_from w 0 k) None (omega arith))))

  module _ (w f : ℕ) (ps : List (Option T)) (first_in : f < w) where
    -- places that are reached were empty before
    pub from_first-reached : (n : ℕ) → from_first w f (ps ++ replicate n None) ≡ from_first w f ps
    from_first-reached n = is-from_first w f ps (from_first w f (ps ++ replicate n None)) (length-from_first w f (ps ++ replicate n None)) (λ k near. item_at-from_first w f (ps ++ replicate n None) k near ∙ item_at-reached ps n (place_from w f k))

    -- a place that is written
    pub from_first-set : (d : ℕ) (p : Option T) → d < w → place_from w f d < length ps → from_first w f (slice_set ps (place_from w f d) p) ≡ slice_set (from_first w f ps) d p
    from_first-set d p near there =
        let place : ℕ = place_from w f d in
        let written : List (Option T) = slice_set (from_first w f ps) d p in
        sym (is-from_first w f (slice_set ps place p) written (length-set (from_first w f ps) d p ∙ length-from_first w f ps) (λ k k_near.
        ⊎_elim
        (λ (same : k ≡ d).
        ap (item_at written) same
        ∙ get_or-set_same (from_first w f ps) d p None (omega (arith, length-from_first w f ps))
        ∙ sym (get_or-set_same ps place p None there)
        ∙ ap (λ n. item_at (slice_set ps place p) (place_from w f n)) (sym same))
        (λ (differ : k ≢ d).
        get_or-set_other (from_first w f ps) d k p None differ
        ∙ item_at-from_first w f ps k k_near
        ∙ sym (get_or-set_other ps place (place_from w f k) p None (λ same. differ (place_from-injective w f k d first_in k_near near same))))
        (cases_eq k d)))

    -- the ring is turned
    pub from_first-turned : (c : ℕ) → c ≤ w → from_first w (place_from w f c) ps ≡ turned c (from_first w f ps)
    from_first-turned c few =
        let ring : List (Option T) = from_first w f ps in
        let long : length ring ≡ w = length-from_first w f ps in
        sym (is-from_first w (place_from w f c) ps (turned c ring) (length-turned ring c (omega arith) ∙ long) (λ k near.
        item_at-turned ring c k (omega arith) (omega arith)
        ∙ ap (λ n. item_at ring (place_from n c k)) long
        ∙ item_at-from_first w f ps (place_from w c k) (nearer c k few near)
        ∙ ap (item_at ps) (sym (place_from-place_from w f c k first_in few near))))
      where
        nearer : (c k : ℕ) → c ≤ w → k < w → place_from w c k < w
        nearer c k few near = grind arith

    -- a ring of which all places are empty may begin anywhere
    pub from_first-anew : ((k : ℕ) → item_at (from_first w f ps) k ≡ None) → from_first w 0 ps ≡ from_first w f ps
    from_first-anew empty =
        is-from_first w f ps (from_first w 0 ps) (length-from_first w 0 ps) (λ k near.
        item_at-from_first w 0 ps k near
        ∙ nothing (place_from w 0 k) (place_from-within w 0 k (omega arith) (omega arith))
        ∙ sym (nothing (place_from w f k) (place_from-within w f k first_in (omega arith))))
      where
        nothing : (p : ℕ) → p < w → item_at ps p ≡ None
        nothing p place_in =
            let k : ℕ = place_from w (w - f) p in
            ap (item_at ps) (sym (distance_from w f p first_in place_in))
            ∙ sym (item_at-from_first w f ps k (distance_from-within w f p first_in place_in))
            ∙ empty k
