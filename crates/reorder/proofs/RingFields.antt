-- What the fields of a ring keep as its calls change them.
use Rattle.std.proofs.Common.{◌≡◌, ℕ, ◌+◌, ◌-◌, ◌<◌, ◌≤◌, List, [], ◌++◌, length, replicate, slice_set, slice_get, Option, None, Some, ap, sym, subst, ◌∙◌, arith, ⊎_elim}
use Rattle.std.proofs.lemmas.Bool.{cases_lt}
use Rattle.std.proofs.lemmas.List.{length-append, length-replicate, length-set, set-get_or, get_or_past}
use Rattle.std.proofs.lemmas.Option.{get_or_from_slice_get, slice_get-get_or, slice_get_within}
use Rattle.circular_buffer.specs.Buffer.{Buffer, buffer}
use Rattle.reorder.specs.Inside.Places.{item_at}
use Rattle.reorder.specs.Inside.Ring.{place_from, turned, from_first, IsRing}
use Rattle.reorder.proofs.Rings.{place_from-within, item_at-reached, length-from_first, item_at-from_first, from_first-new, from_first-reached, from_first-set, from_first-turned, from_first-anew}

module _ {T : Type 0} where
  -- a new ring
  pub new-from_first : (b : Buffer (Option T)) (w : ℕ) → b ≡ buffer [] w → from_first b.capacity 0 b.items ≡ replicate w None
  new-from_first b w new = ap (λ (c : Buffer (Option T)). from_first c.capacity 0 c.items) new ∙ from_first-new w

  -- a place that is written as it was
  pub set-same : (ps : List (Option T)) (d : ℕ) (p : Option T) → item_at ps d ≡ p → slice_set ps d p ≡ ps
  set-same ps d p there = ap (slice_set ps d) (sym there) ∙ set-get_or ps d None

  -- a place that was not reached is empty
  item_at-past : (ps : List (Option T)) (p : ℕ) → None ≡ slice_get ps p → item_at ps p ≡ None
  item_at-past ps p nothing =
      ⊎_elim
      (λ (within : p < length ps). let there = slice_get-get_or ps p None within in absurd (cc))
      (λ (past : length ps ≤ p). get_or_past ps p None past)
      (cases_lt p (length ps))

  module _ (f : ℕ) (b : Buffer (Option T)) (ring : IsRing f b) (v : List (Option T)) (is : from_first b.capacity f b.items ≡ v) where
    pub width-is : length v ≡ b.capacity
    width-is = ap length (sym is) ∙ length-from_first b.capacity f b.items

    -- a place of which it is known how far it lies from the first
    module _ (w d p : ℕ) (wide : w ≡ b.capacity) (within : d < length v) (place : p ≡ place_from w f d) where
      place-is : p ≡ place_from b.capacity f d
      place-is = place ∙ ap (λ n. place_from n f d) wide

      near : d < b.capacity
      near = omega (arith, width-is)

      pub place-within : p < b.capacity
      place-within = subst (λ n. n < b.capacity) (sym place-is) (place_from-within b.capacity f d ring.first_within (omega (arith, near)))

      item_at-place : item_at b.items p ≡ item_at v d
      item_at-place = ap (item_at b.items) place-is ∙ sym (item_at-from_first b.capacity f b.items d near) ∙ ap (λ ps. item_at ps d) is

      pub held-at_place : (x : Option T) → slice_get b.items p ≡ Some x → item_at v d ≡ x
      held-at_place x there = sym item_at-place ∙ get_or_from_slice_get b.items p x None there

      pub nothing-at_place : None ≡ slice_get b.items p → item_at v d ≡ None
      nothing-at_place nothing = sym item_at-place ∙ item_at-past b.items p nothing

      -- once it was reached
      module _ (c : Buffer (Option T)) (so_far : c ≡ buffer (b.items ++ replicate (p + 1 - length b.items) None) b.capacity) where
        as_wide : c.capacity ≡ b.capacity
        as_wide = ap (λ (d : Buffer (Option T)). d.capacity) so_far

        these : c.items ≡ b.items ++ replicate (p + 1 - length b.items) None
        these = ap (λ (d : Buffer (Option T)). d.items) so_far

        as_many : length c.items ≡ length b.items + (p + 1 - length b.items)
        as_many = ap length these ∙ length-append b.items (replicate (p + 1 - length b.items) None) ∙ ap (λ n. length b.items + n) (length-replicate {A = Option T} (p + 1 - length b.items) None)

        pub place-reached : p < length c.items
        place-reached = omega (arith, as_many)

        pub held-reached : (x : Option T) → slice_get c.items p ≡ Some x → item_at v d ≡ x
        held-reached x there =
            sym item_at-place
            ∙ sym (item_at-reached b.items (p + 1 - length b.items) p)
            ∙ ap (λ ps. item_at ps p) (sym these)
            ∙ get_or_from_slice_get c.items p x None there

        pub ring-put : (x : Option T) → IsRing f (buffer (slice_set c.items p x) c.capacity)
        ring-put x =
            let first_in = ring.first_within in
            let reached_in = ring.reached_within in
            let few = ring.width_in_range in
            record {
              first_within = omega (arith, as_wide);
              reached_within = omega (arith, as_wide, as_many, place-within, length-set c.items p x);
              width_in_range = omega (arith, as_wide);
            }

        pub from_first-put : (x : Option T) → from_first c.capacity f (slice_set c.items p x) ≡ slice_set v d x
        from_first-put x =
            let all : from_first b.capacity f c.items ≡ v = ap (from_first b.capacity f) these ∙ from_first-reached b.capacity f b.items ring.first_within (p + 1 - length b.items) ∙ is in
            ap (λ n. from_first n f (slice_set c.items p x)) as_wide
            ∙ ap (λ n. from_first b.capacity f (slice_set c.items n x)) place-is
            ∙ from_first-set b.capacity f c.items ring.first_within d x near (subst (λ n. n < length c.items) place-is place-reached)
            ∙ ap (λ ps. slice_set ps d x) all

    first-near : 0 < b.capacity
    first-near = let first_in = ring.first_within in omega arith

    first-place : place_from b.capacity f 0 ≡ f
    first-place = let first_in = ring.first_within in grind arith

    -- the item at the first place
    item_at-first : item_at b.items f ≡ item_at v 0
    item_at-first = ap (item_at b.items) (sym first-place) ∙ sym (item_at-from_first b.capacity f b.items 0 first-near) ∙ ap (λ ps. item_at ps 0) is

    pub held-at_first : (x : Option T) → slice_get b.items f ≡ Some x → item_at v 0 ≡ x
    held-at_first x there = sym item_at-first ∙ get_or_from_slice_get b.items f x None there

    pub nothing-at_first : None ≡ slice_get b.items f → item_at v 0 ≡ None
    nothing-at_first nothing = sym item_at-first ∙ item_at-past b.items f nothing

    -- it is taken out
    pub from_first-taken : (x p : Option T) → slice_get b.items f ≡ Some x → p ≡ None → from_first b.capacity f (slice_set b.items f p) ≡ slice_set v 0 None
    from_first-taken x p there gone =
        ap (λ q. from_first b.capacity f (slice_set b.items f q)) gone
        ∙ ap (λ n. from_first b.capacity f (slice_set b.items n None)) (sym first-place)
        ∙ from_first-set b.capacity f b.items ring.first_within 0 None first-near (subst (λ n. n < length b.items) (sym first-place) (slice_get_within b.items f x there))
        ∙ ap (λ ps. slice_set ps 0 None) is

    -- the ring is turned
    module _ (w k n : ℕ) (wide : w ≡ b.capacity) (few : k ≤ length v) (place : n ≡ place_from w f k) where
      turned-place : n ≡ place_from b.capacity f k
      turned-place = place ∙ ap (λ m. place_from m f k) wide

      pub ring-turned : IsRing n b
      ring-turned =
          record {
            first_within = subst (λ m. m < b.capacity) (sym turned-place) (place_from-within b.capacity f k ring.first_within (omega (arith, width-is)));
            reached_within = ring.reached_within;
            width_in_range = ring.width_in_range;
          }

      pub from_first-turn : from_first b.capacity n b.items ≡ turned k v
      from_first-turn = ap (λ m. from_first b.capacity m b.items) turned-place ∙ from_first-turned b.capacity f b.items ring.first_within k (omega (arith, width-is)) ∙ ap (turned k) is

    -- the ring begins anew
    pub from_first-begin_anew : ((k : ℕ) → item_at v k ≡ None) → from_first b.capacity 0 b.items ≡ v
    from_first-begin_anew empty = from_first-anew b.capacity f b.items ring.first_within (λ k. ap (λ ps. item_at ps k) is ∙ empty k) ∙ is
