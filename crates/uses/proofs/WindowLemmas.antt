-- What a window holds after offers and takes, said by the indexes of the offered numbers.
use Rattle.std.proofs.Common.{◌≡◌, ◌≢◌, ℕ, zero, suc, ◌+◌, ◌<◌, length, slice_get, ◌≤◌, true, false, cond, ⊎_elim, List, [], ◌∷◌, ◌++◌, nat_lt, nat_eq, Option, None, Some, is_some, refl, ap, sym, subst, ◌∙◌, arith, eq-eqb}
use Rattle.std.specs.Ordering.{nat_cmp, is_eq, eq_by_cmp}
use Rattle.std.specs.declared.cmp.Ordering.TheVariants.{Less, Equal, Greater}
use Rattle.std.specs.Cmp.{nat_cmp_total, eq_by_cmp_equiv}
use Rattle.std.specs.FinMap.{nat_cmp-IsAntisymmetric, get, insert, get-empty, get-insert, get-remove}
use Rattle.std.proofs.lemmas.Bool.{cases_eq, cases_lt, lt-ltb, le-ltb, ne_eqb}
use Rattle.reorder.specs.View.{WindowView, IsLawful, held_at, empty_window, next_taken}
use Rattle.reorder.specs.Verdicts.{IsVerdict, after_offer}
use Rattle.reorder.specs.declared.verdict.Verdict.{Verdict}
use Rattle.reorder.specs.declared.verdict.Verdict.TheVariants.{Late, Beyond, Repeat, Kept}
use Rattle.uses.specs.Window.{number_after, first_offered, item_of}

-- two numbers that differ are two keys
apart : (q k : ℕ) → q ≢ k → eq_by_cmp nat_cmp q k ≡ false
apart q k differ =
    elim (nat_cmp q k) as (λ o. nat_cmp q k ≡ o → is_eq o ≡ false) [
      | Less ↦ λ _. refl
      | Equal ↦ λ tie. absurd (differ (nat_cmp-IsAntisymmetric q k tie))
      | Greater ↦ λ _. refl
    ] refl

module _ {T : Type 0} where
  -- an offer under another number
  first_offered-other : (number : ℕ) (offers : List (ℕ × T)) (offer : ℕ × T) → offer.0 ≢ number → first_offered number (offers ++ offer ∷ []) ≡ first_offered number offers
  first_offered-other number [] offer differ = ap (λ t. cond t (Some offer.1) None) (ne_eqb offer.0 number differ)
  first_offered-other number (o ∷ offers) offer differ = ap (cond (nat_eq o.0 number) (Some o.1)) (first_offered-other number offers offer differ)

  -- an offer under a number that has an item
  first_offered-repeat : (number : ℕ) (offers : List (ℕ × T)) (offer : ℕ × T) → is_some (first_offered number offers) ≡ true → first_offered number (offers ++ offer ∷ []) ≡ first_offered number offers
  first_offered-repeat number [] offer there = absurd (cc)
  first_offered-repeat number (o ∷ offers) offer there =
      elim (nat_eq o.0 number) as (λ t. is_some (cond t (Some o.1) (first_offered number offers)) ≡ true → cond t (Some o.1) (first_offered number (offers ++ offer ∷ [])) ≡ cond t (Some o.1) (first_offered number offers)) [
        | true ↦ λ _. refl
        | false ↦ λ later. first_offered-repeat number offers offer later
      ] there

  -- the first offer under a number
  first_offered-first : (number : ℕ) (offers : List (ℕ × T)) (offer : ℕ × T) → first_offered number offers ≡ None → offer.0 ≡ number → first_offered number (offers ++ offer ∷ []) ≡ Some offer.1
  first_offered-first number [] offer free same = ap (λ t. cond t (Some offer.1) None) (eq-eqb offer.0 number same)
  first_offered-first number (o ∷ offers) offer free same =
      elim (nat_eq o.0 number) as (λ t. cond t (Some o.1) (first_offered number offers) ≡ None → cond t (Some o.1) (first_offered number (offers ++ offer ∷ [])) ≡ Some offer.1) [
        | true ↦ λ wrong. absurd (cc)
        | false ↦ λ later. first_offered-first number offers offer later same
      ] free

  -- the first number's index is within the window, or nothing counts there
  item_of-within : (first width : ℕ) (offers : List (ℕ × T)) (i : ℕ) → i < width → item_of first width offers i ≡ first_offered (number_after first i) offers
  item_of-within first width offers i within = ap (λ t. cond t (first_offered (number_after first i) offers) None) (lt-ltb i width within)

  pub item_of-beyond : (first width : ℕ) (offers : List (ℕ × T)) (i : ℕ) → width ≤ i → item_of first width offers i ≡ None
  item_of-beyond first width offers i beyond = ap (λ t. cond t (first_offered (number_after first i) offers) None) (le-ltb i width beyond)

  -- an offer under another number changes nothing at an index
  item_of-other : (first width : ℕ) (offers : List (ℕ × T)) (number : ℕ) (item : T) (i : ℕ) → (i < width → number ≢ number_after first i) → item_of first width (offers ++ (number, item) ∷ []) i ≡ item_of first width offers i
  item_of-other first width offers number item i differ =
      ⊎_elim
      (λ (within : i < width). item_of-within first width _ i within ∙ first_offered-other (number_after first i) offers (number, item) (differ within) ∙ sym (item_of-within first width offers i within))
      (λ (beyond : width ≤ i). item_of-beyond first width _ i beyond ∙ sym (item_of-beyond first width offers i beyond))
      (cases_lt i width)

  -- What the window holds after the offers so far is what counts of them.
  pub record HoldsOffered (w : WindowView T) (first width : ℕ) (offers : List (ℕ × T)) : Type 0 where
    pub lawful : IsLawful w
    pub expected : w.expected ≡ first
    pub width_is : w.width ≡ width
    pub held : (i : ℕ) → i < 8192 → held_at w (number_after first i) ≡ item_of first width offers i

  -- nothing at first
  pub HoldsOffered-none : (w : WindowView T) (first width : ℕ) → IsLawful w → w ≡ empty_window first width → HoldsOffered w first width []
  HoldsOffered-none w first width lawful is =
      record {
        lawful = lawful;
        expected = ap (λ (v : WindowView T). v.expected) is;
        width_is = ap (λ (v : WindowView T). v.width) is;
        held = λ i small. ap (λ (v : WindowView T). held_at v (number_after first i)) is ∙ get-empty nat_cmp (number_after first i) ∙ sym (elim (nat_lt i width) as (λ t. cond t (first_offered {T = T} (number_after first i) []) None ≡ None) [ true ↦ refl | false ↦ refl ]);
      }

  module _ (w : WindowView T) (first width : ℕ) (offers : List (ℕ × T)) (holds : HoldsOffered w first width offers) (number : ℕ) (item : T) where
    -- one more offer
    held-offered : (verdict : Verdict T) → IsVerdict w number item verdict → (i : ℕ) → i < 8192 → held_at (after_offer w number item verdict) (number_after first i) ≡ item_of first width (offers ++ (number, item) ∷ []) i
    held-offered (Late back) given i small =
        let lawful = holds.lawful in
        let widest = lawful.width_in_range in
        let e = holds.expected in
        let wide = holds.width_is in
        holds.held i small ∙ sym (item_of-other first width offers number item i (λ within same. let far = given.0 in absurd (omega arith)))
    held-offered (Beyond back) given i small =
        let e = holds.expected in
        let wide = holds.width_is in
        holds.held i small ∙ sym (item_of-other first width offers number item i (λ within same. let far = given.1 in absurd (omega arith)))
    held-offered (Repeat back) given i small =
        ⊎_elim
        (λ (same : number_after first i ≡ number).
        let within : i < width = (let lawful = holds.lawful in let fits = lawful.expected_in_range in let near = given.0 in let e = holds.expected in let wide = holds.width_is in omega arith) in
        let here = item_of-within first width offers i within in
        let there : is_some (first_offered (number_after first i) offers) ≡ true = ap is_some (sym here ∙ sym (holds.held i small)) ∙ subst (λ n. is_some (held_at w n) ≡ true) (sym same) given.1 in
        holds.held i small ∙ here ∙ sym (first_offered-repeat (number_after first i) offers (number, item) there) ∙ sym (item_of-within first width _ i within))
        (λ (differ : number_after first i ≢ number). holds.held i small ∙ sym (item_of-other first width offers number item i (λ _ same. differ (sym same))))
        (cases_eq (number_after first i) number)
    held-offered Kept given i small =
        ⊎_elim
        (λ (same : number_after first i ≡ number).
        let within : i < width = (let lawful = holds.lawful in let fits = lawful.expected_in_range in let near = given.0 in let e = holds.expected in let wide = holds.width_is in omega arith) in
        let free : held_at w number ≡ None = none (held_at w number) given.1 in
        let nothing : first_offered (number_after first i) offers ≡ None = sym (item_of-within first width offers i within) ∙ sym (holds.held i small) ∙ ap (held_at w) same ∙ free in
        ap (get (insert w.held number item)) same
        ∙ get-insert nat_cmp_total w.held number item number
        ∙ ap (λ t. cond t (Some item) (get w.held number)) ((eq_by_cmp_equiv nat_cmp_total).refl number)
        ∙ sym (first_offered-first (number_after first i) offers (number, item) nothing (sym same))
        ∙ sym (item_of-within first width _ i within))
        (λ (differ : number_after first i ≢ number).
        get-insert nat_cmp_total w.held number item (number_after first i)
        ∙ ap (λ t. cond t (Some item) (get w.held (number_after first i))) (apart (number_after first i) number differ)
        ∙ holds.held i small
        ∙ sym (item_of-other first width offers number item i (λ _ same. differ (sym same))))
        (cases_eq (number_after first i) number)
      where
        none : (o : Option T) → ¬ (is_some o ≡ true) → o ≡ None
        none None free = refl
        none (Some x) free = absurd (free refl)

    pub HoldsOffered-next : (v : WindowView T) (verdict : Verdict T) → IsLawful v → IsVerdict w number item verdict → v ≡ after_offer w number item verdict → HoldsOffered v first width (offers ++ (number, item) ∷ [])
    HoldsOffered-next v verdict lawful given is =
        record {
          lawful = lawful;
          expected = ap (λ (u : WindowView T). u.expected) is ∙ stays verdict ∙ holds.expected;
          width_is = ap (λ (u : WindowView T). u.width) is ∙ as_wide verdict ∙ holds.width_is;
          held = λ i small. ap (λ (u : WindowView T). held_at u (number_after first i)) is ∙ held-offered verdict given i small;
        }
      where
        stays : (verdict : Verdict T) → (after_offer w number item verdict).expected ≡ w.expected
        stays (Late _) = refl
        stays (Beyond _) = refl
        stays (Repeat _) = refl
        stays Kept = refl

        as_wide : (verdict : Verdict T) → (after_offer w number item verdict).width ≡ w.width
        as_wide (Late _) = refl
        as_wide (Beyond _) = refl
        as_wide (Repeat _) = refl
        as_wide Kept = refl

  -- the items before one that is pushed, and that one
  slice_get-append : (items : List T) (item : T) (i : ℕ) → i < length items → slice_get (items ++ item ∷ []) i ≡ slice_get items i
  slice_get-append [] item i below = absurd (omega arith)
  slice_get-append (x ∷ items) item zero below = refl
  slice_get-append (x ∷ items) item (suc i) below = slice_get-append items item i (omega arith)

  slice_get-last : (items : List T) (item : T) → slice_get (items ++ item ∷ []) (length items) ≡ Some item
  slice_get-last [] item = refl
  slice_get-last (x ∷ items) item = slice_get-last items item

  -- What the window holds once so many items were taken is what counts after them.
  pub record HoldsRest (w : WindowView T) (first width : ℕ) (offers : List (ℕ × T)) (taken : ℕ) : Type 0 where
    pub in_range : first < 8192
    pub expected : w.expected ≡ number_after first taken
    pub few : taken ≤ width
    pub widest : width ≤ 4096
    pub held : (i : ℕ) → taken ≤ i → i < 8192 → held_at w (number_after first i) ≡ item_of first width offers i

  pub HoldsRest-all : (w : WindowView T) (first width : ℕ) (offers : List (ℕ × T)) → first < 8192 → width ≤ 4096 → HoldsOffered w first width offers → HoldsRest w first width offers 0
  HoldsRest-all w first width offers in_range widest holds =
      record {
        in_range = in_range;
        expected = holds.expected ∙ omega arith;
        few = omega arith;
        widest = widest;
        held = λ i _ small. holds.held i small;
      }

  module _ (w : WindowView T) (first width : ℕ) (offers : List (ℕ × T)) (taken : ℕ) (rest : HoldsRest w first width offers taken) where
    -- the next item is the one that counts next
    pub next-counts : held_at w w.expected ≡ item_of first width offers taken
    next-counts = ap (held_at w) rest.expected ∙ (let few = rest.few in let widest = rest.widest in rest.held taken (omega arith) (omega arith))

    -- and it is within the width
    pub next-within : (item : T) → Some item ≡ held_at w w.expected → taken < width
    next-within item is =
        ⊎_elim
        (λ (within : taken < width). within)
        (λ (beyond : width ≤ taken). let nothing = is ∙ next-counts ∙ item_of-beyond first width offers taken beyond in absurd (cc))
        (cases_lt taken width)

    -- once it is taken, the rest is one fewer
    pub HoldsRest-next : (v : WindowView T) (item : T) → Some item ≡ held_at w w.expected → v ≡ next_taken w → HoldsRest v first width offers (taken + 1)
    HoldsRest-next v item is moved =
        let within = next-within item is in
        record {
          in_range = rest.in_range;
          expected = ap (λ (u : WindowView T). u.expected) moved ∙ (let e = rest.expected in omega arith);
          few = omega arith;
          widest = rest.widest;
          held = λ i after small.
              let differ : number_after first i ≢ w.expected = λ same. (let e = rest.expected in let f = rest.in_range in absurd (omega arith)) in
              ap (λ (u : WindowView T). held_at u (number_after first i)) moved
              ∙ get-remove nat_cmp_total w.held w.expected (number_after first i)
              ∙ ap (λ t. cond t None (get w.held (number_after first i))) (apart (number_after first i) w.expected differ)
              ∙ rest.held i (omega arith) small;
        }

    -- and the items taken are one more of those that count
    pub taken-next : (items : List T) (item : T) → length items ≡ taken → Some item ≡ held_at w w.expected → ((i : ℕ) → i < taken → slice_get items i ≡ item_of first width offers i) → (i : ℕ) → i < taken + 1 → slice_get (items ++ item ∷ []) i ≡ item_of first width offers i
    taken-next items item as_many is before i below =
        ⊎_elim
        (λ (same : i ≡ taken). ap (slice_get (items ++ item ∷ [])) (same ∙ sym as_many) ∙ slice_get-last items item ∙ is ∙ next-counts ∙ ap (item_of first width offers) (sym same))
        (λ (differ : i ≢ taken). let earlier : i < taken = omega arith in slice_get-append items item i (omega arith) ∙ before i earlier)
        (cases_eq i taken)
