-- Lists of lists: one more empty one, and one more item in one of them.
use Rattle.std.proofs.Common.{◌≡◌, ℕ, zero, suc, ◌+◌, ◌<◌, List, [], ◌∷◌, ◌++◌, length, map, Vec, Global}
use Rattle.std.proofs.Common.{get_or, arith, ap, refl, ◌∙◌}
use Rattle.std.proofs.Math.ListN.{set, length-set}
use Rattle.std.proofs.lemmas.Bool.{cases_eq}
use Rattle.std.proofs.lemmas.Bool.Decides.{nat_tests}
use Rattle.std.proofs.lemmas.List.{append-nil, map-set, length-map, length_push, get_or-map, get_or-set_same, get_or-set_other}
use Rattle.consumer.specs.Collecting.{list_at, AreEmpty, Appends}

-- one item more is in the list of this index
pub appends-at : {A : Type 0} (lists : List (Vec A Global)) (index : ℕ) (item : A) (one old : Vec A Global)
    → index < length lists → old ≡ get_or lists index old → one.items ≡ old.items ++ item ∷ []
    → Appends lists index item (set lists index one)
appends-at {A} lists index item one old within at pushed =
    let items_in : Vec A Global → List A = λ list. list.items in
    record {
      many = length-set lists index one;
      appended = λ k.
          let there = map-set items_in lists index one in
          let same = get_or-map items_in lists index old [] within in
          let items = ap items_in at in
          let long : length (map items_in lists) ≡ length lists = length-map lists items_in in
          rw there (grind (arith, nat_tests, cases_eq index k, get_or-set_same, get_or-set_other, append-nil, same, items, pushed, long));
    }

-- with an empty list at the end there is still nothing in any list
nothing-more : {A : Type 0} (lists : List (Vec A Global)) (one : Vec A Global) (k : ℕ)
    → ((j : ℕ) → list_at lists j ≡ []) → one.items ≡ [] → list_at (lists ++ one ∷ []) k ≡ []
nothing-more [] one zero none empty = empty
nothing-more [] one (suc k) none empty = refl
nothing-more (first ∷ rest) one zero none empty = none 0
nothing-more (first ∷ rest) one (suc k) none empty = nothing-more rest one k (λ j. none (suc j)) empty

-- one empty list more
pub empty-more : {A : Type 0} (count : ℕ) (lists : List (Vec A Global)) (one : Vec A Global)
    → AreEmpty count lists → one.items ≡ [] → AreEmpty (count + 1) (lists ++ one ∷ [])
empty-more count lists one are empty = record {
  many = length_push lists one ∙ ap (λ n. n + 1) are.many;
  empty = λ k. nothing-more lists one k are.empty empty;
}
