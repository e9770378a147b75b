-- What five senders posted is what their taker gathered.
use Rattle.std.specs.Prelude.{◌≡◌, ℕ, ◌==◌, ◌<◌, Bool, true, List, [], ◌∷◌, ◌++◌, length, if◌then◌else◌, slice_index, slice_index_or, Option, Some, None, IfSome}
use Rattle.std.proofs.Common.{rules, ap, arith, subst, append_assoc, sym, ◌∙◌, zero, suc, append-nil}
use Rattle.std.proofs.lemmas.Bool.{cases_eq}
use Rattle.std.proofs.lemmas.List.Elements.{All-append}
use Rattle.std.proofs.lemmas.Bool.Decides.{nat_tests}
use Rattle.mailbox.specs.Ports.{posted, closed_posted}
use Rattle.mailbox.specs.Mouths.{taken, ended}
use Rattle.mailbox.specs.Openings.{NonePosted}
use Rattle.mailbox.specs.Settling.{Leaves}
use Rattle.mailbox.specs.declared.mouth.Mouth.{Mouth}
use Rattle.mailbox.specs.declared.opening.Ports.{Ports}
use Rattle.mailbox.specs.declared.settling.ClosedPorts.{ClosedPorts}
use Rattle.mailbox.specs.declared.port.Port.{Port}
use Rattle.mailbox.specs.declared.port.ClosedPort.{ClosedPort}
use Rattle.uses.specs.FiveSenders.{lists_of, picked, IsMergeOf, HasPosted, HavePosted, Adds, Collects}
use Rattle.uses.specs.declared.five_senders.Lists.{Lists}
use Rattle.uses.specs.declared.five_senders.gathered.Gathered.{Gathered}

-- each of five
pub five : (P : ℕ → Type 0) → P 0 → P 1 → P 2 → P 3 → P 4 → (s : ℕ) → s < 5 → P s
five P a b c d e zero below = a
five P a b c d e (suc zero) below = b
five P a b c d e (suc (suc zero)) below = c
five P a b c d e (suc (suc (suc zero))) below = d
five P a b c d e (suc (suc (suc (suc zero)))) below = e
five P a b c d e (suc (suc (suc (suc (suc s))))) below = absurd (omega arith)

picked-push : {T : Type 0} (s t : ℕ) (ts : List ℕ) (x : T) (xs : List T) → length ts ≡ length xs
    → picked s (ts ++ t ∷ []) (xs ++ x ∷ []) ≡ (if s == t then picked s ts xs ++ x ∷ [] else picked s ts xs)
picked-push s t [] x [] same = grind (arith, nat_tests, cases_eq s t)
picked-push s t [] x (y ∷ ys) same = absurd (omega arith)
picked-push s t (u ∷ us) x [] same = absurd (omega arith)
picked-push s t (u ∷ us) x (y ∷ ys) same = let h = picked-push s t us x ys (omega arith) in grind (arith, nat_tests, cases_eq s t, cases_eq s u)

module _ {T : Type 0} where
  -- all was taken of a sender whose end mark was taken
  all_taken : {posted taken : List T} {ended : Bool} {left : ℕ} → Leaves posted taken ended left → ended ≡ true → taken ≡ posted
  all_taken {posted} {taken} leaves is_ended =
      sym (leaves.whole ∙ ap (λ l. taken ++ l) (leaves.none is_ended) ∙ append-nil taken)

  -- what was taken of a sender is the list of its worker
  whole_list : {port : Port T} {list taken : List T} {closed : ClosedPort T} {ended : Bool} {left : ℕ}
      → Leaves (closed_posted closed) taken ended left → ended ≡ true → HasPosted port list closed → posted port ≡ [] → taken ≡ list
  whole_list {list} leaves is_ended has fresh = all_taken leaves is_ended ∙ has.posted_is ∙ ap (λ l. l ++ list) fresh

  -- what was taken of each sender is its list
  pub whole_lists : {ports given : Ports T} {lists wanted : Lists T} {closed : ClosedPorts T} (mouth : Mouth T) (left : List ℕ) → HavePosted ports lists closed → ports ≡ given → lists ≡ wanted
      → NonePosted given → ((s : ℕ) → s < 5 → ended mouth s ≡ true)
      → Leaves (closed_posted closed.p0) (taken mouth 0) (ended mouth 0) (slice_index left 0)
      → Leaves (closed_posted closed.p1) (taken mouth 1) (ended mouth 1) (slice_index left 1)
      → Leaves (closed_posted closed.p2) (taken mouth 2) (ended mouth 2) (slice_index left 2)
      → Leaves (closed_posted closed.p3) (taken mouth 3) (ended mouth 3) (slice_index left 3)
      → Leaves (closed_posted closed.p4) (taken mouth 4) (ended mouth 4) (slice_index left 4)
      → (s : ℕ) → s < 5 → taken mouth s ≡ slice_index_or (lists_of wanted) s []
  whole_lists {given} {wanted} {closed} mouth left have same are none ends l0 l1 l2 l3 l4 =
      let P : Ports T × Lists T → Type 0 = λ x. HavePosted x.0 x.1 closed in
      let has = subst P (λ i. (same i, are i)) have in
      five (λ s. taken mouth s ≡ slice_index_or (lists_of wanted) s [])
      (whole_list l0 (ends 0 (omega arith)) has.p0 none.p0)
      (whole_list l1 (ends 1 (omega arith)) has.p1 none.p1)
      (whole_list l2 (ends 2 (omega arith)) has.p2 none.p2)
      (whole_list l3 (ends 3 (omega arith)) has.p3 none.p3)
      (whole_list l4 (ends 4 (omega arith)) has.p4 none.p4)

  -- what was gathered is a merge of the lists
  pub merges : (before now : ℕ → List T) (result : Option (Gathered T)) (gathered : Gathered T) (lists : List (List T)) → result ≡ Some gathered → IfSome result (Collects before now)
      → ((s : ℕ) → before s ≡ []) → ((s : ℕ) → s < 5 → now s ≡ slice_index_or lists s []) → IsMergeOf lists gathered.order.items gathered.items.items
  merges before now result gathered lists is so_far none are =
      let P : Option (Gathered T) → Type 0 = λ o. IfSome o (Collects before now) in
      let collects : Collects before now gathered = subst P is so_far in
      record {
        senders = collects.senders;
        paired = gathered.paired;
        lists_are = λ s below. sym (collects.taken_is s ∙ ap (λ l. l ++ picked s gathered.order.items gathered.items.items) (none s)) ∙ are s below;
      }

module _ {T : Type 0} (before old new : ℕ → List T) where
  -- one item was taken, and added
  adds_one : (from : ℕ) (x : T) (was now : Gathered T) → from < 5 → Adds was from x now → ((s : ℕ) → new s ≡ (if s == from then old s ++ x ∷ [] else old s))
      → Collects before old was → Collects before new now
  adds_one from x was now below adds takes so_far = record {
    senders = rw adds.order_is (All-append (λ t. t < 5) was.order.items (from ∷ []) so_far.senders (search (rules, below)));
    taken_is = λ s.
        let p = picked-push s from was.order.items x was.items.items was.paired in
        let w = so_far.taken_is s in
        let n = takes s in
        let a = append_assoc (before s) (picked s was.order.items was.items.items) (x ∷ []) in
        rw (adds.order_is, adds.items_are) (grind (arith, nat_tests, cases_eq s from));
  }

  pub collects-item : (from : ℕ) (x : T) (was now : Option (Gathered T)) → from < 5 → IfSome now (λ m. (b : Gathered T) × (was ≡ Some b) × Adds b from x m)
      → ((s : ℕ) → new s ≡ (if s == from then old s ++ x ∷ [] else old s)) → IfSome was (Collects before old) → IfSome now (Collects before new)
  collects-item from x was None below added takes so_far = tt
  collects-item from x was (Some m) below added takes so_far =
      let P : Option (Gathered T) → Type 0 = λ o. IfSome o (Collects before old) in
      adds_one from x added.0 m below added.2 takes (subst P added.1 so_far)

  -- nothing was taken
  pub collects-same : (m : Option (Gathered T)) → ((s : ℕ) → new s ≡ old s) → IfSome m (Collects before old) → IfSome m (Collects before new)
  collects-same None same so_far = tt
  collects-same (Some m) same so_far = record { senders = so_far.senders; taken_is = λ s. same s ∙ so_far.taken_is s }
