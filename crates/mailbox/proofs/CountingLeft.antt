-- One entry more is counted.
use Rattle.std.specs.Prelude.{◌≡◌, ℕ, zero, suc, ◌+◌, ◌<◌, ◌≤◌, true, List, [], ◌∷◌, ◌++◌, length, slice_index, refl}
use Rattle.std.proofs.Common.{ap, sym, ◌∙◌, subst, arith, length-append, append_assoc}
use Rattle.std.proofs.lemmas.Bool.{cases_eq}
use Rattle.std.proofs.lemmas.Bool.Decides.{nat_tests}
use Rattle.std.proofs.lemmas.List.{append-nil}
use Rattle.mailbox.proofs.EntryLists.{items_of-append}
use Rattle.mailbox.proofs.PassJoining.{sent_by-append}
use Rattle.mailbox.specs.Entries.{items_of, sent_by}
use Rattle.mailbox.specs.Inside.Delivers.{mouth, Accounts, Taken}
use Rattle.mailbox.specs.Inside.Counting.{AreCounts, AddsOne, Counts, Counted}
use Rattle.mailbox.specs.declared.entry.Entry.{Entry}
use Rattle.mailbox.specs.declared.entry.Entry.TheVariants.{Item, End}
use Rattle.mailbox.specs.declared.entry.Stamped.{Stamped}
use Rattle.mailbox.specs.declared.view.View.{View}

-- nothing was counted
zeros : (k : ℕ) → k < 5 → slice_index (0 ∷ 0 ∷ 0 ∷ 0 ∷ 0 ∷ []) k ≡ 0
zeros zero five = refl
zeros (suc zero) five = refl
zeros (suc (suc zero)) five = refl
zeros (suc (suc (suc zero))) five = refl
zeros (suc (suc (suc (suc zero)))) five = refl
zeros (suc (suc (suc (suc (suc k))))) five = absurd (omega arith)

module _ {T : Type 0} where
  -- the entries counted so far, and one more
  pub counts_more : (rest : List (Stamped T)) (x : Stamped T) (old new : List ℕ) → AreCounts rest old → AddsOne x old new → AreCounts (rest ++ x ∷ []) new
  counts_more rest x old new counts adds k five =
      let a : items_of (sent_by k (rest ++ x ∷ [])) ≡ items_of (sent_by k rest) ++ items_of (sent_by k (x ∷ [])) =
      ap items_of (sent_by-append k rest (x ∷ [])) ∙ items_of-append (sent_by k rest) (sent_by k (x ∷ [])) in
      let l = ap length a ∙ length-append (items_of (sent_by k rest)) (items_of (sent_by k (x ∷ []))) in
      omega (arith, counts k five, adds.counts k five, l)

  -- no more items than entries
  items_of-few : (es : List (Entry T)) → length (items_of es) ≤ length es
  items_of-few [] = omega arith
  items_of-few (Item x ∷ es) = let h = items_of-few es in omega arith
  items_of-few (End ∷ es) = let h = items_of-few es in omega arith

  sent_by-few : (k : ℕ) (xs : List (Stamped T)) → length (sent_by k xs) ≤ length xs
  sent_by-few k [] = omega arith
  sent_by-few k (x ∷ xs) = let h = sent_by-few k xs in grind (arith, nat_tests, cases_eq x.from k)

  pub few_items : (k : ℕ) (xs : List (Stamped T)) → length (items_of (sent_by k xs)) ≤ length xs
  few_items k xs = omega (arith, items_of-few (sent_by k xs), sent_by-few k xs)

  -- before the first round
  pub nothing_counted : (first : View T) → first.takes ≡ true → Counted first first (0 ∷ 0 ∷ 0 ∷ 0 ∷ 0 ∷ []) 0
  nothing_counted first may = record {
    rest = [];
    seen = ap (λ t. record { logs = first.logs; takes = t; made = first.made; got = first.got }) may ∙ ap (λ g. mouth first.logs first.made g) (sym (append-nil first.got));
    counts = zeros;
    five = refl;
    few = omega arith;
  }

  pub still_takes : (first now : View T) (left : List ℕ) (rounds : ℕ) → Counted first now left rounds → now.takes ≡ true
  still_takes first now left rounds so_far = ap (λ v. v.takes) so_far.seen

  -- no count is above the rounds so far
  pub has_room : (first now : View T) (left : List ℕ) (rounds k : ℕ) → k < 5 → Counted first now left rounds → slice_index left k ≤ rounds
  has_room first now left rounds k five so_far = omega (arith, so_far.counts k five, few_items k so_far.rest, so_far.few)

  -- another round
  pub another : (first now next : View T) (left left' : List ℕ) (rounds : ℕ) (x : Stamped T) → Counted first now left rounds → Taken now x next → AddsOne x left left'
      → Counted first next left' (rounds + 1)
  another first now next left left' rounds x so_far told adds = record {
    rest = so_far.rest ++ x ∷ [];
    seen = told ∙ ap (λ v. mouth v.logs v.made (v.got ++ x ∷ [])) so_far.seen ∙ ap (mouth first.logs first.made) (append_assoc first.got so_far.rest (x ∷ []));
    counts = counts_more so_far.rest x left left' so_far.counts adds;
    five = adds.five;
    few = omega (arith, so_far.few, length-append so_far.rest (x ∷ []));
  }

  -- nothing is left in the queue
  pub finished : (first now : View T) (left : List ℕ) (rounds : ℕ) (items : List (Stamped T)) → Counted first now left rounds → length items ≡ 0 → Accounts now items → Counts first left
  finished first now left rounds [] so_far none told = record {
    rest = so_far.rest;
    told = λ h has. let P : View T → Type 0 = λ v. Accounts v [] in subst P so_far.seen told h has ∙ ap (sent_by h.from) (append-nil (first.got ++ so_far.rest));
    counts = so_far.counts;
  }
  finished first now left rounds (x ∷ items) so_far none told = absurd (omega arith)
