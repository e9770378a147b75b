-- What a pop leaves of the mouth.
use Rattle.std.specs.Prelude.{◌≡◌, ◌≢◌, ℕ, ◌+◌, ◌==◌, true, List, [], ◌∷◌, ◌++◌, if◌then◌else◌, refl}
use Rattle.std.proofs.Common.{ap, sym, ◌∙◌, subst, arith}
use Rattle.std.proofs.lemmas.Bool.{cases_eq}
use Rattle.std.proofs.lemmas.Bool.Decides.{nat_tests}
use Rattle.mailbox.proofs.EntryLists.{has_end-item, has_end-end, items_of-item, items_of-end, ends_of-item, ends_of-end}
use Rattle.mailbox.proofs.Steps.{sent_by-other, sent_by-same}
use Rattle.mailbox.specs.Entries.{has_end, ends_of, items_of, sent_by}
use Rattle.mailbox.specs.Inside.Delivers.{mouth, got_by, Taken}
use Rattle.mailbox.specs.declared.entry.Entry.{Entry}
use Rattle.mailbox.specs.declared.entry.Entry.TheVariants.{Item, End}
use Rattle.mailbox.specs.declared.entry.Stamped.{Stamped}
use Rattle.mailbox.specs.declared.view.View.{View}

module _ {T : Type 0} where
  -- a word on each sender's entries, where one entry comes behind
  one_behind : {A : Type 0} (f : List (Entry T) → A) (k : ℕ) (xs : List (Stamped T)) (x : Stamped T) → f (sent_by k (xs ++ x ∷ [])) ≡ (if k == x.from then f (sent_by k xs ++ x.entry ∷ []) else f (sent_by k xs))
  one_behind f k xs x =
      let same : x.from ≡ k → f (sent_by k (xs ++ x ∷ [])) ≡ f (sent_by k xs ++ x.entry ∷ []) = λ e. ap f (subst (λ j. sent_by j (xs ++ x ∷ []) ≡ sent_by j xs ++ x.entry ∷ []) e (sent_by-same xs x)) in
      let other : x.from ≢ k → f (sent_by k (xs ++ x ∷ [])) ≡ f (sent_by k xs) = λ n. ap f (sent_by-other k xs x n) in
      grind (arith, nat_tests, cases_eq k x.from)

  -- the mouth has made five ports and joined none, before and after
  pub still_takes : (old new : View T) (x : Stamped T) → Taken old x new → old ≡ mouth [] 5 (got_by old) → new ≡ mouth [] 5 (got_by new)
  still_takes old new x told knows =
      let P : View T → Type 0 = λ v. v ≡ mouth [] 5 (got_by v) in
      subst P (sym (told ∙ ap (λ v. mouth v.logs v.made (old.got ++ x ∷ [])) knows)) refl

  module _ (old new : View T) (x : Stamped T) (told : Taken old x new) where
    grown : {A : Type 0} (f : List (Entry T) → A) (k : ℕ) → f (sent_by k new.got) ≡ (if k == x.from then f (sent_by k old.got ++ x.entry ∷ []) else f (sent_by k old.got))
    grown f k = ap (λ v. f (sent_by k v.got)) told ∙ one_behind f k old.got x

    pub took_item : (i : T) → x.entry ≡ Item i
        → ((k : ℕ) → items_of (sent_by k new.got) ≡ (if k == x.from then items_of (sent_by k old.got) ++ i ∷ [] else items_of (sent_by k old.got))) × ((k : ℕ) → has_end (sent_by k new.got) ≡ has_end (sent_by k old.got)) × ((k : ℕ) → ends_of (sent_by k new.got) ≡ ends_of (sent_by k old.got))
    took_item i is = (
      (λ k. let g = grown items_of k in let s : items_of (sent_by k old.got ++ x.entry ∷ []) ≡ items_of (sent_by k old.got) ++ i ∷ [] = rw is (items_of-item (sent_by k old.got) i) in rw (← s) g),
      (λ k. let g = grown has_end k in let s : has_end (sent_by k old.got ++ x.entry ∷ []) ≡ has_end (sent_by k old.got) = rw is (has_end-item (sent_by k old.got) i) in grind (arith, nat_tests, cases_eq k x.from)),
      (λ k. let g = grown ends_of k in let s : ends_of (sent_by k old.got ++ x.entry ∷ []) ≡ ends_of (sent_by k old.got) = rw is (ends_of-item (sent_by k old.got) i) in grind (arith, nat_tests, cases_eq k x.from)),
    )

    pub took_end : x.entry ≡ End
        → ((k : ℕ) → items_of (sent_by k new.got) ≡ items_of (sent_by k old.got)) × ((k : ℕ) → has_end (sent_by k new.got) ≡ (if k == x.from then true else has_end (sent_by k old.got)))
        × ((k : ℕ) → ends_of (sent_by k new.got) ≡ (if k == x.from then ends_of (sent_by k old.got) + 1 else ends_of (sent_by k old.got)))
    took_end is = (
      (λ k. let g = grown items_of k in let s : items_of (sent_by k old.got ++ x.entry ∷ []) ≡ items_of (sent_by k old.got) = rw is (items_of-end (sent_by k old.got)) in grind (arith, nat_tests, cases_eq k x.from)),
      (λ k. let g = grown has_end k in let s : has_end (sent_by k old.got ++ x.entry ∷ []) ≡ true = rw is (has_end-end (sent_by k old.got)) in rw (← s) g),
      (λ k. let g = grown ends_of k in let s : ends_of (sent_by k old.got ++ x.entry ∷ []) ≡ ends_of (sent_by k old.got) + 1 = rw is (ends_of-end (sent_by k old.got)) in rw (← s) g),
    )
