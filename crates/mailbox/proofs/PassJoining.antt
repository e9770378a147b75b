-- What the mouth knows once five ports have joined it.
use Rattle.std.specs.Prelude.{◌≡◌, ℕ, suc, zero, ◌<◌, ◌≤◌, true, List, slice_index, [], ◌∷◌, ◌++◌, refl}
use Rattle.std.proofs.Common.{ap, sym, ◌∙◌, subst, arith}
use Rattle.std.proofs.lemmas.Bool.{cases_eq}
use Rattle.std.proofs.lemmas.Bool.Decides.{nat_tests}
use Rattle.mailbox.proofs.EntryLists.{items_of-append, ends_of-append}
use Rattle.mailbox.specs.Entries.{items_of, has_end, ends_of, sent_by}
use Rattle.mailbox.specs.Inside.Ends.{ends_once}
use Rattle.mailbox.specs.Inside.Delivers.{log, port, mouth, joined, Has, Accounts}
use Rattle.mailbox.specs.Inside.Counting.{Counts}
use Rattle.mailbox.specs.Settling.{Leaves}
use Rattle.mailbox.specs.declared.entry.Entry.{Entry}
use Rattle.mailbox.specs.declared.entry.Entry.TheVariants.{Item, End}
use Rattle.mailbox.specs.declared.entry.Stamped.{Stamped}
use Rattle.mailbox.specs.declared.view.PortLog.{PortLog}
use Rattle.mailbox.specs.declared.view.View.{View}

module _ {T : Type 0} where
  pub sent_by-append : (k : ℕ) (xs ys : List (Stamped T)) → sent_by k (xs ++ ys) ≡ sent_by k xs ++ sent_by k ys
  sent_by-append k [] ys = refl
  sent_by-append k (x ∷ xs) ys = let h = sent_by-append k xs ys in grind (arith, nat_tests, cases_eq x.from k)

  -- one log more
  pub step : (new old w : View T) (hs : List (PortLog T)) (n : ℕ) (got : List (Stamped T)) (from k : ℕ) (es : List (Entry T))
      → new ≡ joined old w → old ≡ mouth hs n got → w ≡ port from es → from ≡ k → new ≡ mouth (hs ++ log k es ∷ []) n got
  step new old w hs n got from k es told is knows same =
      told ∙ ap (λ x. joined x w) is ∙ ap (λ x. joined (mouth hs n got) x) (knows ∙ ap (λ f. port f es) same)

  -- nothing stands after the end mark
  none_after : (taken rest : List (Entry T)) → ends_once (taken ++ rest) ≡ true → has_end taken ≡ true → rest ≡ []
  none_after [] rest once ended = cc
  none_after (Item x ∷ es) rest once ended = none_after es rest once ended
  none_after (End ∷ []) [] once ended = refl
  none_after (End ∷ []) (e ∷ es) once ended = cc
  none_after (End ∷ (e ∷ es)) rest once ended = cc

  -- what a closed port posted is what was taken of its sender and then what is left of it
  pub leaves : (v : View T) (logs : List (PortLog T)) (n : ℕ) (got : List (Stamped T)) (left : List ℕ) → v ≡ mouth logs n got → Counts v left
      → (k : ℕ) (es : List (Entry T)) → k < 5 → Has (log k es) logs → ends_once es ≡ true
      → Leaves (items_of es) (items_of (sent_by k got)) (has_end (sent_by k got)) (slice_index left k)
  leaves v logs n got left is counts k es five has once =
      let P : View T → Type 0 = λ u. Accounts u counts.rest in
      let e = subst P is counts.told (log k es) has ∙ sent_by-append k got counts.rest in
      record {
        rest = items_of (sent_by k counts.rest);
        whole = ap items_of e ∙ items_of-append (sent_by k got) (sent_by k counts.rest);
        count = counts.counts k five;
        none = λ ended. ap items_of (none_after (sent_by k got) (sent_by k counts.rest) (ap ends_once (sym e) ∙ once) ended);
      }

  -- an end mark that stands once is one
  one_end : (es : List (Entry T)) → ends_once es ≡ true → ends_of es ≡ 1
  one_end [] once = cc
  one_end (Item x ∷ es) once = one_end es once
  one_end (End ∷ []) once = refl
  one_end (End ∷ (e ∷ es)) once = cc

  -- of a closed port's sender at most one end mark was taken
  pub ends_at_most_once : (v : View T) (logs : List (PortLog T)) (n : ℕ) (got : List (Stamped T)) (left : List ℕ) → v ≡ mouth logs n got → Counts v left
      → (k : ℕ) (es : List (Entry T)) → Has (log k es) logs → ends_once es ≡ true → ends_of (sent_by k got) ≤ 1
  ends_at_most_once v logs n got left is counts k es has once =
      let P : View T → Type 0 = λ u. Accounts u counts.rest in
      let e = ap ends_of (subst P is counts.told (log k es) has ∙ sent_by-append k got counts.rest) in
      omega (arith, e, ends_of-append (sent_by k got) (sent_by k counts.rest), one_end es once)

-- what holds of the five senders
pub of_each : (P : ℕ → Type 0) → P 0 → P 1 → P 2 → P 3 → P 4 → (k : ℕ) → k < 5 → P k
of_each P p0 p1 p2 p3 p4 zero below = p0
of_each P p0 p1 p2 p3 p4 (suc zero) below = p1
of_each P p0 p1 p2 p3 p4 (suc (suc zero)) below = p2
of_each P p0 p1 p2 p3 p4 (suc (suc (suc zero))) below = p3
of_each P p0 p1 p2 p3 p4 (suc (suc (suc (suc zero)))) below = p4
of_each P p0 p1 p2 p3 p4 (suc (suc (suc (suc (suc k))))) below = absurd (omega arith)

-- five equations
pub each_of : {A : Type 0} {a0 a1 a2 a3 a4 b0 b1 b2 b3 b4 : A} → a0 ∷ a1 ∷ a2 ∷ a3 ∷ a4 ∷ [] ≡ b0 ∷ b1 ∷ b2 ∷ b3 ∷ b4 ∷ []
    → (a0 ≡ b0) × (a1 ≡ b1) × (a2 ≡ b2) × (a3 ≡ b3) × (a4 ≡ b4)
each_of e = ((cc), (cc), (cc), (cc), (cc))
