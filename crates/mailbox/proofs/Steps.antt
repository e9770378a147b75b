-- Each of the seven kinds of step keeps the rule: making the queue, splitting off a port's pass, a
-- push that adds, a push that is refused, a pop that takes, a pop that finds nothing, and joining a
-- port's pass to the mouth's.
use Rattle.std.proofs.Common.{◌≡◌, ◌≢◌, ℕ, zero, suc, ◌+◌, ◌<◌, ◌⊎◌, true, false, List, [], ◌∷◌, ◌++◌, length, set, sym, refl, ap, ◌∙◌, subst, ⊎_elim, append_assoc, arith, inl, inr}
use Rattle.std.specs.Prelude.{◌==◌, if◌then◌else◌}
use Rattle.std.proofs.lemmas.Bool.{cases_eq}
use Rattle.std.proofs.lemmas.Bool.Decides.{nat_tests}
use mathlib.Core.Option.{some, some-ne-none, some-injective}
use lib.ListN.{get_elem?}
use Rattle.crossbeam_queue.specs.Fifo.{Pushes, Pops, Forks, Merges, Learns}
use Rattle.crossbeam_queue.proofs.Lists.{at_set}
use Rattle.mailbox.specs.declared.entry.Entry.{Entry}
use Rattle.mailbox.specs.declared.entry.Stamped.{Stamped}
use Rattle.mailbox.specs.declared.view.PortLog.{PortLog}
use Rattle.mailbox.specs.declared.view.View.{View}
use Rattle.mailbox.specs.Entries.{sent_by, own}
use Rattle.mailbox.specs.Inside.Delivers.{log, port, mouth, spent, newcomer, one_more, new_port, joined, Has, Holds, MayTake, Delivers, Posted, Taken, Accounts}

-- numbers by a test
if_same : {A : Type 0} (j k : ℕ) (a b : A) → j ≡ k → (if j == k then a else b) ≡ a
if_same j k a b is = grind (arith, nat_tests)

if_other : {A : Type 0} (j k : ℕ) (a b : A) → j ≢ k → (if j == k then a else b) ≡ b
if_other j k a b is = grind (arith, nat_tests)

module _ {T : Type 0} where
  pub sent_by-other : (k : ℕ) (xs : List (Stamped T)) (x : Stamped T) → x.from ≢ k → sent_by k (xs ++ x ∷ []) ≡ sent_by k xs
  sent_by-other k [] x other = if_other x.from k (x.entry ∷ []) [] other
  sent_by-other k (y ∷ ys) x other = let h = sent_by-other k ys x other in grind (arith, nat_tests, cases_eq y.from k)

  pub sent_by-same : (xs : List (Stamped T)) (x : Stamped T) → sent_by x.from (xs ++ x ∷ []) ≡ sent_by x.from xs ++ x.entry ∷ []
  sent_by-same [] x = if_same x.from x.from (x.entry ∷ []) [] refl
  sent_by-same (y ∷ ys) x = let h = sent_by-same ys x in grind (arith, nat_tests, cases_eq y.from x.from)

  abbrev Each : (ℕ → View T → Type 0) → List (View T) → Type 0
  Each F views = (p : ℕ) (v : View T) → get_elem? views p ≡ some v → F p v

  each_set : (F : ℕ → View T → Type 0) (views : List (View T)) (p : ℕ) (w : View T) → F p w → ((q : ℕ) (u : View T) → q ≢ p → get_elem? views q ≡ some u → F q u) → Each F (set views p w)
  each_set F views p w mine others q u e = ⊎_elim (λ (x : (q ≡ p) × (w ≡ u)). subst (λ (y : ℕ × View T). F y.0 y.1) (λ i. (sym x.0 i, x.1 i)) mine)
      (λ (x : (q ≢ p) × (get_elem? views q ≡ some u)). others q u x.0 x.1) (at_set views p q w u e)

  at_snoc_or_end : (l : List (View T)) (a b : View T) (j : ℕ) → get_elem? (l ++ a ∷ []) j ≡ some b → (get_elem? l j ≡ some b) ⊎ ((j ≡ length l) × (a ≡ b))
  at_snoc_or_end [] a b zero e = inr (refl, some-injective a b e)
  at_snoc_or_end [] a b (suc j) e = absurd (some-ne-none b (sym e))
  at_snoc_or_end (x ∷ xs) a b zero e = inl e
  at_snoc_or_end (x ∷ xs) a b (suc j) e = ⊎_elim (λ y. inl y) (λ y. inr (ap suc y.0, y.1)) (at_snoc_or_end xs a b j e)

  each_snoc : (F : ℕ → View T → Type 0) (views : List (View T)) (w : View T) → Each F views → F (length views) w → Each F (views ++ w ∷ [])
  each_snoc F views w old new q u e = ⊎_elim (λ (x : get_elem? views q ≡ some u). old q u x)
      (λ (x : (q ≡ length views) × (w ≡ u)). subst (λ (y : ℕ × View T). F y.0 y.1) (λ i. (sym x.0 i, x.1 i)) new) (at_snoc_or_end views w u q e)

  in_both : (h : PortLog T) (xs ys : List (PortLog T)) → Has h (xs ++ ys) → Has h xs ⊎ Has h ys
  in_both h [] ys has = inr has
  in_both h (x ∷ xs) ys (inl e) = inl (inl e)
  in_both h (x ∷ xs) ys (inr has) = ⊎_elim (λ y. inl (inr y)) (λ y. inr y) (in_both h xs ys has)

  not_taker : (v : View T) → v.takes ≡ false → v.takes ≡ true → ⊥
  not_taker v isnt is = cc

  -- making the queue with its first pass: all begin empty
  pub begins : Delivers {T = T} [] (newcomer ∷ [])
  begins = record {
    reader = 0;
    made = 0;
    seat = λ k. 0;
    got = [];
    unmade = λ k past. refl;
    logs = each_set (Holds 0 (λ k. 0) []) (newcomer ∷ []) 0 newcomer (λ h has. absurd has) (λ q u other e. absurd (other (only q u e)));
    taker = each_set (MayTake 0 0 []) (newcomer ∷ []) 0 newcomer (λ t. (refl, refl, refl)) (λ q u other e. absurd (other (only q u e)));
  }
    where
      only : (q : ℕ) (u : View T) → get_elem? (newcomer {T = T} ∷ []) q ≡ some u → q ≡ 0
      only zero u e = refl
      only (suc q) u e = absurd (some-ne-none u (sym e))

  -- a push that adds an entry
  pub posts : (n p : ℕ) (k : ℕ) (es : List (Entry T)) (x : Stamped T) → x.from ≡ k → Pushes Delivers n p (port k es) x (λ w. w ≡ port k (es ++ x.entry ∷ []))
  posts n p k es x from items views room h at =
      let w : View T = port k (es ++ x.entry ∷ []) in
      let mine = h.logs p (port k es) at (log k es) (inl refl) in
      let all : List (Stamped T) = h.got ++ (items ++ x ∷ []) in
      let regroup : (h.got ++ items) ++ x ∷ [] ≡ all = append_assoc h.got items (x ∷ []) in
      let new : sent_by k all ≡ es ++ x.entry ∷ [] = sym (ap (sent_by k) regroup) ∙ subst (λ j. sent_by j ((h.got ++ items) ++ x ∷ []) ≡ sent_by j (h.got ++ items) ++ x.entry ∷ []) from (sent_by-same (h.got ++ items) x) ∙ ap (λ l. l ++ x.entry ∷ []) (sym mine.2) in
      let old : (j : ℕ) → j ≢ k → sent_by j all ≡ sent_by j (h.got ++ items) = λ j other. sym (ap (sent_by j) regroup) ∙ sent_by-other j (h.got ++ items) x (λ e. other (sym e ∙ from)) in (
        w,
        record {
          reader = h.reader;
          made = h.made;
          seat = h.seat;
          got = h.got;
          unmade = λ j past. old j (λ e. absurd (omega (arith, mine.0, past, e))) ∙ h.unmade j past;
          logs = each_set (Holds h.made h.seat all) views p w
              (λ hd has. ⊎_elim (λ (e : hd ≡ log k (es ++ x.entry ∷ [])). subst (λ (y : PortLog T). (y.from < h.made) × (h.seat y.from ≡ p) × (y.entries ≡ sent_by y.from all)) (sym e) (mine.0, mine.1, sym new)) (λ none. absurd none) has)
              (λ q u apart e hd has. let r = h.logs q u e hd has in (r.0, r.1, r.2 ∙ sym (old hd.from (λ same. apart (sym r.1 ∙ ap h.seat same ∙ mine.1)))));
          taker = each_set (MayTake h.reader h.made h.got) views p w (λ t. absurd (not_taker w refl t)) (λ q u apart e. h.taker q u e);
        },
        refl,
      )

  -- a pop that takes
  pub takes : (p : ℕ) (v : View T) → v.takes ≡ true → Pops Delivers p v (Taken v)
  takes p v may x items views h at =
      let w : View T = mouth v.logs v.made (v.got ++ x ∷ []) in
      let mine = h.taker p v at may in
      let got : List (Stamped T) = h.got ++ x ∷ [] in
      let regroup : got ++ items ≡ h.got ++ (x ∷ items) = append_assoc h.got (x ∷ []) items in
      let keep : (q : ℕ) (u : View T) → get_elem? views q ≡ some u → Holds h.made h.seat (got ++ items) q u = λ q u e hd has. let r = h.logs q u e hd has in (r.0, r.1, r.2 ∙ sym (ap (sent_by hd.from) regroup)) in (
        w,
        record {
          reader = h.reader;
          made = h.made;
          seat = h.seat;
          got = got;
          unmade = λ j past. ap (sent_by j) regroup ∙ h.unmade j past;
          logs = each_set (Holds h.made h.seat (got ++ items)) views p w (keep p v at) (λ q u apart e. keep q u e);
          taker = each_set (MayTake h.reader h.made got) views p w (λ _. (mine.0, mine.1, ap (λ l. l ++ x ∷ []) mine.2)) (λ q u apart e t. absurd (apart ((h.taker q u e t).0 ∙ sym mine.0)));
        },
        refl,
      )

  -- a pass is split off for a new port
  pub forks : (p : ℕ) (v : View T) → v.takes ≡ true → Forks Delivers p v (one_more v) (new_port v)
  forks p v may items views h at =
      let l : View T = one_more v in
      let r : View T = new_port v in
      let mine = h.taker p v at may in
      let vs : List (View T) = set views p l in
      let n : ℕ = length vs in
      let all : List (Stamped T) = h.got ++ items in
      let seat : ℕ → ℕ = λ j. if j == h.made then n else h.seat j in
      let keep : (q : ℕ) (u : View T) → get_elem? views q ≡ some u → Holds (h.made + 1) seat all q u = λ q u e hd has. let y = h.logs q u e hd has in (omega (arith, y.0), if_other hd.from h.made n (h.seat hd.from) (λ same. absurd (omega (arith, y.0, same))) ∙ y.1, y.2) in
      record {
        reader = h.reader;
        made = h.made + 1;
        seat = seat;
        got = h.got;
        unmade = λ j past. h.unmade j (omega arith);
        logs = each_snoc (Holds (h.made + 1) seat all) vs r
            (each_set (Holds (h.made + 1) seat all) views p l (keep p v at) (λ q u apart e. keep q u e))
            (λ hd has. ⊎_elim (λ (e : hd ≡ log v.made []). subst (λ (y : PortLog T). (y.from < h.made + 1) × (seat y.from ≡ n) × (y.entries ≡ sent_by y.from all)) (sym e) (omega (arith, mine.1), if_same v.made h.made n (h.seat v.made) mine.1, sym (h.unmade v.made (omega (arith, mine.1))))) (λ none. absurd none) has);
        taker = each_snoc (MayTake h.reader (h.made + 1) h.got) vs r
            (each_set (MayTake h.reader (h.made + 1) h.got) views p l (λ _. (mine.0, ap (λ m. m + 1) mine.1, mine.2)) (λ q u apart e t. absurd (apart ((h.taker q u e t).0 ∙ sym mine.0))))
            (λ t. absurd (not_taker r refl t));
      }

  -- a port's pass joins the mouth's
  pub merges : (p : ℕ) (v : View T) (o : ℕ) (u : View T) → v.takes ≡ true → u.takes ≡ false → Merges Delivers p v o u (joined v u) spent
  merges p v o u may port_is items views h at apart at' =
      let both : View T = joined v u in
      let vs : List (View T) = set views p both in
      let mine = h.taker p v at may in
      let all : List (Stamped T) = h.got ++ items in
      let was : get_elem? views o ≡ some u = ⊎_elim (λ x. absurd (apart x.0)) (λ x. x.1) (at_set views p o both u at') in
      let seat : ℕ → ℕ = λ j. if h.seat j == o then p else h.seat j in
      let keep : (q : ℕ) (y : View T) → q ≢ o → get_elem? views q ≡ some y → Holds h.made seat all q y = λ q y other e hd has. let z = h.logs q y e hd has in (z.0, if_other (h.seat hd.from) o p (h.seat hd.from) (λ same. other (sym z.1 ∙ same)) ∙ z.1, z.2) in
      let gain : Holds h.made seat all p u = λ hd has. let z = h.logs o u was hd has in (z.0, if_same (h.seat hd.from) o p (h.seat hd.from) z.1, z.2) in
      record {
        reader = h.reader;
        made = h.made;
        seat = seat;
        got = h.got;
        unmade = h.unmade;
        logs = each_set (Holds h.made seat all) vs o spent (λ hd has. absurd has)
            (λ q y other e. each_set (λ q y. q ≢ o → Holds h.made seat all q y) views p both
            (λ other hd has. ⊎_elim (λ (x : Has hd v.logs). keep p v other at hd x) (λ (x : Has hd u.logs). gain hd x) (in_both hd v.logs u.logs has))
            (λ q y apart e other. keep q y other e) q y e other);
        taker = each_set (MayTake h.reader h.made h.got) vs o spent (λ t. absurd (not_taker spent refl t))
            (λ q y other e. each_set (MayTake h.reader h.made h.got) views p both (λ _. mine) (λ q y apart e. h.taker q y e) q y e);
      }

  -- a pop that finds nothing: no view changes, and the mouth learns that the queue holds nothing
  pub finds_nothing : (p : ℕ) (v : View T) → v.takes ≡ true → Learns Delivers p v (Accounts v)
  finds_nothing p v may items views h at =
      let mine = h.taker p v at may in
      λ hd has. (h.logs p v at hd has).2 ∙ ap (λ l. sent_by hd.from (l ++ items)) (sym mine.2)

  -- a push that is refused: no view changes, and nothing is learned
  pub refuses : (p : ℕ) (v : View T) → Learns Delivers p v (λ items. Unit {0})
  refuses p v items views h at = tt

  -- the same, by what a port knows
  pub posts_own : (n p : ℕ) (v : View T) (x : Stamped T) → v ≡ port x.from (own v) → Pushes Delivers n p v x (Posted v x)
  posts_own n p v x is =
      let P : View T → Type 0 = λ u. Pushes Delivers n p u x (Posted v x) in
      subst P (sym is) (posts n p x.from (own v) x refl)
