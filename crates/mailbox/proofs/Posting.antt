-- What a push leaves of a port.
use Rattle.std.specs.Prelude.{◌≡◌, ℕ, false, List, [], ◌∷◌, ◌++◌, Result, Ok, Err, MatchResult, refl}
use Rattle.std.proofs.Common.{ap, sym, ◌∙◌, subst}
use Rattle.crossbeam_queue.specs.Fifo.{Held}
use Rattle.mailbox.proofs.EntryLists.{has_end-item}
use Rattle.mailbox.specs.Entries.{has_end, own}
use Rattle.mailbox.specs.Inside.Delivers.{port, Posted}
use Rattle.mailbox.specs.declared.entry.Entry.TheVariants.{Item}
use Rattle.mailbox.specs.declared.entry.Stamped.{Stamped}
use Rattle.mailbox.specs.declared.view.View.{View}

module _ {T : Type 0} (old new : View T) (x : Stamped T) (i : T) (cap : ℕ) (fact : List (Stamped T) → Type 0) where
  pub stays_open : x.entry ≡ Item i → (r : Result (Unit {0}) (Stamped T)) → MatchResult r (λ _. Posted old x new) (λ y. (y ≡ x) × (new ≡ old) × Held cap fact)
      → old ≡ port x.from (own old) → has_end (own old) ≡ false → (new ≡ port x.from (own new)) × (has_end (own new) ≡ false)
  stays_open is (Ok u) told knows unended =
      let P : View T → Type 0 = λ v. (v ≡ port x.from (own v)) × (has_end (own v) ≡ false) in
      subst P (sym told) (refl, ap (λ e. has_end (own old ++ e ∷ [])) is ∙ has_end-item (own old) i ∙ unended)
  stays_open is (Err y) told knows unended =
      let P : View T → Type 0 = λ v. (v ≡ port x.from (own v)) × (has_end (own v) ≡ false) in
      subst P (sym told.1) (knows, unended)
