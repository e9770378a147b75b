-- What a take leaves of the marks of the five ends.
use Rattle.std.specs.Prelude.{◌≡◌, ℕ, zero, suc, ◌<◌, ◌==◌, Bool, true, List, [], ◌∷◌, if◌then◌else◌, slice_set}
use Rattle.std.proofs.Common.{arith, ◌∙◌, ap}
use Rattle.mailbox.specs.Entries.{has_end, sent_by}
use Rattle.mailbox.specs.Inside.Ends.{ends_in}
use Rattle.mailbox.specs.declared.entry.Stamped.{Stamped}

module _ {T : Type 0} where
  -- no end mark more
  pub marks_stay : (old new : List (Stamped T)) → ((k : ℕ) → has_end (sent_by k new) ≡ has_end (sent_by k old)) → ends_in old ≡ ends_in new
  marks_stay old new same = cc (same 0, same 1, same 2, same 3, same 4)

five_marks : (a b c d e : Bool) (f : ℕ → Bool) (n : ℕ) → n < 5
    → f 0 ≡ (if 0 == n then true else a) → f 1 ≡ (if 1 == n then true else b) → f 2 ≡ (if 2 == n then true else c) → f 3 ≡ (if 3 == n then true else d) → f 4 ≡ (if 4 == n then true else e)
    → slice_set (a ∷ b ∷ c ∷ d ∷ e ∷ []) n true ≡ f 0 ∷ f 1 ∷ f 2 ∷ f 3 ∷ f 4 ∷ []
five_marks a b c d e f zero five f0 f1 f2 f3 f4 = cc
five_marks a b c d e f (suc zero) five f0 f1 f2 f3 f4 = cc
five_marks a b c d e f (suc (suc zero)) five f0 f1 f2 f3 f4 = cc
five_marks a b c d e f (suc (suc (suc zero))) five f0 f1 f2 f3 f4 = cc
five_marks a b c d e f (suc (suc (suc (suc zero)))) five f0 f1 f2 f3 f4 = cc
five_marks a b c d e f (suc (suc (suc (suc (suc n))))) five f0 f1 f2 f3 f4 = absurd (omega arith)

module _ {T : Type 0} where
  -- the end mark of one sender more
  pub marks_one : (old new : List (Stamped T)) (marks : List Bool) (n from : ℕ) → from < 5 → marks ≡ ends_in old → n ≡ from
      → ((k : ℕ) → has_end (sent_by k new) ≡ (if k == from then true else has_end (sent_by k old))) → slice_set marks n true ≡ ends_in new
  marks_one old new marks n from five is at told =
      let one = five_marks _ _ _ _ _ (λ k. has_end (sent_by k new)) from five (told 0) (told 1) (told 2) (told 3) (told 4) in
      ap (λ l. slice_set l n true) is ∙ ap (λ j. slice_set (ends_in old) j true) at ∙ one
