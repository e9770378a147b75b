-- Calls of a window one after another, and what two windows agree on.
use Rattle.std.specs.Prelude.{◌≡◌, ℕ, zero, suc, List, [], ◌∷◌, sum_by, Option, None, Some}
use Rattle.reorder.specs.View.{WindowView, held_at, IsHeld, moved_on, moved_on_by}
use Rattle.reorder.specs.Verdicts.{after_offer, after_take_next, IsDeclared, after_declare}
use Rattle.reorder.specs.declared.verdict.Verdict.{Verdict}
use Rattle.reorder.specs.declared.verdict.Declared.{Declared}
use Rattle.reorder.specs.declared.verdict.Declared.TheVariants.{NextIsHere, NothingHeld, Lost}

-- a call that may change a window, with what it was given and what it answered
pub data Call (T : Type 0) : Type 0 where
  offer : ℕ → T → Verdict T → Call T
  take_next : Option T → Call T
  declare : Declared → Call T
  declare_to : ℕ → ℕ → Call T
  skip_to : ℕ → ℕ → Call T

module _ {T : Type 0} where
  -- the window after the call
  abbrev pub after_call : WindowView T → Call T → WindowView T
  after_call w (offer number item verdict) = after_offer w number item verdict
  after_call w (take_next taken) = after_take_next w taken
  after_call w (declare declared) = after_declare w declared
  after_call w (declare_to number count) = moved_on_by w count
  after_call w (skip_to number count) = moved_on_by w count

  -- the window after the calls, made in turn
  abbrev pub after_calls : WindowView T → List (Call T) → WindowView T
  after_calls w [] = w
  after_calls w (call ∷ calls) = after_calls (after_call w call) calls

  -- a number passes when its item is taken, or it is declared lost or skipped
  abbrev pub passed_by : Call T → ℕ
  passed_by (offer _ _ _) = 0
  passed_by (take_next (Some _)) = 1
  passed_by (take_next None) = 0
  passed_by (declare (Lost _)) = 1
  passed_by (declare NextIsHere) = 0
  passed_by (declare NothingHeld) = 0
  passed_by (declare_to _ count) = count
  passed_by (skip_to _ count) = count

  -- how many numbers passed in all
  abbrev pub numbers_passed : List (Call T) → ℕ
  numbers_passed calls = sum_by passed_by calls

  -- the same number is expected, the width is the same, and each number has the same item or none
  pub record Agree (v w : WindowView T) : Type 0 where
    pub same_expected : v.expected ≡ w.expected
    pub same_width : v.width ≡ w.width
    pub same_items : (number : ℕ) → held_at v number ≡ held_at w number

  -- `declare` was called so many times, answered `Lost` each time, and left this window
  abbrev pub LosesInTurn : WindowView T → ℕ → WindowView T → Type 0
  LosesInTurn w zero after = after ≡ w
  LosesInTurn w (suc count) after =
      IsDeclared w (Lost w.expected) × LosesInTurn (after_declare w (Lost w.expected)) count after

  -- the window moved on so many times, its expected number not held each time, and became this
  -- window
  abbrev pub PassesInTurn : WindowView T → ℕ → WindowView T → Type 0
  PassesInTurn w zero after = after ≡ w
  PassesInTurn w (suc count) after = ¬ (IsHeld w w.expected) × PassesInTurn (moved_on w) count after
