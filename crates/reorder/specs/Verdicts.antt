-- When a window gives each verdict on an item, and each answer to a declared loss, and what the
-- window is after it.
use Rattle.std.specs.Prelude.{◌≡◌, ℕ, ◌<◌, ◌≤◌, List, [], ◌∷◌, Option, None, Some, Bool, ◌&&◌, nat_lt, min, if◌then◌else◌}
use Rattle.std.specs.FinMap as map
use Rattle.reorder.specs.View.{WindowView, offset_in, IsHeld, with_item, moved_on, next_taken}
use Rattle.reorder.specs.Limits.{modulus, numbers_ahead}
use Rattle.reorder.specs.Number.{offset}
use Rattle.reorder.specs.declared.verdict.Verdict.{Verdict}
use Rattle.reorder.specs.declared.verdict.Verdict.TheVariants.{Late, Beyond, Repeat, Kept}
use Rattle.reorder.specs.declared.verdict.Declared.{Declared}
use Rattle.reorder.specs.declared.verdict.Declared.TheVariants.{NextIsHere, NothingHeld, Lost}

-- the least offset of some numbers, or the modulus where there is none
abbrev pub least_offset : ℕ → List ℕ → ℕ
least_offset expected [] = modulus
least_offset expected (number ∷ numbers) =
    min (offset expected number) (least_offset expected numbers)

module _ {T : Type 0} where
  -- The verdict on an item that is offered under a number, in the order in which the causes are
  -- looked for. Every verdict but `Kept` hands the item back.
  abbrev pub IsVerdict : WindowView T → ℕ → T → Verdict T → Type 0
  IsVerdict w number item (Late back) = (numbers_ahead ≤ offset_in w number) × (back ≡ item)
  IsVerdict w number item (Beyond back) =
      (offset_in w number < numbers_ahead) × (w.width ≤ offset_in w number) × (back ≡ item)
  IsVerdict w number item (Repeat back) =
      (offset_in w number < w.width) × IsHeld w number × (back ≡ item)
  IsVerdict w number item Kept = (offset_in w number < w.width) × ¬ (IsHeld w number)

  -- only `Kept` changes anything
  abbrev pub after_offer : WindowView T → ℕ → T → Verdict T → WindowView T
  after_offer w number item Kept = with_item w number item
  after_offer w number item _ = w

  -- nothing taken, nothing changed
  abbrev pub after_take_next : WindowView T → Option T → WindowView T
  after_take_next w (Some _) = next_taken w
  after_take_next w None = w

  -- the answer to the decision that the expected number is lost
  abbrev pub IsDeclared : WindowView T → Declared → Type 0
  IsDeclared w NextIsHere = IsHeld w w.expected
  IsDeclared w NothingHeld = map.len w.held ≡ 0
  IsDeclared w (Lost number) =
      ¬ (IsHeld w w.expected) × (0 < map.len w.held) × (number ≡ w.expected)

  -- only `Lost` changes anything
  abbrev pub after_declare : WindowView T → Declared → WindowView T
  after_declare w (Lost _) = moved_on w
  after_declare w _ = w

  -- How many numbers from the expected one on are open before a number: as many as come before both
  -- it and the nearest held one.
  abbrev pub open_before : WindowView T → ℕ → ℕ
  open_before w number = min (offset_in w number) (least_offset w.expected (map.keys w.held))

  -- the number lies ahead of the expected one, and something is held
  abbrev pub has_gap_to : WindowView T → ℕ → Bool
  has_gap_to w number =
      nat_lt 0 (offset_in w number) && nat_lt (offset_in w number) numbers_ahead && nat_lt 0 (map.len w.held)

  -- How many numbers are declared lost up to a number: none where it is the expected one or lies
  -- behind, or nothing is held; else those that are open before it.
  abbrev pub declared_count : WindowView T → ℕ → ℕ
  declared_count w number = (if has_gap_to w number then open_before w number else 0)

  -- How many numbers are skipped up to a number, whether or not something is held: none where it is
  -- the expected one or lies behind; else those that are open before it.
  abbrev pub skipped_count : WindowView T → ℕ → ℕ
  skipped_count w number =
      (if nat_lt (offset_in w number) numbers_ahead then open_before w number else 0)
