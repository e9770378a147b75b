-- What is left in the queue, counted.
use Rattle.std.specs.Prelude.{◌≡◌, ℕ, ◌+◌, ◌<◌, ◌≤◌, List, [], ◌∷◌, ◌++◌, length, slice_index}
use Rattle.mailbox.specs.Entries.{items_of, sent_by}
use Rattle.mailbox.specs.Inside.Delivers.{mouth, Accounts}
use Rattle.mailbox.specs.declared.entry.Stamped.{Stamped}
use Rattle.mailbox.specs.declared.view.View.{View}

module _ {T : Type 0} where
  -- so many items of each sender stand among these entries
  abbrev pub AreCounts : List (Stamped T) → List ℕ → Type 0
  AreCounts rest left = (k : ℕ) → k < 5 → slice_index left k ≡ length (items_of (sent_by k rest))

  -- one item more is counted, if the entry is an item
  pub record AddsOne (x : Stamped T) (old new : List ℕ) : Type 0 where
    pub five : length new ≡ 5
    pub counts : (k : ℕ) → k < 5 → slice_index new k ≡ slice_index old k + length (items_of (sent_by k (x ∷ [])))

  -- the rest that the mouth accounts for, counted
  pub record Counts (v : View T) (left : List ℕ) : Type 0 where
    pub rest : List (Stamped T)
    pub told : Accounts v rest
    pub counts : AreCounts rest left

  -- what was taken so far, counted: no more than the rounds so far
  pub record Counted (first now : View T) (left : List ℕ) (rounds : ℕ) : Type 0 where
    pub rest : List (Stamped T)
    pub seen : now ≡ mouth first.logs first.made (first.got ++ rest)
    pub counts : AreCounts rest left
    pub five : length left ≡ 5
    pub few : length rest ≤ rounds
