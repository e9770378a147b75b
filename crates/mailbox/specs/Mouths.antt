-- What a clause sees of a mouth.
use Rattle.std.specs.Prelude.{◌≡◌, ℕ, ◌+◌, ◌<◌, ◌==◌, Bool, true, List, [], ◌∷◌, ◌++◌, if◌then◌else◌}
use Rattle.std.specs.Arc.{arc_value}
use Rattle.crossbeam_queue.specs.Passes.{view, ruled_capacity}
use Rattle.mailbox.specs.Entries.{items_of, has_end, ends_of, sent_by}
use Rattle.mailbox.specs.Ports.{Address}
use Rattle.mailbox.specs.declared.mouth.Mouth.{Mouth}
use Rattle.mailbox.specs.declared.taken.Taken.{Taken}
use Rattle.mailbox.specs.declared.taken.Taken.TheVariants.{Item, End, Empty}

module _ {T : Type 0} where
  abbrev pub place : Mouth T → ℕ → Address
  place m k = (m.pass.table_id, k)

  -- the five places in the mailbox of this mouth, in order
  abbrev pub places : Mouth T → List Address
  places m = place m 0 ∷ place m 1 ∷ place m 2 ∷ place m 3 ∷ place m 4 ∷ []

  -- how many entries the mailbox of this mouth has room for
  abbrev pub mouth_capacity : Mouth T → ℕ
  mouth_capacity m = ruled_capacity (arc_value m.queue)

  -- every item of sender k that was taken, in order
  abbrev pub taken : Mouth T → ℕ → List T
  taken m k = items_of (sent_by k (view m.pass).got)

  -- whether the end mark of sender k was taken
  abbrev pub ended : Mouth T → ℕ → Bool
  ended m k = has_end (sent_by k (view m.pass).got)

  -- how many end marks of sender k were taken
  abbrev pub ends_taken : Mouth T → ℕ → ℕ
  ends_taken m k = ends_of (sent_by k (view m.pass).got)

  -- one item more of this sender was taken, and nothing else
  pub record TakesItem (from : ℕ) (item : T) (old new : Mouth T) : Type 0 where
    pub five : from < 5
    pub taken_is : (k : ℕ) → taken new k ≡ (if k == from then taken old k ++ item ∷ [] else taken old k)
    pub ended_is : (k : ℕ) → ended new k ≡ ended old k
    pub ends_are : (k : ℕ) → ends_taken new k ≡ ends_taken old k

  -- the end mark of this sender was taken, and nothing else
  pub record TakesEnd (from : ℕ) (old new : Mouth T) : Type 0 where
    pub five : from < 5
    pub taken_is : (k : ℕ) → taken new k ≡ taken old k
    pub ended_is : (k : ℕ) → ended new k ≡ (if k == from then true else ended old k)
    pub ends_are : (k : ℕ) → ends_taken new k ≡ (if k == from then ends_taken old k + 1 else ends_taken old k)

  -- nothing was taken
  pub record TakesNothing (old new : Mouth T) : Type 0 where
    pub taken_is : (k : ℕ) → taken new k ≡ taken old k
    pub ended_is : (k : ℕ) → ended new k ≡ ended old k
    pub ends_are : (k : ℕ) → ends_taken new k ≡ ends_taken old k

  -- what one take answers and changes
  abbrev pub TakesOne : Taken T → Mouth T → Mouth T → Type 0
  TakesOne (Item from item) old new = TakesItem from item old new
  TakesOne (End from) old new = TakesEnd from old new
  TakesOne Empty old new = TakesNothing old new
