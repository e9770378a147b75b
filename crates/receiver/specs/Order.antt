-- The order in which the items of five senders are taken.
use Rattle.std.specs.Prelude.{◌≡◌, ℕ, ◌<◌, ◌≤◌, ◌⊎◌, ◌==◌, Bool, Some, List, [], ◌∷◌, length, take, All, count_by, slice_get, slice_index_or, if◌then◌else◌}
use Rattle.flow_records.specs.Setup.{IsLeast}
use Rattle.lane.specs.Limits.{senders}

-- how often a sender stands in an order
abbrev pub times_of : ℕ → List ℕ → ℕ
times_of sender order = count_by (λ tag. tag == sender) order

-- A lawful order of lists of these lengths: each place names a sender, and each sender stands in it
-- as often as its list has items.
pub record IsLawfulOrder (lengths order : List ℕ) : Type 0 where
  pub named : All (λ tag. tag < senders) order
  pub whole : (sender : ℕ) → sender < senders → times_of sender order ≡ slice_index_or lengths sender 0

-- place k names no sender, or one whose list is used up
abbrev pub IsBadPlace : List ℕ → List ℕ → ℕ → Type 0
IsBadPlace lengths order k =
    (tag : ℕ) × (slice_get order k ≡ Some tag)
    × ((senders ≤ tag) ⊎ (slice_index_or lengths tag 0 ≤ times_of tag (take k order)))

-- The fault of an order: its first bad place; or its length, where no place is bad and items are
-- left over.
abbrev pub IsOrderFault : List ℕ → List ℕ → ℕ → Type 0
IsOrderFault lengths order k =
    IsLeast (IsBadPlace lengths order) k
    ⊎ (((j : ℕ) → ¬ (IsBadPlace lengths order j)) × (k ≡ length order)
    × ((sender : ℕ) × (sender < senders) × (times_of sender order < slice_index_or lengths sender 0)))

-- how many items each of the five senders has
abbrev pub lengths_of : {T : Type 0} → (ℕ → List T) → List ℕ
lengths_of lists = length (lists 0) ∷ length (lists 1) ∷ length (lists 2) ∷ length (lists 3) ∷ length (lists 4) ∷ []

module _ {T : Type 0} where
  -- the items that stand where the order names a sender
  abbrev pub picked : ℕ → List ℕ → List T → List T
  picked sender [] items = []
  picked sender (tag ∷ order) [] = []
  picked sender (tag ∷ order) (item ∷ items) = if sender == tag then item ∷ picked sender order items else picked sender order items

  -- The lists of five senders in one order: each place has a sender and an item, and the items of
  -- each sender are its list, in its order.
  pub record IsMergeOf (lists : ℕ → List T) (order : List ℕ) (items : List T) : Type 0 where
    pub named : All (λ tag. tag < senders) order
    pub paired : length order ≡ length items
    pub lists_are : (sender : ℕ) → sender < senders → picked sender order items ≡ lists sender

-- the places of an order that are kept, by their flags
abbrev pub kept_places : List ℕ → List Bool → List ℕ
kept_places [] flags = []
kept_places (tag ∷ order) [] = []
kept_places (tag ∷ order) (flag ∷ flags) = if flag then tag ∷ kept_places order flags else kept_places order flags
