-- What a consumer that keeps everything has.
use Rattle.std.specs.Prelude.{◌≡◌, ℕ, ◌==◌, IsTrue, Vec, List, [], ◌∷◌, ◌++◌, length, map, slice_index_or, if◌then◌else◌}
use Rattle.std.specs.declared.alloc.Global.{Global}
use Rattle.consumer.specs.declared.given.Given.{Given}
use Rattle.consumer.specs.declared.collected.Collected.{Collected}
use Rattle.consumer.specs.Given.{frames_of, requests_given}

-- the list of this index, and nothing where there is no list
abbrev pub list_at : {A : Type 0} → List (Vec A Global) → ℕ → List A
list_at lists k = slice_index_or (map (λ list. list.items) lists) k []

-- there are so many lists, and nothing is in them
pub record AreEmpty {A : Type 0} (count : ℕ) (lists : List (Vec A Global)) : Type 0 where
  pub many : length lists ≡ count
  pub empty : (k : ℕ) → list_at lists k ≡ []

-- there are so many flows and channels, nothing is kept of any, and nothing was left out
pub record HasNothing (flow_count channel_count : ℕ) (collected : Collected) : Type 0 where
  pub frames : AreEmpty flow_count collected.frames.items
  pub requests : AreEmpty channel_count collected.requests.items
  pub whole : IsTrue collected.whole

-- the item was appended to the list of this index, which is there; other lists are as they were
pub record Appends {A : Type 0} (lists : List (Vec A Global)) (index : ℕ) (item : A) (after : List (Vec A Global)) : Type 0 where
  pub many : length after ≡ length lists
  pub appended : (k : ℕ) → list_at after k ≡ list_at lists k ++ (if index == k then item ∷ [] else [])

-- of each flow the frames and of each channel the requests grew by just those that were given of it
pub record GrewBy (start : Collected) (given : List Given) (end : Collected) : Type 0 where
  pub flow_count : length end.frames.items ≡ length start.frames.items
  pub channel_count : length end.requests.items ≡ length start.requests.items
  pub frames : (k : ℕ) → list_at end.frames.items k ≡ list_at start.frames.items k ++ frames_of k given
  pub requests : (channel : ℕ) → list_at end.requests.items channel ≡ list_at start.requests.items channel ++ requests_given channel given

-- if nothing is left out at the end, nothing was at the start, and all that was given is kept
abbrev pub HasCollected : Collected → List Given → Collected → Type 0
HasCollected start given end = IsTrue end.whole → IsTrue start.whole × GrewBy start given end
