use Rattle.std.specs.Prelude.{◌≡◌, ℕ, ◌+◌, ◌<◌, ◌≤◌, List, length, take}
use Rattle.std.specs.List.{concat}

-- Where the k-th of some byte strings begins when they stand end to end. A modem's frames, end to
-- end, are its byte stream: frame j has the places from place_of frames j up to, not including,
-- place_of frames (j + 1). So have the chunks that a cut makes of the stream.
abbrev pub place_of : List (List ℕ) → ℕ → ℕ
place_of pieces k = length (concat (take k pieces))

-- a frame starts at this place of the stream
abbrev pub StartsAt : List (List ℕ) → ℕ → Type 0
StartsAt frames place = (j : ℕ) × (j < length frames) × (place_of frames j ≡ place)

-- a frame ends just before this place of the stream, or it is the stream's first
abbrev pub IsBoundary : List (List ℕ) → ℕ → Type 0
IsBoundary frames place = (j : ℕ) × (j ≤ length frames) × (place_of frames j ≡ place)

-- the last byte of frame j lies in chunk i
abbrev pub EndsIn : List (List ℕ) → List (List ℕ) → ℕ → ℕ → Type 0
EndsIn frames chunks j i = (place_of chunks i < place_of frames (j + 1)) × (place_of frames (j + 1) ≤ place_of chunks (i + 1))
