-- What stood in an output at each read of a reader.
use Rattle.std.specs.Prelude.{◌≡◌, ℕ, List, [], ◌∷◌, ◌++◌, ◌⊎◌, Option, Result, Ok, Err, take, flat_map}
use Rattle.std.specs.Io.KnownBytes.{Appends, Consumes}

-- A call of a reader for bytes: what an output is known to hold when it was made, all of it
-- flushed, and the bytes that it gave, none where it failed.
pub record FlushedRead : Type 0 where
  pub held : Option (List ℕ)
  pub given : List ℕ

-- the bytes that a read gave
abbrev pub bytes_given : {E : Type 0} → Result ℕ E → List ℕ → List ℕ
bytes_given (Ok count) buf = take count buf
bytes_given (Err _) buf = []

-- a read that gave this
abbrev pub flushed_read : {E : Type 0} → Option (List ℕ) → Result ℕ E → List ℕ → FlushedRead
flushed_read held result buf = record { held = held; given = bytes_given result buf }

-- the bytes that reads gave, one after another
abbrev pub given_by : List FlushedRead → List ℕ
given_by reads = flat_map (λ one. one.given) reads

-- These calls were made for some bytes, each where an output held just this: all but the last gave
-- nothing, as one that is interrupted, and the last gave these bytes.
abbrev pub AreCallsFor : Option (List ℕ) → List ℕ → List FlushedRead → Type 0
AreCallsFor held bytes [] = bytes ≡ []
AreCallsFor held bytes (one ∷ calls) =
    (one.held ≡ held) × ((one.given ≡ []) × AreCallsFor held bytes calls ⊎ (one.given ≡ bytes) × (calls ≡ []))

-- Whatever reads a reader had made, it made such calls besides: by the relation that it keeps.
abbrev pub MakesReads : {R : Type 0} → (R → List FlushedRead → R → Type 0) → Option (List ℕ) → R → R → List ℕ → Type 0
MakesReads {R} after held old new bytes =
    (start : R) (reads : List FlushedRead) → after start reads old
    → (calls : List FlushedRead) × AreCallsFor held bytes calls × after start (reads ++ calls) new

module _ (IsTextOf : List ℕ → List ℕ → Type 0) (first : Option (List ℕ)) where
  -- **At each of these reads, which come behind these bytes, just the text of all bytes that were
  -- read before stood flushed in an output** that held this at first.
  abbrev pub AreBehindText : List ℕ → List FlushedRead → Type 0
  AreBehindText bytes [] = Unit {0}
  AreBehindText bytes (one ∷ reads) = ((text : List ℕ) × IsTextOf bytes text × Appends first one.held text) × AreBehindText (bytes ++ one.given) reads

  -- so at all reads that a reader made since it was another one, by the relation that it keeps; of
  -- its known bytes these are left
  pub record ReadsBehindText {R : Type 0} (after : R → List FlushedRead → R → Type 0) (known left : Option (List ℕ)) (start end : R) : Type 0 where
    pub reads : List FlushedRead
    pub made : after start reads end
    pub behind : AreBehindText [] reads
    pub consumed : Consumes known left (given_by reads)
