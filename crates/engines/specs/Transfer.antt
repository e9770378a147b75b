-- What is read from a device as a whole, and written to one.
use Rattle.std.specs.Prelude.{◌≡◌, ◌<◌, ◌≤◌, ◌⊎◌, ℕ, true, false, List, ◌++◌, Option}
use Rattle.std.specs.Io.KnownBytes.{Appends, IsAtEnd}
use Rattle.engines.specs.declared.device.Device.{Device}
use Rattle.engines.specs.Device.{has_failed, given_of, is_flushed}
use Rattle.engines.specs.Limits.{input_limit}

-- known bytes grew by a front of the text, and this is the rest of it
abbrev pub AppendsBefore : Option (List ℕ) → Option (List ℕ) → List ℕ → List ℕ → Type 0
AppendsBefore old new text rest = (went : List ℕ) × (text ≡ went ++ rest) × Appends old new went

-- known bytes grew by a front of the text
abbrev pub AppendsFront : Option (List ℕ) → Option (List ℕ) → List ℕ → Type 0
AppendsFront old new text = (rest : List ℕ) × AppendsBefore old new text rest

-- a writer was not used, or a flush of it ended well after the last write
abbrev pub IsLeftFlushed : {T : Type 0} → Device T → Device T → Type 0
IsLeftFlushed writer writer' = (writer' ≡ writer) ⊎ (is_flushed writer' ≡ true)

-- a reader failed, or gave more bytes than an engine reads
abbrev pub IsReadFault : {T : Type 0} → Device T → Type 0
IsReadFault device = (has_failed device ≡ true) ⊎ (input_limit < given_of device)

-- a reader did not fail, and gave no more than an engine reads
abbrev pub IsRead : {T : Type 0} → Device T → Type 0
IsRead device = (has_failed device ≡ false) × (given_of device ≤ input_limit)

-- a reader was read to its end: it did not fail and gave no more than an engine reads, and nothing
-- is left of the bytes that it is known to have
abbrev pub IsReadToEnd : {T : Type 0} → Device T → Option (List ℕ) → Type 0
IsReadToEnd device left = IsRead device × IsAtEnd left
