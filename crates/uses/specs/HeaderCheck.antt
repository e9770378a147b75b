use Rattle.std.specs.Prelude.{◌≡◌, Option, None, List, ℕ, take, MatchBool}
use Rattle.docsis_wire.specs.Limits.{header_length}
use Rattle.docsis_wire.specs.Checks.{ends_with_its_sequence}
use Rattle.ccf.specs.declared.joiner.Fed.{Fed}
use Rattle.uses.specs.Burst.{TakesBurst}

-- What a burst does to a joiner where check sequences are looked at: only a segment whose header
-- ends with its own is fed, and of frames' headers the joiner asks the same.
abbrev pub TakesCheckedBurst : List ℕ → List ℕ → Option Fed → List ℕ → Type 0
TakesCheckedBurst bytes before fed after =
    MatchBool (ends_with_its_sequence (take header_length bytes))
    (TakesBurst ends_with_its_sequence bytes before fed after)
    ((fed ≡ None) × (after ≡ before))
