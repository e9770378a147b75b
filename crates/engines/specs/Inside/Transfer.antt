-- What a reader gave so far.
use Rattle.std.specs.Prelude.{◌≡◌, ◌≤◌, ℕ, false}
use Rattle.engines.specs.declared.device.Device.{Device}
use Rattle.engines.specs.Device.{has_failed, given_of}
use Rattle.engines.specs.Limits.{input_limit}

-- a reader did not fail, and gave just so many bytes, no more than an engine reads
abbrev pub IsCounted : {T : Type 0} → Device T → ℕ → Type 0
IsCounted device count = (has_failed device ≡ false) × (given_of device ≡ count) × (count ≤ input_limit)
