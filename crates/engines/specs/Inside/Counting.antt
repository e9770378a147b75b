-- A device that counts what it gave.
use Rattle.std.specs.Prelude.{ℕ, ◌+◌, ◌-◌, ◌^◌, min}
use Rattle.engines.specs.declared.device.Device.{Device}

-- a device that gave so many bytes more
abbrev pub with_given : {T : Type 0} → Device T → ℕ → Device T
with_given device count = record device { given = min (device.given + count) (2 ^ 64 - 1) }
