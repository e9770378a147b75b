-- A text that was written to a device.
use Rattle.std.specs.Prelude.{◌≡◌, ◌≢◌, ℕ, List, [], Option, true, Result, OnOk, OnErr}
use Rattle.std.specs.Io.KnownBytes.{Appends}
use Rattle.engines.specs.declared.device.Device.{Device}
use Rattle.engines.specs.declared.fault.WriteFault.{WriteFault}
use Rattle.engines.specs.Device.{inner_of, has_failed, is_flushed}
use Rattle.engines.specs.Transfer.{AppendsFront, IsLeftFlushed}

module _ {W : Type 0} (contents : W → Option (List ℕ)) where
  -- A text was written to a device and flushed; an empty one was neither. Where that failed, a
  -- front of a text that isn't empty went out.
  pub record IsWritten (text : List ℕ) (writer writer' : Device W) (result : Result (Unit {0}) WriteFault) : Type 0 where
    pub written : OnOk result (Appends (contents (inner_of writer)) (contents (inner_of writer')) text)
    pub left_flushed : OnOk result (IsLeftFlushed writer writer')
    pub flushed : OnOk result (text ≢ [] → is_flushed writer' ≡ true)
    pub untouched : text ≡ [] → writer' ≡ writer
    pub sound : OnOk result (has_failed writer' ≡ has_failed writer)
    pub some : OnErr result (text ≢ [])
    pub front : OnErr result (AppendsFront (contents (inner_of writer)) (contents (inner_of writer')) text)
    pub failed : OnErr result (has_failed writer' ≡ true)
