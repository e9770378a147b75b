-- What an engine writes for the input that it reads, and why it could not.
use Rattle.std.specs.Prelude.{◌≡◌, ◌≢◌, ℕ, List, [], Option, true, false, Result, Err, IfSome, IfErr, OnOk}
use Rattle.std.specs.Io.KnownBytes.{Appends, Keeps, IsAtEnd}
use Rattle.engines.specs.declared.device.Device.{Device}
use Rattle.text_lines.specs.declared.fault.TextFault.{TextFault}
use Rattle.text_lines.specs.declared.fault.TextFault.TheVariants as text_fault
use Rattle.engines.specs.declared.fault.EngineFault.{EngineFault}
use Rattle.engines.specs.declared.fault.EngineFault.TheVariants.{Trace, Cut, Capture, OutOfMemory, Read, Write, Usage}
use Rattle.engines.specs.Device.{inner_of, has_failed}
use Rattle.engines.specs.Transfer.{AppendsFront, IsLeftFlushed, IsReadFault, IsRead, IsReadToEnd}

-- what an engine reports where no text stands for its input
abbrev pub engine_fault : TextFault → EngineFault
engine_fault (text_fault.Trace fault) = Trace fault
engine_fault (text_fault.Cut fault) = Cut fault
engine_fault text_fault.OutOfMemory = OutOfMemory

-- known bytes grew by exactly the text that stands for an input
abbrev pub WritesText : (List ℕ → List ℕ → Type 0) → Option (List ℕ) → Option (List ℕ) → List ℕ → Type 0
WritesText IsTextOf old new input = (text : List ℕ) × IsTextOf input text × Appends old new text

-- known bytes grew by a front of the text that stands for an input, and that text is not empty
abbrev pub WritesFront : (List ℕ → List ℕ → Type 0) → Option (List ℕ) → Option (List ℕ) → List ℕ → Type 0
WritesFront IsTextOf old new input = (text : List ℕ) × IsTextOf input text × (text ≢ []) × AppendsFront old new text

-- an input, the known one where it is known, has this fault
abbrev pub IsFaultOfKnown : (List ℕ → TextFault → Type 0) → Option (List ℕ) → TextFault → Type 0
IsFaultOfKnown IsFaultOf known fault = (input : List ℕ) × IfSome known (λ bytes. input ≡ bytes) × IsFaultOf input fault

-- why this writer did not get the whole text of what this reader gives, by the faults that an input
-- has
abbrev pub HasCause : {R W : Type 0} → (List ℕ → TextFault → Type 0) → Option (List ℕ) → Device R → Device W → EngineFault → Type 0
HasCause IsFaultOf known reader writer (Trace fault) = IsFaultOfKnown IsFaultOf known (text_fault.Trace fault)
HasCause IsFaultOf known reader writer (Cut fault) = IsFaultOfKnown IsFaultOf known (text_fault.Cut fault)
HasCause IsFaultOf known reader writer OutOfMemory = Unit {0}
HasCause IsFaultOf known reader writer Read = IsReadFault reader
HasCause IsFaultOf known reader writer Write = has_failed writer ≡ true
HasCause IsFaultOf known reader writer Usage = ⊥
HasCause IsFaultOf known reader writer (Capture fault) = ⊥

-- how far a reader was read where a fault is reported: unless it is `Read`, the reader did not fail
-- and gave no more than an engine reads, and unless an allocation failed it was read to its end
abbrev pub IsReadBefore : {R : Type 0} → Device R → Option (List ℕ) → EngineFault → Type 0
IsReadBefore reader left fault = fault ≢ Read → IsRead reader × (fault ≢ OutOfMemory → IsAtEnd left)

-- what an engine promises, by the texts and the faults that an input has: `remaining` are the bytes
-- that a reader is known to have left, `contents` those that a writer is known to hold
pub record RunsEngine {R W : Type 0} (remaining : R → Option (List ℕ)) (contents : W → Option (List ℕ))
    (IsTextOf : List ℕ → List ℕ → Type 0) (IsFaultOf : List ℕ → TextFault → Type 0)
    (reader reader' : Device R) (writer writer' : Device W) (result : Result (Unit {0}) EngineFault) : Type 0 where
  -- where the reader's bytes are known, exactly their text is written, a front of it where the
  -- writer fails, and nothing on any other fault
  pub written : OnOk result (IfSome (remaining (inner_of reader)) (WritesText IsTextOf (contents (inner_of writer)) (contents (inner_of writer'))))
  pub write_fault : result ≡ Err Write → IfSome (remaining (inner_of reader)) (WritesFront IsTextOf (contents (inner_of writer)) (contents (inner_of writer')))
  pub nothing_written : IfErr result (λ fault. fault ≢ Write → Keeps (contents (inner_of writer)) (contents (inner_of writer')))
  -- without a fault all that was written is flushed
  pub flushed : OnOk result (IsLeftFlushed writer writer')
  -- each fault has its cause, and without a fault there is none
  pub cause : IfErr result (HasCause IsFaultOf (remaining (inner_of reader)) reader' writer')
  pub no_cause : OnOk result (IsReadToEnd reader' (remaining (inner_of reader')) × (has_failed writer' ≡ false))
  pub read_first : IfErr result (IsReadBefore reader' (remaining (inner_of reader')))
