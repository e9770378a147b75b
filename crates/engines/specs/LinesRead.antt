-- What is made of the lines that a reader gives, and why that failed.
use Rattle.std.specs.Prelude.{◌≡◌, ◌≤◌, ℕ, List, length, Option, IfSome}
use Rattle.text_lines.specs.declared.fault.TextFault.{TextFault}
use Rattle.text_lines.specs.declared.fault.TextFault.TheVariants as text_fault
use Rattle.text_lines.specs.Format.{Format, IsRead, IsFirstFaultyLine}
use Rattle.text_lines.specs.Lines.{lines_of}
use Rattle.engines.specs.declared.device.Device.{Device}
use Rattle.engines.specs.declared.fault.EngineFault.{EngineFault}
use Rattle.engines.specs.declared.fault.EngineFault.TheVariants.{Trace, Cut, Capture, OutOfMemory, Read, Write, Usage}
use Rattle.engines.specs.Engine.{IsFaultOfKnown}
use Rattle.engines.specs.Limits.{input_limit}
use Rattle.engines.specs.Transfer.{IsReadFault}

-- the lines of an input, the known one where it is known, were read to what this stands for; it is
-- no longer than an engine reads
pub record HasReadLines {State Taker : Type 0} (format : Format State) (start : State) (stands_for : State → Taker → Type 0) (known : Option (List ℕ))
    (taker : Taker) : Type 0 where
  pub input : List ℕ
  pub is : IfSome known (λ bytes. input ≡ bytes)
  pub state : State
  pub read : IsRead format start (lines_of input) state
  pub stands : stands_for state taker
  pub few : length input ≤ input_limit

-- why the lines of an input were not read: the first faulty one, or a failed allocation
abbrev pub IsLinesFault : {State : Type 0} → Format State → State → List ℕ → TextFault → Type 0
IsLinesFault format start input (text_fault.Trace fault) = IsFirstFaultyLine format start (lines_of input) fault
IsLinesFault format start input (text_fault.Cut fault) = ⊥
IsLinesFault format start input text_fault.OutOfMemory = Unit {0}

-- why what a reader gives was not read: a faulty line of an input, the known one where it is known,
-- a failed allocation, or the reader
abbrev pub HasLinesCause : {State R : Type 0} → Format State → State → Option (List ℕ) → Device R → EngineFault → Type 0
HasLinesCause format start known reader (Trace fault) = IsFaultOfKnown (IsLinesFault format start) known (text_fault.Trace fault)
HasLinesCause format start known reader (Cut fault) = ⊥
HasLinesCause format start known reader OutOfMemory = Unit {0}
HasLinesCause format start known reader Read = IsReadFault reader
HasLinesCause format start known reader Write = ⊥
HasLinesCause format start known reader Usage = ⊥
HasLinesCause format start known reader (Capture fault) = ⊥
