-- What an engine promises follows from what became of its lines and of its text.
use Rattle.std.proofs.Common.{◌≡◌, ◌≢◌, ℕ, List, [], Option, Some, None, Ok, Err, false, refl, subst, ◌∙◌, arith}
use Rattle.std.specs.Prelude.{IfSome}
use Rattle.std.specs.Io.KnownBytes.{Appends}
use Rattle.std.proofs.KnownBytes.{Keeps-refl}
use Rattle.text_lines.specs.declared.fault.TextFault.{TextFault}
use Rattle.text_lines.specs.declared.fault.TextFault.TheVariants as text_fault
use Rattle.text_lines.specs.Format.{Format}
use Rattle.engines.specs.declared.device.Device.{Device}
use Rattle.engines.specs.declared.fault.WriteFault.{WriteFault}
use Rattle.engines.specs.declared.fault.EngineFault.{EngineFault}
use Rattle.engines.specs.declared.fault.EngineFault.TheVariants.{Trace, Cut, Capture, OutOfMemory, Read, Write, Usage}
use Rattle.engines.specs.Device.{inner_of, has_failed, IsFresh}
use Rattle.engines.specs.Engine.{engine_fault, WritesText, WritesFront, IsReadBefore, HasCause, RunsEngine}
use Rattle.engines.specs.Transfer.{AppendsFront, IsReadToEnd}
use Rattle.engines.specs.LinesRead.{IsLinesFault, HasLinesCause}
use Rattle.engines.specs.Writing.{IsWritten}

module _ {R W : Type 0} (remaining : R → Option (List ℕ)) (contents : W → Option (List ℕ)) (IsTextOf : List ℕ → List ℕ → Type 0)
    (IsFaultOf : List ℕ → TextFault → Type 0) where
  module _ {State : Type 0} (format : Format State) (start : State)
      (faulty : (input : List ℕ) (fault : TextFault) → IsLinesFault format start input fault → IsFaultOf input fault) where
    -- why lines were not read is why there is no text
    cause_of_lines : (known : Option (List ℕ)) (reader : Device R) (writer : Device W) (fault : EngineFault) → HasLinesCause format start known reader fault
        → HasCause IsFaultOf known reader writer fault
    cause_of_lines known reader writer (Trace fault) cause = (cause.0, cause.1, faulty cause.0 _ cause.2)
    cause_of_lines known reader writer (Cut fault) cause = absurd cause
    cause_of_lines known reader writer OutOfMemory cause = tt
    cause_of_lines known reader writer Read cause = cause
    cause_of_lines known reader writer Write cause = absurd cause
    cause_of_lines known reader writer Usage cause = absurd cause
    cause_of_lines known reader writer (Capture fault) cause = absurd cause

    no_write : (known : Option (List ℕ)) (reader : Device R) (fault : EngineFault) → HasLinesCause format start known reader fault → fault ≢ Write
    no_write known reader (Trace fault) cause is = cc
    no_write known reader (Cut fault) cause is = cc
    no_write known reader OutOfMemory cause is = cc
    no_write known reader Read cause is = cc
    no_write known reader Write cause is = absurd cause
    no_write known reader Usage cause is = cc
    no_write known reader (Capture fault) cause is = cc

    -- lines that were not read: nothing was written
    pub ran-unread : (reader reader' : Device R) (writer : Device W) (fault : EngineFault) → HasLinesCause format start (remaining (inner_of reader)) reader' fault
        → IsReadBefore reader' (remaining (inner_of reader')) fault
        → RunsEngine remaining contents IsTextOf IsFaultOf reader reader' writer writer (Err fault)
    ran-unread reader reader' writer fault cause before = record {
      written = tt;
      write_fault = λ is. absurd (no_write (remaining (inner_of reader)) reader' fault cause cc);
      nothing_written = λ other. Keeps-refl (contents (inner_of writer));
      flushed = tt;
      cause = cause_of_lines (remaining (inner_of reader)) reader' writer fault cause;
      no_cause = tt;
      read_first = before;
    }

  -- an allocation failed before anything was read
  pub ran-refused : (reader : Device R) (writer : Device W) → IsFresh reader → RunsEngine remaining contents IsTextOf IsFaultOf reader reader writer writer (Err OutOfMemory)
  ran-refused reader writer fresh = record {
    written = tt;
    write_fault = λ is. absurd cc;
    nothing_written = λ other. Keeps-refl (contents (inner_of writer));
    flushed = tt;
    cause = tt;
    no_cause = tt;
    read_first = λ other. ((fresh.0, (let none = fresh.1 in omega arith)), (λ not. absurd (not refl)));
  }

  -- the text of what is known was written
  text_of_known : (known old new : Option (List ℕ)) (input text : List ℕ) → IfSome known (λ bytes. input ≡ bytes) → IsTextOf input text → Appends old new text
      → IfSome known (WritesText IsTextOf old new)
  text_of_known None old new input text is stands written = tt
  text_of_known (Some bytes) old new input text is stands written = (text, subst (λ one. IsTextOf one text) is stands, written)

  -- a front of it
  front_of_known : (known old new : Option (List ℕ)) (input text : List ℕ) → IfSome known (λ bytes. input ≡ bytes) → IsTextOf input text → text ≢ []
      → AppendsFront old new text → IfSome known (WritesFront IsTextOf old new)
  front_of_known None old new input text is stands some written = tt
  front_of_known (Some bytes) old new input text is stands some written = (text, subst (λ one. IsTextOf one text) is stands, some, written)

  module _ (reader reader' : Device R) (writer writer' : Device W) (input text : List ℕ) (is : IfSome (remaining (inner_of reader)) (λ bytes. input ≡ bytes))
      (stands : IsTextOf input text) (end : IsReadToEnd reader' (remaining (inner_of reader'))) where
    -- the text was written
    pub ran-written : (done : Unit {0}) → has_failed writer ≡ false → IsWritten contents text writer writer' (Ok done)
        → RunsEngine remaining contents IsTextOf IsFaultOf reader reader' writer writer' (Ok done)
    ran-written done sound wrote = record {
      written = text_of_known (remaining (inner_of reader)) (contents (inner_of writer)) (contents (inner_of writer')) input text is stands wrote.written;
      write_fault = λ err. absurd cc;
      nothing_written = tt;
      flushed = wrote.left_flushed;
      cause = tt;
      no_cause = (end, wrote.sound ∙ sound);
      read_first = tt;
    }

    -- the writer failed
    pub ran-failed : (fault : WriteFault) → IsWritten contents text writer writer' (Err fault)
        → RunsEngine remaining contents IsTextOf IsFaultOf reader reader' writer writer' (Err Write)
    ran-failed fault wrote = record {
      written = tt;
      write_fault = λ err.
          front_of_known (remaining (inner_of reader)) (contents (inner_of writer)) (contents (inner_of writer')) input text is stands wrote.some wrote.front;
      nothing_written = λ other. absurd (other refl);
      flushed = tt;
      cause = wrote.failed;
      no_cause = tt;
      read_first = λ other. (end.0, λ more. end.1);
    }

  -- an input that was read to its end has a fault: nothing was written
  module _ (reader reader' : Device R) (writer : Device W) (input : List ℕ) (is : IfSome (remaining (inner_of reader)) (λ bytes. input ≡ bytes))
      (end : IsReadToEnd reader' (remaining (inner_of reader'))) where
    cause_of_fault : (fault : TextFault) → IsFaultOf input fault → HasCause IsFaultOf (remaining (inner_of reader)) reader' writer (engine_fault fault)
    cause_of_fault (text_fault.Trace fault) faulty = (input, is, faulty)
    cause_of_fault (text_fault.Cut fault) faulty = (input, is, faulty)
    cause_of_fault text_fault.OutOfMemory faulty = tt

    no_write_fault : (fault : TextFault) → engine_fault fault ≢ Write
    no_write_fault (text_fault.Trace fault) same = cc
    no_write_fault (text_fault.Cut fault) same = cc
    no_write_fault text_fault.OutOfMemory same = cc

    pub ran-faulty : (fault : TextFault) → IsFaultOf input fault → RunsEngine remaining contents IsTextOf IsFaultOf reader reader' writer writer (Err (engine_fault fault))
    ran-faulty fault faulty = record {
      written = tt;
      write_fault = λ same. absurd (no_write_fault fault cc);
      nothing_written = λ other. Keeps-refl (contents (inner_of writer));
      flushed = tt;
      cause = cause_of_fault fault faulty;
      no_cause = tt;
      read_first = λ other. (end.0, λ more. end.1);
    }
