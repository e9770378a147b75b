-- What an engine promises by some texts it promises by all that follow from them.
use Rattle.std.proofs.Common.{ℕ, List, Option, Some, None, Result, Ok, Err}
use Rattle.std.specs.Prelude.{IfSome}
use Rattle.engines.specs.declared.device.Device.{Device}
use Rattle.engines.specs.declared.fault.EngineFault.{EngineFault}
use Rattle.text_lines.specs.declared.fault.TextFault.{TextFault}
use Rattle.engines.specs.Engine.{WritesText, WritesFront, RunsEngine}

module _ (IsText IsOther : List ℕ → List ℕ → Type 0) (follows : (input text : List ℕ) → IsText input text → IsOther input text) where
  -- the whole text of a known input
  text_follows : (known old new : Option (List ℕ)) → IfSome known (WritesText IsText old new) → IfSome known (WritesText IsOther old new)
  text_follows None old new written = tt
  text_follows (Some input) old new written = (written.0, follows input written.0 written.1, written.2)

  -- a front of it
  front_follows : (known old new : Option (List ℕ)) → IfSome known (WritesFront IsText old new) → IfSome known (WritesFront IsOther old new)
  front_follows None old new written = tt
  front_follows (Some input) old new written = (written.0, follows input written.0 written.1, written.2, written.3)

-- so the whole promise
pub RunsEngine-weaker : {R W : Type 0} (remaining : R → Option (List ℕ)) (contents : W → Option (List ℕ)) (IsText IsOther : List ℕ → List ℕ → Type 0)
    (IsFault : List ℕ → TextFault → Type 0) (reader reader' : Device R) (writer writer' : Device W) (result : Result (Unit {0}) EngineFault)
    → ((input text : List ℕ) → IsText input text → IsOther input text) → RunsEngine remaining contents IsText IsFault reader reader' writer writer' result
    → RunsEngine remaining contents IsOther IsFault reader reader' writer writer' result
RunsEngine-weaker remaining contents IsText IsOther IsFault reader reader' writer writer' (Ok done) follows ran = record {
  written = text_follows IsText IsOther follows (remaining (reader.inner)) (contents (writer.inner)) (contents (writer'.inner)) ran.written;
  write_fault = λ is. absurd cc;
  nothing_written = tt;
  flushed = ran.flushed;
  cause = tt;
  no_cause = ran.no_cause;
  read_first = tt;
}
RunsEngine-weaker remaining contents IsText IsOther IsFault reader reader' writer writer' (Err fault) follows ran = record {
  written = tt;
  write_fault = λ is.
      front_follows IsText IsOther follows (remaining (reader.inner)) (contents (writer.inner)) (contents (writer'.inner)) (ran.write_fault is);
  nothing_written = ran.nothing_written;
  flushed = tt;
  cause = ran.cause;
  no_cause = tt;
  read_first = ran.read_first;
}
