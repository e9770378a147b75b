-- A text that is written to a device as it is put.
use Rattle.std.specs.Prelude.{◌≡◌, ◌≢◌, ℕ, List, [], ◌++◌, Option, true, Result}
use Rattle.docsis_wire.specs.CutUnderWay.{CutUnderWay}
use Rattle.texts.specs.Cut.{IsPrinted}
use Rattle.engines.specs.declared.device.Device.{Device}
use Rattle.engines.specs.declared.fault.WriteFault.{WriteFault}
use Rattle.engines.specs.declared.text_writer.TextWriter.{TextWriter}
use Rattle.engines.specs.declared.text_writer.Stage.{Stage}
use Rattle.engines.specs.declared.text_writer.Stage.TheVariants.{Unused, Writing, Failed}
use Rattle.engines.specs.Device.{inner_of, has_failed}
use Rattle.engines.specs.Transfer.{AppendsBefore, AppendsFront}
use Rattle.engines.specs.Writing.{IsWritten}

module _ {W : Type 0} (contents : W → Option (List ℕ)) where
  -- how far a text has come: nothing was put, and the device is as it was; or a front went out and
  -- the rest is held back; or a write failed, and a front went out
  abbrev pub HasCome : Stage → Device W → List ℕ → Device W → List ℕ → Type 0
  HasCome Unused writer text writer' held = (text ≡ []) × (held ≡ []) × (writer' ≡ writer)
  HasCome Writing writer text writer' held =
      (text ≢ []) × AppendsBefore (contents (inner_of writer)) (contents (inner_of writer')) text held × (has_failed writer' ≡ has_failed writer)
  HasCome Failed writer text writer' held = (text ≢ []) × AppendsFront (contents (inner_of writer)) (contents (inner_of writer')) text × (has_failed writer' ≡ true)

  -- since this start just this text was put to the same device
  pub record HasWritten (start : TextWriter W) (text : List ℕ) (end : TextWriter W) : Type 0 where
    pub same : end.writer.ghost_name ≡ start.writer.ghost_name
    pub come : HasCome end.stage start.writer.now text end.writer.now end.held.now.items

  -- these bytes were held back or written, behind those that had been held back
  abbrev pub Takes : TextWriter W → List ℕ → TextWriter W → Stage → Type 0
  Takes old bytes new Unused = ⊥
  Takes old bytes new Writing =
      AppendsBefore (contents (inner_of old.writer.now)) (contents (inner_of new.writer.now)) (old.held.now.items ++ bytes) new.held.now.items
      × (has_failed new.writer.now ≡ has_failed old.writer.now)
  Takes old bytes new Failed =
      AppendsFront (contents (inner_of old.writer.now)) (contents (inner_of new.writer.now)) (old.held.now.items ++ bytes) × (has_failed new.writer.now ≡ true)

  -- the lines of all segments of a cut were written, or a front of them
  abbrev pub IsWrittenCut : CutUnderWay → Device W → Device W → Result (Unit {0}) WriteFault → Type 0
  IsWrittenCut cut writer writer' result = (text : List ℕ) × IsPrinted cut text × IsWritten contents text writer writer' result
