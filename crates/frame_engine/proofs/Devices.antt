-- What joining a capture promises follows from what became of its pieces and of its end.
use Rattle.std.proofs.Common.{◌≡◌, ◌≢◌, ℕ, ◌-◌, ◌^◌, ◌≤◌, ◌⊎◌, inl, inr, Option, Some, None, Result, Ok, Err, true, false, List, [], ◌++◌, refl, sym, ap, subst, ◌∙◌, append-nil}
use Rattle.std.specs.Prelude.{IfSome, MatchResult}
use Rattle.std.specs.Io.KnownBytes.{Appends, Keeps, Consumes, IsAtEnd}
use Rattle.std.proofs.KnownBytes.{Appends-nil, Appends-trans, Consumes-nil, Consumes-trans, Consumes-kept, Consumes-all}
use Rattle.capture_map.specs.declared.map.CaptureMap.{CaptureMap}
use Rattle.engines.specs.declared.device.Device.{Device}
use Rattle.engines.specs.declared.fault.EngineFault.{EngineFault}
use Rattle.engines.specs.declared.fault.EngineFault.TheVariants.{Trace, Cut, Capture, OutOfMemory, Read, Write, Usage}
use Rattle.engines.specs.declared.fault.PlacedFault.{PlacedFault}
use Rattle.engines.specs.Device.{inner_of, has_failed, given_of, is_read_behind_flushes}
use Rattle.engines.specs.Engine.{WritesText}
use Rattle.engines.specs.Transfer.{AppendsFront, IsLeftFlushed}
use Rattle.engines.proofs.FollowedDevices.{flushed_then}
use Rattle.engines.proofs.WrittenText.{AppendsFront-behind}
use Rattle.frame_engine.specs.declared.settings.CaptureSettings.{CaptureSettings}
use Rattle.frame_engine.specs.declared.frame_reading.FrameReading.{FrameReading}
use Rattle.frame_engine.specs.Joined.{IsJoinedFile}
use Rattle.frame_engine.specs.Joining.{IsFaultBehind, within, at_end, HasJoinCause, IsJoinedTill, not_begun, so_far, IsJoinedOf, JoinsCapture}
use Rattle.frame_engine.specs.Inside.Joins.{HasReadBytes, IsFileTill, IsJoinFault, IsJoinFaultOr, WritesTill, WritesAll, EndsBy}
use Rattle.frame_engine.proofs.Reading.{till-here, bytes-written}

module _ {R W : Type 0} (remaining : R → Option (List ℕ)) (contents : W → Option (List ℕ)) (settings : CaptureSettings) (capture_map : CaptureMap) where
  -- So far these bytes were read and joined, and what came of them was written and flushed.
  pub record JoinsSoFar (reader reader' : Device R) (writer writer' : Device W) (reading : FrameReading) : Type 0 where
    pub bytes : List ℕ
    pub text : List ℕ
    pub has : HasReadBytes settings capture_map bytes text reading
    pub empty : reading.joining.file.bytes.items ≡ []
    pub read : Consumes (remaining (inner_of reader)) (remaining (inner_of reader')) bytes
    pub wrote : Appends (contents (inner_of writer)) (contents (inner_of writer')) text
    pub flushed : IsLeftFlushed writer writer'
    pub sound : has_failed writer' ≡ has_failed writer
    pub read_sound : has_failed reader' ≡ has_failed reader

  module _ (reader : Device R) (writer : Device W) where
    -- an allocation failed before anything was read
    pub capture-refused : is_read_behind_flushes reader ≡ true → JoinsCapture settings capture_map remaining contents reader reader writer writer (Err OutOfMemory)
    capture-refused behind = record {
      written = tt;
      above = λ other. ([], record { bytes = []; read = Consumes-nil (remaining (inner_of reader)); till = not_begun refl refl }, Appends-nil (contents (inner_of writer)));
      write_fault = λ is. absurd cc;
      flushed = tt;
      flushed_above = λ other. inl refl;
      behind_flushes = behind;
      cause = tt;
      no_cause = tt;
    }

    -- nothing was read, and the header was written
    pub far-begun : (writer' : Device W) (old new : FrameReading) → HasReadBytes settings capture_map [] [] old
        → new ≡ record old { joining = record old.joining { file = new.joining.file } } → new.joining.file.link ≡ old.joining.file.link
        → new.joining.file.channels ≡ old.joining.file.channels → new.joining.file.bytes.items ≡ []
        → Appends (contents (inner_of writer)) (contents (inner_of writer')) old.joining.file.bytes.items → IsLeftFlushed writer writer'
        → has_failed writer' ≡ has_failed writer → JoinsSoFar reader reader writer writer' new
    far-begun writer' old new has is link channels none wrote flushed sound = record {
      bytes = [];
      text = old.joining.file.bytes.items;
      has = bytes-written settings capture_map [] [] old new has is link channels none;
      empty = none;
      read = Consumes-nil (remaining (inner_of reader));
      wrote = wrote;
      flushed = flushed;
      sound = sound;
      read_sound = refl;
    }

    -- or the writer failed
    pub capture-unheaded : (writer' : Device W) (reading : FrameReading) → HasReadBytes settings capture_map [] [] reading
        → AppendsFront (contents (inner_of writer)) (contents (inner_of writer')) reading.joining.file.bytes.items → has_failed writer' ≡ true
        → is_read_behind_flushes reader ≡ true → JoinsCapture settings capture_map remaining contents reader reader writer writer' (Err Write)
    capture-unheaded writer' reading has front failed behind =
        let till = till-here settings capture_map [] [] [] Write reading reading.joining.file.bytes.items has tt refl in
        record {
          written = tt;
          above = λ other. absurd (other refl);
          write_fault = λ _. (
            reading.joining.file.bytes.items,
            inr (record { bytes = []; read = Consumes-nil (remaining (inner_of reader)); till = so_far till.records till.rest till.are till.behind till.joined }),
            front,
          );
          flushed = tt;
          flushed_above = λ other. absurd (other refl);
          behind_flushes = behind;
          cause = failed;
          no_cause = tt;
        }

    -- a file that ends here
    abbrev till_of : (bytes : List ℕ) (fault : EngineFault) (text : List ℕ) → IsFileTill settings capture_map bytes fault text → IsJoinedTill settings capture_map bytes fault text
    till_of bytes fault text till = so_far till.records till.rest till.are till.behind till.joined

    module _ (reader' : Device R) (writer' : Device W) (reading : FrameReading) (far : JoinsSoFar reader reader' writer writer' reading) where
      till_now : (fault : EngineFault) → fault ≡ Read → IsFileTill settings capture_map far.bytes fault far.text
      till_now fault is =
          subst (λ (all : List ℕ). IsFileTill settings capture_map all fault far.text) (append-nil far.bytes)
          (subst (λ (fault : EngineFault). IsFileTill settings capture_map (far.bytes ++ []) fault far.text) (sym is)
          (till-here settings capture_map far.bytes [] far.text Read reading far.text far.has refl
          (sym (ap (λ (items : List ℕ). far.text ++ items) far.empty ∙ append-nil far.text))))

      -- the reader failed, or gave as much as can be counted
      pub capture-unread : (reader'' : Device R) → Keeps (remaining (inner_of reader')) (remaining (inner_of reader''))
          → (has_failed reader'' ≡ true) ⊎ (2 ^ 64 - 1 ≤ given_of reader'') → is_read_behind_flushes reader'' ≡ true
          → JoinsCapture settings capture_map remaining contents reader reader'' writer writer' (Err Read)
      capture-unread reader'' kept cause behind = record {
        written = tt;
        above = λ other. (
          far.text,
          record {
            bytes = far.bytes;
            read = Consumes-kept (remaining (inner_of reader)) (remaining (inner_of reader')) (remaining (inner_of reader'')) far.bytes far.read kept;
            till = till_of far.bytes Read far.text (till_now Read refl);
          },
          far.wrote,
        );
        write_fault = λ is. absurd cc;
        flushed = tt;
        flushed_above = λ other. far.flushed;
        behind_flushes = behind;
        cause = cause;
        no_cause = tt;
      }

      -- what was written before, and a front of more
      wrote_front : (writer'' : Device W) (more : List ℕ) → AppendsFront (contents (inner_of writer')) (contents (inner_of writer'')) more
          → AppendsFront (contents (inner_of writer)) (contents (inner_of writer'')) (far.text ++ more)
      wrote_front writer'' more front =
          AppendsFront-behind (contents (inner_of writer)) (contents (inner_of writer')) (contents (inner_of writer'')) far.text more far.wrote front

      wrote_both : (writer'' : Device W) (more : List ℕ) → Appends (contents (inner_of writer')) (contents (inner_of writer'')) more
          → Appends (contents (inner_of writer)) (contents (inner_of writer'')) (far.text ++ more)
      wrote_both writer'' more wrote =
          Appends-trans (contents (inner_of writer)) (contents (inner_of writer')) (contents (inner_of writer'')) far.text more far.wrote wrote

      module _ (reader'' : Device R) (piece : List ℕ) (read : Consumes (remaining (inner_of reader')) (remaining (inner_of reader'')) piece) where
        read_both : Consumes (remaining (inner_of reader)) (remaining (inner_of reader'')) (far.bytes ++ piece)
        read_both =
            Consumes-trans (remaining (inner_of reader)) (remaining (inner_of reader')) (remaining (inner_of reader'')) far.bytes piece far.read read

        -- a piece was joined
        pub far-more : (writer'' : Device W) (reading' : FrameReading) (more : List ℕ) → has_failed reader'' ≡ has_failed reader'
            → HasReadBytes settings capture_map (far.bytes ++ piece) (far.text ++ more) reading' → reading'.joining.file.bytes.items ≡ []
            → Appends (contents (inner_of writer')) (contents (inner_of writer'')) more → IsLeftFlushed writer' writer''
            → has_failed writer'' ≡ has_failed writer' → JoinsSoFar reader reader'' writer writer'' reading'
        far-more writer'' reading' more read_sound has empty wrote flushed sound = record {
          bytes = far.bytes ++ piece;
          text = far.text ++ more;
          has = has;
          empty = empty;
          read = read_both;
          wrote = wrote_both writer'' more wrote;
          flushed = flushed_then writer writer' writer'' far.flushed flushed;
          sound = sound ∙ far.sound;
          read_sound = read_sound ∙ far.read_sound;
        }

        module _ (behind : is_read_behind_flushes reader'' ≡ true) (writer'' : Device W) (more : List ℕ) where
          till_there : (fault : EngineFault) → IsFileTill settings capture_map (far.bytes ++ piece) fault (far.text ++ more)
              → IsJoinedOf settings capture_map (remaining (inner_of reader)) (remaining (inner_of reader'')) fault (far.text ++ more)
          till_there fault till = record { bytes = far.bytes ++ piece; read = read_both; till = till_of (far.bytes ++ piece) fault (far.text ++ more) till }

          -- of what is known a fault in its front
          known_fault : (known left : Option (List ℕ)) (bytes : List ℕ) (fault : PlacedFault) → Consumes known left bytes → IsJoinFault bytes (Capture fault)
              → IfSome known (λ input. IsFaultBehind input fault)
          known_fault None left bytes fault read is = tt
          known_fault (Some input) None bytes fault read is = absurd read
          known_fault (Some input) (Some left) bytes fault read is = within is.0 bytes left read is.1 is.2

          cause_of : (fault : EngineFault) → IsJoinFault (far.bytes ++ piece) fault → HasJoinCause (remaining (inner_of reader)) reader'' writer'' fault
          cause_of (Capture fault) is = known_fault (remaining (inner_of reader)) (remaining (inner_of reader'')) (far.bytes ++ piece) fault read_both is
          cause_of OutOfMemory is = tt
          cause_of (Trace fault) is = absurd is
          cause_of (Cut fault) is = absurd is
          cause_of Read is = absurd is
          cause_of Write is = absurd is
          cause_of Usage is = absurd is

          -- the capture is at fault, or an allocation failed
          stopped_at : (fault : EngineFault) → IsFileTill settings capture_map (far.bytes ++ piece) fault (far.text ++ more)
              → fault ≢ Write → IsJoinFault (far.bytes ++ piece) fault
              → Appends (contents (inner_of writer')) (contents (inner_of writer'')) more × IsLeftFlushed writer' writer'' × (has_failed writer'' ≡ has_failed writer')
              → JoinsCapture settings capture_map remaining contents reader reader'' writer writer'' (Err fault)
          stopped_at fault till no_write is wrote = record {
            written = tt;
            above = λ other. (far.text ++ more, till_there fault till, wrote_both writer'' more wrote.0);
            write_fault = λ written. absurd (no_write cc);
            flushed = tt;
            flushed_above = λ other. flushed_then writer writer' writer'' far.flushed wrote.1;
            behind_flushes = behind;
            cause = cause_of fault is;
            no_cause = tt;
          }

          pub capture-stopped : (fault : EngineFault) → IsFileTill settings capture_map (far.bytes ++ piece) fault (far.text ++ more)
              → IsJoinFaultOr (far.bytes ++ piece) fault → WritesTill contents writer' writer'' more fault
              → JoinsCapture settings capture_map remaining contents reader reader'' writer writer'' (Err fault)
          capture-stopped (Capture fault) till is wrote = stopped_at (Capture fault) till (λ e. absurd cc) is wrote
          capture-stopped OutOfMemory till is wrote = stopped_at OutOfMemory till (λ e. absurd cc) is wrote
          capture-stopped (Trace fault) till is wrote = absurd is
          capture-stopped (Cut fault) till is wrote = absurd is
          capture-stopped Read till is wrote = absurd is
          capture-stopped Usage till is wrote = absurd is
          capture-stopped Write till is wrote = record {
            written = tt;
            above = λ other. absurd (other refl);
            write_fault = λ _. (far.text ++ more, inr (till_there Write till), wrote_front writer'' more wrote.0);
            flushed = tt;
            flushed_above = λ other. absurd (other refl);
            behind_flushes = behind;
            cause = wrote.1;
            no_cause = tt;
          }

      -- ---- the end of the input

      module _ (reader'' : Device R) (read : Consumes (remaining (inner_of reader')) (remaining (inner_of reader'')) []) (end : IsAtEnd (remaining (inner_of reader'')))
          (behind : is_read_behind_flushes reader'' ≡ true) where
        read_all : Consumes (remaining (inner_of reader)) (remaining (inner_of reader'')) far.bytes
        read_all =
            subst (λ (bytes : List ℕ). Consumes (remaining (inner_of reader)) (remaining (inner_of reader'')) bytes) (append-nil far.bytes)
            (Consumes-trans (remaining (inner_of reader)) (remaining (inner_of reader')) (remaining (inner_of reader'')) far.bytes [] far.read read)

        all_of : (P : List ℕ → Type 0) → P far.bytes → IfSome (remaining (inner_of reader)) P
        all_of P is = of_known (remaining (inner_of reader)) (Consumes-all (remaining (inner_of reader)) (remaining (inner_of reader'')) far.bytes [] far.bytes read_all end refl) where
          of_known : (known : Option (List ℕ)) → IfSome known (λ input. far.bytes ≡ [] ++ input) → IfSome known P
          of_known None same = tt
          of_known (Some input) same = subst P same is

        -- all was joined and written
        capture_joined : (writer'' : Device W) (done : Unit {0}) (more : List ℕ) → has_failed reader ≡ false → has_failed writer ≡ false
            → has_failed reader'' ≡ has_failed reader' → IsJoinedFile settings capture_map far.bytes (far.text ++ more)
            → Appends (contents (inner_of writer')) (contents (inner_of writer'')) more → IsLeftFlushed writer' writer'' → has_failed writer'' ≡ has_failed writer'
            → JoinsCapture settings capture_map remaining contents reader reader'' writer writer'' (Ok done)
        capture_joined writer'' done more read_sound sound kept joined wrote flushed writes = record {
          written =
              all_of (WritesText (IsJoinedFile settings capture_map) (contents (inner_of writer)) (contents (inner_of writer'')))
              (far.text ++ more, joined, wrote_both writer'' more wrote);
          above = tt;
          write_fault = λ is. absurd cc;
          flushed = flushed_then writer writer' writer'' far.flushed flushed;
          flushed_above = tt;
          behind_flushes = behind;
          cause = tt;
          no_cause = (kept ∙ far.read_sound ∙ read_sound, end, writes ∙ far.sound ∙ sound);
        }

        -- it ends too early, or an allocation failed
        ended_at : (writer'' : Device W) (fault : EngineFault) (more : List ℕ) → IsJoinedTill settings capture_map far.bytes fault (far.text ++ more) → fault ≢ Write
            → Appends (contents (inner_of writer')) (contents (inner_of writer'')) more → IsLeftFlushed writer' writer''
            → HasJoinCause (remaining (inner_of reader)) reader'' writer'' fault
            → JoinsCapture settings capture_map remaining contents reader reader'' writer writer'' (Err fault)
        ended_at writer'' fault more till no_write wrote flushed cause = record {
          written = tt;
          above = λ other. (far.text ++ more, record { bytes = far.bytes; read = read_all; till = till }, wrote_both writer'' more wrote);
          write_fault = λ written. absurd (no_write cc);
          flushed = tt;
          flushed_above = λ other. flushed_then writer writer' writer'' far.flushed flushed;
          behind_flushes = behind;
          cause = cause;
          no_cause = tt;
        }

        capture_ended : (writer'' : Device W) (fault : EngineFault) → EndsBy contents settings capture_map far.bytes far.text reading writer' writer'' fault
            → JoinsCapture settings capture_map remaining contents reader reader'' writer writer'' (Err fault)
        capture_ended writer'' (Capture fault) by =
            ended_at writer'' (Capture fault) by.0 by.1 (λ e. absurd cc) by.3.0 by.3.1
            (all_of (λ input. IsFaultBehind input fault)
            (at_end far.has.records reading.reader far.has.captured by.2.0 (by.2.1 ∙ far.has.joined.count)))
        capture_ended writer'' OutOfMemory by = ended_at writer'' OutOfMemory by.0 by.1 (λ e. absurd cc) by.3.0 by.3.1 tt
        capture_ended writer'' (Trace fault) by = absurd by.2
        capture_ended writer'' (Cut fault) by = absurd by.2
        capture_ended writer'' Read by = absurd by.2
        capture_ended writer'' Usage by = absurd by.2
        capture_ended writer'' Write by = record {
          written = tt;
          above = λ other. absurd (other refl);
          write_fault = λ _. (far.text ++ by.0, joined_or_till by.1, wrote_front writer'' by.0 by.2.0);
          flushed = tt;
          flushed_above = λ other. absurd (other refl);
          behind_flushes = behind;
          cause = by.2.1;
          no_cause = tt;
        } where
          joined_or_till : IsJoinedFile settings capture_map far.bytes (far.text ++ by.0) ⊎ IsJoinedTill settings capture_map far.bytes Write (far.text ++ by.0)
              → IfSome (remaining (inner_of reader)) (λ input. IsJoinedFile settings capture_map input (far.text ++ by.0))
              ⊎ IsJoinedOf settings capture_map (remaining (inner_of reader)) (remaining (inner_of reader'')) Write (far.text ++ by.0)
          joined_or_till (inl joined) = inl (all_of (λ input. IsJoinedFile settings capture_map input (far.text ++ by.0)) joined)
          joined_or_till (inr till) = inr (record { bytes = far.bytes; read = read_all; till = till })

        -- the end was joined, or not
        pub capture-finished : (writer'' : Device W) (result : Result (Unit {0}) EngineFault) → has_failed reader ≡ false → has_failed writer ≡ false
            → has_failed reader'' ≡ has_failed reader'
            → MatchResult result
            (λ _. (more : List ℕ) × IsJoinedFile settings capture_map far.bytes (far.text ++ more)
            × WritesAll contents writer' writer'' more)
            (λ fault. EndsBy contents settings capture_map far.bytes far.text reading writer' writer'' fault)
            → JoinsCapture settings capture_map remaining contents reader reader'' writer writer'' result
        capture-finished writer'' (Ok done) read_sound sound kept ends = capture_joined writer'' done ends.0 read_sound sound kept ends.1 ends.2.0 ends.2.1 ends.2.2
        capture-finished writer'' (Err fault) read_sound sound kept ends = capture_ended writer'' fault ends
