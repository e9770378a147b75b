-- What following a trace promises follows from what became of its pieces and of its end.
use Rattle.std.proofs.Common.{◌≡◌, ◌≢◌, ℕ, ◌-◌, ◌^◌, ◌<◌, ◌≤◌, ◌⊎◌, inl, inr, Option, Some, None, Result, Ok, Err, true, false, List, [], ◌∷◌, ◌++◌, length, refl, sym, ap, subst, ◌∙◌, arith, append-nil, length-append}
use Rattle.std.specs.Prelude.{flat_map, IfSome, MatchResult}
use Rattle.std.specs.Io.KnownBytes.{Appends, Keeps, Consumes, IsAtEnd}
use Rattle.std.proofs.KnownBytes.{Appends-nil, Appends-trans, Consumes-nil, Consumes-trans, Consumes-kept, Consumes-all}
use Rattle.std.proofs.lemmas.Grind.{flat_map-append}
use Rattle.loss_rule.specs.declared.rule.LossRule.{LossRule}
use Rattle.receiver.specs.declared.width.Width.{Width}
use Rattle.text_lines.specs.Capacities.{default_capacity}
use Rattle.text_lines.specs.declared.fault.TraceFault.{TraceFault}
use Rattle.text_lines.specs.Format.{IsFirstFaultyLine}
use Rattle.text_lines.specs.Lines.{lines_of}
use Rattle.texts.specs.declared.follow.settings.FollowSettings.{FollowSettings}
use Rattle.texts.specs.Happened.{HappenedAt}
use Rattle.texts.specs.Follow.{told_lines, IsFollowed, IsFollowedSoFar}
use Rattle.texts.specs.Trace.Line.{shape_of}
use Rattle.texts.specs.Trace.Place.{nothing_said_in, trace_format}
use Rattle.engines.specs.declared.device.Device.{Device}
use Rattle.engines.specs.declared.fault.EngineFault.{EngineFault}
use Rattle.engines.specs.declared.fault.EngineFault.TheVariants.{Trace, Cut, Capture, OutOfMemory, Read, Write, Usage}
use Rattle.engines.specs.declared.follow.Follower.{Follower}
use Rattle.engines.specs.Device.{inner_of, has_failed, given_of, is_flushed, is_read_behind_flushes}
use Rattle.engines.specs.Engine.{WritesText}
use Rattle.engines.specs.Following.{IsBehind, IsTextOfFront, IsTextOfWhole, IsFollowedBefore, IsFollowedTill, HasFollowCause, FollowsTrace}
use Rattle.engines.specs.Inside.Following.{IsEndFault, HasFollowedBytes, IsFollowFault, IsFollowFaultOr, WritesTill, EndsBy}
use Rattle.engines.specs.Limits.{piece_limit}
use Rattle.engines.specs.Transfer.{AppendsFront, IsLeftFlushed}
use Rattle.engines.proofs.FollowedLines.{text_so_far, front_of_whole, behind_last, nothing_happened}
use Rattle.engines.proofs.NumberedHappenings.{numbered_nothing}
use Rattle.engines.proofs.WrittenText.{AppendsFront-behind}

-- a writer was not used, or flushed, and then again
pub flushed_then : {W : Type 0} (a b c : Device W) → IsLeftFlushed a b → IsLeftFlushed b c → IsLeftFlushed a c
flushed_then {W = W} a b c first (inl same) = subst (λ (device : Device W). IsLeftFlushed a device) (sym same) first
flushed_then a b c first (inr flushed) = inr flushed

-- so nothing waits to be flushed, if nothing did
pub stays_flushed : {W : Type 0} (a b : Device W) → is_flushed a ≡ true → IsLeftFlushed a b → is_flushed b ≡ true
stays_flushed a b before (inl same) = ap is_flushed same ∙ before
stays_flushed a b before (inr flushed) = flushed

module _ {R W : Type 0} (remaining : R → Option (List ℕ)) (contents : W → Option (List ℕ)) (rule : LossRule) (width : Width) (settings : FollowSettings) where
  -- So far these bytes were read and followed, and what happened by their lines was written and
  -- flushed.
  pub record FollowsSoFar (reader reader' : Device R) (writer writer' : Device W) (follower : Follower) : Type 0 where
    pub bytes : List ℕ
    pub told : List HappenedAt
    pub followed : HasFollowedBytes rule width settings bytes told follower
    pub read : Consumes (remaining (inner_of reader)) (remaining (inner_of reader')) bytes
    pub wrote : Appends (contents (inner_of writer)) (contents (inner_of writer')) (flat_map (told_lines settings) told)
    pub flushed : IsLeftFlushed writer writer'
    pub sound : has_failed writer' ≡ has_failed writer
    pub read_sound : has_failed reader' ≡ has_failed reader

  module _ (reader : Device R) (writer : Device W) where
    -- nothing was read
    pub far_nothing : (follower : Follower) → HasFollowedBytes rule width settings [] [] follower → FollowsSoFar reader reader writer writer follower
    far_nothing follower has = record {
      bytes = [];
      told = [];
      followed = has;
      read = Consumes-nil (remaining (inner_of reader));
      wrote = Appends-nil (contents (inner_of writer));
      flushed = inl refl;
      sound = refl;
      read_sound = refl;
    }

    -- an allocation failed before anything was read
    pub trace_refused : is_read_behind_flushes reader ≡ true → FollowsTrace rule width settings remaining contents reader reader writer writer (Err OutOfMemory)
    trace_refused behind = record {
      written = tt;
      above = λ other. ([], till, Appends-nil (contents (inner_of writer)));
      write_fault = λ is. absurd cc;
      flushed = tt;
      flushed_above = λ other. inl refl;
      behind_flushes = behind;
      cause = tt;
      no_cause = tt;
    } where
      nothing : IsFollowedSoFar rule width settings [] []
      nothing = record { told = []; happened = nothing_happened rule width; numbered = numbered_nothing rule width (nothing_happened rule width); printed = refl }

      till : IsFollowedTill rule width settings (remaining (inner_of reader)) (remaining (inner_of reader)) OutOfMemory []
      till = record {
        bytes = [];
        read = Consumes-nil (remaining (inner_of reader));
        no_further = record {
          before = [];
          piece = [];
          parts = refl;
          few = omega arith;
          text = [];
          whole = record { lines = []; rest = []; parts = refl; followed = nothing };
        };
        front = inl (record { lines = []; below = [] ∷ []; some = omega arith; parts = refl; followed = nothing; behind = tt });
        whole = λ is. absurd cc;
      }

    module _ (reader' : Device R) (writer' : Device W) (follower : Follower) (far : FollowsSoFar reader reader' writer writer' follower) where
      abbrev text : List ℕ
      text = flat_map (told_lines settings) far.told

      whole : IsTextOfWhole rule width settings far.bytes text
      whole = text_so_far rule width settings far.bytes far.told follower far.followed

      all_before : (piece : List ℕ) → length piece ≤ piece_limit → IsFollowedBefore rule width settings (far.bytes ++ piece)
      all_before piece few = record { before = far.bytes; piece = piece; parts = refl; few = few; text = text; whole = whole }

      all_here : IsFollowedBefore rule width settings far.bytes
      all_here = subst (λ (bytes : List ℕ). IsFollowedBefore rule width settings bytes) (append-nil far.bytes) (all_before [] (omega arith))

      till_here : (left : Option (List ℕ)) (fault : EngineFault) → Consumes (remaining (inner_of reader)) left far.bytes → IsBehind far.bytes whole.lines fault
          → IsFollowedTill rule width settings (remaining (inner_of reader)) left fault text
      till_here left fault read behind =
          record { bytes = far.bytes; read = read; no_further = all_here; front = inl (front_of_whole rule width settings fault far.bytes text whole behind); whole = λ is. whole }

      -- the reader failed, or gave as much as can be counted
      pub trace_unread : (reader'' : Device R) → Keeps (remaining (inner_of reader')) (remaining (inner_of reader''))
          → (has_failed reader'' ≡ true) ⊎ (2 ^ 64 - 1 ≤ given_of reader'') → is_read_behind_flushes reader'' ≡ true
          → FollowsTrace rule width settings remaining contents reader reader'' writer writer' (Err Read)
      trace_unread reader'' kept cause behind = record {
        written = tt;
        above = λ other. (
          text,
          till_here (remaining (inner_of reader'')) Read
              (Consumes-kept (remaining (inner_of reader)) (remaining (inner_of reader')) (remaining (inner_of reader'')) far.bytes far.read kept) tt,
          far.wrote,
        );
        write_fault = λ is. absurd cc;
        flushed = tt;
        flushed_above = λ other. far.flushed;
        behind_flushes = behind;
        cause = cause;
        no_cause = tt;
      }

      -- one text was written, and another behind it
      both_written : (more : List HappenedAt) → text ++ flat_map (told_lines settings) more ≡ flat_map (told_lines settings) (far.told ++ more)
      both_written more = sym (flat_map-append (told_lines settings) far.told more)

      module _ (reader'' : Device R) (piece : List ℕ) (read : Consumes (remaining (inner_of reader')) (remaining (inner_of reader'')) piece) where
        read_both : Consumes (remaining (inner_of reader)) (remaining (inner_of reader'')) (far.bytes ++ piece)
        read_both =
            Consumes-trans (remaining (inner_of reader)) (remaining (inner_of reader')) (remaining (inner_of reader'')) far.bytes piece far.read read

        -- a piece was followed
        pub far_more : (writer'' : Device W) (follower' : Follower) (happened : List HappenedAt) → has_failed reader'' ≡ has_failed reader'
            → HasFollowedBytes rule width settings (far.bytes ++ piece) (far.told ++ happened) follower'
            → Appends (contents (inner_of writer')) (contents (inner_of writer'')) (flat_map (told_lines settings) happened) → IsLeftFlushed writer' writer''
            → has_failed writer'' ≡ has_failed writer' → FollowsSoFar reader reader'' writer writer'' follower'
        far_more writer'' follower' happened read_sound followed wrote flushed sound = record {
          bytes = far.bytes ++ piece;
          told = far.told ++ happened;
          followed = followed;
          read = read_both;
          wrote =
              subst (λ (all : List ℕ). Appends (contents (inner_of writer)) (contents (inner_of writer'')) all) (both_written happened)
              (Appends-trans (contents (inner_of writer)) (contents (inner_of writer')) (contents (inner_of writer'')) text (flat_map (told_lines settings) happened) far.wrote wrote);
          flushed = flushed_then writer writer' writer'' far.flushed flushed;
          sound = sound ∙ far.sound;
          read_sound = read_sound ∙ far.read_sound;
        }

        module _ (few : length piece ≤ piece_limit) (behind : is_read_behind_flushes reader'' ≡ true) (writer'' : Device W) (happened : List HappenedAt) where
          till_there : (fault : EngineFault) → IsTextOfFront rule width settings fault (far.bytes ++ piece) (flat_map (told_lines settings) (far.told ++ happened)) → fault ≢ Read
              → IsFollowedTill rule width settings (remaining (inner_of reader)) (remaining (inner_of reader'')) fault (flat_map (told_lines settings) (far.told ++ happened))
          till_there fault front other = record { bytes = far.bytes ++ piece; read = read_both; no_further = all_before piece few; front = inl front; whole = λ is. absurd (other is) }

          -- of what is known the first faulty line
          known_fault : (known left : Option (List ℕ)) (bytes : List ℕ) (fault : TraceFault) → Consumes known left bytes → IsFollowFault width bytes (Trace fault)
              → IfSome known (λ input. length input < 2 ^ 64
              → IsFirstFaultyLine trace_format (nothing_said_in (shape_of width default_capacity)) (lines_of input) fault)
          known_fault None left bytes fault read is = tt
          known_fault (Some input) None bytes fault read is = absurd read
          known_fault (Some input) (Some left) bytes fault read is = λ few.
              subst (λ (all : List ℕ). IsFirstFaultyLine trace_format (nothing_said_in (shape_of width default_capacity)) (lines_of all) fault) (sym read)
              (is (omega (arith, few, ap length read, length-append bytes left)) left)

          -- why no more was followed
          cause_of : (fault : EngineFault) → IsFollowFault width (far.bytes ++ piece) fault → HasFollowCause width (remaining (inner_of reader)) reader'' writer'' fault
          cause_of (Trace fault) is = known_fault (remaining (inner_of reader)) (remaining (inner_of reader'')) (far.bytes ++ piece) fault read_both is
          cause_of (Cut fault) is = absurd is
          cause_of OutOfMemory is = tt
          cause_of Read is = absurd is
          cause_of Write is = absurd is
          cause_of Usage is = absurd is
          cause_of (Capture fault) is = absurd is

          -- a line of the piece is at fault, or an allocation failed
          stopped_at : (fault : EngineFault) → IsTextOfFront rule width settings fault (far.bytes ++ piece) (flat_map (told_lines settings) (far.told ++ happened))
              → fault ≢ Write → fault ≢ Read → IsFollowFault width (far.bytes ++ piece) fault
              → Appends (contents (inner_of writer')) (contents (inner_of writer'')) (flat_map (told_lines settings) happened) × IsLeftFlushed writer' writer''
              × (has_failed writer'' ≡ has_failed writer') → FollowsTrace rule width settings remaining contents reader reader'' writer writer'' (Err fault)
          stopped_at fault front no_write no_read is wrote = record {
            written = tt;
            above = λ other. (
              flat_map (told_lines settings) (far.told ++ happened),
              till_there fault front no_read,
              subst (λ (all : List ℕ). Appends (contents (inner_of writer)) (contents (inner_of writer'')) all) (both_written happened)
                  (Appends-trans (contents (inner_of writer)) (contents (inner_of writer')) (contents (inner_of writer'')) text (flat_map (told_lines settings) happened) far.wrote wrote.0),
            );
            write_fault = λ written. absurd (no_write cc);
            flushed = tt;
            flushed_above = λ other. flushed_then writer writer' writer'' far.flushed wrote.1;
            behind_flushes = behind;
            cause = cause_of fault is;
            no_cause = tt;
          }

          pub trace_stopped : (fault : EngineFault) → IsTextOfFront rule width settings fault (far.bytes ++ piece) (flat_map (told_lines settings) (far.told ++ happened))
              → IsFollowFaultOr contents width (far.bytes ++ piece) fault
              → WritesTill contents writer' writer'' (flat_map (told_lines settings) happened) fault → FollowsTrace rule width settings remaining contents reader reader'' writer writer'' (Err fault)
          trace_stopped (Trace fault) front is wrote = stopped_at (Trace fault) front (λ e. absurd cc) (λ e. absurd cc) is wrote
          trace_stopped (Cut fault) front is wrote = absurd is
          trace_stopped OutOfMemory front is wrote = stopped_at OutOfMemory front (λ e. absurd cc) (λ e. absurd cc) is wrote
          trace_stopped Read front is wrote = absurd is
          trace_stopped Usage front is wrote = absurd is
          trace_stopped (Capture fault) front is wrote = absurd is
          trace_stopped Write front is wrote = record {
            written = tt;
            above = λ other. absurd (other refl);
            write_fault = λ _. (
              flat_map (told_lines settings) (far.told ++ happened),
              inr (till_there Write front (λ e. absurd cc)),
              subst (λ (all : List ℕ). AppendsFront (contents (inner_of writer)) (contents (inner_of writer'')) all) (both_written happened)
                  (AppendsFront-behind (contents (inner_of writer)) (contents (inner_of writer')) (contents (inner_of writer'')) text (flat_map (told_lines settings) happened) far.wrote wrote.0),
            );
            flushed = tt;
            flushed_above = λ other. absurd (other refl);
            behind_flushes = behind;
            cause = wrote.1;
            no_cause = tt;
          }

      -- ---- the end of the input

      module _ (reader'' : Device R) (read : Consumes (remaining (inner_of reader')) (remaining (inner_of reader'')) []) (end : IsAtEnd (remaining (inner_of reader'')))
          (behind : is_read_behind_flushes reader'' ≡ true) where
        read_all : Consumes (remaining (inner_of reader)) (remaining (inner_of reader'')) far.bytes
        read_all =
            subst (λ (bytes : List ℕ). Consumes (remaining (inner_of reader)) (remaining (inner_of reader'')) bytes) (append-nil far.bytes)
            (Consumes-trans (remaining (inner_of reader)) (remaining (inner_of reader')) (remaining (inner_of reader'')) far.bytes [] far.read read)

        all_of : (P : List ℕ → Type 0) → P far.bytes → IfSome (remaining (inner_of reader)) P
        all_of P is = of_known (remaining (inner_of reader)) (Consumes-all (remaining (inner_of reader)) (remaining (inner_of reader'')) far.bytes [] far.bytes read_all end refl) where
          of_known : (known : Option (List ℕ)) → IfSome known (λ input. far.bytes ≡ [] ++ input) → IfSome known P
          of_known None same = tt
          of_known (Some input) same = subst P same is

        -- all was followed and written
        pub trace_followed : (writer'' : Device W) (done : Unit {0}) (rest : List ℕ) → has_failed reader ≡ false → has_failed writer ≡ false
            → has_failed reader'' ≡ has_failed reader' → IsFollowed rule width settings far.bytes (text ++ rest)
            → Appends (contents (inner_of writer')) (contents (inner_of writer'')) rest → IsLeftFlushed writer' writer'' → has_failed writer'' ≡ has_failed writer'
            → FollowsTrace rule width settings remaining contents reader reader'' writer writer'' (Ok done)
        trace_followed writer'' done rest read_sound sound kept followed wrote flushed writes = record {
          written =
              all_of (WritesText (IsFollowed rule width settings) (contents (inner_of writer)) (contents (inner_of writer''))) (
                text ++ rest,
                followed,
                Appends-trans (contents (inner_of writer)) (contents (inner_of writer')) (contents (inner_of writer'')) text rest far.wrote wrote,
              );
          above = tt;
          write_fault = λ is. absurd cc;
          flushed = flushed_then writer writer' writer'' far.flushed flushed;
          flushed_above = tt;
          behind_flushes = behind;
          cause = tt;
          no_cause = (kept ∙ far.read_sound ∙ read_sound, end, writes ∙ far.sound ∙ sound);
        }

        -- the last line is at fault, or an allocation failed
        ended_at : (fault : EngineFault) → IsEndFault width far.bytes fault → fault ≢ Write
            → HasFollowCause width (remaining (inner_of reader)) reader'' writer' fault
            → FollowsTrace rule width settings remaining contents reader reader'' writer writer' (Err fault)
        ended_at fault is no_write cause = record {
          written = tt;
          above = λ other. (text, till_here (remaining (inner_of reader'')) fault read_all (behind_last rule width settings far.bytes text fault whole is), far.wrote);
          write_fault = λ written. absurd (no_write cc);
          flushed = tt;
          flushed_above = λ other. far.flushed;
          behind_flushes = behind;
          cause = cause;
          no_cause = tt;
        }

        -- the lines of all that was read were followed
        till_end : (fault : EngineFault) → (fault ≡ OutOfMemory) ⊎ (fault ≡ Write) → fault ≢ Read → (all : List ℕ)
            → IsFollowedSoFar rule width settings (lines_of far.bytes) all
            → IsFollowedTill rule width settings (remaining (inner_of reader)) (remaining (inner_of reader'')) fault all
        till_end fault closing other all followed = record {
          bytes = far.bytes;
          read = read_all;
          no_further = all_here;
          front = inr (record { ended = end; closing = closing; followed = followed });
          whole = λ is. absurd (other is);
        }

        pub trace_ended : (writer'' : Device W) (fault : EngineFault) → EndsBy contents rule width settings far.bytes far.told writer' writer'' fault
            → FollowsTrace rule width settings remaining contents reader reader'' writer writer'' (Err fault)
        trace_ended writer'' (Trace fault) by =
            subst (λ (device : Device W). FollowsTrace rule width settings remaining contents reader reader'' writer device (Err (Trace fault))) (sym by.0)
            (ended_at (Trace fault) by.1 (λ e. absurd cc)
            (all_of (λ input. length input < 2 ^ 64 → IsFirstFaultyLine trace_format (nothing_said_in (shape_of width default_capacity)) (lines_of input) fault) by.1))
        trace_ended writer'' (Cut fault) by = absurd by.1
        trace_ended writer'' OutOfMemory (inl same) =
            subst (λ (device : Device W). FollowsTrace rule width settings remaining contents reader reader'' writer device (Err OutOfMemory)) (sym same)
            (ended_at OutOfMemory tt (λ e. absurd cc) tt)
        trace_ended writer'' OutOfMemory (inr by) = record {
          written = tt;
          above = λ other. (
            text ++ by.0,
            till_end OutOfMemory (inl refl) (λ e. absurd cc) (text ++ by.0) by.1,
            Appends-trans (contents (inner_of writer)) (contents (inner_of writer')) (contents (inner_of writer'')) text by.0 far.wrote by.2,
          );
          write_fault = λ is. absurd cc;
          flushed = tt;
          flushed_above = λ other. flushed_then writer writer' writer'' far.flushed by.3;
          behind_flushes = behind;
          cause = tt;
          no_cause = tt;
        }
        trace_ended writer'' Read by = absurd by.1
        trace_ended writer'' Usage by = absurd by.1
        trace_ended writer'' (Capture fault) by = absurd by.1
        trace_ended writer'' Write by = record {
          written = tt;
          above = λ other. absurd (other refl);
          write_fault = λ _. (
            text ++ by.0,
            elim by.1 [
              | inl all ↦ inl (all_of (λ input. IsFollowed rule width settings input (text ++ by.0)) all)
              | inr lines ↦ inr (till_end Write (inr refl) (λ e. absurd cc) (text ++ by.0) lines)
            ],
            AppendsFront-behind (contents (inner_of writer)) (contents (inner_of writer')) (contents (inner_of writer'')) text by.0 far.wrote by.2,
          );
          flushed = tt;
          flushed_above = λ other. absurd (other refl);
          behind_flushes = behind;
          cause = by.3;
          no_cause = tt;
        }

        -- the end was followed, or not
        pub trace_finished : (writer'' : Device W) (result : Result (Unit {0}) EngineFault) → has_failed reader ≡ false → has_failed writer ≡ false
            → has_failed reader'' ≡ has_failed reader'
            → MatchResult result
            (λ _. (rest : List ℕ) × IsFollowed rule width settings far.bytes (text ++ rest)
            × Appends (contents (inner_of writer')) (contents (inner_of writer'')) rest × IsLeftFlushed writer' writer'' × (has_failed writer'' ≡ has_failed writer'))
            (λ fault. EndsBy contents rule width settings far.bytes far.told writer' writer'' fault)
            → FollowsTrace rule width settings remaining contents reader reader'' writer writer'' result
        trace_finished writer'' (Ok done) read_sound sound kept ends = trace_followed writer'' done ends.0 read_sound sound kept ends.1 ends.2 ends.3 ends.4
        trace_finished writer'' (Err fault) read_sound sound kept ends = trace_ended writer'' fault ends
