-- What was written of a trace that is followed, and why no more was.
use Rattle.std.specs.Prelude.{◌≡◌, ◌≢◌, ◌<◌, ◌≤◌, ◌^◌, ◌+◌, ◌-◌, ◌⊎◌, ◌∷◌, ◌++◌, ℕ, List, [], Option, true, false, Result, Err, IfSome, IfErr, OnOk, length}
use Rattle.std.specs.List.{slice_split}
use Rattle.std.specs.Io.KnownBytes.{Appends, Consumes, IsAtEnd}
use Rattle.loss_rule.specs.declared.rule.LossRule.{LossRule}
use Rattle.receiver.specs.declared.width.Width.{Width}
use Rattle.text_lines.specs.Capacities.{default_capacity}
use Rattle.text_lines.specs.Format.{IsFirstFaultyLine}
use Rattle.text_lines.specs.Lines.{lines_of, is_line_feed}
use Rattle.texts.specs.declared.follow.settings.FollowSettings.{FollowSettings}
use Rattle.texts.specs.Follow.{IsFollowed, IsFollowedSoFar}
use Rattle.texts.specs.Trace.Line.{shape_of}
use Rattle.texts.specs.Trace.Place.{nothing_said_in, trace_format}
use Rattle.engines.specs.declared.device.Device.{Device}
use Rattle.engines.specs.declared.fault.EngineFault.{EngineFault}
use Rattle.engines.specs.declared.fault.EngineFault.TheVariants.{Trace, Cut, Capture, OutOfMemory, Read, Write, Usage}
use Rattle.engines.specs.Device.{inner_of, has_failed, given_of, is_read_behind_flushes}
use Rattle.engines.specs.Engine.{WritesText}
use Rattle.engines.specs.Limits.{piece_limit}
use Rattle.engines.specs.Transfer.{AppendsFront, IsLeftFlushed}

-- why no more of a trace was followed: its first faulty line, where it is known; an allocation; the
-- reader, which failed or gave 2^64 - 1 bytes; the writer
abbrev pub HasFollowCause : {R W : Type 0} → Width → Option (List ℕ) → Device R → Device W → EngineFault → Type 0
HasFollowCause width known reader writer (Trace fault) =
    IfSome known (λ input. length input < 2 ^ 64 → IsFirstFaultyLine trace_format (nothing_said_in (shape_of width default_capacity)) (lines_of input) fault)
HasFollowCause width known reader writer (Cut fault) = ⊥
HasFollowCause width known reader writer OutOfMemory = Unit {0}
HasFollowCause width known reader writer Read = (has_failed reader ≡ true) ⊎ (2 ^ 64 - 1 ≤ given_of reader)
HasFollowCause width known reader writer Write = has_failed writer ≡ true
HasFollowCause width known reader writer Usage = ⊥
HasFollowCause width known reader writer (Capture fault) = ⊥

-- where a line is at fault, it is the one behind these lines
abbrev pub IsBehind : List ℕ → List (List ℕ) → EngineFault → Type 0
IsBehind bytes lines (Trace fault) = length bytes < 2 ^ 64 → fault.line ≡ length lines + 1
IsBehind bytes lines _ = Unit {0}

module _ (rule : LossRule) (width : Width) (settings : FollowSettings) where
  -- The first lines of some bytes were followed: each of them is ended by a line feed, and this is
  -- the text of all of them; they are all above a line that is at fault.
  pub record IsTextOfFront (fault : EngineFault) (bytes text : List ℕ) : Type 0 where
    pub lines : List (List ℕ)
    pub below : List (List ℕ)
    pub some : 0 < length below
    pub parts : slice_split is_line_feed bytes ≡ lines ++ below
    pub followed : IsFollowedSoFar rule width settings lines text
    pub behind : IsBehind bytes lines fault

  -- all lines of some bytes were followed that a line feed ends
  pub record IsTextOfWhole (bytes text : List ℕ) : Type 0 where
    pub lines : List (List ℕ)
    pub rest : List ℕ
    pub parts : slice_split is_line_feed bytes ≡ lines ++ rest ∷ []
    pub followed : IsFollowedSoFar rule width settings lines text

  -- All whole lines of some bytes were followed without a fault but for those that end in a last
  -- piece.
  pub record IsFollowedBefore (bytes : List ℕ) : Type 0 where
    pub before : List ℕ
    pub piece : List ℕ
    pub parts : bytes ≡ before ++ piece
    pub few : length piece ≤ piece_limit
    pub text : List ℕ
    pub whole : IsTextOfWhole before text

  -- All lines of some bytes were followed, also a last one that no line feed ends, and this is the
  -- text of all of them: the reader gave no more, and then an allocation failed as the receiver was
  -- closed, or the writer failed.
  pub record IsTextOfAll (left : Option (List ℕ)) (fault : EngineFault) (bytes text : List ℕ) : Type 0 where
    pub ended : IsAtEnd left
    pub closing : (fault ≡ OutOfMemory) ⊎ (fault ≡ Write)
    pub followed : IsFollowedSoFar rule width settings (lines_of bytes) text

  -- What was read where a fault is reported, and the text of what was followed of it: where the
  -- reader failed, of all its lines. **A fault ends the reading**: all that was read before the
  -- last piece was followed.
  pub record IsFollowedTill (known left : Option (List ℕ)) (fault : EngineFault) (text : List ℕ) : Type 0 where
    pub bytes : List ℕ
    pub read : Consumes known left bytes
    pub no_further : IsFollowedBefore bytes
    pub front : IsTextOfFront fault bytes text ⊎ IsTextOfAll left fault bytes text
    pub whole : fault ≡ Read → IsTextOfWhole bytes text

  -- **What following a trace promises**, whatever becomes of it: `remaining` are the bytes that a
  -- reader is known to have left, `contents` those that a writer is known to hold.
  pub record FollowsTrace {R W : Type 0} (remaining : R → Option (List ℕ)) (contents : W → Option (List ℕ))
      (reader reader' : Device R) (writer writer' : Device W) (result : Result (Unit {0}) EngineFault) : Type 0 where
    -- without a fault the text of all that the reader gave was written
    pub written : OnOk result (IfSome (remaining (inner_of reader)) (WritesText (IsFollowed rule width settings) (contents (inner_of writer)) (contents (inner_of writer'))))
    -- **at whichever place of the input a fault ends it**, the text of the lines above was written
    pub above : IfErr result (λ fault. fault ≢ Write → (text : List ℕ)
        × IsFollowedTill (remaining (inner_of reader)) (remaining (inner_of reader')) fault text × Appends (contents (inner_of writer)) (contents (inner_of writer')) text)
    -- and where the writer failed, a front of such a text
    pub write_fault : result ≡ Err Write → (text : List ℕ)
        × (IfSome (remaining (inner_of reader)) (λ input. IsFollowed rule width settings input text)
        ⊎ IsFollowedTill (remaining (inner_of reader)) (remaining (inner_of reader')) Write text)
        × AppendsFront (contents (inner_of writer)) (contents (inner_of writer')) text
    -- what was written is flushed, also where a line is at fault
    pub flushed : OnOk result (IsLeftFlushed writer writer')
    pub flushed_above : IfErr result (λ fault. fault ≢ Write → IsLeftFlushed writer writer')
    -- **each read was made behind a flush**, whatever the result: by no other call than
    -- `read_behind`, which requires that all that was written to the writer that it names is
    -- flushed
    pub behind_flushes : is_read_behind_flushes reader' ≡ true
    -- each fault has its cause, and without a fault there is none
    pub cause : IfErr result (HasFollowCause width (remaining (inner_of reader)) reader' writer')
    pub no_cause : OnOk result ((has_failed reader' ≡ false) × IsAtEnd (remaining (inner_of reader')) × (has_failed writer' ≡ false))
