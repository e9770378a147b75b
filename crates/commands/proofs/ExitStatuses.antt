-- What the program's exit status says of its input, by what came of its words.
use Rattle.std.proofs.Common.{Bool, ◌≡◌, ◌≢◌, ◌⊎◌, inl, inr, ℕ, ◌<◌, List, Option, Some, None, Result, Ok, Err, IfSome, refl, ap, subst, arith}
use Rattle.docsis_wire.specs.declared.pieces.CutFault.TheVariants as cut_fault
use Rattle.engines.specs.declared.device.Device.{Device}
use Rattle.engines.specs.declared.fault.EngineFault.{EngineFault}
use Rattle.engines.specs.declared.fault.EngineFault.TheVariants.{Trace, Cut, Capture, OutOfMemory, Read, Write, Usage}
use Rattle.text_lines.specs.Capacities.{default_capacity}
use Rattle.text_lines.specs.declared.fault.TextFault.{TextFault}
use Rattle.text_lines.specs.declared.fault.TextFault.TheVariants as text_fault
use Rattle.texts.specs.Join.{IsJoined, IsJoinFault}
use Rattle.texts.specs.Cut.{IsCutText, IsCutFault}
use Rattle.texts.specs.Replay.{IsReplayed, IsReplayedBy, IsReplayFault, IsReportFault}
use Rattle.texts.specs.Run.{IsRunText, IsRunTextBy}
use Rattle.engines.specs.Device.{inner_of}
use Rattle.engines.specs.Following.{HasFollowCause, FollowsTrace}
use Rattle.receiver.specs.declared.width.Width.{Width}
use Rattle.texts.specs.declared.follow.settings.FollowSettings.{FollowSettings}
use Rattle.texts.specs.Follow.{of_all_flows, IsFollowed}
use Rattle.engines.specs.Fault.{status_of, exit_status_of}
use Rattle.loss_rule.specs.declared.rule.LossRule.{LossRule}
use Rattle.command_line.specs.Command.{AsksToJoin, AsksToReplay, AsksToReplayBy, AsksToRunByAlone, AsksToFollowAlone, AsksToMap}
use Rattle.engines.specs.Engine.{engine_fault, WritesText, IsFaultOfKnown, HasCause, RunsEngine}
use Rattle.capture_engines.specs.Mapping.{IsMapText, HasMapCause, MapsCapture}
use Rattle.texts.specs.Selected.{IsReplayedOf}
use Rattle.commands.specs.Program.{AsksToReplayOnly, AsksToCutOnly, AsksToRunOnly, AsksToRunByOnly, AsksToFollowOnly, AsksForNothing, IsRefused, Obeys, RunsWords, IsStatus, HasJoinedText, HasCutText, HasReport, HasReportBy, HasRunReport, HasRunReportBy, HasRunFault, IsWidthOf, RunsFollowBy, HasFollowed, HasFollowFault, SaysOf, SaysOfMap}

-- a status other than 0 and 1 says nothing
says_nothing : (HasText : List ℕ → Type 0) (IsFault : List ℕ → TextFault → Type 0) (status : ℕ) (input : List ℕ) → 1 < status → SaysOf HasText IsFault status input
says_nothing HasText IsFault status input more = record { done = λ e. absurd (omega (arith, more, e)); faulty = λ e. absurd (omega (arith, more, e)) }

-- the status 1 says that there is this fault
says_fault : (HasText : List ℕ → Type 0) (IsFault : List ℕ → TextFault → Type 0) (input : List ℕ) (fault : TextFault) → status_of (engine_fault fault) ≡ 1
    → IsFaultOfKnown IsFault (Some input) fault → SaysOf HasText IsFault (status_of (engine_fault fault)) input
says_fault HasText IsFault input fault one h =
    let P : List ℕ → Type 0 = λ bytes. IsFault bytes fault in
    record { done = λ e. absurd (omega (arith, one, e)); faulty = λ _. (fault, one, subst P h.1 h.2) }

-- so with each fault's status, where it has its cause
SaysOf-fault : {R W : Type 0} (HasText : List ℕ → Type 0) (IsFault : List ℕ → TextFault → Type 0) (input : List ℕ) (reader : Device R) (writer : Device W) (fault : EngineFault)
    → HasCause IsFault (Some input) reader writer fault → SaysOf HasText IsFault (status_of fault) input
SaysOf-fault HasText IsFault input reader writer (Trace fault) h = says_fault HasText IsFault input (text_fault.Trace fault) refl h
SaysOf-fault HasText IsFault input reader writer (Cut (cut_fault.BadFrame k)) h = says_fault HasText IsFault input (text_fault.Cut (cut_fault.BadFrame k)) refl h
SaysOf-fault HasText IsFault input reader writer (Cut (cut_fault.FillInsideFrame k)) h = says_fault HasText IsFault input (text_fault.Cut (cut_fault.FillInsideFrame k)) refl h
SaysOf-fault HasText IsFault input reader writer (Cut (cut_fault.PointerTooFar k)) h = says_fault HasText IsFault input (text_fault.Cut (cut_fault.PointerTooFar k)) refl h
SaysOf-fault HasText IsFault input reader writer (Cut cut_fault.OutOfMemory) h = says_nothing HasText IsFault 3 input (omega arith)
SaysOf-fault HasText IsFault input reader writer OutOfMemory h = says_nothing HasText IsFault 3 input (omega arith)
SaysOf-fault HasText IsFault input reader writer Read h = says_nothing HasText IsFault 4 input (omega arith)
SaysOf-fault HasText IsFault input reader writer Write h = says_nothing HasText IsFault 4 input (omega arith)
SaysOf-fault HasText IsFault input reader writer Usage h = absurd h
SaysOf-fault HasText IsFault input reader writer (Capture fault) h = absurd h

-- and of the input, where it is known
SaysOf-known : {R W : Type 0} (HasText : List ℕ → Type 0) (IsFault : List ℕ → TextFault → Type 0) (known : Option (List ℕ)) (reader : Device R) (writer : Device W) (fault : EngineFault)
    → HasCause IsFault known reader writer fault → IfSome known (SaysOf HasText IsFault (status_of fault))
SaysOf-known HasText IsFault None reader writer fault h = tt
SaysOf-known HasText IsFault (Some input) reader writer fault h = SaysOf-fault HasText IsFault input reader writer fault h

-- the status 0 says that there is a text, where one was written
SaysOf-written : (HasText : List ℕ → Type 0) (IsText : List ℕ → List ℕ → Type 0) (IsFault : List ℕ → TextFault → Type 0) (known old new : Option (List ℕ))
    → ((input text : List ℕ) → IsText input text → HasText input) → IfSome known (WritesText IsText old new) → IfSome known (SaysOf HasText IsFault 0)
SaysOf-written HasText IsText IsFault None old new has written = tt
SaysOf-written HasText IsText IsFault (Some input) old new has written = record { done = λ _. has input written.0 written.1; faulty = λ e. absurd (omega (arith, e)) }

-- what the status says after an engine ran
SaysOf-engine : {R W : Type 0} (remaining : R → Option (List ℕ)) (contents : W → Option (List ℕ)) (HasText : List ℕ → Type 0) (IsText : List ℕ → List ℕ → Type 0)
    (IsFault : List ℕ → TextFault → Type 0) (reader reader' : Device R) (writer writer' : Device W) (result : Result (Unit {0}) EngineFault)
    → ((input text : List ℕ) → IsText input text → HasText input) → RunsEngine remaining contents IsText IsFault reader reader' writer writer' result
    → IfSome (remaining (inner_of reader)) (SaysOf HasText IsFault (exit_status_of result))
SaysOf-engine remaining contents HasText IsText IsFault reader reader' writer writer' (Ok done) has ran =
    SaysOf-written HasText IsText IsFault (remaining (inner_of reader)) (contents (inner_of writer)) (contents (inner_of writer')) has ran.written
SaysOf-engine remaining contents HasText IsText IsFault reader reader' writer writer' (Err fault) has ran =
    SaysOf-known HasText IsFault (remaining (inner_of reader)) reader' writer' fault ran.cause

-- what the status says of a fault holds of any that follows from it
SaysOf-weaker : (HasText : List ℕ → Type 0) (IsFault IsOther : List ℕ → TextFault → Type 0) (known : Option (List ℕ)) (status : ℕ)
    → ((input : List ℕ) (fault : TextFault) → IsFault input fault → IsOther input fault) → IfSome known (SaysOf HasText IsFault status)
    → IfSome known (SaysOf HasText IsOther status)
SaysOf-weaker HasText IsFault IsOther None status follows says = tt
SaysOf-weaker HasText IsFault IsOther (Some input) status follows says =
    record { done = says.done; faulty = λ e. let is = says.faulty e in (is.0, is.1, follows input is.0 is.2) }

-- where the words were refused the status is 2 or 3
refused_status : {R W : Type 0} (reader reader' : Device R) (writer writer' : Device W) (result : Result (Unit {0}) EngineFault) → IsRefused reader reader' writer writer' result
    → (exit_status_of result ≡ 2) ⊎ (exit_status_of result ≡ 3)
refused_status reader reader' writer writer' result refused = elim refused.fault [ inl usage ↦ inl (ap exit_status_of usage) | inr memory ↦ inr (ap exit_status_of memory) ]

-- and says nothing
SaysOf-above : (HasText : List ℕ → Type 0) (IsFault : List ℕ → TextFault → Type 0) (known : Option (List ℕ)) (status : ℕ) → (status ≡ 2) ⊎ (status ≡ 3)
    → IfSome known (SaysOf HasText IsFault status)
SaysOf-above HasText IsFault None status above = tt
SaysOf-above HasText IsFault (Some input) status above =
    elim above [ inl two ↦ says_nothing HasText IsFault status input (omega (arith, two)) | inr three ↦ says_nothing HasText IsFault status input (omega (arith, three)) ]

-- what the status says of a fault of what was followed
follow_fault : {R W : Type 0} (rule : LossRule) (channels : ℕ) (width : Width) (known : Option (List ℕ)) (reader : Device R) (writer : Device W)
    (fault : EngineFault) → IsWidthOf channels width → HasFollowCause width known reader writer fault
    → IfSome known (SaysOf (HasFollowed rule channels) (HasFollowFault channels) (status_of fault))
follow_fault rule channels width None reader writer fault wide cause = tt
follow_fault rule channels width (Some input) reader writer (Trace fault) wide cause =
    record { done = λ e. absurd (omega (arith, e)); faulty = λ _. (text_fault.Trace fault, refl, (width, wide, cause)) }
follow_fault rule channels width (Some input) reader writer (Cut fault) wide cause = absurd cause
follow_fault rule channels width (Some input) reader writer OutOfMemory wide cause =
    says_nothing (HasFollowed rule channels) (HasFollowFault channels) 3 input (omega arith)
follow_fault rule channels width (Some input) reader writer Read wide cause =
    says_nothing (HasFollowed rule channels) (HasFollowFault channels) 4 input (omega arith)
follow_fault rule channels width (Some input) reader writer Write wide cause =
    says_nothing (HasFollowed rule channels) (HasFollowFault channels) 4 input (omega arith)
follow_fault rule channels width (Some input) reader writer Usage wide cause = absurd cause
follow_fault rule channels width (Some input) reader writer (Capture fault) wide cause = absurd cause

-- and after a trace was followed
SaysOf-followed : {R W : Type 0} (remaining : R → Option (List ℕ)) (contents : W → Option (List ℕ)) (rule : LossRule) (channels : ℕ) (settings : FollowSettings)
    (reader reader' : Device R) (writer writer' : Device W) (result : Result (Unit {0}) EngineFault)
    → RunsFollowBy rule channels settings remaining contents reader reader' writer writer' result
    → IfSome (remaining (inner_of reader)) (SaysOf (HasFollowed rule channels) (HasFollowFault channels) (exit_status_of result))
SaysOf-followed remaining contents rule channels settings reader reader' writer writer' (Ok done) ran =
    SaysOf-written (HasFollowed rule channels) (IsFollowed rule ran.0 settings) (HasFollowFault channels) (remaining (inner_of reader)) (contents (inner_of writer))
    (contents (inner_of writer')) (λ input text is. (ran.0, settings, text, ran.1, is)) ran.2.written
SaysOf-followed remaining contents rule channels settings reader reader' writer writer' (Err fault) ran =
    follow_fault rule channels ran.0 (remaining (inner_of reader)) reader' writer' fault ran.1 ran.2.cause

-- what the status says of a fault of a capture that is mapped
map_says_nothing : (status : ℕ) (input : List ℕ) → 1 < status → SaysOfMap status input
map_says_nothing status input more = record { done = λ e. absurd (omega (arith, more, e)); faulty = λ e. absurd (omega (arith, more, e)) }

map_fault : {R W : Type 0} (known : Option (List ℕ)) (reader : Device R) (writer : Device W) (fault : EngineFault)
    → HasMapCause known reader writer fault → IfSome known (SaysOfMap (status_of fault))
map_fault None reader writer fault cause = tt
map_fault (Some input) reader writer (Capture fault) cause = record { done = λ e. absurd (omega (arith, e)); faulty = λ _. (fault, cause) }
map_fault (Some input) reader writer (Trace fault) cause = absurd cause
map_fault (Some input) reader writer (Cut fault) cause = absurd cause
map_fault (Some input) reader writer OutOfMemory cause = map_says_nothing 3 input (omega arith)
map_fault (Some input) reader writer Read cause = map_says_nothing 4 input (omega arith)
map_fault (Some input) reader writer Write cause = map_says_nothing 4 input (omega arith)
map_fault (Some input) reader writer Usage cause = absurd cause

-- and after one was mapped
map_written : (known old new : Option (List ℕ)) → IfSome known (WritesText IsMapText old new) → IfSome known (SaysOfMap 0)
map_written None old new written = tt
map_written (Some input) old new written = record { done = λ _. (written.0, written.1); faulty = λ e. absurd (omega (arith, e)) }

SaysOf-mapped : {R W : Type 0} (remaining : R → Option (List ℕ)) (contents : W → Option (List ℕ)) (reader reader' : Device R) (writer writer' : Device W)
    (result : Result (Unit {0}) EngineFault) → MapsCapture remaining contents reader reader' writer writer' result
    → IfSome (remaining (inner_of reader)) (SaysOfMap (exit_status_of result))
SaysOf-mapped remaining contents reader reader' writer writer' (Ok done) ran =
    map_written (remaining (inner_of reader)) (contents (inner_of writer)) (contents (inner_of writer')) ran.written
SaysOf-mapped remaining contents reader reader' writer writer' (Err fault) ran = map_fault (remaining (inner_of reader)) reader' writer' fault ran.cause

known_map : {R W : Type 0} (remaining : R → Option (List ℕ)) (contents : W → Option (List ℕ)) (reader reader' : Device R) (writer writer' : Device W)
    (result : Result (Unit {0}) EngineFault) → MapsCapture remaining contents reader reader' writer writer' result → exit_status_of result ≢ 2
known_map remaining contents reader reader' writer writer' (Ok done) ran e = omega (arith, e)
known_map remaining contents reader reader' writer writer' (Err (Capture fault)) ran e = omega (arith, e)
known_map remaining contents reader reader' writer writer' (Err (Trace fault)) ran e = omega (arith, e)
known_map remaining contents reader reader' writer writer' (Err (Cut fault)) ran e = absurd ran.cause
known_map remaining contents reader reader' writer writer' (Err OutOfMemory) ran e = omega (arith, e)
known_map remaining contents reader reader' writer writer' (Err Read) ran e = omega (arith, e)
known_map remaining contents reader reader' writer writer' (Err Write) ran e = omega (arith, e)
known_map remaining contents reader reader' writer writer' (Err Usage) ran e = ran.cause

-- words that ask to join, to replay or to run by a rule alone are known: whatever comes of them, it
-- is not usage
known_status : {R W : Type 0} (remaining : R → Option (List ℕ)) (contents : W → Option (List ℕ)) (IsText : List ℕ → List ℕ → Type 0) (IsFault : List ℕ → TextFault → Type 0)
    (reader reader' : Device R) (writer writer' : Device W) (result : Result (Unit {0}) EngineFault) → RunsEngine remaining contents IsText IsFault reader reader' writer writer' result
    → exit_status_of result ≢ 2
known_status remaining contents IsText IsFault reader reader' writer writer' (Ok done) ran e = omega (arith, e)
known_status remaining contents IsText IsFault reader reader' writer writer' (Err (Trace fault)) ran e = omega (arith, e)
known_status remaining contents IsText IsFault reader reader' writer writer' (Err (Cut (cut_fault.BadFrame k))) ran e = omega (arith, e)
known_status remaining contents IsText IsFault reader reader' writer writer' (Err (Cut (cut_fault.FillInsideFrame k))) ran e = omega (arith, e)
known_status remaining contents IsText IsFault reader reader' writer writer' (Err (Cut (cut_fault.PointerTooFar k))) ran e = omega (arith, e)
known_status remaining contents IsText IsFault reader reader' writer writer' (Err (Cut cut_fault.OutOfMemory)) ran e = omega (arith, e)
known_status remaining contents IsText IsFault reader reader' writer writer' (Err OutOfMemory) ran e = omega (arith, e)
known_status remaining contents IsText IsFault reader reader' writer writer' (Err Read) ran e = omega (arith, e)
known_status remaining contents IsText IsFault reader reader' writer writer' (Err Write) ran e = omega (arith, e)
known_status remaining contents IsText IsFault reader reader' writer writer' (Err Usage) ran e = ran.cause
known_status remaining contents IsText IsFault reader reader' writer writer' (Err (Capture fault)) ran e = ran.cause

-- so are those that ask to follow with no option but a rule and events
known_followed : {R W : Type 0} (remaining : R → Option (List ℕ)) (contents : W → Option (List ℕ)) (rule : LossRule) (width : Width) (settings : FollowSettings) (reader reader' : Device R)
    (writer writer' : Device W) (result : Result (Unit {0}) EngineFault) → FollowsTrace rule width settings remaining contents reader reader' writer writer' result
    → exit_status_of result ≢ 2
known_followed remaining contents rule width settings reader reader' writer writer' (Ok done) ran e = omega (arith, e)
known_followed remaining contents rule width settings reader reader' writer writer' (Err (Trace fault)) ran e = omega (arith, e)
known_followed remaining contents rule width settings reader reader' writer writer' (Err (Cut fault)) ran e = ran.cause
known_followed remaining contents rule width settings reader reader' writer writer' (Err OutOfMemory) ran e = omega (arith, e)
known_followed remaining contents rule width settings reader reader' writer writer' (Err Read) ran e = omega (arith, e)
known_followed remaining contents rule width settings reader reader' writer writer' (Err Write) ran e = omega (arith, e)
known_followed remaining contents rule width settings reader reader' writer writer' (Err Usage) ran e = ran.cause
known_followed remaining contents rule width settings reader reader' writer writer' (Err (Capture fault)) ran e = ran.cause

-- the status of an outcome is one of the table
IsStatus-outcome : (result : Result (Unit {0}) EngineFault) → IsStatus (exit_status_of result)
IsStatus-outcome (Ok done) = inl refl
IsStatus-outcome (Err fault) = inr (fault, refl)

-- what the status of words says that were obeyed
pub record SaysOfWords {R : Type 0} (remaining : R → Option (List ℕ)) (words : List (List ℕ)) (reader : R) (n : ℕ) : Type 0 where
  pub status : IsStatus n
  pub join : AsksToJoin words → IfSome (remaining reader) (SaysOf HasJoinedText IsJoinFault n)
  pub join_is_known : AsksToJoin words → n ≢ 2
  pub cut : AsksToCutOnly words → IfSome (remaining reader) (SaysOf HasCutText IsCutFault n)
  pub replay : AsksToReplay words → IfSome (remaining reader) (SaysOf HasReport IsReplayFault n)
  pub replay_is_known : AsksToReplay words → n ≢ 2
  pub run : AsksToRunOnly words → IfSome (remaining reader) (SaysOf HasRunReport HasRunFault n)
  pub replay_by : (rule : LossRule) → AsksToReplayBy rule words → IfSome (remaining reader) (SaysOf (HasReportBy rule) IsReplayFault n)
  pub replay_by_is_known : (rule : LossRule) → AsksToReplayBy rule words → n ≢ 2
  pub replay_flows : (rule : LossRule) → AsksToReplayOnly rule words → IfSome (remaining reader) (SaysOf (HasReportBy rule) IsReplayFault n)
  pub run_by : (rule : LossRule) → AsksToRunByOnly rule words → IfSome (remaining reader) (SaysOf (HasRunReportBy rule) HasRunFault n)
  pub run_by_is_known : (rule : LossRule) → AsksToRunByAlone rule words → n ≢ 2
  pub follow : (rule : LossRule) (channels : ℕ) → AsksToFollowOnly rule channels words
      → IfSome (remaining reader) (SaysOf (HasFollowed rule channels) (HasFollowFault channels) n)
  pub follow_is_known : (rule : LossRule) (events : Bool) → AsksToFollowAlone rule events words → n ≢ 2
  pub map : AsksToMap words → IfSome (remaining reader) (SaysOfMap n)
  pub map_is_known : AsksToMap words → n ≢ 2
  pub usage : AsksForNothing words → (n ≡ 2) ⊎ (n ≡ 3)

-- so does that of what came of them
SaysOfWords-outcome : {R W : Type 0} (remaining : R → Option (List ℕ)) (contents : W → Option (List ℕ)) (words : List (List ℕ)) (reader reader' : Device R) (writer writer' : Device W)
    (result : Result (Unit {0}) EngineFault) → Obeys remaining contents words reader reader' writer writer' result
    → SaysOfWords remaining words (inner_of reader) (exit_status_of result)
SaysOfWords-outcome remaining contents words reader reader' writer writer' result obeyed = record {
  status = IsStatus-outcome result;
  join = λ asks.
      SaysOf-engine remaining contents HasJoinedText IsJoined IsJoinFault reader reader' writer writer' result (λ input text is. (text, is)) (obeyed.join asks);
  join_is_known = λ asks. known_status remaining contents IsJoined IsJoinFault reader reader' writer writer' result (obeyed.join asks);
  cut = λ asks.
      elim (obeyed.cut asks) [
        | inl ran ↦
            SaysOf-engine remaining contents HasCutText (IsCutText ran.0 ran.1) IsCutFault reader reader' writer writer' result
            (λ input text is. (ran.0, ran.1, text, ran.2, is)) ran.3
        | inr refused ↦ SaysOf-above HasCutText IsCutFault (remaining (inner_of reader)) (exit_status_of result) (refused_status reader reader' writer writer' result refused)
      ];
  replay = λ asks.
      SaysOf-engine remaining contents HasReport IsReplayed IsReplayFault reader reader' writer writer' result (λ input text is. (text, is)) (obeyed.replay asks);
  replay_is_known = λ asks. known_status remaining contents IsReplayed IsReplayFault reader reader' writer writer' result (obeyed.replay asks);
  run = λ asks.
      elim (obeyed.run asks) [
        | inl ran ↦
            SaysOf-weaker HasRunReport (IsReportFault ran.1) HasRunFault (remaining (inner_of reader)) (exit_status_of result) (λ input fault is. (ran.1, ran.3, is))
            (SaysOf-engine remaining contents HasRunReport (IsRunText ran.1 ran.0) (IsReportFault ran.1) reader reader' writer writer' result
            (λ input text is. (ran.0, ran.1, text, ran.2, ran.3, is)) ran.4)
        | inr refused ↦ SaysOf-above HasRunReport HasRunFault (remaining (inner_of reader)) (exit_status_of result) (refused_status reader reader' writer writer' result refused)
      ];
  replay_by = λ rule asks.
      SaysOf-engine remaining contents (HasReportBy rule) (IsReplayedBy rule) IsReplayFault reader reader' writer writer' result (λ input text is. (text, is))
      (obeyed.replay_by rule asks);
  replay_by_is_known = λ rule asks. known_status remaining contents (IsReplayedBy rule) IsReplayFault reader reader' writer writer' result (obeyed.replay_by rule asks);
  replay_flows = λ rule asks.
      elim (obeyed.replay_flows rule asks) [
        | inl ran ↦
            SaysOf-engine remaining contents (HasReportBy rule) (IsReplayedOf ran.0 rule) IsReplayFault reader reader' writer writer' result
            (λ input text is. (is.whole, is.replayed)) ran.2
        | inr refused ↦ SaysOf-above (HasReportBy rule) IsReplayFault (remaining (inner_of reader)) (exit_status_of result) (refused_status reader reader' writer writer' result refused)
      ];
  run_by = λ rule asks.
      elim (obeyed.run_by rule asks) [
        | inl ran ↦
            SaysOf-weaker (HasRunReportBy rule) (IsReportFault ran.1) HasRunFault (remaining (inner_of reader)) (exit_status_of result) (λ input fault is. (ran.1, ran.3, is))
            (SaysOf-engine remaining contents (HasRunReportBy rule) (IsRunTextBy rule ran.1 ran.0) (IsReportFault ran.1) reader reader' writer writer' result
            (λ input text is. (ran.0, ran.1, text, ran.2, ran.3, is)) ran.4)
        | inr refused ↦ SaysOf-above (HasRunReportBy rule) HasRunFault (remaining (inner_of reader)) (exit_status_of result) (refused_status reader reader' writer writer' result refused)
      ];
  run_by_is_known = λ rule asks.
      known_status remaining contents (IsRunTextBy rule default_capacity default_capacity) (IsReportFault default_capacity) reader reader' writer writer' result
      (obeyed.run_alone rule asks);
  follow = λ rule channels asks.
      elim (obeyed.follow rule channels asks) [
        | inl ran ↦ SaysOf-followed remaining contents rule channels ran.0 reader reader' writer writer' result ran.3
        | inr refused ↦
            SaysOf-above (HasFollowed rule channels) (HasFollowFault channels) (remaining (inner_of reader)) (exit_status_of result)
            (refused_status reader reader' writer writer' result refused)
      ];
  follow_is_known = λ rule events asks.
      let ran = obeyed.follow_alone rule events asks in known_followed remaining contents rule ran.0 (of_all_flows events) reader reader' writer writer' result ran.2;
  map = λ asks. SaysOf-mapped remaining contents reader reader' writer writer' result (obeyed.map asks);
  map_is_known = λ asks. known_map remaining contents reader reader' writer writer' result (obeyed.map asks);
  usage = λ asks. refused_status reader reader' writer writer' result (obeyed.nothing asks);
}

-- so does the status of a whole run
pub SaysOfWords-run : {R W E : Type 0} {remaining : R → Option (List ℕ)} {contents : W → Option (List ℕ)} {reported : E → Option (List ℕ)} {words : List (List ℕ)}
    {reader : R} {input input' : Device R} {output output' : Device W} {err err' : Device E} {n : ℕ} → inner_of input ≡ reader
    → RunsWords remaining contents reported words input input' output output' err err' n → SaysOfWords remaining words reader n
SaysOfWords-run {R = R} {remaining = remaining} {contents = contents} {words = words} {input = input} {input' = input'} {output = output} {output' = output'} reads ran =
    let P : R → Type 0 = λ r. SaysOfWords remaining words r (exit_status_of ran.outcome) in
    rw ran.ends (subst P reads (SaysOfWords-outcome remaining contents words input input' output output' ran.outcome ran.obeyed))
