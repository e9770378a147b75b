-- What happens as a trace is followed, and its lines.
use Rattle.std.specs.Prelude.{ℕ, Bool, if◌then◌else◌, Option, Some, None, List, [], ◌∷◌, ◌++◌, codes}
use Rattle.consumer.specs.declared.given.Given.{Given}
use Rattle.consumer.specs.declared.given.Given.TheVariants.{Frame, Asked}
use Rattle.lane.specs.declared.input.Input.{Input}
use Rattle.lane.specs.declared.input.Input.TheVariants as input
use Rattle.lane.specs.declared.refusal.Refusal.{Refusal}
use Rattle.lane.specs.declared.refusal.Refusal.TheVariants as refusal
use Rattle.lane.specs.Report.{refusal_number}
use Rattle.bonded_flows.specs.declared.told.Told.{Told}
use Rattle.bonded_flows.specs.declared.told.SegmentVerdict.{SegmentVerdict}
use Rattle.bonded_flows.specs.declared.told.SegmentVerdict.TheVariants as verdict
use Rattle.receiver.specs.declared.reply.Reply.{Reply}
use Rattle.receiver.specs.declared.reply.Reply.TheVariants as reply
use Rattle.receiver.specs.declared.reply.DecisionReply.{DecisionReply}
use Rattle.receiver.specs.declared.reply.DecisionReply.TheVariants as decision_reply
use Rattle.text_lines.specs.Lines.{line_feed}
use Rattle.texts.specs.declared.follow.happening.Happening.{Happening}
use Rattle.texts.specs.declared.follow.happening.Happening.TheVariants.{Gave, Took, Decided, Stands}
use Rattle.texts.specs.declared.follow.happening.InputKind.{InputKind}
use Rattle.texts.specs.declared.follow.happening.InputKind.TheVariants as kind
use Rattle.texts.specs.declared.follow.happening.InputName.{InputName}
use Rattle.text_lines.specs.Putting.{spaced}
use Rattle.texts.specs.Report.{named, frame_line, request_line}

-- the name of an input that came on this channel
abbrev pub name_of_input : ℕ → Input → InputName
name_of_input channel (input.Grant number sid bytes) = record { kind = kind.Grant; channel = channel; grant = number }
name_of_input channel (input.Burst grant hcs_ok bytes) = record { kind = kind.Burst; channel = channel; grant = grant }

-- ---- what is given

-- the line of what is given: of a frame, or of a request
abbrev pub given_line : Given → List ℕ
given_line (Frame flow frame) = frame_line flow frame
given_line (Asked request) = request_line request

-- ---- what became of inputs and decisions

-- `line <number>`: the line of the trace of which it is told
abbrev pub line_head : ℕ → List ℕ
line_head line = codes "line" ++ spaced line

abbrev pub kind_word : InputKind → List ℕ
kind_word kind.Grant = codes "grant"
kind_word kind.Burst = codes "burst"

abbrev pub verdict_word : SegmentVerdict → List ℕ
verdict_word verdict.Kept = codes "kept"
verdict_word verdict.Late = codes "late"
verdict_word verdict.Repeat = codes "repeat"
verdict_word verdict.Beyond = codes "beyond"

abbrev pub refusal_words : Refusal → List ℕ
refusal_words refusal.GrantRange = codes "grant out of range"
refusal_words refusal.GrantKnown = codes "grant known"
refusal_words refusal.UnknownSid = codes "unknown service identifier"
refusal_words refusal.TooManyGrants = codes "too many grants"
refusal_words refusal.GrantOutOfMemory = codes "out of memory for a grant"
refusal_words refusal.NoGrant = codes "no grant"
refusal_words refusal.TooLong = codes "too long"
refusal_words refusal.BadCheck = codes "bad check"
refusal_words refusal.TooShort = codes "too short"
refusal_words refusal.PointerPast = codes "pointer past the end"
refusal_words refusal.BurstOutOfMemory = codes "out of memory for a burst"

-- ` grant <channel> <number>`, ` burst <channel> <number>`
abbrev pub input_text : InputName → List ℕ
input_text name = codes " " ++ kind_word name.kind ++ spaced name.channel ++ spaced name.grant

-- `line <number> flow <index> skips to <number>`, where the rule skipped
abbrev pub skip_lines : ℕ → ℕ → Option ℕ → List ℕ
skip_lines line flow None = []
skip_lines line flow (Some number) = line_head line ++ named (codes "flow") flow ++ codes " skips to" ++ spaced number ++ line_feed ∷ []

-- ` refused <code> <why>`
abbrev pub reason_text : Refusal → List ℕ
reason_text refusal = named (codes "refused") (refusal_number refusal) ++ codes " " ++ refusal_words refusal

-- `line <number> burst <channel> <number> refused <code> <why>`
abbrev pub refused_line : ℕ → InputName → Refusal → List ℕ
refused_line line name refusal = line_head line ++ input_text name ++ reason_text refusal ++ line_feed ∷ []

-- ` number <number> kept`
abbrev pub verdict_text : ℕ → SegmentVerdict → List ℕ
verdict_text sequence verdict = named (codes "number") sequence ++ codes " " ++ verdict_word verdict

-- `line <number> flow <index> number <number> kept`, behind the line of a skip
abbrev pub admitted_lines : ℕ → ℕ → ℕ → Told → List ℕ
admitted_lines line flow sequence told =
    skip_lines line flow told.skipped_to ++ line_head line ++ named (codes "flow") flow ++ verdict_text sequence told.verdict ++ line_feed ∷ []

-- `line <number> grant <channel> <number> granted`, the line of a refusal, or the lines of a
-- segment that is admitted
abbrev pub took_lines : ℕ → InputName → Reply → List ℕ
took_lines line name reply.Granted = line_head line ++ input_text name ++ codes " granted" ++ line_feed ∷ []
took_lines line name (reply.Refused refusal) = refused_line line name refusal
took_lines line name (reply.Admitted flow sequence told) = admitted_lines line flow sequence told

-- `line <number> flow <index> gap lost`, `gap lost none` or `gap passed over`
abbrev pub decision_words : DecisionReply → List ℕ
decision_words decision_reply.PassedOver = codes " gap passed over"
decision_words (decision_reply.Taken lost) = if lost then codes " gap lost" else codes " gap lost none"

abbrev pub decided_line : ℕ → ℕ → DecisionReply → List ℕ
decided_line line flow reply = line_head line ++ named (codes "flow") flow ++ decision_words reply ++ line_feed ∷ []

-- `line <number> flow <index> expects <number> holds <count>`
abbrev pub stands_line : ℕ → ℕ → ℕ → ℕ → List ℕ
stands_line line flow expected held =
    line_head line ++ named (codes "flow") flow ++ named (codes "expects") expected ++ named (codes "holds") held ++ line_feed ∷ []

abbrev pub event_lines : ℕ → Happening → List ℕ
event_lines line (Gave given) = []
event_lines line (Took name reply) = took_lines line name reply
event_lines line (Decided flow reply) = decided_line line flow reply
event_lines line (Stands flow expected held) = stands_line line flow expected held

-- ---- the lines of what happened by the line with this number, with events or without

abbrev pub given_lines : Happening → List ℕ
given_lines (Gave given) = given_line given
given_lines (Took name reply) = []
given_lines (Decided flow reply) = []
given_lines (Stands flow expected held) = []

abbrev pub happening_lines : Bool → ℕ → Happening → List ℕ
happening_lines events line one = given_lines one ++ (if events then event_lines line one else [])
