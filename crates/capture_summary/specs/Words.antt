-- The words of lines.
use Rattle.std.specs.Prelude.{ℕ, List, [], ◌∷◌, ◌++◌, codes}
use Rattle.text_lines.specs.Putting.{spaced}
use Rattle.capture.specs.declared.burst.Passed.TheVariants.{CutShort, OtherType, Malformed, NoSegmentHeader, NoChannelOrSid}
use Rattle.lane.specs.declared.refusal.Refusal.{Refusal}
use Rattle.lane.specs.declared.refusal.Refusal.TheVariants.{GrantRange, GrantKnown, UnknownSid, TooManyGrants, GrantOutOfMemory, NoGrant, TooLong, BadCheck, TooShort, PointerPast, BurstOutOfMemory}
use Rattle.capture_summary.specs.declared.passed.PassedReason.{PassedReason}
use Rattle.capture_summary.specs.declared.passed.PassedReason.TheVariants as reason

-- a word, a space and a number
abbrev pub named : List ℕ → ℕ → List ℕ
named word number = word ++ spaced number

module _ {T : Type 0} (text : T → List ℕ) where
  -- a text, and behind it that of each part
  abbrev pub texts_from : List ℕ → List T → List ℕ
  texts_from front [] = front
  texts_from front (part ∷ parts) = texts_from (front ++ text part) parts

-- the words for why a record is passed over
abbrev pub reason_text : PassedReason → List ℕ
reason_text reason.OtherLinkType = codes "other link type"
reason_text (reason.Packet CutShort) = codes "cut short"
reason_text (reason.Packet OtherType) = codes "other type"
reason_text (reason.Packet Malformed) = codes "malformed"
reason_text (reason.Packet NoSegmentHeader) = codes "no segment header"
reason_text (reason.Packet NoChannelOrSid) = codes "no channel or SID"
reason_text reason.UnknownChannel = codes "unknown channel"
reason_text reason.UnknownSid = codes "unknown SID"

-- the words for a refusal
abbrev pub refusal_text : Refusal → List ℕ
refusal_text GrantRange = codes "grant out of range"
refusal_text GrantKnown = codes "grant known"
refusal_text UnknownSid = codes "unknown SID"
refusal_text TooManyGrants = codes "too many grants"
refusal_text GrantOutOfMemory = codes "out of memory for a grant"
refusal_text NoGrant = codes "no grant"
refusal_text TooLong = codes "longer than its grant"
refusal_text BadCheck = codes "bad check"
refusal_text TooShort = codes "too short"
refusal_text PointerPast = codes "pointer past the end"
refusal_text BurstOutOfMemory = codes "out of memory for a burst"
