-- The words for why a frame wasn't joined.
use Rattle.std.specs.Prelude.{ℕ, Option, Some, None, List, [], ◌++◌, codes}
use Rattle.std.specs.Fmt.{decimal}
use Rattle.lane.specs.declared.refusal.Refusal.{Refusal}
use Rattle.lane.specs.declared.refusal.Refusal.TheVariants as refusal
use Rattle.burst_fates.specs.declared.burst_fate.BurstFate.{BurstFate}
use Rattle.burst_fates.specs.declared.burst_fate.BurstFate.TheVariants as fate
use Rattle.burst_fates.specs.declared.missing_reason.MissingReason.{MissingReason}
use Rattle.burst_fates.specs.declared.missing_reason.MissingReason.TheVariants as reason

-- ============ For programs ============

abbrev pub refusal_word : Refusal → List ℕ
refusal_word refusal.GrantRange = codes "grant_out_of_range"
refusal_word refusal.GrantKnown = codes "grant_known"
refusal_word refusal.UnknownSid = codes "grant_unknown_sid"
refusal_word refusal.TooManyGrants = codes "grant_too_many"
refusal_word refusal.GrantOutOfMemory = codes "grant_out_of_memory"
refusal_word refusal.NoGrant = codes "no_grant"
refusal_word refusal.TooLong = codes "too_long"
refusal_word refusal.BadCheck = codes "bad_check"
refusal_word refusal.TooShort = codes "too_short"
refusal_word refusal.PointerPast = codes "pointer_past_the_end"
refusal_word refusal.BurstOutOfMemory = codes "out_of_memory"

abbrev pub fate_word : BurstFate → List ℕ
fate_word fate.UnknownChannel = codes "unknown_channel"
fate_word fate.UnknownSid = codes "unknown_sid"
fate_word (fate.Refused why) = refusal_word why
fate_word fate.Waits = codes "waits"
fate_word fate.Kept = codes "kept"
fate_word fate.Late = codes "late"
fate_word fate.Repeat = codes "repeat"
fate_word fate.Beyond = codes "beyond"

-- **The word for a reason**, and the burst that it names
abbrev pub reason_word : MissingReason → List ℕ
reason_word reason.Unnamed = codes "unnamed"
reason_word (reason.NeverCame id) = codes "never_came"
reason_word (reason.NotSeenLately id) = codes "not_seen_lately"
reason_word (reason.Burst id what) = fate_word what
reason_word reason.AllKept = codes "kept"

abbrev pub burst_in : MissingReason → Option ℕ
burst_in reason.Unnamed = None
burst_in (reason.NeverCame id) = Some id
burst_in (reason.NotSeenLately id) = Some id
burst_in (reason.Burst id what) = Some id
burst_in reason.AllKept = None

-- ============ For people ============

-- what became of a burst, and the refusal where it was refused
abbrev pub fate_for_people : BurstFate → List ℕ
fate_for_people fate.UnknownChannel = codes " is of no channel of the map"
fate_for_people fate.UnknownSid = codes " is of no flow of the map"
fate_for_people (fate.Refused why) = codes " was refused: "
fate_for_people fate.Waits = codes " waits"
fate_for_people fate.Kept = codes " was kept"
fate_for_people fate.Late = codes " came late"
fate_for_people fate.Repeat = codes " came again"
fate_for_people fate.Beyond = codes " was beyond the window"

abbrev pub refusal_for_people : BurstFate → List ℕ
refusal_for_people fate.UnknownChannel = []
refusal_for_people fate.UnknownSid = []
refusal_for_people (fate.Refused why) = refusal_word why
refusal_for_people fate.Waits = []
refusal_for_people fate.Kept = []
refusal_for_people fate.Late = []
refusal_for_people fate.Repeat = []
refusal_for_people fate.Beyond = []

abbrev pub fate_text : BurstFate → List ℕ
fate_text what = fate_for_people what ++ refusal_for_people what

abbrev pub burst_text : ℕ → List ℕ
burst_text id = codes "burst " ++ decimal id

abbrev pub reason_text : MissingReason → List ℕ
reason_text reason.Unnamed = codes "its bursts aren't named"
reason_text (reason.NeverCame id) = burst_text id ++ codes " never came"
reason_text (reason.NotSeenLately id) = burst_text id ++ codes " wasn't seen lately"
reason_text (reason.Burst id what) = burst_text id ++ fate_text what
reason_text reason.AllKept = codes "its bursts were kept"
