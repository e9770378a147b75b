-- What is known of bursts, of what was told of them.
use Rattle.std.specs.Prelude.{◌≡◌, ◌≢◌, ℕ, ◌==◌, Bool, true, false, ◌||◌, nat_le, Option, Some, None, List, [], ◌∷◌, ◌++◌, length, if◌then◌else◌, unwrap_or, slice_get}
use Rattle.std.specs.Option.{option_or}
use Rattle.circular_buffer.specs.Buffer.{keep_last}
use Rattle.burst_fates.specs.Room.{most_told}
use Rattle.burst_fates.specs.declared.burst_fate.BurstFate.{BurstFate}
use Rattle.burst_fates.specs.declared.burst_fate.BurstFate.TheVariants.{UnknownChannel, UnknownSid, Refused, Waits, Kept, Late, Repeat, Beyond}
use Rattle.burst_fates.specs.declared.burst_fate.ToldFate.{ToldFate}
use Rattle.burst_fates.specs.declared.burst_fates.BurstFates.{BurstFates}
use Rattle.burst_fates.specs.declared.missing_reason.MissingReason.{MissingReason}
use Rattle.burst_fates.specs.declared.missing_reason.MissingReason.TheVariants.{Unnamed, NeverCame, NotSeenLately, Burst, AllKept}

-- what is kept of all that was told
abbrev pub kept_of : List ToldFate → List ToldFate
kept_of told = keep_last most_told told

-- whatever was told before, this is told besides
abbrev pub Tells : ToldFate → BurstFates → BurstFates → Type 0
Tells one old new = (told : List ToldFate) → old.told.items ≡ kept_of told → new.told.items ≡ kept_of (told ++ one ∷ [])

-- it was told of another burst
abbrev pub IsOther : ℕ → ToldFate → Type 0
IsOther id one = one.id ≢ id

-- what one thing tells of a burst
abbrev pub told_of : ℕ → ToldFate → Option BurstFate
told_of id one = if one.id == id then Some one.fate else None

abbrev pub told_by : ℕ → Option ToldFate → Option BurstFate
told_by id None = None
told_by id (Some one) = told_of id one

abbrev pub told_at : ℕ → ℕ → List ToldFate → Option BurstFate
told_at place id told = told_by id (slice_get told place)

-- what was told last of a burst
abbrev pub last_of : ℕ → List ToldFate → Option BurstFate
last_of id [] = None
last_of id (one ∷ later) = option_or (last_of id later) (told_of id one)

-- whether this says that a burst was kept
abbrev pub is_kept : Option BurstFate → Bool
is_kept (Some Kept) = true
is_kept _ = false

-- whether it was told, at any time, that a burst was kept
abbrev pub was_kept : ℕ → List ToldFate → Bool
was_kept id [] = false
was_kept id (one ∷ later) = is_kept (told_of id one) || was_kept id later

-- **What is known of a burst**: one that was kept once was kept, whatever came of it later, and of
-- another it is what was told last
abbrev pub known_of : ℕ → List ToldFate → Option BurstFate
known_of id told = if was_kept id told then Some Kept else last_of id told

-- a burst of which nothing is known never came, unless so much was told that something may be
-- forgotten
abbrev pub unknown : Bool → ℕ → MissingReason
unknown true id = NotSeenLately id
unknown false id = NeverCame id

-- why a frame of a burst is missing of which this is known, where so much is kept
abbrev pub reason_by : List ToldFate → ℕ → Option BurstFate → Option MissingReason
reason_by told id (Some UnknownChannel) = Some (Burst id UnknownChannel)
reason_by told id (Some UnknownSid) = Some (Burst id UnknownSid)
reason_by told id (Some (Refused why)) = Some (Burst id (Refused why))
reason_by told id (Some Waits) = Some (Burst id Waits)
reason_by told id (Some Kept) = None
reason_by told id (Some Late) = Some (Burst id Late)
reason_by told id (Some Repeat) = Some (Burst id Repeat)
reason_by told id (Some Beyond) = Some (Burst id Beyond)
reason_by told id None = Some (unknown (nat_le most_told (length told)) id)

abbrev pub reason_of_burst : List ToldFate → ℕ → Option MissingReason
reason_of_burst told id = reason_by told id (known_of id told)

-- the reason of the first of these bursts that wasn't kept, or this
abbrev pub first_reason : MissingReason → List ToldFate → List ℕ → MissingReason
first_reason otherwise told [] = otherwise
first_reason otherwise told (id ∷ ids) = unwrap_or (reason_of_burst told id) (first_reason otherwise told ids)

-- **Why a frame is missing** that came of these bursts
abbrev pub reason_of : List ToldFate → List ℕ → MissingReason
reason_of told [] = Unnamed
reason_of told (id ∷ ids) = first_reason AllKept told (id ∷ ids)
