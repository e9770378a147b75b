-- What is counted of a SID.
use Rattle.std.specs.Prelude.{ℕ, ◌+◌, ◌-◌, ◌^◌, min, nat_lt, Bool, List, replicate, take, slice_get, slice_set, Option, Some, None, if◌then◌else◌}
use Rattle.seen_sids.specs.declared.seen_sid.SeenSid.{SeenSid}

-- one more, up to 2^64 − 1
abbrev pub one_more : ℕ → ℕ
one_more count = min (count + 1) (2 ^ 64 - 1)

-- so many numbers of a SID are kept
abbrev pub kept_numbers : ℕ
kept_numbers = 32

-- nothing was seen
abbrev pub new_row : ℕ → ℕ → SeenSid
new_row channel sid = record { channel = channel; sid = sid; segments = 0; bad = 0; last = None; kept = replicate 32 0; count = 0 }

-- the numbers that are kept
abbrev pub numbers_of : SeenSid → List ℕ
numbers_of row = take (min row.count kept_numbers) row.kept

-- a number is the last one, and is kept where there are fewer
abbrev pub with_number : SeenSid → ℕ → SeenSid
with_number row number =
    if nat_lt row.count kept_numbers then record row { last = Some number; kept = slice_set row.kept row.count number; count = row.count + 1 }
    else record row { last = Some number }

-- a segment is counted, and its number where its header check was right
abbrev pub with_segment : SeenSid → Bool → ℕ → SeenSid
with_segment row is_right number =
    if is_right then with_number (record row { segments = one_more row.segments }) number
    else record row { segments = one_more row.segments; bad = one_more row.bad }

-- so at a place
abbrev pub with_at_place : ℕ → Bool → ℕ → List SeenSid → Option SeenSid → List SeenSid
with_at_place place is_right number rows None = rows
with_at_place place is_right number rows (Some row) = slice_set rows place (with_segment row is_right number)

abbrev pub with_at : ℕ → Bool → ℕ → List SeenSid → List SeenSid
with_at place is_right number rows = with_at_place place is_right number rows (slice_get rows place)
