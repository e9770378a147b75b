-- What was seen of bursts, one after another.
use Rattle.std.specs.Prelude.{ℕ, ◌/◌, nat_lt, Bool, List, [], ◌∷◌, ◌++◌, length, take, if◌then◌else◌}
use Rattle.std.specs.Int.{w16, from_be_bytes}
use Rattle.docsis_wire.specs.Checks.{ends_with_its_sequence}
use Rattle.capture.specs.Burst.{BurstParts}
use Rattle.seen_sids.specs.Places.{most_pairs, place_of_sid}
use Rattle.seen_sids.specs.Rows.{one_more, new_row, with_segment, with_at}
use Rattle.seen_sids.specs.declared.seen_sid.SeenSid.{SeenSid}
use Rattle.seen_sids.specs.declared.seen.SeenSids.{SeenSids}

-- what was seen of each SID of each channel, in the order in which they came first, and how many
-- segments of others there were
pub record Seen : Type 0 where
  pub rows : List SeenSid
  pub others : ℕ

abbrev pub nothing_seen : Seen
nothing_seen = record { rows = []; others = 0 }

abbrev pub seen_in : SeenSids → Seen
seen_in seen = record { rows = seen.rows.items; others = seen.others }

-- a segment of the SID at this place, which is a new one behind the last of them
abbrev pub seen_at : Seen → ℕ → ℕ → Bool → ℕ → ℕ → Seen
seen_at seen channel sid is_right number place =
    if nat_lt place (length seen.rows) then record seen { rows = with_at place is_right number seen.rows }
    else (if nat_lt place most_pairs then record seen { rows = seen.rows ++ with_segment (new_row channel sid) is_right number ∷ [] }
    else record seen { others = one_more seen.others })

abbrev pub with_seen : Seen → ℕ → ℕ → Bool → ℕ → Seen
with_seen seen channel sid is_right number = seen_at seen channel sid is_right number (place_of_sid channel sid seen.rows)

-- the number of a segment: the upper 13 bits of bytes 2 and 3
abbrev pub number_in : ℕ → ℕ → ℕ
number_in high low = from_be_bytes w16 (high ∷ low ∷ []) / 8

-- **What a burst adds**: its header's check and its number.
abbrev pub with_bytes : Seen → ℕ → ℕ → List ℕ → Seen
with_bytes seen channel sid (first ∷ second ∷ high ∷ low ∷ more) =
    with_seen seen channel sid (ends_with_its_sequence (take 8 (first ∷ second ∷ high ∷ low ∷ more))) (number_in high low)
with_bytes seen channel sid _ = seen

abbrev pub with_burst : Seen → BurstParts → Seen
with_burst seen burst = with_bytes seen burst.channel burst.sid burst.bytes
