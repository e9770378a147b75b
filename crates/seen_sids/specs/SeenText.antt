-- The table of what was seen.
use Rattle.std.specs.Prelude.{ℕ, ◌==◌, List, [], ◌∷◌, ◌++◌, codes, slice_index, Option, Some, None, if◌then◌else◌}
use Rattle.text_lines.specs.Lines.{line_feed}
use Rattle.text_lines.specs.Putting.{spaced}
use Rattle.seen_sids.specs.Seen.{Seen}
use Rattle.seen_sids.specs.Guess.{twin_of}
use Rattle.seen_sids.specs.declared.seen_sid.SeenSid.{SeenSid}

-- a SID of a channel
abbrev pub sid_text : SeenSid → List ℕ
sid_text row = codes "channel" ++ spaced row.channel ++ codes ", SID" ++ spaced row.sid

-- the first number and the last, where there is one
abbrev pub numbers_text : SeenSid → Option ℕ → List ℕ
numbers_text row None = codes ", no number"
numbers_text row (Some last) = codes ", numbers" ++ spaced (slice_index row.kept 0) ++ codes " to" ++ spaced last

-- the SID with which this one looks like one flow, where there is one
abbrev pub twin_text : Option SeenSid → List ℕ
twin_text None = []
twin_text (Some twin) = codes "; a guess: of one flow with " ++ sid_text twin

-- the line of a SID behind these
abbrev pub row_line : List SeenSid → SeenSid → List ℕ
row_line above row =
    codes "# " ++ sid_text row ++ codes ": segments" ++ spaced row.segments ++ codes ", bad checks" ++ spaced row.bad ++ numbers_text row row.last
    ++ twin_text (twin_of above row) ++ line_feed ∷ []

-- the lines of SIDs behind these, and of all
abbrev pub rows_after : List SeenSid → List SeenSid → List ℕ
rows_after above [] = []
rows_after above (row ∷ more) = row_line above row ++ rows_after (above ++ row ∷ []) more

abbrev pub rows_text : List SeenSid → List ℕ
rows_text rows = rows_after [] rows

-- how many segments of other SIDs there were, if there were any
abbrev pub others_line : ℕ → List ℕ
others_line others = if others == 0 then [] else (codes "# segments of other SIDs:" ++ spaced others ++ line_feed ∷ [])

-- **The table**, of comments.
abbrev pub seen_text : Seen → List ℕ
seen_text seen =
    codes "# No registration tells the SID of a flow. What was seen of segments, by upstream channel and SID:" ++ line_feed ∷ []
    ++ rows_text seen.rows ++ others_line seen.others
