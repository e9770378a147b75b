-- The lines of a text and the words of a line.
use Rattle.std.specs.Prelude.{ℕ, ◌==◌, ◌||◌, nat_lt, Bool, false, if◌then◌else◌, List, [], ◌∷◌, length, filter}
use Rattle.std.specs.List.{slice_split}

-- the byte that ends a line
abbrev pub line_feed : ℕ
line_feed = 10

-- whether a byte is that one
abbrev pub is_line_feed : ℕ → Bool
is_line_feed byte = byte == line_feed

-- whether a byte separates words: a space, a tab or a carriage return
abbrev pub is_separator : ℕ → Bool
is_separator byte = byte == 32 || byte == 9 || byte == 13

-- the parts before line feeds are lines, and so is a last part with something in it
abbrev pub lines_of_parts : List (List ℕ) → List (List ℕ)
lines_of_parts [] = []
lines_of_parts (part ∷ []) = if length part == 0 then [] else part ∷ []
lines_of_parts (part ∷ next ∷ more) = part ∷ lines_of_parts (next ∷ more)

-- the lines of a text
abbrev pub lines_of : List ℕ → List (List ℕ)
lines_of text = lines_of_parts (slice_split is_line_feed text)

-- the words of a line: the parts between the bytes that separate words, but for the empty ones
abbrev pub words_of : List ℕ → List (List ℕ)
words_of line = filter (λ part. nat_lt 0 (length part)) (slice_split is_separator line)

-- the byte with which a comment begins, `#`
abbrev pub comment_mark : ℕ
comment_mark = 35

-- whether a word begins a comment
abbrev pub begins_comment : List ℕ → Bool
begins_comment [] = false
begins_comment (byte ∷ more) = byte == comment_mark

-- the words, but none where the first begins a comment
abbrev pub without_comment : List (List ℕ) → List (List ℕ)
without_comment [] = []
without_comment (word ∷ more) = if begins_comment word then [] else word ∷ more

-- the fields of a line: its words, and none where it is a comment; a line without fields is skipped
abbrev pub fields_of : List ℕ → List (List ℕ)
fields_of line = without_comment (words_of line)
