-- What is put to a text.
use Rattle.std.specs.Prelude.{◌≡◌, ℕ, ◌+◌, ◌/◌, ◌%◌, IsTrue, List, ◌++◌, drop, codes, flat_map}
use Rattle.std.specs.List.{enumerate_from}
use Rattle.std.specs.Fmt.{decimal}
use Rattle.text_lines.specs.declared.text_buffer.TextBuffer.{TextBuffer}

-- Whatever had been put, now this was put besides: by the relation that what takes the text keeps.
abbrev pub Puts : {T : Type 0} → (T → List ℕ → T → Type 0) → T → List ℕ → T → Type 0
Puts {T} after old more new = (start : T) (text : List ℕ) → after start text old → after start (text ++ more) new

-- whatever had been put, it makes no difference if something is put besides
abbrev pub IsClosed : {T : Type 0} → (T → List ℕ → T → Type 0) → T → Type 0
IsClosed {T} after now = (more : List ℕ) → Puts after now more now

-- a text in memory that is whole was whole before, and grew by just what was put
abbrev pub HasGrown : TextBuffer → List ℕ → TextBuffer → Type 0
HasGrown start text end = IsTrue end.whole → IsTrue start.whole × (end.text.items ≡ start.text.items ++ text)

-- the texts of items one behind another, each made with the item's place
abbrev pub numbered_texts : {T : Type 0} → (ℕ → T → List ℕ) → List T → List ℕ
numbered_texts text items = flat_map (λ one. text one.0 one.1) (enumerate_from 0 items)

-- nanoseconds in a second
abbrev pub second : ℕ
second = 1000000000

-- a time in seconds, with nine digits behind the point: those of a second more, but for the first
abbrev pub seconds_text : ℕ → List ℕ
seconds_text nanoseconds = decimal (nanoseconds / second) ++ codes "." ++ drop 1 (decimal (second + nanoseconds % second))

-- a space and a number
abbrev pub spaced : ℕ → List ℕ
spaced number = codes " " ++ decimal number
