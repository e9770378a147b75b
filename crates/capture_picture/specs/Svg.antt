-- The pieces of an SVG.
use Rattle.std.specs.Prelude.{ℕ, ◌/◌, ◌%◌, List, [], ◌∷◌, ◌++◌, codes, slice_index_or}
use Rattle.std.specs.Fmt.{decimal}

-- a word and a number
abbrev pub valued : List ℕ → ℕ → List ℕ
valued word number = word ++ decimal number

-- the thousandths of a second that are whole
abbrev pub milliseconds : ℕ → ℕ
milliseconds nanoseconds = nanoseconds % 1000000000 / 1000000

-- a time in seconds, with three digits behind the point
abbrev pub time_text : ℕ → List ℕ
time_text nanoseconds =
    decimal (nanoseconds / 1000000000) ++ valued (codes ".") (milliseconds nanoseconds / 100) ++ decimal (milliseconds nanoseconds / 10 % 10)
    ++ decimal (milliseconds nanoseconds % 10)

-- the colours of the channels
abbrev pub colours : List (List ℕ)
colours =
    codes "#1f77b4" ∷ codes "#ff7f0e" ∷ codes "#2ca02c" ∷ codes "#d62728" ∷ codes "#9467bd" ∷ codes "#8c564b" ∷ codes "#e377c2"
    ∷ codes "#7f7f7f" ∷ codes "#bcbd22" ∷ codes "#17becf" ∷ codes "#000075" ∷ codes "#808000" ∷ codes "#f032e6" ∷ codes "#3cb44b"
    ∷ codes "#9a6324" ∷ codes "#46f0f0" ∷ []

unfoldable pub colour_text : ℕ → List ℕ
colour_text channel = slice_index_or colours (channel % 16) []
