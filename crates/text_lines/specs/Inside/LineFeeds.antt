-- A line feed in a text, and the first line that ends at one.
use Rattle.std.specs.Prelude.{◌≡◌, ℕ, false, List, ◌∷◌, ◌++◌, All}
use Rattle.text_lines.specs.Lines.{line_feed, is_line_feed}

-- no byte of a text is a line feed
abbrev pub HasNoLineFeed : List ℕ → Type 0
HasNoLineFeed text = All (λ byte. is_line_feed byte ≡ false) text

-- a text begins with this line and the line feed that ends it, and this follows
pub record BeginsWithLine (text line rest : List ℕ) : Type 0 where
  pub spelled : text ≡ line ++ line_feed ∷ rest
  pub none : HasNoLineFeed line
