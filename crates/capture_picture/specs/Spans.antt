-- Which segments a channel brought.
use Rattle.std.specs.Prelude.{min, max, Option, Some, None}
use Rattle.capture_picture.specs.declared.span.Span.{Span}

-- what both have, together
abbrev pub joined_spans : Span → Span → Span
joined_spans one other = record { low = min one.low other.low; high = max one.high other.high; behind = max one.behind other.behind }

-- the same, where either may have none
abbrev pub both_spans : Option Span → Option Span → Option Span
both_spans None other = other
both_spans (Some one) None = Some one
both_spans (Some one) (Some other) = Some (joined_spans one other)
