-- How much room a receiver of a trace has.
use Rattle.std.specs.Prelude.{ℕ}

-- the capacity of the rings and mailboxes of a receiver that is replayed, where none is asked for
abbrev pub default_capacity : ℕ
default_capacity = 1024
