-- Which ring an end belongs to.
use denote.RawPtr.{Ptr}
use Rattle.rtrb.specs.Shared.{Names}

-- the memory of a ring, and the names by which the ported ring knows it; both of its ends have them
abbrev pub RingName : Type 0
RingName = Ptr × Ptr × Names
