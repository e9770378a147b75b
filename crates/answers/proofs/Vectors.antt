-- A list in memory with these elements, where there are few enough.
use Rattle.std.proofs.Common.{◌^◌, ◌<◌, List, length, refl, arith}
use Rattle.std.specs.Global.{Global, Vec}
use denote.RawPtr.{null_ptr}

abbrev pub heap : Global
heap = record { memory = record { seal = tt } }

abbrev pub vec_of : {X : Type 0} (items : List X) → length items < 2 ^ 63 → Vec X
vec_of items few = record { ptr = null_ptr; len = length items; cap = length items; alloc = heap; items = items; ok = (refl, omega arith); small = few }
