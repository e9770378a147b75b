-- What lies behind the pointers that a C program passes.
use Rattle.std.specs.Prelude.{ℕ, List, Bool, nat_lt, true, false}
use base.Fml.{Fml, ftrue}
use denote.Array.{Array}
use denote.RattleType.{RattleType}
use denote.RawPtr.{Ptr}
use Rattle.std.specs.Ptr.{points_to, if_non_null}
use Rattle.std.specs.Box.Ownership.{box_owns}
use Rattle.std.specs.contracts.impls.GlobalAllocator.TheImpl.{ghosts}
use Rattle.c_receiver.specs.declared.held.HeldReceiver.{HeldReceiver}
use Rattle.c_receiver.specs.contracts.held.HeldReceiver.{the_row}

-- a receiver in a block of its own, with the right to free it
abbrev pub boxed_at : Ptr → HeldReceiver → Fml
boxed_at p held = box_owns (ghosts.dealloc_token held.alloc) the_row p held

-- **A handle**: that, and nothing where it is NULL.
abbrev pub handle_at : Ptr → HeldReceiver → Fml
handle_at p held = if_non_null p (boxed_at p held)

-- a value of this type, and nothing where the pointer is NULL
abbrev pub value_at : (R : RattleType) → Ptr → R.Denot → Fml
value_at R p x = if_non_null p (points_to R p x)

-- P, unless it is so
abbrev pub unless_so : Bool → Fml → Fml
unless_so true P = ftrue
unless_so false P = P

-- so many values, one after another; and nothing where the pointer is NULL or there are more than
-- may be passed
abbrev pub row_at : (R : RattleType) → ℕ → Ptr → (n : ℕ) → List R.Denot → Fml
row_at R most p n xs = if_non_null p (unless_so (nat_lt most n) (points_to (Array R n) p xs))
