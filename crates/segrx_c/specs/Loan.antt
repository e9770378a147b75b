-- What is lent to a C program: the bytes of a frame, which stay the receiver's.
use Rattle.std.specs.Prelude.{ℕ, Option, Some, None, [], ◌∷◌, length}
use base.Fml.{Fml, ffalse, fsep, flft, flent}
use base.Fraction.{full_share}
use mir.Syntax.{named}
use denote.Builtin.{u8}
use denote.RawPtr.{Ptr, block_ptr, null_ptr}
use denote.Slice.{ShrSlice, slice_val}
use Rattle.std.specs.Ptr.{points_to}
use Rattle.std.specs.contracts.impls.GlobalAllocator.TheImpl.{ghosts}
use denote.Memory.{lone}
use mir.Raw.{raw}
use Rattle.c_receiver.specs.declared.held.HeldReceiver.{HeldReceiver}
use Rattle.c_receiver.specs.contracts.held.HeldReceiver.{the_row}
use Rattle.c_receiver.specs.Held.{bytes_lent}
use Rattle.segrx_c.specs.Handle.{handle_at}

-- the bytes that are lent, where they can be read while the lifetime lasts
abbrev pub read_at : ℕ → ℕ → ℕ → HeldReceiver → Fml
read_at lifetime b o held =
    (ShrSlice (named 0) (lifetime ∷ []) u8).own_val (record { ref_ptr = (b, o); now = bytes_lent held.lent }) (slice_val (b, o) (length (bytes_lent held.lent)) ∷ [])

-- the receiver, which is back once the lifetime is over, and the right to free its block
abbrev pub back_at : ℕ → Ptr → HeldReceiver → Fml
back_at lifetime handle held = fsep (flent (lifetime ∷ []) (points_to the_row handle held)) (ghosts.dealloc_token held.alloc (raw (lone the_row.mir)) handle)

-- **A loan.** While the lifetime lasts, which the C program alone can end, the bytes of the frame
-- that is lent can be read where this pointer points, and the receiver is nobody's: each call asks
-- for a handle. With its end the receiver is there again behind its handle, as it was left.
abbrev pub lent_at : ℕ → Ptr → Ptr → HeldReceiver → Fml
lent_at lifetime handle null_ptr held = ffalse
lent_at lifetime handle (block_ptr b o) held = fsep (flft (lifetime ∷ []) full_share) (fsep (read_at lifetime b o held) (back_at lifetime handle held))

-- a receiver that is lent until this lifetime ends, or that is there
abbrev pub perhaps_lent_at : Option ℕ → Ptr → Ptr → HeldReceiver → Fml
perhaps_lent_at None handle bytes held = handle_at handle held
perhaps_lent_at (Some lifetime) handle bytes held = lent_at lifetime handle bytes held
