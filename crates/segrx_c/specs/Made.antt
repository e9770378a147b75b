-- What is answered where a receiver was to be made.
use Rattle.std.specs.Prelude.{◌≡◌, ℕ, Option, Some, None, List}
use base.Fml.{Fml}
use denote.RawPtr.{Ptr}
use Rattle.c_receiver.specs.declared.held.HeldReceiver.{HeldReceiver}
use Rattle.c_receiver.specs.declared.plain.PlainFlow.{PlainFlow}
use Rattle.c_receiver.specs.declared.plain.PlainRow.{PlainRow}
use Rattle.c_receiver.specs.Held.{IsInUse}
use Rattle.c_receiver.specs.Made.{IsMade, IsNotMade}
use Rattle.segrx_c.specs.Handed.{is_null}
use Rattle.segrx_c.specs.Handle.{boxed_at}
use Rattle.c_receiver.specs.declared.status.MakeFault.{MakeFault}
use Rattle.c_receiver.specs.Statuses.{fault_number}

-- a receiver was made, or why not
abbrev pub Gives : ℕ → List PlainFlow → List PlainRow → ℕ → ℕ → Option HeldReceiver → Type 0
Gives channels flows rows rule number None = (fault : MakeFault) × (number ≡ fault_number fault) × IsNotMade channels flows rows rule fault
Gives channels flows rows rule number (Some held) = (number ≡ 0) × IsMade channels flows rows rule held × IsInUse held

-- its handle, or NULL
abbrev pub made_at : Ptr → Option HeldReceiver → Fml
made_at p None = is_null p
made_at p (Some held) = boxed_at p held
