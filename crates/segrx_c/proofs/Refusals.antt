-- What is said where no receiver is made.
use Rattle.std.proofs.Common.{◌≡◌, ℕ, List, Option, None, sym, subst}
use Rattle.c_receiver.specs.declared.held.HeldReceiver.{HeldReceiver}
use Rattle.c_receiver.specs.declared.plain.PlainFlow.{PlainFlow}
use Rattle.c_receiver.specs.declared.plain.PlainRow.{PlainRow}
use Rattle.c_receiver.specs.declared.status.MakeFault.{MakeFault}
use Rattle.c_receiver.specs.Statuses.{fault_number}
use Rattle.c_receiver.specs.Made.{IsNotMade}
use Rattle.segrx_c.specs.Made.{Gives}

pub not-made : (channels : ℕ) (flows : List PlainFlow) (rows : List PlainRow) (rule number : ℕ) (value : Option HeldReceiver) (fault : MakeFault)
    → value ≡ None → number ≡ fault_number fault → IsNotMade channels flows rows rule fault → Gives channels flows rows rule number value
not-made channels flows rows rule number value fault none told refused = subst (λ (v : Option HeldReceiver). Gives channels flows rows rule number v) (sym none) (fault, told, refused)
