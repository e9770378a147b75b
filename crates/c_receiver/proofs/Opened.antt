-- What is said of an open receiver.
use Rattle.std.proofs.Common.{◌≡◌, sym, subst}
use Rattle.docsis_wire.specs.declared.header_check.NoCheck.{NoCheck}
use Rattle.receiver.specs.declared.receiver.Receiver.{Receiver}
use Rattle.c_receiver.specs.declared.held.State.{State}
use Rattle.c_receiver.specs.declared.held.State.TheVariants.{Open}
use Rattle.c_receiver.specs.Held.{IfOpen}

pub where-open : (state : State) (receiver : Receiver NoCheck) (P : Receiver NoCheck → Type 0) (Q : Type 0) → state ≡ Open receiver → P receiver → IfOpen state P Q
where-open state receiver P Q is p = subst (λ (s : State). IfOpen s P Q) (sym is) p
