-- What is left of each sender once the threads have returned.
use Rattle.std.specs.Prelude.{◌≡◌, ℕ, Bool, true, List, [], ◌∷◌, ◌++◌, length}
use Rattle.mailbox.specs.Ports.{Address, closed_address}
use Rattle.mailbox.specs.declared.settling.ClosedPorts.{ClosedPorts}

module _ {T : Type 0} where
  -- where the five closed ports came from, in order
  abbrev pub closed_addresses : ClosedPorts T → List Address
  closed_addresses ps =
      closed_address ps.p0 ∷ closed_address ps.p1 ∷ closed_address ps.p2 ∷ closed_address ps.p3 ∷ closed_address ps.p4 ∷ []

  -- what was posted is what was taken and then as many items as are left; where the end mark was
  -- taken, none is left
  pub record Leaves (posted taken : List T) (ended : Bool) (left : ℕ) : Type 0 where
    pub rest : List T
    pub whole : posted ≡ taken ++ rest
    pub count : left ≡ length rest
    pub none : ended ≡ true → rest ≡ []
