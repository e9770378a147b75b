-- What a clause sees of the five ports of one mailbox.
use Rattle.std.specs.Prelude.{◌≡◌, ℕ, false, List, [], ◌∷◌}
use Rattle.mailbox.specs.Ports.{Address, address, posted, port_capacity}
use Rattle.mailbox.specs.Mouths.{taken, ended, ends_taken, mouth_capacity}
use Rattle.mailbox.specs.declared.mouth.Mouth.{Mouth}
use Rattle.mailbox.specs.declared.opening.Ports.{Ports}

module _ {T : Type 0} where
  -- where the five ports came from, in order
  abbrev pub addresses : Ports T → List Address
  addresses ps = address ps.p0 ∷ address ps.p1 ∷ address ps.p2 ∷ address ps.p3 ∷ address ps.p4 ∷ []

  -- no port has posted anything
  pub record NonePosted (ports : Ports T) : Type 0 where
    pub p0 : posted ports.p0 ≡ []
    pub p1 : posted ports.p1 ≡ []
    pub p2 : posted ports.p2 ≡ []
    pub p3 : posted ports.p3 ≡ []
    pub p4 : posted ports.p4 ≡ []

  -- nothing was taken of any sender, and no end mark
  pub record NoneTaken (mouth : Mouth T) : Type 0 where
    pub taken_is : (k : ℕ) → taken mouth k ≡ []
    pub ended_is : (k : ℕ) → ended mouth k ≡ false
    pub ends_are : (k : ℕ) → ends_taken mouth k ≡ 0

  -- the mailbox of these ports and of this mouth has room for so many entries
  pub record HaveCapacity (ports : Ports T) (mouth : Mouth T) (entries : ℕ) : Type 0 where
    pub p0 : port_capacity ports.p0 ≡ entries
    pub p1 : port_capacity ports.p1 ≡ entries
    pub p2 : port_capacity ports.p2 ≡ entries
    pub p3 : port_capacity ports.p3 ≡ entries
    pub p4 : port_capacity ports.p4 ≡ entries
    pub mouth_is : mouth_capacity mouth ≡ entries
