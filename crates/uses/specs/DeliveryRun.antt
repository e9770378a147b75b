-- What a consumer's thread has done.
use Rattle.std.specs.Prelude.{◌≡◌, ℕ, true, List, [], ◌∷◌, ◌++◌, Option, Some, None, Vec}
use Rattle.std.specs.declared.alloc.Global.{Global}
use Rattle.delivery.specs.Frames.{Frame, frames_in}
use Rattle.delivery.specs.Takers.{taker_ring, taken, is_closed}
use Rattle.delivery.specs.declared.taker.Taker.{Taker}
use Rattle.uses.specs.declared.delivery_run.Served.{Served}

-- the taker has answered `Closed`, and gave these frames since
pub record IsServed (taker : Taker) (served : Served) : Type 0 where
  pub ring : taker_ring served.taker ≡ taker_ring taker
  pub closed : is_closed served.taker ≡ true
  pub frames : taken served.taker ≡ taken taker ++ frames_in served.frames.items

-- unless memory ran out, what was taken since is what was kept
abbrev pub Gathers : List Frame → List Frame → Option (Vec (Vec ℕ Global) Global) → Type 0
Gathers before now None = Unit {0}
Gathers before now (Some kept) = now ≡ before ++ frames_in kept.items

-- unless memory ran out, one frame more was kept
abbrev pub Appends : Option (Vec (Vec ℕ Global) Global) → Vec ℕ Global → Option (Vec (Vec ℕ Global) Global) → Type 0
Appends was frame None = Unit {0}
Appends was frame (Some now) = (kept : Vec (Vec ℕ Global) Global) × (was ≡ Some kept) × (now.items ≡ kept.items ++ frame ∷ [])
