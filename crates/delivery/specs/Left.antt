-- What is left of what was offered.
use Rattle.std.specs.Prelude.{◌≡◌, ℕ, List, ◌++◌, length}
use Rattle.delivery.specs.Frames.{Frame}

-- what was offered is what was taken, in order, and then so many frames more
pub record IsLeft (offered taken : List Frame) (left : ℕ) : Type 0 where
  pub rest : List Frame
  pub whole : offered ≡ taken ++ rest
  pub count : left ≡ length rest
