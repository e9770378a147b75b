-- When what happened twice is the same, but for the order in which frames of different flows and
-- requests are given.
use Rattle.std.specs.Prelude.{◌≡◌, ℕ, List, [], ◌++◌, map}
use Rattle.consumer.specs.declared.given.Given.{Given}
use Rattle.consumer.specs.Given.{frames_of, requests_given}
use Rattle.texts.specs.declared.follow.happening.Happening.{Happening}
use Rattle.texts.specs.declared.follow.happening.Happening.TheVariants.{Gave}

-- the same was given: of each flow the frames and on each channel the requests, both in order
pub record AreGivenAlike (given others : List Given) : Type 0 where
  pub frames : (k : ℕ) → frames_of k given ≡ frames_of k others
  pub requests : (channel : ℕ) → requests_given channel given ≡ requests_given channel others

-- **The same happened**: the same was told, in the same order, and before each part of it the same
-- was given.
pub data HappenAlike : List Happening → List Happening → Type 0 where
  alike_in_nothing : HappenAlike [] []
  alike_in_more : {happened others : List Happening} (given also : List Given) (told : List Happening)
      → HappenAlike happened others → AreGivenAlike given also → HappenAlike (happened ++ (map Gave given ++ told)) (others ++ (map Gave also ++ told))
