-- What the worker of frames has done.
use Rattle.std.specs.Prelude.{◌≡◌, ℕ, true, List, [], ◌++◌, All, map, slice_index_or}
use Rattle.delivery.specs.Takers.{taker_ring, taken, is_closed}
use Rattle.delivery.specs.declared.taker.Taker.{Taker}
use Rattle.consumer.specs.declared.given.Given.{Given}
use Rattle.consumer.specs.declared.given.Given.TheVariants.{Frame}
use Rattle.consumer.specs.Given.{frames_of, requests_given}
use Rattle.workers.specs.declared.frame_worker.FrameWork.{FrameWork}
use Rattle.workers.specs.Given.{BecameBy}

-- what was taken by the taker of flow k, and nothing where there is none
abbrev pub taken_of : List Taker → ℕ → List (List ℕ)
taken_of takers k = slice_index_or (map taken takers) k []

-- These frames were taken since: of each flow those that are given of it, in order. No request is
-- given.
pub record HaveTaken (takers : List Taker) (given : List Given) (takers' : List Taker) : Type 0 where
  pub rings_are : map taker_ring takers' ≡ map taker_ring takers
  pub taken_are : (k : ℕ) → taken_of takers' k ≡ taken_of takers k ++ frames_of k given
  pub only_frames : (channel : ℕ) → requests_given channel given ≡ []

-- and they are all
pub record HaveTakenAll (takers : List Taker) (given : List Given) (takers' : List Taker) : Type 0 where
  pub have : HaveTaken takers given takers'
  pub closed : All (λ taker. is_closed taker ≡ true) takers'

module _ {F : Type 0} (after : F → List Given → F → Type 0) where
  -- what was taken by the taker of this flow was given to the consumer
  pub record FeedsOne (flow : ℕ) (taker : Taker) (consumer : F) (taker' : Taker) (consumer' : F) : Type 0 where
    pub frames : List (List ℕ)
    pub ring_is : taker_ring taker' ≡ taker_ring taker
    pub taken_is : taken taker' ≡ taken taker ++ frames
    pub became : BecameBy after consumer (map (Frame flow) frames) consumer'

  -- what was taken of all flows was given to the consumer
  pub record HasFed (takers : List Taker) (consumer : F) (takers' : List Taker) (consumer' : F) : Type 0 where
    pub given : List Given
    pub became : BecameBy after consumer given consumer'
    pub have : HaveTaken takers given takers'

  -- what was taken of all flows was given to the consumer, and that is everything
  pub record DidConsume (work done : FrameWork F) : Type 0 where
    pub given : List Given
    pub became : BecameBy after work.consumer given done.consumer
    pub have_all : HaveTakenAll work.takers.items given done.takers.items
