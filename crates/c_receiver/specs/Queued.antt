-- What a queue has after it was given something.
use Rattle.std.specs.Prelude.{◌≡◌, IsTrue, Option, Some, None, List, [], ◌∷◌, ◌++◌, filter_map}
use Rattle.lane.specs.declared.admitted.Request.{Request}
use Rattle.consumer.specs.declared.given.Given.{Given}
use Rattle.consumer.specs.declared.given.Given.TheVariants.{Frame, Asked}
use Rattle.c_receiver.specs.declared.plain.PlainRequest.{PlainRequest}
use Rattle.c_receiver.specs.declared.queue.QueuedFrame.{QueuedFrame}
use Rattle.c_receiver.specs.declared.queue.Queue.{Queue}

-- a request as C sees it
abbrev pub plain_request : Request → PlainRequest
plain_request request = record {
  flow = request.flow;
  units = request.units;
  sequence = request.sequence;
  channel = request.channel;
  cluster = request.cluster;
}

-- this as a frame that waits, and as a request that does, if it is one
abbrev pub as_frame : Given → Option QueuedFrame
as_frame (Frame flow frame) = Some (record { flow = flow; frame = frame })
as_frame (Asked request) = None

abbrev pub as_request : Given → Option PlainRequest
as_request (Frame flow frame) = None
as_request (Asked request) = Some (plain_request request)

-- all of it waits besides, in order
pub record GrewBy (start : Queue) (given : List Given) (end : Queue) : Type 0 where
  pub frames : end.frames.items ≡ start.frames.items ++ filter_map as_frame given
  pub requests : end.requests.items ≡ start.requests.items ++ filter_map as_request given

-- some of these, each once and in order
pub data AreSomeOf : List Given → List Given → Type 0 where
  none_kept : AreSomeOf [] []
  one_kept : {some all : List Given} (one : Given) → AreSomeOf some all → AreSomeOf (some ++ one ∷ []) (all ++ one ∷ [])
  one_missed : {some all : List Given} (one : Given) → AreSomeOf some all → AreSomeOf some (all ++ one ∷ [])

-- some of what was given waits besides; if nothing is missing at the end, nothing was at the start,
-- and it is all
pub record HasQueued (start : Queue) (given : List Given) (end : Queue) : Type 0 where
  pub kept : List Given
  pub some : AreSomeOf kept given
  pub grew : GrewBy start kept end
  pub all : IsTrue end.whole → IsTrue start.whole × (kept ≡ given)
