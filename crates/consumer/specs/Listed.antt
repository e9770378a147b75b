-- What an iterator over a list of frames has still to give.
use Rattle.std.specs.Prelude.{ℕ, List, drop}
use Rattle.consumer.specs.declared.frame_list.Frames.{Frames}

-- the frames from its place on
abbrev pub frames_left : Frames → List (List ℕ)
frames_left frames = drop frames.next frames.list.now.items
