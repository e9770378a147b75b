-- What a consumer that counts has counted.
use Rattle.std.specs.Prelude.{◌≡◌, ℕ, ◌+◌, Bool, true, false, List, length, count_by, sum_by}
use Rattle.flow_records.specs.Counted.{counted}
use Rattle.consumer.specs.declared.given.Given.{Given}
use Rattle.consumer.specs.declared.given.Given.TheVariants.{Frame, Asked}
use Rattle.consumer.specs.declared.counts.Counts.{Counts}

-- this is a frame, and this a request
abbrev pub is_frame : Given → Bool
is_frame (Frame flow frame) = true
is_frame (Asked request) = false

abbrev pub is_request : Given → Bool
is_request (Frame flow frame) = false
is_request (Asked request) = true

-- how many bytes of frames this has
abbrev pub bytes_in : Given → ℕ
bytes_in (Frame flow frame) = length frame
bytes_in (Asked request) = 0

-- each count grew by those of what was given
pub record HasCounted (start : Counts) (given : List Given) (end : Counts) : Type 0 where
  pub frames : end.frames ≡ counted (start.frames + count_by is_frame given)
  pub bytes : end.bytes ≡ counted (start.bytes + sum_by bytes_in given)
  pub requests : end.requests ≡ counted (start.requests + count_by is_request given)
