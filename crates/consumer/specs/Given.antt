-- What was given of a flow and of a channel.
use Rattle.std.specs.Prelude.{ℕ, ◌==◌, Option, Some, None, List, [], ◌∷◌, filter_map, if◌then◌else◌}
use Rattle.lane.specs.declared.admitted.Request.{Request}
use Rattle.consumer.specs.declared.given.Given.{Given}
use Rattle.consumer.specs.declared.given.Given.TheVariants.{Frame, Asked}

-- the frames of flow k, in order
abbrev pub frame_of : ℕ → Given → Option (List ℕ)
frame_of k (Frame flow frame) = if flow == k then Some frame else None
frame_of k (Asked request) = None

abbrev pub frames_of : ℕ → List Given → List (List ℕ)
frames_of k given = filter_map (frame_of k) given

-- the requests that came on this channel, in order
abbrev pub request_on : ℕ → Given → Option Request
request_on channel (Frame flow frame) = None
request_on channel (Asked request) = if request.channel == channel then Some request else None

abbrev pub requests_given : ℕ → List Given → List Request
requests_given channel given = filter_map (request_on channel) given

-- what is given of a request, if there is one
abbrev pub asked_in : Option Request → List Given
asked_in None = []
asked_in (Some request) = Asked request ∷ []
