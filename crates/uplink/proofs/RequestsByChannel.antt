-- Requests that are given, with the ports from which they came.
use Rattle.std.proofs.Common.{◌≡◌, ℕ, ◌==◌, Bool, true, false, Some, None, List, [], ◌∷◌, map, if◌then◌else◌, refl, ap}
use Rattle.std.specs.List.{cons_option}
use Rattle.lane.specs.declared.admitted.Request.{Request}
use Rattle.consumer.specs.Given.{frames_of, requests_given}
use Rattle.receiver.specs.Order.{picked}
use Rattle.workers.specs.Inside.Scheduling.{Sent, requests_from, given_of}
use Rattle.uplink.proofs.SourcesServed.{request_for, requests_for}

-- no frame is among them
pub no-frame : (k : ℕ) (sent : List Sent) → frames_of k (given_of sent) ≡ []
no-frame k [] = refl
no-frame k (one ∷ rest) = no-frame k rest

-- those of a port are picked for it
pub picked-of-port : (port : ℕ) (sent : List Sent) → picked port (map (λ (s : Sent). s.from) sent) (map (λ (s : Sent). s.request) sent) ≡ requests_from port sent
picked-of-port port [] = refl
picked-of-port port (one ∷ rest) = either (picked-of-port port rest) (port == one.from)
  where
    others : List Request
    others = picked port (map (λ (s : Sent). s.from) rest) (map (λ (s : Sent). s.request) rest)

    either : others ≡ requests_from port rest → (b : Bool) → (if b then one.request ∷ others else others) ≡ cons_option (if b then Some one.request else None) (requests_from port rest)
    either same true = ap (λ l. one.request ∷ l) same
    either same false = same

-- those that are given of a channel are its requests
pub given-requests : (channel : ℕ) (sent : List Sent) → requests_given channel (given_of sent) ≡ requests_for channel (map (λ (s : Sent). s.request) sent)
given-requests channel [] = refl
given-requests channel (one ∷ rest) = ap (cons_option (request_for channel one.request)) (given-requests channel rest)
