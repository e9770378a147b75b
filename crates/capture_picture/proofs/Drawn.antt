-- What is drawn of the flow at a place.
use Rattle.std.proofs.Common.{◌≡◌, ℕ, ◌/◌, ◌<◌, List, length, get_or, set, ap, ◌∙◌}
use Rattle.capture_picture.specs.ShownFlow.{ShownFlow}
use Rattle.capture_picture.specs.Picture.{Picture, reached, changed_in_flow, drawn_at}
use Rattle.capture_picture.proofs.Changed.{changed_at-set}

-- the columns were wide enough, and the flow there was read, changed in the column of the age, and
-- written
pub drawn_at-set : (place age column : ℕ) (change : ℕ → ShownFlow → ShownFlow) (was now : Picture) (flow changed : ShownFlow) → now ≡ reached age was
    → column ≡ age / now.column_width → place < length now.flows → flow ≡ get_or now.flows place flow → changed ≡ change column flow
    → record now { flows = set now.flows place changed } ≡ drawn_at place age change was
unfolding drawn_at
drawn_at-set place age column change was now flow changed wide at within read is =
    ap (λ (flows : List ShownFlow). record now { flows = flows }) (changed_at-set place (change column) now.flows flow changed within read is)
    ∙ ap (λ (n : ℕ). changed_in_flow place (change n) now) at
    ∙ ap (λ (picture : Picture). changed_in_flow place (change (age / picture.column_width)) picture) wide
