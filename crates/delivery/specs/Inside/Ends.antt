-- Where the end mark stands in a ring.
use Rattle.std.specs.Prelude.{Bool, true, false, List, [], ◌∷◌}
use Rattle.delivery.specs.declared.parcel.Parcel.{Parcel}
use Rattle.delivery.specs.declared.parcel.Parcel.TheVariants.{Frame, End}

-- an end mark stands among them
abbrev pub has_end : List Parcel → Bool
has_end [] = false
has_end (Frame bytes ∷ parcels) = has_end parcels
has_end (End ∷ parcels) = true

-- an end mark stands last, and nowhere else
abbrev pub ends_once : List Parcel → Bool
ends_once [] = false
ends_once (Frame bytes ∷ parcels) = ends_once parcels
ends_once (End ∷ []) = true
ends_once (End ∷ (parcel ∷ parcels)) = false
