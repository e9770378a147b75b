-- What lies in a ring.
use Rattle.std.specs.Prelude.{List, [], ◌∷◌}
use Rattle.delivery.specs.Frames as frames
use Rattle.delivery.specs.declared.parcel.Parcel.{Parcel}
use Rattle.delivery.specs.declared.parcel.Parcel.TheVariants.{Frame, End}

-- the frames among the parcels, in order
abbrev pub frames_of : List Parcel → List frames.Frame
frames_of [] = []
frames_of (Frame bytes ∷ parcels) = bytes.items ∷ frames_of parcels
frames_of (End ∷ parcels) = frames_of parcels
