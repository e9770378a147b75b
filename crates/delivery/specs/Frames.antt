-- Frames as contracts see them.
use Rattle.std.specs.Prelude.{ℕ, List, map, Vec}
use Rattle.std.specs.declared.alloc.Global.{Global}

-- the bytes of a frame
abbrev pub Frame : Type 0
Frame = List ℕ

-- frames that are owned, each as the list of its bytes
abbrev pub frames_in : List (Vec ℕ Global) → List Frame
frames_in owned = map (λ v. v.items) owned
