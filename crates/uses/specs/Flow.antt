-- The frames of one flow whose segments came in any order.
use Rattle.std.specs.Prelude.{ℕ, Bool, List, [], map, Some}
use Rattle.docsis_wire.specs.declared.segment.ReadySegment.{ReadySegment}
use Rattle.ccf.specs.Join.{Joins}
use Rattle.uses.specs.Window.{IsRunOf}

-- the segments from the first number on, up to the first one that is missing, join to these frames
pub record ComesOutAs (check : List ℕ → Bool) (first width : ℕ) (offers : List (ℕ × ReadySegment)) (frames : List (List ℕ)) : Type 0 where
  pub run : List ReadySegment
  pub in_order : IsRunOf first width offers run
  pub unfinished : List ℕ
  pub joined : Joins check [] (map (λ ready. Some ready.segment) run) frames unfinished
