-- What a reading of the code stands for.
use Rattle.std.specs.Prelude.{◌≡◌, ◌⊎◌, ℕ, ◌==◌, ◌&&◌, nat_eq, List, [], Some, None, Result, MatchResult}
use Rattle.text_lines.specs.Lines.{fields_of}
use Rattle.capture_map.specs.Line.{Says}
use Rattle.std.specs.List.{list_any}
use Rattle.std.specs.HashSet.{contains}
use Rattle.capture_map.specs.Fault.{IsLineFault}
use Rattle.capture_map.specs.Reading.{Said, said_by, with_line, fault_in_place, HasFault}
use Rattle.capture_map.specs.declared.map_fault.LineFault.{LineFault}
use Rattle.capture_map.specs.declared.map_line.MapLine.{MapLine}
use Rattle.capture_map.specs.declared.reading.Reading.{Reading}

-- the reading has what the lines say, and has seen their identifiers
pub record HasRead (said : Said) (reading : Reading) : Type 0 where
  pub said_is : said_by reading.map ≡ said
  pub sfids : (sfid : ℕ) → contains nat_eq reading.sfids sfid ≡ list_any (λ flow. flow.sfid == sfid) said.flows
  pub sids : (channel sid : ℕ) → contains (λ p q. nat_eq p.0 q.0 && nat_eq p.1 q.1) reading.sids (channel, sid)
      ≡ list_any (λ row. row.channel == channel && row.sid == sid) said.sids

-- what a line says has no fault there, and is read too
pub record HasReadMore (said : Said) (line : MapLine) (after : Reading) : Type 0 where
  pub faultless : fault_in_place said line ≡ None
  pub read : HasRead (with_line said line) after

-- Whatever the reading has read: what a line says is read too, or its fault is reported.
abbrev pub ReadsLine : Reading → MapLine → Result (Unit {0}) LineFault → Reading → Type 0
ReadsLine reading line result after =
    (said : Said) → HasRead said reading
    → MatchResult result (λ _. HasReadMore said line after) (IsLineFault (λ kind. fault_in_place said line ≡ Some kind))

-- so is a whole line, or it is skipped
pub record ReadOn (said : Said) (fields : List (List ℕ)) (after : Reading) : Type 0 where
  pub says : MapLine
  pub is : Says says fields
  pub more : HasReadMore said says after

abbrev pub TakesLine : Reading → List ℕ → Result (Unit {0}) LineFault → Reading → Type 0
TakesLine reading line result after =
    (said : Said) → HasRead said reading
    → MatchResult result (λ _. ((fields_of line ≡ []) × HasRead said after) ⊎ ReadOn said (fields_of line) after) (IsLineFault (HasFault said (fields_of line)))
