-- What `join` answers for an input.
pub mod Line
use Rattle.std.specs.Prelude.{◌≡◌, ℕ, List, [], ◌∷◌, ◌++◌, map, flat_map, Some}
use Rattle.docsis_wire.specs.declared.segment.Segment.{Segment}
use Rattle.ccf.specs.Join.{Joins}
use Rattle.hex.specs.Hex.{encode_lower}
use Rattle.text_lines.specs.declared.fault.TextFault.{TextFault}
use Rattle.text_lines.specs.declared.fault.TextFault.TheVariants.{Trace, Cut, OutOfMemory}
use Rattle.text_lines.specs.Lines.{lines_of, line_feed}
use Rattle.text_lines.specs.Format.{IsRead, IsFirstFaultyLine}
use Rattle.texts.specs.Join.Line.{join_format}
use Rattle.texts.specs.AnyHeader.{any_header}

-- a frame's line: its bytes as lower-case digits, and a line feed
abbrev pub frame_line : List ℕ → List ℕ
frame_line frame = encode_lower frame ++ line_feed ∷ []

-- the text that stands for an input: a line for each frame that its segments, none lost, join to
pub record IsJoined (input text : List ℕ) : Type 0 where
  pub segments : List Segment
  pub frames : List (List ℕ)
  pub unfinished : List ℕ
  pub read : IsRead join_format [] (lines_of input) segments
  pub joined : Joins any_header [] (map Some segments) frames unfinished
  pub printed : text ≡ flat_map frame_line frames

-- why an input was not joined: its first faulty line, or a failed allocation
abbrev pub IsJoinFault : List ℕ → TextFault → Type 0
IsJoinFault input (Trace fault) = IsFirstFaultyLine join_format [] (lines_of input) fault
IsJoinFault input (Cut fault) = ⊥
IsJoinFault input OutOfMemory = Unit {0}
