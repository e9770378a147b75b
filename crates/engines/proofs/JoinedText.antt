-- What was joined of the lines of an input is its text.
use Rattle.std.proofs.Common.{ℕ, List, Option, [], refl}
use Rattle.std.specs.Prelude.{flat_map}
use Rattle.docsis_wire.specs.declared.segment.Segment.{Segment}
use Rattle.text_lines.specs.declared.fault.TextFault.{TextFault}
use Rattle.text_lines.specs.declared.fault.TextFault.TheVariants.{Trace, Cut, OutOfMemory}
use Rattle.texts.specs.Join.{IsJoined, IsJoinFault, frame_line}
use Rattle.texts.specs.Join.Line.{join_format}
use Rattle.texts.specs.Inside.Join.{IsJoinedSoFar}
use Rattle.texts.specs.declared.join.JoinInput.{JoinInput}
use Rattle.engines.specs.LinesRead.{HasReadLines, IsLinesFault}

-- the frames' lines
pub joined_text : (known : Option (List ℕ)) (joined : JoinInput)
    → (read : HasReadLines join_format [] (λ (segments : List Segment) (input : JoinInput). IsJoinedSoFar segments input.joiner input.frames.items) known joined)
    → IsJoined read.input (flat_map frame_line joined.frames.items)
joined_text known joined read = record {
  segments = read.state;
  frames = joined.frames.items;
  unfinished = joined.joiner;
  read = read.read;
  joined = read.stands;
  printed = refl;
}

-- and why there are none
pub join_fault : (input : List ℕ) (fault : TextFault) → IsLinesFault join_format [] input fault → IsJoinFault input fault
join_fault input (Trace fault) faulty = faulty
join_fault input (Cut fault) faulty = absurd faulty
join_fault input OutOfMemory faulty = tt
