-- The law on whole cuts, at the cut that was made and the frames that it was joined to.
use Rattle.std.proofs.Common.{Some, [], List, map, subst}
use Rattle.docsis_wire.specs.declared.segment.Segment.{Segment}
use Rattle.docsis_wire.specs.Pieces.{fill_byte, chunks_of}
use Rattle.ccf.specs.Join.{Joins}
use Rattle.uses.proofs.cut_joined_again.cut_and_join.Goals as goal

pub returns-in-Ok : goal.returns-in-Ok
returns-in-Ok g c =
    let check = g.C.HeaderCheck.accepts c.args.check.now in
    let frames = c.args.frames.now in
    let segments = c.in_ok-segments.segments.items in
    let joined = c.in-Ok.joined.items in
    let after = c.in-Ok.ensures.0 in
    let P : List Segment → Type 0 = λ s. Joins check [] (map Some s) joined after in
    c.whole_cut_joins_to_the_frames_within_it.ensures check frames (chunks_of frames c.args.pieces.now) c.args.first (fill_byte c.args.fill) segments joined after
    c.in_ok-segments.ensures.lawful (subst P c.deref.ensures.value c.in-Ok.ensures.1)
