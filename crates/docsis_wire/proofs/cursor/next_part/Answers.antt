use Rattle.std.proofs.Common.{◌≡◌, ◌<◌, Some, length, slice_get, arith}
use Rattle.docsis_wire.proofs.StreamPlaces.{place_of-next}
use Rattle.docsis_wire.proofs.Cursors.{frame_found, part_of-frame, rest_of-chunk, length-rest}
use Rattle.docsis_wire.proofs.cursor.next_part.Goals as goal

pub returns-then-most-rest-clause-part : goal.returns-then-most-rest-clause-part
returns-then-most-rest-clause-part c =
    let frames = c.args.frames.now in
    let at = c.args.at.now in
    let found = c.in-Some.ensures.lookup in
    let frame : slice_get frames at.frame ≡ Some c.as_slice.result.now = frame_found frames at.frame c.in-Some.frame.now c.as_slice.result.now found.3.0 found.1 c.as_slice.ensures in
    let within : at.offset < length c.as_slice.result.now = c.requires.placed.before c.as_slice.result.now frame in
    part_of-frame frames at c.as_slice.result.now c.args.most frame (omega arith)

pub returns-clause-part : goal.returns-clause-part
returns-clause-part c =
    let frames = c.args.frames.now in
    let at = c.args.at.now in
    let found = c.in-Some.ensures.lookup in
    let frame : slice_get frames at.frame ≡ Some c.as_slice.result.now = frame_found frames at.frame c.in-Some.frame.now c.as_slice.result.now found.3.0 found.1 c.as_slice.ensures in
    let within : at.offset < length c.as_slice.result.now = c.requires.placed.before c.as_slice.result.now frame in
    rest_of-chunk frames at c.as_slice.result.now frame (omega arith)

pub returns-clause-moved : goal.returns-clause-moved
returns-clause-moved c =
    let frames = c.args.frames.now in
    let at = c.args.at.now in
    let found = c.in-Some.ensures.lookup in
    let frame : slice_get frames at.frame ≡ Some c.as_slice.result.now = frame_found frames at.frame c.in-Some.frame.now c.as_slice.result.now found.3.0 found.1 c.as_slice.ensures in
    let within : at.offset < length c.as_slice.result.now = c.requires.placed.before c.as_slice.result.now frame in
    omega (arith, place_of-next frames at.frame c.as_slice.result.now frame, length-rest c.as_slice.result.now at.offset)

pub returns-clause-some : goal.returns-clause-some
returns-clause-some c =
    let frames = c.args.frames.now in
    let at = c.args.at.now in
    let found = c.in-Some.ensures.lookup in
    let frame : slice_get frames at.frame ≡ Some c.as_slice.result.now = frame_found frames at.frame c.in-Some.frame.now c.as_slice.result.now found.3.0 found.1 c.as_slice.ensures in
    let within : at.offset < length c.as_slice.result.now = c.requires.placed.before c.as_slice.result.now frame in
    λ wanted some. omega (arith, length-rest c.as_slice.result.now at.offset)
