-- Each piece is judged by the cursors before and after its chunk.
use Rattle.std.proofs.Common.{get_or, arith}
use Rattle.std.proofs.lemmas.Option.{slice_get-get_or}
use Rattle.docsis_wire.proofs.LawfulPieces.{MovesOver-from, FillsInsideFrame-at, PointsTooFar-at, fill_is_lawful, lawful_further, lawful_past}
use Rattle.docsis_wire.proofs.pieces.check_pieces.Goals as goal

pub returns-then-at-gt0-clause-faults : goal.returns-then-at-gt0-clause-faults
returns-then-at-gt0-clause-faults c = λ check each.
    let frames = c.args.frames.now in
    let pieces = c.args.pieces.now in
    let piece = get_or pieces c.loop-k.k record { bytes = 0; fill = 0 } in
    let over = MovesOver-from frames pieces c.loop-k.k piece c.loop-k.at c.advance.new.at c.from-bytes.result (slice_get-get_or pieces c.loop-k.k _ c.loop-k-test.true) c.from-bytes.ensures
    c.advance.ensures.placed c.loop-k.invariant.place c.advance.ensures.moved in
    record {
      each = each;
      here = FillsInsideFrame-at frames pieces c.loop-k.k piece c.loop-k.at c.advance.new.at over c.if-piece-gt0.true c.if-at-gt0.true;
      earlier = c.loop-k.invariant.lawful;
    }

pub returns-clause-cuttable : goal.returns-clause-cuttable
returns-clause-cuttable c = lawful_past c.args.frames.now c.args.pieces.now c.loop-k.k (omega arith) c.loop-k.invariant.lawful

pub returns-then-pointer-gt-POINTER_MAX-clause-faults :
    goal.returns-then-pointer-gt-POINTER_MAX-clause-faults
returns-then-pointer-gt-POINTER_MAX-clause-faults c = λ check each.
    let frames = c.args.frames.now in
    let pieces = c.args.pieces.now in
    let piece = get_or pieces c.loop-k.k record { bytes = 0; fill = 0 } in
    let over = MovesOver-from frames pieces c.loop-k.k piece c.loop-k.at c.advance.new.at c.from-bytes.result (slice_get-get_or pieces c.loop-k.k _ c.loop-k-test.true) c.from-bytes.ensures
    c.advance.ensures.placed c.loop-k.invariant.place c.advance.ensures.moved in
    record {
      each = each;
      here = PointsTooFar-at frames pieces c.loop-k.k piece c.loop-k.at c.advance.new.at c.from-bytes.result c.first_start.result over c.from-bytes.ensures c.first_start.ensures (omega (arith, c.unwrap_or-pointer.ensures));
      fill_lawful = fill_is_lawful frames pieces c.loop-k.k piece c.loop-k.at c.advance.new.at over (λ fills. omega (arith, fills, c.else-piece-gt0.either));
      earlier = c.loop-k.invariant.lawful;
    }

pub loop-k-preserved : goal.loop-k-preserved
loop-k-preserved c =
    let frames = c.args.frames.now in
    let pieces = c.args.pieces.now in
    let piece = get_or pieces c.loop-k.k record { bytes = 0; fill = 0 } in
    let over = MovesOver-from frames pieces c.loop-k.k piece c.loop-k.at c.advance.new.at c.from-bytes.result (slice_get-get_or pieces c.loop-k.k _ c.loop-k-test.true) c.from-bytes.ensures
    c.advance.ensures.placed c.loop-k.invariant.place c.advance.ensures.moved in
    record {
      placed = c.advance.ensures.placed;
      place = over.moved;
      lawful = lawful_further frames pieces c.loop-k.k piece c.loop-k.at c.advance.new.at c.from-bytes.result c.first_start.result over c.from-bytes.ensures c.first_start.ensures (λ fills. omega (arith, fills, c.else-piece-gt0.either)) (omega (arith, c.unwrap_or-pointer.ensures)) c.loop-k.invariant.lawful;
    }
