use Rattle.std.proofs.Common.{◌≡◌, ◌<◌, Some, length, slice_get, refl, sym, ◌∙◌, arith}
use Rattle.std.proofs.lemmas.Option.{slice_get_read}
use Rattle.std.proofs.lemmas.Bool.{ltb-true, ltb-false}
use Rattle.docsis_wire.specs.Inside.Cursor.{place_at}
use Rattle.docsis_wire.proofs.Starts.{StartsNext, StartsNext-here, StartsNext-behind, Points-found}
use Rattle.docsis_wire.proofs.cursor.first_start.Goals.{then-at-gt0, else-at-gt0, then-starting-frames, else-starting-frames}
use Rattle.docsis_wire.proofs.cursor.first_start.Goals as goal

pub returns : goal.returns
returns c =
    let frames = c.args.frames.now in
    let at = c.args.at in
    let look = c.in_ok-frame.ensures.lookup in
    let frame : slice_get frames at.frame ≡ Some c.in_ok-frame.frame.now = slice_get_read frames (length frames) at.frame c.in_ok-frame.frame.now refl look.3.0 look.1 in
    let within : at.offset < length c.in_ok-frame.frame.now = c.requires.placed.before c.in_ok-frame.frame.now frame in
    let next : StartsNext frames (place_at frames at) c.if-at-gt0.starting c.if-at-gt0.before =
    elim c.if-at-gt0.branch [
      | then-at-gt0 w ↦ let l = w.len.ensures in StartsNext-behind frames at c.in_ok-frame.frame.now c.if-at-gt0.starting c.if-at-gt0.before frame (omega arith) (omega arith) w.starting-is (omega arith)
      | else-at-gt0 w ↦ StartsNext-here frames at c.if-at-gt0.starting c.if-at-gt0.before c.requires.each (omega arith) w.starting-is w.before-is
    ] in
    Points-found frames at c.args.bytes c.if-at-gt0.starting c.if-at-gt0.before c.if-starting-frames.then_some c.then_some.result c.requires.each next c.then_some.ensures
    (elim c.if-starting-frames.branch [
      | then-starting-frames w ↦ λ found. (w.if-starting-frames.true, ltb-true _ _ (sym w.then_some-is ∙ found))
      | else-starting-frames w ↦ λ found. absurd (omega (arith, ltb-true _ _ (sym w.then_some-is ∙ found), w.if-starting-frames.false))
    ])
    (elim c.if-starting-frames.branch [
      | then-starting-frames w ↦ λ missed within less. omega (arith, less, ltb-false _ _ (sym w.then_some-is ∙ missed))
      | else-starting-frames w ↦ λ missed within less. omega (arith, within, w.if-starting-frames.false)
    ])
