use Rattle.std.proofs.Common.{◌≡◌, take, length, sym, ap, subst, ◌∙◌, rules}
use Rattle.std.specs.Io.KnownBytes.{Consumes}
use Rattle.std.proofs.lemmas.Result.{err_from_is_err_and}
use Rattle.engines.specs.Device.{inner_of}
use Rattle.engines.proofs.ReadLines.{of_room}
use Rattle.capture_engines.proofs.ReadCapture.{far_more, far_fault, far_whole, far_early}
use Rattle.capture_engines.proofs.mapping.read_capture.Goals as goal

pub returns-in_err-finish-clause-cause : goal.returns-in_err-finish-clause-cause
returns-in_err-finish-clause-cause g c =
    let none : c.in_ok-count.count ≡ 0 = search rules in
    let read =
    subst (λ n. Consumes (g.R.Read.remaining (inner_of c.loop.reader)) (g.R.Read.remaining (inner_of c.read_some.new.reader)) (take n c.read_some.new.room)) none
    c.in_ok-count.ensures.taken in
    let p = err_from_is_err_and c.from_residual-in_err-finish.result c.from_residual-in_err-finish.ensures.1 in
    rw (p.1, p.2)
    (far_early g.R.Read.remaining c.args.reader.now c.loop.reader c.loop.reading c.loop.invariant.far c.read_some.new.reader read (c.in_ok-count.ensures.end none)
    c.in_err-finish.field-0.0 c.in_err-finish.ensures.fault)

pub returns-then-count-eq0-clause-read : goal.returns-then-count-eq0-clause-read
returns-then-count-eq0-clause-read g c =
    let none : c.in_ok-count.count ≡ 0 = search rules in
    let read =
    subst (λ n. Consumes (g.R.Read.remaining (inner_of c.loop.reader)) (g.R.Read.remaining (inner_of c.read_some.new.reader)) (take n c.read_some.new.room)) none
    c.in_ok-count.ensures.taken in
    far_whole g.R.Read.remaining c.args.reader.now c.loop.reader c.loop.reading c.loop.invariant.far c.read_some.new.reader read (c.in_ok-count.ensures.end none)
    c.in_ok-finish.ensures.whole

pub returns-in_err-take_piece-clause-cause : goal.returns-in_err-take_piece-clause-cause
returns-in_err-take_piece-clause-cause g c =
    let front = c.read_some.new.room in
    let long : length front ≡ c.loop.piece.len = search rules in
    let piece = c.deref.ensures.value in
    let front_is = of_room c.in_ok-count.count c.loop.piece.len front _ c.in_ok-count.ensures.within long in
    let p = err_from_is_err_and c.from_residual-in_err-take_piece.result c.from_residual-in_err-take_piece.ensures.1 in
    rw (p.1, p.2)
    (far_fault g.R.Read.remaining c.args.reader.now c.loop.reader c.loop.reading c.loop.invariant.far c.read_some.new.reader (take c.in_ok-count.count c.deref.result.now)
    (subst (Consumes (g.R.Read.remaining (inner_of c.loop.reader)) (g.R.Read.remaining (inner_of c.read_some.new.reader))) (sym (ap (take c.in_ok-count.count) piece ∙ front_is))
    c.in_ok-count.ensures.taken) c.in_err-take_piece.field-0.0 c.in_err-take_piece.ensures.fault)

pub loop-preserved : goal.loop-preserved
loop-preserved g c =
    let front = c.read_some.new.room in
    let long : length front ≡ c.loop.piece.len = search rules in
    let piece = c.deref.ensures.value in
    let front_is = of_room c.in_ok-count.count c.loop.piece.len front _ c.in_ok-count.ensures.within long in
    record {
      far =
          far_more g.R.Read.remaining c.args.reader.now c.loop.reader c.loop.reading c.loop.invariant.far c.read_some.new.reader (take c.in_ok-count.count c.deref.result.now)
          (subst (Consumes (g.R.Read.remaining (inner_of c.loop.reader)) (g.R.Read.remaining (inner_of c.read_some.new.reader)))
          (sym (ap (take c.in_ok-count.count) piece ∙ front_is)) c.in_ok-count.ensures.taken)
          c.take_piece.new.self c.in_ok-count.ensures.sound c.in_ok-take_piece.ensures.taken;
      counted = search rules;
      room = c.loop.invariant.room;
    }
