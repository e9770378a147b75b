-- What waited was handed in, and the receiver was closed, or not.
use Rattle.std.proofs.Common.{List, ℕ, [], ◌++◌, inl, inr, refl, sym, ap}
use Rattle.std.proofs.lemmas.Result.{on_ok_weaker}
use Rattle.frame_engine.proofs.Beside.{ended-written-beside, all-then-beside}
use Rattle.frame_engine.proofs.Ended.{wrote-nothing, ended-then}
use Rattle.frame_engine.proofs.Reading.{frames-so_far}
use Rattle.frame_engine.proofs.Taken.{ended-frames, ended-written}
use Rattle.frame_engine.proofs.joining.Joining.finish.Goals as goal

pub returns-in-Err-clause-written : goal.returns-in-Err-clause-written
returns-in-Err-clause-written g c = λ settings capture_map bursts written has.
    rw c.in-Err.ensures.only (
      [],
      inl (frames-so_far settings capture_map bursts written c.args.self (written ++ []) has (ap (λ (items : List ℕ). written ++ items) (sym c.requires.empty))),
      wrote-nothing g.W.Write.contents c.args.writer.now,
    )

pub returns-in-Err-write-clause-written : goal.returns-in-Err-write-clause-written
returns-in-Err-write-clause-written g c = λ settings capture_map bursts written has.
    let mid = c.end_waiting.new.self in (
      mid.file.bytes.items,
      inr (ended-frames settings capture_map bursts written mid (written ++ mid.file.bytes.items) (c.in-Ok.ensures.ended settings capture_map bursts written has) refl),
      (c.in-Err-write.ensures.front, c.in-Err-write.ensures.failed),
    )

pub returns-clause-written : goal.returns-clause-written
returns-clause-written g c = λ settings capture_map bursts written has.
    let mid = c.end_waiting.new.self in
    let ended = c.in-Ok.ensures.ended settings capture_map bursts written has in
    let now = ended-written settings capture_map bursts written mid (record mid { file = c.write.new.self }) ended refl c.write.ensures.link c.write.ensures.channels c.in-Ok-write.ensures.none_left in
    ended-then settings capture_map g.W.Write.contents bursts written mid.file.bytes.items c.args.writer.now c.write.new.writer c.write_closed.new.writer c.write_closed.result
    (c.in-Ok-write.ensures.written, c.in-Ok-write.ensures.left_flushed, c.in-Ok-write.ensures.sound)
    (c.write_closed.ensures.written settings capture_map bursts (written ++ mid.file.bytes.items) now)

pub returns-clause-compared : goal.returns-clause-compared
returns-clause-compared g c =
    on_ok_weaker c.write_closed.result
    (λ closes. λ settings capture_map records bursts written has.
    let mid = c.end_waiting.new.self in
    let ended = c.in-Ok.ensures.compared settings capture_map records bursts written has in
    let now =
    ended-written-beside settings capture_map c.write.new.self records bursts written mid c.end_waiting.new.comparing ended c.write.ensures.link c.write.ensures.channels
    c.in-Ok-write.ensures.none_left in
    all-then-beside g.W.Write.contents settings capture_map records bursts written mid.file.bytes.items c.args.writer.now c.write.new.writer c.write_closed.new.writer
    c.write_closed.new.comparing (c.in-Ok-write.ensures.written, c.in-Ok-write.ensures.left_flushed, c.in-Ok-write.ensures.sound)
    (closes settings capture_map records bursts (written ++ mid.file.bytes.items) now))
    c.write_closed.ensures.compared
