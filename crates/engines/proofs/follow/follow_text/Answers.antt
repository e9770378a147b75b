use Rattle.std.proofs.Common.{◌≡◌, ◌≤◌, inl, inr, [], take, length, length-take, sym, ap, subst, ◌∙◌, arith, rules}
use Rattle.std.specs.Io.KnownBytes.{Consumes}
use Rattle.std.proofs.KnownBytes.{Keeps-refl, Consumes-nil, Consumes-kept}
use Rattle.std.proofs.lemmas.Result.{err_from_is_err_and}
use Rattle.engines.specs.Device.{inner_of}
use Rattle.engines.specs.FlushedReads.{MakesReads}
use Rattle.engines.proofs.FollowedDevices.{stays_flushed, far_nothing, far_more, trace_refused, trace_unread, trace_stopped, trace_finished}
use Rattle.engines.proofs.FollowedReads.{shown-none, shown-nothing, shown-read, shown-more}
use Rattle.engines.proofs.ReadLines.{of_room}
use Rattle.engines.proofs.follow.follow_text.Goals as goal

pub returns-in_err-piece-clause-follows : goal.returns-in_err-piece-clause-follows
returns-in_err-piece-clause-follows g c =
    let p = err_from_is_err_and c.from_residual.result c.from_residual.ensures.1 in
    rw (p.1, p.2) (trace_refused g.R.Read.remaining g.W.Write.contents c.args.rule c.args.width c.args.settings c.args.reader.now c.args.writer.now c.requires.reader.3)

pub returns-in_err-room-clause-follows : goal.returns-in_err-room-clause-follows
returns-in_err-room-clause-follows g c =
    let p = err_from_is_err_and c.from_residual-in_err-room.result c.from_residual-in_err-room.ensures.1 in
    rw (p.1, p.2) (trace_refused g.R.Read.remaining g.W.Write.contents c.args.rule c.args.width c.args.settings c.args.reader.now c.args.writer.now c.requires.reader.3)

pub returns-in_err-follower-clause-follows : goal.returns-in_err-follower-clause-follows
returns-in_err-follower-clause-follows g c =
    let p = err_from_is_err_and c.from_residual-in_err-follower.result c.from_residual-in_err-follower.ensures.1 in
    rw (p.1, p.2) (trace_refused g.R.Read.remaining g.W.Write.contents c.args.rule c.args.width c.args.settings c.args.reader.now c.args.writer.now c.requires.reader.3)

pub loop-init : goal.loop-init
loop-init g c = record {
  far =
      far_nothing g.R.Read.remaining g.W.Write.contents c.args.rule c.args.width c.args.settings c.args.reader.now c.args.writer.now c.in_ok-follower.follower
      c.in_ok-follower.ensures;
  shown = λ start made.
      shown-nothing g.R.ReadBehind.after c.args.rule c.args.width c.args.settings start (g.R.Read.remaining (inner_of c.args.reader.now)) (g.W.Write.contents (inner_of c.args.writer.now))
      (inner_of c.args.reader.now) c.in_ok-follower.follower made c.in_ok-follower.ensures;
  behind = c.requires.reader.3;
  counted = search rules;
  room = c.in_ok-piece.ensures;
}

pub read_behind-requires-clause-flushed : goal.read_behind-requires-clause-flushed
read_behind-requires-clause-flushed g c = stays_flushed _ _ c.requires.writer.2 c.loop.invariant.far.flushed

pub returns-in_err-count-clause-follows : goal.returns-in_err-count-clause-follows
returns-in_err-count-clause-follows g c =
    let p = err_from_is_err_and c.from_residual-in_err-count.result c.from_residual-in_err-count.ensures.1 in
    rw (p.1, p.2 ∙ c.in_err-count.ensures.only)
    (trace_unread g.R.Read.remaining g.W.Write.contents c.args.rule c.args.width c.args.settings c.args.reader.now c.args.writer.now c.loop.reader c.loop.writer c.loop.follower
    c.loop.invariant.far c.read_behind.new.reader c.in_err-count.ensures.kept (inl c.in_err-count.ensures.failed)
    (c.read_behind.ensures.behind ∙ c.loop.invariant.behind))

pub returns-then-count-eq0-clause-follows : goal.returns-then-count-eq0-clause-follows
returns-then-count-eq0-clause-follows g c =
    let far = c.loop.invariant.far in
    let none : c.in_ok-count.count ≡ 0 = search rules in
    let read =
    subst (λ n. Consumes (g.R.Read.remaining (inner_of c.loop.reader)) (g.R.Read.remaining (inner_of c.read_behind.new.reader)) (take n c.read_behind.new.room)) none
    c.in_ok-count.ensures.taken in
    trace_finished g.R.Read.remaining g.W.Write.contents c.args.rule c.args.width c.args.settings c.args.reader.now c.args.writer.now c.loop.reader c.loop.writer c.loop.follower far
    c.read_behind.new.reader read (c.in_ok-count.ensures.end none) (c.read_behind.ensures.behind ∙ c.loop.invariant.behind) c.finish.new.writer c.finish.result c.requires.reader.0 c.requires.writer.0 c.in_ok-count.ensures.sound
    (c.finish.ensures c.args.rule c.args.width c.args.settings far.bytes far.told far.followed)

pub returns-in_err-take_piece-clause-follows : goal.returns-in_err-take_piece-clause-follows
returns-in_err-take_piece-clause-follows g c =
    let far = c.loop.invariant.far in
    let front = c.read_behind.new.room in
    let long : length front ≡ c.loop.piece.len = search rules in
    let piece = c.deref.ensures.value in
    let front_is = of_room c.in_ok-count.count c.loop.piece.len front _ c.in_ok-count.ensures.within long in
    let p = err_from_is_err_and c.from_residual-in_err-take_piece.result c.from_residual-in_err-take_piece.ensures.1 in
    let followed = c.in_err-take_piece.ensures c.args.rule c.args.width c.args.settings far.bytes far.told far.followed in
    let few : length (take c.in_ok-count.count c.deref.result.now) ≤ 262144 =
    omega (arith, length-take c.in_ok-count.count c.deref.result.now, c.in_ok-count.ensures.within, long, c.loop.invariant.room) in
    rw (p.1, p.2)
    (trace_stopped g.R.Read.remaining g.W.Write.contents c.args.rule c.args.width c.args.settings c.args.reader.now c.args.writer.now c.loop.reader c.loop.writer c.loop.follower far
    c.read_behind.new.reader (take c.in_ok-count.count c.deref.result.now)
    (subst (Consumes (g.R.Read.remaining (inner_of c.loop.reader)) (g.R.Read.remaining (inner_of c.read_behind.new.reader))) (sym (ap (take c.in_ok-count.count) piece ∙ front_is))
    c.in_ok-count.ensures.taken) few (c.read_behind.ensures.behind ∙ c.loop.invariant.behind) c.take_piece.new.writer followed.0 _ followed.1.0 followed.1.1 followed.1.2)

pub loop-preserved : goal.loop-preserved
loop-preserved g c =
    let far = c.loop.invariant.far in
    let front = c.read_behind.new.room in
    let long : length front ≡ c.loop.piece.len = search rules in
    let piece = c.deref.ensures.value in
    let front_is = of_room c.in_ok-count.count c.loop.piece.len front _ c.in_ok-count.ensures.within long in
    let followed = c.in_ok-take_piece.ensures c.args.rule c.args.width c.args.settings far.bytes far.told far.followed in
    record {
      far =
          far_more g.R.Read.remaining g.W.Write.contents c.args.rule c.args.width c.args.settings c.args.reader.now c.args.writer.now c.loop.reader c.loop.writer c.loop.follower far
          c.read_behind.new.reader (take c.in_ok-count.count c.deref.result.now)
          (subst (Consumes (g.R.Read.remaining (inner_of c.loop.reader)) (g.R.Read.remaining (inner_of c.read_behind.new.reader)))
          (sym (ap (take c.in_ok-count.count) piece ∙ front_is)) c.in_ok-count.ensures.taken)
          c.take_piece.new.writer c.take_piece.new.self followed.0 c.in_ok-count.ensures.sound followed.1.0 followed.1.1 followed.1.2 followed.1.3;
      shown = λ start made.
          let so_far = c.loop.invariant.shown start made in
          let taken = c.in_ok-take_piece.ensures c.args.rule c.args.width c.args.settings so_far.bytes so_far.told so_far.followed in
          shown-more g.R.ReadBehind.after c.args.rule c.args.width c.args.settings start (g.R.Read.remaining (inner_of c.args.reader.now)) (g.W.Write.contents (inner_of c.args.writer.now))
          (g.R.Read.remaining (inner_of c.loop.reader)) (g.W.Write.contents (inner_of c.loop.writer)) (inner_of c.loop.reader) c.loop.follower so_far
          (g.R.Read.remaining (inner_of c.read_behind.new.reader)) (inner_of c.read_behind.new.reader) (take c.in_ok-count.count c.deref.result.now)
          (subst (MakesReads g.R.ReadBehind.after (g.W.Write.contents (inner_of c.loop.writer)) (inner_of c.loop.reader) (inner_of c.read_behind.new.reader))
          (sym (ap (take c.in_ok-count.count) piece ∙ front_is)) c.in_ok-count.ensures.shown)
          (subst (Consumes (g.R.Read.remaining (inner_of c.loop.reader)) (g.R.Read.remaining (inner_of c.read_behind.new.reader)))
          (sym (ap (take c.in_ok-count.count) piece ∙ front_is)) c.in_ok-count.ensures.taken)
          (g.W.Write.contents (inner_of c.take_piece.new.writer)) c.take_piece.new.self taken.0 taken.1.0 taken.1.1;
      behind = c.read_behind.ensures.behind ∙ c.loop.invariant.behind;
      counted = search rules;
      room = c.loop.invariant.room;
    }

pub returns-clause-follows : goal.returns-clause-follows
returns-clause-follows g c =
    trace_unread g.R.Read.remaining g.W.Write.contents c.args.rule c.args.width c.args.settings c.args.reader.now c.args.writer.now c.loop.reader c.loop.writer c.loop.follower
    c.loop.invariant.far c.loop.reader (Keeps-refl (g.R.Read.remaining (inner_of c.loop.reader))) (inr (search rules)) c.loop.invariant.behind

-- ---- what stood flushed at each read

pub returns-in_err-piece-clause-shown : goal.returns-in_err-piece-clause-shown
returns-in_err-piece-clause-shown g c = λ start made.
    shown-none g.R.ReadBehind.after c.args.rule c.args.width c.args.settings start (g.R.Read.remaining (inner_of c.args.reader.now)) (g.W.Write.contents (inner_of c.args.writer.now))
    (inner_of c.args.reader.now) made

pub returns-in_err-room-clause-shown : goal.returns-in_err-room-clause-shown
returns-in_err-room-clause-shown g c = λ start made.
    shown-none g.R.ReadBehind.after c.args.rule c.args.width c.args.settings start (g.R.Read.remaining (inner_of c.args.reader.now)) (g.W.Write.contents (inner_of c.args.writer.now))
    (inner_of c.args.reader.now) made

pub returns-in_err-follower-clause-shown : goal.returns-in_err-follower-clause-shown
returns-in_err-follower-clause-shown g c = λ start made.
    shown-none g.R.ReadBehind.after c.args.rule c.args.width c.args.settings start (g.R.Read.remaining (inner_of c.args.reader.now)) (g.W.Write.contents (inner_of c.args.writer.now))
    (inner_of c.args.reader.now) made

pub returns-in_err-count-clause-shown : goal.returns-in_err-count-clause-shown
returns-in_err-count-clause-shown g c = λ start made.
    shown-read g.R.ReadBehind.after c.args.rule c.args.width c.args.settings start (g.R.Read.remaining (inner_of c.args.reader.now)) (g.W.Write.contents (inner_of c.args.writer.now))
    (g.R.Read.remaining (inner_of c.loop.reader)) (g.W.Write.contents (inner_of c.loop.writer)) (inner_of c.loop.reader) c.loop.follower (c.loop.invariant.shown start made)
    (g.R.Read.remaining (inner_of c.read_behind.new.reader)) (inner_of c.read_behind.new.reader) [] c.in_err-count.ensures.shown
    (Consumes-kept (g.R.Read.remaining (inner_of c.loop.reader)) (g.R.Read.remaining (inner_of c.loop.reader)) (g.R.Read.remaining (inner_of c.read_behind.new.reader)) []
    (Consumes-nil (g.R.Read.remaining (inner_of c.loop.reader))) c.in_err-count.ensures.kept)

pub returns-then-count-eq0-clause-shown : goal.returns-then-count-eq0-clause-shown
returns-then-count-eq0-clause-shown g c = λ start made.
    shown-read g.R.ReadBehind.after c.args.rule c.args.width c.args.settings start (g.R.Read.remaining (inner_of c.args.reader.now)) (g.W.Write.contents (inner_of c.args.writer.now))
    (g.R.Read.remaining (inner_of c.loop.reader)) (g.W.Write.contents (inner_of c.loop.writer)) (inner_of c.loop.reader) c.loop.follower (c.loop.invariant.shown start made)
    (g.R.Read.remaining (inner_of c.read_behind.new.reader)) (inner_of c.read_behind.new.reader) (take c.in_ok-count.count c.read_behind.new.room) c.in_ok-count.ensures.shown
    c.in_ok-count.ensures.taken

pub returns-in_err-take_piece-clause-shown : goal.returns-in_err-take_piece-clause-shown
returns-in_err-take_piece-clause-shown g c = λ start made.
    shown-read g.R.ReadBehind.after c.args.rule c.args.width c.args.settings start (g.R.Read.remaining (inner_of c.args.reader.now)) (g.W.Write.contents (inner_of c.args.writer.now))
    (g.R.Read.remaining (inner_of c.loop.reader)) (g.W.Write.contents (inner_of c.loop.writer)) (inner_of c.loop.reader) c.loop.follower (c.loop.invariant.shown start made)
    (g.R.Read.remaining (inner_of c.read_behind.new.reader)) (inner_of c.read_behind.new.reader) (take c.in_ok-count.count c.read_behind.new.room) c.in_ok-count.ensures.shown
    c.in_ok-count.ensures.taken

pub returns-clause-shown : goal.returns-clause-shown
returns-clause-shown g c = λ start made. (c.loop.invariant.shown start made).reads.all
