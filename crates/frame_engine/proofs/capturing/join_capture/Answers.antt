-- The capture was joined, or whatever ended it.
use Rattle.std.proofs.Common.{◌≡◌, inl, inr, [], take, length, refl, sym, ap, subst, ◌∙◌, rules}
use Rattle.std.specs.Io.KnownBytes.{Consumes}
use Rattle.std.proofs.KnownBytes.{Keeps-refl, Consumes-nil, Consumes-kept}
use Rattle.std.proofs.lemmas.List.{length-take-le}
use Rattle.std.proofs.lemmas.Result.{err_from_is_err_and, on_ok_weaker}
use Rattle.engines.specs.Device.{inner_of}
use Rattle.engines.specs.FlushedReads.{MakesReads}
use Rattle.engines.proofs.FollowedDevices.{stays_flushed}
use Rattle.engines.proofs.ReadLines.{of_room}
use Rattle.frame_engine.specs.declared.frame_reading.FrameReading.{FrameReading}
use Rattle.frame_engine.proofs.Devices.{capture-refused, capture-unheaded, far-begun, capture-unread, far-more, capture-stopped, capture-finished}
use Rattle.frame_engine.proofs.Beside.{beside-begun, beside-more, beside-finished}
use Rattle.frame_engine.proofs.Reading.{bytes-written}
use Rattle.frame_engine.proofs.Told.{told-nothing, told-begun, told-unread, told-read, told-more}
use Rattle.frame_engine.proofs.Shown.{shown-none, shown-begun, shown-read, shown-more}
use Rattle.frame_engine.proofs.capturing.join_capture.Goals as goal

pub returns-in_err-piece-clause-joins : goal.returns-in_err-piece-clause-joins
returns-in_err-piece-clause-joins g c = λ settings capture_map begun.
    let p = err_from_is_err_and c.from_residual.result c.from_residual.ensures.1 in
    rw (p.1, p.2) (capture-refused g.R.Read.remaining g.W.Write.contents settings capture_map c.args.reader.now c.args.writer.now c.requires.reader.3)

pub returns-in_err-write-clause-joins : goal.returns-in_err-write-clause-joins
returns-in_err-write-clause-joins g c = λ settings capture_map begun.
    let p = err_from_is_err_and c.from_residual-in_err-write.result c.from_residual-in_err-write.ensures.1 in
    rw (p.1, p.2)
    (capture-unheaded g.R.Read.remaining g.W.Write.contents settings capture_map c.args.reader.now c.args.writer.now c.write.new.writer c.args.reading begun
    c.in_err-write.ensures.front c.in_err-write.ensures.failed c.requires.reader.3)

pub loop-init : goal.loop-init
loop-init g c =
    let old = c.args.reading in
    let new : FrameReading = record old { joining = record old.joining { file = c.write.new.self } } in
    let wrote = c.in_ok-write.ensures in
    record {
      far = λ settings capture_map begun.
          far-begun g.R.Read.remaining g.W.Write.contents settings capture_map c.args.reader.now c.args.writer.now c.write.new.writer old new begun refl c.write.ensures.link
          c.write.ensures.channels wrote.none_left wrote.written wrote.left_flushed wrote.sound;
      beside = λ settings capture_map begun none.
          let has = begun c.args.comparing.now none in
          beside-begun g.R.Read.remaining g.W.Write.contents settings capture_map c.args.reader.now c.args.writer.now c.write.new.writer old c.write.new.self c.args.comparing.now has
          c.write.ensures.link c.write.ensures.channels wrote.none_left wrote.written;
      told = λ settings capture_map begun start came.
          told-begun g.R.Read.remaining g.P.TakeProgress.after settings capture_map c.args.reader.now start _ new c.args.told.now
          (bytes-written settings capture_map [] [] old new begun refl c.write.ensures.link c.write.ensures.channels wrote.none_left) c.requires.reader.1 came;
      shown = λ settings capture_map begun start made.
          shown-begun g.R.ReadBehind.after settings capture_map start (g.R.Read.remaining (inner_of c.args.reader.now)) (g.W.Write.contents (inner_of c.args.writer.now))
          (g.W.Write.contents (inner_of c.write.new.writer)) (inner_of c.args.reader.now) new old.joining.file.bytes.items made
          (bytes-written settings capture_map [] [] old new begun refl c.write.ensures.link c.write.ensures.channels wrote.none_left) wrote.written;
      ready = c.requires.reading;
      empty = wrote.none_left;
      flushed = stays_flushed _ _ c.requires.writer.2 wrote.left_flushed;
      behind = c.requires.reader.3;
      counted = search rules;
      room = search rules;
    }

pub returns-in-Err-clause-joins : goal.returns-in-Err-clause-joins
returns-in-Err-clause-joins g c = λ settings capture_map begun.
    rw c.in-Err.ensures.only
    (capture-unread g.R.Read.remaining g.W.Write.contents settings capture_map c.args.reader.now c.args.writer.now c.loop.reader c.loop.writer c.loop.reading
    (c.loop.invariant.far settings capture_map begun) c.read_behind.new.reader c.in-Err.ensures.kept (inl c.in-Err.ensures.failed)
    (c.read_behind.ensures.behind ∙ c.loop.invariant.behind))

pub returns-then-count-eq0-clause-joins : goal.returns-then-count-eq0-clause-joins
returns-then-count-eq0-clause-joins g c = λ settings capture_map begun.
    let far = c.loop.invariant.far settings capture_map begun in
    let none : c.in-Ok.count ≡ 0 = search rules in
    let read =
    subst (λ n. Consumes (g.R.Read.remaining (inner_of c.loop.reader)) (g.R.Read.remaining (inner_of c.read_behind.new.reader)) (take n c.read_behind.new.room)) none
    c.in-Ok.ensures.taken in
    capture-finished g.R.Read.remaining g.W.Write.contents settings capture_map c.args.reader.now c.args.writer.now c.loop.reader c.loop.writer c.loop.reading far
    c.read_behind.new.reader read (c.in-Ok.ensures.end none) (c.read_behind.ensures.behind ∙ c.loop.invariant.behind) c.finish-ended.new.writer c.finish-ended.result c.requires.reader.0 c.requires.writer.0 c.in-Ok.ensures.sound
    (c.finish-ended.ensures.written settings capture_map far.bytes far.text far.has)

pub returns-in-Err-join_piece-clause-joins : goal.returns-in-Err-join_piece-clause-joins
returns-in-Err-join_piece-clause-joins g c = λ settings capture_map begun.
    let far = c.loop.invariant.far settings capture_map begun in
    let front = c.read_behind.new.room in
    let long : length front ≡ c.loop.piece.len = search rules in
    let piece = c.deref.ensures.value in
    let front_is = of_room c.in-Ok.count c.loop.piece.len front _ c.in-Ok.ensures.within long in
    let joined = c.in-Err-join_piece.ensures.joins settings capture_map far.bytes far.text far.has in
    (capture-stopped g.R.Read.remaining g.W.Write.contents settings capture_map c.args.reader.now c.args.writer.now c.loop.reader c.loop.writer c.loop.reading far
    c.read_behind.new.reader (take c.in-Ok.count c.deref.result.now)
    (subst (Consumes (g.R.Read.remaining (inner_of c.loop.reader)) (g.R.Read.remaining (inner_of c.read_behind.new.reader))) (sym (ap (take c.in-Ok.count) piece ∙ front_is))
    c.in-Ok.ensures.taken) (c.read_behind.ensures.behind ∙ c.loop.invariant.behind) c.join_piece.new.writer joined.0 _ joined.1.0 joined.1.1 joined.1.2)

pub loop-preserved : goal.loop-preserved
loop-preserved g c =
    let front = c.read_behind.new.room in
    let long : length front ≡ c.loop.piece.len = search rules in
    let piece = c.deref.ensures.value in
    let front_is = of_room c.in-Ok.count c.loop.piece.len front _ c.in-Ok.ensures.within long in
    record {
      far = λ settings capture_map begun.
          let far = c.loop.invariant.far settings capture_map begun in
          let joined = c.in-Ok-join_piece.ensures.joins settings capture_map far.bytes far.text far.has in
          far-more g.R.Read.remaining g.W.Write.contents settings capture_map c.args.reader.now c.args.writer.now c.loop.reader c.loop.writer c.loop.reading far
          c.read_behind.new.reader (take c.in-Ok.count c.deref.result.now)
          (subst (Consumes (g.R.Read.remaining (inner_of c.loop.reader)) (g.R.Read.remaining (inner_of c.read_behind.new.reader)))
          (sym (ap (take c.in-Ok.count) piece ∙ front_is)) c.in-Ok.ensures.taken)
          c.join_piece.new.writer c.join_piece.new.self joined.0 c.in-Ok.ensures.sound joined.1.0 c.in-Ok-join_piece.ensures.empty joined.1.1 joined.1.2 joined.1.3;
      beside = λ settings capture_map begun none.
          let far = c.loop.invariant.beside settings capture_map begun none in
          beside-more g.R.Read.remaining g.W.Write.contents settings capture_map c.args.reader.now c.args.writer.now c.loop.reader c.loop.writer c.loop.reading c.loop.comparing far
          c.read_behind.new.reader (take c.in-Ok.count c.deref.result.now)
          (subst (Consumes (g.R.Read.remaining (inner_of c.loop.reader)) (g.R.Read.remaining (inner_of c.read_behind.new.reader)))
          (sym (ap (take c.in-Ok.count) piece ∙ front_is)) c.in-Ok.ensures.taken)
          c.join_piece.new.writer c.join_piece.new.self c.join_piece.new.comparing c.in-Ok-join_piece.ensures.compared;
      told = λ settings capture_map begun start came.
          let far = c.loop.invariant.told settings capture_map begun start came in
          let joined = c.in-Ok-join_piece.ensures.joins settings capture_map far.bytes far.written far.has in
          told-more g.R.Read.remaining g.P.TakeProgress.after settings capture_map c.args.reader.now start c.loop.reader c.loop.reading c.loop.told far
          c.read_behind.new.reader (take c.in-Ok.count c.deref.result.now)
          (subst (Consumes (g.R.Read.remaining (inner_of c.loop.reader)) (g.R.Read.remaining (inner_of c.read_behind.new.reader)))
          (sym (ap (take c.in-Ok.count) piece ∙ front_is)) c.in-Ok.ensures.taken)
          c.in-Ok.count _ c.join_piece.new.self _ c.tell_progress.new.told c.in-Ok.ensures.given
          (sym (ap length (ap (take c.in-Ok.count) piece ∙ front_is) ∙ length-take-le c.in-Ok.count front c.in-Ok.ensures.within)) joined.1.0
          (rw c.given.ensures at c.tell_progress.ensures);
      shown = λ settings capture_map begun start made.
          let far = c.loop.invariant.shown settings capture_map begun start made in
          let joined = c.in-Ok-join_piece.ensures.joins settings capture_map far.bytes far.text far.has in
          shown-more g.R.ReadBehind.after settings capture_map start (g.R.Read.remaining (inner_of c.args.reader.now)) (g.W.Write.contents (inner_of c.args.writer.now))
          (g.R.Read.remaining (inner_of c.loop.reader)) (g.W.Write.contents (inner_of c.loop.writer)) (inner_of c.loop.reader) c.loop.reading far c.loop.invariant.empty
          (g.R.Read.remaining (inner_of c.read_behind.new.reader)) (inner_of c.read_behind.new.reader) (take c.in-Ok.count c.deref.result.now)
          (subst (MakesReads g.R.ReadBehind.after (g.W.Write.contents (inner_of c.loop.writer)) (inner_of c.loop.reader) (inner_of c.read_behind.new.reader))
          (sym (ap (take c.in-Ok.count) piece ∙ front_is)) c.in-Ok.ensures.shown)
          (subst (Consumes (g.R.Read.remaining (inner_of c.loop.reader)) (g.R.Read.remaining (inner_of c.read_behind.new.reader)))
          (sym (ap (take c.in-Ok.count) piece ∙ front_is)) c.in-Ok.ensures.taken)
          (g.W.Write.contents (inner_of c.join_piece.new.writer)) c.join_piece.new.self joined.0 joined.1.0 joined.1.1;
      ready = c.in-Ok-join_piece.ensures.ready;
      empty = c.in-Ok-join_piece.ensures.empty;
      flushed = stays_flushed _ _ c.loop.invariant.flushed c.in-Ok-join_piece.ensures.flushed;
      behind = c.read_behind.ensures.behind ∙ c.loop.invariant.behind;
      counted = search rules;
      room = c.loop.invariant.room;
    }

pub returns-clause-joins : goal.returns-clause-joins
returns-clause-joins g c = λ settings capture_map begun.
    capture-unread g.R.Read.remaining g.W.Write.contents settings capture_map c.args.reader.now c.args.writer.now c.loop.reader c.loop.writer c.loop.reading
    (c.loop.invariant.far settings capture_map begun) c.loop.reader (Keeps-refl (g.R.Read.remaining (inner_of c.loop.reader))) (inr (search rules)) c.loop.invariant.behind

pub returns-then-count-eq0-clause-compared : goal.returns-then-count-eq0-clause-compared
returns-then-count-eq0-clause-compared g c = λ settings capture_map begun nothing.
    let far = c.loop.invariant.beside settings capture_map begun nothing in
    let none : c.in-Ok.count ≡ 0 = search rules in
    let read =
    subst (λ n. Consumes (g.R.Read.remaining (inner_of c.loop.reader)) (g.R.Read.remaining (inner_of c.read_behind.new.reader)) (take n c.read_behind.new.room)) none
    c.in-Ok.ensures.taken in
    on_ok_weaker c.finish-ended.result
    (λ finishes.
    beside-finished g.R.Read.remaining g.W.Write.contents settings capture_map c.args.reader.now c.args.writer.now c.loop.reader c.loop.writer c.loop.reading c.loop.comparing far
    c.read_behind.new.reader read (c.in-Ok.ensures.end none) c.finish-ended.new.writer c.finish-ended.new.comparing
    (finishes settings capture_map far.bytes far.text far.has))
    c.finish-ended.ensures.compared

-- ---- what was told

pub returns-in_err-piece-clause-told : goal.returns-in_err-piece-clause-told
returns-in_err-piece-clause-told g c = λ settings capture_map begun start came.
    told-nothing g.R.Read.remaining g.P.TakeProgress.after settings capture_map c.args.reader.now start c.args.told.now came

pub returns-in_err-write-clause-told : goal.returns-in_err-write-clause-told
returns-in_err-write-clause-told g c = λ settings capture_map begun start came.
    told-nothing g.R.Read.remaining g.P.TakeProgress.after settings capture_map c.args.reader.now start c.args.told.now came

pub returns-in-Err-clause-told : goal.returns-in-Err-clause-told
returns-in-Err-clause-told g c = λ settings capture_map begun start came.
    told-unread g.R.Read.remaining g.P.TakeProgress.after settings capture_map c.args.reader.now start c.loop.reader c.loop.reading c.loop.told
    (c.loop.invariant.told settings capture_map begun start came) c.read_behind.new.reader c.in-Err.ensures.kept

pub returns-then-count-eq0-clause-told : goal.returns-then-count-eq0-clause-told
returns-then-count-eq0-clause-told g c = λ settings capture_map begun start came.
    told-read g.R.Read.remaining g.P.TakeProgress.after settings capture_map c.args.reader.now start c.loop.reader c.loop.reading c.loop.told
    (c.loop.invariant.told settings capture_map begun start came) c.read_behind.new.reader _ c.in-Ok.ensures.taken

pub returns-in-Err-join_piece-clause-told : goal.returns-in-Err-join_piece-clause-told
returns-in-Err-join_piece-clause-told g c = λ settings capture_map begun start came.
    told-read g.R.Read.remaining g.P.TakeProgress.after settings capture_map c.args.reader.now start c.loop.reader c.loop.reading c.loop.told
    (c.loop.invariant.told settings capture_map begun start came) c.read_behind.new.reader _ c.in-Ok.ensures.taken

pub returns-clause-told : goal.returns-clause-told
returns-clause-told g c = λ settings capture_map begun start came.
    told-unread g.R.Read.remaining g.P.TakeProgress.after settings capture_map c.args.reader.now start c.loop.reader c.loop.reading c.loop.told
    (c.loop.invariant.told settings capture_map begun start came) c.loop.reader (Keeps-refl (g.R.Read.remaining (inner_of c.loop.reader)))

-- ---- what stood flushed at each read

pub returns-in_err-piece-clause-shown : goal.returns-in_err-piece-clause-shown
returns-in_err-piece-clause-shown g c = λ settings capture_map begun start made.
    shown-none g.R.ReadBehind.after settings capture_map start (g.R.Read.remaining (inner_of c.args.reader.now)) (g.W.Write.contents (inner_of c.args.writer.now))
    (inner_of c.args.reader.now) made

pub returns-in_err-write-clause-shown : goal.returns-in_err-write-clause-shown
returns-in_err-write-clause-shown g c = λ settings capture_map begun start made.
    shown-none g.R.ReadBehind.after settings capture_map start (g.R.Read.remaining (inner_of c.args.reader.now)) (g.W.Write.contents (inner_of c.args.writer.now))
    (inner_of c.args.reader.now) made

pub returns-in-Err-clause-shown : goal.returns-in-Err-clause-shown
returns-in-Err-clause-shown g c = λ settings capture_map begun start made.
    shown-read g.R.ReadBehind.after settings capture_map start (g.R.Read.remaining (inner_of c.args.reader.now)) (g.W.Write.contents (inner_of c.args.writer.now))
    (g.R.Read.remaining (inner_of c.loop.reader)) (g.W.Write.contents (inner_of c.loop.writer)) (inner_of c.loop.reader) c.loop.reading
    (c.loop.invariant.shown settings capture_map begun start made) c.loop.invariant.empty (g.R.Read.remaining (inner_of c.read_behind.new.reader)) (inner_of c.read_behind.new.reader)
    [] c.in-Err.ensures.shown
    (Consumes-kept (g.R.Read.remaining (inner_of c.loop.reader)) (g.R.Read.remaining (inner_of c.loop.reader)) (g.R.Read.remaining (inner_of c.read_behind.new.reader)) []
    (Consumes-nil (g.R.Read.remaining (inner_of c.loop.reader))) c.in-Err.ensures.kept)

pub returns-then-count-eq0-clause-shown : goal.returns-then-count-eq0-clause-shown
returns-then-count-eq0-clause-shown g c = λ settings capture_map begun start made.
    shown-read g.R.ReadBehind.after settings capture_map start (g.R.Read.remaining (inner_of c.args.reader.now)) (g.W.Write.contents (inner_of c.args.writer.now))
    (g.R.Read.remaining (inner_of c.loop.reader)) (g.W.Write.contents (inner_of c.loop.writer)) (inner_of c.loop.reader) c.loop.reading
    (c.loop.invariant.shown settings capture_map begun start made) c.loop.invariant.empty (g.R.Read.remaining (inner_of c.read_behind.new.reader)) (inner_of c.read_behind.new.reader)
    (take c.in-Ok.count c.read_behind.new.room) c.in-Ok.ensures.shown c.in-Ok.ensures.taken

pub returns-in-Err-join_piece-clause-shown : goal.returns-in-Err-join_piece-clause-shown
returns-in-Err-join_piece-clause-shown g c = λ settings capture_map begun start made.
    shown-read g.R.ReadBehind.after settings capture_map start (g.R.Read.remaining (inner_of c.args.reader.now)) (g.W.Write.contents (inner_of c.args.writer.now))
    (g.R.Read.remaining (inner_of c.loop.reader)) (g.W.Write.contents (inner_of c.loop.writer)) (inner_of c.loop.reader) c.loop.reading
    (c.loop.invariant.shown settings capture_map begun start made) c.loop.invariant.empty (g.R.Read.remaining (inner_of c.read_behind.new.reader)) (inner_of c.read_behind.new.reader)
    (take c.in-Ok.count c.read_behind.new.room) c.in-Ok.ensures.shown c.in-Ok.ensures.taken

pub returns-clause-shown : goal.returns-clause-shown
returns-clause-shown g c = λ settings capture_map begun start made. (c.loop.invariant.shown settings capture_map begun start made).reads.all
