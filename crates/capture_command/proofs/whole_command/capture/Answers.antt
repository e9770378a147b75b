-- The capture was joined with its map.
use Rattle.std.proofs.Common.{◌≡◌, ℕ, Bool, true, inl, inr, List, Option, Some, None, Result, Ok, Err, refl, ◌∙◌, rules}
use Rattle.std.specs.Prelude.{IfSome, OnOk}
use Rattle.std.proofs.lemmas.Result.{err_from_is_err_and, on_ok_weaker}
use Rattle.engines.specs.Engine.{WritesText}
use Rattle.capture_command.proofs.Said.{told-none, says-nothing, says-told}
use Rattle.capture_command.proofs.whole_command.capture.Goals as goal

-- what holds holds where it was done
always : {A E : Type 0} (result : Result A E) (P : Type 0) → P → OnOk result P
always (Ok done) P is = is
always (Err fault) P is = tt

-- a text that stands for a known input stands for it in another way too
written-so : (known old new : Option (List ℕ)) (P Q : List ℕ → List ℕ → Type 0) → ((input text : List ℕ) → P input text → Q input text)
    → IfSome known (WritesText P old new) → IfSome known (WritesText Q old new)
written-so None old new P Q so is = tt
written-so (Some input) old new P Q so is = (is.0, so input is.0 is.1, is.2)

pub returns-in_err-joined-clause-captures : goal.returns-in_err-joined-clause-captures
returns-in_err-joined-clause-captures g c =
    let p = err_from_is_err_and c.from_residual-in_err-joined.result c.from_residual-in_err-joined.ensures.1 in
    rw (p.1, p.2)
    (inl (record {
      capture_map = c.in_ok-capture_map.capture_map;
      map_is = c.in_ok-capture_map.ensures;
      joined = c.join_capture-joined.result;
      joins = c.join_capture-joined.ensures.joins c.args.asked.settings c.in_ok-capture_map.capture_map c.in_ok-reading.ensures.begun;
      told = rw c.in_err-joined.was (record { fault = refl; done = tt });
      same = λ compares. tt;
    }))

pub returns-clause-captures : goal.returns-clause-captures
returns-clause-captures g c =
    let settings = c.args.asked.settings in
    let capture_map = c.in_ok-capture_map.capture_map in
    inl (record {
      capture_map = capture_map;
      map_is = c.in_ok-capture_map.ensures;
      joined = c.join_capture-joined.result;
      joins = c.join_capture-joined.ensures.joins settings capture_map c.in_ok-reading.ensures.begun;
      told = rw c.in_ok-joined.was (record { fault = tt; done = always c.write_counts-counted.result (Ok c.in_ok-joined.field-0 ≡ Ok tt) refl });
      same = λ compares.
          let compared = c.join_capture-joined.ensures.compared settings capture_map c.in_ok-reading.ensures.begun_beside (c.in_ok-comparing.ensures.asked compares) in
          on_ok_weaker c.write_counts-counted.result
          (λ equal.
          written-so _ _ _ _ _
          (λ input text is. c.files_that_compare_equal_have_the_analysers_frames.ensures settings capture_map c.join_capture-joined.new.comparing c.finish.new.self input text is
          c.finish.ensures.finishes equal)
          (rw c.in_ok-joined.was at compared))
          c.write_counts-counted.ensures.equal;
    })

-- ---- what was said

pub returns-in_err-capture_map-clause-says : goal.returns-in_err-capture_map-clause-says
returns-in_err-capture_map-clause-says g c = says-nothing g.R.Read.remaining g.E.Write.contents c.args.asked.settings c.args.asked.progress c.args.reader.now c.args.reader.now c.args.err.now

pub returns-in_err-tally-clause-says : goal.returns-in_err-tally-clause-says
returns-in_err-tally-clause-says g c = says-nothing g.R.Read.remaining g.E.Write.contents c.args.asked.settings c.args.asked.progress c.args.reader.now c.args.reader.now c.args.err.now

pub returns-in_err-comparing-clause-says : goal.returns-in_err-comparing-clause-says
returns-in_err-comparing-clause-says g c = says-nothing g.R.Read.remaining g.E.Write.contents c.args.asked.settings c.args.asked.progress c.args.reader.now c.args.reader.now c.args.err.now

pub returns-in_err-sfids-clause-says : goal.returns-in_err-sfids-clause-says
returns-in_err-sfids-clause-says g c = says-nothing g.R.Read.remaining g.E.Write.contents c.args.asked.settings c.args.asked.progress c.args.reader.now c.args.reader.now c.args.err.now

pub returns-in_err-reading-clause-says : goal.returns-in_err-reading-clause-says
returns-in_err-reading-clause-says g c = says-nothing g.R.Read.remaining g.E.Write.contents c.args.asked.settings c.args.asked.progress c.args.reader.now c.args.reader.now c.args.err.now

pub returns-in_err-requests-clause-says : goal.returns-in_err-requests-clause-says
returns-in_err-requests-clause-says g c = says-nothing g.R.Read.remaining g.E.Write.contents c.args.asked.settings c.args.asked.progress c.args.reader.now c.args.reader.now c.args.err.now

pub returns-in_err-joined-clause-says : goal.returns-in_err-joined-clause-says
returns-in_err-joined-clause-says g c =
    let settings = c.args.asked.settings in
    let capture_map = c.in_ok-capture_map.capture_map in
    let told = c.join_capture-joined.ensures.told settings capture_map c.in_ok-reading.ensures.begun c.new-told.result (told-none g.E.Write.contents c.new-told.result) in
    let name = told.came.same ∙ c.new-told.ensures.same_reference in
    rw c.new-told.ensures.same_writer at
    (says-told g.R.Read.remaining g.E.Write.contents settings c.args.asked.progress c.args.reader.now c.join_capture-joined.new.reader capture_map c.new-told.result
    c.join_capture-joined.new.told _ c.write_counts-counted.new.err c.new-told.ensures.unasked told c.write_counts-counted.ensures.said (search (rules, name)))

pub returns-clause-says : goal.returns-clause-says
returns-clause-says g c =
    let settings = c.args.asked.settings in
    let capture_map = c.in_ok-capture_map.capture_map in
    let told = c.join_capture-joined.ensures.told settings capture_map c.in_ok-reading.ensures.begun c.new-told.result (told-none g.E.Write.contents c.new-told.result) in
    let name = told.came.same ∙ c.new-told.ensures.same_reference in
    rw c.new-told.ensures.same_writer at
    (says-told g.R.Read.remaining g.E.Write.contents settings c.args.asked.progress c.args.reader.now c.join_capture-joined.new.reader capture_map c.new-told.result
    c.join_capture-joined.new.told _ c.write_counts-counted.new.err c.new-told.ensures.unasked told c.write_counts-counted.ensures.said (search (rules, name)))

-- ---- what stood flushed at each read

pub returns-in_err-joined-clause-shown : goal.returns-in_err-joined-clause-shown
returns-in_err-joined-clause-shown g c = λ start made.
    inl (record {
      capture_map = c.in_ok-capture_map.capture_map;
      map_is = c.in_ok-capture_map.ensures;
      shown = c.join_capture-joined.ensures.shown c.args.asked.settings c.in_ok-capture_map.capture_map c.in_ok-reading.ensures.begun start made;
    })

pub returns-clause-shown : goal.returns-clause-shown
returns-clause-shown g c = λ start made.
    inl (record {
      capture_map = c.in_ok-capture_map.capture_map;
      map_is = c.in_ok-capture_map.ensures;
      shown = c.join_capture-joined.ensures.shown c.args.asked.settings c.in_ok-capture_map.capture_map c.in_ok-reading.ensures.begun start made;
    })

pub returns-in_err-capture_map-clause-shown : goal.returns-in_err-capture_map-clause-shown
returns-in_err-capture_map-clause-shown g c = λ start made. inr refl

pub returns-in_err-tally-clause-shown : goal.returns-in_err-tally-clause-shown
returns-in_err-tally-clause-shown g c = λ start made. inr refl

pub returns-in_err-comparing-clause-shown : goal.returns-in_err-comparing-clause-shown
returns-in_err-comparing-clause-shown g c = λ start made. inr refl

pub returns-in_err-sfids-clause-shown : goal.returns-in_err-sfids-clause-shown
returns-in_err-sfids-clause-shown g c = λ start made. inr refl

pub returns-in_err-reading-clause-shown : goal.returns-in_err-reading-clause-shown
returns-in_err-reading-clause-shown g c = λ start made. inr refl

pub returns-in_err-requests-clause-shown : goal.returns-in_err-requests-clause-shown
returns-in_err-requests-clause-shown g c = λ start made. inr refl
