-- A text that is put to a device, piece by piece.
use Rattle.std.proofs.Common.{◌≡◌, ◌≢◌, ℕ, List, Option, [], ◌∷◌, ◌++◌, true, Result, Ok, Err, refl, sym, ap, subst, ◌∙◌, append_assoc, append-nil}
use Rattle.std.specs.Prelude.{IsErr}
use Rattle.std.specs.Io.KnownBytes.{Appends, Keeps}
use Rattle.std.proofs.KnownBytes.{Appends-nil, Appends-trans, Appends-kept}
use Rattle.engines.specs.declared.device.Device.{Device}
use Rattle.engines.specs.declared.fault.WriteFault.{WriteFault}
use Rattle.engines.specs.declared.text_writer.TextWriter.{TextWriter}
use Rattle.engines.specs.declared.text_writer.Stage.{Stage}
use Rattle.engines.specs.declared.text_writer.Stage.TheVariants.{Unused, Writing, Failed}
use Rattle.engines.specs.Device.{inner_of, has_failed}
use Rattle.engines.specs.Transfer.{AppendsBefore, AppendsFront}
use Rattle.engines.specs.Inside.Writing.{HasCome, HasWritten, Takes}
use Rattle.engines.specs.Writing.{IsWritten}

-- one text went out but for what was held back, and of that and some more bytes all but what is
-- held back now
AppendsBefore-then : (a b c : Option (List ℕ)) (text held bytes rest : List ℕ) → AppendsBefore a b text held → AppendsBefore b c (held ++ bytes) rest
    → AppendsBefore a c (text ++ bytes) rest
AppendsBefore-then a b c text held bytes rest before after = (
  before.0 ++ after.0,
  ap (λ (t : List ℕ). t ++ bytes) before.1 ∙ append_assoc before.0 held bytes ∙ ap (λ (t : List ℕ). before.0 ++ t) after.1 ∙ sym (append_assoc before.0 after.0 rest),
  Appends-trans a b c before.0 after.0 before.2 after.2,
)

-- a front of a text is one of a longer text
pub AppendsFront-longer : (a b : Option (List ℕ)) (text more : List ℕ) → AppendsFront a b text → AppendsFront a b (text ++ more)
AppendsFront-longer a b text more front = (
  front.0 ++ more,
  (front.1.0, ap (λ (t : List ℕ). t ++ more) front.1.1 ∙ append_assoc front.1.0 front.0 more, front.1.2),
)

-- one text went out, and of another behind it a front
pub AppendsFront-behind : (a b c : Option (List ℕ)) (text more : List ℕ) → Appends a b text → AppendsFront b c more → AppendsFront a c (text ++ more)
AppendsFront-behind a b c text more all front = (
  front.0,
  (
    text ++ front.1.0,
    ap (λ (t : List ℕ). text ++ t) front.1.1 ∙ sym (append_assoc text front.1.0 front.0),
    Appends-trans a b c text front.1.0 all front.1.2,
  ),
)

-- a whole text is a front of itself, also where nothing follows
pub AppendsFront-all : (a b c : Option (List ℕ)) (text : List ℕ) → Appends a b text → Keeps b c → AppendsFront a c text
AppendsFront-all a b c text all kept = ([], (text, sym (append-nil text), Appends-kept a b c text all kept))

-- what isn't empty stays so
longer_is_some : (text more : List ℕ) → text ≢ [] → text ++ more ≢ []
longer_is_some [] more some e = some refl
longer_is_some (x ∷ xs) more some e = cc

some_at_the_end : (text bytes : List ℕ) → bytes ≢ [] → text ++ bytes ≢ []
some_at_the_end [] bytes some e = some e
some_at_the_end (x ∷ xs) bytes some e = cc

module _ {W : Type 0} (contents : W → Option (List ℕ)) where
  -- what is put past a failure makes no difference
  come-longer : (writer writer' : Device W) (text held more : List ℕ) → HasCome contents Failed writer text writer' held → HasCome contents Failed writer (text ++ more) writer' held
  come-longer writer writer' text held more come = (
    longer_is_some text more come.0,
    AppendsFront-longer (contents (inner_of writer)) (contents (inner_of writer')) text more come.1,
    come.2,
  )

  -- it has come to its end where nothing is put
  come-nothing : (stage : Stage) (writer writer' : Device W) (text held : List ℕ) → HasCome contents stage writer text writer' held → HasCome contents stage writer (text ++ []) writer' held
  come-nothing stage writer writer' text held come = subst (λ (all : List ℕ). HasCome contents stage writer all writer' held) (sym (append-nil text)) come

  -- some bytes were put where no write had failed
  come-taken : (old new : TextWriter W) (stage : Stage) (writer : Device W) (text bytes : List ℕ) → bytes ≢ [] → old.stage ≢ Failed
      → HasCome contents old.stage writer text old.writer.now old.held.now.items → Takes contents old bytes new stage
      → HasCome contents stage writer (text ++ bytes) new.writer.now new.held.now.items
  come-taken old new stage writer text bytes some well come takes = by_stages old.stage stage well come takes
    where
      a : Option (List ℕ)
      a = contents (inner_of writer)

      b : Option (List ℕ)
      b = contents (inner_of old.writer.now)

      c : Option (List ℕ)
      c = contents (inner_of new.writer.now)

      -- what went out before
      before : (stage : Stage) → stage ≢ Failed → HasCome contents stage writer text old.writer.now old.held.now.items
          → AppendsBefore a b text old.held.now.items × (has_failed old.writer.now ≡ has_failed writer)
      before Unused well come = (
        ([], come.0 ∙ sym come.1, subst (λ (device : Device W). Appends a (contents (inner_of device)) []) (sym come.2) (Appends-nil a)),
        ap has_failed come.2,
      )
      before Writing well come = (come.1, come.2)
      before Failed well come = absurd (well refl)

      by_stages : (was stage : Stage) → was ≢ Failed → HasCome contents was writer text old.writer.now old.held.now.items → Takes contents old bytes new stage
          → HasCome contents stage writer (text ++ bytes) new.writer.now new.held.now.items
      by_stages was Unused well come takes = absurd takes
      by_stages was Writing well come takes =
          let went = before was well come in
          (some_at_the_end text bytes some, AppendsBefore-then a b c text old.held.now.items bytes new.held.now.items went.0 takes.0, takes.1 ∙ went.1)
      by_stages was Failed well come takes =
          let went = before was well come in
          (some_at_the_end text bytes some, (takes.0.0, AppendsBefore-then a b c text old.held.now.items bytes takes.0.0 went.0 takes.0.1), takes.1)

  -- what is put where a write had failed makes no difference
  pub put-failed : (start : TextWriter W) (text more : List ℕ) (now : TextWriter W) → now.stage ≡ Failed → HasWritten contents start text now
      → HasWritten contents start (text ++ more) now
  put-failed start text more now failed was = record {
    same = was.same;
    come = by_stage now.stage failed was.come;
  }
    where
      by_stage : (stage : Stage) → stage ≡ Failed → HasCome contents stage start.writer.now text now.writer.now now.held.now.items
          → HasCome contents stage start.writer.now (text ++ more) now.writer.now now.held.now.items
      by_stage Unused is come = absurd cc
      by_stage Writing is come = absurd cc
      by_stage Failed is come = come-longer start.writer.now now.writer.now text now.held.now.items more come

  -- some bytes were put where none had
  pub put-taken : (start : TextWriter W) (text bytes : List ℕ) (old new after : TextWriter W) → bytes ≢ [] → old.stage ≢ Failed
      → new.writer.ghost_name ≡ old.writer.ghost_name → Takes contents old bytes new after.stage → after.writer ≡ new.writer → after.held ≡ new.held
      → HasWritten contents start text old → HasWritten contents start (text ++ bytes) after
  put-taken start text bytes old new after some well same takes writer held was = record {
    same = ap (λ one. one.ghost_name) writer ∙ same ∙ was.same;
    come =
        subst (λ items. HasCome contents after.stage start.writer.now (text ++ bytes) after.writer.now items) (sym (ap (λ one. one.now.items) held))
        (subst (λ one. HasCome contents after.stage start.writer.now (text ++ bytes) one.now new.held.now.items) (sym writer)
        (come-taken old new after.stage start.writer.now text bytes some well was.come takes));
  }

  -- the text had come so far
  come_writing : (stage : Stage) → stage ≡ Writing → (writer writer' : Device W) (text held : List ℕ) → HasCome contents stage writer text writer' held
      → HasCome contents Writing writer text writer' held
  come_writing stage is writer writer' text held come = subst (λ (one : Stage). HasCome contents one writer text writer' held) is come

  -- what was held back failed to go out
  pub written-none : (start : TextWriter W) (text : List ℕ) (old : TextWriter W) (writer : Device W) → old.stage ≡ Writing → HasWritten contents start text old
      → AppendsFront (contents (inner_of old.writer.now)) (contents (inner_of writer)) old.held.now.items → has_failed writer ≡ true
      → (result : Result (Unit {0}) WriteFault) → IsErr result → IsWritten contents text start.writer.now writer result
  written-none start text old writer is was front failed (Ok done) err = absurd cc
  written-none start text old writer is was front failed (Err fault) err =
      let come = come_writing old.stage is start.writer.now old.writer.now text old.held.now.items was.come in
      let before = come.1 in
      record {
        written = tt;
        left_flushed = tt;
        flushed = tt;
        untouched = λ none. absurd (come.0 none);
        sound = tt;
        some = come.0;
        front = (
          front.0,
          (
            before.0 ++ front.1.0,
            before.1 ∙ ap (λ (t : List ℕ). before.0 ++ t) front.1.1 ∙ sym (append_assoc before.0 front.1.0 front.0),
            Appends-trans (contents (inner_of start.writer.now)) (contents (inner_of old.writer.now)) (contents (inner_of writer)) before.0 front.1.0 before.2 front.1.2,
          ),
        );
        failed = failed;
      }

  -- nothing was put yet
  pub written-nothing : (start : TextWriter W) → start.stage ≡ Unused → start.held.now.items ≡ [] → HasWritten contents start [] start
  written-nothing start unused none = record {
    same = refl;
    come = subst (λ (stage : Stage). HasCome contents stage start.writer.now [] start.writer.now start.held.now.items) (sym unused) (refl, none, refl);
  }
