-- One input more is served.
use Rattle.std.proofs.Common.{◌≡◌, ℕ, true, false, Bool, Option, Some, None, is_some, Result, Ok, Err, IfOk, OnErr, is_ok, List, [], ◌∷◌, ◌++◌, length, refl, sym, ap, subst, ◌∙◌, append-nil}
use Rattle.std.proofs.lemmas.List.{length-map}
use Rattle.std.proofs.lemmas.Bool.{false≢true}
use Rattle.std.proofs.lemmas.Option.{same_Some}
use Rattle.std.specs.Result.{result_ok}
use Rattle.mailbox.specs.Ports.{address}
use Rattle.lane.specs.declared.lane.Lane.{Lane}
use Rattle.workers.specs.declared.channel_input.ChannelInput.{ChannelInput}
use Rattle.workers.specs.declared.lane_notes.SourceNotes.{SourceNotes}
use Rattle.workers.specs.declared.lane_worker.LaneWork.{LaneWork}
use Rattle.workers.specs.Given.{BecameBy}
use Rattle.workers.specs.Inside.Working.{owned, AreNotesOf, HasServedAll, HasServedSource}
use Rattle.workers.proofs.GivenInParts.{given-nothing, given-on}
use Rattle.workers.proofs.LaneServed.{none_served, passed_on, nothing_noted}
use Rattle.workers.proofs.lane_worker.take_inputs.Given.{Over}
use Rattle.workers.proofs.lane_worker.take_inputs.Goals as goal

-- what holds of a good result holds where it is good
if-good : {T E : Type 0} {P : Type 0} (result : Result T E) → is_ok result ≡ true → IfOk result (λ _. P) → P
if-good (Ok t) is holds = holds
if-good (Err e) is holds = absurd (false≢true is)

-- and so it holds of what is there
of-good : {T E : Type 0} (P : T → Type 0) (result : Result T E) (t : T) → Some t ≡ result_ok result → IfOk result P → P t
of-good P (Ok x) t is holds = subst P (same_Some x t (sym is)) holds
of-good P (Err e) t is holds = absurd (cc)

-- and of a bad one
on-bad : {T E : Type 0} {P : Type 0} (result : Result T E) → is_ok result ≡ false → OnErr result P → P
on-bad (Ok t) is holds = absurd (false≢true (sym is))
on-bad (Err e) is holds = holds

-- the source alone has changed since
serves-on : (g : Over) (work now : LaneWork g.row.S.Denot) (source : g.row.S.Denot) (notes : SourceNotes g.row.N.Denot) (inputs : List ChannelInput)
    → HasServedAll g.N.LaneNotes.are_of inputs work now notes
    → HasServedAll g.N.LaneNotes.are_of inputs work (record { lanes = now.lanes; arrivals = now.arrivals; requests = now.requests; source = source }) notes
serves-on g work now source notes inputs has = record {
  arrivals_same = has.arrivals_same;
  requests_same = has.requests_same;
  lanes_same = has.lanes_same;
  serves = λ rows records stands.
      let is = has.serves rows records stands in
      let passed = is.passed_on in
      record {
        passed_on = record {
          served = passed.served;
          answers = passed.answers;
          inputs_are = passed.inputs_are;
          arrivals_are = passed.arrivals_are;
          requests_are = passed.requests_are;
          noted = passed.noted;
        };
        stands = is.stands;
      };
}

-- nothing is noted yet
blanked : (g : Over) (c : ℕ) (notes : SourceNotes g.row.N.Denot) → (many : ℕ) → many ≡ c → ((flags : List Bool) → length flags ≡ many → AreNotesOf g.N.LaneNotes.are_of flags [] [] notes)
    → (flags : List Bool) → length flags ≡ c → AreNotesOf g.N.LaneNotes.are_of flags [] [] notes
blanked g c notes many same blank flags long = blank flags (long ∙ sym same)

pub loop-init : goal.loop-init
loop-init g c =
    let work = c.args.work.now in
    let notes = c.in_ok-notes.notes in
    let blank = blanked g (length work.lanes.items) notes c.len.result (c.len.ensures ∙ work.lanes.ok.0)
    (of-good (λ (n : SourceNotes g.row.N.Denot). (flags : List Bool) → length flags ≡ c.len.result → AreNotesOf g.N.LaneNotes.are_of flags [] [] n)
    c.blank_notes.result notes c.in_ok-notes.ensures.value c.blank_notes.ensures) in (
      [],
      given-nothing g.S.LiveSource.gave work.source,
      none_served g.N.LaneNotes.are_of work notes blank,
      let flags = owned work.lanes.items in
          let long = length-map work.lanes.items (λ (lane : Option Lane). is_some lane) in
          (blank flags long).count ∙ long,
    )

pub take_input-requires : goal.take_input-requires
take_input-requires g c = c.loop.invariant.3

pub returns-in_err-notes : goal.returns-in_err-notes
returns-in_err-notes g c =
    let work = c.args.work.now in
    subst (λ (o : Option (SourceNotes g.row.N.Denot)). HasServedSource g.N.LaneNotes.are_of g.S.LiveSource.gave g.S.LiveSource.is_over work work o) (sym c.from_residual.ensures)
    (record {
      inputs = [];
      unanswered = [];
      became = given-nothing g.S.LiveSource.gave work.source;
      over = tt;
      arrivals_same = refl;
      requests_same = refl;
      served = nothing_noted g.N.LaneNotes.are_of work;
    })

pub loop-preserved : goal.loop-preserved
loop-preserved g c =
    let so_far = c.loop.invariant in
    let gave = g.S.LiveSource.gave in
    let came = c.in-Some-next.came in (
      so_far.0 ++ came ∷ [],
      given-on gave c.args.work.now.source c.loop.work.source c.take_input.new.work.source so_far.0 (came ∷ []) so_far.1
          (subst (BecameBy gave c.loop.work.source (came ∷ [])) (sym c.take_input.ensures.source) c.in-Some-next.ensures.given),
      if-good c.take_input.result (sym c.in_ok-ok.ensures.variant) c.take_input.ensures.served c.args.work.now so_far.0
          (serves-on g c.args.work.now c.loop.work c.next-in-loop.new.self c.loop.notes so_far.0 so_far.2),
      c.take_input.ensures.count,
    )

pub returns-in_err-ok : goal.returns-in_err-ok
returns-in_err-ok g c =
    let so_far = c.loop.invariant in
    let gave = g.S.LiveSource.gave in
    let came = c.in-Some-next.came in
    let unposted = on-bad c.take_input.result (sym c.in_err-ok.ensures.variant) c.take_input.ensures.unposted in
    subst (λ (o : Option (SourceNotes g.row.N.Denot)). HasServedSource g.N.LaneNotes.are_of gave g.S.LiveSource.is_over c.args.work.now c.take_input.new.work o) (sym c.from_residual-in_err-ok.ensures)
    (record {
      inputs = so_far.0;
      unanswered = came ∷ [];
      became = given-on gave c.args.work.now.source c.loop.work.source c.take_input.new.work.source so_far.0 (came ∷ []) so_far.1
          (subst (BecameBy gave c.loop.work.source (came ∷ [])) (sym c.take_input.ensures.source) c.in-Some-next.ensures.given);
      over = tt;
      arrivals_same = ap address unposted.0 ∙ so_far.2.arrivals_same;
      requests_same = ap address unposted.1 ∙ so_far.2.requests_same;
      served = passed_on g.N.LaneNotes.are_of so_far.0 c.args.work.now c.loop.work c.take_input.new.work c.loop.notes None unposted.0 unposted.1 (λ P noted. tt) so_far.2;
    })

pub returns-in_default : goal.returns-in_default
returns-in_default g c =
    let so_far = c.loop.invariant in
    let inputs = so_far.0 in
    record {
      inputs = inputs;
      unanswered = [];
      became = λ start earlier was.
          subst (λ given. g.S.LiveSource.gave start (earlier ++ given) c.next-in-loop.new.self) (sym (append-nil inputs))
          (c.in_default.ensures.given start (earlier ++ inputs) (so_far.1 start earlier was));
      over = (refl, c.in_default.ensures.over refl);
      arrivals_same = so_far.2.arrivals_same;
      requests_same = so_far.2.requests_same;
      served = passed_on g.N.LaneNotes.are_of inputs c.args.work.now c.loop.work _ c.loop.notes (Some c.loop.notes) refl refl (λ P noted. noted) so_far.2;
    }
