-- A segment that announces one frame is that frame, or dropped whole; any other is fed.
use Rattle.std.proofs.Common.{◌≡◌, ℕ, List, [], length, refl, sym, ap, subst, ◌∙◌, arith}
use Rattle.std.specs.List.{concat}
use Rattle.std.proofs.lemmas.Bool.{false≢true}
use Rattle.docsis_wire.specs.Frame.{IsFrame}
use Rattle.ccf.specs.Feed.{Feeds}
use Rattle.ccf.proofs.FrameSplits.{dropped-Feeds}
use Rattle.ccf.proofs.joiner.Joiner.feed_unless_whole.Goals as goal

pub returns-then-not-announces_one_frame-clause-fed : goal.returns-then-not-announces_one_frame-clause-fed
returns-then-not-announces_one_frame-clause-fed g c = (
  λ one. false≢true (sym c.if-not-announces_one_frame.true ∙ c.announces_one_frame.ensures.frame (g.C.HeaderCheck.accepts c.args.check.now) one),
  c.in_ok-feed.ensures.fed,
  c.in_ok-feed.ensures.skipped,
)

pub returns-then-well_formed-clause-fed : goal.returns-then-well_formed-clause-fed
returns-then-well_formed-clause-fed g c =
    let check = g.C.HeaderCheck.accepts c.args.check.now in
    let begins = c.announces_one_frame.ensures.begins c.if-not-announces_one_frame.false in (
      record {
        nothing_unfinished = begins.0;
        begins = begins.1;
        first = begins.2;
        is_frame = subst (IsFrame check) c.as_slice-payload.ensures (c.well_formed-2.ensures.0 c.if-well_formed.true);
      },
      refl,
    )

pub returns-clause-fed : goal.returns-clause-fed
returns-clause-fed g c =
    let check = g.C.HeaderCheck.accepts c.args.check.now in
    let before = c.args.self.now in
    let segment = c.args.segment.now in
    let begins = c.announces_one_frame.ensures.begins c.if-not-announces_one_frame.false in
    let none : IsFrame check segment.payload → ⊥ =
    λ is. false≢true (sym c.if-well_formed.false ∙ c.well_formed-2.ensures.1 (subst (IsFrame check) (sym c.as_slice-payload.ensures) is)) in
    let ends = c.announces_one_frame.ensures.dropped c.if-not-announces_one_frame.false check none in
    let feeds : Feeds check before segment [] [] = dropped-Feeds check before segment begins.0 begins.1 begins.2 ends in
    let P : List (List ℕ) → List ℕ → Type 0 = Feeds check before segment in (
      λ one. none one.is_frame,
      subst (λ frames. P frames before) (sym c.new.ensures.items) (subst (P []) (sym begins.0) feeds),
      let size = ap length c.as_slice-payload.ensures in
          let no_frames : length (concat c.new.result.items) ≡ 0 = ap (λ (frames : List (List ℕ)). length (concat frames)) c.new.ensures.items in
          let nothing : length before ≡ 0 = ap length begins.0 in
          omega arith,
    )
