-- The three things that may stand at the front of what is unfinished and what was appended.
use Rattle.std.proofs.Common.{◌≡◌, ◌≢◌, ℕ, List, take, [], ◌++◌, sym, ap, ◌∙◌, subst, inr, arith, append_assoc}
use Rattle.ccf.specs.Walk.{Ends}
use Rattle.ccf.specs.Inside.Rooms.{EndsFrame}
use Rattle.ccf.proofs.FrameSplits.{not_empty, FeedsAs-go_on, GoesOn-delivers}
use Rattle.ccf.proofs.Lacking.{Ends-further, Ends-waiting, some-more}
use Rattle.ccf.proofs.joiner.go_on.Goals.{in-Waits, in-Dropped, in-Whole+else-is_err}
use Rattle.ccf.proofs.joiner.go_on.Goals as goal

pub returns-clause-fed : goal.returns-clause-fed
returns-clause-fed g c =
    let check = g.C.HeaderCheck.accepts c.args.check.now in
    let before = c.args.unfinished.now.items in
    let bytes = c.deref.result.now in
    let left = c.in_ok-left.left.now in
    let frames = c.match-front_of.frames.items in
    let after = c.match-front_of.unfinished.items in
    let appends = c.in_ok-left.ensures.appends in
    let all : bytes ≡ c.append_lacking.new.unfinished.items = c.deref.ensures.value in
    let some = not_empty before c.args.unfinished.now.len (omega (arith, c.args.unfinished.now.ok.0)) (sym c.is_empty.ensures ∙ c.if-is_empty.false) in
    let some_bytes : bytes ≢ [] = some-more before appends.front bytes some (all ∙ appends.appended) in
    let whole : bytes ++ left ≡ before ++ c.args.payload.now =
    ap (λ t. t ++ left) (all ∙ appends.appended) ∙ append_assoc before appends.front left ∙ ap (λ t. before ++ t) (sym appends.split) in
    let reached : left ≢ [] → EndsFrame bytes = λ more. subst EndsFrame (sym all) (c.in_ok-left.ensures.ends more) in
    let none = c.new-frames.ensures.items in
    FeedsAs-go_on check before c.args.payload.now (bytes ++ left) frames after some whole (elim c.match-front_of.branch [
      | in-Waits w ↦ inr (ap (λ vec. vec.items) w.frames-is ∙ none, Ends-waiting check bytes left after reached w.in-Waits.ensures (ap (λ vec. vec.items) w.unfinished-is ∙ sym all))
      | in-Dropped w ↦ inr (
        ap (λ vec. vec.items) w.frames-is ∙ none,
        let P : List ℕ → Type 0 = Ends check (bytes ++ left) in
            subst P (sym (ap (λ vec. vec.items) w.unfinished-is ∙ w.drop_all-skipped.ensures.items)) (Ends-further check bytes left some_bytes w.in-Dropped.ensures),
      )
      | in-Whole+else-is_err w ↦ GoesOn-delivers check bytes left w.from.result w.in-Whole.length frames w.reserve.new.self.items after w.in-Whole.ensures.2
          (w.from.ensures ∙ ap (λ vec. vec.items) w.replace.ensures.value ∙ w.truncate-in-Whole.ensures.items ∙ ap (take w.in-Whole.length) (sym all))
          (w.reserve.ensures.items ∙ none)
          (ap (λ vec. vec.items) w.frames-is ∙ w.push_reserved.ensures.items)
          (ap (λ vec. vec.items) w.unfinished-is ∙ ap (λ vec. vec.items) w.replace.ensures.after ∙ w.new.ensures.items)
    ])
