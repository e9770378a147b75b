-- What was unfinished is one whole frame or skipped, and the rest is walked.
use Rattle.std.proofs.Common.{◌≡◌, ◌⊎◌, List, ℕ, ◌∷◌, ◌++◌, sym, ap, ◌∙◌, subst, inl, inr, arith}
use Rattle.std.proofs.lemmas.Bool.{false≢true}
use Rattle.std.proofs.lemmas.Grind.{common_steps}
use Rattle.docsis_wire.specs.Frame.{IsFrame}
use Rattle.ccf.specs.Walk.{Walks}
use Rattle.ccf.proofs.FrameSplits.{not_empty, FeedsAs-complete, Completes-either}
use Rattle.ccf.proofs.joiner.complete.Goals.{then-well_formed, else-well_formed}
use Rattle.ccf.proofs.joiner.complete.Goals as goal

pub returns-clause-fed : goal.returns-clause-fed
returns-clause-fed g c =
    let before = c.args.unfinished.now in
    let done = c.replace-done.result.items in
    let behind = c.split_at.result.1.now in
    let walked = c.in_ok-walked.walked.frames.items in
    let frames = c.if-well_formed.frames.items in
    let after = c.replace-done.new.dest.items in
    let some = not_empty before.items before.len (omega (arith, before.ok.0)) (sym c.is_empty.ensures ∙ c.if-is_empty.false) in
    let whole = ap (λ vec. vec.items) c.replace-done.ensures.value ∙ c.in_ok-extend_from_slice.ensures.items ∙ ap (λ t. t ++ c.split_at.result.0.now) c.in_ok-reserve_exact.ensures.items ∙ ap (λ t. before.items ++ t) c.split_at.ensures.front in
    let left = ap (λ vec. vec.items) c.replace-done.ensures.after ∙ c.in_ok-next.ensures.items in
    let P : List ℕ → Type 0 = Walks (g.C.HeaderCheck.accepts c.args.check.now) behind walked in
    let either : (IsFrame (g.C.HeaderCheck.accepts c.args.check.now) done × (frames ≡ done ∷ walked)) ⊎ ((IsFrame (g.C.HeaderCheck.accepts c.args.check.now) done → ⊥) × (frames ≡ walked)) =
    elim c.if-well_formed.branch [
      | then-well_formed w ↦ inl (
        subst (IsFrame (g.C.HeaderCheck.accepts c.args.check.now)) c.deref.ensures.value (c.well_formed-2.ensures.0 w.if-well_formed.true),
        let delivered : w.insert.new.self.items ≡ done ∷ walked = grind (arith, common_steps) in
            ap (λ vec. vec.items) w.frames-is ∙ delivered,
      )
      | else-well_formed w ↦ inr (
        λ is. false≢true (sym w.if-well_formed.false ∙ c.well_formed-2.ensures.1 (subst (IsFrame (g.C.HeaderCheck.accepts c.args.check.now)) (sym c.deref.ensures.value) is)),
        ap (λ vec. vec.items) w.frames-is ∙ c.reserve.ensures.items,
      )
    ] in
    FeedsAs-complete (g.C.HeaderCheck.accepts c.args.check.now) before.items c.args.payload.now done behind c.args.pointer frames after some whole c.split_at.ensures.back (
    Completes-either (g.C.HeaderCheck.accepts c.args.check.now) done behind walked frames after either (subst P (sym left) c.in_ok-walked.ensures.walks))
