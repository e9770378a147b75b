use Rattle.std.proofs.Common.{◌≡◌, replicate, arith, sym, ap, ◌∙◌, take}
use Rattle.std.proofs.lemmas.List.{take-replicate}
use Rattle.docsis_wire.specs.Pieces.{fill_byte}
use Rattle.docsis_wire.proofs.segment_parts.fill_part.Goals.{in-Zero, in-Ones}
use Rattle.docsis_wire.proofs.segment_parts.fill_part.Goals as goal

pub returns : goal.returns
returns c =
    let whole : c.match-fill.whole.now ≡ replicate 64 (fill_byte c.args.fill) =
    elim c.match-fill.branch [
      | in-Zero w ↦ ap (λ r. r.now) w.whole-is ∙ ap (λ f. replicate 64 (fill_byte f)) (sym w.in-Zero.is)
      | in-Ones w ↦ ap (λ r. r.now) w.whole-is ∙ ap (λ f. replicate 64 (fill_byte f)) (sym w.in-Ones.is)
    ] in
    ap (take c.min.result) whole ∙ take-replicate c.min.result 64 (fill_byte c.args.fill) (omega (arith, c.min.ensures)) ∙ ap (λ n. replicate n (fill_byte c.args.fill)) c.min.ensures
