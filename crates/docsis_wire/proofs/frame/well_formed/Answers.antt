-- The two clauses of `read_head` on frames, where nothing follows the frame.
use Rattle.std.proofs.Common.{◌≡◌, Bool, List, ℕ, [], length, refl, sym, ap, ◌∙◌, subst, arith}
use Rattle.std.proofs.lemmas.List.{append-nil, take_all}
use Rattle.docsis_wire.specs.Frame.{IsFrame, header_front}
use Rattle.docsis_wire.proofs.frame.well_formed.Goals as goal

pub returns-then-total-bytes : goal.returns-then-total-bytes
returns-then-total-bytes g c =
    let bytes = c.args.bytes.now in
    let check : List ℕ → Bool = g.C.HeaderCheck.accepts c.args.check.now in
    let all : c.in-Head.total ≡ length bytes = c.if-total-bytes.true in
    let answer : c.passes.result ≡ check (header_front c.in-Head.ehdr bytes) = c.passes.ensures ∙ ap (λ n. check (header_front n bytes)) c.from.ensures in (
      λ t. let whole = c.in-Head.ensures.whole check c.in-Head.ehdr c.in-Head.total refl (omega arith) (sym answer ∙ t) in
          subst (IsFrame check) (take_all c.in-Head.total bytes (omega arith)) whole,
      λ h. let head = c.in-Head.ensures.frame check bytes [] h (sym (append-nil bytes)) in
          let same : c.in-Head.ehdr ≡ head.0 = (let q = head.1 in cc) in
          answer ∙ ap (λ n. check (header_front n bytes)) same ∙ head.2,
    )
