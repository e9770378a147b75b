use Rattle.std.proofs.Common.{inl, inr, sym, refl, ◌∙◌, rules, ◌<◌, length}
use Rattle.std.proofs.lemmas.Bool.{false≢true}
use Rattle.std.proofs.lemmas.Bool.Decides.{Decides-eqb}
use Rattle.std.proofs.lemmas.Slice.Eq.{slice_eq-Decides}
use Rattle.command_line.proofs.AskedWords.{HasWord-first, HasWord-none}
use Rattle.command_line.proofs.command.has_word.Goals as goal

pub loop-rest-init : goal.loop-rest-init
loop-rest-init g c = (λ has. has, λ has. has)

pub returns-then-eq : goal.returns-then-eq
returns-then-eq g c =
    let same = slice_eq-Decides Decides-eqb c.as_str.result.now c.args.wanted.now c.eq.result c.eq.ensures in
    let first =
    HasWord-first c.args.wanted.now g.S.AsStr.text c.loop-rest.rest.now c.word-item.result c.as_str.result.now c.in-len1-up.len_at_least c.word-item.is c.as_str.ensures in
    (λ is. c.loop-rest.invariant.1 (first.1 (inl (same.0 c.if-eq.true))), λ has. refl)

pub loop-rest-preserved : goal.loop-rest-preserved
loop-rest-preserved g c =
    let same = slice_eq-Decides Decides-eqb c.as_str.result.now c.args.wanted.now c.eq.result c.eq.ensures in
    let first =
    HasWord-first c.args.wanted.now g.S.AsStr.text c.loop-rest.rest.now c.word-item.result c.as_str.result.now c.in-len1-up.len_at_least c.word-item.is c.as_str.ensures in (
      λ has. elim (first.0 (c.loop-rest.invariant.0 has)) [ inl is ↦ absurd (false≢true (sym c.if-eq.false ∙ same.1 is)) | inr behind ↦ behind ],
      λ behind. c.loop-rest.invariant.1 (first.1 (inr behind)),
    )

pub returns : goal.returns
returns g c =
    let none : length c.loop-rest.rest.now < 1 = search rules in
    (λ is. absurd (false≢true is), λ has. absurd (HasWord-none c.args.wanted.now g.S.AsStr.text c.loop-rest.rest.now none (c.loop-rest.invariant.0 has)))
