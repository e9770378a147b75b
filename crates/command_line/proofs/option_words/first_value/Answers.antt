use Rattle.std.proofs.Common.{sym, ◌∙◌, inl, inr, length, ◌-◌, take, drop}
use Rattle.std.specs.Prelude.{map}
use Rattle.std.proofs.lemmas.Bool.{false≢true}
use Rattle.std.proofs.lemmas.Bool.Decides.{Decides-eqb}
use Rattle.std.proofs.lemmas.Slice.Eq.{slice_eq-Decides}
use Rattle.command_line.specs.OptionWords.{IsOption}
use Rattle.command_line.proofs.OptionValues.{HasFirstValue-behind, HasFirstValue-rest, HasNoOption-rest}
use Rattle.command_line.proofs.option_words.first_value.Goals as goal

pub returns-then-eq : goal.returns-then-eq
returns-then-eq g c =
    let option = c.args.option.now in
    let same = slice_eq-Decides Decides-eqb c.as_str-word.result.now option c.eq.result c.eq.ensures in
    let rest = c.loop-rest.rest.now in
    c.loop-rest.invariant.value c.value_behind.result.now (map g.S.AsStr.text (take (length rest - 1) (drop 1 rest)))
    (HasFirstValue-behind option g.S.AsStr.text c.loop-rest.rest.now c.word-item.result c.as_str-word.result.now c.value_behind.result.now
    c.in-len1-up.len_at_least c.word-item.is c.as_str-word.ensures (same.0 c.if-eq.true) c.value_behind.ensures)

pub loop-rest-preserved : goal.loop-rest-preserved
loop-rest-preserved g c =
    let option = c.args.option.now in
    let same = slice_eq-Decides Decides-eqb c.as_str-word.result.now option c.eq.result c.eq.ensures in
    let shown = c.as_str-word.result.now in
    let other : ¬ IsOption option shown =
    λ is. elim is [ inl bare ↦ false≢true (sym c.if-eq.false ∙ same.1 bare) | inr with ↦ c.in_default-value_within.ensures with.0 with.1 ]
    in
    record {
      value = λ value behind is.
          c.loop-rest.invariant.value value behind
          (HasFirstValue-rest option g.S.AsStr.text c.loop-rest.rest.now c.word-item.result shown value behind c.in-len1-up.len_at_least c.word-item.is
          c.as_str-word.ensures other is);
      none = λ none.
          c.loop-rest.invariant.none
          (HasNoOption-rest option g.S.AsStr.text c.loop-rest.rest.now c.word-item.result shown c.in-len1-up.len_at_least c.word-item.is
          c.as_str-word.ensures other none);
    }
