use Rattle.std.proofs.Common.{sym, ◌∙◌, arith}
use Rattle.std.proofs.lemmas.Bool.{false≢true}
use Rattle.command_line.proofs.AskedWords.{StandsBeforeHelp-at, HasNoneBefore-more, HasNoHelpWord-all}
use Rattle.command_line.proofs.command.before_help.Goals as goal

pub returns-then-asks_for_help : goal.returns-then-asks_for_help
returns-then-asks_for_help g c =
    StandsBeforeHelp-at g.S.AsStr.text c.args.words.now c.loop-place.place c.index-words-place.result c.as_str.result.now (omega arith) c.index-words-place.is
    c.as_str.ensures (c.asks_for_help.ensures.0 c.if-asks_for_help.true) c.loop-place.invariant.later c.loop-place.invariant.none

pub loop-place-preserved : goal.loop-place-preserved
loop-place-preserved g c = record {
  end = c.loop-place.invariant.end;
  later = omega arith;
  none =
      HasNoneBefore-more g.S.AsStr.text c.args.words.now c.loop-place.place c.index-words-place.result c.as_str.result.now (omega arith) c.index-words-place.is
      c.as_str.ensures (λ help. false≢true (sym c.if-asks_for_help.false ∙ c.asks_for_help.ensures.1 help)) c.loop-place.invariant.none;
}

pub returns : goal.returns
returns g c = HasNoHelpWord-all g.S.AsStr.text c.args.words.now c.loop-place.place (omega arith) c.loop-place.invariant.none
