use Rattle.std.proofs.Common.{◌∙◌, sym}
use Rattle.text_lines.proofs.WordsOfLines.{BeginsWord-at, words_of-none, words_of-word, words_of-last}
use Rattle.text_lines.proofs.words.split_word.Goals as goal

pub returns-in_err-start : goal.returns-in_err-start
returns-in_err-start c = rw c.from_residual.ensures (words_of-none c.args.line.now (sym c.word_start.ensures ∙ c.in_err-start.was))

pub returns-in-Some : goal.returns-in-Some
returns-in-Some c =
    let line = c.args.line.now in
    let words = c.split_at.result.1.now in
    let begins = BeginsWord-at line words c.in_ok-start.start (sym c.word_start.ensures ∙ c.in_ok-start.was) c.split_at.ensures.back in
    rw (c.split_at-in-Some.ensures.front, c.split_at-in-Some.ensures.back)
    (words_of-word line words c.in-Some.end begins (sym c.word_end.ensures ∙ c.in-Some.is))

pub returns-in-None : goal.returns-in-None
returns-in-None c =
    let line = c.args.line.now in
    let words = c.split_at.result.1.now in
    let begins = BeginsWord-at line words c.in_ok-start.start (sym c.word_start.ensures ∙ c.in_ok-start.was) c.split_at.ensures.back in
    words_of-last line words begins (sym c.word_end.ensures ∙ c.in-None.is)
