use Rattle.std.proofs.Common.{◌≡◌, ℕ, ◌<◌, List, [], ◌∷◌, length, Option, Some, None, unwrap_or, sym, ap, ◌∙◌, refl}
use Rattle.std.specs.Prelude.{MatchOption}
use Rattle.std.specs.Borrow.{Bor}
use Rattle.text_lines.specs.Lines.{lines_of}
use Rattle.text_lines.specs.Inside.LineFeeds.{HasNoLineFeed, BeginsWithLine}
use Rattle.text_lines.proofs.CutAtLineFeeds.{lines_of-line, lines_of-one}
use Rattle.text_lines.proofs.lines.split_line.Goals as goal

-- the line that was split off, or the whole text where none was
first_line : (found : Option (Bor (List ℕ) × Bor (List ℕ))) (text nothing : Bor (List ℕ)) → nothing.now ≡ [] → 0 < length text.now
    → MatchOption found (HasNoLineFeed text.now) (λ r. BeginsWithLine text.now r.0.now r.1.now)
    → lines_of text.now ≡ (unwrap_or found (text, nothing)).0.now ∷ lines_of (unwrap_or found (text, nothing)).1.now
first_line (Some r) text nothing empty some first = ap lines_of first.spelled ∙ lines_of-line r.0.now r.1.now first.none
first_line None text nothing empty some none = lines_of-one text.now some none ∙ ap (λ rest. text.now ∷ lines_of rest) (sym empty)

pub returns-clause-lines : goal.returns-clause-lines
returns-clause-lines c = rw c.unwrap_or.ensures (first_line c.split_whole_line.result c.args.text _ refl c.requires c.split_whole_line.ensures)
