-- The counts of a flow as events are answered and segments are joined.
use Rattle.std.proofs.Common.{◌≡◌, ℕ, ◌+◌, Bool, true, false, cond, min, Option, List, [], ◌∷◌, ◌++◌, length, refl, ap, sym, ◌∙◌, arith, count_by}
use Rattle.std.proofs.lemmas.List.Sums.{sum_by_push}
use Rattle.docsis_wire.specs.declared.segment.Segment.{Segment}
use Rattle.flow_core.specs.declared.counts.FlowCounts.{FlowCounts}
use Rattle.flow_core.specs.declared.event.Applied.{Applied}
use Rattle.flow_records.specs.Counted.{counted}
use Rattle.flow_core.specs.Counts.{says_kept, says_late, says_repeat, says_beyond, no_counts, AreCounts}

-- a count goes on from what was counted
pub counted-more : (n m k : ℕ) → k ≡ counted n → min (k + m) 18446744073709551615 ≡ counted (n + m)
counted-more n m k is = omega arith

-- one answer more
push-no : (p : Applied → Bool) (answers : List Applied) (answer : Applied) → p answer ≡ false → count_by p (answers ++ answer ∷ []) ≡ count_by p answers
push-no p answers answer is = let pushed = sum_by_push (λ x. cond (p x) 1 0) answers answer in let none : cond {A = ℕ} (p answer) 1 0 ≡ 0 = ap (λ b. cond {A = ℕ} b 1 0) is in omega arith

push-yes : (p : Applied → Bool) (answers : List Applied) (answer : Applied) → p answer ≡ true → count_by p (answers ++ answer ∷ []) ≡ count_by p answers + 1
push-yes p answers answer is = let pushed = sum_by_push (λ x. cond (p x) 1 0) answers answer in let one : cond {A = ℕ} (p answer) 1 0 ≡ 1 = ap (λ b. cond {A = ℕ} b 1 0) is in omega arith

-- a count of one kind of answer goes up by one with such an answer, and stays at its greatest value
abbrev pub one_more : Bool → ℕ → ℕ
one_more true n = min (n + 1) 18446744073709551615
one_more false n = n

-- the counts after an answer
abbrev pub answered : FlowCounts → Applied → FlowCounts
answered counts answer =
    record counts {
      kept = one_more (says_kept answer) counts.kept;
      late = one_more (says_late answer) counts.late;
      repeat = one_more (says_repeat answer) counts.repeat;
      beyond = one_more (says_beyond answer) counts.beyond;
    }

count-push : (p : Applied → Bool) (answers : List Applied) (answer : Applied) (b : Bool) (count : ℕ) → p answer ≡ b
    → count ≡ counted (count_by p answers) → one_more b count ≡ counted (count_by p (answers ++ answer ∷ []))
count-push p answers answer true count is before =
    counted-more _ 1 count before ∙ ap counted (sym (push-yes p answers answer is))
count-push p answers answer false count is before = before ∙ ap counted (sym (push-no p answers answer is))

-- counts after an answer, where nothing was joined
pub counts-answered : (answers : List Applied) (answer : Applied) (settled : List (Option Segment)) (given : List (List ℕ)) (unfinished : List ℕ) (counts : FlowCounts)
    → AreCounts answers settled given unfinished counts
    → AreCounts (answers ++ answer ∷ []) settled given unfinished (answered counts answer)
counts-answered answers answer settled given unfinished counts are =
    record {
      kept = count-push says_kept answers answer _ counts.kept refl are.kept;
      late = count-push says_late answers answer _ counts.late refl are.late;
      repeat = count-push says_repeat answers answer _ counts.repeat refl are.repeat;
      beyond = count-push says_beyond answers answer _ counts.beyond refl are.beyond;
      lost = are.lost;
      frames = are.frames;
      skipped_bytes = are.skipped_bytes;
      balance = are.balance;
      skipped = are.skipped;
    }

pub counts-new : (unfinished : List ℕ) → unfinished ≡ [] → AreCounts [] [] [] unfinished no_counts
counts-new unfinished empty =
    record {
      kept = refl;
      late = refl;
      repeat = refl;
      beyond = refl;
      lost = refl;
      frames = refl;
      skipped_bytes = 0;
      balance = let nothing : length unfinished ≡ 0 = ap length empty in omega arith;
      skipped = refl;
    }
