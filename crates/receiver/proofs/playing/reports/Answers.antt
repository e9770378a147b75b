-- Each report is of its channel.
use Rattle.std.proofs.Common.{◌≡◌, ℕ, List, Vec, Global, [], ◌∷◌, length, sym, ap, subst, ◌∙◌, arith}
use Rattle.std.proofs.lemmas.List.{nil_from_length}
use Rattle.receiver.specs.Playing.{IsReportWith}
use Rattle.receiver.proofs.PlayedOut.{reports-are}
use Rattle.receiver.proofs.playing.reports.Goals as goal

pub returns-clause-each : goal.returns-clause-each
returns-clause-each c channel report at =
    let lists = c.in-Some-Some-Some-Some in
    let tail = c.next-4.new.self.rest.items in
    let all : c.args.refused.items ≡ lists.r0 ∷ lists.r1 ∷ lists.r2 ∷ lists.r3 ∷ tail =
    sym c.into_iter-refused.ensures.rest ∙ lists.ensures.items
    ∙ ap (λ (t : List (Vec ℕ Global)). lists.r0 ∷ t) (lists.ensures'.items
    ∙ ap (λ (t : List (Vec ℕ Global)). lists.r1 ∷ t) (lists.ensures''.items ∙ ap (λ (t : List (Vec ℕ Global)). lists.r2 ∷ t) lists.ensures'''.items)) in
    let none : tail ≡ [] = nil_from_length tail (let long = ap length all in let four = c.requires.refused in omega arith) in
    let are : lists.r0 ∷ lists.r1 ∷ lists.r2 ∷ lists.r3 ∷ [] ≡ c.args.refused.items =
    sym (all ∙ ap (λ (t : List (Vec ℕ Global)). lists.r0 ∷ lists.r1 ∷ lists.r2 ∷ lists.r3 ∷ t) none) in
    subst (λ (refused : List (Vec ℕ Global)). IsReportWith refused c.args.tallies.now channel report) are
    (reports-are lists.r0 lists.r1 lists.r2 lists.r3 c.args.tallies.now _ c.requires.tallies channel report at)
