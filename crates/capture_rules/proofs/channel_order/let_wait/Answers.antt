use Rattle.std.proofs.Common.{◌≡◌, List, [], ◌∷◌, ◌++◌, sym, subst, ap, ◌∙◌, ⊎_elim}
use Rattle.std.proofs.lemmas.Bool.{cases_eq}
use Rattle.capture_rules.specs.declared.arrival.Waiting.{Waiting}
use Rattle.capture_rules.specs.Inside.Numbers.{AreNumbersOf, numbers_on}
use Rattle.capture_rules.proofs.Taken.{numbers-inserted, numbers-kept}
use Rattle.capture_rules.proofs.channel_order.let_wait.Goals as goal

pub returns-then-is_err-clause-numbered : goal.returns-then-is_err-clause-numbered
returns-then-is_err-clause-numbered g c were = subst (λ (waiting : List (Waiting _)). AreNumbersOf c.args.numbers.now waiting) (sym c.reserve.ensures.items) were

pub returns-in-Ok-clause-numbered : goal.returns-in-Ok-clause-numbered
returns-in-Ok-clause-numbered g c were =
    let one : Waiting _ = record { came = c.args.came; arrival = c.args.arrival } in
    subst (λ (waiting : List (Waiting _)). AreNumbersOf c.insert.new.self waiting) (sym (c.push_back_reserved.ensures.items ∙ ap (λ (waiting : List (Waiting _)). waiting ++ one ∷ []) c.reserve.ensures.items))
    (numbers-inserted c.args.numbers.now c.insert.new.self c.args.waiting.now.items one were c.in-Ok.ensures.others c.in-Ok.ensures.inserted)

pub returns-in-Err-clause-numbered : goal.returns-in-Err-clause-numbered
returns-in-Err-clause-numbered g c were =
    subst (λ (waiting : List (Waiting _)). AreNumbersOf c.insert.new.self waiting) (sym c.reserve.ensures.items)
    (numbers-kept c.args.numbers.now c.insert.new.self c.args.waiting.now.items were
    (λ other.
    ⊎_elim
    (λ (own : other ≡ c.args.arrival.channel). subst (λ n. numbers_on c.insert.new.self n ≡ numbers_on c.args.numbers.now n) (sym own) c.in-Err.ensures.unchanged)
    (λ (apart : other ≡ c.args.arrival.channel → ⊥). c.in-Err.ensures.others other apart)
    (cases_eq other c.args.arrival.channel)))
