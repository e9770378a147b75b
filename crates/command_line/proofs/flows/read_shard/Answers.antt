use Rattle.std.proofs.Common.{Some, None, refl, arith}
use Rattle.command_line.proofs.SaidFlows.{split_says, same_number}
use Rattle.command_line.proofs.flows.read_shard.Goals as goal

pub returns-in_err-remainder_text-clause-none : goal.returns-in_err-remainder_text-clause-none
returns-in_err-remainder_text-clause-none c = λ _ shard says. split_says c.args.value.now None c.in_err-remainder_text.ensures.cases shard says

pub returns-in_err-remainder-clause-none : goal.returns-in_err-remainder-clause-none
returns-in_err-remainder-clause-none c = λ _ shard says.
    let parts = Some (c.in_ok-remainder_text.remainder_text, c.in_ok-remainder_text.count_text) in
    let split = split_says c.args.value.now parts c.in_ok-remainder_text.ensures.cases shard says in
    c.in_err-remainder.ensures.none refl shard.remainder split.0

pub returns-in_err-count-clause-none : goal.returns-in_err-count-clause-none
returns-in_err-count-clause-none c = λ _ shard says.
    let parts = Some (c.in_ok-remainder_text.remainder_text, c.in_ok-remainder_text.count_text) in
    let split = split_says c.args.value.now parts c.in_ok-remainder_text.ensures.cases shard says in
    c.in_err-count.ensures.none refl shard.count split.1

pub returns-then-remainder-count-clause-none : goal.returns-then-remainder-count-clause-none
returns-then-remainder-count-clause-none c = λ _ shard says.
    let parts = Some (c.in_ok-remainder_text.remainder_text, c.in_ok-remainder_text.count_text) in
    let split = split_says c.args.value.now parts c.in_ok-remainder_text.ensures.cases shard says in
    let first = same_number _ _ _ _ _ c.in_ok-remainder.ensures.number split.0 in
    let last = same_number _ _ _ _ _ c.in_ok-count.ensures.number split.1 in
    omega (arith, first, last, says.below, c.if-remainder-count.true)
