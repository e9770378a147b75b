use Rattle.std.proofs.Common.{◌≡◌, ◌-◌, true, false, get_or, ap, ◌∙◌, ltb, arith, rules}
use Rattle.std.specs.List.Sorted.{IsPartitionPoint}
use Rattle.std.proofs.lemmas.List.Sorted.{IsPartitionPoint-from_clause, IsPartitionedBy-ltb}
use Rattle.capture_rules.proofs.InOrder.{first-from_low, within-from_low, first-of_high, first-of_low}
use Rattle.capture_rules.proofs.waiting_numbers.first_from.Goals as goal

point : (c : goal.After-partition_point) → IsPartitionPoint (λ n. ltb n c.args.low ≡ true) (λ n. ltb n c.args.low ≡ false) c.args.numbers.now.items c.partition_point.result
point c =
    let parted = IsPartitionedBy-ltb (λ n. n) _ c.args.low c.requires in
    IsPartitionPoint-from_clause (λ n. ltb n c.args.low) _ _ c.partition_point.ensures.partitioned parted (λ a r q k. search rules)

pub returns-in-Some-Some-clause-within : goal.returns-in-Some-Some-clause-within
returns-in-Some-Some-clause-within c = λ some.
    let size = c.args.numbers.now.ok.0 in
    within-from_low _ c.requires c.args.low _ c.in-Some-Some.last.now (point c) (omega (arith, c.partition_point.ensures.bound, size)) some (c.in-Some-Some.ensures'.lookup ∙ ap (λ n. get_or c.args.numbers.now.items (n - 1) c.in-Some-Some.last.now) size) c.if-last-low.true

pub returns-in-Some-Some-clause-first : goal.returns-in-Some-Some-clause-first
returns-in-Some-Some-clause-first c = λ d k e below. first-from_low _ c.requires c.args.low _ (point c) (returns-in-Some-Some-clause-within c (omega (arith, below))) d k e below

pub returns-in_default-clause-first : goal.returns-in_default-clause-first
returns-in_default-clause-first c = λ d. first-of_low _ c.requires c.args.low c.in-Some-Some.last.now d (c.in-Some-Some.ensures'.lookup ∙ ap (λ n. get_or c.args.numbers.now.items (n - 1) c.in-Some-Some.last.now) c.args.numbers.now.ok.0) c.if-last-low.false

pub returns-in_default-2-clause-first : goal.returns-in_default-2-clause-first
returns-in_default-2-clause-first c = λ d. first-of_high _ c.requires c.args.low c.in-Some-Some.first.now d c.in-Some-Some.ensures.lookup c.if-first-low.false
