use Rattle.std.proofs.Common.{◌-◌, ℕ, List, get_or, ap, subst, sym, ◌∙◌, leb, arith, rules, false, refl, ◌∷◌}
use Rattle.std.specs.Prelude.{IsPermutation}
use Rattle.std.proofs.lemmas.Bool.{both_ways}
use Rattle.std.specs.List.Sorted.{IsNonDecreasing}
use Rattle.std.proofs.lemmas.List.Sorted.{IsPartitionPoint-from_clause, IsPartitionedBy-leb, IsPermutation-insert, IsPermutation-to_front, IsPermutation-sym, IsNonDecreasingBy-push}
use Rattle.capture_rules.proofs.InOrder.{ordered-inserted, last-most}
use Rattle.capture_rules.proofs.waiting_numbers.insert_in_order.Goals as goal
use Rattle.capture_rules.proofs.waiting_numbers.insert_in_order.Goals.{in_default-via-in-Some+else-last-number, in_default-via-in_default}

pub returns-in_ok-insert-in-Some-clause-inserted : goal.returns-in_ok-insert-in-Some-clause-inserted
returns-in_ok-insert-in-Some-clause-inserted c =
    subst (λ (ns : List ℕ). IsPermutation (c.args.number ∷ c.args.numbers.now.items) ns) (sym c.in_ok-insert-in-Some.ensures.items) (IsPermutation-insert c.args.numbers.now.items c.partition_point-at.result c.args.number)

pub returns-in_ok-insert-in-Some-clause-ordered : goal.returns-in_ok-insert-in-Some-clause-ordered
returns-in_ok-insert-in-Some-clause-ordered c =
    let parted = IsPartitionedBy-leb (λ n. n) _ c.args.number c.requires in
    let point = IsPartitionPoint-from_clause (λ n. leb n c.args.number) _ _ c.partition_point-at.ensures.partitioned parted (λ a r q k. search rules) in
    let bound = c.partition_point-at.ensures.bound in
    subst (λ (ns : List ℕ). IsNonDecreasing ns) (sym c.in_ok-insert-in-Some.ensures.items)
    (ordered-inserted c.args.numbers.now.items c.requires c.partition_point-at.result c.args.number (let size = c.args.numbers.now.ok.0 in omega (arith, bound, size)) point)

pub returns-in_ok-push_back-in_default-clause-inserted : goal.returns-in_ok-push_back-in_default-clause-inserted
returns-in_ok-push_back-in_default-clause-inserted c =
    subst (λ (ns : List ℕ). IsPermutation (c.args.number ∷ c.args.numbers.now.items) ns) (sym c.in_ok-push_back-in_default.ensures.items) (IsPermutation-sym _ _ (IsPermutation-to_front c.args.numbers.now.items c.args.number))

pub returns-in_ok-push_back-in_default-clause-ordered : goal.returns-in_ok-push_back-in_default-clause-ordered
returns-in_ok-push_back-in_default-clause-ordered c =
    subst (λ (ns : List ℕ). IsNonDecreasing ns) (sym c.in_ok-push_back-in_default.ensures.items)
    (IsNonDecreasingBy-push (λ n. n) c.args.numbers.now.items c.args.number c.requires
    (λ d some.
    elim c.in_default.branch [
      | in_default-via-in-Some+else-last-number w ↦
          last-most c.args.numbers.now.items c.requires w.in-Some.last.now c.args.number d (w.in-Some.ensures.lookup ∙ ap (λ n. get_or c.args.numbers.now.items (n - 1) w.in-Some.last.now) c.args.numbers.now.ok.0) w.if-last-number.false some
      | in_default-via-in_default w ↦ absurd (both_ways false refl (w.in_default.ensures.variant.1 (let size = c.args.numbers.now.ok.0 in omega (arith, some, size))))
    ]))
