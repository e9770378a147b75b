use Rattle.std.proofs.Common.{◌≡◌, ℕ, ◌<◌, length, slice_get, Some, MatchBool, inl, inr, sym, subst, ap, ◌∙◌, arith, rules, tests}
use Rattle.std.specs.List.{HoldsAt, AllWithin}
use Rattle.std.proofs.lemmas.Iterator.{cases_from_any, YieldsList-from_slice}
use Rattle.std.proofs.lemmas.Option.{slice_get-get_or}
use Rattle.receiver.specs.Order.{IsLawfulOrder, IsOrderFault}
use Rattle.receiver.proofs.OrderPlaces.{refused, taken, bad-here, left-taken, left-over, none-left, lawful-faultless}
use Rattle.receiver.proofs.order.check_order.Goals as goal
use Rattle.receiver.proofs.order.check_order.Goals.{then-sender-ge5-via-then-sender-ge5, then-sender-ge5-via-else-sender-ge5+then-left-sender-eq0}

-- the place at which the loop stops is the order's fault
stopped : (c : goal.Joined-then-sender-ge5) → IsOrderFault c.args.lengths c.args.order.now c.loop-k.k
stopped c =
    let order = c.args.order.now in
    let tag = c.from-sender.result in
    let at : slice_get order c.loop-k.k ≡ Some tag = slice_get-get_or order c.loop-k.k 0 c.loop-k-test.true ∙ ap Some (sym c.from-sender.ensures) in
    let fault = bad-here c.args.lengths order c.loop-k.k tag c.loop-k.left c.loop-k.invariant at in
    elim c.then-sender-ge5.branch [
      | then-sender-ge5-via-then-sender-ge5 w ↦ fault (inl w.if-sender-ge5.true)
      | then-sender-ge5-via-else-sender-ge5+then-left-sender-eq0 w ↦ fault (inr w.if-left-sender-eq0.true)
    ]

-- src/order.rt:16:13
pub returns-then-sender-ge5-clause-lawful : goal.returns-then-sender-ge5-clause-lawful
returns-then-sender-ge5-clause-lawful c =
    let lengths = c.args.lengths in
    let order = c.args.order.now in
    (refused lengths order c.loop-k.k (stopped c) (λ lawful. lawful-faultless lengths order lawful c.loop-k.k (stopped c))).0

-- src/order.rt:16:13
pub returns-then-sender-ge5-clause-fault : goal.returns-then-sender-ge5-clause-fault
returns-then-sender-ge5-clause-fault c =
    let lengths = c.args.lengths in
    let order = c.args.order.now in
    (refused lengths order c.loop-k.k (stopped c) (λ lawful. lawful-faultless lengths order lawful c.loop-k.k (stopped c))).1

-- src/order.rt:13:5
pub loop-k-preserved : goal.loop-k-preserved
loop-k-preserved c =
    let order = c.args.order.now in
    let tag = c.from-sender.result in
    let at : slice_get order c.loop-k.k ≡ Some tag = slice_get-get_or order c.loop-k.k 0 c.loop-k-test.true ∙ ap Some (sym c.from-sender.ensures) in
    let some = c.if-left-sender-eq0.false in
    left-taken c.args.lengths order c.loop-k.k tag c.loop-k.left c.loop-k.invariant at c.if-sender-ge5.false (omega (arith, some))

-- some list has an item left
left-behind : (c : goal.Then-any) → IsOrderFault c.args.lengths c.args.order.now (length c.args.order.now)
left-behind c =
    let left = c.loop-k.left in
    let by_call = cases_from_any _ _ _ (λ x. 0 < x) (λ x. x ≡ 0) c.any.ensures.ran (YieldsList-from_slice left cc) (λ x q k. search (rules, tests)) (λ x q k. search (rules, tests)) in
    let found : (k : ℕ) × (k < length left) × HoldsAt (λ x. 0 < x) left k =
    subst (λ r. MatchBool r ((k : ℕ) × (k < length left) × HoldsAt (λ x. 0 < x) left k) (AllWithin (λ x. x ≡ 0) left 0 (length left))) c.if-any.true by_call in
    let five = c.loop-k.invariant.five in
    left-over c.args.lengths c.args.order.now left c.loop-k.k c.loop-k.invariant c.loop-k-test.false found.0 (omega (arith, found.1)) (found.2 0)

-- src/order.rt:21:9
pub returns-then-any-clause-lawful : goal.returns-then-any-clause-lawful
returns-then-any-clause-lawful c =
    let lengths = c.args.lengths in
    let order = c.args.order.now in
    (refused lengths order (length order) (left-behind c) (λ lawful. lawful-faultless lengths order lawful (length order) (left-behind c))).0

-- src/order.rt:21:9
pub returns-then-any-clause-fault : goal.returns-then-any-clause-fault
returns-then-any-clause-fault c =
    let lengths = c.args.lengths in
    let order = c.args.order.now in
    (refused lengths order (length order) (left-behind c) (λ lawful. lawful-faultless lengths order lawful (length order) (left-behind c))).1

-- no list has an item left
all-used : (c : goal.Else-any) → IsLawfulOrder c.args.lengths c.args.order.now
all-used c =
    let left = c.loop-k.left in
    let by_call = cases_from_any _ _ _ (λ x. 0 < x) (λ x. x ≡ 0) c.any.ensures.ran (YieldsList-from_slice left cc) (λ x q k. search (rules, tests)) (λ x q k. search (rules, tests)) in
    let none : AllWithin (λ x. x ≡ 0) left 0 (length left) =
    subst (λ r. MatchBool r ((k : ℕ) × (k < length left) × HoldsAt (λ x. 0 < x) left k) (AllWithin (λ x. x ≡ 0) left 0 (length left))) c.if-any.false by_call in
    let five = c.loop-k.invariant.five in
    none-left c.args.lengths c.args.order.now left c.loop-k.k c.loop-k.invariant c.loop-k-test.false (λ sender named. none sender 0 (omega arith) (omega (arith, named)))

-- src/order.rt:8:1
pub returns-clause-lawful : goal.returns-clause-lawful
returns-clause-lawful c = (taken c.args.lengths c.args.order.now (all-used c) (lawful-faultless c.args.lengths c.args.order.now (all-used c))).0

-- src/order.rt:8:1
pub returns-clause-fault : goal.returns-clause-fault
returns-clause-fault c = (taken c.args.lengths c.args.order.now (all-used c) (lawful-faultless c.args.lengths c.args.order.now (all-used c))).1
