use Rattle.std.proofs.Common.{◌≡◌, ◌+◌, ◌<◌, ◌≤◌, Some, slice_get, length, refl, sym, subst}
use Rattle.std.proofs.lemmas.Option.{slice_get_read}
use Rattle.reorder.specs.Limits.{modulus}
use Rattle.capture_rules.specs.Order.{place_from}
use Rattle.capture_rules.proofs.BeginningSoFar.{IsLeastTo, least-none, least-taken, least-passed_over, least-all}
use Rattle.capture_rules.proofs.beginning.first_number.Goals as goal
use Rattle.capture_rules.proofs.beginning.first_number.Goals.{then-place_from, else-place_from}

pub loop-one-init : goal.loop-one-init
loop-one-init g c = record {
  in_range = c.in_ok-first.field-0.now.arrival.in_range;
  least = λ first stands same. subst (λ n. IsLeastTo c.args.kept.now first stands 0 n) (sym same) (least-none c.args.kept.now first stands);
}

pub loop-one-preserved : goal.loop-one-preserved
loop-one-preserved g c =
    let kept = c.args.kept.now in
    let i = c.loop-one.one-index in
    let one = c.one-item.result in
    let number = one.arrival.number in
    let f = c.in_ok-first.field-0.now.arrival.number in
    let at : slice_get kept i ≡ Some one = slice_get_read kept (length kept) i one refl c.loop-one-test.true c.one-item.is in
    elim c.if-place_from.branch [
      | then-place_from w ↦
          let less : place_from f number < place_from f c.loop-one.least =
          subst (λ n. n < place_from f c.loop-one.least) c.place_from.ensures (subst (λ n. c.place_from.result < n) c.place_from-in-loop-one.ensures w.if-place_from.true) in
          record {
            in_range = subst (λ n. n < modulus) (sym w.least-is) one.arrival.in_range;
            least = λ first stands same. subst (λ n. IsLeastTo kept first stands (i + 1) n) (sym w.least-is)
                (least-taken kept first stands i c.loop-one.least one at (subst (λ n. place_from n number < place_from n c.loop-one.least) same less) (c.loop-one.invariant.least first stands same));
          }
      | else-place_from w ↦
          let most : place_from f c.loop-one.least ≤ place_from f number =
          subst (λ n. place_from f c.loop-one.least ≤ n) c.place_from.ensures (subst (λ n. n ≤ c.place_from.result) c.place_from-in-loop-one.ensures w.if-place_from.false) in
          record {
            in_range = subst (λ n. n < modulus) (sym w.least-is) c.loop-one.invariant.in_range;
            least = λ first stands same. subst (λ n. IsLeastTo kept first stands (i + 1) n) (sym w.least-is)
                (least-passed_over kept first stands i c.loop-one.least one at (subst (λ n. place_from n c.loop-one.least ≤ place_from n number) same most) (c.loop-one.invariant.least first stands same));
          }
    ]

pub returns-clause-number : goal.returns-clause-number
returns-clause-number g c =
    let first = c.in_ok-first.field-0.now in
    let stands : slice_get c.args.kept.now 0 ≡ Some first = sym c.in_ok-first.ensures.value in
    least-all c.args.kept.now first stands c.loop-one.one-index c.loop-one.least c.loop-one-test.false (c.loop-one.invariant.least first stands refl)
