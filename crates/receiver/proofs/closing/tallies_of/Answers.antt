-- The next lane's tally.
use Rattle.std.proofs.Common.{◌≡◌, [], ◌∷◌, length, slice_get, refl, ap, subst, sym, ◌∙◌, arith}
use Rattle.std.proofs.lemmas.List.{length-append}
use Rattle.std.proofs.lemmas.Option.{slice_get_read}
use Rattle.receiver.specs.Received.{AreTalliesOf}
use Rattle.receiver.proofs.ClosedFlows.{tallies-more}
use Rattle.receiver.proofs.closing.tallies_of.Goals as goal

pub loop-one-preserved : goal.loop-one-preserved
loop-one-preserved c =
    let tallies = c.loop-one.tallies.items in
    let count : length tallies ≡ c.loop-one.one-index = c.loop-one.invariant.count in
    let long = ap length c.in_ok-push.ensures.items ∙ length-append tallies (_ ∷ []) in
    record {
      count = omega arith;
      each = subst (AreTalliesOf c.args.lanes.now) (sym c.in_ok-push.ensures.items)
          (tallies-more c.args.lanes.now tallies c.one-item.result
          (ap (slice_get c.args.lanes.now) count ∙ slice_get_read c.args.lanes.now (length c.args.lanes.now) c.loop-one.one-index c.one-item.result refl c.loop-one-test.true c.one-item.is)
          c.loop-one.invariant.each);
    }
