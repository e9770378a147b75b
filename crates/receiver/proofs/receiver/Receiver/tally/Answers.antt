-- The lane's answers are counted.
use Rattle.std.proofs.Common.{◌≡◌, Some, length, slice_get, refl, subst}
use Rattle.std.proofs.lemmas.Option.{slice_get_read}
use Rattle.receiver.proofs.receiver.Receiver.tally.Goals as goal

pub returns-clause-tally : goal.returns-clause-tally
returns-clause-tally g c check made handed given stands =
    let found = c.in_ok-get.ensures.lookup in
    let here : slice_get c.args.self.now.lanes.items c.args.channel ≡ Some c.in_ok-get.field-0.now =
    subst (λ lanes. slice_get lanes c.args.channel ≡ Some c.in_ok-get.field-0.now) c.deref.ensures.value
    (slice_get_read c.deref.result.now (length c.deref.result.now) c.args.channel c.in_ok-get.field-0.now refl found.3.0 found.1) in
    (stands.lanes.each c.args.channel c.in_ok-get.field-0.now here).tally
