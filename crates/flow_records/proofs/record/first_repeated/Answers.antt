-- A record whose identifier is repeated has an index, so it was looked at.
use Rattle.std.proofs.Common.{◌≡◌, true, below_more, arith}
use Rattle.std.proofs.lemmas.Option.{slice_get_within}
use Rattle.flow_records.proofs.record.first_repeated.Goals as goal

pub loop-k-preserved : goal.loop-k-preserved
loop-k-preserved c = below_more _ _ c.loop-k.invariant
    (λ repeated. let found : c.is_repeated.result ≡ true = c.is_repeated.ensures.1 repeated in cc)

pub returns : goal.returns
returns c k repeated =
    let below = slice_get_within c.args.records.now k repeated.2 repeated.4 in
    c.loop-k.invariant k (omega arith) repeated
