-- A row that has no fault marks one channel of one flow.
use Rattle.std.proofs.Common.{arith}
use Rattle.std.proofs.lemmas.Option.{slice_get-get_or}
use Rattle.bonded_flows.proofs.ChannelSets.{channel-known, flow-known, mark-read, all-marked}
use Rattle.bonded_flows.proofs.channel_sets.channel_sets.Goals as goal

pub index_mut-requires : goal.index_mut-requires
index_mut-requires c =
    let at = slice_get-get_or c.args.rows.now c.loop-row.row-index (record { channel = 0; sid = 0; flow = 0 }) c.loop-row-test.true in
    let known = flow-known c.args.rows.now c.loop-row.row-index _ at c.args.channels c.args.flow_count c.requires.rows in
    let count = c.loop-row.invariant.count in
    omega (arith, known, count)

pub bounds-index_mut-from : goal.bounds-index_mut-from
bounds-index_mut-from c =
    let at = slice_get-get_or c.args.rows.now c.loop-row.row-index (record { channel = 0; sid = 0; flow = 0 }) c.loop-row-test.true in
    let known = channel-known c.args.rows.now c.loop-row.row-index _ at c.args.channels c.args.flow_count c.requires.rows in
    let few = c.requires.few in
    let same = c.from.ensures in
    omega (arith, known, few, same)

pub loop-row-preserved : goal.loop-row-preserved
loop-row-preserved c =
    let at = slice_get-get_or c.args.rows.now c.loop-row.row-index (record { channel = 0; sid = 0; flow = 0 }) c.loop-row-test.true in
    let flow = flow-known c.args.rows.now c.loop-row.row-index _ at c.args.channels c.args.flow_count c.requires.rows in
    let channel = channel-known c.args.rows.now c.loop-row.row-index _ at c.args.channels c.args.flow_count c.requires.rows in
    let few = c.requires.few in
    mark-read c.args.rows.now c.loop-row.row-index _ at c.loop-row.sets.items c.args.flow_count
    flow (omega (arith, channel, few)) c.loop-row.invariant
    c.index_mut.result.now c.from.result c.index_mut.ensures.value c.from.ensures

pub returns-clause-sets : goal.returns-clause-sets
returns-clause-sets c =
    all-marked c.loop-row.sets.items c.args.channels c.args.flow_count c.loop-row.row-index c.args.rows.now
    c.requires.few c.loop-row-test.false c.loop-row.invariant
