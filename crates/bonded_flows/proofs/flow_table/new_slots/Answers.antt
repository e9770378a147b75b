-- One slot more is a new one.
use Rattle.std.proofs.Common.{◌≡◌, ◌<◌, [], ◌∷◌, ◌++◌, length, ap, subst, sym, ◌∙◌, arith}
use Rattle.std.proofs.lemmas.List.{length-append}
use Rattle.std.proofs.lemmas.Option.{slice_get-get_or}
use Rattle.bonded_flows.specs.Slots.{AreNewSlots}
use Rattle.bonded_flows.proofs.NewTable.{slots-more}
use Rattle.bonded_flows.proofs.flow_table.new_slots.Goals as goal

pub loop-index-preserved : goal.loop-index-preserved
loop-index-preserved c =
    let slots = c.loop-index.slots.items in
    let pushed : c.push.new.self.items ≡ slots ++ c.new-slot.result ∷ [] = c.in_ok-push.ensures.items in
    let long = ap length pushed ∙ length-append slots (c.new-slot.result ∷ []) in
    let count : length slots ≡ c.loop-index.index = c.loop-index.invariant.count in
    let many : length c.args.sets.now ≡ length c.args.records.now = c.requires in
    let before : c.loop-index.index < length c.args.records.now = c.loop-index-test.true in
    record {
      count = omega arith;
      each = subst (AreNewSlots c.args.rule c.args.records.now c.args.sets.now c.args.channel_count) (sym pushed)
          (slots-more c.args.rule c.args.records.now c.args.sets.now c.args.channel_count slots c.new-slot.result c.loop-index.index _ _ count
          (slice_get-get_or c.args.records.now c.loop-index.index _ before)
          (slice_get-get_or c.args.sets.now c.loop-index.index _ (omega arith))
          (record {
            index_is = c.new-slot.ensures.index;
            rule_is = c.new-slot.ensures.rule;
            record_is = c.new-slot.ensures.flow_record;
            channels_are = c.new-slot.ensures.channels;
            count_is = c.new-slot.ensures.channel_count;
            none = c.new-slot.ensures.flow;
          })
          c.loop-index.invariant.each);
    }
