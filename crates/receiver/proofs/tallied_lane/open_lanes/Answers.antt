-- The next channel's lane is opened.
use Rattle.std.proofs.Common.{◌≡◌, [], ◌∷◌, ◌++◌, length, ap, subst, sym, ◌∙◌, arith}
use Rattle.std.proofs.lemmas.List.{length-append}
use Rattle.receiver.specs.declared.tallied_lane.TalliedLane.{TalliedLane}
use Rattle.lane.specs.Stands.{StandsFor as LaneStandsFor}
use Rattle.receiver.specs.Items.{lane_setup}
use Rattle.receiver.specs.Receiving.{HasAnswered, AreOpened}
use Rattle.receiver.proofs.AnsweredInputs.{opened-more}
use Rattle.receiver.proofs.tallied_lane.open_lanes.Goals as goal

pub loop-channel-preserved : goal.loop-channel-preserved
loop-channel-preserved c =
    let lanes = c.loop-channel.lanes.items in
    let one : TalliedLane = record { lane = c.in_ok-lane.lane; tally = c.none.result } in
    let pushed : c.push.new.self.items ≡ lanes ++ one ∷ [] = c.in_ok-push.ensures.items in
    let count : length lanes ≡ c.loop-channel.channel = c.loop-channel.invariant.count in
    let long = ap length pushed ∙ length-append lanes (one ∷ []) in
    record {
      count = omega arith;
      each = subst (AreOpened c.args.setup.now) (sym pushed)
          (opened-more c.args.setup.now lanes one
          (subst (λ n. HasAnswered (lane_setup c.args.setup.now n) one []) (sym count) (record {
            stands =
                subst (λ rows. LaneStandsFor (record { channel = c.loop-channel.channel; rows = rows; records = c.args.setup.now.flows.items }) c.in_ok-lane.lane []) c.deref.ensures.value
                (subst (λ records. LaneStandsFor (record { channel = c.loop-channel.channel; rows = c.deref.result.now; records = records }) c.in_ok-lane.lane []) c.deref-in-loop-channel.ensures.value c.in_ok-lane.ensures);
            tally = c.none.ensures;
          }))
          c.loop-channel.invariant.each);
    }
