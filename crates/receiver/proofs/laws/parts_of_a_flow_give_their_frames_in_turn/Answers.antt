use Rattle.std.proofs.Common.{◌++◌, replicate}
use Rattle.flow_core.specs.Events.{gap}
use Rattle.bonded_flows.specs.Parts.{begun_at}
use Rattle.receiver.specs.SentParts.{SentPart, NearPart, GivesAllThatCame, GivesItsSequence}
use Rattle.receiver.proofs.PartsInTurn.{all-in-turn}
use Rattle.receiver.proofs.laws.parts_of_a_flow_give_their_frames_in_turn.Goals as goal

pub returns-clause-all_came : goal.returns-clause-all_came
returns-clause-all_came c = λ check setup inputs sent gave counts asks window are all.
    all-in-turn (GivesAllThatCame check setup) (λ (one : SentPart check setup). one.part) check setup
    (λ one own own_counts own_gave.
    c.bonded_flow_gives_the_frames_that_all_came.ensures check one.frames one.modem.chunks one.modem.fill one.modem.segments (begun_at setup one.part.first) one.part.comings one.modem.index_at own own_counts
    asks window one.modem.cut one.modem.in_order one.modem.falls one.safe own_gave)
    inputs sent gave counts are all

pub returns-clause-delivered : goal.returns-clause-delivered
returns-clause-delivered c = λ check setup inputs near gave counts are all.
    all-in-turn (GivesItsSequence check setup) (λ (one : NearPart check setup). one.part) check setup
    (λ one own own_counts own_gave. record {
      events = own_gave.events;
      lasts = own_gave.lasts;
      before = own_gave.fates;
      ruled = own_gave.ruled;
      n = own_gave.n;
      answers = own_gave.outcome.answers;
      fates = own_gave.outcome.fates;
      after = own_gave.outcome.after;
      closed = own_gave.closed;
      sequence =
          c.outcome_of_near_events_is_the_delivery_sequence.ensures check one.frames one.chunks one.fill one.segments (begun_at setup one.part.first).flow_record (own_gave.events ++ replicate own_gave.n gap)
          own_gave.outcome.answers own own_counts own_gave.outcome.fates one.cut
          (c.gaps_after_keep_events_near.ensures.gaps one.part.first setup.flow_record.window own_gave.n one.segments own_gave.events (one.near own_gave.events own_gave.lasts own_gave.fates own_gave.ruled))
          own_gave.outcome own_gave.outcome.after;
    })
    inputs near gave counts are all
