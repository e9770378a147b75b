-- What a caller of a running receiver knows that counts what it gives.
use Rattle.std.specs.Prelude.{◌≡◌, ℕ, zero, suc, ◌+◌, Bool, List, length, slice_get, sum_by}
use Rattle.flow_records.specs.Counted.{counted}
use Rattle.lane.specs.Report.{requests_of}
use Rattle.loss_rule.specs.declared.rule.LossRule.{LossRule}
use Rattle.consumer.specs.declared.counts.Counts.{Counts}
use Rattle.consumer.specs.declared.given.Given.{Given}
use Rattle.consumer.specs.Given.{frames_of}
use Rattle.receiver.specs.declared.setup.Setup.{Setup}
use Rattle.receiver.specs.Items.{Incoming}
use Rattle.receiver.specs.Tallies.{IsTallyOf}
use Rattle.workers.specs.declared.channel_input.ChannelInput.{ChannelInput}
use Rattle.uplink.specs.declared.receiving.Received.{Received}
use Rattle.uplink.specs.Received.{GivesTheHeadline, IsAnswerBy, AreStraysOfSources}

-- f 0 + f 1 + .. , for all below n
abbrev pub sum_below : ℕ → (ℕ → ℕ) → ℕ
sum_below zero f = 0
sum_below (suc n) f = sum_below n f + f n

-- What was counted is what one thread gives by the rule for some lawful order of what came in: as
-- many frames, and bytes in them, as the delivery sequences of all flows have together, as many
-- requests as the segments that all channels admitted in that order, and the counts of each flow,
-- the tally of each channel and the strays of each source.
pub record AreCounts (channels : ℕ) (rule : LossRule) (check : List ℕ → Bool) (setup : Setup) (came_in : List (List ChannelInput) → Incoming → Type 0) (received : Received Counts Counts) : Type 0 where
  pub sources : List (List ChannelInput)
  pub incoming : Incoming
  pub came : came_in sources incoming
  pub order : List ℕ
  pub frames : List Given
  pub requests : List Given
  pub headline : GivesTheHeadline channels rule check setup incoming order frames requests
  pub answer : IsAnswerBy IsTallyOf channels rule check setup incoming order frames requests received.flows.items (slice_get received.lanes.items)
  pub lane_count : length received.lanes.items ≡ channels
  pub strays : AreStraysOfSources channels sources received.strays
  pub frame_count : received.consumer.frames ≡ counted (sum_below (length setup.flows.items) (λ k. length (frames_of k frames)))
  pub byte_count : received.consumer.bytes ≡ counted (sum_below (length setup.flows.items) (λ k. sum_by (λ frame. length frame) (frames_of k frames)))
  pub request_count : received.scheduler.requests ≡ counted (sum_below channels (λ channel. length (requests_of (headline.intake.answered channel))))
