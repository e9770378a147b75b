-- What a consumer has handed on to another thread, and what that took.
use Rattle.std.specs.Prelude.{◌≡◌, ℕ, ◌<◌, ◌⊎◌, Bool, IsTrue, List, ◌++◌, Vec}
use Rattle.std.specs.declared.alloc.Global.{Global}
use Rattle.delivery.specs.Frames.{frames_in}
use Rattle.delivery.specs.Feeders.{feeder_ring, offered}
use Rattle.delivery.specs.declared.opening.OpenFault.{OpenFault}
use Rattle.delivery.specs.declared.opening.OpenFault.TheVariants as open_fault
use Rattle.loss_rule.specs.declared.rule.LossRule.{LossRule}
use Rattle.consumer.specs.declared.given.Given.{Given}
use Rattle.consumer.specs.Given.{frames_of}
use Rattle.receiver.specs.declared.setup.Setup.{Setup}
use Rattle.receiver.specs.Items.{Incoming}
use Rattle.workers.specs.declared.channel_input.ChannelInput.{ChannelInput}
use Rattle.uplink.specs.declared.faults.RunFault.TheVariants as run_fault
use Rattle.uplink.specs.Faults.{IsRunFaultWithin}
use Rattle.uplink.specs.Received.{GivesTheHeadline}
use Rattle.uses.specs.declared.handed_on.HandingFault.{HandingFault}
use Rattle.uses.specs.declared.handed_on.HandingFault.TheVariants.{Ring, Run}
use Rattle.uses.specs.declared.handed_on.HandsOn.{HandsOn}

-- It offers the same flow's frames to the same ring. If nothing was left out at the end, nothing
-- was at the start, and what it offered grew by the frames that were given of its flow, in order.
pub record HasHandedOn {R : Type 0} (start : HandsOn R) (given : List Given) (now : HandsOn R) : Type 0 where
  pub flow : now.flow ≡ start.flow
  pub ring : feeder_ring now.feeder ≡ feeder_ring start.feeder
  pub was_whole : IsTrue now.is_whole → IsTrue start.is_whole
  pub handed : IsTrue now.is_whole → offered now.feeder ≡ offered start.feeder ++ frames_of start.flow given

-- The frames that were taken are those of this flow in what keeps the headline, for some lawful
-- order of what came in: so its delivery sequence.
pub record TookOfFlow (channels : ℕ) (rule : LossRule) (check : List ℕ → Bool) (setup : Setup) (came_in : List (List ChannelInput) → Incoming → Type 0) (flow : ℕ) (taken : Vec (Vec ℕ Global) Global) : Type 0 where
  pub sources : List (List ChannelInput)
  pub incoming : Incoming
  pub came : came_in sources incoming
  pub order : List ℕ
  pub frames : List Given
  pub requests : List Given
  pub headline : GivesTheHeadline channels rule check setup incoming order frames requests
  pub are : frames_in taken.items ≡ frames_of flow frames

-- why a ring of this capacity isn't made
abbrev pub IsOpenFault : ℕ → OpenFault → Type 0
IsOpenFault capacity open_fault.NoCapacity = capacity ≡ 0
IsOpenFault capacity open_fault.OutOfMemory = 0 < capacity

-- Why no frames are handed on, or not all: the receiver runs only where there is a ring.
abbrev pub IsHandingFault : ℕ → ℕ → Setup → ℕ → HandingFault → Type 0
IsHandingFault channels flows setup capacity (Ring fault) = IsOpenFault capacity fault
IsHandingFault channels flows setup capacity (Run fault) = (0 < capacity) × ((fault ≡ run_fault.OutOfMemory) ⊎ IsRunFaultWithin channels flows setup fault)
