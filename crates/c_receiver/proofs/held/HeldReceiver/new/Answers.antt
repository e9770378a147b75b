-- A receiver is made of the setup of these flows and rows, or its fault is told.
use Rattle.std.proofs.Common.{ℕ, refl, subst}
use Rattle.receiver.specs.HandedIn.{made_of}
use Rattle.receiver.specs.Receiving.{StandsFor}
use Rattle.receiver.specs.Widths.{CanReceiveWithin, IsSetupErrorWithin}
use Rattle.std.proofs.Common.{[]}
use Rattle.c_receiver.specs.Held.{no_check}
use Rattle.c_receiver.proofs.held.HeldReceiver.new.Goals as goal

pub returns-in-Ok-new-clause-made : goal.returns-in-Ok-new-clause-made
returns-in-Ok-new-clause-made c = record {
  receiver = c.in-Ok-new.receiver;
  setup = c.in-Ok.setup;
  rule = c.in-Some.rule;
  is_open = refl;
  by_rule = c.in-Some.ensures.rule;
  is_setup = record { records = c.in-Ok.ensures.flows; sids = c.in-Ok.ensures.rows };
  can_receive = subst (λ (w : ℕ × ℕ). CanReceiveWithin w.0 w.1 c.in-Ok.setup) (λ i. (c.in_ok-width.ensures.channels i, c.in_ok-width.ensures.flows i)) c.in-Ok-new.ensures.can_receive;
  stands = subst (λ (channels : ℕ). StandsFor no_check c.in-Ok-new.receiver (no_check _) (made_of c.in-Some.rule channels c.in-Ok.setup) [] []) c.in_ok-width.ensures.channels c.in-Ok-new.ensures.stands;
  no_frame = c.new-in-Ok-new.ensures.frames;
  no_request = c.new-in-Ok-new.ensures.requests;
  whole = c.new-in-Ok-new.ensures.whole;
  none_lent = refl;
}

pub returns-clause-fault : goal.returns-clause-fault
returns-clause-fault c = (
  c.in-Ok.setup,
  record { records = c.in-Ok.ensures.flows; sids = c.in-Ok.ensures.rows },
  subst (λ (w : ℕ × ℕ). IsSetupErrorWithin w.0 w.1 c.in-Ok.setup c.in-Err.error) (λ i. (c.in_ok-width.ensures.channels i, c.in_ok-width.ensures.flows i)) c.in-Err.ensures.fault,
)
