-- What the mailboxes have given, once all is settled.
use Rattle.std.proofs.Common.{◌≡◌, ℕ, zero, suc, Bool, true, ◌<◌, List, ◌++◌, slice_index_or, ap, sym, ◌∙◌, arith}
use Rattle.std.proofs.lemmas.List.{append-nil}
use Rattle.mailbox.specs.Mouths.{ended}
use Rattle.mailbox.specs.Mouths as mouths
use Rattle.mailbox.specs.Ports.{closed_posted}
use Rattle.mailbox.specs.Settling.{Leaves}
use Rattle.mailbox.specs.declared.mouth.Mouth.{Mouth}
use Rattle.mailbox.specs.declared.settling.ClosedPorts.{ClosedPorts}
use Rattle.lane.specs.Limits.{senders}
use Rattle.uplink.specs.Inside.Running.{all_posted}

module _ {T : Type 0} where
  -- all that a sender posted was taken, where its end mark was
  pub all_taken : {posted taken : List T} {ended : Bool} {left : ℕ} → Leaves posted taken ended left → ended ≡ true → taken ≡ posted
  all_taken {posted} {taken} leaves is_ended =
      sym (leaves.whole ∙ ap (λ l. taken ++ l) (leaves.none is_ended) ∙ append-nil taken)

  -- all that was posted was taken, where all end marks were
  pub all_settled : (ports : ClosedPorts T) (mouth : Mouth T) → ((k : ℕ) → k < senders → ended mouth k ≡ true) → (left : List ℕ)
      → Leaves (closed_posted ports.p0) (mouths.taken mouth 0) (ended mouth 0) (slice_index_or left 0 0)
      → Leaves (closed_posted ports.p1) (mouths.taken mouth 1) (ended mouth 1) (slice_index_or left 1 0)
      → Leaves (closed_posted ports.p2) (mouths.taken mouth 2) (ended mouth 2) (slice_index_or left 2 0)
      → Leaves (closed_posted ports.p3) (mouths.taken mouth 3) (ended mouth 3) (slice_index_or left 3 0)
      → Leaves (closed_posted ports.p4) (mouths.taken mouth 4) (ended mouth 4) (slice_index_or left 4 0)
      → (sender : ℕ) → sender < senders → mouths.taken mouth sender ≡ all_posted ports sender
  all_settled ports mouth ends left p0 p1 p2 p3 p4 zero named = all_taken p0 (ends 0 named)
  all_settled ports mouth ends left p0 p1 p2 p3 p4 (suc zero) named = all_taken p1 (ends 1 named)
  all_settled ports mouth ends left p0 p1 p2 p3 p4 (suc (suc zero)) named = all_taken p2 (ends 2 named)
  all_settled ports mouth ends left p0 p1 p2 p3 p4 (suc (suc (suc zero))) named = all_taken p3 (ends 3 named)
  all_settled ports mouth ends left p0 p1 p2 p3 p4 (suc (suc (suc (suc zero)))) named = all_taken p4 (ends 4 named)
  all_settled ports mouth ends left p0 p1 p2 p3 p4 (suc (suc (suc (suc (suc sender))))) named = absurd (omega arith)
