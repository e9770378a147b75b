-- What the replies to the bursts of a capture say of what is admitted.
use Rattle.std.specs.Prelude.{ℕ, ◌==◌, Bool, true, false}
use Rattle.receiver.specs.declared.reply.Reply.{Reply}
use Rattle.receiver.specs.declared.reply.Reply.TheVariants as reply

-- nothing is admitted
abbrev pub admits_nothing : Reply → Bool
admits_nothing (reply.Admitted flow sequence told) = false
admits_nothing _ = true

-- what is admitted, if anything is, is of flow k
abbrev pub admits_of : ℕ → Reply → Bool
admits_of k (reply.Admitted flow sequence told) = flow == k
admits_of k _ = true
