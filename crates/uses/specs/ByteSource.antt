-- What a source that reads its inputs from bytes has read.
use Rattle.std.specs.Prelude.{◌≡◌, ℕ, Option, List, ◌++◌, IfSome, IfNone, OnOk}
use Rattle.std.specs.Io.KnownBytes.{Consumes}
use Rattle.workers.specs.declared.channel_input.ChannelInput.{ChannelInput}
use Rattle.uses.specs.declared.byte_source.ByteSource.{ByteSource}
use Rattle.uses.specs.InputForms.{forms_of}

-- What the source had of bytes began, where those are known, with the forms of the inputs that it
-- gave. As long as it hasn't ended it has read these and nothing else; and where it ended without a
-- fault, there were no others.
pub record HasRead {R : Type 0} (remaining : R → Option (List ℕ)) (start : ByteSource R) (inputs : List ChannelInput) (now : ByteSource R) : Type 0 where
  pub begun : IfSome (remaining start.reader) (λ bytes. (rest : List ℕ) × (bytes ≡ forms_of inputs ++ rest))
  pub read : IfNone now.ended (Consumes (remaining start.reader) (remaining now.reader) (forms_of inputs))
  pub whole : IfSome now.ended (λ end. OnOk end (IfSome (remaining start.reader) (λ bytes. bytes ≡ forms_of inputs)))
