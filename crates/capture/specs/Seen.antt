-- A TLV and a value that were read, without where they lie in memory.
use Rattle.std.specs.Prelude.{ℕ, List, Option, option_map}
use Rattle.std.specs.Borrow.{Bor}
use Rattle.capture.specs.Fields.{Field}
use Rattle.capture.specs.declared.tlv.Tlv.{Tlv}

abbrev pub field : Tlv → Field
field tlv = record { kind = tlv.kind; value = tlv.value.now }

abbrev pub value_seen : Option (Bor (List ℕ)) → Option (List ℕ)
value_seen value = option_map (λ bytes. bytes.now) value
