-- A record that was given, without where it lies in memory.
use Rattle.std.specs.Prelude.{List, [], ◌∷◌, Option, Some, None}
use Rattle.capture.specs.Pcap.{RecordParts}
use Rattle.capture.specs.declared.record.Record.{Record}

abbrev pub record_parts : Record → RecordParts
record_parts given = record { head = given.head; bytes = given.bytes.items }

abbrev pub given_by : Option Record → List RecordParts
given_by None = []
given_by (Some given) = record_parts given ∷ []
