-- A record and a section as they were read, without where they lie in memory.
use Rattle.std.specs.Prelude.{List, [], ◌∷◌, Option, Some, None, option_map}
use Rattle.capture.specs.PcapngBlocks.{SectionParts, CaptureParts}
use Rattle.capture.specs.declared.capture_record.CaptureRecord.{CaptureRecord}
use Rattle.capture.specs.declared.pcapng_section.Section.{Section}

abbrev pub capture_parts : CaptureRecord → CaptureParts
capture_parts given = record {
  link_type = given.link_type;
  nanoseconds = given.nanoseconds;
  original = given.original;
  bytes = given.bytes.items;
}

abbrev pub captured_by : Option CaptureRecord → List CaptureParts
captured_by None = []
captured_by (Some given) = capture_parts given ∷ []

abbrev pub section_parts : Section → Option SectionParts
section_parts section = option_map (λ endian. record { endian = endian; interfaces = section.interfaces.items }) section.endian
