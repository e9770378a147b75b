-- The lines and the exit statuses of faults.
use Rattle.std.specs.Prelude.{ℕ, List, [], ◌∷◌, ◌++◌, codes, Result, Ok, Err}
use Rattle.std.specs.Fmt.{decimal}
use Rattle.text_lines.specs.Kinds.{kind_text}
use Rattle.command_line.specs.declared.command.UsageFault.{UsageFault}
use Rattle.command_line.specs.declared.command.UsageFault.TheVariants as usage
use Rattle.engines.specs.declared.fault.EngineFault.{EngineFault}
use Rattle.engines.specs.declared.fault.EngineFault.TheVariants.{Trace, Cut, Capture, OutOfMemory, Read, Write, Usage}
use Rattle.docsis_wire.specs.declared.pieces.CutFault.{CutFault}
use Rattle.docsis_wire.specs.declared.pieces.CutFault.TheVariants as cut_fault
use Rattle.capture.specs.declared.pcap_fault.PcapFault.{PcapFault}
use Rattle.capture.specs.declared.pcap_fault.PcapFault.TheVariants as pcap
use Rattle.capture.specs.declared.pcapng_fault.PcapngFault.{PcapngFault}
use Rattle.capture.specs.declared.pcapng_fault.PcapngFault.TheVariants as pcapng
use Rattle.capture.specs.declared.capture_fault.CaptureFault.{CaptureFault}
use Rattle.capture.specs.declared.capture_fault.CaptureFault.TheVariants as capture

-- what the program reports where it could not read its arguments
abbrev pub usage_fault : UsageFault → EngineFault
usage_fault usage.Usage = Usage
usage_fault usage.OutOfMemory = OutOfMemory

-- what is reported of a capture that has this fault behind so many records
abbrev pub fault_of_capture : CaptureFault → ℕ → EngineFault
fault_of_capture (capture.Pcap pcap.OutOfMemory) records = OutOfMemory
fault_of_capture (capture.Pcapng pcapng.OutOfMemory) records = OutOfMemory
fault_of_capture fault records = Capture (record { records = records; fault = fault })

-- the words for a fault of a capture
abbrev pub pcap_text : PcapFault → List ℕ
pcap_text pcap.NotPcap = codes "not a pcap file"
pcap_text pcap.RecordTooLong = codes "a record of more than 1 MiB"
pcap_text pcap.EndsInside = codes "the file ends within a record"
pcap_text pcap.OutOfMemory = codes "out of memory"

abbrev pub pcapng_text : PcapngFault → List ℕ
pcapng_text pcapng.NoSectionHeader = codes "not a pcapng file"
pcapng_text pcapng.BadByteOrder = codes "a section of no byte order"
pcapng_text pcapng.BadBlockLength = codes "a block of a wrong length"
pcapng_text pcapng.BlockTooLong = codes "a block of more than 2 MiB"
pcapng_text pcapng.LengthsDiffer = codes "a block whose two lengths differ"
pcapng_text pcapng.UnsupportedVersion = codes "a section of an unsupported version"
pcapng_text pcapng.TooManyInterfaces = codes "a section with too many interfaces"
pcapng_text pcapng.BadInterface = codes "an interface with a malformed option"
pcapng_text pcapng.UnknownInterface = codes "a packet of an unknown interface"
pcapng_text pcapng.RecordTooLong = codes "a record of more than 1 MiB"
pcapng_text pcapng.PacketOverruns = codes "a packet that overruns its block"
pcapng_text pcapng.EndsInside = codes "the file ends within a block"
pcapng_text pcapng.OutOfMemory = codes "out of memory"

abbrev pub capture_text : CaptureFault → List ℕ
capture_text capture.NoCapture = codes "neither a pcap nor a pcapng file"
capture_text (capture.Pcap fault) = pcap_text fault
capture_text (capture.Pcapng fault) = pcapng_text fault

-- the words for a fault of a cut
abbrev pub cut_fault_text : CutFault → List ℕ
cut_fault_text (cut_fault.BadFrame k) = codes "frame " ++ decimal k ++ codes " is not a frame"
cut_fault_text (cut_fault.FillInsideFrame k) = codes "piece " ++ decimal k ++ codes " has fill inside a frame"
cut_fault_text (cut_fault.PointerTooFar k) = codes "piece " ++ decimal k ++ codes " has a pointer past 16383"
cut_fault_text cut_fault.OutOfMemory = codes "out of memory"

-- what follows the program's name in a fault's line
abbrev pub fault_text : EngineFault → List ℕ
fault_text (Trace fault) = codes "line " ++ decimal fault.line ++ codes ": " ++ kind_text fault.kind
fault_text (Cut fault) = cut_fault_text fault
fault_text (Capture fault) = codes "after " ++ decimal fault.records ++ codes " records: " ++ capture_text fault.fault
fault_text OutOfMemory = codes "out of memory"
fault_text Read = codes "read failed"
fault_text Write = codes "write failed"
fault_text Usage = codes "usage"

-- a fault's line, with its line feed
abbrev pub fault_line : EngineFault → List ℕ
fault_line fault = codes "segrx: " ++ fault_text fault ++ 10 ∷ []

-- the exit status of a fault
abbrev pub status_of : EngineFault → ℕ
status_of (Trace fault) = 1
status_of (Cut (cut_fault.BadFrame k)) = 1
status_of (Cut (cut_fault.FillInsideFrame k)) = 1
status_of (Cut (cut_fault.PointerTooFar k)) = 1
status_of (Cut cut_fault.OutOfMemory) = 3
status_of (Capture fault) = 1
status_of Usage = 2
status_of OutOfMemory = 3
status_of Read = 4
status_of Write = 4

-- the exit status of an outcome
abbrev pub exit_status_of : Result (Unit {0}) EngineFault → ℕ
exit_status_of (Ok done) = 0
exit_status_of (Err fault) = status_of fault
