-- A whole file of either format, read as a capture.
use Rattle.std.proofs.Common.{◌≡◌, ℕ, ◌+◌, List, [], ◌∷◌, ◌++◌, length, get_or, map, Option, Some, None, refl, sym, ap, ◌∙◌, arith, append_assoc, length-append}
use Rattle.std.specs.List.{AllByRecursion}
use Rattle.std.specs.Int.{w32}
use Rattle.capture.specs.Endian.{number_bytes}
use Rattle.capture.specs.declared.endian.Endian.{Endian}
use Rattle.capture.specs.declared.endian.Endian.TheVariants.{Big, Little}
use Rattle.capture.specs.declared.pcap.Resolution.{Resolution}
use Rattle.capture.specs.declared.pcap.Resolution.TheVariants.{Microseconds, Nanoseconds}
use Rattle.capture.specs.declared.pcap.PcapHeader.{PcapHeader}
use Rattle.capture.specs.declared.pcapng.BlockKind.{BlockKind}
use Rattle.capture.specs.declared.pcapng.BlockKind.TheVariants.{SectionHeader, InterfaceDescription, EnhancedPacket, Other}
use Rattle.capture.specs.declared.capture_reader.CaptureReader.{CaptureReader}
use Rattle.capture.specs.declared.capture_reader.CaptureReader.TheVariants.{Unread, OfPcap, OfPcapng}
use Rattle.capture.specs.Pcap.{RecordParts, IsRecord, FitsHeader, magic_of, header_bytes, records_bytes, file_bytes}
use Rattle.capture.specs.Pcapng.{Block, block_kind, section_header, block_bytes, blocks_bytes, IsBlock}
use Rattle.capture.specs.PcapngBlocks.{SectionParts, CaptureParts, SaysBy, Tell}
use Rattle.capture.specs.Captures.{captured_record, captured_records, BeginsOtherwise, HasCaptured}
use Rattle.capture.proofs.PcapBytes.{length-header_bytes}
use Rattle.capture.proofs.OneReading.{header_bytes-numbers, numbers_of_header, all_given}
use Rattle.capture.proofs.OneBlockReading.{length-block_bytes, kind_number, all_told}

-- no magic number of pcap begins as a pcapng file does
no_pcapng : (e : Endian) (r : Resolution) (rest more : List ℕ) → number_bytes e w32 (magic_of r) ++ rest ≡ 0x0A ∷ more → ⊥
no_pcapng Big Microseconds rest more same = let first : 0xA1 ≡ 0x0A = ap (λ t. get_or t 0 0) same in omega (arith, first)
no_pcapng Big Nanoseconds rest more same = let first : 0xA1 ≡ 0x0A = ap (λ t. get_or t 0 0) same in omega (arith, first)
no_pcapng Little Microseconds rest more same = let first : 0xD4 ≡ 0x0A = ap (λ t. get_or t 0 0) same in omega (arith, first)
no_pcapng Little Nanoseconds rest more same = let first : 0x4D ≡ 0x0A = ap (λ t. get_or t 0 0) same in omega (arith, first)

-- a section header begins as one does
first_byte : (e : Endian) (rest more : List ℕ) (first : ℕ) → number_bytes e w32 section_header ++ rest ≡ first ∷ more → first ≡ 0x0A
first_byte Big rest more first same = sym (ap (λ t. get_or t 0 0) same)
first_byte Little rest more first same = sym (ap (λ t. get_or t 0 0) same)

-- the first block of a file is a section header
pub first_kind : (kind : BlockKind) (block : Block) (after : SectionParts) (given : List CaptureParts) → SaysBy kind None block after given → kind ≡ SectionHeader
first_kind SectionHeader block after given says = refl
first_kind InterfaceDescription block after given says = let none = says.before_is in absurd (cc)
first_kind EnhancedPacket block after given says = let none = says.before_is in absurd (cc)
first_kind Other block after given says = let none = says.before_is in absurd (cc)

-- blocks of a file begin as a pcapng file does
blocks_begin : (blocks : List Block) (section : Option SectionParts) (records : List CaptureParts) → Tell None blocks section records → BeginsOtherwise (blocks_bytes blocks) → ⊥
blocks_begin [] section records told begins = omega (arith, ap length begins.spelled)
blocks_begin (block ∷ blocks) section records told begins =
    let e = block.endian in
    let total = length block.body + 12 in
    let number : block.number ≡ section_header = kind_number block.number (first_kind (block_kind block.number) block told.0 told.1 told.3) in
    let rest = number_bytes e w32 total ++ (block.body ++ (number_bytes e w32 total ++ blocks_bytes blocks)) in
    let front : number_bytes e w32 block.number ++ rest ≡ begins.first ∷ begins.more = sym (simp append_assoc) ∙ begins.spelled in
    begins.other (first_byte e rest begins.more begins.first (ap (λ n. number_bytes e w32 n ++ rest) (sym number) ∙ front))

pub pcap_given : (reader : CaptureReader) (header : PcapHeader) (records : List RecordParts) (given : List CaptureParts) → FitsHeader header
    → AllByRecursion IsRecord records → HasCaptured reader given (file_bytes header records) → given ≡ map (captured_record header) records
unfolding numbers_of_header
pcap_given Unread header records given fits each before =
    absurd (omega (arith, ap length before.1, length-append (header_bytes header) (records_bytes header.endian records), length-header_bytes header))
pcap_given (OfPcap state) header records given fits each before =
    let all = all_given state header records before.records fits each before.stands in
    before.given_is ∙ ap (λ h. captured_records h before.records) all.1 ∙ ap (λ r. captured_records (Some header) r) all.0
pcap_given (OfPcapng state) header records given fits each before =
    let word = number_bytes header.endian w32 (magic_of header.resolution) in
    let numbers = numbers_of_header header.endian header in
    absurd (no_pcapng header.endian header.resolution (numbers ++ records_bytes header.endian records) before.begins.more
    (sym (append_assoc word numbers (records_bytes header.endian records)) ∙ ap (λ t. t ++ records_bytes header.endian records) (sym (header_bytes-numbers header)) ∙ before.begins.spelled))

pub pcapng_given : (reader : CaptureReader) (blocks : List Block) (section : Option SectionParts) (records given : List CaptureParts) → AllByRecursion IsBlock blocks
    → Tell None blocks section records → HasCaptured reader given (blocks_bytes blocks) → given ≡ records
pcapng_given Unread [] section records given lawful told before = before.0 ∙ sym told.1
pcapng_given Unread (block ∷ blocks) section records given lawful told before =
    absurd (omega (arith, ap length before.1, length-append (block_bytes block) (blocks_bytes blocks), length-block_bytes block))
pcapng_given (OfPcap state) blocks section records given lawful told before = absurd (blocks_begin blocks section records told before.begins)
pcapng_given (OfPcapng state) blocks section records given lawful told before = (all_told state blocks section records given lawful told before.read).0
