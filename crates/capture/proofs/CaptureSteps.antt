-- What a reader of captures has given, with some bytes more.
use Rattle.std.proofs.Common.{◌≡◌, ℕ, ◌<◌, List, [], ◌∷◌, ◌++◌, length, Option, Some, None, refl, sym, ap, ◌∙◌, arith, append_assoc, length-append}
use Rattle.std.proofs.lemmas.List.{map-append}
use Rattle.capture.specs.declared.pcap.PcapHeader.{PcapHeader}
use Rattle.capture.specs.Pcap.{RecordParts, header_bytes, records_bytes, file_bytes}
use Rattle.capture.specs.PcapReading.{PcapState, HasGiven, Takes, MovesOn}
use Rattle.capture.specs.PcapngBlocks.{CaptureParts}
use Rattle.capture.specs.PcapngReading.{PcapngState, TakesBlocks}
use Rattle.capture.specs.Captures.{captured_record, captured_records, HasCapturedPcap, HasCapturedPcapng}
use Rattle.capture.specs.Inside.Ready.{IsReadyPcap, IsReadyPcapng}
use Rattle.capture.proofs.FieldLists.{same_parts}
use Rattle.capture.proofs.PcapBytes.{length-header_bytes}
use Rattle.capture.proofs.OneReading.{header_bytes-inj}

-- what was taken begins as what came
front_of : (bytes piece used rest : List ℕ) (first : ℕ) (more : List ℕ) → bytes ++ piece ≡ first ∷ more → piece ≡ used ++ rest → MovesOn piece rest
    → (behind : List ℕ) × (bytes ++ used ≡ first ∷ behind)
front_of (b ∷ bytes) piece used rest first more same piece_is moves =
    let one : b ≡ first = cc in
    (bytes ++ used, ap (λ x. x ∷ (bytes ++ used)) one)
front_of [] piece (u ∷ used) rest first more same piece_is moves =
    let one : u ≡ first = cc in
    (used, ap (λ x. x ∷ used) one)
front_of [] piece [] rest first more same piece_is moves =
    let some : 0 < length piece = omega (arith, ap length same) in
    absurd (omega (arith, moves some, ap length piece_is))

-- the records of a pcap file, one after another
captured_records-append : (header : Option PcapHeader) (records others : List RecordParts)
    → captured_records header (records ++ others) ≡ captured_records header records ++ captured_records header others
captured_records-append None records others = refl
captured_records-append (Some header) records others = map-append (captured_record header) records others

-- of no record there is no packet
captured_none : (header : Option PcapHeader) → captured_records header [] ≡ []
captured_none None = refl
captured_none (Some header) = refl

-- a file's header stays known
header_kept : (known known' : Option PcapHeader) (records records' : List RecordParts) (pending pending' bytes used : List ℕ) → HasGiven known records pending bytes
    → HasGiven known' records' pending' (bytes ++ used) → captured_records known records ≡ captured_records known' records
header_kept None known' records records' pending pending' bytes used before after =
    ap (captured_records None) before.none ∙ sym (captured_none known') ∙ sym (ap (captured_records known') before.none)
header_kept (Some header) None records records' pending pending' bytes used before after =
    absurd (omega (
      arith,
      ap length after.all,
      ap length before.spelled,
      length-append bytes used,
      length-append (file_bytes header records) pending,
      length-append (header_bytes header) (records_bytes header.endian records),
      length-header_bytes header,
      after.short,
    ))
header_kept (Some header) (Some other) records records' pending pending' bytes used before after =
    let front = header_bytes header in
    let here : bytes ++ used ≡ front ++ (records_bytes header.endian records ++ (pending ++ used)) =
    ap (λ t. t ++ used) before.spelled ∙ append_assoc (file_bytes header records) pending used ∙ append_assoc front (records_bytes header.endian records) (pending ++ used) in
    let there : bytes ++ used ≡ header_bytes other ++ (records_bytes other.endian records' ++ pending') =
    after.spelled ∙ append_assoc (header_bytes other) (records_bytes other.endian records') pending' in
    let parts = same_parts front (header_bytes other) (records_bytes header.endian records ++ (pending ++ used)) (records_bytes other.endian records' ++ pending')
    (length-header_bytes header ∙ sym (length-header_bytes other)) (sym here ∙ there) in
    ap (λ h. captured_records (Some h) records) (header_bytes-inj header other before.fits after.fits parts.0)

-- of a pcap file records were given
pub takes_pcap : (old new : PcapState) (given : List RecordParts) (piece rest : List ℕ) (takes : Takes old new given piece rest) → MovesOn piece rest
    → (records : List CaptureParts) (bytes : List ℕ) → IsReadyPcap old piece records bytes
    → HasCapturedPcap new (records ++ captured_records new.header given) (bytes ++ takes.goes_on.used)
takes_pcap old new given piece rest takes moves records bytes ready =
    let used = takes.goes_on.used in
    let after = takes.goes_on.stands ready.records bytes ready.stands.1 in
    let begins = front_of bytes piece used rest ready.begins.first ready.begins.more ready.begins.spelled takes.goes_on.piece_is moves in
    record {
      records = ready.records ++ given;
      stands = (takes.no_fault.1, after);
      given_is =
          ap (λ r. r ++ captured_records new.header given)
          (ready.given_is ∙ header_kept old.header new.header ready.records (ready.records ++ given) old.pending new.pending bytes used ready.stands.1 after)
          ∙ sym (captured_records-append new.header ready.records given);
      begins = record { first = ready.begins.first; more = begins.0; spelled = begins.1; other = ready.begins.other };
    }

-- and of a pcapng file
pub takes_pcapng : (old new : PcapngState) (given : List CaptureParts) (piece rest : List ℕ) (takes : TakesBlocks old new given piece rest) → MovesOn piece rest
    → (records : List CaptureParts) (bytes : List ℕ) → IsReadyPcapng old piece records bytes
    → HasCapturedPcapng new (records ++ given) (bytes ++ takes.reads_on.used)
takes_pcapng old new given piece rest takes moves records bytes ready =
    let begins = front_of bytes piece takes.reads_on.used rest 0x0A ready.begins.more ready.begins.spelled takes.reads_on.piece_is moves in
    record {
      read = (takes.no_fault.1, takes.reads_on.reads records bytes ready.read.1);
      begins = record { more = begins.0; spelled = begins.1 };
    }
