-- Bytes of a capture that are read one after another.
use Rattle.std.proofs.Common.{◌≡◌, ℕ, List, [], ◌++◌, Option, Result, Ok, Err, refl, sym, ap, subst, ◌∙◌, append-nil, append_assoc}
use Rattle.std.specs.Prelude.{OnOk, IfErr, MatchResult}
use Rattle.std.specs.Io.KnownBytes.{Appends}
use Rattle.capture.specs.PcapngBlocks.{CaptureParts}
use Rattle.capture.specs.Captures.{HasCaptured, HasCaptureFault, TakesCapture}
use Rattle.capture.specs.declared.capture_fault.CaptureFault.{CaptureFault}
use Rattle.capture.specs.declared.capture_fault.CaptureFault.TheVariants.{NoCapture, Pcap, Pcapng}
use Rattle.capture.specs.declared.pcap_fault.PcapFault.TheVariants as pcap
use Rattle.capture.specs.declared.pcapng_fault.PcapngFault.TheVariants as pcapng
use Rattle.capture_map.specs.declared.map.CaptureMap.{CaptureMap}
use Rattle.captured_flows.specs.Capturing.{views_in}
use Rattle.captured_flows.specs.declared.captured_burst.CapturedBurst.{CapturedBurst}
use Rattle.engines.specs.declared.fault.EngineFault.{EngineFault}
use Rattle.engines.specs.declared.device.Device.{Device}
use Rattle.engines.specs.declared.fault.EngineFault.TheVariants.{Trace, Cut, Capture, OutOfMemory, Read, Write, Usage}
use Rattle.engines.specs.Device.{inner_of, has_failed}
use Rattle.engines.specs.Transfer.{IsLeftFlushed}
use Rattle.engines.specs.Fault.{fault_of_capture}
use Rattle.frame_engine.specs.declared.settings.CaptureSettings.{CaptureSettings}
use Rattle.frame_engine.specs.declared.joining.Joining.{Joining}
use Rattle.frame_engine.specs.declared.frame_reading.FrameReading.{FrameReading}
use Rattle.frame_engine.specs.Records.{counted}
use Rattle.frame_engine.specs.Joined.{IsFileOf, AreFramesSoFar, IsJoinedSoFar}
use Rattle.frame_engine.specs.Joining.{IsBehindThem}
use Rattle.frame_engine.specs.Inside.Joins.{KeepsFile, HasTaken, HasJoined, HasReadBytes, IsFileTill, JoinsSome, JoinsPiece, IsJoinFault, IsJoinFaultOr, CannotJoin, WritesTill, WritesAll}
use Rattle.frame_engine.proofs.Filed.{filed-file, filed-written}

-- nothing of a piece was read
pub some-none : (now : FrameReading) (piece : List ℕ) → JoinsSome now piece piece now
some-none now piece settings capture_map bytes written has =
    ([], refl, subst (λ (all : List ℕ). HasReadBytes settings capture_map all written now) (sym (append-nil bytes)) has)

-- and then more of it
pub some-more : (first now next : FrameReading) (piece rest left : List ℕ) → JoinsSome first piece rest now → JoinsSome now rest left next → JoinsSome first piece left next
some-more first now next piece rest left so_far more settings capture_map bytes written has =
    let before = so_far settings capture_map bytes written has in
    let after = more settings capture_map (bytes ++ before.0) written before.2 in (
      before.0 ++ after.0,
      before.1 ∙ ap (λ (t : List ℕ). before.0 ++ t) after.1 ∙ sym (append_assoc before.0 after.0 left),
      subst (λ (all : List ℕ). HasReadBytes settings capture_map all written next) (append_assoc bytes before.0 after.0) after.2,
    )

-- all of it
pub some-all : (first now : FrameReading) (piece rest : List ℕ) → JoinsSome first piece rest now → rest ≡ [] → JoinsPiece first piece now
some-all first now piece rest so_far none settings capture_map bytes written has =
    let before = so_far settings capture_map bytes written has in
    subst (λ (all : List ℕ). HasReadBytes settings capture_map (bytes ++ all) written now) (sym (before.1 ∙ ap (λ (t : List ℕ). before.0 ++ t) none ∙ append-nil before.0)) before.2

-- or a fault in it
pub some-fault : (first now next : FrameReading) (piece rest : List ℕ) (fault : EngineFault) → JoinsSome first piece rest now → CannotJoin now rest next fault → CannotJoin first piece next fault
some-fault first now next piece rest fault so_far cannot settings capture_map bytes written has =
    let before = so_far settings capture_map bytes written has in
    subst
    (λ (all : List ℕ). IsFileTill settings capture_map all fault (written ++ next.joining.file.bytes.items) × IsJoinFault all fault)
    (append_assoc bytes before.0 rest ∙ ap (λ (t : List ℕ). bytes ++ t) (sym before.1)) (cannot settings capture_map (bytes ++ before.0) written before.2)

module _ (settings : CaptureSettings) (capture_map : CaptureMap) where
  -- what is in the file is that of the bursts
  pub frames-so_far : (bursts : List CapturedBurst) (written : List ℕ) (joining : Joining) (text : List ℕ) → HasTaken settings capture_map bursts written joining
      → text ≡ written ++ joining.file.bytes.items → AreFramesSoFar settings capture_map bursts text
  frames-so_far bursts written joining text has is = record {
    handed = has.handed;
    flows = views_in joining.flows;
    steps = has.steps;
    comes = has.comes;
    file =
        subst (λ (t : List ℕ). IsFileOf settings capture_map has.steps t) (sym is)
        (filed-file settings capture_map has.steps written joining.timed joining.file has.filed);
  }

  -- and so of the records
  pub joined-file : (records : List CaptureParts) (written : List ℕ) (joining : Joining) → HasJoined settings capture_map records written joining
      → IsJoinedSoFar settings capture_map records (written ++ joining.file.bytes.items)
  joined-file records written joining has = record {
    bursts = has.bursts;
    are = has.are;
    frames = frames-so_far has.bursts written joining (written ++ joining.file.bytes.items) has.taken_in refl;
  }

  -- where it was written
  pub joined-written : (records : List CaptureParts) (written : List ℕ) (old new : Joining) → HasJoined settings capture_map records written old
      → new ≡ record old { file = new.file } → new.file.link ≡ old.file.link → new.file.channels ≡ old.file.channels → new.file.bytes.items ≡ []
      → HasJoined settings capture_map records (written ++ old.file.bytes.items) new
  joined-written records written old new has is link channels none =
      subst (λ (joining : Joining). HasJoined settings capture_map records (written ++ old.file.bytes.items) joining) (sym is) (record {
        bursts = has.bursts;
        are = has.are;
        taken_in = record {
          handed = has.taken_in.handed;
          steps = has.taken_in.steps;
          comes = has.taken_in.comes;
          stands = has.taken_in.stands;
          map_is = has.taken_in.map_is;
          waits_are = has.taken_in.waits_are;
          selected_are = has.taken_in.selected_are;
          filed = filed-written settings capture_map has.taken_in.steps written old.timed old.file new.file has.taken_in.filed link channels none;
        };
        count = has.count;
      })

  -- the records of a front, with what is in the file, whatever fault comes
  pub till-here : (bytes rest written : List ℕ) (fault : EngineFault) (reading : FrameReading) (text : List ℕ) (has : HasReadBytes settings capture_map bytes written reading)
      → IsBehindThem has.records rest fault → text ≡ written ++ reading.joining.file.bytes.items → IsFileTill settings capture_map (bytes ++ rest) fault text
  till-here bytes rest written fault reading text has behind is = record {
    records = has.records;
    rest = rest;
    are = record { reader = reading.reader; front = bytes; captured = has.captured; are = refl };
    behind = behind;
    joined = subst (λ (t : List ℕ). IsJoinedSoFar settings capture_map has.records t) (sym is) (joined-file has.records written reading.joining has.joined);
  }

-- what is reported of a fault behind so many records
reported : (records : List CaptureParts) (bytes rest : List ℕ) (n : ℕ) (fault : CaptureFault) → n ≡ counted records → HasCaptureFault records bytes fault
    → IsBehindThem records rest (fault_of_capture fault n) × IsJoinFault bytes (fault_of_capture fault n)
reported records bytes rest n NoCapture count is = (count, (records, is, count))
reported records bytes rest n (Pcap pcap.NotPcap) count is = (count, (records, is, count))
reported records bytes rest n (Pcap pcap.RecordTooLong) count is = (count, (records, is, count))
reported records bytes rest n (Pcap pcap.EndsInside) count is = (count, (records, is, count))
reported records bytes rest n (Pcap pcap.OutOfMemory) count is = (tt, tt)
reported records bytes rest n (Pcapng pcapng.NoSectionHeader) count is = (count, (records, is, count))
reported records bytes rest n (Pcapng pcapng.BadByteOrder) count is = (count, (records, is, count))
reported records bytes rest n (Pcapng pcapng.BadBlockLength) count is = (count, (records, is, count))
reported records bytes rest n (Pcapng pcapng.BlockTooLong) count is = (count, (records, is, count))
reported records bytes rest n (Pcapng pcapng.LengthsDiffer) count is = (count, (records, is, count))
reported records bytes rest n (Pcapng pcapng.UnsupportedVersion) count is = (count, (records, is, count))
reported records bytes rest n (Pcapng pcapng.TooManyInterfaces) count is = (count, (records, is, count))
reported records bytes rest n (Pcapng pcapng.BadInterface) count is = (count, (records, is, count))
reported records bytes rest n (Pcapng pcapng.UnknownInterface) count is = (count, (records, is, count))
reported records bytes rest n (Pcapng pcapng.RecordTooLong) count is = (count, (records, is, count))
reported records bytes rest n (Pcapng pcapng.PacketOverruns) count is = (count, (records, is, count))
reported records bytes rest n (Pcapng pcapng.EndsInside) count is = (count, (records, is, count))
reported records bytes rest n (Pcapng pcapng.OutOfMemory) count is = (tt, tt)

-- a capture's fault, behind the records so far
pub cannot-read : (old new : FrameReading) (piece : List ℕ) (fault : CaptureFault)
    → ((records : List CaptureParts) (bytes : List ℕ) → HasCaptured old.reader records bytes → HasCaptureFault records (bytes ++ piece) fault)
    → new.joining ≡ old.joining → CannotJoin old piece new (fault_of_capture fault old.joining.records)
cannot-read old new piece fault is same settings capture_map bytes written has =
    let said = reported has.records (bytes ++ piece) piece old.joining.records fault has.joined.count (is has.records bytes has.captured) in (
      till-here settings capture_map bytes piece written (fault_of_capture fault old.joining.records) old (written ++ new.joining.file.bytes.items) has said.0
          (ap (λ (joining : Joining). written ++ joining.file.bytes.items) same),
      said.1,
    )

-- an allocation failed for a record
pub cannot-take : (old new : FrameReading) (piece : List ℕ) → KeepsFile old.joining.file new.joining.file → CannotJoin old piece new OutOfMemory
cannot-take old new piece kept settings capture_map bytes written has = (
  till-here settings capture_map bytes piece written OutOfMemory old (written ++ new.joining.file.bytes.items) has tt
      (ap (λ (items : List ℕ). written ++ items) kept.bytes),
  tt,
)

-- bytes of a record, or of none
pub joins-record : (old new : FrameReading) (piece rest : List ℕ) (given : List CaptureParts) → TakesCapture old.reader new.reader given piece rest
    → ((settings : CaptureSettings) (capture_map : CaptureMap) (records : List CaptureParts) (written : List ℕ)
    → HasJoined settings capture_map records written old.joining → HasJoined settings capture_map (records ++ given) written new.joining)
    → JoinsSome old piece rest new
joins-record old new piece rest given captures takes settings capture_map bytes written has = (
  captures.used,
  captures.piece_is,
  record {
    records = has.records ++ given;
    captured = captures.captures has.records bytes has.captured;
    joined = takes settings capture_map has.records written has.joined;
  },
)

-- ---- pieces that were written

module _ {W : Type 0} (contents : W → Option (List ℕ)) (settings : CaptureSettings) (capture_map : CaptureMap) where
  -- a piece was read or not, and the writer failed
  pub piece-unwritten : (old mid : FrameReading) (piece : List ℕ) (taken : Result (Unit {0}) EngineFault) (bytes written : List ℕ)
      → OnOk taken (JoinsPiece old piece mid) → IfErr taken (CannotJoin old piece mid) → HasReadBytes settings capture_map bytes written old
      → IsFileTill settings capture_map (bytes ++ piece) Write (written ++ mid.joining.file.bytes.items)
  piece-unwritten old mid piece (Ok done) bytes written joins cannot has =
      subst (λ (all : List ℕ). IsFileTill settings capture_map all Write (written ++ mid.joining.file.bytes.items)) (append-nil (bytes ++ piece))
      (till-here settings capture_map (bytes ++ piece) [] written Write mid (written ++ mid.joining.file.bytes.items) (joins settings capture_map bytes written has) tt refl)
  piece-unwritten old mid piece (Err fault) bytes written joins cannot has =
      let till = (cannot settings capture_map bytes written has).0 in
      record { records = till.records; rest = till.rest; are = till.are; behind = tt; joined = till.joined }

  -- why it wasn't read, where it was written
  fault_written : (bytes more : List ℕ) (writer writer' : Device W) (fault : EngineFault) → IsJoinFault bytes fault → WritesAll contents writer writer' more
      → IsJoinFaultOr bytes fault × WritesTill contents writer writer' more fault
  fault_written bytes more writer writer' (Capture fault) is wrote = (is, wrote)
  fault_written bytes more writer writer' OutOfMemory is wrote = (is, wrote)
  fault_written bytes more writer writer' (Trace fault) is wrote = absurd is
  fault_written bytes more writer writer' (Cut fault) is wrote = absurd is
  fault_written bytes more writer writer' Read is wrote = absurd is
  fault_written bytes more writer writer' Write is wrote = absurd is
  fault_written bytes more writer writer' Usage is wrote = absurd is

  -- a piece was read or not, and what came of it was written
  pub piece-written : (old mid new : FrameReading) (piece : List ℕ) (taken : Result (Unit {0}) EngineFault) (bytes written : List ℕ) (writer writer' : Device W)
      → OnOk taken (JoinsPiece old piece mid) → IfErr taken (CannotJoin old piece mid) → HasReadBytes settings capture_map bytes written old
      → new ≡ record mid { joining = record mid.joining { file = new.joining.file } } → new.joining.file.link ≡ mid.joining.file.link
      → new.joining.file.channels ≡ mid.joining.file.channels → new.joining.file.bytes.items ≡ []
      → WritesAll contents writer writer' mid.joining.file.bytes.items
      → MatchResult taken
      (λ _. HasReadBytes settings capture_map (bytes ++ piece) (written ++ mid.joining.file.bytes.items) new
      × Appends (contents (inner_of writer)) (contents (inner_of writer')) mid.joining.file.bytes.items × IsLeftFlushed writer writer' × (has_failed writer' ≡ has_failed writer))
      (λ fault. IsFileTill settings capture_map (bytes ++ piece) fault (written ++ mid.joining.file.bytes.items) × IsJoinFaultOr (bytes ++ piece) fault
      × WritesTill contents writer writer' mid.joining.file.bytes.items fault)
  piece-written old mid new piece (Ok done) bytes written writer writer' joins cannot has is link channels none wrote =
      let after = joins settings capture_map bytes written has in (
        subst (λ (reading : FrameReading). HasReadBytes settings capture_map (bytes ++ piece) (written ++ mid.joining.file.bytes.items) reading) (sym is) (record {
          records = after.records;
          captured = after.captured;
          joined =
              joined-written settings capture_map after.records written mid.joining (record mid.joining { file = new.joining.file }) after.joined refl link channels none;
        }),
        wrote.0,
        wrote.1,
        wrote.2,
      )
  piece-written old mid new piece (Err fault) bytes written writer writer' joins cannot has is link channels none wrote =
      let till = cannot settings capture_map bytes written has in
      let why = fault_written (bytes ++ piece) mid.joining.file.bytes.items writer writer' fault till.1 wrote in (till.0, why.0, why.1)

module _ (settings : CaptureSettings) (capture_map : CaptureMap) where
  -- what was in the file was written
  pub bytes-written : (bytes written : List ℕ) (old new : FrameReading) → HasReadBytes settings capture_map bytes written old
      → new ≡ record old { joining = record old.joining { file = new.joining.file } } → new.joining.file.link ≡ old.joining.file.link
      → new.joining.file.channels ≡ old.joining.file.channels → new.joining.file.bytes.items ≡ []
      → HasReadBytes settings capture_map bytes (written ++ old.joining.file.bytes.items) new
  bytes-written bytes written old new has is link channels none =
      subst (λ (reading : FrameReading). HasReadBytes settings capture_map bytes (written ++ old.joining.file.bytes.items) reading) (sym is) (record {
        records = has.records;
        captured = has.captured;
        joined = joined-written settings capture_map has.records written old.joining (record old.joining { file = new.joining.file }) has.joined refl link channels none;
      })
