-- The end of a capture was joined and written, or not.
use Rattle.std.proofs.Common.{◌≡◌, ℕ, ◌⊎◌, inl, inr, Option, List, [], ◌++◌, Result, Ok, Err, refl, sym, ap, subst, ◌∙◌, append-nil, append_assoc}
use Rattle.std.specs.Prelude.{OnOk, OnErr, IfErr, MatchResult}
use Rattle.std.proofs.KnownBytes.{Appends-nil, Appends-trans}
use Rattle.capture.specs.Captures.{IsWholeCapture}
use Rattle.capture.specs.declared.capture_fault.CaptureFault.{CaptureFault}
use Rattle.capture.specs.declared.capture_fault.CaptureFault.TheVariants.{NoCapture, Pcap, Pcapng}
use Rattle.capture.specs.declared.pcap_fault.PcapFault.TheVariants as pcap
use Rattle.capture.specs.declared.pcapng_fault.PcapngFault.TheVariants as pcapng
use Rattle.capture_map.specs.declared.map.CaptureMap.{CaptureMap}
use Rattle.captured_flows.specs.declared.captured_burst.CapturedBurst.{CapturedBurst}
use Rattle.engines.specs.declared.device.Device.{Device}
use Rattle.engines.specs.declared.fault.EngineFault.{EngineFault}
use Rattle.engines.specs.declared.fault.EngineFault.TheVariants.{Trace, Cut, Capture, OutOfMemory, Read, Write, Usage}
use Rattle.engines.specs.Device.{inner_of}
use Rattle.engines.specs.Fault.{fault_of_capture}
use Rattle.engines.proofs.FollowedDevices.{flushed_then}
use Rattle.engines.proofs.WrittenText.{AppendsFront-behind}
use Rattle.frame_engine.specs.declared.settings.CaptureSettings.{CaptureSettings}
use Rattle.frame_engine.specs.declared.frame_file.FrameFile.{FrameFile}
use Rattle.frame_engine.specs.declared.joining.Joining.{Joining}
use Rattle.frame_engine.specs.declared.frame_reading.FrameReading.{FrameReading}
use Rattle.frame_engine.specs.Joined.{AreFramesSoFar, AreFramesAtEnd, AreAllFrames, IsJoinedBy, IsJoinedFile}
use Rattle.frame_engine.specs.Joining.{AreInFront, IsJoinedTill, so_far, to_end}
use Rattle.frame_engine.specs.Inside.Joins.{KeepsFile, HasEnded, HasReadBytes, ClosesJoining, WritesAll, WritesSome, ClosesBy, EndsBursts, WritesAllFrames, EndsBy}
use Rattle.frame_engine.proofs.Taken.{ended-frames}
use Rattle.frame_engine.proofs.Reading.{joined-file}

-- nothing was written
pub wrote-nothing : {W : Type 0} (contents : W → Option (List ℕ)) (writer : Device W) → WritesAll contents writer writer []
wrote-nothing contents writer = (Appends-nil (contents (inner_of writer)), inl refl, refl)

-- one text, and another
pub wrote-both : {W : Type 0} (contents : W → Option (List ℕ)) (a b c : Device W) (first later : List ℕ) → WritesAll contents a b first → WritesAll contents b c later
    → WritesAll contents a c (first ++ later)
wrote-both contents a b c first later before after = (
  Appends-trans (contents (inner_of a)) (contents (inner_of b)) (contents (inner_of c)) first later before.0 after.0,
  flushed_then a b c before.1 after.1,
  after.2 ∙ before.2,
)

wrote-some : {W : Type 0} (contents : W → Option (List ℕ)) (a b c : Device W) (first later : List ℕ) → WritesAll contents a b first → WritesSome contents b c later
    → WritesSome contents a c (first ++ later)
wrote-some contents a b c first later before after =
    (AppendsFront-behind (contents (inner_of a)) (contents (inner_of b)) (contents (inner_of c)) first later before.0 after.0, after.1)

module _ (settings : CaptureSettings) (capture_map : CaptureMap) where
  -- the receiver was closed or not: what is in the file then
  pub closed-or_ended : (bursts : List CapturedBurst) (written : List ℕ) (joining : Joining) (file : FrameFile) (closed : Result (Unit {0}) EngineFault)
      → OnOk closed (ClosesJoining joining file) → OnErr closed (KeepsFile joining.file file) → HasEnded settings capture_map bursts written joining
      → AreAllFrames settings capture_map bursts (written ++ file.bytes.items) ⊎ AreFramesAtEnd settings capture_map bursts (written ++ file.bytes.items)
  closed-or_ended bursts written joining file (Ok done) closes keeps has = inl (closes settings capture_map bursts written has)
  closed-or_ended bursts written joining file (Err fault) closes keeps has =
      inr (ended-frames settings capture_map bursts written joining (written ++ file.bytes.items) has (ap (λ (items : List ℕ). written ++ items) keeps.bytes))

  module _ {W : Type 0} (contents : W → Option (List ℕ)) where
    -- and where that was written
    pub closed-written : (bursts : List CapturedBurst) (written : List ℕ) (joining : Joining) (file : FrameFile) (closed : Result (Unit {0}) EngineFault) (writer writer' : Device W)
        → OnOk closed (ClosesJoining joining file) → OnErr closed (KeepsFile joining.file file) → IfErr closed (λ fault. fault ≡ OutOfMemory)
        → HasEnded settings capture_map bursts written joining → WritesAll contents writer writer' file.bytes.items
        → MatchResult closed (λ _. WritesAllFrames contents settings capture_map bursts written writer writer') (λ fault. ClosesBy contents settings capture_map bursts written writer writer' fault)
    closed-written bursts written joining file (Ok done) writer writer' closes keeps only has wrote =
        (file.bytes.items, closes settings capture_map bursts written has, wrote)
    closed-written bursts written joining file (Err fault) writer writer' closes keeps only has wrote =
        subst (λ (fault : EngineFault). ClosesBy contents settings capture_map bursts written writer writer' fault) (sym only) (
          file.bytes.items,
          ended-frames settings capture_map bursts written joining (written ++ file.bytes.items) has (ap (λ (items : List ℕ). written ++ items) keeps.bytes),
          wrote,
        )

    -- more was written before
    pub ended-then : (bursts : List CapturedBurst) (written first : List ℕ) (a b c : Device W) (result : Result (Unit {0}) EngineFault) → WritesAll contents a b first
        → MatchResult result (λ _. WritesAllFrames contents settings capture_map bursts (written ++ first) b c) (λ fault. ClosesBy contents settings capture_map bursts (written ++ first) b c fault)
        → MatchResult result (λ _. WritesAllFrames contents settings capture_map bursts written a c) (λ fault. EndsBursts contents settings capture_map bursts written a c fault)
    ended-then bursts written first a b c (Ok done) before all = (
      first ++ all.0,
      subst (λ (text : List ℕ). AreAllFrames settings capture_map bursts text) (append_assoc written first all.0) all.1,
      wrote-both contents a b c first all.0 before all.2,
    )
    ended-then bursts written first a b c (Err OutOfMemory) before by = (
      first ++ by.0,
      inr (subst (λ (text : List ℕ). AreFramesAtEnd settings capture_map bursts text) (append_assoc written first by.0) by.1),
      wrote-both contents a b c first by.0 before by.2,
    )
    ended-then bursts written first a b c (Err Write) before by = (
      first ++ by.0,
      subst (λ (text : List ℕ). AreAllFrames settings capture_map bursts text ⊎ AreFramesAtEnd settings capture_map bursts text) (append_assoc written first by.0) by.1,
      wrote-some contents a b c first by.0 before by.2,
    )
    ended-then bursts written first a b c (Err (Trace fault)) before by = absurd by
    ended-then bursts written first a b c (Err (Cut fault)) before by = absurd by
    ended-then bursts written first a b c (Err (Capture fault)) before by = absurd by
    ended-then bursts written first a b c (Err Read) before by = absurd by
    ended-then bursts written first a b c (Err Usage) before by = absurd by

    -- ---- of the bytes of a capture

    module _ (bytes written : List ℕ) (reading : FrameReading) (has : HasReadBytes settings capture_map bytes written reading) where
      in_front : AreInFront bytes has.records []
      in_front = record { reader = reading.reader; front = bytes; captured = has.captured; are = sym (append-nil bytes) }

      text_now : reading.joining.file.bytes.items ≡ [] → written ++ [] ≡ written ++ reading.joining.file.bytes.items
      text_now empty = ap (λ (items : List ℕ). written ++ items) (sym empty)

      -- they end too early
      pub bytes-early : (writer : Device W) (fault : CaptureFault) → ¬ IsWholeCapture reading.reader → reading.joining.file.bytes.items ≡ []
          → EndsBy contents settings capture_map bytes written reading writer writer (fault_of_capture fault reading.joining.records)
      bytes-early writer fault early empty = by fault where
        joined : IsJoinedBy settings capture_map (AreFramesSoFar settings capture_map) has.records (written ++ [])
        joined = subst (λ (text : List ℕ). IsJoinedBy settings capture_map (AreFramesSoFar settings capture_map) has.records text) (sym (text_now empty)) (joined-file settings capture_map has.records written reading.joining has.joined)

        by_memory : EndsBy contents settings capture_map bytes written reading writer writer OutOfMemory
        by_memory = ([], so_far has.records [] in_front tt joined, tt, wrote-nothing contents writer)

        by_capture : (one : CaptureFault) → EndsBy contents settings capture_map bytes written reading writer writer (Capture (record { records = reading.joining.records; fault = one }))
        by_capture one = ([], so_far has.records [] in_front has.joined.count joined, (early, refl), wrote-nothing contents writer)

        by : (one : CaptureFault) → EndsBy contents settings capture_map bytes written reading writer writer (fault_of_capture one reading.joining.records)
        by NoCapture = by_capture NoCapture
        by (Pcap pcap.NotPcap) = by_capture (Pcap pcap.NotPcap)
        by (Pcap pcap.RecordTooLong) = by_capture (Pcap pcap.RecordTooLong)
        by (Pcap pcap.EndsInside) = by_capture (Pcap pcap.EndsInside)
        by (Pcap pcap.OutOfMemory) = by_memory
        by (Pcapng pcapng.NoSectionHeader) = by_capture (Pcapng pcapng.NoSectionHeader)
        by (Pcapng pcapng.BadByteOrder) = by_capture (Pcapng pcapng.BadByteOrder)
        by (Pcapng pcapng.BadBlockLength) = by_capture (Pcapng pcapng.BadBlockLength)
        by (Pcapng pcapng.BlockTooLong) = by_capture (Pcapng pcapng.BlockTooLong)
        by (Pcapng pcapng.LengthsDiffer) = by_capture (Pcapng pcapng.LengthsDiffer)
        by (Pcapng pcapng.UnsupportedVersion) = by_capture (Pcapng pcapng.UnsupportedVersion)
        by (Pcapng pcapng.TooManyInterfaces) = by_capture (Pcapng pcapng.TooManyInterfaces)
        by (Pcapng pcapng.BadInterface) = by_capture (Pcapng pcapng.BadInterface)
        by (Pcapng pcapng.UnknownInterface) = by_capture (Pcapng pcapng.UnknownInterface)
        by (Pcapng pcapng.RecordTooLong) = by_capture (Pcapng pcapng.RecordTooLong)
        by (Pcapng pcapng.PacketOverruns) = by_capture (Pcapng pcapng.PacketOverruns)
        by (Pcapng pcapng.EndsInside) = by_capture (Pcapng pcapng.EndsInside)
        by (Pcapng pcapng.OutOfMemory) = by_memory

      -- they are a whole capture
      module _ (whole : IsWholeCapture reading.reader) where
        file_of_all : (text : List ℕ) → AreAllFrames settings capture_map has.joined.bursts text → IsJoinedFile settings capture_map bytes text
        file_of_all text frames = record {
          reader = reading.reader;
          records = has.records;
          captured = has.captured;
          whole = whole;
          joined = record { bursts = has.joined.bursts; are = has.joined.are; frames = frames };
        }

        till_end : (text : List ℕ) (fault : EngineFault) → (fault ≡ OutOfMemory) ⊎ (fault ≡ Write) → AreFramesAtEnd settings capture_map has.joined.bursts text
            → IsJoinedTill settings capture_map bytes fault text
        till_end text fault is frames =
            to_end reading.reader has.records has.captured whole is (record { bursts = has.joined.bursts; are = has.joined.are; frames = frames })

        till_either : (text : List ℕ) → AreFramesSoFar settings capture_map has.joined.bursts text ⊎ AreFramesAtEnd settings capture_map has.joined.bursts text
            → IsJoinedTill settings capture_map bytes OutOfMemory text
        till_either text (inl frames) = so_far has.records [] in_front tt (record { bursts = has.joined.bursts; are = has.joined.are; frames = frames })
        till_either text (inr frames) = till_end text OutOfMemory (inl refl) frames

        file_or_till : (text : List ℕ) → AreAllFrames settings capture_map has.joined.bursts text ⊎ AreFramesAtEnd settings capture_map has.joined.bursts text
            → IsJoinedFile settings capture_map bytes text ⊎ IsJoinedTill settings capture_map bytes Write text
        file_or_till text (inl frames) = inl (file_of_all text frames)
        file_or_till text (inr frames) = inr (till_end text Write (inr refl) frames)

        pub bytes-finished : (writer writer' : Device W) (result : Result (Unit {0}) EngineFault)
            → MatchResult result (λ _. WritesAllFrames contents settings capture_map has.joined.bursts written writer writer')
            (λ fault. EndsBursts contents settings capture_map has.joined.bursts written writer writer' fault)
            → MatchResult result (λ _. (more : List ℕ) × IsJoinedFile settings capture_map bytes (written ++ more) × WritesAll contents writer writer' more)
            (λ fault. EndsBy contents settings capture_map bytes written reading writer writer' fault)
        bytes-finished writer writer' (Ok done) all = (all.0, file_of_all (written ++ all.0) all.1, all.2)
        bytes-finished writer writer' (Err OutOfMemory) by = (by.0, till_either (written ++ by.0) by.1, tt, by.2)
        bytes-finished writer writer' (Err Write) by = (by.0, file_or_till (written ++ by.0) by.1, by.2)
        bytes-finished writer writer' (Err (Trace fault)) by = absurd by
        bytes-finished writer writer' (Err (Cut fault)) by = absurd by
        bytes-finished writer writer' (Err (Capture fault)) by = absurd by
        bytes-finished writer writer' (Err Read) by = absurd by
        bytes-finished writer writer' (Err Usage) by = absurd by
