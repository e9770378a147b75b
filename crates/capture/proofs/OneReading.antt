-- The bytes of a pcap file are those of one header and one list of records.
use Rattle.std.proofs.Common.{◌≡◌, ℕ, ◌<◌, ◌^◌, inl, inr, List, [], ◌∷◌, ◌++◌, length, take, Option, Some, None, refl, sym, ap, ◌∙◌, arith, append_assoc, length-append}
use Rattle.std.specs.List.{AllByRecursion}
use Rattle.std.specs.Int.{w16, w32, from_be_bytes, from_le_bytes}
use Rattle.std.proofs.lemmas.Nat.{from_be_bytes-to_be_bytes_4, from_le_bytes-to_le_bytes_4, from_be_bytes-to_be_bytes_2, from_le_bytes-to_le_bytes_2}
use Rattle.std.proofs.lemmas.Option.{same_Some}
use Rattle.capture.specs.declared.endian.Endian.{Endian}
use Rattle.capture.specs.declared.endian.Endian.TheVariants.{Big, Little}
use Rattle.capture.specs.declared.pcap.Resolution.{Resolution}
use Rattle.capture.specs.declared.pcap.PcapHeader.{PcapHeader}
use Rattle.capture.specs.declared.pcap.RecordHead.{RecordHead}
use Rattle.capture.specs.Endian.{number_bytes}
use Rattle.capture.specs.Pcap.{RecordParts, IsRecord, FitsHead, FitsHeader, magic_of, magic_said, header_bytes, head_bytes, record_bytes, records_bytes, file_bytes}
use Rattle.capture.specs.PcapReading.{PcapState, StandsFor, HasGiven, IsPending}
use Rattle.capture.proofs.FieldLists.{same_parts}
use Rattle.capture.proofs.PcapBytes.{length-number_2, length-number_4, length-header_bytes, length-head_bytes, said, front_of_header}

-- a number is known by its bytes
same_number_4 : (e : Endian) (m n : ℕ) → m < 2 ^ 32 → n < 2 ^ 32 → number_bytes e w32 m ≡ number_bytes e w32 n → m ≡ n
same_number_4 Big m n p q same = sym (from_be_bytes-to_be_bytes_4 m p) ∙ ap (from_be_bytes w32) same ∙ from_be_bytes-to_be_bytes_4 n q
same_number_4 Little m n p q same = sym (from_le_bytes-to_le_bytes_4 m p) ∙ ap (from_le_bytes w32) same ∙ from_le_bytes-to_le_bytes_4 n q

same_number_2 : (e : Endian) (m n : ℕ) → m < 2 ^ 16 → n < 2 ^ 16 → number_bytes e w16 m ≡ number_bytes e w16 n → m ≡ n
same_number_2 Big m n p q same = sym (from_be_bytes-to_be_bytes_2 m p) ∙ ap (from_be_bytes w16) same ∙ from_be_bytes-to_be_bytes_2 n q
same_number_2 Little m n p q same = sym (from_le_bytes-to_le_bytes_2 m p) ∙ ap (from_le_bytes w16) same ∙ from_le_bytes-to_le_bytes_2 n q

-- and so is one at the front
pub front_4 : (e : Endian) (m n : ℕ) (x y : List ℕ) → m < 2 ^ 32 → n < 2 ^ 32 → number_bytes e w32 m ++ x ≡ number_bytes e w32 n ++ y → (m ≡ n) × (x ≡ y)
front_4 e m n x y p q same =
    let parts = same_parts (number_bytes e w32 m) (number_bytes e w32 n) x y (length-number_4 e m ∙ sym (length-number_4 e n)) same in
    (same_number_4 e m n p q parts.0, parts.1)

pub front_2 : (e : Endian) (m n : ℕ) (x y : List ℕ) → m < 2 ^ 16 → n < 2 ^ 16 → number_bytes e w16 m ++ x ≡ number_bytes e w16 n ++ y → (m ≡ n) × (x ≡ y)
front_2 e m n x y p q same =
    let parts = same_parts (number_bytes e w16 m) (number_bytes e w16 n) x y (length-number_2 e m ∙ sym (length-number_2 e n)) same in
    (same_number_2 e m n p q parts.0, parts.1)

-- a record's header is known by its fields
head_with : ℕ → ℕ → ℕ → ℕ → RecordHead
head_with seconds fraction captured original = record { seconds = seconds; fraction = fraction; captured = captured; original = original }

same_head : (a b : RecordHead) → a.seconds ≡ b.seconds → a.fraction ≡ b.fraction → a.captured ≡ b.captured → a.original ≡ b.original → a ≡ b
unfolding head_with
same_head a b seconds fraction captured original =
    ap (λ n. head_with n a.fraction a.captured a.original) seconds ∙ ap (λ n. head_with b.seconds n a.captured a.original) fraction
    ∙ ap (λ n. head_with b.seconds b.fraction n a.original) captured ∙ ap (λ n. head_with b.seconds b.fraction b.captured n) original

-- so bytes begin with the header of one record
front_head : (e : Endian) (a b : RecordHead) (x y : List ℕ) → FitsHead a → FitsHead b → head_bytes e a ++ x ≡ head_bytes e b ++ y → (a ≡ b) × (x ≡ y)
front_head e a b x y p q same =
    let seconds = front_4 e a.seconds b.seconds _ _ p.seconds q.seconds (simp append_assoc at same) in
    let fraction = front_4 e a.fraction b.fraction _ _ p.fraction q.fraction seconds.1 in
    let captured = front_4 e a.captured b.captured _ _ p.captured q.captured fraction.1 in
    let original = front_4 e a.original b.original x y p.original q.original captured.1 in
    (same_head a b seconds.0 fraction.0 captured.0 original.0, original.1)

-- the other numbers of a file's header, in one order
unfoldable pub numbers_of_header : Endian → PcapHeader → List ℕ
numbers_of_header e h =
    number_bytes e w16 h.major
    ++ (number_bytes e w16 h.minor
    ++ (number_bytes e w32 h.zone ++ (number_bytes e w32 h.accuracy ++ (number_bytes e w32 h.snap_length ++ number_bytes e w32 h.link_type))))

pub header_bytes-numbers : (h : PcapHeader) → header_bytes h ≡ number_bytes h.endian w32 (magic_of h.resolution) ++ numbers_of_header h.endian h
unfolding numbers_of_header
header_bytes-numbers h = simp append_assoc

header_with : Endian → Resolution → ℕ → ℕ → ℕ → ℕ → ℕ → ℕ → PcapHeader
header_with e r major minor zone accuracy snap link = record {
  endian = e;
  resolution = r;
  major = major;
  minor = minor;
  zone = zone;
  accuracy = accuracy;
  snap_length = snap;
  link_type = link;
}

-- a file's header is known by its fields
same_header : (h k : PcapHeader) → h.endian ≡ k.endian → h.resolution ≡ k.resolution → h.major ≡ k.major → h.minor ≡ k.minor → h.zone ≡ k.zone → h.accuracy ≡ k.accuracy
    → h.snap_length ≡ k.snap_length → h.link_type ≡ k.link_type → h ≡ k
unfolding header_with
same_header h k endian resolution major minor zone accuracy snap link =
    ap (λ n. header_with n h.resolution h.major h.minor h.zone h.accuracy h.snap_length h.link_type) endian
    ∙ ap (λ n. header_with k.endian n h.major h.minor h.zone h.accuracy h.snap_length h.link_type) resolution
    ∙ ap (λ n. header_with k.endian k.resolution n h.minor h.zone h.accuracy h.snap_length h.link_type) major
    ∙ ap (λ n. header_with k.endian k.resolution k.major n h.zone h.accuracy h.snap_length h.link_type) minor
    ∙ ap (λ n. header_with k.endian k.resolution k.major k.minor n h.accuracy h.snap_length h.link_type) zone
    ∙ ap (λ n. header_with k.endian k.resolution k.major k.minor k.zone n h.snap_length h.link_type) accuracy
    ∙ ap (λ n. header_with k.endian k.resolution k.major k.minor k.zone k.accuracy n h.link_type) snap
    ∙ ap (λ n. header_with k.endian k.resolution k.major k.minor k.zone k.accuracy k.snap_length n) link

-- a file's header is known by its bytes
pub header_bytes-inj : (h k : PcapHeader) → FitsHeader h → FitsHeader k → header_bytes h ≡ header_bytes k → h ≡ k
unfolding numbers_of_header
header_bytes-inj h k p q same =
    let word : number_bytes h.endian w32 (magic_of h.resolution) ≡ number_bytes k.endian w32 (magic_of k.resolution) =
    sym (front_of_header h) ∙ ap (take 4) same ∙ front_of_header k in
    let kind : ◌≡◌ {A = Endian × Resolution} (h.endian, h.resolution) (k.endian, k.resolution) =
    same_Some _ _ (sym (said h.endian h.resolution) ∙ ap (λ t. magic_said (from_be_bytes w32 t)) word ∙ said k.endian k.resolution) in
    let endian : h.endian ≡ k.endian = ap (λ (t : Endian × Resolution). t.0) kind in
    let resolution : h.resolution ≡ k.resolution = ap (λ (t : Endian × Resolution). t.1) kind in
    let rest : numbers_of_header h.endian h ≡ numbers_of_header k.endian k =
    (same_parts (number_bytes h.endian w32 (magic_of h.resolution)) (number_bytes k.endian w32 (magic_of k.resolution)) (numbers_of_header h.endian h) (numbers_of_header k.endian k)
    (ap length word) (sym (header_bytes-numbers h) ∙ same ∙ header_bytes-numbers k)).1 in
    let e = k.endian in
    let one : numbers_of_header e h ≡ numbers_of_header e k = ap (λ t. numbers_of_header t h) (sym endian) ∙ rest in
    let major = front_2 e h.major k.major _ _ p.major q.major one in
    let minor = front_2 e h.minor k.minor _ _ p.minor q.minor major.1 in
    let zone = front_4 e h.zone k.zone _ _ p.zone q.zone minor.1 in
    let accuracy = front_4 e h.accuracy k.accuracy _ _ p.accuracy q.accuracy zone.1 in
    let snap = front_4 e h.snap_length k.snap_length _ _ p.snap_length q.snap_length accuracy.1 in
    let link = same_number_4 e h.link_type k.link_type p.link_type q.link_type snap.1 in
    same_header h k endian resolution major.0 minor.0 zone.0 accuracy.0 snap.0 link

-- a record is known by its parts
parts_with : RecordHead → List ℕ → RecordParts
parts_with head bytes = record { head = head; bytes = bytes }

same_record : (a b : RecordParts) → a.head ≡ b.head → a.bytes ≡ b.bytes → a ≡ b
unfolding parts_with
same_record a b head bytes = ap (λ h. parts_with h a.bytes) head ∙ ap (λ t. parts_with b.head t) bytes

-- a whole record isn't pending
not_pending : (e : Endian) (one : RecordParts) (rest pending : List ℕ) → IsRecord one → record_bytes e one ++ rest ≡ pending → IsPending e pending → ⊥
not_pending e one rest pending lawful same (inl short) =
    omega (arith, ap length same, length-append (record_bytes e one) rest, length-append (head_bytes e one.head) one.bytes, length-head_bytes e one.head)
not_pending e one rest pending lawful same (inr part) =
    let heads = front_head e one.head part.head (one.bytes ++ rest) part.bytes lawful.fits part.fits (sym (append_assoc (head_bytes e one.head) one.bytes rest) ∙ same ∙ part.spelled) in
    omega (arith, ap (λ h. h.captured) heads.0, ap length heads.1, length-append one.bytes rest, lawful.size, part.fewer)

-- records are known by their bytes, and nothing of them is pending
one_reading : (e : Endian) (records given : List RecordParts) (pending : List ℕ) → AllByRecursion IsRecord records → AllByRecursion IsRecord given → IsPending e pending
    → records_bytes e records ≡ records_bytes e given ++ pending → (given ≡ records) × (pending ≡ [])
one_reading e [] [] pending p q rest same = (refl, sym same)
one_reading e [] (one ∷ given) pending p q rest same =
    absurd (omega (
      arith,
      ap length same,
      length-append (record_bytes e one ++ records_bytes e given) pending,
      length-append (record_bytes e one) (records_bytes e given),
      length-append (head_bytes e one.head) one.bytes,
      length-head_bytes e one.head,
    ))
one_reading e (one ∷ records) [] pending p q rest same = absurd (not_pending e one (records_bytes e records) pending p.0 same rest)
one_reading e (one ∷ records) (other ∷ given) pending p q rest same =
    let heads = front_head e one.head other.head (one.bytes ++ records_bytes e records) (other.bytes ++ (records_bytes e given ++ pending)) p.0.fits q.0.fits
    (sym (append_assoc (head_bytes e one.head) one.bytes (records_bytes e records)) ∙ same ∙ append_assoc (record_bytes e other) (records_bytes e given) pending
    ∙ append_assoc (head_bytes e other.head) other.bytes (records_bytes e given ++ pending)) in
    let size : length one.bytes ≡ length other.bytes = p.0.size ∙ ap (λ h. h.captured) heads.0 ∙ sym q.0.size in
    let parts = same_parts one.bytes other.bytes (records_bytes e records) (records_bytes e given ++ pending) size heads.1 in
    let others = one_reading e records given pending p.1 q.1 rest parts.1 in
    (ap (λ r. r ∷ given) (sym (same_record one other heads.0 parts.0)) ∙ ap (λ rs. one ∷ rs) others.0, others.1)

-- a reader that has taken a whole file has given its records
whole_of : (known : Option PcapHeader) (header : PcapHeader) (records given : List RecordParts) (pending : List ℕ) → FitsHeader header → AllByRecursion IsRecord records
    → HasGiven known given pending (file_bytes header records) → (given ≡ records) × (known ≡ Some header) × (pending ≡ [])
whole_of None header records given pending p q before =
    absurd (omega (arith, ap length before.all, length-append (header_bytes header) (records_bytes header.endian records), length-header_bytes header, before.short))
whole_of (Some known) header records given pending p q before =
    let parts = same_parts (header_bytes header) (header_bytes known) (records_bytes header.endian records) (records_bytes known.endian given ++ pending)
    (length-header_bytes header ∙ sym (length-header_bytes known))
    (before.spelled ∙ append_assoc (header_bytes known) (records_bytes known.endian given) pending) in
    let same : header ≡ known = header_bytes-inj header known p before.fits parts.0 in
    let reading = one_reading known.endian records given pending q before.each before.rest (ap (λ h. records_bytes h.endian records) (sym same) ∙ parts.1) in
    (reading.0, ap Some (sym same), reading.1)

pub all_given : (state : PcapState) (header : PcapHeader) (records given : List RecordParts) → FitsHeader header → AllByRecursion IsRecord records
    → StandsFor state given (file_bytes header records) → (given ≡ records) × (state.header ≡ Some header) × (state.pending ≡ [])
all_given state header records given p q before = whole_of state.header header records given state.pending p q before.1
