-- What a reader has given and holds back, with some bytes more.
use Rattle.std.proofs.Common.{◌≡◌, ℕ, ◌<◌, inl, List, [], ◌∷◌, ◌++◌, length, refl, sym, ap, ◌∙◌, arith, append_assoc, length-append, subst}
use Rattle.std.specs.List.{AllByRecursion}
use Rattle.std.proofs.lemmas.List.{append-nil}
use Rattle.std.proofs.lemmas.List.Concat.{flat_map-append}
use Rattle.capture.specs.declared.endian.Endian.{Endian}
use Rattle.capture.specs.declared.pcap.PcapHeader.{PcapHeader}
use Rattle.capture.specs.Pcap.{RecordParts, IsRecord, FitsHeader, header_bytes, head_bytes, record_bytes, records_bytes, file_bytes}
use Rattle.capture.specs.declared.pcap_fault.PcapFault.{PcapFault}
use Rattle.capture.specs.declared.pcap_fault.PcapFault.TheVariants.{NotPcap, RecordTooLong, EndsInside, OutOfMemory}
use Rattle.capture.specs.PcapReading.{Splits, IsBeginning, IsPending, IsNoPcap, HasLongRecord, Reports}
use Rattle.capture.specs.declared.pcap.RecordHead.{RecordHead}
use Rattle.capture.specs.declared.pcap_step.Stage.{Stage}
use Rattle.capture.specs.declared.pcap_step.Stage.TheVariants.{Head}
use Rattle.capture.specs.Inside.Stages.{Passes}
use Rattle.capture.specs.Inside.PcapParts.{IsTooLong, Completes, HeaderFault, HeadFault, SplitsRecord}
use Rattle.capture.proofs.FieldLists.{same_parts}
use Rattle.capture.proofs.PcapBytes.{length-header_bytes, length-head_bytes}

-- what holds of each holds of one more
pub all_more : {X : Type 0} (P : X → Type 0) (xs : List X) (x : X) → AllByRecursion P xs → P x → AllByRecursion P (xs ++ x ∷ [])
all_more P [] x all one = (one, tt)
all_more P (y ∷ ys) x all one = (all.0, all_more P ys x all.1 one)

-- and of no more
pub all_same : {X : Type 0} (P : X → Type 0) (xs : List X) → AllByRecursion P xs → AllByRecursion P (xs ++ [])
all_same P xs all = subst (AllByRecursion P) (sym (append-nil xs)) all

-- the bytes of one record more
records_bytes-push : (endian : Endian) (records : List RecordParts) (one : RecordParts)
    → records_bytes endian (records ++ one ∷ []) ≡ records_bytes endian records ++ record_bytes endian one
records_bytes-push endian records one =
    flat_map-append (record_bytes endian) records (one ∷ []) ∙ ap (λ t. records_bytes endian records ++ t) (append-nil (record_bytes endian one))

file_bytes-push : (header : PcapHeader) (records : List RecordParts) (one : RecordParts)
    → file_bytes header (records ++ one ∷ []) ≡ file_bytes header records ++ record_bytes header.endian one
file_bytes-push header records one =
    ap (λ t. header_bytes header ++ t) (records_bytes-push header.endian records one)
    ∙ sym (append_assoc (header_bytes header) (records_bytes header.endian records) (record_bytes header.endian one))

-- the header isn't whole yet
pub still_beginning : (records : List RecordParts) (old new used bytes : List ℕ) → IsBeginning records old bytes → new ≡ old ++ used → length new < 24
    → IsBeginning (records ++ []) new (bytes ++ used)
still_beginning records old new used bytes before whole fewer = record {
  none = append-nil records ∙ before.none;
  all = ap (λ t. t ++ used) before.all ∙ sym whole;
  short = fewer;
}

-- the header became whole
pub header_whole : (header : PcapHeader) (records : List RecordParts) (old new used bytes : List ℕ) → IsBeginning records old bytes → header_bytes header ≡ old ++ used → new ≡ []
    → FitsHeader header → Splits header (records ++ []) new (bytes ++ used)
header_whole header records old new used bytes before whole none fits =
    let no_records : records ++ [] ≡ [] = append-nil records ∙ before.none in
    record {
      spelled =
          ap (λ t. t ++ used) before.all ∙ sym whole ∙ sym (append-nil (header_bytes header)) ∙ sym (append-nil (header_bytes header ++ []))
          ∙ ap (λ r. file_bytes header r ++ []) (sym no_records) ∙ ap (λ t. file_bytes header (records ++ []) ++ t) (sym none);
      fits = fits;
      each = subst (AllByRecursion IsRecord) (sym no_records) tt;
      rest = inl (omega (arith, ap length none));
    }

-- bytes that came are pending
pub more_pending : (header : PcapHeader) (records : List RecordParts) (old new used bytes : List ℕ) → Splits header records old bytes → new ≡ old ++ used
    → IsPending header.endian new → Splits header (records ++ []) new (bytes ++ used)
more_pending header records old new used bytes before whole rest = record {
  spelled =
      ap (λ t. t ++ used) before.spelled ∙ append_assoc (file_bytes header records) old used ∙ ap (λ t. file_bytes header records ++ t) (sym whole)
      ∙ ap (λ r. file_bytes header r ++ new) (sym (append-nil records));
  fits = before.fits;
  each = all_same IsRecord records before.each;
  rest = rest;
}

-- a record became whole
pub record_whole : (header : PcapHeader) (records : List RecordParts) (one : RecordParts) (old new used bytes : List ℕ) → Splits header records old bytes
    → record_bytes header.endian one ≡ old ++ used → new ≡ [] → IsRecord one → Splits header (records ++ one ∷ []) new (bytes ++ used)
record_whole header records one old new used bytes before whole none lawful = record {
  spelled =
      ap (λ t. t ++ used) before.spelled ∙ append_assoc (file_bytes header records) old used ∙ ap (λ t. file_bytes header records ++ t) (sym whole)
      ∙ sym (file_bytes-push header records one) ∙ sym (append-nil (file_bytes header (records ++ one ∷ [])))
      ∙ ap (λ t. file_bytes header (records ++ one ∷ []) ++ t) (sym none);
  fits = before.fits;
  each = all_more IsRecord records one before.each lawful;
  rest = inl (omega (arith, ap length none));
}

-- 24 bytes that are no header, whatever follows them
pub no_pcap : (old whole piece rest : List ℕ) → Completes old whole piece rest → length whole ≡ 24 → ((header : PcapHeader) → whole ≡ header_bytes header → ⊥)
    → IsNoPcap (old ++ piece)
no_pcap old whole piece rest came size none =
    let same : old ++ piece ≡ whole ++ rest =
    ap (λ t. old ++ t) came.piece_is ∙ sym (append_assoc old came.used rest) ∙ ap (λ t. t ++ rest) (sym came.whole_is) in
    record {
      enough = omega (arith, ap length same, length-append whole rest, size);
      none = λ header more e. none header (same_parts whole (header_bytes header) rest more (size ∙ sym (length-header_bytes header)) (sym same ∙ e)).0;
    }

-- bytes that begin no file, where these are all that came
pub no_pcap_of_all : (records : List RecordParts) (old piece bytes : List ℕ) → IsBeginning records old bytes → IsNoPcap (old ++ piece) → IsNoPcap (bytes ++ piece)
no_pcap_of_all records old piece bytes before none = subst (λ t. IsNoPcap (t ++ piece)) (sym before.all) none

-- a record that is too long, after those that were given
pub too_long_of_all : (header : PcapHeader) (records : List RecordParts) (old piece bytes : List ℕ) → Splits header records old bytes → IsTooLong header.endian (old ++ piece)
    → HasLongRecord (bytes ++ piece)
too_long_of_all header records old piece bytes before long = record {
  header = header;
  records = records;
  head = long.head;
  more = long.more;
  spelled =
      ap (λ t. t ++ piece) before.spelled ∙ append_assoc (file_bytes header records) old piece ∙ ap (λ t. file_bytes header records ++ t) long.spelled
      ∙ sym (append_assoc (file_bytes header records) (head_bytes header.endian long.head) long.more);
  each = before.each;
  fits = long.fits;
  long = long.long;
}

-- the fault of a file's header is one of all bytes that came
pub fault_of_header : (fault : PcapFault) (records : List RecordParts) (old piece bytes : List ℕ) → HeaderFault (old ++ piece) fault → IsBeginning records old bytes
    → Reports (bytes ++ piece) fault
fault_of_header NotPcap records old piece bytes found before = no_pcap_of_all records old piece bytes before found
fault_of_header RecordTooLong records old piece bytes found before = absurd found
fault_of_header EndsInside records old piece bytes found before = absurd found
fault_of_header OutOfMemory records old piece bytes found before = tt

-- and so is that of a record's header
pub fault_of_head : (fault : PcapFault) (header : PcapHeader) (records : List RecordParts) (old piece bytes : List ℕ) → HeadFault header.endian (old ++ piece) fault
    → Splits header records old bytes → Reports (bytes ++ piece) fault
fault_of_head NotPcap header records old piece bytes found before = absurd found
fault_of_head RecordTooLong header records old piece bytes found before = too_long_of_all header records old piece bytes before found
fault_of_head EndsInside header records old piece bytes found before = absurd found
fault_of_head OutOfMemory header records old piece bytes found before = tt

-- a whole record comes, where none has begun
whole_passes : (header : PcapHeader) (head : RecordHead) (bytes rest piece : List ℕ) → SplitsRecord header.endian head bytes rest piece
    → Passes (Head header) [] (Head header) [] (record { head = head; bytes = bytes } ∷ []) piece rest
whole_passes header head bytes rest piece split =
    let front = head_bytes header.endian head in
    record {
      in_step = omega arith;
      moves = λ some. omega (arith, ap length split.piece_is, length-append (front ++ bytes) rest, length-append front bytes, length-head_bytes header.endian head);
      goes_on = record {
        used = front ++ bytes;
        piece_is = split.piece_is;
        stands = λ records all before.
            record_whole header records (record { head = head; bytes = bytes }) [] [] (front ++ bytes) all before refl refl
            (record { fits = split.fits; size = split.size; short = split.short });
      };
    }

pub whole_record : (stage : Stage) (header : PcapHeader) (head : RecordHead) (pending bytes items rest piece : List ℕ) → stage ≡ Head header → pending ≡ [] → items ≡ bytes
    → SplitsRecord header.endian head bytes rest piece → Passes stage pending (Head header) pending (record { head = head; bytes = items } ∷ []) piece rest
whole_record stage header head pending bytes items rest piece at none same split =
    subst (λ (s : Stage). Passes s pending (Head header) pending (record { head = head; bytes = items } ∷ []) piece rest) (sym at)
    (subst (λ (p : List ℕ). Passes (Head header) p (Head header) p (record { head = head; bytes = items } ∷ []) piece rest) (sym none)
    (subst (λ (i : List ℕ). Passes (Head header) [] (Head header) [] (record { head = head; bytes = i } ∷ []) piece rest) (sym same)
    (whole_passes header head bytes rest piece split)))
