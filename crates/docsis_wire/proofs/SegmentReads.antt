-- What bytes are a segment, by their header.
use Rattle.std.proofs.Common.{◌≡◌, ℕ, ◌≤◌, true, List, ◌++◌, length, take, drop, ap, ◌∙◌, refl, ◌+◌, arith, take-append-drop}
use Rattle.std.proofs.lemmas.List.{length-drop}
use Rattle.docsis_wire.specs.declared.header.SegmentHeader.{SegmentHeader}
use Rattle.docsis_wire.specs.Header.{header_bytes}
use Rattle.docsis_wire.specs.SegmentBytes.{PointsPast}

-- bytes are their header's eight and those after them
pub spelled_as : (bytes payload : List ℕ) (head : SegmentHeader) → header_bytes head ≡ take 8 bytes → payload ≡ drop 8 bytes → header_bytes head ++ payload ≡ bytes
spelled_as bytes payload head front back =
    ap (λ t. t ++ payload) front ∙ ap (λ t. take 8 bytes ++ t) back ∙ take-append-drop 8 bytes

-- a pointer that is no less than the payload's length leads past it
pub PointsPast-from : (bytes : List ℕ) (head : SegmentHeader) → header_bytes head ≡ take 8 bytes → head.pfi ≡ true → length bytes ≤ head.pointer + 8 → PointsPast bytes
PointsPast-from bytes head front pfi past = record {
  segment = record { head = head; payload = drop 8 bytes };
  spelled = spelled_as bytes (drop 8 bytes) head front refl;
  past = λ ready. omega (arith, ready pfi, length-drop 8 bytes);
}
