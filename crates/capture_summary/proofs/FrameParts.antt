-- The parts of a frame.
use Rattle.std.proofs.Common.{◌≡◌, ℕ, ◌%◌, ◌/◌, inl, inr, cond, List, ◌∷◌, ◌++◌, length, take, drop, refl, sym, ap, ◌∙◌, append_assoc}
use Rattle.std.specs.Prelude.{nat_le}
use Rattle.std.proofs.Math.Seq.{take-append_seam, drop-append_seam}
use Rattle.docsis_wire.specs.Frame.{IsGenericFrame, IsExtendedHeader}
use Rattle.capture_summary.specs.Sequence.{extended_length, sequence_in, sequence_of}
use Rattle.capture_summary.specs.declared.sequence.FrameSequence.TheVariants.{NotThere}

-- how long the extended header is
length_is : (fc parm : ℕ) (ehdr : List ℕ) → IsExtendedHeader fc parm ehdr → extended_length fc parm ≡ length ehdr
length_is fc parm ehdr (inl on) = rw on.0 on.1
length_is fc parm ehdr (inr off) = rw (off.0, off.1) refl

-- the parts behind the first four bytes
parts : (ehdr hcs rest : List ℕ) → length hcs ≡ 2 → (take (length ehdr) (ehdr ++ hcs ++ rest) ≡ ehdr) × (drop 2 (drop (length ehdr) (ehdr ++ hcs ++ rest)) ≡ rest)
parts ehdr hcs rest two = (
  ap (take (length ehdr)) (append_assoc ehdr hcs rest) ∙ take-append_seam ehdr (hcs ++ rest),
  ap (λ all. drop 2 (drop (length ehdr) all)) (append_assoc ehdr hcs rest) ∙ ap (drop 2) (drop-append_seam ehdr (hcs ++ rest))
      ∙ ap (λ n. drop n (hcs ++ rest)) (sym two) ∙ drop-append_seam hcs rest,
)

pub looked_at : (frame : List ℕ) (generic : IsGenericFrame frame)
    → sequence_of frame ≡ cond (nat_le generic.fc 1) (sequence_in generic.ehdr generic.rest) NotThere
looked_at frame generic =
    let long = length_is generic.fc generic.parm generic.ehdr generic.ehdr_is in
    let found = parts generic.ehdr generic.hcs generic.rest generic.hcs_is in
    let all = generic.ehdr ++ generic.hcs ++ generic.rest in
    let spelled : frame ≡ generic.fc ∷ generic.parm ∷ (generic.len / 256) ∷ (generic.len % 256) ∷ all = generic.spelled in
    ap sequence_of spelled
    ∙ ap (λ n. cond (nat_le generic.fc 1) (sequence_in (take n all) (drop 2 (drop n all))) NotThere) long
    ∙ ap (λ e. cond (nat_le generic.fc 1) (sequence_in e (drop 2 (drop (length generic.ehdr) all))) NotThere) found.0
    ∙ ap (λ r. cond (nat_le generic.fc 1) (sequence_in generic.ehdr r) NotThere) found.1
