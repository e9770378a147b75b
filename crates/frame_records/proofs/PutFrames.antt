-- The parts that are put are a frame's record.
use Rattle.std.proofs.Common.{◌≡◌, ℕ, ◌+◌, List, ◌∷◌, ◌++◌, length, sym, ap, ◌∙◌, subst, arith}
use Rattle.std.proofs.lemmas.List.{length-append, append_assoc}
use Rattle.capture.specs.Fields.{fields_bytes}
use Rattle.capture.specs.Packet.{two_bytes}
use Rattle.capture.specs.Pcap.{head_bytes, record_bytes}
use Rattle.capture.specs.declared.endian.Endian.TheVariants.{Little}
use Rattle.frame_records.specs.Frames.{record_head, frame_data, frame_record, origin_fields}
use Rattle.frame_records.specs.declared.link.FrameLink.{FrameLink}
use Rattle.frame_records.specs.declared.link.FrameLink.TheVariants.{Docsis, Xra}
use Rattle.frame_records.specs.declared.origin.FrameOrigin.{FrameOrigin}

-- a head, and what is held
head_put : (old head held : List ℕ) (time size : ℕ) → head ≡ head_bytes Little (record_head time size) → size ≡ length held
    → old ++ head ++ held ≡ old ++ (head_bytes Little (record_head time (length held)) ++ held)
head_put old head held time size e s =
    append_assoc old head held ∙ ap (λ bytes. old ++ (bytes ++ held)) (e ∙ ap (λ k. head_bytes Little (record_head time k)) s)

-- a frame alone
pub docsis_put : (link : FrameLink) (old head frame new : List ℕ) (time size : ℕ) (origin : FrameOrigin) → link ≡ Docsis
    → head ≡ head_bytes Little (record_head time size) → size ≡ length frame
    → new ≡ old ++ head ++ frame → new ≡ old ++ record_bytes Little (frame_record link time origin frame)
docsis_put link old head frame new time size origin is e s n =
    subst (λ link. new ≡ old ++ record_bytes Little (frame_record link time origin frame)) (sym is)
    (n ∙ head_put old head frame time size e s)

-- a packet
xra_data : (front tlvs frame : List ℕ) (origin : FrameOrigin) → tlvs ≡ fields_bytes (origin_fields origin) → front ≡ 1 ∷ 80 ∷ two_bytes (length tlvs)
    → front ++ (tlvs ++ frame) ≡ frame_data Xra origin frame
xra_data front tlvs frame origin t f =
    ap (λ front. front ++ (tlvs ++ frame)) f ∙ ap (λ fields. 1 ∷ 80 ∷ (two_bytes (length fields) ++ (fields ++ frame))) t

pub xra_put : (link : FrameLink) (old head front tlvs items frame new : List ℕ) (time size : ℕ) (origin : FrameOrigin) → link ≡ Xra
    → head ≡ head_bytes Little (record_head time size) → items ≡ fields_bytes (origin_fields origin) → tlvs ≡ items
    → front ≡ 1 ∷ 80 ∷ two_bytes (length items) → size ≡ 4 + length items + length frame
    → new ≡ old ++ head ++ front ++ tlvs ++ frame
    → new ≡ old ++ record_bytes Little (frame_record link time origin frame)
xra_put link old head front tlvs items frame new time size origin is e t same f s n =
    let packet = xra_data front tlvs frame origin (same ∙ t) (f ∙ ap (λ items. 1 ∷ 80 ∷ two_bytes (length items)) (sym same)) in
    let size_is : size ≡ length (front ++ (tlvs ++ frame)) = omega (arith, s, ap length same, ap length f, length-append front (tlvs ++ frame), length-append tlvs frame) in
    subst (λ link. new ≡ old ++ record_bytes Little (frame_record link time origin frame)) (sym is)
    (n ∙ append_assoc (old ++ head ++ front) tlvs frame ∙ append_assoc (old ++ head) front (tlvs ++ frame)
    ∙ head_put old head (front ++ (tlvs ++ frame)) time size e size_is
    ∙ ap (λ bytes. old ++ (head_bytes Little (record_head time (length bytes)) ++ bytes)) packet)
