-- Where the TLVs are those of a list, the bytes are the header, these and the payload.
use Rattle.std.proofs.Common.{◌≡◌, ◌++◌, length, get_or, drop, refl, sym, ap, ◌∙◌, arith, take-append-drop}
use Rattle.std.proofs.lemmas.List.{length-take-le, get_or-take}
use Rattle.capture.proofs.PacketParts.{packet_bytes-read}
use Rattle.capture.proofs.packet.split_packet.Goals as goal

pub returns-clause-found : goal.returns-clause-found
returns-clause-found c = λ fields.
    let bytes = c.args.bytes.now in
    let head = c.in_ok-head.head.now in
    let rest = c.in_ok-head.rest.now in
    let cut = c.in_ok-head.ensures.cases in
    let parts = c.in_ok-tlvs.ensures.cases in
    let whole : bytes ≡ head ++ rest = sym (take-append-drop 4 bytes) ∙ ap (λ t. t ++ drop 4 bytes) (sym cut.0) ∙ ap (λ t. head ++ t) (sym cut.1) in
    let size : length head ≡ 4 = ap length cut.0 ∙ length-take-le 4 bytes (omega (arith, cut.2)) in
    record {
      parts = record { version = get_or head 0 0; kind = get_or head 1 0; fields = fields.0; payload = c.in_ok-tlvs.payload.now };
      spelled =
          whole
          ∙ packet_bytes-read head rest c.in_ok-tlvs.tlvs.now c.in_ok-tlvs.payload.now c.from-length.result fields.0 size
          (λ i l. omega (arith, ap (λ t. get_or t i 0) cut.0, get_or-take 4 bytes i 0 l, c.type_inv.bytes i))
          (c.from-length.ensures ∙ c.from_be_bytes.ensures) parts.0 parts.1 parts.2 fields.1;
      packet_is = record { version = refl; kind = refl; tlvs = fields.1; payload = refl };
    }
