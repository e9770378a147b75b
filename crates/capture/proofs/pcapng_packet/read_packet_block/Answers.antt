-- A packet's bytes come after its head.
use Rattle.std.proofs.Common.{◌≡◌, ◌++◌, length, drop, option_map, refl, sym, ◌∙◌, ap, append_assoc, take-append-drop}
use Rattle.std.specs.Prelude.{slice_get}
use Rattle.std.proofs.lemmas.List.{length-take-le}
use Rattle.std.proofs.lemmas.Option.{slice_get_read}
use Rattle.capture.specs.Pcapng.{nanoseconds}
use Rattle.capture.specs.PcapngBlocks.{packet_head_bytes}
use Rattle.capture.proofs.BlockBytes.{same_packet}
use Rattle.capture.proofs.pcapng_packet.read_packet_block.Goals as goal

pub returns-clause-given : goal.returns-clause-given
returns-clause-given c =
    let e = c.args.head.endian in
    let items = c.args.section.now.interfaces.items in
    let head = c.split_packet_head.result.0 in
    let behind = c.split_packet_head.result.1.now in
    let bytes = c.in-Some-split_at_checked.bytes.now in
    let rest = c.in-Some-split_at_checked.field-0-1.now in
    let cut = c.in-Some-split_at_checked.ensures.cases in
    let whole : behind ≡ bytes ++ rest = sym (take-append-drop head.captured behind) ∙ ap (λ t. t ++ drop head.captured behind) (sym cut.1) ∙ ap (λ t. bytes ++ t) (sym cut.2) in
    record {
      section = record { endian = e; interfaces = items };
      before_is = ap (λ o. option_map (λ endian. record { endian = endian; interfaces = items }) o) c.requires.order;
      order = refl;
      head = head;
      bytes = bytes;
      rest = rest;
      body = c.split_packet_head.ensures.spelled ∙ ap (λ t. packet_head_bytes e head ++ t) whole ∙ sym (append_assoc (packet_head_bytes e head) bytes rest);
      fits = c.split_packet_head.ensures.fits;
      size = ap length cut.1 ∙ length-take-le head.captured behind cut.0;
      short = c.if-packet-gt-LONGEST_RECORD.false;
      interface = c.in-Some.interface.now;
      known =
          ap (λ t. slice_get t head.interface) (sym c.deref.ensures.value)
          ∙ slice_get_read c.deref.result.now (length c.deref.result.now) head.interface c.in-Some.interface.now refl c.in-Some.ensures.lookup.3.0 c.in-Some.ensures.lookup.1;
      after_is = refl;
      given_is = same_packet c.in-Some.interface.now head bytes _ c.from.ensures (c.nanoseconds.ensures ∙ ap (λ t. nanoseconds c.in-Some.interface.now.unit t) c.time_of.ensures) refl c.in_ok-from_slice.ensures.items;
    }
