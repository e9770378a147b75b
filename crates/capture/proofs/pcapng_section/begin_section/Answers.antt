-- The magic and the version are the first numbers of a section header's body.
use Rattle.std.proofs.Common.{◌≡◌, [], ◌++◌, refl, sym, ◌∙◌, ap, append_assoc}
use Rattle.std.specs.Int.{w16, w32}
use Rattle.capture.specs.Endian.{number_bytes}
use Rattle.capture.specs.Pcapng.{byte_order_magic}
use Rattle.capture.specs.SeenCapture.{section_parts}
use Rattle.capture.specs.Inside.BlockStages.{block_of}
use Rattle.capture.proofs.BlockBytes.{same_word, section_begins}
use Rattle.capture.proofs.pcapng_section.begin_section.Goals as goal

pub returns-clause-begins : goal.returns-clause-begins
returns-clause-begins c =
    let e = c.args.head.endian in
    let n = c.split_u32.result.0 in
    let after = c.split_u32.result.1.now in
    let major = c.split_u16-major.result.0 in
    let rest = c.split_u16-major.result.1.now in
    let begins = c.requires.order in
    let magic : number_bytes e w32 n ≡ number_bytes e w32 byte_order_magic = same_word e n byte_order_magic after begins.0 (sym c.split_u32.ensures.spelled ∙ begins.1) in
    record {
      after = record { endian = e; interfaces = c.clear.new.self.items };
      section_is = refl;
      says = section_begins (section_parts c.args.section.now) (block_of c.args.head c.args.body.now) (record { endian = e; interfaces = c.clear.new.self.items }) [] c.requires.kind (record {
        rest = rest;
        body =
            c.split_u32.ensures.spelled ∙ ap (λ t. t ++ after) magic
            ∙ ap (λ t. number_bytes e w32 byte_order_magic ++ t) (c.split_u16-major.ensures.spelled ∙ ap (λ v. number_bytes e w16 v ++ rest) c.if-major-ne-MAJOR_VERSION.false)
            ∙ sym (append_assoc (number_bytes e w32 byte_order_magic) (number_bytes e w16 1) rest);
        after_is = ap (λ i. record { endian = e; interfaces = i }) c.clear.ensures.items;
        none = refl;
      });
    }
