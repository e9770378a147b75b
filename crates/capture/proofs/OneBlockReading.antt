-- The bytes of a pcapng file are those of one list of blocks, and these say one thing.
use Rattle.std.proofs.Common.{◌≡◌, ℕ, ◌+◌, ◌<◌, ◌^◌, ◌⊎◌, inl, inr, List, [], ◌∷◌, ◌++◌, length, Bool, true, false, cond, ◌==◌, Option, Some, None, option_map, refl, sym, ap, ◌∙◌, arith, append_assoc, length-append, subst}
use Rattle.std.specs.List.{AllByRecursion}
use Rattle.std.specs.Prelude.{slice_get}
use Rattle.std.specs.Int.{w16, w32, from_be_bytes}
use Rattle.std.proofs.lemmas.Bool.{eqb-true}
use Rattle.std.proofs.lemmas.Option.{same_Some}
use Rattle.capture.specs.Endian.{number_bytes}
use Rattle.capture.specs.declared.endian.Endian.{Endian}
use Rattle.capture.specs.declared.endian.Endian.TheVariants.{Big, Little}
use Rattle.capture.specs.declared.pcapng.BlockKind.{BlockKind}
use Rattle.capture.specs.declared.pcapng.BlockKind.TheVariants.{SectionHeader, InterfaceDescription, EnhancedPacket, Other}
use Rattle.capture.specs.declared.pcapng.BlockHead.{BlockHead}
use Rattle.capture.specs.declared.pcapng.Interface.{Interface}
use Rattle.capture.specs.declared.pcapng.TimeUnit.{TimeUnit}
use Rattle.capture.specs.declared.pcapng_packet.PacketHead.{PacketHead}
use Rattle.capture.specs.Pcapng.{Block, block_kind, section_header, byte_order_magic, order_said, block_head_bytes, head_of, block_bytes, blocks_bytes, IsBlock}
use Rattle.capture.specs.PcapngOptions.{SaysUnit, unit_from, first_value}
use Rattle.capture.specs.PcapngBlocks.{SectionParts, CaptureParts, SpellsInterface, AddsInterface, GivesPacket, FitsPacketHead, packet_head_bytes, captured_packet, SaysBy, Says, Tell}
use Rattle.capture.specs.PcapngReading.{PcapngState, HasOrder, IsPart, IsHeld, HasRead}
use Rattle.capture.proofs.FieldLists.{same_parts}
use Rattle.capture.proofs.PcapBytes.{length-number_4}
use Rattle.capture.proofs.OneReading.{front_2, front_4}
use Rattle.capture.proofs.OptionLists.{same_options}
use Rattle.capture.proofs.BlockSteps.{either_order, length-block_head_bytes}

-- a block that a section header's type has is one
from_kind : (a b c : Bool) (n : ℕ) → a ≡ (n == 0x0A0D0D0A)
    → cond a SectionHeader (cond b InterfaceDescription (cond c EnhancedPacket Other)) ≡ SectionHeader → n ≡ section_header
from_kind true b c n test kind = eqb-true n 0x0A0D0D0A (sym test)
from_kind false true c n test kind = absurd (cc)
from_kind false false true n test kind = absurd (cc)
from_kind false false false n test kind = absurd (cc)

pub kind_number : (n : ℕ) → block_kind n ≡ SectionHeader → n ≡ section_header
kind_number n kind = from_kind (n == 0x0A0D0D0A) (n == 1) (n == 6) n refl kind

-- the magic number says its order
magic_said : (e : Endian) → order_said (from_be_bytes w32 (number_bytes e w32 byte_order_magic)) ≡ Some e
magic_said Big = refl
magic_said Little = refl

same_magic : (e f : Endian) → number_bytes e w32 byte_order_magic ≡ number_bytes f w32 byte_order_magic → e ≡ f
same_magic e f same = same_Some e f (sym (magic_said e) ∙ ap (λ t. order_said (from_be_bytes w32 t)) same ∙ magic_said f)

-- the order comes from a section header itself, or from the section
order_cases : (kind : BlockKind) (section : Option SectionParts) (e : Endian) (x : List ℕ) → HasOrder kind section e x
    → ((kind ≡ SectionHeader) × HasOrder SectionHeader section e x) ⊎ ((kind ≡ SectionHeader → ⊥) × (option_map (λ parts. parts.endian) section ≡ Some e))
order_cases SectionHeader section e x order = inl (refl, order)
order_cases InterfaceDescription section e x order = inr (λ same. cc, order)
order_cases EnhancedPacket section e x order = inr (λ same. cc, order)
order_cases Other section e x order = inr (λ same. cc, order)

-- where a section header begins, one begins
header_too : (h k : BlockHead) (x y : List ℕ) → h.number < 2 ^ 32 → k.number < 2 ^ 32 → block_head_bytes h ++ x ≡ block_head_bytes k ++ y
    → block_kind h.number ≡ SectionHeader → block_kind k.number ≡ SectionHeader
header_too h k x y p q same kind =
    let number = kind_number h.number kind in
    let words = same_parts (number_bytes h.endian w32 h.number) (number_bytes k.endian w32 k.number) (number_bytes h.endian w32 h.total ++ x) (number_bytes k.endian w32 k.total ++ y)
    (length-number_4 h.endian h.number ∙ sym (length-number_4 k.endian k.number))
    (sym (append_assoc (number_bytes h.endian w32 h.number) (number_bytes h.endian w32 h.total) x) ∙ same
    ∙ append_assoc (number_bytes k.endian w32 k.number) (number_bytes k.endian w32 k.total) y) in
    let one : number_bytes k.endian w32 k.number ++ [] ≡ number_bytes k.endian w32 section_header ++ [] =
    ap (λ t. t ++ []) (sym words.0 ∙ ap (number_bytes h.endian w32) number ∙ sym (either_order h.endian) ∙ either_order k.endian) in
    ap block_kind (front_4 k.endian k.number section_header [] [] q (omega arith) one).0

-- so bytes begin with the head of a block of one order
same_order : (section : Option SectionParts) (h k : BlockHead) (x y : List ℕ) → h.number < 2 ^ 32 → k.number < 2 ^ 32 → block_head_bytes h ++ x ≡ block_head_bytes k ++ y
    → HasOrder (block_kind h.number) section h.endian x → HasOrder (block_kind k.number) section k.endian y → h.endian ≡ k.endian
same_order section h k x y p q same one other =
    let behind = (same_parts (block_head_bytes h) (block_head_bytes k) x y (length-block_head_bytes h ∙ sym (length-block_head_bytes k)) same).1 in
    elim (order_cases (block_kind h.number) section h.endian x one) [
      | inl a ↦ elim (order_cases (block_kind k.number) section k.endian y other) [
        | inl b ↦
            same_magic h.endian k.endian
            (same_parts (number_bytes h.endian w32 byte_order_magic) (number_bytes k.endian w32 byte_order_magic) a.1.0 b.1.0
            (length-number_4 h.endian byte_order_magic ∙ sym (length-number_4 k.endian byte_order_magic)) (sym a.1.1 ∙ behind ∙ b.1.1)).0
        | inr b ↦ absurd (b.0 (header_too h k x y p q same a.0))
      ]
      | inr a ↦ elim (order_cases (block_kind k.number) section k.endian y other) [
        | inl b ↦ absurd (a.0 (header_too k h y x q p (sym same) b.0))
        | inr b ↦ same_Some h.endian k.endian (sym a.1 ∙ b.1)
      ]
    ]

-- and with one head
pub front_block_head : (section : Option SectionParts) (h k : BlockHead) (x y : List ℕ) → h.number < 2 ^ 32 → h.total < 2 ^ 32 → k.number < 2 ^ 32 → k.total < 2 ^ 32
    → block_head_bytes h ++ x ≡ block_head_bytes k ++ y → HasOrder (block_kind h.number) section h.endian x → HasOrder (block_kind k.number) section k.endian y
    → (h.endian ≡ k.endian) × (h.number ≡ k.number) × (h.total ≡ k.total) × (x ≡ y)
front_block_head section h k x y p q r s same one other =
    let order = same_order section h k x y p r same one other in
    let k_bytes : block_head_bytes k ≡ number_bytes h.endian w32 k.number ++ number_bytes h.endian w32 k.total =
    ap (λ e. number_bytes e w32 k.number ++ number_bytes e w32 k.total) (sym order) in
    let number = front_4 h.endian h.number k.number (number_bytes h.endian w32 h.total ++ x) (number_bytes h.endian w32 k.total ++ y) p r
    (sym (append_assoc (number_bytes h.endian w32 h.number) (number_bytes h.endian w32 h.total) x) ∙ same ∙ ap (λ t. t ++ y) k_bytes
    ∙ append_assoc (number_bytes h.endian w32 k.number) (number_bytes h.endian w32 k.total) y) in
    let total = front_4 h.endian h.total k.total x y q s number.1 in
    (order, number.0, total.0, total.1)

-- how long a block is
pub length-block_bytes : (block : Block) → length (block_bytes block) ≡ length block.body + 12
length-block_bytes block =
    omega (
      arith,
      length-append (block_head_bytes (head_of block) ++ block.body) (number_bytes block.endian w32 (length block.body + 12)),
      length-append (block_head_bytes (head_of block)) block.body,
      length-block_head_bytes (head_of block),
      length-number_4 block.endian (length block.body + 12),
    )

-- a block and what follows, as its head and the rest
unfoldable pub block_behind : (block : Block) (more : List ℕ) → List ℕ
block_behind block more = block.body ++ (number_bytes block.endian w32 (length block.body + 12) ++ more)

pub block_bytes-behind : (block : Block) (more : List ℕ) → block_bytes block ++ more ≡ block_head_bytes (head_of block) ++ block_behind block more
unfolding block_behind
block_bytes-behind block more =
    let last = number_bytes block.endian w32 (length block.body + 12) in
    append_assoc (block_head_bytes (head_of block) ++ block.body) last more ∙ append_assoc (block_head_bytes (head_of block)) block.body (last ++ more)

-- a block of a section has its order
pub says_order : (kind : BlockKind) (section : Option SectionParts) (block : Block) (after : SectionParts) (given : List CaptureParts) → SaysBy kind section block after given
    → (more : List ℕ) → HasOrder kind section block.endian (block_behind block more)
unfolding block_behind
says_order SectionHeader section block after given says more =
    let magic = number_bytes block.endian w32 byte_order_magic in
    let version = number_bytes block.endian w16 1 in
    let last = number_bytes block.endian w32 (length block.body + 12) ++ more in
    (version ++ says.rest ++ last, ap (λ t. t ++ last) (says.body ∙ append_assoc magic version says.rest) ∙ append_assoc magic (version ++ says.rest) last)
says_order InterfaceDescription section block after given says more = ap (option_map (λ parts. parts.endian)) says.before_is ∙ ap Some (sym says.order)
says_order EnhancedPacket section block after given says more = ap (option_map (λ parts. parts.endian)) says.before_is ∙ ap Some (sym says.order)
says_order Other section block after given says more = ap (option_map (λ parts. parts.endian)) says.before_is ∙ ap Some (sym says.order)

block_with : Endian → ℕ → List ℕ → Block
block_with endian number body = record { endian = endian; number = number; body = body }

-- a block is known by its parts
same_block : (b c : Block) → b.endian ≡ c.endian → b.number ≡ c.number → b.body ≡ c.body → b ≡ c
unfolding block_with
same_block b c endian number body =
    ap (λ t. block_with t b.number b.body) endian ∙ ap (λ t. block_with c.endian t b.body) number ∙ ap (λ t. block_with c.endian c.number t) body

-- bytes begin with one block
pub front_block : (section : Option SectionParts) (b c : Block) (x y : List ℕ) → IsBlock b → IsBlock c → HasOrder (block_kind b.number) section b.endian (block_behind b x)
    → HasOrder (block_kind c.number) section c.endian (block_behind c y) → block_bytes b ++ x ≡ block_bytes c ++ y → (b ≡ c) × (x ≡ y)
unfolding block_behind
front_block section b c x y p q one other same =
    let heads = front_block_head section (head_of b) (head_of c) (block_behind b x) (block_behind c y) p.number p.total q.number q.total
    (sym (block_bytes-behind b x) ∙ same ∙ block_bytes-behind c y) one other in
    let size : length b.body ≡ length c.body = omega (arith, heads.2) in
    let bodies = same_parts b.body c.body (number_bytes b.endian w32 (length b.body + 12) ++ x) (number_bytes c.endian w32 (length c.body + 12) ++ y) size heads.3 in
    let ends = same_parts (number_bytes b.endian w32 (length b.body + 12)) (number_bytes c.endian w32 (length c.body + 12)) x y
    (length-number_4 b.endian (length b.body + 12) ∙ sym (length-number_4 c.endian (length c.body + 12))) bodies.1 in
    (same_block b c heads.0 heads.1 bodies.0, ends.1)

-- a whole block isn't less than one
not_part : (section : Option SectionParts) (b : Block) (more part : List ℕ) → IsBlock b → HasOrder (block_kind b.number) section b.endian (block_behind b more)
    → part ≡ block_bytes b ++ more → IsPart section part → ⊥
not_part section b more part lawful order same (inl few) = omega (arith, ap length same, length-append (block_bytes b) more, length-block_bytes b, few)
not_part section b more part lawful order same (inr (inl header)) =
    omega (arith, ap length same, length-append (block_bytes b) more, length-block_bytes b, header.fewer)
not_part section b more part lawful order same (inr (inr front)) =
    let heads = front_block_head section (head_of b) front.head (block_behind b more) front.more lawful.number lawful.total front.lawful.number front.lawful.total
    (sym (block_bytes-behind b more) ∙ sym same ∙ front.spelled) order front.order in
    omega (arith, ap length same, length-append (block_bytes b) more, length-block_bytes b, heads.2, front.fewer)

interface_with : ℕ → TimeUnit → Interface
interface_with link_type unit = record { link_type = link_type; unit = unit }

-- a body describes one interface
same_interface : (e : Endian) (body : List ℕ) (i j : Interface) → SpellsInterface e body i → SpellsInterface e body j → i ≡ j
unfolding interface_with
same_interface e body i j a b =
    let link = front_2 e i.link_type j.link_type (a.unread ++ a.options) (b.unread ++ b.options) a.link_type b.link_type
    (sym (append_assoc (number_bytes e w16 i.link_type) a.unread a.options) ∙ sym a.spelled ∙ b.spelled ∙ append_assoc (number_bytes e w16 j.link_type) b.unread b.options) in
    let options = (same_parts a.unread b.unread a.options b.options (a.six ∙ sym b.six) link.1).1 in
    let said = subst (λ t. SaysUnit e t j.unit) (sym options) b.unit in
    let lists = same_options e a.options a.unit.options said.options a.unit.spelled said.spelled in
    let unit : i.unit ≡ j.unit = same_Some i.unit j.unit (sym a.unit.unit_is ∙ ap (λ o. unit_from (first_value 9 o)) lists ∙ said.unit_is) in
    ap (λ t. interface_with t i.unit) link.0 ∙ ap (λ t. interface_with j.link_type t) unit

packet_head_with : ℕ → ℕ → ℕ → ℕ → ℕ → PacketHead
packet_head_with interface high low captured original =
    record { interface = interface; high = high; low = low; captured = captured; original = original }

-- a packet's head is known by its fields
same_packet_head : (a b : PacketHead) → a.interface ≡ b.interface → a.high ≡ b.high → a.low ≡ b.low → a.captured ≡ b.captured → a.original ≡ b.original → a ≡ b
unfolding packet_head_with
same_packet_head a b interface high low captured original =
    ap (λ n. packet_head_with n a.high a.low a.captured a.original) interface ∙ ap (λ n. packet_head_with b.interface n a.low a.captured a.original) high
    ∙ ap (λ n. packet_head_with b.interface b.high n a.captured a.original) low ∙ ap (λ n. packet_head_with b.interface b.high b.low n a.original) captured
    ∙ ap (λ n. packet_head_with b.interface b.high b.low b.captured n) original

-- bytes begin with the head of one packet
pub front_packet_head : (e : Endian) (a b : PacketHead) (x y : List ℕ) → FitsPacketHead a → FitsPacketHead b → packet_head_bytes e a ++ x ≡ packet_head_bytes e b ++ y
    → (a ≡ b) × (x ≡ y)
front_packet_head e a b x y p q same =
    let interface = front_4 e a.interface b.interface _ _ p.interface q.interface (simp append_assoc at same) in
    let high = front_4 e a.high b.high _ _ p.high q.high interface.1 in
    let low = front_4 e a.low b.low _ _ p.low q.low high.1 in
    let captured = front_4 e a.captured b.captured _ _ p.captured q.captured low.1 in
    let original = front_4 e a.original b.original x y p.original q.original captured.1 in
    (same_packet_head a b interface.0 high.0 low.0 captured.0 original.0, original.1)

-- one section has begun
same_section : (before : Option SectionParts) (s t : SectionParts) → before ≡ Some s → before ≡ Some t → s ≡ t
same_section before s t a b = same_Some s t (sym a ∙ b)

-- an interface is added in one way
same_adds : (before : Option SectionParts) (block : Block) (after other : SectionParts) (given others : List CaptureParts) → AddsInterface before block after given
    → AddsInterface before block other others → (after ≡ other) × (given ≡ others)
same_adds before block after other given others a b =
    let section = same_section before a.section b.section a.before_is b.before_is in
    let interface = same_interface block.endian block.body a.interface b.interface a.spelled b.spelled in (
      a.after_is ∙ ap (λ s. record { endian = s.endian; interfaces = s.interfaces ++ a.interface ∷ [] }) section
          ∙ ap (λ i. record { endian = b.section.endian; interfaces = b.section.interfaces ++ i ∷ [] }) interface ∙ sym b.after_is,
      a.none ∙ sym b.none,
    )

-- a packet is given in one way
same_gives : (before : Option SectionParts) (block : Block) (after other : SectionParts) (given others : List CaptureParts) → GivesPacket before block after given
    → GivesPacket before block other others → (after ≡ other) × (given ≡ others)
same_gives before block after other given others a b =
    let section = same_section before a.section b.section a.before_is b.before_is in
    let heads = front_packet_head block.endian a.head b.head (a.bytes ++ a.rest) (b.bytes ++ b.rest) a.fits b.fits
    (sym (append_assoc (packet_head_bytes block.endian a.head) a.bytes a.rest) ∙ sym a.body ∙ b.body ∙ append_assoc (packet_head_bytes block.endian b.head) b.bytes b.rest) in
    let size : length a.bytes ≡ length b.bytes = a.size ∙ ap (λ h. h.captured) heads.0 ∙ sym b.size in
    let bytes = (same_parts a.bytes b.bytes a.rest b.rest size heads.1).0 in
    let interface : a.interface ≡ b.interface =
    same_Some a.interface b.interface
    (sym a.known ∙ ap (λ s. slice_get s.interfaces a.head.interface) section ∙ ap (λ h. slice_get b.section.interfaces h.interface) heads.0 ∙ b.known) in (
      a.after_is ∙ section ∙ sym b.after_is,
      a.given_is ∙ ap (λ i. captured_packet i a.head a.bytes ∷ []) interface ∙ ap (λ h. captured_packet b.interface h a.bytes ∷ []) heads.0
          ∙ ap (λ t. captured_packet b.interface b.head t ∷ []) bytes ∙ sym b.given_is,
    )

-- a block says one thing
pub same_says : (kind : BlockKind) (before : Option SectionParts) (block : Block) (after other : SectionParts) (given others : List CaptureParts)
    → SaysBy kind before block after given → SaysBy kind before block other others → (after ≡ other) × (given ≡ others)
same_says SectionHeader before block after other given others a b = (a.after_is ∙ sym b.after_is, a.none ∙ sym b.none)
same_says InterfaceDescription before block after other given others a b = same_adds before block after other given others a b
same_says EnhancedPacket before block after other given others a b = same_gives before block after other given others a b
same_says Other before block after other given others a b =
    (a.after_is ∙ same_section before a.section b.section a.before_is b.before_is ∙ sym b.after_is, a.none ∙ sym b.none)

-- blocks are known by their bytes, and so is what they say
one_telling : (before : Option SectionParts) (blocks others : List Block) (after other : Option SectionParts) (given told : List CaptureParts) (part : List ℕ)
    → AllByRecursion IsBlock blocks → AllByRecursion IsBlock others → Tell before blocks after given → Tell before others other told → IsPart other part
    → blocks_bytes blocks ≡ blocks_bytes others ++ part → (told ≡ given) × (other ≡ after) × (part ≡ [])
one_telling before [] [] after other given told part p q one two rest same = (two.1 ∙ sym one.1, two.0 ∙ sym one.0, sym same)
one_telling before [] (c ∷ others) after other given told part p q one two rest same =
    absurd (omega (arith, ap length same, length-append (block_bytes c ++ blocks_bytes others) part, length-append (block_bytes c) (blocks_bytes others), length-block_bytes c))
one_telling before (b ∷ blocks) [] after other given told part p q one two rest same =
    absurd (not_part before b (blocks_bytes blocks) part p.0 (says_order (block_kind b.number) before b one.0 one.1 one.3 (blocks_bytes blocks)) (sym same)
    (subst (λ s. IsPart s part) two.0 rest))
one_telling before (b ∷ blocks) (c ∷ others) after other given told part p q one two rest same =
    let fronts = front_block before b c (blocks_bytes blocks) (blocks_bytes others ++ part) p.0 q.0
    (says_order (block_kind b.number) before b one.0 one.1 one.3 (blocks_bytes blocks))
    (says_order (block_kind c.number) before c two.0 two.1 two.3 (blocks_bytes others ++ part)) (same ∙ append_assoc (block_bytes c) (blocks_bytes others) part) in
    let said = same_says (block_kind b.number) before b one.0 two.0 one.1 two.1 one.3 (subst (λ t. Says before t two.0 two.1) (sym fronts.0) two.3) in
    let behind = one_telling (Some one.0) blocks others after other one.2 two.2 part p.1 q.1 one.4 (subst (λ s. Tell (Some s) others other two.2) (sym said.0) two.4) rest fronts.1 in
    (two.5 ∙ ap (λ g. g ++ two.2) (sym said.1) ∙ ap (λ g. one.1 ++ g) behind.0 ∙ sym one.5, behind.1, behind.2)

-- where no part of a block came nothing is held back
nothing_kept : (passing : Option (BlockHead × ℕ)) (pending : List ℕ) → IsHeld passing pending [] → (passing ≡ None) × (pending ≡ [])
nothing_kept None pending held = (refl, sym held)
nothing_kept (Some at) pending held =
    absurd (omega (
      arith,
      ap length held.1,
      length-append (block_head_bytes at.0 ++ held.0) pending,
      length-append (block_head_bytes at.0) held.0,
      length-block_head_bytes at.0,
    ))

-- a reader that has taken whole blocks has given what they say
pub all_told : (state : PcapngState) (blocks : List Block) (section : Option SectionParts) (records given : List CaptureParts) → AllByRecursion IsBlock blocks
    → Tell None blocks section records → HasRead state given (blocks_bytes blocks)
    → (given ≡ records) × (state.section ≡ section) × (state.passing ≡ None) × (state.pending ≡ [])
all_told state blocks section records given lawful told read =
    let before = read.1 in
    let same = one_telling None blocks before.blocks section state.section records given before.part lawful before.each told before.told before.rest before.spelled in
    let nothing = nothing_kept state.passing state.pending (subst (λ t. IsHeld state.passing state.pending t) same.2 before.held) in
    (same.0, same.1, nothing.0, nothing.1)
