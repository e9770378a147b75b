-- What a part of a block that is whole leads to.
use Rattle.std.proofs.Common.{◌≡◌, ℕ, ◌+◌, ◌-◌, ◌<◌, ◌≤◌, ◌^◌, inr, List, [], ◌++◌, length, take, drop, Bool, true, false, cond, ◌==◌, Option, Some, None, option_map, refl, sym, ap, ◌∙◌, arith, append_assoc, length-append, length-drop, subst, take-append-drop}
use Rattle.std.proofs.lemmas.Bool.{eqb-true}
use Rattle.std.proofs.lemmas.List.{drop_at, length-take-le}
use Rattle.std.specs.Int.{w32}
use Rattle.capture.specs.Endian.{number_bytes}
use Rattle.capture.specs.declared.endian.Endian.{Endian}
use Rattle.capture.specs.declared.endian.Endian.TheVariants.{Big, Little}
use Rattle.capture.specs.declared.pcapng.BlockKind.{BlockKind}
use Rattle.capture.specs.declared.pcapng.BlockKind.TheVariants.{SectionHeader, InterfaceDescription, EnhancedPacket, Other}
use Rattle.capture.specs.declared.pcapng.BlockHead.{BlockHead}
use Rattle.capture.specs.declared.pcapng_fault.PcapngFault.{PcapngFault}
use Rattle.capture.specs.declared.pcapng_fault.PcapngFault.TheVariants.{NoSectionHeader, BadByteOrder, BadBlockLength, BlockTooLong, LengthsDiffer, UnsupportedVersion, TooManyInterfaces, BadInterface, UnknownInterface, RecordTooLong, PacketOverruns, EndsInside, OutOfMemory}
use Rattle.capture.specs.declared.pcapng_step.BlockStage.TheVariants.{Head, Skip}
use Rattle.capture.specs.Pcapng.{Block, block_kind, section_header, byte_order_magic, order_said, block_head_bytes, block_bytes, IsLawfulHead, IsBlock, least_total}
use Rattle.capture.specs.PcapngBlocks.{SectionParts, SaysBy}
use Rattle.capture.specs.PcapngReading.{HasOrder}
use Rattle.capture.specs.PcapngFaults.{IsFaultOf, Refuses}
use Rattle.capture.specs.Inside.BlockStages.{IsFaultOfHead, block_of, IsPassing, Advances}
use Rattle.capture.proofs.FieldLists.{same_parts}
use Rattle.capture.proofs.PcapBytes.{length-number_4}
use Rattle.capture.proofs.OneReading.{front_4}

-- the fault of a block's head is one of the bytes that begin with it
pub head_fault : (fault : PcapngFault) (section : Option SectionParts) (head : BlockHead) (part more : List ℕ) → IsFaultOfHead fault head → part ≡ block_head_bytes head ++ more
    → head.number < 2 ^ 32 → head.total < 2 ^ 32 → HasOrder (block_kind head.number) section head.endian more → IsFaultOf fault section part
head_fault NoSectionHeader section head part more bad spelled number total order = absurd bad
head_fault BadByteOrder section head part more bad spelled number total order = absurd bad
head_fault BadBlockLength section head part more bad spelled number total order =
    record { head = head; more = more; spelled = spelled; fits = (number, total); order = order; bad = bad }
head_fault BlockTooLong section head part more bad spelled number total order =
    record { head = head; more = more; spelled = spelled; fits = (number, total); order = order; bad = bad }
head_fault LengthsDiffer section head part more bad spelled number total order = absurd bad
head_fault UnsupportedVersion section head part more bad spelled number total order = absurd bad
head_fault TooManyInterfaces section head part more bad spelled number total order = absurd bad
head_fault BadInterface section head part more bad spelled number total order = absurd bad
head_fault UnknownInterface section head part more bad spelled number total order = absurd bad
head_fault RecordTooLong section head part more bad spelled number total order = absurd bad
head_fault PacketOverruns section head part more bad spelled number total order = absurd bad
head_fault EndsInside section head part more bad spelled number total order = absurd bad
head_fault OutOfMemory section head part more bad spelled number total order = absurd bad

-- why a whole block is refused is a fault of its bytes
pub block_fault : (fault : PcapngFault) (section : Option SectionParts) (block : Block) (part : List ℕ) → Refuses fault section block → part ≡ block_bytes block → IsBlock block
    → HasOrder (block_kind block.number) section block.endian block.body → IsFaultOf fault section part
block_fault NoSectionHeader section block part refused spelled lawful order = absurd refused
block_fault BadByteOrder section block part refused spelled lawful order = absurd refused
block_fault BadBlockLength section block part refused spelled lawful order = absurd refused
block_fault BlockTooLong section block part refused spelled lawful order = absurd refused
block_fault LengthsDiffer section block part refused spelled lawful order = absurd refused
block_fault UnsupportedVersion section block part refused spelled lawful order =
    record { block = block; spelled = spelled; lawful = lawful; order = order; refused = refused }
block_fault TooManyInterfaces section block part refused spelled lawful order =
    record { block = block; spelled = spelled; lawful = lawful; order = order; refused = refused }
block_fault BadInterface section block part refused spelled lawful order =
    record { block = block; spelled = spelled; lawful = lawful; order = order; refused = refused }
block_fault UnknownInterface section block part refused spelled lawful order =
    record { block = block; spelled = spelled; lawful = lawful; order = order; refused = refused }
block_fault RecordTooLong section block part refused spelled lawful order =
    record { block = block; spelled = spelled; lawful = lawful; order = order; refused = refused }
block_fault PacketOverruns section block part refused spelled lawful order =
    record { block = block; spelled = spelled; lawful = lawful; order = order; refused = refused }
block_fault EndsInside section block part refused spelled lawful order = absurd refused
block_fault OutOfMemory section block part refused spelled lawful order = tt

-- four bytes at the front of bytes that go on are at the front of these alone
pub word_front : (word body last more : List ℕ) → body ++ last ≡ word ++ more → length word ≤ length body → (rest : List ℕ) × (body ≡ word ++ rest)
word_front word body last more same enough =
    let n = length word in
    let whole : take n body ++ (drop n body ++ last) ≡ word ++ more = sym (append_assoc (take n body) (drop n body) last) ∙ ap (λ t. t ++ last) (take-append-drop n body) ∙ same in
    let parts = same_parts (take n body) word (drop n body ++ last) more (length-take-le n body enough) whole in
    (drop n body, sym (take-append-drop n body) ∙ ap (λ t. t ++ drop n body) parts.0)

-- a block's order stands in its body
pub order_in_body : (kind : BlockKind) (section : Option SectionParts) (e : Endian) (body last : List ℕ) → HasOrder kind section e (body ++ last)
    → least_total kind ≤ length body + 12 → HasOrder kind section e body
order_in_body SectionHeader section e body last order enough =
    word_front (number_bytes e w32 byte_order_magic) body last order.0 order.1 (omega (arith, length-number_4 e byte_order_magic, enough))
order_in_body InterfaceDescription section e body last order enough = order
order_in_body EnhancedPacket section e body last order enough = order
order_in_body Other section e body last order enough = order

-- any block has twelve bytes
pub least_12 : (kind : BlockKind) → 12 ≤ least_total kind
least_12 SectionHeader = omega arith
least_12 InterfaceDescription = omega arith
least_12 EnhancedPacket = omega arith
least_12 Other = omega arith

pub length-block_head_bytes : (head : BlockHead) → length (block_head_bytes head) ≡ 8
length-block_head_bytes head =
    omega (
      arith,
      length-append (number_bytes head.endian w32 head.number) (number_bytes head.endian w32 head.total),
      length-number_4 head.endian head.number,
      length-number_4 head.endian head.total,
    )

-- a whole block, cut before its last four bytes and after its first eight
pub block_parts : (head : BlockHead) (pending more front last body : List ℕ) → pending ≡ block_head_bytes head ++ more → front ≡ take (head.total - 4) pending
    → last ≡ drop (head.total - 4) pending → body ≡ drop 8 front → length pending ≡ head.total → 12 ≤ head.total
    → (more ≡ body ++ last) × (length body + 12 ≡ head.total) × (length last ≡ 4)
block_parts head pending more front last body spelled front_is last_is body_is whole enough =
    let n = head.total - 4 in
    let eight = length-block_head_bytes head in
    let size : length front ≡ n = ap length front_is ∙ length-take-le n pending (omega (arith, whole, enough)) in
    let joined : pending ≡ front ++ last = sym (take-append-drop n pending) ∙ ap (λ t. t ++ drop n pending) (sym front_is) ∙ ap (λ t. front ++ t) (sym last_is) in
    let first : take 8 front ++ (body ++ last) ≡ block_head_bytes head ++ more =
    ap (λ t. take 8 front ++ (t ++ last)) body_is ∙ sym (append_assoc (take 8 front) (drop 8 front) last) ∙ ap (λ t. t ++ last) (take-append-drop 8 front) ∙ sym joined ∙ spelled in
    let parts = same_parts (take 8 front) (block_head_bytes head) (body ++ last) more (length-take-le 8 front (omega (arith, size, enough)) ∙ sym eight) first in
    let bodies : length body ≡ n - 8 = ap length body_is ∙ length-drop 8 front ∙ ap (λ t. t - 8) size in
    let lasts : length last ≡ head.total - n = ap length last_is ∙ length-drop n pending ∙ ap (λ t. t - n) whole in
    (sym parts.1, omega (arith, bodies, enough), omega (arith, lasts, enough))

-- the type of a section header is the same in either order
pub either_order : (e : Endian) → number_bytes Big w32 section_header ≡ number_bytes e w32 section_header
either_order Big = refl
either_order Little = refl

-- what a magic number says is the order in which it was written
said_by : (a b : Bool) (n : ℕ) (e : Endian) → a ≡ (n == 0x1A2B3C4D) → b ≡ (n == 0x4D3C2B1A) → cond a (Some Big) (cond b (Some Little) None) ≡ Some e
    → number_bytes Big w32 n ≡ number_bytes e w32 byte_order_magic
said_by true b n Big p q said = ap (number_bytes Big w32) (eqb-true n 0x1A2B3C4D (sym p))
said_by true b n Little p q said = absurd (cc)
said_by false true n Little p q said = ap (number_bytes Big w32) (eqb-true n 0x4D3C2B1A (sym q))
said_by false true n Big p q said = absurd (cc)
said_by false false n e p q said = absurd (cc)

-- a section header has the order that its magic number says
pub order_of_magic : (section : Option SectionParts) (head : BlockHead) (e : Endian) (pending rest more last behind : List ℕ) (n : ℕ) → head.endian ≡ e → head.number < 2 ^ 32
    → pending ≡ block_head_bytes head ++ rest → pending ≡ number_bytes Big w32 section_header ++ more → last ≡ drop 8 pending → last ≡ number_bytes Big w32 n ++ behind
    → order_said n ≡ Some e → HasOrder (block_kind head.number) section head.endian rest
order_of_magic section head e pending rest more last behind n order small spelled begins last_is word said =
    let number = front_4 head.endian head.number section_header (number_bytes head.endian w32 head.total ++ rest) more small (omega arith)
    (sym (append_assoc (number_bytes head.endian w32 head.number) (number_bytes head.endian w32 head.total) rest) ∙ sym spelled ∙ begins ∙ ap (λ t. t ++ more) (either_order head.endian)) in
    let kind : block_kind head.number ≡ SectionHeader = ap block_kind number.0 in
    let behind_is : rest ≡ number_bytes Big w32 n ++ behind = sym (drop_at (block_head_bytes head) rest 8 (length-block_head_bytes head)) ∙ ap (drop 8) (sym spelled) ∙ sym last_is ∙ word in
    let magic : number_bytes Big w32 n ≡ number_bytes head.endian w32 byte_order_magic =
    said_by (n == 0x1A2B3C4D) (n == 0x4D3C2B1A) n head.endian refl refl (said ∙ ap Some (sym order)) in
    subst (λ k. HasOrder k section head.endian rest) (sym kind) (behind, behind_is ∙ ap (λ t. t ++ behind) magic)

-- a head, a body and the same length again are a block
pub whole_block : (head : BlockHead) (pending more body last : List ℕ) → pending ≡ block_head_bytes head ++ more → more ≡ body ++ last → length body + 12 ≡ head.total
    → last ≡ number_bytes head.endian w32 head.total → pending ≡ block_bytes (block_of head body)
whole_block head pending more body last spelled parts size same =
    spelled ∙ ap (λ t. block_head_bytes head ++ t) parts ∙ sym (append_assoc (block_head_bytes head) body last) ∙ ap (λ t. block_head_bytes head ++ body ++ t) same
    ∙ ap (λ t. number_bytes head.endian w32 head.number ++ number_bytes head.endian w32 t ++ body ++ number_bytes head.endian w32 t) (sym size)

head_with : BlockHead → ℕ → BlockHead
head_with head total = record { endian = head.endian; number = head.number; total = total }

-- as lawful as its head
pub lawful_block : (head : BlockHead) (body : List ℕ) → length body + 12 ≡ head.total → IsLawfulHead head → IsBlock (block_of head body)
unfolding head_with
lawful_block head body size lawful = subst (λ t. IsLawfulHead (head_with head t)) (sym size) lawful

-- where there is an order a section has begun
pub known_section : (section : Option SectionParts) (e : Endian) → option_map (λ parts. parts.endian) section ≡ Some e
    → (parts : SectionParts) × (section ≡ Some parts) × (e ≡ parts.endian)
known_section None e same = absurd (cc)
known_section (Some parts) e same = (parts, refl, cc)

-- a block that was passed over is whole
pub passes_over : (section : Option SectionParts) (head : BlockHead) (left : ℕ) (pending new : List ℕ) → IsPassing section head → left ≡ 0
    → pending ≡ number_bytes head.endian w32 head.total → new ≡ [] → Advances (Skip head left) section pending Head section new []
passes_over section head left pending new passing none same nothing =
    let known = known_section section head.endian passing.order in
    record {
      in_block = record { kept = tt; fewer = omega (arith, ap length nothing) };
      next = λ part held.
          inr (record {
            block = block_of head held.0;
            spelled =
                whole_block head part (held.0 ++ pending) held.0 pending (held.1 ∙ append_assoc (block_head_bytes head) held.0 pending) refl (omega (arith, held.2, none)) same;
            lawful = lawful_block head held.0 (omega (arith, held.2, none)) passing.lawful;
            leaves = record {
              after = known.0;
              section_is = known.1;
              says = subst (λ k. SaysBy k section (block_of head held.0) known.0 []) (sym passing.other)
                  (record { section = known.0; before_is = known.1; order = known.2; after_is = refl; none = refl });
            };
            nothing = (refl, nothing);
          });
    }
