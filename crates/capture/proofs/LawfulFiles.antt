-- A lawful pcapng file has no fault but that memory ran out.
use Rattle.std.proofs.Common.{◌≡◌, ℕ, ◌+◌, ◌%◌, ◌<◌, ◌^◌, inl, inr, List, [], ◌∷◌, ◌++◌, length, Option, Some, None, refl, sym, ap, ◌∙◌, arith, append_assoc, length-append, subst}
use Rattle.std.specs.List.{AllByRecursion}
use Rattle.std.specs.Int.{w32}
use Rattle.std.proofs.lemmas.Option.{slice_get_within}
use Rattle.capture.specs.Endian.{number_bytes}
use Rattle.capture.specs.declared.endian.Endian.TheVariants.{Big}
use Rattle.capture.specs.declared.pcapng.BlockKind.TheVariants.{SectionHeader}
use Rattle.capture.specs.declared.pcapng.BlockHead.{BlockHead}
use Rattle.capture.specs.declared.pcapng_fault.PcapngFault.{PcapngFault}
use Rattle.capture.specs.declared.pcapng_fault.PcapngFault.TheVariants.{NoSectionHeader, BadByteOrder, BadBlockLength, BlockTooLong, LengthsDiffer, UnsupportedVersion, TooManyInterfaces, BadInterface, UnknownInterface, RecordTooLong, PacketOverruns, EndsInside, OutOfMemory}
use Rattle.capture.specs.Pcapng.{Block, block_kind, least_total, IsKept, section_header, byte_order_magic, block_head_bytes, head_of, block_bytes, blocks_bytes, IsBlock}
use Rattle.capture.specs.PcapngBlocks.{SectionParts, CaptureParts, packet_head_bytes, SaysBy, Says, Tell}
use Rattle.capture.specs.PcapngReading.{HasOrder}
use Rattle.capture.specs.PcapngFaults.{HasNoSection, HasNoOrder, IsOfBadLength, IsOverlong, HasBadEnd, Refuses, HasBadBlock, interfaces_of, IsFaultOf, HasFault}
use Rattle.capture.proofs.FieldLists.{same_parts}
use Rattle.capture.proofs.PcapBytes.{length-number_4}
use Rattle.capture.proofs.OneReading.{front_4}
use Rattle.capture.proofs.BlockSteps.{either_order, word_front, length-block_head_bytes}
use Rattle.capture.proofs.BlockReading.{order_on}
use Rattle.capture.proofs.OneBlockReading.{kind_number, front_block_head, length-block_bytes, block_behind, block_bytes-behind, says_order, front_block, same_says, front_packet_head}
use Rattle.capture.proofs.WholeCaptures.{first_kind}

-- a block begins with its number
number_front : (block : Block) (x : List ℕ) → block_bytes block ++ x
    ≡ number_bytes block.endian w32 block.number ++ (number_bytes block.endian w32 (length block.body + 12) ++ block_behind block x)
number_front block x =
    block_bytes-behind block x
    ∙ append_assoc (number_bytes block.endian w32 block.number) (number_bytes block.endian w32 (length block.body + 12)) (block_behind block x)

-- where the first block comes, a section header does
no_section : (before : Option SectionParts) (block : Block) (mid : SectionParts) (here : List CaptureParts) (x part more : List ℕ) → Says before block mid here
    → block_bytes block ++ x ≡ part ++ more → HasNoSection before part → ⊥
no_section before block mid here x part more says same fault =
    let number = kind_number block.number (first_kind (block_kind block.number) block mid here (subst (λ s. Says s block mid here) fault.first says)) in
    let e = block.endian in
    let behind = number_bytes e w32 (length block.body + 12) ++ block_behind block x in
    let word : part ++ more ≡ number_bytes Big w32 section_header ++ behind =
    sym same ∙ number_front block x ∙ ap (λ n. number_bytes e w32 n ++ behind) number ∙ ap (λ t. t ++ behind) (sym (either_order e)) in
    let front = word_front (number_bytes Big w32 section_header) part more behind word (omega (arith, length-number_4 Big section_header, fault.enough)) in
    fault.none front.0 front.1

-- a section has an order
no_order : (before : Option SectionParts) (block : Block) (mid : SectionParts) (here : List CaptureParts) (x part more : List ℕ) → IsBlock block → Says before block mid here
    → block_bytes block ++ x ≡ part ++ more → HasNoOrder part → ⊥
no_order before block mid here x part more lawful says same fault =
    let e = block.endian in
    let total = number_bytes e w32 (length block.body + 12) in
    let header = number_bytes Big w32 section_header in
    let whole : number_bytes e w32 block.number ++ (total ++ block_behind block x) ≡ header ++ (fault.total ++ (fault.magic ++ more)) =
    sym (number_front block x) ∙ same ∙ ap (λ t. t ++ more) fault.spelled ∙ append_assoc (header ++ fault.total) fault.magic more
    ∙ append_assoc header fault.total (fault.magic ++ more) in
    let words = same_parts (number_bytes e w32 block.number) header (total ++ block_behind block x) (fault.total ++ (fault.magic ++ more))
    (length-number_4 e block.number ∙ sym (length-number_4 Big section_header)) whole in
    let number = (front_4 e block.number section_header [] [] lawful.number (omega arith) (ap (λ t. t ++ []) (words.0 ∙ either_order e))).0 in
    let begins = subst (λ k. SaysBy k before block mid here) (ap block_kind number) says in
    let seconds = same_parts total fault.total (block_behind block x) (fault.magic ++ more) (length-number_4 e (length block.body + 12) ∙ sym fault.sizes.0) words.1 in
    let order = says_order SectionHeader before block mid here begins x in
    let magics = same_parts (number_bytes e w32 byte_order_magic) fault.magic order.0 more (length-number_4 e byte_order_magic ∙ sym fault.sizes.1) (sym order.1 ∙ seconds.1) in
    fault.none e (sym magics.0)

-- a head at the front is the block's
heads_of : (before : Option SectionParts) (block : Block) (mid : SectionParts) (here : List CaptureParts) (x part more : List ℕ) (head : BlockHead) (m : List ℕ) → IsBlock block
    → Says before block mid here → block_bytes block ++ x ≡ part ++ more → part ≡ block_head_bytes head ++ m → head.number < 2 ^ 32 → head.total < 2 ^ 32
    → HasOrder (block_kind head.number) before head.endian m
    → (block.endian ≡ head.endian) × (block.number ≡ head.number) × (length block.body + 12 ≡ head.total) × (block_behind block x ≡ m ++ more)
heads_of before block mid here x part more head m lawful says same spelled number total order =
    front_block_head before (head_of block) head (block_behind block x) (m ++ more) lawful.number lawful.total number total
    (sym (block_bytes-behind block x) ∙ same ∙ ap (λ t. t ++ more) spelled ∙ append_assoc (block_head_bytes head) m more)
    (says_order (block_kind block.number) before block mid here says x) (order_on (block_kind head.number) before head.endian m more order)

-- its length is one that it can have
no_bad_length : (block : Block) (head : BlockHead) → IsBlock block → block.number ≡ head.number → length block.body + 12 ≡ head.total → IsOfBadLength head → ⊥
no_bad_length block head lawful number total (inl less) = omega (arith, less, lawful.least, ap (λ n. least_total (block_kind n)) number, total)
no_bad_length block head lawful number total (inr odd) = odd (ap (λ n. n % 4) (sym total) ∙ lawful.fours)

no_overlong : (block : Block) (head : BlockHead) → IsBlock block → block.number ≡ head.number → length block.body + 12 ≡ head.total → IsOverlong head → ⊥
no_overlong block head lawful number total bad = omega (arith, lawful.short (subst (λ n. IsKept (block_kind n)) (sym number) bad.0), bad.1, total)

-- and stands at its end
no_bad_end : (before : Option SectionParts) (block : Block) (mid : SectionParts) (here : List CaptureParts) (x part more : List ℕ) → IsBlock block → Says before block mid here
    → block_bytes block ++ x ≡ part ++ more → HasBadEnd before part → ⊥
unfolding block_behind
no_bad_end before block mid here x part more lawful says same fault =
    let head = fault.head in
    let heads = heads_of before block mid here x part more head (fault.body ++ fault.last) lawful says same
    (fault.spelled ∙ append_assoc (block_head_bytes head) fault.body fault.last) fault.lawful.number fault.lawful.total fault.order in
    let word = number_bytes block.endian w32 (length block.body + 12) in
    let bodies = same_parts block.body fault.body (word ++ x) (fault.last ++ more) (omega (arith, heads.2, fault.sizes.0))
    (heads.3 ∙ append_assoc fault.body fault.last more) in
    let lasts = same_parts word fault.last x more (length-number_4 block.endian (length block.body + 12) ∙ sym fault.sizes.1) bodies.1 in
    fault.differs (sym lasts.0 ∙ ap (λ e. number_bytes e w32 (length block.body + 12)) heads.0 ∙ ap (λ n. number_bytes head.endian w32 n) heads.2)

-- what says something isn't refused
not_refused : (fault : PcapngFault) (before : Option SectionParts) (block : Block) (mid : SectionParts) (here : List CaptureParts) → Says before block mid here
    → Refuses fault before block → fault ≡ OutOfMemory
not_refused NoSectionHeader before block mid here says refused = absurd refused
not_refused BadByteOrder before block mid here says refused = absurd refused
not_refused BadBlockLength before block mid here says refused = absurd refused
not_refused BlockTooLong before block mid here says refused = absurd refused
not_refused LengthsDiffer before block mid here says refused = absurd refused
not_refused UnsupportedVersion before block mid here says refused =
    let begins = subst (λ k. SaysBy k before block mid here) refused.0 says in
    absurd (refused.1 begins.rest begins.body)
not_refused TooManyInterfaces before block mid here says refused =
    let adds = subst (λ k. SaysBy k before block mid here) refused.0 says in
    absurd (omega (arith, refused.1, ap (λ s. length (interfaces_of s)) adds.before_is, adds.room))
not_refused BadInterface before block mid here says refused =
    let adds = subst (λ k. SaysBy k before block mid here) refused.0 says in
    absurd (refused.1 adds.interface adds.spelled)
not_refused UnknownInterface before block mid here says refused =
    let gives = subst (λ k. SaysBy k before block mid here) refused.packet says in
    let heads = front_packet_head block.endian refused.head gives.head refused.more (gives.bytes ++ gives.rest) refused.fits gives.fits
    (sym refused.body ∙ gives.body ∙ append_assoc (packet_head_bytes block.endian gives.head) gives.bytes gives.rest) in
    absurd (omega (
      arith,
      refused.bad,
      ap (λ h. h.interface) heads.0,
      ap (λ s. length (interfaces_of s)) gives.before_is,
      slice_get_within gives.section.interfaces gives.head.interface gives.interface gives.known,
    ))
not_refused RecordTooLong before block mid here says refused =
    let gives = subst (λ k. SaysBy k before block mid here) refused.packet says in
    let heads = front_packet_head block.endian refused.head gives.head refused.more (gives.bytes ++ gives.rest) refused.fits gives.fits
    (sym refused.body ∙ gives.body ∙ append_assoc (packet_head_bytes block.endian gives.head) gives.bytes gives.rest) in
    absurd (omega (arith, refused.bad, ap (λ h. h.captured) heads.0, gives.short))
not_refused PacketOverruns before block mid here says refused =
    let gives = subst (λ k. SaysBy k before block mid here) refused.packet says in
    let heads = front_packet_head block.endian refused.head gives.head refused.more (gives.bytes ++ gives.rest) refused.fits gives.fits
    (sym refused.body ∙ gives.body ∙ append_assoc (packet_head_bytes block.endian gives.head) gives.bytes gives.rest) in
    absurd (omega (arith, refused.bad, ap (λ h. h.captured) heads.0, ap length heads.1, length-append gives.bytes gives.rest, gives.size))
not_refused EndsInside before block mid here says refused = absurd refused
not_refused OutOfMemory before block mid here says refused = refl

no_bad_block : (fault : PcapngFault) (before : Option SectionParts) (block : Block) (mid : SectionParts) (here : List CaptureParts) (x part more : List ℕ) → IsBlock block
    → Says before block mid here → block_bytes block ++ x ≡ part ++ more → HasBadBlock fault before part → fault ≡ OutOfMemory
unfolding block_behind
no_bad_block fault before block mid here x part more lawful says same bad =
    let other = bad.block in
    let fronts = front_block before block other x more lawful bad.lawful (says_order (block_kind block.number) before block mid here says x)
    (order_on (block_kind other.number) before other.endian other.body (number_bytes other.endian w32 (length other.body + 12) ++ more) bad.order)
    (same ∙ ap (λ t. t ++ more) bad.spelled) in
    not_refused fault before block mid here says (subst (λ b. Refuses fault before b) (sym fronts.0) bad.refused)

-- where a lawful block comes there is no fault
no_fault_here : (fault : PcapngFault) (before : Option SectionParts) (block : Block) (mid : SectionParts) (here : List CaptureParts) (x part more : List ℕ) → IsBlock block
    → Says before block mid here → block_bytes block ++ x ≡ part ++ more → IsFaultOf fault before part → fault ≡ OutOfMemory
no_fault_here NoSectionHeader before block mid here x part more lawful says same bad = absurd (no_section before block mid here x part more says same bad)
no_fault_here BadByteOrder before block mid here x part more lawful says same bad = absurd (no_order before block mid here x part more lawful says same bad)
no_fault_here BadBlockLength before block mid here x part more lawful says same bad =
    let heads = heads_of before block mid here x part more bad.head bad.more lawful says same bad.spelled bad.fits.0 bad.fits.1 bad.order in
    absurd (no_bad_length block bad.head lawful heads.1 heads.2 bad.bad)
no_fault_here BlockTooLong before block mid here x part more lawful says same bad =
    let heads = heads_of before block mid here x part more bad.head bad.more lawful says same bad.spelled bad.fits.0 bad.fits.1 bad.order in
    absurd (no_overlong block bad.head lawful heads.1 heads.2 bad.bad)
no_fault_here LengthsDiffer before block mid here x part more lawful says same bad = absurd (no_bad_end before block mid here x part more lawful says same bad)
no_fault_here UnsupportedVersion before block mid here x part more lawful says same bad = no_bad_block UnsupportedVersion before block mid here x part more lawful says same bad
no_fault_here TooManyInterfaces before block mid here x part more lawful says same bad = no_bad_block TooManyInterfaces before block mid here x part more lawful says same bad
no_fault_here BadInterface before block mid here x part more lawful says same bad = no_bad_block BadInterface before block mid here x part more lawful says same bad
no_fault_here UnknownInterface before block mid here x part more lawful says same bad = no_bad_block UnknownInterface before block mid here x part more lawful says same bad
no_fault_here RecordTooLong before block mid here x part more lawful says same bad = no_bad_block RecordTooLong before block mid here x part more lawful says same bad
no_fault_here PacketOverruns before block mid here x part more lawful says same bad = no_bad_block PacketOverruns before block mid here x part more lawful says same bad
no_fault_here EndsInside before block mid here x part more lawful says same bad = absurd bad
no_fault_here OutOfMemory before block mid here x part more lawful says same bad = refl

-- and where nothing comes there is none
no_bad_front : (head : BlockHead) (m part : List ℕ) → length part ≡ 0 → part ≡ block_head_bytes head ++ m → ⊥
no_bad_front head m part none spelled = omega (arith, none, ap length spelled, length-append (block_head_bytes head) m, length-block_head_bytes head)

no_whole_block : (block : Block) (part : List ℕ) → length part ≡ 0 → part ≡ block_bytes block → ⊥
no_whole_block block part none spelled = omega (arith, none, ap length spelled, length-block_bytes block)

no_fault_of_nothing : (fault : PcapngFault) (section : Option SectionParts) (part : List ℕ) → length part ≡ 0 → IsFaultOf fault section part → fault ≡ OutOfMemory
no_fault_of_nothing NoSectionHeader section part none bad = absurd (omega (arith, none, bad.enough))
no_fault_of_nothing BadByteOrder section part none bad =
    absurd (omega (
      arith,
      none,
      ap length bad.spelled,
      length-append (number_bytes Big w32 section_header ++ bad.total) bad.magic,
      bad.sizes.1,
    ))
no_fault_of_nothing BadBlockLength section part none bad = absurd (no_bad_front bad.head bad.more part none bad.spelled)
no_fault_of_nothing BlockTooLong section part none bad = absurd (no_bad_front bad.head bad.more part none bad.spelled)
no_fault_of_nothing LengthsDiffer section part none bad =
    absurd (no_bad_front bad.head (bad.body ++ bad.last) part none (bad.spelled ∙ append_assoc (block_head_bytes bad.head) bad.body bad.last))
no_fault_of_nothing UnsupportedVersion section part none bad = absurd (no_whole_block bad.block part none bad.spelled)
no_fault_of_nothing TooManyInterfaces section part none bad = absurd (no_whole_block bad.block part none bad.spelled)
no_fault_of_nothing BadInterface section part none bad = absurd (no_whole_block bad.block part none bad.spelled)
no_fault_of_nothing UnknownInterface section part none bad = absurd (no_whole_block bad.block part none bad.spelled)
no_fault_of_nothing RecordTooLong section part none bad = absurd (no_whole_block bad.block part none bad.spelled)
no_fault_of_nothing PacketOverruns section part none bad = absurd (no_whole_block bad.block part none bad.spelled)
no_fault_of_nothing EndsInside section part none bad = absurd bad
no_fault_of_nothing OutOfMemory section part none bad = refl

-- so behind blocks of a lawful file there is none
no_fault_behind : (fault : PcapngFault) (before : Option SectionParts) (blocks others : List Block) (after other : Option SectionParts) (records given : List CaptureParts)
    (part more : List ℕ) → AllByRecursion IsBlock blocks → AllByRecursion IsBlock others → Tell before blocks after records → Tell before others other given
    → IsFaultOf fault other part → blocks_bytes blocks ≡ blocks_bytes others ++ (part ++ more) → fault ≡ OutOfMemory
no_fault_behind fault before [] [] after other records given part more p q one two bad same =
    no_fault_of_nothing fault other part (omega (arith, ap length same, length-append part more)) bad
no_fault_behind fault before [] (c ∷ others) after other records given part more p q one two bad same =
    absurd (omega (
      arith,
      ap length same,
      length-append (block_bytes c ++ blocks_bytes others) (part ++ more),
      length-append (block_bytes c) (blocks_bytes others),
      length-block_bytes c,
    ))
no_fault_behind fault before (b ∷ blocks) [] after other records given part more p q one two bad same =
    no_fault_here fault before b one.0 one.1 (blocks_bytes blocks) part more p.0 one.3 same (subst (λ s. IsFaultOf fault s part) two.0 bad)
no_fault_behind fault before (b ∷ blocks) (c ∷ others) after other records given part more p q one two bad same =
    let fronts = front_block before b c (blocks_bytes blocks) (blocks_bytes others ++ (part ++ more)) p.0 q.0
    (says_order (block_kind b.number) before b one.0 one.1 one.3 (blocks_bytes blocks))
    (says_order (block_kind c.number) before c two.0 two.1 two.3 (blocks_bytes others ++ (part ++ more)))
    (same ∙ append_assoc (block_bytes c) (blocks_bytes others) (part ++ more)) in
    let said = same_says (block_kind b.number) before b one.0 two.0 one.1 two.1 one.3 (subst (λ t. Says before t two.0 two.1) (sym fronts.0) two.3) in
    no_fault_behind fault (Some one.0) blocks others after other one.2 two.2 part more p.1 q.1 one.4
    (subst (λ s. Tell (Some s) others other two.2) (sym said.0) two.4) bad fronts.1

-- nor at a front of its bytes
pub no_fault_of_blocks : (fault : PcapngFault) (blocks : List Block) (section : Option SectionParts) (records given : List CaptureParts) (bytes rest : List ℕ)
    → AllByRecursion IsBlock blocks → Tell None blocks section records → blocks_bytes blocks ≡ bytes ++ rest → HasFault given bytes fault → fault ≡ OutOfMemory
no_fault_of_blocks fault blocks section records given bytes rest lawful told same bad =
    no_fault_behind fault None blocks bad.blocks section bad.section records given bad.part (bad.more ++ rest) lawful bad.each told bad.told bad.fault_is
    (same ∙ ap (λ t. t ++ rest) bad.spelled ∙ append_assoc (blocks_bytes bad.blocks) (bad.part ++ bad.more) rest
    ∙ ap (λ t. blocks_bytes bad.blocks ++ t) (append_assoc bad.part bad.more rest))
