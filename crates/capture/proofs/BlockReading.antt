-- What a reader of pcapng has given and holds back, with some bytes more.
use Rattle.std.proofs.Common.{◌≡◌, ℕ, ◌-◌, ◌<◌, ◌≤◌, ◌⊎◌, inl, inr, List, [], ◌∷◌, ◌++◌, length, take, drop, Option, Some, None, refl, sym, ap, ◌∙◌, arith, append_assoc, length-append, length-drop, subst, take-append-drop}
use Rattle.std.proofs.lemmas.List.{append-nil, length-take-le}
use Rattle.std.proofs.lemmas.List.Concat.{flat_map-append}
use Rattle.std.specs.Int.{w32}
use Rattle.capture.specs.Endian.{number_bytes}
use Rattle.capture.specs.declared.endian.Endian.{Endian}
use Rattle.capture.specs.declared.endian.Endian.TheVariants.{Big}
use Rattle.capture.specs.declared.pcapng.BlockKind.{BlockKind}
use Rattle.capture.specs.declared.pcapng.BlockKind.TheVariants.{SectionHeader, InterfaceDescription, EnhancedPacket, Other}
use Rattle.capture.specs.declared.pcapng.BlockHead.{BlockHead}
use Rattle.capture.specs.declared.pcapng_step.BlockStage.{BlockStage}
use Rattle.capture.specs.declared.pcapng_step.BlockStage.TheVariants.{Head, Magic, Whole, Skip}
use Rattle.capture.specs.declared.pcapng_fault.PcapngFault.{PcapngFault}
use Rattle.capture.specs.Pcapng.{Block, block_kind, block_head_bytes, block_bytes, blocks_bytes, IsBlock, section_header, byte_order_magic}
use Rattle.capture.specs.PcapngBlocks.{SectionParts, CaptureParts, Says, Tell}
use Rattle.capture.specs.PcapReading.{MovesOn}
use Rattle.capture.specs.Inside.PcapParts.{Completes}
use Rattle.capture.specs.PcapngReading.{HasOrder, IsPart, IsHeld, HasReadTo}
use Rattle.capture.specs.PcapngFaults.{IsFaultOf, HasFault}
use Rattle.capture.specs.Inside.BlockStages.{passing_of, wanted, IsFilling, IsKeptAt, IsInBlock, StaysInBlock, EndsBlock, Advances, PassesOn}
use Rattle.capture.proofs.PcapSteps.{all_more}
use Rattle.capture.proofs.BlockSteps.{length-block_head_bytes}

-- the bytes of one block more
blocks_bytes-push : (blocks : List Block) (block : Block) → blocks_bytes (blocks ++ block ∷ []) ≡ blocks_bytes blocks ++ block_bytes block
blocks_bytes-push blocks block = flat_map-append block_bytes blocks (block ∷ []) ∙ ap (λ t. blocks_bytes blocks ++ t) (append-nil (block_bytes block))

-- what one block more says
tell-push : (before : Option SectionParts) (blocks : List Block) (between : Option SectionParts) (given : List CaptureParts) (block : Block) (after : SectionParts)
    (here : List CaptureParts) → Tell before blocks between given → Says between block after here → Tell before (blocks ++ block ∷ []) (Some after) (given ++ here)
tell-push before [] between given block after here told says = (
  after,
  here,
  [],
  subst (λ s. Says s block after here) told.0 says,
  (refl, refl),
  ap (λ g. g ++ here) told.1 ∙ sym (append-nil here),
)
tell-push before (first ∷ blocks) between given block after here told says = (
  told.0,
  told.1,
  told.2 ++ here,
  told.3,
  tell-push (Some told.0) blocks between told.2 block after here told.4 says,
  ap (λ g. g ++ here) told.5 ∙ append_assoc told.1 told.2 here,
)

-- the order of a block stays known
pub order_on : (kind : BlockKind) (section : Option SectionParts) (e : Endian) (more used : List ℕ) → HasOrder kind section e more → HasOrder kind section e (more ++ used)
order_on SectionHeader section e more used order = (order.0 ++ used, ap (λ t. t ++ used) order.1 ∙ append_assoc (number_bytes e w32 byte_order_magic) order.0 used)
order_on InterfaceDescription section e more used order = order
order_on EnhancedPacket section e more used order = order
order_on Other section e more used order = order

-- what is kept at a stage, with bytes more
pub kept_on : (stage : BlockStage) (section : Option SectionParts) (pending used : List ℕ) → IsFilling stage → IsKeptAt stage section pending
    → IsKeptAt stage section (pending ++ used)
kept_on Head section pending used filling kept = tt
kept_on Magic section pending used filling kept = record {
  more = kept.more ++ used;
  spelled = ap (λ t. t ++ used) kept.spelled ∙ append_assoc (number_bytes Big w32 section_header) kept.more used;
  enough = omega (arith, length-append pending used, kept.enough);
}
kept_on (Whole head) section pending used filling kept = record {
  more = kept.more ++ used;
  spelled = ap (λ t. t ++ used) kept.spelled ∙ append_assoc (block_head_bytes head) kept.more used;
  lawful = kept.lawful;
  order = order_on (block_kind head.number) section head.endian kept.more used kept.order;
}
kept_on (Skip head left) section pending used filling kept = (kept.0, λ some. absurd (omega (arith, filling, some)), kept.2)

-- what is held back, with bytes more
pub held_on : (passing : Option (BlockHead × ℕ)) (pending part used : List ℕ) → IsHeld passing pending part → IsHeld passing (pending ++ used) (part ++ used)
held_on None pending part used held = ap (λ t. t ++ used) held
held_on (Some at) pending part used held =
    (held.0, ap (λ t. t ++ used) held.1 ∙ append_assoc (block_head_bytes at.0 ++ held.0) pending used, held.2)

-- less than a whole block is held back
part_of : (stage : BlockStage) (section : Option SectionParts) (pending part : List ℕ) → IsInBlock stage section pending → IsHeld (passing_of stage) pending part → IsPart section part
part_of Head section pending part in_block held = inl (omega (arith, ap length held, in_block.fewer))
part_of Magic section pending part in_block held =
    inr (inl (record { more = in_block.kept.more; spelled = held ∙ in_block.kept.spelled; fewer = omega (arith, ap length held, in_block.fewer) }))
part_of (Whole head) section pending part in_block held =
    inr (inr (record {
      head = head;
      more = in_block.kept.more;
      spelled = held ∙ in_block.kept.spelled;
      lawful = in_block.kept.lawful;
      order = in_block.kept.order;
      fewer = omega (arith, ap length held, in_block.fewer);
    }))
part_of (Skip head left) section pending part in_block held =
    let passing = in_block.kept.0 in
    inr (inr (record {
      head = head;
      more = held.0 ++ pending;
      spelled = held.1 ∙ append_assoc (block_head_bytes head) held.0 pending;
      lawful = passing.lawful;
      order = subst (λ k. HasOrder k section head.endian (held.0 ++ pending)) (sym passing.other) passing.order;
      fewer =
          omega (
            arith,
            ap length held.1,
            length-append (block_head_bytes head ++ held.0) pending,
            length-append (block_head_bytes head) held.0,
            length-block_head_bytes head,
            held.2,
            in_block.fewer,
          );
    }))

-- between blocks nothing is held back
nothing_held : (passing : Option (BlockHead × ℕ)) (pending : List ℕ) → passing ≡ None → pending ≡ [] → IsHeld passing pending []
nothing_held None pending none nothing = sym nothing
nothing_held (Some at) pending none nothing = absurd (cc)

-- what is held back, once these bytes came
pub came_on : (passing : Option (BlockHead × ℕ)) (pending pending' piece rest part : List ℕ) (came : Completes pending pending' piece rest) → IsHeld passing pending part
    → IsHeld passing pending' (part ++ came.used)
came_on passing pending pending' piece rest part came held =
    subst (λ t. IsHeld passing t (part ++ came.used)) (sym came.whole_is) (held_on passing pending part came.used held)

-- with nothing kept, bytes more were passed over
passed_more : (head : BlockHead) (passed pending part used : List ℕ) → pending ≡ [] → part ≡ block_head_bytes head ++ passed ++ pending
    → part ++ used ≡ block_head_bytes head ++ (passed ++ used) ++ pending
passed_more head passed pending part used nothing spelled =
    let front = block_head_bytes head in
    ap (λ t. t ++ used) (spelled ∙ ap (λ t. front ++ passed ++ t) nothing ∙ append-nil (front ++ passed)) ∙ append_assoc front passed used
    ∙ sym (append-nil (front ++ (passed ++ used))) ∙ ap (λ t. front ++ (passed ++ used) ++ t) (sym nothing)

-- from what a reader has given and holds back to what it then has given and holds back
pub reads_on : (stage : BlockStage) (section : Option SectionParts) (pending : List ℕ) (stage' : BlockStage) (section' : Option SectionParts) (pending' : List ℕ)
    (given : List CaptureParts) (used : List ℕ) → IsInBlock stage' section' pending'
    → ((part : List ℕ) → IsHeld (passing_of stage) pending part
    → StaysInBlock section section' (part ++ used) (passing_of stage') pending' given ⊎ EndsBlock section section' (part ++ used) (passing_of stage') pending' given)
    → (records : List CaptureParts) (bytes : List ℕ) → HasReadTo section (passing_of stage) pending records bytes
    → HasReadTo section' (passing_of stage') pending' (records ++ given) (bytes ++ used)
reads_on stage section pending stage' section' pending' given used in_block next records bytes before =
    elim (next before.part before.held) [
      | inl stays ↦ record {
        blocks = before.blocks;
        part = before.part ++ used;
        spelled = ap (λ t. t ++ used) before.spelled ∙ append_assoc (blocks_bytes before.blocks) before.part used;
        each = before.each;
        told =
            subst (λ s. Tell None before.blocks s (records ++ given)) (sym stays.same)
            (subst (λ g. Tell None before.blocks section g) (sym (append-nil records) ∙ ap (λ g. records ++ g) (sym stays.none)) before.told);
        held = stays.held;
        rest = part_of stage' section' pending' (before.part ++ used) in_block stays.held;
      }
      | inr ends ↦ record {
        blocks = before.blocks ++ ends.block ∷ [];
        part = [];
        spelled =
            ap (λ t. t ++ used) before.spelled ∙ append_assoc (blocks_bytes before.blocks) before.part used ∙ ap (λ t. blocks_bytes before.blocks ++ t) ends.spelled
            ∙ sym (blocks_bytes-push before.blocks ends.block) ∙ sym (append-nil (blocks_bytes (before.blocks ++ ends.block ∷ [])));
        each = all_more IsBlock before.blocks ends.block before.each ends.lawful;
        told =
            subst (λ s. Tell None (before.blocks ++ ends.block ∷ []) s (records ++ given)) (sym ends.leaves.section_is)
            (tell-push None before.blocks section records ends.block ends.leaves.after given before.told ends.leaves.says);
        held = nothing_held (passing_of stage') pending' ends.nothing.0 ends.nothing.1;
        rest = inl (omega arith);
      }
    ]

-- a fault of what came is one of all bytes that came
pub fault_of_all : (fault : PcapngFault) (section : Option SectionParts) (passing : Option (BlockHead × ℕ)) (pending used piece rest : List ℕ) → piece ≡ used ++ rest
    → ((part : List ℕ) → IsHeld passing pending part → IsFaultOf fault section (part ++ used)) → (records : List CaptureParts) (bytes : List ℕ)
    → HasReadTo section passing pending records bytes → HasFault records (bytes ++ piece) fault
fault_of_all fault section passing pending used piece rest piece_is faulty records bytes before = record {
  blocks = before.blocks;
  section = section;
  part = before.part ++ used;
  more = rest;
  spelled =
      ap (λ t. t ++ piece) before.spelled ∙ ap (λ t. blocks_bytes before.blocks ++ before.part ++ t) piece_is
      ∙ append_assoc (blocks_bytes before.blocks) before.part (used ++ rest) ∙ ap (λ t. blocks_bytes before.blocks ++ t) (sym (append_assoc before.part used rest));
  each = before.each;
  told = before.told;
  fault_is = faulty before.part before.held;
}

-- a part that isn't whole stays
pub stays : (stage : BlockStage) (section : Option SectionParts) (pending pending' piece rest : List ℕ) → Completes pending pending' piece rest → IsFilling stage
    → IsKeptAt stage section pending → length pending' < wanted stage → MovesOn piece rest → PassesOn stage section pending stage section pending' [] piece rest
stays stage section pending pending' piece rest came filling kept fewer moves =
    let in_block : IsInBlock stage section pending' =
    record { kept = subst (λ t. IsKeptAt stage section t) (sym came.whole_is) (kept_on stage section pending came.used filling kept); fewer = fewer } in
    record {
      in_block = in_block;
      moves = moves;
      reads_on = record {
        used = came.used;
        piece_is = came.piece_is;
        reads = reads_on stage section pending stage section pending' [] came.used in_block (λ part held.
            inl (record { same = refl; none = refl; held = came_on (passing_of stage) pending pending' piece rest part came held }));
      };
    }

-- a part that is whole leads to what is next
pub goes : (stage : BlockStage) (section : Option SectionParts) (pending between : List ℕ) (stage' : BlockStage) (section' : Option SectionParts) (pending' : List ℕ)
    (given : List CaptureParts) (piece rest : List ℕ) → Completes pending between piece rest → Advances stage section between stage' section' pending' given
    → MovesOn piece rest → PassesOn stage section pending stage' section' pending' given piece rest
goes stage section pending between stage' section' pending' given piece rest came advances moves = record {
  in_block = advances.in_block;
  moves = moves;
  reads_on = record {
    used = came.used;
    piece_is = came.piece_is;
    reads = reads_on stage section pending stage' section' pending' given came.used advances.in_block (λ part held.
        advances.next (part ++ came.used) (came_on (passing_of stage) pending between piece rest part came held));
  };
}

-- bytes of a block are passed over
pub skips : (section : Option SectionParts) (head : BlockHead) (left count : ℕ) (pending piece rest : List ℕ) → IsKeptAt (Skip head left) section pending → length pending < 4
    → 0 < left → count ≤ left → count ≤ length piece → (0 < length piece → 0 < count) → rest ≡ drop count piece
    → PassesOn (Skip head left) section pending (Skip head (left - count)) section pending [] piece rest
skips section head left count pending piece rest kept fewer some most within moves rest_is =
    let used = take count piece in
    let nothing : pending ≡ [] = kept.1 some in
    let size : length used ≡ count = length-take-le count piece within in
    let in_block : IsInBlock (Skip head (left - count)) section pending =
    record { kept = (kept.0, λ more. nothing, omega (arith, kept.2)); fewer = fewer } in
    record {
      in_block = in_block;
      moves = λ more. omega (arith, ap length rest_is, length-drop count piece, moves more, within);
      reads_on = record {
        used = used;
        piece_is = sym (take-append-drop count piece) ∙ ap (λ t. used ++ t) (sym rest_is);
        reads = reads_on (Skip head left) section pending (Skip head (left - count)) section pending [] used in_block (λ part held.
            inl (record {
              same = refl;
              none = refl;
              held = (held.0 ++ used, passed_more head held.0 pending part used nothing held.1, omega (arith, length-append held.0 used, size, held.2, most));
            }));
      };
    }
