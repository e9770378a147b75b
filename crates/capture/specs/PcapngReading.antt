-- What a reader of pcapng has given of the bytes that it took, and what it holds back.
use Rattle.std.specs.Prelude.{◌≡◌, ℕ, ◌+◌, ◌<◌, ◌⊎◌, List, [], ◌++◌, length, Option, Some, None, option_map}
use Rattle.std.specs.List.{AllByRecursion}
use Rattle.std.specs.Int.{w32}
use Rattle.capture.specs.Endian.{number_bytes}
use Rattle.capture.specs.declared.endian.Endian.{Endian}
use Rattle.capture.specs.declared.endian.Endian.TheVariants.{Big}
use Rattle.capture.specs.declared.pcapng.BlockKind.{BlockKind}
use Rattle.capture.specs.declared.pcapng.BlockKind.TheVariants.{SectionHeader, InterfaceDescription, EnhancedPacket, Other}
use Rattle.capture.specs.declared.pcapng.BlockHead.{BlockHead}
use Rattle.capture.specs.declared.pcapng_fault.PcapngFault.{PcapngFault}
use Rattle.capture.specs.Pcapng.{Block, block_kind, section_header, byte_order_magic, block_head_bytes, blocks_bytes, IsLawfulHead, IsBlock}
use Rattle.capture.specs.PcapngBlocks.{SectionParts, CaptureParts, Tell}

-- what a reader knows: what the section has said, of a block that it passes over its head and how
-- many bytes come before the last four, the bytes that it keeps of the block that isn't whole, and
-- the fault that ended it, if one did
pub record PcapngState : Type 0 where
  pub section : Option SectionParts
  pub passing : Option (BlockHead × ℕ)
  pub pending : List ℕ
  pub fault : Option PcapngFault

-- the order of a block's numbers: a section header says it after its head, all other blocks have
-- their section's
abbrev pub HasOrder : BlockKind → Option SectionParts → Endian → List ℕ → Type 0
HasOrder SectionHeader section endian bytes = (more : List ℕ) × (bytes ≡ number_bytes endian w32 byte_order_magic ++ more)
HasOrder InterfaceDescription section endian bytes = option_map (λ parts. parts.endian) section ≡ Some endian
HasOrder EnhancedPacket section endian bytes = option_map (λ parts. parts.endian) section ≡ Some endian
HasOrder Other section endian bytes = option_map (λ parts. parts.endian) section ≡ Some endian

-- the head of a block, and fewer bytes than it says
pub record IsPartOfBlock (section : Option SectionParts) (part : List ℕ) : Type 0 where
  pub head : BlockHead
  pub more : List ℕ
  pub spelled : part ≡ block_head_bytes head ++ more
  pub lawful : IsLawfulHead head
  pub order : HasOrder (block_kind head.number) section head.endian more
  pub fewer : length part < head.total

-- a section header's first bytes, before its order is known
pub record IsPartOfSectionHead (part : List ℕ) : Type 0 where
  pub more : List ℕ
  pub spelled : part ≡ number_bytes Big w32 section_header ++ more
  pub fewer : length part < 12

-- less than a whole block
abbrev pub IsPart : Option SectionParts → List ℕ → Type 0
IsPart section part = (length part < 8) ⊎ (IsPartOfSectionHead part ⊎ IsPartOfBlock section part)

-- what is held back of these bytes: all of them, or, of a block that is passed over, its head and
-- the last ones
abbrev pub IsHeld : Option (BlockHead × ℕ) → List ℕ → List ℕ → Type 0
IsHeld None pending part = part ≡ pending
IsHeld (Some at) pending part =
    (passed : List ℕ) × (part ≡ block_head_bytes at.0 ++ passed ++ pending) × (length passed + at.1 + 12 ≡ at.0.total)

-- A reader that knows this and gave these records has taken these bytes: whole blocks that say so,
-- and less than one more.
pub record HasReadTo (section : Option SectionParts) (passing : Option (BlockHead × ℕ)) (pending : List ℕ) (given : List CaptureParts) (bytes : List ℕ) : Type 0 where
  pub blocks : List Block
  pub part : List ℕ
  pub spelled : bytes ≡ blocks_bytes blocks ++ part
  pub each : AllByRecursion IsBlock blocks
  pub told : Tell None blocks section given
  pub held : IsHeld passing pending part
  pub rest : IsPart section part

abbrev pub HasRead : PcapngState → List CaptureParts → List ℕ → Type 0
HasRead state given bytes = (state.fault ≡ None) × HasReadTo state.section state.passing state.pending given bytes

-- From what a reader knows to what it then knows: it took bytes from the front of the piece, and
-- gave these records.
pub record ReadsOn (section : Option SectionParts) (passing : Option (BlockHead × ℕ)) (pending : List ℕ) (section' : Option SectionParts) (passing' : Option (BlockHead × ℕ))
    (pending' : List ℕ) (given : List CaptureParts) (piece rest : List ℕ) : Type 0 where
  pub used : List ℕ
  pub piece_is : piece ≡ used ++ rest
  pub reads : (records : List CaptureParts) (bytes : List ℕ) → HasReadTo section passing pending records bytes
      → HasReadTo section' passing' pending' (records ++ given) (bytes ++ used)

-- the same of the state, where no fault came before
pub record TakesBlocks (old new : PcapngState) (given : List CaptureParts) (piece rest : List ℕ) : Type 0 where
  pub no_fault : (old.fault ≡ None) × (new.fault ≡ None)
  pub reads_on : ReadsOn old.section old.passing old.pending new.section new.passing new.pending given piece rest

-- all bytes that came are whole blocks, the first one a section header
pub record IsBetweenBlocks (state : PcapngState) : Type 0 where
  pub section : SectionParts
  pub section_is : state.section ≡ Some section
  pub none : state.passing ≡ None
  pub nothing : state.pending ≡ []
  pub no_fault : state.fault ≡ None
