-- Which part of a block of a pcapng file is next, and what of it was read.
use Rattle.std.specs.Prelude.{◌≡◌, ℕ, ◌+◌, ◌<◌, ◌≤◌, ◌⊎◌, List, [], ◌++◌, length, Option, Some, None, option_map, ◌==◌, if◌then◌else◌}
use Rattle.std.specs.Int.{w32}
use Rattle.capture.specs.Endian.{number_bytes}
use Rattle.capture.specs.declared.endian.Endian.{Endian}
use Rattle.capture.specs.declared.endian.Endian.TheVariants.{Big}
use Rattle.capture.specs.declared.pcapng.BlockKind.TheVariants.{Other}
use Rattle.capture.specs.declared.pcapng.BlockHead.{BlockHead}
use Rattle.capture.specs.declared.pcapng_step.BlockStage.{BlockStage}
use Rattle.capture.specs.declared.pcapng_step.BlockStage.TheVariants.{Head, Magic, Whole, Skip}
use Rattle.capture.specs.declared.pcapng_fault.PcapngFault.{PcapngFault}
use Rattle.capture.specs.declared.pcapng_fault.PcapngFault.TheVariants.{NoSectionHeader, BadByteOrder, BadBlockLength, BlockTooLong, LengthsDiffer, UnsupportedVersion, TooManyInterfaces, BadInterface, UnknownInterface, RecordTooLong, PacketOverruns, EndsInside, OutOfMemory}
use Rattle.capture.specs.PcapReading.{MovesOn}
use Rattle.capture.specs.Pcapng.{Block, block_kind, section_header, block_head_bytes, block_bytes, IsLawfulHead, IsBlock}
use Rattle.capture.specs.PcapngBlocks.{SectionParts, CaptureParts, Says}
use Rattle.capture.specs.PcapngReading.{HasOrder, IsHeld, HasReadTo, ReadsOn}
use Rattle.capture.specs.PcapngOptions.{option_bytes, IsOption}
use Rattle.capture.specs.PcapngFaults.{IsOfBadLength, IsOverlong, IsFaultOf, HasFault}

abbrev pub passing_of : BlockStage → Option (BlockHead × ℕ)
passing_of Head = None
passing_of Magic = None
passing_of (Whole head) = None
passing_of (Skip head left) = Some (head, left)

-- how many bytes are kept when the part is whole
abbrev pub wanted : BlockStage → ℕ
wanted Head = 8
wanted Magic = 12
wanted (Whole head) = head.total
wanted (Skip head left) = 4

-- bytes are kept, and none passed over
abbrev pub IsFilling : BlockStage → Type 0
IsFilling Head = Unit {0}
IsFilling Magic = Unit {0}
IsFilling (Whole head) = Unit {0}
IsFilling (Skip head left) = left ≡ 0

-- what is kept begins with the type of a section header
pub record BeginsWithSection (pending : List ℕ) : Type 0 where
  pub more : List ℕ
  pub spelled : pending ≡ number_bytes Big w32 section_header ++ more
  pub enough : 8 ≤ length pending

-- what is kept begins with the head of a block
pub record BeginsWithHead (section : Option SectionParts) (head : BlockHead) (pending : List ℕ) : Type 0 where
  pub more : List ℕ
  pub spelled : pending ≡ block_head_bytes head ++ more
  pub lawful : IsLawfulHead head
  pub order : HasOrder (block_kind head.number) section head.endian more

-- a block is passed over
pub record IsPassing (section : Option SectionParts) (head : BlockHead) : Type 0 where
  pub lawful : IsLawfulHead head
  pub other : block_kind head.number ≡ Other
  pub order : option_map (λ parts. parts.endian) section ≡ Some head.endian

-- what is kept at a stage, whether or not the part is whole
abbrev pub IsKeptAt : BlockStage → Option SectionParts → List ℕ → Type 0
IsKeptAt Head section pending = Unit {0}
IsKeptAt Magic section pending = BeginsWithSection pending
IsKeptAt (Whole head) section pending = BeginsWithHead section head pending
IsKeptAt (Skip head left) section pending = IsPassing section head × (0 < left → pending ≡ []) × (left + 12 ≤ head.total)

-- a part isn't whole
pub record IsInBlock (stage : BlockStage) (section : Option SectionParts) (pending : List ℕ) : Type 0 where
  pub kept : IsKeptAt stage section pending
  pub fewer : length pending < wanted stage

-- the block goes on
pub record StaysInBlock (section section' : Option SectionParts) (part : List ℕ) (passing : Option (BlockHead × ℕ)) (pending : List ℕ) (given : List CaptureParts) : Type 0 where
  pub same : section' ≡ section
  pub none : given ≡ []
  pub held : IsHeld passing pending part

-- the block with this head and this body
abbrev pub block_of : BlockHead → List ℕ → Block
block_of head body = record { endian = head.endian; number = head.number; body = body }

-- a block leaves this section, and gives these records
pub record Leaves (before : Option SectionParts) (block : Block) (section : Option SectionParts) (given : List CaptureParts) : Type 0 where
  pub after : SectionParts
  pub section_is : section ≡ Some after
  pub says : Says before block after given

-- the block is whole
pub record EndsBlock (section section' : Option SectionParts) (part : List ℕ) (passing : Option (BlockHead × ℕ)) (pending : List ℕ) (given : List CaptureParts) : Type 0 where
  pub block : Block
  pub spelled : part ≡ block_bytes block
  pub lawful : IsBlock block
  pub leaves : Leaves section block section' given
  pub nothing : (passing ≡ None) × (pending ≡ [])

-- what a part that is whole leads to
pub record Advances (stage : BlockStage) (section : Option SectionParts) (pending : List ℕ) (stage' : BlockStage) (section' : Option SectionParts) (pending' : List ℕ)
    (given : List CaptureParts) : Type 0 where
  pub in_block : IsInBlock stage' section' pending'
  pub next : (part : List ℕ) → IsHeld (passing_of stage) pending part
      → StaysInBlock section section' part (passing_of stage') pending' given ⊎ EndsBlock section section' part (passing_of stage') pending' given

-- the fault of a block's head
abbrev pub IsFaultOfHead : PcapngFault → BlockHead → Type 0
IsFaultOfHead NoSectionHeader head = ⊥
IsFaultOfHead BadByteOrder head = ⊥
IsFaultOfHead BadBlockLength head = IsOfBadLength head
IsFaultOfHead BlockTooLong head = IsOverlong head
IsFaultOfHead LengthsDiffer head = ⊥
IsFaultOfHead UnsupportedVersion head = ⊥
IsFaultOfHead TooManyInterfaces head = ⊥
IsFaultOfHead BadInterface head = ⊥
IsFaultOfHead UnknownInterface head = ⊥
IsFaultOfHead RecordTooLong head = ⊥
IsFaultOfHead PacketOverruns head = ⊥
IsFaultOfHead EndsInside head = ⊥
IsFaultOfHead OutOfMemory head = ⊥

-- the fault of a part that is whole
abbrev pub IsFaultHere : BlockStage → Option SectionParts → List ℕ → PcapngFault → Type 0
IsFaultHere stage section pending fault = (part : List ℕ) → IsHeld (passing_of stage) pending part → IsFaultOf fault section part

-- from a stage with what is kept to the next one, with the records that were given and what is left
-- of the piece
pub record PassesOn (stage : BlockStage) (section : Option SectionParts) (pending : List ℕ) (stage' : BlockStage) (section' : Option SectionParts) (pending' : List ℕ)
    (given : List CaptureParts) (piece rest : List ℕ) : Type 0 where
  pub in_block : IsInBlock stage' section' pending'
  pub moves : MovesOn piece rest
  pub reads_on : ReadsOn section (passing_of stage) pending section' (passing_of stage') pending' given piece rest

-- a fault that comes at a stage, with this piece
abbrev pub IsFaultWith : BlockStage → Option SectionParts → List ℕ → List ℕ → PcapngFault → Type 0
IsFaultWith stage section pending piece fault =
    (records : List CaptureParts) (bytes : List ℕ) → HasReadTo section (passing_of stage) pending records bytes → HasFault records (bytes ++ piece) fault

-- an option at the front of bytes
pub record IsFrontOption (endian : Endian) (bytes : List ℕ) (code : ℕ) (value rest : List ℕ) : Type 0 where
  pub padding : List ℕ
  pub spelled : bytes ≡ option_bytes endian (record { code = code; value = value; padding = padding }) ++ rest
  pub is_option : IsOption (record { code = code; value = value; padding = padding })

-- the first value of options with type 9, with an option more
abbrev pub first_or : Option (List ℕ) → ℕ → List ℕ → Option (List ℕ)
first_or None code value = if code == 9 then Some value else None
first_or (Some first) code value = Some first
