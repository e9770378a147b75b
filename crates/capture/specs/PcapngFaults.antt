-- What the faults of a pcapng file say of its bytes.
use Rattle.std.specs.Prelude.{◌≡◌, ◌≢◌, ℕ, ◌+◌, ◌%◌, ◌^◌, ◌<◌, ◌≤◌, ◌⊎◌, List, [], ◌++◌, length, Option, Some, None}
use Rattle.std.specs.List.{AllByRecursion}
use Rattle.std.specs.Int.{w16, w32}
use Rattle.capture.specs.Endian.{number_bytes}
use Rattle.capture.specs.Pcap.{longest_record}
use Rattle.capture.specs.Pcapng.{Block, block_kind, least_total, IsKept, longest_block, section_header, byte_order_magic, block_head_bytes, block_bytes, blocks_bytes, IsLawfulHead, IsBlock}
use Rattle.capture.specs.PcapngBlocks.{SectionParts, CaptureParts, SpellsInterface, packet_head_bytes, FitsPacketHead, most_interfaces, Tell}
use Rattle.capture.specs.PcapngReading.{HasOrder}
use Rattle.capture.specs.declared.endian.Endian.{Endian}
use Rattle.capture.specs.declared.endian.Endian.TheVariants.{Big}
use Rattle.capture.specs.declared.pcapng.BlockKind.TheVariants.{SectionHeader, InterfaceDescription, EnhancedPacket}
use Rattle.capture.specs.declared.pcapng.BlockHead.{BlockHead}
use Rattle.capture.specs.declared.pcapng.Interface.{Interface}
use Rattle.capture.specs.declared.pcapng_packet.PacketHead.{PacketHead}
use Rattle.capture.specs.declared.pcapng_fault.PcapngFault.{PcapngFault}
use Rattle.capture.specs.declared.pcapng_fault.PcapngFault.TheVariants.{NoSectionHeader, BadByteOrder, BadBlockLength, BlockTooLong, LengthsDiffer, UnsupportedVersion, TooManyInterfaces, BadInterface, UnknownInterface, RecordTooLong, PacketOverruns, EndsInside, OutOfMemory}

-- the file doesn't begin with a section header
pub record HasNoSection (section : Option SectionParts) (part : List ℕ) : Type 0 where
  pub first : section ≡ None
  pub enough : 4 ≤ length part
  pub none : (more : List ℕ) → part ≡ number_bytes Big w32 section_header ++ more → ⊥

-- a section header's third number is the byte-order magic in neither order
pub record HasNoOrder (part : List ℕ) : Type 0 where
  pub total : List ℕ
  pub magic : List ℕ
  pub spelled : part ≡ number_bytes Big w32 section_header ++ total ++ magic
  pub sizes : (length total ≡ 4) × (length magic ≡ 4)
  pub none : (endian : Endian) → magic ≡ number_bytes endian w32 byte_order_magic → ⊥

-- a block's head that can't be
pub record HasBadHead (IsBad : BlockHead → Type 0) (section : Option SectionParts) (part : List ℕ) : Type 0 where
  pub head : BlockHead
  pub more : List ℕ
  pub spelled : part ≡ block_head_bytes head ++ more
  pub fits : (head.number < 2 ^ 32) × (head.total < 2 ^ 32)
  pub order : HasOrder (block_kind head.number) section head.endian more
  pub bad : IsBad head

abbrev pub IsOfBadLength : BlockHead → Type 0
IsOfBadLength head = (head.total < least_total (block_kind head.number)) ⊎ (head.total % 4 ≢ 0)

abbrev pub IsOverlong : BlockHead → Type 0
IsOverlong head = IsKept (block_kind head.number) × (longest_block < head.total)

-- a block whose last four bytes don't say its length
pub record HasBadEnd (section : Option SectionParts) (part : List ℕ) : Type 0 where
  pub head : BlockHead
  pub body : List ℕ
  pub last : List ℕ
  pub spelled : part ≡ block_head_bytes head ++ body ++ last
  pub lawful : IsLawfulHead head
  pub order : HasOrder (block_kind head.number) section head.endian (body ++ last)
  pub sizes : (length body + 12 ≡ head.total) × (length last ≡ 4)
  pub differs : last ≡ number_bytes head.endian w32 head.total → ⊥

-- a packet's head, and what is wrong with it or with the bytes after it
pub record HasBadPacket (IsBad : PacketHead → List ℕ → Type 0) (block : Block) : Type 0 where
  pub packet : block_kind block.number ≡ EnhancedPacket
  pub head : PacketHead
  pub more : List ℕ
  pub body : block.body ≡ packet_head_bytes block.endian head ++ more
  pub fits : FitsPacketHead head
  pub bad : IsBad head more

abbrev pub interfaces_of : Option SectionParts → List Interface
interfaces_of None = []
interfaces_of (Some section) = section.interfaces

-- why a whole block is refused
abbrev pub Refuses : PcapngFault → Option SectionParts → Block → Type 0
Refuses NoSectionHeader section block = ⊥
Refuses BadByteOrder section block = ⊥
Refuses BadBlockLength section block = ⊥
Refuses BlockTooLong section block = ⊥
Refuses LengthsDiffer section block = ⊥
Refuses UnsupportedVersion section block =
    (block_kind block.number ≡ SectionHeader)
    × ((rest : List ℕ) → block.body ≡ number_bytes block.endian w32 byte_order_magic ++ number_bytes block.endian w16 1 ++ rest → ⊥)
Refuses TooManyInterfaces section block = (block_kind block.number ≡ InterfaceDescription) × (most_interfaces ≤ length (interfaces_of section))
Refuses BadInterface section block =
    (block_kind block.number ≡ InterfaceDescription) × ((interface : Interface) → SpellsInterface block.endian block.body interface → ⊥)
Refuses UnknownInterface section block = HasBadPacket (λ head more. length (interfaces_of section) ≤ head.interface) block
Refuses RecordTooLong section block = HasBadPacket (λ head more. longest_record < head.captured) block
Refuses PacketOverruns section block = HasBadPacket (λ head more. length more < head.captured) block
Refuses EndsInside section block = ⊥
Refuses OutOfMemory section block = Unit {0}

pub record HasBadBlock (fault : PcapngFault) (section : Option SectionParts) (part : List ℕ) : Type 0 where
  pub block : Block
  pub spelled : part ≡ block_bytes block
  pub lawful : IsBlock block
  pub order : HasOrder (block_kind block.number) section block.endian block.body
  pub refused : Refuses fault section block

-- what a fault says of the bytes after the last whole block
abbrev pub IsFaultOf : PcapngFault → Option SectionParts → List ℕ → Type 0
IsFaultOf NoSectionHeader section part = HasNoSection section part
IsFaultOf BadByteOrder section part = HasNoOrder part
IsFaultOf BadBlockLength section part = HasBadHead IsOfBadLength section part
IsFaultOf BlockTooLong section part = HasBadHead IsOverlong section part
IsFaultOf LengthsDiffer section part = HasBadEnd section part
IsFaultOf UnsupportedVersion section part = HasBadBlock UnsupportedVersion section part
IsFaultOf TooManyInterfaces section part = HasBadBlock TooManyInterfaces section part
IsFaultOf BadInterface section part = HasBadBlock BadInterface section part
IsFaultOf UnknownInterface section part = HasBadBlock UnknownInterface section part
IsFaultOf RecordTooLong section part = HasBadBlock RecordTooLong section part
IsFaultOf PacketOverruns section part = HasBadBlock PacketOverruns section part
IsFaultOf EndsInside section part = ⊥
IsFaultOf OutOfMemory section part = Unit {0}

-- what a fault says of all bytes that came, the piece among them: whole blocks that tell of the
-- packets that were given, then the fault
pub record HasFault (given : List CaptureParts) (bytes : List ℕ) (fault : PcapngFault) : Type 0 where
  pub blocks : List Block
  pub section : Option SectionParts
  pub part : List ℕ
  pub more : List ℕ
  pub spelled : bytes ≡ blocks_bytes blocks ++ (part ++ more)
  pub each : AllByRecursion IsBlock blocks
  pub told : Tell None blocks section given
  pub fault_is : IsFaultOf fault section part
