-- What the blocks of a pcapng file say, one after another.
use Rattle.std.specs.Prelude.{◌≡◌, ℕ, ◌+◌, ◌*◌, ◌^◌, ◌<◌, ◌≤◌, List, [], ◌∷◌, ◌++◌, length, Option, Some, slice_get}
use Rattle.std.specs.Int.{w16, w32}
use Rattle.capture.specs.Endian.{number_bytes}
use Rattle.capture.specs.Pcap.{longest_record}
use Rattle.capture.specs.Pcapng.{Block, block_kind, byte_order_magic, nanoseconds}
use Rattle.capture.specs.PcapngOptions.{SaysUnit}
use Rattle.capture.specs.declared.endian.Endian.{Endian}
use Rattle.capture.specs.declared.pcapng.BlockKind.{BlockKind}
use Rattle.capture.specs.declared.pcapng.BlockKind.TheVariants.{SectionHeader, InterfaceDescription, EnhancedPacket, Other}
use Rattle.capture.specs.declared.pcapng.Interface.{Interface}
use Rattle.capture.specs.declared.pcapng_packet.PacketHead.{PacketHead}

-- what a section has said: the order of its numbers, and its interfaces so far
pub record SectionParts : Type 0 where
  pub endian : Endian
  pub interfaces : List Interface

-- a packet as it was captured, without where it lies in memory
pub record CaptureParts : Type 0 where
  pub link_type : ℕ
  pub nanoseconds : ℕ
  pub original : ℕ
  pub bytes : List ℕ

-- a section has at most so many interfaces
abbrev pub most_interfaces : ℕ
most_interfaces = 4096

-- a section header: the byte-order magic, version 1, and bytes that aren't looked at
pub record BeginsSection (block : Block) (after : SectionParts) (given : List CaptureParts) : Type 0 where
  pub rest : List ℕ
  pub body : block.body ≡ number_bytes block.endian w32 byte_order_magic ++ number_bytes block.endian w16 1 ++ rest
  pub after_is : after ≡ record { endian = block.endian; interfaces = [] }
  pub none : given ≡ []

-- an interface's description: its link type, six bytes that aren't looked at, and options
pub record SpellsInterface (endian : Endian) (body : List ℕ) (interface : Interface) : Type 0 where
  pub unread : List ℕ
  pub options : List ℕ
  pub spelled : body ≡ number_bytes endian w16 interface.link_type ++ unread ++ options
  pub six : length unread ≡ 6
  pub link_type : interface.link_type < 2 ^ 16
  pub unit : SaysUnit endian options interface.unit

pub record AddsInterface (before : Option SectionParts) (block : Block) (after : SectionParts) (given : List CaptureParts) : Type 0 where
  pub section : SectionParts
  pub before_is : before ≡ Some section
  pub order : block.endian ≡ section.endian
  pub interface : Interface
  pub spelled : SpellsInterface block.endian block.body interface
  pub room : length section.interfaces < most_interfaces
  pub after_is : after ≡ record { endian = section.endian; interfaces = section.interfaces ++ interface ∷ [] }
  pub none : given ≡ []

-- the twenty bytes before a packet's own
abbrev pub packet_head_bytes : Endian → PacketHead → List ℕ
packet_head_bytes endian head =
    number_bytes endian w32 head.interface
    ++ number_bytes endian w32 head.high
    ++ number_bytes endian w32 head.low
    ++ number_bytes endian w32 head.captured
    ++ number_bytes endian w32 head.original

-- its numbers have 32 bits
pub record FitsPacketHead (head : PacketHead) : Type 0 where
  pub interface : head.interface < 2 ^ 32
  pub high : head.high < 2 ^ 32
  pub low : head.low < 2 ^ 32
  pub captured : head.captured < 2 ^ 32
  pub original : head.original < 2 ^ 32

-- a packet of an interface; its time stands in two halves
abbrev pub captured_packet : Interface → PacketHead → List ℕ → CaptureParts
captured_packet interface head bytes = record {
  link_type = interface.link_type;
  nanoseconds = nanoseconds interface.unit (head.high * 4294967296 + head.low);
  original = head.original;
  bytes = bytes;
}

-- a packet: its head, the bytes that were captured, at most 1 MiB, and padding and options, which
-- aren't looked at
pub record GivesPacket (before : Option SectionParts) (block : Block) (after : SectionParts) (given : List CaptureParts) : Type 0 where
  pub section : SectionParts
  pub before_is : before ≡ Some section
  pub order : block.endian ≡ section.endian
  pub head : PacketHead
  pub bytes : List ℕ
  pub rest : List ℕ
  pub body : block.body ≡ packet_head_bytes block.endian head ++ bytes ++ rest
  pub fits : FitsPacketHead head
  pub size : length bytes ≡ head.captured
  pub short : head.captured ≤ longest_record
  pub interface : Interface
  pub known : slice_get section.interfaces head.interface ≡ Some interface
  pub after_is : after ≡ section
  pub given_is : given ≡ captured_packet interface head bytes ∷ []

-- any other block of a section
pub record IsPassedOver (before : Option SectionParts) (block : Block) (after : SectionParts) (given : List CaptureParts) : Type 0 where
  pub section : SectionParts
  pub before_is : before ≡ Some section
  pub order : block.endian ≡ section.endian
  pub after_is : after ≡ section
  pub none : given ≡ []

abbrev pub SaysBy : BlockKind → Option SectionParts → Block → SectionParts → List CaptureParts → Type 0
SaysBy SectionHeader before block after given = BeginsSection block after given
SaysBy InterfaceDescription before block after given = AddsInterface before block after given
SaysBy EnhancedPacket before block after given = GivesPacket before block after given
SaysBy Other before block after given = IsPassedOver before block after given

-- after what a section has said, a block leaves what it then has said, and gives these packets
abbrev pub Says : Option SectionParts → Block → SectionParts → List CaptureParts → Type 0
Says before block after given = SaysBy (block_kind block.number) before block after given

-- and so do blocks, one after another
abbrev pub Tell : Option SectionParts → List Block → Option SectionParts → List CaptureParts → Type 0
Tell before [] after given = (after ≡ before) × (given ≡ [])
Tell before (block ∷ blocks) after given =
    (between : SectionParts) × (here : List CaptureParts) × (later : List CaptureParts) × Says before block between here × Tell (Some between) blocks after later × (given ≡ here ++ later)
