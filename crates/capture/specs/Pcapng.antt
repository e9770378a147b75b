-- Blocks of files of the format pcapng.
use Rattle.std.specs.Prelude.{◌≡◌, ℕ, ◌+◌, ◌-◌, ◌*◌, ◌/◌, ◌%◌, ◌^◌, ◌<◌, ◌≤◌, List, ◌++◌, length, min, Option, Some, None, nat_lt, ◌==◌, if◌then◌else◌}
use Rattle.std.specs.List.{flat_map}
use Rattle.std.specs.Int.{w32}
use Rattle.capture.specs.Endian.{number_bytes}
use Rattle.capture.specs.declared.endian.Endian.{Endian}
use Rattle.capture.specs.declared.endian.Endian.TheVariants.{Big, Little}
use Rattle.capture.specs.declared.pcapng.BlockKind.{BlockKind}
use Rattle.capture.specs.declared.pcapng.BlockKind.TheVariants.{SectionHeader, InterfaceDescription, EnhancedPacket, Other}
use Rattle.capture.specs.declared.pcapng.BlockHead.{BlockHead}
use Rattle.capture.specs.declared.pcapng.TimeUnit.{TimeUnit}
use Rattle.capture.specs.declared.pcapng.TimeUnit.TheVariants.{PowerOfTen, PowerOfTwo}

-- the type of a section header; its bytes are the same in either order
abbrev pub section_header : ℕ
section_header = 0x0A0D0D0A

-- the number at a section's beginning that says in which order its numbers stand
abbrev pub byte_order_magic : ℕ
byte_order_magic = 0x1A2B3C4D

-- what a reader makes of a block of this type
abbrev pub block_kind : ℕ → BlockKind
block_kind number =
    if number == 0x0A0D0D0A then SectionHeader
    else (if number == 1 then InterfaceDescription
    else (if number == 6 then EnhancedPacket
    else Other))

-- the fewest bytes that a block has
abbrev pub least_total : BlockKind → ℕ
least_total SectionHeader = 28
least_total InterfaceDescription = 20
least_total EnhancedPacket = 32
least_total Other = 12

-- a block of another type is passed over, and may have any length
abbrev pub IsKept : BlockKind → Type 0
IsKept SectionHeader = Unit {0}
IsKept InterfaceDescription = Unit {0}
IsKept EnhancedPacket = Unit {0}
IsKept Other = ⊥

-- the greatest length of a section header, an interface or a packet, as a block: 2 MiB
abbrev pub longest_block : ℕ
longest_block = 2097152

-- what a byte-order magic says that is read with its most significant byte first
abbrev pub order_said : ℕ → Option Endian
order_said magic = if magic == 0x1A2B3C4D then Some Big else (if magic == 0x4D3C2B1A then Some Little else None)

-- a block, with the order in which its numbers stand
pub record Block : Type 0 where
  pub endian : Endian
  pub number : ℕ
  pub body : List ℕ

-- its type, and how many bytes it has in all
abbrev pub head_of : Block → BlockHead
head_of block = record { endian = block.endian; number = block.number; total = length block.body + 12 }

abbrev pub block_head_bytes : BlockHead → List ℕ
block_head_bytes head = number_bytes head.endian w32 head.number ++ number_bytes head.endian w32 head.total

-- its length stands at both ends
abbrev pub block_bytes : Block → List ℕ
block_bytes block = block_head_bytes (head_of block) ++ block.body ++ number_bytes block.endian w32 (length block.body + 12)

-- blocks, end to end
abbrev pub blocks_bytes : List Block → List ℕ
blocks_bytes blocks = flat_map block_bytes blocks

-- both numbers have 32 bits, and the length is a multiple of four that is neither too small nor too
-- great for the type
pub record IsLawfulHead (head : BlockHead) : Type 0 where
  pub number : head.number < 2 ^ 32
  pub total : head.total < 2 ^ 32
  pub least : least_total (block_kind head.number) ≤ head.total
  pub fours : head.total % 4 ≡ 0
  pub short : IsKept (block_kind head.number) → head.total ≤ longest_block

abbrev pub IsBlock : Block → Type 0
IsBlock block = IsLawfulHead (head_of block)

-- the unit that the byte of option 9 says: its top bit chooses between powers of ten and of two
abbrev pub unit_said : ℕ → TimeUnit
unit_said byte = if nat_lt byte 128 then PowerOfTen byte else PowerOfTwo (byte - 128)

-- how many of these units a second has
abbrev pub units_per_second : TimeUnit → ℕ
units_per_second (PowerOfTen power) = 10 ^ power
units_per_second (PowerOfTwo power) = 2 ^ power

-- the whole nanoseconds of a time, or the greatest number of 64 bits where they have more
abbrev pub nanoseconds : TimeUnit → ℕ → ℕ
nanoseconds unit time = min (time * 1000000000 / units_per_second unit) (2 ^ 64 - 1)
