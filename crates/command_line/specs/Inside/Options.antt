-- What the options of the commands ask for.
use Rattle.std.specs.Prelude.{◌≡◌, ◌≤◌, ◌⊎◌, ℕ, List, codes, Option, Some, None, Result, Ok, Err}
use Rattle.docsis_wire.specs.declared.pieces.FillByte.{FillByte}
use Rattle.docsis_wire.specs.declared.pieces.FillByte.TheVariants.{Zero, Ones}
use Rattle.text_lines.specs.declared.capacities.Capacities.{Capacities}
use Rattle.text_lines.specs.Number.{IsNumber}
use Rattle.text_lines.specs.Capacities.{default_capacity}
use Rattle.command_line.specs.declared.command.UsageFault.{UsageFault}
use Rattle.command_line.specs.declared.command.UsageFault.TheVariants.{Usage, OutOfMemory}

-- the greatest number of a segment
abbrev pub sequence_max : ℕ
sequence_max = 8191

-- the greatest capacity of a mailbox and of a ring
abbrev pub capacity_max : ℕ
capacity_max = 65535

-- the number that the option `first` asks for, 0 where it is left out
abbrev pub IsFirst : Option (List ℕ) → ℕ → Type 0
IsFirst None first = first ≡ 0
IsFirst (Some text) first = IsNumber text sequence_max first

-- the fill that the option `fill` asks for, zeros where it is left out
abbrev pub IsFill : Option (List ℕ) → FillByte → Type 0
IsFill None fill = fill ≡ Zero
IsFill (Some text) fill = ((text ≡ codes "zero") × (fill ≡ Zero)) ⊎ ((text ≡ codes "ones") × (fill ≡ Ones))

-- the options of `cut` were read: both have a value, or one has none
abbrev pub ReadsOptions : Option (List ℕ) → Option (List ℕ) → Result (ℕ × FillByte) UsageFault → Type 0
ReadsOptions first fill (Ok options) = IsFirst first options.0 × IsFill fill options.1
ReadsOptions first fill (Err Usage) = ((n : ℕ) → ¬ IsFirst first n) ⊎ ((byte : FillByte) → ¬ IsFill fill byte)
ReadsOptions first fill (Err OutOfMemory) = ⊥

-- the number from 1 to the most that an option asks for, the default one where it is left out
abbrev pub IsCount : ℕ → ℕ → Option (List ℕ) → ℕ → Type 0
IsCount most default None count = count ≡ default
IsCount most default (Some text) count = IsNumber text most count × (1 ≤ count)

-- an option's number was read, or it has none
abbrev pub ReadsCount : ℕ → ℕ → Option (List ℕ) → Result ℕ UsageFault → Type 0
ReadsCount most default option (Ok count) = IsCount most default option count
ReadsCount most default option (Err Usage) = (n : ℕ) → ¬ IsCount most default option n
ReadsCount most default option (Err OutOfMemory) = ⊥

-- the capacity that an option asks for
abbrev pub IsCapacity : Option (List ℕ) → ℕ → Type 0
IsCapacity = IsCount capacity_max default_capacity

-- the options of `run` were read: both have a value, or one has none
abbrev pub ReadsCapacities : Option (List ℕ) → Option (List ℕ) → Result Capacities UsageFault → Type 0
ReadsCapacities mailbox ring (Ok capacities) = IsCapacity mailbox capacities.mailbox × IsCapacity ring capacities.ring
ReadsCapacities mailbox ring (Err Usage) = ((n : ℕ) → ¬ IsCapacity mailbox n) ⊎ ((n : ℕ) → ¬ IsCapacity ring n)
ReadsCapacities mailbox ring (Err OutOfMemory) = ⊥
