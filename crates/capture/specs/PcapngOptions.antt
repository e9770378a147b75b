-- The options at the end of a block, and the unit of time that they say.
use Rattle.std.specs.Prelude.{◌≡◌, ◌≢◌, ℕ, ◌-◌, ◌%◌, ◌^◌, ◌<◌, ◌⊎◌, List, [], ◌∷◌, ◌++◌, length, find, Option, Some, None, option_map, ◌==◌}
use Rattle.std.specs.List.{flat_map, AllByRecursion}
use Rattle.std.specs.Int.{w16}
use Rattle.capture.specs.Endian.{number_bytes}
use Rattle.capture.specs.Pcapng.{unit_said}
use Rattle.capture.specs.declared.endian.Endian.{Endian}
use Rattle.capture.specs.declared.pcapng.TimeUnit.{TimeUnit}
use Rattle.capture.specs.declared.pcapng.TimeUnit.TheVariants.{PowerOfTen}

-- an option: its type, its value, and bytes up to a multiple of four
pub record OptionParts : Type 0 where
  pub code : ℕ
  pub value : List ℕ
  pub padding : List ℕ

abbrev pub option_bytes : Endian → OptionParts → List ℕ
option_bytes endian parts = number_bytes endian w16 parts.code ++ number_bytes endian w16 (length parts.value) ++ parts.value ++ parts.padding

abbrev pub options_bytes : Endian → List OptionParts → List ℕ
options_bytes endian options = flat_map (option_bytes endian) options

pub record IsOption (parts : OptionParts) : Type 0 where
  pub code : parts.code < 2 ^ 16
  pub size : length parts.value < 2 ^ 16
  pub padded : length parts.padding ≡ (4 - length parts.value % 4) % 4

-- an option after which there may be more: its type isn't 0
pub record IsOrdinary (parts : OptionParts) : Type 0 where
  pub is_option : IsOption parts
  pub ordinary : parts.code ≢ 0

-- an option of type 0 ends the options, whatever follows it
pub record EndsOptions (endian : Endian) (bytes : List ℕ) : Type 0 where
  pub last : OptionParts
  pub more : List ℕ
  pub spelled : bytes ≡ option_bytes endian last ++ more
  pub is_option : IsOption last
  pub ends : last.code ≡ 0

-- the bytes are these options, and then nothing or one that ends them
pub record SpellsOptions (endian : Endian) (bytes : List ℕ) (options : List OptionParts) : Type 0 where
  pub after : List ℕ
  pub spelled : bytes ≡ options_bytes endian options ++ after
  pub each : AllByRecursion IsOrdinary options
  pub ended : (after ≡ []) ⊎ EndsOptions endian after

-- the value of the first option of a type
abbrev pub first_value : ℕ → List OptionParts → Option (List ℕ)
first_value code options = option_map (λ parts. parts.value) (find (λ parts. parts.code == code) options)

-- a unit of one byte, or a millionth of a second where none is said
abbrev pub unit_from : Option (List ℕ) → Option TimeUnit
unit_from None = Some (PowerOfTen 6)
unit_from (Some []) = None
unit_from (Some (byte ∷ [])) = Some (unit_said byte)
unit_from (Some (byte ∷ other ∷ more)) = None

-- option 9 says the unit
pub record SaysUnit (endian : Endian) (bytes : List ℕ) (unit : TimeUnit) : Type 0 where
  pub options : List OptionParts
  pub spelled : SpellsOptions endian bytes options
  pub unit_is : unit_from (first_value 9 options) ≡ Some unit
