use Rattle.std.specs.Prelude.{ℕ, List}
use Rattle.std.specs.Int.{Width, to_be_bytes, to_le_bytes}
use Rattle.capture.specs.declared.endian.Endian.{Endian}
use Rattle.capture.specs.declared.endian.Endian.TheVariants.{Big, Little}

-- the bytes of a number of so many bits, in either order
abbrev pub number_bytes : Endian → Width → ℕ → List ℕ
number_bytes Big width number = to_be_bytes width number
number_bytes Little width number = to_le_bytes width number
