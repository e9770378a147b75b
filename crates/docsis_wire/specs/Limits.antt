-- The limits of the formats, each in one place.
use Rattle.std.specs.Prelude.{ℕ}

-- the bytes of a segment header
abbrev pub header_length : ℕ
header_length = 8

-- a pointer has 14 bits, and is below this
abbrev pub pointer_limit : ℕ
pointer_limit = 16384

-- a sequence number has 13 bits: segments are numbered modulo this
abbrev pub sequence_modulus : ℕ
sequence_modulus = 8192

-- a SID cluster has 3 bits, and is below this
abbrev pub cluster_limit : ℕ
cluster_limit = 8

-- the greatest length of an extended header, by this project's profile
abbrev pub extended_max : ℕ
extended_max = 240
