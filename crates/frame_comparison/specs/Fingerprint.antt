-- A hash of bytes, which tells most frames apart before their bytes are looked at.
use Rattle.std.specs.Prelude.{ℕ, List}
use Rattle.std.specs.Hash.DefaultHasher.{initial, write, finish}

-- SipHash-1-3 of some bytes: equal bytes have the same one
unfoldable pub siphash : List ℕ → ℕ
siphash bytes = finish (write initial bytes)
