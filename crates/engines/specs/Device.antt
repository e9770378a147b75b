-- What a device remembers of its calls.
use Rattle.std.specs.Prelude.{◌≡◌, ◌≢◌, ℕ, ◌+◌, ◌-◌, ◌^◌, min, Bool, true, false, List, [], Result, MatchResult}
use Rattle.engines.specs.declared.device.Device.{Device}

-- the reader or the writer itself
abbrev pub inner_of : {T : Type 0} → Device T → T
inner_of device = device.inner

-- whether a call failed
abbrev pub has_failed : {T : Type 0} → Device T → Bool
has_failed device = device.failed

-- how many bytes the reads gave
abbrev pub given_of : {T : Type 0} → Device T → ℕ
given_of device = device.given

-- whether all that was written by way of the device is flushed: nothing was, or a flush ended well
-- after the last write
abbrev pub is_flushed : {T : Type 0} → Device T → Bool
is_flushed device = device.flushed

-- Whether each read of the device was made by `read_behind`, and so where all that was written to
-- another device was flushed. A read by any other call makes it false for good.
abbrev pub is_read_behind_flushes : {T : Type 0} → Device T → Bool
is_read_behind_flushes device = device.behind_flushes

-- no call was made yet
abbrev pub IsFresh : {T : Type 0} → Device T → Type 0
IsFresh device =
    (has_failed device ≡ false) × (given_of device ≡ 0) × (is_flushed device ≡ true) × (is_read_behind_flushes device ≡ true)

-- a read's bytes are counted, and an error is a failure; what is flushed stays so
abbrev pub RecordsRead : {T E : Type 0} → Device T → Device T → Result ℕ E → Type 0
RecordsRead old new r =
    MatchResult r
    (λ n. (has_failed new ≡ has_failed old) × (given_of new ≡ min (given_of old + n) (2 ^ 64 - 1)))
    (λ _. (has_failed new ≡ true) × (given_of new ≡ given_of old)) × (is_flushed new ≡ is_flushed old)

-- a write that took some bytes, or had none to take, is no failure; every other one is; none gives
-- bytes, and none is flushed yet
abbrev pub RecordsWrite : {T E : Type 0} → Device T → Device T → List ℕ → Result ℕ E → Type 0
RecordsWrite old new buf r =
    MatchResult r
    (λ n. ((n ≢ 0) → has_failed new ≡ has_failed old) × (buf ≡ [] → has_failed new ≡ has_failed old)
    × (n ≡ 0 → buf ≢ [] → has_failed new ≡ true))
    (λ _. has_failed new ≡ true) × (given_of new ≡ given_of old) × (is_flushed new ≡ false)

-- a flush fails where it answers an error, and gives no bytes; where it answers none, all that was
-- written is flushed
abbrev pub RecordsFlush : {T E : Type 0} → Device T → Device T → Result (Unit {0}) E → Type 0
RecordsFlush old new r =
    MatchResult r
    (λ _. (has_failed new ≡ has_failed old) × (is_flushed new ≡ true))
    (λ _. (has_failed new ≡ true) × (is_flushed new ≡ is_flushed old)) × (given_of new ≡ given_of old)
