use Rattle.std.specs.Prelude.{◌≡◌, ◌≢◌, ◌<◌, Some, slice_get, ℕ, ◌+◌, ◌*◌, ◌%◌, List, [], ◌∷◌, length, Bool, IsTrue, ◌==◌, ◌&&◌, ◌||◌, nat_lt, if◌then◌else◌}
use Rattle.docsis_wire.specs.Limits.{extended_max}
use Rattle.docsis_wire.specs.Frame.{header_front}
use Rattle.docsis_wire.specs.declared.frame.HeadRead.{HeadRead}
use Rattle.docsis_wire.specs.declared.frame.HeadRead.TheVariants.{Short, Fill, Bad, Head}
use Rattle.docsis_wire.specs.declared.frame.HeadFault.TheVariants.{NoLength, ExtendedTooLong}

-- the frame control bytes of request frames
abbrev pub has_no_length : ℕ → Bool
has_no_length fc = fc == 0xC4 || fc == 0xC5 || fc == 0xC8 || fc == 0xC9

-- the extended header's length, by EHDR_ON and MAC_PARM
abbrev pub extended_len : ℕ → ℕ → ℕ
extended_len fc parm = if fc % 2 == 1 then parm else 0

-- what FC, MAC_PARM and LEN announce, where FC is not 0xFF
abbrev pub head_of_fields : ℕ → ℕ → ℕ → HeadRead
head_of_fields fc parm len =
    if fc == 0 && parm == 0 && len == 0 then Fill
    else (if has_no_length fc then Bad NoLength
    else (if nat_lt extended_max (extended_len fc parm) || nat_lt len (extended_len fc parm) then Bad ExtendedTooLong
    else Head (extended_len fc parm) (6 + len)))

-- what the front of bytes announces: the generic MAC header's table, read from its first line on
abbrev pub head_of : List ℕ → HeadRead
head_of [] = Short
head_of (fc ∷ []) = if fc == 255 then Fill else Short
head_of (fc ∷ parm ∷ []) = if fc == 255 then Fill else Short
head_of (fc ∷ parm ∷ high ∷ []) = if fc == 255 then Fill else Short
head_of (fc ∷ parm ∷ high ∷ low ∷ more) = if fc == 255 then Fill else head_of_fields fc parm (high * 256 + low)

-- a head that announces this frame's length, and a header that the check says yes of
abbrev pub IsHeadOf : (List ℕ → Bool) → List ℕ → HeadRead → Type 0
IsHeadOf check frame read = (ehdr : ℕ) × (read ≡ Head ehdr (length frame)) × IsTrue (check (header_front ehdr frame))

-- too few bytes to say anything: fewer than four, of which the first, if there is one, is not 0xFF
abbrev pub IsShort : List ℕ → Type 0
IsShort bytes = (length bytes < 4) × (slice_get bytes 0 ≢ Some 255)
