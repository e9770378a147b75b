use Rattle.std.specs.Prelude.{◌≡◌, ◌≢◌, ℕ, ◌+◌, ◌%◌, ◌≤◌, ◌⊎◌, Bool, IsTrue, List, [], ◌∷◌, ◌++◌, length, take}
use Rattle.docsis_wire.specs.Limits.{extended_max}
use Rattle.docsis_wire.specs.Words.{two_bytes}

-- Whether there is an extended header is FC's last bit, EHDR_ON. With it MAC_PARM is the extended
-- header's length, which is at most `extended_max` by this project's profile. Without it there is
-- none.
abbrev pub IsExtendedHeader : ℕ → ℕ → List ℕ → Type 0
IsExtendedHeader fc parm ehdr =
    ((fc % 2 ≡ 1) × (parm ≡ length ehdr) × (length ehdr ≤ extended_max)) ⊎ ((fc % 2 ≡ 0) × (ehdr ≡ []))

-- FC values that begin no frame by this project's profile: request frames, and a byte of fill
pub record IsFrameControl (fc : ℕ) : Type 0 where
  pub not_c4 : fc ≢ 0xC4
  pub not_c5 : fc ≢ 0xC5
  pub not_c8 : fc ≢ 0xC8
  pub not_c9 : fc ≢ 0xC9
  pub not_ff : fc ≢ 0xFF

-- A generic MAC header and what follows it: FC, MAC_PARM, LEN, EHDR, HCS and the rest, end to end.
-- LEN counts EHDR and the rest, so the whole has 6 + LEN bytes.
pub record IsGenericFrame (frame : List ℕ) : Type 0 where
  pub fc : ℕ
  pub parm : ℕ
  pub len : ℕ
  pub ehdr : List ℕ
  pub hcs : List ℕ
  pub rest : List ℕ
  pub spelled : frame ≡ fc ∷ parm ∷ two_bytes len ++ ehdr ++ hcs ++ rest
  pub len_is : len ≡ length ehdr + length rest
  pub hcs_is : length hcs ≡ 2
  pub ehdr_is : IsExtendedHeader fc parm ehdr
  pub fc_is : IsFrameControl fc
  pub not_fill : fc + parm + len ≢ 0

-- the bytes up to the end of HCS, where the extended header has so many
abbrev pub header_front : ℕ → List ℕ → List ℕ
header_front ehdr bytes = take (6 + ehdr) bytes

-- A frame: of its header, up to the end of HCS, the check says yes.
pub record IsFrame (check : List ℕ → Bool) (frame : List ℕ) : Type 0 where
  pub generic : IsGenericFrame frame
  pub checked : IsTrue (check (header_front (length generic.ehdr) frame))
