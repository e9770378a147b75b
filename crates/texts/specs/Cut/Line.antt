-- The lines of `cut`: each carries one frame or one piece, or has a fault.
use Rattle.std.specs.Prelude.{◌≡◌, ◌≢◌, ◌⊎◌, ℕ, List, [], ◌∷◌, ◌++◌, length, codes}
use Rattle.docsis_wire.specs.declared.pieces.Piece.{Piece}
use Rattle.text_lines.specs.declared.fault.TraceKind.{TraceKind}
use Rattle.text_lines.specs.declared.fault.TraceKind.TheVariants.{UnknownLine, SetupLate, FieldCount, BadNumber, BadWord, NotHex, UnknownFlow, TooManyFlows, SameFlow, SameSid, TooShort, PointerPast}
use Rattle.text_lines.specs.Field.{SpellsBytes, IsHex}
use Rattle.text_lines.specs.Number.{IsNumber, IsNoNumber}
use Rattle.text_lines.specs.Format.{Format}

-- the word that begins the line of a frame
abbrev pub frame_word : List ℕ
frame_word = codes "frame"

-- the word that begins the line of a piece
abbrev pub piece_word : List ℕ
piece_word = codes "piece"

-- the greatest number of bytes, and of fill, that a piece can name
abbrev pub piece_number_max : ℕ
piece_number_max = 65535

-- after the word `frame` one field spells the bytes of this frame
pub record CarriesFrame (fields : List (List ℕ)) (frame : List ℕ) : Type 0 where
  pub field : List ℕ
  pub are : fields ≡ frame_word ∷ field ∷ []
  pub spelled : SpellsBytes field frame

-- after the word `piece` stand the two numbers of this piece, how many bytes and how much fill
pub record CarriesPiece (fields : List (List ℕ)) (piece : Piece) : Type 0 where
  pub bytes : List ℕ
  pub fill : List ℕ
  pub are : fields ≡ piece_word ∷ bytes ∷ fill ∷ []
  pub bytes_is : IsNumber bytes piece_number_max piece.bytes
  pub fill_is : IsNumber fill piece_number_max piece.fill

-- the first field is neither `frame` nor `piece`
pub record IsUnknown (fields : List (List ℕ)) : Type 0 where
  pub word : List ℕ
  pub more : List (List ℕ)
  pub are : fields ≡ word ∷ more
  pub no_frame : word ≢ frame_word
  pub no_piece : word ≢ piece_word

-- after this word there are more or fewer fields than so many
pub record HasOtherCount (fields : List (List ℕ)) (word : List ℕ) (count : ℕ) : Type 0 where
  pub more : List (List ℕ)
  pub are : fields ≡ word ∷ more
  pub other : length more ≢ count

-- after the word `piece` stand two fields, and one of them is no number in its range
pub record HasBadNumber (fields : List (List ℕ)) : Type 0 where
  pub bytes : List ℕ
  pub fill : List ℕ
  pub are : fields ≡ piece_word ∷ bytes ∷ fill ∷ []
  pub bad : IsNoNumber bytes piece_number_max ⊎ IsNoNumber fill piece_number_max

-- after the word `frame` one field is no hexadecimal field
pub record HasBadHex (fields : List (List ℕ)) : Type 0 where
  pub field : List ℕ
  pub are : fields ≡ frame_word ∷ field ∷ []
  pub no_bytes : ¬ IsHex field

-- The faults of a line's fields. No line has two of them, so that the least is the one that it has:
-- after an unknown word nothing is looked for, with a wrong number of fields there is no field to
-- look at, and a frame has no numbers and a piece no hexadecimal field.
abbrev pub HasFault : List (List ℕ) → TraceKind → Type 0
HasFault fields UnknownLine = IsUnknown fields
HasFault fields SetupLate = ⊥
HasFault fields FieldCount = HasOtherCount fields frame_word 1 ⊎ HasOtherCount fields piece_word 2
HasFault fields BadNumber = HasBadNumber fields
HasFault fields BadWord = ⊥
HasFault fields NotHex = HasBadHex fields
HasFault fields UnknownFlow = ⊥
HasFault fields TooManyFlows = ⊥
HasFault fields SameFlow = ⊥
HasFault fields SameSid = ⊥
HasFault fields TooShort = ⊥
HasFault fields PointerPast = ⊥

-- the frames and the pieces that some lines carry, each in their order
pub record FramesAndPieces : Type 0 where
  pub frames : List (List ℕ)
  pub pieces : List Piece

-- what no lines carry
abbrev pub nothing : FramesAndPieces
nothing = record { frames = []; pieces = [] }

-- the fields carry one more frame, after these
pub record AddsFrame (before : FramesAndPieces) (fields : List (List ℕ)) (after : FramesAndPieces) : Type 0 where
  pub frame : List ℕ
  pub carries : CarriesFrame fields frame
  pub added : after ≡ record before { frames = before.frames ++ frame ∷ [] }

-- the fields carry one more piece, after these
pub record AddsPiece (before : FramesAndPieces) (fields : List (List ℕ)) (after : FramesAndPieces) : Type 0 where
  pub piece : Piece
  pub carries : CarriesPiece fields piece
  pub added : after ≡ record before { pieces = before.pieces ++ piece ∷ [] }

-- Lines say the frames and the pieces that they carry, mixed at will. The faults of a line don't
-- depend on the lines above it.
abbrev pub cut_format : Format FramesAndPieces
cut_format = record {
  Takes = λ before fields after. AddsFrame before fields after ⊎ AddsPiece before fields after;
  HasFault = λ above. HasFault;
}
