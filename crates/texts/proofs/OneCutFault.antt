-- An input of `cut` has one fault, by what `docsis_wire` says of frames and pieces, or can be cut.
use Rattle.std.proofs.Common.{◌≡◌, ◌≢◌, ℕ, List, refl, ap, subst}
use Rattle.docsis_wire.specs.declared.pieces.Piece.{Piece}
use Rattle.docsis_wire.specs.declared.pieces.CutFault.{CutFault}
use Rattle.docsis_wire.specs.declared.pieces.CutFault.TheVariants as cut_fault
use Rattle.docsis_wire.specs.Pieces.{Reports, IsCuttable}
use Rattle.text_lines.specs.declared.fault.TextFault.{TextFault}
use Rattle.text_lines.specs.declared.fault.TextFault.TheVariants.{Trace, Cut, OutOfMemory}
use Rattle.text_lines.specs.Lines.{lines_of}
use Rattle.text_lines.specs.Format.{IsRead}
use Rattle.text_lines.proofs.LinesReadOneWay.{one_reading}
use Rattle.text_lines.proofs.LinesReadOneWay as lines
use Rattle.texts.specs.Cut.{IsCutFault, IsFirstPieceFault, IsPieceFault}
use Rattle.texts.specs.Cut.Line.{FramesAndPieces, nothing, cut_format}
use Rattle.texts.proofs.OneCutLine.{cut_is_determined}
use Rattle.texts.specs.AnyHeader.{any_header}

-- frames and pieces have one fault
abbrev pub OneReport : Type 0
OneReport = (frames : List (List ℕ)) (pieces : List Piece) (fault other : CutFault) → Reports any_header frames pieces fault → Reports any_header frames pieces other → fault ≡ other

-- the lines of an input say these frames and pieces
abbrev ReadsAs : List ℕ → List (List ℕ) → List Piece → Type 0
ReadsAs input frames pieces = IsRead cut_format nothing (lines_of input) (record { frames = frames; pieces = pieces })

-- and say them each time
pub one_input : (input : List ℕ) (frames others : List (List ℕ)) (pieces more : List Piece) → ReadsAs input frames pieces → ReadsAs input others more
    → (frames ≡ others) × (pieces ≡ more)
one_input input frames others pieces more a b =
    let both : FramesAndPieces = record { frames = frames; pieces = pieces } in
    let again : FramesAndPieces = record { frames = others; pieces = more } in
    let same : both ≡ again = one_reading cut_format cut_is_determined (lines_of input) nothing both again a b in
    (ap (λ read. read.frames) same, ap (λ read. read.pieces) same)

-- a fault of frames and pieces is one that `cut` reports of them, and no failed allocation
reported : (frames : List (List ℕ)) (pieces : List Piece) (fault : CutFault) → IsPieceFault frames pieces fault → Reports any_header frames pieces fault
reported frames pieces (cut_fault.BadFrame k) h = h
reported frames pieces (cut_fault.FillInsideFrame k) h = h
reported frames pieces (cut_fault.PointerTooFar k) h = h
reported frames pieces cut_fault.OutOfMemory h = absurd h

not_memory : (frames : List (List ℕ)) (pieces : List Piece) (fault : CutFault) → IsPieceFault frames pieces fault → fault ≡ cut_fault.OutOfMemory → ⊥
not_memory frames pieces fault h is = let P : CutFault → Type 0 = IsPieceFault frames pieces in subst P is h

-- a fault of an input's frames and pieces is one of the same ones read again
reported_again : (input : List ℕ) (frames : List (List ℕ)) (pieces : List Piece) (fault : CutFault) → ReadsAs input frames pieces
    → IsFirstPieceFault input fault → IsPieceFault frames pieces fault
reported_again input frames pieces fault read h =
    let same = one_input input h.frames frames h.pieces pieces h.read read in
    let Frames : List (List ℕ) → Type 0 = λ frames. IsPieceFault frames h.pieces fault in
    let Pieces : List Piece → Type 0 = λ pieces. IsPieceFault frames pieces fault in
    subst Pieces same.1 (subst Frames same.0 h.reported)

one_piece_fault : OneReport → (input : List ℕ) (fault other : CutFault) → IsFirstPieceFault input fault → IsFirstPieceFault input other → fault ≡ other
one_piece_fault one_report input fault other a b =
    one_report b.frames b.pieces fault other (reported b.frames b.pieces fault (reported_again input b.frames b.pieces fault b.read a))
    (reported b.frames b.pieces other b.reported)

-- an input has one fault
pub one_fault : OneReport → (input : List ℕ) (fault other : TextFault) → IsCutFault input fault → fault ≢ OutOfMemory → IsCutFault input other → other ≢ OutOfMemory
    → fault ≡ other
one_fault one_report input (Trace fault) (Trace other) a some b more = ap Trace (lines.one_fault cut_format cut_is_determined nothing (lines_of input) fault other a b)
one_fault one_report input (Trace fault) (Cut other) a some b more = absurd (lines.read_without_fault cut_format cut_is_determined nothing (lines_of input) _ fault b.read a)
one_fault one_report input (Cut fault) (Trace other) a some b more = absurd (lines.read_without_fault cut_format cut_is_determined nothing (lines_of input) _ other a.read b)
one_fault one_report input (Cut fault) (Cut other) a some b more = ap Cut (one_piece_fault one_report input fault other a b)
one_fault one_report input OutOfMemory other a some b more = absurd (some refl)
one_fault one_report input (Trace fault) OutOfMemory a some b more = absurd (more refl)
one_fault one_report input (Cut fault) OutOfMemory a some b more = absurd (more refl)

-- an input whose frames and pieces can be cut has none
pub cut_without_fault : OneReport → (input : List ℕ) (frames : List (List ℕ)) (pieces : List Piece) (fault : TextFault) → ReadsAs input frames pieces
    → IsCuttable any_header frames pieces → IsCutFault input fault → fault ≡ OutOfMemory
cut_without_fault one_report input frames pieces (Trace fault) read can h =
    absurd (lines.read_without_fault cut_format cut_is_determined nothing (lines_of input) _ fault read h)
cut_without_fault one_report input frames pieces (Cut fault) read can h =
    let again = reported_again input frames pieces fault read h in
    absurd (not_memory frames pieces fault again (one_report frames pieces fault cut_fault.OutOfMemory (reported frames pieces fault again) can))
cut_without_fault one_report input frames pieces OutOfMemory read can h = refl
