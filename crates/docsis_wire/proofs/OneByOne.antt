-- Segments that are made one after another are, in the end, a lawful cut.
use Rattle.std.proofs.Common.{◌≡◌, Bool, ℕ, ◌+◌, Option, Some, None, List, [], ◌∷◌, ◌++◌, length, refl, sym, ◌∙◌, ap, subst}
use Rattle.std.proofs.lemmas.List.{length_push}
use Rattle.docsis_wire.specs.declared.pieces.FillByte.{FillByte}
use Rattle.docsis_wire.specs.declared.pieces.Piece.{Piece}
use Rattle.docsis_wire.specs.declared.segment.Segment.{Segment}
use Rattle.docsis_wire.specs.Cut.{IsLawfulCut}
use Rattle.docsis_wire.specs.Pieces.{fill_byte, chunks_of, ArePieceSegments, IsCuttable}
use Rattle.docsis_wire.specs.CutUnderWay.{CutUnderWay, IsMade, IsSameCut, HasMade, GivesNext}
use Rattle.docsis_wire.proofs.Made.{AreMade-push, IsLawfulCut-from_made, ArePieceSegments-from_made}

-- before the first there is none
pub HasMade-none : (cut : CutUnderWay) → cut.made ≡ 0 → HasMade cut []
HasMade-none cut none = record { size = sym none; made_each = λ k segment is. absurd cc }

-- what is the same cut is so at a later moment too
pub IsSameCut-later : (begun before after : CutUnderWay) (made : ℕ) → IsSameCut begun before → after ≡ record before { made = made } → IsSameCut begun after
IsSameCut-later begun before after made same e = record {
  same_frames = ap (λ c. c.frames) e ∙ same.same_frames;
  same_pieces = ap (λ c. c.pieces) e ∙ same.same_pieces;
  same_first = ap (λ c. c.first) e ∙ same.same_first;
  same_fill = ap (λ c. c.fill) e ∙ same.same_fill;
}

-- one more
pub HasMade-more : (begun before after : CutUnderWay) (segments : List Segment) (segment : Segment) → IsSameCut begun before → HasMade before segments
    → GivesNext before after (Some segment) → IsSameCut begun after × HasMade after (segments ++ segment ∷ [])
HasMade-more begun before after segments segment same so_far next =
    let P : ℕ → Type 0 = λ k. IsMade before.frames before.pieces before.first (fill_byte before.fill) k segment in
    let Q : CutUnderWay → Type 0 = λ c. HasMade c (segments ++ segment ∷ []) in
    let made = AreMade-push before.frames before.pieces before.first (fill_byte before.fill) segments segment (segments ++ segment ∷ []) so_far.made_each
    (subst P (sym so_far.size) next.0) refl in (
      IsSameCut-later begun before after (before.made + 1) same next.1,
      subst Q (sym next.1) record { size = length_push segments segment ∙ ap (λ n. n + 1) so_far.size; made_each = made },
    )

-- where there is no next segment all were made
all_made : (before after : CutUnderWay) (answer : Option Segment) → GivesNext before after answer → ((segment : Segment) → answer ≡ Some segment → ⊥)
    → before.made ≡ length before.pieces
all_made before after None next none = next.0
all_made before after (Some segment) next none = absurd (none segment refl)

-- these are the segments of the cut, a lawful one
abbrev IsCutInto : (List ℕ → Bool) → CutUnderWay → List Segment → Type 0
IsCutInto check cut segments =
    IsLawfulCut check cut.frames cut.first (fill_byte cut.fill) (chunks_of cut.frames cut.pieces) segments
    × ArePieceSegments (fill_byte cut.fill) cut.frames cut.pieces segments

-- the cut at its last moment is the cut at its first
cut_by_same : (check : List ℕ → Bool) (cut other : CutUnderWay) (segments : List Segment) → IsSameCut cut other → IsCutInto check other segments → IsCutInto check cut segments
cut_by_same check cut other segments same h =
    let Is : List (List ℕ) → List Piece → ℕ → FillByte → Type 0 = λ frames pieces first fill.
    IsLawfulCut check frames first (fill_byte fill) (chunks_of frames pieces) segments × ArePieceSegments (fill_byte fill) frames pieces segments in
    subst (λ fill. Is cut.frames cut.pieces cut.first fill) same.same_fill
    (subst (λ first. Is cut.frames cut.pieces first other.fill) same.same_first
    (subst (λ pieces. Is cut.frames pieces other.first other.fill) same.same_pieces
    (subst (λ frames. Is frames other.pieces other.first other.fill) same.same_frames h)))

-- what can be cut can be cut at each moment of the cut
cuttable_by_same : (check : List ℕ → Bool) (cut other : CutUnderWay) → IsSameCut cut other → IsCuttable check cut.frames cut.pieces → IsCuttable check other.frames other.pieces
cuttable_by_same check cut other same h =
    subst (λ pieces. IsCuttable check other.frames pieces) (sym same.same_pieces) (subst (λ frames. IsCuttable check frames cut.pieces) (sym same.same_frames) h)

-- all of them
pub HasMade-all : (check : List ℕ → Bool) (begun cut after : CutUnderWay) (segments : List Segment) (answer : Option Segment) → IsCuttable check begun.frames begun.pieces → IsSameCut begun cut → HasMade cut segments
    → GivesNext cut after answer → ((segment : Segment) → answer ≡ Some segment → ⊥)
    → IsLawfulCut check begun.frames begun.first (fill_byte begun.fill) (chunks_of begun.frames begun.pieces) segments
    × ArePieceSegments (fill_byte begun.fill) begun.frames begun.pieces segments
HasMade-all check begun cut after segments answer cuttable same so_far next none =
    let all = all_made cut after answer next none in
    cut_by_same check begun cut segments same (
      IsLawfulCut-from_made check cut.frames cut.pieces cut.first cut.fill segments (cuttable_by_same check begun cut same cuttable) (so_far.size ∙ all) so_far.made_each,
      ArePieceSegments-from_made cut.frames cut.pieces cut.first (fill_byte cut.fill) segments so_far.made_each,
    )

-- all of them have what the pieces name
pub HasMade-named : (begun cut : CutUnderWay) (segments : List Segment) → IsSameCut begun cut → HasMade cut segments → ArePieceSegments (fill_byte begun.fill) begun.frames begun.pieces segments
HasMade-named begun cut segments same so_far =
    let Is : List (List ℕ) → List Piece → FillByte → Type 0 = λ frames pieces fill. ArePieceSegments (fill_byte fill) frames pieces segments in
    subst (λ fill. Is begun.frames begun.pieces fill) same.same_fill
    (subst (λ pieces. Is begun.frames pieces cut.fill) same.same_pieces
    (subst (λ frames. Is frames cut.pieces cut.fill) same.same_frames
    (ArePieceSegments-from_made cut.frames cut.pieces cut.first (fill_byte cut.fill) segments so_far.made_each)))
