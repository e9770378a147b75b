-- The lines of the segments that a cut gave so far.
use Rattle.std.proofs.Common.{◌≡◌, ℕ, List, [], ◌∷◌, ◌++◌, append-nil, sym, ap, ◌∙◌, subst, append_assoc}
use Rattle.std.specs.Prelude.{flat_map}
use Rattle.std.proofs.lemmas.Grind.{flat_map-append}
use Rattle.docsis_wire.specs.CutUnderWay.{CutUnderWay, HasMade}
use Rattle.docsis_wire.specs.declared.segment.Segment.{Segment}
use Rattle.hex.specs.Hex.{encode_lower}
use Rattle.text_lines.specs.Putting.{Puts}
use Rattle.text_lines.proofs.SpelledBytes.{encode_lower_append}
use Rattle.texts.specs.Cut.{segment_line}
use Rattle.text_lines.proofs.PutTexts.{puts-then}

module _ {T : Type 0} (after : T → List ℕ → T → Type 0) where
  -- the lines of the segments that were given were put
  pub record PutSoFar (cut : CutUnderWay) (start now : T) : Type 0 where
    pub segments : List Segment
    pub made : HasMade cut segments
    pub put : Puts after start (flat_map segment_line segments) now

  -- one more segment was given and put
  pub PutSoFar-more : (before next : CutUnderWay) (segment : Segment) (start middle now : T) (so_far : PutSoFar before start middle)
      → HasMade next (so_far.segments ++ segment ∷ []) → Puts after middle (segment_line segment) now → PutSoFar next start now
  PutSoFar-more before next segment start middle now so_far made one = record {
    segments = so_far.segments ++ segment ∷ [];
    made = made;
    put = subst (λ (all : List ℕ). Puts after start all now)
        (ap (λ (last : List ℕ). flat_map segment_line so_far.segments ++ last) (sym (append-nil (segment_line segment)))
        ∙ sym (flat_map-append segment_line so_far.segments (segment ∷ [])))
        (puts-then after so_far.put one);
  }

  -- the digits of a payload's front were put, and this is what is left of it
  pub record SpelledSoFar (payload left : List ℕ) (start now : T) : Type 0 where
    pub front : List ℕ
    pub whole : front ++ left ≡ payload
    pub put : Puts after start (encode_lower front) now

  -- the next part was put too
  pub SpelledSoFar-more : (payload left part rest : List ℕ) (start middle now : T) (so_far : SpelledSoFar payload left start middle) → left ≡ part ++ rest
      → Puts after middle (encode_lower part) now → SpelledSoFar payload rest start now
  SpelledSoFar-more payload left part rest start middle now so_far is one = record {
    front = so_far.front ++ part;
    whole = append_assoc so_far.front part rest ∙ ap (λ (t : List ℕ). so_far.front ++ t) (sym is) ∙ so_far.whole;
    put = subst (λ (all : List ℕ). Puts after start all now) (sym (encode_lower_append so_far.front part))
        (puts-then after so_far.put one);
  }

  -- nothing is left: the whole was put
  pub SpelledSoFar-all : (payload left : List ℕ) (start now : T) (so_far : SpelledSoFar payload left start now) → left ≡ [] → Puts after start (encode_lower payload) now
  SpelledSoFar-all payload left start now so_far none =
      subst (λ (all : List ℕ). Puts after start (encode_lower all) now) (sym (append-nil so_far.front) ∙ ap (λ (t : List ℕ). so_far.front ++ t) (sym none) ∙ so_far.whole) so_far.put
