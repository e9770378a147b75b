-- One more segment is joined after others.
use Rattle.std.proofs.Common.{◌≡◌, ℕ, List, [], ◌∷◌, ◌++◌, Some, refl, sym, ap, ◌∙◌, subst, append_assoc, append-nil}
use Rattle.std.specs.Prelude.{map}
use Rattle.docsis_wire.specs.declared.segment.Segment.{Segment}
use Rattle.ccf.specs.Feed.{Feeds}
use Rattle.ccf.specs.Join.{Joins}
use Rattle.texts.specs.Inside.Join.{IsJoinedSoFar}
use Rattle.texts.specs.Join.Line.{Carries, AddsSegment}
use Rattle.texts.specs.AnyHeader.{any_header}

-- one more segment is fed
Joins-fed_last : (before : List ℕ) (segments : List Segment) (frames : List (List ℕ)) (between : List ℕ) (segment : Segment) (fed : List (List ℕ)) (after : List ℕ)
    → Joins any_header before (map Some segments) frames between → Feeds any_header between segment fed after
    → Joins any_header before (map Some (segments ++ segment ∷ [])) (frames ++ fed) after
Joins-fed_last before [] frames between segment fed after joined feeds =
    let begun : Feeds any_header before segment fed after = subst (λ bytes. Feeds any_header bytes segment fed after) joined.1 feeds in
    let all : frames ++ fed ≡ fed ++ [] = ap (λ front. front ++ fed) joined.0 ∙ sym (append-nil fed) in
    (fed, [], after, begun, (refl, refl), all)
Joins-fed_last before (first ∷ segments) frames between segment fed after joined feeds =
    let more = Joins-fed_last joined.2 segments joined.1 between segment fed after joined.4 feeds in
    (joined.0, joined.1 ++ fed, joined.2, joined.3, more, ap (λ front. front ++ fed) joined.5 ∙ append_assoc joined.0 joined.1 fed)

-- a line's segment is joined
pub JoinedSoFar-more : (segments : List Segment) (fields : List (List ℕ)) (segment : Segment) (before : List ℕ) (frames fed : List (List ℕ)) (after : List ℕ)
    → IsJoinedSoFar segments before frames → Carries fields segment → Feeds any_header before segment fed after
    → (more : List Segment) × AddsSegment segments fields more × IsJoinedSoFar more after (frames ++ fed)
JoinedSoFar-more segments fields segment before frames fed after so_far carries feeds =
    (segments ++ segment ∷ [], record { segment = segment; carries = carries; added = refl }, Joins-fed_last [] segments frames before segment fed after so_far feeds)
