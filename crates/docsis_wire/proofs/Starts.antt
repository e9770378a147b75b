-- The first frame that starts in a chunk of the stream.
use Rattle.std.proofs.Common.{◌≡◌, ℕ, ◌+◌, ◌-◌, ◌<◌, ◌≤◌, inl, inr, Bool, true, false, Option, Some, is_some, unwrap_or, List, length, drop, slice_get, min, refl, sym, ap, ◌∙◌, subst, arith}
use Rattle.std.specs.Bool.{then_some}
use Rattle.std.specs.List.{concat, AllByRecursion}
use Rattle.std.proofs.lemmas.Bool.{cases_lt}
use Rattle.std.proofs.lemmas.List.{length-take, length-drop}
use Rattle.std.proofs.lemmas.Option.{slice_get_cases}
use Rattle.docsis_wire.specs.declared.cursor.Cursor.{Cursor}
use Rattle.docsis_wire.specs.Frame.{IsGenericFrame}
use Rattle.docsis_wire.specs.Stream.{place_of}
use Rattle.docsis_wire.specs.Cut.{Points}
use Rattle.docsis_wire.specs.Inside.Cursor.{place_at, chunk_at}
use Rattle.docsis_wire.proofs.StreamPlaces.{place_of-next, place_of-le}
use Rattle.docsis_wire.proofs.Stretches.{place_of-le_all}
use Rattle.docsis_wire.proofs.Cursors.{some_bytes}

-- a chunk has the bytes that are asked for, or those that remain
pub length-chunk : (frames : List (List ℕ)) (at : Cursor) (bytes : ℕ) → length (chunk_at frames at bytes) ≡ min bytes (length (concat frames) - place_at frames at)
length-chunk frames at bytes = length-take bytes (drop (place_at frames at) (concat frames)) ∙ ap (min bytes) (length-drop (place_at frames at) (concat frames))

-- an earlier frame starts at an earlier place
starts_before : (frames : List (List ℕ)) (i j : ℕ) → AllByRecursion IsGenericFrame frames → i < length frames → i < j → place_of frames i < place_of frames j
starts_before frames i j each within less =
    elim (slice_get_cases frames i).1 [
      | inl h ↦ omega (arith, some_bytes frames i h.0 each h.2, place_of-next frames i h.0 h.2, place_of-le frames (i + 1) j (omega arith))
      | inr h ↦ absurd (omega (arith, h.0))
    ]

-- The frame that starts next at or after a place: it starts so many bytes on, and each that starts
-- there or later is no earlier one.
pub record StartsNext (frames : List (List ℕ)) (place starting before : ℕ) : Type 0 where
  pub place_is : place_of frames starting ≡ place + before
  pub first : (i : ℕ) → i < length frames → place ≤ place_of frames i → starting ≤ i

-- at its first byte the cursor's own frame starts
pub StartsNext-here : (frames : List (List ℕ)) (at : Cursor) (starting before : ℕ) → AllByRecursion IsGenericFrame frames → at.offset ≡ 0 → starting ≡ at.frame → before ≡ 0
    → StartsNext frames (place_at frames at) starting before
StartsNext-here frames at starting before each none starting_is before_is = record {
  place_is = ap (place_of frames) starting_is ∙ omega (arith, none, before_is);
  first = λ i within later. elim (cases_lt i at.frame) [
    | inl less ↦ absurd (omega (arith, starts_before frames i at.frame each within less, none))
    | inr behind ↦ omega (arith, starting_is, behind)
  ];
}

-- after it the next frame does
pub StartsNext-behind : (frames : List (List ℕ)) (at : Cursor) (frame : List ℕ) (starting before : ℕ) → slice_get frames at.frame ≡ Some frame → at.offset ≤ length frame
    → 0 < at.offset → starting ≡ at.frame + 1 → before ≡ length frame - at.offset → StartsNext frames (place_at frames at) starting before
StartsNext-behind frames at frame starting before e within some starting_is before_is = record {
  place_is = ap (place_of frames) starting_is ∙ omega (arith, place_of-next frames at.frame frame e, before_is);
  first = λ i inside later. elim (cases_lt at.frame i) [
    | inl less ↦ omega (arith, starting_is, less)
    | inr early ↦ absurd (omega (arith, place_of-le frames i at.frame early))
  ];
}

-- a frame that starts next in the chunk is pointed at
Points-at : (frames : List (List ℕ)) (at : Cursor) (bytes starting before : ℕ) → AllByRecursion IsGenericFrame frames → StartsNext frames (place_at frames at) starting before
    → starting < length frames → before < bytes → Points true before frames (place_at frames at) (chunk_at frames at bytes)
Points-at frames at bytes starting before each next within less =
    let bound : place_at frames at + before < length (concat frames) =
    omega (arith, next.place_is, starts_before frames starting (starting + 1) each within (omega arith), place_of-le_all frames (starting + 1)) in (
      (omega (arith, length-chunk frames at bytes, bound), (starting, within, next.place_is)),
      λ p h. let later = next.first h.1.0 h.1.1 (omega (arith, h.1.2)) in
          omega (arith, next.place_is, place_of-le frames starting h.1.0 later, h.1.2),
    )

-- no frame starts in the chunk where the next one starts after it, or there is none
Points-none : (frames : List (List ℕ)) (at : Cursor) (bytes starting before pointer : ℕ) → StartsNext frames (place_at frames at) starting before
    → (starting < length frames → before < bytes → ⊥) → Points false pointer frames (place_at frames at) (chunk_at frames at bytes)
Points-none frames at bytes starting before pointer next none = λ p h.
    let later : starting ≤ h.1.0 = next.first h.1.0 h.1.1 (omega (arith, h.1.2)) in
    none (omega (arith, h.1.1, later)) (omega (arith, next.place_is, place_of-le frames starting h.1.0 later, h.1.2, h.0, length-chunk frames at bytes))

-- what is found of the next frame is what PFI and the pointer say
pub Points-found : (frames : List (List ℕ)) (at : Cursor) (bytes starting before : ℕ) (found : Bool) (result : Option ℕ) → AllByRecursion IsGenericFrame frames
    → StartsNext frames (place_at frames at) starting before → result ≡ then_some found before
    → (found ≡ true → (starting < length frames) × (before < bytes)) → (found ≡ false → starting < length frames → before < bytes → ⊥)
    → Points (is_some result) (unwrap_or result 0) frames (place_at frames at) (chunk_at frames at bytes)
Points-found frames at bytes starting before true result each next e holds fails =
    let P : Option ℕ → Type 0 = λ r. Points (is_some r) (unwrap_or r 0) frames (place_at frames at) (chunk_at frames at bytes) in
    subst P (sym e) (Points-at frames at bytes starting before each next (holds refl).0 (holds refl).1)
Points-found frames at bytes starting before false result each next e holds fails =
    let P : Option ℕ → Type 0 = λ r. Points (is_some r) (unwrap_or r 0) frames (place_at frames at) (chunk_at frames at bytes) in
    subst P (sym e) (Points-none frames at bytes starting before 0 next (fails refl))
