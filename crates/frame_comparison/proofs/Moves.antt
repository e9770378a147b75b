-- How many frames are settled where one comes.
use Rattle.std.proofs.Common.{◌≡◌, ℕ, ◌-◌, ◌<◌, ◌≤◌, zero, suc, Option, Some, None, Result, Ok, Err, OnOk, true, false, List, [], ◌∷◌, ◌++◌, length, map, take, drop, set, get_or, replicate, refl, ap, ◌∙◌, sym, arith}
use Rattle.std.specs.Result.{is_err}
use Rattle.std.proofs.lemmas.List.{length-take, length-drop, set-get_or}
use Rattle.std.proofs.lemmas.List.Quantifiers.{position-Some}
use Rattle.frame_comparison.specs.declared.compared_counts.ComparedCounts.{ComparedCounts}
use Rattle.frame_comparison.specs.Frames.{CameFrame, frames_in_both, frames_given_up}
use Rattle.frame_comparison.specs.Compared.{are_equal, place_of_equal, own_moved, other_moved, ended, longest_wait}
use Rattle.frame_comparison.specs.Seen.{SideSeen, side_seen_after, settled_counts, waiting_of}
use Rattle.frame_comparison.proofs.Listing.{listed-none}
use Rattle.frame_comparison.proofs.Settled.{given_up-all, in_both-none, given_up-settled, in_both-settled}
use Rattle.frame_comparison.proofs.Kept.{same-counts}

pub empty_frame : CameFrame
empty_frame = record { time = 0; byte_count = 0; bytes = []; bursts = [] }

-- the equal waits
pub place-within : (frame : CameFrame) (waiting : List CameFrame) (place : ℕ) → place_of_equal frame waiting ≡ Some place → place < length waiting
place-within frame waiting place is = (position-Some (λ (one : CameFrame). are_equal one frame) waiting place empty_frame is).0

pub place-equal : (frame : CameFrame) (waiting : List CameFrame) (place : ℕ) (d : CameFrame) → place_of_equal frame waiting ≡ Some place → are_equal (get_or waiting place d) frame ≡ true
place-equal frame waiting place d is = (position-Some (λ (one : CameFrame). are_equal one frame) waiting place d is).1

-- where there is an equal
pub own-both : (place : ℕ) (frame : CameFrame) (waiting : List CameFrame) → 1 ≡ length (frames_in_both (own_moved (Some place) frame waiting).settled)
own-both place frame waiting = sym (ap length (in_both-settled waiting (frame ∷ [])))

pub own-alone : (place : ℕ) (frame : CameFrame) (waiting : List CameFrame) → length waiting ≡ length (frames_given_up (own_moved (Some place) frame waiting).settled)
own-alone place frame waiting = sym (ap length (given_up-settled waiting (frame ∷ [])))

pub other-alone : (place : ℕ) (waiting : List CameFrame) → place < length waiting → place ≡ length (frames_given_up (other_moved (Some place) waiting).settled)
other-alone place waiting within =
    sym (ap length (given_up-settled (take place waiting) (take 1 (drop place waiting))) ∙ (length-take place waiting ∙ omega arith))

other-both : (place : ℕ) (waiting : List CameFrame) → place < length waiting → 1 ≡ length (frames_in_both (other_moved (Some place) waiting).settled)
other-both place waiting within =
    let left : length (drop place waiting) ≡ length waiting - place = length-drop place waiting in
    sym (ap length (in_both-settled (take place waiting) (take 1 (drop place waiting))) ∙ (length-take 1 (drop place waiting) ∙ omega arith))

-- where there is none
pub own-none : (frame : CameFrame) (waiting : List CameFrame) → 0 ≡ length (frames_in_both (own_moved None frame waiting).settled)
own-none frame waiting =
    let all = waiting ++ frame ∷ [] in sym (ap length (in_both-none (take (length all - longest_wait) all)))

pub other-stays : (flow : ℕ) (side : SideSeen) → length side.only ≤ 100 → side ≡ side_seen_after flow (other_moved None (waiting_of flow side)) side
other-stays flow side few =
    let waits : side.waiting ≡ set side.waiting flow (get_or side.waiting flow []) = sym (set-get_or side.waiting flow []) in
    ap (λ some. let one : SideSeen = record { waiting = some; only = side.only } in one) waits
    ∙ ap (λ some. let one : SideSeen = record { waiting = set side.waiting flow (get_or side.waiting flow []); only = some } in one) (listed-none side.only few)

-- as many frames of each side are in both
both-of : (found : Option ℕ) (waiting own : List CameFrame) (frame : CameFrame) → place_of_equal frame waiting ≡ found
    → length (frames_in_both (own_moved found frame own).settled) ≡ length (frames_in_both (other_moved found waiting).settled)
both-of None waiting own frame is = sym (own-none frame own)
both-of (Some place) waiting own frame is = sym (own-both place frame own) ∙ other-both place waiting (place-within frame waiting place is)

pub same-both : (waiting own : List CameFrame) (frame : CameFrame)
    → length (frames_in_both (own_moved (place_of_equal frame waiting) frame own).settled) ≡ length (frames_in_both (other_moved (place_of_equal frame waiting) waiting).settled)
same-both waiting own frame = both-of (place_of_equal frame waiting) waiting own frame refl

-- the end of a flow
pub ended-counts : (analyser here : List CameFrame) (a h : ℕ) → a ≡ length analyser → h ≡ length here
    → (let one : ComparedCounts = record { both = 0; only_analyser = a; only_here = h } in one ≡ settled_counts (ended analyser here))
ended-counts analyser here a h p q =
    same-counts _ _ _ _ _ _ (sym (ap length (in_both-none analyser))) (p ∙ sym (ap length (given_up-all analyser))) (q ∙ sym (ap length (given_up-all here)))

-- what holds on an Ok
pub on_ok-then : {T E P : Type 0} (r : Result T E) → is_err r ≡ false → OnOk r P → P
on_ok-then (Ok x) is p = p
on_ok-then (Err e) is p = absurd (cc)

pub map-replicate : {X Y : Type 0} (f : X → Y) (n : ℕ) (x : X) → map f (replicate n x) ≡ replicate n (f x)
map-replicate f zero x = refl
map-replicate f (suc n) x = ap (λ more. f x ∷ more) (map-replicate f n x)
