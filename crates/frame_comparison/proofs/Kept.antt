-- What is kept of the frames that wait tells as much of them as they do.
use Rattle.std.proofs.Common.{◌≡◌, ℕ, zero, suc, ◌+◌, ◌-◌, Bool, true, false, cond, not, ltb, ◌&&◌, Option, Some, None, List, [], ◌∷◌, ◌++◌, length, map, take, drop, refl, ap, ◌∙◌, sym, arith}
use Rattle.std.specs.List.{position_or_len}
use Rattle.std.specs.Str.{bytes_eq}
use Rattle.std.proofs.lemmas.List.{map-append, length-map, take-take}
use Rattle.frame_comparison.specs.declared.compared_counts.ComparedCounts.{ComparedCounts}
use Rattle.frame_comparison.specs.declared.side.Side.{Side}
use Rattle.frame_comparison.specs.declared.side.Side.TheVariants.{Analyser, Here}
use Rattle.frame_comparison.specs.Frames.{CameFrame, FlowFrames, SideFrames, ShownFrame, SettledFrame, is_short, kept, in_both, given_up, shown_front, shown_of, frames_in_both, frames_given_up}
use Rattle.frame_comparison.specs.Compared.{are_equal, place_of_equal, own_moved, other_moved, moved, ended, all_given_up, shown_of_all, longest_wait}
use Rattle.frame_comparison.specs.Seen.{settled_counts}

-- as many bytes are shown
front-kept : (is : Bool) (bytes : List ℕ) → shown_front (cond is bytes (shown_front bytes)) ≡ shown_front bytes
unfolding shown_front
front-kept true bytes = refl
front-kept false bytes = take-take 16 16 bytes (omega arith)

shown-kept : (flow : ℕ) (frame : CameFrame) → shown_of flow (kept frame) ≡ shown_of flow frame
shown-kept flow frame =
    ap (λ (first : List ℕ). let one : ShownFrame = record { flow = flow; time = frame.time; byte_count = frame.byte_count; first = first; bursts = frame.bursts } in one)
    (front-kept (is_short frame) frame.bytes)

-- they equal the same
bytes-kept : (one other : Bool) (bytes bytes' : List ℕ)
    → (one && other && bytes_eq (cond one bytes (shown_front bytes)) (cond other bytes' (shown_front bytes'))) ≡ (one && other && bytes_eq bytes bytes')
bytes-kept true true bytes bytes' = refl
bytes-kept true false bytes bytes' = refl
bytes-kept false other bytes bytes' = refl

equal-kept : (one other : CameFrame) → are_equal (kept one) (kept other) ≡ are_equal one other
equal-kept one other = bytes-kept (is_short one) (is_short other) one.bytes other.bytes

first-kept : (frame : CameFrame) (waiting : List CameFrame)
    → position_or_len (λ (one : CameFrame). are_equal one (kept frame)) (map kept waiting) ≡ position_or_len (λ (one : CameFrame). are_equal one frame) waiting
first-kept frame [] = refl
first-kept frame (one ∷ more) =
    ap (λ (is : Bool). cond (not is) (1 + position_or_len (λ (one : CameFrame). are_equal one (kept frame)) (map kept more)) 0) (equal-kept one frame)
    ∙ ap (λ (place : ℕ). cond (not (are_equal one frame)) (1 + place) 0) (first-kept frame more)

place-kept : (frame : CameFrame) (waiting : List CameFrame) → place_of_equal (kept frame) (map kept waiting) ≡ place_of_equal frame waiting
place-kept frame waiting =
    ap (λ (place : ℕ). cond (ltb place (length (map kept waiting))) (Some place) None) (first-kept frame waiting)
    ∙ ap (λ (count : ℕ). let place = position_or_len (λ (one : CameFrame). are_equal one frame) waiting in cond (ltb place count) (Some place) None) (length-map waiting kept)

-- and the same becomes of them
abbrev pub settled_kept : SettledFrame → SettledFrame
settled_kept one = record { frame = kept one.frame; is_in_both = one.is_in_both }

abbrev pub side_kept : SideFrames → SideFrames
side_kept side = record { settled = map settled_kept side.settled; waiting = map kept side.waiting }

abbrev pub flow_kept : FlowFrames → FlowFrames
flow_kept flow = record { analyser = side_kept flow.analyser; here = side_kept flow.here }

given_up-kept : (frames : List CameFrame) → map given_up (map kept frames) ≡ map settled_kept (map given_up frames)
given_up-kept [] = refl
given_up-kept (one ∷ more) = ap (λ rest. given_up (kept one) ∷ rest) (given_up-kept more)

in_both-kept : (frames : List CameFrame) → map in_both (map kept frames) ≡ map settled_kept (map in_both frames)
in_both-kept [] = refl
in_both-kept (one ∷ more) = ap (λ rest. in_both (kept one) ∷ rest) (in_both-kept more)

take-kept : (n : ℕ) (frames : List CameFrame) → take n (map kept frames) ≡ map kept (take n frames)
take-kept zero frames = refl
take-kept (suc n) [] = refl
take-kept (suc n) (one ∷ more) = ap (λ rest. kept one ∷ rest) (take-kept n more)

drop-kept : (n : ℕ) (frames : List CameFrame) → drop n (map kept frames) ≡ map kept (drop n frames)
drop-kept zero frames = refl
drop-kept (suc n) [] = refl
drop-kept (suc n) (one ∷ more) = drop-kept n more

side-with : (settled settled' : List SettledFrame) (waiting waiting' : List CameFrame) → settled ≡ settled' → waiting ≡ waiting'
    → (let one : SideFrames = record { settled = settled; waiting = waiting } in let other : SideFrames = record { settled = settled'; waiting = waiting' } in one ≡ other)
side-with settled settled' waiting waiting' s w = rw (s, w) refl

alone-kept : (alone both : List CameFrame) → map given_up (map kept alone) ++ map in_both (map kept both) ≡ map settled_kept (map given_up alone ++ map in_both both)
alone-kept alone both =
    ap (λ some. some ++ map in_both (map kept both)) (given_up-kept alone)
    ∙ (ap (λ some. map settled_kept (map given_up alone) ++ some) (in_both-kept both)
    ∙ sym (map-append settled_kept (map given_up alone) (map in_both both)))

own-kept : (found : Option ℕ) (frame : CameFrame) (waiting : List CameFrame) → own_moved found (kept frame) (map kept waiting) ≡ side_kept (own_moved found frame waiting)
own-kept (Some place) frame waiting = side-with _ _ [] [] (alone-kept waiting (frame ∷ [])) refl
own-kept None frame waiting =
    let all = waiting ++ frame ∷ [] in
    let same : map kept waiting ++ kept frame ∷ [] ≡ map kept all = sym (map-append kept waiting (frame ∷ [])) in
    let excess : length (map kept waiting ++ kept frame ∷ []) - longest_wait ≡ length all - longest_wait =
    ap (λ some. length some - longest_wait) same ∙ ap (λ count. count - longest_wait) (length-map all kept)
    in
    let count = length all - longest_wait in
    side-with _ _ _ _
    (ap (λ n. map given_up (take n (map kept waiting ++ kept frame ∷ []))) excess ∙ (ap (λ some. map given_up (take count some)) same
    ∙ (ap (map given_up) (take-kept count all) ∙ given_up-kept (take count all))))
    (ap (λ n. drop n (map kept waiting ++ kept frame ∷ [])) excess ∙ (ap (drop count) same ∙ drop-kept count all))

other-kept : (found : Option ℕ) (waiting : List CameFrame) → other_moved found (map kept waiting) ≡ side_kept (other_moved found waiting)
other-kept None waiting = refl
other-kept (Some place) waiting =
    side-with _ _ _ _
    (ap (λ some. map given_up some ++ map in_both (take 1 (drop place (map kept waiting)))) (take-kept place waiting)
    ∙ (ap (λ some. map given_up (map kept (take place waiting)) ++ map in_both (take 1 some)) (drop-kept place waiting)
    ∙ (ap (λ some. map given_up (map kept (take place waiting)) ++ map in_both some) (take-kept 1 (drop place waiting))
    ∙ alone-kept (take place waiting) (take 1 (drop place waiting)))))
    (drop-kept (place + 1) waiting)

flow-with : (analyser analyser' here here' : SideFrames) → analyser ≡ analyser' → here ≡ here'
    → (let one : FlowFrames = record { analyser = analyser; here = here } in let other : FlowFrames = record { analyser = analyser'; here = here' } in one ≡ other)
flow-with analyser analyser' here here' a h = rw (a, h) refl

-- of a frame that comes
pub moved-kept : (side : Side) (frame : CameFrame) (analyser here : List CameFrame)
    → moved side (kept frame) (map kept analyser) (map kept here) ≡ flow_kept (moved side frame analyser here)
moved-kept Analyser frame analyser here =
    let place = place-kept frame here in
    flow-with _ _ _ _
    (ap (λ (found : Option ℕ). own_moved found (kept frame) (map kept analyser)) place ∙ own-kept (place_of_equal frame here) frame analyser)
    (ap (λ (found : Option ℕ). other_moved found (map kept here)) place ∙ other-kept (place_of_equal frame here) here)
moved-kept Here frame analyser here =
    let place = place-kept frame analyser in
    flow-with _ _ _ _
    (ap (λ (found : Option ℕ). other_moved found (map kept analyser)) place ∙ other-kept (place_of_equal frame analyser) analyser)
    (ap (λ (found : Option ℕ). own_moved found (kept frame) (map kept here)) place ∙ own-kept (place_of_equal frame analyser) frame here)

-- and at the end
side-ended : (waiting : List CameFrame) → all_given_up (map kept waiting) ≡ side_kept (all_given_up waiting)
side-ended waiting = side-with _ _ [] [] (given_up-kept waiting) refl

pub ended-kept : (analyser here : List CameFrame) → ended (map kept analyser) (map kept here) ≡ flow_kept (ended analyser here)
ended-kept analyser here = flow-with _ _ _ _ (side-ended analyser) (side-ended here)

-- as much is counted and shown of what is settled
both-first : (is : Bool) (one : SettledFrame) (more : List SettledFrame) → one.is_in_both ≡ is
    → length (frames_in_both (map settled_kept more)) ≡ length (frames_in_both more)
    → length (frames_in_both (map settled_kept (one ∷ more))) ≡ length (frames_in_both (one ∷ more))
both-first true one more is rest = rw is (ap suc rest)
both-first false one more is rest = rw is rest

both-count : (settled : List SettledFrame) → length (frames_in_both (map settled_kept settled)) ≡ length (frames_in_both settled)
both-count [] = refl
both-count (one ∷ more) = both-first one.is_in_both one more refl (both-count more)

alone-first : (is : Bool) (flow : ℕ) (one : SettledFrame) (more : List SettledFrame) → one.is_in_both ≡ is
    → shown_of_all flow (map settled_kept more) ≡ shown_of_all flow more
    → shown_of_all flow (map settled_kept (one ∷ more)) ≡ shown_of_all flow (one ∷ more)
alone-first true flow one more is rest = rw is rest
alone-first false flow one more is rest =
    rw is (ap (λ first. first ∷ shown_of_all flow (map settled_kept more)) (shown-kept flow one.frame) ∙ ap (λ others. shown_of flow one.frame ∷ others) rest)

pub alone-shown : (flow : ℕ) (settled : List SettledFrame) → shown_of_all flow (map settled_kept settled) ≡ shown_of_all flow settled
alone-shown flow [] = refl
alone-shown flow (one ∷ more) = alone-first one.is_in_both flow one more refl (alone-shown flow more)

alone-count : (settled : List SettledFrame) → length (frames_given_up (map settled_kept settled)) ≡ length (frames_given_up settled)
alone-count settled =
    sym (length-map (frames_given_up (map settled_kept settled)) (shown_of 0))
    ∙ (ap length (alone-shown 0 settled) ∙ length-map (frames_given_up settled) (shown_of 0))

pub same-counts : (both both' analyser analyser' here here' : ℕ) → both ≡ both' → analyser ≡ analyser' → here ≡ here'
    → (let one : ComparedCounts = record { both = both; only_analyser = analyser; only_here = here } in
    let other : ComparedCounts = record { both = both'; only_analyser = analyser'; only_here = here' } in one ≡ other)
same-counts both both' analyser analyser' here here' p q r = rw (p, q, r) refl

pub counts-kept : (more : FlowFrames) → settled_counts (flow_kept more) ≡ settled_counts more
counts-kept more = same-counts _ _ _ _ _ _ (both-count more.analyser.settled) (alone-count more.analyser.settled) (alone-count more.here.settled)
