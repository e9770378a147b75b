-- The frames in both are the same frames of both sides, in one order: one flow.
use Rattle.std.proofs.Common.{◌≡◌, ℕ, ◌+◌, ◌-◌, ◌≤◌, Bool, true, false, Option, Some, None, List, [], ◌∷◌, ◌++◌, length, map, take, drop, get_or, refl, ap, ◌∙◌, sym, arith}
use Rattle.std.proofs.lemmas.List.{map-append, append_assoc, append-nil, take-append-drop, drop-drop, drop_more, length-drop}
use Rattle.std.proofs.lemmas.Bool.{and_parts}
use Rattle.std.proofs.lemmas.Slice.Eq.{bytes_eq-Decides}
use Rattle.std.specs.Prelude.{◌&&◌}
use Rattle.std.specs.Str.{bytes_eq}
use Rattle.frame_comparison.specs.declared.side.Side.{Side}
use Rattle.frame_comparison.specs.declared.side.Side.TheVariants.{Analyser, Here}
use Rattle.frame_comparison.specs.Frames.{CameFrame, SettledFrame, SideFrames, FlowFrames, is_short, in_both, given_up, frames_in_both, frames_given_up}
use Rattle.frame_comparison.specs.Compared.{are_equal, place_of_equal, own_moved, other_moved, moved, ended, all_given_up, side_after, flow_after, longest_wait}
use Rattle.frame_comparison.specs.Aligned.{AreAligned, FewWait, all_frames, bytes_of}
use Rattle.frame_comparison.proofs.Settled.{frames_in_both-append, in_both-settled, in_both-none}
use Rattle.frame_comparison.proofs.Moves.{place-within, place-equal, empty_frame}

unfoldable pub frames : List SettledFrame → List CameFrame
frames settled = map (λ (one : SettledFrame). one.frame) settled

frames-append : (some more : List SettledFrame) → frames (some ++ more) ≡ frames some ++ frames more
unfolding frames
frames-append some more = map-append (λ (one : SettledFrame). one.frame) some more

frames-given_up : (waiting : List CameFrame) → frames (map given_up waiting) ≡ waiting
unfolding frames
frames-given_up [] = refl
frames-given_up (one ∷ more) = ap (λ rest. one ∷ rest) (frames-given_up more)

frames-in_both : (waiting : List CameFrame) → frames (map in_both waiting) ≡ waiting
unfolding frames
frames-in_both [] = refl
frames-in_both (one ∷ more) = ap (λ rest. one ∷ rest) (frames-in_both more)

-- what is settled now stands behind what was settled before, and before what then waits
settled-all : (settled : List SettledFrame) (alone both waiting : List CameFrame)
    → frames (settled ++ (map given_up alone ++ map in_both both)) ++ waiting ≡ frames settled ++ (alone ++ (both ++ waiting))
settled-all settled alone both waiting =
    ap (λ all. all ++ waiting)
    (frames-append settled (map given_up alone ++ map in_both both)
    ∙ ap (λ all. frames settled ++ all)
    (frames-append (map given_up alone) (map in_both both) ∙ (ap (λ all. all ++ frames (map in_both both)) (frames-given_up alone) ∙ ap (λ all. alone ++ all) (frames-in_both both))))
    ∙ (append_assoc (frames settled) (alone ++ both) waiting ∙ ap (λ all. frames settled ++ all) (append_assoc alone both waiting))

-- its own side has one more frame
own-all : (found : Option ℕ) (frame : CameFrame) (side : SideFrames) → all_frames (side_after (own_moved found frame side.waiting) side) ≡ all_frames side ++ frame ∷ []
unfolding frames
own-all (Some place) frame side =
    settled-all side.settled side.waiting (frame ∷ []) [] ∙ sym (append_assoc (frames side.settled) side.waiting (frame ∷ []))
own-all None frame side =
    let all = side.waiting ++ frame ∷ [] in
    let excess = length all - longest_wait in
    ap (λ some. some ++ drop excess all) (frames-append side.settled (map given_up (take excess all)) ∙ ap (λ some. frames side.settled ++ some) (frames-given_up (take excess all)))
    ∙ (append_assoc (frames side.settled) (take excess all) (drop excess all)
    ∙ (ap (λ some. frames side.settled ++ some) (take-append-drop excess all) ∙ sym (append_assoc (frames side.settled) side.waiting (frame ∷ []))))

-- the other side has the same frames as before
other-all : (found : Option ℕ) (side : SideFrames) → all_frames (side_after (other_moved found side.waiting) side) ≡ all_frames side
unfolding frames
other-all (Some place) side =
    let waiting = side.waiting in
    settled-all side.settled (take place waiting) (take 1 (drop place waiting)) (drop (place + 1) waiting)
    ∙ ap (λ some. frames side.settled ++ some)
    (ap (λ some. take place waiting ++ (take 1 (drop place waiting) ++ some)) (sym (drop-drop 1 place waiting))
    ∙ (ap (λ some. take place waiting ++ some) (take-append-drop 1 (drop place waiting)) ∙ take-append-drop place waiting))
other-all None side = ap (λ some. map (λ (one : SettledFrame). one.frame) some ++ side.waiting) (append-nil side.settled)

-- equal frames have the same bytes
equal-bytes : (one other : CameFrame) → are_equal one other ≡ true → one.bytes ≡ other.bytes
equal-bytes one other is =
    (bytes_eq-Decides one.bytes other.bytes).0 (and_parts (is_short one && is_short other) (bytes_eq one.bytes other.bytes) is).1

-- the frame that is in both has the same bytes on both sides
both-bytes : (found : Option ℕ) (frame : CameFrame) (own other : List CameFrame) → place_of_equal frame other ≡ found
    → bytes_of (frames_in_both (own_moved found frame own).settled) ≡ bytes_of (frames_in_both (other_moved found other).settled)
both-bytes None frame own other is =
    let all = own ++ frame ∷ [] in ap bytes_of (in_both-none (take (length all - longest_wait) all))
both-bytes (Some place) frame own other is =
    let equal : CameFrame = get_or other place empty_frame in
    let same : equal.bytes ≡ frame.bytes = equal-bytes equal frame (place-equal frame other place empty_frame is) in
    let front = ap (take 1) (drop_more other place empty_frame (place-within frame other place is)) in
    ap bytes_of (in_both-settled own (frame ∷ []))
    ∙ (ap (λ some. some ∷ []) (sym same)
    ∙ sym (ap bytes_of (in_both-settled (take place other) (take 1 (drop place other)) ∙ front)))

both-after : (flow more : FlowFrames) → bytes_of (frames_in_both flow.analyser.settled) ≡ bytes_of (frames_in_both flow.here.settled)
    → bytes_of (frames_in_both more.analyser.settled) ≡ bytes_of (frames_in_both more.here.settled)
    → bytes_of (frames_in_both (flow_after more flow).analyser.settled) ≡ bytes_of (frames_in_both (flow_after more flow).here.settled)
both-after flow more before now =
    ap bytes_of (frames_in_both-append flow.analyser.settled more.analyser.settled)
    ∙ (map-append (λ (one : CameFrame). one.bytes) (frames_in_both flow.analyser.settled) (frames_in_both more.analyser.settled)
    ∙ (ap (λ some. some ++ bytes_of (frames_in_both more.analyser.settled)) before
    ∙ (ap (λ some. bytes_of (frames_in_both flow.here.settled) ++ some) now
    ∙ (sym (map-append (λ (one : CameFrame). one.bytes) (frames_in_both flow.here.settled) (frames_in_both more.here.settled))
    ∙ sym (ap bytes_of (frames_in_both-append flow.here.settled more.here.settled))))))

-- one frame of the analyser's, one of ours
pub aligned-analyser : (frame : CameFrame) (flow : FlowFrames) (analyser here : List CameFrame) → AreAligned analyser here flow
    → AreAligned (analyser ++ frame ∷ []) here (flow_after (moved Analyser frame flow.analyser.waiting flow.here.waiting) flow)
aligned-analyser frame flow analyser here aligned =
    let place = place_of_equal frame flow.here.waiting in
    record {
      analyser_all = own-all place frame flow.analyser ∙ ap (λ all. all ++ frame ∷ []) aligned.analyser_all;
      here_all = other-all place flow.here ∙ aligned.here_all;
      same_in_both = both-after flow (moved Analyser frame flow.analyser.waiting flow.here.waiting) aligned.same_in_both
          (both-bytes place frame flow.analyser.waiting flow.here.waiting refl);
    }

pub aligned-here : (frame : CameFrame) (flow : FlowFrames) (analyser here : List CameFrame) → AreAligned analyser here flow
    → AreAligned analyser (here ++ frame ∷ []) (flow_after (moved Here frame flow.analyser.waiting flow.here.waiting) flow)
aligned-here frame flow analyser here aligned =
    let place = place_of_equal frame flow.analyser.waiting in
    record {
      analyser_all = other-all place flow.analyser ∙ aligned.analyser_all;
      here_all = own-all place frame flow.here ∙ ap (λ all. all ++ frame ∷ []) aligned.here_all;
      same_in_both = both-after flow (moved Here frame flow.analyser.waiting flow.here.waiting) aligned.same_in_both
          (sym (both-bytes place frame flow.here.waiting flow.analyser.waiting refl));
    }

-- the end of a flow
side-ended-all : (side : SideFrames) → all_frames (side_after (all_given_up side.waiting) side) ≡ all_frames side
unfolding frames
side-ended-all side =
    append-nil (frames (side.settled ++ map given_up side.waiting))
    ∙ (frames-append side.settled (map given_up side.waiting) ∙ ap (λ some. frames side.settled ++ some) (frames-given_up side.waiting))

pub aligned-ended : (flow : FlowFrames) (analyser here : List CameFrame) → AreAligned analyser here flow
    → AreAligned analyser here (flow_after (ended flow.analyser.waiting flow.here.waiting) flow)
aligned-ended flow analyser here aligned = record {
  analyser_all = side-ended-all flow.analyser ∙ aligned.analyser_all;
  here_all = side-ended-all flow.here ∙ aligned.here_all;
  same_in_both = both-after flow (ended flow.analyser.waiting flow.here.waiting) aligned.same_in_both
      (ap bytes_of (in_both-none flow.analyser.waiting) ∙ sym (ap bytes_of (in_both-none flow.here.waiting)));
}

-- few wait
own-few : (found : Option ℕ) (frame : CameFrame) (waiting : List CameFrame) → length (own_moved found frame waiting).waiting ≤ longest_wait
own-few (Some place) frame waiting = omega arith
own-few None frame waiting =
    let all = waiting ++ frame ∷ [] in let left = length-drop (length all - longest_wait) all in omega arith

other-few : (found : Option ℕ) (waiting : List CameFrame) → length waiting ≤ longest_wait → length (other_moved found waiting).waiting ≤ longest_wait
other-few (Some place) waiting few = let left = length-drop (place + 1) waiting in omega arith
other-few None waiting few = few

pub few-moved : (side : Side) (frame : CameFrame) (flow : FlowFrames) → FewWait flow → FewWait (flow_after (moved side frame flow.analyser.waiting flow.here.waiting) flow)
few-moved Analyser frame flow few =
    let place = place_of_equal frame flow.here.waiting in
    record { of_analyser = own-few place frame flow.analyser.waiting; of_here = other-few place flow.here.waiting few.of_here }
few-moved Here frame flow few =
    let place = place_of_equal frame flow.analyser.waiting in
    record { of_analyser = other-few place flow.analyser.waiting few.of_analyser; of_here = own-few place frame flow.here.waiting }

-- where none was given up, all are in both
none-alone-first : (first : Bool) (one : SettledFrame) (more : List SettledFrame) → one.is_in_both ≡ first → frames_given_up (one ∷ more) ≡ []
    → (frames_given_up more ≡ [] → frames_in_both more ≡ frames more) → frames_in_both (one ∷ more) ≡ frames (one ∷ more)
unfolding frames
none-alone-first true one more is none rest =
    let others : frames_given_up more ≡ [] = rw is at none in rw is (ap (λ some. one.frame ∷ some) (rest others))
none-alone-first false one more is none rest = let some : one.frame ∷ frames_given_up more ≡ [] = rw is at none in absurd (cc)

pub none-alone : (settled : List SettledFrame) → frames_given_up settled ≡ [] → frames_in_both settled ≡ frames settled
unfolding frames
none-alone [] none = refl
none-alone (one ∷ more) none = none-alone-first one.is_in_both one more refl none (none-alone more)

pub equal-from_none : (flow : FlowFrames) (analyser here : List CameFrame) → AreAligned analyser here flow → flow.analyser.waiting ≡ [] → flow.here.waiting ≡ []
    → frames_given_up flow.analyser.settled ≡ [] → frames_given_up flow.here.settled ≡ [] → bytes_of analyser ≡ bytes_of here
unfolding frames
equal-from_none flow analyser here aligned waits_a waits_h none_a none_h =
    let all_a : frames flow.analyser.settled ≡ analyser =
    sym (append-nil (frames flow.analyser.settled)) ∙ (ap (λ some. frames flow.analyser.settled ++ some) (sym waits_a) ∙ aligned.analyser_all)
    in
    let all_h : frames flow.here.settled ≡ here =
    sym (append-nil (frames flow.here.settled)) ∙ (ap (λ some. frames flow.here.settled ++ some) (sym waits_h) ∙ aligned.here_all)
    in
    ap bytes_of (sym all_a ∙ sym (none-alone flow.analyser.settled none_a))
    ∙ (aligned.same_in_both ∙ ap bytes_of (none-alone flow.here.settled none_h ∙ all_h))
