use Rattle.std.proofs.Common.{◌≡◌, ℕ, List, length, Option, sym, ◌∙◌, subst}
use Rattle.frame_comparison.specs.Frames.{CameFrame, frames_in_both, frames_given_up}
use Rattle.frame_comparison.specs.Compared.{own_moved, other_moved}
use Rattle.frame_comparison.specs.Seen.{SideSeen, waiting_of, side_seen_after}
use Rattle.frame_comparison.proofs.Moves.{place-within, own-both, own-alone, other-alone, own-none, other-stays}
use Rattle.frame_comparison.proofs.settle.settle.Goals as goal

pub returns-in-Some-clause-both : goal.returns-in-Some-clause-both
returns-in-Some-clause-both c =
    let frame : CameFrame = c.args.frame.now in
    let waiting : List CameFrame = waiting_of c.args.flow c.args.own.now in
    subst (λ (found : Option ℕ). 1 ≡ length (frames_in_both (own_moved found frame waiting).settled)) c.in-Some.ensures.place
    (own-both c.in-Some.place frame waiting)

pub returns-in-Some-clause-own_count : goal.returns-in-Some-clause-own_count
returns-in-Some-clause-own_count c =
    let frame : CameFrame = c.args.frame.now in
    let waiting : List CameFrame = waiting_of c.args.flow c.args.own.now in
    subst (λ (found : Option ℕ). c.give_up_all-given_up.result ≡ length (frames_given_up (own_moved found frame waiting).settled)) c.in-Some.ensures.place
    (c.give_up_all-given_up.ensures.count ∙ own-alone c.in-Some.place frame waiting)

pub returns-in-Some-clause-other_count : goal.returns-in-Some-clause-other_count
returns-in-Some-clause-other_count c =
    let waiting : List CameFrame = waiting_of c.args.flow c.args.other.now in
    subst (λ (found : Option ℕ). c.in-Some.place ≡ length (frames_given_up (other_moved found waiting).settled)) c.in-Some.ensures.place
    (other-alone c.in-Some.place waiting (place-within c.args.frame.now waiting c.in-Some.place (sym c.in-Some.ensures.place)))

pub returns-in_ok-given_up-in-None-clause-other : goal.returns-in_ok-given_up-in-None-clause-other
returns-in_ok-given_up-in-None-clause-other c =
    let flow : ℕ = c.args.flow in
    let other : SideSeen = c.args.other.now in
    subst (λ (found : Option ℕ). other ≡ side_seen_after flow (other_moved found (waiting_of flow other)) other) c.in-None.ensures.place
    (other-stays flow other c.in-None.ensures.few)

pub returns-in_ok-given_up-in-None-clause-both : goal.returns-in_ok-given_up-in-None-clause-both
returns-in_ok-given_up-in-None-clause-both c =
    let frame : CameFrame = c.args.frame.now in
    let waiting : List CameFrame = waiting_of c.args.flow c.args.own.now in
    subst (λ (found : Option ℕ). 0 ≡ length (frames_in_both (own_moved found frame waiting).settled)) c.in-None.ensures.place
    (own-none frame waiting)
