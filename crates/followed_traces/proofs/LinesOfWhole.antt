-- A line that was taken of a trace that is followed.
use Rattle.std.proofs.Common.{◌≡◌, ℕ, inl, inr, Bool, Option, Some, None, List, refl, sym, ap, subst, ◌∙◌}
use Rattle.std.specs.Prelude.{Result, Ok, Err, OnOk}
use Rattle.lane.specs.declared.input.Input.{Input}
use Rattle.text_lines.specs.declared.fault.LineFault.{LineFault}
use Rattle.answers.proofs.ReadTraces.{line-bytes}
use Rattle.texts.specs.Inside.StandIn.{MayStandFor}
use Rattle.texts.specs.Inside.TraceInput.{TraceState, taking_format, HasTakenLines}
use Rattle.followed_traces.specs.declared.follow_input.FollowInput.{FollowInput}
use Rattle.followed_traces.specs.Inside.Watched.{ReceiverUnderWay, would_be_followed, Watched, starts_watched, HasFollowed}
use Rattle.followed_traces.specs.Inside.Lines.{HasFollowedLines}

-- What may stand in for an input by what takes the entries, if there is something that does, may do
-- so by what was taken out.
pub may_stand : (selected : ℕ → Bool) (taker : Option ReceiverUnderWay) (taken : ReceiverUnderWay) → ((one : ReceiverUnderWay) → taker ≡ Some one → taken ≡ one)
    → (channel : ℕ) (came input : Input) → MayStandFor would_be_followed selected taker channel came input → MayStandFor would_be_followed selected (Some taken) channel came input
may_stand selected taker taken same channel came input (inl is) = inl is
may_stand selected None taken same channel came input (inr another) = absurd another.1
may_stand selected (Some one) taken same channel came input (inr another) =
    subst (λ (now : ReceiverUnderWay). MayStandFor would_be_followed selected (Some now) channel came input) (sym (same one refl)) (inr another)

-- a line was taken, by the same settings
pub line_taken : (before : TraceState Watched) (follow after : FollowInput) (fields : List (List ℕ)) (result : Result (Unit {0}) LineFault) → HasFollowedLines before follow
    → after.settings ≡ follow.settings
    → OnOk result ((then : TraceState Watched) × taking_format.Takes before fields then
    × HasTakenLines starts_watched HasFollowed then after.input.width after.input.rule after.input.setup after.input.taker)
    → OnOk result ((then : TraceState Watched) × taking_format.Takes before fields then × HasFollowedLines then after)
line_taken before follow after fields (Err fault) has settings took = tt
line_taken before follow after fields (Ok done) has settings took = (
  took.0,
  took.1,
  record {
    settings = settings ∙ has.settings ∙ sym (ap (λ (state : Watched). state.settings) took.1.0);
    bytes = line-bytes before.said fields took.0.said took.1.3 has.bytes;
    lines = took.2;
  },
)
