-- What comes of steps, and then of others.
use Rattle.std.proofs.Common.{◌≡◌, Option, List, [], ◌∷◌, ◌++◌, IsTrue, map, refl, ap, sym, subst, ◌∙◌, append-nil, append_assoc}
use Rattle.consumer.specs.declared.given.Given.{Given}
use Rattle.captured_flows.specs.Steps.{CaptureStep, gave}
use Rattle.timed_frames.specs.declared.timed_step.LastBurst.{LastBurst}
use Rattle.timed_frames.specs.declared.timed_step.TimedStep.{TimedStep}
use Rattle.timed_frames.specs.declared.timed_frames.TimedFrames.{TimedFrames}
use Rattle.timed_frames.specs.Timed.{Timed, nothing_came, burst_came, frame_came, request_came, reply_came, flow_ended}
use Rattle.timed_frames.specs.Seen.{HasSeen, Keeps}

-- the same behind others
behind : (lasts end : List (Option LastBurst)) (first steps : List CaptureStep) (step : CaptureStep) (came timed : List TimedStep) (one : TimedStep)
    → Timed lasts ((first ++ steps) ++ step ∷ []) ((came ++ timed) ++ one ∷ []) end → Timed lasts (first ++ (steps ++ step ∷ [])) (came ++ (timed ++ one ∷ [])) end
behind lasts end first steps step came timed one is =
    subst (λ (s : List CaptureStep). Timed lasts s (came ++ (timed ++ one ∷ [])) end) (append_assoc first steps (step ∷ []))
    (subst (λ (t : List TimedStep). Timed lasts ((first ++ steps) ++ step ∷ []) t end) (append_assoc came timed (one ∷ [])) is)

pub timed_then : (lasts mid : List (Option LastBurst)) (first : List CaptureStep) (came : List TimedStep) {later : List CaptureStep} {more : List TimedStep} {end : List (Option LastBurst)}
    → Timed lasts first came mid → Timed mid later more end → Timed lasts (first ++ later) (came ++ more) end
timed_then lasts mid first came before nothing_came =
    subst (λ (s : List CaptureStep). Timed lasts s (came ++ []) mid) (sym (append-nil first))
    (subst (λ (t : List TimedStep). Timed lasts first t mid) (sym (append-nil came)) before)
timed_then lasts mid first came before (burst_came {steps = steps} {timed = timed} flow one others small) =
    behind lasts _ first steps _ came timed _ (burst_came flow one (timed_then lasts mid first came before others) small)
timed_then lasts mid first came before (frame_came {steps = steps} {timed = timed} flow burst frame others last) =
    behind lasts _ first steps _ came timed _ (frame_came flow burst frame (timed_then lasts mid first came before others) last)
timed_then lasts mid first came before (request_came {steps = steps} {timed = timed} burst request others last) =
    behind lasts _ first steps _ came timed _ (request_came burst request (timed_then lasts mid first came before others) last)
timed_then lasts mid first came before (reply_came {steps = steps} {timed = timed} flow burst_id reply others) =
    behind lasts _ first steps _ came timed _ (reply_came flow burst_id reply (timed_then lasts mid first came before others))
timed_then lasts mid first came before (flow_ended {steps = steps} {timed = timed} flow counts others) =
    behind lasts _ first steps _ came timed _ (flow_ended flow counts (timed_then lasts mid first came before others))

-- nothing was seen
pub seen_nothing : (start : TimedFrames) → HasSeen start [] start
seen_nothing start whole = (whole, record { came = []; timed = nothing_came; waiting = sym (append-nil start.waiting.items) })

-- and then more
pub seen_then : (start now later : TimedFrames) (steps more : List CaptureStep) → HasSeen start steps now → HasSeen now more later → HasSeen start (steps ++ more) later
seen_then start now later steps more saw then whole =
    let after = then whole in
    let before = saw after.0 in (
      before.0,
      record {
        came = before.1.came ++ after.1.came;
        timed = timed_then start.lasts.items now.lasts.items steps before.1.came before.1.timed after.1.timed;
        waiting =
            after.1.waiting ∙ ap (λ (w : List TimedStep). w ++ after.1.came) before.1.waiting ∙ append_assoc start.waiting.items before.1.came after.1.came;
      },
    )

-- one step more, if it is kept
pub seen_more : (start now later : TimedFrames) (steps : List CaptureStep) (step : CaptureStep) (one : TimedStep) → HasSeen start steps now
    → Keeps now one later → (IsTrue later.whole → Timed now.lasts.items (step ∷ []) (one ∷ []) later.lasts.items) → HasSeen start (steps ++ step ∷ []) later
seen_more start now later steps step one saw keeps timed =
    seen_then start now later steps (step ∷ []) saw
    (λ whole. (keeps.whole whole, record { came = one ∷ []; timed = timed whole; waiting = keeps.waiting whole }))

-- what was given, behind what was given
pub map_gave : (given : List Given) (one : Given) → map gave (given ++ one ∷ []) ≡ map gave given ++ gave one ∷ []
map_gave [] one = refl
map_gave (first ∷ given) one = ap (λ (others : List CaptureStep). gave first ∷ others) (map_gave given one)
