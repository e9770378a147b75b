-- What is told of bursts, one after another, and which reasons are listed.
use Rattle.std.proofs.Common.{◌≡◌, ℕ, ◌+◌, ◌<◌, ◌≤◌, List, [], ◌∷◌, ◌++◌, map, take, drop, length, min, get_or, sym, ap, ◌∙◌, append-nil, append_assoc, arith}
use Rattle.std.proofs.lemmas.Grind.{flat_map-append}
use Rattle.std.proofs.lemmas.List.{take_more, map-append, drop-append-le, drop_all, take_all, take-take, length-take}
use Rattle.burst_fates.specs.declared.burst_fate.ToldFate.{ToldFate}
use Rattle.burst_fates.specs.declared.burst_fates.BurstFates.{BurstFates}
use Rattle.burst_fates.specs.declared.missing_reason.MissingReason.{MissingReason}
use Rattle.burst_fates.specs.Fates.{kept_of, reason_of}
use Rattle.frame_comparison.specs.Frames.{ShownFrame}
use Rattle.timed_frames.specs.declared.timed_step.TimedStep.{TimedStep}
use Rattle.frame_reasons.specs.Told.{told_in_step, told_in_steps, TellsAll, reasons_of, explained}

-- one step more is told
pub tells_more : (steps : List TimedStep) (i : ℕ) (any : TimedStep) (old mid new : BurstFates) → i < length steps → TellsAll (told_in_steps (take i steps)) old mid
    → TellsAll (told_in_step (get_or steps i any)) mid new → TellsAll (told_in_steps (take (i + 1) steps)) old new
tells_more steps i any old mid new within first last =
    λ told is.
    last (told ++ told_in_steps (take i steps)) (first told is)
    ∙ ap (λ (all : List ToldFate). kept_of all) (append_assoc told (told_in_steps (take i steps)) (told_in_step (get_or steps i any))
    ∙ ap (λ (behind : List ToldFate). told ++ behind) (sym (ap (λ (some : List TimedStep). told_in_steps some) (take_more steps i any within)
    ∙ flat_map-append told_in_step (take i steps) (get_or steps i any ∷ [])
    ∙ ap (λ (one : List ToldFate). told_in_steps (take i steps) ++ one) (append-nil (told_in_step (get_or steps i any))))))

pub tells_nothing : (old : BurstFates) → TellsAll [] old old
tells_nothing old = λ told is. is ∙ ap (λ (all : List ToldFate). kept_of all) (sym (append-nil told))

-- one frame more gets its reason
pub one_explained : (told : List ToldFate) (old : List MissingReason) (only : List ShownFrame) (place : ℕ) (any : ShownFrame) → length old ≤ place → place < length only
    → (old ++ reasons_of told (drop (length old) (take place only))) ++ reason_of told (get_or only place any).bursts ∷ []
    ≡ old ++ reasons_of told (drop (length old) (take (place + 1) only))
one_explained told old only place any behind within =
    append_assoc old (reasons_of told (drop (length old) (take place only))) (reason_of told (get_or only place any).bursts ∷ [])
    ∙ ap (λ (more : List MissingReason). old ++ more)
    (sym (ap (λ (some : List ShownFrame). reasons_of told (drop (length old) some)) (take_more only place any within)
    ∙ ap (λ (some : List ShownFrame). reasons_of told some) (drop-append-le (length old) (take place only) (get_or only place any ∷ []) (long (length (take place only)) (length-take place only)))
    ∙ map-append (λ (frame : ShownFrame). reason_of told frame.bursts) (drop (length old) (take place only)) (get_or only place any ∷ []))) where
      long : (all : ℕ) → all ≡ min place (length only) → length old ≤ all
      long all is = omega (arith, behind, within)

-- none has one yet
pub none_explained : (told : List ToldFate) (old : List MissingReason) (only : List ShownFrame) → old ≡ old ++ reasons_of told (drop (length old) (take (length old) only))
none_explained told old only =
    sym (ap (λ (some : List ShownFrame). old ++ reasons_of told some) (drop_all (length old) (take (length old) only) (few (length (take (length old) only)) (length-take (length old) only)))
    ∙ append-nil old) where
      few : (all : ℕ) → all ≡ min (length old) (length only) → all ≤ length old
      few all is = omega arith

-- all have one
pub enough_explained : (told : List ToldFate) (old : List MissingReason) (only : List ShownFrame) (most : ℕ) → most ≡ min (length only) 100 → most ≤ length old
    → old ≡ explained told old only
enough_explained told old only most is enough =
    sym (ap (λ (some : List ShownFrame). old ++ reasons_of told some) (drop_all (length old) (take 100 only) (few (length (take 100 only)) (length-take 100 only)))
    ∙ append-nil old) where
      few : (all : ℕ) → all ≡ min 100 (length only) → all ≤ length old
      few all same = omega (arith, is, enough)

pub all_explained : (told : List ToldFate) (old : List MissingReason) (only : List ShownFrame) (most : ℕ) → most ≡ min (length only) 100
    → old ++ reasons_of told (drop (length old) (take most only)) ≡ explained told old only
all_explained told old only most is =
    ap (λ (some : List ShownFrame). old ++ reasons_of told (drop (length old) some))
    (sym (take-take most 100 only (omega (arith, is))) ∙ take_all most (take 100 only) (long (length (take 100 only)) (length-take 100 only))) where
      long : (all : ℕ) → all ≡ min 100 (length only) → all ≤ most
      long all same = omega (arith, is)
