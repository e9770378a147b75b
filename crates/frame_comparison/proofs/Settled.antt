-- Which of the frames that are settled are in both, and which were given up.
use Rattle.std.proofs.Common.{◌≡◌, not, List, [], ◌∷◌, ◌++◌, map, refl, ap, ◌∙◌}
use Rattle.std.specs.Prelude.{filter}
use Rattle.std.proofs.lemmas.List.{map-append, append-nil}
use Rattle.std.proofs.lemmas.List.Elements.{filter-append}
use Rattle.frame_comparison.specs.Frames.{CameFrame, SettledFrame, in_both, given_up, frames_in_both, frames_given_up}

-- part by part
pub frames_in_both-append : (some more : List SettledFrame) → frames_in_both (some ++ more) ≡ frames_in_both some ++ frames_in_both more
frames_in_both-append some more =
    ap (λ all. map (λ (one : SettledFrame). one.frame) all) (filter-append (λ (one : SettledFrame). one.is_in_both) some more)
    ∙ map-append (λ (one : SettledFrame). one.frame) (filter (λ (one : SettledFrame). one.is_in_both) some) (filter (λ (one : SettledFrame). one.is_in_both) more)

pub frames_given_up-append : (some more : List SettledFrame) → frames_given_up (some ++ more) ≡ frames_given_up some ++ frames_given_up more
frames_given_up-append some more =
    ap (λ all. map (λ (one : SettledFrame). one.frame) all) (filter-append (λ (one : SettledFrame). not one.is_in_both) some more)
    ∙ map-append (λ (one : SettledFrame). one.frame) (filter (λ (one : SettledFrame). not one.is_in_both) some)
    (filter (λ (one : SettledFrame). not one.is_in_both) more)

-- all were given up, or all are in both
pub given_up-all : (frames : List CameFrame) → frames_given_up (map given_up frames) ≡ frames
given_up-all [] = refl
given_up-all (frame ∷ more) = ap (λ rest. frame ∷ rest) (given_up-all more)

pub given_up-none : (frames : List CameFrame) → frames_given_up (map in_both frames) ≡ []
given_up-none [] = refl
given_up-none (frame ∷ more) = given_up-none more

pub in_both-all : (frames : List CameFrame) → frames_in_both (map in_both frames) ≡ frames
in_both-all [] = refl
in_both-all (frame ∷ more) = ap (λ rest. frame ∷ rest) (in_both-all more)

pub in_both-none : (frames : List CameFrame) → frames_in_both (map given_up frames) ≡ []
in_both-none [] = refl
in_both-none (frame ∷ more) = in_both-none more

-- first some were given up, then some are in both
pub given_up-settled : (alone both : List CameFrame) → frames_given_up (map given_up alone ++ map in_both both) ≡ alone
given_up-settled alone both =
    frames_given_up-append (map given_up alone) (map in_both both) ∙ rw (given_up-all, given_up-none) (append-nil alone)

pub in_both-settled : (alone both : List CameFrame) → frames_in_both (map given_up alone ++ map in_both both) ≡ both
in_both-settled alone both = frames_in_both-append (map given_up alone) (map in_both both) ∙ rw (in_both-none, in_both-all) refl
