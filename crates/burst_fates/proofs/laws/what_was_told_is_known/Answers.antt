use Rattle.std.proofs.Common.{◌≡◌, ℕ, ◌+◌, ◌-◌, ◌≤◌, false, ◌||◌, Option, Some, List, ◌∷◌, ◌++◌, length, drop, ap, sym, ◌∙◌, arith, length-append}
use Rattle.std.proofs.lemmas.List.{drop-drop}
use Rattle.std.proofs.lemmas.List.Elements.{All-drop}
use Rattle.burst_fates.specs.declared.burst_fate.BurstFate.{BurstFate}
use Rattle.burst_fates.specs.declared.burst_fate.ToldFate.{ToldFate}
use Rattle.burst_fates.specs.Room.{most_told}
use Rattle.burst_fates.specs.Fates.{IsOther, is_kept, was_kept, known_of, kept_of}
use Rattle.burst_fates.proofs.Known.{kept-behind, kept-drop, told-own, known-kept, known-one, known-other, keep-behind, keep-among}
use Rattle.burst_fates.proofs.laws.what_was_told_is_known.Goals as goal

-- what is left of those before is left of what was kept of them
none-left : (id n : ℕ) (before : List ToldFate) → length before - most_told ≤ n → was_kept id (kept_of before) ≡ false → was_kept id (drop n before) ≡ false
none-left id n before behind none =
    ap (λ (m : ℕ). was_kept id (drop m before)) same
    ∙ ap (λ (rest : List ToldFate). was_kept id rest) (sym (drop-drop (n - (length before - most_told)) (length before - most_told) before))
    ∙ kept-drop id (n - (length before - most_told)) (kept_of before) none where
      same : n ≡ (length before - most_told) + (n - (length before - most_told))
      same = omega arith

pub returns-clause-kept : goal.returns-clause-kept
returns-clause-kept c =
    λ before later one few is.
    let front = drop (length (before ++ one ∷ later) - most_told) before in
    ap (known_of one.id) (keep-behind most_told before (one ∷ later) (omega arith))
    ∙ known-kept one.id (front ++ one ∷ later) (kept-behind one.id front (one ∷ later)
    (ap (λ (here : Option BurstFate). is_kept here || was_kept one.id later) (told-own one)
    ∙ ap (λ (fate : BurstFate). is_kept (Some fate) || was_kept one.id later) is))

pub returns-clause-known : goal.returns-clause-known
returns-clause-known c =
    λ before later one few others none.
    let n = length (before ++ one ∷ later) - most_told in
    ap (known_of one.id) (keep-behind most_told before (one ∷ later) (omega arith))
    ∙ known-one (drop n before) later one others (none-left one.id n before (omega (arith, length-append before (one ∷ later))) none)

pub returns-clause-forgotten : goal.returns-clause-forgotten
returns-clause-forgotten c =
    λ before later id many others.
    ap (known_of id) (keep-among most_told before later many)
    ∙ known-other id (drop (length later - most_told) later) (All-drop (IsOther id) (length later - most_told) later others)

pub returns-clause-never : goal.returns-clause-never
returns-clause-never c = λ told id others. known-other id (drop (length told - most_told) told) (All-drop (IsOther id) (length told - most_told) told others)
