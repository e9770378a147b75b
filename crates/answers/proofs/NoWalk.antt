-- Numbers that aren't all bytes, and that are walked in no way.
use Rattle.std.proofs.Common.{◌≡◌, ℕ, ◌%◌, inl, inr, List, [], ◌∷◌, ◌++◌, replicate, get_or, ap, sym, subst, ◌∙◌, arith}
use Rattle.std.specs.List.{concat}
use Rattle.std.proofs.lemmas.List.{length-replicate}
use Rattle.docsis_wire.specs.declared.frame.HeadRead.TheVariants.{Head}
use Rattle.ccf.specs.Walk.{Ends, EndsAs, Walks}
use Rattle.texts.specs.AnyHeader.{any_header}

-- LEN's low number says that it is 256, which two bytes spell in another way
abbrev pub too_great : List ℕ
too_great = 2 ∷ 0 ∷ 0 ∷ 256 ∷ replicate 258 0

-- they announce as many numbers as they are, so that they don't wait for more
not_left : (after : List ℕ) → EndsAs any_header (Head 0 262) too_great after → ⊥
not_left after (inl fails) = let passed = fails.0.1 in absurd cc
not_left after (inr waits) = omega (arith, waits.1, length-replicate {A = ℕ} 258 0)

pub no_walk : (frames : List (List ℕ)) (after : List ℕ) → Walks any_header too_great frames after → ⊥
no_walk [] after walks = not_left after (subst (λ (rest : List ℕ). Ends any_header rest after) (sym walks.whole) walks.ends)
no_walk (frame ∷ frames) after walks =
    let is = walks.each.0.generic in
    let low : 256 ≡ is.len % 256 = ap (λ (xs : List ℕ). get_or xs 3 0) walks.whole ∙ ap (λ (t : List ℕ). get_or ((t ++ concat frames) ++ walks.rest) 3 0) is.spelled in
    omega arith
