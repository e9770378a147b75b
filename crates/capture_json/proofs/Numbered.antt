-- Flows and frames by their places, one after another.
use Rattle.std.proofs.Common.{◌≡◌, ℕ, ◌+◌, ◌<◌, List, [], ◌∷◌, ◌++◌, length, take, get_or, sym, ap, ◌∙◌, add-zero, append-nil, arith, length-take}
use Rattle.std.specs.Prelude.{flat_map}
use Rattle.std.specs.List.{enumerate_from}
use Rattle.std.proofs.lemmas.List.{take_more}
use Rattle.std.proofs.lemmas.Grind.{flat_map-append}
use Rattle.frame_comparison.specs.declared.compared_counts.ComparedCounts.{ComparedCounts}
use Rattle.frame_comparison.specs.Seen.{no_counts}
use Rattle.capture_json.specs.Compared.{told_if, compared_flows}

enumerate_from-push : {X : Type 0} (n : ℕ) (all : List X) (one : X)
    → enumerate_from n (all ++ one ∷ []) ≡ enumerate_from n all ++ (n + length all, one) ∷ []
enumerate_from-push n [] one = ap (λ k. (k, one) ∷ []) (sym (add-zero n))
enumerate_from-push n (first ∷ all) one =
    let place : n + 1 + length all ≡ n + length (first ∷ all) = omega arith in
    ap (λ others. (n, first) ∷ others) (enumerate_from-push (n + 1) all one ∙ ap (λ k. enumerate_from (n + 1) all ++ (k, one) ∷ []) place)

-- one more has the next place
pub places-more : {X : Type 0} (all : List X) (i : ℕ) (any : X) → i < length all
    → enumerate_from 0 (take (i + 1) all) ≡ enumerate_from 0 (take i all) ++ (i, get_or all i any) ∷ []
places-more all i any within =
    ap (enumerate_from 0) (take_more all i any within)
    ∙ enumerate_from-push 0 (take i all) (get_or all i any)
    ∙ ap (λ k. enumerate_from 0 (take i all) ++ (k, get_or all i any) ∷ []) place
  where
    place : 0 + length (take i all) ≡ i
    place = omega (arith, length-take i all, within)

-- it is told if something came of it
pub flows-more : (all : List ComparedCounts) (i : ℕ) → i < length all
    → compared_flows (take (i + 1) all) ≡ compared_flows (take i all) ++ told_if (i, get_or all i no_counts)
flows-more all i within =
    ap (flat_map told_if) (places-more all i no_counts within)
    ∙ flat_map-append told_if (enumerate_from 0 (take i all)) ((i, get_or all i no_counts) ∷ [])
    ∙ ap (λ more. compared_flows (take i all) ++ more) (append-nil (told_if (i, get_or all i no_counts)))
