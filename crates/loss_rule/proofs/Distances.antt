-- How far places lie from one on.
use Rattle.std.proofs.Common.{◌≡◌, ℕ, ◌+◌, ◌-◌, ◌<◌, ◌≤◌, inl, inr, Option, None, Some, List, [], ◌∷◌, map, refl, sym, ap, ◌∙◌, arith}
use Rattle.std.proofs.lemmas.Bool.{cases_lt}
use Rattle.std.proofs.lemmas.Bool.Decides.{nat_tests}
use Rattle.loss_rule.specs.declared.known_channel.KnownChannel.{KnownChannel}
use Rattle.loss_rule.specs.Numbers.{distance_from}

-- a place from n on, and one before it
pub from-some : (n place : ℕ) → n ≤ place → distance_from n (Some place) ≡ Some (place - n)
from-some n place from = grind (arith, nat_tests)

pub from-none : (n place : ℕ) → place < n → distance_from n (Some place) ≡ None
from-none n place before = grind (arith, nat_tests)

-- from further on
pub from-further : (n by : ℕ) (last : Option ℕ) → distance_from (n + by) last ≡ distance_from by (distance_from n last)
from-further n by None = refl
from-further n by (Some place) = elim (cases_lt place n) [
  | inl before ↦ from-none (n + by) place (omega arith) ∙ ap (distance_from by) (sym (from-none n place before))
  | inr from ↦ elim (cases_lt (place - n) by) [
    | inl passed ↦ from-none (n + by) place (omega arith) ∙ sym (ap (distance_from by) (from-some n place from) ∙ from-none by (place - n) passed)
    | inr after ↦
        from-some (n + by) place (omega arith) ∙ ap Some (let same : place - (n + by) ≡ place - n - by = omega arith in same)
        ∙ sym (ap (distance_from by) (from-some n place from) ∙ from-some by (place - n) after)
  ]
]

-- all from further on
pub all-further : (n by : ℕ) (lasts : List (Option ℕ)) → map (distance_from (n + by)) lasts ≡ map (distance_from by) (map (distance_from n) lasts)
all-further n by [] = refl
all-further n by (last ∷ lasts) = ap (λ d. d ∷ map (distance_from (n + by)) lasts) (from-further n by last) ∙ ap (λ ds. distance_from by (distance_from n last) ∷ ds) (all-further n by lasts)

-- those of channels
pub all-lasts : (n : ℕ) (items : List KnownChannel) → map (λ one. distance_from n one.last) items ≡ map (distance_from n) (map (λ one. one.last) items)
all-lasts n [] = refl
all-lasts n (one ∷ items) = ap (λ ds. distance_from n one.last ∷ ds) (all-lasts n items)

pub items-further : (n by : ℕ) (items : List KnownChannel)
    → map (λ one. distance_from (n + by) one.last) items ≡ map (distance_from by) (map (λ one. distance_from n one.last) items)
items-further n by items =
    all-lasts (n + by) items ∙ all-further n by (map (λ one. one.last) items) ∙ ap (map (distance_from by)) (sym (all-lasts n items))

-- from the first place on nothing changes
all-from-zero : (lasts : List (Option ℕ)) → map (distance_from 0) lasts ≡ lasts
all-from-zero [] = refl
all-from-zero (None ∷ lasts) = ap (λ ds. None ∷ ds) (all-from-zero lasts)
all-from-zero (Some place ∷ lasts) =
    ap (λ d. d ∷ map (distance_from 0) lasts) (from-some 0 place (omega arith) ∙ ap Some (let same : place - 0 ≡ place = omega arith in same))
    ∙ ap (λ ds. Some place ∷ ds) (all-from-zero lasts)

both : (n by : ℕ) (lasts : List (Option ℕ)) → map (λ last. distance_from by (distance_from n last)) lasts ≡ map (distance_from by) (map (distance_from n) lasts)
both n by [] = refl
both n by (last ∷ lasts) = ap (λ ds. distance_from by (distance_from n last) ∷ ds) (both n by lasts)

-- places that are counted anew, from the one that is then expected
pub counted-anew : (n by : ℕ) (items counted : List KnownChannel)
    → map (λ (one : KnownChannel). one.last) counted ≡ map (λ last. distance_from by (distance_from n last)) (map (λ (one : KnownChannel). one.last) items)
    → map (λ one. distance_from 0 one.last) counted ≡ map (distance_from by) (map (λ one. distance_from n one.last) items)
counted-anew n by items counted same =
    all-lasts 0 counted ∙ all-from-zero (map (λ (one : KnownChannel). one.last) counted) ∙ same ∙ both n by (map (λ (one : KnownChannel). one.last) items)
    ∙ ap (map (distance_from by)) (sym (all-lasts n items))
