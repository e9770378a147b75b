-- What is seen, and what is given in it.
use Rattle.std.proofs.Common.{◌≡◌, ℕ, Bool, List, [], ◌∷◌, ◌++◌, map, refl, ap, sym, subst, ◌∙◌, append-nil, append_assoc}
use Rattle.std.proofs.lemmas.List.{map-append}
use Rattle.std.proofs.lemmas.List.Elements.{filter_map-append}
use Rattle.consumer.specs.declared.given.Given.{Given}
use Rattle.bonded_flows.specs.Table.{TableSetup}
use Rattle.receiver.specs.HandedIn.{HandedIn}
use Rattle.captured_flows.specs.Acts.{Act, alone, item_of, items_of}
use Rattle.captured_flows.specs.Steps.{CaptureStep, gave, given_by, given_in}
use Rattle.captured_flows.specs.Plays.{IsMove, Plays, nothing, one_move}

-- what is handed in by some acts and then others
pub items-append : (first later : List Act) → items_of (first ++ later) ≡ items_of first ++ items_of later
items-append first later = map-append item_of first later

-- and by one more
pub items-more : (handed : List Act) (act : Act) (item : HandedIn) → item_of act ≡ item → items_of handed ++ item ∷ [] ≡ items_of (handed ++ act ∷ [])
items-more handed act item is = ap (λ (i : HandedIn). items_of handed ++ i ∷ []) (sym is) ∙ sym (items-append handed (act ∷ []))

pub items-alone : (items : List HandedIn) → items_of (map alone items) ≡ items
items-alone [] = refl
items-alone (item ∷ items) = ap (λ (others : List HandedIn). item ∷ others) (items-alone items)

pub given-append : (first later : List CaptureStep) → given_in (first ++ later) ≡ given_in first ++ given_in later
given-append first later = filter_map-append given_by first later

pub given-gave : (given : List Given) → given_in (map gave given) ≡ given
given-gave [] = refl
given-gave (one ∷ given) = ap (λ (others : List Given). one ∷ others) (given-gave given)

-- behind what was given before
pub given-both : (given : List Given) (first later : List CaptureStep) → (given ++ given_in first) ++ given_in later ≡ given ++ given_in (first ++ later)
given-both given first later =
    append_assoc given (given_in first) (given_in later) ∙ ap (λ (g : List Given). given ++ g) (sym (given-append first later))

module _ (check : List ℕ → Bool) (made : TableSetup) where
  -- one move alone
  pub plays-one : (handed more : List Act) (given : List Given) (steps : List CaptureStep) → IsMove check made handed given more steps
      → Plays check made handed given more steps
  plays-one handed more given steps move =
      one_move nothing
      (subst (λ (h : List Act). IsMove check made h (given ++ []) more steps) (sym (append-nil handed))
      (subst (λ (g : List Given). IsMove check made handed g more steps) (sym (append-nil given)) move))

  -- moves, and then others
  pub plays-then : (handed first : List Act) (given : List Given) (before : List CaptureStep) {later : List Act} {behind : List CaptureStep}
      → Plays check made handed given first before → Plays check made (handed ++ first) (given ++ given_in before) later behind
      → Plays check made handed given (first ++ later) (before ++ behind)
  plays-then handed first given before plays nothing =
      subst (λ (m : List Act). Plays check made handed given m (before ++ [])) (sym (append-nil first))
      (subst (λ (s : List CaptureStep). Plays check made handed given first s) (sym (append-nil before)) plays)
  plays-then handed first given before plays (one_move {more = more} {later = later} {steps = steps} {behind = behind} others move) =
      subst (λ (m : List Act). Plays check made handed given m (before ++ (steps ++ behind))) (append_assoc first more later)
      (subst (λ (s : List CaptureStep). Plays check made handed given ((first ++ more) ++ later) s) (append_assoc before steps behind)
      (one_move (plays-then handed first given before plays others)
      (subst (λ (h : List Act). IsMove check made h (given ++ given_in (before ++ steps)) later behind) (append_assoc handed first more)
      (subst (λ (g : List Given). IsMove check made ((handed ++ first) ++ more) g later behind) (given-both given before steps) move))))
