-- What is handed on and what goes on waiting, together.
use Rattle.std.proofs.Common.{ℕ, Option, List, [], ◌∷◌, ◌++◌, ap, sym, subst, ◌∙◌, append_assoc, append-nil}
use Rattle.std.specs.Prelude.{IsPermutation, option_to_list, remove}
use Rattle.std.proofs.lemmas.List.{map-append}
use Rattle.std.proofs.lemmas.List.Sorted.{IsPermutation-refl, IsPermutation-cons, IsPermutation-trans, IsPermutation-remove, IsPermutation-map, IsPermutation-append_left, IsPermutation-append_right}
use Rattle.std.proofs.lemmas.Option.{slice_get_within, get_or_from_slice_get}
use Rattle.capture_rules.specs.declared.arrival.Arrival.{Arrival}
use Rattle.capture_rules.specs.declared.arrival.HandedOn.{HandedOn}
use Rattle.capture_rules.specs.declared.arrival.Waiting.{Waiting}
use Rattle.capture_rules.specs.Order.{OrderView, IsNext, HandsOn, none_due, one_due, KeepsMost, all_wait, one_more, BurstComes, HandsOnAll, none_waits, one_waits, Orders, none_came, one_came, arrivals_of, bursts_of}

module _ {T : Type 0} where
  -- the next one and the others
  pub next-others : (waiting rest : List (Waiting T)) (next : HandedOn T) → IsNext waiting next rest → IsPermutation (bursts_of waiting) (next.arrival ∷ bursts_of rest)
  next-others waiting rest next p =
      let moved : IsPermutation waiting (p.one ∷ remove waiting p.at) = IsPermutation-remove waiting p.at p.one (slice_get_within waiting p.at p.one p.stands)
      (sym (get_or_from_slice_get waiting p.at p.one p.one p.stands)) in
      subst (λ (others : List (Waiting T)). IsPermutation (bursts_of waiting) (next.arrival ∷ bursts_of others)) (sym p.others)
      (subst (λ (x : Arrival T). IsPermutation (bursts_of waiting) (x ∷ bursts_of (remove waiting p.at))) (sym p.itself)
      (IsPermutation-map (λ (x : Waiting T). x.arrival) waiting (p.one ∷ remove waiting p.at) moved))

  none-lost : {time : ℕ} {order left : OrderView T} {handed : List (HandedOn T)} → HandsOn time order handed left → IsPermutation (bursts_of order.waiting) (arrivals_of handed ++ bursts_of left.waiting)
  none-lost (none_due {order = order} none) = IsPermutation-refl (bursts_of order.waiting)
  none-lost (one_due {order = order} {left = left} {rest = rest} {next = next} {later = later} due is_next more) =
      IsPermutation-trans (bursts_of order.waiting) (next.arrival ∷ bursts_of rest) (next.arrival ∷ (arrivals_of later ++ bursts_of left.waiting)) (next-others order.waiting rest next is_next)
      (IsPermutation-cons next.arrival (bursts_of rest) (arrivals_of later ++ bursts_of left.waiting) (none-lost more))

  none-dropped : {waiting rest : List (Waiting T)} {last : Option (HandedOn T)} → KeepsMost waiting last rest → IsPermutation (bursts_of waiting) (arrivals_of (option_to_list last) ++ bursts_of rest)
  none-dropped (all_wait few) = IsPermutation-refl _
  none-dropped {waiting = waiting} (one_more {next = next} {rest = rest} many is_next) = next-others waiting rest next is_next

  none-gone : (order left : OrderView T) (one : Arrival T) (handed : List (HandedOn T)) → BurstComes order one handed left
      → IsPermutation (bursts_of order.waiting ++ one ∷ []) (arrivals_of handed ++ bursts_of left.waiting)
  none-gone order left one handed p =
      let due = arrivals_of p.due in
      let last = arrivals_of (option_to_list p.last) in
      let first : IsPermutation (bursts_of order.waiting ++ one ∷ []) ((due ++ bursts_of p.between.waiting) ++ one ∷ []) = IsPermutation-append_left (one ∷ []) _ _ (none-lost p.hands_on) in
      let taken : IsPermutation (bursts_of p.between.waiting ++ one ∷ []) (last ++ bursts_of left.waiting) =
      subst (λ (w : List (Arrival T)). IsPermutation w (last ++ bursts_of left.waiting)) (map-append (λ (x : Waiting T). x.arrival) p.between.waiting _) (none-dropped p.takes_in.keeps) in
      let both = IsPermutation-trans (bursts_of order.waiting ++ one ∷ []) (due ++ (bursts_of p.between.waiting ++ one ∷ [])) (due ++ (last ++ bursts_of left.waiting))
      (subst (IsPermutation (bursts_of order.waiting ++ one ∷ [])) (append_assoc due (bursts_of p.between.waiting) (one ∷ [])) first) (IsPermutation-append_right due _ _ taken) in
      subst (IsPermutation (bursts_of order.waiting ++ one ∷ []))
      (sym (append_assoc due last (bursts_of left.waiting)) ∙ ap (λ (w : List (Arrival T)). w ++ bursts_of left.waiting) (sym (ap arrivals_of p.all ∙ map-append (λ (x : HandedOn T). x.arrival) p.due (option_to_list p.last)))) both

  pub none-left : {waiting : List (Waiting T)} {handed : List (HandedOn T)} → HandsOnAll waiting handed → IsPermutation (bursts_of waiting) (arrivals_of handed)
  none-left none_waits = IsPermutation-refl []
  none-left (one_waits {waiting = waiting} {rest = rest} {next = next} {later = later} is_next more) =
      IsPermutation-trans (bursts_of waiting) (next.arrival ∷ bursts_of rest) (next.arrival ∷ arrivals_of later) (next-others waiting rest next is_next)
      (IsPermutation-cons next.arrival (bursts_of rest) (arrivals_of later) (none-left more))

  pub all-there : {order left : OrderView T} {came : List (Arrival T)} {handed : List (HandedOn T)} → Orders order came handed left
      → IsPermutation (bursts_of order.waiting ++ came) (arrivals_of handed ++ bursts_of left.waiting)
  all-there (none_came {order = order}) =
      let P : List (Arrival T) → Type 0 = λ w. IsPermutation w (bursts_of order.waiting) in subst P (sym (append-nil (bursts_of order.waiting))) (IsPermutation-refl (bursts_of order.waiting))
  all-there (one_came {order = order} {between = between} {left = left} {one = one} {more = more} {due = due} {later = later} now after) =
      let waiting = bursts_of order.waiting in
      let a = arrivals_of due in
      let b = arrivals_of later in
      let first : IsPermutation ((waiting ++ one ∷ []) ++ more) ((a ++ bursts_of between.waiting) ++ more) = IsPermutation-append_left more _ _ (none-gone order between one due now) in
      let then : IsPermutation (a ++ (bursts_of between.waiting ++ more)) (a ++ (b ++ bursts_of left.waiting)) = IsPermutation-append_right a _ _ (all-there after) in
      let both = IsPermutation-trans ((waiting ++ one ∷ []) ++ more) (a ++ (bursts_of between.waiting ++ more)) (a ++ (b ++ bursts_of left.waiting))
      (subst (IsPermutation ((waiting ++ one ∷ []) ++ more)) (append_assoc a (bursts_of between.waiting) more) first) then in
      let P : List (Arrival T) → Type 0 = λ w. IsPermutation w (arrivals_of (due ++ later) ++ bursts_of left.waiting) in
      let Q : List (Arrival T) → Type 0 = λ w. IsPermutation ((waiting ++ one ∷ []) ++ more) w in
      subst P (append_assoc waiting (one ∷ []) more)
      (subst Q (sym (append_assoc a b (bursts_of left.waiting)) ∙ ap (λ (w : List (Arrival T)). w ++ bursts_of left.waiting) (sym (map-append (λ (x : HandedOn T). x.arrival) due later))) both)
