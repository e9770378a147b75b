-- A replay under way, after something more was handed in.
use Rattle.std.proofs.Common.{◌≡◌, ◌≢◌, ℕ, suc, ◌+◌, ◌<◌, ⊎_elim, Bool, true, false, ◌||◌, nat_lt, cond, Option, Some, None, List, Vec, Global, [], ◌∷◌, ◌++◌, ◌==◌, length, map, take, is_some, get_or, slice_index_or, slice_set, eq-eqb, ne_eqb, refl, sym, ap, subst, ◌∙◌, arith, append-nil, append_assoc}
use Rattle.std.specs.List.{cons_option}
use Rattle.std.specs.Option.{option_map}
use Rattle.std.proofs.Math.Seq.{take-suc}
use Rattle.std.proofs.lemmas.Bool.{cases_eq, lt-ltb}
use Rattle.std.proofs.lemmas.List.{map-append, length-set, get_or-set_same, get_or-set_other}
use Rattle.std.proofs.lemmas.List.Elements.{All-nil, All-cons, All-append, filter-append, filter_map-append}
use Rattle.flow_records.specs.declared.decision.Decision.{Decision}
use Rattle.lane.specs.declared.admitted.Admitted.{Admitted}
use Rattle.lane.specs.declared.input.Input.{Input}
use Rattle.lane.specs.Limits.{channel_limit, senders}
use Rattle.lane.specs.Inputs.{Answer, AnsweredInput, inputs_of}
use Rattle.lane.specs.Report.{admitted_by, refused_by, event_of_admitted, refusal_numbers}
use Rattle.loss_rule.specs.declared.rule.LossRule.{LossRule}
use Rattle.consumer.specs.Collecting.{HasCollected, list_at}
use Rattle.receiver.specs.declared.setup.Setup.{Setup}
use Rattle.consumer.specs.declared.collected.Collected.{Collected}
use Rattle.receiver.specs.declared.receiver.Receiver.{Receiver}
use Rattle.receiver.specs.declared.playing.Playing.{Playing}
use Rattle.receiver.specs.Items.{Incoming}
use Rattle.receiver.specs.HandedIn.{HandedIn, came, came_on, made_of, answered_on}
use Rattle.receiver.specs.HandedOrder.{sender_of, IsSent, gives_item, order_of, handed_by, handed_decision, IsHandedFrom}
use Rattle.receiver.specs.Receiving.{TakesMore}
use Rattle.receiver.specs.Playing.{Plays, IsPlaying, PlaysOne, PlaysInput, PlaysNext, PlaysMore, PlaysTags}
use Rattle.receiver.proofs.HandedOrder.{order-append, order-one}

-- what came on a channel after one more
pub answered-more : (channel : ℕ) (handed : List HandedIn) (one : HandedIn)
    → answered_on channel (handed ++ one ∷ []) ≡ answered_on channel handed ++ answered_on channel (one ∷ [])
answered-more channel handed one = filter_map-append (came_on channel) handed (one ∷ [])

pub refusals-more : (channel : ℕ) (handed : List HandedIn) (one : HandedIn)
    → refusal_numbers (answered_on channel (handed ++ one ∷ [])) ≡ refusal_numbers (answered_on channel handed) ++ refusal_numbers (answered_on channel (one ∷ []))
refusals-more channel handed one =
    ap refusal_numbers (answered-more channel handed one)
    ∙ filter_map-append (λ (x : AnsweredInput). refused_by x.answer) (answered_on channel handed) (answered_on channel (one ∷ []))

-- the refusals of one input, on any channel
pub refusals-none : (own : Bool) (one : AnsweredInput) → refused_by one.answer ≡ None → refusal_numbers (cons_option (cond own (Some one) None) []) ≡ []
refusals-none true one none = ap (λ (o : Option ℕ). cons_option o []) none
refusals-none false one none = refl

pub refusals-one : (own : Bool) (one : AnsweredInput) (number : ℕ) → refused_by one.answer ≡ Some number
    → refusal_numbers (cons_option (cond own (Some one) None) []) ≡ cond own (number ∷ []) []
refusals-one true one number some = ap (λ (o : Option ℕ). cons_option o []) some
refusals-one false one number some = refl

-- of each channel the refusals grew by those of this
pub record RefusalsGrow (refused : List (Vec ℕ Global)) (one : HandedIn) (after : List (Vec ℕ Global)) : Type 0 where
  pub many : length after ≡ length refused
  pub grow : (channel : ℕ) → channel < channel_limit → list_at after channel ≡ list_at refused channel ++ refusal_numbers (answered_on channel (one ∷ []))

module _ {C : Type 0} (accepts : C → List ℕ → Bool) (playing after : Playing C) (one : HandedIn) where
  -- it is handed in
  pub plays-one : TakesMore HasCollected accepts playing.receiver playing.collected (one ∷ []) after.receiver after.collected
      → RefusalsGrow playing.refused.items one after.refused.items → PlaysOne accepts playing one after
  plays-one takes grow rule check setup handed plays = record {
    given = plays.given ++ takes.given_more;
    stands = takes.stands check (made_of rule channel_limit setup) handed plays.given plays.stands;
    start = plays.start;
    nothing = plays.nothing;
    collected = takes.was_given plays.start plays.given plays.collected;
    many = grow.many ∙ plays.many;
    refused = λ channel below.
        grow.grow channel below ∙ ap (λ (t : List ℕ). t ++ refusal_numbers (answered_on channel (one ∷ []))) (plays.refused channel below)
        ∙ sym (refusals-more channel handed one);
  }

  -- the places aren't looked at
  pub plays-placed : (places : List ℕ) → PlaysOne accepts playing one after → PlaysOne accepts playing one (record after { places = places })
  plays-placed places plays rule check setup handed was =
      let now = plays rule check setup handed was in
      record { given = now.given; stands = now.stands; start = now.start; nothing = now.nothing; collected = now.collected; many = now.many; refused = now.refused }

  pub still-playing : IsPlaying accepts playing → PlaysOne accepts playing one after → length after.places ≡ senders → IsPlaying accepts after
  still-playing is plays five = record {
    rule = is.rule;
    check = is.check;
    setup = is.setup;
    handed = is.handed ++ one ∷ [];
    plays = plays is.rule is.check is.setup is.handed is.plays;
    five = five;
  }

  -- it comes next from its sender, and gives an item or not
  pub plays-next : (incoming : Incoming) (sender : ℕ) (is_item : Bool) → PlaysOne accepts playing one after
      → ((handed : List HandedIn) → IsHandedFrom incoming playing.places handed → IsHandedFrom incoming after.places (handed ++ one ∷ []))
      → ((rule : LossRule) (check : List ℕ → Bool) (setup : Setup) (handed : List HandedIn) → Plays accepts rule check setup playing handed
      → is_item ≡ gives_item (length setup.flows.items) one)
      → sender_of one ≡ sender → PlaysNext accepts incoming playing sender is_item after
  plays-next incoming sender is_item plays from item of_sender rule check setup handed was fits = (
    one,
    plays rule check setup handed was,
    from handed fits,
    of_sender,
    item rule check setup handed was,
  )

module _ {C : Type 0} (accepts : C → List ℕ → Bool) (incoming : Incoming) where
  -- what comes next is more
  pub next-more : (playing after : Playing C) (sender : ℕ) (is_item : Bool) → PlaysNext accepts incoming playing sender is_item after
      → PlaysMore accepts incoming playing (cond is_item (sender ∷ []) []) after
  next-more playing after sender is_item next rule check setup handed plays from =
      let one = next rule check setup handed plays from in (
        one.0 ∷ [],
        one.1,
        one.2,
        order-one (length setup.flows.items) one.0
            ∙ ap (λ (b : Bool). cond b (sender_of one.0 ∷ []) []) (sym one.4)
            ∙ ap (λ (s : ℕ). cond is_item (s ∷ []) []) one.3,
      )

  -- by tags nothing is handed in, or what comes next besides
  pub tags-none : (playing : Playing C) → PlaysTags accepts incoming playing [] [] playing
  tags-none playing rule check setup handed plays from = (
    [],
    subst (λ (h : List HandedIn). Plays accepts rule check setup playing h) (sym (append-nil handed)) plays,
    subst (λ (h : List HandedIn). IsHandedFrom incoming playing.places h) (sym (append-nil handed)) from,
    refl,
    refl,
  )

  pub tags-next : (first second third : Playing C) (tags order : List ℕ) (sender : ℕ) (is_item : Bool) → PlaysTags accepts incoming first tags order second
      → PlaysNext accepts incoming second sender is_item third → PlaysTags accepts incoming first (tags ++ sender ∷ []) (order ++ cond is_item (sender ∷ []) []) third
  tags-next first second third tags order sender is_item before next rule check setup handed plays from =
      let some = before rule check setup handed plays from in
      let one = next rule check setup (handed ++ some.0) some.1 some.2 in (
        some.0 ++ one.0 ∷ [],
        subst (λ (h : List HandedIn). Plays accepts rule check setup third h) (append_assoc handed some.0 (one.0 ∷ [])) one.1,
        subst (λ (h : List HandedIn). IsHandedFrom incoming third.places h) (append_assoc handed some.0 (one.0 ∷ [])) one.2,
        map-append sender_of some.0 (one.0 ∷ []) ∙ ap (λ (t : List ℕ). t ++ sender_of one.0 ∷ []) some.3 ∙ ap (λ (s : ℕ). tags ++ s ∷ []) one.3,
        order-append (length setup.flows.items) some.0 (one.0 ∷ []) ∙ ap (λ (t : List ℕ). t ++ order_of (length setup.flows.items) (one.0 ∷ [])) some.4
            ∙ ap (λ (t : List ℕ). order ++ t)
            (order-one (length setup.flows.items) one.0
            ∙ ap (λ (b : Bool). cond b (sender_of one.0 ∷ []) []) (sym one.4)
            ∙ ap (λ (s : ℕ). cond is_item (s ∷ []) []) one.3),
      )

  pub plays-none : (playing : Playing C) → PlaysMore accepts incoming playing [] playing
  plays-none playing rule check setup handed plays from = (
    [],
    subst (λ (h : List HandedIn). Plays accepts rule check setup playing h) (sym (append-nil handed)) plays,
    subst (λ (h : List HandedIn). IsHandedFrom incoming playing.places h) (sym (append-nil handed)) from,
    refl,
  )

  pub plays-on : (first second third : Playing C) (order others : List ℕ) → PlaysMore accepts incoming first order second
      → PlaysMore accepts incoming second others third → PlaysMore accepts incoming first (order ++ others) third
  plays-on first second third order others before then rule check setup handed plays from =
      let one = before rule check setup handed plays from in
      let two = then rule check setup (handed ++ one.0) one.1 one.2 in (
        one.0 ++ two.0,
        subst (λ (h : List HandedIn). Plays accepts rule check setup third h) (append_assoc handed one.0 two.0) two.1,
        subst (λ (h : List HandedIn). IsHandedFrom incoming third.places h) (append_assoc handed one.0 two.0) two.2,
        order-append (length setup.flows.items) one.0 two.0 ∙ ap (λ (t : List ℕ). t ++ order_of (length setup.flows.items) two.0) one.3
            ∙ ap (λ (t : List ℕ). order ++ t) two.3,
      )

-- an admitted segment is an item
pub admitted-item : (n channel : ℕ) (one : AnsweredInput) → is_some (admitted_by one.answer) ≡ gives_item n (came channel one)
admitted-item n channel one = either (admitted_by one.answer)
  where
    either : (admitted : Option Admitted) → is_some admitted ≡ is_some (option_map event_of_admitted admitted)
    either (Some admitted) = refl
    either None = refl

module _ (incoming : Incoming) (places : List ℕ) (handed : List HandedIn) (from : IsHandedFrom incoming places handed) where
  -- the next input of a channel
  pub from-input : (channel : ℕ) (one : AnsweredInput) → channel < channel_limit → slice_index_or places channel 0 < length (incoming.inputs channel)
      → one.input ≡ get_or (incoming.inputs channel) (slice_index_or places channel 0) one.input
      → IsHandedFrom incoming (slice_set places channel (slice_index_or places channel 0 + 1)) (handed ++ came channel one ∷ [])
  from-input channel one below within at = record {
    five = length-set places channel (place + 1) ∙ from.five;
    sent = All-append IsSent handed (came channel one ∷ []) from.sent (All-cons IsSent (came channel one) [] below (All-nil IsSent));
    inputs = λ other is_channel.
        ap inputs_of (answered-more other handed (came channel one))
        ∙ map-append (λ (x : AnsweredInput). x.input) (answered_on other handed) (answered_on other (came channel one ∷ []))
        ∙ ap (λ (t : List Input). t ++ inputs_of (answered_on other (came channel one ∷ []))) (from.inputs other is_channel)
        ∙ ⊎_elim (same_channel other) (other_channel other is_channel) (cases_eq channel other);
    decisions =
        filter-append (λ (x : HandedIn). channel_limit == sender_of x) handed (came channel one ∷ [])
        ∙ ap (λ (t : List HandedIn). t ++ handed_by channel_limit (came channel one ∷ [])) from.decisions
        ∙ ap (λ (b : Bool). map handed_decision (take (slice_index_or places channel_limit 0) incoming.decisions) ++ cond b (came channel one ∷ []) [])
        (ne_eqb channel_limit channel (λ same. omega arith))
        ∙ append-nil (map handed_decision (take (slice_index_or places channel_limit 0) incoming.decisions))
        ∙ ap (λ (p : ℕ). map handed_decision (take p incoming.decisions)) (sym (get_or-set_other places channel channel_limit (place + 1) 0 (λ same. omega arith)));
  }
    where
      place : ℕ
      place = slice_index_or places channel 0

      inside : channel < length places
      inside = let five = from.five in omega (arith, below)

      next : suc (slice_index_or places channel 0) ≡ slice_index_or (slice_set places channel (slice_index_or places channel 0 + 1)) channel 0
      next = let set = get_or-set_same places channel (slice_index_or places channel 0 + 1) 0 inside in omega arith

      same_channel : (other : ℕ) → channel ≡ other
          → take (slice_index_or places other 0) (incoming.inputs other) ++ inputs_of (answered_on other (came channel one ∷ []))
          ≡ take (slice_index_or (slice_set places channel (slice_index_or places channel 0 + 1)) other 0) (incoming.inputs other)
      same_channel other same = subst (λ (c : ℕ).
          take (slice_index_or places c 0) (incoming.inputs c) ++ inputs_of (answered_on c (came channel one ∷ []))
          ≡ take (slice_index_or (slice_set places channel (slice_index_or places channel 0 + 1)) c 0) (incoming.inputs c)) same
          (ap (λ (b : Bool). take (slice_index_or places channel 0) (incoming.inputs channel) ++ inputs_of (cons_option (cond b (Some one) None) [])) (eq-eqb channel channel refl)
          ∙ ap (λ (x : Input). take (slice_index_or places channel 0) (incoming.inputs channel) ++ x ∷ []) at
          ∙ sym (take-suc (incoming.inputs channel) (slice_index_or places channel 0) one.input within)
          ∙ ap (λ (p : ℕ). take p (incoming.inputs channel))
          next)

      other_channel : (other : ℕ) → other < channel_limit → channel ≢ other
          → take (slice_index_or places other 0) (incoming.inputs other) ++ inputs_of (answered_on other (came channel one ∷ []))
          ≡ take (slice_index_or (slice_set places channel (slice_index_or places channel 0 + 1)) other 0) (incoming.inputs other)
      other_channel other is_channel differ =
          ap (λ (b : Bool). take (slice_index_or places other 0) (incoming.inputs other) ++ inputs_of (cons_option (cond b (Some one) None) [])) (ne_eqb channel other differ)
          ∙ append-nil (take (slice_index_or places other 0) (incoming.inputs other))
          ∙ ap (λ (p : ℕ). take p (incoming.inputs other)) (sym (get_or-set_other places channel other (slice_index_or places channel 0 + 1) 0 (λ same. differ (sym same))))

  -- the next decision
  pub from-decision : (decision : Decision) → slice_index_or places channel_limit 0 < length incoming.decisions
      → decision ≡ get_or incoming.decisions (slice_index_or places channel_limit 0) decision
      → IsHandedFrom incoming (slice_set places channel_limit (slice_index_or places channel_limit 0 + 1)) (handed ++ handed_decision decision ∷ [])
  from-decision decision within at = record {
    five = length-set places channel_limit (slice_index_or places channel_limit 0 + 1) ∙ from.five;
    sent = All-append IsSent handed (handed_decision decision ∷ []) from.sent (All-cons IsSent (handed_decision decision) [] tt (All-nil IsSent));
    inputs = λ channel below.
        ap inputs_of (answered-more channel handed (handed_decision decision))
        ∙ ap inputs_of (append-nil (answered_on channel handed))
        ∙ from.inputs channel below
        ∙ ap (λ (p : ℕ). take p (incoming.inputs channel)) (sym (get_or-set_other places channel_limit channel (slice_index_or places channel_limit 0 + 1) 0 (λ same. omega arith)));
    decisions =
        filter-append (λ (x : HandedIn). channel_limit == sender_of x) handed (handed_decision decision ∷ [])
        ∙ ap (λ (t : List HandedIn). t ++ handed_decision decision ∷ []) from.decisions
        ∙ sym (map-append handed_decision (take (slice_index_or places channel_limit 0) incoming.decisions) (decision ∷ []))
        ∙ ap (λ (d : Decision). map handed_decision (take (slice_index_or places channel_limit 0) incoming.decisions ++ d ∷ [])) at
        ∙ ap (map handed_decision) (sym (take-suc incoming.decisions (slice_index_or places channel_limit 0) decision within))
        ∙ ap (λ (p : ℕ). map handed_decision (take p incoming.decisions))
        next;
  }
    where
      next : suc (slice_index_or places channel_limit 0) ≡ slice_index_or (slice_set places channel_limit (slice_index_or places channel_limit 0 + 1)) channel_limit 0
      next =
          let five = from.five in
          let set = get_or-set_same places channel_limit (slice_index_or places channel_limit 0 + 1) 0 (omega arith) in
          omega arith

module _ {C : Type 0} (accepts : C → List ℕ → Bool) (playing : Playing C) (receiver : Receiver C) (collected : Collected) (refused : Vec (Vec ℕ Global) Global)
    (channel : ℕ) (input : Input) (answer : Answer) (takes : TakesMore HasCollected accepts playing.receiver playing.collected (came channel (record { input = input; answer = answer }) ∷ []) receiver collected) where
  -- an input is handed in, and its refusal is kept
  pub input-taken : (is_item : Bool) → is_item ≡ is_some (admitted_by answer)
      → RefusalsGrow playing.refused.items (came channel (record { input = input; answer = answer })) refused.items
      → PlaysInput accepts playing channel input is_item (record { receiver = receiver; collected = collected; refused = refused; places = playing.places })
  input-taken is_item told grow = record {
    answer = answer;
    told = told;
    plays = plays-one accepts playing (record { receiver = receiver; collected = collected; refused = refused; places = playing.places })
        (came channel (record { input = input; answer = answer })) takes grow;
    places = refl;
  }

-- whether anything gave an item, after more was handed in
pub any-both : (any more : Bool) (order others : List ℕ) → any ≡ nat_lt 0 (length order) → more ≡ nat_lt 0 (length others) → (any || more) ≡ nat_lt 0 (length (order ++ others))
any-both any more [] [] is also = ap (λ (b : Bool). b || more) is ∙ also
any-both any more [] (tag ∷ others) is also = ap (λ (b : Bool). b || more) is ∙ also
any-both any more (tag ∷ order) others is also =
    ap (λ (b : Bool). b || more) (is ∙ lt-ltb 0 (length (tag ∷ order)) (omega arith)) ∙ sym (lt-ltb 0 (length (tag ∷ (order ++ others))) (omega arith))

pub any-more : (any is_item : Bool) (order : List ℕ) (sender : ℕ) → any ≡ nat_lt 0 (length order)
    → (any || is_item) ≡ nat_lt 0 (length (order ++ cond is_item (sender ∷ []) []))
any-more any true order sender is = any-both any true order (sender ∷ []) is refl
any-more any false order sender is = any-both any false order [] is refl
