-- The items of a source's channels stand in an order as the source gave them.
use Rattle.std.proofs.Common.{◌≡◌, ℕ, Bool, true, false, All, Option, Some, None, List, [], ◌∷◌, ◌++◌, map, filter, filter_map, flat_map, if◌then◌else◌, refl, sym, ap, subst, ◌∙◌}
use Rattle.std.specs.List.{cons_option}
use Rattle.std.proofs.lemmas.List.{map-append}
use Rattle.std.proofs.lemmas.List.Elements.{All-nil, All-cons, All-head, All-tail, filter_map-append, filter_passes}
use Rattle.flow_records.specs.declared.event.Event.{Event}
use Rattle.workers.specs.declared.channel_input.ChannelInput.{ChannelInput}
use Rattle.workers.specs.Inside.Carried.{SentEvent, sent_by, senders_of}
use Rattle.workers.specs.Inside.Working.{ServedInput, given_as, sent_in}

module _ (own : ℕ → Bool) where
  -- who sends an event, if it is one of these
  abbrev pub own_sender : SentEvent → Option ℕ
  own_sender one = if own one.sender then Some one.sender else None

  -- those of them that send, in order
  pub own-senders : (items : List SentEvent) → filter own (senders_of items) ≡ filter_map own_sender items
  own-senders [] = refl
  own-senders (one ∷ items) = either (own-senders items) (own one.sender)
    where
      either : filter own (senders_of items) ≡ filter_map own_sender items → (b : Bool)
          → (if b then one.sender ∷ filter own (senders_of items) else filter own (senders_of items))
          ≡ cons_option (if b then Some one.sender else None) (filter_map own_sender items)
      either rest true = ap (λ l. one.sender ∷ l) rest
      either rest false = rest

  -- events that one of them sends, and that another sends
  own-by : (by : ℕ) → own by ≡ true → (events : List Event) → filter_map own_sender (sent_by by events) ≡ senders_of (sent_by by events)
  own-by by is [] = refl
  own-by by is (event ∷ events) = ap (λ b. cons_option (if b then Some by else None) (filter_map own_sender (sent_by by events))) is ∙ ap (λ l. by ∷ l) (own-by by is events)

  pub foreign-by : (by : ℕ) → own by ≡ false → (events : List Event) → filter_map own_sender (sent_by by events) ≡ []
  foreign-by by is [] = refl
  foreign-by by is (event ∷ events) = ap (λ b. cons_option (if b then Some by else None) (filter_map own_sender (sent_by by events))) is ∙ foreign-by by is events

  -- what was admitted on channels that are all among them, or none of which is
  pub all-own : (served : List ServedInput) → All (λ one. own one.channel ≡ true) served
      → filter_map own_sender (flat_map sent_in served) ≡ senders_of (flat_map sent_in served)
  all-own [] are = refl
  all-own (one ∷ served) are =
      filter_map-append own_sender (sent_in one) (flat_map sent_in served)
      ∙ ap (λ l. l ++ filter_map own_sender (flat_map sent_in served)) (own-by one.channel (All-head (λ (s : ServedInput). own s.channel ≡ true) one served are) _)
      ∙ ap (λ l. senders_of (sent_in one) ++ l) (all-own served (All-tail (λ (s : ServedInput). own s.channel ≡ true) one served are))
      ∙ sym (map-append (λ (s : SentEvent). s.sender) (sent_in one) (flat_map sent_in served))

  pub none-own : (served : List ServedInput) → All (λ one. own one.channel ≡ false) served → filter_map own_sender (flat_map sent_in served) ≡ []
  none-own [] are = refl
  none-own (one ∷ served) are =
      filter_map-append own_sender (sent_in one) (flat_map sent_in served)
      ∙ ap (λ l. l ++ filter_map own_sender (flat_map sent_in served)) (foreign-by one.channel (All-head (λ (s : ServedInput). own s.channel ≡ false) one served are) _)
      ∙ none-own served (All-tail (λ (s : ServedInput). own s.channel ≡ false) one served are)

  -- inputs that are answered as those of these channels all came on one of them
  pub served-own : (served : List ServedInput) (inputs : List ChannelInput) → map given_as served ≡ filter (λ one. own one.channel) inputs
      → All (λ one. own one.channel ≡ true) served
  served-own served inputs same =
      all-back served (subst (All (λ (one : ChannelInput). own one.channel ≡ true)) (sym same) (filter_passes (λ (one : ChannelInput). own one.channel) inputs))
    where
      all-back : (served : List ServedInput) → All (λ (one : ChannelInput). own one.channel ≡ true) (map given_as served) → All (λ (one : ServedInput). own one.channel ≡ true) served
      all-back [] are = All-nil (λ (one : ServedInput). own one.channel ≡ true)
      all-back (one ∷ served) are =
          All-cons (λ (one : ServedInput). own one.channel ≡ true) one served
          (All-head (λ (one : ChannelInput). own one.channel ≡ true) (given_as one) (map given_as served) are)
          (all-back served (All-tail (λ (one : ChannelInput). own one.channel ≡ true) (given_as one) (map given_as served) are))
