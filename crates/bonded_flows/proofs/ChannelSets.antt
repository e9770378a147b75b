-- What the sets of channels have after the rows so far, and after one more.
use Rattle.std.proofs.Common.{◌≡◌, ◌≢◌, ℕ, zero, suc, ◌+◌, ◌<◌, ◌≤◌, ◌==◌, ◌&&◌, ◌||◌, inl, inr, Bool, true, false, Some, List, [], ◌∷◌, length, slice_get, slice_index_or, slice_set, take, refl, sym, ap, subst, ◌∙◌, arith}
use Rattle.std.proofs.Math.Bool.{or-false, or-true, and-false}
use Rattle.std.proofs.lemmas.Bool.{cases_eq, cases_lt, eq-eqb, ne_eqb}
use Rattle.std.proofs.lemmas.List.{get_or-set_same, get_or-set_other, length-set, take_all}
use Rattle.std.proofs.lemmas.List.Folds.{list_any_more}
use Rattle.std.proofs.lemmas.Option.{slice_get_within, slice_get_read, get_or_from_slice_get}
use Rattle.lane.specs.declared.sids.SidRow.{SidRow}
use Rattle.lane.specs.Rows.{CanBeOpenedWithin}
use Rattle.bonded_flows.specs.Channels.{has_row, channels_from, channels_within}

-- by the first n rows, each flow's set says of each channel whether it is the flow's
pub record AreMarked (sets : List (List Bool)) (flow_count : ℕ) (rows : List SidRow) (n : ℕ) : Type 0 where
  pub count : length sets ≡ flow_count
  pub places : (k : ℕ) → k < flow_count → length (slice_index_or sets k []) ≡ 16
  pub marked : (k channel : ℕ) → k < flow_count
      → slice_index_or (slice_index_or sets k []) channel false ≡ has_row (take n rows) k channel

module _ (rows : List SidRow) (n : ℕ) (row : SidRow) (at : slice_get rows n ≡ Some row) where
  -- a row of those that have no fault names a channel and a flow
  pub channel-known : (channels flow_count : ℕ) → CanBeOpenedWithin channels rows flow_count → row.channel < channels
  channel-known channels flow_count faultless =
      elim (cases_lt row.channel channels) [
        | inl below ↦ below
        | inr above ↦ absurd (faultless.in_range n (row, at, inl above))
      ]

  pub flow-known : (channels flow_count : ℕ) → CanBeOpenedWithin channels rows flow_count → row.flow < flow_count
  flow-known channels flow_count faultless =
      elim (cases_lt row.flow flow_count) [
        | inl below ↦ below
        | inr above ↦ absurd (faultless.known n (row, at, above))
      ]

  -- whether the row gives this flow this channel
  abbrev gives : ℕ → ℕ → Bool
  gives flow channel = (row.flow == flow) && (row.channel == channel)

  -- one more row
  row-more : (flow channel : ℕ)
      → has_row (take (n + 1) rows) flow channel ≡ (has_row (take n rows) flow channel || gives flow channel)
  row-more flow channel =
      list_any_more (λ (one : SidRow). (one.flow == flow) && (one.channel == channel)) rows n row (slice_get_within rows n row at)
      ∙ ap (λ (one : SidRow). has_row (take n rows) flow channel || ((one.flow == flow) && (one.channel == channel)))
      (get_or_from_slice_get rows n row row at)

  -- the row's own flow and channel
  row-given : (flow channel : ℕ) → flow ≡ row.flow → channel ≡ row.channel → has_row (take (n + 1) rows) flow channel ≡ true
  row-given flow channel same_flow same_channel =
      row-more flow channel
      ∙ ap (λ b. has_row (take n rows) flow channel || (b && (row.channel == channel))) (eq-eqb row.flow flow (sym same_flow))
      ∙ ap (λ b. has_row (take n rows) flow channel || b) (eq-eqb row.channel channel (sym same_channel))
      ∙ or-true (has_row (take n rows) flow channel)

  -- another flow
  other-flow : (flow channel : ℕ) → flow ≢ row.flow → has_row (take (n + 1) rows) flow channel ≡ has_row (take n rows) flow channel
  other-flow flow channel apart =
      row-more flow channel
      ∙ ap (λ b. has_row (take n rows) flow channel || (b && (row.channel == channel))) (ne_eqb row.flow flow (λ same. apart (sym same)))
      ∙ or-false (has_row (take n rows) flow channel)

  -- another channel
  other-channel : (flow channel : ℕ) → channel ≢ row.channel → has_row (take (n + 1) rows) flow channel ≡ has_row (take n rows) flow channel
  other-channel flow channel apart =
      row-more flow channel
      ∙ ap (λ b. has_row (take n rows) flow channel || ((row.flow == flow) && b)) (ne_eqb row.channel channel (λ same. apart (sym same)))
      ∙ ap (λ b. has_row (take n rows) flow channel || b) (and-false (row.flow == flow))
      ∙ or-false (has_row (take n rows) flow channel)

  module _ (sets : List (List Bool)) (flow_count : ℕ)
      (flow_known : row.flow < flow_count) (channel_small : row.channel < 16) (were : AreMarked sets flow_count rows n) where
    -- the set of the row's flow before and after, and all sets after
    abbrev before : List Bool
    before = slice_index_or sets row.flow []

    abbrev written : List Bool
    written = slice_set before row.channel true

    abbrev after : List (List Bool)
    after = slice_set sets row.flow written

    flow-within : row.flow < length sets
    flow-within = subst (λ m. row.flow < m) (sym were.count) flow_known

    here : slice_index_or after row.flow [] ≡ written
    here = get_or-set_same sets row.flow written [] flow-within

    elsewhere : (k : ℕ) → k ≢ row.flow → slice_index_or after k [] ≡ slice_index_or sets k []
    elsewhere k apart = get_or-set_other sets row.flow k written [] apart

    channel-within : row.channel < length before
    channel-within = subst (λ m. row.channel < m) (sym (were.places row.flow flow_known)) channel_small

    places-after : (k : ℕ) → k < flow_count → length (slice_index_or after k []) ≡ 16
    places-after k known =
        elim (cases_eq k row.flow) [
          | inl same ↦
              ap (λ i. length (slice_index_or after i [])) same ∙ ap length here
              ∙ length-set before row.channel true ∙ were.places row.flow flow_known
          | inr apart ↦ ap length (elsewhere k apart) ∙ were.places k known
        ]

    -- the set of the row's flow
    marked-here : (channel : ℕ) → slice_index_or written channel false ≡ has_row (take (n + 1) rows) row.flow channel
    marked-here channel =
        elim (cases_eq channel row.channel) [
          | inl same ↦
              ap (λ j. slice_index_or written j false) same ∙ get_or-set_same before row.channel true false channel-within
              ∙ sym (row-given row.flow channel refl same)
          | inr apart ↦
              get_or-set_other before row.channel channel true false apart ∙ were.marked row.flow channel flow_known
              ∙ sym (other-channel row.flow channel apart)
        ]

    marked-after : (k channel : ℕ) → k < flow_count
        → slice_index_or (slice_index_or after k []) channel false ≡ has_row (take (n + 1) rows) k channel
    marked-after k channel known =
        elim (cases_eq k row.flow) [
          | inl same ↦
              ap (λ i. slice_index_or (slice_index_or after i []) channel false) same ∙ ap (λ set. slice_index_or set channel false) here
              ∙ marked-here channel ∙ ap (λ i. has_row (take (n + 1) rows) i channel) (sym same)
          | inr apart ↦
              ap (λ set. slice_index_or set channel false) (elsewhere k apart) ∙ were.marked k channel known
              ∙ sym (other-flow k channel apart)
        ]

    mark-row : AreMarked after flow_count rows (n + 1)
    mark-row = record {
      count = length-set sets row.flow written ∙ were.count;
      places = places-after;
      marked = marked-after;
    }

    -- the same by the set and the place that are read
    pub mark-read : (set : List Bool) (place : ℕ) → set ≡ slice_index_or sets row.flow set → place ≡ row.channel
        → AreMarked (slice_set sets row.flow (slice_set set place true)) flow_count rows (n + 1)
    mark-read set place read same =
        let is = get_or_from_slice_get sets row.flow set [] (slice_get_read sets (length sets) row.flow set refl flow-within read) in
        subst (λ j. AreMarked (slice_set sets row.flow (slice_set set j true)) flow_count rows (n + 1)) (sym same)
        (subst (λ s. AreMarked (slice_set sets row.flow (slice_set s row.channel true)) flow_count rows (n + 1)) is mark-row)

-- a set that says of each channel whether it is the flow's is the list of the channels
each-channel : (rows : List SidRow) (flow channel n : ℕ) (set : List Bool) → n ≤ length set
    → ((j : ℕ) → slice_index_or set j false ≡ has_row rows flow (channel + j)) → take n set ≡ channels_from rows flow channel n
each-channel rows flow channel zero set fits same = refl
each-channel rows flow channel (suc n) [] fits same = absurd (omega arith)
each-channel rows flow channel (suc n) (x ∷ set) fits same =
    let first : channel + 0 ≡ channel = omega arith in
    let fits_rest : n ≤ length set = omega arith in
    let rest = each-channel rows flow (suc channel) n set fits_rest
    (λ j. same (suc j) ∙ ap (has_row rows flow) (let next : channel + suc j ≡ suc channel + j = omega arith in next)) in
    ap (λ b. b ∷ take n set) (same 0 ∙ ap (has_row rows flow) first) ∙ ap (λ l. has_row rows flow channel ∷ l) rest

-- after all rows each flow's set has its channels
pub all-marked : (sets : List (List Bool)) (channels flow_count n : ℕ) (rows : List SidRow) → channels ≤ 16 → length rows ≤ n
    → AreMarked sets flow_count rows n → (k : ℕ) (set : List Bool) → slice_get sets k ≡ Some set → take channels set ≡ channels_within channels rows k
all-marked sets channels flow_count n rows few all are k set at =
    let known : k < flow_count = subst (λ m. k < m) are.count (slice_get_within sets k set at) in
    let is = get_or_from_slice_get sets k set [] at in
    let sixteen : length set ≡ 16 = ap length (sym is) ∙ are.places k known in
    each-channel rows k 0 channels set (subst (λ m. channels ≤ m) (sym sixteen) few)
    (λ j. ap (λ s. slice_index_or s j false) (sym is) ∙ are.marked k j known ∙ ap (λ l. has_row l k j) (take_all n rows all)
    ∙ ap (has_row rows k) (let from_zero : j ≡ 0 + j = omega arith in from_zero))
