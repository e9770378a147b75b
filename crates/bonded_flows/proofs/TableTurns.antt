-- What a slot of a table takes its table takes.
use Rattle.std.proofs.Common.{◌≡◌, ◌≢◌, ℕ, ◌<◌, ◌==◌, inl, inr, Bool, true, false, Option, Some, None, Result, Ok, Err, IfOk, IfErr, OnErr, List, [], ◌∷◌, ◌++◌, length, slice_index_or, map, filter_map, slice_get, slice_set, if◌then◌else◌, refl, ap, sym, subst, ◌∙◌, append-nil, arith}
use Rattle.std.proofs.lemmas.Bool.{cases_eq, eq-eqb, ne_eqb}
use Rattle.std.proofs.lemmas.List.Elements.{filter_map-append}
use Rattle.std.proofs.lemmas.List.{length-set}
use Rattle.std.proofs.lemmas.Option.{same_Some, slice_get_within, slice_get_cases, slice_get_read}
use Rattle.std.specs.declared.alloc.AllocError.{AllocError}
use Rattle.flow_records.specs.declared.record.FlowRecord.{FlowRecord}
use Rattle.flow_core.specs.declared.counts.FlowCounts.{FlowCounts}
use Rattle.flow_core.proofs.OneFlow.{written, written_other}
use Rattle.loss_rule.specs.Rule.{Coming}
use Rattle.consumer.specs.declared.given.Given.{Given}
use Rattle.consumer.specs.declared.given.Given.TheVariants.{Frame}
use Rattle.consumer.specs.Given.{frame_of, frames_of, request_on, requests_given}
use Rattle.bonded_flows.specs.declared.flow_slot.FlowSlot.{FlowSlot}
use Rattle.bonded_flows.specs.declared.flow_table.FlowTable.{FlowTable}
use Rattle.bonded_flows.specs.FlowSetup.{FlowSetup}
use Rattle.bonded_flows.specs.Parts.{FlowInput, comes, begins_anew, last_part, begun_at}
use Rattle.bonded_flows.specs.declared.flow_slot.DecideFault.{DecideFault}
use Rattle.bonded_flows.specs.declared.flow_slot.DecideFault.TheVariants.{NotTaken, Unfinished}
use Rattle.bonded_flows.specs.Slots.{IsClosing, SlotStands, SlotTakes, BeginsAnew, LeavesOf}
use Rattle.bonded_flows.specs.Slots.{IsInUse as IsSlotInUse}
use Rattle.bonded_flows.specs.Taking.{WasGiven}
use Rattle.bonded_flows.specs.Table.{TableSetup, TableInput, flow_setup, inputs_at, StandsFor, IsInUse, TakesMore, BeginsAnewAt}
use Rattle.bonded_flows.proofs.PartTurns.{slot-comes, slot-anew}

-- of what is made of some things by one function another picks all, or none
picked : {X Z : Type 0} (make : X → Z) (pick : Z → Option X) (own : Bool) → ((x : X) → pick (make x) ≡ (if own then Some x else None)) → (xs : List X)
    → filter_map pick (map make xs) ≡ (if own then xs else [])
picked make pick true is [] = refl
picked make pick false is [] = refl
picked make pick true is (x ∷ xs) =
    filter_map-append pick (make x ∷ []) (map make xs)
    ∙ ap (λ t. t ++ filter_map pick (map make xs)) (ap (λ o. filter_map (λ p. p) (o ∷ [])) (is x))
    ∙ ap (λ t. x ∷ t) (picked make pick true is xs)
picked make pick false is (x ∷ xs) =
    filter_map-append pick (make x ∷ []) (map make xs)
    ∙ ap (λ t. t ++ filter_map pick (map make xs)) (ap (λ o. filter_map (λ p. p) (o ∷ [])) (is x))
    ∙ picked make pick false is xs

-- these are handed in of flow k
abbrev pub of_flow : ℕ → FlowInput → TableInput
of_flow k input = record { flow = k; input = input }

module _ (k : ℕ) (history : List TableInput) (inputs : List FlowInput) (given : List Given) (frames : List (List ℕ)) where
  pub inputs-own : inputs_at k (history ++ map (of_flow k) inputs) ≡ inputs_at k history ++ inputs
  inputs-own =
      filter_map-append _ history (map (of_flow k) inputs)
      ∙ ap (λ t. inputs_at k history ++ t) (picked (of_flow k) _ (k == k) (λ x. refl) inputs ∙ ap (λ b. if b then inputs else []) (eq-eqb k k refl))

  pub inputs-others : (j : ℕ) → k ≢ j → inputs_at j (history ++ map (of_flow k) inputs) ≡ inputs_at j history
  inputs-others j apart =
      filter_map-append _ history (map (of_flow k) inputs)
      ∙ ap (λ t. inputs_at j history ++ t) (picked (of_flow k) _ (k == j) (λ x. refl) inputs ∙ ap (λ b. if b then inputs else []) (ne_eqb k j apart))
      ∙ append-nil (inputs_at j history)

  pub frames-own : frames_of k (given ++ map (Frame k) frames) ≡ frames_of k given ++ frames
  frames-own =
      filter_map-append (frame_of k) given (map (Frame k) frames)
      ∙ ap (λ t. frames_of k given ++ t) (picked (Frame k) (frame_of k) (k == k) (λ x. refl) frames ∙ ap (λ b. if b then frames else []) (eq-eqb k k refl))

  pub frames-others : (j : ℕ) → k ≢ j → frames_of j (given ++ map (Frame k) frames) ≡ frames_of j given
  frames-others j apart =
      filter_map-append (frame_of j) given (map (Frame k) frames)
      ∙ ap (λ t. frames_of j given ++ t) (picked (Frame k) (frame_of j) (k == j) (λ x. refl) frames ∙ ap (λ b. if b then frames else []) (ne_eqb k j apart))
      ∙ append-nil (frames_of j given)

-- frames are no requests
pub no-request : (k channel : ℕ) (frames : List (List ℕ)) → requests_given channel (map (Frame k) frames) ≡ []
no-request k channel [] = refl
no-request k channel (frame ∷ frames) = filter_map-append (request_on channel) (Frame k frame ∷ []) (map (Frame k) frames) ∙ no-request k channel frames

module _ {C : Type 0} (accepts : C → List ℕ → Bool) (table : FlowTable C) (k : ℕ) (slot : FlowSlot) (here : slice_get table.slots.items k ≡ Some slot) (in_use : IsInUse accepts table) where
  -- its slot at k is in use, and has the index k
  record_at : (made : TableSetup) → length table.slots.items ≡ length made.records → (flow_record : FlowRecord) × (slice_get made.records k ≡ Some flow_record)
  record_at made count = elim (slice_get_cases made.records k).1 [
    | inl found ↦ (found.0, found.2)
    | inr past ↦ let inside = slice_get_within table.slots.items k slot here in let beyond = past.0 in absurd (omega arith)
  ]

  setup-at : (flow_record : FlowRecord) × (slice_get in_use.made.records k ≡ Some flow_record)
  setup-at = record_at in_use.made in_use.stands.flow_count

  slot-at : SlotStands (accepts table.check) (flow_setup in_use.made k setup-at.0) slot (inputs_at k in_use.history) (frames_of k in_use.given)
  slot-at =
      subst (λ (c : List ℕ → Bool). SlotStands c (flow_setup in_use.made k setup-at.0) slot (inputs_at k in_use.history) (frames_of k in_use.given)) (sym in_use.stands.check_is)
      (in_use.stands.flows k setup-at.0 slot setup-at.1 here)

  pub slot-in_use : IsSlotInUse (accepts table.check) slot
  slot-in_use = record {
    setup = begun_at (flow_setup in_use.made k setup-at.0) (last_part (flow_setup in_use.made k setup-at.0) (inputs_at k in_use.history)).first;
    comings = (last_part (flow_setup in_use.made k setup-at.0) (inputs_at k in_use.history)).comings;
    given = slot-at.own;
    stands = slot-at.part;
  }

  index-at : slot.index ≡ k
  index-at = slot-at.part.index

module _ {C : Type 0} (accepts : C → List ℕ → Bool) (table table' : FlowTable C) (k : ℕ) (slot slot' : FlowSlot) (here : slice_get table.slots.items k ≡ Some slot)
    (same_check : table'.check ≡ table.check) (slots_are : table'.slots.items ≡ slice_set table.slots.items k slot') where
  within : k < length table.slots.items
  within = slice_get_within table.slots.items k slot here

  -- what stands for its slot at k after more was handed in of that flow stands for the table
  module _ (inputs : List FlowInput) (more : List (List ℕ))
      (takes : (setup : FlowSetup) (before : List FlowInput) (given : List (List ℕ))
      → SlotStands (accepts table.check) setup slot before given → SlotStands (accepts table.check) setup slot' (before ++ inputs) (given ++ more)) where
    own : (check : List ℕ → Bool) (made : TableSetup) (history : List TableInput) (given : List Given) (j : ℕ) (flow_record : FlowRecord) (one : FlowSlot)
        → StandsFor accepts table check made history given → k ≡ j → slice_get made.records j ≡ Some flow_record
        → slice_get (slice_set table.slots.items k slot') j ≡ Some one
        → SlotStands check (flow_setup made j flow_record) one (inputs_at j (history ++ map (of_flow k) inputs)) (frames_of j (given ++ map (Frame k) more))
    own check made history given j flow_record one stands same of_record there =
        subst (λ (n : ℕ). slice_get made.records n ≡ Some flow_record → slice_get (slice_set table.slots.items k slot') n ≡ Some one
        → SlotStands check (flow_setup made n flow_record) one (inputs_at n (history ++ map (of_flow k) inputs)) (frames_of n (given ++ map (Frame k) more))) same
        (λ of_own there_own.
        let is : slot' ≡ one = same_Some slot' one (sym (written table.slots.items k slot' within) ∙ there_own) in
        let was : SlotStands (accepts table.check) (flow_setup made k flow_record) slot (inputs_at k history) (frames_of k given) =
        subst (λ (c : List ℕ → Bool). SlotStands c (flow_setup made k flow_record) slot (inputs_at k history) (frames_of k given)) (sym stands.check_is) (stands.flows k flow_record slot of_own here) in
        subst (λ (s : FlowSlot). SlotStands check (flow_setup made k flow_record) s (inputs_at k (history ++ map (of_flow k) inputs)) (frames_of k (given ++ map (Frame k) more))) is
        (subst (λ (i : List FlowInput). SlotStands check (flow_setup made k flow_record) slot' i (frames_of k (given ++ map (Frame k) more))) (sym (inputs-own k history inputs given more))
        (subst (λ (f : List (List ℕ)). SlotStands check (flow_setup made k flow_record) slot' (inputs_at k history ++ inputs) f) (sym (frames-own k history inputs given more))
        (subst (λ (c : List ℕ → Bool). SlotStands c (flow_setup made k flow_record) slot' (inputs_at k history ++ inputs) (frames_of k given ++ more)) stands.check_is
        (takes (flow_setup made k flow_record) (inputs_at k history) (frames_of k given) was)))))
        of_record there

    pub table-stands : (check : List ℕ → Bool) (made : TableSetup) (history : List TableInput) (given : List Given)
        → StandsFor accepts table check made history given
        → StandsFor accepts table' check made (history ++ map (of_flow k) inputs) (given ++ map (Frame k) more)
    table-stands check made history given stands = record {
      check_is = ap accepts same_check ∙ stands.check_is;
      flow_count = ap length slots_are ∙ length-set table.slots.items k slot' ∙ stands.flow_count;
      flows = λ j flow_record one of_record there.
          let there' : slice_get (slice_set table.slots.items k slot') j ≡ Some one = subst (λ items. slice_get items j ≡ Some one) slots_are there in
          elim (cases_eq k j) [
            | inl same ↦ own check made history given j flow_record one stands same of_record there'
            | inr apart ↦
                subst (λ (i : List FlowInput). SlotStands check (flow_setup made j flow_record) one i (frames_of j (given ++ map (Frame k) more))) (sym (inputs-others k history inputs given more j apart))
                (subst (λ (f : List (List ℕ)). SlotStands check (flow_setup made j flow_record) one (inputs_at j history) f) (sym (frames-others k history inputs given more j apart))
                (stands.flows j flow_record one of_record (sym (written_other table.slots.items k j slot' (λ same. apart (sym same))) ∙ there')))
          ];
      others = λ j beyond.
          frames-others k history inputs given more j (λ same. let inside = within in let count = stands.flow_count in absurd (omega arith)) ∙ stands.others j beyond;
    }

  module _ (in_use : IsInUse accepts table) where
    module _ {O : Type 0} (after : O → List Given → O → Type 0) (out out' : O) where
      given-under : (more : List (List ℕ)) → WasGiven after slot.index out more out' → (start : O) (given : List Given) → after start given out → after start (given ++ map (Frame k) more) out'
      given-under more was_given = subst (λ (index : ℕ). WasGiven after index out more out') (index-at accepts table k slot here in_use) was_given

      -- what comes to its flow
      pub table-comes : (comings : List Coming) → SlotTakes after (accepts table.check) slot out comings slot' out'
          → TakesMore after accepts table out k (map (of_flow k) (map comes comings)) table' out'
      table-comes comings takes = record {
        more = takes.more;
        was_given = given-under takes.more takes.was_given;
        stands = table-stands (map comes comings) takes.more
            (λ setup before given stands. slot-comes after (accepts table.check) setup slot slot' out out' before given stands comings takes);
      }

      -- its flow begins anew
      pub table-anew : (again : ℕ) (counts : FlowCounts) → BeginsAnew after (accepts table.check) slot out again counts slot' out'
          → BeginsAnewAt after accepts table out k again counts table' out'
      table-anew again counts anew = record {
        more = anew.more;
        was_given = given-under anew.more anew.was_given;
        stands = table-stands (begins_anew again ∷ []) anew.more
            (λ setup before given stands. slot-anew after (accepts table.check) setup slot slot' out out' before given stands again counts anew);
        gave = λ setup comings given part. (anew.gave setup comings given (part slot here)).0;
      }

-- what is read at a place stands there
pub slot-here : (slots : List FlowSlot) (k : ℕ) (slot : FlowSlot) → k < length slots → slot ≡ slice_index_or slots k slot → slice_get slots k ≡ Some slot
slot-here slots k slot inside read = slice_get_read slots (length slots) k slot refl inside read

-- what is so of a slot is so of what stands where it was written
pub at-written : (P : FlowSlot → Type 0) (slots : List FlowSlot) (k : ℕ) (slot one : FlowSlot) → k < length slots → P slot
    → slice_get (slice_set slots k slot) k ≡ Some one → P one
at-written P slots k slot one inside is there = subst P (same_Some slot one (sym (written slots k slot inside) ∙ there)) is

-- where a slot is written that doesn't begin to be closed, none does
pub none-closes : (slots : List FlowSlot) (k : ℕ) (slot slot' : FlowSlot) → slice_get slots k ≡ Some slot → (IsClosing slot' → IsClosing slot)
    → (j : ℕ) → ((one : FlowSlot) → slice_get (slice_set slots k slot') j ≡ Some one → IsClosing one) → (one : FlowSlot) → slice_get slots j ≡ Some one → IsClosing one
none-closes slots k slot slot' here open_still j closing one there =
    elim (cases_eq k j) [
      | inl same ↦
          let own : slice_get slots k ≡ Some one = subst (λ (n : ℕ). slice_get slots n ≡ Some one) (sym same) there in
          let now : slice_get (slice_set slots k slot') j ≡ Some slot' =
          subst (λ (n : ℕ). slice_get (slice_set slots k slot') n ≡ Some slot') same (written slots k slot' (slice_get_within slots k slot here)) in
          subst IsClosing (same_Some slot one (sym here ∙ own)) (open_still (closing slot' now))
      | inr apart ↦ closing one (written_other slots k j slot' (λ same. apart (sym same)) ∙ there)
    ]

-- what follows of each bad result
pub on-err : {T E : Type 0} {P Q : E → Type 0} (result : Result T E) → ((e : E) → P e → Q e) → IfErr result P → IfErr result Q
on-err (Ok t) leads is = is
on-err (Err e) leads is = leads e is

pub on-any_err : {T E : Type 0} {P Q : Type 0} (result : Result T E) → (P → Q) → OnErr result P → OnErr result Q
on-any_err (Ok t) leads is = is
on-any_err (Err e) leads is = leads is

pub leaves : {P Q R S : Type 0} (fault : DecideFault) → (P → R) → (Q → S) → LeavesOf fault P Q → LeavesOf fault R S
leaves (NotTaken why) first second is = first is
leaves Unfinished first second is = second is

module _ {C O : Type 0} (accepts : C → List ℕ → Bool) (after : O → List Given → O → Type 0) (table table' : FlowTable C) (out out' : O) (in_use : IsInUse accepts table) where
  -- whatever it takes, a table is in use afterwards
  pub still-in_use : {k : ℕ} (more : List TableInput) → TakesMore after accepts table out k more table' out' → IsInUse accepts table'
  still-in_use {k} more takes = record {
    check = in_use.check;
    made = in_use.made;
    history = in_use.history ++ more;
    given = in_use.given ++ map (Frame k) takes.more;
    stands = takes.stands in_use.check in_use.made in_use.history in_use.given in_use.stands;
  }

  pub in_use-decided : (k : ℕ) (more : List TableInput) (result : Result Bool DecideFault) → IfOk result (λ _. TakesMore after accepts table out k more table' out')
      → IfErr result (λ fault. LeavesOf fault (TakesMore after accepts table out k [] table' out') (TakesMore after accepts table out k more table' out'))
      → IsInUse accepts table'
  in_use-decided k more (Ok lost) takes left = still-in_use more takes
  in_use-decided k more (Err (NotTaken why)) takes left = still-in_use [] left
  in_use-decided k more (Err Unfinished) takes left = still-in_use more left

  pub in_use-restarted : (k first : ℕ) (result : Result FlowCounts AllocError) → IfOk result (λ counts. BeginsAnewAt after accepts table out k first counts table' out')
      → OnErr result (TakesMore after accepts table out k [] table' out') → IsInUse accepts table'
  in_use-restarted k first (Ok counts) anew left = record {
    check = in_use.check;
    made = in_use.made;
    history = in_use.history ++ record { flow = k; input = begins_anew first } ∷ [];
    given = in_use.given ++ map (Frame k) anew.more;
    stands = anew.stands in_use.check in_use.made in_use.history in_use.given in_use.stands;
  }
  in_use-restarted k first (Err e) anew left = still-in_use [] left
