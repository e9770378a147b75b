-- What a settled flow holds are the segments that were kept from its expected index on.
use Rattle.std.proofs.Common.{◌≡◌, ℕ, ◌+◌, ◌<◌, ◌≤◌, ◌&&◌, nat_le, Bool, true, false, Option, None, Some, is_some, List, length, slice_get, count_by, ⊎_elim, inl, inr, refl, ap, sym, subst, ◌∙◌, arith}
use Rattle.std.specs.Option.{option_flatten}
use Rattle.std.proofs.lemmas.Bool.{le-leb, leb-true, false≢true}
use Rattle.std.proofs.lemmas.List.{length-map}
use Rattle.std.proofs.lemmas.List.Sums.{count_by-le-length}
use Rattle.std.proofs.lemmas.Option.{slice_get_within, slice_get_cases}
use Rattle.std.specs.Cmp.{first_so, second_so}
use Rattle.std.specs.FinMap as map
use Rattle.std.specs.Ordering.{nat_cmp}
use Rattle.std.specs.Global.{Box}
use Rattle.std.specs.Box.{box_value}
use Rattle.docsis_wire.specs.declared.segment.ReadySegment.{ReadySegment}
use Rattle.docsis_wire.specs.declared.segment.Segment.{Segment}
use Rattle.reorder.specs.Number.{offset}
use Rattle.reorder.specs.View.{WindowView, IsHeld}
use Rattle.flow_records.specs.declared.record.FlowRecord.{FlowRecord}
use Rattle.flow_core.specs.Fates.{Fates, no_fates, number_of, kept_at, IsKept, IsExpected}
use Rattle.flow_core.specs.declared.counts.FlowCounts.{FlowCounts}
use Rattle.flow_core.specs.Counts.{says_kept}
use Rattle.flow_core.specs.Stands.{IsWindowFrom}
use Rattle.flow_core.proofs.Giving.{expected_of_drained}
use Rattle.flow_core.proofs.IndexNumbers.{same-index, index-offset}
use Rattle.flow_core.proofs.OneFates.{after-once}
use Rattle.flow_core.proofs.Outcome.{expected-unique, sound-none}
use Rattle.flow_core.proofs.Windows.{kept-or-not, kept-held, held-kept, narrow}
use Rattle.loss_rule.specs.Rule.{Coming, no_lasts}
use Rattle.loss_rule.proofs.Reaching.{reached-none}
use Rattle.loss_rule.proofs.Rulings.{rules-once}
use Rattle.loss_rule.proofs.RuledTurns.{rules-lead}
use Rattle.consumer.specs.declared.given.Given.{Given}
use Rattle.bonded_flows.specs.declared.bonded_flow.BondedFlow.{BondedFlow}
use Rattle.bonded_flows.specs.declared.flow_slot.FlowSlot.{FlowSlot}
use Rattle.bonded_flows.specs.declared.flow_table.FlowTable.{FlowTable}
use Rattle.bonded_flows.specs.ByRule.{HasGivenByRule}
use Rattle.bonded_flows.specs.FlowSetup.{FlowSetup, ruled_flow}
use Rattle.bonded_flows.specs.Slots.{PartStands, IsAtRest, held_of, held_in}
use Rattle.bonded_flows.specs.Stands.{HasCome, IsSettled}
use Rattle.bonded_flows.specs.Table.{TableSetup, TableInput, IsAtRestAt}
use Rattle.bonded_flows.specs.Table.{StandsFor as TableStandsFor}
use Rattle.bonded_flows.proofs.SettledFlows.{all-taken, expected-by_rule}
use Rattle.bonded_flows.proofs.SlotStates.{begun, not-begun}
use Rattle.receiver.specs.HandedIn.{begun_with, came_since}
use Rattle.receiver.specs.Held.{was_kept, held_from, HoldsByRule}
use Rattle.receiver.proofs.CountedKeys.{as-many}
use Rattle.receiver.proofs.InputsTaken.{part-at}
use Rattle.receiver.proofs.KeptSegments.{kept-joined-held}

-- the test says what was kept
kept-is : (fates : Fates) (i : ℕ) → was_kept fates i ≡ true → IsKept fates i
kept-is fates i is = ⊎_elim (λ kept. kept) (λ none. absurd (false≢true (sym (ap is_some none) ∙ is))) (kept-or-not fates i)

module _ (r : FlowRecord) (fates : Fates) (y : ℕ) (w : WindowView ReadySegment) (from_y : IsWindowFrom r fates y w) where
  abbrev is-held : ℕ → Bool
  is-held i = nat_le y i && was_kept fates i

  held-from : (i : ℕ) → is-held i ≡ true → y ≤ i
  held-from i is = leb-true y i (first_so (nat_le y i) (was_kept fates i) is)

  held-kept-is : (i : ℕ) → is-held i ≡ true → IsKept fates i
  held-kept-is i is = kept-is fates i (second_so (nat_le y i) (was_kept fates i) is)

  near : (i : ℕ) → is-held i ≡ true → i < y + 8192
  near i is = let within = from_y.within i (held-kept-is i is) in let small = narrow r fates y w from_y in omega arith

  index-held : (number : ℕ) → IsHeld w number → (i : ℕ) × (is-held i ≡ true) × (number_of r.first i ≡ number)
  index-held number held =
      let i = y + offset (number_of r.first y) number in
      let same : number_of r.first i ≡ number = index-offset r.first y number (from_y.lawful.held_in_range number held) in
      let from : y ≤ i = omega arith in
      let kept = held-kept r fates y w from_y i from (omega arith) (subst (IsHeld w) (sym same) held) in
      (i, is-held-kept i from kept, same)
    where
      is-held-kept : (i : ℕ) → y ≤ i → IsKept fates i → is-held i ≡ true
      is-held-kept i from kept = ap (λ b. b && was_kept fates i) (le-leb y i from) ∙ ap (λ o. is_some (option_flatten o)) kept.1

  -- as many are held as were kept from y on
  pub held-count : map.len w.held ≡ held_from fates y
  held-count = sym (as-many fates w.held is-held
      (λ i is. ap is_some (held-kept-is i is).1) (number_of r.first)
      (λ i j is is' same. same-index r.first y i j (held-from i is) (near i is) (held-from j is') (near j is') same)
      (λ i is. kept-held r fates y w from_y i (held-from i is) (held-kept-is i is))
      index-held)

-- where nothing is known nothing is held
none-held : 0 ≡ held_from no_fates 0
none-held =
    let most = count_by-le-length (λ i. nat_le 0 i && was_kept no_fates i) (map.keys no_fates) in
    let keys = length-map (map.entries no_fates) (λ entry. entry.0) in
    let entries = map.len-entries no_fates in
    let none = map.len-empty nat_cmp (Option Segment) in
    omega arith

-- what a begun flow holds
flow-holds : (check : List ℕ → Bool) (setup : FlowSetup) (bonded : BondedFlow) (comings : List Coming) (given : List (List ℕ))
    → HasCome check setup bonded comings given → IsSettled bonded → HoldsByRule setup comings (map.len bonded.flow.window.held)
flow-holds check setup bonded comings given has settled =
    let flow = ruled_flow setup in
    let taken = all-taken check setup bonded comings given has settled in
    let stands = taken.stands in
    let led = rules-lead setup.rule flow (no_lasts flow) no_fates comings has.events has.lasts has.fates has.ruled in
    let same : stands.fates ≡ has.fates = (after-once flow.first flow.width has.events taken.answers led.0 stands.fates has.fates stands.after led.1).1 in
    let here : taken.y ≡ stands.x =
    expected-unique stands.fates taken.y stands.x (expected_of_drained check setup.flow_record bonded.flow has.events taken.answers taken.y given stands settled.up_to_date.drained)
    stands.expected in
    record {
      events = has.events;
      lasts = has.lasts;
      fates = has.fates;
      ruled = has.ruled;
      x = stands.x;
      expected = expected-by_rule check setup bonded comings given has settled;
      count = held-count setup.flow_record stands.fates taken.y bonded.flow.window stands.window
          ∙ ap (held_from stands.fates) here ∙ ap (λ (f : Fates). held_from f stands.x) same;
    }

-- what the flow of a slot holds, or one that wasn't begun
slot-holds : (check : List ℕ → Bool) (setup : FlowSetup) (slot : FlowSlot) (comings : List Coming) (given : List (List ℕ))
    → PartStands check setup slot comings given → IsAtRest slot → HoldsByRule setup comings (held_in slot)
slot-holds check setup slot comings given stands rests = by slot.flow refl
  where
    by : (flow : Option (Box BondedFlow)) → slot.flow ≡ flow → HoldsByRule setup comings (held_of flow)
    by None is =
        let none = not-begun check setup slot comings given stands is in
        record {
          events = none.events;
          lasts = none.lasts;
          fates = no_fates;
          ruled = none.ruled;
          x = 0;
          expected = (sound-none setup.flow_record.window).expected;
          count = none-held;
        }
    by (Some flow) is = flow-holds check setup (box_value flow) comings given (begun check setup slot flow comings given stands is) (rests flow is)

-- what a flow of a table holds
pub table-holds : {C : Type 0} (accepts : C → List ℕ → Bool) (flows : FlowTable C) (check : List ℕ → Bool) (made : TableSetup) (history : List TableInput) (given : List Given)
    (k : ℕ) (flow_record : FlowRecord) (held : ℕ) → TableStandsFor accepts flows check made history given → slice_get made.records k ≡ Some flow_record → IsAtRestAt flows k
    → ((slot : FlowSlot) → slice_get flows.slots.items k ≡ Some slot → held ≡ held_in slot)
    → HoldsByRule (begun_with made k flow_record history) (came_since made k flow_record history) held
table-holds accepts flows check made history given k flow_record held stands of_record rests is =
    let inside = slice_get_within made.records k flow_record of_record in
    let count = stands.flow_count in
    let part = part-at accepts flows check made history given k flow_record stands of_record in
    let (slot, there) : (slot : FlowSlot) × (slice_get flows.slots.items k ≡ Some slot) = elim (slice_get_cases flows.slots.items k).1 [
      | inl found ↦ (found.0, found.2)
      | inr past ↦ let beyond = past.0 in absurd (omega arith)
    ] in
    subst (HoldsByRule (begun_with made k flow_record history) (came_since made k flow_record history)) (sym (is slot there))
    (slot-holds (accepts flows.check) (begun_with made k flow_record history) slot (came_since made k flow_record history) part.own (part.is_so slot there) (rests slot there))

-- so many are held, and no other number
pub holds-once : (setup : FlowSetup) (comings : List Coming) (held other : ℕ) → HoldsByRule setup comings held → HoldsByRule setup comings other → held ≡ other
holds-once setup comings held other is is' =
    let flow = ruled_flow setup in
    let same = rules-once setup.rule flow (no_lasts flow) no_fates comings is.events is'.events is.lasts is'.lasts is.fates is'.fates (reached-none flow.first flow.width) is.ruled is'.ruled in
    let here : is.x ≡ is'.x = expected-unique is'.fates is.x is'.x (subst (λ (f : Fates). IsExpected f is.x) same.2 is.expected) is'.expected in
    is.count ∙ ap (λ (f : Fates). held_from f is.x) same.2 ∙ ap (held_from is'.fates) here ∙ sym is'.count

-- of what was kept, what isn't joined is held
pub holds-unjoined : (check : List ℕ → Bool) (setup : FlowSetup) (comings : List Coming) (frames : List (List ℕ)) (counts : FlowCounts) (held : ℕ)
    → (given : HasGivenByRule check setup comings frames counts) → HoldsByRule setup comings held
    → count_by says_kept given.outcome.answers ≡ count_by is_some given.outcome.settled + held
holds-unjoined check setup comings frames counts held given is =
    let flow = ruled_flow setup in
    let out = given.outcome in
    let led = rules-lead setup.rule flow (no_lasts flow) no_fates comings given.events given.lasts given.fates given.ruled in
    let same : out.fates ≡ given.fates = (after-once flow.first flow.width given.events out.answers led.0 out.fates given.fates out.after led.1).1 in
    let held_too : HoldsByRule setup comings (held_from out.fates out.x) = record {
      events = given.events;
      lasts = given.lasts;
      fates = given.fates;
      ruled = given.ruled;
      x = out.x;
      expected = subst (λ (f : Fates). IsExpected f out.x) same out.expected;
      count = ap (λ (f : Fates). held_from f out.x) same;
    } in
    kept-joined-held flow.first flow.width out.x given.events out.answers out.fates out.settled out.after out.below
    ∙ ap (λ n. count_by is_some out.settled + n) (holds-once setup comings (held_from out.fates out.x) held held_too is)
