-- The close of a receiver, flow by flow.
use Rattle.std.proofs.Common.{◌≡◌, ℕ, zero, suc, ◌+◌, ◌<◌, ◌≤◌, ◌==◌, inl, inr, ⊎_elim, Bool, false, Result, Ok, Err, IfOk, is_err, Option, Some, None, List, [], ◌∷◌, ◌++◌, length, map, filter_map, slice_get, if◌then◌else◌, refl, ap, sym, subst, ◌∙◌, append-nil, append_assoc, length-append, arith}
use Rattle.std.proofs.lemmas.Bool.{ne_eqb, false≢true}
use Rattle.std.proofs.lemmas.List.Elements.{filter_map-append}
use Rattle.std.proofs.lemmas.Option.{same_Some, slice_get_within, slice_get_cases}
use Rattle.flow_records.specs.declared.record.FlowRecord.{FlowRecord}
use Rattle.flow_core.specs.declared.counts.FlowCounts.{FlowCounts}
use Rattle.lane.proofs.LaneTaking.{from-pushed}
use Rattle.consumer.specs.declared.given.Given.{Given}
use Rattle.consumer.specs.declared.given.Given.TheVariants.{Frame}
use Rattle.consumer.specs.Given.{frames_of}
use Rattle.bonded_flows.specs.declared.flow_slot.FlowSlot.{FlowSlot}
use Rattle.bonded_flows.specs.declared.flow_table.FlowTable.{FlowTable}
use Rattle.bonded_flows.specs.FlowSetup.{FlowSetup}
use Rattle.bonded_flows.specs.ByRule.{GaveByRule}
use Rattle.bonded_flows.specs.Parts.{FlowInput, begins_anew, last_part, begun_at}
use Rattle.bonded_flows.specs.Slots.{SlotStands, PartStands}
use Rattle.bonded_flows.specs.Table.{TableSetup, TableInput, flow_setup, inputs_at, BeginsAnewAt}
use Rattle.bonded_flows.specs.Table.{StandsFor as TableStandsFor, TakesMore as TableTakesMore}
use Rattle.bonded_flows.proofs.TableTurns.{no-request, frames-own, frames-others}
use Rattle.receiver.specs.declared.tally.LaneTally.{LaneTally}
use Rattle.receiver.specs.declared.tallied_lane.TalliedLane.{TalliedLane}
use Rattle.receiver.specs.declared.receiver.Receiver.{Receiver}
use Rattle.receiver.specs.declared.closing.Closed.{Closed}
use Rattle.receiver.specs.declared.closing.Closing.{Closing}
use Rattle.receiver.specs.Tallies.{IsTallyOf}
use Rattle.receiver.specs.HandedIn.{HandedIn, answered_on, flow_inputs}
use Rattle.receiver.specs.Receiving.{HaveAnswered, StandsFor}
use Rattle.receiver.specs.Received.{GaveAllParts, AreTalliesOf, closings, ClosingStandsFor, IsBeingClosed, ClosesMore, ClosesAll, Closes, BeginsToClose}
use Rattle.receiver.proofs.AnsweredInputs.{lanes-stay}

-- what holds of each good result holds where it isn't bad
pub holds-ok : {E : Type 0} {P : Type 0} (result : Result Unit E) → is_err result ≡ false → IfOk result (λ _. P) → P
holds-ok (Ok t) is holds = holds
holds-ok (Err e) is holds = absurd (false≢true (sym is))

-- one tally more
pub tallies-more : (lanes : List TalliedLane) (tallies : List LaneTally) (one : TalliedLane) → slice_get lanes (length tallies) ≡ Some one
    → AreTalliesOf lanes tallies → AreTalliesOf lanes (tallies ++ one.tally ∷ [])
tallies-more lanes tallies one here are channel other tally of_lane there =
    ⊎_elim
    (λ before. are channel other tally of_lane before)
    (λ last. last.1 ∙ ap (λ (t : TalliedLane). t.tally) (same_Some one other (sym here ∙ ap (slice_get lanes) (sym last.0) ∙ of_lane)))
    (from-pushed tallies one.tally channel tally there)

-- that other flows are closed is nothing to a flow
closings-beyond : (n k : ℕ) → n ≤ k → inputs_at k (closings n) ≡ []
closings-beyond zero k beyond = refl
closings-beyond (suc n) k beyond =
    filter_map-append (λ (one : TableInput). if one.flow == k then Some one.input else None) (closings n) (record { flow = n; input = begins_anew 0 } ∷ [])
    ∙ ap (λ t. t ++ inputs_at k (record { flow = n; input = begins_anew 0 } ∷ [])) (closings-beyond n k (omega arith))
    ∙ ap (λ b. filter_map (λ (o : Option FlowInput). o) ((if b then Some (begins_anew 0) else None) ∷ [])) (ne_eqb n k (λ same. absurd (omega arith)))

pub still-open : (n k : ℕ) (history : List TableInput) → n ≤ k → inputs_at k (history ++ closings n) ≡ inputs_at k history
still-open n k history beyond =
    filter_map-append (λ (one : TableInput). if one.flow == k then Some one.input else None) history (closings n)
    ∙ ap (λ t. inputs_at k history ++ t) (closings-beyond n k beyond) ∙ append-nil (inputs_at k history)

-- lanes to which nothing came, and no request is given
lanes-idle : (made : TableSetup) (handed : List HandedIn) (given : List Given) (lanes : List TalliedLane) (flow : ℕ) (frames : List (List ℕ))
    → HaveAnswered made lanes handed given → HaveAnswered made lanes handed (given ++ map (Frame flow) frames)
lanes-idle made handed given lanes flow frames have =
    subst (λ h. HaveAnswered made lanes h (given ++ map (Frame flow) frames)) (append-nil handed)
    (lanes-stay made handed given (map (Frame flow) frames) lanes [] (λ channel. refl) (λ channel. no-request flow channel frames) have)

module _ {C O : Type 0} (accepts : C → List ℕ → Bool) (after : O → List Given → O → Type 0) where
  -- one flow more is closed
  module _ (closing closing' : Closing C) (out out' : O) (counts : FlowCounts) (same_lanes : closing'.lanes ≡ closing.lanes)
      (counts_are : closing'.counts.items ≡ closing.counts.items ++ counts ∷ [])
      (anew : BeginsAnewAt after accepts closing.flows out (length closing.counts.items) 0 counts closing'.flows out')
      (inside : length closing.counts.items < length closing.flows.slots.items) where
    abbrev n : ℕ
    n = length closing.counts.items

    slot-next : (slot : FlowSlot) × (slice_get closing.flows.slots.items n ≡ Some slot)
    slot-next = elim (slice_get_cases closing.flows.slots.items n).1 [
      | inl found ↦ (found.0, found.2)
      | inr past ↦ let beyond = past.0 in absurd (omega arith)
    ]

    module _ (check : List ℕ → Bool) (made : TableSetup) (handed : List HandedIn) (given : List Given) (stands : ClosingStandsFor accepts closing check made handed given) where
      abbrev history : List TableInput
      history = flow_inputs (length made.records) handed

      closed-next : (flow_record : FlowRecord) → slice_get made.records n ≡ Some flow_record
          → GaveAllParts check (flow_setup made n flow_record) (inputs_at n history) (frames_of n (given ++ map (Frame n) anew.more)) counts
      closed-next flow_record of_record =
          let slot : SlotStands check (flow_setup made n flow_record) slot-next.0 (inputs_at n history) (frames_of n given) =
          subst (λ (i : List FlowInput). SlotStands check (flow_setup made n flow_record) slot-next.0 i (frames_of n given)) (still-open n n history (omega arith))
          (stands.flows.flows n flow_record slot-next.0 of_record slot-next.1) in
          let begun : FlowSetup = begun_at (flow_setup made n flow_record) (last_part (flow_setup made n flow_record) (inputs_at n history)).first in
          let part : PartStands (accepts closing.flows.check) begun slot-next.0 (last_part (flow_setup made n flow_record) (inputs_at n history)).comings slot.own =
          subst (λ (c : List ℕ → Bool). PartStands c begun slot-next.0 (last_part (flow_setup made n flow_record) (inputs_at n history)).comings slot.own) (sym stands.flows.check_is) slot.part in
          record {
            earlier = slot.earlier;
            own = slot.own ++ anew.more;
            gave = slot.gave;
            last =
                subst (λ (c : List ℕ → Bool). GaveByRule c begun (last_part (flow_setup made n flow_record) (inputs_at n history)).comings (slot.own ++ anew.more) counts) stands.flows.check_is
                (anew.gave begun (last_part (flow_setup made n flow_record) (inputs_at n history)).comings slot.own
                (λ one there. subst (λ (s : FlowSlot). PartStands (accepts closing.flows.check) begun s (last_part (flow_setup made n flow_record) (inputs_at n history)).comings slot.own)
                (same_Some slot-next.0 one (sym slot-next.1 ∙ there)) part));
            all = frames-own n history [] given anew.more ∙ ap (λ t. t ++ anew.more) slot.all ∙ append_assoc slot.earlier slot.own anew.more;
          }

      closed-all : (k : ℕ) (flow_record : FlowRecord) (one : FlowCounts) → slice_get made.records k ≡ Some flow_record
          → slice_get (closing.counts.items ++ counts ∷ []) k ≡ Some one
          → GaveAllParts check (flow_setup made k flow_record) (inputs_at k history) (frames_of k (given ++ map (Frame n) anew.more)) one
      closed-all k flow_record one of_record there =
          ⊎_elim
          (λ before.
          let inside = slice_get_within closing.counts.items k one before in
          subst (λ (f : List (List ℕ)). GaveAllParts check (flow_setup made k flow_record) (inputs_at k history) f one)
          (sym (frames-others n history [] given anew.more k (λ same. absurd (omega arith))))
          (stands.closed k flow_record one of_record before))
          (λ last.
          subst (λ (m : ℕ). slice_get made.records m ≡ Some flow_record
          → GaveAllParts check (flow_setup made m flow_record) (inputs_at m history) (frames_of m (given ++ map (Frame n) anew.more)) one) (sym last.0)
          (λ own. subst (λ (c : FlowCounts). GaveAllParts check (flow_setup made n flow_record) (inputs_at n history) (frames_of n (given ++ map (Frame n) anew.more)) c) (sym last.1)
          (closed-next flow_record own)) of_record)
          (from-pushed closing.counts.items counts k one there)

      stands-next : ClosingStandsFor accepts closing' check made handed (given ++ map (Frame n) anew.more)
      stands-next = record {
        lanes =
            subst (λ lanes. HaveAnswered made lanes handed (given ++ map (Frame n) anew.more)) (sym (ap (λ lanes. lanes.items) same_lanes))
            (lanes-idle made handed given closing.lanes.items n anew.more stands.lanes);
        few =
            let many : length closing'.counts.items ≡ n + 1 = ap length counts_are ∙ length-append closing.counts.items (counts ∷ []) in
            let flow_count = stands.flows.flow_count in
            omega arith;
        flows =
            let many : length closing'.counts.items ≡ suc n = ap length counts_are ∙ length-append closing.counts.items (counts ∷ []) ∙ omega arith in
            subst (λ m. TableStandsFor accepts closing'.flows check made (history ++ closings m) (given ++ map (Frame n) anew.more)) (sym many)
            (subst (λ h. TableStandsFor accepts closing'.flows check made h (given ++ map (Frame n) anew.more))
            (append_assoc history (closings n) (record { flow = n; input = begins_anew 0 } ∷ []))
            (anew.stands check made (history ++ closings n) given stands.flows));
        closed = λ k flow_record one of_record there.
            closed-all k flow_record one of_record (subst (λ items. slice_get items k ≡ Some one) counts_are there);
      }

    pub closes-next : ClosesMore after accepts closing out closing' out'
    closes-next = record {
      given_more = map (Frame n) anew.more;
      was_given = anew.was_given;
      stands = stands-next;
    }

  -- the next flow isn't closed yet, and gave some of what it had left to give
  module _ (closing closing' : Closing C) (out out' : O) (same_lanes : closing'.lanes ≡ closing.lanes) (counts_are : closing'.counts.items ≡ closing.counts.items)
      (takes : TableTakesMore after accepts closing.flows out (length closing.counts.items) [] closing'.flows out') where
    pub closes-some : ClosesMore after accepts closing out closing' out'
    closes-some = record {
      given_more = map (Frame (length closing.counts.items)) takes.more;
      was_given = takes.was_given;
      stands = λ check made handed given stands. record {
        lanes =
            subst (λ lanes. HaveAnswered made lanes handed (given ++ map (Frame (length closing.counts.items)) takes.more)) (sym (ap (λ lanes. lanes.items) same_lanes))
            (lanes-idle made handed given closing.lanes.items (length closing.counts.items) takes.more stands.lanes);
        few = let many = ap length counts_are in let few = stands.few in omega arith;
        flows =
            subst (λ (counts : List FlowCounts). TableStandsFor accepts closing'.flows check made (flow_inputs (length made.records) handed ++ closings (length counts)) (given ++ map (Frame (length closing.counts.items)) takes.more)) (sym counts_are)
            (subst (λ h. TableStandsFor accepts closing'.flows check made h (given ++ map (Frame (length closing.counts.items)) takes.more))
            (append-nil (flow_inputs (length made.records) handed ++ closings (length closing.counts.items)))
            (takes.stands check made (flow_inputs (length made.records) handed ++ closings (length closing.counts.items)) given stands.flows));
        closed = λ k flow_record one of_record there.
            let before : slice_get closing.counts.items k ≡ Some one = subst (λ items. slice_get items k ≡ Some one) counts_are there in
            let inside = slice_get_within closing.counts.items k one before in
            subst (λ (f : List (List ℕ)). GaveAllParts check (flow_setup made k flow_record) (inputs_at k (flow_inputs (length made.records) handed)) f one)
            (sym (frames-others (length closing.counts.items) [] [] given takes.more k (λ same. absurd (omega arith))))
            (stands.closed k flow_record one of_record before);
      };
    }

  -- there are as many flows as before
  pub same-flow_count : (closing closing' : Closing C) (out out' : O) → IsBeingClosed accepts closing → ClosesMore after accepts closing out closing' out'
      → length closing'.flows.slots.items ≡ length closing.flows.slots.items
  same-flow_count closing closing' out out' being more =
      (more.stands being.check being.made being.handed being.given being.stands).flows.flow_count ∙ sym being.stands.flows.flow_count

  -- whatever closes more is being closed
  pub still-closing : (closing closing' : Closing C) (out out' : O) → IsBeingClosed accepts closing → ClosesMore after accepts closing out closing' out' → IsBeingClosed accepts closing'
  still-closing closing closing' out out' being more = record {
    check = being.check;
    made = being.made;
    handed = being.handed;
    given = being.given ++ more.given_more;
    stands = more.stands being.check being.made being.handed being.given being.stands;
  }

  -- nothing more is closed of what stands for the same
  pub closes-same : (closing closing' : Closing C) (out : O) → closing'.lanes ≡ closing.lanes → closing'.flows ≡ closing.flows → closing'.counts.items ≡ closing.counts.items
      → ClosesMore after accepts closing out closing' out
  closes-same closing closing' out lanes_are flows_are counts_are = record {
    given_more = [];
    was_given = λ start given was. subst (λ g. after start g out) (sym (append-nil given)) was;
    stands = λ check made handed given stands.
        subst (λ g. ClosingStandsFor accepts closing' check made handed g) (sym (append-nil given))
        (record {
          lanes = subst (λ lanes. HaveAnswered made lanes handed given) (sym (ap (λ lanes. lanes.items) lanes_are)) stands.lanes;
          few = let many = ap length counts_are in let few = stands.few in omega arith;
          flows =
              subst (λ (counts : List FlowCounts). TableStandsFor accepts closing'.flows check made (flow_inputs (length made.records) handed ++ closings (length counts)) given) (sym counts_are)
              (subst (λ (t : FlowTable C). TableStandsFor accepts t check made (flow_inputs (length made.records) handed ++ closings (length closing.counts.items)) given) (sym flows_are) stands.flows);
          closed = λ k flow_record one of_record there. stands.closed k flow_record one of_record (subst (λ items. slice_get items k ≡ Some one) counts_are there);
        });
  }

  -- nothing more is closed
  pub closes-none : (closing : Closing C) (out : O) → ClosesMore after accepts closing out closing out
  closes-none closing out = record {
    given_more = [];
    was_given = λ start given was. subst (λ g. after start g out) (sym (append-nil given)) was;
    stands = λ check made handed given stands. subst (λ g. ClosingStandsFor accepts closing check made handed g) (sym (append-nil given)) stands;
  }

  -- one after the other
  pub closes-on : (first second third : Closing C) (out out' out'' : O) → ClosesMore after accepts first out second out' → ClosesMore after accepts second out' third out''
      → ClosesMore after accepts first out third out''
  closes-on first second third out out' out'' one other = record {
    given_more = one.given_more ++ other.given_more;
    was_given = λ start given was. subst (λ g. after start g out'') (append_assoc given one.given_more other.given_more) (other.was_given start (given ++ one.given_more) (one.was_given start given was));
    stands = λ check made handed given stands.
        subst (λ g. ClosingStandsFor accepts third check made handed g) (append_assoc given one.given_more other.given_more)
        (other.stands check made handed (given ++ one.given_more) (one.stands check made handed given stands));
  }

  -- all flows are closed
  pub closes-all : (first closing : Closing C) (out out' : O) (closed : Closed) → ClosesMore after accepts first out closing out'
      → length closing.counts.items ≡ length closing.flows.slots.items
      → closed.flows.items ≡ closing.counts.items → length closed.lanes.items ≡ length closing.lanes.items
      → AreTalliesOf closing.lanes.items closed.lanes.items
      → ClosesAll after accepts first out closed out'
  closes-all first closing out out' closed more all flows_are lane_count tallies = record {
    given_more = more.given_more;
    was_given = more.was_given;
    received = λ check made handed given was.
        let stands = more.stands check made handed given was in
        record {
          answered = λ channel below.
              let count = stands.lanes.count in
              elim (slice_get_cases closing.lanes.items channel).1 [
                | inl found ↦ (stands.lanes.each channel found.0 found.2).stands.answered
                | inr past ↦ let beyond = past.0 in absurd (omega arith)
              ];
          flow_count = ap length flows_are ∙ all ∙ stands.flows.flow_count;
          flows = λ k flow_record counts of_record there. stands.closed k flow_record counts of_record (subst (λ items. slice_get items k ≡ Some counts) flows_are there);
          others = stands.flows.others;
          requests = stands.lanes.requests;
          lane_count = lane_count ∙ stands.lanes.count;
          tallies = λ channel tally there.
              let inside = slice_get_within closed.lanes.items channel tally there in
              elim (slice_get_cases closing.lanes.items channel).1 [
                | inl found ↦
                    subst (λ (t : LaneTally). IsTallyOf (answered_on channel handed) t) (sym (tallies channel found.0 tally found.2 there)) (stands.lanes.each channel found.0 found.2).tally
                | inr past ↦ let beyond = past.0 in absurd (omega arith)
              ];
        };
  }

  module _ (receiver : Receiver C) (first : Closing C) (lanes_are : first.lanes ≡ receiver.lanes) (flows_are : first.flows ≡ receiver.flows) (none : first.counts.items ≡ []) where
    -- a close begins with no flow closed
    pub begun : (check : List ℕ → Bool) (made : TableSetup) (handed : List HandedIn) (given : List Given)
        → StandsFor accepts receiver check made handed given → ClosingStandsFor accepts first check made handed given
    begun check made handed given stands = record {
      lanes = subst (λ lanes. HaveAnswered made lanes handed given) (sym (ap (λ lanes. lanes.items) lanes_are)) stands.lanes;
      few = let many : length first.counts.items ≡ 0 = ap length none in omega arith;
      flows =
          subst (λ (counts : List FlowCounts). TableStandsFor accepts first.flows check made (flow_inputs (length made.records) handed ++ closings (length counts)) given) (sym none)
          (subst (λ h. TableStandsFor accepts first.flows check made h given) (sym (append-nil (flow_inputs (length made.records) handed)))
          (subst (λ (t : FlowTable C). TableStandsFor accepts t check made (flow_inputs (length made.records) handed) given) (sym flows_are) stands.flows));
      closed = λ k flow_record counts of_record there.
          let nothing : slice_get [] k ≡ Some counts = subst (λ items. slice_get items k ≡ Some counts) none there in
          let inside = slice_get_within [] k counts nothing in absurd (omega arith);
    }

    pub closes-whole : (out out' : O) (closed : Closed) → ClosesAll after accepts first out closed out' → Closes after accepts receiver out closed out'
    closes-whole out out' closed all = record {
      given_more = all.given_more;
      was_given = all.was_given;
      received = λ check made handed given stands. all.received check made handed given (begun check made handed given stands);
    }

    pub begins-whole : (out out' : O) (closing : Closing C) → ClosesMore after accepts first out closing out' → BeginsToClose after accepts receiver out closing out'
    begins-whole out out' closing more = record {
      given_more = more.given_more;
      was_given = more.was_given;
      stands = λ check made handed given stands. more.stands check made handed given (begun check made handed given stands);
    }
