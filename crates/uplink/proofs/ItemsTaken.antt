-- What the flows take of the items, one after another.
use Rattle.std.proofs.Common.{◌≡◌, ℕ, ◌≤◌, inl, inr, Bool, Option, Some, None, MatchOption, Result, Ok, Err, IfOk, IfErr, List, [], ◌∷◌, ◌++◌, length, map, refl, ap, sym, subst, ◌∙◌, append_assoc, append-nil, arith}
use Rattle.std.proofs.lemmas.List.{map-append}
use Rattle.std.proofs.lemmas.Option.{slice_get_within}
use Rattle.consumer.specs.declared.given.Given.{Given}
use Rattle.consumer.specs.declared.given.Given.TheVariants.{Frame}
use Rattle.consumer.specs.Given.{frames_of}
use Rattle.bonded_flows.specs.declared.flow_table.FlowTable.{FlowTable}
use Rattle.bonded_flows.specs.Parts.{FlowInput}
use Rattle.bonded_flows.specs.Slots.{SlotStands}
use Rattle.bonded_flows.specs.Table.{TableInput, flow_setup, StandsFor, IsInUse, TakesMore}
use Rattle.bonded_flows.proofs.TableTurns.{of_flow, inputs-others}
use Rattle.bonded_flows.specs.declared.flow_slot.DecideFault.{DecideFault}
use Rattle.bonded_flows.specs.declared.flow_slot.DecideFault.TheVariants.{NotTaken, Unfinished}
use Rattle.bonded_flows.specs.Slots.{LeavesOf}
use Rattle.uplink.specs.declared.assembler.Taking.{Taking}
use Rattle.uplink.specs.declared.feeding.Feeding.{Feeding}
use Rattle.uplink.specs.Inside.Feeding.{HasOffered}
use Rattle.uplink.specs.Inside.Offering.{TakesAtMost, FeedsAtMost}
use Rattle.uplink.proofs.FramesOffered.{none-offered}

module _ {C O : Type 0} (accepts : C → List ℕ → Bool) (after : O → List Given → O → Type 0) where
  -- whatever they take, there are as many flows
  pub same-count : (first second : FlowTable C) (out out' : O) (k : ℕ) (inputs : List TableInput) → IsInUse accepts first
      → TakesMore after accepts first out k inputs second out' → length second.slots.items ≡ length first.slots.items
  same-count first second out out' k inputs in_use takes =
      (takes.stands in_use.check in_use.made in_use.history in_use.given in_use.stands).flow_count ∙ sym in_use.stands.flow_count

  -- a flow is made ready, and then takes something
  pub takes-on : (first second third : FlowTable C) (out out' out'' : O) (k : ℕ) (inputs : List TableInput)
      → TakesMore after accepts first out k [] second out' → TakesMore after accepts second out' k inputs third out''
      → TakesMore after accepts first out k inputs third out''
  takes-on first second third out out' out'' k inputs one other =
      let joined : (given : List Given) → (given ++ map (Frame k) one.more) ++ map (Frame k) other.more ≡ given ++ map (Frame k) (one.more ++ other.more) =
      λ given. append_assoc given (map (Frame k) one.more) (map (Frame k) other.more) ∙ ap (λ l. given ++ l) (sym (map-append (Frame k) one.more other.more)) in
      record {
        more = one.more ++ other.more;
        was_given = λ start given was.
            subst (λ g. after start g out'') (joined given) (other.was_given start (given ++ map (Frame k) one.more) (one.was_given start given was));
        stands = λ check made history given stands.
            subst (λ g. StandsFor accepts third check made (history ++ inputs) g) (joined given)
            (other.stands check made history (given ++ map (Frame k) one.more)
            (subst (λ h. StandsFor accepts second check made h (given ++ map (Frame k) one.more)) (append-nil history) (one.stands check made history given stands)));
      }

  -- what is handed in of a flow that there isn't changes nothing
  pub passed-over : (flows : FlowTable C) (out : O) (k : ℕ) (input : FlowInput) → length flows.slots.items ≤ k
      → TakesMore after accepts flows out k (of_flow k input ∷ []) flows out
  passed-over flows out k input past = record {
    more = [];
    was_given = λ start given was. subst (λ g. after start g out) (sym (append-nil given)) was;
    stands = λ check made history given stands.
        subst (λ g. StandsFor accepts flows check made (history ++ of_flow k input ∷ []) g) (sym (append-nil given))
        (record {
          check_is = stands.check_is;
          flow_count = stands.flow_count;
          flows = λ j flow_record slot of_record there.
              subst (λ inputs. SlotStands check (flow_setup made j flow_record) slot inputs (frames_of j given))
              (sym (inputs-others k history (input ∷ []) given [] j (λ same. let within = slice_get_within flows.slots.items j slot there in absurd (omega arith))))
              (stands.flows j flow_record slot of_record there);
          others = stands.others;
        });
  }

  -- nothing is handed in
  pub takes-nothing : (flows : FlowTable C) (out : O) (k : ℕ) → TakesMore after accepts flows out k [] flows out
  takes-nothing flows out k = record {
    more = [];
    was_given = λ start given was. subst (λ g. after start g out) (sym (append-nil given)) was;
    stands = λ check made history given stands.
        subst (λ g. StandsFor accepts flows check made (history ++ []) g) (sym (append-nil given))
        (subst (λ h. StandsFor accepts flows check made h given) (sym (append-nil history)) stands);
  }

module _ {C : Type 0} (accepts : C → List ℕ → Bool) where
  -- a part at most was taken: nothing, or all
  pub none-of : (flows flows' : FlowTable C) (feeding feeding' : Feeding) (input : TableInput) (k : ℕ)
      → TakesMore HasOffered accepts flows feeding k [] flows' feeding' → TakesAtMost accepts flows feeding input flows' feeding'
  none-of flows flows' feeding feeding' input k takes = record { flow = k; taken = []; at_most = inl refl; takes = takes }

  pub all-of : (flows flows' : FlowTable C) (feeding feeding' : Feeding) (input : TableInput) (k : ℕ)
      → TakesMore HasOffered accepts flows feeding k (input ∷ []) flows' feeding' → TakesAtMost accepts flows feeding input flows' feeding'
  all-of flows flows' feeding feeding' input k takes = record { flow = k; taken = input ∷ []; at_most = inr refl; takes = takes }

  -- so it is whatever is answered to a decision
  pub decided-of : (flows flows' : FlowTable C) (feeding feeding' : Feeding) (input : TableInput) (k : ℕ) (result : Result Bool DecideFault)
      → IfOk result (λ _. TakesMore HasOffered accepts flows feeding k (input ∷ []) flows' feeding')
      → IfErr result (λ fault. LeavesOf fault (TakesMore HasOffered accepts flows feeding k [] flows' feeding')
      (TakesMore HasOffered accepts flows feeding k (input ∷ []) flows' feeding'))
      → TakesAtMost accepts flows feeding input flows' feeding'
  decided-of flows flows' feeding feeding' input k (Ok lost) takes left = all-of flows flows' feeding feeding' input k takes
  decided-of flows flows' feeding feeding' input k (Err (NotTaken why)) takes left = none-of flows flows' feeding feeding' input k left
  decided-of flows flows' feeding feeding' input k (Err Unfinished) takes left = all-of flows flows' feeding feeding' input k left

  -- nothing was tried
  pub untried : (taking : Option (Taking C)) (feeding : Feeding) (input : TableInput)
      → MatchOption taking (HasOffered feeding [] feeding) (λ was. FeedsAtMost accepts was.flows feeding input feeding)
  untried None feeding input = none-offered feeding
  untried (Some was) feeding input = (was.flows, none-of was.flows was.flows feeding feeding input 0 (takes-nothing accepts HasOffered was.flows feeding 0))

  -- it was tried
  pub tried : (taking : Option (Taking C)) (was : Taking C) (feeding after : Feeding) (input : TableInput) (flows : FlowTable C) → taking ≡ Some was
      → TakesAtMost accepts was.flows feeding input flows after
      → MatchOption taking (HasOffered feeding [] after) (λ was. FeedsAtMost accepts was.flows feeding input after)
  tried taking was feeding after input flows is at_most =
      subst (λ (o : Option (Taking C)). MatchOption o (HasOffered feeding [] after) (λ was. FeedsAtMost accepts was.flows feeding input after)) (sym is) (flows, at_most)
