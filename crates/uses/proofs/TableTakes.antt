-- What a table takes, one thing after another.
use Rattle.std.proofs.Common.{◌≡◌, ℕ, Bool, false, Result, Ok, Err, IfOk, is_err, List, [], ◌∷◌, ◌++◌, map, length, refl, ap, sym, subst, ◌∙◌, append_assoc, append-nil}
use Rattle.std.proofs.lemmas.Bool.{false≢true}
use Rattle.flow_records.specs.declared.event.Event.TheVariants.{Arrive}
use Rattle.flow_core.specs.declared.counts.FlowCounts.{FlowCounts}
use Rattle.consumer.specs.declared.given.Given.{Given}
use Rattle.consumer.specs.declared.given.Given.TheVariants.{Frame}
use Rattle.bonded_flows.specs.declared.flow_table.FlowTable.{FlowTable}
use Rattle.bonded_flows.specs.Table.{TableInput, StandsFor, IsInUse, TakesMore}
use Rattle.receiver.specs.TakenInOrder.{table_inputs}
use Rattle.uplink.proofs.FlowsClosed.{ClosesSoFar}
use Rattle.uplink.proofs.ItemsTaken.{takes-on}
use Rattle.uses.specs.declared.midstream.OnChannel.{OnChannel}
use Rattle.uses.specs.Midstream.{arrival, TakesAll, ClosesAll}

-- what holds of each good result holds where it isn't bad
pub holds-good : {T E : Type 0} {P : Type 0} (result : Result T E) → is_err result ≡ false → IfOk result (λ _. P) → P
holds-good (Ok t) is holds = holds
holds-good (Err e) is holds = absurd (false≢true (sym is))

-- segments that come to one flow, in the order of their channels
pub came-inputs : (flow : ℕ) (came : List OnChannel)
    → table_inputs (map (λ (one : OnChannel). one.channel) came) (map (λ (one : OnChannel). Arrive flow one.segment.segment) came) ≡ map (arrival flow) came
came-inputs flow [] = refl
came-inputs flow (one ∷ came) = ap (λ rest. arrival flow one ∷ rest) (came-inputs flow came)

module _ {C O : Type 0} (after : O → List Given → O → Type 0) (accepts : C → List ℕ → Bool) where
  -- nothing is taken yet
  pub takes-nothing : (flows : FlowTable C) (out : O) → TakesAll after accepts flows out [] flows out
  takes-nothing flows out = record {
    more = [];
    was_given = λ start given was. subst (λ g. after start g out) (sym (append-nil given)) was;
    stands = λ check made history given stands.
        subst (λ h. StandsFor accepts flows check made h (given ++ [])) (sym (append-nil history))
        (subst (λ g. StandsFor accepts flows check made history g) (sym (append-nil given)) stands);
  }

  -- what one flow takes
  pub takes-of-one : (flows flows' : FlowTable C) (out out' : O) (k : ℕ) (inputs : List TableInput) → TakesMore after accepts flows out k inputs flows' out'
      → TakesAll after accepts flows out inputs flows' out'
  takes-of-one flows flows' out out' k inputs takes = record { more = map (Frame k) takes.more; was_given = takes.was_given; stands = takes.stands }

  -- what one flow takes once it was made ready
  pub prepared-takes : (first second third : FlowTable C) (out out' out'' : O) (k : ℕ) (inputs : List TableInput)
      → TakesMore after accepts first out k [] second out' → TakesMore after accepts second out' k inputs third out''
      → TakesAll after accepts first out inputs third out''
  prepared-takes first second third out out' out'' k inputs ready takes =
      takes-of-one first third out out'' k inputs (takes-on accepts after first second third out out' out'' k inputs ready takes)

  -- there are as many flows
  pub as-many : (flows flows' : FlowTable C) (out out' : O) (inputs : List TableInput) → IsInUse accepts flows → TakesAll after accepts flows out inputs flows' out'
      → length flows'.slots.items ≡ length flows.slots.items
  as-many flows flows' out out' inputs in_use takes =
      (takes.stands in_use.check in_use.made in_use.history in_use.given in_use.stands).flow_count ∙ sym in_use.stands.flow_count

  -- some inputs, and then others
  pub takes-both : (first second third : FlowTable C) (out out' out'' : O) (inputs others : List TableInput)
      → TakesAll after accepts first out inputs second out' → TakesAll after accepts second out' others third out''
      → TakesAll after accepts first out (inputs ++ others) third out''
  takes-both first second third out out' out'' inputs others one other = record {
    more = one.more ++ other.more;
    was_given = λ start given was.
        subst (λ g. after start g out'') (append_assoc given one.more other.more) (other.was_given start (given ++ one.more) (one.was_given start given was));
    stands = λ check made history given stands.
        subst (λ g. StandsFor accepts third check made (history ++ (inputs ++ others)) g) (append_assoc given one.more other.more)
        (subst (λ h. StandsFor accepts third check made h ((given ++ one.more) ++ other.more)) (append_assoc history inputs others)
        (other.stands check made (history ++ inputs) (given ++ one.more) (one.stands check made history given stands)));
  }

  -- all flows are closed
  pub closes-all : (flows0 flows : FlowTable C) (out0 out : O) (counts : List FlowCounts) → ClosesSoFar accepts after flows0 out0 flows out counts
      → length counts ≡ length flows0.slots.items → ClosesAll after accepts flows0 out0 counts out
  closes-all flows0 flows out0 out counts so_far count = record {
    more = so_far.more;
    was_given = so_far.was_given;
    count = count;
    gave = λ check made history given stands. (so_far.closed check made history given stands).gave;
  }
