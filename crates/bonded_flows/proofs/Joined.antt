-- A bonded flow whose flow joined what is next.
use Rattle.std.proofs.Common.{◌≡◌, ℕ, Bool, true, List, map}
use Rattle.std.specs.Prelude.{Result, Ok, Err}
use Rattle.std.specs.Result.{is_ok, IfOk}
use Rattle.reorder.specs.Number.{offset}
use Rattle.flow_core.specs.declared.flow.Flow.{Flow}
use Rattle.flow_core.specs.Stands.{IsDrained}
use Rattle.loss_rule.specs.declared.last_numbers.LastNumbers.{LastNumbers}
use Rattle.loss_rule.specs.Numbers.{carried_of, distances_of, expected_of, distance_from}
use Rattle.consumer.specs.declared.given.Given.{Given}
use Rattle.bonded_flows.specs.declared.bonded_flow.BondedFlow.{BondedFlow}
use Rattle.bonded_flows.specs.Stands.{HasTakenSome}
use Rattle.bonded_flows.specs.Taking.{IsRunning, Joins, GivesMore}
use Rattle.bonded_flows.proofs.TakenEvents.{joined-some, joined-all}

-- what holds where a call succeeded
pub where-ok : {T E : Type 0} (result : Result T E) (P : Type 0) → is_ok result ≡ true → IfOk result (λ _. P) → P
where-ok (Ok value) P ok holds = holds
where-ok (Err error) P ok holds = absurd cc

-- its flow stands for some events
pub some-running : (check : List ℕ → Bool) (bonded : BondedFlow) → HasTakenSome check bonded → IsRunning check bonded.flow
some-running check bonded some = record {
  flow_record = some.setup.flow_record;
  in_range = some.has_taken.made.in_range;
  events = some.events;
  answers = some.has_taken.answers;
  y = some.has_taken.y;
  given = some.given;
  stands = some.has_taken.stands;
}

module _ {O : Type 0} (after : O → List Given → O → Type 0) (check : List ℕ → Bool) (bonded : BondedFlow) (flow' : Flow) (out out' : O)
    (joins : Joins after check bonded.index bonded.flow out flow' out') where
  -- not to the end
  pub gives-some : GivesMore after check bonded out (record bonded { flow = flow' }) out'
  gives-some = record {
    more = joins.more;
    was_given = joins.was_given;
    has_taken = λ setup taken lasts given has.
        let now = joins.stands setup.flow_record taken has.answers has.y given has.stands in
        joined-some check setup bonded taken lasts given has flow' joins.more now.0 now.1;
  }

  -- to the end
  pub gives-all : (lasts' : LastNumbers) → IsDrained flow' → carried_of lasts' ≡ carried_of bonded.lasts → expected_of lasts' ≡ flow'.window.expected
      → distances_of lasts' ≡ map (distance_from (offset (expected_of bonded.lasts) flow'.window.expected)) (distances_of bonded.lasts)
      → GivesMore after check bonded out (record bonded { flow = flow'; lasts = lasts' }) out'
  gives-all lasts' drained carried expects left = record {
    more = joins.more;
    was_given = joins.was_given;
    has_taken = λ setup taken lasts given has.
        let now = joins.stands setup.flow_record taken has.answers has.y given has.stands in
        joined-all check setup bonded taken lasts given has flow' joins.more now.0 now.1 lasts' drained carried expects left;
  }
