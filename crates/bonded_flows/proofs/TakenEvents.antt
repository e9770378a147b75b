-- What a bonded flow has taken, and what it knows of its channels then.
use Rattle.std.proofs.Common.{◌≡◌, ℕ, ◌+◌, ◌-◌, ◌≤◌, Bool, List, [], ◌∷◌, ◌++◌, map, refl, ap, sym, subst, ◌∙◌, arith}
use Rattle.reorder.specs.Number.{offset}
use Rattle.flow_core.specs.declared.flow.Flow.{Flow}
use Rattle.flow_core.specs.declared.event.Applied.{Applied}
use Rattle.flow_core.specs.Fates.{Fates, no_fates, number_of, IsExpected}
use Rattle.flow_core.specs.Events.{FlowEvent, Changes, Leads, IsAfter}
use Rattle.flow_core.specs.Stands.{StandsFor, IsDrained}
use Rattle.flow_core.specs.Stands.{TakesEvent as FlowTakesEvent}
use Rattle.flow_core.proofs.IndexNumbers.{offset-index, same-index}
use Rattle.flow_core.proofs.Outcome.{expected-unique, sound-after, onward-changes}
use Rattle.flow_core.proofs.OneFates.{after-once}
use Rattle.flow_core.proofs.Turns.{leads-split}
use Rattle.flow_core.proofs.Giving.{expected_of_drained}
use Rattle.loss_rule.specs.declared.last_numbers.LastNumbers.{LastNumbers}
use Rattle.loss_rule.specs.Rule.{Lasts}
use Rattle.loss_rule.specs.Numbers.{carried_of, distances_of, expected_of, distance_from, AreDistancesOf}
use Rattle.loss_rule.proofs.TiedNumbers.{tied-on}
use Rattle.bonded_flows.specs.declared.bonded_flow.BondedFlow.{BondedFlow}
use Rattle.bonded_flows.specs.declared.pending.Pending.{Pending}
use Rattle.bonded_flows.specs.FlowSetup.{FlowSetup}
use Rattle.bonded_flows.specs.Stands.{IsMadeWith, HasTaken, IsUpToDate}

-- how far the expected number moves on
came-past : (first x y expected then : ℕ) → x ≤ y → y ≤ x + 4096 → expected ≡ number_of first x → then ≡ number_of first y → offset expected then ≡ y - x
came-past first x y expected then from to at then_at =
    let moved = offset-index first x y from (omega arith) in
    let same : offset expected then ≡ offset (number_of first x) (number_of first y) = ap (λ n. offset n then) at ∙ ap (offset (number_of first x)) then_at in
    omega arith

-- an event moves the expected index on by half the numbers at most
onward-one : (first width x y : ℕ) (event : FlowEvent) (events : List FlowEvent) (answers more : List Applied) (fates after : Fates) → width ≤ 4096
    → IsAfter first width events answers fates → IsExpected fates x → Leads first width fates (event ∷ []) more after → IsExpected after y
    → (x ≤ y) × (y ≤ x + 4096)
onward-one first width x y event events answers more fates after narrow is expected (x', answer, rest, between, expects, changes, (none, ends), are) expected_after =
    let same = expected-unique fates x' x expects expected in
    onward-changes first width x y event answer fates between narrow (sound-after first width events answers fates x is expected)
    (subst (λ k. Changes first width k event answer fates between) same changes)
    (subst (λ (f : Fates). IsExpected f y) ends expected_after)

-- it was made with the same, whatever it has done since
pub still-made : (setup : FlowSetup) (bonded : BondedFlow) (flow' : Flow) (lasts' : LastNumbers) (pending' : Pending) → IsMadeWith setup bonded
    → carried_of lasts' ≡ carried_of bonded.lasts → IsMadeWith setup (record bonded { flow = flow'; lasts = lasts'; pending = pending' })
still-made setup bonded flow' lasts' pending' made same =
    record { index = made.index; rule = made.rule; width = made.width; carried = same ∙ made.carried; in_range = made.in_range }

module _ (check : List ℕ → Bool) (setup : FlowSetup) (bonded : BondedFlow) (events : List FlowEvent) (lasts : Lasts) (given : List (List ℕ))
    (has : HasTaken check setup bonded events lasts given) where
  -- a drained flow expects the number of its expected index
  pub expects-number : IsDrained bonded.flow → bonded.flow.window.expected ≡ number_of setup.flow_record.first has.stands.x
  expects-number drained =
      has.stands.window.number
      ∙ ap (number_of setup.flow_record.first) (expected-unique has.stands.fates has.y has.stands.x
      (expected_of_drained check setup.flow_record bonded.flow events has.answers has.y given has.stands drained) has.stands.expected)

  -- one that is up to date counts from its expected index
  pub counts-from : IsUpToDate bonded → has.from ≡ has.stands.x
  counts-from up =
      let onward = has.onward in
      let near = has.near in
      same-index setup.flow_record.first has.from has.from has.stands.x (omega arith) (omega arith) onward (omega arith)
      (sym has.number ∙ up.expects ∙ expects-number up.drained)

  -- it may be left to do something else
  pub left-anyhow : (pending' : Pending) → HasTaken check setup (record bonded { pending = pending' }) events lasts given
  left-anyhow pending' = record {
    made = still-made setup bonded bonded.flow bonded.lasts pending' has.made refl;
    answers = has.answers;
    y = has.y;
    stands = has.stands;
    from = has.from;
    number = has.number;
    distances = has.distances;
    onward = has.onward;
    near = has.near;
  }

  -- it takes an event
  module _ (up : IsUpToDate bonded) (event : FlowEvent) (answer : Applied) (flow' : Flow) (takes : FlowTakesEvent bonded.flow event answer flow') where
    pub event-taken : (now : HasTaken check setup (record bonded { flow = flow' }) (events ++ event ∷ []) lasts given) × (now.answers ≡ has.answers ++ answer ∷ [])
    event-taken =
        let r = setup.flow_record in
        let t = takes check r events has.answers has.y given has.stands in
        let stands = t.1 in
        let s = leads-split r.first r.window events (event ∷ []) (has.answers ++ answer ∷ []) no_fates stands.fates stands.after in
        let same = (after-once r.first r.window events s.0 has.answers s.2 has.stands.fates s.3 has.stands.after).1 in
        let led : Leads r.first r.window has.stands.fates (event ∷ []) s.1 stands.fates =
        subst (λ (f : Fates). Leads r.first r.window f (event ∷ []) s.1 stands.fates) same s.4 in
        let moved = onward-one r.first r.window has.stands.x stands.x event events has.answers s.1 has.stands.fates stands.fates has.made.in_range.window_in_range
        has.stands.after has.stands.expected led stands.expected in
        let at = counts-from up in (
          record {
            made = still-made setup bonded flow' bonded.lasts bonded.pending has.made refl;
            answers = has.answers ++ answer ∷ [];
            y = t.0;
            stands = stands;
            from = has.from;
            number = has.number;
            distances = has.distances;
            onward = omega (arith, moved.0);
            near = omega (arith, moved.1);
          },
          refl,
        )

  -- It joins what is next.
  module _ (flow' : Flow) (more : List (List ℕ)) (z : ℕ) (stands : StandsFor check setup.flow_record flow' events has.answers z (given ++ more)) where
    same-index-expected : stands.x ≡ has.stands.x
    same-index-expected =
        let same = (after-once setup.flow_record.first setup.flow_record.window events has.answers has.answers stands.fates has.stands.fates stands.after has.stands.after).1 in
        expected-unique has.stands.fates stands.x has.stands.x (subst (λ (f : Fates). IsExpected f stands.x) same stands.expected) has.stands.expected

    -- not to the end
    pub joined-some : (now : HasTaken check setup (record bonded { flow = flow' }) events lasts (given ++ more)) × (now.answers ≡ has.answers)
    joined-some =
        let same = same-index-expected in
        let onward = has.onward in
        let near = has.near in (
          record {
            made = still-made setup bonded flow' bonded.lasts bonded.pending has.made refl;
            answers = has.answers;
            y = z;
            stands = stands;
            from = has.from;
            number = has.number;
            distances = has.distances;
            onward = omega arith;
            near = omega arith;
          },
          refl,
        )

    -- to the end: what it has come past no longer lies ahead
    pub joined-all : (lasts' : LastNumbers) → IsDrained flow' → carried_of lasts' ≡ carried_of bonded.lasts → expected_of lasts' ≡ flow'.window.expected
        → distances_of lasts' ≡ map (distance_from (offset (expected_of bonded.lasts) flow'.window.expected)) (distances_of bonded.lasts)
        → (now : HasTaken check setup (record bonded { flow = flow'; lasts = lasts' }) events lasts (given ++ more)) × (now.answers ≡ has.answers)
    joined-all lasts' drained carried expects left =
        let same = same-index-expected in
        let onward : has.from ≤ stands.x = (let before = has.onward in omega arith) in
        let near : stands.x ≤ has.from + 4096 = (let before = has.near in omega arith) in
        let first = setup.flow_record.first in
        let at : flow'.window.expected ≡ number_of first stands.x =
        stands.window.number
        ∙ ap (number_of first) (expected-unique stands.fates z stands.x (expected_of_drained check setup.flow_record flow' events has.answers z (given ++ more) stands drained) stands.expected) in
        let by = came-past first has.from stands.x (expected_of bonded.lasts) flow'.window.expected onward near has.number at in (
          record {
            made = still-made setup bonded flow' lasts' bonded.pending has.made carried;
            answers = has.answers;
            y = z;
            stands = stands;
            from = stands.x;
            number = expects ∙ at;
            distances = subst (AreDistancesOf stands.x lasts) (ap (λ n. map (distance_from n) (distances_of bonded.lasts)) (sym by) ∙ sym left)
                (tied-on has.from stands.x lasts (distances_of bonded.lasts) onward has.distances);
            onward = omega arith;
            near = omega arith;
          },
          refl,
        )
