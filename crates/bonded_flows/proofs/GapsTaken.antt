-- The gaps of a close, each of which loses a segment, and their end.
use Rattle.std.proofs.Common.{◌≡◌, ℕ, ◌+◌, ◌<◌, Bool, true, false, IsTrue, cond, List, [], ◌∷◌, ◌++◌, replicate, count_by, refl, ap, sym, subst, ◌∙◌, arith, append_assoc, append-nil}
use Rattle.std.proofs.lemmas.List.{replicate_more, replicate-append-replicate}
use Rattle.std.proofs.lemmas.List.Sums.{sum_by-append, sum_by_push}
use Rattle.reorder.specs.declared.verdict.Declared.{Declared}
use Rattle.flow_core.specs.declared.counts.FlowCounts.{FlowCounts}
use Rattle.flow_core.specs.declared.event.Applied.{Applied}
use Rattle.flow_core.specs.declared.event.Applied.TheVariants.{Decision}
use Rattle.flow_core.specs.Fates.{Fates, no_fates}
use Rattle.flow_core.specs.Events.{FlowEvent, gap}
use Rattle.flow_core.specs.Flows.{IsLoss}
use Rattle.flow_core.specs.Closing.{IsClosed, says_lost}
use Rattle.flow_core.specs.Outcome.{IsFlowOutcome}
use Rattle.flow_core.proofs.OneFates.{after-once}
use Rattle.flow_core.proofs.Turns.{leads-split}
use Rattle.flow_core.proofs.Closing.{losses-fewer}
use Rattle.flow_core.proofs.FlowOutcomes.{drained-outcome}
use Rattle.loss_rule.specs.Rule.{Coming, Lasts}
use Rattle.consumer.specs.declared.given.Given.{Given}
use Rattle.bonded_flows.specs.declared.bonded_flow.BondedFlow.{BondedFlow}
use Rattle.bonded_flows.specs.declared.pending.Pending.{Pending}
use Rattle.bonded_flows.specs.declared.pending.Pending.TheVariants.{Close}
use Rattle.bonded_flows.specs.FlowSetup.{FlowSetup}
use Rattle.bonded_flows.specs.Stands.{HasTaken, HasTakenSome, IsPending, HasCome, IsUpToDate, IsUnderWay}
use Rattle.bonded_flows.specs.Taking.{WasGiven, TakesGap, GivesMore, Takes, Closes}

-- whatever a flow had taken, it has taken so many gaps more, each of which lost a segment, and has
-- given these frames more
abbrev pub LosesGaps : (List ℕ → Bool) → BondedFlow → ℕ → List (List ℕ) → BondedFlow → Type 0
LosesGaps check bonded n more one =
    (setup : FlowSetup) (events : List FlowEvent) (lasts : Lasts) (given : List (List ℕ))
    → (has : HasTaken check setup bonded events lasts given)
    → (now : HasTaken check setup one (events ++ replicate n gap) lasts (given ++ more))
    × (count_by says_lost now.answers ≡ count_by says_lost has.answers + n)

-- the same events and frames, said in another way
said-as : (check : List ℕ → Bool) (setup : FlowSetup) (bonded : BondedFlow) (events others : List FlowEvent) (lasts : Lasts) (given again : List (List ℕ)) (n : ℕ)
    → events ≡ others → given ≡ again
    → (now : HasTaken check setup bonded events lasts given) × (count_by says_lost now.answers ≡ n)
    → (now : HasTaken check setup bonded others lasts again) × (count_by says_lost now.answers ≡ n)
said-as check setup bonded events others lasts given again n same same' both =
    subst (λ (e : List FlowEvent). (now : HasTaken check setup bonded e lasts again) × (count_by says_lost now.answers ≡ n)) same
    (subst (λ (g : List (List ℕ)). (now : HasTaken check setup bonded events lasts g) × (count_by says_lost now.answers ≡ n)) same' both)

-- one loss more
lost-once-more : (answers : List Applied) (declared : Declared) → IsLoss declared → count_by says_lost (answers ++ Decision declared ∷ []) ≡ count_by says_lost answers + 1
lost-once-more answers declared loss =
    sum_by_push (λ a. cond (says_lost a) 1 0) answers (Decision declared) ∙ ap (λ d. count_by says_lost answers + cond {A = ℕ} (says_lost (Decision d)) 1 0) loss.1

module _ {O : Type 0} (after : O → List Given → O → Type 0) (check : List ℕ → Bool) (bonded one : BondedFlow) where
  -- no gap yet
  pub gaps-none : (out end : O) (gives : GivesMore after check bonded out one end) → LosesGaps check bonded 0 gives.more one
  gaps-none out end gives setup events lasts given has =
      let now = gives.has_taken setup events lasts given has in
      said-as check setup one events (events ++ []) lasts (given ++ gives.more) (given ++ gives.more) (count_by says_lost has.answers + 0) (sym (append-nil events)) refl
      (now.0, ap (count_by says_lost) now.1 ∙ (let same : count_by says_lost has.answers ≡ count_by says_lost has.answers + 0 = omega arith in same))

  module _ (n : ℕ) (more : List (List ℕ)) (gaps : LosesGaps check bonded n more one) where
    -- a gap more
    module _ (two : BondedFlow) (lost : Bool) (is : lost ≡ true) (takes : TakesGap one lost two) where
      one-lost : (setup : FlowSetup) (events : List FlowEvent) (lasts : Lasts) (given : List (List ℕ)) → (has : HasTaken check setup bonded events lasts given)
          → (now : HasTaken check setup two ((events ++ replicate n gap) ++ gap ∷ []) lasts (given ++ more))
          × (count_by says_lost now.answers ≡ count_by says_lost has.answers + (n + 1))
      one-lost setup events lasts given has =
          let now = gaps setup events lasts given has in
          let t = takes.taken check setup (events ++ replicate n gap) lasts (given ++ more) now.0 in
          let count = ap (count_by says_lost) t.1 ∙ lost-once-more now.0.answers takes.declared (takes.loses is) in
          (t.0, omega (arith, count, now.1))

      pub some-lost : IsUnderWay check bonded → HasTakenSome check two
      some-lost way =
          let t = way.has_come.taking in
          record {
            setup = way.setup;
            events = (t.taken ++ replicate n gap) ++ gap ∷ [];
            lasts = way.has_come.lasts;
            given = way.given ++ more;
            has_taken = (one-lost way.setup t.taken way.has_come.lasts way.given t.has_taken).0;
          }

      pub gaps-more : (three : BondedFlow) (out end : O) (gives : GivesMore after check two out three end) → LosesGaps check bonded (n + 1) (more ++ gives.more) three
      gaps-more three out end gives setup events lasts given has =
          let lost_one = one-lost setup events lasts given has in
          let now = gives.has_taken setup ((events ++ replicate n gap) ++ gap ∷ []) lasts (given ++ more) lost_one.0 in
          said-as check setup three ((events ++ replicate n gap) ++ gap ∷ []) (events ++ replicate (n + 1) gap) lasts ((given ++ more) ++ gives.more) (given ++ (more ++ gives.more))
          (count_by says_lost has.answers + (n + 1))
          (append_assoc events (replicate n gap) (gap ∷ []) ∙ ap (λ (t : List FlowEvent). events ++ t) (replicate_more n gap))
          (append_assoc given more gives.more)
          (now.0, ap (count_by says_lost) now.1 ∙ lost_one.1)

    -- they are fewer than the window is wide
    pub gaps-fewer : (setup : FlowSetup) (events : List FlowEvent) (lasts : Lasts) (given : List (List ℕ)) → HasTaken check setup bonded events lasts given
        → n < setup.flow_record.window
    gaps-fewer setup events lasts given has =
        let r = setup.flow_record in
        let now = gaps setup events lasts given has in
        let s = leads-split r.first r.window events (replicate n gap) now.0.answers no_fates now.0.stands.fates now.0.stands.after in
        let same = after-once r.first r.window events s.0 has.answers s.2 has.stands.fates s.3 has.stands.after in
        let few = losses-fewer r.first r.window n events s.0 s.1 s.2 now.0.stands.fates has.made.in_range.window_positive s.3 s.4 in
        let all = ap (count_by says_lost) s.5 ∙ sum_by-append (λ a. cond (says_lost a) 1 0) s.0 s.1 in
        let front = ap (count_by says_lost) same.0 in
        omega (arith, few, all, front, now.1)

    module _ (out end : O) (was_given : WasGiven after bonded.index out more end) (closing : bonded.pending ≡ Close) where
      gaps-left : (setup : FlowSetup) (events taken : List FlowEvent) → IsPending setup bonded.pending events taken
          → (m : ℕ) × (taken ++ replicate n gap ≡ events ++ replicate m gap)
      gaps-left setup events taken left =
          let so_far : IsPending setup Close events taken = subst (λ (p : Pending). IsPending setup p events taken) closing left in (
            so_far.0 + n,
            ap (λ (t : List FlowEvent). t ++ replicate n gap) so_far.1 ∙ append_assoc events (replicate so_far.0 gap) (replicate n gap)
                ∙ ap (λ (t : List FlowEvent). events ++ t) (replicate-append-replicate so_far.0 n gap),
          )

      -- where an allocation failed, the close can be gone on with
      pub gaps-take : one.pending ≡ Close → Takes after check bonded out [] one end
      gaps-take still = record {
        more = more;
        was_given = was_given;
        has_come = λ setup before given has.
            let t = has.taking in
            subst (λ (comings : List Coming). HasCome check setup one comings (given ++ more)) (sym (append-nil before))
            (record {
              events = has.events;
              lasts = has.lasts;
              fates = has.fates;
              ruled = has.ruled;
              taking = record {
                taken = t.taken ++ replicate n gap;
                has_taken = (gaps setup t.taken has.lasts given t.has_taken).0;
                left = subst (λ (p : Pending). IsPending setup p has.events (t.taken ++ replicate n gap)) (sym still) (gaps-left setup has.events t.taken t.left);
              };
            });
      }

      -- where a gap loses nothing, the flow is closed
      pub gaps-close : (two : BondedFlow) (lost : Bool) (counts : FlowCounts) → lost ≡ false → TakesGap one lost two → IsUpToDate one → counts ≡ two.flow.counts
          → Closes after check bonded out counts end
      gaps-close two lost counts nothing takes up are = record {
        more = more;
        was_given = was_given;
        gave = λ setup comings given has.
            let t = has.taking in
            let r = setup.flow_record in
            let now = (gaps setup t.taken has.lasts given t.has_taken).0 in
            let not_lost : ¬ (IsTrue lost) = λ yes. (let wrong = sym nothing ∙ yes in absurd cc) in
            let outcome = drained-outcome check r one.flow (t.taken ++ replicate n gap) now.answers now.y (given ++ more) now.stands up.drained in
            let same = (after-once r.first r.window (t.taken ++ replicate n gap) now.answers outcome.answers now.stands.fates outcome.fates now.stands.after outcome.after).1 in
            let closed = subst (λ (f : Fates). IsClosed f) same (takes.closed not_lost check setup (t.taken ++ replicate n gap) has.lasts (given ++ more) now) in
            let left = gaps-left setup has.events t.taken t.left in
            let both : (o : IsFlowOutcome check r (has.events ++ replicate left.0 gap) (given ++ more) one.flow.counts) × IsClosed o.fates =
            subst (λ (e : List FlowEvent). (o : IsFlowOutcome check r e (given ++ more) one.flow.counts) × IsClosed o.fates) left.1 (outcome, closed) in
            let same_counts : one.flow.counts ≡ counts = sym (are ∙ ap (λ (b : BondedFlow). b.flow.counts) (takes.unchanged not_lost)) in
            let all = subst (λ (k : FlowCounts). (o : IsFlowOutcome check r (has.events ++ replicate left.0 gap) (given ++ more) k) × IsClosed o.fates) same_counts both in
            record {
              events = has.events;
              lasts = has.lasts;
              fates = has.fates;
              ruled = has.ruled;
              n = left.0;
              outcome = all.0;
              closed = all.1;
            };
      }
