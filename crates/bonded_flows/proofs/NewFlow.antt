-- A flow to which nothing came yet.
use Rattle.std.proofs.Common.{◌≡◌, ℕ, ◌<◌, Bool, true, List, [], refl, sym, subst, ◌∙◌, arith}
use Rattle.flow_records.specs.declared.record.FlowRecord.{FlowRecord}
use Rattle.flow_records.specs.Setup.{IsInRange}
use Rattle.flow_core.specs.declared.flow.Flow.{Flow}
use Rattle.flow_core.specs.Fates.{Fates, no_fates, number_of, IsExpected}
use Rattle.flow_core.specs.Stands.{StandsFor}
use Rattle.flow_core.proofs.Outcome.{expected-unique, sound-none}
use Rattle.flow_core.proofs.Giving.{drained_of_expected}
use Rattle.loss_rule.specs.declared.last_numbers.LastNumbers.{LastNumbers}
use Rattle.loss_rule.specs.declared.rule.LossRule.{LossRule}
use Rattle.loss_rule.specs.Rule.{no_lasts}
use Rattle.loss_rule.specs.Numbers.{carried_of, distances_of, expected_of, no_distances, AreDistancesOf}
use Rattle.loss_rule.proofs.TiedNumbers.{tied-none}
use Rattle.bonded_flows.specs.declared.pending.Pending.TheVariants.{Nothing}
use Rattle.bonded_flows.specs.FlowSetup.{FlowSetup, ruled_flow}
use Rattle.bonded_flows.specs.Stands.{HasCome, IsSettled}

-- a number in its range is that of the first index
first-number : (first : ℕ) → first < 8192 → first ≡ number_of first 0
first-number first small = omega arith

module _ (index : ℕ) (rule : LossRule) (r : FlowRecord) (channels : List Bool) (range : IsInRange r) (flow : Flow) (lasts : LastNumbers)
    (news : (check : List ℕ → Bool) → StandsFor check r flow [] [] 0 [])
    (carried : carried_of lasts ≡ channels) (distances : distances_of lasts ≡ no_distances channels) (expects : expected_of lasts ≡ r.first) where
  expected-first : (check : List ℕ → Bool) → (news check).x ≡ 0
  expected-first check =
      let s = news check in
      expected-unique no_fates s.x 0 (subst (λ (f : Fates). IsExpected f s.x) s.after.1 s.expected) (sound-none r.window).expected

  pub nothing-came : (check : List ℕ → Bool)
      → HasCome check (record { index = index; rule = rule; flow_record = r; channels = channels })
      (record { index = index; rule = rule; width = r.window; flow = flow; lasts = lasts; pending = Nothing }) [] []
  nothing-came check =
      let setup : FlowSetup = record { index = index; rule = rule; flow_record = r; channels = channels } in
      let at = expected-first check in
      record {
        events = [];
        lasts = no_lasts (ruled_flow setup);
        fates = no_fates;
        ruled = (refl, refl, refl);
        taking = record {
          taken = [];
          has_taken = record {
            made = record { index = refl; rule = refl; width = refl; carried = carried; in_range = range };
            answers = [];
            y = 0;
            stands = news check;
            from = 0;
            number = expects ∙ first-number r.first range.first;
            distances = subst (AreDistancesOf 0 (no_lasts (ruled_flow setup))) (sym distances) (tied-none (ruled_flow setup) 0);
            onward = omega arith;
            near = omega arith;
          };
          left = refl;
        };
      }

  pub new-settled : IsSettled (record { index = index; rule = rule; width = r.window; flow = flow; lasts = lasts; pending = Nothing })
  new-settled =
      let check : List ℕ → Bool = λ _. true in
      let s = news check in
      record {
        nothing_left = refl;
        up_to_date = record {
          drained = drained_of_expected check r flow [] [] 0 [] s (subst (λ (f : Fates). IsExpected f 0) (sym s.after.1) (sound-none r.window).expected);
          expects = expects ∙ first-number r.first range.first ∙ sym s.window.number;
        };
      }
