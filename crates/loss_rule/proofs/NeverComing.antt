-- An index that no segment brings is lost, once every channel has come past it.
use Rattle.std.proofs.Common.{◌≡◌, ◌≢◌, ℕ, ◌+◌, ◌<◌, ◌≤◌, ◌⊎◌, inl, inr, IsSome, Option, Some, List, [], ◌∷◌, ◌++◌, length, refl, ap, sym, subst, ◌∙◌, arith, append_assoc, append-nil}
use Rattle.std.proofs.lemmas.Bool.{cases_eq}
use Rattle.std.specs.Ordering.{nat_cmp}
use Rattle.std.specs.FinMap as map
use Rattle.docsis_wire.specs.declared.segment.Segment.{Segment}
use Rattle.reorder.specs.declared.verdict.Verdict.TheVariants.{Late, Beyond, Repeat, Kept}
use Rattle.reorder.proofs.Items.{get-insert_other}
use Rattle.flow_core.specs.declared.event.Applied.{Applied}
use Rattle.flow_core.specs.declared.event.Applied.TheVariants.{Arrival, Decision, DecisionTo, DecisionSkip}
use Rattle.flow_core.specs.Fates.{Fates, IsKept, IsLost}
use Rattle.flow_core.specs.Events.{FlowEvent, arrives, IsAhead, Changes, Leads}
use Rattle.flow_core.specs.Closing.{HaveNoArrival}
use Rattle.flow_core.proofs.Nearness.{AreNumbered}
use Rattle.flow_core.proofs.Turns.{leads-in_turn}
use Rattle.loss_rule.specs.declared.rule.LossRule.{LossRule}
use Rattle.loss_rule.specs.declared.rule.LossRule.TheVariants.{Decided}
use Rattle.loss_rule.specs.Rule.{Coming, on_channel, handed_in, RuledFlow, Lasts, IsRuled, AreRuled}
use Rattle.loss_rule.specs.InOrder.{Comes, AreInChannelOrder, ComeNear, HandInDecisions, NeverComes}
use Rattle.loss_rule.specs.Inside.Arrival.{ArrivesBy}
use Rattle.loss_rule.specs.Inside.Order.{KeptHaveCome}
use Rattle.loss_rule.proofs.RuledTurns.{ruled-reached, holds-after}
use Rattle.loss_rule.proofs.Arrivals.{arrival-by}
use Rattle.loss_rule.proofs.ArrivalAnswers.{skips-no_arrival}
use Rattle.loss_rule.proofs.HandedIn.{no_arrival-kept, one-no_arrival, decides}
use Rattle.loss_rule.proofs.Prompt.{kept_or_lost, up_to_date-after}
use Rattle.loss_rule.proofs.ChannelOrder.{near-index, comes-here, one-longer, number-at}
use Rattle.loss_rule.proofs.NearComings.{slid-from, slid-near}

-- a segment that arrives is kept under the index of its number, and nothing else is
arrival-kept : (first width z i : ℕ) (segment : Segment) (answer : Applied) (fates after : Fates) → Changes first width z (arrives segment) answer fates after
    → IsKept after i → IsKept fates i ⊎ IsAhead first z segment.head.sequence i
arrival-kept first width z i segment (Arrival (Late back)) fates after changes kept = inl (subst (λ (f : Fates). IsKept f i) changes.1 kept)
arrival-kept first width z i segment (Arrival (Beyond back)) fates after changes kept = inl (subst (λ (f : Fates). IsKept f i) changes.1 kept)
arrival-kept first width z i segment (Arrival (Repeat back)) fates after changes kept = inl (subst (λ (f : Fates). IsKept f i) changes.1 kept)
arrival-kept first width z i segment (Arrival Kept) fates after ((j, ahead, to, free), keeps) kept =
    elim (cases_eq i j) [
      | inl same ↦ inr (subst (IsAhead first z segment.head.sequence) (sym same) ahead)
      | inr differ ↦ inl (kept.0, sym (get-insert_other fates j (Some segment) i differ) ∙ ap (λ (f : Fates). map.get f i) (sym (keeps j ahead)) ∙ kept.1)
    ]
arrival-kept first width z i segment (Decision declared) fates after changes kept = absurd changes
arrival-kept first width z i segment (DecisionTo declared) fates after changes kept = absurd changes
arrival-kept first width z i segment (DecisionSkip skipped) fates after changes kept = absurd changes

module _ (rule : LossRule) (looks : rule ≢ Decided) (flow : RuledFlow) (positive : 1 ≤ flow.width) (narrow : flow.width ≤ 4096) (segments : List Segment)
    (comings : List Coming) (index_at : ℕ → ℕ) (numbered : AreNumbered flow.first segments) (order : AreInChannelOrder flow segments comings index_at)
    (near : ComeNear rule flow comings index_at) (decisions : HandInDecisions comings) where
  abbrev KeptHaveComeSoFar : List Coming → List Coming → List FlowEvent → Lasts → Fates → Type 0
  KeptHaveComeSoFar past behind events lasts fates = (later : List Coming) → comings ≡ past ++ (behind ++ later) → KeptHaveCome comings index_at (length past) fates

  -- what had come before one more
  earlier : (n : ℕ) (fates : Fates) (i : ℕ) → KeptHaveCome comings index_at n fates → IsKept fates i
      → (p channel : ℕ) × (segment : Segment) × (p < n + 1) × Comes comings p channel segment × (index_at p ≡ i)
  earlier n fates i came kept = let found = came i kept in (found.0, found.1, found.2, (let before = found.3 in omega arith), found.4, found.5)

  -- one segment more
  arrived : (past behind : List Coming) (before : List FlowEvent) (lasts : Lasts) (fates : Fates) (channel : ℕ) (segment : Segment) (events : List FlowEvent)
      (answers : List Applied) (noted : Lasts) (after : Fates) → comings ≡ past ++ on_channel channel segment ∷ behind → AreRuled rule flow past before lasts fates
      → ArrivesBy rule flow lasts fates channel segment events answers noted after → KeptHaveCome comings index_at (length past) fates
      → KeptHaveCome comings index_at (length past + 1) after
  arrived past behind before lasts fates channel segment events answers noted after e are t came i kept =
      let n = length past in
      let r = ruled-reached rule flow past before lasts fates are in
      let known = up_to_date-after rule flow looks past before lasts fates are in
      let here = comes-here comings past behind (on_channel channel segment) e in
      let has = order.on_flow n channel segment here in
      let number = number-at flow segments comings index_at numbered order n channel segment here in
      let close = near past behind channel t.x segment before lasts fates e are t.expected in
      elim (arrival-kept flow.first flow.width t.z i segment t.answer t.slid after t.changes kept) [
        | inl before_it ↦
            let led = leads-in_turn flow.first flow.width t.passing t.sliding (t.passing_answers ++ t.sliding_answers) fates t.slid
            (t.passing_answers, t.sliding_answers, t.between, t.leads_passing, t.leads_sliding, refl) in
            earlier n fates i came (no_arrival-kept flow.first flow.width i (t.passing ++ t.sliding) (t.passing_answers ++ t.sliding_answers) fates t.slid
            (skips-no_arrival rule flow lasts fates channel segment events answers noted after t) led before_it)
        | inr ahead ↦
            let same = near-index flow.first t.z segment.head.sequence i (index_at n) ahead number
            (slid-from rule flow positive narrow lasts fates channel segment events answers noted after r t known has (index_at n) number close.0 close.1)
            (slid-near rule flow positive narrow lasts fates channel segment events answers noted after r t known has (index_at n) number close.0 close.1) in
            (n, channel, segment, omega arith, here, same)
      ]

  -- one coming more
  come-step : (past behind : List Coming) (before : List FlowEvent) (lasts : Lasts) (fates : Fates) (coming : Coming) (events : List FlowEvent) (answers : List Applied)
      (noted : Lasts) (after : Fates) → AreRuled rule flow past before lasts fates → KeptHaveComeSoFar past (coming ∷ behind) before lasts fates
      → IsRuled rule flow lasts fates coming events noted → Leads flow.first flow.width fates events answers after
      → KeptHaveComeSoFar (past ++ coming ∷ []) behind (before ++ events) noted after
  come-step past behind before lasts fates (handed_in event) events answers noted after are so_far ruled leads later e =
      let e' : comings ≡ past ++ handed_in event ∷ (behind ++ later) = e ∙ append_assoc past (handed_in event ∷ []) (behind ++ later) in
      let none : HaveNoArrival events = subst HaveNoArrival (sym ruled.0) (one-no_arrival event (decides comings past (behind ++ later) event decisions e')) in
      subst (λ n. KeptHaveCome comings index_at n after) (sym (one-longer past (handed_in event)))
      (λ i kept. earlier (length past) fates i (so_far later e') (no_arrival-kept flow.first flow.width i events answers fates after none leads kept))
  come-step past behind before lasts fates (on_channel channel segment) events answers noted after are so_far ruled leads later e =
      let e' : comings ≡ past ++ on_channel channel segment ∷ (behind ++ later) = e ∙ append_assoc past (on_channel channel segment ∷ []) (behind ++ later) in
      let r = ruled-reached rule flow past before lasts fates are in
      let t = arrival-by rule flow lasts fates channel segment events answers noted after looks r ruled leads in
      subst (λ n. KeptHaveCome comings index_at n after) (sym (one-longer past (on_channel channel segment)))
      (arrived past (behind ++ later) before lasts fates channel segment events answers noted after e' are t (so_far later e'))

  -- so all that is kept came
  pub near-came : (events : List FlowEvent) (lasts : Lasts) (fates : Fates) → AreRuled rule flow comings events lasts fates → KeptHaveCome comings index_at (length comings) fates
  near-came events lasts fates are =
      holds-after rule flow KeptHaveComeSoFar come-step comings events lasts fates
      (λ later e i kept. (let free = map.get-empty {X = Option Segment} nat_cmp i in let is = kept.1 in absurd cc)) are [] (sym (append-nil comings))

-- what is settled and never came is lost
pub never-lost : (comings : List Coming) (index_at : ℕ → ℕ) (fates : Fates) (i : ℕ)
    → (IsKept fates i → (p channel : ℕ) × (segment : Segment) × Comes comings p channel segment × (index_at p ≡ i)) → NeverComes comings index_at i
    → IsSome (map.get fates i) → IsLost fates i
never-lost comings index_at fates i came never settled =
    elim (kept_or_lost fates i settled) [
      | inl kept ↦ let found = came kept in absurd (never found.0 found.1 found.2 found.3 found.4)
      | inr lost ↦ lost
    ]
