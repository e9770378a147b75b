-- Where nothing comes further ahead than the window holds, each segment comes near the expected
-- index, and falls into the window once the rule has skipped.
use Rattle.std.proofs.Common.{◌≢◌, ℕ, ◌+◌, ◌<◌, ◌≤◌, ◌⊎◌, inl, inr, List, length, sym, subst, arith}
use Rattle.std.proofs.lemmas.Bool.{cases_eq, cases_lt}
use Rattle.docsis_wire.specs.declared.segment.Segment.{Segment}
use Rattle.flow_core.specs.declared.event.Applied.{Applied}
use Rattle.flow_core.specs.Fates.{Fates, IsExpected}
use Rattle.flow_core.specs.Events.{FlowEvent, Leads}
use Rattle.flow_core.proofs.Nearness.{AreNumbered}
use Rattle.flow_core.proofs.Outcome.{open_and_settled}
use Rattle.loss_rule.specs.declared.rule.LossRule.{LossRule}
use Rattle.loss_rule.specs.declared.rule.LossRule.TheVariants.{Decided}
use Rattle.loss_rule.specs.Rule.{Coming, on_channel, RuledFlow, HasChannel, Lasts, HaveComeTo, Notes, IsPassing}
use Rattle.loss_rule.specs.InOrder.{Comes, AreInChannelOrder, FitTheWindow}
use Rattle.loss_rule.specs.Inside.Reached.{IsReached}
use Rattle.loss_rule.specs.Inside.Arrival.{IsUpToDate}
use Rattle.loss_rule.specs.Inside.Order.{IsInStep, AreWithin}
use Rattle.loss_rule.proofs.Leasts.{last-once, least-cases, come-passed}
use Rattle.loss_rule.proofs.RuledTurns.{ruled-reached}
use Rattle.loss_rule.proofs.Prompt.{up_to_date-after}
use Rattle.loss_rule.proofs.Noting.{noted-bounded}
use Rattle.loss_rule.proofs.Passing.{passing-reaches}
use Rattle.loss_rule.proofs.ChannelOrder.{comes-once, comes-here}
use Rattle.loss_rule.proofs.InStep.{still-latest}

module _ (flow : RuledFlow) (narrow : flow.width ≤ 4096) (segments : List Segment) (comings : List Coming) (index_at : ℕ → ℕ) (numbered : AreNumbered flow.first segments)
    (order : AreInChannelOrder flow segments comings index_at) (fit : FitTheWindow flow comings index_at)
    (n channel : ℕ) (segment : Segment) (here : Comes comings n channel segment) (lasts : Lasts) (fates : Fates)
    (known : IsUpToDate flow lasts fates) (in_step : IsInStep flow comings index_at n lasts fates) where
  -- on each channel a segment came less than 4096 before, or the index is less than that
  before-on : (other : ℕ) → HasChannel flow other
      → (index_at n < 4096) ⊎ ((q : ℕ) × (last : Segment) × (q < n) × Comes comings q other last × (index_at n < index_at q + 4096))
  before-on other has =
      elim (fit.skew n channel other segment here has) [
        | inl low ↦ inl (omega arith)
        | inr (q, last, up_to, is, within) ↦ elim (cases_eq q n) [
          | inr differ ↦ inr (q, last, omega arith, is, omega arith)
          | inl same ↦
              let one = comes-once comings n other channel last segment (subst (λ k. Comes comings k other last) same is) here in
              elim (fit.outage n channel segment here) [
                | inl low ↦ inl low
                | inr (p, earlier, before, is', near) ↦ inr (p, earlier, before, subst (λ k. Comes comings p k earlier) (sym one.0) is', near)
              ]
        ]
      ]

  -- so it comes less than 4096 after the expected index
  pub index-near : (x : ℕ) → IsExpected fates x → index_at n < x + 4096
  index-near x expected =
      elim (least-cases flow lasts) [
        | inl lacks ↦ elim (before-on lacks.channel lacks.has) [
          | inl low ↦ omega arith
          | inr (q, last, before, is, near) ↦ let found = in_step.latest q lacks.channel last before is in absurd (lacks.none found.0 found.1)
        ]
        | inr (inr none) ↦ absurd (none channel (order.on_flow n channel segment here))
        | inr (inl (least, is)) ↦
            let reached : least ≤ x = elim (cases_lt x least) [
              | inl below ↦
                  absurd (open_and_settled fates x expected.open_itself
                  (known.settled channel x (order.on_flow n channel segment here) (come-passed flow lasts least x is below)))
              | inr from ↦ from
            ] in
            elim (before-on is.own is.has) [
              | inl low ↦ omega arith
              | inr (q, last, before, comes, near) ↦
                  let found = in_step.latest q is.own last before comes in
                  let same = last-once lasts is.own found.0 least found.1 is.last in
                  omega (arith, found.2)
            ]
      ]

  -- and within the window once what every channel has passed is skipped
  module _ (x y : ℕ) (noted : Lasts) (between : Fates) (passing : List FlowEvent) (answers : List Applied) (r : IsReached flow.first flow.width fates)
      (expected : IsExpected fates x) (notes : Notes flow.first x channel segment.head.sequence lasts noted) (passes : IsPassing flow noted x passing)
      (leads : Leads flow.first flow.width fates passing answers between) (expected_between : IsExpected between y) where
    -- each last index that is the least lies at or before the expected one then
    least-reached : (least : ℕ) → HaveComeTo flow noted least → least ≤ y
    least-reached least is =
        elim (cases_lt y least) [
          | inl below ↦
              let bounded = noted-bounded flow.first x channel segment.head.sequence lasts noted notes (known.bounded x expected) in
              let passed = passing-reaches flow noted x fates between passing answers expected bounded passes leads y y channel r expected_between
              (order.on_flow n channel segment here) (come-passed flow noted least y is below) in
              absurd (omega arith)
          | inr from ↦ from
        ]

    pub index-within : index_at n < y + flow.width
    index-within =
        let latest = still-latest flow segments comings index_at numbered order n channel segment here lasts fates known in_step x expected noted notes (index-near x expected) in
        elim (least-cases flow noted) [
          | inl lacks ↦ elim (fit.skew n channel lacks.channel segment here lacks.has) [
            | inl low ↦ omega arith
            | inr (q, last, up_to, is, within) ↦ let found = latest q lacks.channel last (omega arith) is in absurd (lacks.none found.0 found.1)
          ]
          | inr (inr none) ↦ absurd (none channel (order.on_flow n channel segment here))
          | inr (inl (least, is)) ↦
              let reached = least-reached least is in
              elim (fit.skew n channel is.own segment here is.has) [
                | inl low ↦ omega arith
                | inr (q, last, up_to, comes, within) ↦
                    let found = latest q is.own last (omega arith) comes in
                    let same = last-once noted is.own found.0 least found.1 is.last in
                    omega (arith, found.2)
              ]
        ]

-- so all that comes is within
pub fit-within : (rule : LossRule) (looks : rule ≢ Decided) (flow : RuledFlow) (narrow : flow.width ≤ 4096) (segments : List Segment) (comings : List Coming)
    (index_at : ℕ → ℕ) → AreNumbered flow.first segments → AreInChannelOrder flow segments comings index_at → FitTheWindow flow comings index_at
    → AreWithin rule flow comings index_at
fit-within rule looks flow narrow segments comings index_at numbered order fit before behind channel x y segment events passing answers lasts noted fates between
    e are in_step expected notes passes leads expected_between =
    let here = comes-here comings before behind (on_channel channel segment) e in
    let known = up_to_date-after rule flow looks before events lasts fates are in
    let r = ruled-reached rule flow before events lasts fates are in (
      index-near flow narrow segments comings index_at numbered order fit (length before) channel segment here lasts fates known in_step x expected,
      index-within flow narrow segments comings index_at numbered order fit (length before) channel segment here lasts fates known in_step x y noted between
          passing answers r expected notes passes leads expected_between,
    )
