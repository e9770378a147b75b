-- What is told of a segment or a decision is one thing.
use Rattle.std.proofs.Common.{◌≡◌, ℕ, Bool, Option, None, Some, List, [], ◌∷◌, ◌++◌, replicate, refl, ap, sym, subst, ◌∙◌}
use Rattle.std.proofs.lemmas.List.{append_cancel_left, append_cancel_right, same_from_push}
use Rattle.docsis_wire.specs.declared.segment.Segment.{Segment}
use Rattle.flow_core.specs.declared.counts.FlowCounts.{FlowCounts}
use Rattle.flow_core.specs.declared.event.Applied.TheVariants.{Arrival}
use Rattle.flow_core.specs.Fates.{Fates, no_fates}
use Rattle.flow_core.specs.Events.{FlowEvent, arrives, skip_to, gap, IsAfter}
use Rattle.flow_core.specs.Closing.{IsClosed}
use Rattle.flow_core.specs.Outcome.{IsFlowOutcome}
use Rattle.flow_core.proofs.OneFates.{after-once}
use Rattle.loss_rule.specs.Rule.{Coming, on_channel, handed_in, Lasts, no_lasts, AreRuled}
use Rattle.loss_rule.proofs.Reaching.{reached-none}
use Rattle.loss_rule.proofs.Rulings.{rules-once}
use Rattle.bonded_flows.specs.declared.told.SegmentVerdict.{SegmentVerdict}
use Rattle.bonded_flows.specs.declared.told.Told.{Told}
use Rattle.bonded_flows.specs.FlowSetup.{FlowSetup, ruled_flow}
use Rattle.bonded_flows.specs.Answers.{verdict_of, says_any_lost}
use Rattle.bonded_flows.specs.ByRule.{EndInVerdict, IsLastSkip, IsTold, IsToldLost}

-- the events of comings are one list
pub events-once : (setup : FlowSetup) (comings : List Coming) (events others : List FlowEvent) (lasts noted : Lasts) (fates after : Fates)
    → AreRuled setup.rule (ruled_flow setup) comings events lasts fates → AreRuled setup.rule (ruled_flow setup) comings others noted after
    → events ≡ others
events-once setup comings events others lasts noted fates after p q =
    let flow = ruled_flow setup in
    (rules-once setup.rule flow (no_lasts flow) no_fates comings events others lasts noted fates after (reached-none flow.first flow.width) p q).0

-- the last skip is one
skip-once : (one other : Option ℕ) (skips : List FlowEvent) → IsLastSkip one skips → IsLastSkip other skips → one ≡ other
skip-once None None skips p q = refl
skip-once None (Some number) skips none (before, is) = absurd (no-push before (sym none ∙ is))
  where
    no-push : (xs : List FlowEvent) → [] ≡ xs ++ skip_to number ∷ [] → ⊥
    no-push [] e = absurd cc
    no-push (x ∷ xs) e = absurd cc
skip-once (Some number) None skips (before, is) none = absurd (no-push before (sym none ∙ is))
  where
    no-push : (xs : List FlowEvent) → [] ≡ xs ++ skip_to number ∷ [] → ⊥
    no-push [] e = absurd cc
    no-push (x ∷ xs) e = absurd cc
skip-once (Some number) (Some another) skips (before, is) (earlier, is') =
    let same : skip_to number ≡ skip_to another = (same_from_push before earlier (skip_to number) (skip_to another) (sym is ∙ is')).1 in
    cc

-- the verdict on the last of the events is one
verdict-once : (setup : FlowSetup) (events : List FlowEvent) (one other : SegmentVerdict) → EndInVerdict setup events one → EndInVerdict setup events other → one ≡ other
verdict-once setup events one other (answers, last, fates, is, says) (answers', last', fates', is', says') =
    let r = setup.flow_record in
    let same = (after-once r.first r.window events (answers ++ Arrival last ∷ []) (answers' ++ Arrival last' ∷ []) fates fates' is is').0 in
    let end : Arrival last ≡ Arrival last' = (same_from_push answers answers' (Arrival last) (Arrival last') same).1 in
    let verdicts : last ≡ last' = cc in
    sym says ∙ ap verdict_of verdicts ∙ says'

same-told : (one other : Told) → one.skipped_to ≡ other.skipped_to → one.verdict ≡ other.verdict → one ≡ other
same-told one other skipped verdict =
    let by_skip : Option ℕ → Told = λ s. record { skipped_to = s; verdict = one.verdict } in
    let by_verdict : SegmentVerdict → Told = λ v. record { skipped_to = other.skipped_to; verdict = v } in
    ap by_skip skipped ∙ ap by_verdict verdict

pub told-once : (setup : FlowSetup) (comings : List Coming) (channel : ℕ) (segment : Segment) (told other : Told)
    → IsTold setup comings channel segment told → IsTold setup comings channel segment other → told ≡ other
told-once setup comings channel segment told other p q =
    let all = events-once setup (comings ++ on_channel channel segment ∷ []) (p.events ++ (p.skips ++ arrives segment ∷ [])) (q.events ++ (q.skips ++ arrives segment ∷ []))
    p.noted q.noted p.after q.after p.ruled q.ruled in
    let before = events-once setup comings p.events q.events p.lasts q.lasts p.fates q.fates p.before q.before in
    let own = append_cancel_left q.events (p.skips ++ arrives segment ∷ []) (q.skips ++ arrives segment ∷ [])
    (ap (λ (e : List FlowEvent). e ++ (p.skips ++ arrives segment ∷ [])) (sym before) ∙ all) in
    let skips = append_cancel_right p.skips q.skips (arrives segment ∷ []) own in
    same-told told other
    (skip-once told.skipped_to other.skipped_to q.skips (subst (λ (s : List FlowEvent). IsLastSkip told.skipped_to s) skips p.skipped) q.skipped)
    (verdict-once setup (q.events ++ (q.skips ++ arrives segment ∷ [])) told.verdict other.verdict
    (subst (λ (e : List FlowEvent). EndInVerdict setup e told.verdict) all p.verdict) q.verdict)

pub lost-once : (setup : FlowSetup) (comings : List Coming) (event : FlowEvent) (lost other : Bool)
    → IsToldLost setup comings event lost → IsToldLost setup comings event other → lost ≡ other
lost-once setup comings event lost other p q =
    let r = setup.flow_record in
    let all = events-once setup (comings ++ handed_in event ∷ []) p.events q.events p.lasts q.lasts p.fates q.fates p.ruled q.ruled in
    let same = (after-once r.first r.window q.events (p.answers ++ p.answer ∷ []) (q.answers ++ q.answer ∷ []) p.fates q.fates
    (subst (λ (e : List FlowEvent). IsAfter r.first r.window e (p.answers ++ p.answer ∷ []) p.fates) all p.answered) q.answered).0 in
    let end = (same_from_push p.answers q.answers p.answer q.answer same).1 in
    sym p.says ∙ ap says_any_lost end ∙ q.says

-- what a closed flow gave, by other events that are the same
pub same-close : (check : List ℕ → Bool) (setup : FlowSetup) (events others : List FlowEvent) (n : ℕ) (frames : List (List ℕ)) (counts : FlowCounts) → events ≡ others
    → (outcome : IsFlowOutcome check setup.flow_record (events ++ replicate n gap) frames counts) × IsClosed outcome.fates
    → (outcome : IsFlowOutcome check setup.flow_record (others ++ replicate n gap) frames counts) × IsClosed outcome.fates
same-close check setup events others n frames counts same both =
    subst (λ (e : List FlowEvent). (outcome : IsFlowOutcome check setup.flow_record (e ++ replicate n gap) frames counts) × IsClosed outcome.fates) same both
