-- What the rule makes of comings is one thing.
use Rattle.std.proofs.Common.{◌≡◌, ℕ, ◌+◌, ◌-◌, ◌<◌, inl, inr, Option, Some, None, List, [], ◌∷◌, ◌++◌, slice_set, refl, ap, sym, subst, ◌∙◌, arith}
use Rattle.std.proofs.lemmas.Bool.{cases_lt}
use Rattle.docsis_wire.specs.declared.segment.Segment.{Segment}
use Rattle.flow_core.specs.declared.event.Applied.{Applied}
use Rattle.flow_core.specs.Fates.{Fates, number_of, IsExpected}
use Rattle.flow_core.specs.Events.{FlowEvent, arrives, skip_to, Leads}
use Rattle.flow_core.proofs.Deciding.{IsAhead-once, ahead_or_behind}
use Rattle.flow_core.proofs.Outcome.{expected-unique}
use Rattle.loss_rule.specs.declared.rule.LossRule.{LossRule}
use Rattle.loss_rule.specs.declared.rule.LossRule.TheVariants.{Decided, Passed, PassedOrSlid}
use Rattle.loss_rule.specs.Rule.{Coming, on_channel, handed_in, RuledFlow, Lasts, IsIndexAhead, Notes, IsPassing, IsSliding, AreSkips, IsRuled, Rules}
use Rattle.loss_rule.specs.Inside.Reached.{IsReached}
use Rattle.loss_rule.proofs.Reaching.{reached-leads, reached-expected, leads-some, leads-one}
use Rattle.loss_rule.proofs.Leasts.{passing-some, passing-once}

-- a number has an index ahead, or none
pub index-some : (first x number : ℕ) → (last : Option ℕ) × IsIndexAhead first x number last
index-some first x number = elim (ahead_or_behind first x number) [ inl ahead ↦ (Some ahead.0, ahead.1) | inr behind ↦ (None, behind) ]

-- in one way
pub index-once : (first x number : ℕ) (last other : Option ℕ) → IsIndexAhead first x number last → IsIndexAhead first x number other → last ≡ other
index-once first x number (Some i) (Some j) p q = ap Some (IsAhead-once first x number i j p q)
index-once first x number (Some i) None p q = absurd (q i p)
index-once first x number None (Some j) p q = absurd (p j q)
index-once first x number None None p q = refl

-- so something is noted
pub notes-some : (first x channel number : ℕ) (lasts : Lasts) → (noted : Lasts) × Notes first x channel number lasts noted
notes-some first x channel number lasts = let last = index-some first x number in (slice_set lasts channel last.0, (last.0, last.1, refl))

-- and one thing
notes-once : (first x channel number : ℕ) (lasts noted other : Lasts) → Notes first x channel number lasts noted → Notes first x channel number lasts other → noted ≡ other
notes-once first x channel number lasts noted other p q =
    p.2 ∙ ap (slice_set lasts channel) (index-once first x number p.0 q.0 p.1 q.1) ∙ sym q.2

-- the window slides up to an index, or stays
pub sliding-some : (flow : RuledFlow) (x number : ℕ) → (skips : List FlowEvent) × IsSliding flow x number skips
sliding-some flow x number =
    elim (ahead_or_behind flow.first x number) [
      | inr behind ↦ ([], inr (λ index ahead. absurd (behind index ahead), refl))
      | inl (index, ahead) ↦ elim (cases_lt index (x + flow.width)) [
        | inl within ↦ ([], inr (λ other is. subst (λ k. k < x + flow.width) (IsAhead-once flow.first x number index other ahead is) within, refl))
        | inr beyond ↦ (_, inl (index, ahead, beyond, refl))
      ]
    ]

-- in one way
pub sliding-once : (flow : RuledFlow) (x number : ℕ) (skips others : List FlowEvent) → IsSliding flow x number skips → IsSliding flow x number others → skips ≡ others
sliding-once flow x number skips others (inl p) (inl q) =
    p.3 ∙ ap (λ i. skip_to (number_of flow.first (i + 1 - flow.width)) ∷ []) (IsAhead-once flow.first x number p.0 q.0 p.1 q.1) ∙ sym q.3
sliding-once flow x number skips others (inl p) (inr q) = let far = p.2 in let near = q.0 p.0 p.1 in absurd (omega arith)
sliding-once flow x number skips others (inr p) (inl q) = let far = q.2 in let near = p.0 q.0 q.1 in absurd (omega arith)
sliding-once flow x number skips others (inr p) (inr q) = p.1 ∙ sym q.1

-- there are skips, and only these
skips-some : (rule : LossRule) (flow : RuledFlow) (noted : Lasts) (fates : Fates) (number : ℕ) → IsReached flow.first flow.width fates
    → (skips : List FlowEvent) × AreSkips rule flow noted fates number skips
skips-some Decided flow noted fates number r = ([], refl)
skips-some Passed flow noted fates number r =
    let x = reached-expected flow.first flow.width fates r in
    let passing = passing-some flow noted x.0 in
    (passing.0, (x.0, x.1, passing.1))
skips-some PassedOrSlid flow noted fates number r =
    let x = reached-expected flow.first flow.width fates r in
    let passing = passing-some flow noted x.0 in
    let led = leads-some flow.first flow.width passing.0 fates r in
    let y = reached-expected flow.first flow.width led.1 (reached-leads flow.first flow.width passing.0 led.0 fates led.1 r led.2) in
    let sliding = sliding-some flow y.0 number in
    (passing.0 ++ sliding.0, (x.0, y.0, passing.0, sliding.0, led.0, led.1, x.1, passing.1, led.2, y.1, sliding.1, refl))

-- in one way
skips-once : (rule : LossRule) (flow : RuledFlow) (noted : Lasts) (fates : Fates) (number : ℕ) (skips others : List FlowEvent) → IsReached flow.first flow.width fates
    → AreSkips rule flow noted fates number skips → AreSkips rule flow noted fates number others → skips ≡ others
skips-once Decided flow noted fates number skips others r p q = p ∙ sym q
skips-once Passed flow noted fates number skips others r (x, expected, passing) (x', expected', passing') =
    passing-once flow noted x skips others passing (subst (λ k. IsPassing flow noted k others) (expected-unique fates x' x expected' expected) passing')
skips-once PassedOrSlid flow noted fates number skips others r (x, y, passing, sliding, answers, between, expected, passes, leads, expects, slides, are)
    (x', y', passing', sliding', answers', between', expected', passes', leads', expects', slides', are') =
    let at : x' ≡ x = expected-unique fates x' x expected' expected in
    let same : passing ≡ passing' = passing-once flow noted x passing passing' passes (subst (λ k. IsPassing flow noted k passing') at passes') in
    let led : Leads flow.first flow.width fates passing answers' between' = subst (λ e. Leads flow.first flow.width fates e answers' between') (sym same) leads' in
    let there : between' ≡ between = leads-one flow.first flow.width passing answers' answers fates between' between r led leads in
    let at' : y' ≡ y = expected-unique between y' y (subst (λ (f : Fates). IsExpected f y') there expects') expects in
    let same' : sliding ≡ sliding' = sliding-once flow y number sliding sliding' slides (subst (λ k. IsSliding flow k number sliding') at' slides') in
    are ∙ ap (λ t. t ++ sliding) same ∙ ap (λ t. passing' ++ t) same' ∙ sym are'

-- so one coming makes its events, and no others
pub ruled-some : (rule : LossRule) (flow : RuledFlow) (lasts : Lasts) (fates : Fates) (coming : Coming) → IsReached flow.first flow.width fates
    → (events : List FlowEvent) × (noted : Lasts) × IsRuled rule flow lasts fates coming events noted
ruled-some rule flow lasts fates (handed_in event) r = (event ∷ [], lasts, (refl, refl))
ruled-some rule flow lasts fates (on_channel channel segment) r =
    let x = reached-expected flow.first flow.width fates r in
    let noted = notes-some flow.first x.0 channel segment.head.sequence lasts in
    let skips = skips-some rule flow noted.0 fates segment.head.sequence r in
    (skips.0 ++ arrives segment ∷ [], noted.0, (x.0, skips.0, x.1, noted.1, skips.1, refl))

-- in one way
ruled-once : (rule : LossRule) (flow : RuledFlow) (lasts : Lasts) (fates : Fates) (coming : Coming) (events others : List FlowEvent) (noted other : Lasts)
    → IsReached flow.first flow.width fates → IsRuled rule flow lasts fates coming events noted → IsRuled rule flow lasts fates coming others other
    → (events ≡ others) × (noted ≡ other)
ruled-once rule flow lasts fates (handed_in event) events others noted other r p q = (p.0 ∙ sym q.0, p.1 ∙ sym q.1)
ruled-once rule flow lasts fates (on_channel channel segment) events others noted other r (x, skips, expected, notes, are, is) (x', skips', expected', notes', are', is') =
    let at : x' ≡ x = expected-unique fates x' x expected' expected in
    let same : noted ≡ other = notes-once flow.first x channel segment.head.sequence lasts noted other notes
    (subst (λ k. Notes flow.first k channel segment.head.sequence lasts other) at notes') in
    let same' : skips ≡ skips' = skips-once rule flow other fates segment.head.sequence skips skips' r
    (subst (λ l. AreSkips rule flow l fates segment.head.sequence skips) same are) are' in
    (is ∙ ap (λ t. t ++ arrives segment ∷ []) same' ∙ sym is', same)

-- A segment that comes where this index is expected is taken step by step.
module _ (flow : RuledFlow) (lasts noted : Lasts) (fates : Fates) (x channel : ℕ) (segment : Segment) (events : List FlowEvent) (at : IsExpected fates x) where
  -- by the rule that looks at what passed: noted, then what every channel has passed
  pub steps-passed : IsRuled Passed flow lasts fates (on_channel channel segment) events noted
      → (passing : List FlowEvent) × Notes flow.first x channel segment.head.sequence lasts noted × IsPassing flow noted x passing
      × (events ≡ passing ++ arrives segment ∷ [])
  steps-passed (x', skips, expected, notes, (x'', expected', passes), are) = (
    skips,
    subst (λ k. Notes flow.first k channel segment.head.sequence lasts noted) (expected-unique fates x' x expected at) notes,
    subst (λ k. IsPassing flow noted k skips) (expected-unique fates x'' x expected' at) passes,
    are,
  )

  -- by the one that also slides: from the index that is then expected
  pub steps-slid : IsRuled PassedOrSlid flow lasts fates (on_channel channel segment) events noted
      → (passing sliding : List FlowEvent) × (answers : List Applied) × (between : Fates) × (y : ℕ)
      × Notes flow.first x channel segment.head.sequence lasts noted × IsPassing flow noted x passing
      × Leads flow.first flow.width fates passing answers between × IsExpected between y × IsSliding flow y segment.head.sequence sliding
      × (events ≡ (passing ++ sliding) ++ arrives segment ∷ [])
  steps-slid (x', skips, expected, notes, (x'', y, passing, sliding, answers, between, expected', passes, leads, expects, slides, skips_are), are) = (
    passing,
    sliding,
    answers,
    between,
    y,
    subst (λ k. Notes flow.first k channel segment.head.sequence lasts noted) (expected-unique fates x' x expected at) notes,
    subst (λ k. IsPassing flow noted k passing) (expected-unique fates x'' x expected' at) passes,
    leads,
    expects,
    slides,
    are ∙ ap (λ t. t ++ arrives segment ∷ []) skips_are,
  )

-- and so do comings one after another
pub rules-some : (rule : LossRule) (flow : RuledFlow) (lasts : Lasts) (fates : Fates) (comings : List Coming) → IsReached flow.first flow.width fates
    → (events : List FlowEvent) × (noted : Lasts) × (after : Fates) × Rules rule flow lasts fates comings events noted after
rules-some rule flow lasts fates [] r = ([], lasts, fates, (refl, refl, refl))
rules-some rule flow lasts fates (coming ∷ comings) r =
    let one = ruled-some rule flow lasts fates coming r in
    let led = leads-some flow.first flow.width one.0 fates r in
    let rest = rules-some rule flow one.1 led.1 comings (reached-leads flow.first flow.width one.0 led.0 fates led.1 r led.2) in
    (one.0 ++ rest.0, rest.1, rest.2, (one.0, rest.0, led.0, one.1, led.1, one.2, led.2, rest.3, refl))

-- in one way
pub rules-once : (rule : LossRule) (flow : RuledFlow) (lasts : Lasts) (fates : Fates) (comings : List Coming) (events others : List FlowEvent) (noted other : Lasts)
    (after later : Fates) → IsReached flow.first flow.width fates → Rules rule flow lasts fates comings events noted after
    → Rules rule flow lasts fates comings others other later → (events ≡ others) × (noted ≡ other) × (after ≡ later)
rules-once rule flow lasts fates [] events others noted other after later r p q = (p.0 ∙ sym q.0, p.1 ∙ sym q.1, p.2 ∙ sym q.2)
rules-once rule flow lasts fates (coming ∷ comings) events others noted other after later r (own, rest, answers, between_lasts, between, ruled, leads, rules, are)
    (own', rest', answers', between_lasts', between', ruled', leads', rules', are') =
    let one = ruled-once rule flow lasts fates coming own own' between_lasts between_lasts' r ruled ruled' in
    let led : Leads flow.first flow.width fates own answers' between' = subst (λ e. Leads flow.first flow.width fates e answers' between') (sym one.0) leads' in
    let there : between' ≡ between = leads-one flow.first flow.width own answers' answers fates between' between r led leads in
    let ruled_on : Rules rule flow between_lasts between comings rest' other later =
    subst (λ l. Rules rule flow l between comings rest' other later) (sym one.1) (subst (λ (f : Fates). Rules rule flow between_lasts' f comings rest' other later) there rules') in
    let more = rules-once rule flow between_lasts between comings rest rest' noted other after later
    (reached-leads flow.first flow.width own answers fates between r leads) rules ruled_on in
    (are ∙ ap (λ t. t ++ rest) one.0 ∙ ap (λ t. own' ++ t) more.0 ∙ sym are', more.1, more.2)
