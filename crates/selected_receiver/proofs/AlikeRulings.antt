-- By a rule what comes alike makes alike events, and the same is expected and told.
use Rattle.std.proofs.Common.{◌≡◌, ℕ, Option, Some, None, List, [], ◌∷◌, ◌++◌, slice_set, refl, ap, sym, subst, ◌∙◌}
use Rattle.std.specs.List.{AllZip}
use Rattle.docsis_wire.specs.declared.header.SegmentHeader.{SegmentHeader}
use Rattle.docsis_wire.specs.declared.segment.Segment.{Segment}
use Rattle.flow_core.specs.declared.event.Applied.{Applied}
use Rattle.flow_core.specs.declared.event.Applied.TheVariants.{Arrival}
use Rattle.flow_core.specs.Fates.{Fates, no_fates, number_of, IsExpected}
use Rattle.flow_core.specs.Events.{FlowEvent, arrives, gap, gap_to, skip_to, Leads, IsAfter}
use Rattle.flow_core.proofs.Outcome.{sound-none}
use Rattle.loss_rule.specs.declared.rule.LossRule.{LossRule}
use Rattle.loss_rule.specs.declared.rule.LossRule.TheVariants.{Decided, Passed, PassedOrSlid}
use Rattle.loss_rule.specs.Rule.{Coming, on_channel, handed_in, RuledFlow, Lasts, no_lasts, Notes, IsPassing, IsSliding, AreSkips, IsRuled, Rules, AreRuled}
use Rattle.loss_rule.specs.Inside.Reached.{IsReached}
use Rattle.loss_rule.proofs.Leasts.{passing-once}
use Rattle.loss_rule.proofs.Reaching.{reached-none, reached-leads, reached-sound, reached-expected, leads-some}
use Rattle.loss_rule.proofs.Rulings.{index-once, sliding-once, ruled-some, rules-some}
use Rattle.loss_rule.proofs.RuledTurns.{rules-lead, ruled-reached, ruled-append}
use Rattle.bonded_flows.specs.declared.told.SegmentVerdict.{SegmentVerdict}
use Rattle.bonded_flows.specs.declared.told.Told.{Told}
use Rattle.bonded_flows.specs.ByRule.{EndInVerdict, IsLastSkip, IsTold}
use Rattle.bonded_flows.specs.FlowSetup.{FlowSetup, ruled_flow}
use Rattle.receiver.proofs.Pairs.{zip_push, zip_same}
use Rattle.answers.proofs.HandedInPlace.{zip_pop}
use Rattle.selected_receiver.proofs.Alike.{ComesAlike, EventsAlike, AnswersAlike, FatesAlike}
use Rattle.selected_receiver.proofs.AlikeFates.{fates-same, expected-alike, leads-alike}

-- ---- pairs

-- two lists of pairs, one behind the other
zip_join : {X : Type 0} (R : X → X → Type 0) (xs ys us vs : List X) → AllZip R xs ys → AllZip R us vs → AllZip R (xs ++ us) (ys ++ vs)
zip_join R [] [] us vs front back = back
zip_join R [] (y ∷ ys) us vs front back = absurd front
zip_join R (x ∷ xs) [] us vs front back = absurd front
zip_join R (x ∷ xs) (y ∷ ys) us vs front back = (front.0, zip_join R xs ys us vs front.1 back)

-- and what is left behind the front
zip_behind : {X : Type 0} (R : X → X → Type 0) (xs ys us vs : List X) → AllZip R xs ys → AllZip R (xs ++ us) (ys ++ vs) → AllZip R us vs
zip_behind R [] [] us vs front all = all
zip_behind R [] (y ∷ ys) us vs front all = absurd front
zip_behind R (x ∷ xs) [] us vs front all = absurd front
zip_behind R (x ∷ xs) (y ∷ ys) us vs front all = zip_behind R xs ys us vs front.1 all.1

-- nothing stands beside nothing
zip_none : {X : Type 0} (R : X → X → Type 0) (ys : List X) → AllZip R [] ys → ys ≡ []
zip_none R [] all = refl
zip_none R (y ∷ ys) all = absurd all

-- what stands beside the last one is the last one
zip_last : {X : Type 0} (R : X → X → Type 0) (xs : List X) (x : X) (ys : List X) → AllZip R (xs ++ x ∷ []) ys
    → (front : List X) × (y : X) × (ys ≡ front ++ y ∷ []) × R x y
zip_last R [] x [] all = absurd all
zip_last R [] x (y ∷ []) all = ([], y, refl, all.0)
zip_last R [] x (y ∷ z ∷ ys) all = absurd all.1
zip_last R (a ∷ xs) x [] all = absurd all
zip_last R (a ∷ xs) x (b ∷ ys) all =
    let found = zip_last R xs x ys all.1 in
    (b ∷ found.0, found.1, ap (λ t. b ∷ t) found.2, found.3)

-- ---- one coming

-- an event is alike to itself
events-same : (event : FlowEvent) → EventsAlike event event
events-same (arrives segment) = (segment, refl, refl)
events-same gap = refl
events-same (gap_to number) = refl
events-same (skip_to number) = refl

-- the same is skipped
skips-alike : (rule : LossRule) (flow : RuledFlow) (noted : Lasts) (fates others : Fates) (number : ℕ) (skips more : List FlowEvent)
    → IsReached flow.first flow.width fates → FatesAlike fates others → AreSkips rule flow noted fates number skips → AreSkips rule flow noted others number more
    → skips ≡ more
skips-alike Decided flow noted fates others number skips more r alike p q = p ∙ sym q
skips-alike Passed flow noted fates others number skips more r alike (x, expected, passes) (x', expected', passes') =
    passing-once flow noted x skips more passes (subst (λ k. IsPassing flow noted k more) (expected-alike fates others alike x x' expected expected') passes')
skips-alike PassedOrSlid flow noted fates others number skips more r alike (x, y, passing, sliding, answers, between, expected, passes, leads, expects, slides, are)
    (x', y', passing', sliding', answers', between', expected', passes', leads', expects', slides', are') =
    let at : x' ≡ x = expected-alike fates others alike x x' expected expected' in
    let same : passing ≡ passing' = passing-once flow noted x passing passing' passes (subst (λ k. IsPassing flow noted k passing') at passes') in
    let led : Leads flow.first flow.width others passing answers' between' = subst (λ e. Leads flow.first flow.width others e answers' between') (sym same) leads' in
    let both = leads-alike flow.first flow.width x passing passing answers answers' fates others between between'
    (reached-sound flow.first flow.width fates x r expected) alike (zip_same EventsAlike events-same passing) leads led in
    let at' : y' ≡ y = expected-alike between between' both.1 y y' expects expects' in
    let same' : sliding ≡ sliding' = sliding-once flow y number sliding sliding' slides (subst (λ k. IsSliding flow k number sliding') at' slides') in
    are ∙ ap (λ t. t ++ sliding) same ∙ ap (λ t. passing' ++ t) same' ∙ sym are'

-- so alike events are made, and the same is noted
one-alike : (rule : LossRule) (flow : RuledFlow) (lasts noted later : Lasts) (fates others : Fates) (coming other : Coming) (own more : List FlowEvent)
    → IsReached flow.first flow.width fates → FatesAlike fates others → ComesAlike coming other → IsRuled rule flow lasts fates coming own noted
    → IsRuled rule flow lasts others other more later → AllZip EventsAlike own more × (noted ≡ later)
one-alike rule flow lasts noted later fates others (handed_in event) other own more r alike comes p q =
    let there : IsRuled rule flow lasts others (handed_in event) more later = subst (λ (c : Coming). IsRuled rule flow lasts others c more later) comes q in (
      subst (λ (t : List FlowEvent). AllZip EventsAlike t more) (sym p.0) (subst (AllZip EventsAlike (event ∷ [])) (sym there.0) (events-same event, tt)),
      p.1 ∙ sym there.1,
    )
one-alike rule flow lasts noted later fates others (on_channel channel segment) other own more r alike comes (x, skips, expected, notes, are, is) q =
    let its = comes.0 in
    let there : IsRuled rule flow lasts others (on_channel channel its) more later = subst (λ (c : Coming). IsRuled rule flow lasts others c more later) comes.1 q in
    let at : there.0 ≡ x = expected-alike fates others alike x there.0 expected there.2 in
    let notes' : Notes flow.first x channel segment.head.sequence lasts later =
    subst (λ (h : SegmentHeader). Notes flow.first x channel h.sequence lasts later) comes.2
    (subst (λ k. Notes flow.first k channel its.head.sequence lasts later) at there.3) in
    let index = index-once flow.first x segment.head.sequence notes.0 notes'.0 notes.1 notes'.1 in
    let same : noted ≡ later = notes.2 ∙ ap (slice_set lasts channel) index ∙ sym notes'.2 in
    let are' : AreSkips rule flow later others segment.head.sequence there.1 =
    subst (λ (h : SegmentHeader). AreSkips rule flow later others h.sequence there.1) comes.2 there.4 in
    let same' : skips ≡ there.1 = skips-alike rule flow later fates others segment.head.sequence skips there.1 r alike
    (subst (λ l. AreSkips rule flow l fates segment.head.sequence skips) same are) are' in
    let both : AllZip EventsAlike (skips ++ arrives segment ∷ []) (there.1 ++ arrives its ∷ []) =
    zip_push EventsAlike skips there.1 (arrives segment) (arrives its) (subst (AllZip EventsAlike skips) same' (zip_same EventsAlike events-same skips)) (its, refl, comes.2) in
    (subst (λ (t : List FlowEvent). AllZip EventsAlike t more) (sym is) (subst (AllZip EventsAlike (skips ++ arrives segment ∷ [])) (sym there.5) both), same)

-- ---- one coming after another

pub rules-alike : (rule : LossRule) (flow : RuledFlow) (lasts : Lasts) (fates others : Fates) (comings more : List Coming) (events also : List FlowEvent) (noted later : Lasts)
    (after apart : Fates) → IsReached flow.first flow.width fates → FatesAlike fates others → AllZip ComesAlike comings more
    → Rules rule flow lasts fates comings events noted after → Rules rule flow lasts others more also later apart
    → AllZip EventsAlike events also × (noted ≡ later) × FatesAlike after apart
rules-alike rule flow lasts fates others [] [] events also noted later after apart r alike all p q = (
  subst (λ (t : List FlowEvent). AllZip EventsAlike t also) (sym p.0) (subst (AllZip EventsAlike []) (sym q.0) tt),
  p.1 ∙ sym q.1,
  subst (λ (f : Fates). FatesAlike f apart) (sym p.2) (subst (FatesAlike fates) (sym q.2) alike),
)
rules-alike rule flow lasts fates others [] (other ∷ more) events also noted later after apart r alike all p q = absurd all
rules-alike rule flow lasts fates others (coming ∷ comings) [] events also noted later after apart r alike all p q = absurd all
rules-alike rule flow lasts fates others (coming ∷ comings) (other ∷ more) events also noted later after apart r alike all
    (own, rest, answers, between_lasts, between, ruled, leads, rules, are) (own', rest', answers', between_lasts', between', ruled', leads', rules', are') =
    let found = reached-expected flow.first flow.width fates r in
    let one = one-alike rule flow lasts between_lasts between_lasts' fates others coming other own own' r alike all.0 ruled ruled' in
    let led = leads-alike flow.first flow.width found.0 own own' answers answers' fates others between between'
    (reached-sound flow.first flow.width fates found.0 r found.1) alike one.0 leads leads' in
    let ruled_on : Rules rule flow between_lasts between' more rest' later apart = subst (λ l. Rules rule flow l between' more rest' later apart) (sym one.1) rules' in
    let behind = rules-alike rule flow between_lasts between between' comings more rest rest' noted later after apart
    (reached-leads flow.first flow.width own answers fates between r leads) led.1 all.1 rules ruled_on in (
      subst (λ (t : List FlowEvent). AllZip EventsAlike t also) (sym are)
          (subst (AllZip EventsAlike (own ++ rest)) (sym are') (zip_join EventsAlike own own' rest rest' one.0 behind.0)),
      behind.1,
      behind.2,
    )

-- so what comes alike is ruled alike
pub ruled-alike : (rule : LossRule) (flow : RuledFlow) (comings more : List Coming) (events : List FlowEvent) (lasts : Lasts) (fates : Fates)
    → AllZip ComesAlike comings more → AreRuled rule flow comings events lasts fates
    → (also : List FlowEvent) × (others : Fates) × AreRuled rule flow more also lasts others × AllZip EventsAlike events also × FatesAlike fates others
ruled-alike rule flow comings more events lasts fates all ruled =
    let none = reached-none flow.first flow.width in
    let some = rules-some rule flow (no_lasts flow) no_fates more none in
    let both = rules-alike rule flow (no_lasts flow) no_fates no_fates comings more events some.0 lasts some.1 fates some.2 none (fates-same no_fates) all ruled some.3 in
    (some.0, some.2, subst (λ l. AreRuled rule flow more some.0 l some.2) (sym both.1) some.3, both.0, both.2)

-- ---- what is expected

pub number-alike : (rule : LossRule) (flow : RuledFlow) (comings more : List Coming) (number : ℕ) → AllZip ComesAlike comings more
    → ((events : List FlowEvent) (lasts : Lasts) (fates : Fates) (x : ℕ) → AreRuled rule flow comings events lasts fates → IsExpected fates x → number ≡ number_of flow.first x)
    → (events : List FlowEvent) (lasts : Lasts) (fates : Fates) (x : ℕ) → AreRuled rule flow more events lasts fates → IsExpected fates x → number ≡ number_of flow.first x
number-alike rule flow comings more number all is events lasts fates x ruled expected =
    let none = reached-none flow.first flow.width in
    let some = rules-some rule flow (no_lasts flow) no_fates comings none in
    let found = reached-expected flow.first flow.width some.2 (ruled-reached rule flow comings some.0 some.1 some.2 some.3) in
    let both = rules-alike rule flow (no_lasts flow) no_fates no_fates comings more some.0 events some.1 lasts some.2 fates none (fates-same no_fates) all some.3 ruled in
    is some.0 some.1 some.2 found.0 some.3 found.1 ∙ sym (ap (number_of flow.first) (expected-alike some.2 fates both.2 found.0 x found.1 expected))

-- ---- what is told

-- alike events end with the same skip
last-alike : (o : Option ℕ) (skips more : List FlowEvent) → AllZip EventsAlike skips more → IsLastSkip o skips → IsLastSkip o more
last-alike None skips more all is = zip_none EventsAlike more (subst (λ (t : List FlowEvent). AllZip EventsAlike t more) is all)
last-alike (Some number) skips more all is =
    let found = zip_last EventsAlike is.0 (skip_to number) more (subst (λ (t : List FlowEvent). AllZip EventsAlike t more) is.1 all) in
    (found.0, found.2 ∙ ap (λ (e : FlowEvent). found.0 ++ e ∷ []) found.3)

-- and in the same verdict
verdict-alike : (setup : FlowSetup) (events more : List FlowEvent) (answers : List Applied) (fates : Fates) (verdict : SegmentVerdict) → AllZip EventsAlike events more
    → IsAfter setup.flow_record.first setup.flow_record.window more answers fates → EndInVerdict setup events verdict → EndInVerdict setup more verdict
verdict-alike setup events more answers fates verdict all after (before, last, were, is, says) =
    let first = setup.flow_record.first in
    let width = setup.flow_record.window in
    let both = leads-alike first width 0 events more (before ++ Arrival last ∷ []) answers no_fates no_fates were fates (sound-none width) (fates-same no_fates) all is after in
    let found = zip_last AnswersAlike before (Arrival last) answers both.0 in
    let ends : answers ≡ found.0 ++ Arrival found.3.0 ∷ [] = found.2 ∙ ap (λ (a : Applied). found.0 ++ a ∷ []) found.3.1 in
    (found.0, found.3.0, fates, subst (λ (t : List Applied). IsAfter first width more t fates) ends after, found.3.2 ∙ says)

pub told-alike : (setup : FlowSetup) (comings more : List Coming) (channel : ℕ) (segment its : Segment) (told : Told) → AllZip ComesAlike comings more
    → its.head ≡ segment.head → IsTold setup comings channel segment told → IsTold setup more channel its told
told-alike setup comings more channel segment its told all head is =
    let rule = setup.rule in
    let flow = ruled_flow setup in
    let none = reached-none flow.first flow.width in
    let here = on_channel channel segment in
    let there = on_channel channel its in
    let before = ruled-alike rule flow comings more is.events is.lasts is.fates all is.before in
    let reached = ruled-reached rule flow more before.0 is.lasts before.1 before.2 in
    let one = ruled-some rule flow is.lasts before.1 there reached in
    let led = leads-some flow.first flow.width one.0 before.1 reached in
    let skips = one.2.1 in
    let are : one.0 ≡ skips ++ arrives its ∷ [] = one.2.5 in
    let ruled : AreRuled rule flow (more ++ there ∷ []) (before.0 ++ (skips ++ arrives its ∷ [])) one.1 led.1 =
    subst (λ (e : List FlowEvent). AreRuled rule flow (more ++ there ∷ []) (before.0 ++ e) one.1 led.1) are
    (ruled-append rule flow more before.0 is.lasts before.1 there one.0 led.0 one.1 led.1 before.2 one.2 led.2) in
    let both = rules-alike rule flow (no_lasts flow) no_fates no_fates (comings ++ here ∷ []) (more ++ there ∷ [])
    (is.events ++ (is.skips ++ arrives segment ∷ [])) (before.0 ++ (skips ++ arrives its ∷ [])) is.noted one.1 is.after led.1 none (fates-same no_fates)
    (zip_push ComesAlike comings more here there all (its, refl, head)) is.ruled ruled in
    let behind = zip_behind EventsAlike is.events before.0 (is.skips ++ arrives segment ∷ []) (skips ++ arrives its ∷ []) before.3 both.0 in
    let skipped = zip_pop EventsAlike is.skips skips (arrives segment) (arrives its) behind in
    let whole = rules-lead rule flow (no_lasts flow) no_fates (more ++ there ∷ []) (before.0 ++ (skips ++ arrives its ∷ [])) one.1 led.1 ruled in
    record {
      events = before.0;
      lasts = is.lasts;
      fates = before.1;
      before = before.2;
      skips = skips;
      noted = one.1;
      after = led.1;
      ruled = ruled;
      skipped = last-alike told.skipped_to is.skips skips skipped.0 is.skipped;
      verdict = verdict-alike setup (is.events ++ (is.skips ++ arrives segment ∷ [])) (before.0 ++ (skips ++ arrives its ∷ [])) whole.0 led.1 told.verdict both.0 whole.1 is.verdict;
    }
