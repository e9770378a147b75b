-- What a rule makes of what comes to a flow brings the segments that came.
use Rattle.std.proofs.Common.{ℕ, ◌+◌, ◌==◌, ◌≤◌, inl, inr, Bool, true, false, cond, List, [], ◌∷◌, length, sym, subst, arith}
use Rattle.std.specs.List.{AllByRecursion}
use Rattle.flow_records.specs.declared.event.Event.{Event}
use Rattle.flow_records.specs.declared.event.Event.TheVariants.{Arrive, Gap, GapTo, SkipTo}
use Rattle.flow_records.specs.Events.{flow_of}
use Rattle.flow_core.specs.Fates.{Fates}
use Rattle.flow_core.specs.Events.{FlowEvent, arrives}
use Rattle.flow_core.specs.Flows.{event_of}
use Rattle.loss_rule.specs.declared.rule.LossRule.{LossRule}
use Rattle.loss_rule.specs.declared.rule.LossRule.TheVariants.{Decided, Passed, PassedOrSlid}
use Rattle.loss_rule.specs.Rule.{Coming, on_channel, handed_in, own_event, RuledFlow, Lasts, IsPassing, IsSliding, AreSkips, IsRuled, Rules}
use Rattle.receiver.specs.Ruled.{coming_of, comings_at}
use Rattle.answers.specs.Bytes.{Brings}
use Rattle.answers.proofs.Everywhere.{all_append}

module _ (P : List ℕ → Type 0) where
  -- skips bring no segment
  passing-bring : (flow : RuledFlow) (lasts : Lasts) (x : ℕ) (skips : List FlowEvent) → IsPassing flow lasts x skips → AllByRecursion (Brings P) skips
  passing-bring flow lasts x skips (inl p) = subst (AllByRecursion (Brings P)) (sym p.2) (tt, tt)
  passing-bring flow lasts x skips (inr p) = subst (AllByRecursion (Brings P)) (sym p.1) tt

  sliding-bring : (flow : RuledFlow) (x number : ℕ) (skips : List FlowEvent) → IsSliding flow x number skips → AllByRecursion (Brings P) skips
  sliding-bring flow x number skips (inl p) = subst (AllByRecursion (Brings P)) (sym p.3) (tt, tt)
  sliding-bring flow x number skips (inr p) = subst (AllByRecursion (Brings P)) (sym p.1) tt

  skips-bring : (rule : LossRule) (flow : RuledFlow) (noted : Lasts) (fates : Fates) (number : ℕ) (skips : List FlowEvent)
      → AreSkips rule flow noted fates number skips → AllByRecursion (Brings P) skips
  skips-bring Decided flow noted fates number skips are = subst (AllByRecursion (Brings P)) (sym are) tt
  skips-bring Passed flow noted fates number skips are = passing-bring flow noted are.0 skips are.2
  skips-bring PassedOrSlid flow noted fates number skips (x, y, passing, sliding, answers, between, expected, passes, leads, expects, slides, are) =
      subst (AllByRecursion (Brings P)) (sym are)
      (all_append (Brings P) passing sliding (passing-bring flow noted x passing passes) (sliding-bring flow y number sliding slides))

  -- what comes brings such a segment, or none
  abbrev pub ComesWith : Coming → Type 0
  ComesWith coming = Brings P (own_event coming)

  pub one-brings : (rule : LossRule) (flow : RuledFlow) (lasts noted : Lasts) (fates : Fates) (coming : Coming) (own : List FlowEvent)
      → ComesWith coming → IsRuled rule flow lasts fates coming own noted → AllByRecursion (Brings P) own
  one-brings rule flow lasts noted fates (handed_in event) own brings ruled = subst (AllByRecursion (Brings P)) (sym ruled.0) (brings, tt)
  one-brings rule flow lasts noted fates (on_channel channel segment) own brings (x, skips, expected, notes, are, is) =
      subst (AllByRecursion (Brings P)) (sym is)
      (all_append (Brings P) skips (arrives segment ∷ []) (skips-bring rule flow noted fates segment.head.sequence skips are) (brings, tt))

  pub rules-bring : (rule : LossRule) (flow : RuledFlow) (lasts noted : Lasts) (fates after : Fates) (comings : List Coming) (events : List FlowEvent)
      → AllByRecursion ComesWith comings → Rules rule flow lasts fates comings events noted after → AllByRecursion (Brings P) events
  rules-bring rule flow lasts noted fates after [] events bring rules = subst (AllByRecursion (Brings P)) (sym rules.0) tt
  rules-bring rule flow lasts noted fates after (coming ∷ comings) events bring (own, rest, answers, between_lasts, between, ruled, leads, rules, are) =
      subst (AllByRecursion (Brings P)) (sym are)
      (all_append (Brings P) own rest (one-brings rule flow lasts between_lasts fates coming own bring.0 ruled)
      (rules-bring rule flow between_lasts noted between after comings rest bring.1 rules))

  -- an item brings such a segment, or none
  abbrev pub ItemBrings : Event → Type 0
  ItemBrings item = Brings P (event_of item)

  item-comes : (sender : ℕ) (item : Event) → ItemBrings item → ComesWith (coming_of sender item)
  item-comes sender (Arrive flow segment) brings = brings
  item-comes sender (Gap flow) brings = tt
  item-comes sender (GapTo flow number) brings = tt
  item-comes sender (SkipTo flow number) brings = tt

  comes-if : (own : Bool) (coming : Coming) (comings : List Coming) → ComesWith coming → AllByRecursion ComesWith comings
      → AllByRecursion ComesWith (cond own (coming ∷ comings) comings)
  comes-if true coming comings here rest = (here, rest)
  comes-if false coming comings here rest = rest

  pub comings-bring : (k : ℕ) (order : List ℕ) (items : List Event) → AllByRecursion ItemBrings items → AllByRecursion ComesWith (comings_at k order items)
  comings-bring k [] items bring = tt
  comings-bring k (sender ∷ order) [] bring = tt
  comings-bring k (sender ∷ order) (item ∷ items) bring =
      comes-if (flow_of item == k) (coming_of sender item) (comings_at k order items) (item-comes sender item bring.0) (comings-bring k order items bring.1)

-- no more comes to a flow than there are items
few-if : (own : Bool) (coming : Coming) (comings : List Coming) (n : ℕ) → length comings ≤ n → length (cond own (coming ∷ comings) comings) ≤ 1 + n
few-if true coming comings n few = omega arith
few-if false coming comings n few = omega arith

pub comings-few : (k : ℕ) (order : List ℕ) (items : List Event) → length (comings_at k order items) ≤ length order
comings-few k [] items = omega arith
comings-few k (sender ∷ order) [] = omega arith
comings-few k (sender ∷ order) (item ∷ items) =
    omega (arith, few-if (flow_of item == k) (coming_of sender item) (comings_at k order items) (length order) (comings-few k order items))
