-- A rule decides the same of a flow where more channels are known that are none of the flow's.
use Rattle.std.proofs.Common.{◌≡◌, ◌≢◌, ◌<◌, ℕ, zero, suc, Bool, true, Some, None, List, [], ◌∷◌, ◌++◌, length, replicate, inl, inr, refl, ◌∙◌, subst, arith}
use Rattle.std.specs.Prelude.{slice_get, slice_set}
use Rattle.std.proofs.lemmas.List.{set-append_left, length-set}
use Rattle.docsis_wire.specs.declared.segment.Segment.{Segment}
use Rattle.flow_core.specs.Fates.{Fates}
use Rattle.flow_core.specs.Events.{FlowEvent}
use Rattle.loss_rule.specs.declared.rule.LossRule.{LossRule}
use Rattle.loss_rule.specs.declared.rule.LossRule.TheVariants.{Decided, Passed, PassedOrSlid}
use Rattle.loss_rule.specs.Rule.{Coming, on_channel, handed_in, RuledFlow, HasChannel, Lasts, IsLastOn, IsLeastLast, IsPassing, AreSkips, Rules}
use Rattle.loss_rule.specs.InOrder.{Comes}

-- what a list has, it has with more behind it
in_front : {X : Type 0} (xs ys : List X) (k : ℕ) (x : X) → slice_get xs k ≡ Some x → slice_get (xs ++ ys) k ≡ Some x
in_front [] ys k x at = absurd cc
in_front (y ∷ xs) ys zero x at = at
in_front (y ∷ xs) ys (suc k) x at = in_front xs ys k x at

-- and what more behind it has not, it has itself
not_behind : {X : Type 0} (xs ys : List X) (k : ℕ) (x : X) → ((j : ℕ) → slice_get ys j ≢ Some x) → slice_get (xs ++ ys) k ≡ Some x
    → slice_get xs k ≡ Some x
not_behind [] ys k x none at = absurd (none k at)
not_behind (y ∷ xs) ys zero x none at = at
not_behind (y ∷ xs) ys (suc k) x none at = not_behind xs ys k x none at

-- none of as many things as one likes is another one
not_repeated : {X : Type 0} (n : ℕ) (one other : X) → one ≢ other → (j : ℕ) → slice_get (replicate n one) j ≢ Some other
not_repeated zero one other differ j at = absurd cc
not_repeated (suc n) one other differ zero at = differ (cc)
not_repeated (suc n) one other differ (suc j) at = not_repeated n one other differ j at

module _ (first width : ℕ) (channels others : List Bool) (none : (j : ℕ) → slice_get others j ≢ Some true) (n : ℕ) where
  -- the flow with its channels, and with more that are not its own; of these none has a last index
  abbrev narrow : RuledFlow
  narrow = record { first = first; width = width; channels = channels }

  abbrev wide : RuledFlow
  wide = record { first = first; width = width; channels = channels ++ others }

  abbrev widened : Lasts → Lasts
  widened lasts = lasts ++ replicate n None

  to_narrow : (channel : ℕ) → HasChannel wide channel → HasChannel narrow channel
  to_narrow channel has = not_behind channels others channel true none has

  to_wide : (channel : ℕ) → HasChannel narrow channel → HasChannel wide channel
  to_wide channel has = in_front channels others channel true has

  last_narrow : (lasts : Lasts) (channel index : ℕ) → IsLastOn (widened lasts) channel index → IsLastOn lasts channel index
  last_narrow lasts channel index last = not_behind lasts (replicate n None) channel (Some index) (not_repeated n None (Some index) (λ same. cc)) last

  last_wide : (lasts : Lasts) (channel index : ℕ) → IsLastOn lasts channel index → IsLastOn (widened lasts) channel index
  last_wide lasts channel index last = in_front lasts (replicate n None) channel (Some index) last

  -- the least of the last indexes is the same
  least_narrow : (lasts : Lasts) (x least : ℕ) → IsLeastLast wide (widened lasts) x least → IsLeastLast narrow lasts x least
  least_narrow lasts x least is = record {
    ahead = is.ahead;
    one = (is.one.0, to_narrow is.one.0 is.one.1, last_narrow lasts is.one.0 least is.one.2);
    each = λ channel has.
        let found = is.each channel (to_wide channel has) in (found.0, last_narrow lasts channel found.0 found.1, found.2);
  }

  least_wide : (lasts : Lasts) (x least : ℕ) → IsLeastLast narrow lasts x least → IsLeastLast wide (widened lasts) x least
  least_wide lasts x least is = record {
    ahead = is.ahead;
    one = (is.one.0, to_wide is.one.0 is.one.1, last_wide lasts is.one.0 least is.one.2);
    each = λ channel has.
        let found = is.each channel (to_narrow channel has) in (found.0, last_wide lasts channel found.0 found.1, found.2);
  }

  -- so the same is passed, and skipped
  passing_narrow : (lasts : Lasts) (x : ℕ) (skips : List FlowEvent) → IsPassing wide (widened lasts) x skips → IsPassing narrow lasts x skips
  passing_narrow lasts x skips (inl one) = inl (one.0, least_narrow lasts x one.0 one.1, one.2)
  passing_narrow lasts x skips (inr none_least) = inr (λ least is. none_least.0 least (least_wide lasts x least is), none_least.1)

  skips_narrow : (rule : LossRule) (lasts : Lasts) (fates : Fates) (number : ℕ) (skips : List FlowEvent) → AreSkips rule wide (widened lasts) fates number skips
      → AreSkips rule narrow lasts fates number skips
  skips_narrow Decided lasts fates number skips are = are
  skips_narrow Passed lasts fates number skips are = (are.0, are.1, passing_narrow lasts are.0 skips are.2)
  skips_narrow PassedOrSlid lasts fates number skips are = (
    are.0,
    are.1,
    are.2,
    are.3,
    are.4,
    are.5,
    are.6,
    passing_narrow lasts are.0 are.2 are.7,
    are.8,
    are.9,
    are.10,
    are.11,
  )

  -- **The same events come of it**: each segment comes on one of the first channels.
  pub rules_narrow : (rule : LossRule) (lasts : Lasts) (fates : Fates) (comings : List Coming) (events : List FlowEvent) (noted : Lasts) (after : Fates)
      → ((p channel : ℕ) (segment : Segment) → Comes comings p channel segment → channel < length lasts)
      → Rules rule wide (widened lasts) fates comings events noted after → (less : Lasts) × Rules rule narrow lasts fates comings events less after
  rules_narrow rule lasts fates [] events noted after near are = (lasts, (are.0, refl, are.2))
  rules_narrow rule lasts fates (handed_in event ∷ comings) events noted after near are =
      let kept = are.5.1 in
      let again = subst (λ (between : Lasts). Rules rule wide between are.4 comings are.1 noted after) kept are.7 in
      let rest = rules_narrow rule lasts are.4 comings are.1 noted after (λ p. near (suc p)) again in
      (rest.0, (are.0, are.1, are.2, lasts, are.4, (are.5.0, refl), are.6, rest.1, are.8))
  rules_narrow rule lasts fates (on_channel channel segment ∷ comings) events noted after near are =
      let ruled = are.5 in
      let notes = ruled.3 in
      let less = slice_set lasts channel notes.0 in
      let below : channel < length lasts = near 0 channel segment refl in
      let same : are.3 ≡ widened less = notes.2 ∙ set-append_left lasts (replicate n None) channel notes.0 below in
      let again = subst (λ (between : Lasts). Rules rule wide between are.4 comings are.1 noted after) same are.7 in
      let skips = subst (λ (between : Lasts). AreSkips rule wide between fates segment.head.sequence ruled.1) same ruled.4 in
      let long = length-set lasts channel notes.0 in
      let rest =
      rules_narrow rule less are.4 comings are.1 noted after (λ p own other there. let found = near (suc p) own other there in omega (arith, long, found)) again
      in (
        rest.0,
        (
          are.0,
          are.1,
          are.2,
          less,
          are.4,
          (ruled.0, ruled.1, ruled.2, (notes.0, notes.1, refl), skips_narrow rule less fates segment.head.sequence ruled.1 skips, ruled.5),
          are.6,
          rest.1,
          are.8,
        ),
      )
