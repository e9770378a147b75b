-- The least of the distances, channel by channel.
use Rattle.std.proofs.Common.{◌≡◌, ℕ, ◌+◌, ◌<◌, ◌≤◌, ◌⊎◌, inl, inr, true, false, Bool, Option, Some, None, IfSome, List, map, length, slice_get, refl, sym, ap, subst, ◌∙◌, arith}
use Rattle.std.specs.Option.{option_map}
use Rattle.std.proofs.lemmas.Bool.{cases_lt, false≢true}
use Rattle.std.proofs.lemmas.Option.{none-some, same_Some, slice_get-map, slice_get_within}
use Rattle.loss_rule.specs.declared.known_channel.KnownChannel.{KnownChannel}
use Rattle.loss_rule.specs.Numbers.{IsPassedByAll, distance_from}
use Rattle.loss_rule.specs.Inside.Holding.{HoldsBack, IsNearest}

-- what stands at a place of a mapped list is made of what stands there
pub some-of-map : {A B : Type 0} (f : A → B) (o : Option A) (y : B) → option_map f o ≡ Some y → (x : A) × (o ≡ Some x) × (f x ≡ y)
some-of-map f None y is = absurd (none-some y is)
some-of-map f (Some x) y is = (x, refl, same_Some (f x) y is)

pub at-of-map : {A B : Type 0} (f : A → B) (xs : List A) (k : ℕ) (y : B) → slice_get (map f xs) k ≡ Some y → (x : A) × (slice_get xs k ≡ Some x) × (f x ≡ y)
at-of-map f xs k y is = some-of-map f (slice_get xs k) y (sym (slice_get-map f xs k) ∙ is)

pub at-map : {A B : Type 0} (f : A → B) (xs : List A) (k : ℕ) (x : A) (y : B) → slice_get xs k ≡ Some x → f x ≡ y → slice_get (map f xs) k ≡ Some y
at-map f xs k x y at is = slice_get-map f xs k ∙ ap (option_map f) at ∙ ap Some is

-- a channel is carried, and its last segment lies so far ahead
pub record IsOneOf (reached : ℕ) (items : List KnownChannel) (channel : ℕ) (one : KnownChannel) (distance : ℕ) : Type 0 where
  pub there : slice_get items channel ≡ Some one
  pub carried : one.carried ≡ true
  pub distance_is : distance_from reached one.last ≡ Some distance

-- Of the channels below i none is carried.
abbrev pub NoneBelow : List KnownChannel → ℕ → Type 0
NoneBelow items i = (channel : ℕ) (one : KnownChannel) → channel < i → slice_get items channel ≡ Some one → one.carried ≡ false

-- Or the last segment of each that is carried lies ahead, and this is the least distance of them.
pub record LeastBelow (reached : ℕ) (items : List KnownChannel) (i distance : ℕ) : Type 0 where
  pub after : 1 ≤ distance
  pub channel : ℕ
  pub channel_below : channel < i
  pub one : KnownChannel
  pub is_one : IsOneOf reached items channel one distance
  pub each : (channel' : ℕ) (other : KnownChannel) → channel' < i → slice_get items channel' ≡ Some other → other.carried ≡ true
      → (distance' : ℕ) × (distance_from reached other.last ≡ Some distance') × (distance ≤ distance')

abbrev pub IsLeastBelow : ℕ → List KnownChannel → ℕ → Option ℕ → Type 0
IsLeastBelow reached items i None = NoneBelow items i
IsLeastBelow reached items i (Some distance) = LeastBelow reached items i distance

-- an index below the next one is this one or below it
below-next : (P : ℕ → Type 0) (i : ℕ) → P i → ((k : ℕ) → k < i → P k) → (k : ℕ) → k < i + 1 → P k
below-next P i here below k less = elim (cases_lt k i) [
  | inl before ↦ below k before
  | inr from ↦ subst P (let same : i ≡ k = omega arith in same) here
]

-- a channel that is not carried changes nothing
pub least-passed_over : (reached : ℕ) (items : List KnownChannel) (i : ℕ) (one : KnownChannel) (least : Option ℕ)
    → slice_get items i ≡ Some one → one.carried ≡ false → IsLeastBelow reached items i least → IsLeastBelow reached items (i + 1) least
least-passed_over reached items i one None at free is =
    λ channel other less at'. below-next (λ k. (other : KnownChannel) → slice_get items k ≡ Some other → other.carried ≡ false) i
    (λ another at''. ap (λ (o : KnownChannel). o.carried) (same_Some another one (sym at'' ∙ at)) ∙ free)
    (λ k before another at''. is k another before at'') channel less other at'
least-passed_over reached items i one (Some distance) at free is = record {
  after = is.after;
  channel = is.channel;
  channel_below = let below = is.channel_below in omega arith;
  one = is.one;
  is_one = is.is_one;
  each = λ channel other less. below-next (λ k. slice_get items k ≡ Some other → other.carried ≡ true → (distance' : ℕ) × (distance_from reached other.last ≡ Some distance') × (distance ≤ distance')) i
      (λ at' carried. absurd (false≢true (sym free ∙ ap (λ (o : KnownChannel). o.carried) (same_Some one other (sym at ∙ at')) ∙ carried)))
      (λ k before. is.each k other before) channel less;
}

-- of a channel whose last segment lies ahead the nearer distance is taken
pub least-taken : (reached : ℕ) (items : List KnownChannel) (i : ℕ) (one : KnownChannel) (least : Option ℕ) (distance chosen : ℕ)
    → slice_get items i ≡ Some one → one.carried ≡ true → distance_from reached one.last ≡ Some distance → 1 ≤ distance
    → (chosen ≡ distance) ⊎ (least ≡ Some chosen) → chosen ≤ distance → IfSome least (λ other. chosen ≤ other)
    → IsLeastBelow reached items i least → LeastBelow reached items (i + 1) chosen
least-taken reached items i one None distance chosen at carried has after (inl same) near nearest is = record {
  after = subst (λ n. 1 ≤ n) (sym same) after;
  channel = i;
  channel_below = omega arith;
  one = one;
  is_one = record { there = at; carried = carried; distance_is = has ∙ ap Some (sym same) };
  each = λ channel other less. below-next (λ k. slice_get items k ≡ Some other → other.carried ≡ true → (distance' : ℕ) × (distance_from reached other.last ≡ Some distance') × (chosen ≤ distance')) i
      (λ at' _. (distance, ap (λ (o : KnownChannel). distance_from reached o.last) (same_Some other one (sym at' ∙ at)) ∙ has, near))
      (λ k before at' carried'. absurd (false≢true (sym (is k other before at') ∙ carried'))) channel less;
}
least-taken reached items i one None distance chosen at carried has after (inr wrong) near nearest is = absurd (none-some chosen wrong)
least-taken reached items i one (Some least) distance chosen at carried has after choice near nearest is = record {
  after = elim choice [
    | inl same ↦ subst (λ n. 1 ≤ n) (sym same) after
    | inr same ↦ subst (λ n. 1 ≤ n) (same_Some least chosen same) is.after
  ];
  channel = elim choice [ inl same ↦ i | inr same ↦ is.channel ];
  channel_below = elim choice as (λ v. elim v [ inl same ↦ i | inr same ↦ is.channel ] < i + 1) [ inl same ↦ omega arith | inr same ↦ let b = is.channel_below in omega arith ];
  one = elim choice [ inl same ↦ one | inr same ↦ is.one ];
  is_one = elim choice as (λ v. IsOneOf reached items (elim v [ inl same ↦ i | inr same ↦ is.channel ]) (elim v [ inl same ↦ one | inr same ↦ is.one ]) chosen) [
    | inl same ↦ record { there = at; carried = carried; distance_is = has ∙ ap Some (sym same) }
    | inr same ↦ record { there = is.is_one.there; carried = is.is_one.carried; distance_is = is.is_one.distance_is ∙ same }
  ];
  each = λ channel other less. below-next (λ k. slice_get items k ≡ Some other → other.carried ≡ true → (distance' : ℕ) × (distance_from reached other.last ≡ Some distance') × (chosen ≤ distance')) i
      (λ at' _. (distance, ap (λ (o : KnownChannel). distance_from reached o.last) (same_Some other one (sym at' ∙ at)) ∙ has, near))
      (λ k before at' carried'. let at-it = is.each k other before at' carried' in (at-it.0, at-it.1, let closer = nearest in omega (arith, at-it.2))) channel less;
}

-- of these channels whether each is the flow's, and how far ahead its last segment lies
abbrev pub carried_in : List KnownChannel → List Bool
carried_in items = map (λ one. one.carried) items

abbrev pub distances_in : ℕ → List KnownChannel → List (Option ℕ)
distances_in reached items = map (λ one. distance_from reached one.last) items

-- once all channels are looked at, it is the distance to which each has come
pub least-nearest : (reached : ℕ) (items : List KnownChannel) (least : Option ℕ) → IsLeastBelow reached items (length items) least
    → IsNearest (carried_in items) (distances_in reached items) least
least-nearest reached items None none = λ channel is.
    let at = at-of-map (λ (one : KnownChannel). one.carried) items channel true is in
    false≢true (sym (none channel at.0 (slice_get_within items channel at.0 at.1) at.1) ∙ at.2)
least-nearest reached items (Some distance) least = record {
  ahead = least.after;
  one = (
    least.channel,
    at-map (λ (one : KnownChannel). one.carried) items least.channel least.one true least.is_one.there least.is_one.carried,
    at-map (λ (one : KnownChannel). distance_from reached one.last) items least.channel least.one (Some distance) least.is_one.there least.is_one.distance_is,
  );
  each = λ channel carried.
      let at = at-of-map (λ (one : KnownChannel). one.carried) items channel true carried in
      let other = least.each channel at.0 (slice_get_within items channel at.0 at.1) at.1 at.2 in
      (other.0, at-map (λ (one : KnownChannel). distance_from reached one.last) items channel at.0 (Some other.0) at.1 other.1, other.2);
}

-- a channel that has come to nothing beyond the expected number holds the flow back
pub one-holds : (reached : ℕ) (items : List KnownChannel) (channel : ℕ) (one : KnownChannel) → slice_get items channel ≡ Some one → one.carried ≡ true
    → ((distance : ℕ) → distance_from reached one.last ≡ Some distance → distance ≡ 0) → HoldsBack (carried_in items) (distances_in reached items) channel
one-holds reached items channel one at carried missing = (
  at-map (λ (one : KnownChannel). one.carried) items channel one true at carried,
  λ distance has.
      let at' = at-of-map (λ (one : KnownChannel). distance_from reached one.last) items channel (Some distance) has in
      missing distance (ap (λ (o : KnownChannel). distance_from reached o.last) (same_Some one at'.0 (sym at ∙ at'.1)) ∙ at'.2),
)

-- and then there is no number to which every channel has come
pub held-back : (carried : List Bool) (distances : List (Option ℕ)) (channel expected : ℕ) → HoldsBack carried distances channel → IsPassedByAll carried distances expected None
held-back carried distances channel expected holds distance passed =
    let other = passed.each channel holds.0 in
    let none = holds.1 other.0 other.1 in
    let least = other.2 in
    let after = passed.ahead in
    omega arith

-- nor where the flow has no channel
pub without-channel : (carried : List Bool) (distances : List (Option ℕ)) (expected : ℕ) → IsNearest carried distances None → IsPassedByAll carried distances expected None
without-channel carried distances expected none distance passed = none passed.one.0 passed.one.1
