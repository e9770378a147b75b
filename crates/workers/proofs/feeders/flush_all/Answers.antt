-- One feeder more.
use Rattle.std.proofs.Common.{◌≡◌, ◌∙◌, ◌<◌, ◌+◌, ◌⊎◌, ◌≢◌, ◌||◌, ℕ, Bool, true, false, List, [], length, slice_index_or, refl, rules, arith}
use Rattle.std.proofs.Math.ListN.{set}
use Rattle.std.proofs.Math.Seq.{map-set_same}
use Rattle.std.proofs.lemmas.List.{get_or-set_same, get_or-set_other}
use Rattle.std.proofs.lemmas.List.Elements.{AllWithin-more_set}
use Rattle.delivery.specs.Feeders.{feeder_ring, offered, backlog, room}
use Rattle.delivery.specs.declared.feeder.Feeder.{Feeder}
use Rattle.workers.proofs.feeders.flush_all.Goals as goal

-- one of the first feeders has frames left
abbrev IsLeft : List Feeder → ℕ → Type 0
IsLeft feeders count = (k : ℕ) × (feeder : Feeder) × (k < count)
    × (slice_index_or feeders k feeder ≡ feeder) × (backlog feeder ≢ [])

-- one that was flushed before, or the one that is flushed now
left-on : (feeders : List Feeder) (i : ℕ) (new : Feeder) (was is : Bool) → i < length feeders
    → (was ≡ true → IsLeft feeders i) → (is ≡ true → backlog new ≢ []) → (was || is) ≡ true
    → IsLeft (set feeders i new) (i + 1)
left-on feeders i new true is within before now some =
    let (k, feeder, below, at, left) = before refl in
    (k, feeder, omega arith, get_or-set_other feeders i k new feeder (λ same. omega arith) ∙ at, left)
left-on feeders i new false is within before now some =
    (i, new, omega arith, get_or-set_same feeders i new new within, now some)

pub loop-feeder-preserved : goal.loop-feeder-preserved
loop-feeder-preserved c =
    let i = c.loop-feeder.feeder-index in
    let feeders = c.loop-feeder.feeders in
    let new = c.flush-are_left.new.feeder in
    let within : i < length feeders = search rules in
    record {
      rings = map-set_same feeder_ring feeders i new c.feeder-item.result c.flush-are_left.ensures.ring ∙ c.loop-feeder.invariant.rings;
      offered = map-set_same offered feeders i new c.feeder-item.result c.flush-are_left.ensures.offered ∙ c.loop-feeder.invariant.offered;
      flushed = AllWithin-more_set feeders i new within (λ (feeder : Feeder). (backlog feeder ≡ []) ⊎ (room feeder ≡ 0)) c.loop-feeder.invariant.flushed c.flush-are_left.ensures.flushed;
      none_left = λ none. AllWithin-more_set feeders i new within (λ (feeder : Feeder). backlog feeder ≡ []) (c.loop-feeder.invariant.none_left (search rules)) (c.flush-are_left.ensures.none_left (search rules));
      some_left = left-on feeders i new c.loop-feeder.are_left c.flush-are_left.result within c.loop-feeder.invariant.some_left c.flush-are_left.ensures.some_left;
    }

pub returns-clause-some_left : goal.returns-clause-some_left
returns-clause-some_left c = λ some.
    let (k, feeder, below, at, left) = c.loop-feeder.invariant.some_left some in
    let sizes = c.loop-feeder.auto.feeders in
    let ends = c.loop-feeder.auto.feeder-index-end in
    (k, feeder, omega arith, at, left)
