use Rattle.std.proofs.Common.{◌≡◌, ◌++◌, Option, ℕ, map, take, drop}
use Rattle.loss_rule.specs.declared.known_channel.KnownChannel.{KnownChannel}
use Rattle.loss_rule.specs.Numbers.{carried_of, distance_from}
use Rattle.loss_rule.proofs.last_numbers.LastNumbers.count_anew.Given as goal

abbrev pub invariant-loop-one : goal.invariant-loop-one
invariant-loop-one l = record {
  carried : map (λ (one : KnownChannel). one.carried) l.one-items ≡ carried_of l.fn.self;
  lasts : map (λ (one : KnownChannel). one.last) l.one-items
      ≡ map (λ (last : Option ℕ). distance_from l.by (distance_from l.at last)) (take l.one-index (map (λ (one : KnownChannel). one.last) l.fn.self.channels.items))
      ++ drop l.one-index (map (λ (one : KnownChannel). one.last) l.fn.self.channels.items);
}
