use Rattle.std.proofs.Common.{◌≡◌, None, map, take, replicate}
use Rattle.loss_rule.specs.declared.known_channel.KnownChannel.{KnownChannel}
use Rattle.loss_rule.proofs.last_numbers.LastNumbers.new.Given as goal

abbrev pub invariant-loop-carried : goal.invariant-loop-carried
invariant-loop-carried l = record {
  carried : map (λ (one : KnownChannel). one.carried) l.known.items ≡ take l.carried-index l.channels;
  numbers : map (λ (one : KnownChannel). one.last) l.known.items ≡ replicate l.carried-index None;
}
