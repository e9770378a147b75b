-- What was given is the answer, and each of it was counted.
use Rattle.std.proofs.Common.{◌≡◌, ℕ, ◌+◌, [], count_by, ap, ◌∙◌, arith}
use Rattle.flow_records.specs.Counted.{counted}
use Rattle.consumer.specs.Counting.{is_frame, is_request}
use Rattle.receiver.specs.HandedIn.{made_of}
use Rattle.uses.proofs.one_at_a_time.count_all.Goals as goal

none-before : (n : ℕ) → 0 + n ≡ n
none-before n = omega arith

pub returns : goal.returns
returns g c =
    let all = c.in_ok-closed.ensures in
    let received = all.received (g.C.HeaderCheck.accepts c.args.check) (made_of c.args.rule c.args.width.channels c.args.setup.now) [] [] c.in_ok-receiver.ensures.stands in
    let has = all.was_given (record { frames = 0; bytes = 0; requests = 0 }) [] (c.consumers_begin_with_nothing_given.ensures.counts (record { frames = 0; bytes = 0; requests = 0 }) (omega arith) (omega arith) (omega arith)) in
    record {
      given = all.given_more;
      answer = record { handed = received.0; are = received.1; received = received.2 };
      frames = has.frames ∙ ap (λ n. counted n) (none-before (count_by is_frame all.given_more));
      requests = has.requests ∙ ap (λ n. counted n) (none-before (count_by is_request all.given_more));
    }
