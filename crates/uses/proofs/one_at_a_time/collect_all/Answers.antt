-- What was given is the answer, and each of it was kept.
use Rattle.std.proofs.Common.{[], length}
use Rattle.receiver.specs.HandedIn.{made_of}
use Rattle.uses.proofs.one_at_a_time.collect_all.Goals as goal

pub returns : goal.returns
returns g c =
    let all = c.in_ok-closed.ensures in
    let received = all.received (g.C.HeaderCheck.accepts c.args.check) (made_of c.args.rule c.args.width.channels c.args.setup.now) [] [] c.in_ok-receiver.ensures.stands in
    let start = c.in-Ok.out in
    let kept = all.was_given start [] (c.consumers_begin_with_nothing_given.ensures.collected start) in
    record {
      given = all.given_more;
      answer = record { handed = received.0; are = received.1; received = received.2 };
      frames = λ whole k. c.collected_has_what_was_given.ensures.frames _ _ start c.receive_all.new.out all.given_more c.in-Ok.ensures kept whole k;
      requests = λ whole channel. c.collected_has_what_was_given.ensures.requests _ _ start c.receive_all.new.out all.given_more c.in-Ok.ensures kept whole channel;
    }
