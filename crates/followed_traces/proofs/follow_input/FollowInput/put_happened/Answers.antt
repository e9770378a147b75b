-- What was pending was put and told.
use Rattle.std.proofs.Common.{refl}
use Rattle.text_lines.proofs.PutTexts.{puts-nothing}
use Rattle.followed_traces.proofs.FollowedTrace.{puts_pending, puts_none}
use Rattle.followed_traces.proofs.follow_input.FollowInput.put_happened.Goals as goal

pub returns-in-Some-clause-put : goal.returns-in-Some-clause-put
returns-in-Some-clause-put g c =
    let put = c.put_happened.ensures in
    puts_pending g.O.PutText.after c.args.line c.args.self.now _ c.in-Some.following c.put_happened.new.self c.args.out.now c.put_happened.new.out c.put_happened.result c.in-Some.is
    refl refl refl refl refl put.put put.was_whole put.none put.receiver

pub returns-in-None-clause-put : goal.returns-in-None-clause-put
returns-in-None-clause-put g c =
    puts_none g.O.PutText.after c.args.line c.args.self.now _ c.args.out.now (puts-nothing g.O.PutText.after c.args.out.now) c.in-None.is c.in-None.is refl refl refl refl
