use Rattle.answers.proofs.SomeWalk.{some_walk}
use Rattle.answers.proofs.SomeJoining.{some_feed, some_joining}
use Rattle.answers.proofs.Sizes.{joins-fit, few-frames}
use Rattle.answers.proofs.each_settled_list_joins.Goals as goal

pub returns-clause-walked : goal.returns-clause-walked
returns-clause-walked c = λ check bytes are. let found = some_walk check bytes are in (found.frames, found.after, found.walks)

pub returns-clause-fed : goal.returns-clause-fed
returns-clause-fed c = λ check before segment before_bytes payload_bytes.
    let found = some_feed check before segment before_bytes payload_bytes in
    (found.frames, found.after, found.feeds, found.after_bytes)

pub returns-clause-joined : goal.returns-clause-joined
returns-clause-joined c = some_joining

pub returns-clause-frames : goal.returns-clause-frames
returns-clause-frames c = λ check before settled frames after joins. (joins-fit check before settled frames after joins).each

pub returns-clause-bytes : goal.returns-clause-bytes
returns-clause-bytes c = λ check before settled frames after joins. (joins-fit check before settled frames after joins).fits

pub returns-clause-count : goal.returns-clause-count
returns-clause-count c = few-frames
