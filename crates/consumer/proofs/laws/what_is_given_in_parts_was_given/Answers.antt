use Rattle.consumer.proofs.Growing.{grew-twice}
use Rattle.consumer.proofs.laws.what_is_given_in_parts_was_given.Goals as goal

pub returns-clause-collected : goal.returns-clause-collected
returns-clause-collected c = λ start middle end given more first second whole.
    let later = second whole in
    let earlier = first later.0 in
    (earlier.0, grew-twice start middle end given more earlier.1 later.1)
