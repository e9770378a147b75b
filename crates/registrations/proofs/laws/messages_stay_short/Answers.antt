use Rattle.registrations.proofs.ShortMessages.{given_short, all_short}
use Rattle.registrations.proofs.laws.messages_stay_short.Goals as goal

pub returns-clause-under_way : goal.returns-clause-under_way
returns-clause-under_way c = λ old new taken takes. all_short takes

pub returns-clause-given : goal.returns-clause-given
returns-clause-given c = given_short
