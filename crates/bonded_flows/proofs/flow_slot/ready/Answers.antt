use Rattle.std.proofs.Common.{◌≡◌, true}
use Rattle.bonded_flows.proofs.flow_slot.ready.Goals as goal

pub returns-clause-settled : goal.returns-clause-settled
returns-clause-settled g c =
    c.in_ok-go_on.ensures.settled (λ closing. let yes : c.is_being_closed.result ≡ true = c.is_being_closed.ensures.1 closing in let no = c.if-is_being_closed.false in absurd cc)

pub returns-in_err-go_on-clause-open_still : goal.returns-in_err-go_on-clause-open_still
returns-in_err-go_on-clause-open_still g c = λ is.
    absurd (c.go_on.ensures.open_still (λ closing. let yes : c.is_being_closed.result ≡ true = c.is_being_closed.ensures.1 closing in let no = c.if-is_being_closed.false in absurd cc) is)

pub returns-clause-open_still : goal.returns-clause-open_still
returns-clause-open_still g c = λ is.
    absurd (c.go_on.ensures.open_still (λ closing. let yes : c.is_being_closed.result ≡ true = c.is_being_closed.ensures.1 closing in let no = c.if-is_being_closed.false in absurd cc) is)

pub returns-in_err-go_on-clause-refused : goal.returns-in_err-go_on-clause-refused
returns-in_err-go_on-clause-refused g c = λ is.
    let yes : c.is_being_closed.result ≡ true = c.is_being_closed.ensures.1 is in let no = c.if-is_being_closed.false in absurd cc

pub returns-clause-refused : goal.returns-clause-refused
returns-clause-refused g c = λ is.
    let yes : c.is_being_closed.result ≡ true = c.is_being_closed.ensures.1 is in let no = c.if-is_being_closed.false in absurd cc
