use Rattle.std.proofs.Common.{inl, inr, refl}
use Rattle.std.proofs.lemmas.Result.{err_from_is_err_and}
use Rattle.capture_command.specs.Program.{captures}
use Rattle.capture_command.proofs.whole_command.obey_words.Goals as goal

pub returns-in-Capture-clause-obeys : goal.returns-in-Capture-clause-obeys
returns-in-Capture-clause-obeys g c = let asked = rw c.in-Capture.is at c.in_ok-asked.ensures in
    captures c.in-Capture.asked.settings c.in-Capture.asked.compares asked.0 asked.1 c.capture.ensures.captures

pub returns-in-Capture-clause-shown : goal.returns-in-Capture-clause-shown
returns-in-Capture-clause-shown g c = let asked = rw c.in-Capture.is at c.in_ok-asked.ensures in
    inl (c.in-Capture.asked.settings, asked.0, c.capture.ensures.shown)

pub returns-in-Capture-clause-does : goal.returns-in-Capture-clause-does
returns-in-Capture-clause-does g c = let asked = rw c.in-Capture.is at c.in_ok-asked.ensures in
    inl (c.in-Capture.asked.settings, c.in-Capture.asked.compares, asked.0, asked.1, c.capture.ensures.captures)

pub returns-in-Capture-clause-says : goal.returns-in-Capture-clause-says
returns-in-Capture-clause-says g c = let asked = rw c.in-Capture.is at c.in_ok-asked.ensures in
    inl (c.in-Capture.asked.settings, c.in-Capture.asked.progress, asked.0, asked.2, c.capture.ensures.says)

-- ---- words that are refused

pub returns-in_err-asked-clause-does : goal.returns-in_err-asked-clause-does
returns-in_err-asked-clause-does g c =
    let p = err_from_is_err_and c.from_residual.result c.from_residual.ensures.1 in
    rw (p.1, p.2) (inr (inr (record { fault = c.in_err-asked.field-0.0; is = refl; unread = refl; unwritten = refl })))

pub returns-in_err-asked-clause-shown : goal.returns-in_err-asked-clause-shown
returns-in_err-asked-clause-shown g c = inr refl

pub returns-in_err-asked-clause-says : goal.returns-in_err-asked-clause-says
returns-in_err-asked-clause-says g c = inr refl
