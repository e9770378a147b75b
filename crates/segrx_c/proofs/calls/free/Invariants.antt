use Rattle.segrx_c.proofs.calls.free.Given as goal

abbrev pub ghost-into_box : goal.ghost-into_box
ghost-into_box g a = g.value
