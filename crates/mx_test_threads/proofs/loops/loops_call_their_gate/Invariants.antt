use Rattle.mx_test_threads.proofs.loops.loops_call_their_gate.Given as goal

abbrev pub ghosts-goes_as_wanted : goal.ghosts-goes_as_wanted
ghosts-goes_as_wanted g a = record { table = a.blank.table; boot = a.blank.boot }
