use Rattle.mx_test_threads.proofs.exchanges.calls_in_turn.Given as goal

abbrev pub ghosts-first_other : goal.ghosts-first_other
ghosts-first_other g a = record { table = a.blank.table; boot = a.blank.boot }
