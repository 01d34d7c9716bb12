use Rattle.mx_test_threads.proofs.glances.glances.Given as goal

abbrev pub ghosts-are_right : goal.ghosts-are_right
ghosts-are_right g a = record { table = a.blank.table; boot = a.blank.boot }
