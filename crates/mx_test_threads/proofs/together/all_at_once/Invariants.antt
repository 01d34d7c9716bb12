use Rattle.mx_test_threads.proofs.together.all_at_once.Given as goal

abbrev pub ghosts-are_out : goal.ghosts-are_out
ghosts-are_out g a = record { table = a.blank.table; boot = a.blank.boot }
