use Rattle.mx_test_threads.proofs.together.what_happens_meanwhile.Given as goal

abbrev pub ghosts-lent_and_given : goal.ghosts-lent_and_given
ghosts-lent_and_given g a = record { table = a.blank.table; boot = a.blank.boot }
