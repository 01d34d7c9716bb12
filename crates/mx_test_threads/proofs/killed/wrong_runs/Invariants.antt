use Rattle.mx_test_threads.proofs.killed.wrong_runs.Given as goal

abbrev pub ghosts-run_with_kill : goal.ghosts-run_with_kill
ghosts-run_with_kill g a = record { table = a.blank.table; boot = a.blank.boot }
