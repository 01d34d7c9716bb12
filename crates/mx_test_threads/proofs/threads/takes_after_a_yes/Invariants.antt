use Rattle.mx_test_threads.proofs.threads.takes_after_a_yes.Given as goal

abbrev pub ghosts-drive_to_end : goal.ghosts-drive_to_end
ghosts-drive_to_end g a = record { table = a.booted.0.table; boot = a.booted.0.boot }
