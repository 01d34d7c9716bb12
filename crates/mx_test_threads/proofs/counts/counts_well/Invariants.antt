use Rattle.mx_test_threads.proofs.counts.counts_well.Given as goal

abbrev pub ghosts-drive_and_count : goal.ghosts-drive_and_count
ghosts-drive_and_count g a = record { table = a.blank.table; boot = a.blank.boot }
