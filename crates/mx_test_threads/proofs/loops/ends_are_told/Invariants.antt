use Rattle.mx_test_threads.proofs.loops.ends_are_told.Given as goal

abbrev pub ghosts-drive_to_end : goal.ghosts-drive_to_end
ghosts-drive_to_end g a = record { table = a.blank.table; boot = a.blank.boot }
