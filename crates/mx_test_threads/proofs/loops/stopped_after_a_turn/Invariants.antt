use Rattle.mx_test_threads.proofs.loops.stopped_after_a_turn.Given as goal

abbrev pub ghosts-drive_to_end : goal.ghosts-drive_to_end
ghosts-drive_to_end g a = record { table = a.blank.table; boot = a.blank.boot }
