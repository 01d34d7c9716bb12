use Rattle.mx_test_threads.proofs.loops.each_slot_is_respawned_in_turn.Given as goal

abbrev pub ghosts-sweeps_all : goal.ghosts-sweeps_all
ghosts-sweeps_all g a = record { table = a.blank.table; boot = a.blank.boot }
