use Rattle.mx_app_run.proofs.run_by_threads.run_machine.Given as goal

abbrev pub ghosts-drive_blank : goal.ghosts-drive_blank
ghosts-drive_blank g a = record { table = a.blank.table; boot = a.blank.boot }
