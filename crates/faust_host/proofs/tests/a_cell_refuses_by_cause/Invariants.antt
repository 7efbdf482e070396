use Rattle.faust_host.proofs.tests.a_cell_refuses_by_cause.Given as goal

abbrev pub ghosts-cell_refuses_by_cause : goal.ghosts-cell_refuses_by_cause
ghosts-cell_refuses_by_cause g a = record { counter = a.blank }
