use Rattle.faust_node.proofs.tests.a_cell_names_each_refusal_and_keeps_its_entries.Given as goal

abbrev pub ghosts-answers_of-T-Counter : goal.ghosts-answers_of-T-Counter
ghosts-answers_of-T-Counter g a = record { counter = a.blank }

abbrev pub ghosts-answers_of-T-Session : goal.ghosts-answers_of-T-Session
ghosts-answers_of-T-Session g a = record { config = a.config.now }
