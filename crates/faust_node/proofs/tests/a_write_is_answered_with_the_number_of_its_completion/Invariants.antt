use Rattle.faust_node.proofs.tests.a_write_is_answered_with_the_number_of_its_completion.Given as goal

abbrev pub ghosts-write_through-T-Counter : goal.ghosts-write_through-T-Counter
ghosts-write_through-T-Counter g a = record { counter = a.blank }

abbrev pub ghosts-write_through-T-Session : goal.ghosts-write_through-T-Session
ghosts-write_through-T-Session g a = record { config = a.config.now }
