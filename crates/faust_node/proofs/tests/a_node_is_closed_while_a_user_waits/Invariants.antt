use Rattle.faust_node.proofs.tests.a_node_is_closed_while_a_user_waits.Given as goal

abbrev pub ghosts-read_in_vain-T-Counter : goal.ghosts-read_in_vain-T-Counter
ghosts-read_in_vain-T-Counter g a = record { counter = a.blank }

abbrev pub ghosts-read_in_vain-T-Session : goal.ghosts-read_in_vain-T-Session
ghosts-read_in_vain-T-Session g a = record { config = a.config.now }
