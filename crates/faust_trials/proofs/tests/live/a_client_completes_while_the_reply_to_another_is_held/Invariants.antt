use Rattle.faust_trials.proofs.tests.live.a_client_completes_while_the_reply_to_another_is_held.Given as goal

abbrev pub ghosts-run-T-Counter : goal.ghosts-run-T-Counter
ghosts-run-T-Counter g a = record { counter = a.blank }

abbrev pub ghosts-run-T-Session : goal.ghosts-run-T-Session
ghosts-run-T-Session g a = record { config = a.config.now }

abbrev pub ghosts-run-T-Service : goal.ghosts-run-T-Service
ghosts-run-T-Service g a = record { clients = 2 }
