use Rattle.faust_cluster.proofs.calling.gather.Given as goal

abbrev pub ghosts-run_in-T-Counter : goal.ghosts-run_in-T-Counter
ghosts-run_in-T-Counter g a = record { counter = a.blank }

abbrev pub ghosts-run_in-T-Session : goal.ghosts-run_in-T-Session
ghosts-run_in-T-Session g a = record { config = a.config.now }

abbrev pub ghosts-run_in-T-Service : goal.ghosts-run_in-T-Service
ghosts-run_in-T-Service g a = record { clients = a.config.now.clients }

abbrev pub ghosts-run_in-T-Cast : goal.ghosts-run_in-T-Cast
ghosts-run_in-T-Cast g a = record { ops = a.ops }
