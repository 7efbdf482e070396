use Rattle.faust_host.proofs.tests.a_host_stops_by_cause.Given as goal

abbrev pub ghosts-host_stops_by_cause-T-Counter : goal.ghosts-host_stops_by_cause-T-Counter
ghosts-host_stops_by_cause-T-Counter g a = record { counter = a.blank }

abbrev pub ghosts-host_stops_by_cause-T-Service : goal.ghosts-host_stops_by_cause-T-Service
ghosts-host_stops_by_cause-T-Service g a = record { clients = 2 }
