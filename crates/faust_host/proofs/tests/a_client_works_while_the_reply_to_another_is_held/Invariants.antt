use Rattle.faust_host.proofs.tests.a_client_works_while_the_reply_to_another_is_held.Given as goal

abbrev pub ghosts-held_reply-T-Counter : goal.ghosts-held_reply-T-Counter
ghosts-held_reply-T-Counter g a = record { counter = a.blank }

abbrev pub ghosts-held_reply-T-Service : goal.ghosts-held_reply-T-Service
ghosts-held_reply-T-Service g a = record { clients = 2 }
