use Rattle.faust_ticket.proofs.tests.a_seat_comes_back_out_of_a_lock.Given as goal

abbrev pub ghosts-count_through_a_lock : goal.ghosts-count_through_a_lock
ghosts-count_through_a_lock g a = record { counter = a.blank }
