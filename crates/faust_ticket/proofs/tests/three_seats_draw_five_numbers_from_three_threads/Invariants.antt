use Rattle.faust_ticket.proofs.tests.three_seats_draw_five_numbers_from_three_threads.Given as goal

abbrev pub ghosts-count_of_three_threads : goal.ghosts-count_of_three_threads
ghosts-count_of_three_threads g a = record { counter = a.blank }
