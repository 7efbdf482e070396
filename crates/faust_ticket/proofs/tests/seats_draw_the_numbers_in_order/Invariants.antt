use Rattle.faust_ticket.proofs.tests.seats_draw_the_numbers_in_order.Given as goal

abbrev pub ghosts-drawn_in_turn : goal.ghosts-drawn_in_turn
ghosts-drawn_in_turn g a = record { counter = a.blank }
