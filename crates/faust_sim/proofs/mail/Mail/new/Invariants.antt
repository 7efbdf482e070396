use Rattle.std.proofs.Common.{◌≡◌, [], replicate}
use Rattle.faust_sim.proofs.mail.Mail.new.Given as goal

abbrev pub invariant-loop : goal.invariant-loop
invariant-loop l = l.letters.items ≡ replicate l.counter (replicate l.n [])
