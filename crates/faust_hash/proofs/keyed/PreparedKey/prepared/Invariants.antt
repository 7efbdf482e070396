use Rattle.faust_hash.proofs.keyed.PreparedKey.prepared.Given as goal

-- the key that was passed
abbrev pub ghost-of : goal.ghost-of
ghost-of a = a.source.now.now
