use Rattle.std.proofs.Common.{◌≡◌, None, replicate, rules}
use Rattle.faust_server.proofs.Kept.{IsState-for, IsStateFor-first}
use Rattle.faust_types.specs.Messages.{unmade}
use Rattle.faust_server.specs.Rows.{first_turn, first_state}
use Rattle.faust_server.proofs.server.Server.new.Goals as goal

pub invariant_of-result : goal.invariant_of-result
invariant_of-result c =
    let memory : c.from_vec.result ≡ replicate c.args.n None = search rules in
    let versions : c.from_vec-2.result ≡ replicate c.args.n (unmade c.args.n) = search rules in
    let proofs : c.from_vec-3.result ≡ replicate c.args.n None = search rules in
    let turns : c.from_vec-4.result ≡ replicate c.args.n first_turn = search rules in
    rw (memory, versions, c.new.ensures, proofs, turns)
    (IsState-for c.args.n (first_state c.args.n) (IsStateFor-first c.args.n c.requires))
