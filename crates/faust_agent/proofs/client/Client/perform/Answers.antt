use Rattle.std.proofs.Common.{◌≡◌, ℕ, length, sym, ◌∙◌, ap, subst}
use Rattle.faust_agent.specs.Table.{after}
use Rattle.faust_agent.specs.InRange.{HoldsEach}
use Rattle.faust_agent.specs.declared.client.Client.{Client}
use Rattle.faust_agent.proofs.Kept.{kept-after}
use Rattle.faust_agent.proofs.Slots.{length-cut}
use Rattle.faust_agent.proofs.client.Client.perform.Goals as goal

pub put_cut-requires-clause-versions : goal.put_cut-requires-clause-versions
put_cut-requires-clause-versions c =
    let id = c.args.id.now in
    let known = c.clients-n.ensures in
    let kept = kept-after id.config id.me c.args.self.now c.args.deed known.client c.requires.kept c.requires.deed in
    let same : c.act.new.self ≡ after id.config id.me c.args.self.now c.args.deed = c.in_ok-outcome.ensures.0 in
    subst (λ (n : ℕ). HoldsEach n c.act.new.self.heard) (sym known.count)
    (subst (λ (st : Client). HoldsEach id.config.clients st.heard) (sym same) kept.versions)

pub put_cut-requires-clause-room : goal.put_cut-requires-clause-room
put_cut-requires-clause-room c =
    ap length (c.in_ok-cut.ensures ∙ c.in_ok-before.ensures) ∙ length-cut c.args.id.now.me c.args.self.now c.clients-n.result
