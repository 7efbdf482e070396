use Rattle.std.proofs.Common.{◌≡◌, ℕ, List, Ok, refl, sym, ap, ◌∙◌, subst}
use Rattle.std.proofs.lemmas.List.{set-get_or}
use Rattle.std.proofs.lemmas.Result.{err_from_is_err_and}
use Rattle.faust_types.specs.Clients.{IsClient}
use Rattle.faust_agent.specs.State.{Member}
use Rattle.faust_record.specs.Entries.{member_after}
use Rattle.faust_record.specs.Runs.{Run, entries_of}
use Rattle.faust_record.specs.Refusals.{PushRefuses, Pushes, acted}
use Rattle.faust_record.specs.Acting.{Refused}
use Rattle.faust_record.specs.Kept.{AreParts, IsActedIn, outbox_of, run_of}
use Rattle.faust_record.specs.declared.entry.Entry.{Entry}
use Rattle.faust_record.specs.declared.outbox.Outbox.{Outbox}
use Rattle.faust_record.proofs.Steps.{refused-stays}
use Rattle.faust_record.proofs.Pushes.{agent-is, outbox-is, parts-acted, push-refused, push-taken}
use Rattle.faust_record.proofs.run_record.RunRecord.act.Goals as goal

pub returns-in_err-act : goal.returns-in_err-act
returns-in_err-act c =
    let r = c.self.inside in
    let i = c.from-k.result in
    let client : IsClient r.config.clients i = subst (IsClient r.config.clients) (sym c.from-k.ensures)
    (subst (λ (run : Run). IsClient run.config.clients c.args.client) (sym c.self.view_is) c.requires.client) in
    let agent = c.index_mut-agent.result.now in
    let agent_is : agent ≡ member_after r.config i (entries_of i r.entries) =
    agent-is r.config r.agents.items r.entries i agent c.self.invariant.replayed client c.index_mut-agent.ensures.value in
    let refusal = c.in_err-act.field-0.0 in
    let refused : Refused refusal r.entries c.act.new.entries (member_after r.config i (entries_of i r.entries)) c.act.new.agent
    c.args.input =
    subst (λ (m : Member). Refused refusal r.entries c.act.new.entries m c.act.new.agent c.args.input) agent_is
    c.in_err-act.ensures.refused in
    let stays = refused-stays refusal r.entries c.act.new.entries (member_after r.config i (entries_of i r.entries)) c.act.new.agent
    c.args.input refused in
    let now : Run = record { config = r.config; entries = c.act.new.entries } in
    let same : now ≡ run_of r = ap (λ (l : List Entry). record { config = r.config; entries = l }) stays.0 in
    let p = err_from_is_err_and c.from_residual.result c.from_residual.ensures.1 in
    let due : PushRefuses _ (run_of r) now (acted (run_of r) i c.args.input) =
    push-refused refusal (run_of r) now i c.args.input c.act.new.entries c.act.new.agent refused same in
    let at_client : Pushes c.from_residual.result (run_of r) now (acted (run_of r) i c.args.input) = rw (p.1, p.2) due in
    subst (λ (run : Run). Pushes c.from_residual.result run now (acted run c.args.client c.args.input)) c.self.view_is
    (subst (λ (k : ℕ). Pushes c.from_residual.result (run_of r) now (acted (run_of r) k c.args.input)) c.from-k.ensures at_client)

pub invariant_of-self-2 : goal.invariant_of-self-2
invariant_of-self-2 c =
    let r = c.self.inside in
    let i = c.from-k.result in
    let client : IsClient r.config.clients i = subst (IsClient r.config.clients) (sym c.from-k.ensures)
    (subst (λ (run : Run). IsClient run.config.clients c.args.client) (sym c.self.view_is) c.requires.client) in
    let agent = c.index_mut-agent.result.now in
    let outbox = c.index_mut-outbox.result.now in
    let agent_is : agent ≡ member_after r.config i (entries_of i r.entries) =
    agent-is r.config r.agents.items r.entries i agent c.self.invariant.replayed client c.index_mut-agent.ensures.value in
    let outbox_is : outbox ≡ outbox_of i r.entries =
    outbox-is r.config.clients r.outboxes.items r.entries i outbox c.self.invariant.filled client c.index_mut-outbox.ensures.value in
    let by_agent = subst (λ (m : Member). IsActedIn r.entries c.act.new.entries m c.act.new.agent outbox c.act.new.self c.args.input)
    agent_is c.in_ok-act.ensures in
    let act = subst (λ (o : Outbox). IsActedIn r.entries c.act.new.entries (member_after r.config i (entries_of i r.entries))
    c.act.new.agent o c.act.new.self c.args.input) outbox_is by_agent in
    let before : AreParts r.config r.agents.items r.outboxes.items r.entries = c.self.invariant in
    let parts = parts-acted r.config r.agents.items r.outboxes.items r.entries c.act.new.entries i c.args.input c.act.new.agent
    c.act.new.self before client c.requires.own act in
    parts

pub returns : goal.returns
returns c =
    let r = c.self.inside in
    let i = c.from-k.result in
    let client : IsClient r.config.clients i = subst (IsClient r.config.clients) (sym c.from-k.ensures)
    (subst (λ (run : Run). IsClient run.config.clients c.args.client) (sym c.self.view_is) c.requires.client) in
    let agent = c.index_mut-agent.result.now in
    let outbox = c.index_mut-outbox.result.now in
    let agent_is : agent ≡ member_after r.config i (entries_of i r.entries) =
    agent-is r.config r.agents.items r.entries i agent c.self.invariant.replayed client c.index_mut-agent.ensures.value in
    let act = subst (λ (m : Member). IsActedIn r.entries c.act.new.entries m c.act.new.agent outbox c.act.new.self c.args.input)
    agent_is c.in_ok-act.ensures in
    let now : Run = record { config = r.config; entries = c.act.new.entries } in
    let at_client : acted (run_of r) i c.args.input ≡ Ok now =
    push-taken (run_of r) i c.args.input c.act.new.entries c.act.new.agent outbox c.act.new.self act in
    subst (λ (run : Run). acted run c.args.client c.args.input ≡ Ok now) c.self.view_is
    (subst (λ (k : ℕ). acted (run_of r) k c.args.input ≡ Ok now) c.from-k.ensures at_client)
