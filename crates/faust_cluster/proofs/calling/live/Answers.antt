use Rattle.std.proofs.Common.{ℕ, List, map, Option, IfNone, IfSome, Err, refl, subst}
use Rattle.std.specs.Prelude.{string_bytes}
use Rattle.faust_outcome.specs.Words.{IsForm, IsNoForm}
use Rattle.faust_outcome.specs.declared.gathered.Gathered.{Gathered}
use Rattle.faust_outcome.specs.declared.status.LiveStatus.TheVariants.{LinkFault, StartFault, Usage}
use Rattle.faust_outcome.specs.declared.words.LiveCommand.{LiveCommand}
use Rattle.faust_cluster.specs.Counting.{CountsNet, CountsSpawner}
use Rattle.faust_cluster.specs.Writing.{EndsWriting}
use Rattle.faust_cluster.specs.declared.running.Failure.{Failure}
use Rattle.faust_cluster.proofs.Answering.{link_answered, outcome_answered, start_answered, usage_answered}
use Rattle.faust_cluster.proofs.calling.live.Goals as goal

pub returns-in-Ok-None : goal.returns-in-Ok-None
returns-in-Ok-None g c =
    usage_answered _ _ c.written.result
    (subst (λ (o : Option LiveCommand). IfNone o (IsNoForm (map (λ w. string_bytes w) c.args.words.now))) c.in-Ok-None.field-0-is
    c.in-Ok-None.ensures.no_form)
    refl refl
    (subst (λ (text : List ℕ). EndsWriting Usage text (g.K.Sink.held c.args.sink.now) (g.K.Sink.held c.written.new.sink)
    (g.K.Sink.faults c.args.sink.now) (g.K.Sink.faults c.written.new.sink) c.written.result) c.usage_line.ensures c.written.ensures)

pub returns-in-Ok-outcome : goal.returns-in-Ok-outcome
returns-in-Ok-outcome g c =
    let command = c.in-Ok-Some.command in
    let output = c.in-Ok-outcome.output in
    let result = c.written-in-Ok-outcome.result in
    let form : IsForm (map (λ w. string_bytes w) c.args.words.now) command =
    subst (λ (o : Option LiveCommand). IfSome o (IsForm (map (λ w. string_bytes w) c.args.words.now))) c.in-Ok-Some.field-0-is
    c.in-Ok-Some.ensures.form in
    outcome_answered _ _ command c.in-Ok.it output result form c.in-Ok.ensures.gathered c.in-Ok-outcome.ensures.text
    c.in-Ok-outcome.ensures.runs c.in-Ok-outcome.ensures.promised c.in-Ok.ensures.net c.in-Ok.ensures.spawner
    (subst (λ (text : List ℕ). EndsWriting output.status text (g.K.Sink.held c.args.sink.now)
    (g.K.Sink.held c.written-in-Ok-outcome.new.sink) (g.K.Sink.faults c.args.sink.now)
    (g.K.Sink.faults c.written-in-Ok-outcome.new.sink) result) c.as_slice.ensures c.written-in-Ok-outcome.ensures)

pub returns-in-Err-Start : goal.returns-in-Err-Start
returns-in-Err-Start g c =
    let command = c.in-Ok-Some.command in
    let result = c.written-in-Err-Start.result in
    let form : IsForm (map (λ w. string_bytes w) c.args.words.now) command =
    subst (λ (o : Option LiveCommand). IfSome o (IsForm (map (λ w. string_bytes w) c.args.words.now))) c.in-Ok-Some.field-0-is
    c.in-Ok-Some.ensures.form in
    start_answered _ _ command result form
    (subst (λ (f : Failure). CountsSpawner {A = Gathered} (Err f) (g.P.Spawner.faults c.args.spawner.now)
    (g.P.Spawner.faults c.gather.new.spawner)) c.in-Err-Start.field-0-is c.in-Err-Start.ensures.spawner)
    (subst (λ (f : Failure). CountsNet {A = Gathered} (Err f) (g.N.Net.faults c.args.net.now) (g.N.Net.faults c.gather.new.net))
    c.in-Err-Start.field-0-is c.in-Err-Start.ensures.net)
    (subst (λ (text : List ℕ). EndsWriting StartFault text (g.K.Sink.held c.args.sink.now) (g.K.Sink.held c.written-in-Err-Start.new.sink)
    (g.K.Sink.faults c.args.sink.now) (g.K.Sink.faults c.written-in-Err-Start.new.sink) result) c.start_fault_line.ensures
    c.written-in-Err-Start.ensures)

pub returns-in-Err-Link : goal.returns-in-Err-Link
returns-in-Err-Link g c =
    let command = c.in-Ok-Some.command in
    let result = c.written-in-Err-Link.result in
    let form : IsForm (map (λ w. string_bytes w) c.args.words.now) command =
    subst (λ (o : Option LiveCommand). IfSome o (IsForm (map (λ w. string_bytes w) c.args.words.now))) c.in-Ok-Some.field-0-is
    c.in-Ok-Some.ensures.form in
    link_answered _ _ command result form
    (subst (λ (f : Failure). CountsNet {A = Gathered} (Err f) (g.N.Net.faults c.args.net.now) (g.N.Net.faults c.gather.new.net))
    c.in-Err-Link.field-0-is c.in-Err-Link.ensures.net)
    (subst (λ (f : Failure). CountsSpawner {A = Gathered} (Err f) (g.P.Spawner.faults c.args.spawner.now)
    (g.P.Spawner.faults c.gather.new.spawner)) c.in-Err-Link.field-0-is c.in-Err-Link.ensures.spawner)
    (subst (λ (text : List ℕ). EndsWriting LinkFault text (g.K.Sink.held c.args.sink.now) (g.K.Sink.held c.written-in-Err-Link.new.sink)
    (g.K.Sink.faults c.args.sink.now) (g.K.Sink.faults c.written-in-Err-Link.new.sink) result) c.link_fault_line.ensures
    c.written-in-Err-Link.ensures)
