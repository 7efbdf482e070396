use Rattle.std.proofs.Common.{◌≡◌, ◌∷◌, [], List, length, ap, ◌∙◌, subst, sym}
use Rattle.faust_types.specs.declared.config.Config.{Config}
use Rattle.faust_record.specs.Journals.{Log, first_log}
use Rattle.faust_node.specs.declared.receipt.Receipt.{Receipt}
use Rattle.faust_outcome.specs.UserLists.{AreAllTold}
use Rattle.faust_outcome.specs.Words.{config_of}
use Rattle.faust_outcome.proofs.Idle.{both-told, idle-gathered, two-pushed}
use Rattle.faust_outcome.proofs.tests.idle.Goals as goal

pub returns : goal.returns
returns c =
    let command = c.args.command.now in
    let first = c.in_ok-new.field-0 in
    let second = c.in_ok-new-2.field-0 in
    let untold = c.new-3.result in
    let first_is : first ≡ first_log (config_of command) c.args.first =
    c.in_ok-new.ensures ∙ ap (λ (x : Config). first_log x c.args.first) c.in_ok-config.ensures.config in
    let second_is : second ≡ first_log (config_of command) c.args.second =
    c.in_ok-new-2.ensures ∙ ap (λ (x : Config). first_log x c.args.second) c.in_ok-config.ensures.config in
    let logs : c.push-2.new.self ≡ first_log (config_of command) c.args.first ∷ first_log (config_of command) c.args.second ∷ [] =
    two-pushed _ _ _ first second c.new-journals.ensures c.in_ok-push.ensures.ok c.in_ok-push-2.ensures.ok
    ∙ ap (λ (l : Log). l ∷ second ∷ []) first_is
    ∙ ap (λ (l : Log). first_log (config_of command) c.args.first ∷ l ∷ []) second_is in
    let receipts : c.push-4.new.self ≡ c.args.told ∷ untold ∷ [] =
    two-pushed _ _ _ c.args.told untold c.new-receipts.ensures c.in_ok-push-3.ensures.ok c.in_ok-push-4.ensures.ok in
    idle-gathered command _ c.args.first c.args.second c.requires.range c.requires.two c.requires.first c.requires.second logs
    c.new-4.ensures (ap (length {A = List Receipt}) receipts)
    (subst (AreAllTold command.clients command.ops 1) (sym receipts)
    (both-told command c.args.told untold c.requires.two c.requires.one c.requires.told c.new-3.ensures))
