use Rattle.std.proofs.Common.{◌≡◌, ◌∷◌, [], ◌++◌, ℕ, List, Ok, refl, sym, ap, ◌∙◌}
use Rattle.faust_types.specs.declared.config.Config.{Config}
use Rattle.faust_record.specs.Journals.{Log, first_log}
use Rattle.faust_record.specs.Refusals.{step_of}
use Rattle.faust_record.specs.Merging.{numbers_of}
use Rattle.faust_record.specs.declared.entry.Input.{Input}
use Rattle.faust_record.specs.declared.entry.Entry.{Entry}
use Rattle.faust_record.proofs.Fronts.{step_appends, step_keeps}
use Rattle.faust_record.proofs.tests.merging.one_write.Goals as goal

same-config : (config : Config) (old new : Log) (input : Input) → old ≡ first_log config 1 → step_of old 0 input ≡ Ok new
    → new.config ≡ config
same-config config old new input first taken = (step_keeps old new 0 input taken).0 ∙ ap (λ (l : Log). l.config) first

one-number : (config : Config) (old new : Log) (input : Input) → old ≡ first_log config 1 → step_of old 0 input ≡ Ok new
    → numbers_of new.entries ≡ 0 ∷ []
one-number config old new input first taken =
    let more = step_appends old new 0 input taken in
    ap numbers_of more.is_longer
    ∙ ap (λ (l : List Entry). numbers_of (l ++ more.entry ∷ [])) (ap (λ (l : Log). l.entries) first)
    ∙ ap (λ (k : ℕ). k ∷ []) more.number_is

pub returns-in-Ok-clause-config : goal.returns-in-Ok-clause-config
returns-in-Ok-clause-config c =
    same-config c.args.config.now c.in_ok-journal.journal c.step.new.self _ c.in_ok-journal.ensures c.in-Ok.ensures

pub returns-in-Ok-clause-numbers : goal.returns-in-Ok-clause-numbers
returns-in-Ok-clause-numbers c =
    one-number c.args.config.now c.in_ok-journal.journal c.step.new.self _ c.in_ok-journal.ensures c.in-Ok.ensures
