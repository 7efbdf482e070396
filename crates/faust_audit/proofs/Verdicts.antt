-- What a pass over a run that came to a forgery, or to the end, tells.
use Rattle.std.proofs.Common.{◌≡◌, ◌≤◌, ℕ, List, length, drop, take, Option, Some, None, sym, ap, ◌∙◌}
use Rattle.std.proofs.Math.ListN.{drop_of_length-le}
use Rattle.std.proofs.lemmas.List.{take_all}
use Rattle.faust_types.specs.declared.config.Config.{Config}
use Rattle.faust_record.specs.declared.entry.Entry.{Entry}
use Rattle.faust_premises.specs.Premises.{Forgery, first_collision, first_forged, first_forged_behind, premises_of, verdict_of, verdict_on_collision}
use Rattle.faust_audit.specs.Tables.{collision_in}
use Rattle.faust_audit.specs.Audited.{verdict_in}
use Rattle.faust_audit.specs.Passing.{IsPassAt, forged_at}
use Rattle.faust_audit.specs.declared.answers.Premises.TheVariants as premises
use Rattle.faust_audit.specs.declared.pass.Pass.{Pass}
use Rattle.faust_audit.proofs.Along.{IsEntryAt, forged-found}

pub forged-verdict : (config : Config) (xs : List Entry) (q : ℕ) (e : Entry) (body : List ℕ) → IsEntryAt xs q e
    → forged_at config (take q xs) e ≡ Some body
    → first_forged_behind config (take q xs) (drop q xs) ≡ first_forged config xs
    → verdict_in (premises.Forged e.number body) ≡ premises_of (record { config = config; entries = xs })
forged-verdict config xs q e body at found rest =
    ap (λ (f : Option Forgery). verdict_of f (first_collision config xs))
    (forged-found config xs q e body (first_forged config xs) at found rest)

pub end-verdict : (config : Config) (xs : List Entry) (q : ℕ) (pass : Pass) → length xs ≤ q → IsPassAt config pass (take q xs)
    → first_forged_behind config (take q xs) (drop q xs) ≡ first_forged config xs
    → verdict_on_collision (collision_in pass.collected.inputs.found) ≡ premises_of (record { config = config; entries = xs })
end-verdict config xs q pass ended at rest =
    let all : take q xs ≡ xs = take_all q xs ended in
    let none : first_forged config xs ≡ None =
    sym rest ∙ ap (first_forged_behind config (take q xs)) (drop_of_length-le xs ended) in
    let found : collision_in pass.collected.inputs.found ≡ first_collision config xs =
    at.inputs.found_is ∙ ap (first_collision config) all in
    ap verdict_on_collision found ∙ sym (ap (λ (f : Option Forgery). verdict_of f (first_collision config xs)) none)
