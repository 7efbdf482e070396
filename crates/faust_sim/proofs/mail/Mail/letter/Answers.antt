use Rattle.std.proofs.Common.{◌≡◌, ◌-◌, ℕ, List, Option, get_or, sym, ap, ◌∙◌, subst}
use Rattle.std.specs.Prelude.{option_and_then}
use Rattle.faust_sim.specs.Kept.{IsMailOf, letter_at}
use Rattle.faust_sim.specs.declared.letters.Place.{Place}
use Rattle.faust_sim.proofs.Places.{letter-read}
use Rattle.faust_sim.proofs.mail.Mail.letter.Goals as goal

pub returns-in-None : goal.returns-in-None
returns-in-None c =
    let run = c.args.run.now in
    let n = run.config.clients in
    let mail = c.self.inside.letters.items in
    let kept : IsMailOf n mail run.entries =
    subst (λ (m : List (List (List Place))). IsMailOf n m run.entries) (sym c.self.view_is) c.requires.mail in
    let lists = c.index.result.now in
    let read : lists ≡ get_or mail (c.args.i - 1) lists =
    subst (λ (k : ℕ). lists ≡ get_or mail (k - 1) lists) c.from.ensures c.index.ensures in
    sym (letter-read n mail run.entries c.args.i c.args.j (c.args.k - 1) lists kept c.requires.sender c.requires.receiver read
    ∙ ap (λ (o : Option Place). option_and_then (letter_at run.entries) o) (sym c.in-None.ensures))

pub returns-in-Some : goal.returns-in-Some
returns-in-Some c =
    let run = c.args.run.now in
    let n = run.config.clients in
    let mail = c.self.inside.letters.items in
    let kept : IsMailOf n mail run.entries =
    subst (λ (m : List (List (List Place))). IsMailOf n m run.entries) (sym c.self.view_is) c.requires.mail in
    let lists = c.index.result.now in
    let read : lists ≡ get_or mail (c.args.i - 1) lists =
    subst (λ (k : ℕ). lists ≡ get_or mail (k - 1) lists) c.from.ensures c.index.ensures in
    c.letter_at.ensures
    ∙ sym (letter-read n mail run.entries c.args.i c.args.j (c.args.k - 1) lists kept c.requires.sender c.requires.receiver read
    ∙ ap (λ (o : Option Place). option_and_then (letter_at run.entries) o) (sym c.in-Some.ensures))
