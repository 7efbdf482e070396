use Rattle.std.proofs.Common.{◌≡◌, ◌-◌, ◌<◌, ℕ, [], length, None, Some, slice_set, sym, ap, ◌∙◌, arith}
use Rattle.std.proofs.lemmas.List.{get_or_read}
use Rattle.faust_record.specs.Made.{made_behind}
use Rattle.faust_audit.specs.Watching.{no_watched, watched_in}
use Rattle.faust_audit.proofs.Along.{step-forged, step-next}
use Rattle.faust_audit.proofs.pass.Pass.step.Goals as goal

pub returns-in-Some : goal.returns-in-Some
returns-in-Some c = λ before rest run at.
    step-forged c.args.config.now before c.args.entry.now c.args.key.now c.in_ok-checked.checked (Some c.in-Some.body) c.requires.key
    c.in_ok-checked.ensures (sym c.in-Some.is ∙ c.in_ok-body.ensures (made_behind c.args.config.now [] before) at.made)

pub returns : goal.returns
returns c = λ before rest run at.
    let config = c.args.config.now in
    let e = c.args.entry.now in
    let items = c.args.self.now.watched.items in
    let watched = c.index_mut-watched.result.now in
    let none : c.in_ok-body.field-0 ≡ None = grind (arith, c.in_default.not-Some) in
    let within : c.from.result - 1 < length items =
    omega (arith, c.requires.counted, c.requires.client.from_one, c.requires.client.to_n, c.from.ensures) in
    let watched_is : watched ≡ watched_in items e.client =
    get_or_read items (c.from.result - 1) watched within c.index_mut-watched.ensures.value no_watched
    ∙ ap (watched_in items) c.from.ensures in (
      step-forged config before e c.args.key.now c.in_ok-checked.checked None c.requires.key c.in_ok-checked.ensures
          (sym none ∙ c.in_ok-body.ensures (made_behind config [] before) at.made),
      step-next config before rest e c.args.self.now _ watched c.note.new.watched c.in_ok-reply.reply c.args.key.now run at watched_is
          c.in_ok-reply.ensures.value c.requires.key c.in_ok-note.ensures.watched c.in_ok-note.ensures.made c.in_ok-note.ensures.inputs
          (ap (λ (k : ℕ). slice_set items (k - 1) c.note.new.watched) c.from.ensures),
    )
