use Rattle.std.proofs.Common.{◌≡◌, ℕ, ◌+◌, ◌-◌, ◌≤◌, List, Option, Some, None, IfSome, length, slice_get, rules, ap, sym, subst, ◌∙◌}
use Rattle.std.proofs.lemmas.Result.{err_from_is_err_and}
use Rattle.faust_types.specs.declared.message.Message.{Message}
use Rattle.faust_wire.specs.Grammar.{spelling}
use Rattle.faust_liar.specs.InRange.{IsAnswer}
use Rattle.faust_liar.proofs.Spelled.{answer-fits, answer-rides}
use Rattle.faust_liar.proofs.Sessions.{handed-at, waiting-at, item-there, item-absent, text-due, some-due, none-due}
use Rattle.faust_liar.proofs.session.Session.again.Goals as goal

pub returns-in-Some-get : goal.returns-in-Some-get
returns-in-Some-get c =
    let number : c.args.k ≡ c.in-Some.place + 1 = search rules in
    let found : slice_get c.self.inside.handed c.in-Some.place ≡ Some c.in-Some-get.reply.now =
    ap (λ (xs : List Message). slice_get xs c.in-Some.place) (sym c.as_slice.ensures)
    ∙ item-there c.as_slice.result.now c.in-Some.place c.in-Some-get.reply c.in-Some-get.ensures.lookup in
    text-due _ (spelling c.args.wire) c.in-Some-get.reply.now _ (
    handed-at c.self.inside.route c.self.inside.arrived c.self.inside.handed c.self.inside.waiting.items c.args.self.now c.args.k
    c.in-Some.place c.in-Some-get.reply.now c.self.view_is number found
    ) c.in_ok-bytes.ensures

pub encode-requires-clause-in_range : goal.encode-requires-clause-in_range
encode-requires-clause-in_range c =
    let number : c.args.k ≡ c.in-Some.place + 1 = search rules in
    let past : length c.self.inside.handed ≤ c.in-Some.place = search rules in
    let found : slice_get c.self.inside.waiting.items (c.in-Some.place - length c.self.inside.handed) ≡ Some c.in-Some-get-2.reply.now =
    ap (λ (len : ℕ). slice_get c.self.inside.waiting.items (c.in-Some.place - len)) (sym c.len.ensures)
    ∙ item-there c.self.inside.waiting.items (c.in-Some.place - c.len.result) c.in-Some-get-2.reply c.in-Some-get-2.ensures.item in
    let is = waiting-at c.self.inside.route c.self.inside.arrived c.self.inside.handed c.self.inside.waiting.items c.args.self.now c.args.k
    c.in-Some.place (Some c.in-Some-get-2.reply.now) c.self.view_is number past found in
    answer-fits c.args.n c.in-Some-get-2.reply.now (subst (λ (o : Option Message). IfSome o (IsAnswer c.args.n)) is c.requires.in_range)

pub encode-requires-clause-rides : goal.encode-requires-clause-rides
encode-requires-clause-rides c =
    let number : c.args.k ≡ c.in-Some.place + 1 = search rules in
    let past : length c.self.inside.handed ≤ c.in-Some.place = search rules in
    let found : slice_get c.self.inside.waiting.items (c.in-Some.place - length c.self.inside.handed) ≡ Some c.in-Some-get-2.reply.now =
    ap (λ (len : ℕ). slice_get c.self.inside.waiting.items (c.in-Some.place - len)) (sym c.len.ensures)
    ∙ item-there c.self.inside.waiting.items (c.in-Some.place - c.len.result) c.in-Some-get-2.reply c.in-Some-get-2.ensures.item in
    let is = waiting-at c.self.inside.route c.self.inside.arrived c.self.inside.handed c.self.inside.waiting.items c.args.self.now c.args.k
    c.in-Some.place (Some c.in-Some-get-2.reply.now) c.self.view_is number past found in
    answer-rides c.args.wire c.args.n c.in-Some-get-2.reply.now
    (subst (λ (o : Option Message). IfSome o (IsAnswer c.args.n)) is c.requires.in_range)

pub returns-in_err-encode-in-Some-get-2 : goal.returns-in_err-encode-in-Some-get-2
returns-in_err-encode-in-Some-get-2 c =
    let number : c.args.k ≡ c.in-Some.place + 1 = search rules in
    let past : length c.self.inside.handed ≤ c.in-Some.place = search rules in
    let found : slice_get c.self.inside.waiting.items (c.in-Some.place - length c.self.inside.handed) ≡ Some c.in-Some-get-2.reply.now =
    ap (λ (len : ℕ). slice_get c.self.inside.waiting.items (c.in-Some.place - len)) (sym c.len.ensures)
    ∙ item-there c.self.inside.waiting.items (c.in-Some.place - c.len.result) c.in-Some-get-2.reply c.in-Some-get-2.ensures.item in
    let there = some-due _ (spelling c.args.wire) c.in-Some-get-2.reply.now (
    waiting-at c.self.inside.route c.self.inside.arrived c.self.inside.handed c.self.inside.waiting.items c.args.self.now c.args.k
    c.in-Some.place (Some c.in-Some-get-2.reply.now) c.self.view_is number past found
    ) in
    let p = err_from_is_err_and c.from_residual-in_err-encode-in-Some-get-2.result
    c.from_residual-in_err-encode-in-Some-get-2.ensures.1 in
    rw (p.1, p.2) there

pub returns-in_ok-encode-in-Some-get-2 : goal.returns-in_ok-encode-in-Some-get-2
returns-in_ok-encode-in-Some-get-2 c =
    let number : c.args.k ≡ c.in-Some.place + 1 = search rules in
    let past : length c.self.inside.handed ≤ c.in-Some.place = search rules in
    let found : slice_get c.self.inside.waiting.items (c.in-Some.place - length c.self.inside.handed) ≡ Some c.in-Some-get-2.reply.now =
    ap (λ (len : ℕ). slice_get c.self.inside.waiting.items (c.in-Some.place - len)) (sym c.len.ensures)
    ∙ item-there c.self.inside.waiting.items (c.in-Some.place - c.len.result) c.in-Some-get-2.reply c.in-Some-get-2.ensures.item in
    text-due _ (spelling c.args.wire) c.in-Some-get-2.reply.now _ (
    waiting-at c.self.inside.route c.self.inside.arrived c.self.inside.handed c.self.inside.waiting.items c.args.self.now c.args.k
    c.in-Some.place (Some c.in-Some-get-2.reply.now) c.self.view_is number past found
    ) c.in_ok-encode-in-Some-get-2.ensures

pub returns-in-None : goal.returns-in-None
returns-in-None c =
    let number : c.args.k ≡ c.in-Some.place + 1 = search rules in
    let past : length c.self.inside.handed ≤ c.in-Some.place = search rules in
    let found : slice_get c.self.inside.waiting.items (c.in-Some.place - length c.self.inside.handed) ≡ None =
    ap (λ (len : ℕ). slice_get c.self.inside.waiting.items (c.in-Some.place - len)) (sym c.len.ensures)
    ∙ item-absent c.self.inside.waiting.items (c.in-Some.place - c.len.result) c.in-None.ensures.item in
    none-due _ (spelling c.args.wire) (
    waiting-at c.self.inside.route c.self.inside.arrived c.self.inside.handed c.self.inside.waiting.items c.args.self.now c.args.k
    c.in-Some.place None c.self.view_is number past found
    )
