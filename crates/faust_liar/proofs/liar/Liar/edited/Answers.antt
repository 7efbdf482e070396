use Rattle.std.proofs.Common.{subst}
use Rattle.std.specs.Option.{option_copied}
use Rattle.faust_types.specs.declared.message.Message.{Message}
use Rattle.faust_liar.specs.InRange.{IsAnswer}
use Rattle.faust_liar.specs.Lies.{session_count}
use Rattle.faust_liar.proofs.Calls.{next-range, next-there}
use Rattle.faust_liar.proofs.EditsInRange.{lie-range}
use Rattle.faust_liar.proofs.liar.Liar.edited.Goals as goal

pub kept-requires : goal.kept-requires
kept-requires c =
    next-range _ c.args.self.now c.self.view_is c.self.invariant c.args.i c.from.result c.requires.client c.from.ensures
    c.index.result.now c.index.ensures c.in-Some.next.now c.in-Some.ensures

pub spelled-requires : goal.spelled-requires
spelled-requires c =
    let reply = next-range _ c.args.self.now c.self.view_is c.self.invariant c.args.i c.from.result c.requires.client c.from.ensures
    c.index.result.now c.index.ensures c.in-Some.next.now c.in-Some.ensures in
    lie-range (session_count c.args.self.now) (option_copied c.args.key) c.args.edit.now c.in-Reply.reply c.in_ok-lied.lied
    (subst (λ (m : Message). IsAnswer (session_count c.args.self.now) m) c.in-Reply.is reply) c.requires.edit c.in_ok-lied.ensures

pub take_one-requires-clause-next : goal.take_one-requires-clause-next
take_one-requires-clause-next c =
    next-there _ c.args.self.now c.self.view_is c.self.invariant c.args.i c.from.result c.requires.client c.from.ensures
    c.index.result.now c.index.ensures c.in-Some.next.now c.in_ok-kept.kept c.in-Some.ensures c.in_ok-kept.ensures
