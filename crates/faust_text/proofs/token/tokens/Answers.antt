use Rattle.std.proofs.Common.{◌+◌, ◌<◌, eqb, length, get_or, ap, sym, ◌∙◌, arith, map}
use Rattle.std.proofs.lemmas.Bool.{cond-true, cond-false, eq-eqb, ne_eqb}
use Rattle.faust_text.specs.Lines.{text_in}
use Rattle.faust_text.specs.Tokens.{token_len}
use Rattle.faust_text.proofs.TokenLaws.{turn-last, turn-more, texts-places}
use Rattle.faust_text.proofs.token.tokens.Goals as goal
use Rattle.faust_text.proofs.token.tokens.Goals.{then-line-end-eq32, else-line-end-eq32}

pub returns-then-end-line-clause-places : goal.returns-then-end-line-clause-places
returns-then-end-line-clause-places c =
    turn-last c.args.line.now c.loop-tokens.from c.token_len.result c.loop-tokens.tokens c.push.new.self (c.token_len.ensures.count
    ∙ ap token_len c.split_at.ensures.back) c.loop-tokens.invariant.within c.if-end-line.true c.loop-tokens.invariant.so_far
    c.in_ok-push.ensures.ok

pub returns-then-end-line-clause-texts : goal.returns-then-end-line-clause-texts
returns-then-end-line-clause-texts c =
    ap (map (text_in c.args.line.now)) (turn-last c.args.line.now c.loop-tokens.from c.token_len.result c.loop-tokens.tokens
    c.push.new.self (c.token_len.ensures.count
    ∙ ap token_len c.split_at.ensures.back) c.loop-tokens.invariant.within c.if-end-line.true c.loop-tokens.invariant.so_far
    c.in_ok-push.ensures.ok)
    ∙ texts-places c.args.line.now

pub loop-tokens-preserved : goal.loop-tokens-preserved
loop-tokens-preserved c =
    let goes : c.loop-tokens.from + c.token_len.result < length c.args.line.now = omega arith in
    record {
      within = elim c.if-line-end-eq32.branch [ then-line-end-eq32 w ↦ omega arith | else-line-end-eq32 w ↦ omega arith ];
      so_far = turn-more c.args.line.now c.loop-tokens.from c.token_len.result c.if-line-end-eq32.from c.loop-tokens.tokens
          c.push.new.self (c.token_len.ensures.count ∙ ap token_len c.split_at.ensures.back) c.loop-tokens.invariant.within goes
          (elim c.if-line-end-eq32.branch [
            | then-line-end-eq32 w ↦ w.from-is
                ∙ sym (cond-true (eqb (get_or c.args.line.now (c.loop-tokens.from + c.token_len.result) 0) 32) _ _
                (eq-eqb _ _ w.if-line-end-eq32.true))
            | else-line-end-eq32 w ↦ w.from-is
                ∙ sym (cond-false (eqb (get_or c.args.line.now (c.loop-tokens.from + c.token_len.result) 0) 32) _ _
                (ne_eqb _ _ w.if-line-end-eq32.false))
          ])
          c.loop-tokens.invariant.so_far c.in_ok-push.ensures.ok;
    }
