use Rattle.std.proofs.Common.{◌+◌, ◌-◌, ◌++◌, take, drop, set, sym, ap, ◌∙◌, arith}
use Rattle.std.proofs.lemmas.List.{length-set, take_rest}
use Rattle.std.proofs.lemmas.Result.{IfOk-equal}
use Rattle.faust_text.proofs.NumberLaws.{digit_put, first_digit_put, room_left}
use Rattle.faust_text.proofs.print.put_number.Goals as goal

pub loop-rest-preserved : goal.loop-rest-preserved
loop-rest-preserved c =
    let l = c.loop-rest in
    let k = l.invariant in
    let room = room_left l.rest l.at c.loop-rest-test.true k.fits in
    record {
      sized = length-set l.digits _ _ ∙ k.sized;
      some = omega (arith, room.0);
      within = omega arith;
      fits = room.1;
      small = omega arith;
      so_far = digit_put l.digits l.at l.rest c.args.x k.some (omega arith) c.loop-rest-test.true k.small k.so_far;
    }

pub returns-clause-ok : goal.returns-clause-ok
returns-clause-ok c =
    let l = c.loop-rest in
    let k = l.invariant in
    let text = set l.digits (l.at - 1) (48 + l.rest) in
    let part = take_rest text (l.at - 1) in
    let digits = first_digit_put l.digits l.at l.rest c.args.x k.some (omega arith) c.loop-rest-test.false k.so_far in
    IfOk-equal c.append.result _ _ _ c.append.ensures.ok
    (ap (λ ds. c.args.out.now ++ ds) (ap (λ n. take (n - (l.at - 1)) (drop (l.at - 1) text))
    (sym (length-set l.digits (l.at - 1) (48 + l.rest) ∙ k.sized)) ∙ (part ∙ digits)))
