use Rattle.std.proofs.Common.{◌≡◌, rules, arith, drop, length, ◌∙◌}
use Rattle.std.proofs.lemmas.List.{length-take-le}
use Rattle.faust_link.specs.Frames.{IsFrameLength}
use Rattle.faust_link.proofs.Framing.{frame_found}
use Rattle.faust_link.proofs.finding.next_frame.Goals as goal

pub returns-clause-finds : goal.returns-clause-finds
returns-clause-finds g c =
    let first = c.in_ok-given.ensures in
    let second = c.in_ok-given-2.ensures in
    let len = c.length_of-len.result in
    let good : IsFrameLength len = c.is_frame_len.ensures.0 (search rules) in
    let few = good.few in
    let fits : length c.read_full-2.new.buffer ≡ len =
    c.read_full-2.auto.buffer ∙ length-take-le len c.args.buffer.now (omega (arith, few, c.requires)) in
    frame_found _ _ _ c.read_full.new.buffer c.read_full-2.new.buffer (drop len c.args.buffer.now)
    c.in_ok-given.given c.in_ok-given-2.given len
    (omega (arith, first.within, c.if-given-lt4.false, c.read_full.auto.buffer)) first.bytes
    (omega (arith, second.within, c.if-given-len.false, fits)) fits
    second.bytes c.length_of-len.ensures.spelled good
