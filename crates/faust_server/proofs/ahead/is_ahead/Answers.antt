use Rattle.std.proofs.Common.{◌≡◌, ◌↔◌, Bool, not, IsTrue, sym, subst, rules}
use Rattle.faust_server.specs.Ahead.{IsAhead, is_ahead}
use Rattle.faust_server.proofs.Ordering.{is_ahead-means}
use Rattle.faust_server.proofs.ahead.is_ahead.Goals as goal

pub returns-then-covers-clause-meaning : goal.returns-then-covers-clause-meaning
returns-then-covers-clause-meaning c =
    let v = c.args.v.now.timestamps in
    let w = c.args.w.now.timestamps in
    let test : is_ahead v w ≡ not c.covers-then-covers.result = sym (search rules) in
    subst (λ (b : Bool). (IsTrue b) ↔ IsAhead v w) test (is_ahead-means v w c.requires)

pub returns-else-covers-clause-meaning : goal.returns-else-covers-clause-meaning
returns-else-covers-clause-meaning c =
    let v = c.args.v.now.timestamps in
    let w = c.args.w.now.timestamps in
    let test : is_ahead v w ≡ c.covers.result = sym (search rules) in
    subst (λ (b : Bool). (IsTrue b) ↔ IsAhead v w) test (is_ahead-means v w c.requires)
