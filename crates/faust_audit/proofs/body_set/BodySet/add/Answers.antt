use Rattle.std.proofs.Common.{◌||◌, ℕ, Bool, List, sym, ap, ◌∙◌}
use Rattle.std.specs.Global.{Vec}
use Rattle.faust_hash.specs.Tag.{is_same}
use Rattle.faust_premises.specs.Premises.{is_among}
use Rattle.faust_audit.proofs.TableLaws.{among-one-more, one-key-more}
use Rattle.faust_audit.proofs.body_set.BodySet.add.Goals as goal

pub returns : goal.returns
returns c = λ made holds q.
    let bytes = λ (v : Vec ℕ). v.items in
    let key : Vec ℕ = c.in_ok-into_vec.field-0 in
    one-key-more bytes q c.args.self.now.bodies.keys c.insert.new.self.keys key c.in_ok-insert.field-0 c.in_ok-insert.ensures.added
    c.in_ok-insert.ensures.keys
    ∙ ap (λ (b : Bool). b || is_same key.items q) (holds q)
    ∙ ap (λ (l : List ℕ). is_among made q || is_same l q) c.in_ok-into_vec.ensures
    ∙ sym (among-one-more made c.args.body q)
