use Rattle.std.proofs.Common.{◌≡◌, ℕ, ◌-◌, List, sym, subst, ap, ◌∙◌}
use Rattle.std.specs.Prelude.{slice_set}
use Rattle.faust_types.specs.declared.message.Known.{Known}
use Rattle.faust_agent.specs.Table.{own_tag}
use Rattle.faust_agent.specs.InRange.{HoldsEach}
use Rattle.faust_agent.specs.declared.client.Client.{Client}
use Rattle.faust_agent.proofs.Kept.{announced-own, holds-set}
use Rattle.faust_agent.proofs.client.Client.complete.Goals as goal

pub hear_read-requires-clause-versions : goal.hear_read-requires-clause-versions
hear_read-requires-clause-versions c =
    let id = c.args.id.now in
    let st = c.args.self.now in
    let next = c.args.done.judged.next in
    let judged = c.requires.done.judged_in_range in
    let client = c.clients-n.ensures.client in
    let with_tag : List ℕ → Known = λ (tag : List ℕ). record { maker = id.me; version = next; tag = tag } in
    let known : Known = with_tag (own_tag id.config id.me next) in
    let kept : HoldsEach id.config.clients (slice_set st.heard (id.me - 1) known) =
    holds-set id.config.clients st.heard id.me known c.requires.kept.versions client
    (announced-own id.config id.me next client judged.next_in_range judged.next_made) in
    let before : c.commit.new.self.heard ≡ st.heard = ap (λ (now : Client). now.heard) c.in_ok-to_server.ensures.0 in
    let moved : c.move_on.new.self.heard ≡ slice_set c.commit.new.self.heard (id.me - 1) (with_tag c.in_ok-tag.tag) =
    ap (λ (now : Client). now.heard) c.move_on.ensures in
    let same : c.move_on.new.self.heard ≡ slice_set st.heard (id.me - 1) known =
    moved ∙ ap (λ (heard : List Known). slice_set heard (id.me - 1) (with_tag c.in_ok-tag.tag)) before
    ∙ ap (λ (tag : List ℕ). slice_set st.heard (id.me - 1) (with_tag tag)) c.in_ok-tag.ensures in
    subst (λ (n : ℕ). HoldsEach n c.move_on.new.self.heard) (sym c.clients-n.ensures.count)
    (subst (HoldsEach id.config.clients) (sym same) kept)
