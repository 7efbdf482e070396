use Rattle.std.proofs.Common.{◌≡◌, ◌+◌, ◌∷◌, ◌++◌, [], length, sym, ◌∙◌, ap, rules}
use Rattle.std.proofs.lemmas.List.{length-set}
use Rattle.std.specs.Prelude.{slice_set}
use Rattle.faust_agent.specs.declared.ticking.Probing.{Probing}
use Rattle.faust_agent.proofs.Rounds.{probing-same, probing-step}
use Rattle.faust_agent.proofs.client.Client.probing.Goals as goal
use Rattle.faust_agent.proofs.client.Client.probing.Goals.{then-is_probe_due+in_ok-push+in_ok-post+in_ok-push-2, else-is_probe_due}

pub loop-before-preserved : goal.loop-before-preserved
loop-before-preserved c =
    let id = c.args.id.now in
    let st = c.args.self.now in
    let m = c.args.moment in
    let k = c.loop-before.before in
    let before : Probing = record { probed = c.loop-before.probed; posts = c.loop-before.posts; news = c.loop-before.news } in
    let after : Probing = record { probed = c.if-is_probe_due.probed; posts = c.if-is_probe_due.posts; news = c.if-is_probe_due.news } in
    elim c.if-is_probe_due.branch [
      | then-is_probe_due+in_ok-push+in_ok-post+in_ok-push-2 w ↦
          let probed : after.probed ≡ before.probed ++ (k + 1) ∷ [] = w.probed-is ∙ w.in_ok-push.ensures.ok in
          let posts : after.posts ≡ before.posts ++ w.in_ok-post.field-0 ∷ [] = w.posts-is ∙ w.in_ok-push-2.ensures.ok in
          let news : after.news ≡ slice_set before.news k m = search rules in (
            ap length news ∙ length-set before.news k m ∙ c.loop-before.invariant.0,
            probing-step id.config id.me st m k before after w.in_ok-post.field-0 c.loop-before.invariant.1
                (sym w.if-is_probe_due.ensures) w.in_ok-post.ensures probed posts news,
          )
      | else-is_probe_due w ↦
          let more = probing-same id.config id.me st m k before c.loop-before.invariant.1 (sym w.if-is_probe_due.ensures) in (
            ap length w.news-is ∙ c.loop-before.invariant.0,
            record { probed = w.probed-is ∙ more.probed; posts = w.posts-is ∙ more.posts; news = w.news-is ∙ more.news },
          )
    ]
