-- The bodies that clients make: those of what they send, and of what they complete. The premise that no tag is forged
-- is stated in them.
use Rattle.std.specs.Prelude.{◌+◌, ℕ, List, [], ◌∷◌, ◌++◌, if◌then◌else◌, map}
use Rattle.faust_types.specs.Versions.{Vector}
use Rattle.faust_types.specs.declared.config.Config.{Config}
use Rattle.faust_tags.specs.Bodies.{commit_body, data_body, peer_body, proof_body, submit_body}
use Rattle.faust_agent.specs.State.{completed_count}
use Rattle.faust_agent.specs.Table.{dummy_of, is_dummy_due, last_after, own_digest, posts_of}
use Rattle.faust_agent.specs.declared.client.Client.{Client}
use Rattle.faust_agent.specs.declared.deed.Order.{Order}
use Rattle.faust_agent.specs.declared.deed.Deed.{Deed}
use Rattle.faust_agent.specs.declared.deed.Deed.TheVariants as deeds
use Rattle.faust_record.specs.Entries.{deed_at, replay}
use Rattle.faust_record.specs.Runs.{entries_of}
use Rattle.faust_record.specs.declared.entry.Entry.{Entry}

-- A SUBMIT makes its submit body and its data body, over the digest of the value that its client submitted last.
abbrev pub bodies_of_begin : ℕ → Client → Order → List (List ℕ)
bodies_of_begin me st order =
    let t = completed_count me st + 1 in
    submit_body me order.kind order.register t ∷ data_body me t (last_after st.last order.value) ∷ []

-- A completion makes the commit body and the proof body of the new version, whether COMMIT is sent or held.
abbrev pub bodies_of_completion : ℕ → Vector → List (List ℕ)
bodies_of_completion me next = commit_body me next ∷ proof_body me (own_digest me next) ∷ []

-- What a deed of client me makes: a message to another client makes its own body.
abbrev pub bodies_of_posts : Config → ℕ → Client → Deed → List (List ℕ)
bodies_of_posts config me st deed = map peer_body (posts_of config me st deed)

abbrev pub bodies_of : Config → ℕ → Client → Deed → List (List ℕ)
bodies_of config me st deeds.Ignores = []
bodies_of config me st (deeds.Begins order) = bodies_of_begin me st order
bodies_of config me st (deeds.Completes done) = bodies_of_completion me done.judged.next
bodies_of config me st (deeds.Breaks notice) = bodies_of_posts config me st (deeds.Breaks notice)
bodies_of config me st (deeds.Answers j) = bodies_of_posts config me st (deeds.Answers j)
bodies_of config me st (deeds.Hears j known) = []
bodies_of config me st (deeds.Ticks moment) =
    bodies_of_posts config me st (deeds.Ticks moment)
    ++ (if is_dummy_due config me st moment then bodies_of_begin me st (dummy_of st) else [])

-- What an entry behind others makes: its client holds what its entries among them leave.
unfoldable pub made_bodies : Config → List Entry → Entry → List (List ℕ)
made_bodies config before entry =
    let st = replay config entry.client (entries_of entry.client before) in
    bodies_of config entry.client st (deed_at config entry.client st entry.input)

-- What entries behind others make.
abbrev pub made_behind : Config → List Entry → List Entry → List (List ℕ)
made_behind config before [] = []
made_behind config before (entry ∷ rest) =
    made_bodies config before entry ++ made_behind config (before ++ entry ∷ []) rest
