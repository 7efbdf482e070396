-- What clean runs promise of held versions and cuts.
use Rattle.std.proofs.Common.{◌≡◌, ℕ, Bool, true, false, cond, List, [], ◌∷◌, ◌++◌, Some, None, append_assoc, refl, sym, ap, ◌∙◌, subst, inl, inr}
use Rattle.std.proofs.Math.Path.{fun_ext}
use Rattle.std.proofs.lemmas.List.{append-nil}
use Rattle.faust_types.specs.Clients.{IsClient}
use Rattle.faust_types.specs.Versions.{Vector, is_comparable, timestamp_at}
use Rattle.faust_types.specs.declared.config.Config.{Config}
use Rattle.faust_types.specs.declared.message.Known.{Known}
use Rattle.faust_types.specs.declared.operation.OpName.{OpName}
use Rattle.faust_types.specs.declared.outcome.Outcome.{Outcome}
use Rattle.faust_hash.specs.Tag.{is_same}
use Rattle.faust_agent.specs.Table.{after, announced_by, cut_of}
use Rattle.faust_agent.specs.Outcomes.{outcome_of}
use Rattle.faust_agent.specs.declared.client.Client.{Client}
use Rattle.faust_lists.specs.Names.{Has}
use Rattle.faust_forks.specs.Books.{Done, find}
use Rattle.faust_lists.proofs.Tails.{along-sym}
use Rattle.faust_lists.proofs.Versions.{comparable-along}
use Rattle.faust_forks.specs.Pasts.{Past, first_past, history_at}
use Rattle.faust_forks.specs.Sources.{of_peer}
use Rattle.faust_forks.proofs.Booked.{booked-history}
use Rattle.faust_forks.proofs.Found.{found-once}
use Rattle.faust_names.specs.Cuts.{IsCovered, IsLinearization, IsRightCut, IsRightUpTo}
use Rattle.faust_names.specs.Histories.{History, named}
use Rattle.faust_names.specs.ForkViews as forked
use Rattle.faust_names.proofs.Cutting.{right-cut, right-linear}
use Rattle.faust_record.specs.Entries.{deed_at, outcome_at}
use Rattle.faust_record.specs.Runs.{IsRun}
use Rattle.faust_record.specs.declared.entry.Entry.{Entry}
use Rattle.faust_record.specs.declared.entry.Input.{Input}
use Rattle.faust_premises.specs.Premises.{IsClean, hashed_inputs}
use Rattle.faust_runs.specs.ForkViews.{reply_at, version_by, version_of, view_of}
use Rattle.faust_runs.specs.Histories.{history_read}
use Rattle.faust_runs.specs.Ledgers.{client_after, hashing, ledger_of, past_behind, past_by, past_with}
use Rattle.faust_runs.proofs.Claims.{IsDone, IsTold, done-of, run-told, told-chronicle, told-history, version-done}
use Rattle.faust_runs.proofs.Ledgers.{is-played}
use Rattle.faust_runs.proofs.Splits.{up-to}
use Rattle.faust_runs.proofs.Stepping.{IsPlayed, client-own, past-here, state-here}
use Rattle.faust_runs.proofs.Viewing.{view-same}
use Rattle.faust_held.specs.Cuts.{Announces}
use Rattle.faust_held.specs.Given.{IsBookedFor, IsSaidBy, by_message}
use Rattle.faust_held.specs.Held.{HoldsComparable, IsOfCompletion, SendsVersion, held_by}
use Rattle.faust_held.proofs.Covering.{cut-backed, given-agrees, own-along}
use Rattle.faust_held.proofs.Holding.{comparable-as}
use Rattle.faust_held.proofs.Posting.{message-made, post-said}
use Rattle.faust_held.proofs.Stepping.{run-kept, said-in_range}

-- the cut that a client has at any moment is right
pub moment-right : (config : Config) (entries front rest : List Entry) (i : ℕ) → IsRun config entries → IsClean config entries
    → entries ≡ front ++ rest → IsClient config.clients i
    → IsRightCut config.clients (history_read entries) (view_of config entries) i (cut_of config i (client_after config i front))
moment-right config entries front rest i run clean split of_i =
    let n = config.clients in
    let past : Past = ledger_of config entries in
    let cut = cut_of config i (client_after config i front) in
    let told = run-told config entries run clean in
    let there = up-to config entries front rest run clean split in
    let lists : forked.view_of past.started past.book ≡ view_of config entries =
    fun_ext (λ k. sym (view-same config entries past k told.reading told.views)) in
    subst (λ (g : History). IsRightCut n g (view_of config entries) i cut) (sym (told-history config entries past told))
    (subst (λ (f : ℕ → List OpName). IsRightCut n (forked.history_of past.started past.book) f i cut) lists
    (right-cut n past.started past.book i cut (told-chronicle config entries past told)
    (cut-backed config front entries (ledger_of config front) past i run.config_in_range.clients_count
    (run-kept config front there.run there.clean) (run-kept config entries run clean) there.later of_i)))

-- an entry that a record has, and what stands before and behind it
pub record IsPlaced (entries : List Entry) (entry : Entry) : Type 0 where
  pub front : List Entry
  pub rest : List Entry
  pub splits : entries ≡ front ++ entry ∷ rest

pub placed : (entries : List Entry) (entry : Entry) → Has entries entry → IsPlaced entries entry
placed [] entry has = absurd has
placed (first ∷ rest) entry (inl same) =
    record { front = []; rest = rest; splits = ap (λ (e : Entry). e ∷ rest) (sym same) }
placed (first ∷ rest) entry (inr has) =
    let there = placed rest entry has in
    record { front = first ∷ there.front; rest = there.rest; splits = ap (λ (l : List Entry). first ∷ l) there.splits }

-- a cut that is announced is the one that the client has then
announced-is : (test : Bool) (now cut : List ℕ) → cond test None (Some now) ≡ Some cut → now ≡ cut
announced-is true now cut is = absurd (cc)
announced-is false now cut is = cc

pub outcome-cut : (config : Config) (me : ℕ) (st : Client) (input : Input) (outcome : Outcome)
    → outcome ≡ outcome_at config me st input → outcome.cut ≡ announced_by config me st (deed_at config me st input)
unfolding outcome_at outcome_of
outcome-cut config me st input outcome is = ap (λ (o : Outcome). o.cut) is

pub announced-cut : (config : Config) (before : List Entry) (entry : Entry) (cut : List ℕ) → IsPlayed config before entry
    → entry.outcome.cut ≡ Some cut
    → cut_of config entry.client (client_after config entry.client (before ++ entry ∷ [])) ≡ cut
announced-cut config before entry cut played is =
    let me = entry.client in
    let st = client_after config me before in
    let deed = deed_at config me st entry.input in
    let moved : client_after config me (before ++ entry ∷ []) ≡ after config me st deed =
    client-own config before entry ∙ state-here config me st entry in
    ap (cut_of config me) moved
    ∙ announced-is (is_same (cut_of config me st) (cut_of config me (after config me st deed)))
    (cut_of config me (after config me st deed)) cut
    (sym (outcome-cut config me st entry.input entry.outcome played.step.outcome_is) ∙ is)

pub announced-right : (config : Config) (entries : List Entry) (i : ℕ) (cut : List ℕ) → IsRun config entries → IsClean config entries
    → Announces entries i cut → IsRightCut config.clients (history_read entries) (view_of config entries) i cut
announced-right config entries i cut run clean h =
    let entry = h.entry in
    let at = placed entries entry h.in_record in
    let played = is-played config entries at.front at.rest entry run clean at.splits in
    let split : entries ≡ (at.front ++ entry ∷ []) ++ at.rest = at.splits ∙ sym (append_assoc at.front (entry ∷ []) at.rest) in
    let there = moment-right config entries (at.front ++ entry ∷ []) at.rest entry.client run clean split played.client in
    subst (λ (k : ℕ). IsRightCut config.clients (history_read entries) (view_of config entries) k cut) h.of_client
    (subst (λ (c : List ℕ). IsRightCut config.clients (history_read entries) (view_of config entries) entry.client c)
    (announced-cut config at.front entry cut played h.announced) there)

pub each-moment-right : (config : Config) (front rest : List Entry) (i : ℕ) → IsRun config (front ++ rest)
    → IsClean config (front ++ rest) → IsClient config.clients i
    → IsRightCut config.clients (history_read (front ++ rest)) (view_of config (front ++ rest)) i
    (cut_of config i (client_after config i front))
each-moment-right config front rest i run clean of_i = moment-right config (front ++ rest) front rest i run clean refl of_i

-- the front of a cut that covers all is a linearization
pub run-linear : (config : Config) (entries : List Entry) (i t : ℕ) (cut : List ℕ) → IsRun config entries → IsClean config entries
    → (right : IsRightUpTo config.clients (history_read entries) (view_of config entries) i cut t)
    → ((k : ℕ) → IsClient config.clients k → IsCovered config.clients cut t k) → IsLinearization (history_read entries) right.front
run-linear config entries i t cut run clean =
    let n = config.clients in
    let past : Past = ledger_of config entries in
    let told = run-told config entries run clean in
    let lists : forked.view_of past.started past.book ≡ view_of config entries =
    fun_ext (λ k. sym (view-same config entries past k told.reading told.views)) in
    subst (λ (g : History). (right : IsRightUpTo n g (view_of config entries) i cut t)
    → ((k : ℕ) → IsClient n k → IsCovered n cut t k) → IsLinearization g right.front) (sym (told-history config entries past told))
    (subst (λ (f : ℕ → List OpName). (right : IsRightUpTo n (forked.history_of past.started past.book) f i cut t)
    → ((k : ℕ) → IsClient n k → IsCovered n cut t k) → IsLinearization (forked.history_of past.started past.book) right.front) lists
    (right-linear n past.started past.book i t cut (told-chronicle config entries past told)))

-- the versions that clients hold
done-version : (config : Config) (entries : List Entry) (past : Past) (a : OpName) → (h : IsDone config entries past a)
    → version_of config entries a ≡ Some h.done.version
done-version config entries past a h = ap version_by h.viewed ∙ ap (λ (v : Vector). Some v) h.alike.version

booked-completion : (config : Config) (entries : List Entry) (past : Past) (known : Known) → IsTold config entries past
    → IsBookedFor past.book known → IsOfCompletion config entries known
booked-completion config entries past known told (inl is) = inl is
booked-completion config entries past known told (inr came) =
    let a : OpName = named known.maker (timestamp_at known.version known.maker) in
    let is : IsDone config entries past a = done-of config entries past a came.done told came.found in
    let same : is.done ≡ came.done = found-once (find past.book a.client a.t) is.done came.done is.found came.found in
    inr (done-version config entries past a is ∙ ap (λ (v : Vector). Some v) (ap (λ (d : Done). d.version) same ∙ came.fits_it))

pub run-of_completion : (config : Config) (entries : List Entry) (i k : ℕ) → IsRun config entries → IsClean config entries
    → IsClient config.clients i → IsClient config.clients k → IsOfCompletion config entries (held_by config entries i k)
run-of_completion config entries i k run clean of_i of_k =
    booked-completion config entries (ledger_of config entries) (held_by config entries i k) (run-told config entries run clean)
    (((run-kept config entries run clean).held.held i of_i).booked k of_k)

pub run-comparable : (config : Config) (front rest : List Entry) (i : ℕ) → IsRun config (front ++ rest)
    → IsClean config (front ++ rest) → IsClient config.clients i → HoldsComparable config front i
run-comparable config front rest i run clean of_i =
    let there = up-to config (front ++ rest) front rest run clean refl in
    ((run-kept config front there.run there.clean).held.held i of_i).agree

-- the versions that a client gives away
pub run-completed : (config : Config) (entries : List Entry) (a b : OpName) (v x : Vector) → IsRun config entries
    → IsClean config entries → version_of config entries a ≡ Some v → version_of config entries b ≡ Some x → a.client ≡ b.client
    → is_comparable v x ≡ true
run-completed config entries a b v x run clean is_v is_x same =
    let n = config.clients in
    let past : Past = ledger_of config entries in
    let told = run-told config entries run clean in
    let of_a = version-done config entries past a v told is_v in
    let of_b = version-done config entries past b x told is_x in
    let ground = told.sound.ground in
    let there : find past.book b.client a.t ≡ Some of_a.is.done =
    subst (λ (k : ℕ). find past.book k a.t ≡ Some of_a.is.done) same of_a.is.found in
    let along = own-along n past b.client a.t b.t of_a.is.done of_b.is.done ground there of_b.is.found in
    comparable-as v x of_a.is.done.version of_b.is.done.version (sym of_a.version) (sym of_b.version)
    (comparable-along n of_a.is.done.version of_b.is.done.version of_a.is.done.fork of_b.is.done.fork
    (ground.sound a.client a.t of_a.is.done of_a.is.found).version (ground.sound b.client b.t of_b.is.done of_b.is.found).version along)

-- a message that is sent is in the ledger
past-append : (config : Config) (past : Past) (before xs ys : List Entry)
    → past_behind config past before (xs ++ ys) ≡ past_behind config (past_behind config past before xs) (before ++ xs) ys
past-append config past before [] ys = ap (λ (l : List Entry). past_behind config past l ys) (sym (append-nil before))
past-append config past before (x ∷ xs) ys =
    past-append config (past_with config past before x) (before ++ x ∷ []) xs ys
    ∙ ap (λ (l : List Entry). past_behind config (past_behind config (past_with config past before x) (before ++ x ∷ []) xs) l ys)
    (append_assoc before (x ∷ []) xs)

sent-kept : (config : Config) (entries front rest : List Entry) (entry : Entry) (known : Known) → IsRun config entries
    → IsClean config entries → entries ≡ front ++ entry ∷ rest → SendsVersion config front entry known
    → IsSaidBy (ledger_of config entries).made entry.client known
sent-kept config entries front rest entry known run clean split h =
    let count = run.config_in_range.clients_count in
    let me = entry.client in
    let st = client_after config me front in
    let through : List Entry = front ++ entry ∷ [] in
    let played = is-played config entries front rest entry run clean split in
    let before = up-to config entries front (entry ∷ rest) run clean split in
    let behind = up-to config entries through rest run clean (split ∙ sym (append_assoc front (entry ∷ []) rest)) in
    let past : Past = ledger_of config front in
    let more : Past = hashing past (hashed_inputs config front entry) in
    let deed = deed_at config me st entry.input in
    let has : Has (past_by config more me st (reply_at config entry.input) deed).made (of_peer h.message) =
    message-made config more me st (reply_at config entry.input) deed h.message h.is_sent in
    let here : Has (past_with config past front entry).made (of_peer h.message) =
    subst (λ (p : Past). Has p.made (of_peer h.message)) (sym (past-here config past front entry)) has in
    let there : Has (ledger_of config through).made (of_peer h.message) =
    subst (λ (p : Past). Has p.made (of_peer h.message)) (sym (past-append config first_past [] front (entry ∷ []))) here in
    let said = post-said config me st deed h.message known count h.is_sent h.says in
    record {
      message = h.message;
      in_made = behind.later.made_kept (of_peer h.message) there;
      from_k = said.from_me;
      says = h.says;
    }

pub run-sent : (config : Config) (front rest : List Entry) (entry : Entry) (known : Known) (a : OpName) (v : Vector)
    → IsRun config (front ++ (entry ∷ rest)) → IsClean config (front ++ (entry ∷ rest)) → SendsVersion config front entry known
    → version_of config (front ++ (entry ∷ rest)) a ≡ Some v → a.client ≡ entry.client → is_comparable known.version v ≡ true
run-sent config front rest entry known a v run clean sends is own =
    let n = config.clients in
    let entries : List Entry = front ++ (entry ∷ rest) in
    let past : Past = ledger_of config entries in
    let told = run-told config entries run clean in
    let kept = run-kept config entries run clean in
    let ground = kept.sound.ground in
    let said = sent-kept config entries front rest entry known run clean refl sends in
    let played = is-played config entries front rest entry run clean refl in
    let of_a = version-done config entries past a v told is in
    let done : Done = of_a.is.done in
    let there : find past.book entry.client a.t ≡ Some done = subst (λ (k : ℕ). find past.book k a.t ≡ Some done) own of_a.is.found in
    let along = given-agrees config entries past entry.client a.t known done run.config_in_range.clients_count kept played.client
    (by_message said) there in
    let range = (said-in_range n past.made said.message known ground.sources said.in_made said.says).known_by.version_in_range in
    let booked = (kept.held.said said.message known said.in_made said.says).booked in
    let w : List ℕ = history_at past.book known.maker known.version in
    comparable-as known.version v known.version done.version refl (sym of_a.version)
    (comparable-along n known.version done.version w done.fork (booked-history n past known.maker known.version ground range booked).version
    (ground.sound a.client a.t done of_a.is.found).version (along-sym done.fork w along))
