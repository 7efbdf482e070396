-- The last entry of a run: its client and what it sent to other clients are in range, and its messages are noted.
use Rattle.std.proofs.Common.{◌≡◌, ◌+◌, ◌-◌, ℕ, List, [], ◌∷◌, ◌++◌, length, get_or, Some, refl, sym, ap, ◌∙◌, subst, arith, length-append}
use Rattle.std.specs.Prelude.{slice_get, slice_set}
use Rattle.std.specs.List.{AllByRecursion}
use Rattle.std.proofs.lemmas.Option.{same_Some}
use Rattle.faust_types.specs.Clients.{IsClient}
use Rattle.faust_types.specs.declared.config.Config.{Config}
use Rattle.faust_types.specs.declared.outcome.Post.{Post}
use Rattle.faust_record.specs.Runs.{AreOfClients, IsRun, Run, entries_of}
use Rattle.faust_record.specs.declared.entry.Entry.{Entry}
use Rattle.faust_record.proofs.Own.{entries_of-own}
use Rattle.faust_sim.specs.Kept.{AreToClients, IsMailBefore, IsMailOf, lists_of, noted_from}
use Rattle.faust_sim.specs.Sent.{IsGivenBy, IsPostedBy}
use Rattle.faust_sim.specs.declared.letters.Place.{Place}
use Rattle.faust_sim.proofs.Places.{last-item, lists-read, mail-noted}
use Rattle.faust_sim.proofs.Sendings.{run_given}

clients-last : (n : ℕ) (front : List Entry) (e : Entry) → AreOfClients n (front ++ e ∷ []) → IsClient n e.client
clients-last n [] e clients = clients.0
clients-last n (x ∷ front) e clients = clients-last n front e clients.1

all-last : {X : Type 0} (P : X → Type 0) (front : List X) (x : X) → AllByRecursion P (front ++ x ∷ []) → P x
all-last P [] x all = all.0
all-last P (y ∷ front) x all = all-last P front x all.1

posts-clients : (config : Config) (i : ℕ) (posts : List Post) → AllByRecursion (IsPostedBy config i) posts
    → AreToClients config.clients posts
posts-clients config i [] all = tt
posts-clients config i (post ∷ posts) all =
    let same : post.to ≡ all.0.message.to = ap (λ (p : Post). p.to) all.0.spelled in
    (subst (IsClient config.clients) (sym same) all.0.in_range.to_in_range, posts-clients config i posts all.1)

last-posts : (config : Config) (front : List Entry) (e : Entry) → IsRun config (front ++ e ∷ [])
    → AreToClients config.clients e.outcome.to_peers
last-posts config front e run =
    let client : IsClient config.clients e.client = clients-last config.clients front e run.of_clients in
    let own : AllByRecursion (IsGivenBy config e.client) (entries_of e.client front ++ e ∷ []) =
    subst (AllByRecursion (IsGivenBy config e.client)) (entries_of-own e.client front e refl)
    (run_given config (front ++ e ∷ []) e.client run client) in
    posts-clients config e.client e.outcome.to_peers (all-last (IsGivenBy config e.client) (entries_of e.client front) e own).to_peers

-- an entry is the last one of a run
pub record IsLast (run : Run) (mail : List (List (List Place))) (len : ℕ) (e : Entry) : Type 0 where
  pub front : List Entry
  pub whole : run.entries ≡ front ++ e ∷ []
  pub of_front : IsMailOf run.config.clients mail front
  pub number : len - 1 ≡ length front
  pub client : IsClient run.config.clients e.client
  pub posts : AreToClients run.config.clients e.outcome.to_peers

pub last-of : (run : Run) (mail : List (List (List Place))) (len : ℕ) (e : Entry)
    → IsMailBefore run.config.clients mail run.entries → len ≡ length run.entries → IsRun run.config run.entries
    → Some e ≡ slice_get run.entries (len - 1) → IsLast run mail len e
last-of run mail len e before counted is_run found =
    let n = run.config.clients in
    let last : slice_get run.entries (len - 1) ≡ Some before.last =
    ap (λ (k : ℕ). slice_get run.entries (k - 1)) counted
    ∙ ap (λ (l : List Entry). slice_get l (length l - 1)) before.whole ∙ last-item before.front before.last in
    let same : before.last ≡ e = sym (same_Some e before.last (found ∙ last)) in
    let whole : run.entries ≡ before.front ++ e ∷ [] =
    before.whole ∙ ap (λ (x : Entry). before.front ++ x ∷ []) same in
    let here : IsRun run.config (before.front ++ e ∷ []) = subst (IsRun run.config) whole is_run in
    let long : len ≡ length (before.front ++ e ∷ []) = counted ∙ ap (λ (l : List Entry). length l) whole in
    record {
      front = before.front;
      whole = whole;
      of_front = before.of_front;
      number = omega (arith, long, length-append before.front (e ∷ []));
      client = clients-last n before.front e here.of_clients;
      posts = last-posts run.config before.front e here;
    }

pub noted-last : (run : Run) (mail : List (List (List Place))) (len : ℕ) (e : Entry) (lists now : List (List Place))
    → IsLast run mail len e → lists ≡ get_or mail (e.client - 1) lists → now ≡ noted_from lists (len - 1) 0 e.outcome.to_peers
    → IsMailOf run.config.clients (slice_set mail (e.client - 1) now) run.entries
noted-last run mail len e lists now last read noted =
    let n = run.config.clients in
    let here : lists ≡ lists_of mail e.client = lists-read n mail last.front e.client lists last.of_front last.client read in
    let is : now ≡ noted_from (lists_of mail e.client) (length last.front) 0 e.outcome.to_peers =
    noted ∙ ap (λ (k : ℕ). noted_from lists k 0 e.outcome.to_peers) last.number
    ∙ ap (λ (l : List (List Place)). noted_from l (length last.front) 0 e.outcome.to_peers) here in
    subst (IsMailOf n (slice_set mail (e.client - 1) now)) (sym last.whole)
    (mail-noted n mail last.front e now last.of_front last.client last.posts is)
