-- What a deed leads to: the ledger after it, and the client after it.
use Rattle.std.proofs.Common.{◌≡◌, ℕ, suc, List, [], ◌∷◌, map, refl, arith}
use Rattle.std.specs.List.{AllByRecursion}
use Rattle.faust_types.specs.Clients.{IsClient, IsClientCount}
use Rattle.faust_types.specs.Ranges.{IsPeerMessageFor}
use Rattle.faust_types.specs.declared.config.Config.{Config}
use Rattle.faust_types.specs.declared.message.PeerMessage.{PeerMessage}
use Rattle.faust_agent.specs.InRange.{IsClientOf}
use Rattle.faust_agent.specs.Tells.{IsEventFor}
use Rattle.faust_agent.specs.declared.client.Client.{Client}
use Rattle.faust_lists.specs.Names.{Has}
use Rattle.faust_forks.specs.Books.{find, find_begun}
use Rattle.faust_forks.specs.Sources.{of_peer}
use Rattle.faust_forks.specs.Pairs.{AreMade}
use Rattle.faust_forks.specs.Pasts.{IsLater, Past}
use Rattle.faust_forks.specs.Answers.{AreAnswered}
use Rattle.faust_forks.specs.Forks.{IsGround}
use Rattle.faust_forks.proofs.Grounds.{ground-hashed, ground-sent}
use Rattle.faust_forks.proofs.Later.{later-along, later-hashed}
use Rattle.faust_forks.proofs.Members.{has-right}
use Rattle.faust_record.specs.Entries.{event_of}
use Rattle.faust_record.specs.declared.entry.Input.{Input}
use Rattle.faust_premises.specs.Premises.{inputs_at, pairs_of_input}
use Rattle.faust_runs.specs.Ledgers.{passing, posting}
use Rattle.faust_runs.specs.Sound.{AreProper, Holds}
use Rattle.faust_runs.proofs.Frames.{IsFrame, held-frame}

-- What holds where an input comes to client me that holds st: the inputs that are hashed for it are among those of the
-- ledger, and no tag of it is forged.
pub record IsComing (config : Config) (past : Past) (me : ℕ) (st : Client) (input : Input) : Type 0 where
  pub count : IsClientCount config.clients
  pub client : IsClient config.clients me
  pub kept : IsClientOf config me st
  pub event : IsEventFor config.clients (event_of config me input)
  pub ground : IsGround config.clients past
  pub answered : AreAnswered past.started past.book
  pub proper : AreProper past.started
  pub held : Holds config.clients past me st
  pub hashes : (x : List ℕ) → Has (inputs_at config me st input) x → Has past.hashed x
  pub unforged : AreMade config.key past.made (pairs_of_input config input)

-- A later ledger, and the client me then. What the ledger has of other clients stays.
pub record LeadsTo (config : Config) (past later : Past) (me : ℕ) (now : Client) : Type 0 where
  pub ground : IsGround config.clients later
  pub answered : AreAnswered later.started later.book
  pub proper : AreProper later.started
  pub counted : later.entry ≡ suc past.entry
  pub same_hashed : later.hashed ≡ past.hashed
  pub grows : IsLater past later
  pub begun_of_others : (k t : ℕ) → (k ≡ me → ⊥) → find_begun later.started k t ≡ find_begun past.started k t
  pub done_of_others : (k t : ℕ) → (k ≡ me → ⊥) → find later.book k t ≡ find past.book k t
  pub held : Holds config.clients later me now

-- nothing comes
pub passing-leads : (config : Config) (past : Past) (me : ℕ) (st now : Client) → IsGround config.clients past
    → AreAnswered past.started past.book → AreProper past.started → Holds config.clients past me st → IsFrame me st now
    → LeadsTo config past (passing past) me now
passing-leads config past me st now ground answered proper held frame = record {
  ground = ground-hashed config.clients past past.hashed (suc past.entry) ground ground.free (λ x has. has) (omega arith);
  answered = answered;
  proper = proper;
  counted = refl;
  same_hashed = refl;
  grows = later-hashed past past.hashed (suc past.entry) (λ x has. has) (omega arith);
  begun_of_others = λ k t other. refl;
  done_of_others = λ k t other. refl;
  held = held-frame config.clients past.started past.book me st now frame held;
}

-- messages go to other clients
pub ground-posting : (n : ℕ) (past : Past) (messages : List PeerMessage) → IsGround n past
    → AllByRecursion (IsPeerMessageFor n) messages → IsGround n (posting past messages)
ground-posting n past [] ground range = ground
ground-posting n past (message ∷ rest) ground range =
    ground-sent n (posting past rest) message (ground-posting n past rest ground range.1) range.0

pub later-posting : (past : Past) (messages : List PeerMessage) → IsLater past (posting past messages)
later-posting past messages = record {
  begun_kept = λ k t begun h. h;
  done_kept = λ k t done h. h;
  made_kept = λ source h. has-right (map of_peer messages) past.made source h;
  hashed_kept = λ input h. h;
  comes_later = omega arith;
}

-- and then something else happens
pub posting-leads : (config : Config) (past later : Past) (messages : List PeerMessage) (me : ℕ) (now : Client)
    → LeadsTo config (posting past messages) later me now → LeadsTo config past later me now
posting-leads config past later messages me now leads = record {
  ground = leads.ground;
  answered = leads.answered;
  proper = leads.proper;
  counted = leads.counted;
  same_hashed = leads.same_hashed;
  grows = later-along past (posting past messages) later (later-posting past messages) leads.grows;
  begun_of_others = leads.begun_of_others;
  done_of_others = leads.done_of_others;
  held = leads.held;
}

-- the client moves besides
pub leads-frame : (config : Config) (past later : Past) (me : ℕ) (st now : Client) → IsFrame me st now
    → LeadsTo config past later me st → LeadsTo config past later me now
leads-frame config past later me st now frame leads = record {
  ground = leads.ground;
  answered = leads.answered;
  proper = leads.proper;
  counted = leads.counted;
  same_hashed = leads.same_hashed;
  grows = leads.grows;
  begun_of_others = leads.begun_of_others;
  done_of_others = leads.done_of_others;
  held = held-frame config.clients later.started later.book me st now frame leads.held;
}
