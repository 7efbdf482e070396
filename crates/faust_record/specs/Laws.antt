-- Words in which the laws of this crate are stated.
use Rattle.std.specs.Prelude.{◌≡◌, ◌==◌, ◌&&◌, ℕ, cond, List, [], ◌∷◌, ◌++◌, length, is_none, map}
use Rattle.faust_types.specs.declared.config.Config.{Config}
use Rattle.faust_types.specs.declared.message.Submit.{Submit}
use Rattle.faust_types.specs.declared.message.Commit.{Commit}
use Rattle.faust_types.specs.declared.message.PeerMessage.{PeerMessage}
use Rattle.faust_record.specs.Runs.{arriving}
use Rattle.faust_record.specs.Journals.{AreJournals, Log}
use Rattle.faust_record.specs.Merging.{AreOfConfig}
use Rattle.faust_record.specs.declared.entry.Input.{Input}
use Rattle.faust_record.specs.declared.entry.Input.TheVariants as inputs
use Rattle.faust_record.specs.declared.entry.Entry.{Entry}
use Rattle.faust_record.specs.declared.run_record.PushInput.{PushInput}
use Rattle.faust_record.specs.declared.run_record.PushInput.TheVariants as given

-- A list begins with another one.
pub record IsPrefix {X : Type 0} (front whole : List X) : Type 0 where
  pub rest : List X
  pub is_whole : whole ≡ front ++ rest

-- One more entry stands at the end, of this client and with this number.
pub record Appends (before after : List Entry) (client number : ℕ) : Type 0 where
  pub entry : Entry
  pub is_longer : after ≡ before ++ entry ∷ []
  pub client_is : entry.client ≡ client
  pub number_is : entry.number ≡ number

-- What is pushed for an input: which message arrives isn't said.
abbrev pub pushed_as : Input → PushInput
pushed_as (inputs.Write value) = given.Write value
pushed_as (inputs.Read register) = given.Read register
pushed_as (inputs.Reply bytes) = given.Reply bytes
pushed_as (inputs.Peer bytes) = given.Peer bytes
pushed_as (inputs.Tick moment) = given.Tick moment
pushed_as (inputs.Arrive message) = given.Arrive

-- The tags of a SUBMIT, of a COMMIT, and of messages to other clients.
abbrev pub tags_of_submit : Submit → List (List ℕ)
tags_of_submit submit = submit.submit_tag ∷ submit.data_tag ∷ []

abbrev pub tags_of_commit : Commit → List (List ℕ)
tags_of_commit commit = commit.commit_tag ∷ commit.proof_tag ∷ []

abbrev pub tags_of_posts : List PeerMessage → List (List ℕ)
tags_of_posts messages = map (λ (message : PeerMessage). message.tag) messages

-- The entries of client i that are no arrivals.
abbrev pub acts_of : ℕ → List Entry → List Entry
acts_of i [] = []
acts_of i (entry ∷ rest) =
    cond ((entry.client == i) && is_none (arriving entry.input)) (entry ∷ acts_of i rest) (acts_of i rest)

-- As many journals as there are clients, of runs with this config.
pub record AreForAll (config : Config) (logs : List Log) : Type 0 where
  pub counted : length logs ≡ config.clients
  pub each : AreJournals logs
  pub one_config : AreOfConfig config logs
