-- An operation completes.
use Rattle.std.proofs.Common.{◌≡◌, ℕ, suc, List, ◌∷◌, Option, Some, None, IfSome, refl, sym, ap, ◌∙◌, subst, arith}
use Rattle.std.specs.Prelude.{replicate}
use Rattle.faust_types.specs.Ranges.{IsReplyFor}
use Rattle.faust_types.specs.Versions.{Vector, digest_at, timestamp_at}
use Rattle.faust_types.specs.declared.config.Config.{Config}
use Rattle.faust_types.specs.declared.operation.Operation.{Operation}
use Rattle.faust_types.specs.declared.message.Reply.{Reply}
use Rattle.faust_ustor.specs.Hashed.{all_inputs}
use Rattle.faust_ustor.specs.Passed.{clients_after, next_of, told}
use Rattle.faust_ustor.specs.declared.judgement.Judged.{Judged}
use Rattle.faust_ustor.proofs.Counts.{next-told}
use Rattle.faust_ustor.proofs.Inputs.{hashed_passed}
use Rattle.faust_ustor.proofs.Passes.{JudgedOk, judged-passed}
use Rattle.faust_hash.specs.Chain.{chain_of, link}
use Rattle.faust_agent.specs.State.{version_at}
use Rattle.faust_agent.specs.Table.{completed_by, own_digest}
use Rattle.faust_agent.specs.InRange.{IsCompletionOf, IsWaitedFor}
use Rattle.faust_agent.specs.Tells.{IsEventFor, TellsCompletion}
use Rattle.faust_agent.specs.declared.client.Client.{Client}
use Rattle.faust_agent.specs.declared.deed.Completion.{Completion}
use Rattle.faust_lists.specs.Names.{Has}
use Rattle.faust_forks.specs.Books.{Done}
use Rattle.faust_forks.specs.Pairs.{AreMade}
use Rattle.faust_forks.specs.Pasts.{Past, base_of, done_at}
use Rattle.faust_forks.specs.Answers.{IsWritten}
use Rattle.faust_forks.specs.Forks.{IsAccepted}
use Rattle.faust_forks.proofs.Answering.{answered-completed}
use Rattle.faust_forks.proofs.Grounds.{ground-completed, next-digest, next-timestamp, own-completed}
use Rattle.faust_forks.proofs.Later.{later-completed}
use Rattle.faust_record.specs.Entries.{event_of}
use Rattle.faust_record.specs.declared.entry.Input.{Input}
use Rattle.faust_premises.specs.Premises.{inputs_at}
use Rattle.faust_runs.specs.ForkViews.{reply_at}
use Rattle.faust_runs.specs.Ledgers.{completing}
use Rattle.faust_runs.specs.Sound.{Holds, IsHolding}
use Rattle.faust_runs.proofs.Options.{done-other, unwrapped}
use Rattle.faust_runs.proofs.Events.{IsReplied, judged-inputs, replied-parts}
use Rattle.faust_runs.proofs.Frames.{IsMoved, completed-moved}
use Rattle.faust_runs.proofs.Leading.{IsComing, LeadsTo}

-- What a completion is to the ledger.
pub record IsFinish (config : Config) (past : Past) (me : ℕ) (st : Client) (input : Input) (done : Completion) (reply : Reply) : Type 0
  where
    pub came : reply_at config input ≡ Some reply
    pub accepted : IsAccepted config.clients past config.key me (version_at st me) done.op reply
    pub tells : done.judged ≡ told me reply
    pub next_is : done.judged.next ≡ next_of me reply
    pub held : IsHolding config.clients past.started past.book me (version_at st me) (Some done.op) st.last

pub is-finish : (config : Config) (past : Past) (me : ℕ) (st : Client) (input : Input) (done : Completion)
    → IsComing config past me st input → (tells : TellsCompletion config me st (event_of config me input) done)
    → IsFinish config past me st input done tells.reply
is-finish config past me st input done coming tells =
    let n = config.clients in
    let reply = tells.reply in
    let own = version_at st me in
    let op = done.op in
    let passed : JudgedOk config.key me own op reply done.judged =
    judged-passed config.key me own op reply done.judged tells.passed_checks in
    let came : IsReplied config me st input reply = replied-parts config me st input reply tells.came in
    let range : IsReplyFor n reply = subst (IsEventFor n) tells.came coming.event in
    let waited : IsWaitedFor n me own op =
    subst (λ (w : Option Operation). IfSome w (IsWaitedFor n me own)) tells.waited coming.kept.waiting_in_range in
    let held : IsHolding n past.started past.book me own (Some op) st.last =
    subst (λ (w : Option Operation). IsHolding n past.started past.book me own w st.last) tells.waited coming.held in
    let inputs : inputs_at config me st input ≡ all_inputs me reply =
    came.inputs ∙ judged-inputs config me st reply op tells.no_notice tells.waited
    ∙ hashed_passed config.key me own op reply passed.passed in
    record {
      came = came.came;
      accepted = record {
        client_in_range = coming.client;
        reply_in_range = range;
        owned = held.owned;
        pending = waited.pending;
        waiting = held.pending.began;
        passed = passed.passed;
        unforged = subst (AreMade config.key past.made) came.pairs coming.unforged;
        all_hashed = λ x has. coming.hashes x (subst (λ (l : List (List ℕ)). Has l x) (sym inputs) has);
      };
      tells = passed.tells;
      next_is = ap (λ (j : Judged). j.next) passed.tells ∙ next-told (next_of me reply) reply.read;
      held = held;
    }

pub held-completed : (config : Config) (past : Past) (me : ℕ) (st : Client) (input : Input) (done : Completion) (reply : Reply)
    → IsComing config past me st input → IsCompletionOf config me st done → IsFinish config past me st input done reply
    → Holds config.clients (completing past me done.op (Some reply)) me (completed_by config me st done)
held-completed config past me st input done reply coming fits h =
    let n = config.clients in
    let own = version_at st me in
    let op = done.op in
    let next = next_of me reply in
    let now = completed_by config me st done in
    let book : List Done = done_at past me op reply ∷ past.book in
    let moved : IsMoved me st now done.judged.next = completed-moved config me st done coming.kept coming.client fits.register_in_range in
    let numbered : timestamp_at next me ≡ op.name.t =
    next-timestamp n past config.key me own op reply coming.ground h.accepted in
    let up : suc (timestamp_at own me) ≡ timestamp_at next me = omega (arith, numbered, h.accepted.pending.number) in
    let there : IsHolding n past.started book me next None st.last = record {
      owned = own-completed n past config.key me own op reply coming.ground h.accepted;
      pending = tt;
      written = subst (λ (t : ℕ). IsWritten past.started me t st.last) up h.held.written;
      fresh = λ t later. h.held.fresh t (omega (arith, later, up));
    } in
    subst (λ (o : Vector). IsHolding n past.started book me o now.waiting now.last) (sym (moved.own ∙ h.next_is))
    (subst (λ (w : Option Operation). IsHolding n past.started book me next w now.last) (sym moved.waiting)
    (subst (λ (l : Option (List ℕ)). IsHolding n past.started book me next None l) (sym moved.last) there))

pub finish-leads : (config : Config) (past : Past) (me : ℕ) (st : Client) (input : Input) (done : Completion) (reply : Reply)
    → IsComing config past me st input → IsCompletionOf config me st done → IsFinish config past me st input done reply
    → LeadsTo config past (completing past me done.op (Some reply)) me (completed_by config me st done)
finish-leads config past me st input done reply coming fits h =
    let n = config.clients in
    let own = version_at st me in
    let op = done.op in
    let next = next_of me reply in
    let digest : digest_at next me ≡ Some (own_digest me next) =
    unwrapped (digest_at next me) (link (chain_of (clients_after (base_of past.book reply) reply.pending)) me) (replicate 32 0)
    (next-digest n past config.key me own op reply coming.ground h.accepted) in
    record {
      ground = ground-completed n past config.key me own op reply (own_digest me next) coming.ground h.accepted digest;
      answered = answered-completed n past config.key me own op reply coming.ground h.accepted coming.answered;
      proper = coming.proper;
      counted = refl;
      same_hashed = refl;
      grows = later-completed past me op reply (own_digest me next);
      begun_of_others = λ k t other. refl;
      done_of_others = λ k t other. done-other past.book (done_at past me op reply) k t (λ same. other (sym same));
      held = held-completed config past me st input done reply coming fits h;
    }

pub completing-leads : (config : Config) (past : Past) (me : ℕ) (st : Client) (input : Input) (done : Completion)
    → IsComing config past me st input → TellsCompletion config me st (event_of config me input) done → IsCompletionOf config me st done
    → LeadsTo config past (completing past me done.op (reply_at config input)) me (completed_by config me st done)
completing-leads config past me st input done coming tells fits =
    let h = is-finish config past me st input done coming tells in
    subst (λ (r : Option Reply). LeadsTo config past (completing past me done.op r) me (completed_by config me st done)) (sym h.came)
    (finish-leads config past me st input done tells.reply coming fits h)
