-- Each entry of a run is the one that its push is due, so all runs are made by pushes.
use Rattle.std.proofs.Common.{◌≡◌, ◌+◌, ◌≤◌, ◌^◌, ◌&&◌, ℕ, suc, Bool, true, false, cond, List, [], ◌∷◌, ◌++◌, length, Option, Some, None, is_none, nat_le, Result, Ok, Err, refl, sym, ap, ◌∙◌, subst, arith, append_assoc}
use Rattle.std.proofs.lemmas.List.{append-nil}
use Rattle.std.proofs.lemmas.Bool.{and_from, and_parts, cond-true, le-leb}
use Rattle.faust_types.specs.Clients.{IsClient}
use Rattle.faust_types.specs.Outcomes.{nothing}
use Rattle.faust_types.specs.declared.config.Config.{Config}
use Rattle.faust_types.specs.declared.operation.Notice.{Notice}
use Rattle.faust_types.specs.declared.outcome.Outcome.{Outcome}
use Rattle.faust_agent.specs.State.{first_client, is_idle}
use Rattle.faust_agent.specs.declared.client.Client.{Client}
use Rattle.faust_record.specs.Entries.{IsStep, Obeys, arrival_at, entry_at, outcome_at, replay, replayed, state_at}
use Rattle.faust_record.specs.Runs.{AreFed, AreNumbered, AreOfClients, IsFed, IsRun, Run, entries_of, next_message}
use Rattle.faust_record.specs.Refusals.{acted, arrived, arrived_at, begin_refused, begin_refused_by, is_register, push_of, recorded, recorded_unless, refusal_at}
use Rattle.faust_record.specs.Laws.{pushed_as}
use Rattle.faust_record.specs.declared.entry.Input.{Input}
use Rattle.faust_record.specs.declared.entry.Input.TheVariants as inputs
use Rattle.faust_record.specs.declared.entry.Entry.{Entry}
use Rattle.faust_record.specs.declared.errors.Refusal.{Refusal}
use Rattle.faust_record.specs.declared.errors.Refusal.TheVariants as refusals
use Rattle.faust_record.proofs.Own.{entries_of-own}
use Rattle.faust_record.proofs.Inputs.{outcome-arrival}
use Rattle.faust_record.proofs.Runs.{run-front}

-- the last entry of a run
numbered-last : (q : ℕ) (xs : List Entry) (e : Entry) → AreNumbered q (xs ++ e ∷ []) → e.number ≡ q + length xs
numbered-last q [] e all = omega (arith, all.0)
numbered-last q (x ∷ xs) e all = omega (arith, numbered-last (suc q) xs e all.1)

clients-last : (n : ℕ) (xs : List Entry) (e : Entry) → AreOfClients n (xs ++ e ∷ []) → IsClient n e.client
clients-last n [] e all = all.0
clients-last n (x ∷ xs) e all = clients-last n xs e all.1

fed-last : (before xs : List Entry) (e : Entry) → AreFed before (xs ++ e ∷ []) → IsFed (before ++ xs) e
fed-last before [] e all = subst (λ (l : List Entry). IsFed l e) (sym (append-nil before)) all.0
fed-last before (x ∷ xs) e all =
    subst (λ (l : List Entry). IsFed l e) (append_assoc before (x ∷ []) xs) (fed-last (before ++ x ∷ []) xs e all.1)

obeys-last : (config : Config) (i : ℕ) (st : Client) (xs : List Entry) (e : Entry) → Obeys config i st (xs ++ e ∷ [])
    → IsStep config i (replayed config i st xs) e
obeys-last config i st [] e all = all.0
obeys-last config i st (x ∷ xs) e all = obeys-last config i (state_at config i st x.input) xs e all.1

-- what may come isn't refused
begins-anyway : (notice : Option Notice) (waits room : Bool) → (waits && is_none notice && room) ≡ true
    → begin_refused_by notice (waits && is_none notice && room) ≡ None
begins-anyway None waits room idle = ap (λ (b : Bool). begin_refused_by None b) idle
begins-anyway (Some notice) waits room idle =
    let parts = and_parts (waits && false) room idle in
    let never = and_parts waits false parts.0 in
    absurd (cc never.1)

idle-begins : (me : ℕ) (st : Client) → is_idle me st ≡ true → begin_refused me st ≡ None
idle-begins me st idle = begins-anyway st.notice _ _ idle

write-taken : (config : Config) (me : ℕ) (st : Client) (value : List ℕ) → is_idle me st ≡ true → length value ≤ 4096
    → refusal_at config me st (inputs.Write value) ≡ None
write-taken config me st value idle sized =
    cond-true (nat_le (length value) 4096) (begin_refused me st) (Some refusals.TooLong) (le-leb (length value) 4096 sized)
    ∙ idle-begins me st idle

read-taken : (config : Config) (me : ℕ) (st : Client) (register : ℕ) → is_idle me st ≡ true → IsClient config.clients register
    → refusal_at config me st (inputs.Read register) ≡ None
read-taken config me st register idle client =
    let known : is_register config.clients register ≡ true =
    and_from (nat_le 1 register) (nat_le register config.clients) (le-leb 1 register client.from_one)
    (le-leb register config.clients client.to_n) in
    cond-true (is_register config.clients register) (begin_refused me st) (Some refusals.NoRegister) known ∙ idle-begins me st idle

same-entry : (number i n : ℕ) (input : Input) (outcome due : Outcome) → number ≡ n → outcome ≡ due
    → ◌≡◌ {A = Entry}
    (record { number = n; client = i; input = input; outcome = due })
    (record { number = number; client = i; input = input; outcome = outcome })
same-entry number i n input outcome due number_is outcome_is =
    let entry : ℕ → Outcome → Entry = λ (q : ℕ) (o : Outcome). record { number = q; client = i; input = input; outcome = o } in
    sym (ap (λ (q : ℕ). entry q outcome) number_is ∙ ap (entry n) outcome_is)

acted-again : (run : Run) (i number : ℕ) (input : Input) (outcome : Outcome) → number ≡ length run.entries
    → outcome ≡ outcome_at run.config i (replay run.config i (entries_of i run.entries)) input
    → refusal_at run.config i (replay run.config i (entries_of i run.entries)) input ≡ None
    → acted run i input ≡ Ok (recorded run (record { number = number; client = i; input = input; outcome = outcome }))
unfolding acted
acted-again run i number input outcome number_is outcome_is taken =
    let st = replay run.config i (entries_of i run.entries) in
    ap (recorded_unless run (entry_at run.config i st (length run.entries) input)) taken
    ∙ ap (λ (e : Entry). Ok (recorded run e))
    (same-entry number i (length run.entries) input outcome (outcome_at run.config i st input) number_is outcome_is)

entry-again : (run : Run) (i number : ℕ) (input : Input) (outcome : Outcome) → number ≡ length run.entries
    → IsStep run.config i (replay run.config i (entries_of i run.entries))
    (record { number = number; client = i; input = input; outcome = outcome })
    → IsFed run.entries (record { number = number; client = i; input = input; outcome = outcome })
    → push_of run i (pushed_as input) ≡ Ok (recorded run (record { number = number; client = i; input = input; outcome = outcome }))
unfolding arrived
entry-again run i number (inputs.Write value) outcome number_is step fed =
    let st = replay run.config i (entries_of i run.entries) in
    acted-again run i number (inputs.Write value) outcome number_is step.outcome_is
    (write-taken run.config i st value step.may_come.idle step.may_come.value_in_range.sized)
entry-again run i number (inputs.Read register) outcome number_is step fed =
    let st = replay run.config i (entries_of i run.entries) in
    acted-again run i number (inputs.Read register) outcome number_is step.outcome_is
    (read-taken run.config i st register step.may_come.idle step.may_come.register_in_range)
entry-again run i number (inputs.Reply bytes) outcome number_is step fed =
    acted-again run i number (inputs.Reply bytes) outcome number_is step.outcome_is refl
entry-again run i number (inputs.Peer bytes) outcome number_is step fed =
    acted-again run i number (inputs.Peer bytes) outcome number_is step.outcome_is refl
entry-again run i number (inputs.Tick moment) outcome number_is step fed =
    acted-again run i number (inputs.Tick moment) outcome number_is step.outcome_is refl
entry-again run i number (inputs.Arrive message) outcome number_is step fed =
    let st = replay run.config i (entries_of i run.entries) in
    let given : outcome ≡ nothing = step.outcome_is ∙ sym (outcome-arrival run.config i st message) in
    ap (arrived_at run i) fed
    ∙ ap (λ (e : Entry). Ok (recorded run e))
    (same-entry number i (length run.entries) (inputs.Arrive message) outcome nothing number_is given)

last-again : (config : Config) (front : List Entry) (e : Entry) → IsRun config (front ++ e ∷ [])
    → push_of (record { config = config; entries = front }) e.client (pushed_as e.input)
    ≡ Ok (record { config = config; entries = front ++ e ∷ [] })
last-again config front e run =
    let client = clients-last config.clients front e run.of_clients in
    let number : e.number ≡ length front = numbered-last 0 front e run.numbered ∙ omega arith in
    let own = subst (λ (l : List Entry). Obeys config e.client (first_client config.clients e.client) l)
    (entries_of-own e.client front e refl)
    (run.obeyed e.client client) in
    let step : IsStep config e.client (replay config e.client (entries_of e.client front)) e =
    obeys-last config e.client (first_client config.clients e.client) (entries_of e.client front) e own in
    entry-again (record { config = config; entries = front }) e.client e.number e.input e.outcome number step (fed-last [] front e run.fed)

pub entries_are_pushed : (config : Config) (front rest : List Entry) (e : Entry) → IsRun config (front ++ e ∷ rest)
    → push_of (record { config = config; entries = front }) e.client (pushed_as e.input)
    ≡ Ok (record { config = config; entries = front ++ e ∷ [] })
entries_are_pushed config front rest e run =
    last-again config front e
    (run-front config (front ++ e ∷ []) rest (subst (IsRun config) (sym (append_assoc front (e ∷ []) rest)) run))
