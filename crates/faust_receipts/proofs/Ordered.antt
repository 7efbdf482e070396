-- The operations of a client complete in the order in which they began.
use Rattle.std.proofs.lemmas.List.{get_or-replicate}
use Rattle.std.proofs.Common.{◌≡◌, ℕ, ◌+◌, ◌-◌, suc, List, [], ◌∷◌, ◌++◌, Option, Some, None, option_map, option_to_list, refl, sym, ap, ◌∙◌, subst, arith}
use Rattle.std.proofs.lemmas.Bool.{eqb-true}
use Rattle.std.specs.Prelude.{Bool, true, false, cond, ◌==◌}
use Rattle.faust_types.specs.Clients.{IsClient, IsClientCount}
use Rattle.faust_types.specs.Messages.{unmade}
use Rattle.faust_types.specs.Versions.{Vector, initial, timestamp_at}
use Rattle.faust_types.specs.declared.config.Config.{Config}
use Rattle.faust_types.specs.declared.message.Known.{Known}
use Rattle.faust_types.specs.declared.operation.Kind.TheVariants.{Write}
use Rattle.faust_types.specs.declared.operation.Answer.{Answer}
use Rattle.faust_types.specs.declared.operation.OpName.{OpName}
use Rattle.faust_types.specs.declared.operation.Operation.{Operation}
use Rattle.faust_agent.specs.State.{completed_count, first_client, version_at}
use Rattle.faust_agent.specs.InRange.{IsClientOf}
use Rattle.faust_agent.specs.Table.{operation_of}
use Rattle.faust_agent.specs.declared.client.Client.{Client}
use Rattle.faust_agent.specs.declared.deed.Order.{Order}
use Rattle.faust_agent.proofs.Kept.{kept-first}
use Rattle.faust_record.specs.Entries.{Obeys, state_at}
use Rattle.faust_record.specs.Operations.{Finished, Started, finished_among, order_in, started_among}
use Rattle.faust_record.specs.Runs.{IsRun, entries_of}
use Rattle.faust_record.specs.declared.entry.Entry.{Entry}
use Rattle.faust_node.specs.Answers.{IsPlain}
use Rattle.faust_receipts.specs.UserOperations.{name_by}
use Rattle.faust_receipts.proofs.Changes.{Change, IsAnswerTo, IsChanged, closes, entry-changes, opens, stays}

-- Operation t of client me began so, and is this one.
record IsBegun (me t : ℕ) (started : Started) (op : Operation) : Type 0 where
  same_name : op.name ≡ name_by me t
  same_dummy : op.dummy ≡ started.order.dummy
  own_register : op.kind ≡ Write → op.register ≡ me

record IsPending (me t : ℕ) (st : Client) (started : Started) : Type 0 where
  op : Operation
  waits : st.waiting ≡ Some op
  begun : IsBegun me t started op

-- What client me waits for: nothing, or operation t.
abbrev Awaits : ℕ → ℕ → Client → List Started → Type 0
Awaits me t st [] = st.waiting ≡ None
Awaits me t st (started ∷ []) = IsPending me t st started
Awaits me t st (started ∷ next ∷ rest) = ⊥

-- Operation t of client me began so, and completed so.
pub record IsToldOf (n me t : ℕ) (started : Started) (finished : Finished) : Type 0 where
  pub same_name : finished.answer.op.name ≡ name_by me t
  pub same_dummy : finished.answer.op.dummy ≡ started.order.dummy
  pub plain : IsPlain finished.answer
  pub answer : IsAnswerTo n finished.answer

-- Operations, numbered from t on, complete in the order in which they began.
abbrev pub AreTold : ℕ → ℕ → ℕ → List Started → List Finished → Type 0
AreTold n me t [] [] = Unit {0}
AreTold n me t (started ∷ began) [] = Unit {0}
AreTold n me t [] (finished ∷ ended) = ⊥
AreTold n me t (started ∷ began) (finished ∷ ended) = IsToldOf n me t started finished × AreTold n me (suc t) began ended

none-told : (n me t : ℕ) (began : List Started) → AreTold n me t began []
none-told n me t [] = tt
none-told n me t (started ∷ began) = tt

-- What stays to be told behind one entry.
abbrev Later : ℕ → ℕ → Client → List Started → List Finished → Type 0
Later n me now began ended = (later : ℕ) (more : List Started) → completed_count me now + 1 ≡ later → Awaits me later now more
    → AreTold n me later (more ++ began) ended

awaits-same : (me t : ℕ) (st now : Client) (pending : List Started) → now.waiting ≡ st.waiting → Awaits me t st pending
    → Awaits me t now pending
awaits-same me t st now [] same awaits = same ∙ awaits
awaits-same me t st now (started ∷ []) same awaits =
    record { op = awaits.op; waits = same ∙ awaits.waits; begun = awaits.begun }
awaits-same me t st now (started ∷ next ∷ rest) same awaits = absurd awaits

abbrev start_of : ℕ → Order → Started
start_of number order = record { order = order; number = number }

abbrev end_of : ℕ → Answer → Finished
end_of number answer = record { answer = answer; number = number }

-- it opens
opened : (n me t : ℕ) (st now : Client) (number : ℕ) (pending began : List Started) (ended : List Finished) (begun : Order)
    → st.waiting ≡ None → now.waiting ≡ Some (operation_of me st begun) → completed_count me now ≡ completed_count me st
    → (begun.kind ≡ Write → begun.register ≡ me) → completed_count me st + 1 ≡ t → Awaits me t st pending
    → Later n me now began ended → AreTold n me t (pending ++ (start_of number begun ∷ began)) ended
opened n me t st now number [] began ended begun none waits same own counted awaits later =
    later t (start_of number begun ∷ []) (ap (λ (k : ℕ). k + 1) same ∙ counted)
    (record {
      op = operation_of me st begun;
      waits = waits;
      begun = record { same_name = ap (name_by me) counted; same_dummy = refl; own_register = own };
    })
opened n me t st now number (started ∷ []) began ended begun none waits same own counted awaits later =
    let both : None ≡ Some awaits.op = sym none ∙ awaits.waits in absurd (cc)
opened n me t st now number (started ∷ next ∷ rest) began ended begun none waits same own counted awaits later = absurd awaits

-- it closes
some-same : (a b : Operation) → Some a ≡ Some b → a ≡ b
some-same a b h = cc

closed : (n me t : ℕ) (st now : Client) (number : ℕ) (pending began : List Started) (ended : List Finished) (given : Answer)
    → st.waiting ≡ Some given.op → now.waiting ≡ None → completed_count me now ≡ completed_count me st + 1 → IsAnswerTo n given
    → completed_count me st + 1 ≡ t → Awaits me t st pending → Later n me now began ended
    → AreTold n me t (pending ++ began) (end_of number given ∷ ended)
closed n me t st now number [] began ended given was waits more answer counted awaits later =
    let both : None ≡ Some given.op = sym awaits ∙ was in absurd (cc)
closed n me t st now number (started ∷ []) began ended given was waits more answer counted awaits later =
    let same : awaits.op ≡ given.op = some-same awaits.op given.op (sym awaits.waits ∙ was) in
    let begun : IsBegun me t started given.op = subst (IsBegun me t started) same awaits.begun in (
      record {
        same_name = begun.same_name;
        same_dummy = begun.same_dummy;
        plain = λ write. record {
          own_register = begun.own_register write ∙ sym (ap (λ (name : OpName). name.client) begun.same_name);
          no_value = answer.no_value write;
          no_asof = answer.no_asof write;
        };
        answer = answer;
      },
      later (suc t) [] (omega (arith, more, counted)) waits,
    )
closed n me t st now number (started ∷ next ∷ rest) began ended given was waits more answer counted awaits later = absurd awaits

along-step : (n me t : ℕ) (st now : Client) (number : ℕ) (order : Option Order) (answer : Option Answer) (pending began : List Started)
    (ended : List Finished) → Change n me st now order answer → completed_count me st + 1 ≡ t → Awaits me t st pending
    → Later n me now began ended
    → AreTold n me t (pending ++ (option_to_list (option_map (start_of number) order) ++ began))
    (option_to_list (option_map (end_of number) answer) ++ ended)
along-step n me t st now number order answer pending began ended (stays none silent same still) counted awaits later =
    subst (λ (o : Option Order). AreTold n me t (pending ++ (option_to_list (option_map (start_of number) o) ++ began))
    (option_to_list (option_map (end_of number) answer) ++ ended)) (sym none)
    (subst (λ (a : Option Answer). AreTold n me t (pending ++ began) (option_to_list (option_map (end_of number) a) ++ ended)) (sym silent)
    (later t pending (ap (λ (k : ℕ). k + 1) still ∙ counted) (awaits-same me t st now pending same awaits)))
along-step n me t st now number order answer pending began ended (opens begun is silent none waits same own) counted awaits later =
    subst (λ (o : Option Order). AreTold n me t (pending ++ (option_to_list (option_map (start_of number) o) ++ began))
    (option_to_list (option_map (end_of number) answer) ++ ended)) (sym is)
    (subst (λ (a : Option Answer). AreTold n me t (pending ++ (start_of number begun ∷ began))
    (option_to_list (option_map (end_of number) a) ++ ended)) (sym silent)
    (opened n me t st now number pending began ended begun none waits same own counted awaits later))
along-step n me t st now number order answer pending began ended (closes given none is was waits more fits) counted awaits later =
    subst (λ (o : Option Order). AreTold n me t (pending ++ (option_to_list (option_map (start_of number) o) ++ began))
    (option_to_list (option_map (end_of number) answer) ++ ended)) (sym none)
    (subst (λ (a : Option Answer). AreTold n me t (pending ++ began) (option_to_list (option_map (end_of number) a) ++ ended)) (sym is)
    (closed n me t st now number pending began ended given was waits more fits counted awaits later))

-- Each entry is of client me.
abbrev AreBy : ℕ → List Entry → Type 0
AreBy me [] = Unit {0}
AreBy me (entry ∷ rest) = (entry.client ≡ me) × AreBy me rest

by-more : (me : ℕ) (entry : Entry) (own : List Entry) (b : Bool) → (entry.client == me) ≡ b → AreBy me own
    → AreBy me (cond b (entry ∷ own) own)
by-more me entry own true is by = (eqb-true entry.client me is, by)
by-more me entry own false is by = by

entries-by : (me : ℕ) (entries : List Entry) → AreBy me (entries_of me entries)
entries-by me [] = tt
entries-by me (entry ∷ rest) = by-more me entry (entries_of me rest) (entry.client == me) refl (entries-by me rest)

along : (config : Config) (me t : ℕ) (st : Client) (pending : List Started) (own : List Entry) → IsClientCount config.clients
    → IsClient config.clients me → IsClientOf config me st → Obeys config me st own → AreBy me own → completed_count me st + 1 ≡ t
    → Awaits me t st pending → AreTold config.clients me t (pending ++ started_among own) (finished_among own)
along config me t st pending [] count client kept obeys by counted awaits = none-told config.clients me t (pending ++ [])
along config me t st pending (entry ∷ rest) count client kept obeys by counted awaits =
    let now : Client = state_at config me st entry.input in
    let changed : IsChanged config me st entry = entry-changes config me st entry count client kept obeys.0 by.0 in
    along-step config.clients me t st now entry.number (order_in entry.client entry.input entry.outcome) entry.outcome.answer
    pending (started_among rest) (finished_among rest) changed.change counted awaits
    (λ later more counts held. along config me later now more rest count client changed.kept obeys.1 by.1 counts held)

first-count : (n me : ℕ) → IsClient n me → completed_count me (first_client n me) + 1 ≡ 1
first-count n me client =
    let version : version_at (first_client n me) me ≡ initial n =
    ap (λ (known : Known). known.version) (get_or-replicate n (me - 1) (unmade n) (unmade 0)
    (omega (arith, client.from_one, client.to_n))) in
    ap (λ (k : ℕ). k + 1)
    (ap (λ (v : Vector). timestamp_at v me) version
    ∙ get_or-replicate n (me - 1) 0 0 (omega (arith, client.from_one, client.to_n)))

pub told-in-run : (config : Config) (entries : List Entry) (i : ℕ) → IsRun config entries → IsClient config.clients i
    → AreTold config.clients i 1 (started_among (entries_of i entries)) (finished_among (entries_of i entries))
told-in-run config entries i run client =
    let n = config.clients in
    along config i 1 (first_client n i) [] (entries_of i entries) run.config_in_range.clients_count client
    (kept-first config i run.config_in_range.clients_count client) (run.obeyed i client) (entries-by i entries)
    (first-count n i client) refl
