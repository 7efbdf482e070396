-- One more entry of a client among its own, and beside those of the others.
use Rattle.std.proofs.Common.{◌≡◌, ◌+◌, ℕ, List, [], ◌∷◌, ◌++◌, length, map, option_to_list, Option, Some, None, refl, sym, ap, ◌∙◌, subst, arith, append_assoc, length-append}
use Rattle.std.specs.Prelude.{option_map}
use Rattle.std.proofs.lemmas.List.{append-nil, map-append}
use Rattle.faust_types.specs.Outcomes.{nothing}
use Rattle.faust_types.specs.declared.config.Config.{Config}
use Rattle.faust_types.specs.declared.outcome.Outcome.{Outcome}
use Rattle.faust_types.specs.declared.message.Reply.{Reply}
use Rattle.faust_server.specs.Rows.{committed}
use Rattle.faust_honest.specs.World.{World}
use Rattle.faust_agent.specs.State.{first_client}
use Rattle.faust_agent.specs.Deeds.{Sent}
use Rattle.faust_agent.specs.Outcomes.{outcome_of, sent_bytes, spelled_sent}
use Rattle.faust_agent.specs.Table.{sent_of}
use Rattle.faust_agent.specs.declared.client.Client.{Client}
use Rattle.faust_agent.specs.declared.deed.Order.{Order}
use Rattle.faust_record.specs.Entries.{deed_at, outcome_at, replay, state_at}
use Rattle.faust_record.specs.Operations.{Started, order_in, started_among, started_in}
use Rattle.faust_record.specs.Runs.{arrived_in, arriving, entries_of, sent_in}
use Rattle.faust_record.specs.declared.entry.Input.{Input}
use Rattle.faust_record.specs.declared.entry.Input.TheVariants as inputs
use Rattle.faust_record.specs.declared.entry.Entry.{Entry}
use Rattle.faust_record.proofs.Inputs.{outcome-arrival, state-arrival}
use Rattle.faust_record.proofs.Own.{arrived_in-append, entries_of-other, replayed-append, sent_in-append}
use Rattle.faust_joined.specs.Joined.{IsClientJoined, IsInStep, IsQueued}
use Rattle.faust_joined.proofs.Grown.{in_step-more}

-- one more entry of a client
pub started-one : (own : List Entry) (e : Entry)
    → length (started_among (own ++ e ∷ [])) ≡ length (started_among own) + length (option_to_list (started_in e))
started-one [] e =
    ap (λ (l : List Started). length l) (append-nil (option_to_list (started_in e))) ∙ omega arith
started-one (x ∷ own) e =
    let rest = started-one own e in
    let here = length-append (option_to_list (started_in x)) (started_among (own ++ e ∷ [])) in
    let there = length-append (option_to_list (started_in x)) (started_among own) in
    omega (arith, rest, here, there)

spelled-one : (wire : ℕ) (sent : Option Sent) → option_to_list (spelled_sent wire sent) ≡ map (sent_bytes wire) (option_to_list sent)
spelled-one wire None = refl
spelled-one wire (Some s) = refl

to-server : (config : Config) (k : ℕ) (st : Client) (input : Input)
    → (outcome_at config k st input).to_server ≡ spelled_sent config.wire (sent_of config k st (deed_at config k st input))
unfolding outcome_at outcome_of
to-server config k st input = refl

queued-one : (config : Config) (k : ℕ) (own : List Entry) (e : Entry) (st : Client) (queue : List Sent) → arriving e.input ≡ None
    → e.outcome ≡ outcome_at config k st e.input → IsQueued config.wire own queue
    → IsQueued config.wire (own ++ e ∷ []) (queue ++ option_to_list (sent_of config k st (deed_at config k st e.input)))
queued-one config k own e st queue act outcome h =
    let spell : Sent → List ℕ = sent_bytes config.wire in
    let more : List Sent = option_to_list (sent_of config k st (deed_at config k st e.input)) in
    let to_server : e.outcome.to_server ≡ spelled_sent config.wire (sent_of config k st (deed_at config k st e.input)) =
    ap (λ (o : Outcome). o.to_server) outcome ∙ to-server config k st e.input in
    record {
      gone = h.gone;
      sent_is = sent_in-append own (e ∷ []) ∙ ap (λ (l : List (List ℕ)). sent_in own ++ l) (append-nil (option_to_list e.outcome.to_server))
          ∙ ap (λ (o : Option (List ℕ)). sent_in own ++ option_to_list o) to_server
          ∙ ap (λ (l : List (List ℕ)). sent_in own ++ l) (spelled-one config.wire (sent_of config k st (deed_at config k st e.input)))
          ∙ ap (λ (l : List (List ℕ)). l ++ map spell more) h.sent_is
          ∙ append_assoc h.gone (map spell queue) (map spell more)
          ∙ ap (λ (l : List (List ℕ)). h.gone ++ l) (sym (map-append spell queue more));
      counted = h.counted ∙ ap (λ (l : List (List ℕ)). length l)
          (sym (arrived_in-append own (e ∷ []) ∙ ap (λ (o : Option (List ℕ)). arrived_in own ++ (option_to_list o ++ [])) act
          ∙ append-nil (arrived_in own)));
    }

pub joined-one : (config : Config) (world : World) (arrived : List ℕ) (committed k : ℕ) (own : List Entry) (given now : List Reply)
    (handed later : ℕ) (e : Entry) → (h : IsClientJoined config world arrived committed k own given handed)
    → arriving e.input ≡ None → e.outcome ≡ outcome_at config k (replay config k own) e.input
    → IsInStep config world arrived committed (length (started_among own) + length (option_to_list (started_in e))) k
    (state_at config k (replay config k own) e.input)
    (h.queue ++ option_to_list (sent_of config k (replay config k own) (deed_at config k (replay config k own) e.input))) now later
    → IsClientJoined config world arrived committed k (own ++ e ∷ []) now later
joined-one config world arrived committed k own given now handed later e h act outcome step =
    let st : Client = replay config k own in
    let queue : List Sent = h.queue ++ option_to_list (sent_of config k st (deed_at config k st e.input)) in
    let stepped : replay config k (own ++ e ∷ []) ≡ state_at config k st e.input =
    replayed-append config k (first_client config.clients k) own (e ∷ []) in
    record {
      queue = queue;
      queued = queued-one config k own e st h.queue act outcome h.queued;
      in_step = subst (λ (b : ℕ). IsInStep config world arrived committed b k (replay config k (own ++ e ∷ [])) queue now later)
          (sym (started-one own e))
          (subst (λ (c : Client). IsInStep config world arrived committed
          (length (started_among own) + length (option_to_list (started_in e))) k c queue now later) (sym stepped) step);
    }

-- one more arrival of a client
pub arrived-one : (config : Config) (world : World) (arrived : List ℕ) (committed k : ℕ) (own : List Entry) (given : List Reply)
    (handed : ℕ) (e : Entry) (message : List ℕ) (gone : List (List ℕ)) (s : Sent) (rest : List Sent)
    → e.input ≡ inputs.Arrive message → e.outcome ≡ outcome_at config k (replay config k own) e.input
    → sent_in own ≡ gone ++ map (sent_bytes config.wire) (s ∷ rest) → length gone ≡ length (arrived_in own)
    → IsInStep config world arrived committed (length (started_among own)) k (replay config k own) rest given handed
    → IsClientJoined config world arrived committed k (own ++ e ∷ []) given handed
arrived-one config world arrived committed k own given handed e message gone s rest input outcome sent counted step =
    let st : Client = replay config k own in
    let spell : Sent → List ℕ = sent_bytes config.wire in
    let quiet : e.outcome ≡ nothing =
    outcome ∙ ap (outcome_at config k st) input ∙ sym (outcome-arrival config k st message) in
    let same : replay config k (own ++ e ∷ []) ≡ st =
    replayed-append config k (first_client config.clients k) own (e ∷ []) ∙ ap (state_at config k st) input
    ∙ state-arrival config k st message in
    let none : started_in e ≡ None =
    ap (λ (x : Input). option_map (λ (order : Order). record { order = order; number = e.number }) (order_in e.client x e.outcome)) input in
    let begun : length (started_among own) ≡ length (started_among (own ++ e ∷ [])) =
    omega (arith, started-one own e, ap (λ (o : Option Started). length (option_to_list o)) none) in
    record {
      queue = rest;
      queued = record {
        gone = gone ++ spell s ∷ [];
        sent_is = sent_in-append own (e ∷ [])
            ∙ ap (λ (o : Outcome). sent_in own ++ (option_to_list o.to_server ++ [])) quiet
            ∙ append-nil (sent_in own) ∙ sent ∙ sym (append_assoc gone (spell s ∷ []) (map spell rest));
        counted = length-append gone (spell s ∷ []) ∙ ap (λ (x : ℕ). x + 1) counted
            ∙ sym (ap (λ (l : List (List ℕ)). length l) (arrived_in-append own (e ∷ []))
            ∙ ap (λ (x : Input). length (arrived_in own ++ (option_to_list (arriving x) ++ []))) input
            ∙ length-append (arrived_in own) (message ∷ []));
      };
      in_step = subst (λ (b : ℕ). IsInStep config world arrived committed b k (replay config k (own ++ e ∷ [])) rest given handed) begun
          (subst (λ (c : Client). IsInStep config world arrived committed (length (started_among own)) k c rest given handed)
          (sym same) step);
    }

-- another client's entry
pub joined-other : (config : Config) (world : World) (arrived : List ℕ) (committed k : ℕ) (front : List Entry) (e : Entry)
    (given : List Reply) (handed : ℕ) → (e.client ≡ k → ⊥)
    → IsClientJoined config world arrived committed k (entries_of k front) given handed
    → IsClientJoined config world arrived committed k (entries_of k (front ++ e ∷ [])) given handed
joined-other config world arrived committed k front e given handed other h =
    subst (λ (own : List Entry). IsClientJoined config world arrived committed k own given handed)
    (sym (entries_of-other k front e other)) h

pub joined-more : (config : Config) (world : World) (arrived : List ℕ) (committed k x : ℕ) (own : List Entry) (given : List Reply)
    (handed : ℕ) → (x ≡ k → ⊥) → IsClientJoined config world arrived committed k own given handed
    → IsClientJoined config world (x ∷ arrived) committed k own given handed
joined-more config world arrived committed k x own given handed other h = record {
  queue = h.queue;
  queued = h.queued;
  in_step = in_step-more config world arrived committed (length (started_among own)) k x (replay config k own) h.queue given handed other
      h.in_step;
}
