-- What an arrival is at its client, and when an input may come.
use Rattle.std.proofs.Common.{◌≡◌, ◌+◌, ◌^◌, ◌<◌, ◌≤◌, ℕ, Bool, true, false, cond, List, [], length, Option, Some, None, is_none, nat_le, nat_lt, ◌&&◌, refl, sym, ap, ◌∙◌}
use Rattle.std.proofs.lemmas.Bool.{and_parts, leb-true}
use Rattle.faust_types.specs.Bytes.{AreBytes}
use Rattle.faust_types.specs.Clients.{IsClient}
use Rattle.faust_types.specs.Outcomes.{nothing}
use Rattle.faust_types.specs.declared.config.Config.{Config}
use Rattle.faust_types.specs.declared.operation.Notice.{Notice}
use Rattle.faust_types.specs.declared.outcome.Outcome.{Outcome}
use Rattle.faust_hash.specs.Tag.{is_same}
use Rattle.faust_hash.proofs.Lists.{is_same_tells}
use Rattle.faust_agent.specs.State.{Member, cut_up_to, is_idle}
use Rattle.faust_agent.specs.Table.{cut_of, deed_of}
use Rattle.faust_agent.specs.Outcomes.{outcome_of}
use Rattle.faust_agent.specs.declared.client.Client.{Client}
use Rattle.faust_record.specs.Entries.{MayCome, outcome_at, state_at}
use Rattle.faust_record.specs.Refusals.{IsInput, begin_refused, begin_refused_by, is_register, refusal_at}
use Rattle.faust_record.specs.Acting.{AreInputBytes, member_at}
use Rattle.faust_record.specs.declared.entry.Input.{Input}
use Rattle.faust_record.specs.declared.entry.Input.TheVariants as inputs
use Rattle.faust_record.specs.declared.errors.Refusal.{Refusal}
use Rattle.faust_record.specs.declared.errors.Refusal.TheVariants as refusals

-- an arrival leaves its client as it is, and gives nothing
pub state-arrival : (config : Config) (me : ℕ) (st : Client) (message : List ℕ) → state_at config me st (inputs.Arrive message) ≡ st
unfolding state_at deed_of
state-arrival config me st message = refl

pub outcome-arrival : (config : Config) (me : ℕ) (st : Client) (message : List ℕ)
    → nothing ≡ outcome_at config me st (inputs.Arrive message)
unfolding outcome_at outcome_of deed_of
outcome-arrival config me st message =
    let cut = cut_of config me st in
    let same : is_same cut cut ≡ true = (is_same_tells cut cut).1 refl in
    ap (λ (b : Bool). record {
      to_server = None;
      to_peers = [];
      answer = None;
      cut = cond b None (Some cut);
      probed = [];
      began = None;
      notice = None;
    }) (sym same)

pub member-arrival : (member : Member) (message : List ℕ) → member ≡ member_at member (inputs.Arrive message)
member-arrival member message =
    ap (λ (st : Client). record { config = member.config; me = member.me; client = st })
    (sym (state-arrival member.config member.me member.client message))

-- where a client refuses nothing, what it may be asked for is in range, and it is idle
taken-parts : (b : Bool) (rest : Option Refusal) (refusal : Refusal) → cond b rest (Some refusal) ≡ None → (b ≡ true) × (rest ≡ None)
taken-parts true rest refusal taken = (refl, taken)
taken-parts false rest refusal taken = absurd (cc)

begins-idle : (notice : Option Notice) (idle : Bool) → begin_refused_by notice idle ≡ None → idle ≡ true
begins-idle None true taken = refl
begins-idle None false taken = absurd (cc)
begins-idle (Some notice) idle taken = absurd (cc)

may-write : (me : ℕ) (st : Client) (value : List ℕ) → cond (nat_le (length value) 4096) (begin_refused me st) (Some refusals.TooLong)
    ≡ None
    → AreBytes value → (is_idle me st ≡ true) × (length value ≤ 4096)
may-write me st value taken bytes =
    let parts = taken-parts (nat_le (length value) 4096) (begin_refused me st) refusals.TooLong taken in
    (begins-idle st.notice (is_idle me st) parts.1, leb-true (length value) 4096 parts.0)

may-read : (n me : ℕ) (st : Client) (register : ℕ) → cond (is_register n register) (begin_refused me st) (Some refusals.NoRegister) ≡ None
    → (is_idle me st ≡ true) × IsClient n register
may-read n me st register taken =
    let parts = taken-parts (is_register n register) (begin_refused me st) refusals.NoRegister taken in
    let within = and_parts (nat_le 1 register) (nat_le register n) parts.0 in (
      begins-idle st.notice (is_idle me st) parts.1,
      record { from_one = leb-true 1 register within.0; to_n = leb-true register n within.1 },
    )

pub may-come : (config : Config) (me : ℕ) (st : Client) (input : Input) → refusal_at config me st input ≡ None → IsInput input
    → AreInputBytes input → MayCome config me st input
may-come config me st (inputs.Write value) taken given bytes =
    let parts = may-write me st value taken bytes in
    record { idle = parts.0; value_in_range = record { sized = parts.1; bytes_each = bytes } }
may-come config me st (inputs.Read register) taken given bytes =
    let parts = may-read config.clients me st register taken in
    record { idle = parts.0; register_in_range = parts.1 }
may-come config me st (inputs.Reply message) taken given bytes = record { sized = given; bytes_each = bytes }
may-come config me st (inputs.Peer message) taken given bytes = record { sized = given; bytes_each = bytes }
may-come config me st (inputs.Tick moment) taken given bytes = given
may-come config me st (inputs.Arrive message) taken given bytes = tt
