-- What a client holds, and what is read off it: the greatest known version, whether the client is idle, and its
-- cut. Every promise of this crate rests on it.
use Rattle.std.specs.Prelude.{ℕ, ◌+◌, ◌-◌, ◌^◌, ◌==◌, ◌&&◌, zero, suc, Bool, not, List, [], ◌∷◌, ◌++◌, None, is_none, nat_lt, min, replicate, slice_index_or, if◌then◌else◌}
use Rattle.faust_types.specs.Versions.{Vector, is_at_most, timestamp_at}
use Rattle.faust_types.specs.Messages.{unmade}
use Rattle.faust_types.specs.declared.config.Config.{Config}
use Rattle.faust_types.specs.declared.message.Known.{Known}
use Rattle.faust_agent.specs.declared.client.Client.{Client}

-- A client of a run: what all of them share, its own number, and what it holds.
pub record Member : Type 0 where
  pub config : Config
  pub me : ℕ
  pub client : Client

-- heard[k], for a client k, and the version in it. That of the client itself is its own version.
abbrev pub slot_in : List Known → ℕ → Known
slot_in heard k = slice_index_or heard (k - 1) (unmade 0)

abbrev pub slot_at : Client → ℕ → Known
slot_at st k = slot_in st.heard k

abbrev pub version_at : Client → ℕ → Vector
version_at st k = (slot_at st k).version

-- How many own operations are complete: the own timestamp.
abbrev pub completed_count : ℕ → Client → ℕ
completed_count me st = timestamp_at (version_at st me) me

-- No operation is pending, no check is broken, and there is a next number.
abbrev pub is_idle : ℕ → Client → Bool
is_idle me st = is_none st.waiting && is_none st.notice && nat_lt (completed_count me st + 1) (2 ^ 40)

-- Version v is less than w.
abbrev pub is_less : Vector → Vector → Bool
is_less v w = is_at_most v w && not (is_at_most w v)

-- Of the versions of clients 1 to k the greatest, and the first of those that are equal: the client that it
-- stands at.
abbrev pub greater_of : Client → ℕ → ℕ → ℕ
greater_of st best k = if is_less (version_at st best) (version_at st k) then k else best

abbrev pub greatest_up_to : Client → ℕ → ℕ
greatest_up_to st zero = 1
greatest_up_to st (suc k) = greater_of st (greatest_up_to st k) (suc k)

-- The greatest known version of n clients.
unfoldable pub greatest : ℕ → Client → Known
greatest n st = slot_at st (greatest_up_to st n)

-- The cut's entry for client j: how many of the own completed operations the version heard from j counts.
abbrev pub cut_at : ℕ → Client → ℕ → ℕ
cut_at me st j = min (timestamp_at (version_at st j) me) (completed_count me st)

abbrev pub cut_up_to : ℕ → Client → ℕ → List ℕ
cut_up_to me st zero = []
cut_up_to me st (suc j) = cut_up_to me st j ++ cut_at me st (suc j) ∷ []

-- The register after r among those of n clients, from n to 1; and the same with the own one left out.
abbrev pub register_after : ℕ → ℕ → ℕ
register_after n r = if r == n then 1 else r + 1

abbrev pub other_register_after : ℕ → ℕ → ℕ → ℕ
other_register_after n me r = if register_after n r == me then register_after n me else register_after n r

-- What client me of n holds at first.
abbrev pub first_client : ℕ → ℕ → Client
first_client n me = record {
  heard = replicate n (unmade n);
  last = None;
  waiting = None;
  notice = None;
  held = None;
  timers = record { news = replicate n 0; now = 0; dummy_at = 0; next_dummy = register_after n me };
}

abbrev pub first_member : Config → ℕ → Member
first_member config me = record { config = config; me = me; client = first_client config.clients me }
