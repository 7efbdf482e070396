-- A client in step begins an operation, and stays in step.
use Rattle.std.proofs.Common.{◌≡◌, ◌+◌, ℕ, suc, Bool, true, List, [], ◌∷◌, ◌++◌, Option, Some, None, IfSome, refl, sym, ap, ◌∙◌, subst, arith}
use Rattle.std.specs.Prelude.{◌&&◌, is_none, nat_lt}
use Rattle.std.proofs.lemmas.Bool.{and_parts}
use Rattle.faust_types.specs.Clients.{IsClient}
use Rattle.faust_types.specs.Ranges.{IsValueOf}
use Rattle.faust_types.specs.declared.config.Config.{Config}
use Rattle.faust_types.specs.declared.operation.Kind.{Kind}
use Rattle.faust_types.specs.declared.operation.Kind.TheVariants.{Write, Read}
use Rattle.faust_types.specs.declared.message.Submit.{Submit}
use Rattle.faust_types.specs.declared.message.Commit.{Commit}
use Rattle.faust_types.specs.declared.message.Reply.{Reply}
use Rattle.faust_tags.specs.Bodies.{data_body, submit_body, tag_of}
use Rattle.faust_ustor.specs.Checks.{digest_of}
use Rattle.faust_lists.specs.Lists.{count}
use Rattle.faust_honest.specs.World as honest
use Rattle.faust_honest.specs.World.{World, written, written_by}
use Rattle.faust_agent.specs.State.{completed_count, is_idle}
use Rattle.faust_agent.specs.Deeds.{Sent, submits}
use Rattle.faust_agent.specs.InRange.{IsBegunFor}
use Rattle.faust_agent.specs.Table.{begun_by, last_after, submit_of}
use Rattle.faust_agent.specs.declared.client.Client.{Client}
use Rattle.faust_agent.specs.declared.deed.Order.{Order}
use Rattle.faust_agent.proofs.Kept.{kept-begun}
use Rattle.faust_agent.proofs.Reasons.{none-of}
use Rattle.faust_agent.proofs.Sends.{submit-in_range}
use Rattle.faust_names.specs.Histories.{named}
use Rattle.faust_joined.specs.Joined.{IsCommitMade, IsHeldBack, IsInStep, IsOrderOf, IsSubmitDue, IsWaiting, rides}
use Rattle.faust_joined.proofs.Queues.{lead-submit}

-- an idle client waits for nothing
pub idle-waits : (me : ℕ) (st : Client) → is_idle me st ≡ true → st.waiting ≡ None
idle-waits me st idle =
    let free : Bool = is_none st.waiting && is_none st.notice in
    none-of st.waiting
    (and_parts (is_none st.waiting) (is_none st.notice) (and_parts free (nat_lt (completed_count me st + 1) _) idle).0).0

-- the digest of what was submitted last
last-written : (kind : Kind) (value before last : Option (List ℕ)) → IsValueOf kind value → last ≡ digest_of before
    → last_after last value ≡ digest_of (written_by kind value before)
last-written Write None before last fits same = absurd fits
last-written Write (Some value) before last fits same = refl
last-written Read None before last fits same = same
last-written Read (Some value) before last fits same = absurd cc

pub last-begun : (world : World) (k begun : ℕ) (order : Order) (last : Option (List ℕ)) → IsValueOf order.kind order.value
    → IsOrderOf world k (suc begun) order → last ≡ digest_of (written world k begun)
    → last_after last order.value ≡ digest_of (written world k (suc begun))
last-begun world k begun order last fits is same =
    last-written order.kind order.value (written world k begun) last fits same
    ∙ ap (λ (kind : Kind). digest_of (written_by kind order.value (written world k begun))) (sym is.same_kind)
    ∙ ap (λ (value : Option (List ℕ)). digest_of (written_by (world.kind k (suc begun)) value (written world k begun))) (sym is.same_value)

-- the SUBMIT that is sent is that of the operation
abbrev made_of : ℕ → Option Commit → List ℕ → Kind → ℕ → ℕ → Option (List ℕ) → Option (List ℕ) → Submit
made_of k commit key kind register t value last = record {
  kind = kind;
  register = register;
  t = t;
  value = value;
  submit_tag = tag_of key (submit_body k kind register t);
  data_tag = tag_of key (data_body k t last);
  commit = commit;
}

pub submit-same : (config : Config) (world : World) (k begun : ℕ) (st : Client) (order : Order) → world.key ≡ config.key
    → completed_count k st ≡ begun → IsValueOf order.kind order.value → IsOrderOf world k (suc begun) order
    → st.last ≡ digest_of (written world k begun)
    → submit_of config k st order ≡ honest.submit_of world k (suc begun) st.held
submit-same config world k begun st order keys done fits is last =
    let t : ℕ = completed_count k st + 1 in
    let next : t ≡ suc begun = omega (arith, done) in
    let digest : Option (List ℕ) = last_after st.last order.value in
    let after : Option (List ℕ) = digest_of (written world k (suc begun)) in
    let make : List ℕ → Kind → ℕ → ℕ → Option (List ℕ) → Option (List ℕ) → Submit = made_of k st.held in
    ap (λ (key : List ℕ). make key order.kind order.register t order.value digest) (sym keys)
    ∙ ap (λ (kind : Kind). make world.key kind order.register t order.value digest) (sym is.same_kind)
    ∙ ap (λ (register : ℕ). make world.key (world.kind k (suc begun)) register t order.value digest) (sym is.same_register)
    ∙ ap (λ (x : ℕ). make world.key (world.kind k (suc begun)) (world.register k (suc begun)) x order.value digest) next
    ∙ ap (λ (value : Option (List ℕ)). make world.key (world.kind k (suc begun)) (world.register k (suc begun)) (suc begun) value digest)
    (sym is.same_value)
    ∙ ap (λ (x : Option (List ℕ)). make world.key (world.kind k (suc begun)) (world.register k (suc begun)) (suc begun)
    (world.value k (suc begun)) x) (last-begun world k begun order st.last fits is last)

-- the COMMIT that was held rides
balanced-with : (n : ℕ) (world : World) (arrived : List ℕ) (k done committed : ℕ) (held : Option Commit)
    → IsHeldBack n world arrived k done committed held → done ≡ committed + rides held
balanced-with n world arrived k done committed None back = omega (arith, back)
balanced-with n world arrived k done committed (Some c) back = omega (arith, back.0)

rides-with : (n : ℕ) (world : World) (arrived : List ℕ) (k done committed : ℕ) (held : Option Commit)
    → IsHeldBack n world arrived k done committed held → IfSome held (IsCommitMade n world arrived k done)
rides-with n world arrived k done committed None back = tt
rides-with n world arrived k done committed (Some c) back = back.1

one_more : (d : ℕ) → d + 1 ≡ suc d
one_more d = omega arith

pub begun-in_step : (config : Config) (world : World) (arrived : List ℕ) (committed begun k : ℕ) (st : Client) (queue : List Sent)
    (given : List Reply) (handed : ℕ) (order : Order) → world.key ≡ config.key → IsClient config.clients k
    → IsInStep config world arrived committed begun k st queue given handed → IsBegunFor config k st order
    → IsOrderOf world k (suc begun) order
    → IsInStep config world arrived committed (suc begun) k (begun_by k st order) (queue ++ submits (submit_of config k st order) ∷ [])
    given handed
begun-in_step config world arrived committed begun k st queue given handed order keys client h begins is =
    let n = config.clients in
    let d : ℕ = completed_count k st in
    let value_fits : IsValueOf order.kind order.value = begins.order_in_range.value_in_range in
    let free : begun ≡ d = subst (IsWaiting world k d begun st.held) (idle-waits k st begins.idle) h.waiting in
    let back : IsHeldBack n world arrived k begun h.all_committed st.held =
    subst (λ (x : ℕ). IsHeldBack n world arrived k x h.all_committed st.held) (sym free) h.held_back in
    let due : IsSubmitDue config world arrived k begun h.all_committed (submit_of config k st order) = record {
      is_next = submit-same config world k begun st order keys (sym free) value_fits is h.last;
      in_range = (submit-in_range config k st order h.in_range begins, h.in_range.held_under_wire_2);
      balanced = balanced-with n world arrived k begun h.all_committed st.held back;
      rides_rightly = rides-with n world arrived k begun h.all_committed st.held back;
    } in
    record {
      in_range = kept-begun config k st order h.in_range client begins;
      no_notice = h.no_notice;
      has_arrived = h.has_arrived;
      own = h.own;
      within = h.within;
      waiting = record {
        is_last = ap (λ (x : ℕ). suc x) free;
        same_name = ap (named k) (one_more d);
        same_kind = sym is.same_kind ∙ ap (λ (x : ℕ). world.kind k (suc x)) free;
        same_register = sym is.same_register ∙ ap (λ (x : ℕ). world.register k (suc x)) free;
        none_held = refl;
      };
      last = last-begun world k begun order st.last value_fits is h.last;
      all_committed = h.all_committed + rides st.held;
      held_back = sym (balanced-with n world arrived k begun h.all_committed st.held back) ∙ free;
      leads = lead-submit config world arrived k (count k arrived) committed queue begun h.all_committed
          (submit_of config k st order) h.leads due;
      given_each = h.given_each;
      handed_each = h.handed_each;
      due = h.due;
    }
