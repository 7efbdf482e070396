-- Each way in which an entry brings a version.
use Rattle.std.proofs.Common.{◌≡◌, true, List, ◌∷◌, ◌++◌, Option, Some, ap, ◌∙◌, subst, inl, inr}
use Rattle.std.proofs.lemmas.Bool.{false_from_ne_true, or_cases}
use Rattle.faust_types.specs.Versions.{IsOrder, Vector, is_at_most, is_comparable}
use Rattle.faust_types.specs.declared.version.Compared.TheVariants.{Apart}
use Rattle.faust_types.specs.declared.config.Config.{Config}
use Rattle.faust_types.specs.declared.message.PeerMessage.{PeerMessage}
use Rattle.faust_types.specs.declared.message.Reply.{Reply}
use Rattle.faust_types.proofs.Order.{is_at_most-means}
use Rattle.faust_agent.specs.State.{version_at}
use Rattle.faust_agent.specs.Deeds.{replied, told}
use Rattle.faust_agent.specs.declared.client.Client.{Client}
use Rattle.faust_record.specs.Entries.{event_of}
use Rattle.faust_record.specs.Runs.{IsRun}
use Rattle.faust_record.specs.declared.entry.Entry.{Entry}
use Rattle.faust_premises.specs.Premises.{IsClean}
use Rattle.faust_audit.specs.Meetings.{Brings, BringsReply, Holds, MeetIncomparable, by_message, by_reply, holder, next_version, version_of_c, version_of_j}
use Rattle.faust_held.specs.Held.{GivesNotice, HadNoNotice, IsApartFromHeld}
use Rattle.faust_held.proofs.Meeting.{message-meets, next-meets, part-meets, version-meets}

-- two versions that are apart aren't comparable
apart-not : (v w : Vector) → IsOrder Apart v w → is_comparable v w ≡ true → ⊥
apart-not v w h holds = elim (or_cases (is_at_most v w) (is_at_most w v) holds) [
  | inl most ↦ h.0 ((is_at_most-means v w).0 most)
  | inr least ↦ h.1 ((is_at_most-means w v).0 least)
]

apart-held : (config : Config) (before : List Entry) (entry : Entry) (brought held : Vector)
    → Holds config.clients (holder config before entry) held → IsOrder Apart brought held → IsApartFromHeld config before entry brought
apart-held config before entry brought held h apart =
    let st : Client = holder config before entry in
    record {
      k = h.k;
      client = h.is_client;
      apart = false_from_ne_true (is_comparable brought (version_at st h.k))
          (apart-not brought (version_at st h.k) (subst (λ (v : Vector). IsOrder Apart brought v) h.is_held apart));
    }

reply-noticed : (config : Config) (front rest : List Entry) (entry : Entry) (reply : Reply) (version : Vector)
    → IsRun config (front ++ (entry ∷ rest)) → IsClean config (front ++ (entry ∷ rest)) → HadNoNotice config front entry
    → event_of config entry.client entry.input ≡ replied (Some reply)
    → BringsReply config entry.client (holder config front entry) reply version → IsApartFromHeld config front entry version
    → GivesNotice entry
reply-noticed config front rest entry reply version run clean quiet came (version_of_c is) apart =
    version-meets config front rest entry reply run clean quiet came (subst (IsApartFromHeld config front entry) is apart)
reply-noticed config front rest entry reply version run clean quiet came (version_of_j part reads is) apart =
    part-meets config front rest entry reply part run clean quiet came reads (subst (IsApartFromHeld config front entry) is apart)
reply-noticed config front rest entry reply version run clean quiet came (next_version op waits answer judges is) apart =
    next-meets config front rest entry reply op answer run clean quiet came waits judges
    (subst (IsApartFromHeld config front entry) is apart)

brought-noticed : (config : Config) (front rest : List Entry) (entry : Entry) (version : Vector)
    → IsRun config (front ++ (entry ∷ rest)) → IsClean config (front ++ (entry ∷ rest)) → HadNoNotice config front entry
    → Brings config entry.client (holder config front entry) entry.input version → IsApartFromHeld config front entry version
    → GivesNotice entry
brought-noticed config front rest entry version run clean quiet (by_reply bytes is reply spelled brings) apart =
    reply-noticed config front rest entry reply version run clean quiet
    (ap (event_of config entry.client) is ∙ ap (λ (r : Option Reply). replied r) spelled) brings apart
brought-noticed config front rest entry version run clean quiet (by_message bytes is message spelled brings) apart =
    message-meets config front rest entry message brings.known run clean quiet
    (ap (event_of config entry.client) is ∙ ap (λ (m : Option PeerMessage). told m) spelled) brings.addressed brings.signed
    brings.is_version (subst (IsApartFromHeld config front entry) brings.is_brought apart)

pub meeting-noticed : (config : Config) (front rest : List Entry) (entry : Entry) → IsRun config (front ++ (entry ∷ rest))
    → IsClean config (front ++ (entry ∷ rest)) → MeetIncomparable config front entry → GivesNotice entry
meeting-noticed config front rest entry run clean met =
    brought-noticed config front rest entry met.brought run clean met.unnoticed met.is_brought
    (apart-held config front entry met.brought met.held met.is_held met.are_apart)
