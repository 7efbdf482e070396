-- Where no tag is forged, the messages between clients that are rightly tagged were made.
use Rattle.std.proofs.Common.{◌≡◌, List, [], ◌∷◌, ◌++◌, Option, None, refl, sym, ap, ◌∙◌, subst, inl, append_assoc}
use Rattle.faust_types.specs.declared.config.Config.{Config}
use Rattle.faust_types.specs.declared.message.PeerMessage.{PeerMessage}
use Rattle.faust_hash.proofs.Lists.{is_same_tells}
use Rattle.faust_tags.specs.Bodies.{peer_body, tag_of}
use Rattle.faust_lists.specs.Names.{Has}
use Rattle.faust_forks.specs.Pairs.{peer_pair}
use Rattle.faust_record.specs.declared.entry.Input.{Input}
use Rattle.faust_record.specs.declared.entry.Entry.{Entry}
use Rattle.faust_premises.specs.Premises.{checked_pairs, first_forged_behind, pairs_of_input, pairs_of_message}
use Rattle.faust_premises.proofs.Forgeries.{right-pairs-made}
use Rattle.faust_joined.specs.Promised.{ArePeersMade, IsPeerMade}

peer-made : (config : Config) (before rest : List Entry) (e : Entry) → first_forged_behind config [] (before ++ e ∷ rest) ≡ None
    → IsPeerMade config before e
unfolding checked_pairs
peer-made config before rest e none bytes m input spelled signed =
    right-pairs-made config before rest e (peer_pair m) none
    (subst (λ (x : Input). Has (pairs_of_input config x) (peer_pair m)) (sym input)
    (subst (λ (o : Option PeerMessage). Has (pairs_of_message o) (peer_pair m)) (sym spelled) (inl refl)))
    ((is_same_tells m.tag (tag_of config.key (peer_body m))).0 signed)

pub peers-made : (config : Config) (before rest : List Entry) → first_forged_behind config [] (before ++ rest) ≡ None
    → ArePeersMade config before rest
peers-made config before [] none = tt
peers-made config before (e ∷ rest) none = (
  peer-made config before rest e none,
  peers-made config (before ++ e ∷ []) rest
      (ap (first_forged_behind config []) (append_assoc before (e ∷ []) rest) ∙ none),
)
