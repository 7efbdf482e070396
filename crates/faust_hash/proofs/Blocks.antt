-- A tag under a key is the tag under the key's block.
use Rattle.std.proofs.Common.{◌≡◌, ℕ, List, refl, sym, ◌∙◌, ap}
use Rattle.faust_hash.specs.Hmac.{block_key, hmac_of, tag_under}

pub tag_of_block : (key body : List ℕ) → hmac_of key body ≡ tag_under (block_key key) body
unfolding hmac_of tag_under
tag_of_block key body = refl

-- the same of any block that is the key's
pub tag_is_under : (key block body : List ℕ) → block ≡ block_key key → hmac_of key body ≡ tag_under block body
tag_is_under key block body same = tag_of_block key body ∙ ap (λ (b : List ℕ). tag_under b body) (sym same)
