use Rattle.faust_tags.proofs.Sizes.{digest-tag, digest-input, digest-link, digest-value}
use Rattle.faust_tags.proofs.laws.tags_and_digests_are_in_range.Goals as goal

pub returns-clause-tag : goal.returns-clause-tag
returns-clause-tag c = digest-tag

pub returns-clause-input : goal.returns-clause-input
returns-clause-input c = digest-input

pub returns-clause-chain : goal.returns-clause-chain
returns-clause-chain c = digest-link

pub returns-clause-value : goal.returns-clause-value
returns-clause-value c = digest-value
