use Rattle.faust_held.proofs.Meeting.{message-meets, next-meets, part-meets, version-meets}
use Rattle.faust_held.proofs.laws.incomparable_versions_give_a_notice.Goals as goal

pub returns-clause-version_of_c : goal.returns-clause-version_of_c
returns-clause-version_of_c c = version-meets

pub returns-clause-version_of_j : goal.returns-clause-version_of_j
returns-clause-version_of_j c = part-meets

pub returns-clause-next_version : goal.returns-clause-next_version
returns-clause-next_version c = next-meets

pub returns-clause-message : goal.returns-clause-message
returns-clause-message c = message-meets
