use Rattle.faust_ustor.proofs.Followed.{followed-append, passed-append}
use Rattle.faust_ustor.proofs.laws.walks_are_put_together.Goals as goal

pub returns-clause-followed : goal.returns-clause-followed
returns-clause-followed c walk tuples more = followed-append walk tuples more

pub returns-clause-passed : goal.returns-clause-passed
returns-clause-passed c key me proofs walk tuples more h i = passed-append key me proofs walk tuples more h i
