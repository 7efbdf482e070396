use Rattle.faust_server.proofs.Kept.{IsStateFor-first, IsStateFor-retaken}
use Rattle.faust_server.proofs.Rows.{submitted-in_range, committed-in_range}
use Rattle.faust_server.proofs.laws.rows_stay_in_range.Goals as goal

pub returns-clause-first : goal.returns-clause-first
returns-clause-first c = IsStateFor-first

pub returns-clause-submit : goal.returns-clause-submit
returns-clause-submit c = submitted-in_range

pub returns-clause-commit : goal.returns-clause-commit
returns-clause-commit c = committed-in_range

pub returns-clause-retake : goal.returns-clause-retake
returns-clause-retake c = IsStateFor-retaken
