use Rattle.faust_script.proofs.GoingOn.{refused_first}
use Rattle.faust_script.proofs.RefusalLaws.{refusals_are}
use Rattle.faust_script.proofs.laws.first_refused_lines.Goals as goal

pub returns-clause-table : goal.returns-clause-table
returns-clause-table c = refusals_are

pub returns-clause-front : goal.returns-clause-front
returns-clause-front c = λ input refusal is. (refused_first input refusal is).0

pub returns-clause-first : goal.returns-clause-first
returns-clause-first c = λ input refusal is within on. (refused_first input refusal is).1 within on
