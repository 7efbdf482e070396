use Rattle.faust_text.proofs.FieldLaws.{fields_spell, fields_fault}
use Rattle.faust_text.proofs.laws.fields_are_their_spellings.Goals as goal

pub returns-clause-spelled : goal.returns-clause-spelled
returns-clause-spelled c = fields_spell

pub returns-clause-refused : goal.returns-clause-refused
returns-clause-refused c = fields_fault
