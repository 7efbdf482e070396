use Rattle.std.proofs.Common.{sym, subst}
use Rattle.faust_top.specs.declared.accepting.Accepted.{Accepted}
use Rattle.faust_top.specs.Output.{IsPrintable}
use Rattle.faust_top.proofs.Printable.{record_printable}
use Rattle.faust_top.proofs.accepting.accept_record.Goals as goal

pub returns-in-Ok-clause-printable : goal.returns-in-Ok-clause-printable
returns-in-Ok-clause-printable c =
    subst (λ (taken : Accepted). IsPrintable taken) (sym c.new.ensures.parts)
    (record_printable c.args.input.now c.in-Ok.run' c.in-Ok.ensures.exact c.new.ensures.is_run)
