-- What is accepted is a run whose record can be printed.
use Rattle.std.proofs.Common.{◌≡◌, ◌≤◌, ℕ, List, length, Ok, refl, inr, sym, subst, arith}
use Rattle.faust_types.specs.declared.config.Config.{Config}
use Rattle.faust_record.specs.Runs.{IsRun, Run}
use Rattle.faust_script.specs.InRange.{IsScript}
use Rattle.faust_script.specs.declared.script.Script.{Script}
use Rattle.faust_sim.specs.Play.{played}
use Rattle.faust_sim.proofs.Lengths.{played_short}
use Rattle.faust_store.specs.Reading.{read}
use Rattle.faust_store.specs.Texts.{IsTextVersion}
use Rattle.faust_store.proofs.RecordLaws.{few_read}
use Rattle.faust_top.specs.Output.{IsPrintable}
use Rattle.faust_top.proofs.Configs.{played_config}

pub script_printable : (script : Script) (run : Run) → IsScript script → played script ≡ Ok run → IsRun run.config run.entries
    → IsPrintable (record { run = run; format = script.format })
script_printable script run is plays kept =
    let short : length run.entries ≤ length script.events = played_short script run plays in
    let few : length script.events ≤ 20000 = is.few_events in record {
      is_run = kept;
      few_entries = omega (arith, short, few);
      format_known = subst (λ (config : Config). IsTextVersion script.format config.wire)
          (sym (played_config script run plays)) is.format_known;
    }

pub record_printable : (input : List ℕ) (run : Run) → read input ≡ Ok run → IsRun run.config run.entries
    → IsPrintable (record { run = run; format = 2 })
record_printable input run is kept = record {
  is_run = kept;
  few_entries = few_read input run is;
  format_known = inr refl;
}
