use Rattle.std.proofs.Common.{sym, subst}
use Rattle.faust_types.specs.declared.config.Config.{Config}
use Rattle.faust_record.proofs.Fronts.{push_keeps}
use Rattle.faust_sim.specs.Playing.{IsLiarOf}
use Rattle.faust_sim.proofs.Scenes.{mail-before, pushed-next}
use Rattle.faust_sim.proofs.stage.Stage.push.Goals as goal

pub note-requires : goal.note-requires
note-requires c =
    let stage = c.args.self.now in
    mail-before stage.run c.push.new.self c.args.client c.args.input stage.mail c.in-Ok.ensures c.requires.kept.mail

pub returns : goal.returns
returns c =
    let stage = c.args.self.now in
    let now = c.push.new.self in
    let same = push_keeps stage.run now c.args.client c.args.input c.in-Ok.ensures in record {
      kept = record {
        run = c.note.ensures.run;
        mail = c.in_ok-note.ensures.mail;
        liar = subst (λ (config : Config). IsLiarOf config stage.liar) (sym same) c.requires.kept.liar;
      };
      is_due = pushed-next stage.run now stage.liar c.args.client c.args.input c.in-Ok.ensures;
    }
