use Rattle.std.proofs.Common.{Some, ap, sym, ◌∙◌}
use Rattle.rooted_commands.proofs.Utf8Lemmas.{when-utf8, when-not}
use Rattle.rooted_commands.proofs.markers.if_utf8.Goals as goal

pub returns-in-Ok : goal.returns-in-Ok
returns-in-Ok c = ap Some c.in-Ok.ensures.cases.0 ∙ sym (when-utf8 c.args.name.now c.in-Ok.ensures.cases.1)

pub returns-in-Err : goal.returns-in-Err
returns-in-Err c = sym (when-not c.args.name.now c.in-Err.ensures.cases.0)
