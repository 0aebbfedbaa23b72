use Rattle.std.proofs.Common.{[], length, sym, refl}
use Rattle.marks.specs.Refusals.{accepted}
use Rattle.sheets.proofs.Checks.{passes}
use Rattle.tables.specs.Checks.{tables_short}
use Rattle.tiles.specs.Plans.{plan_of}
use Rattle.round.proofs.Missing.{none_set}
use Rattle.round.proofs.rounds.Round.new.Goals as goal

pub returns : goal.returns
returns g c = record {
  told = passes (tables_short (plan_of c.args.cuts) (length c.args.mouths.now) (length c.args.passes.now)) 4 [] tt (accepted tt) (sym c.if-tables_short.ensures) refl;
  made = (refl, refl, λ t. none_set 1024 t);
}
