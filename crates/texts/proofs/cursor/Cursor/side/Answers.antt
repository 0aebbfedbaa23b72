use Rattle.std.proofs.Common.{arith}
use Rattle.std.proofs.lemmas.Result.{err_from_is_err_and}
use Rattle.texts.proofs.Scans.{ended_lost, ended_found}
use Rattle.texts.proofs.cursor.Cursor.side.Goals as goal

pub returns-in_err-word : goal.returns-in_err-word
returns-in_err-word c =
    let p = err_from_is_err_and c.from_residual-in_err-word.result c.from_residual-in_err-word.ensures.1 in
    rw (p.1, p.2) (ended_lost 2048 (omega arith) c.args.end c.requires c.args.self _ _ c.in_ok-side.ensures _ c.in_err-word.ensures)

pub returns : goal.returns
returns c = let k = c.in_ok-word.ensures in ended_found 2048 (omega arith) c.args.end c.requires c.args.self _ _ c.in_ok-side.ensures k.0 _ k.1
