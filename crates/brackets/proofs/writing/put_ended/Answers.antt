use Rattle.std.proofs.Common.{arith}
use Rattle.brackets.proofs.Puts.{put_long, put_more}
use Rattle.brackets.proofs.writing.put_ended.Goals as goal

pub put-requires : goal.put-requires
put-requires c = let p = c.put-last.ensures in omega (arith, p.place, put_long _ _ _ _ _ p)

pub returns : goal.returns
returns c = put_more _ _ _ _ _ _ _ _ c.put-last.ensures c.put.ensures
