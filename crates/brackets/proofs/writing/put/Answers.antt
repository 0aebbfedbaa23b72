use Rattle.std.proofs.Common.{arith}
use Rattle.brackets.proofs.Puts.{put_once}
use Rattle.brackets.proofs.writing.put.Goals as goal

pub returns : goal.returns
returns c = put_once c.args.out.now _ c.args.word.now c.args.at _ c.copy_from_slice.ensures.after (omega arith) c.requires
