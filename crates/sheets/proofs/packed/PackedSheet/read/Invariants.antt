use Rattle.std.proofs.Common.{◌≡◌, ℕ, ◌+◌, ◌<◌}
use Rattle.sheets.specs.Grids.{at}
use Rattle.sheets.specs.Layouts.{code_cell}
use Rattle.sheets.proofs.packed.PackedSheet.read.Given as goal

abbrev pub invariant-loop-k : goal.invariant-loop-k
invariant-loop-k g l = (k : ℕ) → k < l.k → code_cell g.M.CodedMark.decoded l.self.bytes.now (l.from + k) ≡ at l.out k
