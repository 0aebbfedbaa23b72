use Rattle.std.proofs.Common.{◌≡◌}
use Rattle.sheets.proofs.Codes.{Packing}
use Rattle.sheets.proofs.packed.PackedWritableSheet.write.Given as goal

abbrev pub invariant-loop-k : goal.invariant-loop-k
invariant-loop-k g l =
    (l.self.rows ≡ l.initial.self.rows)
    × (l.self.cols ≡ l.initial.self.cols)
    × Packing g.M.CodedMark.coded l.initial.self.bytes.now l.self.bytes.now l.marks l.from l.k
    × (l.self.bytes.ghost_name ≡ l.initial.self.bytes.ghost_name)
