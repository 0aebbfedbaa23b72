use Rattle.std.proofs.Common.{◌≡◌, ◌≤◌}
use Rattle.terrain.specs.Levels.{Raised, risen}
use Rattle.terrain.specs.Terrains.{kind_of}
use Rattle.terrain.proofs.fill.raise.Given as goal

abbrev pub invariant-loop-k : goal.invariant-loop-k
invariant-loop-k g l =
    Raised (kind_of g.M.Order g.M.Mark.lowest) l.initial.marks l.marks l.levels l.k
    × (l.raised ≡ risen (kind_of g.M.Order g.M.Mark.lowest) l.initial.marks l.levels l.k)
    × (l.raised ≤ l.k)
