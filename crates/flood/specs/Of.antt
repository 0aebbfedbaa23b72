-- The graph that a value of a ground's type stands for. Assumes nothing.
use Rattle.flood.specs.Grounds.{Graph, graph}
use Rattle.flood.specs.declared.ground.Ground as ground
use Rattle.marks.specs.declared.order.Order as order

-- the graph of the ground x
abbrev pub graph_of : {G M : Type 0} → order.Ghosts M → ground.Ghosts G M → G → Graph M
graph_of m s x = graph m.leb (s.nodes x) (s.crossings x) (s.drain x)
