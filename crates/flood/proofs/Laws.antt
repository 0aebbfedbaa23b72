-- The laws of an order and of a ground, as the lemmas take them. Assumes nothing.
use Rattle.std.proofs.Common.{◌≡◌, ℕ, ◌<◌, true, false, Some}
use Rattle.std.specs.List.{slice_get}
use Rattle.marks.specs.Orders.{OrderLaws}
use Rattle.marks.specs.declared.order.Order as order
use Rattle.flood.specs.Grounds.{Graph, Laws}
use Rattle.flood.specs.Of.{graph_of}
use Rattle.flood.specs.declared.ground.Ground as ground

pub record Lawful {M : Type 0} (g : Graph M) : Type 0 where
  pub total : (x y : M) → g.leb x y ≡ false → g.leb y x ≡ true
  pub transitive : (x y z : M) → g.leb x y ≡ true → g.leb y z ≡ true → g.leb x z ≡ true
  pub antisymmetric : (x y : M) → g.leb x y ≡ true → g.leb y x ≡ true → x ≡ y
  pub within : (u j v : ℕ) (w : M) → slice_get (g.crossings u) j ≡ Some (v, w) → v < g.nodes
  pub back : (u j v : ℕ) (w : M) → slice_get (g.crossings u) j ≡ Some (v, w) → (k : ℕ) × (slice_get (g.crossings v) k ≡ Some (u, w))

pub lawful : {M : Type 0} (g : Graph M) → OrderLaws g.leb → Laws g.nodes g.crossings g.drain → Lawful g
lawful g o l = record { total = o.total; transitive = o.transitive; antisymmetric = o.antisymmetric; within = l.within; back = l.back }

-- of the ground x
pub lawful_of : {G M : Type 0} (m : order.Ghosts M) (s : ground.Ghosts G M) (x : G)
    → ((x y : M) → m.leb x y ≡ false → m.leb y x ≡ true)
    → ((x y z : M) → m.leb x y ≡ true → m.leb y z ≡ true → m.leb x z ≡ true)
    → ((x y : M) → m.leb x y ≡ true → m.leb y x ≡ true → x ≡ y)
    → Lawful (graph_of m s x)
lawful_of m s x a b c = lawful (graph_of m s x) (record { total = a; transitive = b; antisymmetric = c }) (s.laws x)
