-- What the contracts of the flood's steps cite. Assumes nothing.
use Rattle.std.specs.Prelude.{◌≡◌, ℕ, ◌+◌, ◌≤◌, List, length, drop, Option}
use Rattle.flood.specs.Grounds.{Graph}
use Rattle.flood.specs.Heaps.{room}
use Rattle.flood.specs.Queues.{waiting}
use Rattle.flood.specs.State.{missing, Going, Spreading}
use Rattle.flood.specs.declared.entry.Entry.{Entry}
use Rattle.flood.specs.declared.queue.Queue.{Queue}

module _ {M : Type 0} {m : _} {o : _} {e : _} where
  -- how many turns are left at most
  abbrev pub turns : ℕ → List (Option M) → Queue M m o e → ℕ
  turns n ls s = s.heap.now.len + missing n ls

  -- there is room for n nodes
  pub record Roomy (n : ℕ) (ls : List (Option M)) (s : Queue M m o e) : Type 0 where
    pub levels : n ≤ length ls
    pub origins : n ≤ length s.origins.now
    pub slots : n ≤ room s.heap.now

  -- each of n nodes that has no level yet can still wait
  abbrev pub Free : ℕ → List (Option M) → Queue M m o e → Type 0
  Free n ls s = turns n ls s ≤ n

  -- between two turns
  abbrev pub Between : Graph M → List (Option M) → Queue M m o e → Type 0
  Between g ls s = Roomy g.nodes ls s × Free g.nodes ls s × Going g ls s.origins.now (waiting s)

  -- in the turn of the node of x, which has passed its level on at its first j crossings
  abbrev pub Within : Graph M → Entry M → ℕ → List (Option M) → Queue M m o e → Type 0
  Within g x j ls s = Roomy g.nodes ls s × Free g.nodes ls s × Spreading g x j ls s.origins.now (waiting s)

  -- what stays: the slice that the queue holds, and what lies past the first n
  pub record Stays (n : ℕ) (ls : List (Option M)) (s : Queue M m o e) (ls' : List (Option M)) (s' : Queue M m o e) : Type 0 where
    pub loan : s'.origins.ghost_name ≡ s.origins.ghost_name
    pub levels : drop n ls' ≡ drop n ls
    pub origins : drop n s'.origins.now ≡ drop n s.origins.now
