-- The order of two entries: by the level, among equal levels by the node, and then by the origin. Assumes nothing.
use Rattle.std.specs.Prelude.{Bool, true, false, cond, nat_le}
use Rattle.flood.specs.declared.entry.Entry.{Entry}

-- of two tests each way round, and what decides between equals: the first is before, or equal and so decided
abbrev pub lexical : Bool → Bool → Bool → Bool
lexical less more then = cond less (cond more then true) false

-- the first entry is at most the second
abbrev pub before : {M : Type 0} → (M → M → Bool) → Entry M → Entry M → Bool
before le a b =
    lexical (le a.level b.level) (le b.level a.level)
    (lexical (nat_le a.node b.node) (nat_le b.node a.node) (nat_le a.origin b.origin))
