-- Chains of passes: joined, turned, raised, widened and carried over. Assumes nothing.
use Rattle.std.proofs.Common.{◌≡◌, Bool, true, ◌⊎◌, inl, inr}
use Rattle.marks.specs.Orders.{OrderLaws}
use Rattle.seams.specs.Tilings.{Passes, Chain, stay, hop}

pub flip : {A B : Type 0} → A ⊎ B → B ⊎ A
flip (inl x) = inr x
flip (inr x) = inl x

module _ {M N : Type 0} {leb : M → M → Bool} where
  pub chain_join : {P : Passes M N} {t : M} {a b c : N} → Chain leb P t a b → Chain leb P t b c → Chain leb P t a c
  chain_join stay d = d
  chain_join (hop p h c) d = hop p h (chain_join c d)

  pub chain_turn : {P : Passes M N} {t : M} {a b : N} → Chain leb P t a b → Chain leb P t b a
  chain_turn stay = stay
  chain_turn (hop p h c) = chain_join (chain_turn c) (hop (flip p) h stay)

  pub chain_raise : OrderLaws leb → {P : Passes M N} {s t : M} → leb s t ≡ true → {a b : N} → Chain leb P s a b → Chain leb P t a b
  chain_raise O le stay = stay
  chain_raise O le (hop p h c) = hop p (O.transitive _ _ _ h le) (chain_raise O le c)

-- over a map of the nodes that carries passes to passes
module _ {M N K : Type 0} {leb : M → M → Bool} {P : Passes M N} {Q : Passes M K} (f : N → K) (carried : (a b : N) (l : M) → P a b l → Q (f a) (f b) l) where
  pub chain_map : {t : M} {a b : N} → Chain leb P t a b → Chain leb Q t (f a) (f b)
  chain_map stay = stay
  chain_map (hop (inl p) h c) = hop (inl (carried _ _ _ p)) h (chain_map c)
  chain_map (hop (inr p) h c) = hop (inr (carried _ _ _ p)) h (chain_map c)
