-- What joins without regard to levels, and how many labels are their own. Assumes nothing.
use Rattle.std.proofs.Common.{◌≡◌, ℕ, zero, suc, ◌<◌, ◌≤◌, Bool, true, false, cond, eqb, ◌⊎◌, List, [], ◌∷◌, ◌++◌, length, sym, refl, ap, ◌∙◌, inl, inr, ⊎_elim, arith}
use Rattle.std.proofs.lemmas.Bool.{cases_eq, cond-true, cond-false, eq-eqb, ne_eqb}
use Rattle.std.proofs.ByRecursion.{has_append_left, has_push, has_push_cases}
use Rattle.marks.specs.Orders.{OrderLaws}
use Rattle.terrain.specs.Cells.{count_below}
use Rattle.terrain.proofs.Raises.{count_same}
use Rattle.seams.specs.Tilings.{Passes, Chain, stay, hop}
use Rattle.seams.specs.Joins.{Listed, Joined, same, via, NoneAbove, label, Relabelled}
use Rattle.seams.proofs.Chains.{flip}

module _ {M N : Type 0} where
  pub joined_join : {P : Passes M N} {a b c : N} → Joined P a b → Joined P b c → Joined P a c
  joined_join same d = d
  joined_join (via p c) d = via p (joined_join c d)

  pub joined_turn : {P : Passes M N} {a b : N} → Joined P a b → Joined P b a
  joined_turn same = same
  joined_turn (via p c) = joined_join (joined_turn c) (via (flip p) same)

  pub joined_more : {P Q : Passes M N} → ((a b : N) (l : M) → P a b l → Q a b l) → {a b : N} → Joined P a b → Joined Q a b
  joined_more f same = same
  joined_more f (via (inl p) c) = via (inl (f _ _ _ p)) (joined_more f c)
  joined_more f (via (inr p) c) = via (inr (f _ _ _ p)) (joined_more f c)

  -- what each pass keeps, joined nodes have in common
  pub joined_keeps : {P : Passes M N} (f : N → ℕ) → ((a b : N) (l : M) → P a b l → f a ≡ f b) → {a b : N} → Joined P a b → f a ≡ f b
  joined_keeps f k same = refl
  joined_keeps f k (via (inl p) c) = k _ _ _ p ∙ joined_keeps f k c
  joined_keeps f k (via (inr p) c) = sym (k _ _ _ p) ∙ joined_keeps f k c

  pub chain_joined : {leb : M → M → Bool} {P : Passes M N} {t : M} {a b : N} → Chain leb P t a b → Joined P a b
  chain_joined stay = same
  chain_joined (hop p h c) = via p (chain_joined c)

  -- joined over passes of which none is above t
  pub joined_chain : {leb : M → M → Bool} {P : Passes M N} {t : M} → ((a b : N) (l : M) → P a b l → leb l t ≡ true) → {a b : N} → Joined P a b → Chain leb P t a b
  joined_chain f same = stay
  joined_chain f (via (inl p) c) = hop (inl p) (f _ _ _ p) (joined_chain f c)
  joined_chain f (via (inr p) c) = hop (inr p) (f _ _ _ p) (joined_chain f c)

-- one pass more
module _ {M N : Type 0} (leb : M → M → Bool) (ps : List (N × N × M)) (a b : N) (l : M) where
  pub listed_more : (u v : N) (n : M) → Listed ps u v n → Listed (ps ++ ((a, b, l) ∷ [])) u v n
  listed_more u v n h = has_append_left ps _ (u, v, n) h

  pub listed_new : Listed (ps ++ ((a, b, l) ∷ [])) a b l
  listed_new = has_push ps (a, b, l)

  pub none_above_more : NoneAbove leb l ps → leb l l ≡ true → NoneAbove leb l (ps ++ ((a, b, l) ∷ []))
  none_above_more low self u v n h = ⊎_elim (λ k. low u v n k) (λ e. ap (λ (p : N × N × M). leb p.2 l) (sym e) ∙ self) (has_push_cases ps (a, b, l) (u, v, n) h)

  -- a chain goes over the new pass, or over the old ones alone
  pub chain_split : {t : M} {u v : N} → Chain leb (Listed (ps ++ ((a, b, l) ∷ []))) t u v → Chain leb (Listed ps) t u v ⊎ (leb l t ≡ true)
  chain_split stay = inl stay
  chain_split {t} (hop {a = x} {b = y} {c = z} {l = n} p h c) =
      ⊎_elim (λ rest. ⊎_elim (λ q. inl (hop q h rest)) (λ e. inr (ap (λ m. leb m t) e ∙ h)) (old x y n p)) (λ le. inr le) (chain_split c)
    where
      one : (u v : N) (n : M) → Listed (ps ++ ((a, b, l) ∷ [])) u v n → Listed ps u v n ⊎ (l ≡ n)
      one u v n q = ⊎_elim (λ k. inl k) (λ e. inr (ap (λ (p : N × N × M). p.2) e)) (has_push_cases ps (a, b, l) (u, v, n) q)

      old : (u v : N) (n : M) → Listed (ps ++ ((a, b, l) ∷ [])) u v n ⊎ Listed (ps ++ ((a, b, l) ∷ [])) v u n → (Listed ps u v n ⊎ Listed ps v u n) ⊎ (l ≡ n)
      old u v n (inl q) = ⊎_elim (λ k. inl (inl k)) (λ e. inr e) (one u v n q)
      old u v n (inr q) = ⊎_elim (λ k. inl (inr k)) (λ e. inr e) (one v u n q)

pub none_above_raise : {M N : Type 0} {leb : M → M → Bool} → OrderLaws leb → (l m : M) (ps : List (N × N × M)) → leb l m ≡ true → NoneAbove leb l ps → NoneAbove leb m ps
none_above_raise O l m ps le low a b n h = O.transitive n l m (low a b n h) le

pub none_above_none : {M N : Type 0} (leb : M → M → Bool) (l : M) → NoneAbove {M = M} {N = N} leb l []
none_above_none leb l a b m h = absurd (omega (arith, h.1))

-- two tests that differ at one number alone
abbrev one : Bool → ℕ
one b = cond b 1 0

pub count_but_one : (p q : ℕ → Bool) (b m : ℕ) → b < m → p b ≡ true → q b ≡ false → ((z : ℕ) → z < m → (z ≡ b → ⊥) → p z ≡ q z) → count_below p m ≡ suc (count_below q m)
count_but_one p q b zero lt up off else = absurd (omega arith)
count_but_one p q b (suc n) lt up off else = ⊎_elim
    (λ (e : b ≡ n).
    let here : p n ≡ true = ap p (sym e) ∙ up in
    let there : q n ≡ false = ap q (sym e) ∙ off in
    let rest : count_below p n ≡ count_below q n = count_same p q n (λ z l. else z (omega arith) (λ f. omega arith)) in
    omega (arith, ap one here, ap one there))
    (λ (ne : b ≡ n → ⊥).
    let here : p n ≡ q n = else n (omega arith) (λ f. ne (sym f)) in
    let rest = count_but_one p q b n (omega (arith, ne)) up off (λ z l f. else z (omega arith) f) in
    omega (arith, ap one here))
    (cases_eq b n)

pub count_all : (p : ℕ → Bool) (m : ℕ) → ((z : ℕ) → z < m → p z ≡ true) → count_below p m ≡ m
count_all p zero up = refl
count_all p (suc n) up = omega (arith, ap one (up n (omega arith)), count_all p n (λ z l. up z (omega arith)))

pub count_none : (m : ℕ) → count_below (λ z. false) m ≡ 0
count_none zero = refl
count_none (suc n) = omega (arith, count_none n)

pub count_some : (p : ℕ → Bool) (b m : ℕ) → b < m → p b ≡ true → 1 ≤ count_below p m
count_some p b m lt up = omega (arith, count_but_one p (λ z. cond (eqb z b) false (p z)) b m lt up (cond-true (eqb b b) false (p b) (eq-eqb b b refl)) (λ z l ne. sym (cond-false (eqb z b) false (p z) (ne_eqb z b ne))))

pub count_two : (p : ℕ → Bool) (a b m : ℕ) → a < m → b < m → (a ≡ b → ⊥) → p a ≡ true → p b ≡ true → 2 ≤ count_below p m
count_two p a b m la lb ne pa pb =
    let q : ℕ → Bool = λ z. cond (eqb z b) false (p z) in
    let one_less = count_but_one p q b m lb pb (cond-true (eqb b b) false (p b) (eq-eqb b b refl)) (λ z l other. sym (cond-false (eqb z b) false (p z) (ne_eqb z b other))) in
    omega (arith, one_less, count_some q a m la (cond-false (eqb a b) false (p a) (ne_eqb a b ne) ∙ pa))

-- the label of a mouth after relabelling
module _ (labels labels' : List ℕ) (a b : ℕ) (R : Relabelled labels labels' a b) where
  pub relabel_moved : (x : ℕ) → x < length labels → label labels x ≡ b → label labels' x ≡ a
  relabel_moved x lt e = R.each x lt ∙ cond-true _ _ _ (eq-eqb (label labels x) b e)

  pub relabel_kept : (x : ℕ) → x < length labels → (label labels x ≡ b → ⊥) → label labels' x ≡ label labels x
  relabel_kept x lt ne = R.each x lt ∙ cond-false _ _ _ (ne_eqb (label labels x) b ne)
