-- Beginnings of decimal numbers. Assumes nothing.
use Rattle.std.proofs.Common.{◌≡◌, ℕ, ◌+◌, ◌*◌, ◌/◌, ◌%◌, ◌^◌, ◌<◌, ◌≤◌, List, [], ◌∷◌, ◌++◌, length, get_or, drop, decimal, sym, ap, ◌∙◌, inr, ⊎_elim, append_assoc, append-nil, arith, length-append, length-drop}
use Rattle.std.proofs.lemmas.Bool.{cases_lt}
use Rattle.std.proofs.lemmas.List.{drop_more, same_from_push}
use Rattle.std.proofs.lemmas.Fmt.{decimal_digit, decimal_step, decimal_by_steps, decimal_nonempty, decimal_injective}
use Rattle.grammar.specs.Grammars.{Edge}
use Rattle.grammar.specs.Decimals.{naturals, Begun, Part, Natural}
use Rattle.grammar.proofs.Theory.{levi, not_nil}

-- one digit more
pub begun_more : (max n d : ℕ) (u : List ℕ) → max < 2 ^ 32 → Begun max u n → d < 10 → 1 ≤ n * 10 + d → n * 10 + d ≤ max → u ++ ((48 + d) ∷ []) ≡ decimal (n * 10 + d)
begun_more max n d u small h lt least most =
    ⊎_elim
    (λ k. let is : n * 10 + d ≡ d = omega (arith, k.1) in ap (λ w. w ++ ((48 + d) ∷ [])) k.0 ∙ sym (decimal_digit d lt) ∙ ap decimal (sym is))
    (λ k.
    let m : ℕ = n * 10 + d in
    let q : m / 10 ≡ n = omega arith in
    let r : m % 10 ≡ d = omega arith in
    sym (decimal_step m (omega (arith, k.1)) (omega arith) ∙ (λ i. decimal (q i) ++ ((48 + r i) ∷ [])) ∙ ap (λ w. w ++ ((48 + d) ∷ [])) (sym k.0)))
    h

-- what begins a number is a number
abbrev Fronts : ℕ → List ℕ → Type 0
Fronts n ds = n < 2 ^ 64 → (ds ≡ decimal n) × (1 ≤ n → (u v : List ℕ) → ds ≡ u ++ v → 0 < length u → (k : ℕ) × (u ≡ decimal k) × (1 ≤ k) × (k ≤ n))

one_front : (n : ℕ) → n < 10 → Fronts n ((48 + n) ∷ [])
one_front n h big = (sym (decimal_digit n h), λ pos u v e some. cut u v e some pos)
  where
    cut : (u v : List ℕ) → (48 + n) ∷ [] ≡ u ++ v → 0 < length u → 1 ≤ n → (k : ℕ) × (u ≡ decimal k) × (1 ≤ k) × (k ≤ n)
    cut [] v e some pos = absurd (omega arith)
    cut (x ∷ []) v e some pos = (n, (let z = decimal_digit n h in cc), pos, omega arith)
    cut (x ∷ y ∷ u) v e some pos = absurd (not_nil {x = y} {xs = u ++ v} (cc))

more_front : (n : ℕ) (ds : List ℕ) → 10 ≤ n → Fronts (n / 10) ds → Fronts n (ds ++ ((48 + n % 10) ∷ []))
more_front n ds ge h big =
    let less : n / 10 < 2 ^ 64 = omega arith in
    let some : 1 ≤ n / 10 = omega arith in
    let k = h less in
    let is : ds ++ ((48 + n % 10) ∷ []) ≡ decimal n = ap (λ w. w ++ ((48 + n % 10) ∷ [])) k.0 ∙ sym (decimal_step n ge big) in (
      is,
      λ pos u v e long.
          ⊎_elim
          (λ r. let z = k.1 some u r.0 r.1 long in (z.0, z.1, z.2, omega (arith, z.3)))
          (λ r. last u v e long is r.0 r.1 r.2 (k.1 some))
          (levi ds ((48 + n % 10) ∷ []) u v e),
    )
  where
    last : (u v : List ℕ) → ds ++ ((48 + n % 10) ∷ []) ≡ u ++ v → 0 < length u → ds ++ ((48 + n % 10) ∷ []) ≡ decimal n → (m : List ℕ) → u ≡ ds ++ m → (48 + n % 10) ∷ [] ≡ m ++ v → ((u v : List ℕ) → ds ≡ u ++ v → 0 < length u → (k : ℕ) × (u ≡ decimal k) × (1 ≤ k) × (k ≤ n / 10)) → (k : ℕ) × (u ≡ decimal k) × (1 ≤ k) × (k ≤ n)
    last u v e long is [] p q rec = let z = rec u [] (sym (append-nil ds) ∙ sym p ∙ sym (append-nil u)) long in (z.0, z.1, z.2, omega (arith, z.3))
    last u v e long is (x ∷ []) p q rec = (n, p ∙ ap (λ b. ds ++ (b ∷ [])) (heads x q) ∙ is, omega arith, omega arith)
      where
        heads : (x : ℕ) → (48 + n % 10) ∷ [] ≡ x ∷ v → x ≡ 48 + n % 10
        heads x q = cc
    last u v e long is (x ∷ y ∷ m) p q rec = absurd (not_nil {x = y} {xs = m ++ v} (cc))

pub front_number : (n : ℕ) → 1 ≤ n → n < 2 ^ 64 → (u v : List ℕ) → decimal n ≡ u ++ v → 0 < length u → (k : ℕ) × (u ≡ decimal k) × (1 ≤ k) × (k ≤ n)
front_number n pos big u v e some = (decimal_by_steps Fronts one_front more_front n big big).1 pos u v e some

-- the last digit of a number
pub last_digit : (max n k b : ℕ) (u : List ℕ) → max < 2 ^ 32 → Begun max u n → u ++ (b ∷ []) ≡ decimal k → 1 ≤ k → k ≤ max → (d : ℕ) × (d < 10) × (b ≡ 48 + d) × (k ≡ n * 10 + d)
last_digit max n k b u small h e pos le =
    ⊎_elim
    (λ lt. ⊎_elim (λ z. single lt z.0 z.1) (λ z. absurd (long lt z.0 z.1 z.2)) h)
    (λ ge.
    let m = same_from_push u (decimal (k / 10)) b (48 + k % 10) (e ∙ decimal_step k ge (omega arith)) in
    ⊎_elim (λ z. absurd (omega (arith, decimal_nonempty (k / 10) (omega arith), ap length (sym z.0 ∙ m.0)))) (λ z. let is : n ≡ k / 10 = decimal_injective n (k / 10) (omega (arith, z.2)) (omega arith) (sym z.0 ∙ m.0) in (k % 10, omega arith, m.1, omega arith)) h)
    (cases_lt k 10)
  where
    single : k < 10 → u ≡ [] → n ≡ 0 → (d : ℕ) × (d < 10) × (b ≡ 48 + d) × (k ≡ n * 10 + d)
    single lt none is = (k, lt, heads (ap (λ w. w ++ (b ∷ [])) (sym none) ∙ e ∙ decimal_digit k lt), omega arith)
      where
        heads : b ∷ [] ≡ (48 + k) ∷ [] → b ≡ 48 + k
        heads q = cc

    long : k < 10 → u ≡ decimal n → 1 ≤ n → n ≤ max → ⊥
    long lt is some most = omega (arith, ap length (e ∙ decimal_digit k lt), length-append u (b ∷ []), ap length is, decimal_nonempty n (omega arith))

module _ (max at : ℕ) (bs : List ℕ) (end n : ℕ) (small : max < 2 ^ 32) (h : Part max at bs end n) where
  pub part_more : (d e m : ℕ) → e ≡ end + 1 → m ≡ n * 10 + d → end < length bs → d < 10 → get_or bs end 0 ≡ 48 + d → 1 ≤ m → m ≤ max → Part max at bs e m
  part_more d e m next more inside lt is pos le = record {
    read = h.read ++ ((48 + d) ∷ []);
    split = h.split ∙ ap (λ w. h.read ++ w) (drop_more bs end 0 inside ∙ (λ i. is i ∷ drop (sym next i) bs)) ∙ sym (append_assoc h.read ((48 + d) ∷ []) (drop e bs));
    place = omega (arith, h.place, length-append h.read ((48 + d) ∷ []));
    within = λ k. omega arith;
    begun = inr (begun_more max n d h.read small h.begun lt (omega arith) (omega arith) ∙ ap decimal (sym more), pos, le);
  }

  pub natural_ends : (end < length bs → (d : ℕ) → d < 10 → get_or bs end 0 ≡ 48 + d → 1 ≤ n * 10 + d → n * 10 + d ≤ max → ⊥) → Natural max at bs end n
  natural_ends bar = record {
    part = h;
    next = λ b x e f.
        let more : end < length bs = omega (arith, ap length e, length-drop end bs) in
        let here : b ∷ x ≡ get_or bs end 0 ∷ drop (end + 1) bs = sym e ∙ drop_more bs end 0 more in
        let k = front_number f.value f.valid.0 (omega (arith, f.valid.1)) (h.read ++ (b ∷ [])) f.rest f.text (omega (arith, length-append h.read (b ∷ []))) in
        let d = last_digit max n k.0 b h.read small h.begun k.1 k.2 (omega (arith, k.3, f.valid.1)) in
        let first : get_or bs end 0 ≡ b = cc in
        bar more d.0 d.1 (first ∙ d.2) (omega (arith, k.2, d.3)) (omega (arith, k.3, d.3, f.valid.1));
  }

-- where there are numbers at all, what was read begins one
pub natural_edge : (max at : ℕ) (bs : List ℕ) (end n : ℕ) → 1 ≤ max → (h : Natural max at bs end n) → Edge (naturals max) h.part.read (drop end bs)
natural_edge max at bs end n some h = record {
  front = ⊎_elim
      (λ z. record { value = 1; valid = (omega arith, some); rest = decimal 1; text = ap (λ w. w ++ decimal 1) (sym z.0) })
      (λ z. record { value = n; valid = (z.1, z.2); rest = []; text = sym z.0 ∙ sym (append-nil _) })
      h.part.begun;
  next = h.next;
}
