-- Elements that rise and sink in a heap. Assumes nothing.
use Rattle.std.proofs.Common.{◌≡◌, ℕ, zero, suc, ◌+◌, ◌-◌, ◌*◌, ◌/◌, ◌<◌, ◌≤◌, min, Bool, true, false, ◌⊎◌, List, [], ◌∷◌, ◌++◌, length, get_or, take, set, Some, sym, refl, ap, ◌∙◌, subst, inl, inr, arith, length-take}
use Rattle.std.specs.List.Sorted.{IsPermutation}
use Rattle.std.specs.List.{AllByRecursion, slice_get}
use Rattle.std.proofs.lemmas.List.{set-set, set_comm, length-set, get_or-take, get_or-set_same, get_or-set_other, length-take-le, take_more, take_more_set}
use Rattle.std.proofs.lemmas.Option.{slice_get-get_or, slice_get_within, get_or_from_slice_get}
use Rattle.std.proofs.lemmas.List.Edits.{swap_is}
use Rattle.std.proofs.ByRecursion.{All-from_get_or}
use Rattle.std.proofs.lemmas.List.Sorted.{IsPermutation-swap, IsPermutation-refl, IsPermutation-trans, IsPermutation-to_front, IsPermutation-sym, IsPermutation-cons}
use Rattle.std.proofs.lemmas.Bool.{cases_eq, cases_Bool}
use Rattle.flood.specs.Orders.{Ordered, Gap, Least, Rising, Sinking, Rises, Sinks, Best, Above, Above.stands, Above.climbs, Moves}

pub cases : {A B C : Type 0} → A ⊎ B → (A → C) → (B → C) → C
cases (inl a) f g = f a
cases (inr b) f g = g b

-- what `swap` ensures, by places
abbrev pub Swap : {X : Type 0} → List X → List X → ℕ → ℕ → Type 0
Swap {X} xs ys a b =
    ((d : X) → get_or ys a d ≡ get_or xs b d) × ((d : X) → get_or ys b d ≡ get_or xs a d)
    × ((k : ℕ) (d : X) → (k ≡ a → ⊥) → (k ≡ b → ⊥) → get_or ys k d ≡ get_or xs k d)
    × ((d : X) → ys ≡ set (set xs a (get_or xs b d)) b (get_or xs a d))

pub take_set : {X : Type 0} (xs : List X) (n i : ℕ) (y : X) → take n (set xs i y) ≡ set (take n xs) i y
take_set [] zero i y = refl
take_set [] (suc n) i y = refl
take_set (x ∷ xs) zero zero y = refl
take_set (x ∷ xs) zero (suc i) y = refl
take_set (x ∷ xs) (suc n) zero y = refl
take_set {X} (x ∷ xs) (suc n) (suc i) y = ap (λ (l : List X). x ∷ l) (take_set xs n i y)

-- a swap below n shuffles the first n
pub swap_front : {X : Type 0} (xs ys : List X) (n a b : ℕ) (d : X) → a < n → b < n → n ≤ length xs → Swap xs ys a b → IsPermutation (take n xs) (take n ys)
swap_front xs ys n a b d p q le s =
    let t = take n xs in
    let long : length t ≡ n = length-take-le n xs le in
    let p' : a < length t = omega arith in
    let q' : b < length t = omega arith in
    let ea = get_or-take n xs a d p in
    let eb = get_or-take n xs b d q in
    IsPermutation-swap t (take n ys) a b p' q'
    (ap (take n) (s.3 d) ∙ take_set (set xs a (get_or xs b d)) n b (get_or xs a d) ∙ ap (λ l. set l b (get_or xs a d)) (take_set xs n a (get_or xs b d))
    ∙ (λ k. set (set t a (sym eb k)) b (sym ea k)) ∙ swap_is t a b d p' q')

pub swap_turned : {X : Type 0} (xs ys : List X) (a b : ℕ) → (a ≡ b → ⊥) → Swap xs ys a b → Swap xs ys b a
swap_turned xs ys a b ne s = (s.1, s.0, λ k d u v. s.2 k d v u, λ d. s.3 d ∙ set_comm xs a b (get_or xs b d) (get_or xs a d) ne)

-- x, which was to stand at the hole h, is to stand at o, and what stood there fills the hole
pub hole_moves : {X : Type 0} (ys : List X) (h o : ℕ) (x p : X) → (h ≡ o → ⊥) → h < length ys → o < length ys → ((d : X) → get_or ys o d ≡ p) → Swap (set ys h x) (set (set ys h p) o x) h o
hole_moves {X} ys h o x p ne in-h in-o is =
    let xs = set ys h x in
    let zs = set ys h p in
    let back : o ≡ h → ⊥ = λ e. ne (sym e) in
    let long = length-set ys h p in
    let at-o : (d : X) → get_or xs o d ≡ p = λ d. get_or-set_other ys h o x d back ∙ is d in
    let at-h : (d : X) → get_or xs h d ≡ x = λ d. get_or-set_same ys h x d in-h in (
      λ d. get_or-set_other zs o h x d ne ∙ get_or-set_same ys h p d in-h ∙ sym (at-o d),
      λ d. get_or-set_same zs o x d (omega arith) ∙ sym (at-h d),
      λ k d u v. get_or-set_other zs o k x d v ∙ get_or-set_other ys h k p d u ∙ sym (get_or-set_other ys h k x d u),
      λ d. sym (ap (λ z. set (set xs h z) o (get_or xs h d)) (at-o d) ∙ ap (λ z. set (set xs h p) o z) (at-h d) ∙ ap (λ l. set l o x) (set-set ys h x p)),
    )

-- how x and what stands at o compare
pub hole_compares : {X : Type 0} (P : X → X → Type 0) (ys : List X) (h o : ℕ) (x p : X) → (h ≡ o → ⊥) → h < length ys → ((d : X) → get_or ys o d ≡ p) → P x p → (d : X) → P (get_or (set ys h x) h d) (get_or (set ys h x) o d)
hole_compares P ys h o x p ne in-h is t d =
    subst (λ z. P z (get_or (set ys h x) o d)) (sym (get_or-set_same ys h x d in-h)) (subst (P x) (sym (get_or-set_other ys h o x d (λ e. ne (sym e)) ∙ is d)) t)

-- the path to the root

above_parent : {j k : ℕ} → 0 < k → Above j k → Above j ((k - 1) / 2)
above_parent p stands = climbs p stands
above_parent p (climbs q a) = climbs q (above_parent p a)

above_first : (fuel j : ℕ) → j ≤ fuel → Above j 0
above_first zero j le = let e : 0 ≡ j = omega arith in subst (λ n. Above n 0) e stands
above_first (suc fuel) j le = cases (cases_eq j 0) (λ e. let e' : 0 ≡ j = omega arith in subst (λ n. Above n 0) e' stands) (λ ne. climbs (omega arith) (above_first fuel ((j - 1) / 2) (omega arith)))

-- `rise`: it has come from j₀ to j
pub Climbed : {X : Type 0} → List X → ℕ → List X → ℕ → Type 0
Climbed xs j₀ ys j = Above j₀ j × ((n : ℕ) → Moves xs ys n j₀ j)

pub climb_begins : {X : Type 0} (xs : List X) (j : ℕ) → Climbed xs j xs j
unfolding Climbed Moves
climb_begins xs j = (stands, λ n k d h. inl refl)

pub climb_steps : {X : Type 0} (xs ys zs : List X) (j₀ c : ℕ) → 0 < c → Swap ys zs ((c - 1) / 2) c → Climbed xs j₀ ys c → Climbed xs j₀ zs ((c - 1) / 2)
unfolding Climbed Moves
climb_steps xs ys zs j₀ c pos s was = (
  above_parent pos was.0,
  λ n k d h. cases (cases_eq k c)
      (λ e. inr (subst (Above j₀) (sym e) was.0, omega arith))
      (λ v. cases (cases_eq k ((c - 1) / 2))
      (λ e. inr (subst (Above j₀) (sym e) (above_parent pos was.0), omega arith))
      (λ u. cases (was.1 n k d h) (λ e. inl (s.2 k d u v ∙ e)) (λ a. inr (a.0, omega (arith, a.1))))),
)

pub climb_ends : {X : Type 0} (xs ys : List X) (j₀ j : ℕ) → Climbed xs j₀ ys j → (n : ℕ) → Moves xs ys n j₀ j
unfolding Climbed
climb_ends xs ys j₀ j was = was.1

-- `sink`: it has come from 0 to j
pub fall_begins : {X : Type 0} (xs : List X) (n : ℕ) → Moves xs xs n 0 0
unfolding Moves
fall_begins xs n = λ k d h. inl refl

pub fall_steps : {X : Type 0} (xs ys zs : List X) (n j c : ℕ) → j * 2 + 1 ≤ c → c ≤ j * 2 + 2 → Swap ys zs j c → Moves xs ys n j 0 → Moves xs zs n c 0
unfolding Moves
fall_steps xs ys zs n j c from to s was =
    let parent : j ≡ (c - 1) / 2 = omega arith in
    let below : (k : ℕ) → Above j k → Above c k = λ k a. climbs (omega arith) (subst (λ i. Above i k) parent a) in
    λ k d h. cases (cases_eq k c)
    (λ e. inr (subst (Above c) (sym e) stands, omega arith))
    (λ v. cases (cases_eq k j)
    (λ e. inr (below k (subst (Above j) (sym e) stands), omega arith))
    (λ u. cases (was k d h) (λ e. inl (s.2 k d u v ∙ e)) (λ a. inr (below k a.0, omega arith))))

-- `put` and `lower`: x stands at i, and rises to head
pub set_moves : {X : Type 0} (xs ys : List X) (i head n : ℕ) (x : X) → head ≤ i → Moves (set xs i x) ys n i head → Moves xs ys n i head
unfolding Moves
set_moves xs ys i head n x le was = λ k d h. cases (cases_eq k i)
    (λ e. inr (subst (Above i) (sym e) stands, omega arith))
    (λ ne. cases (was k d h) (λ e. inl (e ∙ get_or-set_other xs i k x d ne)) (λ a. inr a))

-- `take`: the first and the last change places, and the new first sinks
pub take_moves : {X : Type 0} (xs ys zs : List X) (m foot : ℕ) → Swap xs ys 0 m → Moves ys zs m foot 0 → Moves xs zs m foot 0
unfolding Moves
take_moves xs ys zs m foot s was = λ k d h. cases (cases_eq k 0)
    (λ e. inr (subst (Above foot) (sym e) (above_first foot foot (omega arith)), omega arith))
    (λ ne. cases (was k d h) (λ e. inl (e ∙ s.2 k d ne (omega arith))) (λ a. inr a))

-- what stands at a place of the first n
pub front : {X : Type 0} (n i : ℕ) (xs : List X) (x : X) → n ≤ length xs → slice_get (take n xs) i ≡ Some x → (i < n) × ((d : X) → get_or xs i d ≡ x)
front n i xs x le is =
    let lt : i < n = omega (arith, length-take-le n xs le, slice_get_within (take n xs) i x is) in
    (lt, λ d. sym (get_or-take n xs i d lt) ∙ get_or_from_slice_get (take n xs) i x d is)

-- what lies past the slice's end does not count
pub take_min : {X : Type 0} (n : ℕ) (xs : List X) → take n xs ≡ take (min n (length xs)) xs
take_min zero xs = let e : 0 ≡ min 0 (length xs) = omega arith in ap (λ m. take m xs) e
take_min (suc n) [] = let e : 0 ≡ min (suc n) 0 = omega arith in ap (λ m. take m []) e
take_min {X} (suc n) (x ∷ xs) =
    let e : min (suc n) (length (x ∷ xs)) ≡ suc (min n (length xs)) = omega arith in
    ap (λ (l : List X). x ∷ l) (take_min n xs) ∙ ap (λ m. take m (x ∷ xs)) (sym e)

-- what stands otherwise among the first n of ys than among the first m of xs stands on the path
pub traced : {X : Type 0} (xs ys : List X) (m n foot head : ℕ) (d : X) → length ys ≡ length xs
    → ((k : ℕ) → k < n → (k < m) ⊎ ((k ≡ foot) × (head ≤ k))) → Moves xs ys n foot head
    → (k : ℕ) → k < length (take n ys) → (slice_get (take n ys) k ≡ slice_get (take m xs) k) ⊎ (Above foot k × (head ≤ k))
unfolding Moves
traced xs ys m n foot head d long old was k lt =
    let in-n : k < n = omega (arith, length-take n ys) in
    let in_ys : k < length ys = omega (arith, length-take n ys) in
    cases (old k in-n)
    (λ (in-m : k < m). cases (was k d in-n)
    (λ e.
    let in-xs : k < length (take m xs) = simp length-take (omega arith) in
    inl (slice_get-get_or (take n ys) k d lt ∙ ap Some (get_or-take n ys k d in-n ∙ e ∙ sym (get_or-take m xs k d in-m)) ∙ sym (slice_get-get_or (take m xs) k d in-xs)))
    (λ a. inr a))
    (λ e. inr (subst (Above foot) (sym e.0) stands, e.1))

module _ {X : Type 0} (le : X → X → Bool) where
  by : (a b x y : X) → a ≡ x → b ≡ y → le x y ≡ true → le a b ≡ true
  by a b x y p q h = (λ k. le (p k) (q k)) ∙ h

  closes : (xs : List X) (j n : ℕ) → ((p : ℕ) (d : X) → p * 2 + 1 ≤ j → j ≤ p * 2 + 2 → le (get_or xs p d) (get_or xs j d) ≡ true) → Rising le xs j n → Ordered le xs n
  closes xs j n over h = λ p k d a b f. cases (cases_eq p j)
      (λ e. by _ _ _ _ (ap (λ m. get_or xs m d) e) refl (h.1 k d (omega arith) (omega arith) f))
      (λ u. cases (cases_eq k j)
      (λ e. by _ _ _ _ refl (ap (λ m. get_or xs m d) e) (over p d (omega arith) (omega arith)))
      (λ v. h.0.0 p k d a b f u v))

  module _ (tr : (x y z : X) → le x y ≡ true → le y z ≡ true → le x z ≡ true) where
    -- the element at c rises to its parent j
    up : (xs ys : List X) (j c n : ℕ) → j * 2 + 1 ≤ c → c ≤ j * 2 + 2 → c < n → Swap xs ys j c → ((d : X) → le (get_or xs c d) (get_or xs j d) ≡ true) → Gap le xs c n → Rising le ys j n
    up xs ys j c n from to in' s t h = (
      (
        λ p k d a b f u v. cases (cases_eq p c)
            (λ e. by _ _ _ _ (ap (λ m. get_or ys m d) e ∙ s.1 d) (s.2 k d v (omega arith)) (h.1 j k d from to (omega arith) (omega arith) f))
            (λ w. let z : k ≡ c → ⊥ = omega arith in by _ _ _ _ (s.2 p d u w) (s.2 k d v z) (h.0 p k d a b f w z)),
        λ p k d a b f g i.
            let over = h.0 p j d a b (omega arith) (omega arith) (omega arith) in
            let same = s.2 p d (omega arith) (omega arith) in
            cases (cases_eq k c)
            (λ e. by _ _ _ _ same (ap (λ m. get_or ys m d) e ∙ s.1 d) over)
            (λ w. by _ _ _ _ same (s.2 k d (omega arith) w) (tr _ _ _ over (h.0 j k d f g i (omega arith) w))),
      ),
      λ k d a b f. cases (cases_eq k c)
          (λ e. by _ _ _ _ (s.0 d) (ap (λ m. get_or ys m d) e ∙ s.1 d) (t d))
          (λ w. by _ _ _ _ (s.0 d) (s.2 k d (omega arith) w) (tr _ _ _ (t d) (h.0 j k d a b f (omega arith) w))),
    )

    -- the element at j sinks to its lesser child c
    down : (xs ys : List X) (j c n : ℕ) → j * 2 + 1 ≤ c → c ≤ j * 2 + 2 → c < n → Swap xs ys j c → ((d : X) → le (get_or xs c d) (get_or xs j d) ≡ true) → Least le xs j c n → Sinking le xs j n → Sinking le ys c n
    down xs ys j c n from to in' s t g h = (
      λ p k d a b f u. cases (cases_eq p j)
          (λ e. cases (cases_eq k c)
          (λ i. by _ _ _ _ (ap (λ m. get_or ys m d) e ∙ s.0 d) (ap (λ m. get_or ys m d) i ∙ s.1 d) (t d))
          (λ i. by _ _ _ _ (ap (λ m. get_or ys m d) e ∙ s.0 d) (s.2 k d (omega arith) i) (g k d (omega arith) (omega arith) f)))
          (λ e. cases (cases_eq k j)
          (λ i. by _ _ _ _ (s.2 p d e u) (ap (λ m. get_or ys m d) i ∙ s.0 d) (h.1 p c d (omega arith) (omega arith) from to in'))
          (λ i. by _ _ _ _ (s.2 p d e u) (s.2 k d i (omega arith)) (h.0 p k d a b f e))),
      λ p k d a b f g' i.
          let e : p ≡ j = omega arith in
          by _ _ _ _ (ap (λ m. get_or ys m d) e ∙ s.0 d) (s.2 k d (omega arith) (omega arith)) (h.0 c k d f g' i (omega arith)),
    )

    rests : (xs : List X) (j c n : ℕ) → ((d : X) → le (get_or xs j d) (get_or xs c d) ≡ true) → Least le xs j c n → Sinking le xs j n → Ordered le xs n
    rests xs j c n t g h = λ p k d a b f. cases (cases_eq p j)
        (λ e. by _ _ _ _ (ap (λ m. get_or xs m d) e) refl (tr _ _ _ (t d) (g k d (omega arith) (omega arith) f)))
        (λ e. h.0 p k d a b f e)

    -- `rise`: the element that began at j₀ in xs is at j in ys
    pub Risen : List X → ℕ → List X → ℕ → Type 0
    Risen xs j₀ ys j = (n : ℕ) → j₀ < n → n ≤ length xs → IsPermutation (take n xs) (take n ys) × (Rising le xs j₀ n → Rising le ys j n)

    pub rise_begins : (xs : List X) (j : ℕ) → Risen xs j xs j
    unfolding Risen
    rise_begins xs j = λ n p q. (IsPermutation-refl (take n xs), λ h. h)

    pub rise_steps : (xs ys zs : List X) (j₀ j c : ℕ) (d : X) → j * 2 + 1 ≤ c → c ≤ j * 2 + 2 → c ≤ j₀ → length ys ≡ length xs → Swap ys zs j c → ((d : X) → le (get_or ys c d) (get_or ys j d) ≡ true) → Risen xs j₀ ys c → Risen xs j₀ zs j
    unfolding Risen
    rise_steps xs ys zs j₀ j c d from to at long s t was = λ n p q. (
      IsPermutation-trans _ _ _ (was n p q).0 (swap_front ys zs n j c d (omega arith) (omega arith) (omega arith) s),
      λ h. up ys zs j c n from to (omega arith) s t ((was n p q).1 h).0,
    )

    pub rise_tops : (xs ys : List X) (j₀ j : ℕ) → j ≡ 0 → Risen xs j₀ ys j → Rises le xs j₀ ys
    unfolding Risen Rises
    rise_tops xs ys j₀ j z was = λ n p q. ((was n p q).0, λ h. closes ys j n (λ k d a b. absurd (omega arith)) ((was n p q).1 h))

    pub rise_rests : (xs ys : List X) (j₀ j c : ℕ) → j * 2 + 1 ≤ c → c ≤ j * 2 + 2 → ((d : X) → le (get_or ys j d) (get_or ys c d) ≡ true) → Risen xs j₀ ys c → Rises le xs j₀ ys
    unfolding Risen Rises
    rise_rests xs ys j₀ j c from to t was = λ n p q. (
      (was n p q).0,
      λ h. closes ys c n (λ k d a b. let e : k ≡ j = omega arith in by _ _ _ _ (ap (λ m. get_or ys m d) e) refl (t d)) ((was n p q).1 h),
    )

    -- `sink`: the element that began at 0 in xs is at j in ys
    pub Sunk : List X → ℕ → List X → ℕ → Type 0
    Sunk xs n ys j = IsPermutation (take n xs) (take n ys) × (Sinking le xs 0 n → Sinking le ys j n)

    pub sink_begins : (xs : List X) (n : ℕ) → Sunk xs n xs 0
    unfolding Sunk
    sink_begins xs n = (IsPermutation-refl (take n xs), λ h. h)

    pub sink_steps : (xs ys zs : List X) (n j c : ℕ) (d : X) → j * 2 + 1 ≤ c → c ≤ j * 2 + 2 → c < n → n ≤ length ys → Swap ys zs j c → ((d : X) → le (get_or ys c d) (get_or ys j d) ≡ true) → Best le ys j c n → Sunk xs n ys j → Sunk xs n zs c
    unfolding Sunk Best
    sink_steps xs ys zs n j c d from to in' long s t g was = (
      IsPermutation-trans _ _ _ was.0 (swap_front ys zs n j c d (omega arith) in' long s),
      λ h. down ys zs j c n from to in' s t g (was.1 h),
    )

    pub sink_rests : (xs ys : List X) (n j c : ℕ) → ((d : X) → le (get_or ys j d) (get_or ys c d) ≡ true) → Best le ys j c n → Sunk xs n ys j → Sinks le xs n ys
    unfolding Sunk Sinks Best
    sink_rests xs ys n j c t g was = (was.0, λ h. rests ys j c n t g (was.1 h))

    pub sink_ends : (xs ys : List X) (n j : ℕ) → n / 2 ≤ j → Sunk xs n ys j → Sinks le xs n ys
    unfolding Sunk Sinks
    sink_ends xs ys n j leaf was = (was.0, λ h p k d a b f. (was.1 h).0 p k d a b f (omega arith))

    -- `put`: x stands at the end, and rises
    pub put_ordered : (xs ys : List X) (n : ℕ) (x : X) → n < length xs → Ordered le xs n → Rises le (set xs n x) n ys → Ordered le ys (n + 1)
    unfolding Rises
    put_ordered xs ys n x in' h r = (r (n + 1) (omega arith) (omega (arith, length-set xs n x))).1 (
      (
        λ p k d a b f u v. by _ _ _ _ (get_or-set_other xs n p x d u) (get_or-set_other xs n k x d v) (h p k d a b (omega arith)),
        λ p k d a b f g i. absurd (omega arith),
      ),
      λ k d a b f. absurd (omega arith),
    )

    pub put_shuffled : (xs ys : List X) (n : ℕ) (x : X) → n < length xs → Rises le (set xs n x) n ys → IsPermutation (x ∷ take n xs) (take (n + 1) ys)
    unfolding Rises
    put_shuffled xs ys n x in' r = IsPermutation-trans _ _ _
        (subst (IsPermutation (x ∷ take n xs)) (sym (take_more_set xs n x in')) (IsPermutation-sym _ _ (IsPermutation-to_front (take n xs) x)))
        (r (n + 1) (omega arith) (omega (arith, length-set xs n x))).0

    -- `lower`: x stands where a greater element was, and rises
    pub lower_ordered : (xs ys : List X) (i n : ℕ) (x : X) → i < n → n ≤ length xs → ((d : X) → le x (get_or xs i d) ≡ true) → Ordered le xs n → Rises le (set xs i x) i ys → Ordered le ys n
    unfolding Rises
    lower_ordered xs ys i n x at in' t h r = (r n at (omega (arith, length-set xs i x))).1 (
      (
        λ p k d a b f u v. by _ _ _ _ (get_or-set_other xs i p x d u) (get_or-set_other xs i k x d v) (h p k d a b f),
        λ p k d a b f g q. by _ _ _ _ (get_or-set_other xs i p x d (omega arith)) (get_or-set_other xs i k x d (omega arith)) (tr _ _ _ (h p i d a b at) (h i k d f g q)),
      ),
      λ k d a b f. by _ _ _ _ (get_or-set_same xs i x d (omega arith)) (get_or-set_other xs i k x d (omega arith)) (tr _ _ _ (t d) (h i k d a b f)),
    )

    pub lower_shuffled : (xs ys : List X) (i n : ℕ) (x : X) → i < n → n ≤ length xs → Rises le (set xs i x) i ys → IsPermutation (set (take n xs) i x) (take n ys)
    unfolding Rises
    lower_shuffled xs ys i n x at in' r = subst (λ l. IsPermutation l (take n ys)) (take_set xs n i x) (r n at (omega (arith, length-set xs i x))).0

    -- `take`: the first and the last change places, and the new first sinks among the others
    pub take_ordered : (xs ys zs : List X) (m n : ℕ) → m < n → Swap xs ys 0 m → Ordered le xs n → Sinks le ys m zs → Ordered le zs m
    unfolding Sinks
    take_ordered xs ys zs m n in' s h r = r.1 (
      λ p k d a b f u. by _ _ _ _ (s.2 p d u (omega arith)) (s.2 k d (omega arith) (omega arith)) (h p k d a b (omega arith)),
      λ p k d a b f g i. absurd (omega arith),
    )

    pub take_shuffled : (xs ys zs : List X) (m n : ℕ) (d : X) → n ≡ m + 1 → n ≤ length xs → length ys ≡ length xs → Swap xs ys 0 m → Sinks le ys m zs → IsPermutation (take n xs) (get_or xs 0 d ∷ take m zs)
    unfolding Sinks
    take_shuffled xs ys zs m n d e in' long s r =
        let x = get_or xs 0 d in
        let split : take n ys ≡ take m ys ++ x ∷ [] = ap (λ i. take i ys) e ∙ take_more ys m d (omega arith) ∙ ap (λ y. take m ys ++ y ∷ []) (s.1 d) in
        IsPermutation-trans _ _ _ (subst (IsPermutation (take n xs)) split (swap_front xs ys n 0 m d (omega arith) (omega arith) in' s))
        (IsPermutation-trans _ _ _ (IsPermutation-to_front (take m ys) x) (IsPermutation-cons x (take m ys) (take m zs) r.0))

    -- the lesser child of a hole is that of what is to stand there
    pub best_hole : (ys : List X) (j c n : ℕ) (x : X) → j * 2 + 1 ≤ c → Best le ys j c n → Best le (set ys j x) j c n
    unfolding Best
    best_hole ys j c n x from was = λ k d a b f. by _ _ _ _ (get_or-set_other ys j c x d (omega arith)) (get_or-set_other ys j k x d (omega arith)) (was k d a b f)

    module _ (tot : (x y : X) → le x y ≡ false → le y x ≡ true) where
      same : (x : X) → le x x ≡ true
      same x = cases (cases_Bool (le x x)) (λ e. e) (λ e. tot x x e)

      itself : (xs : List X) (j k : ℕ) (d : X) → k ≡ j → le (get_or xs j d) (get_or xs k d) ≡ true
      itself xs j k d e = by _ _ _ _ refl (ap (λ m. get_or xs m d) e) (same (get_or xs j d))

      pub only_child : (xs : List X) (j c n : ℕ) → c ≡ j * 2 + 1 → n ≤ c + 1 → Best le xs j c n
      unfolding Best
      only_child xs j c n e l = λ k d a b f. itself xs c k d (omega arith)

      pub left_child : (xs : List X) (j c n : ℕ) → c ≡ j * 2 + 1 → ((d : X) → le (get_or xs c d) (get_or xs (c + 1) d) ≡ true) → Best le xs j c n
      unfolding Best
      left_child xs j c n e t = λ k d a b f. cases (cases_eq k c) (itself xs c k d)
          (λ u. let p : k ≡ c + 1 = omega arith in by _ _ _ _ refl (ap (λ m. get_or xs m d) p) (t d))

      pub right_child : (xs : List X) (j c n : ℕ) → c ≡ j * 2 + 1 → ((d : X) → le (get_or xs (c + 1) d) (get_or xs c d) ≡ true) → Best le xs j (c + 1) n
      unfolding Best
      right_child xs j c n e t = λ k d a b f. cases (cases_eq k (c + 1)) (itself xs (c + 1) k d)
          (λ u. let p : k ≡ c = omega arith in by _ _ _ _ refl (ap (λ m. get_or xs m d) p) (t d))

      top : (xs : List X) (n : ℕ) (d : X) → Ordered le xs n → (fuel k : ℕ) → k ≤ fuel → k < n → le (get_or xs 0 d) (get_or xs k d) ≡ true
      top xs n d h zero k a b = itself xs 0 k d (omega arith)
      top xs n d h (suc fuel) k a b = cases (cases_eq k 0) (itself xs 0 k d)
          (λ u. tr _ _ _ (top xs n d h fuel ((k - 1) / 2) (omega arith) (omega arith)) (h ((k - 1) / 2) k d (omega arith) (omega arith) b))

      -- the first of a heap is at most each element
      pub least : (xs : List X) (n : ℕ) (d : X) → n ≤ length xs → Ordered le xs n → AllByRecursion (λ y. le (get_or xs 0 d) y ≡ true) (take n xs)
      least xs n d in' h = All-from_get_or (λ y. le (get_or xs 0 d) y ≡ true) (take n xs) d
          (λ i p. let q : i < n = omega (arith, length-take-le n xs in') in by _ _ _ _ refl (get_or-take n xs i d q) (top xs n d h i i (omega arith) q))
