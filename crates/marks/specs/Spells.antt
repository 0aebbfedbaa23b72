-- The spellings of heights and classes. Assumes nothing.
use Rattle.std.specs.Prelude.{◌≡◌, ℕ, zero, suc, ◌+◌, ◌/◌, ◌%◌, ◌^◌, ◌<◌, ◌≤◌, Bool, true, false, cond, List, [], ◌∷◌, ◌++◌, length, take, drop, ℤ, pos, negsuc, ◌-ℤ◌, Some, None, decimal, Option, MatchOption, ◌==◌, ◌≢◌, nat_lt, slice_index, slice_index_or, refl}
use Rattle.std.proofs.Common.{sym, ap, subst, ◌∙◌, ⊎_elim, append_assoc, arith, lit≤, to_z, of_z, length-append, length-drop, take-append-drop, ltb-true, true-eqb}
use Rattle.std.specs.Int.{w16}
use Rattle.std.proofs.lemmas.Int.{ints}
use Rattle.std.specs.Int.Signed.{mag}
use Rattle.std.proofs.lemmas.Bool.{cases_lt}
use Rattle.std.proofs.lemmas.List.{drop_more, take_at, drop_at, take_all, length-take-le}
use Rattle.std.proofs.lemmas.Fmt.{decimal_digit, decimal_by_steps, decimal_nonempty, decimal_injective, first_decimal, length-decimal-le}
use Rattle.grammar.specs.Grammars.{Grammar, Edge, Front, After, Scanned, LongestShared, all_by}
use Rattle.grammar.specs.Decimals.{naturals, Begun, Natural}
use Rattle.grammar.proofs.Digits.{natural_edge}
use Rattle.grammar.proofs.Theory.{levi, not_nil, longest_edge, edge_after}
use Rattle.marks.specs.Spellings.{Separator, spelled_z}
use Rattle.marks.specs.declared.height.Height.{Height}
use Rattle.marks.specs.Classes.{letter_of}
use Rattle.marks.specs.declared.class.Class.{Class}
use Rattle.marks.specs.declared.class.Class.TheVariants.{Void, Open, Strip, Moist, Wet, Peat, Kept}

-- every byte of a number is a digit or above
abbrev High : ℕ → List ℕ → Type 0
High n ds = (u w : List ℕ) (b : ℕ) → ds ≡ u ++ (b ∷ w) → 48 ≤ b

high_one : (n : ℕ) → n < 10 → High n ((48 + n) ∷ [])
high_one n h [] w b e = let is : b ≡ 48 + n = cc in omega arith
high_one n h (x ∷ []) w b e = absurd (not_nil {x = b} {xs = w} (cc))
high_one n h (x ∷ y ∷ u) w b e = absurd (not_nil {x = y} {xs = u ++ (b ∷ w)} (cc))

high_more : (n : ℕ) (ds : List ℕ) → 10 ≤ n → High (n / 10) ds → High n (ds ++ ((48 + n % 10) ∷ []))
high_more n ds ge h u w b e = ⊎_elim (λ r. left r.0 r.1 r.2) (λ r. right r.0 r.2) (levi ds ((48 + n % 10) ∷ []) u (b ∷ w) e)
  where
    left : (m : List ℕ) → ds ≡ u ++ m → b ∷ w ≡ m ++ ((48 + n % 10) ∷ []) → 48 ≤ b
    left [] p q = let is : b ≡ 48 + n % 10 = cc in omega arith
    left (c ∷ m) p q = let is : b ≡ c = cc in omega (arith, h u m c p)

    right : (m : List ℕ) → (48 + n % 10) ∷ [] ≡ m ++ (b ∷ w) → 48 ≤ b
    right [] q = let is : b ≡ 48 + n % 10 = cc in omega arith
    right (c ∷ []) q = absurd (not_nil {x = b} {xs = w} (cc))
    right (c ∷ d ∷ m) q = absurd (not_nil {x = d} {xs = m ++ (b ∷ w)} (cc))

pub decimal_high : (n : ℕ) → n < 2 ^ 64 → High n (decimal n)
decimal_high n big = decimal_by_steps High high_one high_more n big

-- the four forms of a spelling
pub data View (s : List ℕ) : Type 0 where
  plain : (n : ℕ) → 1 ≤ n → n ≤ 32767 → s ≡ decimal n → View s
  nought : s ≡ 48 ∷ [] → View s
  minus : (n : ℕ) → 1 ≤ n → n ≤ 32767 → s ≡ 45 ∷ decimal n → View s
  dot : s ≡ 46 ∷ [] → View s

minus_is : (k : ℕ) → k < 32767 → spelled_z (negsuc k) ≡ 45 ∷ decimal (suc k)
minus_is k h = ap (λ b. cond b (46 ∷ []) (45 ∷ decimal (suc k))) (apart (k == 32767) refl)
  where
    apart : (b : Bool) → (k == 32767) ≡ b → b ≡ false
    apart true e = absurd (omega (arith, true-eqb k 32767 (sym e)))
    apart false e = refl

pub view : (z : ℤ) → mag z < 2 ^ 15 → View (spelled_z z)
view (pos zero) h = nought (decimal_digit 0 (omega arith))
view (pos (suc n)) h = plain (suc n) (omega arith) (omega arith) refl
view (negsuc n) h = ⊎_elim (λ lt. minus (suc n) (omega arith) (omega arith) (minus_is n lt)) (λ ge. let is : n ≡ 32767 = omega arith in dot (ap (λ k. spelled_z (negsuc k)) is)) (cases_lt n 32767)

-- what the first byte tells
first_plain : (n : ℕ) → 1 ≤ n → n ≤ 32767 → (b : ℕ) (x : List ℕ) → decimal n ≡ b ∷ x → 48 < b
first_plain n least le b x e = omega (arith, first_decimal n (omega arith) (omega arith), ap (λ l. slice_index l 0) e)

abbrev pub H : Grammar Height
H = all_by (λ x. spelled_z x.dm)

pub high_fits : (n : ℕ) → n ≤ 32767 → mag (pos n) < 2 ^ 15
high_fits n h = omega arith

abbrev pub high : (n : ℕ) → n ≤ 32767 → Height
high n h = record { dm = pos n; fits = high_fits n h }

pub low_fits : (n : ℕ) → n ≤ 32766 → mag (negsuc n) < 2 ^ 15
low_fits n h = omega arith

abbrev pub low : (n : ℕ) → n ≤ 32766 → Height
low n h = record { dm = negsuc n; fits = low_fits n h }

pub spelled_some : (z : ℤ) → mag z < 2 ^ 15 → (1 ≤ length (spelled_z z)) × (length (spelled_z z) ≤ 6)
spelled_some z h = by (spelled_z z) (view z h)
  where
    by : (s : List ℕ) → View s → (1 ≤ length s) × (length s ≤ 6)
    by s (plain n p q e) = (omega (arith, decimal_nonempty n (omega arith), ap length e), omega (arith, length-decimal-le 5 n (omega arith) (omega arith) (omega arith), ap length e))
    by s (nought e) = (omega (arith, ap length e), omega (arith, ap length e))
    by s (minus n p q e) = (omega (arith, ap length e), omega (arith, length-decimal-le 5 n (omega arith) (omega arith) (omega arith), ap length e))
    by s (dot e) = (omega (arith, ap length e), omega (arith, ap length e))

pub separator_low : (t : ℕ) → Separator t → t < 45
separator_low t s = ⊎_elim (⊎_elim (λ e. omega arith) (λ e. omega arith)) (⊎_elim (λ e. omega arith) (λ e. omega arith)) s

pub one_byte : (a t : ℕ) (u w : List ℕ) → a ∷ [] ≡ u ++ (t ∷ w) → a ≡ t
one_byte a t [] w e = cc
one_byte a t (x ∷ []) w e = absurd (not_nil {x = t} {xs = w} (cc))
one_byte a t (x ∷ y ∷ u) w e = absurd (not_nil {x = y} {xs = u ++ (t ∷ w)} (cc))

pub spelled_clear : (z : ℤ) → mag z < 2 ^ 15 → (u w : List ℕ) (t : ℕ) → Separator t → spelled_z z ≢ u ++ (t ∷ w)
spelled_clear z h u w t s e = by (spelled_z z) (view z h) e
  where
    after_minus : (n : ℕ) → 1 ≤ n → n ≤ 32767 → (u : List ℕ) → 45 ∷ decimal n ≢ u ++ (t ∷ w)
    after_minus n p q [] e = let is : t ≡ 45 = cc in omega (arith, separator_low t s)
    after_minus n p q (x ∷ u) e = omega (arith, separator_low t s, decimal_high n (omega arith) u w t (cc))

    by : (a : List ℕ) → View a → a ≢ u ++ (t ∷ w)
    by a (plain n p q e) k = omega (arith, separator_low t s, decimal_high n (omega arith) u w t (sym e ∙ k))
    by a (nought e) k = omega (arith, separator_low t s, one_byte 48 t u w (sym e ∙ k))
    by a (minus n p q e) k = after_minus n p q u (sym e ∙ k)
    by a (dot e) k = omega (arith, separator_low t s, one_byte 46 t u w (sym e ∙ k))

-- no two have one spelling
pub spelled_apart : (y z : ℤ) → mag y < 2 ^ 15 → mag z < 2 ^ 15 → spelled_z y ≡ spelled_z z → y ≡ z
spelled_apart (pos m) (pos n) h k e = ap pos (decimal_injective m n (omega arith) (omega arith) e)
spelled_apart (pos m) (negsuc n) h k e = absurd (mixed m n h k e)
  where
    mixed : (m n : ℕ) → m < 2 ^ 15 → n < 2 ^ 15 → decimal m ≢ spelled_z (negsuc n)
    mixed m n h k e = ⊎_elim (λ lt. omega (arith, decimal_high m (omega arith) [] (decimal (suc n)) 45 (e ∙ minus_is n lt))) (λ ge. let is : n ≡ 32767 = omega arith in omega (arith, decimal_high m (omega arith) [] [] 46 (e ∙ ap (λ k. spelled_z (negsuc k)) is))) (cases_lt n 32767)
spelled_apart (negsuc m) (pos n) h k e = absurd (mixed n m k h (sym e))
  where
    mixed : (m n : ℕ) → m < 2 ^ 15 → n < 2 ^ 15 → decimal m ≢ spelled_z (negsuc n)
    mixed m n h k e = ⊎_elim (λ lt. omega (arith, decimal_high m (omega arith) [] (decimal (suc n)) 45 (e ∙ minus_is n lt))) (λ ge. let is : n ≡ 32767 = omega arith in omega (arith, decimal_high m (omega arith) [] [] 46 (e ∙ ap (λ k. spelled_z (negsuc k)) is))) (cases_lt n 32767)
spelled_apart (negsuc m) (negsuc n) h k e =
    ⊎_elim
    (λ lm. ⊎_elim (λ ln. ap negsuc (both lm ln)) (λ gn. absurd (heads m lm n (omega arith) e)) (cases_lt n 32767))
    (λ gm. ⊎_elim (λ ln. absurd (heads n ln m (omega arith) (sym e))) (λ gn. ap negsuc (omega arith)) (cases_lt n 32767))
    (cases_lt m 32767)
  where
    both : m < 32767 → n < 32767 → m ≡ n
    both lm ln =
        let t : 45 ∷ decimal (suc m) ≡ 45 ∷ decimal (suc n) = sym (minus_is m lm) ∙ e ∙ minus_is n ln in
        let d : decimal (suc m) ≡ decimal (suc n) = cc in
        let s = decimal_injective (suc m) (suc n) (omega arith) (omega arith) d in
        omega arith

    heads : (a : ℕ) → a < 32767 → (b : ℕ) → b ≡ 32767 → spelled_z (negsuc a) ≢ spelled_z (negsuc b)
    heads a la b is e =
        let t : 45 ∷ decimal (suc a) ≡ 46 ∷ [] = sym (minus_is a la) ∙ e ∙ ap (λ k. spelled_z (negsuc k)) is in
        let z : ◌≡◌ {A = ℕ} 45 46 = cc in
        omega arith

-- each byte is above every separator
abbrev pub clear : List ℕ → Bool
clear [] = true
clear (b ∷ bs) = cond (nat_lt 41 b) (clear bs) false

clear_first : (b : ℕ) (bs : List ℕ) → clear (b ∷ bs) ≡ true → (41 < b) × (clear bs ≡ true)
clear_first b bs h = by (nat_lt 41 b) refl h
  where
    by : (c : Bool) → nat_lt 41 b ≡ c → cond c (clear bs) false ≡ true → (41 < b) × (clear bs ≡ true)
    by true q k = (ltb-true 41 b q, k)
    by false q k = let z : ◌≡◌ {A = ℕ} 0 1 = cc in absurd (omega arith)

clear_at : (bs u w : List ℕ) (t : ℕ) → clear bs ≡ true → bs ≡ u ++ (t ∷ w) → 41 < t
clear_at [] [] w t h e = absurd (not_nil {x = t} {xs = w} (sym e))
clear_at [] (x ∷ u) w t h e = absurd (not_nil {x = x} {xs = u ++ (t ∷ w)} (sym e))
clear_at (b ∷ bs) [] w t h e = let is : b ≡ t = cc in omega (arith, (clear_first b bs h).0)
clear_at (b ∷ bs) (x ∷ u) w t h e = clear_at bs u w t (clear_first b bs h).1 (cc)

pub word_clear : (bs : List ℕ) → clear bs ≡ true → (u w : List ℕ) (t : ℕ) → Separator t → bs ≢ u ++ (t ∷ w)
word_clear bs h u w t s e = omega (arith, separator_low t s, clear_at bs u w t h e)

pub class_clear : (x : Class) (u w : List ℕ) (t : ℕ) → Separator t → letter_of x ∷ [] ≢ u ++ (t ∷ w)
class_clear x u w t s e = omega (arith, separator_low t s, one_byte (letter_of x) t u w e, letter_high x)
  where
    letter_high : (x : Class) → 46 ≤ letter_of x
    letter_high Void = omega arith
    letter_high Open = omega arith
    letter_high Strip = omega arith
    letter_high Moist = omega arith
    letter_high Wet = omega arith
    letter_high Peat = omega arith
    letter_high Kept = omega arith

-- what was scanned, from the two parts of the bytes
pub scanned_from : {A : Type 0} (K : Grammar A) (bs u v : List ℕ) (p : ℕ) (m : Option A) → bs ≡ u ++ v → p ≡ length u → Edge K u v → MatchOption m ((a : A) → K.valid a → K.text a ≢ u) (λ a. K.valid a × (K.text a ≡ u)) → Scanned K bs p m
scanned_from {A = A} K bs u v p m split place edge value =
    let front : u ≡ take p bs = sym (ap (take p) split ∙ take_at u v p (sym place)) in
    let back : v ≡ drop p bs = sym (ap (drop p) split ∙ drop_at u v p (sym place)) in
    record {
      within = omega (arith, ap length split, length-append u v);
      edge = subst (λ w. Edge K (take p bs) w) back (subst (λ w. Edge K w v) front edge);
      value = subst (λ w. MatchOption m ((a : A) → K.valid a → K.text a ≢ w) (λ a. K.valid a × (K.text a ≡ w))) front value;
    }

none_spelled : (z : ℤ) → mag z < 2 ^ 15 → (u : List ℕ) → u ≡ [] → spelled_z z ≢ u
none_spelled z h u is e = omega (arith, (spelled_some z h).0, ap length (e ∙ is))

pub scan_empty : (bs : List ℕ) → length bs ≡ 0 → Scanned H bs 0 None
scan_empty bs e = scanned_from H bs [] bs 0 None refl refl (record {
  front = record { value = high 0 (omega arith); valid = tt; rest = spelled_z (pos 0); text = refl };
  next = λ b x is f. omega (arith, ap length is);
}) (λ a v t. none_spelled a.dm a.fits [] refl t)

-- a byte that is a spelling, and begins no other
scan_one : (c : ℕ) → ((z : ℤ) → mag z < 2 ^ 15 → (b : ℕ) (x : List ℕ) → spelled_z z ≢ c ∷ b ∷ x) → (bs : List ℕ) → 0 < length bs → slice_index bs 0 ≡ c → (h : Height) → spelled_z h.dm ≡ c ∷ [] → Scanned H bs 1 (Some h)
scan_one c bar [] some is h e = absurd (omega arith)
scan_one c bar (y ∷ xs) some is h e = scanned_from H (y ∷ xs) (c ∷ []) xs 1 (Some h) (ap (λ w. w ∷ xs) is) refl (record {
  front = record { value = h; valid = tt; rest = []; text = e };
  next = λ b x k f. bar f.value.dm f.value.fits b f.rest f.text;
}) (tt, e)

pub scan_dot : (bs : List ℕ) → 0 < length bs → slice_index bs 0 ≡ 46 → (h : Height) → spelled_z h.dm ≡ 46 ∷ [] → Scanned H bs 1 (Some h)
scan_dot = scan_one 46 (λ z h b x e. by (spelled_z z) (view z h) b x e)
  where
    by : (s : List ℕ) → View s → (b : ℕ) (x : List ℕ) → s ≢ 46 ∷ b ∷ x
    by s (plain n p q e) b x k = omega (arith, first_plain n p q 46 (b ∷ x) (sym e ∙ k))
    by s (nought e) b x k = let z : ◌≡◌ {A = ℕ} 48 46 = cc in omega arith
    by s (minus n p q e) b x k = let z : ◌≡◌ {A = ℕ} 45 46 = cc in omega arith
    by s (dot e) b x k = not_nil {x = b} {xs = x} (cc)

pub scan_nought : (bs : List ℕ) → 0 < length bs → slice_index bs 0 ≡ 48 → (h : Height) → spelled_z h.dm ≡ 48 ∷ [] → Scanned H bs 1 (Some h)
scan_nought = scan_one 48 (λ z h b x e. by (spelled_z z) (view z h) b x e)
  where
    by : (s : List ℕ) → View s → (b : ℕ) (x : List ℕ) → s ≢ 48 ∷ b ∷ x
    by s (plain n p q e) b x k = omega (arith, first_plain n p q 48 (b ∷ x) (sym e ∙ k))
    by s (nought e) b x k = not_nil {x = b} {xs = x} (cc)
    by s (minus n p q e) b x k = let z : ◌≡◌ {A = ℕ} 45 48 = cc in omega arith
    by s (dot e) b x k = let z : ◌≡◌ {A = ℕ} 46 48 = cc in omega arith

-- after a minus there is a number
after_minus : After H (45 ∷ []) (naturals 32767)
after_minus = record {
  to = λ n v. to n v.0 v.1;
  from = λ a va x e. from (spelled_z a.dm) (view a.dm a.fits) x e;
}
  where
    to : (n : ℕ) → 1 ≤ n → n ≤ 32767 → (a : Height) × (Unit {0}) × (spelled_z a.dm ≡ 45 ∷ decimal n)
    to zero p q = absurd (omega arith)
    to (suc n) p q = (low n (omega arith), tt, minus_is n (omega arith))

    from : (s : List ℕ) → View s → (x : List ℕ) → s ≡ 45 ∷ x → (n : ℕ) × ((1 ≤ n) × (n ≤ 32767)) × (x ≡ decimal n)
    from s (plain n p q e) x k = absurd (omega (arith, first_plain n p q 45 x (sym e ∙ k)))
    from s (nought e) x k = let z : ◌≡◌ {A = ℕ} 48 45 = cc in absurd (omega arith)
    from s (minus n p q e) x k = (n, (p, q), (cc))
    from s (dot e) x k = let z : ◌≡◌ {A = ℕ} 46 45 = cc in absurd (omega arith)

-- another first byte is a digit's
number_only : (c : ℕ) → (c ≢ 46) → (c ≢ 48) → (c ≢ 45) → (s : List ℕ) → View s → (x : List ℕ) → s ≡ c ∷ x → (n : ℕ) × (1 ≤ n) × (n ≤ 32767) × (s ≡ decimal n)
number_only c a b d s (plain n p q e) x k = (n, p, q, e)
number_only c a b d s (nought e) x k = absurd (b (cc))
number_only c a b d s (minus n p q e) x k = absurd (d (cc))
number_only c a b d s (dot e) x k = absurd (a (cc))

edge_plain : (c : ℕ) → (c ≢ 46) → (c ≢ 48) → (c ≢ 45) → (u v y : List ℕ) → u ++ v ≡ c ∷ y → Edge (naturals 32767) u v → Edge H u v
edge_plain c na nb nd u v y starts h = record {
  front = record { value = high h.front.value h.front.valid.1; valid = tt; rest = h.front.rest; text = h.front.text };
  next = λ b x e f. go b x e f u starts refl;
}
  where
    found : (b : ℕ) (x : List ℕ) → v ≡ b ∷ x → (f : Front H (u ++ (b ∷ []))) → (z : List ℕ) → (u ++ (b ∷ [])) ++ f.rest ≢ c ∷ z
    found b x e f z k =
        let n = number_only c na nb nd (spelled_z f.value.dm) (view f.value.dm f.value.fits) z (f.text ∙ k) in
        h.next b x e (record { value = n.0; valid = (n.1, n.2); rest = f.rest; text = sym n.3 ∙ f.text })

    go : (b : ℕ) (x : List ℕ) → v ≡ b ∷ x → (f : Front H (u ++ (b ∷ []))) → (w : List ℕ) → w ++ v ≡ c ∷ y → u ≢ w
    go b x e f [] k is = found b x e f f.rest (ap (λ t. (t ++ (b ∷ [])) ++ f.rest) is ∙ ap (λ t. t ∷ f.rest) (cc))
    go b x e f (d ∷ w) k is = found b x e f ((w ++ (b ∷ [])) ++ f.rest) (ap (λ t. (t ++ (b ∷ [])) ++ f.rest) is ∙ ap (λ t. t ∷ ((w ++ (b ∷ [])) ++ f.rest)) (cc))

begun_none : (u : List ℕ) (n : ℕ) → Begun 32767 u n → n ≡ 0 → u ≡ []
begun_none u n h e = ⊎_elim (λ k. k.0) (λ k. absurd (omega (arith, k.1))) h

begun_some : (u : List ℕ) (n : ℕ) → Begun 32767 u n → (n ≢ 0) → u ≡ decimal n
begun_some u n h e = ⊎_elim (λ k. absurd (e k.1)) (λ k. k.0) h

module _ (bs : List ℕ) (end n : ℕ) (some : 0 < length bs) where
  module _ (a : slice_index_or bs 0 0 ≡ 46 → ⊥) (b : slice_index_or bs 0 0 ≡ 48 → ⊥) (d : slice_index_or bs 0 0 ≡ 45 → ⊥) (h : Natural 32767 0 bs end n) where
    edge : Edge H h.part.read (drop end bs)
    edge = edge_plain (slice_index bs 0) a b d h.part.read (drop end bs) (drop 1 bs) (sym h.part.split ∙ drop_more bs 0 0 some) (natural_edge 32767 0 bs end n (lit≤ tt) h)

    pub scan_plain_none : n ≡ 0 → Scanned H bs end None
    scan_plain_none e = scanned_from H bs h.part.read (drop end bs) end None h.part.split (omega (arith, h.part.place)) edge (λ x v t. none_spelled x.dm x.fits h.part.read (begun_none _ n h.part.begun e) t)

    pub scan_plain_some : (n ≢ 0) → (x : Height) → x.dm ≡ pos n → Scanned H bs end (Some x)
    scan_plain_some e x is = scanned_from H bs h.part.read (drop end bs) end (Some x) h.part.split (omega (arith, h.part.place)) edge (tt, ap spelled_z is ∙ sym (begun_some _ n h.part.begun e))

  module _ (is : slice_index_or bs 0 0 ≡ 45) (h : Natural 32767 1 bs end n) where
    cut : bs ≡ (45 ∷ h.part.read) ++ drop end bs
    cut = drop_more bs 0 0 some ∙ ap (λ c. c ∷ drop 1 bs) is ∙ ap (λ w. 45 ∷ w) h.part.split

    minus_edge : Edge H (45 ∷ h.part.read) (drop end bs)
    minus_edge = edge_after (45 ∷ []) h.part.read (drop end bs) after_minus (natural_edge 32767 1 bs end n (lit≤ tt) h)

    pub scan_minus_none : n ≡ 0 → Scanned H bs end None
    scan_minus_none e = scanned_from H bs (45 ∷ h.part.read) (drop end bs) end None cut (omega (arith, h.part.place)) minus_edge
        (λ x v t. let k = after_minus.from x tt [] (t ∙ ap (λ w. 45 ∷ w) (begun_none _ n h.part.begun e)) in omega (arith, decimal_nonempty k.0 (omega (arith, k.1.1)), ap length k.2))

    pub scan_minus_some : (m : ℕ) → n ≡ suc m → n ≤ 32767 → (x : Height) → x.dm ≡ negsuc m → Scanned H bs end (Some x)
    scan_minus_some m e le x dm = scanned_from H bs (45 ∷ h.part.read) (drop end bs) end (Some x) cut (omega (arith, h.part.place)) minus_edge
        (tt, ap spelled_z dm ∙ minus_is m (omega arith) ∙ ap (λ k. 45 ∷ decimal k) (sym e) ∙ ap (λ w. 45 ∷ w) (sym (begun_some _ n h.part.begun (λ z. omega arith))))

pub pos_dm : (n : ℕ) → n ≤ 32767 → to_z w16 n ≡ pos n
pos_dm n h = grind (arith, ints)

pub neg_dm : (n m : ℕ) → n ≡ suc m → n ≤ 32767 → to_z w16 (of_z w16 (pos 0 -ℤ to_z w16 n)) ≡ negsuc m
neg_dm n m is h = grind (arith, ints)

pub scanned_longest : {A : Type 0} (f : A → List ℕ) (bs : List ℕ) (p : ℕ) (m : Option A) → Scanned (all_by f) bs p m → LongestShared (all_by f) bs p
scanned_longest f bs p m h =
    subst (λ n. LongestShared (all_by f) bs n) (length-take-le p bs h.within) (subst (λ w. LongestShared (all_by f) w (length (take p bs))) (take-append-drop p bs) (longest_edge (take p bs) (drop p bs) h.edge))

pub scanned_whole : {A : Type 0} (f : A → List ℕ) (bs : List ℕ) (p : ℕ) (m : Option A) → Scanned (all_by f) bs p m → p ≡ length bs → MatchOption m ((a : A) → f a ≢ bs) (λ a. f a ≡ bs)
scanned_whole {A = A} f bs p m h is = by m h.value
  where
    all : take p bs ≡ bs
    all = take_all p bs (omega arith)

    by : (m : Option A) → MatchOption m ((a : A) → Unit {0} → f a ≢ take p bs) (λ a. (Unit {0}) × (f a ≡ take p bs)) → MatchOption m ((a : A) → f a ≢ bs) (λ a. f a ≡ bs)
    by (Some a) v = v.1 ∙ all
    by None v = λ a e. v a tt (e ∙ sym all)

pub scanned_short : {A : Type 0} (f : A → List ℕ) (bs : List ℕ) (p : ℕ) (m : Option A) → Scanned (all_by f) bs p m → (p ≢ length bs) → (a : A) → f a ≢ bs
scanned_short f bs p m h ne a e = by (drop p bs) refl
  where
    by : (v : List ℕ) → drop p bs ≢ v
    by [] k = ne (omega (arith, h.within, ap length k, length-drop p bs))
    by (b ∷ v) k = h.edge.next b v k (record { value = a; valid = tt; rest = v; text = e ∙ sym (take-append-drop p bs) ∙ ap (λ w. take p bs ++ w) k ∙ sym (append_assoc (take p bs) (b ∷ []) v) })

-- one byte of a class
pub class_read : (bs : List ℕ) → length bs ≡ 1 → (r : Option Class) → MatchOption r ((x : Class) → letter_of x ≢ slice_index bs 0) (λ x. letter_of x ≡ slice_index bs 0) → MatchOption r ((x : Class) → letter_of x ∷ [] ≢ bs) (λ x. letter_of x ∷ [] ≡ bs)
class_read [] e r h = absurd (omega arith)
class_read (a ∷ []) e (Some x) h = ap (λ c. c ∷ []) h
class_read (a ∷ []) e None h = λ x k. h x (cc)
class_read (a ∷ b ∷ bs) e r h = absurd (omega arith)

pub class_none : (bs : List ℕ) → ((x : Class) → 0 < length bs → letter_of x ≢ slice_index bs 0) → LongestShared (all_by (λ (x : Class). letter_of x ∷ [])) bs 0
class_none bs bar = longest_edge [] bs (record {
  front = record { value = Void; valid = tt; rest = letter_of Void ∷ []; text = refl };
  next = λ b x e f. let is : letter_of f.value ∷ [] ≡ b ∷ f.rest = f.text in bar f.value (omega (arith, ap length e)) ((cc) ∙ sym (ap (λ l. slice_index l 0) e));
})
