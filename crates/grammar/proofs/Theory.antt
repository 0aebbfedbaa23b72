-- Reading by parts. Assumes nothing.
use Rattle.std.proofs.Common.{◌≡◌, ℕ, zero, suc, ◌+◌, ◌-◌, ◌<◌, ◌≤◌, ◌⊎◌, List, [], ◌∷◌, ◌++◌, length, take, drop, sym, refl, ap, ◌∙◌, subst, inl, inr, ⊎_elim, append_assoc, append-nil, suc-add, zero-add, arith, length-append, length-drop, take-append-drop}
use mathlib.Core.List.{append_cancel_left}
use Rattle.std.proofs.lemmas.Bool.{cases_lt}
use Rattle.std.proofs.lemmas.List.{take_at, drop_at, length-take-le, drop-drop}
use Rattle.grammar.specs.Grammars.{Grammar, Shared, LongestShared, Front, Edge, Stuck, Found, Lost, Code, Injective, Without, lit, ended, seq, rep, rep_valid, rep_text, After, Sofar}

-- of two ways to split a list, one front begins the other
pub levi : {A : Type 0} (xs ys us vs : List A) → xs ++ ys ≡ us ++ vs → ((m : List A) × (xs ≡ us ++ m) × (vs ≡ m ++ ys)) ⊎ ((m : List A) × (us ≡ xs ++ m) × (ys ≡ m ++ vs))
levi [] ys us vs e = inr (us, refl, e)
levi (x ∷ xs) ys [] vs e = inl (x ∷ xs, refl, sym e)
levi (x ∷ xs) ys (u ∷ us) vs e =
    let tails : xs ++ ys ≡ us ++ vs = cc in
    ⊎_elim (λ r. inl (r.0, (let h = r.1 in cc), r.2)) (λ r. inr (r.0, (let h = r.1 in cc), r.2)) (levi xs ys us vs tails)

pub nil_left : {A : Type 0} (xs ys : List A) → xs ++ ys ≡ [] → xs ≡ []
nil_left [] ys e = refl
nil_left (x ∷ xs) ys e = let z : ◌≡◌ {A = ℕ} 0 1 = cc in absurd (omega arith)

pub not_nil : {A : Type 0} {x : A} {xs : List A} → x ∷ xs ≡ [] → ⊥
not_nil e = let z : ◌≡◌ {A = ℕ} 0 1 = cc in omega arith

pub take_append_add : {A : Type 0} (xs ys : List A) (k : ℕ) → take (length xs + k) (xs ++ ys) ≡ xs ++ take k ys
take_append_add [] ys k = ap (λ n. take n ys) (zero-add k)
take_append_add (x ∷ xs) ys k = ap (λ n. take n (x ∷ (xs ++ ys))) (suc-add (length xs) k) ∙ ap (λ w. x ∷ w) (take_append_add xs ys k)

module _ {A : Type 0} {K : Grammar A} where
  -- texts that begin one list are one text
  pub agree : Code K → (a b : A) → K.valid a → K.valid b → (x y : List ℕ) → K.text a ++ x ≡ K.text b ++ y → (a ≡ b) × (x ≡ y)
  agree code a b va vb x y e =
      ⊎_elim
      (λ r. let h = code b a vb va r.0 r.1 in (sym h.0, sym (r.2 ∙ ap (λ m. m ++ x) h.1)))
      (λ r. let h = code a b va vb r.0 r.1 in (h.0, r.2 ∙ ap (λ m. m ++ y) h.1))
      (levi (K.text a) x (K.text b) y e)

  pub code_from : Code K → Injective K
  code_from code a b va vb e = (code a b va vb [] (sym e ∙ sym (append-nil _))).0

  -- the next byte of a front
  pub front_cut : (u v : List ℕ) → Front K (u ++ v) → Front K u
  front_cut u v f = record { value = f.value; valid = f.valid; rest = v ++ f.rest; text = f.text ∙ append_assoc u v f.rest }

  -- the longest front is the longest shared
  pub longest_edge : (u v : List ℕ) → Edge K u v → LongestShared K (u ++ v) (length u)
  longest_edge u v h = record {
    one = (
      h.front.value,
      h.front.valid,
      record {
        here = omega (arith, length-append u v);
        there = omega (arith, length-append u h.front.rest, ap length h.front.text);
        same = take_front u v ∙ sym (ap (take (length u)) h.front.text ∙ take_front u h.front.rest);
      },
    );
    most = λ a va n sh. ⊎_elim (λ more. absurd (past a va n sh v refl more)) (λ le. le) (cases_lt (length u) n);
  }
    where
      take_front : (xs ys : List ℕ) → take (length xs) (xs ++ ys) ≡ xs
      take_front xs ys = take_at xs ys (length xs) refl

      past : (a : A) → K.valid a → (n : ℕ) → Shared (u ++ v) (K.text a) n → (w : List ℕ) → v ≡ w → length u < n → ⊥
      past a va n sh [] e more = omega (arith, length-append u v, ap length e, sh.here)
      past a va n sh (b ∷ x) e more =
          let k : ℕ = n - length u - 1 in
          let is : n ≡ length (u ++ (b ∷ [])) + k = omega (arith, length-append u (b ∷ [])) in
          let bytes : u ++ v ≡ (u ++ (b ∷ [])) ++ x = ap (λ w. u ++ w) e ∙ sym (append_assoc u (b ∷ []) x) in
          h.next b x e (front_cut (u ++ (b ∷ [])) (take k x) (record {
            value = a;
            valid = va;
            rest = drop n (K.text a);
            text = sym (take-append-drop n (K.text a)) ∙ ap (λ w. w ++ drop n (K.text a)) (sym sh.same ∙ ap (take n) bytes ∙ ap (λ m. take m ((u ++ (b ∷ [])) ++ x)) is ∙ take_append_add (u ++ (b ∷ [])) x k);
          }))

  pub edge_longest : (bs : List ℕ) (p : ℕ) → LongestShared K bs p → Edge K (take p bs) (drop p bs)
  edge_longest bs p h = record {
    front = record {
      value = h.one.0;
      valid = h.one.1;
      rest = drop p (K.text h.one.0);
      text = sym (take-append-drop p (K.text h.one.0)) ∙ ap (λ w. w ++ drop p (K.text h.one.0)) (sym h.one.2.same);
    };
    next = λ b x e f.
        let long : length (take p bs) ≡ p = length-take-le p bs h.one.2.here in
        let bytes : bs ≡ (take p bs ++ (b ∷ [])) ++ x = sym (take-append-drop p bs) ∙ ap (λ w. take p bs ++ w) e ∙ sym (append_assoc (take p bs) (b ∷ []) x) in
        let n : length (take p bs ++ (b ∷ [])) ≡ p + 1 = length-append (take p bs) (b ∷ []) ∙ ap (λ m. m + 1) long in
        let least : p + 1 ≤ p = h.most f.value f.valid (p + 1) (record {
          here = omega (arith, ap length bytes, length-append (take p bs ++ (b ∷ [])) x, n);
          there = omega (arith, ap length f.text, length-append (take p bs ++ (b ∷ [])) f.rest, n);
          same = ap (take (p + 1)) bytes ∙ take_at (take p bs ++ (b ∷ [])) x (p + 1) n ∙ sym (ap (take (p + 1)) f.text ∙ take_at (take p bs ++ (b ∷ [])) f.rest (p + 1) n);
        }) in
        omega arith;
  }

  -- what a reader that was lost says of the bytes
  pub longest_lost : (bs : List ℕ) (p : ℕ) → Lost K 0 bs p → LongestShared K bs p
  longest_lost bs p h =
      let is : length h.before ≡ p = omega (arith, h.place) in
      subst (λ n. LongestShared K bs n) is (subst (λ w. LongestShared K w (length h.before)) (sym h.split) (longest_edge _ _ h.stuck.edge))

  -- a text with more behind it
  pub longest_found : Code K → (bs : List ℕ) (a : A) (p : ℕ) → Found K 0 bs a p → LongestShared K bs p
  longest_found code bs a p h =
      let is : length (K.text a) ≡ p = omega (arith, h.place) in
      let edge : Edge K (K.text a) h.after = record {
        front = record { value = a; valid = h.valid; rest = []; text = sym (append-nil _) };
        next = λ b x e f. not_nil (code a f.value h.valid f.valid (b ∷ f.rest) (f.text ∙ append_assoc (K.text a) (b ∷ []) f.rest)).1;
      } in
      subst (λ n. LongestShared K bs n) is (subst (λ w. LongestShared K w (length (K.text a))) (sym h.split) (longest_edge _ _ edge))

  -- no text begins bytes at which a reader was lost
  pub lost_none : Code K → (bs : List ℕ) (at p : ℕ) → Lost K at bs p → (a : A) → K.valid a → (x : List ℕ) → bs ≡ K.text a ++ x → ⊥
  lost_none code bs at p h a va x e =
      let f = h.stuck.edge.front in
      ⊎_elim
      (λ r. after_cases r.0 h.after refl r.1 r.2)
      (λ r. h.stuck.whole a va (sym (r.1 ∙ ap (λ m. K.text a ++ m) (short r.0 r.1) ∙ append-nil _)))
      (levi (K.text a) x h.before h.after (sym e ∙ h.split))
    where
      short : (m : List ℕ) → h.before ≡ K.text a ++ m → m ≡ []
      short m is = let f = h.stuck.edge.front in nil_left m f.rest (code a f.value va f.valid (m ++ f.rest) (f.text ∙ ap (λ w. w ++ f.rest) is ∙ append_assoc (K.text a) m f.rest)).1

      after_cases : (m v : List ℕ) → h.after ≡ v → K.text a ≡ h.before ++ m → h.after ≡ m ++ x → ⊥
      after_cases [] v ev is ea = h.stuck.whole a va (is ∙ append-nil _)
      after_cases (b ∷ m) v ev is ea = h.stuck.edge.next b (m ++ x) ea (record { value = a; valid = va; rest = m; text = is ∙ sym (append_assoc h.before (b ∷ []) m) })

  -- texts and the byte that ends them
  pub code_ended : (t : ℕ) → Without K t → Injective K → Code (ended K t)
  code_ended t free one a b va vb x e =
      ⊎_elim
      (λ r. left r.0 r.1 r.2)
      (λ r. right r.0 r.1 r.2)
      (levi (K.text b) (t ∷ []) (K.text a) (t ∷ x) (e ∙ append_assoc (K.text a) (t ∷ []) x))
    where
      left : (m : List ℕ) → K.text b ≡ K.text a ++ m → t ∷ x ≡ m ++ (t ∷ []) → (a ≡ b) × (x ≡ [])
      left [] p q = (sym (one b a vb va (p ∙ append-nil _)), (cc))
      left (c ∷ m) p q = absurd (free b vb (K.text a) m (p ∙ ap (λ d. K.text a ++ (d ∷ m)) (same_head q)))
        where
          same_head : t ∷ x ≡ c ∷ (m ++ (t ∷ [])) → c ≡ t
          same_head e = cc

      right : (m : List ℕ) → K.text a ≡ K.text b ++ m → t ∷ [] ≡ m ++ (t ∷ x) → (a ≡ b) × (x ≡ [])
      right [] p q = (one a b va vb (p ∙ append-nil _), (cc))
      right (c ∷ m) p q = absurd (ends m x (cc))
        where
          ends : (m x : List ℕ) → [] ≡ m ++ (t ∷ x) → ⊥
          ends [] x e = not_nil (sym e)
          ends (d ∷ m) x e = not_nil (sym e)

  pub stuck_ended : (t : ℕ) → Without K t → (u v : List ℕ) → Edge K u v → ((a : A) → K.valid a → K.text a ≡ u → (x : List ℕ) → v ≡ t ∷ x → ⊥) → Stuck (ended K t) u v
  stuck_ended t free u v h bar = record {
    edge = record {
      front = record { value = h.front.value; valid = h.front.valid; rest = h.front.rest ++ (t ∷ []); text = ap (λ w. w ++ (t ∷ [])) h.front.text ∙ append_assoc u h.front.rest (t ∷ []) };
      next = λ b x e f.
          ⊎_elim
          (λ r. left b x e f.value f.valid f.rest r.0 r.1 r.2)
          (λ r. right b x e f.value f.valid f.rest r.0 r.1 r.2)
          (levi (K.text f.value) (t ∷ []) u (b ∷ f.rest) (f.text ∙ append_assoc u (b ∷ []) f.rest));
    };
    whole = λ a va e. free h.front.value h.front.valid (K.text a) h.front.rest (h.front.text ∙ ap (λ w. w ++ h.front.rest) (sym e) ∙ append_assoc (K.text a) (t ∷ []) h.front.rest);
  }
    where
      left : (b : ℕ) (x : List ℕ) → v ≡ b ∷ x → (a : A) → K.valid a → (r m : List ℕ) → K.text a ≡ u ++ m → b ∷ r ≡ m ++ (t ∷ []) → ⊥
      left b x e a va r [] p q = bar a va (p ∙ append-nil _) x (cc)
      left b x e a va r (c ∷ m) p q = h.next c x (cc) (record { value = a; valid = va; rest = m; text = p ∙ sym (append_assoc u (c ∷ []) m) })

      right : (b : ℕ) (x : List ℕ) → v ≡ b ∷ x → (a : A) → K.valid a → (r m : List ℕ) → u ≡ K.text a ++ m → t ∷ [] ≡ m ++ (b ∷ r) → ⊥
      right b x e a va r [] p q = bar a va (sym (p ∙ append-nil _)) x (cc)
      right b x e a va r (c ∷ []) p q = not_nil {x = b} {xs = r} (cc)
      right b x e a va r (c ∷ d ∷ m) p q = not_nil {x = d} {xs = m ++ (b ∷ r)} (cc)

pub code_lit : (w : List ℕ) → Code (lit w)
code_lit w a b va vb x e = (refl, append_cancel_left w x [] (sym e ∙ sym (append-nil w)))

module _ {A B : Type 0} (K : Grammar A) (D : A → Grammar B) where
  pub code_seq : Code K → ((a : A) → K.valid a → Code (D a)) → Code (seq K D)
  code_seq code more a b va vb x e =
      let h = agree {K = K} code b.0 a.0 vb.0 va.0 ((D b.0).text b.1) ((D a.0).text a.1 ++ x) (e ∙ append_assoc (K.text a.0) ((D a.0).text a.1) x) in
      subst (λ c. (D c).valid b.1 → (D c).text b.1 ≡ (D a.0).text a.1 ++ x → (◌≡◌ {A = A × B} a (c, b.1)) × (x ≡ [])) (sym h.0)
      (λ v is. let k = more a.0 va.0 a.1 b.1 va.1 v x is in (ap (λ (c : B). pair a.0 c) k.0, k.1))
      vb.1 h.1
    where
      pair : A → B → A × B
      pair p q = (p, q)

  -- one part read
  pub after_seq : Code K → (a : A) → K.valid a → After (seq K D) (K.text a) (D a)
  after_seq code a va = record {
    to = λ b vb. ((a, b), (va, vb), refl);
    from = λ z vz x e.
        let h = agree {K = K} code z.0 a vz.0 va ((D z.0).text z.1) x e in
        subst (λ c. (b : B) × (D c).valid b × (x ≡ (D c).text b)) h.0 (z.1, vz.1, sym h.1);
  }

  -- the first part is not there
  pub stuck_seq : Code K → ((a : A) → K.valid a → (b : B) × (D a).valid b) → (u v : List ℕ) → Stuck K u v → Stuck (seq K D) u v
  stuck_seq code some u v h = record {
    edge = record {
      front =
          let b = some f.value f.valid in
          record { value = (f.value, b.0); valid = (f.valid, b.1); rest = f.rest ++ (D f.value).text b.0; text = ap (λ w. w ++ (D f.value).text b.0) f.text ∙ append_assoc u f.rest ((D f.value).text b.0) };
      next = λ b x e g.
          ⊎_elim
          (λ r. left b x e g.value.0 g.valid.0 g.rest ((D g.value.0).text g.value.1) r.0 r.1 r.2)
          (λ r. over g.value.0 g.valid.0 r.0 r.1)
          (levi (K.text g.value.0) ((D g.value.0).text g.value.1) u (b ∷ g.rest) (g.text ∙ append_assoc u (b ∷ []) g.rest));
    };
    whole = λ z vz e. over z.0 vz.0 ((D z.0).text z.1) (sym e);
  }
    where
      f : Front K u
      f = h.edge.front

      left : (b : ℕ) (x : List ℕ) → v ≡ b ∷ x → (a : A) → K.valid a → (r y m : List ℕ) → K.text a ≡ u ++ m → b ∷ r ≡ m ++ y → ⊥
      left b x e a va r y [] p q = h.whole a va (p ∙ append-nil _)
      left b x e a va r y (c ∷ m) p q = h.edge.next c x (cc) (record { value = a; valid = va; rest = m; text = p ∙ sym (append_assoc u (c ∷ []) m) })

      over : (a : A) → K.valid a → (m : List ℕ) → u ≡ K.text a ++ m → ⊥
      over a va m is =
          let none = nil_left m h.edge.front.rest (code a h.edge.front.value va h.edge.front.valid (m ++ h.edge.front.rest) (h.edge.front.text ∙ ap (λ w. w ++ h.edge.front.rest) is ∙ append_assoc (K.text a) m h.edge.front.rest)).1 in
          h.whole a va (sym (is ∙ ap (λ w. K.text a ++ w) none ∙ append-nil _))

pub after_none : {A : Type 0} (K : Grammar A) → After K [] K
after_none K = record { to = λ b vb. (b, vb, refl); from = λ a va x e. (a, va, sym e) }

module _ {A : Type 0} (K : Grammar A) where
  pub code_rep : Code K → (n : ℕ) → Code (rep n K)
  code_rep code zero [] [] va vb x e = (refl, sym e)
  code_rep code zero [] (b ∷ bs) va vb x e = absurd vb
  code_rep code zero (a ∷ xs) bs va vb x e = absurd va
  code_rep code (suc n) [] bs va vb x e = absurd va
  code_rep code (suc n) (a ∷ xs) [] va vb x e = absurd vb
  code_rep code (suc n) (a ∷ xs) (b ∷ ys) va vb x e =
      let h = agree {K = K} code b a vb.0 va.0 (rep_text K ys) (rep_text K xs ++ x) (e ∙ append_assoc (K.text a) (rep_text K xs) x) in
      let k = code_rep code n xs ys va.1 vb.1 x h.1 in
      ((λ i. sym h.0 i ∷ k.0 i), k.1)

  pub some_rep : (a : A) → K.valid a → (n : ℕ) → (xs : List A) × rep_valid K n xs
  some_rep a va zero = ([], tt)
  some_rep a va (suc n) = let h = some_rep a va n in (a ∷ h.0, (va, h.1))

module _ {A B : Type 0} (K : Grammar A) (D : Grammar B) where
  pub after_rep_none : After (seq (rep zero K) (λ _. D)) [] D
  after_rep_none = record { to = λ b vb. (([], b), (tt, vb), refl); from = λ z vz x e. from z.0 z.1 vz.0 vz.1 x e }
    where
      from : (xs : List A) (b : B) → rep_valid K zero xs → D.valid b → (x : List ℕ) → rep_text K xs ++ D.text b ≡ x → (b : B) × D.valid b × (x ≡ D.text b)
      from [] b v vb x e = (b, vb, sym e)
      from (a ∷ xs) b v vb x e = absurd v

  pub after_rep_more : (n : ℕ) → After (seq (rep (suc n) K) (λ _. D)) [] (seq K (λ _. seq (rep n K) (λ _. D)))
  after_rep_more n = record {
    to = λ z vz. ((z.0 ∷ z.1.0, z.1.1), ((vz.0, vz.1.0), vz.1.1), append_assoc (K.text z.0) (rep_text K z.1.0) (D.text z.1.1));
    from = λ z vz x e. from z.0 z.1 vz.0 vz.1 x e;
  }
    where
      from : (xs : List A) (b : B) → rep_valid K (suc n) xs → D.valid b → (x : List ℕ) → rep_text K xs ++ D.text b ≡ x → (z : A × (List A × B)) × (K.valid z.0 × (rep_valid K n z.1.0 × D.valid z.1.1)) × (x ≡ K.text z.0 ++ (rep_text K z.1.0 ++ D.text z.1.1))
      from [] b v vb x e = absurd v
      from (a ∷ xs) b v vb x e = ((a, (xs, b)), (v.0, (v.1, vb)), sym e ∙ append_assoc (K.text a) (rep_text K xs) (D.text b))

module _ {A B C : Type 0} {L : Grammar A} {K : Grammar B} {J : Grammar C} where
  pub after_after : (u w : List ℕ) → After L u K → After K w J → After L (u ++ w) J
  after_after u w h k = record {
    to = λ c vc.
        let b = k.to c vc in
        let a = h.to b.0 b.1 in
        (a.0, a.1, a.2 ∙ ap (λ x. u ++ x) b.2 ∙ sym (append_assoc u w (J.text c)));
    from = λ a va x e.
        let b = h.from a va (w ++ x) (e ∙ append_assoc u w x) in
        k.from b.0 b.1 x (sym b.2);
  }

module _ {A B : Type 0} {L : Grammar A} {K : Grammar B} where
  pub edge_after : (p u v : List ℕ) → After L p K → Edge K u v → Edge L (p ++ u) v
  edge_after p u v k h = record {
    front =
        let a = k.to h.front.value h.front.valid in
        record { value = a.0; valid = a.1; rest = h.front.rest; text = a.2 ∙ ap (λ x. p ++ x) h.front.text ∙ sym (append_assoc p u h.front.rest) };
    next = λ b x e f.
        let z = k.from f.value f.valid ((u ++ (b ∷ [])) ++ f.rest) (f.text ∙ ap (λ w. w ++ f.rest) (append_assoc p u (b ∷ [])) ∙ append_assoc p (u ++ (b ∷ [])) f.rest) in
        h.next b x e (record { value = z.0; valid = z.1; rest = f.rest; text = sym z.2 });
  }

  pub stuck_after : (p u v : List ℕ) → After L p K → Stuck K u v → Stuck L (p ++ u) v
  stuck_after p u v k h = record {
    edge = edge_after p u v k h.edge;
    whole = λ a va e. let z = k.from a va u e in h.whole z.0 z.1 (sym z.2);
  }

  module _ {at₀ at : ℕ} {bs₀ bs : List ℕ} (s : Sofar L at₀ bs₀ K at bs) where
    pub sofar_lost : (p : ℕ) → Lost K at bs p → Lost L at₀ bs₀ p
    sofar_lost p h = record {
      before = s.read ++ h.before;
      after = h.after;
      split = s.split ∙ ap (λ w. s.read ++ w) h.split ∙ sym (append_assoc s.read h.before h.after);
      place = omega (arith, h.place, s.place, length-append s.read h.before);
      stuck = stuck_after s.read h.before h.after s.after h.stuck;
    }

    pub sofar_found : (b : B) (p : ℕ) → Found K at bs b p → (a : A) × Found L at₀ bs₀ a p
    sofar_found b p h =
        let a = s.after.to b h.valid in (
          a.0,
          record {
            valid = a.1;
            after = h.after;
            split = s.split ∙ ap (λ w. s.read ++ w) h.split ∙ sym (append_assoc s.read (K.text b) h.after) ∙ ap (λ w. w ++ h.after) (sym a.2);
            place = omega (arith, h.place, s.place, length-append s.read (K.text b), ap length a.2);
          },
        )

module _ {A B C : Type 0} {L : Grammar A} (K : Grammar B) (D : B → Grammar C) {at₀ at : ℕ} {bs₀ bs : List ℕ} (code : Code K) (s : Sofar L at₀ bs₀ (seq K D) at bs) where
  pub part_lost : ((b : B) → K.valid b → (c : C) × (D b).valid c) → (p : ℕ) → Lost K at bs p → Lost L at₀ bs₀ p
  part_lost some p h = sofar_lost s p (record { before = h.before; after = h.after; split = h.split; place = h.place; stuck = stuck_seq K D code some h.before h.after h.stuck })

  pub part_found : (b : B) (e : ℕ) (h : Found K at bs b e) → Sofar L at₀ bs₀ (D b) e h.after
  part_found b e h = record {
    read = s.read ++ K.text b;
    split = s.split ∙ ap (λ w. s.read ++ w) h.split ∙ sym (append_assoc s.read (K.text b) h.after);
    place = omega (arith, h.place, s.place, length-append s.read (K.text b));
    after = after_after s.read (K.text b) s.after (after_seq K D code b h.valid);
  }

pub sofar_none : {A : Type 0} (L : Grammar A) (at : ℕ) (bs : List ℕ) → Sofar L at bs L at bs
sofar_none L at bs = record { read = []; split = refl; place = omega arith; after = after_none L }

-- another way to say what is left
pub sofar_turn : {A B C : Type 0} {L : Grammar A} {K : Grammar B} {J : Grammar C} {at₀ at : ℕ} {bs₀ bs : List ℕ} → Sofar L at₀ bs₀ K at bs → After K [] J → Sofar L at₀ bs₀ J at bs
sofar_turn {L = L} {K = K} {J = J} s k = record {
  read = s.read;
  split = s.split;
  place = s.place;
  after = subst (λ u. After L u J) (append-nil s.read) (after_after s.read [] s.after k);
}

-- where the bytes stand after a part of them
pub drop_past : (bs front after : List ℕ) (at e : ℕ) → drop at bs ≡ front ++ after → e ≡ at + length front → after ≡ drop e bs
drop_past bs front after at e split place =
    sym (drop_at front after (length front) refl) ∙ ap (drop (length front)) (sym split) ∙ drop-drop (length front) at bs ∙ ap (λ n. drop n bs) (sym place)

pub within_past : (bs front after : List ℕ) (at e : ℕ) → at ≤ length bs → drop at bs ≡ front ++ after → e ≡ at + length front → e ≤ length bs
within_past bs front after at e h split place = omega (arith, length-drop at bs, ap length split, length-append front after)
