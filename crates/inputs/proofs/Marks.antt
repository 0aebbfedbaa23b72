-- A cut and the byte that ends it. Assumes nothing.
use Rattle.std.proofs.Common.{◌≡◌, ℕ, ◌+◌, ◌<◌, ◌≤◌, Bool, true, false, List, [], ◌∷◌, ◌++◌, length, get_or, take, drop, decimal, sym, refl, ap, ◌∙◌, subst, inl, inr, arith, length-drop}
use Rattle.std.proofs.lemmas.List.{drop_more, take_at, drop_at}
use Rattle.grammar.specs.Grammars.{Lost, lit, ended}
use Rattle.grammar.specs.Decimals.{naturals}
use Rattle.grammar.proofs.Theory.{not_nil, nil_left}
use Rattle.marks.specs.Spellings.{Separator}
use Rattle.texts.specs.Cursors.{Behind, LostAt, Numbered}
use Rattle.texts.specs.declared.cursor.Cursor.{Cursor}
use Rattle.texts.proofs.Scans.{no_byte, ended_stop, ended_found}
use Rattle.inputs.specs.Steps.{mark, marks, cut}

-- a blank and a bracket end what stands before them
pub mark_separates : (v : Bool) → Separator (mark v)
mark_separates true = inl (inl refl)
mark_separates false = inr (inr refl)

module _ (n : ℕ) (c : Cursor) where
  -- neither a bracket nor, where a cut may follow, a blank
  pub mark_lost : (1 ≤ n → c.at < length c.bytes.now → get_or c.bytes.now c.at 0 ≡ 32 → ⊥) → (p : ℕ) → LostAt (lit (41 ∷ [])) c p → LostAt (marks n) c p
  mark_lost no-blank p h =
      let b = no_byte 41 c p h in
      record {
        before = [];
        after = drop c.at c.bytes.now;
        split = refl;
        place = omega (arith, b.0);
        stuck = record {
          edge = record { front = record { value = false; valid = λ e. let z : ◌≡◌ {A = ℕ} 0 1 = cc in absurd (omega arith); rest = 41 ∷ []; text = refl }; next = λ d x e f. by b.1 d x e f.value f.valid f.rest f.text };
          whole = λ a va e. not_nil e;
        };
      }
    where
      by : (c.at < length c.bytes.now → get_or c.bytes.now c.at 0 ≡ 41 → ⊥) → (d : ℕ) (x : List ℕ) → drop c.at c.bytes.now ≡ d ∷ x → (v : Bool) → (v ≡ true → 1 ≤ n) → (rest : List ℕ) → mark v ∷ [] ≡ d ∷ rest → ⊥
      by no-close d x e v ok rest is =
          let more : c.at < length c.bytes.now = omega (arith, ap length e, length-drop c.at c.bytes.now) in
          let here : get_or c.bytes.now c.at 0 ∷ drop (c.at + 1) c.bytes.now ≡ d ∷ x = sym (drop_more c.bytes.now c.at 0 more) ∙ e in
          let byte : get_or c.bytes.now c.at 0 ≡ mark v = cc in
          which v ok byte more
        where
          which : (v : Bool) → (v ≡ true → 1 ≤ n) → get_or c.bytes.now c.at 0 ≡ mark v → c.at < length c.bytes.now → ⊥
          which true ok byte more = no-blank (ok refl) more byte
          which false ok byte more = no-close more byte

  pub mark_found : (v : Bool) → (v ≡ true → 1 ≤ n) → (u : Unit {0}) (d : Cursor) → Behind (lit (mark v ∷ [])) c u d → Behind (marks n) c v d
  mark_found v ok u d h = record { same = h.same; found = record { valid = ok; after = h.found.after; split = h.found.split; place = h.found.place } }

  -- where no such byte stands
  pub no_mark : (p : ℕ) → LostAt (marks n) c p → (p ≡ c.at) × ((v : Bool) → (v ≡ true → 1 ≤ n) → c.at < length c.bytes.now → get_or c.bytes.now c.at 0 ≡ mark v → ⊥)
  no_mark p h = by h.before h.stuck.edge.front.rest refl h.stuck.edge.front.text
    where
      by : (u r : List ℕ) → h.before ≡ u → mark h.stuck.edge.front.value ∷ [] ≡ h.before ++ r → (p ≡ c.at) × ((v : Bool) → (v ≡ true → 1 ≤ n) → c.at < length c.bytes.now → get_or c.bytes.now c.at 0 ≡ mark v → ⊥)
      by [] r none e = (
        omega (arith, h.place, ap length none),
        λ v ok inside first.
            let here : h.after ≡ mark v ∷ drop (c.at + 1) c.bytes.now = ap (λ w. w ++ h.after) (sym none) ∙ sym h.split ∙ drop_more c.bytes.now c.at 0 inside ∙ ap (λ b. b ∷ drop (c.at + 1) c.bytes.now) first in
            h.stuck.edge.next (mark v) (drop (c.at + 1) c.bytes.now) here (record { value = v; valid = ok; rest = []; text = ap (λ w. (w ++ (mark v ∷ [])) ++ []) (sym none) }),
      )
      by (x ∷ u) r some e =
          let text : mark h.stuck.edge.front.value ∷ [] ≡ x ∷ (u ++ r) = e ∙ ap (λ w. w ++ r) some in
          let tails : [] ≡ u ++ r = cc in
          let first : mark h.stuck.edge.front.value ≡ x = cc in
          absurd (h.stuck.whole h.stuck.edge.front.value h.stuck.edge.front.valid ((λ i. first i ∷ sym (nil_left u r (sym tails)) i) ∙ sym some))

-- a list that is cut twice at one place
same_cut : (bs u v p q : List ℕ) → bs ≡ u ++ v → bs ≡ p ++ q → length p ≡ length u → (p ≡ u) × (q ≡ v)
same_cut bs u v p q e k n = (sym (take_at p q (length u) n) ∙ ap (take (length u)) (sym k ∙ e) ∙ take_at u v (length u) refl, sym (drop_at p q (length u) n) ∙ ap (drop (length u)) (sym k ∙ e) ∙ drop_at u v (length u) refl)

-- a cut that neither a bracket nor, where one more may follow, a blank ends
module _ (n at : ℕ) (bs : List ℕ) (p : ℕ) (closed : Lost (ended (naturals 2047) 41) at bs p) (spaced : 1 ≤ n → Lost (ended (naturals 2047) 32) at bs p) where
  no_front : (b : ℕ) (x rest : List ℕ) → closed.after ≡ b ∷ x → (a : ℕ) (v : Bool) → (1 ≤ a) × (a ≤ 2047) → (v ≡ true → 1 ≤ n) → decimal a ++ (mark v ∷ []) ≡ (closed.before ++ (b ∷ [])) ++ rest → ⊥
  no_front b x rest e a false va ok is = closed.stuck.edge.next b x e (record { value = a; valid = va; rest = rest; text = is })
  no_front b x rest e a true va ok is =
      let h = spaced (ok refl) in
      let s = same_cut bs closed.before closed.after h.before h.after closed.split h.split (omega (arith, h.place, closed.place)) in
      h.stuck.edge.next b x (s.1 ∙ e) (record { value = a; valid = va; rest = rest; text = is ∙ ap (λ w. (w ++ (b ∷ [])) ++ rest) (sym s.0) })

  no_text : (a : ℕ) (v : Bool) → (1 ≤ a) × (a ≤ 2047) → (v ≡ true → 1 ≤ n) → decimal a ++ (mark v ∷ []) ≡ closed.before → ⊥
  no_text a false va ok is = closed.stuck.whole a va is
  no_text a true va ok is =
      let h = spaced (ok refl) in
      let s = same_cut bs closed.before closed.after h.before h.after closed.split h.split (omega (arith, h.place, closed.place)) in
      h.stuck.whole a va (is ∙ sym s.0)

  pub cut_lost : Lost (cut n) at bs p
  cut_lost = record {
    before = closed.before;
    after = closed.after;
    split = closed.split;
    place = closed.place;
    stuck = record {
      edge = record {
        front = let f = closed.stuck.edge.front in record { value = (f.value, false); valid = (f.valid, λ e. let z : ◌≡◌ {A = ℕ} 0 1 = cc in absurd (omega arith)); rest = f.rest; text = f.text };
        next = λ b x e f. no_front b x f.rest e f.value.0 f.value.1 f.valid.0 f.valid.1 f.text;
      };
      whole = λ z vz e. no_text z.0 z.1 vz.0 vz.1 e;
    };
  }

-- a number that was read, and what ends it
module _ (n : ℕ) (c : Cursor) (a : ℕ) (d : Cursor) (h : Numbered 2047 c a d) where
  pub cut_stop : (p : ℕ) → LostAt (marks n) d p → LostAt (cut n) c p
  cut_stop p k =
      let b = no_mark n d p k in
      subst (λ q. LostAt (cut n) c q) (sym b.0)
      (cut_lost n c.at (drop c.at c.bytes.now) d.at
      (ended_stop 2047 (omega arith) 41 (inr (inr refl)) c a d h (b.1 false (λ e. let z : ◌≡◌ {A = ℕ} 0 1 = cc in absurd (omega arith))))
      (λ some. ended_stop 2047 (omega arith) 32 (inl (inl refl)) c a d h (b.1 true (λ _. some))))

  pub cut_found : (v : Bool) (e : Cursor) → Behind (marks n) d v e → Behind (cut n) c (a, v) e
  cut_found v e k =
      let f = ended_found 2047 (omega arith) (mark v) (mark_separates v) c a d h tt e (record { same = k.same; found = record { valid = tt; after = k.found.after; split = k.found.split; place = k.found.place } }) in
      record { same = f.same; found = record { valid = (f.found.valid, k.found.valid); after = f.found.after; split = f.found.split; place = f.found.place } }
