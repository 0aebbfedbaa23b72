-- A word or a number and the byte that ends it. Assumes nothing.
use Rattle.std.proofs.Common.{◌≡◌, ℕ, ◌+◌, ◌^◌, ◌<◌, ◌≤◌, List, [], ◌∷◌, ◌++◌, length, get_or, take, drop, decimal, Ok, Err, Result, sym, refl, ap, ◌∙◌, subst, ⊎_elim, append_assoc, append-nil, arith, length-append, length-drop, take-append-drop}
use Rattle.std.proofs.lemmas.List.{drop_more, length-take-le, take_all, drop_all, get_or-drop, get_or_at}
use Rattle.std.proofs.lemmas.Fmt.{decimal_nonempty, decimal_injective}
use Rattle.grammar.specs.Grammars.{Grammar, Edge, Front, Found, Lost, LongestShared, Without, Injective, Code, all_by, lit, ended}
use Rattle.grammar.specs.Decimals.{naturals, Natural}
use Rattle.grammar.proofs.Theory.{edge_longest, stuck_ended, code_ended, nil_left, not_nil}
use Rattle.grammar.proofs.Digits.{natural_edge}
use Rattle.marks.specs.Spellings.{Separator}
use Rattle.marks.specs.Spells.{decimal_high, separator_low}
use Rattle.texts.specs.Tokens.{front}
use Rattle.texts.specs.Parts.{sides}
use Rattle.texts.specs.Cursors.{Behind, LostAt, ReadsOn, Numbered}
use Rattle.texts.specs.declared.cursor.Cursor.{Cursor}
use Rattle.texts.proofs.Fronts.{Cut, front_split, front_clear}

-- no text has a separator in it
abbrev pub Unbroken : {A : Type 0} → Grammar A → Type 0
Unbroken K = (t : ℕ) → Separator t → Without K t

-- what is read of a part is read of the text that it stands in
module _ {A : Type 0} (K : Grammar A) (free : Unbroken K) where
  edge_cut : (u m v : List ℕ) → Cut v → Edge K u m → Edge K u (m ++ v)
  edge_cut u m v cut h = record { front = h.front; next = λ b x e f. by m b x e f h.next }
    where
      by : (m : List ℕ) (b : ℕ) (x : List ℕ) → m ++ v ≡ b ∷ x → Front K (u ++ (b ∷ [])) → ((b : ℕ) (x : List ℕ) → m ≡ b ∷ x → Front K (u ++ (b ∷ [])) → ⊥) → ⊥
      by [] b x e f next = free b (cut b x e) f.value f.valid u f.rest (f.text ∙ append_assoc u (b ∷ []) f.rest)
      by (c ∷ m) b x e f next = let same : c ≡ b = cc in next c m refl (subst (λ d. Front K (u ++ (d ∷ []))) (sym same) f)

  module _ (bytes : List ℕ) (at : ℕ) (u m : List ℕ) (split : front (drop at bytes) ≡ u ++ m) where
    after : List ℕ
    after = (front_split (drop at bytes)).0

    rests : drop at bytes ≡ u ++ (m ++ (front_split (drop at bytes)).0)
    rests = (front_split (drop at bytes)).1 ∙ ap (λ w. w ++ (front_split (drop at bytes)).0) split ∙ append_assoc u m (front_split (drop at bytes)).0

    -- a byte behind the part, if it is all there, is what stands in the text
    behind : (t : ℕ) (x : List ℕ) → m ++ (front_split (drop at bytes)).0 ≡ t ∷ x → (at + length u < length bytes) × (get_or bytes (at + length u) 0 ≡ t)
    behind t x e =
        let is : drop at bytes ≡ u ++ (t ∷ x) = rests ∙ ap (λ w. u ++ w) e in
        (omega (arith, ap length is, length-append u (t ∷ x), length-drop at bytes), sym (get_or-drop at bytes (length u) 0) ∙ ap (λ w. get_or w (length u) 0) is ∙ get_or_at u t x 0 (length u) refl)

    -- the part stops too soon, or another byte ends it
    pub part_stuck : (t : ℕ) → Separator t → Edge K u m → (m ≡ [] → at + length u < length bytes → get_or bytes (at + length u) 0 ≡ t → (a : A) → K.valid a → K.text a ≡ u → ⊥) → Lost (ended K t) at (drop at bytes) (at + length u)
    part_stuck t sep edge bar = record {
      before = u;
      after = m ++ (front_split (drop at bytes)).0;
      split = rests;
      place = refl;
      stuck = stuck_ended {K = K} t (free t sep) u (m ++ (front_split (drop at bytes)).0) (edge_cut u m (front_split (drop at bytes)).0 (front_split (drop at bytes)).2 edge)
          (λ a va is x e. by m refl a va is x e);
    }
      where
        by : (k : List ℕ) → m ≡ k → (a : A) → K.valid a → K.text a ≡ u → (x : List ℕ) → m ++ (front_split (drop at bytes)).0 ≡ t ∷ x → ⊥
        by [] e a va is x k = let b = behind t x k in bar e b.0 b.1 a va is
        by (c ∷ n) e a va is x k =
            let first : c ≡ t = (let z : c ∷ (n ++ (front_split (drop at bytes)).0) ≡ t ∷ x = ap (λ w. w ++ (front_split (drop at bytes)).0) (sym e) ∙ k in cc) in
            front_clear (drop at bytes) u n t sep (split ∙ ap (λ w. u ++ w) e ∙ ap (λ d. u ++ (d ∷ n)) first)

    pub part_ended : (t : ℕ) → m ≡ [] → at + length u < length bytes → get_or bytes (at + length u) 0 ≡ t → (a : A) → K.valid a → K.text a ≡ u → Found (ended K t) at (drop at bytes) a (at + length u + 1)
    part_ended t none inside first a va is =
        let v = (front_split (drop at bytes)).0 in
        let whole : drop at bytes ≡ u ++ v = rests ∙ ap (λ w. u ++ (w ++ v)) none in
        let more : 0 < length v = omega (arith, ap length whole, length-append u v, length-drop at bytes) in
        let byte : get_or v 0 0 ≡ t = sym (heads v) ∙ ap (λ w. get_or w (length u) 0) (sym whole) ∙ get_or-drop at bytes (length u) 0 ∙ first in
        let next : v ≡ t ∷ drop 1 v = drop_more v 0 0 more ∙ ap (λ b. b ∷ drop 1 v) byte in
        record {
          valid = va;
          after = drop 1 v;
          split = whole ∙ ap (λ w. u ++ w) next ∙ sym (append_assoc u (t ∷ []) (drop 1 v)) ∙ ap (λ w. (w ++ (t ∷ [])) ++ drop 1 v) (sym is);
          place = omega (arith, length-append (K.text a) (t ∷ []), ap length is);
        }
      where
        heads : (w : List ℕ) → get_or (u ++ w) (length u) 0 ≡ get_or w 0 0
        heads w = to u w
          where
            to : (u w : List ℕ) → get_or (u ++ w) (length u) 0 ≡ get_or w 0 0
            to [] w = refl
            to (x ∷ u) w = to u w

-- spellings
module _ {M : Type 0} (f : M → List ℕ) (clear : (x : M) (u w : List ℕ) (t : ℕ) → Separator t → f x ≡ u ++ (t ∷ w) → ⊥) (t at n : ℕ) (bytes w : List ℕ) (is : w ≡ front (drop at bytes)) where
  unbroken : Unbroken (all_by f)
  unbroken t sep a va u w e = clear a u w t sep e

  halves : front (drop at bytes) ≡ take n w ++ drop n w
  halves = sym (take-append-drop n w ∙ is)

  pub mark_lost : Separator t → LongestShared (all_by f) w n → (length w ≤ n → at + n < length bytes → get_or bytes (at + n) 0 ≡ t → (a : M) → f a ≡ w → ⊥) → Lost (ended (all_by f) t) at (drop at bytes) (at + n)
  mark_lost sep most bar =
      let long : length (take n w) ≡ n = length-take-le n w most.one.2.here in
      subst (λ k. Lost (ended (all_by f) t) at (drop at bytes) (at + k)) long
      (part_stuck (all_by f) unbroken bytes at (take n w) (drop n w) halves t sep (edge_longest w n most)
      (λ none inside first a va e.
      let all : length w ≤ n = omega (arith, ap length none, length-drop n w) in
      bar all (omega arith) (ap (λ k. get_or bytes (at + k) 0) (sym long) ∙ first) a (e ∙ take_all n w all)))

  pub mark_found : length w ≤ n → n ≤ length w → at + n < length bytes → get_or bytes (at + n) 0 ≡ t → (a : M) → f a ≡ w → Found (ended (all_by f) t) at (drop at bytes) a (at + n + 1)
  mark_found all most inside first a e =
      let long : length (take n w) ≡ n = length-take-le n w most in
      subst (λ k. Found (ended (all_by f) t) at (drop at bytes) a (at + k + 1)) long
      (part_ended (all_by f) unbroken bytes at (take n w) (drop n w) halves t (drop_all n w all) (omega arith) (ap (λ k. get_or bytes (at + k) 0) long ∙ first) a tt (e ∙ sym (take_all n w all)))

-- numbers
module _ (max : ℕ) (small : max < 2 ^ 32) where
  pub free_naturals : Unbroken (naturals max)
  free_naturals t sep a va u w e = omega (arith, separator_low t sep, decimal_high a (omega (arith, va.1)) u w t e)

  pub one_naturals : Injective (naturals max)
  one_naturals a b va vb e = decimal_injective a b (omega (arith, va.1)) (omega (arith, vb.1)) e

  module _ (at : ℕ) (bytes w : List ℕ) (stop n : ℕ) (is : w ≡ front (drop at bytes)) (h : Natural max 0 w stop n) where
    long : length h.part.read ≡ stop
    long = omega (arith, h.part.place)

    pub number_lost : 1 ≤ max → (t : ℕ) → Separator t → (length w ≤ stop → n ≡ 0) → Lost (ended (naturals max) t) at (drop at bytes) (at + stop)
    number_lost some t sep bar =
        subst (λ k. Lost (ended (naturals max) t) at (drop at bytes) (at + k)) long
        (part_stuck (naturals max) free_naturals bytes at h.part.read (drop stop w) (sym is ∙ h.part.split) t sep (natural_edge max 0 w stop n some h)
        (λ none inside first a va e.
        let zero : n ≡ 0 = bar (omega (arith, ap length none, length-drop stop w)) in
        ⊎_elim (λ k. omega (arith, decimal_nonempty a (omega (arith, va.1)), ap length (e ∙ k.0))) (λ k. omega (arith, k.1)) h.part.begun))

    -- the whole word is the number
    pub number_whole : length w ≤ stop → 1 ≤ n → (n ≤ max) × (front (drop at bytes) ≡ decimal n) × (stop ≡ length (decimal n))
    number_whole all pos =
        ⊎_elim (λ k. absurd (omega (arith, k.1)))
        (λ k. (k.2, sym is ∙ h.part.split ∙ ap (λ w. h.part.read ++ w) (drop_all stop w all) ∙ append-nil _ ∙ k.0, sym long ∙ ap length k.0))
        h.part.begun

-- a byte and what stands there
pub one_byte : (t : ℕ) (d : Cursor) (u : Unit {0}) (e : Cursor) → Behind (lit (t ∷ [])) d u e → (d.at < length d.bytes.now) × (get_or d.bytes.now d.at 0 ≡ t) × (e.at ≡ d.at + 1)
one_byte t d u e h =
    let inside : d.at < length d.bytes.now = omega (arith, ap length h.found.split, length-drop d.at d.bytes.now, length-append (t ∷ []) h.found.after) in
    let split : get_or d.bytes.now d.at 0 ∷ drop (d.at + 1) d.bytes.now ≡ t ∷ h.found.after = sym (drop_more d.bytes.now d.at 0 inside) ∙ h.found.split in
    (inside, (cc), h.found.place)

pub no_byte : (t : ℕ) (d : Cursor) (p : ℕ) → LostAt (lit (t ∷ [])) d p → (p ≡ d.at) × (d.at < length d.bytes.now → get_or d.bytes.now d.at 0 ≡ t → ⊥)
no_byte t d p h = by h.before h.stuck.edge.front.rest refl h.stuck.edge.front.text
  where
    by : (u r : List ℕ) → h.before ≡ u → t ∷ [] ≡ h.before ++ r → (p ≡ d.at) × (d.at < length d.bytes.now → get_or d.bytes.now d.at 0 ≡ t → ⊥)
    by [] r none e = (
      omega (arith, h.place, ap length none),
      λ inside first.
          let here : h.after ≡ t ∷ drop (d.at + 1) d.bytes.now = ap (λ w. w ++ h.after) (sym none) ∙ sym h.split ∙ drop_more d.bytes.now d.at 0 inside ∙ ap (λ b. b ∷ drop (d.at + 1) d.bytes.now) first in
          h.stuck.edge.next t (drop (d.at + 1) d.bytes.now) here (record { value = tt; valid = tt; rest = []; text = ap (λ w. (w ++ (t ∷ [])) ++ []) (sym none) }),
    )
    by (x ∷ u) r some e =
        let text : t ∷ [] ≡ x ∷ (u ++ r) = e ∙ ap (λ w. w ++ r) some in
        let tails : [] ≡ u ++ r = cc in
        let first : t ≡ x = cc in
        absurd (h.stuck.whole tt tt ((λ i. first i ∷ sym (nil_left u r (sym tails)) i) ∙ sym some))

-- a number that was read, and the byte that has to end it
module _ (max : ℕ) (small : max < 2 ^ 32) (t : ℕ) (sep : Separator t) (c : Cursor) (n : ℕ) (d : Cursor) (h : Numbered max c n d) where
  all : front (drop c.at c.bytes.now) ≡ decimal n ++ []
  all = h.whole ∙ sym (append-nil _)

  place : c.at + length (decimal n) ≡ d.at
  place = sym h.place

  byte : get_or c.bytes.now (c.at + length (decimal n)) 0 ≡ get_or d.bytes.now d.at 0
  byte = (λ i. get_or (sym h.same i) (place i) 0)

  pub ended_stop : (d.at < length d.bytes.now → get_or d.bytes.now d.at 0 ≡ t → ⊥) → LostAt (ended (naturals max) t) c d.at
  ended_stop bar =
      subst (λ q. LostAt (ended (naturals max) t) c q) place
      (part_stuck (naturals max) (free_naturals max small) c.bytes.now c.at (decimal n) [] all t sep
      (record { front = record { value = n; valid = (h.least, h.most); rest = []; text = sym (append-nil _) }; next = λ b x e f. not_nil (sym e) })
      (λ none inside first a va e. bar (omega (arith, place, ap length h.same)) (sym byte ∙ first)))

  pub ended_lost : (p : ℕ) → LostAt (lit (t ∷ [])) d p → LostAt (ended (naturals max) t) c p
  ended_lost p k = let b = no_byte t d p k in subst (λ q. LostAt (ended (naturals max) t) c q) (sym b.0) (ended_stop b.1)

  pub ended_found : (u : Unit {0}) (e : Cursor) → Behind (lit (t ∷ [])) d u e → Behind (ended (naturals max) t) c n e
  ended_found u e k =
      let b = one_byte t d u e k in
      record {
        same = k.same ∙ h.same;
        found = subst (λ q. Found (ended (naturals max) t) c.at (drop c.at c.bytes.now) n q) (omega (arith, place, b.2))
            (part_ended (naturals max) (free_naturals max small) c.bytes.now c.at (decimal n) [] all t refl (omega (arith, place, b.0, ap length h.same)) (byte ∙ b.1) n (h.least, h.most) refl);
      }

-- a spelling that was read, and the byte that has to end it
module _ {M : Type 0} (f : M → List ℕ) (clear : (x : M) (u w : List ℕ) (t : ℕ) → Separator t → f x ≡ u ++ (t ∷ w) → ⊥) (t : ℕ) (sep : Separator t) (c stop : Cursor) (n : ℕ) (w : List ℕ) (is : w ≡ front (drop c.at c.bytes.now)) (same : stop.bytes.now ≡ c.bytes.now) (place : stop.at ≡ c.at + n) (whole : length w ≤ n) (shared : LongestShared (all_by f) w n) (a : M) (spelt : f a ≡ w) where
  pub mark_reads : (r : Result Cursor ℕ) → ReadsOn (lit (t ∷ [])) stop r → ReadsOn (ended (all_by f) t) c r
  mark_reads (Ok e) h =
      let b = one_byte t stop h.0 e h.1 in (
        a,
        record {
          same = h.1.same ∙ same;
          found = subst (λ q. Found (ended (all_by f) t) c.at (drop c.at c.bytes.now) a q) (omega (arith, place, b.2))
              (mark_found f clear t c.at n c.bytes.now w is whole shared.one.2.here (omega (arith, place, b.0, ap length same)) ((λ i. get_or (sym same i) (sym place i) 0) ∙ b.1) a spelt);
        },
      )
  mark_reads (Err p) h =
      let b = no_byte t stop p h in
      subst (λ q. LostAt (ended (all_by f) t) c q) (sym place ∙ sym b.0)
      (mark_lost f clear t c.at n c.bytes.now w is sep shared (λ all inside first x e. b.1 (omega (arith, place, ap length same)) ((λ i. get_or (same i) (place i) 0) ∙ first)))

-- sides
pub code_sides : (t : ℕ) → Separator t → Code (sides t)
code_sides t sep = code_ended {K = naturals 2048} t (free_naturals 2048 (omega arith) t sep) (one_naturals 2048 (omega arith))
