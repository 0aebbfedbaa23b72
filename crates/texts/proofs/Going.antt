-- A reader on its way through the bytes. Assumes nothing.
use Rattle.std.proofs.Common.{◌≡◌, ℕ, suc, [], drop, Ok, Err, Result, refl, sym, ap, ◌∙◌, subst}
use Rattle.grammar.specs.Grammars.{Grammar, Code, Sofar, After, seq, rep}
use Rattle.grammar.proofs.Theory.{sofar_none, sofar_turn, sofar_lost, sofar_found, part_lost, part_found, after_rep_none, after_rep_more, drop_past}
use Rattle.texts.specs.Cursors.{Behind, LostAt, ReadsOn}
use Rattle.texts.specs.declared.cursor.Cursor.{Cursor}

-- a reader of L that began at c₀ has come to c, and has to read K
pub record Going {A B : Type 0} (L : Grammar A) (c₀ : Cursor) (K : Grammar B) (c : Cursor) : Type 0 where
  pub same : c.bytes.now ≡ c₀.bytes.now
  pub sofar : Sofar L c₀.at (drop c₀.at c₀.bytes.now) K c.at (drop c.at c.bytes.now)

pub going_none : {A : Type 0} (L : Grammar A) (c : Cursor) → Going L c L c
going_none L c = record { same = refl; sofar = sofar_none L c.at (drop c.at c.bytes.now) }

module _ {A B : Type 0} {L : Grammar A} {K : Grammar B} {c₀ c : Cursor} (s : Going L c₀ K c) where
  pub going_turn : {C : Type 0} {J : Grammar C} → After K [] J → Going L c₀ J c
  going_turn k = record { same = s.same; sofar = sofar_turn s.sofar k }

  pub going_lost : (p : ℕ) → LostAt K c p → LostAt L c₀ p
  going_lost p h = sofar_lost s.sofar p h

  pub going_end : (r : Result Cursor ℕ) → ReadsOn K c r → ReadsOn L c₀ r
  going_end (Ok d) h = let k = sofar_found s.sofar h.0 d.at h.1.found in (k.0, record { same = h.1.same ∙ s.same; found = k.1 })
  going_end (Err p) h = going_lost p h

module _ {A B C : Type 0} {L : Grammar A} (K : Grammar B) (D : B → Grammar C) {c₀ c : Cursor} (code : Code K) (s : Going L c₀ (seq K D) c) where
  pub step_lost : ((b : B) → K.valid b → (z : C) × (D b).valid z) → (p : ℕ) → LostAt K c p → LostAt L c₀ p
  step_lost some p h = part_lost K D code s.sofar some p h

  pub step_found : (b : B) (d : Cursor) → Behind K c b d → Going L c₀ (D b) d
  step_found b d h = record {
    same = h.same ∙ s.same;
    sofar = subst (λ w. Sofar L c₀.at (drop c₀.at c₀.bytes.now) (D b) d.at w) (drop_past c.bytes.now (K.text b) h.found.after c.at d.at h.found.split h.found.place ∙ ap (drop d.at) (sym h.same)) (part_found K D code s.sofar b d.at h.found);
  }

module _ {A B C : Type 0} {L : Grammar A} (K : Grammar B) (D : Grammar C) {c₀ c : Cursor} (n : ℕ) (s : Going L c₀ (seq (rep n K) (λ _. D)) c) where
  pub turn_none : n ≡ 0 → Going L c₀ D c
  turn_none e = going_turn (subst (λ m. Going L c₀ (seq (rep m K) (λ _. D)) c) e s) (after_rep_none K D)

  pub turn_more : (m : ℕ) → n ≡ suc m → Going L c₀ (seq K (λ _. seq (rep m K) (λ _. D))) c
  turn_more m e = going_turn (subst (λ m. Going L c₀ (seq (rep m K) (λ _. D)) c) e s) (after_rep_more K D m)
