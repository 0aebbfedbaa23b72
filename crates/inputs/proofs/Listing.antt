-- The cuts of one side, one after another. Assumes nothing.
use Rattle.std.proofs.Common.{◌≡◌, ℕ, zero, suc, ◌+◌, ◌-◌, ◌≤◌, Bool, true, false, List, [], ◌∷◌, ◌++◌, length, take, drop, set, decimal, sym, refl, ap, ◌∙◌, subst, append_assoc, append-nil, arith, length-append, length-set}
use mathlib.Core.List.{append_cancel_left}
use Rattle.std.proofs.lemmas.List.{take_more_set, length-take-le}
use Rattle.std.proofs.lemmas.Fmt.{decimal_injective}
use Rattle.grammar.specs.Grammars.{Code, After, seq}
use Rattle.grammar.proofs.Theory.{drop_past}
use Rattle.texts.specs.Tokens.{front}
use Rattle.texts.proofs.Scans.{free_naturals}
use Rattle.texts.specs.Cursors.{Behind, LostAt}
use Rattle.texts.specs.declared.cursor.Cursor.{Cursor}
use Rattle.texts.proofs.Going.{Going, going_none, going_turn, step_lost, step_found}
use Rattle.brackets.specs.Writes.{blanked}
use Rattle.brackets.proofs.Back.{front_of}
use Rattle.inputs.specs.Cuts.{UpTo}
use Rattle.inputs.specs.Steps.{mark, marks, cut, cuts, Follows, tail, follow}
use Rattle.inputs.proofs.Marks.{mark_separates}

pub same_mark : (s t : Bool) → mark s ≡ mark t → s ≡ t
same_mark true true e = refl
same_mark true false e = absurd (omega arith)
same_mark false true e = absurd (omega arith)
same_mark false false e = refl

abbrev Cut : ℕ → Type 0
Cut c = (1 ≤ c) × (c ≤ 2047)

-- a number ends where the first separator stands
number_front : (c : ℕ) → Cut c → (s : Bool) (v : List ℕ) → front (decimal c ++ (mark s ∷ v)) ≡ decimal c
number_front c h s v = front_of (decimal c) v (mark s) (mark_separates s) (λ a b t sep e. free_naturals 2047 (omega arith) t sep c h a b e)

pub same_number : (c d : ℕ) → Cut c → Cut d → (s t : Bool) (v w : List ℕ) → decimal c ++ (mark s ∷ v) ≡ decimal d ++ (mark t ∷ w) → (c ≡ d) × ((s ≡ t) × (v ≡ w))
same_number c d hc hd s t v w e =
    let text : decimal c ≡ decimal d = sym (number_front c hc s v) ∙ ap front e ∙ number_front d hd t w in
    let rest : mark s ∷ v ≡ mark t ∷ w = append_cancel_left (decimal d) (mark s ∷ v) (mark t ∷ w) (ap (λ u. u ++ (mark s ∷ v)) (sym text) ∙ e) in
    let heads : mark s ≡ mark t = cc in
    let tails : v ≡ w = cc in
    (decimal_injective c d (omega (arith, hc.1)) (omega (arith, hd.1)) text, (same_mark s t heads, tails))

pub code_marks : (n : ℕ) → Code (marks n)
code_marks n s t vs vt x e = let heads : mark t ≡ mark s = cc in let tails : [] ≡ x = cc in (sym (same_mark t s heads), sym tails)

pub code_cut : (n : ℕ) → Code (cut n)
code_cut n z y vz vy x e =
    let h = same_number y.0 z.0 vy.0 vz.0 y.1 z.1 [] x (e ∙ append_assoc (decimal z.0) (mark z.1 ∷ []) x) in
    ((λ i. (sym h.0 i, sym h.1.0 i)), sym h.1.1)

-- whether cuts follow
abbrev pub some : List ℕ → Bool
some [] = false
some (c ∷ cs) = true

-- cuts with their bracket, by the first byte
pub ended_by : (cs : List ℕ) → blanked decimal cs ++ (41 ∷ []) ≡ mark (some cs) ∷ tail cs
ended_by [] = refl
ended_by (c ∷ cs) = ap (λ w. 32 ∷ w) (append_assoc (decimal c) (blanked decimal cs) (41 ∷ []))

follows_some : (n : ℕ) (cs : List ℕ) → UpTo n cs → Follows n (some cs) cs
follows_some n [] h = tt
follows_some n (c ∷ cs) h = h

some_room : (n : ℕ) (cs : List ℕ) → UpTo n cs → some cs ≡ true → 1 ≤ n
some_room n [] h e = let z : ◌≡◌ {A = ℕ} 0 1 = cc in absurd (omega arith)
some_room zero (c ∷ cs) h e = absurd h
some_room (suc n) (c ∷ cs) h e = omega arith

follows_is : (n : ℕ) (v : Bool) (cs : List ℕ) → Follows n v cs → (v ≡ some cs) × UpTo n cs
follows_is n true [] h = absurd h
follows_is n true (c ∷ cs) h = (refl, h)
follows_is n false [] h = (refl, tt)
follows_is n false (c ∷ cs) h = absurd h

pub cuts_by_mark : After cuts [] (seq (marks 31) (λ v. follow 31 v))
cuts_by_mark = record {
  to = λ z vz. let f = follows_is 31 z.0 z.1 vz.1 in (z.1, f.1, ended_by z.1 ∙ ap (λ v. mark v ∷ tail z.1) (sym f.0));
  from = λ cs h x e. ((some cs, cs), ((λ t. some_room 31 cs h t), follows_some 31 cs h), sym e ∙ ended_by cs);
}

pub follow_by_cut : (n : ℕ) → After (follow (suc n) true) [] (seq (cut n) (λ z. follow n z.1))
follow_by_cut n = record {
  to = λ z vz. let f = follows_is n z.0.1 z.1 vz.1 in (z.0.0 ∷ z.1, (vz.0.0, f.1), ap (λ w. decimal z.0.0 ++ w) (ended_by z.1 ∙ ap (λ v. mark v ∷ tail z.1) (sym f.0)) ∙ sym (append_assoc (decimal z.0.0) (mark z.0.1 ∷ []) (tail z.1)));
  from = from;
}
  where
    from : (cs : List ℕ) → Follows (suc n) true cs → (x : List ℕ) → tail cs ≡ x → (z : (ℕ × Bool) × List ℕ) × ((Cut z.0.0 × (z.0.1 ≡ true → 1 ≤ n)) × Follows n z.0.1 z.1) × (x ≡ (decimal z.0.0 ++ (mark z.0.1 ∷ [])) ++ tail z.1)
    from [] h x e = absurd h
    from (c ∷ cs) h x e = (((c, some cs), cs), ((h.0, λ t. some_room n cs h.1 t), follows_some n cs h.1), sym e ∙ ap (λ w. decimal c ++ w) (ended_by cs) ∙ sym (append_assoc (decimal c) (mark (some cs) ∷ []) (tail cs)))

pub some_follow : (n : ℕ) (v : Bool) → (v ≡ true → 1 ≤ n) → (cs : List ℕ) × Follows n v cs
some_follow zero true h = absurd (let k = h refl in omega arith)
some_follow (suc n) true h = (1 ∷ [], ((omega arith, omega arith), tt))
some_follow n false h = ([], tt)

-- each is a cut
abbrev pub Each : List ℕ → Type 0
Each [] = Unit {0}
Each (c ∷ cs) = Cut c × Each cs

each_push : (cs : List ℕ) (c : ℕ) → Each cs → Cut c → Each (cs ++ (c ∷ []))
each_push [] c h k = (k, tt)
each_push (x ∷ cs) c h k = (h.0, each_push cs c h.1 k)

each_up_to : (n : ℕ) (cs : List ℕ) → Each cs → length cs ≤ n → UpTo n cs
each_up_to n [] h k = tt
each_up_to zero (c ∷ cs) h k = absurd (omega arith)
each_up_to (suc n) (c ∷ cs) h k = (h.0, each_up_to n cs h.1 (omega arith))

blanked_push : (cs : List ℕ) (c : ℕ) → blanked decimal (cs ++ (c ∷ [])) ≡ blanked decimal cs ++ (32 ∷ decimal c)
blanked_push [] c = ap (λ w. 32 ∷ w) (append-nil (decimal c))
blanked_push (x ∷ cs) c = ap (λ w. 32 ∷ w) (ap (λ w. decimal x ++ w) (blanked_push cs c) ∙ sym (append_assoc (decimal x) (blanked decimal cs) (32 ∷ decimal c)))

-- so many cuts were read, and more says whether another follows
pub record Listed (c : Cursor) (places : List ℕ) (count : ℕ) (more : Bool) (d : Cursor) : Type 0 where
  pub long : length places ≡ 31
  pub few : count ≤ 31
  pub room : more ≡ true → count ≤ 30
  pub going : Going cuts c (follow (31 - count) more) d
  pub each : Each (take count places)
  pub split : drop c.at c.bytes.now ≡ (blanked decimal (take count places) ++ (mark more ∷ [])) ++ drop d.at d.bytes.now
  pub place : d.at ≡ c.at + length (blanked decimal (take count places) ++ (mark more ∷ []))

module _ (c : Cursor) where
  begun : Going cuts c (seq (marks 31) (λ v. follow 31 v)) c
  begun = going_turn (going_none cuts c) cuts_by_mark

  pub first_lost : (p : ℕ) → LostAt (marks 31) c p → LostAt cuts c p
  first_lost p h = step_lost (marks 31) (λ v. follow 31 v) (code_marks 31) begun (λ v ok. some_follow 31 v ok) p h

  pub listed_none : (places : List ℕ) (v : Bool) (d : Cursor) → length places ≡ 31 → Behind (marks 31) c v d → Listed c places 0 v d
  listed_none places v d long h = record {
    long = long;
    few = omega arith;
    room = λ _. omega arith;
    going = step_found (marks 31) (λ v. follow 31 v) (code_marks 31) begun v d h;
    each = tt;
    split = h.found.split ∙ ap (λ w. mark v ∷ w) (drop_past c.bytes.now (mark v ∷ []) h.found.after c.at d.at h.found.split h.found.place ∙ ap (drop d.at) (sym h.same));
    place = h.found.place;
  }

module _ (c : Cursor) (places : List ℕ) (count : ℕ) (d : Cursor) (s : Listed c places count true d) where
  next_cut : Going cuts c (seq (cut (30 - count)) (λ z. follow (30 - count) z.1)) d
  next_cut =
      let e : 31 - count ≡ suc (30 - count) = (let k = s.room refl in omega arith) in
      going_turn (subst (λ n. Going cuts c (follow n true) d) e s.going) (follow_by_cut (30 - count))

  pub cut_not_there : (p : ℕ) → LostAt (cut (30 - count)) d p → LostAt cuts c p
  cut_not_there p h = step_lost (cut (30 - count)) (λ z. follow (30 - count) z.1) (code_cut (30 - count)) next_cut (λ z ok. some_follow (30 - count) z.1 ok.1) p h

  pub listed_more : (n : ℕ) (v : Bool) (f : Cursor) → Behind (cut (30 - count)) d (n, v) f → Listed c (set places count n) (count + 1) v f
  listed_more n v f h =
      let less : count ≤ 30 = s.room refl in
      let g = step_found (cut (30 - count)) (λ z. follow (30 - count) z.1) (code_cut (30 - count)) next_cut (n, v) f h in
      let e : 30 - count ≡ 31 - (count + 1) = omega arith in
      let xs = take count places in
      let taken : take (count + 1) (set places count n) ≡ xs ++ (n ∷ []) = take_more_set places count n (omega (arith, s.long)) in
      let text : blanked decimal (take (count + 1) (set places count n)) ++ (mark v ∷ []) ≡ (blanked decimal xs ++ (32 ∷ [])) ++ (decimal n ++ (mark v ∷ [])) =
      ap (λ cs. blanked decimal cs ++ (mark v ∷ [])) taken ∙ ap (λ w. w ++ (mark v ∷ [])) (blanked_push xs n) ∙ regroup (blanked decimal xs) (decimal n) (mark v ∷ []) in
      let rest = drop_past d.bytes.now (decimal n ++ (mark v ∷ [])) h.found.after d.at f.at h.found.split h.found.place ∙ ap (drop f.at) (sym h.same) in
      record {
        long = length-set places count n ∙ s.long;
        few = omega arith;
        room = λ t. (let k = h.found.valid.1 t in omega arith);
        going = subst (λ k. Going cuts c (follow k v) f) e g;
        each = subst Each (sym taken) (each_push xs n s.each h.found.valid.0);
        split = s.split ∙ ap (λ w. (blanked decimal xs ++ (32 ∷ [])) ++ w) (h.found.split ∙ ap (λ w. (decimal n ++ (mark v ∷ [])) ++ w) rest) ∙ sym (append_assoc (blanked decimal xs ++ (32 ∷ [])) (decimal n ++ (mark v ∷ [])) (drop f.at f.bytes.now)) ∙ ap (λ w. w ++ drop f.at f.bytes.now) (sym text);
        place = omega (arith, s.place, h.found.place, ap length text, length-append (blanked decimal xs ++ (32 ∷ [])) (decimal n ++ (mark v ∷ [])));
      }
    where
      regroup : (a b c : List ℕ) → (a ++ (32 ∷ b)) ++ c ≡ (a ++ (32 ∷ [])) ++ (b ++ c)
      regroup a b c = simp append_assoc

pub listed_all : (c : Cursor) (places : List ℕ) (count : ℕ) (more : Bool) (d : Cursor) → more ≡ false → Listed c places count more d → Behind cuts c (take count places) d
listed_all c places count more d e s =
    let text : blanked decimal (take count places) ++ (mark more ∷ []) ≡ blanked decimal (take count places) ++ (41 ∷ []) = ap (λ v. blanked decimal (take count places) ++ (mark v ∷ [])) e in
    record {
      same = s.going.same;
      found = record {
        valid = each_up_to 31 (take count places) s.each (omega (arith, length-take-le count places (omega (arith, s.few, s.long)), s.few));
        after = drop d.at d.bytes.now;
        split = s.split ∙ ap (λ w. w ++ drop d.at d.bytes.now) text;
        place = s.place ∙ ap (λ w. c.at + length w) text;
      };
    }
