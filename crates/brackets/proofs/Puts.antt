-- One write after another, and the lines of rows. Assumes nothing.
use Rattle.std.proofs.Common.{◌≡◌, ℕ, zero, suc, ◌+◌, ◌-◌, ◌<◌, ◌≤◌, List, [], ◌∷◌, ◌++◌, map, length, get_or, take, drop, codes, decimal, sym, refl, ap, ◌∙◌, subst, append_assoc, append-nil, arith, length-append, length-drop, take-append-drop}
use borrow.Rule.Slice.PartMut.{put_mid}
use Rattle.std.specs.List.{range_with_len}
use Rattle.std.proofs.lemmas.List.{take_at, drop_at, drop-drop, length-take-le, take_all, take_more}
use Rattle.std.proofs.lemmas.Slice.{put_mid-paste}
use Rattle.std.proofs.lemmas.List.FromFn.{map-range_with_len_more, fill_by_all, length-map-range_with_len, get_or-map-range_with_len}
use Rattle.std.proofs.lemmas.Fmt.{length-decimal-le}
use Rattle.sheets.specs.Grids.{Grid, at, Side}
use Rattle.sheets.specs.Runs.{Holds}
use Rattle.texts.specs.Texts.{spaced, together, spell, head_line, row_line, text_of}
use Rattle.texts.proofs.Whole.{row_words}
use Rattle.brackets.specs.Writes.{Put, blanked, line_of, row_lines}

pub put_none : (before : List ℕ) (at : ℕ) → at ≤ length before → Put before before at [] at
put_none before at h = record { is = sym (take-append-drop at before); place = omega arith; within = h }

pub put_long : (a b : List ℕ) (at end : ℕ) (w : List ℕ) → Put a b at w end → length b ≡ length a
put_long a b at end w h = omega (arith, ap length h.is, length-append (take at a) (w ++ drop end a), length-append w (drop end a), length-take-le at a (omega (arith, h.place, h.within)), length-drop end a, h.place, h.within)

pub put_more : (a b c : List ℕ) (at mid end : ℕ) (v w : List ℕ) → Put a b at v mid → Put b c mid w end → Put a c at (v ++ w) end
put_more a b c at mid end v w h k =
    let long = put_long a b at mid v h in
    let inside : at ≤ length a = omega (arith, h.place, h.within) in
    let front : length (take at a ++ v) ≡ mid = length-append (take at a) v ∙ ap (λ n. n + length v) (length-take-le at a inside) ∙ sym h.place in
    let split : b ≡ (take at a ++ v) ++ drop mid a = h.is ∙ sym (append_assoc (take at a) v (drop mid a)) in
    let begins : take mid b ≡ take at a ++ v = ap (take mid) split ∙ take_at (take at a ++ v) (drop mid a) mid front in
    let ends : drop end b ≡ drop end a =
    ap (λ n. drop n b) k.place ∙ sym (drop-drop (length w) mid b) ∙ ap (drop (length w)) (ap (drop mid) split ∙ drop_at (take at a ++ v) (drop mid a) mid front) ∙ drop-drop (length w) mid a ∙ ap (λ n. drop n a) (sym k.place) in
    record {
      is = k.is ∙ (λ i. begins i ++ (w ++ ends i)) ∙ append_assoc (take at a) v (w ++ drop end a) ∙ ap (λ x. take at a ++ x) (sym (append_assoc v w (drop end a)));
      place = omega (arith, h.place, k.place, length-append v w);
      within = omega (arith, k.within);
    }

pub put_once : (xs ys zs : List ℕ) (at k : ℕ) → ys ≡ zs → length zs ≡ k → at + length zs ≤ length xs → Put xs (put_mid at k xs ys) at zs (at + length zs)
put_once xs ys zs at k e n h = record {
  is = put_mid-paste at k xs ys zs (length zs) e n refl ∙ ap (λ w. (take at xs ++ w) ++ drop (at + length zs) xs) (take_all (length zs) zs (omega arith)) ∙ append_assoc (take at xs) zs (drop (at + length zs) xs);
  place = refl;
  within = h;
}

module _ {M : Type 0} (f : M → List ℕ) where
  blanked_append : (xs ys : List M) → blanked f (xs ++ ys) ≡ blanked f xs ++ blanked f ys
  blanked_append [] ys = refl
  blanked_append (x ∷ xs) ys = ap (λ w. 32 ∷ w) (ap (λ w. f x ++ w) (blanked_append xs ys) ∙ sym (append_assoc (f x) (blanked f xs) (blanked f ys)))

  pub blanked_more : (xs : List M) (i : ℕ) (m : M) → i < length xs → m ≡ get_or xs i m → blanked f (take (i + 1) xs) ≡ blanked f (take i xs) ++ (32 ∷ f m)
  blanked_more xs i m h is = ap (blanked f) (take_more xs i m h ∙ ap (λ y. take i xs ++ (y ∷ [])) (sym is)) ∙ blanked_append (take i xs) (m ∷ []) ∙ ap (λ w. blanked f (take i xs) ++ (32 ∷ w)) (append-nil (f m))

  pub blanked_long : (xs : List M) (i : ℕ) (m : M) → i < length xs → m ≡ get_or xs i m → length (blanked f (take (i + 1) xs)) ≡ length (blanked f (take i xs)) + 1 + length (f m)
  blanked_long xs i m h is = omega (arith, ap length (blanked_more xs i m h is), length-append (blanked f (take i xs)) (32 ∷ f m))

  pub blanked_room : (xs : List M) (i : ℕ) (m : M) → i < length xs → m ≡ get_or xs i m → length (blanked f (take i xs)) + 1 + length (f m) ≤ length (blanked f xs)
  blanked_room xs i m h is =
      omega (arith, ap length (ap (blanked f) (sym (take-append-drop (i + 1) xs)) ∙ blanked_append (take (i + 1) xs) (drop (i + 1) xs)), length-append (blanked f (take (i + 1) xs)) (blanked f (drop (i + 1) xs)), blanked_long xs i m h is)

  pub line_long : (xs : List M) (n : ℕ) → length xs ≤ n → length (line_of f xs) ≡ 6 + length (blanked f (take n xs))
  line_long xs n h = omega (arith, length-append (blanked f xs) (41 ∷ 10 ∷ []), ap (λ l. length (blanked f l)) (take_all n xs h))

  -- the line of a row by its marks
  spaced_blanked : (w : List ℕ) (xs : List M) → spaced (w ∷ map f xs) ≡ w ++ blanked f xs
  spaced_blanked w [] = sym (append-nil w)
  spaced_blanked w (x ∷ xs) = ap (λ v. w ++ (32 ∷ v)) (spaced_blanked (f x) xs)

  pub line_is : (g : Grid M) (i : ℕ) (xs : List M) → length xs ≡ g.cols → Holds g i 0 xs → row_line f g i ≡ line_of f xs
  line_is g i xs long held =
      ap (λ ws. spaced (codes "(row" ∷ ws) ++ (41 ∷ 10 ∷ [])) (sym words)
      ∙ ap (λ w. w ++ (41 ∷ 10 ∷ [])) (spaced_blanked (codes "(row") xs)
      ∙ append_assoc (codes "(row") (blanked f xs) (41 ∷ 10 ∷ [])
    where
      words : map f xs ≡ map (λ j. spell f (g.cell i j)) (range_with_len 0 g.cols)
      words =
          fill_by_all (λ j. spell f (g.cell i j)) (map f xs) g.cols [] (ap length (row_words f g.cols xs long) ∙ length-map-range_with_len (λ j. spell f (at xs j)) 0 g.cols)
          (λ k h.
          let same : at xs k ≡ g.cell i k = sym (held k (omega arith)) ∙ ap (g.cell i) (omega arith) in
          ap (λ l. get_or l k []) (row_words f g.cols xs long) ∙ get_or-map-range_with_len (λ j. spell f (at xs j)) 0 g.cols k k [] h (omega arith) ∙ ap (spell f) same)

  -- the lines of rows, one more
  together_append : (xs ys : List (List ℕ)) → together (xs ++ ys) ≡ together xs ++ together ys
  together_append [] ys = refl
  together_append (x ∷ xs) ys = ap (λ w. x ++ w) (together_append xs ys) ∙ sym (append_assoc x (together xs) (together ys))

  pub rows_more : (g : Grid M) (n : ℕ) → row_lines f g (n + 1) ≡ row_lines f g n ++ row_line f g n
  rows_more g n = ap together (map-range_with_len_more (row_line f g) 0 n n (omega arith)) ∙ together_append (map (row_line f g) (range_with_len 0 n)) (row_line f g n ∷ []) ∙ ap (λ w. row_lines f g n ++ w) (append-nil (row_line f g n))

  pub rows_grow : (g : Grid M) (n k : ℕ) → length (row_lines f g n) ≤ length (row_lines f g (n + k))
  rows_grow g n zero = let e : n + zero ≡ n = omega arith in omega (arith, ap (λ m. length (row_lines f g m)) e)
  rows_grow g n (suc k) =
      let e : n + suc k ≡ n + k + 1 = omega arith in
      omega (arith, rows_grow g n k, ap (λ m. length (row_lines f g m)) e, ap length (rows_more g (n + k)), length-append (row_lines f g (n + k)) (row_line f g (n + k)))

-- the parts of a text, and how long it is
pub text_is : {M : Type 0} (word : List ℕ) (f : M → List ℕ) (g : Grid M) → text_of word f g ≡ head_line word g.rows g.cols ++ (row_lines f g g.rows ++ (41 ∷ 10 ∷ []))
unfolding text_of
text_is word f g = refl

pub text_long : {M : Type 0} (word : List ℕ) (f : M → List ℕ) (g : Grid M) → length (text_of word f g) ≡ length (head_line word g.rows g.cols) + length (row_lines f g g.rows) + 2
text_long word f g =
    let h = head_line word g.rows g.cols in
    let r = row_lines f g g.rows in
    ap length (text_is word f g) ∙ length-append h (r ++ (41 ∷ 10 ∷ [])) ∙ (let e = length-append r (41 ∷ 10 ∷ []) in omega arith)

pub head_long : (word : List ℕ) (r c : ℕ) → length (head_line word r c) ≡ 10 + length word + length (decimal r) + length (decimal c)
head_long word r c =
    omega (arith, length-append (spaced (codes "(sheet" ∷ word ∷ decimal r ∷ decimal c ∷ [])) (10 ∷ []), length-append word (32 ∷ (decimal r ++ (32 ∷ decimal c))), length-append (decimal r) (32 ∷ decimal c))

pub side_long : (n : ℕ) → Side n → length (decimal n) ≤ 4
side_long n h = length-decimal-le 4 n (omega arith) (omega arith) (omega arith)

-- a blank and the spelling of one more mark
pub mark_put : {M : Type 0} (f : M → List ℕ) (xs : List M) (i : ℕ) (m : M) → i < length xs → m ≡ get_or xs i m → (a b c d : List ℕ) (from at mid end : ℕ) → Put a b from (blanked f (take i xs)) at → Put b c at (32 ∷ []) mid → (w : List ℕ) → w ≡ f m → Put c d mid w end → Put a d from (blanked f (take (i + 1) xs)) end
mark_put f xs i m h is a b c d from at mid end p q w e r =
    subst (λ w. Put a d from w end) (append_assoc (blanked f (take i xs)) (32 ∷ []) (f m) ∙ sym (blanked_more f xs i m h is)) (put_more a c d from mid end (blanked f (take i xs) ++ (32 ∷ [])) (f m) (put_more a b c from at mid (blanked f (take i xs)) (32 ∷ []) p q) (subst (λ w. Put c d mid w end) e r))

-- the words of the first line, one after another
pub head_put : (word : List ℕ) (r c : ℕ) (w a b : List ℕ) → w ≡ word → a ≡ decimal r → b ≡ decimal c → (x y : List ℕ) (end : ℕ) → Put x y 0 (((codes "(sheet " ++ (w ++ (32 ∷ []))) ++ (a ++ (32 ∷ []))) ++ (b ++ (10 ∷ []))) end → Put x y 0 (head_line word r c) end
head_put word r c w a b ew ea eb x y end h =
    subst (λ v. Put x y 0 v end) ((λ i. ((codes "(sheet " ++ (ew i ++ (32 ∷ []))) ++ (ea i ++ (32 ∷ []))) ++ (eb i ++ (10 ∷ []))) ∙ regroup word (decimal r) (decimal c)) h
  where
    regroup : (w a b : List ℕ) → ((codes "(sheet " ++ (w ++ (32 ∷ []))) ++ (a ++ (32 ∷ []))) ++ (b ++ (10 ∷ [])) ≡ spaced (codes "(sheet" ∷ w ∷ a ∷ b ∷ []) ++ (10 ∷ [])
    regroup w a b = simp append_assoc

-- the line of one more row
pub row_put : {M : Type 0} (f : M → List ℕ) (g : Grid M) (i : ℕ) (xs : List M) → length xs ≡ g.cols → Holds g i 0 xs → (a b c : List ℕ) (from at end : ℕ) → Put a b from (row_lines f g i) at → Put b c at (line_of f xs) end → Put a c from (row_lines f g (i + 1)) end
row_put f g i xs long held a b c from at end p q =
    subst (λ w. Put a c from w end) (ap (λ w. row_lines f g i ++ w) (sym (line_is f g i xs long held)) ∙ sym (rows_more f g i)) (put_more a b c from at end (row_lines f g i) (line_of f xs) p q)

pub row_room : {M : Type 0} (f : M → List ℕ) (g : Grid M) (i rows : ℕ) (xs : List M) → i < rows → length xs ≡ g.cols → Holds g i 0 xs → length (row_lines f g i) + length (line_of f xs) ≤ length (row_lines f g rows)
row_room f g i rows xs h long held =
    let k : ℕ = rows - (i + 1) in
    let e : i + 1 + k ≡ rows = omega arith in
    omega (arith, rows_grow f g (i + 1) k, ap (λ n. length (row_lines f g n)) e, ap length (rows_more f g i), length-append (row_lines f g i) (row_line f g i), ap length (line_is f g i xs long held))

-- a whole text in a buffer
pub text_put : {M : Type 0} (word : List ℕ) (f : M → List ℕ) (g : Grid M) (r c : ℕ) → r ≡ g.rows → c ≡ g.cols → (x y z w : List ℕ) (a b end : ℕ) → Put x y 0 (head_line word r c) a → Put y z a (row_lines f g g.rows) b → Put z w b (41 ∷ 10 ∷ []) end → (end ≡ length (text_of word f g)) × (w ≡ text_of word f g ++ drop (length (text_of word f g)) x)
text_put word f g r c er ec x y z w a b end p q s =
    let h = subst (λ v. Put x w 0 v end) ((λ i. head_line word (er i) (ec i) ++ (row_lines f g g.rows ++ (41 ∷ 10 ∷ []))) ∙ sym (text_is word f g)) (put_more x y w 0 a end (head_line word r c) (row_lines f g g.rows ++ (41 ∷ 10 ∷ [])) p (put_more y z w a b end (row_lines f g g.rows) (41 ∷ 10 ∷ []) q s)) in
    let len : end ≡ length (text_of word f g) = omega (arith, h.place) in
    (len, h.is ∙ ap (λ n. text_of word f g ++ drop n x) len)
