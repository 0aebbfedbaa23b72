-- Ways of writing, and what reading a text by one comes to. Assumes nothing.
use Rattle.std.specs.Prelude.{◌≡◌, ℕ, zero, suc, ◌+◌, ◌≤◌, List, [], ◌∷◌, ◌++◌, length, take, drop, Ok, Err, Option, Result, MatchOption, ◌≢◌}

-- a way of writing: which values are written, and the bytes of each
pub record Grammar (A : Type 0) : Type 1 where
  pub valid : A → Type 0
  pub text : A → List ℕ

-- the first n bytes of both are there, and agree
pub record Shared (bs w : List ℕ) (n : ℕ) : Type 0 where
  pub here : n ≤ length bs
  pub there : n ≤ length w
  pub same : take n bs ≡ take n w

-- some text shares the first p bytes of bs, and none shares more
pub record LongestShared {A : Type 0} (K : Grammar A) (bs : List ℕ) (p : ℕ) : Type 0 where
  pub one : (a : A) × K.valid a × Shared bs (K.text a) p
  pub most : (a : A) → K.valid a → (n : ℕ) → Shared bs (K.text a) n → n ≤ p

-- u begins some text
pub record Front {A : Type 0} (K : Grammar A) (u : List ℕ) : Type 0 where
  pub value : A
  pub valid : K.valid value
  pub rest : List ℕ
  pub text : K.text value ≡ u ++ rest

-- of u ++ v, u begins some text, and no text begins with one byte more
pub record Edge {A : Type 0} (K : Grammar A) (u v : List ℕ) : Type 0 where
  pub front : Front K u
  pub next : (b : ℕ) (x : List ℕ) → v ≡ b ∷ x → Front K (u ++ (b ∷ [])) → ⊥

-- and u is no text
pub record Stuck {A : Type 0} (K : Grammar A) (u v : List ℕ) : Type 0 where
  pub edge : Edge K u v
  pub whole : (a : A) → K.valid a → K.text a ≢ u

-- what stands from at on begins with the text of a, which ends at end
pub record Found {A : Type 0} (K : Grammar A) (at : ℕ) (bs : List ℕ) (a : A) (end : ℕ) : Type 0 where
  pub valid : K.valid a
  pub after : List ℕ
  pub split : bs ≡ K.text a ++ after
  pub place : end ≡ at + length (K.text a)

-- what stands from at on begins with no text, and parts from all of them at end
pub record Lost {A : Type 0} (K : Grammar A) (at : ℕ) (bs : List ℕ) (end : ℕ) : Type 0 where
  pub before : List ℕ
  pub after : List ℕ
  pub split : bs ≡ before ++ after
  pub place : end ≡ at + length before
  pub stuck : Stuck K before after

-- the answer of a reader: where the text ends, or where the bytes part from every text
abbrev pub Reads : {A : Type 0} → Grammar A → ℕ → List ℕ → Result ℕ ℕ → Type 0
Reads {A = A} K at bs (Ok end) = (a : A) × Found K at bs a end
Reads K at bs (Err end) = Lost K at bs end

-- no text begins another, and no two values have one text
abbrev pub Code : {A : Type 0} → Grammar A → Type 0
Code {A = A} K = (a b : A) → K.valid a → K.valid b → (x : List ℕ) → K.text b ≡ K.text a ++ x → (a ≡ b) × (x ≡ [])

-- no two values have one text
abbrev pub Injective : {A : Type 0} → Grammar A → Type 0
Injective {A = A} K = (a b : A) → K.valid a → K.valid b → K.text a ≡ K.text b → a ≡ b

-- no text has the byte t
abbrev pub Without : {A : Type 0} → Grammar A → ℕ → Type 0
Without {A = A} K t = (a : A) → K.valid a → (u w : List ℕ) → K.text a ≢ u ++ (t ∷ w)

-- every value, written by f
abbrev pub all_by : {A : Type 0} → (A → List ℕ) → Grammar A
all_by f = record { valid = λ _. Unit {0}; text = f }

-- just w
abbrev pub lit : List ℕ → Grammar (Unit {0})
lit w = record { valid = λ _. Unit {0}; text = λ _. w }

-- a text and the byte t
abbrev pub ended : {A : Type 0} → Grammar A → ℕ → Grammar A
ended K t = record { valid = K.valid; text = λ a. K.text a ++ (t ∷ []) }

-- one text and then another, whose way of writing may depend on the value of the first
abbrev pub seq : {A B : Type 0} → Grammar A → (A → Grammar B) → Grammar (A × B)
seq K D = record { valid = λ z. K.valid z.0 × (D z.0).valid z.1; text = λ z. K.text z.0 ++ (D z.0).text z.1 }

abbrev pub rep_valid : {A : Type 0} → Grammar A → ℕ → List A → Type 0
rep_valid K zero [] = Unit {0}
rep_valid K zero (a ∷ more) = ⊥
rep_valid K (suc n) [] = ⊥
rep_valid K (suc n) (a ∷ more) = K.valid a × rep_valid K n more

abbrev pub rep_text : {A : Type 0} → Grammar A → List A → List ℕ
rep_text K [] = []
rep_text K (a ∷ more) = K.text a ++ rep_text K more

-- n texts
abbrev pub rep : {A : Type 0} → ℕ → Grammar A → Grammar (List A)
rep n K = record { valid = rep_valid K n; text = rep_text K }

-- the texts of L that begin with u are u and then a text of K
pub record After {A B : Type 0} (L : Grammar A) (u : List ℕ) (K : Grammar B) : Type 0 where
  pub to : (b : B) → K.valid b → (a : A) × L.valid a × (L.text a ≡ u ++ K.text b)
  pub from : (a : A) → L.valid a → (x : List ℕ) → L.text a ≡ u ++ x → (b : B) × K.valid b × (x ≡ K.text b)

-- a reader of L that began at at₀ stands at at, and has to read K
pub record Sofar {A B : Type 0} (L : Grammar A) (at₀ : ℕ) (bs₀ : List ℕ) (K : Grammar B) (at : ℕ) (bs : List ℕ) : Type 0 where
  pub read : List ℕ
  pub split : bs₀ ≡ read ++ bs
  pub place : at ≡ at₀ + length read
  pub after : After L read K

-- of bs, p bytes are the longest front, and m is the value that they are the text of
pub record Scanned {A : Type 0} (K : Grammar A) (bs : List ℕ) (p : ℕ) (m : Option A) : Type 0 where
  pub within : p ≤ length bs
  pub edge : Edge K (take p bs) (drop p bs)
  pub value : MatchOption m ((a : A) → K.valid a → K.text a ≢ take p bs) (λ a. K.valid a × (K.text a ≡ take p bs))
