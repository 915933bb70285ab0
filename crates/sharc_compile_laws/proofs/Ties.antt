-- Integer registers that name two cells of one element: the one that is accessed, and that of the mutex beside it.
use Rattle.sharc_compile_laws.proofs.Imports.{ℤ, pos, ◌≡◌, ◌⊎◌, inl, ℕ, ◌+◌, ◌*◌, ◌<◌, List, [], ◌∷◌, refl, Op, Flat, At, function_of, LockStands}

-- what is known of a register and the one after it: they hold the same; the first the place of a field of an element, the next the element's number; or both the places
-- of fields of one element
pub data Tie : Type 0 where
  copied : ℕ → Tie
  scaled : ℕ → ℕ → ℕ → Tie
  beside : ℕ → ℕ → ℕ → Tie

abbrev pub register_in : Tie → ℕ
register_in (copied i) = i
register_in (scaled i cells n) = i
register_in (beside i n mutex) = i

-- where the registers of a frame hold this
abbrev pub Holds : Tie → (ℕ → ℤ) → Type 0
Holds (copied i) ints = ints (i + 1) ≡ ints i
Holds (scaled i cells n) ints = (k : ℕ) × (ints i ≡ pos (k * cells + n)) × (ints (i + 1) ≡ pos k)
Holds (beside i n mutex) ints = (k : ℕ) × (ints i ≡ pos (k + n)) × (ints (i + 1) ≡ pos (k + mutex))

abbrev pub Ties : Type 0
Ties = List Tie

abbrev pub In : Ties → Tie → Type 0
In [] t = ⊥
In (x ∷ rest) t = (x ≡ t) ⊎ In rest t

-- the second has no more
abbrev pub Fit : Ties → Ties → Type 0
Fit s t = (x : Tie) → In t x → In s x

pub fit_same : (s : Ties) → Fit s s
fit_same s x h = h

pub fit_through : (s t u : Ties) → Fit s t → Fit t u → Fit s u
fit_through s t u a b x h = a x (b x h)

pub nothing_in : (t : Ties) → Fit [] t → t ≡ []
nothing_in [] h = refl
nothing_in (x ∷ rest) h = absurd (h x (inl refl))

-- the register is none of the two
pub record Apart (j : ℕ) (t : Tie) : Type 0 where
  pub first : j ≡ register_in t → ⊥
  pub second : j ≡ register_in t + 1 → ⊥

-- ---- what an operation leaves
abbrev pub Kept : Ties → ℕ → Ties → Type 0
Kept s j t = (x : Tie) → In t x → In s x × Apart j x

abbrev pub IsCopied : ℕ → ℕ → Tie → Type 0
IsCopied j from x = (x ≡ copied from) × (j ≡ from + 1)

abbrev pub Copied : Ties → ℕ → ℕ → Ties → Type 0
Copied s j from t = (x : Tie) → In t x → (In s x × Apart j x) ⊎ IsCopied j from x

-- an index becomes the place of a field
abbrev pub IsFirst : Ties → ℕ → ℕ → ℕ → Tie → Type 0
IsFirst s j cells n x = (x ≡ scaled j cells n) × In s (copied j)

pub record IsSecond (s : Ties) (j cells n : ℕ) (x : Tie) : Type 0 where
  pub before : ℕ
  pub field : ℕ
  pub is : x ≡ beside before field n
  pub after : j ≡ before + 1
  pub known : In s (scaled before cells field)

abbrev pub Bounded : Ties → ℕ → ℕ → ℕ → Ties → Type 0
Bounded s j cells n t = (x : Tie) → In t x → (In s x × Apart j x) ⊎ (IsFirst s j cells n x ⊎ IsSecond s j cells n x)

-- a call: the function begins with nothing known, and what is known after it is of registers that its frame does not have
abbrev pub Called : Ties → ℕ → Ties → Type 0
Called s ints t = (x : Tie) → In t x → In s x × (register_in x + 1 < ints)

module _ (flat : Flat) where
  abbrev pub AllHold : Ties → At → Type 0
  AllHold s m = (x : Tie) → In s x → Holds x (λ k. m.ints (m.int_base + k))

  abbrev pub Next : (ℕ → Ties) → ℕ → Ties → Op → Type 0
  Next table pc s (Op.Constant i v) = Kept s i (table (pc + 1))
  Next table pc s (Op.Move i from) = Copied s i from (table (pc + 1))
  Next table pc s (Op.Compute width o i a b spot) = Kept s i (table (pc + 1))
  Next table pc s (Op.Negate width i a spot) = Kept s i (table (pc + 1))
  Next table pc s (Op.Complement i a) = Kept s i (table (pc + 1))
  Next table pc s (Op.IsFalse i a) = Kept s i (table (pc + 1))
  Next table pc s (Op.SameReference i a b) = Kept s i (table (pc + 1))
  Next table pc s (Op.Skip n) = Fit s (table (pc + 1 + n))
  Next table pc s (Op.SkipIfZero i n) = Fit s (table (pc + 1 + n)) × Fit s (table (pc + 1))
  Next table pc s (Op.SkipIfNull r n) = Fit s (table (pc + 1 + n)) × Fit s (table (pc + 1))
  Next table pc s (Op.Jump to) = Fit s (table to)
  Next table pc s (Op.Call f ints refs spot) = (table (function_of flat f).entry ≡ []) × Called s ints (table (pc + 1))
  Next table pc s (Op.Return spot) = Unit {0}
  Next table pc s (Op.Bounds i r cells n spot) = Bounded s i cells n (table (pc + 1))
  Next table pc s (Op.GlobalBounds i elements cells n spot) = Bounded s i cells n (table (pc + 1))
  Next table pc s (Op.Load i cell spot) = Kept s i (table (pc + 1))
  Next table pc s (Op.Spawn i f from spot) = Kept s i (table (pc + 1))
  Next table pc s _ = Fit s (table (pc + 1))

  -- it leads on so, and the mutex of an access is named
  pub record Needs (table : ℕ → Ties) (pc : ℕ) (s : Ties) (o : Op) : Type 0 where
    pub next : Next table pc s o
    pub stands : (m : At) → AllHold s m → LockStands flat m o
