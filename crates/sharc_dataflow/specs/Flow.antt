-- The paths through code, as the actions along them.
use Rattle.std.specs.Prelude.{◌≡◌, ℕ, List, [], ◌∷◌, ◌++◌, ◌⊎◌}

-- what is done with a variable: a read and a nulling have their token
pub data Act : Type 0 where
  Reads : ℕ → ℕ → Act
  Nulls : ℕ → ℕ → Act
  Writes : ℕ → Act

-- A path through a piece of code begins at the piece's start, or anywhere in it.
pub data From : Type 0 where
  Start : From
  Inside : From

-- It leads to what comes next, to what follows the loop, or to the loop's next turn; or it ends in the piece, by a
-- return or anywhere.
pub data To : Type 0 where
  Next : To
  Broken : To
  Continued : To
  Ends : To

-- the actions along the paths through a piece of code
abbrev pub Piece : Type 1
Piece = From → To → List Act → Type 0

abbrev pub Leaves : To → Type 0
Leaves Next = ⊥
Leaves Broken = Unit {0}
Leaves Continued = Unit {0}
Leaves Ends = Unit {0}

-- code that only goes to t
pub data Goes (t : To) : From → To → List Act → Type 0 where
  goes : {f : From} → Goes t f t []
  before : {f : From} → Goes t f Ends []

-- one action
pub data Does (a : Act) : From → To → List Act → Type 0 where
  done : {f : From} → Does a f Next (a ∷ [])
  ended : {f : From} → Does a f Ends (a ∷ [])
  before : {f : From} → Does a f Ends []

-- A, and where it goes on to what comes next, B
pub data Then (A B : Piece) : From → To → List Act → Type 0 where
  through : {f : From} {t : To} {l m : List Act} → A f Next l → B Start t m → Then A B f t (l ++ m)
  leaves : {f : From} {t : To} {l : List Act} → Leaves t → A f t l → Then A B f t l
  behind : {t : To} {l : List Act} → B Inside t l → Then A B Inside t l

-- A or B
abbrev pub Either : Piece → Piece → Piece
Either A B f t l = A f t l ⊎ B f t l

-- A, whose continue leads to what comes next
pub data Caught (A : Piece) : From → To → List Act → Type 0 where
  on : {f : From} {l : List Act} → A f Continued l → Caught A f Next l
  as_is : {f : From} {t : To} {l : List Act} → A f t l → Caught A f t l

-- A again and again, until a break
pub data Loop (A : Piece) : From → To → List Act → Type 0 where
  left : {f : From} {l : List Act} → A f Broken l → Loop A f Next l
  ended : {f : From} {l : List Act} → A f Ends l → Loop A f Ends l
  again : {f : From} {t : To} {l m : List Act} → A f Next l → Loop A Start t m → Loop A f t (l ++ m)

-- an action that is no write of x
abbrev pub Spares : ℕ → Act → Type 0
Spares x (Reads y t) = Unit {0}
Spares x (Nulls y t) = Unit {0}
Spares x (Writes y) = y ≡ x → ⊥

-- no write of x
abbrev pub Clear : ℕ → List Act → Type 0
Clear x [] = Unit {0}
Clear x (a ∷ l) = Spares x a × Clear x l

-- the nulling of x at token k, with no write of x after it
abbrev pub NullingStands : ℕ → ℕ → List Act → Type 0
NullingStands x k [] = ⊥
NullingStands x k (a ∷ l) = ((a ≡ Nulls x k) × Clear x l) ⊎ NullingStands x k l

-- the read of x at token r, with no write of x before it
abbrev pub Shows : ℕ → ℕ → List Act → Type 0
Shows x r [] = ⊥
Shows x r (a ∷ l) = (a ≡ Reads x r) ⊎ (Spares x a × Shows x r l)

-- the nulling of x at token k, and later the read at token r, with no write of x between
abbrev pub Hits : ℕ → ℕ → ℕ → List Act → Type 0
Hits x k r [] = ⊥
Hits x k r (a ∷ l) = ((a ≡ Nulls x k) × Shows x r l) ⊎ Hits x k r l

-- some path in the code leads from the nulling of x at token k to its read at token r, with no write of x between
pub record Reaches (A : Piece) (x k r : ℕ) : Type 0 where
  pub acts : List Act
  pub is_path : A Inside Ends acts
  pub hits : Hits x k r acts
