-- How blocks are left: one after the other, and by jumps.
use Rattle.std.specs.Prelude.{ℕ, ◌≡◌, ◌⊎◌, List, [], ◌∷◌, ◌++◌, take, drop}
use Rattle.sharc_flat.specs.{declared.op.Op.Op, Scope.{Context, ref_count, leaves}}
use Rattle.sharc_flat.specs.declared.op.Op.TheVariants as op
use Rattle.sharc_invariant.specs.Labels.{Label}
use Rattle.sharc_typed_laws.specs.{Stretches.{Mark, Setting, Way, LeadsAmong}, Places.AreLow, Premises.Typing}
use Rattle.sharc_typed_laws.specs.{Declared.{StandsBefore, before}, Ended.Grows}

-- what stands where a block began, of which so many variables stood before it
abbrev pub back : Context → ℕ → Context
back c n = record c { scope = take n c.scope }

-- Blocks are open one in the other, the innermost first: before each of them this is known, up to what is known before
-- the outermost.
abbrev pub AreNested : Typing → ℕ → Context → Label → List ℕ → Context → Label → Type 0
AreNested y f c l [] d k = (c ≡ d) × (l ≡ k)
AreNested y f c l (n ∷ outer) d k = (m : Label) × StandsBefore y (back c n) f m × Grows y (back c n) c (drop n c.scope)
    × AreLow (y.named (back c n)) (ref_count (back c n).scope) × AreNested y f (back c n) m outer d k

-- They end one after the other.
abbrev pub LeavesAreTyped : Type 0
LeavesAreTyped = (z : Setting) (f : ℕ) (ways : List Way) (y : Typing) (c d : Context) (l k : Label)
    → AreLow (y.named c) (ref_count c.scope) → StandsBefore y c f l → (inside : List ℕ) → AreNested y f c l inside d k
    → LeadsAmong z f ways (before c l) (leaves c.scope inside) (before d k)

-- code may lead to this line, where no more than this is said
abbrev pub IsOpen : List Way → ℕ → Mark → Type 0
IsOpen [] q m = ⊥
IsOpen (way ∷ ways) q m = ((way.line ≡ q) × (way.mark ≡ m)) ⊎ IsOpen ways q m

-- It leads there, and not to what comes after it.
abbrev pub JumpsAreTyped : Type 0
JumpsAreTyped = (z : Setting) (f : ℕ) (ways : List Way) (y : Typing) (c : Context) (l : Label) → StandsBefore y c f l
    → (q : ℕ) → IsOpen ways q (before c l)
    → (s : Mark) (os : List Op) → LeadsAmong z f ways s os (before c l) → LeadsAmong z f ways s (os ++ op.Jump q ∷ []) s
