-- The functions that thread 0 alone runs: no thread reaches them, and they alone name globals whose cells are private.
use Rattle.std.specs.{Prelude.{◌≡◌, ℕ, Bool, true, false, Some, None, Contains}, List.AllByRecursion}
use Rattle.sharc_tree.specs.{Measures.{expressions, in_function}, Tree.{Expression, Function}}
use Rattle.sharc_ctype.specs.{Reaches.{Spawns, Runs}, Resolved.function_at}
use Rattle.sharc_mode.specs.{Cells.cell_at, Moded.Assignment, Sharings.private}
use Rattle.sharc_flat.specs.Places.{Target, variable, in_global, in_global_at, in_object, in_object_at, target}
use Rattle.sharc_accepted_laws.specs.StaticLaws.{IsAccepted}

-- what is named is a cell of this global
abbrev pub IsInside : Target → ℕ → Type 0
IsInside (variable x) g = ⊥
IsInside (in_global h n) g = h ≡ g
IsInside (in_global_at h n) g = h ≡ g
IsInside (in_object n) g = ⊥
IsInside (in_object_at n) g = ⊥

-- They are told by a test of their numbers.
pub record AreAlone (m : Assignment) (alone : ℕ → Bool) : Type 0 where
  -- nothing that is spawned is among them
  pub spawned : (n k : ℕ) → Spawns m.typed n k → alone k ≡ false
  -- what calls or spawns one of them is one of them
  pub caller : (n k : ℕ) → Runs m.typed n k → alone k ≡ true → alone n ≡ true
  -- what names a private cell of a global is one of them
  pub own : (n : ℕ) (f : Function) → function_at m.typed n ≡ Some f
      → (e : Expression) → AllByRecursion (λ x. Contains (in_function f) x) (expressions e)
      → (g : ℕ) → IsInside (target m.typed None e) g → cell_at m e ≡ private → alone n ≡ true

abbrev pub SomeAreAlone : Type 0
SomeAreAlone = (m : Assignment) → IsAccepted m → (alone : ℕ → Bool) × AreAlone m alone
