-- Guarded code as the program makes it.
use Rattle.std.specs.Prelude.{ℕ, zero, suc, ◌-◌, ◌≡◌, Bool, false, List, [], ◌∷◌, ◌++◌, length, nat_lt, get_or}
use Rattle.std.specs.Prelude.{slice_index, if◌then◌else◌}
use Rattle.sharc_flat.specs.{declared.flat.Flat.{Flat as FlatCode}, declared.op.Op.Op, Made.flat_of}
use Rattle.sharc_guard.specs.{declared.guarded.Guarded.Guarded, Guard.{place, guarded}}

-- which checks a list of marks drops
abbrev pub marked : List Bool → ℕ → Bool
marked marks n = get_or marks n false

-- where a line goes, in a list of the places of all lines and of that after the last
abbrev pub among : List ℕ → ℕ → ℕ
among starts n = if nat_lt n (length starts) then slice_index starts n else slice_index starts (length starts - 1)

-- the places of the first n lines
abbrev pub places : (ℕ → Bool) → List Op → ℕ → List ℕ
places dropped lines zero = []
places dropped lines (suc n) = places dropped lines n ++ place dropped lines n ∷ []

-- the guarded code of flat code without these checks
pub record IsMade (dropped : ℕ → Bool) (f : FlatCode) (g : Guarded) : Type 0 where
  pub statements : g.statements.items ≡ (guarded dropped (flat_of f)).statements
  pub functions : g.functions.items ≡ (guarded dropped (flat_of f)).functions
  pub sites : g.sites.items ≡ (guarded dropped (flat_of f)).sites
  pub globals : g.globals ≡ f.globals
  pub main : g.main ≡ f.main
  pub granules : g.granules ≡ f.granules
  pub initial : g.initial ≡ f.initial
  pub layouts : g.layouts ≡ f.layouts
  pub pointers : g.pointers ≡ f.pointers
  pub texts : g.texts ≡ f.texts
  pub files : g.files ≡ f.files
