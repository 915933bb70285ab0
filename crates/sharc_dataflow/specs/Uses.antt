-- What is answered of code: its reads of nulled variables.
use Rattle.std.specs.Prelude.{ℕ, ◌<◌, ◌≤◌, List, [], ◌∷◌, Contains, ◌⊎◌}
use Rattle.sharc_dataflow.specs.{declared.way.FlowWarning.FlowWarning, Flow.Reaches, Code.{Code, paths}}

abbrev pub warning : ℕ → ℕ → FlowWarning
warning r k = record { read = r; since = k }

-- the read at r has a warning that names the nulling at k, or an earlier one
pub record HasWarning (found : List FlowWarning) (k r : ℕ) : Type 0 where
  pub since : ℕ
  pub first : since ≤ k
  pub has : Contains found (warning r since)

-- some path in the code leads from a nulling of a variable at k to its read at r, with no write of it between
pub record IsUse (c : Code) (k r : ℕ) : Type 0 where
  pub variable : ℕ
  pub reaches : Reaches (paths c) variable k r

-- The warnings of the code are added to those before: each names a nulling from which a path leads to its read, with no
-- write between; and each read to which such a path leads from some nulling has a warning that names this one or an
-- earlier one.
pub record AddsUses (c : Code) (before after : List FlowWarning) : Type 0 where
  pub kept : (w : FlowWarning) → Contains before w → Contains after w
  pub only : (k r : ℕ) → Contains after (warning r k) → Contains before (warning r k) ⊎ IsUse c k r
  pub all : (k r : ℕ) → IsUse c k r → HasWarning after k r

-- in the order of the reads, one for each
abbrev pub Rising : List FlowWarning → Type 0
Rising [] = Unit {0}
Rising (a ∷ []) = Unit {0}
Rising (a ∷ (b ∷ l)) = (a.read < b.read) × Rising (b ∷ l)

-- of each read the warning that names the first nulling
pub record AreFirsts (found firsts : List FlowWarning) : Type 0 where
  pub rising : Rising firsts
  pub only : (w : FlowWarning) → Contains firsts w → Contains found w
  pub all : (k r : ℕ) → Contains found (warning r k) → HasWarning firsts k r
