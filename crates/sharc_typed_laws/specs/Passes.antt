-- The checks that are remembered before each line, by what sharc_guard knows there, and flat code that is typed
-- whatever is remembered.
use Rattle.std.specs.Prelude.{ℕ, zero, suc, pos, ◌+◌, ◌-◌, ◌*◌, ◌≡◌, ◌≢◌, ◌≤◌, Bool, true, false, not, List}
use Rattle.std.specs.Prelude.{[], ◌∷◌, ◌++◌, length, filter, nat_lt, slice_get, Option, Some, None, if◌then◌else◌}
use Rattle.sharc_heap.specs.{declared.shadow_word.Kind.Kind, declared.shadow_word.Kind.TheVariants.{Read, Write}}
use Rattle.sharc_code.specs.{declared.code.Code.Code, declared.instr.Cell.Cell}
use Rattle.sharc_code.specs.declared.instr.Cell.TheVariants as cells
use Rattle.sharc_flat.specs.{declared.op.Op.Op, Machine.{Flat}}
use Rattle.sharc_flat.specs.declared.op.Op.TheVariants as op
use Rattle.sharc_guard.specs.Known.{is_straight, leads_to, is_target, writes_ref, SimplePlace, in_variable, in_global}
use Rattle.sharc_guard.specs.Known.{Access, access, tells, Know, place_of, known, drops}
use Rattle.sharc_invariant.specs.Types.{Targets, AreTargets, StaticType, cells_of}
use Rattle.sharc_invariant.specs.Labels.{Refers, Empty, Nth, Number, Exactly, OfElement, OfGlobal, Pass, IsIn}
use Rattle.sharc_invariant.specs.Labels.{Label, Labels, without_base}
use Rattle.sharc_invariant.specs.Typed.{IsPlace, Covers, AreGlobals}
use Rattle.sharc_typed_laws.specs.{Inside.{FlatLabels, passed_behind}, Lines.{HasTypedFunctions, TypedLine}}

-- ---- what is remembered before each line
abbrev pub is_write : Kind → Bool
is_write Read = false
is_write Write = true

abbrev pub pass_at : Kind → SimplePlace → Pass
pass_at kind (in_variable x n) = record { write = is_write kind; base = Some x; cell = n }
pass_at kind (in_global g n) = record { write = is_write kind; base = None; cell = n - 2 }

abbrev pub pass_of_place : Kind → Option SimplePlace → List Pass
pass_of_place kind None = []
pass_of_place kind (Some place) = pass_at kind place ∷ []

-- the check of an access
abbrev pub pass_by : Know → Option Access → List Pass
pass_by k None = []
pass_by k (Some a) = if tells a.spot then pass_of_place a.kind (place_of k a.cell) else []

-- the variable through which a place was checked is not assigned
abbrev pub stays : Op → Option ℕ → Bool
stays o None = true
stays o (Some x) = not (writes_ref o x)

abbrev pub passes_next : Op → Know → List Pass → List Pass
passes_next o k passes =
    if is_straight o then filter (λ p. stays o p.base) ((if drops k o then [] else pass_by k (access o)) ++ passes)
    else []

abbrev pub passes_after : Option Op → Know → List Pass → List Pass
passes_after None k passes = []
passes_after (Some o) k passes = passes_next o k passes

abbrev pub passes_before : Flat → ℕ → List Pass
passes_before flat zero = []
passes_before flat (suc n) =
    if is_target flat (suc n) then [] else passes_after (slice_get flat.lines n) (known flat n) (passes_before flat n)

abbrev pub passes_in : Flat → ℕ → List Pass
passes_in flat n = if nat_lt n (length flat.lines) then passes_before flat n else []

-- ---- labels with them
abbrev pub with_passes : Label → List Pass → Label
with_passes l passes = record l { passed = passes }

abbrev pub with_all : Labels → (ℕ → List Pass) → Labels
with_all ls passes = record ls { at = λ n. with_passes (ls.at n) (passes n) }

abbrev pub with_checks : Flat → FlatLabels → FlatLabels
with_checks flat fl = record { lines = with_all fl.lines (passes_in flat); replaced = fl.replaced }

-- what an operation leaves of them
abbrev pub remembered : Targets → Bool → Label → Op → List Pass → List Pass
remembered x dropped l (op.Pop r) passes = without_base r passes
remembered x dropped l (op.MoveReference r from) passes = without_base from passes
remembered x dropped l (op.Settle to from) passes = without_base from (without_base to passes)
remembered x dropped l (op.Load i c spot) passes = passed_behind x dropped (with_passes l passes) false c spot.mode
remembered x dropped l (op.Store i c spot) passes = passed_behind x dropped (with_passes l passes) true c spot.mode
remembered x dropped l (op.LoadRef r c spot) passes = passed_behind x false (with_passes l passes) false c spot.mode
remembered x dropped l (op.StoreRef r c spot) passes =
    without_base r (without_base r (passed_behind x false (with_passes l passes) true c spot.mode))
remembered x dropped l o passes = if is_straight o then passes else []

-- a check of this cell is among them
pub record IsPassed (x : Targets) (l : Label) (passes : List Pass) (write : Bool) (c : Cell) : Type 0 where
  pub pass : Pass
  pub among : IsIn pass passes
  pub covers : Covers pass.write write
  pub place : IsPlace x l c pass.base pass.cell

abbrev pub RepeatsCheck : Targets → Label → List Pass → Op → Type 0
RepeatsCheck x l passes (op.Load i c spot) = IsPassed x l passes false c
RepeatsCheck x l passes (op.Store i c spot) = IsPassed x l passes true c
RepeatsCheck x l passes o = ⊥

-- ---- lines that are typed whatever is remembered
-- where a check is dropped one is remembered; nothing is where a jump leads; and no more is after the line than what it
-- leaves
abbrev pub TypedAnyhow : Targets → Code → FlatLabels → ℕ → ℕ → Op → Type 0
TypedAnyhow x code fl lines n o = (dropped : Bool) (passes : ℕ → List Pass)
    → (dropped ≡ true → RepeatsCheck x (fl.lines.at n) (passes n) o) → ((t : ℕ) → leads_to n o t ≡ true → passes t ≡ [])
    → ((p : Pass) → IsIn p (passes (n + 1)) → IsIn p (remembered x dropped (fl.lines.at n) o (passes n)))
    → TypedLine x code (with_all fl.lines passes) lines dropped (fl.replaced n) n
    (with_passes (fl.lines.at n) (passes n)) (with_passes (fl.lines.at (n + 1)) (passes (n + 1))) o

-- the number that is known of an integer register is that of the label
abbrev pub IsNumberOf : Targets → Label → ℕ → Number → Type 0
IsNumberOf x l n (Exactly z) = z ≡ pos n
IsNumberOf x l n (OfElement r field (Nth e)) =
    (s : StaticType) × (l.env r ≡ Refers s) × (n ≡ e * cells_of x s.target + field)
IsNumberOf x l n (OfGlobal first count elements (Nth e)) = n ≡ first + e * count
IsNumberOf x l n number = ⊥

-- the label says what is known of the base and of the index of a cell
abbrev pub KnowsCopy : Know → Label → ℕ → Type 0
KnowsCopy k l r = (v : ℕ) → k.copy r ≡ Some v → l.same r ≡ v

abbrev pub KnowsNumber : Targets → Know → Label → ℕ → Type 0
KnowsNumber x k l i = (n : ℕ) → k.number i ≡ Some n → IsNumberOf x l n (l.ints i)

abbrev pub Knows : Targets → Know → Label → Cell → Type 0
Knows x k l (cells.Global g place) = Unit {0}
Knows x k l (cells.GlobalAt g i) = KnowsNumber x k l i
Knows x k l (cells.Object r n) = KnowsCopy k l r
Knows x k l (cells.ObjectAt r i) = KnowsCopy k l r × KnowsNumber x k l i

-- flat code that is typed whatever is remembered, with labels that say what is known of the cells that are accessed
pub record IsTypedAnyhow (x : Targets) (code : Code) (fl : FlatLabels) (flat : Flat) : Type 0 where
  pub targets : AreTargets x
  pub globals : AreGlobals x code
  pub lines : (n : ℕ) (o : Op) → slice_get flat.lines n ≡ Some o → TypedAnyhow x code fl (length flat.lines) n o
  pub knows : (n : ℕ) (o : Op) (a : Access) → slice_get flat.lines n ≡ Some o → access o ≡ Some a
      → Knows x (known flat n) (fl.lines.at n) a.cell
  -- a check is remembered of a variable that stands
  pub variables : (n : ℕ) (p : Pass) (v : ℕ) → IsIn p (passes_in flat n) → p.base ≡ Some v
      → (fl.lines.at n).env v ≢ Empty
  -- the cells of globals that are accessed are none of granule 0
  pub low : (n : ℕ) (o : Op) (a : Access) (g place : ℕ) → slice_get flat.lines n ≡ Some o → access o ≡ Some a
      → place_of (known flat n) a.cell ≡ Some (in_global g place) → 2 ≤ place
  pub functions : HasTypedFunctions code fl flat
