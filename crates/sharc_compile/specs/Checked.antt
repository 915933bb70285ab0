-- Each access of a dynamic or locked cell in code of flat code is no jump target; it comes directly after its check,
-- but where that repeats one and is dropped.
use Rattle.std.specs.Prelude.{ℕ, ◌+◌, ◌≡◌, ◌<◌, ◌⊎◌, Bool, true, length, slice_get, slice_index_or, Some}
use Rattle.sharc_code.specs.{declared.code.Code.Code, declared.code.PlaceMode.PlaceMode}
use Rattle.sharc_code.specs.declared.code.PlaceMode.TheVariants.{Private, Readonly, Racy, Dynamic, LockedGlobal}
use Rattle.sharc_code.specs.declared.code.PlaceMode.TheVariants.{LockedSibling, LockedThrough, LockedLoaded}
use Rattle.sharc_code.specs.declared.instr.Instr.{Instr}
use Rattle.sharc_code.specs.{declared.instr.Instr.TheVariants.{Jump, JumpIfZero, JumpIfNull, Call}, Machine.no_function}
use Rattle.sharc_code.specs.Says.{place_at}
use Rattle.sharc_flat.specs.{declared.flat.Flat.{Flat as FlatCode}, Made.flat_of}
use Rattle.sharc_guard.specs.{Checked.{Access, access_of, IsCheckOf}, Known.dropped}
use Rattle.sharc_compile.specs.Made.{IsCodeOf}

-- the instruction leads to this place, other than as the next one
abbrev pub LeadsTo : Instr → ℕ → Type 0
LeadsTo (Jump to) pc = to ≡ pc
LeadsTo (JumpIfZero r to) pc = to ≡ pc
LeadsTo (JumpIfNull r to) pc = to ≡ pc
LeadsTo (Call to ints refs site) pc = to ≡ pc
LeadsTo _ pc = ⊥

-- no jump, no call and no start of a thread leads there
pub record IsNoTarget (code : Code) (pc : ℕ) : Type 0 where
  pub jumps : (q : ℕ) (i : Instr) → slice_get code.instrs.items q ≡ Some i → LeadsTo i pc → ⊥
  pub entries : (f : ℕ) → f < length code.functions.items
      → (slice_index_or code.functions.items f no_function).entry ≡ pc → ⊥

pub record IsAfterCheck (code : Code) (pc : ℕ) (mode : PlaceMode) (a : Access) : Type 0 where
  pub before : ℕ
  pub before_is : before + 1 ≡ pc
  pub check : Instr
  pub stands : slice_get code.instrs.items before ≡ Some check
  pub checks : IsCheckOf mode a check
  pub no_target : IsNoTarget code pc

abbrev pub IsCheckedAt : (ℕ → Bool) → Code → ℕ → PlaceMode → Access → Type 0
IsCheckedAt dropped code pc Private a = Unit {0}
IsCheckedAt dropped code pc Readonly a = Unit {0}
IsCheckedAt dropped code pc Racy a = Unit {0}
IsCheckedAt dropped code pc Dynamic a = ((dropped a.site ≡ true) × IsNoTarget code pc) ⊎ IsAfterCheck code pc Dynamic a
IsCheckedAt dropped code pc (LockedGlobal g place) a = IsAfterCheck code pc (LockedGlobal g place) a
IsCheckedAt dropped code pc (LockedSibling field mutex) a = IsAfterCheck code pc (LockedSibling field mutex) a
IsCheckedAt dropped code pc (LockedThrough r place) a = IsAfterCheck code pc (LockedThrough r place) a
IsCheckedAt dropped code pc LockedLoaded a = IsAfterCheck code pc LockedLoaded a

abbrev pub CodeIsChecked : Type 0
CodeIsChecked = (flat : FlatCode) (code : Code) → IsCodeOf flat code
    → (pc : ℕ) (i : Instr) (a : Access) → slice_get code.instrs.items pc ≡ Some i → access_of i ≡ Some a
    → IsCheckedAt (dropped (flat_of flat)) code pc (place_at code a.site).mode a
