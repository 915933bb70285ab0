-- Each access of a dynamic or locked cell comes directly after its check, and nothing leads there but the check.
use Rattle.std.specs.Prelude.{ℕ, ◌+◌, ◌≡◌, ◌<◌, ◌⊎◌, Bool, true, false, length, slice_get, Option, Some, None}
use Rattle.std.specs.Prelude.{if◌then◌else◌}
use Rattle.sharc_code.specs.declared.code.PlaceMode.{PlaceMode}
use Rattle.sharc_code.specs.declared.code.PlaceMode.TheVariants.{Private, Readonly, Racy, Dynamic, LockedGlobal}
use Rattle.sharc_code.specs.declared.code.PlaceMode.TheVariants.{LockedSibling, LockedThrough, LockedLoaded}
use Rattle.sharc_code.specs.{declared.instr.Cell.Cell, declared.instr.Cell.TheVariants.{Global, Object}}
use Rattle.sharc_code.specs.declared.instr.Instr.{Instr}
use Rattle.sharc_code.specs.declared.instr.Instr.TheVariants.{Jump, JumpIfZero, JumpIfNull, ChkRead, ChkWrite, ChkLock}
use Rattle.sharc_code.specs.declared.instr.Instr.TheVariants.{ChkLockLoaded, Load, Store, LoadRef, Exchange, TakeCell}
use Rattle.sharc_flat.specs.Machine.{Flat}
use Rattle.sharc_guard.specs.{Machine.{Program, function_at, source_at}, Guard.guarded}

-- an access of a cell, at this site
pub record Access : Type 0 where
  pub cell : Cell
  pub site : ℕ
  pub is_write : Bool

abbrev pub access_of : Instr → Option Access
access_of (Load r cell site) = Some record { cell = cell; site = site; is_write = false }
access_of (Store r cell site) = Some record { cell = cell; site = site; is_write = true }
access_of (LoadRef cell site) = Some record { cell = cell; site = site; is_write = false }
access_of (Exchange r cell site) = Some record { cell = cell; site = site; is_write = true }
access_of (TakeCell r cell site) = Some record { cell = cell; site = site; is_write = true }
access_of _ = None

-- the statement is the check of this access under a mode
abbrev pub IsCheckOf : PlaceMode → Access → Instr → Type 0
IsCheckOf Dynamic a i = i ≡ (if a.is_write then ChkWrite a.cell a.site else ChkRead a.cell a.site)
IsCheckOf (LockedGlobal g place) a i = i ≡ ChkLock (Global g place) a.site
IsCheckOf (LockedThrough r place) a i = i ≡ ChkLock (Object r place) a.site
IsCheckOf (LockedSibling field mutex) a i = (c : Cell) × (i ≡ ChkLock c a.site)
IsCheckOf LockedLoaded a i = i ≡ ChkLockLoaded a.site
IsCheckOf _ a i = ⊥

-- the statement leads to this place, other than as the next one
abbrev pub LeadsTo : Instr → ℕ → Type 0
LeadsTo (Jump to) pc = to ≡ pc
LeadsTo (JumpIfZero r to) pc = to ≡ pc
LeadsTo (JumpIfNull r to) pc = to ≡ pc
LeadsTo _ pc = ⊥

pub record IsNoTarget (p : Program) (pc : ℕ) : Type 0 where
  pub jumps : (q : ℕ) (i : Instr) → slice_get p.statements q ≡ Some i → LeadsTo i pc → ⊥
  pub entries : (f : ℕ) → f < length p.functions → (function_at p f).entry ≡ pc → ⊥

-- the access comes directly after its check
pub record IsAfterCheck (p : Program) (pc : ℕ) (mode : PlaceMode) (a : Access) : Type 0 where
  pub before : ℕ
  pub before_is : before + 1 ≡ pc
  pub check : Instr
  pub stands : slice_get p.statements before ≡ Some check
  pub checks : IsCheckOf mode a check
  pub no_target : IsNoTarget p pc

abbrev pub IsCheckedAt : (ℕ → Bool) → Program → ℕ → PlaceMode → Access → Type 0
IsCheckedAt dropped p pc Private a = Unit {0}
IsCheckedAt dropped p pc Readonly a = Unit {0}
IsCheckedAt dropped p pc Racy a = Unit {0}
IsCheckedAt dropped p pc Dynamic a = (dropped a.site ≡ true) ⊎ IsAfterCheck p pc Dynamic a
IsCheckedAt dropped p pc (LockedGlobal g place) a = IsAfterCheck p pc (LockedGlobal g place) a
IsCheckedAt dropped p pc (LockedSibling field mutex) a = IsAfterCheck p pc (LockedSibling field mutex) a
IsCheckedAt dropped p pc (LockedThrough r place) a = IsAfterCheck p pc (LockedThrough r place) a
IsCheckedAt dropped p pc LockedLoaded a = IsAfterCheck p pc LockedLoaded a

-- a site is a line of flat code, so `dropped` applies to sites as well
abbrev pub AccessesAreChecked : Type 0
AccessesAreChecked = (flat : Flat) (dropped : ℕ → Bool) (pc : ℕ) (i : Instr) (a : Access)
    → let p = guarded dropped flat in
    slice_get p.statements pc ≡ Some i → access_of i ≡ Some a → IsCheckedAt dropped p pc (source_at p a.site).mode a
