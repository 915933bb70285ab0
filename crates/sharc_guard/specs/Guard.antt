-- The guarded code of flat code: what comes before an operation's own statement, that statement, and what comes after
-- it.
use Rattle.std.specs.Prelude.{ℕ, zero, suc, ◌+◌, Bool, true, false, List, [], ◌∷◌, ◌++◌, length, map, Option, Some}
use Rattle.std.specs.Prelude.{None}
use Rattle.sharc_code.specs.{declared.code.Function.Function, declared.code.PlaceMode.PlaceMode}
use Rattle.sharc_code.specs.declared.code.PlaceMode.TheVariants.{Private, Readonly, Racy, Dynamic, LockedGlobal}
use Rattle.sharc_code.specs.declared.code.PlaceMode.TheVariants.{LockedSibling, LockedThrough, LockedLoaded}
use Rattle.sharc_code.specs.{declared.code.SourcePlace.SourcePlace, declared.instr.Cell.Cell}
use Rattle.sharc_code.specs.{declared.instr.Cell.TheVariants.{Global, Object}, declared.instr.Operator.Operator}
use Rattle.sharc_code.specs.{declared.instr.Width.Width, declared.instr.Width.TheVariants.{Char, Int, Long}}
use Rattle.sharc_code.specs.declared.instr.Instr.{Instr}
use Rattle.sharc_code.specs.declared.instr.Instr.TheVariants.{Constant, Move, MoveReference, Null, ComputeInt}
use Rattle.sharc_code.specs.declared.instr.Instr.TheVariants.{ComputeLong, NegateInt, NegateLong, Complement, Not}
use Rattle.sharc_code.specs.declared.instr.Instr.TheVariants.{SameReference, ChkWidth, Jump, JumpIfZero, JumpIfNull}
use Rattle.sharc_code.specs.declared.instr.Instr.TheVariants.{Call, Return, ChkNull, ChkHeld, ChkNotHeld, ChkPositive}
use Rattle.sharc_code.specs.declared.instr.Instr.TheVariants.{ChkRoom, ChkLock, ChkLockLoaded, Bounds, GlobalBounds}
use Rattle.sharc_code.specs.declared.instr.Instr.TheVariants.{ChkRead, ChkWrite, Load, Store, LoadRef, Exchange, Raise}
use Rattle.sharc_code.specs.declared.instr.Instr.TheVariants.{RaiseLoaded, Lower, New, TakeCell, TakeLocal, TestSole}
use Rattle.sharc_code.specs.declared.instr.Instr.TheVariants.{Clear, Give, Free, Lock, Unlock, Spawn, Join, Print}
use Rattle.sharc_code.specs.declared.instr.Instr.TheVariants.{Start, Exit, CondEnter, CondWait, CondSignal}
use Rattle.sharc_code.specs.declared.instr.Instr.TheVariants.{CondBroadcast}
use Rattle.sharc_code.specs.Says.{no_place}
use Rattle.sharc_flat.specs.declared.flat.LineTexts.{LineTexts}
use Rattle.sharc_flat.specs.{declared.op.Op.Op, declared.op.Spot.Spot, Laid.spot_in, Machine.Flat}
use Rattle.sharc_flat.specs.declared.op.Op.TheVariants as op
use Rattle.sharc_guard.specs.Machine.{Program}

-- ---- sites: the number of a site is that of its line
abbrev pub source_at_spot : Spot → SourcePlace
source_at_spot spot =
    record { site = spot.site; lvalue = spot.lvalue; lock = spot.lock_text; mode = spot.mode; at = spot.at }

abbrev pub source_by : Option Spot → SourcePlace
source_by None = no_place
source_by (Some spot) = source_at_spot spot

-- what an operation is in the source, if it may stop, check or ask; the pointer to a mutex is readonly
abbrev pub spot_of : Op → Option Spot
spot_of (op.LoadGuard cell spot) = Some (record spot { mode = Readonly })
spot_of o = spot_in o

abbrev pub source_of : Op → SourcePlace
source_of o = source_by (spot_of o)

-- a site with where its texts lie
abbrev pub with_texts : LineTexts → SourcePlace → SourcePlace
with_texts told place = record place { lvalue = told.lvalue; lock = told.lock }

abbrev pub site_by : Option LineTexts → Op → SourcePlace
site_by None o = source_of o
site_by (Some told) o = with_texts told (source_of o)

-- those of all lines
abbrev pub sites_of : List Op → List LineTexts → List SourcePlace
sites_of [] told = []
sites_of (o ∷ os) [] = site_by None o ∷ sites_of os []
sites_of (o ∷ os) (t ∷ ts) = site_by (Some t) o ∷ sites_of os ts

-- ---- checks
-- the check of an access at line n, of a mode; that of a dynamic cell may be dropped
abbrev pub check_under : Bool → Instr → Spot → ℕ → PlaceMode → List Instr
check_under dropped dynamic spot n Private = []
check_under dropped dynamic spot n Readonly = []
check_under dropped dynamic spot n Racy = []
check_under true dynamic spot n Dynamic = []
check_under false dynamic spot n Dynamic = dynamic ∷ []
check_under dropped dynamic spot n (LockedGlobal g place) = ChkLock (Global g place) n ∷ []
check_under dropped dynamic spot n (LockedSibling field mutex) = ChkLock spot.lock n ∷ []
check_under dropped dynamic spot n (LockedThrough r place) = ChkLock (Object r place) n ∷ []
check_under dropped dynamic spot n LockedLoaded = ChkLockLoaded n ∷ []

abbrev pub check_read : Bool → Cell → Spot → ℕ → List Instr
check_read dropped cell spot n = check_under dropped (ChkRead cell n) spot n spot.mode

abbrev pub check_write : Bool → Cell → Spot → ℕ → List Instr
check_write dropped cell spot n = check_under dropped (ChkWrite cell n) spot n spot.mode

-- ---- the statements of an operation at line n
-- what comes before its own: checks, tests, the clearing of bits
abbrev pub head : Bool → ℕ → Op → List Instr
head dropped n (op.Load i cell spot) = check_read dropped cell spot n
head dropped n (op.Store i cell spot) = check_write dropped cell spot n
head dropped n (op.LoadRef r cell spot) = check_read false cell spot n
head dropped n (op.StoreRef r cell spot) = check_write false cell spot n
head dropped n (op.TakeCell r cell spot) = check_write false cell spot n
head dropped n (op.Give r cells spot) = TestSole r n ∷ Clear r cells ∷ []
head dropped n (op.Free r layout spot) = TestSole r n ∷ []
head dropped n _ = []

abbrev pub compute : Width → Operator → ℕ → ℕ → ℕ → ℕ → Instr
compute Char operator i a b n = ComputeInt operator i a b n
compute Int operator i a b n = ComputeInt operator i a b n
compute Long operator i a b n = ComputeLong operator i a b n

abbrev pub negate : Width → ℕ → ℕ → ℕ → Instr
negate Char i a n = NegateInt i a n
negate Int i a n = NegateInt i a n
negate Long i a n = NegateLong i a n

-- its own statement, by where the lines have gone
abbrev pub body : (ℕ → ℕ) → ℕ → Op → Option Instr
body pl n op.Enter = None
body pl n op.BlockEnd = None
body pl n (op.Constant i v) = Some (Constant i v)
body pl n (op.Move i from) = Some (Move i from)
body pl n (op.Compute width operator i a b spot) = Some (compute width operator i a b n)
body pl n (op.Negate width i a spot) = Some (negate width i a n)
body pl n (op.Complement i a) = Some (Complement i a)
body pl n (op.IsFalse i a) = Some (Not i a)
body pl n (op.SameReference i a b) = Some (SameReference i a b)
body pl n (op.ChkWidth width i spot) = Some (ChkWidth width i n)
body pl n (op.Skip k) = Some (Jump (pl (n + 1 + k)))
body pl n (op.SkipIfZero i k) = Some (JumpIfZero i (pl (n + 1 + k)))
body pl n (op.SkipIfNull r k) = Some (JumpIfNull r (pl (n + 1 + k)))
body pl n (op.Jump to) = Some (Jump (pl to))
body pl n (op.Call f ints refs spot) = Some (Call f ints refs n)
body pl n (op.Return spot) = Some (Return n)
body pl n (op.Null r) = Some (Null r)
body pl n (op.Local r x) = Some (Raise r x)
body pl n (op.MoveReference r from) = Some (MoveReference r from)
body pl n (op.Pop r) = Some (Lower r)
body pl n (op.Settle x from) = Some (Lower x)
body pl n (op.ChkNull r spot) = Some (ChkNull r n)
body pl n (op.ChkPositive i spot) = Some (ChkPositive i n)
body pl n (op.ChkHeld cell spot) = Some (ChkHeld cell n)
body pl n (op.ChkNotHeld cell spot) = Some (ChkNotHeld cell n)
body pl n (op.ChkRoom spot) = Some (ChkRoom n)
body pl n (op.Bounds i r cells field spot) = Some (Bounds i r cells field n)
body pl n (op.GlobalBounds i elements cells field spot) = Some (GlobalBounds i elements cells field n)
body pl n (op.Load i cell spot) = Some (Load i cell n)
body pl n (op.Store i cell spot) = Some (Store i cell n)
body pl n (op.LoadRef r cell spot) = Some (LoadRef cell n)
body pl n (op.StoreRef r cell spot) = Some (Exchange r cell n)
body pl n (op.LoadGuard cell spot) = Some (LoadRef cell n)
body pl n (op.New r count cells spot) = Some (New r count cells n)
body pl n (op.TakeCell r cell spot) = Some (TakeCell r cell n)
body pl n (op.TakeLocal r x spot) = Some (TakeLocal r x n)
body pl n (op.Give r cells spot) = Some (Give r n)
body pl n (op.Free r layout spot) = Some (Free r layout n)
body pl n (op.Lock cell spot) = Some (Lock cell n)
body pl n (op.Unlock r cell spot) = Some (Unlock r cell n)
body pl n (op.CondEnter cell spot) = Some (CondEnter cell n)
body pl n (op.CondWait cell spot) = Some (CondWait cell n)
body pl n (op.CondSignal cell spot) = Some (CondSignal cell n)
body pl n (op.CondBroadcast cell spot) = Some (CondBroadcast cell n)
body pl n (op.Spawn i f from spot) = Some (Spawn i f from n)
body pl n (op.Join i spot) = Some (Join i n)
body pl n (op.Print i spot) = Some (Print i n)

-- what settles the counts after it
abbrev pub tail : Op → List Instr
tail (op.LoadRef r cell spot) = RaiseLoaded r ∷ []
tail (op.StoreRef r cell spot) = Lower r ∷ []
tail (op.Settle x from) = MoveReference x from ∷ []
tail _ = []

abbrev pub own : Option Instr → List Instr
own None = []
own (Some i) = i ∷ []

abbrev pub expand : (ℕ → ℕ) → Bool → ℕ → Op → List Instr
expand pl dropped n o = head dropped n o ++ own (body pl n o) ++ tail o

-- ---- places
-- how many statements an operation becomes: where the lines go does not matter
abbrev pub width : Bool → ℕ → Op → ℕ
width dropped n o = length (expand (λ k. 0) dropped n o)

-- where the line `n` further on goes, of lines that begin at line k
abbrev pub offset : (ℕ → Bool) → ℕ → List Op → ℕ → ℕ
offset dropped k [] n = 0
offset dropped k (o ∷ os) zero = 0
offset dropped k (o ∷ os) (suc n) = width (dropped k) k o + offset dropped (k + 1) os n

-- after the Start and the Exit
abbrev pub place : (ℕ → Bool) → List Op → ℕ → ℕ
place dropped lines n = 2 + offset dropped 0 lines n

abbrev pub expanded : (ℕ → ℕ) → (ℕ → Bool) → ℕ → List Op → List Instr
expanded pl dropped k [] = []
expanded pl dropped k (o ∷ os) = expand pl (dropped k) k o ++ expanded pl dropped (k + 1) os

-- ---- the whole
abbrev pub entered_at : (ℕ → ℕ) → Function → Function
entered_at pl f = record f { entry = pl f.entry }

abbrev pub guarded : (ℕ → Bool) → Flat → Program
guarded dropped flat = let pl = place dropped flat.lines in record {
  statements = Start 0 ∷ Exit ∷ expanded pl dropped 0 flat.lines;
  functions = map (entered_at pl) flat.functions;
  globals = flat.globals;
  sites = sites_of flat.lines flat.told;
}
