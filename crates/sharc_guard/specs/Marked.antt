-- What the pass that marks repeated checks keeps: when registers were written and places checked. A time is the number
-- of a line, plus 1; what was noted at a time up to the floor is void.
use Rattle.std.specs.Prelude.{◌≡◌, ℕ, ◌+◌, ◌==◌, ◌<◌, Bool, true, false, ◌&&◌, ◌||◌, List, length, Option, Some, None}
use Rattle.std.specs.Prelude.{nat_lt, nat_le, get_or, if◌then◌else◌}
use Rattle.std.specs.Map.{lookup}
use Rattle.sharc_heap.specs.{declared.shadow_word.Kind.Kind, declared.shadow_word.Kind.TheVariants.Write}
use Rattle.sharc_code.specs.declared.code.Function.{Function}
use Rattle.sharc_flat.specs.{declared.op.Op.Op, Machine.Flat}
use Rattle.sharc_flat.specs.declared.op.Op.TheVariants as op
use Rattle.sharc_guard.specs.{declared.marks.Copied.Copied, declared.marks.KnownNumber.KnownNumber}
use Rattle.sharc_guard.specs.declared.marks.PassedCheck.{PassedCheck}
use Rattle.sharc_guard.specs.declared.marks.SimplePlace.{SimplePlace as PlaceNoted}
use Rattle.sharc_guard.specs.{declared.marks.Knowledge.Knowledge, declared.operations.CheckedAccess.CheckedAccess}
use Rattle.sharc_guard.specs.{declared.operations.Copying.Copying, declared.operations.Written.Written}
use Rattle.sharc_guard.specs.Known.{is_led_to, is_entry, SimplePlace, in_variable, in_global, counts, Access, tells}
use Rattle.sharc_guard.specs.Known.{Know, of_constant, with_element, place_of, has_passed, dropped}
use Rattle.sharc_guard.specs.Made.{marked}
use Rattle.sharc_guard.specs.declared.marks.SimplePlace.TheVariants as noted
use Rattle.sharc_guard.specs.declared.operations.Written.TheVariants as written

-- ---- operations
abbrev pub is_written : Written → ℕ → Bool
is_written written.None k = false
is_written (written.One r) k = k == r
is_written (written.Two r s) k = k == r || k == s

abbrev pub is_one : Option ℕ → ℕ → Bool
is_one None k = false
is_one (Some i) k = k == i

abbrev pub access_of : Option Access → Option CheckedAccess
access_of None = None
access_of (Some a) = Some record { kind = a.kind; cell = a.cell; tells = tells a.spot }

abbrev pub copy_of : Op → Option Copying
copy_of (op.Local r x) = if r == x then None else Some record { register = r; variable = x }
copy_of _ = None

-- the number that an operation writes
abbrev pub number_of_line : Op → Know → Option ℕ
number_of_line (op.Constant i v) k = of_constant v
number_of_line (op.Bounds i r cells field spot) k = with_element cells field (k.number i)
number_of_line (op.GlobalBounds i elements cells field spot) k = with_element cells field (k.number i)
number_of_line _ k = None

-- ---- what is noted
pub record Notes : Type 0 where
  pub floor : ℕ
  pub written : ℕ → Option ℕ
  pub copies : ℕ → Option Copied
  pub numbers : ℕ → Option KnownNumber
  pub in_variables : ℕ → ℕ → Option PassedCheck
  pub in_globals : ℕ → ℕ → Option PassedCheck

abbrev pub no_notes : Notes
no_notes = record {
  floor = 0;
  written = λ k. None;
  copies = λ k. None;
  numbers = λ k. None;
  in_variables = λ x n. None;
  in_globals = λ g n. None;
}

abbrev pub of_register : {A : Type 0} → List (ℕ × A) → ℕ → Option A
of_register rows r = lookup (λ k. r == k) rows

abbrev pub of_cell : {A : Type 0} → List ((ℕ × ℕ) × A) → ℕ → ℕ → Option A
of_cell rows x n = lookup (λ k. x == k.0 && n == k.1) rows

abbrev pub notes_of : Knowledge → Notes
notes_of k = record {
  floor = k.floor;
  written = of_register k.written.entries;
  copies = of_register k.copies.entries;
  numbers = of_register k.numbers.entries;
  in_variables = of_cell k.in_variables.entries;
  in_globals = of_cell k.in_globals.entries;
}

abbrev pub or_never : Option ℕ → ℕ
or_never None = 0
or_never (Some t) = t

-- ---- what they say
abbrev pub copy_by : ℕ → (ℕ → Option ℕ) → ℕ → Option Copied → Option ℕ
copy_by floor written last None = None
copy_by floor written last (Some c) =
    if nat_lt floor c.made && (nat_le last c.made && nat_lt (or_never (written c.variable)) c.made) then Some c.variable
    else None

abbrev pub number_by : ℕ → Option KnownNumber → Option ℕ
number_by floor None = None
number_by floor (Some n) = if nat_lt floor n.made then n.number else None

abbrev pub passed_by : ℕ → ℕ → Kind → Option PassedCheck → Bool
passed_by floor last kind None = false
passed_by floor last kind (Some p) = nat_lt floor p.made && (nat_lt last p.made && counts p.kind kind)

abbrev pub passed_at : Notes → Kind → SimplePlace → Bool
passed_at s kind (in_variable x n) = passed_by s.floor (or_never (s.written x)) kind (s.in_variables x n)
passed_at s kind (in_global g n) = passed_by s.floor 0 kind (s.in_globals g n)

abbrev pub know_of : Notes → Know
know_of s = record {
  copy = λ r. copy_by s.floor s.written (or_never (s.written r)) (s.copies r);
  number = λ i. number_by s.floor (s.numbers i);
  passed = passed_at s;
}

abbrev pub place_from : PlaceNoted → SimplePlace
place_from (noted.InVariable x n) = in_variable x n
place_from (noted.InGlobal g n) = in_global g n

abbrev pub place_to : SimplePlace → PlaceNoted
place_to (in_variable x n) = noted.InVariable x n
place_to (in_global g n) = noted.InGlobal g n

abbrev pub noted_place : Option SimplePlace → Option PlaceNoted
noted_place None = None
noted_place (Some place) = Some (place_to place)

-- the check of an access repeats one
abbrev pub repeats : Know → Option CheckedAccess → Bool
repeats k None = false
repeats k (Some a) = a.tells && has_passed k a.kind (place_of k a.cell)

abbrev pub passed_there : Notes → Kind → Option PlaceNoted → Bool
passed_there s kind None = false
passed_there s kind (Some place) = passed_at s kind (place_from place)

-- ---- what is noted at a time
abbrev pub with_floor : ℕ → Notes → Notes
with_floor t s = record s { floor = t }

abbrev pub with_written : (ℕ → Bool) → ℕ → Notes → Notes
with_written registers t s = record s { written = λ k. if registers k then Some t else s.written k }

abbrev pub with_copy : Option Copying → ℕ → Notes → Notes
with_copy None t s = s
with_copy (Some c) t s =
    record s { copies = λ k. if k == c.register then Some record { variable = c.variable; made = t } else s.copies k }

abbrev pub with_number : (ℕ → Bool) → Option ℕ → ℕ → Notes → Notes
with_number registers v t s =
    record s { numbers = λ k. if registers k then Some record { number = v; made = t } else s.numbers k }

-- a check of kind Write stays one
abbrev pub stronger : Bool → Kind → Kind
stronger true kind = Write
stronger false kind = kind

abbrev pub with_place : Kind → Option SimplePlace → ℕ → Notes → Notes
with_place kind None t s = s
with_place kind (Some (in_variable x n)) t s =
    record s {
      in_variables = λ y k. if x == y && n == k
          then Some record { kind = stronger (passed_at s Write (in_variable x n)) kind; made = t }
          else s.in_variables y k;
    }
with_place kind (Some (in_global g n)) t s =
    record s {
      in_globals = λ h k. if g == h && n == k
          then Some record { kind = stronger (passed_at s Write (in_global g n)) kind; made = t } else s.in_globals h k;
    }

abbrev pub with_noted : Kind → Option PlaceNoted → ℕ → Notes → Notes
with_noted kind None t s = s
with_noted kind (Some place) t s = with_place kind (Some (place_from place)) t s

abbrev pub with_access : Option CheckedAccess → ℕ → Notes → Notes
with_access None t s = s
with_access (Some a) t s = if a.tells then with_place a.kind (place_of (know_of s) a.cell) t s else s

-- ---- all was noted before this time
abbrev pub CopyBefore : ℕ → Option Copied → Type 0
CopyBefore t None = Unit {0}
CopyBefore t (Some c) = c.made < t

abbrev pub NumberBefore : ℕ → Option KnownNumber → Type 0
NumberBefore t None = Unit {0}
NumberBefore t (Some n) = n.made < t

abbrev pub PassedBefore : ℕ → Option PassedCheck → Type 0
PassedBefore t None = Unit {0}
PassedBefore t (Some p) = p.made < t

pub record AreBefore (t : ℕ) (s : Notes) : Type 0 where
  pub floor : s.floor < t
  pub written : (k : ℕ) → or_never (s.written k) < t
  pub copies : (k : ℕ) → CopyBefore t (s.copies k)
  pub numbers : (k : ℕ) → NumberBefore t (s.numbers k)
  pub in_variables : (x n : ℕ) → PassedBefore t (s.in_variables x n)
  pub in_globals : (g n : ℕ) → PassedBefore t (s.in_globals g n)

-- ---- lists of marks
-- a line, or the one after the last, is led to, or begins a function
pub record AreTargets (lines : List Op) (functions : List Function) (targets : List Bool) : Type 0 where
  pub count : length targets ≡ length lines + 1
  pub are : (to : ℕ) → to < length targets
      → get_or targets to false ≡ (is_led_to lines (length lines) to || is_entry functions to)

-- each mark says whether the check of its line is dropped
pub record AreMarks (flat : Flat) (marks : List Bool) : Type 0 where
  pub count : length marks ≡ length flat.lines
  pub are : (n : ℕ) → marked marks n ≡ dropped flat n
