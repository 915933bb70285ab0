-- What is to be said of a program: its faults, and what its name tokens name.
use Rattle.std.specs.Prelude.{◌≡◌, ◌⊎◌, ℕ, Bool, true, false, ◌&&◌, ◌||◌, ◌==◌, nat_lt, List, [], ◌∷◌, Option, Some}
use Rattle.std.specs.Prelude.{None, if◌then◌else◌, slice_set, slice_index_or}
use Rattle.std.specs.List.{AllByRecursion}
use Rattle.sharc_names.specs.declared.fault.FaultCode.{FaultCode}
use Rattle.sharc_names.specs.declared.fault.FaultCode.TheVariants.{UnknownName, DefinedTwice, TypeMismatch}
use Rattle.sharc_names.specs.declared.fault.FaultCode.TheVariants.{ArgumentCount, NoLvalue, TypeNotAllowed, BadForm}
use Rattle.sharc_names.specs.declared.fault.FaultCode.TheVariants.{NoMain, LimitPassed}
use Rattle.sharc_names.specs.{declared.fault.Fault.Fault, declared.fault.Named.Named}
use Rattle.sharc_names.specs.declared.fault.Named.TheVariants as named

-- A fault at a token; what a name token names; and what a token names as the second name of a lock path. A path may be
-- one that is nowhere in the source: then another name is at that token, and that one is what it names.
pub data Note : Type 0 where
  fault : ℕ → FaultCode → Note
  refers : ℕ → Named → Note
  yields : ℕ → Named → Note

-- the first fault that was found, and what each token names
pub record Findings : Type 0 where
  pub first : Option Fault
  pub named : List Named

abbrev pub digit : FaultCode → ℕ
digit UnknownName = 1
digit DefinedTwice = 2
digit TypeMismatch = 3
digit ArgumentCount = 4
digit NoLvalue = 5
digit TypeNotAllowed = 6
digit BadForm = 7
digit NoMain = 8
digit LimitPassed = 9

-- by place, then by code
abbrev pub is_before : Fault → Fault → Bool
is_before a b = nat_lt a.place b.place || (a.place == b.place && nat_lt (digit a.code) (digit b.code))

-- the first of the two, the old one where neither comes first
abbrev pub first_of : Option Fault → Fault → Option Fault
first_of None new = Some new
first_of (Some old) new = if is_before new old then Some new else Some old

abbrev pub is_free : Named → Bool
is_free named.Known = true
is_free _ = false

-- a token that names nothing yet names this
abbrev pub set_if_free : List Named → ℕ → Named → List Named
set_if_free all token what = if is_free (slice_index_or all token named.Known) then slice_set all token what else all

abbrev pub noted : Findings → Note → Findings
noted f (fault place code) =
    record { first = first_of f.first (record { place = place; code = code }); named = f.named }
noted f (refers token what) = record { first = f.first; named = slice_set f.named token what }
noted f (yields token what) = record { first = f.first; named = set_if_free f.named token what }

-- a fault unless all is well, and a fault where something is wrong
abbrev pub fault_unless : Bool → ℕ → FaultCode → List Note
fault_unless well place code = if well then [] else fault place code ∷ []

abbrev pub fault_where : Bool → ℕ → FaultCode → List Note
fault_where wrong place code = if wrong then fault place code ∷ [] else []

-- the faults among the notes
abbrev pub faults : List Note → List Fault
faults [] = []
faults (fault place code ∷ rest) = record { place = place; code = code } ∷ faults rest
faults (refers token what ∷ rest) = faults rest
faults (yields token what ∷ rest) = faults rest

-- the tokens that are referred to, in the order of the notes
abbrev pub referred : List Note → List ℕ
referred [] = []
referred (fault place code ∷ rest) = referred rest
referred (refers token what ∷ rest) = token ∷ referred rest
referred (yields token what ∷ rest) = token ∷ referred rest

abbrev pub IsAmong : Fault → List Fault → Type 0
IsAmong f [] = ⊥
IsAmong f (g ∷ rest) = (f ≡ g) ⊎ IsAmong f rest

-- one of them, and none comes before it
abbrev pub IsFirst : Fault → List Fault → Type 0
IsFirst f list = IsAmong f list × AllByRecursion (λ g. is_before g f ≡ false) list

-- the first of all faults, if there is one
abbrev pub IsAnswer : Option Fault → List Fault → Type 0
IsAnswer None list = list ≡ []
IsAnswer (Some f) list = IsFirst f list
