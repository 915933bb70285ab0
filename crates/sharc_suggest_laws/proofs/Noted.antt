-- Notes with others among them, faults apart: what a cast adds to what is to be said of a program.
use Rattle.sharc_suggest_laws.proofs.Imports.{◌≡◌, ◌∙◌, ◌⊎◌, ℕ, ◌==◌, Bool, true, false, not, ◌||◌, cond, List, [], ◌∷◌, ◌++◌, Option, Some, None, refl, AllByRecursion, Base, Mode, Locked, Path, One, Through, WrittenType, Declaration, PlaceCall, Expression, FaultCode, TypeMismatch, ArgumentCount, NoLvalue, TypeNotAllowed, BadForm, Named, Need, Scope, Role, Kind, object, is_pointer, stars_of, Entry, Meaning, StructMeaning, look_up, field_of, struct_of, is_main, place, called, fits, unmet, misfit, misfit_of, used_call, agreed, unagreed, Note, fault, refers, yields, fault_unless, fault_where, faults, main_notes, name_notes, field_notes, first_kind, second_in, second_notes, path_notes, mode_notes, modes_notes, struct_note, base_notes, allowed_there, type_notes, Standing, AsValue, AsLvalue, OperatorClass, is_place, place_notes, suits, place_call_notes, keeps_kind, cast_notes, may_join, binary_notes, Resolution, named_at, is_field, is_call_at, is_dull, no}
use Rattle.sharc_names.specs.{Needs.mismatch, Types.first_notes}
use Rattle.sharc_ctype.specs.Expressions.{count_notes}

-- ---- no fault among them

unfoldable pub Clean : List Note → Type 0
Clean [] = Unit {0}
Clean (fault place code ∷ rest) = ⊥
Clean (refers token what ∷ rest) = Clean rest
Clean (yields token what ∷ rest) = Clean rest

pub left : (a b : List Note) → Clean (a ++ b) → Clean a
unfolding Clean
left [] b h = tt
left (fault place code ∷ rest) b h = h
left (refers token what ∷ rest) b h = left rest b h
left (yields token what ∷ rest) b h = left rest b h

pub right : (a b : List Note) → Clean (a ++ b) → Clean b
unfolding Clean
right [] b h = h
right (fault place code ∷ rest) b h = absurd h
right (refers token what ∷ rest) b h = right rest b h
right (yields token what ∷ rest) b h = right rest b h

pub no_fault : (place : ℕ) (code : FaultCode) (rest : List Note) → Clean (fault place code ∷ rest) → ⊥
unfolding Clean
no_fault place code rest h = h

pub behind_head : (token : ℕ) (what : Named) (rest : List Note) → Clean (refers token what ∷ rest) → Clean rest
unfolding Clean
behind_head token what rest h = h

pub behind_yields : (token : ℕ) (what : Named) (rest : List Note) → Clean (yields token what ∷ rest) → Clean rest
unfolding Clean
behind_yields token what rest h = h

some_fault : (place : ℕ) (code : FaultCode) (rest : List Note) → faults (fault place code ∷ rest) ≡ [] → ⊥
some_fault place code rest is = cc

pub clean_from : (l : List Note) → faults l ≡ [] → Clean l
unfolding Clean
clean_from [] is = tt
clean_from (fault place code ∷ rest) is = some_fault place code rest is
clean_from (refers token what ∷ rest) is = clean_from rest is
clean_from (yields token what ∷ rest) is = clean_from rest is

pub well : (b : Bool) (place : ℕ) (code : FaultCode) → Clean (fault_unless b place code) → b ≡ true
well true place code h = refl
well false place code h = absurd (no_fault place code [] h)

pub not_wrong : (b : Bool) (place : ℕ) (code : FaultCode) → Clean (fault_where b place code) → b ≡ false
not_wrong true place code h = absurd (no_fault place code [] h)
not_wrong false place code h = refl

pub none : Clean []
unfolding Clean
none = tt

pub joined : (a b : List Note) → Clean a → Clean b → Clean (a ++ b)
unfolding Clean
joined [] b h k = k
joined (fault place code ∷ rest) b h k = h
joined (refers token what ∷ rest) b h k = joined rest b h k
joined (yields token what ∷ rest) b h k = joined rest b h k

pub faultless : (l : List Note) → Clean l → faults l ≡ []
unfolding Clean
faultless [] h = refl
faultless (fault place code ∷ rest) h = absurd h
faultless (refers token what ∷ rest) h = faultless rest h
faultless (yields token what ∷ rest) h = faultless rest h

pub unless : (b : Bool) (place : ℕ) (code : FaultCode) → b ≡ true → Clean (fault_unless b place code)
unless true place code is = none
unless false place code is = absurd (no is)

pub moved : (a b : Bool) (place at : ℕ) (code : FaultCode) → b ≡ a → Clean (fault_unless a place code) → Clean (fault_unless b at code)
moved a b place at code same h = unless b at code (same ∙ well a place code h)

pub referring : (token : ℕ) (what : Named) (rest : List Note) → Clean rest → Clean (refers token what ∷ rest)
unfolding Clean
referring token what rest h = h

-- ---- notes with others among them: these name what their tokens name, or are of tokens that name no variable, global or function, and say none; what yields is a field,
-- at no known call's token

abbrev pub IsHarmless : Resolution → Note → Type 0
IsHarmless r (fault place code) = ⊥
IsHarmless r (refers token what) = (named_at r token ≡ what) ⊎ ((is_dull (named_at r token) ≡ true) × (is_field (named_at r token) ≡ false) × (is_dull what ≡ true) × (is_field what ≡ false))
IsHarmless r (yields token what) = (is_field what ≡ true) × (is_call_at r token ≡ false)

-- what yields is a field
abbrev pub IsTame : Note → Type 0
IsTame (fault place code) = Unit {0}
IsTame (refers token what) = Unit {0}
IsTame (yields token what) = is_field what ≡ true

pub data Noted (r : Resolution) : List Note → List Note → Type 0 where
  done : Noted r [] []
  kept : {n : Note} {old new : List Note} → IsTame n → Noted r old new → Noted r (n ∷ old) (n ∷ new)
  added : {n : Note} {old new : List Note} → IsHarmless r n → Noted r old new → Noted r old (n ∷ new)
  old_fault : {place : ℕ} {code : FaultCode} {old new : List Note} → Noted r old new → Noted r (fault place code ∷ old) new
  new_fault : {place : ℕ} {code : FaultCode} {old new : List Note} → Noted r old new → Noted r old (fault place code ∷ new)

pub both : (r : Resolution) (a b x y : List Note) → Noted r a b → Noted r x y → Noted r (a ++ x) (b ++ y)
both r _ _ x y done more = more
both r _ _ x y (kept {n = n} {old = a} {new = b} t h) more = kept t (both r a b x y h more)
both r _ _ x y (added {n = n} {old = a} {new = b} t h) more = added t (both r a b x y h more)
both r _ _ x y (old_fault {place = place} {code = code} {old = a} {new = b} h) more = old_fault (both r a b x y h more)
both r _ _ x y (new_fault {place = place} {code = code} {old = a} {new = b} h) more = new_fault (both r a b x y h more)

pub same : (r : Resolution) (l : List Note) → AllByRecursion IsTame l → Noted r l l
same r [] tame = done
same r (n ∷ rest) tame = kept tame.0 (same r rest tame.1)

-- ---- faults alone

abbrev pub IsFault : Note → Type 0
IsFault (fault place code) = Unit {0}
IsFault _ = ⊥

abbrev pub AreFaults : List Note → Type 0
AreFaults l = AllByRecursion IsFault l

new_faults : (r : Resolution) (b : List Note) → AreFaults b → Noted r [] b
new_faults r [] g = done
new_faults r (fault place code ∷ rest) g = new_fault (new_faults r rest g.1)
new_faults r _ g = absurd g.0

pub more_faults : (r : Resolution) (a b c : List Note) → Noted r a b → AreFaults c → Noted r a (b ++ c)
more_faults r _ _ c done f = new_faults r c f
more_faults r _ _ c (kept {n = n} {old = a} {new = b} t h) f = kept t (more_faults r a b c h f)
more_faults r _ _ c (added {n = n} {old = a} {new = b} t h) f = added t (more_faults r a b c h f)
more_faults r _ _ c (old_fault {place = place} {code = code} {old = a} {new = b} h) f = old_fault (more_faults r a b c h f)
more_faults r _ _ c (new_fault {place = place} {code = code} {old = a} {new = b} h) f = new_fault (more_faults r a b c h f)

pub quiet : (r : Resolution) (a b : List Note) → AreFaults a → AreFaults b → Noted r a b
quiet r [] b f g = new_faults r b g
quiet r (fault place code ∷ rest) b f g = old_fault (quiet r rest b f.1 g)
quiet r _ b f g = absurd f.0

pub unless_faults : (b : Bool) (place : ℕ) (code : FaultCode) → AreFaults (fault_unless b place code)
unless_faults true place code = tt
unless_faults false place code = (tt, tt)

pub where_faults : (b : Bool) (place : ℕ) (code : FaultCode) → AreFaults (fault_where b place code)
where_faults true place code = (tt, tt)
where_faults false place code = tt

used_faults : (word : Option ℕ) → AreFaults (used_call word)
used_faults None = tt
used_faults (Some word) = (tt, tt)

base_faults : (b : Base) (e : Expression) → AreFaults (misfit_of b e)
base_faults Base.Void e = used_faults (called e)
base_faults _ e = (tt, tt)

object_faults : (b : Base) (e : Expression) (z : Bool) → AreFaults (cond z (misfit_of b e) (mismatch e))
object_faults b e true = base_faults b e
object_faults b e false = (tt, tt)

misfit_faults : (k : Kind) (e : Expression) → AreFaults (misfit k e)
misfit_faults (object b stars) e = object_faults b e (stars == 0)
misfit_faults _ e = (tt, tt)

unfit_faults : (k : Kind) (e : Expression) (b : Bool) → AreFaults (cond b [] (misfit k e))
unfit_faults k e true = tt
unfit_faults k e false = misfit_faults k e

pub unmet_faults : (need : Need) (e : Expression) (k : Option Kind) → AreFaults (unmet need e k)
unmet_faults need e None = tt
unmet_faults need e (Some k) = unfit_faults k e (fits need k)

pub unagreed_faults : (want : Option Kind) (e : Expression) (k : Option Kind) → AreFaults (unagreed want e k)
unagreed_faults want e k = unless_faults (agreed want k) (place e) TypeMismatch

pub place_faults : (names : List Entry) (e : Expression) → AreFaults (place_notes names e)
place_faults names e = unless_faults (is_place names e) (place e) NoLvalue

pub place_call_faults : (word : ℕ) (w : PlaceCall) (k : Option Kind) → AreFaults (place_call_notes word w k)
place_call_faults word w None = tt
place_call_faults word w (Some k) = unless_faults (suits w k) word BadForm

keeping_faults : (word at : ℕ) (keeping : Bool) (b : Bool) → AreFaults (cond b (fault_unless keeping at TypeMismatch) (fault word BadForm ∷ []))
keeping_faults word at keeping true = unless_faults keeping at TypeMismatch
keeping_faults word at keeping false = (tt, tt)

pub cast_faults : (word : ℕ) (fine : Bool) (w : WrittenType) (e : Expression) (k : Option Kind) → AreFaults (cast_notes word fine w e k)
cast_faults word fine w e None = tt
cast_faults word fine w e (Some k) = keeping_faults word (place e) (keeps_kind fine w k || not fine) (is_pointer k)

pub count_faults : (stands : Standing) (token n : ℕ) (k : Option (List Kind)) → AreFaults (count_notes stands token n k)
count_faults AsValue token n None = (tt, tt)
count_faults AsLvalue token n None = tt
count_faults stands token n (Some all) = unless_faults _ token ArgumentCount

pub main_faults : (token : ℕ) (m : Meaning) → AreFaults (main_notes token m)
main_faults token m = where_faults (is_main m) token BadForm

pub binary_faults : (o : OperatorClass) (e : Expression) (a b : Option Kind) → AreFaults (binary_notes o e a b)
binary_faults o e None b = tt
binary_faults o e (Some a) None = tt
binary_faults o e (Some a) (Some b) = unless_faults (may_join o a b) (place e) TypeMismatch

-- ---- what yields in a type is a field

pub append_tame : (a b : List Note) → AllByRecursion IsTame a → AllByRecursion IsTame b → AllByRecursion IsTame (a ++ b)
append_tame [] b s t = t
append_tame (n ∷ rest) b s t = (s.0, append_tame rest b s.1 t)

fault_tame : (n : Note) → IsFault n → IsTame n
fault_tame (fault place code) f = tt
fault_tame (refers token what) f = tt
fault_tame (yields token what) f = absurd f

pub faults_tame : (l : List Note) → AreFaults l → AllByRecursion IsTame l
faults_tame [] f = tt
faults_tame (n ∷ rest) f = (fault_tame n f.0, faults_tame rest f.1)

pub name_tame : (token : ℕ) (entry : Option Entry) → AllByRecursion IsTame (name_notes token entry)
name_tame token None = (tt, tt)
name_tame token (Some e) = (tt, faults_tame (main_notes token e.meaning) (main_faults token e.meaning))

pub field_tame : (token : ℕ) (found : Option (Option Declaration)) → AllByRecursion IsTame (field_notes token found)
field_tame token None = tt
field_tame token (Some None) = (tt, tt)
field_tame token (Some (Some d)) = (tt, tt)

first_tame : (token : ℕ) (sibling : Option Declaration) (entry : Option Entry) → AllByRecursion IsTame (first_notes token sibling entry)
first_tame token (Some d) entry = (tt, tt)
first_tame token None entry = name_tame token entry

second_tame : (token : ℕ) (found : Option (Option Declaration)) → AllByRecursion IsTame (second_notes token found)
second_tame token None = tt
second_tame token (Some None) = (tt, tt)
second_tame token (Some (Some d)) = (refl, tt)

path_tame : (scope : Scope) (siblings : List Declaration) (p : Path) → AllByRecursion IsTame (path_notes scope siblings p)
path_tame scope siblings (One m token) = first_tame token (field_of siblings m) (look_up scope.names m)
path_tame scope siblings (Through x token m) =
    append_tame (first_notes token (field_of siblings x) (look_up scope.names x)) _ (first_tame token (field_of siblings x) (look_up scope.names x)) (second_tame _ (second_in scope.structs m (first_kind (field_of siblings x) (look_up scope.names x))))

mode_tame : (scope : Scope) (siblings : List Declaration) (m : Option Mode) → AllByRecursion IsTame (mode_notes scope siblings m)
mode_tame scope siblings (Some (Locked path)) = path_tame scope siblings path
mode_tame scope siblings _ = tt

modes_tame : (scope : Scope) (siblings : List Declaration) (l : List (Option Mode)) → AllByRecursion IsTame (modes_notes scope siblings l)
modes_tame scope siblings [] = tt
modes_tame scope siblings (m ∷ below) = append_tame (mode_notes scope siblings m) (modes_notes scope siblings below) (mode_tame scope siblings m) (modes_tame scope siblings below)

struct_tame : (token : ℕ) (s : Option StructMeaning) → AllByRecursion IsTame (struct_note token s)
struct_tame token None = (tt, tt)
struct_tame token (Some s) = (tt, tt)

base_tame : (scope : Scope) (token : ℕ) (b : Base) → AllByRecursion IsTame (base_notes scope.structs token b)
base_tame scope token (Base.Struct name) = struct_tame token (struct_of scope.structs name)
base_tame scope token _ = tt

pub type_tame : (scope : Scope) (siblings : List Declaration) (where_it_stands : Role) (w : WrittenType) → AllByRecursion IsTame (type_notes scope siblings where_it_stands w)
type_tame scope siblings where_it_stands w =
    append_tame (base_notes scope.structs w.base.token w.ctype.base ++ fault_unless (allowed_there where_it_stands w) w.span.first.token TypeNotAllowed) (modes_notes scope siblings w.ctype.levels)
    (append_tame (base_notes scope.structs w.base.token w.ctype.base) (fault_unless (allowed_there where_it_stands w) w.span.first.token TypeNotAllowed)
    (base_tame scope w.base.token w.ctype.base) (faults_tame _ (unless_faults (allowed_there where_it_stands w) w.span.first.token TypeNotAllowed)))
    (modes_tame scope siblings w.ctype.levels)
