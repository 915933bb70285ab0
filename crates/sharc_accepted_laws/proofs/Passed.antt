-- What is passed at a call has the type that the parameter has there: each path `x->m` of the parameter's type leads, by the argument for `x`, to the same mutex.
use Rattle.sharc_accepted_laws.proofs.{Imports.{◌≡◌, ⊎_elim, ℕ, ◌+◌, ◌==◌, Bool, true, false, cond, List, [], ◌∷◌, map, refl, ap, sym, ◌∙◌, subst, bytes_eq, Option, Some, None, is_some, eqb-true, lt-ltb, arith, Contains, false≢true, unwrap_or, AllByRecursion, Base, Mode, Locked, Path, One, Through, Declaration, Expression, Arguments, no_arguments, argument, value, Function, in_function, IsLow, IsPlaced, Named, Kind, object, is_pointer, declared_kind, Entity, Numbered, entities_in, numbered, numbered_from, positions_of, is_told_by, entity_at, Resolution, IsResolved, named_at, function_at, functions_in, declaration_at, variable_kind, named_kind, kind_at, Transfer, variable, passed, parameters_of, parameters_named, function_transfers, IsFair, is_constant, IsFound, EachTypeFound, EachNamesItself, AllFair, FirstNames, a_known_call, IsNamedLevel, field_place_behind, Assignment, base_of, PathReading, written, at_call, Targets, is_constant_named, constant_use, argument_use, with_base, path_variable, lock_for, read, entity_row, declared_row, modes_of, modes_at, Lock, Sharing, locked, lock_of, sharing_of, variable_named, same_all, IsEntity, IsExpression, IsCall, called, spawned, an_argument, RulesAreMet, at_target, is_substituted, Context, slot_kind, PathNamed, PathStands, TypeLock, Global, InRegister, Refers, Label, AllSame, PassesLock, Passes, form_of, shape_of, number, register, lock_named, lock_at, locks_at, static_of, variable_type, entry_by, entry_of, IsAccepted, at_entry, AreCopies, ArgumentsPass, argument_type, AreStanding, ArgumentFits, ArgumentsFit, is_held, IsHeldPath, AllHeld, AllStand, same_some, none_some, each, head_there, head_or_tail, of_each, to_each, tail_there, none_there, place_there}, Holds.{path_named, held_by, object as object_there, all_named, variable_is}, Scoping.HasOneStruct, Same.{forms_of_same, locks_of_same}, Transferred.{own_passed, Passes as FairlyPasses, calls_pass}, Given.{Fair, is_nothing, is_like, fair, null_modes, meets, no_variable, parameter_declared, goes}, Written.{raw, row_good, found_there}, Origins.{reading_kept, same_raw, mapped_there, both_hold, same_lock}, Sorts.one_kind as same_kinds}
use Rattle.std.proofs.Common.{position}
use Rattle.sharc_tree.specs.Tree as tree
use Rattle.sharc_ctype_laws.specs.WrittenTypes.{a_field, a_variable, a_global, a_function}
use Rattle.sharc_mode.specs.Sharings.{variable_of}

-- ---- arguments
-- what is given to a parameter
abbrev given : Declaration → Expression → Transfer
given d e = record { receiver = variable d; source = value e }

-- the parameter and the argument for it
record For (r : Resolution) (ds : List Declaration) (all : Arguments) (x at : ℕ) : Type 0 where
  parameter : Declaration
  of : Expression
  among : Contains ds parameter
  passes : Contains (passed ds all) record { receiver = variable parameter; source = value of }
  token : parameter.name.site.token ≡ x
  used : constant_use r of ≡ Some at

later_for : (r : Resolution) (d : Declaration) (ds : List Declaration) (a : Expression) (all : Arguments) (x at : ℕ) → For r ds all x at → For r (d ∷ ds) (argument a all) x at
later_for r d ds a all x at f = record {
  parameter = f.parameter;
  of = f.of;
  among = tail_there d f.parameter ds f.among;
  passes = tail_there (given d a) (given f.parameter f.of) (passed ds all) f.passes;
  token = f.token;
  used = f.used;
}

used_for : (r : Resolution) (ds : List Declaration) (all : Arguments) (x at : ℕ) → argument_use r ds all x ≡ Some at → For r ds all x at
used_for r [] all x at h = absurd (none_some at h)
used_for r (d ∷ ds) no_arguments x at h = absurd (none_some at h)
used_for r (d ∷ ds) (argument a all) x at h = by (d.name.site.token == x) refl h (used_for r ds all x at)
  where
    by : (b : Bool) → (d.name.site.token == x) ≡ b → cond b (constant_use r a) (argument_use r ds all x) ≡ Some at → (argument_use r ds all x ≡ Some at → For r ds all x at) → For r (d ∷ ds) (argument a all) x at
    by true is k later = record {
      parameter = d;
      of = a;
      among = head_there d ds;
      passes = head_there (given d a) (passed ds all);
      token = eqb-true d.name.site.token x is;
      used = k;
    }
    by false is k later = later_for r d ds a all x at (later k)

same_parameter : (x d : Declaration) (a e : Expression) → given x a ≡ given d e → x ≡ d
same_parameter x d a e h = let f : variable x ≡ variable d = ap (λ (t : Transfer). t.receiver) h in cc

parameter_among : (ds : List Declaration) (all : Arguments) (d : Declaration) (e : Expression) → Contains (passed ds all) (given d e) → Contains ds d
parameter_among [] all d e has = absurd (none_there (given d e) has)
parameter_among (x ∷ ds) no_arguments d e has = absurd (none_there (given d e) has)
parameter_among (x ∷ ds) (argument a all) d e has =
    ⊎_elim (λ is. subst (Contains (x ∷ ds)) (same_parameter x d a e is) (head_there x ds)) (λ more. tail_there x d ds (parameter_among ds all d e more))
    (head_or_tail (given x a) (given d e) (passed ds all) has)

-- what is constant where it is used
pub record Use (r : Resolution) (e : Expression) (at : ℕ) : Type 0 where
  pub variable : ℕ
  pub names : named_at r at ≡ Named.Variable variable
  pub constant : is_constant r variable ≡ true
  pub kind : kind_at r e ≡ variable_kind (declaration_at r variable)

pub use_named : (r : Resolution) (e : Expression) (at : ℕ) → constant_use r e ≡ Some at → Use r e at
use_named r (tree.identifier s i) at h = by (is_constant_named r (named_at r i.site.token)) refl h
  where
    one : (n : Named) → named_at r i.site.token ≡ n → is_constant_named r n ≡ true → i.site.token ≡ at → Use r (tree.identifier s i) at
    one (Named.Variable y) is k same = record { variable = y; names = ap (named_at r) (sym same) ∙ is; constant = k; kind = ap (named_kind r) is }
    one _ is k same = absurd (false≢true k)

    by : (b : Bool) → is_constant_named r (named_at r i.site.token) ≡ b → cond b (Some i.site.token) None ≡ Some at → Use r (tree.identifier s i) at
    by true is k = one (named_at r i.site.token) refl is (same_some i.site.token at k)
    by false is k = absurd (none_some at k)
use_named r _ at h = absurd (none_some at h)

-- ---- what a path's variable is
pub same_token : (t u : ℕ) → Named.Variable t ≡ Named.Variable u → t ≡ u
same_token t u e = cc

pub first_kind : (r : Resolution) (token : ℕ) (text : List ℕ) (k : Kind) → FirstNames r token text k → (t : ℕ) → named_at r token ≡ Named.Variable t → variable_kind (declaration_at r t) ≡ k
first_kind r token text _ (a_field is at same) t n = absurd (cc (sym is ∙ n))
first_kind r token text _ (a_variable is at same) t n = ap (λ x. variable_kind (declaration_at r x)) (same_token _ _ (sym n ∙ is)) ∙ ap variable_kind at
first_kind r token text _ (a_global is at same) t n = absurd (cc (sym is ∙ n))
first_kind r token text _ (a_function is at same other) t n = absurd (cc (sym is ∙ n))
first_kind r token text _ (a_known_call c is same) t n = absurd (cc (sym is ∙ n))

-- the variable of a path is a pointer to a struct
abbrev pub PathPoints : Resolution → Lock → Type 0
PathPoints r l = (x : ℕ) → path_variable r l ≡ Some x → (struct : List ℕ) × (variable_kind (declaration_at r x) ≡ object (Base.Struct struct) 1)

abbrev ModePoints : Resolution → Mode → Type 0
ModePoints r mode = (path : Path) → mode ≡ Locked path → PathPoints r (lock_of path)

level_points : (r : Resolution) (path : Path) → IsNamedLevel r (Some (Locked path)) → PathPoints r (lock_of path)
level_points r (One text token) h x is = absurd (none_some x is)
level_points r (Through text token m) h x is = (h.0, first_kind r token text (object (Base.Struct h.0) 1) h.2 x (variable_is (named_at r token) x is))

pub same_path : (p q : Path) → Locked p ≡ Locked q → p ≡ q
same_path p q h = cc

abbrev LevelPoints : Resolution → Option Mode → Type 0
LevelPoints r None = Unit {0}
LevelPoints r (Some mode) = ModePoints r mode

points : (r : Resolution) (level : Option Mode) → IsNamedLevel r level → LevelPoints r level
points r None h = tt
points r (Some (Locked q)) h = λ path is. subst (λ z. PathPoints r (lock_of z)) (same_path q path is) (level_points r q h)
points r (Some _) h = λ path is. absurd (cc)

entity_there : (s : ℕ) (list : List Entity) (n : Numbered) → Contains (numbered_from s list) n → Contains list n.entity
entity_there s [] n has = absurd (none_there n has)
entity_there s (e ∷ rest) n has =
    ⊎_elim (λ is. subst (λ (z : Numbered). Contains (e ∷ rest) z.entity) is (head_there e rest)) (λ more. tail_there e n.entity rest (entity_there (s + positions_of e) rest n more))
    (head_or_tail record { entity = e; first = s } n (numbered_from (s + positions_of e) rest) has)

row_points : (found : EachTypeFound) (m : Assignment) → IsAccepted m → (how : PathReading) (n : Numbered) → IsEntity m n → AllByRecursion (ModePoints m.typed) (raw m (entity_row how (Some n)))
row_points found m a how n is =
    let f : IsFound m.typed n.entity = of_each (IsFound m.typed) (entities_in m.typed.program.items) n.entity (found m.typed a.resolved a.placed a.low) (entity_there 0 (entities_in m.typed.program.items) n is) in
    row_good (ModePoints m.typed) (λ path e. absurd (cc)) (λ path e. absurd (cc)) (λ path e. absurd (cc)) m a.least how n is
    (each (IsNamedLevel m.typed) (LevelPoints m.typed) (points m.typed) n.entity.written.ctype.levels f.named.levels)

-- ---- forms
pub form_read : (r : Resolution) (how : PathReading) (s : Sharing) → form_of (read r how s) ≡ form_of s
form_read r how (locked l) = refl
form_read r how _ = refl

forms_read : (r : Resolution) (one other : PathReading) (list : List Mode) → map form_of (map (λ mode. read r one (sharing_of mode)) list) ≡ map form_of (map (λ mode. read r other (sharing_of mode)) list)
forms_read r one other [] = refl
forms_read r one other (x ∷ rest) = cc (form_read r one (sharing_of x), form_read r other (sharing_of x), forms_read r one other rest)

-- ---- calls
module _ (found : EachTypeFound) (rules : RulesAreMet) (all_fair : AllFair) (themselves : EachNamesItself) (c : Context) (accepted : IsAccepted c.program) (ds : List Declaration) (all : Arguments) (call : IsCall c.program ds all) where
  abbrev m : Assignment
  m = c.program

  abbrev r : Resolution
  r = c.program.typed

  abbrev inner : Context
  inner = at_entry c ds

  -- a parameter is one of some function
  named_declared : (n : Named) (d : Declaration) → Contains (parameters_named r n) d → declaration_at r d.name.site.token ≡ Some d
  named_declared (Named.Function n) d has = by (function_at r n) refl has
    where
      by : (o : Option Function) → function_at r n ≡ o → Contains (parameters_of o) d → declaration_at r d.name.site.token ≡ Some d
      by None is k = absurd (none_there d k)
      by (Some g) is k = parameter_declared rules all_fair themselves m accepted g (place_there (functions_in r.program.items) n g is) d k
  named_declared _ d has = absurd (none_there d has)

  declared_by : {ps : List Declaration} {args : Arguments} → IsCall m ps args → (d : Declaration) → Contains ps d → declaration_at r d.name.site.token ≡ Some d
  declared_by (called {f = f} x) d has = named_declared (named_at r f.site.token) d has
  declared_by (spawned {f = f} x) d has = named_declared (named_at r f.site.token) d has

  own_fair : (e : Expression) → IsExpression m e → AllByRecursion (IsFair r) (own_passed r e)
  own_fair e x =
      let fairs = of_each (λ f. AllByRecursion (IsFair r) (function_transfers r f)) (functions_in r.program.items) x.owner (all_fair r accepted.resolved accepted.placed accepted.low) x.stands in
      of_each (FairlyPasses r (IsFair r)) (in_function x.owner) e (calls_pass r (IsFair r) x.owner fairs) x.inside

  fair_by : {ps : List Declaration} {args : Arguments} → IsCall m ps args → AllByRecursion (IsFair r) (passed ps args)
  fair_by (called {s = s} {f = f} {all = args} x) = own_fair (tree.call s f args) x
  fair_by (spawned {s = s} {f = f} {a = e} x) = own_fair (tree.spawn s f e) x

  fair_argument : (d : Declaration) (e : Expression) → Contains (passed ds all) (given d e) → IsFair r (given d e)
  fair_argument d e has = of_each (IsFair r) (passed ds all) (given d e) (fair_by call) has

  struct_pointer : (x : ℕ) → (struct : List ℕ) × (variable_kind (declaration_at r x) ≡ object (Base.Struct struct) 1) → is_pointer (variable_kind (declaration_at r x)) ≡ true
  struct_pointer x h = ap is_pointer h.1 ∙ lt-ltb 0 1 (omega arith)

  -- ---- the paths at the call
  abbrev at_caller : Lock → Lock
  at_caller lock = lock_for r ds all (path_variable r lock) lock

  none_named : (n : Named) (second : Option (List ℕ)) → cond (is_some second) (variable_named n) None ≡ None → PathNamed c.scope n second
  none_named (Named.Variable x) (Some name) h = absurd (none_some x (sym h))
  none_named _ _ h = tt

  one_named : (n : Named) (y : ℕ) (second : Option (List ℕ)) → n ≡ Named.Variable y → slot_kind c.scope y ≡ Some true → PathNamed c.scope n second
  one_named n y second is stands = subst (λ w. PathNamed c.scope w second) (sym is) (by second)
    where
      by : (o : Option (List ℕ)) → PathNamed c.scope (Named.Variable y) o
      by (Some name) = stands
      by None = tt

  -- one is held, and leads through a variable that stands
  abbrev Fits : Lock → Type 0
  Fits lock = IsHeldPath m (locked lock) × (AreStanding c ds all → PathStands r c.scope (locked lock))

  lock_fits : (d : Declaration) → Contains ds d → (lock : Lock) → PathPoints r lock → Contains (modes_of m (declared_row r written d.name.site.token)) (locked lock)
      → Contains (modes_of m (declared_row r (at_call ds all) d.name.site.token)) (locked (at_caller lock)) → Fits (at_caller lock)
  lock_fits d among lock pointer here there = by (path_variable r lock) refl
    where
      without : path_variable r lock ≡ None → Fits lock
      without none = (
        λ l x e h. absurd (none_some x (sym none ∙ ap (path_variable r) (same_lock lock l e) ∙ h)),
        λ stands. none_named (named_at r lock.first) lock.second none,
      )

      with_one : (x at : ℕ) → is_pointer (variable_kind (declaration_at r x)) ≡ true → argument_use r ds all x ≡ Some at → Contains (modes_of m (declared_row r (at_call ds all) d.name.site.token)) (locked (with_base (Some at) lock)) → Fits (with_base (Some at) lock)
      with_one x at leads used there =
          let f = used_for r ds all x at used in
          let u = use_named r f.of at f.used in (
            λ l y e h.
                let same : with_base (Some at) lock ≡ l = same_lock (with_base (Some at) lock) l e in
                let path : path_variable r (with_base (Some at) lock) ≡ Some y = ap (path_variable r) same ∙ h in
                let is : u.variable ≡ y = same_token u.variable y (sym u.names ∙ path_named r (with_base (Some at) lock) y path) in
                held_by rules m accepted y (ap (is_constant r) (sym is) ∙ u.constant) (is_substituted call among (at_target there) (object_there rules m accepted (with_base (Some at) lock) y path)),
            λ stands. one_named (named_at r at) u.variable lock.second u.names (stands x at u.variable leads used u.names),
          )

      by : (o : Option ℕ) → path_variable r lock ≡ o → Fits (at_caller lock)
      by None is = subst Fits (sym (ap (λ o. lock_for r ds all o lock) is)) (without is)
      by (Some x) is =
          let used = (meets rules all_fair themselves m accepted).m4.arguments ds all d lock x call among (at_target here) is in
          let to : at_caller lock ≡ with_base (Some used.0) lock = ap (λ o. lock_for r ds all o lock) is ∙ ap (λ o. with_base o lock) used.1 in
          subst Fits (sym to) (with_one x used.0 (struct_pointer x (pointer x is)) used.1 (subst (λ z. Contains (modes_of m (declared_row r (at_call ds all) d.name.site.token)) (locked z)) to there))

  abbrev ModeFits : Mode → Type 0
  ModeFits mode = (path : Path) → mode ≡ Locked path → Fits (at_caller (lock_of path))

  list_held : (list : List Mode) → AllByRecursion ModeFits list → AllHeld m (map (λ mode. read r (at_call ds all) (sharing_of mode)) list)
  list_held [] h = tt
  list_held (Locked path ∷ rest) h = ((h.0 path refl).0, list_held rest h.1)
  list_held (_ ∷ rest) h = (λ l x e k. absurd (cc), list_held rest h.1)

  list_stands : AreStanding c ds all → (list : List Mode) → AllByRecursion ModeFits list → AllStand m c.scope (map (λ mode. read r (at_call ds all) (sharing_of mode)) list)
  list_stands s [] h = tt
  list_stands s (Locked path ∷ rest) h = ((h.0 path refl).1 s, list_stands s rest h.1)
  list_stands s (_ ∷ rest) h = (tt, list_stands s rest h.1)

  -- those of a parameter
  row_fits : (d : Declaration) → Contains ds d → (o : Option Numbered) → entity_at r d.name.site.token d.name.site.token ≡ o
      → AllHeld m (modes_of m (entity_row (at_call ds all) o)) × (AreStanding c ds all → AllStand m c.scope (modes_of m (entity_row (at_call ds all) o)))
  row_fits d among None is = (tt, λ s. tt)
  row_fits d among (Some n) is =
      let row = entity_row written (Some n) in
      let other = entity_row (at_call ds all) (Some n) in
      let same : raw m row ≡ raw m other = same_raw m written (at_call ds all) n.entity.role n.first (positions_of n.entity) in
      let entity : IsEntity m n = found_there (is_told_by d.name.site.token d.name.site.token) (numbered (entities_in r.program.items)) n is in
      let kept : other.reading ≡ at_call ds all = reading_kept n.entity.role _ in
      let kept_here : row.reading ≡ written = reading_kept n.entity.role _ in
      let fits : AllByRecursion ModeFits (raw m other) = each (λ mode. ModePoints r mode × Contains (raw m other) mode) ModeFits
      (λ mode h path e.
      let has = h.1 in
      let at : Contains (raw m other) (Locked path) = subst (Contains (raw m other)) e has in
      lock_fits d among (lock_of path) (h.0 path e)
      (subst (λ o. Contains (modes_of m (entity_row written o)) (locked (lock_of path))) (sym is)
      (subst (λ z. Contains (map (λ mode. read r z (sharing_of mode)) (raw m row)) (locked (lock_of path))) (sym kept_here) (mapped_there (λ mode. read r written (sharing_of mode)) (raw m row) (Locked path) (subst (λ list. Contains list (Locked path)) (sym same) at))))
      (subst (λ o. Contains (modes_of m (entity_row (at_call ds all) o)) (locked (at_caller (lock_of path)))) (sym is)
      (subst (λ z. Contains (map (λ mode. read r z (sharing_of mode)) (raw m other)) (locked (at_caller (lock_of path)))) (sym kept) (mapped_there (λ mode. read r (at_call ds all) (sharing_of mode)) (raw m other) (Locked path) at))))
      (raw m other) (both_hold (ModePoints r) (Contains (raw m other)) (raw m other) (row_points found m accepted (at_call ds all) n entity) (to_each (Contains (raw m other)) (raw m other) (λ mode has. has))) in (
        subst (λ z. AllHeld m (map (λ mode. read r z (sharing_of mode)) (raw m other))) (sym kept) (list_held (raw m other) fits),
        λ s. subst (λ z. AllStand m c.scope (map (λ mode. read r z (sharing_of mode)) (raw m other))) (sym kept) (list_stands s (raw m other) fits),
      )

  -- ---- what is passed
  module _ (one_struct : HasOneStruct r) (l : Label) (k a : ℕ) (copies : AreCopies c ds all l k) where
    -- the argument for a parameter that is a pointer, where it is a constant variable, has the same fields
    same_variable : (x at y : ℕ) (struct : List ℕ) → variable_kind (declaration_at r x) ≡ object (Base.Struct struct) 1 → argument_use r ds all x ≡ Some at → named_at r at ≡ Named.Variable y → variable_kind (declaration_at r y) ≡ object (Base.Struct struct) 1
    same_variable x at y struct points_to used names =
        let f = used_for r ds all x at used in
        let u = use_named r f.of at f.used in
        let declared : variable_kind (declaration_at r x) ≡ declared_kind f.parameter.written =
        ap (λ z. variable_kind (declaration_at r z)) (sym f.token) ∙ ap variable_kind (declared_by call f.parameter f.among) in
        let kind : kind_at r f.of ≡ variable_kind (declaration_at r y) = u.kind ∙ ap (λ z. variable_kind (declaration_at r z)) (same_token u.variable y (sym u.names ∙ names)) in
        sym kind ∙ by (declared_kind f.parameter.written) (kind_at r f.of) (fair (declared_kind f.parameter.written) (kind_at r f.of) (ap is_pointer (sym declared ∙ points_to) ∙ lt-ltb 0 1 (omega arith)) (fair_argument f.parameter f.of f.passes)) kind ∙ sym declared ∙ points_to
      where
        by : (want kind : Kind) → Fair want kind → kind ≡ variable_kind (declaration_at r y) → kind ≡ want
        by want kind (is_nothing e) is = absurd (no_variable (declaration_at r y) (sym is ∙ e))
        by want kind (is_like one h) is = sym (same_kinds want kind h)

    same_place : (x y : ℕ) (struct name : List ℕ) → variable_kind (declaration_at r x) ≡ object (Base.Struct struct) 1 → variable_kind (declaration_at r y) ≡ object (Base.Struct struct) 1 → field_place_behind r y name ≡ field_place_behind r x name
    same_place x y struct name e f = ap (λ fields. unwrap_or (position (λ d. bytes_eq d.name.text name) fields) 0) (one_struct y x struct f e)

    plain : (x y : TypeLock) (j : ℕ) → x ≡ Global j → y ≡ Global j → PassesLock l k a x y
    plain x y j e f = subst (λ z. PassesLock l k a z y) (sym e) (subst (PassesLock l k a (Global j)) (sym f) refl)

    -- a path that names no variable is passed as it is
    alone : (lock : Lock) (n : Named) (j : ℕ) → named_at r lock.first ≡ n → variable_named n ≡ None → (lock_named c n lock.second ≡ Global j) → (lock_named inner n lock.second ≡ Global j)
        → PassesLock l k a (lock_at c (lock_for r ds all (path_variable r lock) lock)) (lock_at inner lock)
    alone lock n j is none here there =
        let unnamed : path_variable r lock ≡ None = ap (λ w. cond (is_some lock.second) (variable_named w) None) is ∙ ap (λ w. cond (is_some lock.second) w None) none ∙ nothing (is_some lock.second) in
        plain _ _ j (ap (λ o. lock_at c (lock_for r ds all o lock)) unnamed ∙ ap (λ w. lock_named c w lock.second) is ∙ here) (ap (λ w. lock_named inner w lock.second) is ∙ there)
      where
        nothing : (b : Bool) → cond {A = Option ℕ} b None None ≡ None
        nothing true = refl
        nothing false = refl

    one_lock : (lock : Lock) → PathPoints r lock → ((x : ℕ) → path_variable r lock ≡ Some x → (at : ℕ) × (argument_use r ds all x ≡ Some at)) → IsHeldPath m (locked (at_caller lock))
        → PassesLock l k a (lock_at c (lock_for r ds all (path_variable r lock) lock)) (lock_at inner lock)
    one_lock lock pointer met held = by (named_at r lock.first) refl lock.second refl
      where
        through : (x at y : ℕ) (name : List ℕ) → named_at r lock.first ≡ Named.Variable x → lock.second ≡ Some name → path_variable r lock ≡ Some x → argument_use r ds all x ≡ Some at → named_at r at ≡ Named.Variable y
            → PassesLock l k a (lock_at c (lock_for r ds all (path_variable r lock) lock)) (lock_at inner lock)
        through x at y name is second path used names =
            let e : lock_at c (lock_for r ds all (path_variable r lock) lock) ≡ InRegister (register c y) (field_place_behind r y name) =
            ap (λ o. lock_at c (lock_for r ds all o lock)) path ∙ ap (λ o. lock_at c (with_base o lock)) used ∙ ap (λ w. lock_named c w lock.second) names ∙ ap (lock_named c (Named.Variable y)) second in
            let to : at_caller lock ≡ with_base (Some at) lock = ap (λ o. lock_for r ds all o lock) path ∙ ap (λ o. with_base o lock) used in
            let leads : path_variable r (with_base (Some at) lock) ≡ Some y = ap (λ o. cond (is_some o) (variable_named (named_at r at)) None) second ∙ ap variable_named names in
            let kept : is_held r y ≡ true = held (with_base (Some at) lock) y (ap locked to) leads in
            let f : lock_at inner lock ≡ InRegister (register inner x) (field_place_behind r x name) = ap (λ w. lock_named inner w lock.second) is ∙ ap (lock_named inner (Named.Variable x)) second in
            subst (λ z. PassesLock l k a z (lock_at inner lock)) (sym e) (subst (PassesLock l k a (InRegister (register c y) (field_place_behind r y name))) (sym f)
            (same_place x y (pointer x path).0 name (pointer x path).1 (same_variable x at y (pointer x path).0 (pointer x path).1 used names), copies x at y (struct_pointer x (pointer x path)) used names kept))

        by : (n : Named) → named_at r lock.first ≡ n → (o : Option (List ℕ)) → lock.second ≡ o → PassesLock l k a (lock_at c (lock_for r ds all (path_variable r lock) lock)) (lock_at inner lock)
        by (Named.Variable x) is (Some name) second =
            let path : path_variable r lock ≡ Some x = ap (λ o. cond (is_some o) (variable_of r lock) None) second ∙ ap variable_named is in
            let used = met x path in
            let f = used_for r ds all x used.0 used.1 in
            let u = use_named r f.of used.0 f.used in
            through x used.0 u.variable name is second path used.1 u.names
        by (Named.Variable x) is None second =
            let unnamed : path_variable r lock ≡ None = ap (λ o. cond (is_some o) (variable_of r lock) None) second in
            plain _ _ 0 (ap (λ o. lock_at c (lock_for r ds all o lock)) unnamed ∙ ap (λ w. lock_named c w lock.second) is ∙ ap (lock_named c (Named.Variable x)) second)
            (ap (λ w. lock_named inner w lock.second) is ∙ ap (lock_named inner (Named.Variable x)) second)
        by (Named.Global g) is o second = alone lock (Named.Global g) _ is refl refl refl
        by k is o second = alone lock k 0 is refl refl refl

    abbrev called_as : Mode → Sharing
    called_as mode = read r (at_call ds all) (sharing_of mode)

    abbrev declared_as : Mode → Sharing
    declared_as mode = read r written (sharing_of mode)

    abbrev LockPasses : Mode → Type 0
    LockPasses mode = (path : Path) → mode ≡ Locked path → IsHeldPath m (locked (at_caller (lock_of path))) → PassesLock l k a (lock_at c (lock_for r ds all (path_variable r (lock_of path)) (lock_of path))) (lock_at inner (lock_of path))

    list_passes : (list : List Mode) → AllByRecursion LockPasses list → AllHeld m (map called_as list) → AllSame (PassesLock l k a) (locks_at c (map called_as list)) (locks_at inner (map declared_as list))
    list_passes [] h held = tt
    list_passes (Locked path ∷ rest) h held = (h.0 path refl held.0, list_passes rest h.1 held.1)
    list_passes (_ ∷ rest) h held = list_passes rest h.1 held.1

    -- a path of a parameter's type is met
    mode_passes : (d : Declaration) → Contains ds d → (row : Targets) → row ≡ declared_row r written d.name.site.token → row.reading ≡ written → (mode : Mode) → ModePoints r mode × Contains (raw m row) mode → LockPasses mode
    mode_passes d among row is reading mode h path e held =
        let there : Contains (modes_of m row) (locked (lock_of path)) =
        subst (λ z. Contains (map (λ mode. read r z (sharing_of mode)) (raw m row)) (locked (lock_of path))) (sym reading)
        (mapped_there declared_as (raw m row) (Locked path) (subst (Contains (raw m row)) e h.1)) in
        one_lock (lock_of path) (h.0 path e)
        (λ x variable. (meets rules all_fair themselves m accepted).m4.arguments ds all d (lock_of path) x call among (at_target (subst (λ z. Contains (modes_of m z) (locked (lock_of path))) is there)) variable) held

    row_passes : (d : Declaration) → Contains ds d → (o : Option Numbered) → entity_at r d.name.site.token d.name.site.token ≡ o
        → AllSame (PassesLock l k a) (locks_at c (modes_of m (entity_row (at_call ds all) o))) (locks_at inner (modes_of m (entity_row written o)))
    row_passes d among None is = tt
    row_passes d among (Some n) is =
        let row = entity_row written (Some n) in
        let other = entity_row (at_call ds all) (Some n) in
        let entity : IsEntity m n = found_there (is_told_by d.name.site.token d.name.site.token) (numbered (entities_in r.program.items)) n is in
        let same : raw m row ≡ raw m other = same_raw m written (at_call ds all) n.entity.role n.first (positions_of n.entity) in
        let held : AllHeld m (map called_as (raw m row)) =
        subst (λ z. AllHeld m (map called_as z)) (sym same) (subst (λ z. AllHeld m (map (λ mode. read r z (sharing_of mode)) (raw m other))) (reading_kept n.entity.role _) (row_fits d among (Some n) is).0) in
        let hold : AllByRecursion LockPasses (raw m row) =
        each (λ mode. ModePoints r mode × Contains (raw m row) mode) LockPasses (mode_passes d among row (ap (entity_row written) (sym is)) (reading_kept n.entity.role _)) (raw m row)
        (both_hold (ModePoints r) (Contains (raw m row)) (raw m row) (row_points found m accepted written n entity) (to_each (Contains (raw m row)) (raw m row) (λ mode has. has))) in
        subst (λ z. AllSame (PassesLock l k a) (locks_at c (map (λ mode. read r z (sharing_of mode)) (raw m other))) (locks_at inner (modes_of m row))) (sym (reading_kept n.entity.role _))
        (subst (λ z. AllSame (PassesLock l k a) (locks_at c (map called_as (raw m other))) (locks_at inner (map (λ mode. read r z (sharing_of mode)) (raw m row)))) (sym (reading_kept n.entity.role _))
        (subst (λ z. AllSame (PassesLock l k a) (locks_at c (map called_as z)) (locks_at inner (map declared_as (raw m row)))) same (list_passes (raw m row) hold held)))

    row_forms : (o : Option Numbered) → map form_of (modes_of m (entity_row (at_call ds all) o)) ≡ map form_of (modes_of m (entity_row written o))
    row_forms None = refl
    row_forms (Some n) =
        let row = entity_row written (Some n) in
        let other = entity_row (at_call ds all) (Some n) in
        ap (λ z. map form_of (map (λ mode. read r other.reading (sharing_of mode)) z)) (same_raw m (at_call ds all) written n.entity.role n.first (positions_of n.entity)) ∙ forms_read r other.reading row.reading (raw m row)

    passes : (d : Declaration) (e : Expression) → Contains (passed ds all) (given d e) → is_pointer (declared_kind d.written) ≡ true
        → Passes l k a (entry_of c e) (Refers (variable_type inner d.name.site.token))
    passes d e has pointer =
        subst (λ (o : Option Declaration). Passes l k a (entry_of c e) (Refers (static_of inner (variable_kind o) here))) (sym (declared_by call d among))
        (by (fair (declared_kind d.written) (kind_at r e) pointer (fair_argument d e has)) (modes_at m e) refl)
      where
        among : Contains ds d
        among = parameter_among ds all d e has

        token : ℕ
        token = d.name.site.token

        to : List Sharing
        to = modes_of m (declared_row r (at_call ds all) token)

        here : List Sharing
        here = modes_of m (declared_row r written token)

        some : (found_modes : List Sharing) → modes_at m e ≡ Some found_modes → base_of (declared_kind d.written) ≡ base_of (kind_at r e)
            → Passes l k a (Refers (static_of c (kind_at r e) found_modes)) (Refers (static_of inner (declared_kind d.written) here))
        some found_modes is one =
            let agree : same_all r to found_modes ≡ true = (meets rules all_fair themselves m accepted).m1 to found_modes e (an_argument call has) is in
            let forms : map form_of found_modes ≡ map form_of here = sym (forms_of_same c to found_modes agree) ∙ row_forms (entity_at r token token) in (
              ap (λ x. number m (shape_of x found_modes)) (sym one) ∙ ap (λ fs. number m (record { base = base_of (declared_kind d.written); forms = fs })) forms,
              subst (λ ls. AllSame (PassesLock l k a) ls (locks_at inner here)) (locks_of_same c to found_modes agree) (row_passes d among (entity_at r token token) refl),
            )

        by : Fair (declared_kind d.written) (kind_at r e) → (o : Option (List Sharing)) → modes_at m e ≡ o → Passes l k a (entry_of c e) (Refers (static_of inner (declared_kind d.written) here))
        by f None is = subst (λ z. Passes l k a (entry_by c (kind_at r e) z) (Refers (static_of inner (declared_kind d.written) here))) (sym is) tt
        by (is_nothing n) (Some found_modes) is = absurd (none_some found_modes (sym (null_modes m e n) ∙ is))
        by (is_like one h) (Some found_modes) is = subst (λ z. Passes l k a (entry_by c (kind_at r e) z) (Refers (static_of inner (declared_kind d.written) here))) (sym is) (some found_modes is one)

    -- and so does the type of the argument
    type_passes : (d : Declaration) → Contains ds d → Passes l k a (Refers (argument_type c ds all d)) (Refers (variable_type inner d.name.site.token))
    type_passes d among =
        let token = d.name.site.token in
        let kind = declared_kind d.written in
        subst (λ (o : Option Declaration). Passes l k a (Refers (argument_type c ds all d)) (Refers (static_of inner (variable_kind o) (modes_of m (declared_row r written token))))) (sym (declared_by call d among))
        (ap (λ fs. number m (record { base = base_of kind; forms = fs })) (row_forms (entity_at r token token)), row_passes d among (entity_at r token token) refl)

  argument_fits : HasOneStruct r → (d : Declaration) (e : Expression) → Contains (passed ds all) (given d e) → is_pointer (declared_kind d.written) ≡ true → ArgumentFits c ds all d e
  argument_fits one_struct d e has pointer =
      let among = parameter_among ds all d e has in
      let token = d.name.site.token in
      let to = modes_of m (declared_row r (at_call ds all) token) in
      let fits = row_fits d among (entity_at r token token) refl in
      record {
        goes = goes c (declared_kind d.written) to e pointer (fair_argument d e has) (λ modes is. (meets rules all_fair themselves m accepted).m1 to modes e (an_argument call has) is);
        names = λ stands p mentions. all_named c p to fits.0 (fits.1 stands) mentions;
        passes = λ l k a copies. type_passes one_struct l k a copies d among;
      }

pub arguments_fit : EachTypeFound → RulesAreMet → AllFair → EachNamesItself → ((r : Resolution) → IsResolved r → IsPlaced r.program → IsLow r.program → HasOneStruct r) → ArgumentsFit
arguments_fit found rules all_fair themselves one_struct c accepted ds all d e call has pointer = argument_fits found rules all_fair themselves c accepted ds all call (one_struct c.program.typed accepted.resolved accepted.placed accepted.low) d e has pointer

pub arguments_pass : EachTypeFound → RulesAreMet → AllFair → EachNamesItself → ((r : Resolution) → IsResolved r → IsPlaced r.program → IsLow r.program → HasOneStruct r) → ArgumentsPass
arguments_pass found rules all_fair themselves one_struct c accepted ds all d e call has pointer l k a copies = passes found rules all_fair themselves c accepted ds all call (one_struct c.program.typed accepted.resolved accepted.placed accepted.low) l k a copies d e has pointer
