-- An expression that comes before the cast points to what it pointed to, with the modes that it had.
use Rattle.sharc_suggest_laws.proofs.{Imports.{◌≡◌, ◌⊎◌, inl, inr, ℕ, zero, suc, ◌+◌, ◌-◌, ◌<◌, ◌==◌, Bool, true, false, cond, List, [], ◌∷◌, length, Option, Some, None, option_map, slice_get, refl, ap, sym, subst, ◌∙◌, eqb-true, arith, false≢true, true≢false, eqb-false, slice_get-map, AllByRecursion, Declaration, GlobalDefinition, FieldOperator, Dot, Arrow, Constant, Null, UnaryOperator, Negate, Dereference, Expression, identifier, Function, Named, Indexed, Role, Kind, met, Recast, with_cast, function_with_cast, recast_of, targets, resolution_with, is_dull, KeepsName, met_in_items, begins_at, Entity, Numbered, entity_at, positions_of, element_of, operand_need, unary_kind, Resolution, named_at, globals_in, functions_in, declarations_in, declared_at, global_at, function_at, declaration_at, variable_kind, global_kind_of, result_kind_of, named_kind, called_kind, Cast, Assignment, PathReading, written, Targets, is_constant_named, constant_use, base_use, no_row, deeper, targets_from, entity_row, declared_row, global_row, named_row, result_row, called_row, constant_row, reading_through, unary_row, is_field, is_call_at, none_some}, Clear.{IsClearAt, begun_in, AreClear}, Constants.{AllKept, constants_same}, Declared.{same_globals, same_functions, same_declarations}, Found.AreMoved, Lefts.is_function, Rows.{IsShifted, shifted_deeper}, Stands.{IsAdded, first_place}, Types.all_others}
use Rattle.sharc_names.specs.Kinds as kinds
use Rattle.sharc_mode.specs.Rows.{behind}

-- a program with a cast written in it where something that is given begins
pub record Frame (m : Assignment) (c : Cast) : Type 0 where
  pub kept : AllKept m.typed (resolution_with c m.typed)
  pub added : IsAdded m c
  pub clear : AreClear m.typed.program.items 0 (length m.typed.program.tokens.list)
  pub begun : 0 < met_in_items (begins_at c.from) m.typed.program.items
  pub calls : (t : ℕ) → is_field (named_at m.typed t) ≡ false → is_call_at m.typed t ≡ true → is_field (named_at (resolution_with c m.typed) t) ≡ false

abbrev pub now : Assignment → Cast → Resolution
now m c = resolution_with c m.typed

abbrev pub many : Cast → ℕ
many c = length (targets c.to.levels)

-- ---- rows that were moved

pub record IsRowMoved (first count : ℕ) (how later : PathReading) (old new : Targets) : Type 0 where
  pub counted : new.count ≡ old.count
  pub place : (old.count ≡ 0) ⊎ (IsShifted first count old.first new.first old.count × (old.reading ≡ how) × (new.reading ≡ later))

none_moved : (first count : ℕ) (how later : PathReading) → IsRowMoved first count how later no_row no_row
none_moved first count how later = record { counted = refl; place = inl refl }

deep_moved : (first count : ℕ) (how later : PathReading) (p q n : ℕ) → IsShifted first count p q n → (b : Bool) → (n == 0) ≡ b
    → IsRowMoved first count how later (cond b (record { first = p; count = n; reading = how }) (record { first = p + 1; count = n - 1; reading = how }))
    (cond b (record { first = q; count = n; reading = later }) (record { first = q + 1; count = n - 1; reading = later }))
deep_moved first count how later p q n place true is = record { counted = refl; place = inl (eqb-true n 0 is) }
deep_moved first count how later p q n place false is = record { counted = refl; place = inr (shifted_deeper first count p q n (eqb-false n 0 is) place, refl, refl) }

role_moved : (what : Role) (first count : ℕ) (how later : PathReading) (p q n : ℕ) → IsShifted first count p q n
    → IsRowMoved first count how later (targets_from what (record { first = p; count = n; reading = how })) (targets_from what (record { first = q; count = n; reading = later }))
role_moved Role.Global first count how later p q n place = deep_moved first count how later p q n place (n == 0) refl
role_moved _ first count how later p q n place = record { counted = refl; place = inr (place, refl, refl) }

pub entity_moved : (first count : ℕ) (how later : PathReading) (o n : Option Numbered) → AreMoved first count o n → IsRowMoved first count how later (entity_row how o) (entity_row later n)
entity_moved first count how later None None are = none_moved first count how later
entity_moved first count how later None (Some n) are = absurd are
entity_moved first count how later (Some o) None are = absurd are
entity_moved first count how later (Some o) (Some n) are =
    subst (λ (e : Entity). IsRowMoved first count how later (entity_row how (Some o)) (targets_from e.role (record { first = n.first; count = positions_of e; reading = later }))) (sym are.entity)
    (role_moved o.entity.role first count how later o.first n.first (positions_of o.entity) are.place)

-- ---- what is declared where nothing that is given begins

abbrev pub first_at : (m : Assignment) (c : Cast) → Frame m c → ℕ
first_at m c frame = first_place m c frame.added

clear_apart : (m : Assignment) (c : Cast) → Frame m c → (t : ℕ) → IsClearAt 0 (length m.typed.program.tokens.list) (begun_in m.typed.program.items) t → t ≡ c.from → ⊥
clear_apart m c frame t clear same =
    let some : 0 < met_in_items (begins_at c.from) m.typed.program.items = frame.begun in
    let none : met_in_items (begins_at t) m.typed.program.items ≡ 0 = clear.2 in
    let at : met_in_items (begins_at t) m.typed.program.items ≡ met_in_items (begins_at c.from) m.typed.program.items = ap (λ (k : ℕ). met_in_items (begins_at k) m.typed.program.items) same in
    omega (arith, some, none, at)

pub other_moved : (m : Assignment) (c : Cast) (frame : Frame m c) (how later : PathReading) (token last : ℕ) → (token ≡ c.from → last ≡ c.until → ⊥)
    → IsRowMoved (first_at m c frame) (many c) how later (entity_row how (entity_at m.typed token last)) (entity_row later (entity_at (now m c) token last))
other_moved m c frame how later token last other = entity_moved (first_at m c frame) (many c) how later (entity_at m.typed token last) (entity_at (now m c) token last) (all_others m c frame.added token last other)

pub clear_moved : (m : Assignment) (c : Cast) (frame : Frame m c) (how later : PathReading) (t : ℕ) → IsClearAt 0 (length m.typed.program.tokens.list) (begun_in m.typed.program.items) t
    → IsRowMoved (first_at m c frame) (many c) how later (declared_row m.typed how t) (declared_row (now m c) later t)
clear_moved m c frame how later t clear = other_moved m c frame how later t t (λ same also. clear_apart m c frame t clear same)

abbrev pub IsClearOf : Assignment → ℕ → Type 0
IsClearOf m t = IsClearAt 0 (length m.typed.program.tokens.list) (begun_in m.typed.program.items) t

declaration_clear : (m : Assignment) (ds : List Declaration) (t : ℕ) → AllByRecursion (λ (d : Declaration). IsClearOf m d.name.site.token) ds → is_function (variable_kind (declared_at ds t)) ≡ false → IsClearOf m t
declaration_clear m [] t all held = absurd (true≢false held)
declaration_clear m (d ∷ rest) t all held = by (d.name.site.token == t) refl held (declaration_clear m rest t all.1)
  where
    by : (b : Bool) → (d.name.site.token == t) ≡ b → is_function (variable_kind (cond b (Some d) (declared_at rest t))) ≡ false → (is_function (variable_kind (declared_at rest t)) ≡ false → IsClearOf m t) → IsClearOf m t
    by true same is more = subst (IsClearOf m) (eqb-true d.name.site.token t same) all.0
    by false other is more = more is

global_moved : (m : Assignment) (c : Cast) (frame : Frame m c) (how later : PathReading) (gs : List GlobalDefinition) (n : ℕ) → AllByRecursion (λ (g : GlobalDefinition). IsClearOf m g.declaration.name.site.token) gs
    → IsRowMoved (first_at m c frame) (many c) how later (global_row m.typed how (slice_get gs n)) (global_row (now m c) later (slice_get gs n))
global_moved m c frame how later [] n all = none_moved (first_at m c frame) (many c) how later
global_moved m c frame how later (g ∷ rest) zero all = clear_moved m c frame how later g.declaration.name.site.token all.0
global_moved m c frame how later (g ∷ rest) (suc n) all = global_moved m c frame how later rest n all.1

result_moved : (m : Assignment) (c : Cast) (frame : Frame m c) (fs : List Function) (n : ℕ) → AllByRecursion (λ (f : Function). IsClearOf m f.name.site.token) fs
    → IsRowMoved (first_at m c frame) (many c) written written (result_row m.typed (slice_get fs n)) (result_row (now m c) (option_map (function_with_cast (recast_of m.typed c)) (slice_get fs n)))
result_moved m c frame [] n all = none_moved (first_at m c frame) (many c) written written
result_moved m c frame (f ∷ rest) zero all = clear_moved m c frame written written f.name.site.token all.0
result_moved m c frame (f ∷ rest) (suc n) all = result_moved m c frame rest n all.1

-- ---- by what a name names

globals_same : (m : Assignment) (c : Cast) (n : ℕ) → global_at (now m c) n ≡ global_at m.typed n
globals_same m c n = ap (λ (l : List GlobalDefinition). slice_get l n) (same_globals (recast_of m.typed c) m.typed.program.items)

pub functions_same : (m : Assignment) (c : Cast) (n : ℕ) → function_at (now m c) n ≡ option_map (function_with_cast (recast_of m.typed c)) (function_at m.typed n)
functions_same m c n =
    ap (λ (l : List Function). slice_get l n) (same_functions (recast_of m.typed c) m.typed.program.items) ∙ slice_get-map (function_with_cast (recast_of m.typed c)) (functions_in m.typed.program.items) n

declarations_same : (m : Assignment) (c : Cast) (t : ℕ) → declaration_at (now m c) t ≡ declaration_at m.typed t
declarations_same m c t = ap (λ (l : List Declaration). declared_at l t) (same_declarations (recast_of m.typed c) m.typed.program.items)

pub named_kind_same : (m : Assignment) (c : Cast) (v : Named) → named_kind (now m c) v ≡ named_kind m.typed v
named_kind_same m c (Named.Global n) = ap global_kind_of (globals_same m c n)
named_kind_same m c (Named.Variable t) = ap variable_kind (declarations_same m c t)
named_kind_same m c (Named.Field t) = ap variable_kind (declarations_same m c t)
named_kind_same m c _ = refl

pub named_moved : (m : Assignment) (c : Cast) (frame : Frame m c) (how : PathReading) (v : Named) → is_function (named_kind m.typed v) ≡ false
    → IsRowMoved (first_at m c frame) (many c) how how (named_row m.typed how v) (named_row (now m c) how v)
named_moved m c frame how (Named.Global n) held =
    subst (λ (o : Option GlobalDefinition). IsRowMoved (first_at m c frame) (many c) how how (global_row m.typed how (global_at m.typed n)) (global_row (now m c) how o)) (sym (globals_same m c n))
    (global_moved m c frame how how (globals_in m.typed.program.items) n frame.clear.globals)
named_moved m c frame how (Named.Variable t) held = clear_moved m c frame how how t (declaration_clear m (declarations_in m.typed.program.items) t frame.clear.declarations held)
named_moved m c frame how (Named.Field t) held = clear_moved m c frame how how t (declaration_clear m (declarations_in m.typed.program.items) t frame.clear.declarations held)
named_moved m c frame how _ held = absurd (true≢false held)

result_kind_same : (c : Recast) (o : Option Function) → result_kind_of (option_map (function_with_cast c) o) ≡ result_kind_of o
result_kind_same c None = refl
result_kind_same c (Some f) = refl

-- of a call: what its name names is still a function, or was not one and is not one
called_kinds : (m : Assignment) (c : Cast) (v : Named) → called_kind (now m c) v ≡ called_kind m.typed v
called_kinds m c (Named.Function n) = ap result_kind_of (functions_same m c n) ∙ result_kind_same (recast_of m.typed c) (function_at m.typed n)
called_kinds m c _ = refl

called_moved : (m : Assignment) (c : Cast) (frame : Frame m c) (v : Named) → IsRowMoved (first_at m c frame) (many c) written written (called_row m.typed v) (called_row (now m c) v)
called_moved m c frame (Named.Function n) =
    subst (λ (o : Option Function). IsRowMoved (first_at m c frame) (many c) written written (result_row m.typed (function_at m.typed n)) (result_row (now m c) o)) (sym (functions_same m c n))
    (result_moved m c frame (functions_in m.typed.program.items) n frame.clear.functions)
called_moved m c frame _ = none_moved (first_at m c frame) (many c) written written

dull_called : (r : Resolution) (v : Named) → is_dull v ≡ true → called_row r v ≡ no_row
dull_called r (Named.Function n) is = absurd (false≢true is)
dull_called r _ is = refl

dull_result : (r : Resolution) (v : Named) → is_dull v ≡ true → called_kind r v ≡ kinds.void
dull_result r (Named.Function n) is = absurd (false≢true is)
dull_result r _ is = refl

pub call_moved : (m : Assignment) (c : Cast) (frame : Frame m c) (v w : Named) → KeepsName v w → IsRowMoved (first_at m c frame) (many c) written written (called_row m.typed v) (called_row (now m c) w)
call_moved m c frame v w (inl same) = subst (λ (x : Named). IsRowMoved (first_at m c frame) (many c) written written (called_row m.typed v) (called_row (now m c) x)) same (called_moved m c frame v)
call_moved m c frame v w (inr p) =
    subst (λ (x : Targets). IsRowMoved (first_at m c frame) (many c) written written (called_row m.typed v) x) (sym (dull_called (now m c) w p.1))
    (subst (λ (x : Targets). IsRowMoved (first_at m c frame) (many c) written written x no_row) (sym (dull_called m.typed v p.0)) (none_moved (first_at m c frame) (many c) written written))

pub call_kind_same : (m : Assignment) (c : Cast) (v w : Named) → KeepsName v w → called_kind (now m c) w ≡ called_kind m.typed v
call_kind_same m c v w (inl same) = ap (called_kind (now m c)) (sym same) ∙ called_kinds m c v
call_kind_same m c v w (inr p) = dull_result (now m c) w p.1 ∙ sym (dull_result m.typed v p.0)

-- ---- constant variables

dull_constant : (r : Resolution) (v : Named) → is_dull v ≡ true → is_constant_named r v ≡ false
dull_constant r (Named.Variable t) is = absurd (false≢true is)
dull_constant r _ is = refl

named_constant : (m : Assignment) (c : Cast) → AllKept m.typed (now m c) → (v : Named) → is_constant_named (now m c) v ≡ is_constant_named m.typed v
named_constant m c kept (Named.Variable t) = constants_same m.typed (now m c) (recast_of m.typed c) refl kept t
named_constant m c kept _ = refl

constant_kept : (m : Assignment) (c : Cast) → AllKept m.typed (now m c) → (v w : Named) → KeepsName v w → is_constant_named (now m c) w ≡ is_constant_named m.typed v
constant_kept m c kept v w (inl same) = ap (is_constant_named (now m c)) (sym same) ∙ named_constant m c kept v
constant_kept m c kept v w (inr p) = dull_constant (now m c) w p.1 ∙ sym (dull_constant m.typed v p.0)

pub use_same : (m : Assignment) (c : Cast) → AllKept m.typed (now m c) → (e : Expression) → constant_use (now m c) (with_cast (recast_of m.typed c) e) ≡ constant_use m.typed e
use_same m c kept (identifier s i) =
    ap (λ (b : Bool). cond b (Some i.site.token) None) (constant_kept m c kept (named_at m.typed i.site.token) (named_at (now m c) i.site.token) (kept i.site.token))
use_same m c kept _ = refl

pub base_same : (m : Assignment) (c : Cast) → AllKept m.typed (now m c) → (w : FieldOperator) (a : Expression) → base_use (now m c) w (with_cast (recast_of m.typed c) a) ≡ base_use m.typed w a
base_same m c kept Dot a = refl
base_same m c kept Arrow a = use_same m c kept a

-- ---- of an expression

abbrev pub AreRowsMoved : ℕ → ℕ → Option Targets → Option Targets → Type 0
AreRowsMoved first count None None = Unit {0}
AreRowsMoved first count None (Some n) = ⊥
AreRowsMoved first count (Some o) None = ⊥
AreRowsMoved first count (Some o) (Some n) = (at : Option ℕ) × IsRowMoved first count (reading_through at) (reading_through at) o n

deeper_by : (first count : ℕ) (how : PathReading) (o n : Targets) → IsRowMoved first count how how o n → (b : Bool) → (o.count == 0) ≡ b
    → IsRowMoved first count how how (cond b o (record { first = o.first + 1; count = o.count - 1; reading = o.reading })) (cond b n (record { first = n.first + 1; count = n.count - 1; reading = n.reading }))
deeper_by first count how o n h true is = h
deeper_by first count how o n h false is = record { counted = ap (λ (k : ℕ). k - 1) h.counted; place = by h.place }
  where
    by : (o.count ≡ 0) ⊎ (IsShifted first count o.first n.first o.count × (o.reading ≡ how) × (n.reading ≡ how))
        → (o.count - 1 ≡ 0) ⊎ (IsShifted first count (o.first + 1) (n.first + 1) (o.count - 1) × (o.reading ≡ how) × (n.reading ≡ how))
    by (inl none) = absurd (eqb-false o.count 0 is none)
    by (inr w) = inr (shifted_deeper first count o.first n.first o.count (eqb-false o.count 0 is) w.0, w.1, w.2)

deeper_moved : (first count : ℕ) (how : PathReading) (o n : Targets) → IsRowMoved first count how how o n → IsRowMoved first count how how (deeper o) (deeper n)
deeper_moved first count how o n h =
    subst (λ (b : Bool). IsRowMoved first count how how (deeper o) (cond b n (record { first = n.first + 1; count = n.count - 1; reading = n.reading }))) (ap (λ (k : ℕ). k == 0) (sym h.counted)) (deeper_by first count how o n h (o.count == 0) refl)

behind_moved : (first count : ℕ) (o n : Option Targets) → AreRowsMoved first count o n → AreRowsMoved first count (behind o) (behind n)
behind_moved first count None None h = tt
behind_moved first count None (Some n) h = absurd h
behind_moved first count (Some o) None h = absurd h
behind_moved first count (Some o) (Some n) h = (h.0, deeper_moved first count (reading_through h.0) o n h.1)

pub element_moved : (first count : ℕ) (o n : Option Targets) (b : Bool) → AreRowsMoved first count o n → AreRowsMoved first count (cond b o (behind o)) (cond b n (behind n))
element_moved first count o n true h = h
element_moved first count o n false h = behind_moved first count o n h

pub no_rows : (first count : ℕ) → AreRowsMoved first count (Some no_row) (Some no_row)
no_rows first count = (None, none_moved first count written written)

pub unary_moved : (first count : ℕ) (op : UnaryOperator) (o n : Option Targets) → AreRowsMoved first count o n → AreRowsMoved first count (unary_row op o) (unary_row op n)
unary_moved first count Dereference o n h = behind_moved first count o n h
unary_moved first count _ o n h = no_rows first count

pub constant_moved : (first count : ℕ) (k : Constant) → AreRowsMoved first count (constant_row k) (constant_row k)
constant_moved first count Null = tt
constant_moved first count _ = no_rows first count

-- what is needed of a part is no name of a function

pub element_held : (k : Kind) (i : Option Kind) (whole : Kind) → element_of (met Indexed (Some k)) i ≡ Some whole → is_function k ≡ false
element_held kinds.function i whole is = absurd (none_some whole is)
element_held _ i whole is = refl

pub operand_held : (o : UnaryOperator) (k whole : Kind) → unary_kind o (met (operand_need o) (Some k)) ≡ Some whole → is_function k ≡ false
operand_held Negate kinds.function whole is = absurd (none_some whole is)
operand_held _ kinds.function whole is = absurd (none_some whole is)
operand_held o _ whole is = refl
