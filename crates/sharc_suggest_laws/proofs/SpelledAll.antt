-- The same of statements, and of the whole program.
use Rattle.sharc_suggest_laws.proofs.{Imports.{◌≡◌, ⊎_elim, ℕ, ◌+◌, ◌<◌, ◌≤◌, ◌==◌, ◌||◌, not, nat_lt, Bool, true, false, cond, List, [], ◌∷◌, ◌++◌, length, get_or, Contains, Option, Some, None, IfSome, is_some, bytes_eq, codes, refl, ap, sym, subst, ◌∙◌, eqb-true, false≢true, true≢false, cases_lt, bytes_eq-Decides, AllByRecursion, Declaration, items_marks, PlacedDeclarations, Placed, PlacedRight, PlacedSimple, PlacedLocal, PlacedFirst, PlacedStatement, PlacedStatements, PlacedItem, PlacedItems, IsPlaced, Expression, Right, value, malloc, Simple, assign, does_call, Local, First, nothing, declares, does, Statement, Statements, no_statements, statement, Function, Item, structure, global, function, DefinedTwice, LimitPassed, TypeMismatch, BadForm, Named, Scope, Kind, void, same_kind, declared_kind, met, Value, Integer, Entry, look_up, named_of, field_of, Note, is_free, fault, refers, yields, fault_unless, fault_where, referred, is_fine, type_notes, Role, type_of, place_kind, AsValue, AsLvalue, known_in, defines_condition, with_conditions, Heading, with_entry, global_entry, function_entry, item_head_notes, heads_notes, behind, behind_all, no_heads, fields_notes, parameters_notes, item_notes, items_notes, file_scope, notes_about, named_in, name_tokens, Resolution, IsResolved, named_at, Around, opened, looping, with_names, declared_notes, is_here, test_notes, count_notes, right_notes, simple_notes, is_made, is_aggregate, wanted_by, returned_as, initial_notes, local_notes, return_notes, first_notes, tests_notes, step_notes, notes_in, notes_in_all, locals_in_all, is_field, text_at, Tells, IsToldOnce, is_dull, back, joint, one_some}, Folded.{seen, named_seen, named_past, IsOwnAt}, Owned.told_or_not, Words.{name_there, name_apart, call_text}, Calls.{KnowsCalls, no_global, no_function, calls_known}, Mild.{IsSpelled, is_filed}, Noted.{Clean, left, right, behind_head, not_wrong, unless_faults, where_faults, unmet_faults, unagreed_faults, place_faults}, Reread.{length_faults, initial_faults, sizes_faults, beyond_faults}, Spelled.{IsFiledAs, IsSpelt, AreSpelt, not_filed, plainly, faults_spelt, text_is, IsOver, over_file, over_with, type_spelt, behind_faults, inside}}
use Rattle.sharc_tree.specs.Tree as tree
use Rattle.sharc_ctype.specs.{Items.{field_notes, with_parameters}, Statements.{declared, behind_first, after}}

in_test : (r : Resolution) (file : Scope) (names : List Entry) → IsOver file.names names → (e : Expression) → Placed r.program.tokens.list e → AreSpelt r file (test_notes (with_names file names) e)
in_test r file names over e placed = behind_faults r file _ _ (inside r file names over AsValue e placed) (unmet_faults Value e (type_of (with_names file names) e))

in_count : (r : Resolution) (file : Scope) (names : List Entry) → IsOver file.names names → (e : Option Expression) → IfSome e (Placed r.program.tokens.list) → AreSpelt r file (count_notes (with_names file names) e)
in_count r file names over None placed = tt
in_count r file names over (Some e) placed = behind_faults r file _ _ (inside r file names over AsValue e placed) (unmet_faults Integer e (type_of (with_names file names) e))

in_right : (r : Resolution) (file : Scope) (names : List Entry) → IsOver file.names names → (want : Option Kind) (x : Right) → PlacedRight r.program.tokens.list x → AreSpelt r file (right_notes (with_names file names) want x)
in_right r file names over want (value e) placed = behind_faults r file _ _ (behind_faults r file _ _ (inside r file names over AsValue e placed) (unmet_faults Value e (type_of (with_names file names) e))) (unagreed_faults want e (met Value (type_of (with_names file names) e)))
in_right r file names over want (malloc s n t) placed =
    behind_faults r file _ _ (joint (IsSpelt r file) _ _ (in_count r file names over n placed.1) (type_spelt r file (with_names file names) over refl [] Role.Made t placed.2)) (unless_faults (is_made want t || not (is_fine file.structs Role.Made t)) s.first.token TypeMismatch)

in_simple : (r : Resolution) (file : Scope) (names : List Entry) → IsOver file.names names → (x : Simple) → PlacedSimple r.program.tokens.list x → AreSpelt r file (simple_notes (with_names file names) x)
in_simple r file names over (assign s u x) placed =
    joint (IsSpelt r file) _ _ (behind_faults r file _ _ (behind_faults r file _ _ (inside r file names over AsLvalue u placed.1) (place_faults names u)) (unmet_faults Value u (place_kind names u (type_of (with_names file names) u)))) (in_right r file names over (met Value (place_kind names u (type_of (with_names file names) u))) x placed.2)
in_simple r file names over (does_call e) placed = inside r file names over AsValue e placed

in_initial : (r : Resolution) (file : Scope) (names : List Entry) → IsOver file.names names → (d : Declaration) (x : Option Right) → IfSome x (PlacedRight r.program.tokens.list) → AreSpelt r file (initial_notes (with_names file names) d x)
in_initial r file names over d None placed = tt
in_initial r file names over d (Some x) placed = joint (IsSpelt r file) _ _ (faults_spelt r file _ (where_faults (is_aggregate (declared_kind d.written)) d.name.site.token BadForm)) (in_right r file names over (wanted_by (is_fine file.structs Role.Local d.written) d.written) x placed)

declared_spelt : (r : Resolution) (file : Scope) (from : ℕ) (d : Declaration) (names : List Entry) → AreSpelt r file (declared_notes from d names)
declared_spelt r file from d names = (plainly r file d.name.site.token (Named.Variable d.name.site.token) refl, faults_spelt r file _ (where_faults (is_here from names d) d.name.site.token DefinedTwice))

in_local : (r : Resolution) (file : Scope) (names : List Entry) → IsOver file.names names → (around : Around) (l : Local) → PlacedLocal r.program.tokens.list l → AreSpelt r file (local_notes around (with_names file names) l)
in_local r file names over around l placed =
    let d : Declaration = l.declaration in
    joint (IsSpelt r file) (type_notes (with_names file names) [] Role.Local d.written ++ declared_notes around.block d names) _
    (joint (IsSpelt r file) (type_notes (with_names file names) [] Role.Local d.written) _ (type_spelt r file (with_names file names) over refl [] Role.Local d.written placed.1.1) (declared_spelt r file around.block d names))
    (in_initial r file (declared around.block d names) (over_with file.names names d around.block over) d l.initial placed.2)

in_first : (r : Resolution) (file : Scope) (names : List Entry) → IsOver file.names names → (around : Around) (f : First) → PlacedFirst r.program.tokens.list f → AreSpelt r file (first_notes around (with_names file names) f)
in_first r file names over around nothing placed = tt
in_first r file names over around (declares l) placed = in_local r file names over around l placed
in_first r file names over around (does x) placed = in_simple r file names over x placed

first_over : (file names : List Entry) → IsOver file names → (around : Around) (f : First) → IsOver file (behind_first around names f)
first_over file names over around (declares l) = over_with file names l.declaration around.block over
first_over file names over around _ = over

in_tests : (r : Resolution) (file : Scope) (names : List Entry) → IsOver file.names names → (e : Option Expression) → IfSome e (Placed r.program.tokens.list) → AreSpelt r file (tests_notes (with_names file names) e)
in_tests r file names over None placed = tt
in_tests r file names over (Some e) placed = in_test r file names over e placed

in_step : (r : Resolution) (file : Scope) (names : List Entry) → IsOver file.names names → (x : Option Simple) → IfSome x (PlacedSimple r.program.tokens.list) → AreSpelt r file (step_notes (with_names file names) x)
in_step r file names over None placed = tt
in_step r file names over (Some x) placed = in_simple r file names over x placed

in_returned : (r : Resolution) (file : Scope) (names : List Entry) → IsOver file.names names → (around : Around) (word : ℕ) (e : Option Expression) → IfSome e (Placed r.program.tokens.list) → AreSpelt r file (return_notes around (with_names file names) word e)
in_returned r file names over around word None placed = faults_spelt r file _ (unless_faults (same_kind around.result void) word BadForm)
in_returned r file names over around word (Some e) placed =
    behind_faults r file _ _
    (behind_faults r file _ _ (joint (IsSpelt r file) _ _ (faults_spelt r file _ (where_faults (same_kind around.result void) word BadForm)) (inside r file names over AsValue e placed)) (unmet_faults Value e (type_of (with_names file names) e))) (unagreed_faults (returned_as around.result) e (met Value (type_of (with_names file names) e)))

after_over : (file names : List Entry) → IsOver file names → (around : Around) (s : Statement) → IsOver file (after around names s)
after_over file names over around (tree.declare s l) = over_with file names l.declaration around.block over
after_over file names over around _ = over

mutual
  in_statement : (r : Resolution) (file : Scope) (names : List Entry) → IsOver file.names names → (around : Around) (s : Statement) → PlacedStatement r.program.tokens.list s → AreSpelt r file (notes_in around (with_names file names) s)
  in_statement r file names over around (tree.empty s) placed = tt
  in_statement r file names over around (tree.block s all) placed = in_statements r file names over (opened around names) all placed.1
  in_statement r file names over around (tree.declare s l) placed = in_local r file names over around l placed.1
  in_statement r file names over around (tree.simple s x) placed = in_simple r file names over x placed.1
  in_statement r file names over around (tree.jump s j) placed = faults_spelt r file _ (unless_faults around.in_loop s.first.token BadForm)
  in_statement r file names over around (tree.return s e) placed = in_returned r file names over around s.first.token e placed.1
  in_statement r file names over around (tree.if_then s e a) placed = joint (IsSpelt r file) _ _ (in_test r file names over e placed.1) (in_statement r file names over (opened around names) a placed.2)
  in_statement r file names over around (tree.if_then_else s e a b) placed =
      joint (IsSpelt r file) _ _ (joint (IsSpelt r file) _ _ (in_test r file names over e placed.1) (in_statement r file names over (opened around names) a placed.2)) (in_statement r file names over (opened around names) b placed.3)
  in_statement r file names over around (tree.while s e a) placed = joint (IsSpelt r file) _ _ (in_test r file names over e placed.1) (in_statement r file names over (looping (opened around names)) a placed.2)
  in_statement r file names over around (tree.for s h a) placed =
      let outer : Around = opened around names in
      let inner : List Entry = behind_first outer names h.first in
      let under : IsOver file.names inner = first_over file.names names over outer h.first in
      joint (IsSpelt r file) _ _
      (joint (IsSpelt r file) _ _ (joint (IsSpelt r file) _ _ (in_first r file names over outer h.first placed.1.0) (in_tests r file inner under h.test placed.1.1)) (in_step r file inner under h.step placed.1.2))
      (in_statement r file inner under (looping (opened outer inner)) a placed.2)

  in_statements : (r : Resolution) (file : Scope) (names : List Entry) → IsOver file.names names → (around : Around) (all : Statements) → PlacedStatements r.program.tokens.list all → AreSpelt r file (notes_in_all around (with_names file names) all)
  in_statements r file names over around no_statements placed = tt
  in_statements r file names over around (statement a rest) placed =
      joint (IsSpelt r file) _ _ (in_statement r file names over around a placed.0) (in_statements r file (after around names a) (after_over file.names names over around a) around rest placed.1)

-- ---- of items

in_fields : (r : Resolution) (file : Scope) (all earlier ds : List Declaration) → PlacedDeclarations r.program.tokens.list ds → AreSpelt r file (fields_notes file all earlier ds)
in_fields r file all earlier [] placed = tt
in_fields r file all earlier (d ∷ rest) placed =
    joint (IsSpelt r file) (field_notes file all earlier d) _
    (joint (IsSpelt r file) (type_notes file all Role.Field d.written) _ (type_spelt r file file (over_file file.names) refl all Role.Field d.written placed.0.1) (
      plainly r file d.name.site.token (Named.Field d.name.site.token) refl,
      joint (IsSpelt r file) (fault_where (is_some (field_of earlier d.name.text)) d.name.site.token DefinedTwice) (fault_unless (nat_lt (length earlier) 256) d.name.site.token LimitPassed)
          (faults_spelt r file _ (where_faults (is_some (field_of earlier d.name.text)) d.name.site.token DefinedTwice)) (faults_spelt r file _ (unless_faults (nat_lt (length earlier) 256) d.name.site.token LimitPassed)),
    ))
    (in_fields r file all (earlier ++ d ∷ []) rest placed.1)

in_parameters : (r : Resolution) (file : Scope) (block before : ℕ) (s : Scope) → IsOver file.names s.names → s.structs ≡ file.structs → (ds : List Declaration) → PlacedDeclarations r.program.tokens.list ds
    → AreSpelt r file (parameters_notes block before s ds) × IsOver file.names (with_parameters block s.names ds)
in_parameters r file block before s over same [] placed = (tt, over)
in_parameters r file block before s over same (d ∷ rest) placed =
    let more = in_parameters r file block (before + 1) (with_names s (declared block d s.names)) (over_with file.names s.names d block over) same rest placed.1 in (
      joint (IsSpelt r file) (type_notes s [] Role.Parameter d.written ++ declared_notes block d s.names ++ _) _
          (behind_faults r file (type_notes s [] Role.Parameter d.written ++ declared_notes block d s.names) _
          (joint (IsSpelt r file) (type_notes s [] Role.Parameter d.written) _ (type_spelt r file s over same [] Role.Parameter d.written placed.0.1) (declared_spelt r file block d s.names))
          (unless_faults _ d.name.site.token LimitPassed))
          more.0,
      more.1,
    )

in_item : (r : Resolution) (file : Scope) (i : Item) → PlacedItem r.program.tokens.list i → AreSpelt r file (item_notes file i)
in_item r file (structure s) placed = in_fields r file s.fields [] s.fields placed.2
in_item r file (global g) placed =
    behind_faults r file _ _
    (behind_faults r file (type_notes file [] Role.Global g.declaration.written) _ (type_spelt r file file (over_file file.names) refl [] Role.Global g.declaration.written placed.1.1) (length_faults g.form)) (initial_faults g g.form)
in_item r file (function f) placed =
    let heads = in_parameters r file (length file.names) 0 file (over_file file.names) refl f.parameters placed.3 in
    behind_faults r file _ _
    (joint (IsSpelt r file) _ _
    (joint (IsSpelt r file) (type_notes file [] Role.Result f.result) _ (type_spelt r file file (over_file file.names) refl [] Role.Result f.result placed.1) heads.0)
    (in_statements r file (with_parameters (length file.names) file.names f.parameters) heads.1 (record { result = declared_kind f.result; in_loop = false; block = length file.names }) f.statements placed.5))
    (beyond_faults 200 (locals_in_all f.statements))

in_items : (r : Resolution) (file : Scope) (items : List Item) → PlacedItems r.program.tokens.list items → AreSpelt r file (items_notes file items)
in_items r file [] placed = tt
in_items r file (i ∷ rest) placed = joint (IsSpelt r file) _ _ (in_item r file i placed.0) (in_items r file rest placed.1)

-- ---- of what is known of the file

none_some : (o : Option Entry) (e : Entry) → is_some o ≡ false → o ≡ Some e → ⊥
none_some o e not_so is = true≢false (sym (ap is_some is) ∙ not_so)

-- what is known stays known
entry_stays : (scope : List Entry) (x : Entry) (text : List ℕ) (e : Entry) → look_up scope text ≡ Some e → look_up (with_entry x scope) text ≡ Some e
entry_stays scope x text e is = by (is_some (look_up scope x.name)) refl
  where
    inner : (c : Bool) → bytes_eq x.name text ≡ c → is_some (look_up scope x.name) ≡ false → cond c (Some x) (look_up scope text) ≡ Some e
    inner true same not_so = absurd (none_some (look_up scope x.name) e not_so (ap (look_up scope) ((bytes_eq-Decides x.name text).0 same) ∙ is))
    inner false other not_so = is

    by : (b : Bool) → is_some (look_up scope x.name) ≡ b → look_up (cond b scope (x ∷ scope)) text ≡ Some e
    by true known = is
    by false not_so = inner (bytes_eq x.name text) refl not_so

behind_stays : (h : Heading) (i : Item) (text : List ℕ) (e : Entry) → look_up h.scope.names text ≡ Some e → look_up (behind h i).scope.names text ≡ Some e
behind_stays h (structure s) text e is = is
behind_stays h (global g) text e is = entry_stays h.scope.names (global_entry h.globals g) text e is
behind_stays h (function f) text e is = entry_stays h.scope.names (function_entry h.functions f) text e is

all_stay : (h : Heading) (items : List Item) (text : List ℕ) (e : Entry) → look_up h.scope.names text ≡ Some e → look_up (behind_all h items).scope.names text ≡ Some e
all_stay h [] text e is = is
all_stay h (i ∷ rest) text e is = all_stay (behind h i) rest text e (behind_stays h i text e is)

another : (scope : List Entry) (name text : List ℕ) (e : Entry) → is_some (look_up scope name) ≡ false → look_up scope text ≡ Some e → bytes_eq name text ≡ false
another scope name text e not_so is = by (bytes_eq name text) refl
  where
    by : (b : Bool) → bytes_eq name text ≡ b → b ≡ false
    by true same = absurd (none_some (look_up scope name) e not_so (ap (look_up scope) ((bytes_eq-Decides name text).0 same) ∙ is))
    by false other = refl

condition_stays : (file : Scope) (text : List ℕ) (e : Entry) → look_up file.names text ≡ Some e → look_up (known_in file).names text ≡ Some e
condition_stays file text e is = by (defines_condition file) refl
  where
    neither : (a b : Bool) → (a || b) ≡ false → (a ≡ false) × (b ≡ false)
    neither true b h = absurd (true≢false h)
    neither false b h = (refl, h)

    hidden : (a b c : Bool) (x y z : Entry) (later : Option Entry) → a ≡ false → b ≡ false → c ≡ false → cond a (Some x) (cond b (Some y) (cond c (Some z) later)) ≡ later
    hidden a b c x y z later f g h = ap (λ (k : Bool). cond k (Some x) (cond b (Some y) (cond c (Some z) later))) f ∙ ap (λ (k : Bool). cond k (Some y) (cond c (Some z) later)) g ∙ ap (λ (k : Bool). cond k (Some z) later) h

    by : (b : Bool) → defines_condition file ≡ b → look_up (cond b file (with_conditions file)).names text ≡ Some e
    by true defines = is
    by false not_so =
        let first = neither _ _ not_so in
        let waits = neither _ _ first.1 in
        let signals = neither _ _ waits.1 in
        hidden _ _ _ _ _ _ (look_up file.names text) (another file.names (codes "broadcast") text e signals.1 is) (another file.names (codes "signal") text e signals.0 is) (another file.names (codes "wait") text e waits.0 is) ∙ is

-- a global or a function is known by its name
name_known : (scope : List Entry) (x : Entry) → is_some (look_up scope x.name) ≡ false → look_up (with_entry x scope) x.name ≡ Some x
name_known scope x not_so =
    ap (λ (b : Bool). look_up (cond b scope (x ∷ scope)) x.name) not_so ∙ ap (λ (b : Bool). cond b (Some x) (look_up scope x.name)) ((bytes_eq-Decides x.name x.name).1 refl)

heads_spelt : (r : Resolution) (file : Scope) (h : Heading) (items : List Item) → PlacedItems r.program.tokens.list items → ((text : List ℕ) (e : Entry) → look_up (behind_all h items).scope.names text ≡ Some e → look_up file.names text ≡ Some e)
    → Clean (heads_notes h items) → AreSpelt r file (heads_notes h items)
heads_spelt r file h [] placed known clean = tt
heads_spelt r file h (i ∷ rest) placed known clean =
    joint (IsSpelt r file) (item_head_notes h i) _ (by i placed.0 known (left _ _ clean)) (heads_spelt r file (behind h i) rest placed.1 known (right _ _ clean))
  where
    limits : (a b : Bool) (token : ℕ) → AreSpelt r file (fault_where a token DefinedTwice ++ fault_unless b token LimitPassed)
    limits a b token = joint (IsSpelt r file) _ _ (faults_spelt r file _ (where_faults a token DefinedTwice)) (faults_spelt r file _ (unless_faults b token LimitPassed))

    by : (i : Item) → PlacedItem r.program.tokens.list i → ((text : List ℕ) (e : Entry) → look_up (behind_all (behind h i) rest).scope.names text ≡ Some e → look_up file.names text ≡ Some e) → Clean (item_head_notes h i) → AreSpelt r file (item_head_notes h i)
    by (structure s) at in_file clean_head = (plainly r file s.name.site.token (Named.Struct h.structs) refl, limits _ _ s.name.site.token)
    by (global g) at in_file clean_head =
        let x : Entry = global_entry h.globals g in
        let token : ℕ = g.declaration.name.site.token in
        let new : is_some (look_up h.scope.names x.name) ≡ false = not_wrong _ token DefinedTwice (left _ _ (behind_head _ _ _ clean_head)) in
        let there : look_up file.names x.name ≡ Some x = in_file x.name x (all_stay (behind h (global g)) rest x.name x (name_known h.scope.names x new)) in
        let text : text_at r token ≡ x.name = text_is r token x.name at.1.2 in
        (((λ filed. (x, ap (look_up file.names) text ∙ there, refl)), λ known. absurd (no_global h.globals known)), limits _ _ token)
    by (function f) at in_file clean_head =
        let x : Entry = function_entry h.functions f in
        let token : ℕ = f.name.site.token in
        let new : is_some (look_up h.scope.names x.name) ≡ false = not_wrong _ token DefinedTwice (left _ _ (behind_head _ _ _ clean_head)) in
        let there : look_up file.names x.name ≡ Some x = in_file x.name x (all_stay (behind h (function f)) rest x.name x (name_known h.scope.names x new)) in
        let text : text_at r token ≡ x.name = text_is r token x.name at.2 in
        (((λ filed. (x, ap (look_up file.names) text ∙ there, refl)), λ known. absurd (no_function h.functions known)), limits _ _ token)

-- ---- of all that is said, so of each token

pub in_program : (r : Resolution) → IsPlaced r.program → Clean (notes_about r.program) → AreSpelt r (file_scope r.program.items) (notes_about r.program)
in_program r placed clean =
    let items : List Item = r.program.items in
    let file : Scope = file_scope items in
    let heads : AreSpelt r file (heads_notes no_heads items) =
    heads_spelt r file no_heads items placed.items (λ text e is. condition_stays (behind_all no_heads items).scope text e is) (left _ _ (left _ _ (left _ _ clean))) in
    behind_faults r file _ _ (behind_faults r file _ _ (joint (IsSpelt r file) (heads_notes no_heads items) _ heads (in_items r file items placed.items)) (sizes_faults file.structs 0 items)) (unless_faults _ _ _)

chosen : (r : Resolution) (file : List Entry) (t : ℕ) (b : Bool) (w y : Named) → (b ≡ true → IsFiledAs r file t w) → IsFiledAs r file t y → IsFiledAs r file t (cond b w y)
chosen r file t true w y first later = first refl
chosen r file t false w y first later = later

field_not_filed : (r : Resolution) (file : List Entry) (t : ℕ) (w : Named) → is_field w ≡ true → IsFiledAs r file t w
field_not_filed r file t (Named.Global n) f = absurd (false≢true f)
field_not_filed r file t (Named.Function n) f = absurd (false≢true f)
field_not_filed r file t k f = not_filed r file t k refl

seen_spelt : (r : Resolution) (file : Scope) (t : ℕ) (l : List Note) (x : Named) → AreSpelt r file l → IsFiledAs r file.names t x → IsFiledAs r file.names t (seen t l x)
seen_spelt r file t [] x all is = is
seen_spelt r file t (fault place code ∷ rest) x all is = seen_spelt r file t rest x all.1 is
seen_spelt r file t (refers n w ∷ rest) x all is =
    seen_spelt r file t rest (cond (n == t) w x) all.1 (chosen r file.names t (n == t) w x (λ same. subst (λ (k : ℕ). IsFiledAs r file.names k w) (eqb-true n t same) all.0.0) is)
seen_spelt r file t (yields n w ∷ rest) x all is =
    seen_spelt r file t rest (cond (n == t) (cond (is_free x) w x) x) all.1
    (chosen r file.names t (n == t) (cond (is_free x) w x) x (λ same. chosen r file.names t (is_free x) w x (λ free. field_not_filed r file.names t w all.0) is) is)

-- what a note says that names what the program does not define
known_by : (r : Resolution) (file : Scope) (t : ℕ) (n : Note) → IsSpelt r file n → Tells n t Named.Known → KnowsCalls file
known_by r file t (fault place code) said tells = absurd tells
known_by r file t (refers k w) said tells = said.1 tells.1
known_by r file t (yields k w) said tells = absurd (false≢true (ap is_field (sym tells.1) ∙ said))

pub known_said : (r : Resolution) (file : Scope) (t : ℕ) → AreSpelt r file (notes_about r.program) → IsToldOnce r t → named_at r t ≡ Named.Known → KnowsCalls file
known_said r file t all told known =
    let said : IsSpelt r file told.note = (back (IsSpelt r file) told.before (told.note ∷ told.after) (subst (AreSpelt r file) told.notes all)).0 in
    known_by r file t told.note said (subst (Tells told.note t) (sym told.named ∙ known) told.tells)

-- a token of which nothing is said names nothing
none_told : (t : ℕ) (l : List Note) → AllByRecursion (IsOwnAt t Named.Known) l → seen t l Named.Known ≡ Named.Known
none_told t [] own = refl
none_told t (fault place code ∷ rest) own = none_told t rest own.1
none_told t (refers n w ∷ rest) own = ap (seen t rest) (by (n == t) (λ at. own.0 (eqb-true n t at))) ∙ none_told t rest own.1
  where
    by : (b : Bool) → (b ≡ true → w ≡ Named.Known) → cond b w Named.Known ≡ Named.Known
    by true is = is refl
    by false is = refl
none_told t (yields n w ∷ rest) own = ap (seen t rest) (by (n == t) (λ at. own.0 (eqb-true n t at))) ∙ none_told t rest own.1
  where
    by : (b : Bool) → (b ≡ true → w ≡ Named.Known) → cond b (cond (is_free Named.Known) w Named.Known) Named.Known ≡ Named.Known
    by true is = is refl
    by false is = refl

-- what the notes say that a token names is filed
named_old : (r : Resolution) → IsResolved r → (token : ℕ) → named_at r token ≡ get_or (named_in r.program) token Named.Known
named_old r resolved token = ap (λ (l : List Named). get_or l token Named.Known) resolved.named

pub filed_as : (r : Resolution) → IsResolved r → IsPlaced r.program → Clean (notes_about r.program) → (token : ℕ) → IsFiledAs r (file_scope r.program.items).names token (named_at r token)
filed_as r resolved placed clean token = ⊎_elim low past (cases_lt token (length r.program.tokens.list))
  where
    unfiled : IsFiledAs r (file_scope r.program.items).names token Named.Known
    unfiled = not_filed r (file_scope r.program.items).names token Named.Known refl

    low : token < length r.program.tokens.list → IsFiledAs r (file_scope r.program.items).names token (named_at r token)
    low is =
        subst (IsFiledAs r (file_scope r.program.items).names token) (sym (named_old r resolved token ∙ named_seen r.program token is))
        (seen_spelt r (file_scope r.program.items) token (notes_about r.program) Named.Known (in_program r placed clean) unfiled)

    past : length r.program.tokens.list ≤ token → IsFiledAs r (file_scope r.program.items).names token (named_at r token)
    past is = subst (IsFiledAs r (file_scope r.program.items).names token) (sym (named_old r resolved token ∙ named_past r.program token is)) unfiled

pub spelled : (r : Resolution) → IsResolved r → IsPlaced r.program → Clean (notes_about r.program) → ((token : ℕ) → Contains (referred (notes_about r.program)) token → Contains (name_tokens (items_marks r.program.items)) token) → ((token : ℕ) → Contains (name_tokens (items_marks r.program.items)) token → IsToldOnce r token)
    → IsSpelled r (file_scope r.program.items).names
spelled r resolved placed clean only once = record {
  filed = λ token filed e found.
      let there = filed_as r resolved placed clean token filed in
      ap (λ (x : Entry). named_of x.meaning) (one_some e there.0 (sym found ∙ there.1)) ∙ there.2;
  called = λ token known call e found.
      calls_known r.program.items (known_said r (file_scope r.program.items) token (in_program r placed clean) (once token (name_there r token placed.marked call)) known) (text_at r token) (call_text r token call) e found;
  apart = λ token dull. ⊎_elim (λ c. name_apart r token placed.marked (only token c)) (λ own. absurd (false≢true (sym dull ∙ ap is_dull (untold token own)))) (told_or_not token Named.Known (notes_about r.program));
}
  where
    untold : (token : ℕ) → AllByRecursion (IsOwnAt token Named.Known) (notes_about r.program) → named_at r token ≡ Named.Known
    untold token own =
        named_old r resolved token
        ∙ ⊎_elim (λ low. named_seen r.program token low ∙ none_told token (notes_about r.program) own) (λ past. named_past r.program token past) (cases_lt token (length r.program.tokens.list))
