-- What all notes of a program say, by its constructs, there and back.
use Rattle.sharc_check.proofs.{Imports.{◌≡◌, ◌↔◌, ⊎_elim, ◌+◌, ℕ, zero, suc, Bool, true, false, ◌&&◌, cond, arith, List, [], ◌∷◌, ◌++◌, drop, refl, ap, sym, ◌∙◌, subst, slice_get, Option, Some, None, Contains, false≢true, AllByRecursion, flat_map, list_any, Mode, Locked, Path, Span, Declaration, Identifier, WrittenType, FieldOperator, PlaceCall, Unlock, Free, GlobalDefinition, without_parentheses, in_function, span_of, Expression, Arguments, no_arguments, argument, Right, value, malloc, Local, Function, Numbered, entities_in, numbered, functions_in, globals_in, named_at, kind_at, function_at, global_at, Receiver, lvalue, variable, result, Transfer, passed, parameters_named, function_transfers, ReadonlyWrite, PrivateField, PrivateReachesThread, ReadonlySource, Finding, cell_at, top_of, expected, place_notes, items_notes, Assignment, base_of, span_text, agree_notes, error_where, levels_of, private_notes, path_notes, mode_notes, is_private_level, is_field_role, private_field_notes, names_in_level, names_in_all, names_read, type_notes, first_unmet, unmet_notes, parameter_names, names_at_call, call_notes, cast_notes, taken_variable, source_notes, takes, sibling_notes, PathReading, written, at_call, base_use, declared_row, cast_row, named_row, modes_of, modes_at, Sharing, same_all, is_readonly, is_sibling, text_at, variable_named, object_of, lock_of, place_of, holds_private, first_unfit_path, first_unfit_mode, is_spawned, has_private_target, parameter_notes, spawned_notes, touched_notes, notes_about, IsFunction, IsExpression, IsCall, called, spawned, IsTaken, cast_away, freed, IsAssigned, IsGiven, assigned, initial, an_argument, returned, IsEntity, locals_in_all, HasPath, at_target, at_level, same_some, none_some, front, back, both, head_there, head_or_tail, of_each, to_each, tail_there, none_there}, Claims.{Said, Hold, where_is, when_is, agree_is, path_is, mode_is, unmet_is, cast_is, takes_is, names_are, in_all_are, levels_are, all_read_are}, Lists.{spread, gather}, Walk.{argument_notes, own_notes, OwnSaid, ReceiverSaid, TransferSaid, InitialSaid, LocalSaid, FunctionSaid, items_said, items_back}}
use Rattle.sharc_tree.specs.declared.tree.expression.PlaceCall.TheVariants.{Lock}
use Rattle.sharc_tree.specs.Tree as tree
use Rattle.sharc_mode.specs.Sharings as sharing

-- the paths that name a variable or a global, as the notes have them: the use of a field by the token of its base
pub data Named (m : Assignment) (x : ℕ) : Type 0 where
  by_type : {n : Numbered} {path : Path} → IsEntity m n → Contains n.entity.written.ctype.levels (Some (Locked path)) → object_of m.typed (lock_of path) ≡ Some x → Named m x
  by_call : {ds : List Declaration} {all : Arguments} {d : Declaration} {l : sharing.Lock} → IsCall m ds all → Contains ds d → HasPath m (at_call ds all) d l → object_of m.typed l ≡ Some x → Named m x
  by_use : {s : Span} {a : Expression} {w : FieldOperator} {n : Identifier} {at : ℕ} → IsExpression m (tree.field s a w n)
      → list_any (is_sibling m.typed) (modes_of m (named_row m.typed written (named_at m.typed n.site.token))) ≡ true → base_use m.typed w a ≡ Some at → variable_named (named_at m.typed at) ≡ Some x → Named m x

pub record Holds (W : Type 0) (N T : ℕ → Type 0) (m : Assignment) (touched : ℕ → Bool) : Type 0 where
  pub given : (to found : List Sharing) (e : Expression) → IsGiven m to e → modes_at m e ≡ Some found → same_all m.typed to found ≡ false → W
  pub assigned : (u : Expression) (x : Right) → IsAssigned m u x → is_readonly (cell_at m u) ≡ true → W
  pub private_below : (n : Numbered) → IsEntity m n → holds_private (levels_of m n) ≡ true → W
  pub paths : (n : Numbered) (path : Path) → IsEntity m n → first_unfit_path m.typed (place_of n.entity.role) n.entity.written.ctype.base n.entity.written.ctype.levels ≡ Some path → W
  pub modes : (n : Numbered) (mode : Mode) → IsEntity m n → first_unfit_mode (place_of n.entity.role) n.entity.written.ctype.base n.entity.written.ctype.levels ≡ Some mode → W
  pub fields : (n : Numbered) → IsEntity m n → is_field_role n.entity.role ≡ true → list_any is_private_level n.entity.written.ctype.levels ≡ true → W
  pub parameters : (k : ℕ) (f : Function) (d : Declaration) → function_at m.typed k ≡ Some f → is_spawned m.typed k ≡ true → Contains f.parameters d → has_private_target (modes_of m (declared_row m.typed written d.name.site.token)) ≡ true → W
  pub globals : (k : ℕ) (g : GlobalDefinition) → global_at m.typed k ≡ Some g → (touched k && is_private_level (top_of g.declaration.written.ctype.levels)) ≡ true → W
  pub casts : (s : Span) (t : WrittenType) (a : Expression) (found : List Sharing) → IsExpression m (tree.cast s t a) → modes_at m a ≡ Some found → same_all m.typed (drop 1 (modes_of m (cast_row m.typed s))) (drop 1 found) ≡ false → W
  pub readonly_taken : (a : Expression) → IsTaken m a → is_readonly (cell_at m a) ≡ true → W
  pub unmet : (ds : List Declaration) (all : Arguments) (l : sharing.Lock) → IsCall m ds all → first_unmet m ds all ds ≡ Some l → W
  pub siblings : (s : Span) (a : Expression) (w : FieldOperator) (n : Identifier) → IsExpression m (tree.field s a w n)
      → list_any (is_sibling m.typed) (modes_of m (named_row m.typed written (named_at m.typed n.site.token))) ≡ true → base_use m.typed w a ≡ None → W
  pub named : (x : ℕ) → Named m x → N x
  pub taken : (a : Expression) (x : ℕ) → IsTaken m a → taken_variable m.typed (without_parentheses a) ≡ Some x → T x

pub record Facts (m : Assignment) (touched : ℕ → Bool) (P : Finding → Type 0) : Type 0 where
  pub types : (n : Numbered) → IsEntity m n → AllByRecursion P (type_notes m n)
  pub threads : AllByRecursion P (spawned_notes m 0 (functions_in m.typed.program.items))
  pub globals : AllByRecursion P (touched_notes touched 0 (globals_in m.typed.program.items))
  pub functions : (f : Function) → IsFunction m f → FunctionSaid m P f

pub facts : (m : Assignment) (touched : ℕ → Bool) (P : Finding → Type 0) → AllByRecursion P (notes_about m touched) → Facts m touched P
facts m touched P h =
    let a = flat_map (type_notes m) (numbered (entities_in m.typed.program.items)) in
    let b = spawned_notes m 0 (functions_in m.typed.program.items) in
    let c = touched_notes touched 0 (globals_in m.typed.program.items) in
    let d = items_notes m m.typed.program.items in
    let ab = front P (a ++ b) c (front P (a ++ b ++ c) d h) in
    let types = spread P (type_notes m) (numbered (entities_in m.typed.program.items)) (front P a b ab) in
    let functions = items_said m P m.typed.program.items (back P (a ++ b ++ c) d h) in
    record {
      types = λ n has. of_each (λ n. AllByRecursion P (type_notes m n)) (numbered (entities_in m.typed.program.items)) n types has;
      threads = back P a b ab;
      globals = back P (a ++ b) c (front P (a ++ b ++ c) d h);
      functions = λ f has. of_each (FunctionSaid m P) (functions_in m.typed.program.items) f functions has;
    }

pub from_facts : (m : Assignment) (touched : ℕ → Bool) (P : Finding → Type 0) → Facts m touched P → AllByRecursion P (notes_about m touched)
from_facts m touched P h =
    let a = flat_map (type_notes m) (numbered (entities_in m.typed.program.items)) in
    let b = spawned_notes m 0 (functions_in m.typed.program.items) in
    let c = touched_notes touched 0 (globals_in m.typed.program.items) in
    let d = items_notes m m.typed.program.items in
    both P (a ++ b ++ c) d
    (both P (a ++ b) c (both P a b (gather P (type_notes m) (numbered (entities_in m.typed.program.items)) (to_each (λ n. AllByRecursion P (type_notes m n)) (numbered (entities_in m.typed.program.items)) h.types)) h.threads) h.globals)
    (items_back m P m.typed.program.items (to_each (FunctionSaid m P) (functions_in m.typed.program.items) h.functions))

chosen : {A : Type 0} (P : A → Type 0) (b : Bool) (list : List A) → AllByRecursion P (cond b list []) → b ≡ true → AllByRecursion P list
chosen P true list h is = h
chosen P false list h is = absurd (false≢true is)

choose : {A : Type 0} (P : A → Type 0) (b : Bool) (list : List A) → (b ≡ true → AllByRecursion P list) → AllByRecursion P (cond b list [])
choose P true list h = h refl
choose P false list h = tt

module _ (W : Type 0) (N T : ℕ → Type 0) (m : Assignment) where
  abbrev H : List Finding → Type 0
  H notes = Hold W N T notes

  abbrev S : Finding → Type 0
  S = Said W N T

  -- ---- types

  abbrev unfit : Numbered → Option Path
  unfit n = first_unfit_path m.typed (place_of n.entity.role) n.entity.written.ctype.base n.entity.written.ctype.levels

  abbrev misplaced : Numbered → Option Mode
  misplaced n = first_unfit_mode (place_of n.entity.role) n.entity.written.ctype.base n.entity.written.ctype.levels

  record TypeHolds (n : Numbered) : Type 0 where
    private_below : holds_private (levels_of m n) ≡ true → W
    paths : (path : Path) → unfit n ≡ Some path → W
    modes : (mode : Mode) → misplaced n ≡ Some mode → W
    fields : is_field_role n.entity.role ≡ true → list_any is_private_level n.entity.written.ctype.levels ≡ true → W
    named : (path : Path) (x : ℕ) → Contains n.entity.written.ctype.levels (Some (Locked path)) → object_of m.typed (lock_of path) ≡ Some x → N x

  type_is : (n : Numbered) → H (type_notes m n) ↔ TypeHolds n
  type_is n =
      let s = n.entity.written.span in
      let a = private_notes m n in
      let b = path_notes s (unfit n) in
      let c = mode_notes s (misplaced n) in
      let d = private_field_notes m.typed n in
      let e = flat_map (names_in_level m.typed) n.entity.written.ctype.levels in
      let field = where_is W N T (list_any is_private_level n.entity.written.ctype.levels) PrivateField s (text_at m.typed n.entity.token) in (
        λ h.
            let most = front S (a ++ b ++ c ++ d) e h in
            let three = front S (a ++ b ++ c) d most in
            let two = front S (a ++ b) c three in
            record {
              private_below = (when_is W N T (holds_private (levels_of m n)) _).0 (front S a b two);
              paths = (path_is W N T s (unfit n)).0 (back S a b two);
              modes = (mode_is W N T s (misplaced n)).0 (back S (a ++ b) c three);
              fields = λ is_field is. field.0 (chosen S (is_field_role n.entity.role) _ (back S (a ++ b ++ c) d most) is_field) is;
              named = (levels_are W N T m.typed n.entity.written.ctype.levels).0 (back S (a ++ b ++ c ++ d) e h);
            },
        λ h.
            both S (a ++ b ++ c ++ d) e
            (both S (a ++ b ++ c) d
            (both S (a ++ b) c
            (both S a b ((when_is W N T (holds_private (levels_of m n)) _).1 h.private_below) ((path_is W N T s (unfit n)).1 h.paths))
            ((mode_is W N T s (misplaced n)).1 h.modes))
            (choose S (is_field_role n.entity.role) _ (λ is_field. field.1 (h.fields is_field))))
            ((levels_are W N T m.typed n.entity.written.ctype.levels).1 h.named),
      )

  -- ---- what threads get

  abbrev IsShown : Declaration → Bool
  IsShown d = has_private_target (modes_of m (declared_row m.typed written d.name.site.token))

  abbrev thread_notes : ℕ → Function → List Finding
  thread_notes k f = cond (is_spawned m.typed k) (flat_map (parameter_notes m f.name.text) f.parameters) []

  thread_is : (k : ℕ) (f : Function) → H (thread_notes k f) ↔ ((d : Declaration) → is_spawned m.typed k ≡ true → Contains f.parameters d → IsShown d ≡ true → W)
  thread_is k f =
      let each_note = parameter_notes m f.name.text in (
        λ h d spawns has shows. (where_is W N T (IsShown d) PrivateReachesThread d.written.span f.name.text).0
            (of_each (λ x. H (parameter_notes m f.name.text x)) f.parameters d (spread S each_note f.parameters (chosen S (is_spawned m.typed k) (flat_map each_note f.parameters) h spawns)) has) shows,
        λ h. choose S (is_spawned m.typed k) (flat_map each_note f.parameters) (λ spawns. gather S each_note f.parameters
            (to_each (λ x. H (parameter_notes m f.name.text x)) f.parameters (λ d has. (where_is W N T (IsShown d) PrivateReachesThread d.written.span f.name.text).1 (h d spawns has)))),
      )

  abbrev shows_private : (ℕ → Bool) → ℕ → GlobalDefinition → Bool
  shows_private touched k g = touched k && is_private_level (top_of g.declaration.written.ctype.levels)

  abbrev global_notes : (ℕ → Bool) → ℕ → GlobalDefinition → List Finding
  global_notes touched k g = error_where (shows_private touched k g) PrivateReachesThread g.declaration.written.span g.declaration.name.text

  -- notes of the elements of a list, each by its number
  module _ {A : Type 0} (notes : ℕ → List A → List Finding) (first : ℕ → A → List Finding) (none : (k : ℕ) → notes k [] ≡ []) (more : (k : ℕ) (x : A) (rest : List A) → notes k (x ∷ rest) ≡ first k x ++ notes (k + 1) rest) where
    numbered_said : (k : ℕ) (xs : List A) → H (notes k xs) → (i j : ℕ) (x : A) → j ≡ k + i → slice_get xs i ≡ Some x → H (first j x)
    numbered_said k [] h i j x at is = absurd (none_some x is)
    numbered_said k (y ∷ rest) h zero j x at is =
        let here : j ≡ k = omega (arith, at) in
        subst (λ n. H (first n x)) (sym here) (subst (λ z. H (first k z)) (same_some y x is) (front S (first k y) (notes (k + 1) rest) (subst H (more k y rest) h)))
    numbered_said k (y ∷ rest) h (suc i) j x at is =
        let later : j ≡ k + 1 + i = omega (arith, at) in
        numbered_said (k + 1) rest (back S (first k y) (notes (k + 1) rest) (subst H (more k y rest) h)) i j x later is

    numbered_back : (k : ℕ) (xs : List A) → ((i j : ℕ) (x : A) → j ≡ k + i → slice_get xs i ≡ Some x → H (first j x)) → H (notes k xs)
    numbered_back k [] h = subst H (sym (none k)) tt
    numbered_back k (y ∷ rest) h =
        let here : k ≡ k + 0 = omega arith in
        subst H (sym (more k y rest)) (both S (first k y) (notes (k + 1) rest) (h zero k y here refl)
        (numbered_back (k + 1) rest (λ i j x at is. let later : j ≡ k + suc i = omega (arith, at) in h (suc i) j x later is)))

  -- ---- calls

  abbrev wanted : List Declaration → Arguments → Declaration → Option (List Sharing)
  wanted ds all d = Some (modes_of m (declared_row m.typed (at_call ds all) d.name.site.token))

  abbrev PassedBy : List Declaration → Arguments → Receiver → Right → Type 0
  PassedBy ds all (variable d) (value e) = H (agree_notes m (wanted ds all d) e)
  PassedBy ds all _ _ = Unit {0}

  abbrev PassedSaid : List Declaration → Arguments → Transfer → Type 0
  PassedSaid ds all t = PassedBy ds all t.receiver t.source

  arguments_said : (ds : List Declaration) (all : Arguments) (left : List Declaration) (args : Arguments) → H (argument_notes m ds all left args) → (d : Declaration) (e : Expression)
      → Contains (passed left args) record { receiver = variable d; source = value e } → H (agree_notes m (wanted ds all d) e)
  arguments_said ds all [] args h d e has = absurd (none_there _ has)
  arguments_said ds all (x ∷ left) no_arguments h d e has = absurd (none_there _ has)
  arguments_said ds all (x ∷ left) (argument a rest) h d e has =
      let now = agree_notes m (wanted ds all x) a in
      let later = argument_notes m ds all left rest in
      ⊎_elim
      (λ is. subst (λ (t : Transfer). PassedSaid ds all t) is (front S now later h))
      (λ more. arguments_said ds all left rest (back S now later h) d e more)
      (head_or_tail record { receiver = variable x; source = value a } record { receiver = variable d; source = value e } (passed left rest) has)

  arguments_back : (ds : List Declaration) (all : Arguments) (left : List Declaration) (args : Arguments)
      → ((d : Declaration) (e : Expression) → Contains (passed left args) record { receiver = variable d; source = value e } → H (agree_notes m (wanted ds all d) e)) → H (argument_notes m ds all left args)
  arguments_back ds all left no_arguments h = tt
  arguments_back ds all [] (argument a rest) h = arguments_back ds all [] rest (λ d e has. absurd (none_there _ has))
  arguments_back ds all (x ∷ left) (argument a rest) h =
      both S (agree_notes m (wanted ds all x) a) (argument_notes m ds all left rest) (h x a (head_there _ (passed left rest)))
      (arguments_back ds all left rest (λ d e has. h d e (tail_there record { receiver = variable x; source = value a } record { receiver = variable d; source = value e } (passed left rest) has)))

  path_names : (how : PathReading) (d : Declaration) (l : sharing.Lock) (x : ℕ) → H (parameter_names m how d) → HasPath m how d l → object_of m.typed l ≡ Some x → N x
  path_names how d _ x h (at_target {l = l} has) o =
      (in_all_are W N T m.typed (modes_of m (declared_row m.typed how d.name.site.token))).0 (front S (names_in_all m.typed (modes_of m (declared_row m.typed how d.name.site.token))) (flat_map (names_read m.typed how) d.written.ctype.levels) h) l x has o
  path_names how d _ x h (at_level {path = path} has) o =
      (all_read_are W N T m.typed how d.written.ctype.levels).0 (back S (names_in_all m.typed (modes_of m (declared_row m.typed how d.name.site.token))) (flat_map (names_read m.typed how) d.written.ctype.levels) h) path x has o

  record CallHolds (ds : List Declaration) (all : Arguments) : Type 0 where
    unmet : (l : sharing.Lock) → first_unmet m ds all ds ≡ Some l → W
    named : (d : Declaration) (l : sharing.Lock) (x : ℕ) → Contains ds d → HasPath m (at_call ds all) d l → object_of m.typed l ≡ Some x → N x

  call_holds : (s : Span) (ds : List Declaration) (all : Arguments) → H (call_notes m s ds all) → CallHolds ds all
  call_holds s ds all h =
      let names = spread S (parameter_names m (at_call ds all)) ds (back S (unmet_notes m.typed s (first_unmet m ds all ds)) (names_at_call m ds all ds) h) in
      record {
        unmet = (unmet_is W N T m.typed s (first_unmet m ds all ds)).0 (front S (unmet_notes m.typed s (first_unmet m ds all ds)) (names_at_call m ds all ds) h);
        named = λ d l x has path o. path_names (at_call ds all) d l x (of_each (λ y. H (parameter_names m (at_call ds all) y)) ds d names has) path o;
      }

  call_back : (s : Span) (ds : List Declaration) (all : Arguments) → CallHolds ds all → H (call_notes m s ds all)
  call_back s ds all h =
      both S (unmet_notes m.typed s (first_unmet m ds all ds)) (names_at_call m ds all ds) ((unmet_is W N T m.typed s (first_unmet m ds all ds)).1 h.unmet)
      (gather S (parameter_names m (at_call ds all)) ds (to_each (λ y. H (parameter_names m (at_call ds all) y)) ds (λ d has.
      both S (names_in_all m.typed (modes_of m (declared_row m.typed (at_call ds all) d.name.site.token))) (flat_map (names_read m.typed (at_call ds all)) d.written.ctype.levels)
      ((in_all_are W N T m.typed (modes_of m (declared_row m.typed (at_call ds all) d.name.site.token))).1 (λ l x there o. h.named d l x has (at_target there) o))
      ((all_read_are W N T m.typed (at_call ds all) d.written.ctype.levels).1 (λ path x there o. h.named d _ x has (at_level there) o)))))

  -- ---- what is taken, and fields

  source_is : (a : Expression) → H (source_notes m a) ↔ ((is_readonly (cell_at m a) ≡ true → W) × ((x : ℕ) → taken_variable m.typed (without_parentheses a) ≡ Some x → T x))
  source_is a =
      let r = error_where (is_readonly (cell_at m a)) ReadonlySource (span_of a) (span_text m.typed (span_of a)) in
      let t = takes (span_of a) (taken_variable m.typed (without_parentheses a)) in
      let wrong = where_is W N T (is_readonly (cell_at m a)) ReadonlySource (span_of a) (span_text m.typed (span_of a)) in
      let taken = takes_is W N T (span_of a) (taken_variable m.typed (without_parentheses a)) in
      (λ h. (wrong.0 (front S r t h), taken.0 (back S r t h)), λ h. both S r t (wrong.1 h.0) (taken.1 h.1))

  siblings_are : (s : Span) (o : Option ℕ) → H (sibling_notes m.typed s o) ↔ ((o ≡ None → W) × ((at x : ℕ) → o ≡ Some at → variable_named (named_at m.typed at) ≡ Some x → N x))
  siblings_are s None = (λ h. (λ is. h.0, λ at x is v. absurd (none_some at is)), λ h. (h.0 refl, tt))
  siblings_are s (Some b) =
      let names = names_are W N T (variable_named (named_at m.typed b)) in
      (λ h. (λ is. absurd (none_some b (sym is)), λ at x is v. names.0 h x (ap (λ z. variable_named (named_at m.typed z)) (same_some b at is) ∙ v)), λ h. names.1 (λ x v. h.1 b x refl v))

  -- ---- all of it

  module _ (touched : ℕ → Bool) (h : Facts m touched S) where
    own : (e : Expression) → IsExpression m e → H (own_notes m e)
    own e x = of_each (OwnSaid m S) (in_function x.owner) e (h.functions x.owner x.stands).0 x.inside

    call_arguments : (ds : List Declaration) (all : Arguments) → IsCall m ds all → H (argument_notes m ds all ds all)
    call_arguments _ _ (called {s = s} {f = f} {all = all} x) =
        let ds = parameters_named m.typed (named_at m.typed f.site.token) in
        front S (argument_notes m ds all ds all) (call_notes m s ds all) (own (tree.call s f all) x)
    call_arguments _ _ (spawned {s = s} {f = f} {a = a} x) =
        let ds = parameters_named m.typed (named_at m.typed f.site.token) in
        let agree = agree_notes m (expected m ds (argument a no_arguments) ds) a in
        both S agree [] (front S agree (call_notes m s ds (argument a no_arguments)) (own (tree.spawn s f a) x)) tt

    call_said : (ds : List Declaration) (all : Arguments) → IsCall m ds all → CallHolds ds all
    call_said _ _ (called {s = s} {f = f} {all = all} x) =
        let ds = parameters_named m.typed (named_at m.typed f.site.token) in
        call_holds s ds all (back S (argument_notes m ds all ds all) (call_notes m s ds all) (own (tree.call s f all) x))
    call_said _ _ (spawned {s = s} {f = f} {a = a} x) =
        let ds = parameters_named m.typed (named_at m.typed f.site.token) in
        let agree = agree_notes m (expected m ds (argument a no_arguments) ds) a in
        call_holds s ds (argument a no_arguments) (back S agree (call_notes m s ds (argument a no_arguments)) (own (tree.spawn s f a) x))

    taken_source : (a : Expression) → IsTaken m a → H (source_notes m a)
    taken_source _ (cast_away {s = s} {t = t} {a = a} x) = front S (source_notes m a) (cast_notes m.typed t.span t.ctype.base (modes_of m (cast_row m.typed s)) (modes_at m a)) (own (tree.cast s t a) x)
    taken_source _ (freed {s = s} {a = a} x) = own (tree.on_place s Free a) x

    given_agree : (to : List Sharing) (e : Expression) → IsGiven m to e → (found : List Sharing) → modes_at m e ≡ Some found → same_all m.typed to found ≡ false → W
    given_agree _ _ (assigned {u = u} {e = e} {modes = modes} a is) found f same =
        let t : TransferSaid m S a.owner.name.site.token record { receiver = lvalue u; source = value e } = of_each (TransferSaid m S a.owner.name.site.token) (function_transfers m.typed a.owner) record { receiver = lvalue u; source = value e } (h.functions a.owner a.stands).1 a.does in
        (agree_is W N T m.typed (span_of e) (base_of (kind_at m.typed e)) (modes_at m u) (modes_at m e)).0 t.1 modes found is f same
    given_agree _ _ (initial {f = g} {l = l} {e = e} fn has is) found f same =
        let modes = modes_of m (declared_row m.typed written l.declaration.name.site.token) in
        let i : InitialSaid m S l.declaration l.initial = of_each (LocalSaid m S) (locals_in_all g.statements) l (h.functions g fn).2 has in
        (agree_is W N T m.typed (span_of e) (base_of (kind_at m.typed e)) (Some modes) (modes_at m e)).0 (subst (InitialSaid m S l.declaration) is i) modes found refl f same
    given_agree _ _ (an_argument {parameters = ds} {all = all} {d = d} {e = e} c has) found f same =
        let modes = modes_of m (declared_row m.typed (at_call ds all) d.name.site.token) in
        (agree_is W N T m.typed (span_of e) (base_of (kind_at m.typed e)) (Some modes) (modes_at m e)).0 (arguments_said ds all ds all (call_arguments ds all c) d e has) modes found refl f same
    given_agree _ _ (returned {f = g} {w = w} {e = e} fn has) found f same =
        let modes = modes_of m (declared_row m.typed written g.name.site.token) in
        let t : TransferSaid m S g.name.site.token record { receiver = result w; source = value e } = of_each (TransferSaid m S g.name.site.token) (function_transfers m.typed g) record { receiver = result w; source = value e } (h.functions g fn).1 has in
        (agree_is W N T m.typed (span_of e) (base_of (kind_at m.typed e)) (Some modes) (modes_at m e)).0 t modes found refl f same

    write_said : (u : Expression) (x : Right) → IsAssigned m u x → is_readonly (cell_at m u) ≡ true → W
    write_said u x a is =
        let t : TransferSaid m S a.owner.name.site.token record { receiver = lvalue u; source = x } = of_each (TransferSaid m S a.owner.name.site.token) (function_transfers m.typed a.owner) record { receiver = lvalue u; source = x } (h.functions a.owner a.stands).1 a.does in
        (where_is W N T (is_readonly (cell_at m u)) ReadonlyWrite (span_of u) (span_text m.typed (span_of u))).0 t.0 is

    field_said : (s : Span) (a : Expression) (w : FieldOperator) (n : Identifier) → IsExpression m (tree.field s a w n)
        → list_any (is_sibling m.typed) (modes_of m (named_row m.typed written (named_at m.typed n.site.token))) ≡ true → H (sibling_notes m.typed s (base_use m.typed w a))
    field_said s a w n x is =
        chosen S (list_any (is_sibling m.typed) (modes_of m (named_row m.typed written (named_at m.typed n.site.token)))) (sibling_notes m.typed s (base_use m.typed w a)) (own (tree.field s a w n) x) is

    name_said : (x : ℕ) → Named m x → N x
    name_said x (by_type {n = n} {path = path} at has o) = ((type_is n).0 (h.types n at)).named path x has o
    name_said x (by_call {ds = ds} {all = all} {d = d} {l = l} c has path o) = (call_said ds all c).named d l x has path o
    name_said x (by_use {s = s} {a = a} {w = w} {n = n} {at = at} e is b v) = ((siblings_are s (base_use m.typed w a)).0 (field_said s a w n e is)).1 at x b v

    pub holds : Holds W N T m touched
    holds = record {
      given = λ to found e g f same. given_agree to e g found f same;
      assigned = write_said;
      private_below = λ n at. ((type_is n).0 (h.types n at)).private_below;
      paths = λ n path at. ((type_is n).0 (h.types n at)).paths path;
      modes = λ n mode at. ((type_is n).0 (h.types n at)).modes mode;
      fields = λ n at. ((type_is n).0 (h.types n at)).fields;
      parameters = λ k f d is spawns has shows.
          let at : k ≡ 0 + k = omega arith in
          (thread_is k f).0 (numbered_said (spawned_notes m) thread_notes (λ k. refl) (λ k x rest. refl) 0 (functions_in m.typed.program.items) h.threads k k f at is) d spawns has shows;
      globals = λ k g is shows.
          let at : k ≡ 0 + k = omega arith in
          (where_is W N T (shows_private touched k g) PrivateReachesThread g.declaration.written.span g.declaration.name.text).0
          (numbered_said (touched_notes touched) (global_notes touched) (λ k. refl) (λ k x rest. refl) 0 (globals_in m.typed.program.items) h.globals k k g at is) shows;
      casts = λ s t a found x f same.
          (cast_is W N T m.typed t.span t.ctype.base (modes_of m (cast_row m.typed s)) (modes_at m a)).0
          (back S (source_notes m a) (cast_notes m.typed t.span t.ctype.base (modes_of m (cast_row m.typed s)) (modes_at m a)) (own (tree.cast s t a) x)) found f same;
      readonly_taken = λ a t is. ((source_is a).0 (taken_source a t)).0 is;
      unmet = λ ds all l c is. (call_said ds all c).unmet l is;
      siblings = λ s a w n x is none. ((siblings_are s (base_use m.typed w a)).0 (field_said s a w n x is)).0 none;
      named = name_said;
      taken = λ a x t is. ((source_is a).0 (taken_source a t)).1 x is;
    }

  module _ (touched : ℕ → Bool) (h : Holds W N T m touched) where
    given_back : (modes : List Sharing) (e : Expression) → IsGiven m modes e → H (agree_notes m (Some modes) e)
    given_back modes e g =
        (agree_is W N T m.typed (span_of e) (base_of (kind_at m.typed e)) (Some modes) (modes_at m e)).1
        (λ to from w f same. h.given modes from e g f (ap (λ z. same_all m.typed z from) (same_some modes to w) ∙ same))

    call_there : (ds : List Declaration) (all : Arguments) → IsCall m ds all → (s : Span) → H (call_notes m s ds all)
    call_there ds all c s = call_back s ds all (record { unmet = λ l is. h.unmet ds all l c is; named = λ d l x has path o. h.named x (by_call c has path o) })

    arguments_there : (ds : List Declaration) (all : Arguments) → IsCall m ds all → H (argument_notes m ds all ds all)
    arguments_there ds all c = arguments_back ds all ds all (λ d e has. given_back (modes_of m (declared_row m.typed (at_call ds all) d.name.site.token)) e (an_argument c has))

    source_there : (a : Expression) → IsTaken m a → H (source_notes m a)
    source_there a t = (source_is a).1 (h.readonly_taken a t, λ x is. h.taken a x t is)

    place_there_said : (s : Span) (w : PlaceCall) (a : Expression) → IsExpression m (tree.on_place s w a) → H (place_notes m w a)
    place_there_said s Free a x = source_there a (freed x)
    place_there_said s _ a x = tt

    own_there : (e : Expression) → IsExpression m e → H (own_notes m e)
    own_there (tree.call s f all) x =
        let ds = parameters_named m.typed (named_at m.typed f.site.token) in
        both S (argument_notes m ds all ds all) (call_notes m s ds all) (arguments_there ds all (called x)) (call_there ds all (called x) s)
    own_there (tree.spawn s f a) x =
        let ds = parameters_named m.typed (named_at m.typed f.site.token) in
        let agree = agree_notes m (expected m ds (argument a no_arguments) ds) a in
        both S agree (call_notes m s ds (argument a no_arguments)) (front S agree [] (arguments_there ds (argument a no_arguments) (spawned x))) (call_there ds (argument a no_arguments) (spawned x) s)
    own_there (tree.on_place s w a) x = place_there_said s w a x
    own_there (tree.cast s t a) x =
        both S (source_notes m a) (cast_notes m.typed t.span t.ctype.base (modes_of m (cast_row m.typed s)) (modes_at m a)) (source_there a (cast_away x))
        ((cast_is W N T m.typed t.span t.ctype.base (modes_of m (cast_row m.typed s)) (modes_at m a)).1 (λ from f same. h.casts s t a from x f same))
    own_there (tree.field s a w n) x =
        choose S (list_any (is_sibling m.typed) (modes_of m (named_row m.typed written (named_at m.typed n.site.token)))) (sibling_notes m.typed s (base_use m.typed w a))
        (λ is. (siblings_are s (base_use m.typed w a)).1 (λ none. h.siblings s a w n x is none, λ at y b v. h.named y (by_use x is b v)))
    own_there _ x = tt

    transfer_there : (f : Function) → IsFunction m f → (receiver : Receiver) (source : Right) → Contains (function_transfers m.typed f) record { receiver = receiver; source = source } → ReceiverSaid m S f.name.site.token receiver source
    transfer_there f fn (lvalue u) (value e) has =
        let a : IsAssigned m u (value e) = record { owner = f; stands = fn; does = has } in (
          (where_is W N T (is_readonly (cell_at m u)) ReadonlyWrite (span_of u) (span_text m.typed (span_of u))).1 (h.assigned u (value e) a),
          (agree_is W N T m.typed (span_of e) (base_of (kind_at m.typed e)) (modes_at m u) (modes_at m e)).1 (λ to from w g same. h.given to from e (assigned a w) g same),
        )
    transfer_there f fn (lvalue u) (malloc s n t) has =
        ((where_is W N T (is_readonly (cell_at m u)) ReadonlyWrite (span_of u) (span_text m.typed (span_of u))).1 (h.assigned u (malloc s n t) (record { owner = f; stands = fn; does = has })), tt)
    transfer_there f fn (variable d) x has = tt
    transfer_there f fn (result w) (value e) has = given_back (modes_of m (declared_row m.typed written f.name.site.token)) e (returned fn has)
    transfer_there f fn (result w) (malloc s n t) has = tt

    initial_there : (f : Function) → IsFunction m f → (l : Local) → Contains (locals_in_all f.statements) l → (o : Option Right) → l.initial ≡ o → InitialSaid m S l.declaration o
    initial_there f fn l has (Some (value e)) is = given_back (modes_of m (declared_row m.typed written l.declaration.name.site.token)) e (initial fn has is)
    initial_there f fn l has _ is = tt

    function_there : (f : Function) → IsFunction m f → FunctionSaid m S f
    function_there f fn = (
      to_each (OwnSaid m S) (in_function f) (λ e has. own_there e (record { owner = f; stands = fn; inside = has })),
      to_each (TransferSaid m S f.name.site.token) (function_transfers m.typed f) (λ t has. transfer_there f fn t.receiver t.source has),
      to_each (LocalSaid m S) (locals_in_all f.statements) (λ l has. initial_there f fn l has l.initial refl),
    )

    pub from_holds : Facts m touched S
    from_holds = record {
      types = λ n at. (type_is n).1 (record {
        private_below = h.private_below n at;
        paths = λ path is. h.paths n path at is;
        modes = λ mode is. h.modes n mode at is;
        fields = h.fields n at;
        named = λ path x has o. h.named x (by_type at has o);
      });
      threads = numbered_back (spawned_notes m) thread_notes (λ k. refl) (λ k x rest. refl) 0 (functions_in m.typed.program.items)
          (λ i j f at is. let same : j ≡ i = omega (arith, at) in (thread_is j f).1 (λ d. h.parameters j f d (ap (slice_get (functions_in m.typed.program.items)) same ∙ is)));
      globals = numbered_back (touched_notes touched) (global_notes touched) (λ k. refl) (λ k x rest. refl) 0 (globals_in m.typed.program.items)
          (λ i j g at is.
          let same : j ≡ i = omega (arith, at) in
          (where_is W N T (shows_private touched j g) PrivateReachesThread g.declaration.written.span g.declaration.name.text).1 (h.globals j g (ap (slice_get (globals_in m.typed.program.items)) same ∙ is)));
      functions = function_there;
    }
