-- The laws of typed programs.
use Rattle.sharc_ctype_laws.proofs.{Imports.{◌≡◌, ◌++◌, length, Some, arith, refl, AllByRecursion, IsLow, items_marks, in_function, Expression, HasType, NamesOwnVariables, MeetsRules, MeetsGlobals, SpawnsByName, SpawnsNameFunctions, SpawnsThreads, ReachesFunctions, OneType, EachNameOnce, OnlyNames, EachNamesItself, EachNamesOwn, NamesFound, EachNamesFound, EachPathFound, IsPlain, ArePlain, NamesInTypes, SameKinds, MeetsConstraints, MeetsStatements, AllFair, WithinLimits, HasMain, IsClosed, PathsAt, BodyStands, Placing, places_of, places_of_all, EachTypeFound, look_up, type_of, notes_of, IsFair, function_transfers, file_scope, items_notes, notes_about, main_missing, sizes_notes, heads_notes, no_heads, Resolution, IsResolved, functions_in, declarations_in, kind_at, each, together}, Closed.{AnyVariable, items_closed, body_stands, cast_stands, none_closed, all_types}, Exact.{program_is, program_most}, Begun.globals_meet, FileScene.{file_scene, each_function}, Forgotten.in_function_all, Held.{Held, left, right, clean}, Judged.{named_by, spawned_name}, Limited.{few, small, few_cells, main_is}, TypesFound.{each_found, all_declared}, OwnTokens.{HasOwnTokens, own_tokens, all_held}, Reached.{spawned_thread, reached_function}, OwnVariables.{own_variables, none_in_file}, Scenes.IsScene, ToldOnce.{counted, name_counted, name_there, told_once}, Checked.{of_function, items_places, named_items, plain_function, themselves}, Walked.{AreDeclared, JudgedAt}}
use Rattle.sharc_tree.specs.Tree as tree
use Rattle.sharc_ctype_laws.proofs.OneType as types

-- what is known of a typed program whose names have tokens of their own
pub record IsSound (r : Resolution) : Type 0 where
  pub notes : Held r (notes_about r.program)
  pub declared : AreDeclared r (declarations_in r.program.items)
  pub heads : Held r (heads_notes no_heads r.program.items)
  pub items : Held r (items_notes (file_scope r.program.items) r.program.items)
  pub scene : IsScene r (file_scope r.program.items)
  pub main : Held r (main_missing (length r.program.tokens.list) (file_scope r.program.items).names)

pub sound : (r : Resolution) → IsResolved r → HasOwnTokens r.program → IsLow r.program → IsSound r
sound r resolved own low =
    let all = all_held r resolved own low in
    let d = all_declared r own in
    let items = right _ (heads_notes no_heads r.program.items) (items_notes (file_scope r.program.items) r.program.items) (left _ _ (sizes_notes (file_scope r.program.items).structs 0 r.program.items) (left _ _ _ all)) in
    record { notes = all; declared = d; heads = left _ _ _ (left _ _ _ (left _ _ _ all)); items = items; scene = file_scene r d items; main = right _ _ _ all }

all_places : (r : Resolution) → IsSound r → AllByRecursion (JudgedAt r) (places_of_all (file_scope r.program.items) (functions_in r.program.items))
all_places r s = items_places r (file_scope r.program.items) s.scene r.program.items s.declared s.items

pub same_kinds : SameKinds
same_kinds r resolved placed low =
    each (JudgedAt r) (λ p. type_of p.scope p.expression ≡ Some (kind_at r p.expression)) (λ p j. j.judged.typed) (places_of_all (file_scope r.program.items) (functions_in r.program.items))
    (all_places r (sound r resolved (own_tokens r.program placed) low))

pub names_in_types : NamesInTypes
names_in_types r resolved placed low =
    let s = sound r resolved (own_tokens r.program placed) low in
    named_items r (file_scope r.program.items) s.scene r.program.items s.declared s.items

pub each_type_found : EachTypeFound
each_type_found r resolved placed low = each_found r placed (names_in_types r resolved placed low)

pub meets_constraints : MeetsConstraints
meets_constraints r resolved placed low =
    let s = sound r resolved (own_tokens r.program placed) low in
    each_function r (file_scope r.program.items) (λ f. AllByRecursion (λ e. HasType r e (kind_at r e)) (in_function f))
    (λ f d h. in_function_all (λ e. HasType r e (kind_at r e)) (file_scope r.program.items) f
    (each (JudgedAt r) (λ p. HasType r p.expression (kind_at r p.expression)) (λ p j. j.judged.has) (places_of (file_scope r.program.items) f) (of_function r (file_scope r.program.items) s.scene f d h).places))
    r.program.items s.declared s.items

spawned_by_name : (r : Resolution) (p : Placing) → JudgedAt r p → SpawnsByName r p.expression
spawned_by_name r p j = by p.expression j.held
  where
    by : (e : Expression) → Held r (notes_of p.scope e) → SpawnsByName r e
    by (tree.spawn s f a) h = spawned_name r p.scope s f a h
    by _ h = tt

pub spawns_name_functions : SpawnsNameFunctions
spawns_name_functions r resolved placed low =
    let s = sound r resolved (own_tokens r.program placed) low in
    each_function r (file_scope r.program.items) (λ f. AllByRecursion (SpawnsByName r) (in_function f))
    (λ f d h. in_function_all (SpawnsByName r) (file_scope r.program.items) f
    (each (JudgedAt r) (λ p. SpawnsByName r p.expression) (spawned_by_name r) (places_of (file_scope r.program.items) f) (of_function r (file_scope r.program.items) s.scene f d h).places))
    r.program.items s.declared s.items

pub meets_statements : MeetsStatements
meets_statements r resolved placed low =
    let s = sound r resolved (own_tokens r.program placed) low in
    each_function r (file_scope r.program.items) (MeetsRules r) (λ f d h. (of_function r (file_scope r.program.items) s.scene f d h).meets) r.program.items s.declared s.items

pub all_fair : AllFair
all_fair r resolved placed low =
    let s = sound r resolved (own_tokens r.program placed) low in
    each_function r (file_scope r.program.items) (λ f. AllByRecursion (IsFair r) (function_transfers r f)) (λ f d h. (of_function r (file_scope r.program.items) s.scene f d h).fair) r.program.items s.declared s.items

pub each_name_once : EachNameOnce
each_name_once r resolved placed low token c =
    let own = own_tokens r.program placed in
    let s = sound r resolved own low in
    let e = program_is token r (length r.program.tokens.list) r.program.items s.scene low s.declared s.items in
    let o = own.once token in
    let w = name_counted token (items_marks r.program.items) c in
    told_once r token s.notes (omega (arith, e, o, w))

pub only_names : OnlyNames
only_names r resolved placed low token c =
    let m = program_most token r (length r.program.tokens.list) r.program.items low in
    let t = counted token (notes_about r.program) c in
    name_there token (items_marks r.program.items) (omega (arith, m, t))

pub within_limits : WithinLimits
within_limits p typed =
    let all = clean (notes_about p) typed in
    let some = left _ (heads_notes no_heads p.items ++ items_notes (file_scope p.items) p.items ++ sizes_notes (file_scope p.items).structs 0 p.items) _ all in
    let both_lists = left _ (heads_notes no_heads p.items ++ items_notes (file_scope p.items) p.items) (sizes_notes (file_scope p.items).structs 0 p.items) some in
    let counts = few no_heads p.items (omega arith) (omega arith) (omega arith) (left _ (heads_notes no_heads p.items) (items_notes (file_scope p.items) p.items) both_lists) in
    let parts = small (file_scope p.items) p.items (right _ (heads_notes no_heads p.items) (items_notes (file_scope p.items) p.items) both_lists) in
    let cells = few_cells (file_scope p.items).structs 0 p.items (omega arith) (right _ (heads_notes no_heads p.items ++ items_notes (file_scope p.items) p.items) (sizes_notes (file_scope p.items).structs 0 p.items) some) in
    let structs_few = counts.structs in
    let globals_few = counts.globals in
    let functions_few = counts.functions in
    let cells_few = cells.cells in
    record {
      structs = omega (arith, structs_few);
      globals = omega (arith, globals_few);
      functions = omega (arith, functions_few);
      fields = parts.fields;
      parameters = parts.parameters;
      locals = parts.locals;
      elements = cells.elements;
      cells = omega (arith, cells_few);
    }

pub has_main : HasMain
has_main r resolved placed low =
    let s = sound r resolved (own_tokens r.program placed) low in
    main_is r (file_scope r.program.items) s.scene (length r.program.tokens.list) s.main

pub each_names_itself : EachNamesItself
each_names_itself r resolved placed low =
    let s = sound r resolved (own_tokens r.program placed) low in
    themselves r no_heads (file_scope r.program.items) refl refl refl s.scene s.declared s.heads s.items

pub each_names_own : EachNamesOwn
each_names_own r resolved placed low =
    let s = sound r resolved (own_tokens r.program placed) low in
    each_function r (file_scope r.program.items) (NamesOwnVariables r) (λ f d h. own_variables r r.program.items f h (of_function r (file_scope r.program.items) s.scene f d h).places) r.program.items s.declared s.items

pub one_type : OneType
one_type r resolved placed low e k h = types.one_type r (each_names_itself r resolved placed low) e k h

pub spawns_threads : SpawnsThreads
spawns_threads r resolved placed low n m h = spawned_thread r (meets_constraints r resolved placed low) n m h

pub reaches_functions : ReachesFunctions
reaches_functions r resolved placed low m h = reached_function r (meets_constraints r resolved placed low) m h

pub meets_globals : MeetsGlobals
meets_globals p typed =
    let sized = left _ (heads_notes no_heads p.items ++ items_notes (file_scope p.items) p.items ++ sizes_notes (file_scope p.items).structs 0 p.items) _ (clean (notes_about p) typed) in
    globals_meet (file_scope p.items) p.items
    (right _ (heads_notes no_heads p.items) (items_notes (file_scope p.items) p.items) (left _ (heads_notes no_heads p.items ++ items_notes (file_scope p.items) p.items) (sizes_notes (file_scope p.items).structs 0 p.items) sized))

names_found : (r : Resolution) (p : Placing) → JudgedAt r p → NamesFound r p p.expression
names_found r p j = by p.expression j.held
  where
    by : (e : Expression) → Held r (notes_of p.scope e) → NamesFound r p e
    by (tree.identifier s i) h = let n = named_by r i (look_up p.scope.names i.text) h in (n.entry, n.found, n.names)
    by _ h = tt

pub each_names_found : EachNamesFound
each_names_found r resolved placed low =
    each (JudgedAt r) (λ p. NamesFound r p p.expression) (λ p j. names_found r p j) (places_of_all (file_scope r.program.items) (functions_in r.program.items))
    (all_places r (sound r resolved (own_tokens r.program placed) low))

pub each_path_found : EachPathFound
each_path_found r resolved placed low =
    let s = sound r resolved (own_tokens r.program placed) low in
    let none = none_in_file (λ d. ⊥) r.program.items in
    record {
      places = together (JudgedAt r) (λ p. IsClosed r p.scope.names) (PathsAt r) (λ p j c. record { closed = c; cast = cast_stands r p.scope p.expression j.held }) (places_of_all (file_scope r.program.items) (functions_in r.program.items))
          (all_places r s) (items_closed r (file_scope r.program.items) (none_closed r (file_scope r.program.items).names none, none_in_file AnyVariable r.program.items) r.program.items s.items);
      locals = each_function r (file_scope r.program.items) (BodyStands r (file_scope r.program.items)) (λ f d h. body_stands r (file_scope r.program.items) f h) r.program.items s.declared s.items;
      types = all_types r (file_scope r.program.items) none r.program.items s.items;
    }

pub are_plain : ArePlain
are_plain r resolved placed low =
    let s = sound r resolved (own_tokens r.program placed) low in
    each_function r (file_scope r.program.items) IsPlain (λ f d h. plain_function r (file_scope r.program.items) s.scene f d h) r.program.items s.declared s.items
