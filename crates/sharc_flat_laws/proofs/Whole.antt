-- Each function of a typed program suits.
use Rattle.sharc_flat_laws.proofs.{Imports.{◌≡◌, ℕ, zero, suc, false, List, [], ◌∷◌, ◌++◌, length, slice_get, refl, ap, subst, Some, is_some, false≢true, AllByRecursion, Declaration, LowItems, LowStatements, Function, Item, structure, global, function, Named, Scope, declared_kind, Entry, GlobalCells, with_parameters, in_body, file_scope, Resolution, functions_in, declared, is_aggregate, locals_in_all, Assignment, IsItself, EachNamesItself, EachNamesFound, MeetsConstraints, OneType, MeetsStatements, AllFair, NamesFound, IsPlain, ArePlain, Placing, places_of, places_of_all, around_in, parameters_scope, in_function, Context, slot_of, Slot, LocksAt, LocksAreFound, TypedSuits, same_some, front, back, together}, FileNames.in_file, Fits.well_moded_fit, Unguarded.globals_unguarded, Scoped.{MeaningIsHere, Same, Own, with_variable}, Walking.statements_suit}

-- in lists

at_place : {A : Type 0} (P : A → Type 0) (list : List A) (n : ℕ) (x : A) → AllByRecursion P list → slice_get list n ≡ Some x → P x
at_place P [] n x all is = absurd (false≢true (ap is_some is))
at_place P (y ∷ rest) zero x all is = subst P (same_some y x is) all.0
at_place P (y ∷ rest) (suc n) x all is = at_place P rest n x all.1 is

places_at : (P : Placing → Type 0) (file : Scope) (list : List Function) (n : ℕ) (f : Function) → AllByRecursion P (places_of_all file list) → slice_get list n ≡ Some f → AllByRecursion P (places_of file f)
places_at P file [] n f all is = absurd (false≢true (ap is_some is))
places_at P file (g ∷ rest) zero f all is = subst (λ z. AllByRecursion P (places_of file z)) (same_some g f is) (front P (places_of file g) (places_of_all file rest) all)
places_at P file (g ∷ rest) (suc n) f all is = places_at P file rest n f (back P (places_of file g) (places_of_all file rest) all) is

low_functions : (items : List Item) → LowItems items → AllByRecursion (λ f. LowStatements f.statements) (functions_in items)
low_functions [] h = tt
low_functions (structure s ∷ rest) h = low_functions rest h.1
low_functions (global g ∷ rest) h = low_functions rest h.1
low_functions (function f ∷ rest) h = (h.0.2, low_functions rest h.1)

owned : (r : Resolution) (list : List Declaration) → AllByRecursion (IsItself r Named.Variable) list → AllByRecursion (λ d. is_aggregate (declared_kind d.written) ≡ false) list → AllByRecursion (Own r) list
owned r [] h p = tt
owned r (d ∷ rest) h p = (record { is = h.0.1; plain = p.0 }, owned r rest h.1 p.1)

-- parameters

abbrev with_scope : Assignment → List GlobalCells → List Slot → Context
with_scope m globals scope = record { program = m; globals = globals; scope = scope }

moved : (a : List Slot) (s : Slot) (rest : List Slot) → (a ++ s ∷ []) ++ rest ≡ a ++ s ∷ rest
moved [] s rest = refl
moved (x ∷ a) s rest = ap (λ z. x ∷ z) (moved a s rest)

nothing_more : (a : List Slot) → a ≡ a ++ []
nothing_more [] = refl
nothing_more (x ∷ a) = ap (λ z. x ∷ z) (nothing_more a)

with_all : (m : Assignment) (globals : List GlobalCells) (scope : List Slot) (block : ℕ) (names : List Entry) (list : List Declaration) → Same (with_scope m globals scope) names → AllByRecursion (Own m.typed) list
    → Same (with_scope m globals (scope ++ parameters_scope list)) (with_parameters block names list)
with_all m globals scope block names [] same own = subst (λ z. Same (with_scope m globals z) names) (nothing_more scope) same
with_all m globals scope block names (d ∷ rest) same own =
    subst (λ z. Same (with_scope m globals z) (with_parameters block (declared block d names) rest)) (moved scope (slot_of d) (parameters_scope rest))
    (with_all m globals (scope ++ slot_of d ∷ []) block (declared block d names) rest (with_variable (with_scope m globals scope) block d names same own.0) own.1)

-- of the whole program

pub typed_suits : LocksAreFound → EachNamesItself → EachNamesFound → OneType → MeetsConstraints → MeetsStatements → AllFair → ArePlain → TypedSuits
typed_suits locks_found itself found one constraints statements fair are_plain m resolved placed low least well cells n f is =
    let locks = locks_found m resolved placed low least in
    let r = m.typed in
    let items = r.program.items in
    let file = file_scope items in
    let plain = are_plain r resolved placed low in
    let p = at_place IsPlain (functions_in items) n f plain is in
    let names = at_place _ (functions_in items) n f (itself r resolved placed low).variables is in
    let own = owned r (f.parameters ++ locals_in_all f.statements) names p.0 in
    let same = with_all m cells [] (length file.names) file.names f.parameters (record { names = in_file (MeaningIsHere (with_scope m cells [])) (λ n g. tt) (λ n s. tt) (λ k. tt) items; slots = tt }) (front _ f.parameters (locals_in_all f.statements) own) in
    statements_suit (in_function m cells f) (around_in file f) (in_body file f) same f.result false f.statements
    (record {
      facts = record { one = one r resolved placed low; results = λ k g at. (at_place IsPlain (functions_in items) k g plain at).1; globals = globals_unguarded m least (well_moded_fit m well) };
      own = back _ f.parameters (locals_in_all f.statements) own;
      known = together (λ (q : Placing). NamesFound r q q.expression) (LocksAt m) (λ (q : Placing). NamesFound r q q.expression × LocksAt m q) (λ q a b. (a, b)) (places_of file f) (places_at _ file (functions_in items) n f (found r resolved placed low) is) (places_at _ file (functions_in items) n f locks.places is);
      typed = at_place _ (functions_in items) n f (constraints r resolved placed low) is;
      meets = at_place _ (functions_in items) n f (statements r resolved placed low) is;
      low = at_place _ (functions_in items) n f (low_functions items low) is;
      fair = at_place _ (functions_in items) n f (fair r resolved placed low) is;
      locks = at_place _ (functions_in items) n f locks.locals is;
    })
