-- The variables in scope in a function are its own parameters and locals: so are those that it names.
use Rattle.sharc_ctype_laws.proofs.{Imports.{◌≡◌, ℕ, Bool, true, false, cond, List, [], ◌∷◌, ◌++◌, map, refl, ap, sym, ◌∙◌, subst, arith, Some, is_some, bytes_eq, Contains, false≢true, AllByRecursion, Declaration, Expression, declares, Function, Item, structure, global, function, Named, Scope, Entry, Meaning, look_up, named_of, notes_of, function_notes, defines_condition, with_conditions, Heads, global_entry, function_entry, behind, behind_all, no_heads, file_scope, Resolution, locals_in_all, NamesOwn, NamesOwnVariables, Placing, places_of, together, later}, Closed.{IsVariable, AreVariables, Scoped, scoped_in, none_closed, same_variable}, Forgotten.in_function_all, Held.Held, Judged.named_by, Scenes.found_or_later, Walked.JudgedAt}
use Rattle.sharc_tree.specs.Tree as tree
use Rattle.sharc_names.specs.Names as meaning

abbrev InScope : (Declaration → Type 0) → Placing → Type 0
InScope P p = AreVariables P p.scope.names

either : (P : Declaration → Type 0) (names : List Entry) (e : Entry) (b : Bool) → AreVariables P names → IsVariable P e.meaning → AreVariables P (cond b names (e ∷ names))
either P names e true all m = all
either P names e false all m = (m, all)

-- the file declares none

none_in_heads : (P : Declaration → Type 0) (h : Heads) (items : List Item) → AreVariables P h.scope.names → AreVariables P (behind_all h items).scope.names
none_in_heads P h [] all = all
none_in_heads P h (structure s ∷ rest) all = none_in_heads P (behind h (structure s)) rest all
none_in_heads P h (global g ∷ rest) all = none_in_heads P (behind h (global g)) rest (either P h.scope.names (global_entry h.globals g) (is_some (look_up h.scope.names g.declaration.name.text)) all tt)
none_in_heads P h (function f ∷ rest) all = none_in_heads P (behind h (function f)) rest (either P h.scope.names (function_entry h.functions f) (is_some (look_up h.scope.names f.name.text)) all tt)

none_known : (P : Declaration → Type 0) (scope : Scope) (b : Bool) → AreVariables P scope.names → AreVariables P (cond b scope (with_conditions scope)).names
none_known P scope true all = all
none_known P scope false all = (tt, (tt, (tt, all)))

pub none_in_file : (P : Declaration → Type 0) (items : List Item) → AreVariables P (file_scope items).names
none_in_file P items = none_known P (behind_all no_heads items).scope (defines_condition (behind_all no_heads items).scope) (none_in_heads P no_heads items tt)

-- what is named

found : (P : Declaration → Type 0) (names : List Entry) (name : List ℕ) (e : Entry) → AreVariables P names → look_up names name ≡ Some e → IsVariable P e.meaning
found P [] name e all is = absurd (false≢true (ap is_some is))
found P (x ∷ rest) name e all is =
    found_or_later (λ (z : Entry). IsVariable P z.meaning) x e (look_up rest name) (bytes_eq x.name name) is (λ t. all.0) (λ h. found P rest name e all.1 h)

abbrev Among : List Declaration → Declaration → Type 0
Among own d = Contains (map (λ x. x.name.site.token) own) d.name.site.token

among : (own : List Declaration) (m : Meaning) (token : ℕ) → IsVariable (Among own) m → named_of m ≡ Named.Variable token → Contains (map (λ d. d.name.site.token) own) token
among own (meaning.variable d) token p is = subst (Contains (map (λ x. x.name.site.token) own)) (same_variable _ _ is) p
among own (meaning.global n g) token p is = absurd (let e : Named.Global n ≡ Named.Variable token = is in cc)
among own (meaning.function n s) token p is = absurd (let e : Named.Function n ≡ Named.Variable token = is in cc)
among own (meaning.condition c) token p is = absurd (let e : Named.Known ≡ Named.Variable token = is in cc)

names_own : (r : Resolution) (own : List Declaration) (p : Placing) → JudgedAt r p → InScope (Among own) p → NamesOwn r own p.expression
names_own r own p j v = by p.expression j.held
  where
    by : (e : Expression) → Held r (notes_of p.scope e) → NamesOwn r own e
    by (tree.identifier s i) h =
        let n = named_by r i (look_up p.scope.names i.text) h in
        λ token is. among own n.entry.meaning token (found (Among own) p.scope.names i.text n.entry v n.found) (sym n.names ∙ is)
    by _ h = tt

-- each is among them all

lifted : (x : Declaration) (own rest : List Declaration) → AllByRecursion (Among own) rest → AllByRecursion (Among (x ∷ own)) rest
lifted x own [] h = tt
lifted x own (d ∷ rest) h = (later x.name.site.token d.name.site.token (map (λ z. z.name.site.token) own) h.0, lifted x own rest h.1)

all_among : (own : List Declaration) → AllByRecursion (Among own) own
all_among [] = tt
all_among (x ∷ rest) = ((0, omega arith, refl), lifted x rest rest (all_among rest))

pub own_variables : (r : Resolution) (items : List Item) (f : Function) → Held r (function_notes (file_scope items) f) → AllByRecursion (JudgedAt r) (places_of (file_scope items) f) → NamesOwnVariables r f
own_variables r items f held j =
    let own = f.parameters ++ locals_in_all f.statements in
    in_function_all (NamesOwn r own) (file_scope items) f
    (together (JudgedAt r) (λ p. Scoped r (Among own) p.scope.names) (λ p. NamesOwn r own p.expression) (λ p h v. names_own r own p h v.1) (places_of (file_scope items) f) j
    (scoped_in r (Among own) (file_scope items) (none_closed r (file_scope items).names (none_in_file (λ d. ⊥) items), none_in_file (Among own) items) f held (all_among own)))
