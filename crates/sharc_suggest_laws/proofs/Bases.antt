-- What holds of all that has a type in a program holds of what is declared, and of the casts in what is given.
use Rattle.sharc_suggest_laws.proofs.{Imports.{Resolution, each, in_function, List, [], ◌∷◌, ◌++◌, sym, subst, AllByRecursion, WrittenType, Declaration, GlobalDefinition, expressions, Expression, cast, Function, Item, Entity, casts, entities_in, globals_in, functions_in, declarations_in, locals_in_all, Giving, items_givings, front, joint}, Grown.casts_append, Beside.{HasBelow, given_below}, Holders.{IsCastOf, IsDeclaredAs, InBody, IsHeldBy, held_by}}
use Rattle.sharc_tree.specs.Tree as tree

-- of the types of these
abbrev pub Have : (WrittenType → Type 0) → List Entity → Type 0
Have Q l = AllByRecursion (λ (e : Entity). Q e.written) l

abbrev pub HaveCasts : (WrittenType → Type 0) → List Expression → Type 0
HaveCasts Q l = Have Q (casts l)

both_have : (Q : WrittenType → Type 0) (a b : List Entity) → Have Q a → Have Q b → Have Q (a ++ b)
both_have Q a b f g = joint (λ (e : Entity). Q e.written) a b f g

pub both_casts : (Q : WrittenType → Type 0) (a b : List Expression) → HaveCasts Q a → HaveCasts Q b → HaveCasts Q (a ++ b)
both_casts Q a b f g = subst (Have Q) (sym (casts_append a b)) (both_have Q (casts a) (casts b) f g)

pub first_casts : (Q : WrittenType → Type 0) (a b : List Expression) → HaveCasts Q (a ++ b) → HaveCasts Q a
first_casts Q a b h = front (λ (e : Entity). Q e.written) (casts a) (casts b) (subst (Have Q) (casts_append a b) h)

-- ---- to what is declared, and to the casts in what is given

abbrev pub AreDeclared : (WrittenType → Type 0) → List Declaration → Type 0
AreDeclared Q ds = AllByRecursion (λ (d : Declaration). Q d.written) ds

abbrev pub IsGiven : (WrittenType → Type 0) → Giving → Type 0
IsGiven Q g = HaveCasts Q (expressions g.given)

abbrev pub AreGiven : (WrittenType → Type 0) → List Giving → Type 0
AreGiven Q gs = AllByRecursion (IsGiven Q) gs

pub record HoldInAll (Q : WrittenType → Type 0) (items : List Item) : Type 0 where
  pub declarations : AreDeclared Q (declarations_in items)
  pub globals : AllByRecursion (λ (g : GlobalDefinition). Q g.declaration.written) (globals_in items)
  pub results : AllByRecursion (λ (f : Function). Q f.result) (functions_in items)
  pub given : AreGiven Q (items_givings items)

of_casts : (Q : WrittenType → Type 0) (l : List Expression) → AllByRecursion (IsCastOf (λ (e : Entity). Q e.written)) l → HaveCasts Q l
of_casts Q [] h = tt
of_casts Q (cast s t a ∷ rest) h = (h.0, of_casts Q rest h.1)
of_casts Q (_ ∷ rest) h = of_casts Q rest h.1

pub in_all : (Q : WrittenType → Type 0) (r : Resolution) → Have Q (entities_in r.program.items) → HoldInAll Q r.program.items
in_all Q r h =
    let items : List Item = r.program.items in
    let P : Entity → Type 0 = λ (e : Entity). Q e.written in
    let held : IsHeldBy P items = held_by P items h in
    record {
      declarations = each (IsDeclaredAs P) (λ (d : Declaration). Q d.written) (λ d w. w.2) (declarations_in items) held.declarations;
      globals = held.globals;
      results = held.results;
      given = each (HasBelow (IsCastOf P)) (IsGiven Q) (λ g below. of_casts Q (expressions g.given) below) (items_givings items)
          (given_below (record { typed = r; modes = []; reasons = [] }) (IsCastOf P) items
          (each (λ (f : Function). InBody P (in_function f) (locals_in_all f.statements)) (λ (f : Function). AllByRecursion (IsCastOf P) (in_function f)) (λ f body. body.casts) (functions_in items) held.bodies));
    }
