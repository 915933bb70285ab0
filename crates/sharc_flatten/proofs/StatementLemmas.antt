-- Statements one after the other, and the variables that they begin.
use Rattle.sharc_flatten.proofs.{Imports.{◌≡◌, ◌+◌, ◌<◌, List, [], ◌∷◌, ◌++◌, length, take, refl, ap, sym, ◌∙◌, append_assoc, append-nil, Statement, declare, Statements, no_statements, statement, Slot, Context, slot_of, behind_statement, behind_statements, PlacedProgram, context}, WalkLemmas.kept_first}

abbrev in_scope : Context → List Slot → Context
in_scope c s = record c { scope = s }

abbrev with_more : List Slot → Context → Context
with_more zs c = record c { scope = c.scope ++ zs }

none : (c : Context) → c ≡ record c { scope = c.scope ++ [] }
none c = ap (in_scope c) (sym (append-nil c.scope))

-- what a statement begins
pub grown : (c : Context) (x : Statement) → (zs : List Slot) × (behind_statement c x ≡ record c { scope = c.scope ++ zs })
grown c (declare s l) = (slot_of l.declaration ∷ [], refl)
grown c _ = ([], none c)

pub grown_all : (c : Context) (all : Statements) → (zs : List Slot) × (behind_statements c all ≡ record c { scope = c.scope ++ zs })
grown_all c no_statements = ([], none c)
grown_all c (statement x rest) =
    let one = grown c x in
    let more = grown_all (behind_statement c x) rest in (
      one.0 ++ more.0,
      more.1 ∙ ap (with_more more.0) one.1 ∙ ap (in_scope c) (append_assoc c.scope one.0 more.0),
    )

-- the variables before are kept
pub kept : (p : PlacedProgram) (xs ys : List Slot) (c : Context) → ((zs : List Slot) × (c ≡ record (context p xs) { scope = xs ++ zs })) → ys ≡ c.scope → take (length xs) ys ≡ xs
kept p xs ys c g e = kept_first xs ys g.0 (e ∙ ap (λ d. d.scope) g.1)
