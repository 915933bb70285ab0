-- The fields and the globals of a program are entities of it, found by their tokens.
use Rattle.sharc_accepted_laws.proofs.{Imports.{◌≡◌, ⊎_elim, ◌<◌, List, [], ◌∷◌, length, map, ap, subst, Some, Contains, AllByRecursion, Declaration, GlobalDefinition, StructDefinition, LowItems, Item, structure, global, function, Role, Entity, Numbered, declared, function_entities, entities_in, numbered, entity_at, is_told_by, Resolution, structs_in, globals_in, IsFound, Assignment, IsEntity, front, back, head_or_tail, of_each, none_there}, TargetLists.each_mapped, Written.found_there}

-- ---- what is found at the tokens of an entity
pub record IsThere (m : Assignment) (e : Entity) : Type 0 where
  pub numbered : Numbered
  pub is_entity : IsEntity m numbered
  pub found : entity_at m.typed e.token e.last ≡ Some numbered
  pub role : numbered.entity.role ≡ e.role
  pub written : numbered.entity.written ≡ e.written

pub is_there : (m : Assignment) (e : Entity) → IsFound m.typed e → IsThere m e
is_there m e f = record {
  numbered = f.numbered;
  is_entity = found_there (is_told_by e.token e.last) (numbered (entities_in m.typed.program.items)) f.numbered f.found;
  found = f.found;
  role = ap (λ (x : Entity). x.role) f.itself;
  written = ap (λ (x : Entity). x.written) f.itself;
}

fields_in : (r : Resolution) (items : List Item) → AllByRecursion (IsFound r) (entities_in items) → (s : StructDefinition) → Contains (structs_in items) s → AllByRecursion (IsFound r) (map (declared Role.Field) s.fields)
fields_in r [] all s has = absurd (none_there s has)
fields_in r (structure x ∷ rest) all s has =
    ⊎_elim (λ is. subst (λ (z : StructDefinition). AllByRecursion (IsFound r) (map (declared Role.Field) z.fields)) is (front (IsFound r) (map (declared Role.Field) x.fields) (entities_in rest) all))
    (λ later. fields_in r rest (back (IsFound r) (map (declared Role.Field) x.fields) (entities_in rest) all) s later) (head_or_tail x s (structs_in rest) has)
fields_in r (global g ∷ rest) all s has = fields_in r rest all.1 s has
fields_in r (function f ∷ rest) all s has = fields_in r rest (back (IsFound r) (function_entities f) (entities_in rest) all) s has

pub field_found : (m : Assignment) → AllByRecursion (IsFound m.typed) (entities_in m.typed.program.items) → (s : StructDefinition) (d : Declaration) → Contains (structs_in m.typed.program.items) s → Contains s.fields d → IsThere m (declared Role.Field d)
field_found m all s d is_struct is_member =
    is_there m (declared Role.Field d) (of_each (λ (z : Declaration). IsFound m.typed (declared Role.Field z)) s.fields d (each_mapped (IsFound m.typed) (declared Role.Field) s.fields (fields_in m.typed m.typed.program.items all s is_struct)) is_member)

global_in : (r : Resolution) (items : List Item) → AllByRecursion (IsFound r) (entities_in items) → (g : GlobalDefinition) → Contains (globals_in items) g → IsFound r (declared Role.Global g.declaration)
global_in r [] all g has = absurd (none_there g has)
global_in r (structure x ∷ rest) all g has = global_in r rest (back (IsFound r) (map (declared Role.Field) x.fields) (entities_in rest) all) g has
global_in r (global x ∷ rest) all g has =
    ⊎_elim (λ is. subst (λ (z : GlobalDefinition). IsFound r (declared Role.Global z.declaration)) is all.0) (λ later. global_in r rest all.1 g later) (head_or_tail x g (globals_in rest) has)
global_in r (function f ∷ rest) all g has = global_in r rest (back (IsFound r) (function_entities f) (entities_in rest) all) g has

pub global_found : (m : Assignment) → AllByRecursion (IsFound m.typed) (entities_in m.typed.program.items) → (g : GlobalDefinition) → Contains (globals_in m.typed.program.items) g → IsThere m (declared Role.Global g.declaration)
global_found m all g has = is_there m (declared Role.Global g.declaration) (global_in m.typed m.typed.program.items all g has)

-- the type of a global has a level
pub global_low : (items : List Item) → LowItems items → (g : GlobalDefinition) → Contains (globals_in items) g → 0 < length g.declaration.written.ctype.levels
global_low [] low g has = absurd (none_there g has)
global_low (structure x ∷ rest) low g has = global_low rest low.1 g has
global_low (global x ∷ rest) low g has =
    ⊎_elim (λ is. subst (λ (z : GlobalDefinition). 0 < length z.declaration.written.ctype.levels) is low.0.0.0) (λ later. global_low rest low.1 g later) (head_or_tail x g (globals_in rest) has)
global_low (function f ∷ rest) low g has = global_low rest low.1 g has
