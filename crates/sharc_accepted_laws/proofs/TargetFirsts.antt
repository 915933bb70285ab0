-- The first cells of mutexes and of condition variables.
use Rattle.sharc_accepted_laws.proofs.{Imports.{◌≡◌, ℕ, ◌<◌, Bool, true, false, cond, List, [], ◌∷◌, length, get_or as slice_index_or, refl, ap, sym, ◌∙◌, subst, arith, bytes_eq, Some, None, Contains, codes, Base, StructDefinition, Numbered, entities_in, numbered, structs_in, struct_named, Assignment, FieldMode, TableTarget as Target, Field, no_field, FirstLaws, MutexesFirst, WaitersFirst, known_condition, known_mutex, entity_shapes, shapes_of, own_mode, single, members, struct_fields, head_there, tail_there, right_there}, Numbers.numbers_found}

-- a struct that the program does not define is a condition variable
single_fields : (m : Assignment) (q : FieldMode) (list : List StructDefinition) (name : List ℕ) → struct_named list name ≡ None → struct_fields m q list name ≡ single q (Base.Struct name) ∷ []
single_fields m q [] name none = refl
single_fields m q (s ∷ rest) name none = by (bytes_eq s.name.text name) none (single_fields m q rest name)
  where
    by : (b : Bool) → cond b (Some s) (struct_named rest name) ≡ None → (struct_named rest name ≡ None → struct_fields m q rest name ≡ single q (Base.Struct name) ∷ [])
        → cond b (members m q 0 s.fields) (struct_fields m q rest name) ≡ single q (Base.Struct name) ∷ []
    by true h later = absurd (cc)
    by false h later = later h

mutexes_first : MutexesFirst
mutexes_first m f has =
    let row = (numbers_found m (record { base = Base.Mutex; forms = f ∷ [] }) has).row in
    record { some = subst (λ (t : Target). 0 < length t.fields) (sym row) (omega arith); holds = ap (λ (t : Target). (slice_index_or t.fields 0 no_field).holds) row }

waiters_first : WaitersFirst
waiters_first m f none has =
    let row = (numbers_found m (record { base = Base.Struct (codes "cond"); forms = f ∷ [] }) has).row in
    let fields = single_fields m (own_mode f) (structs_in m.typed.program.items) (codes "cond") none in
    record {
      some = subst (λ (t : Target). 0 < length t.fields) (sym row) (subst (λ (l : List Field). 0 < length l) (sym fields) (omega arith));
      holds = ap (λ (t : Target). (slice_index_or t.fields 0 no_field).holds) row ∙ ap (λ (l : List Field). (slice_index_or l 0 no_field).holds) fields;
    }

condition_there : (m : Assignment) (list : List Numbered) → Contains (shapes_of m list) known_condition
condition_there m [] = head_there known_condition (known_mutex ∷ [])
condition_there m (n ∷ rest) = right_there (entity_shapes m n) (shapes_of m rest) known_condition (condition_there m rest)

mutex_there : (m : Assignment) (list : List Numbered) → Contains (shapes_of m list) known_mutex
mutex_there m [] = tail_there known_condition known_mutex (known_mutex ∷ []) (head_there known_mutex [])
mutex_there m (n ∷ rest) = right_there (entity_shapes m n) (shapes_of m rest) known_mutex (mutex_there m rest)

pub first_laws : FirstLaws
first_laws = record {
  mutexes = mutexes_first;
  waiters = waiters_first;
  condition = λ m. condition_there m (numbered (entities_in m.typed.program.items));
  mutex = λ m. mutex_there m (numbered (entities_in m.typed.program.items));
}
