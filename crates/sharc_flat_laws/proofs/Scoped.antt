-- The variables in scope are those of the flat scope.
use Rattle.sharc_flat_laws.proofs.{Imports.{◌≡◌, inl, inr, ℕ, ◌==◌, Bool, true, false, cond, List, [], ◌∷◌, ◌++◌, refl, ap, sym, ◌∙◌, subst, eqb-true, Option, Some, None, is_some, bytes_eq, false≢true, AllByRecursion, Declaration, Expression, Named, Scope, is_pointer, declared_kind, Entry, Meaning, look_up, named_of, Resolution, named_at, declaration_at, kind_at, variable_kind, is_aggregate, is_here, declared, Sharing, locked, HasType, NamesFound, Placing, at, meaning_token, IsVariableIn, Context, slot_of, slot_kind, Slot, PathNamed, PathStands, behind_declaration, IsHere, NameStands, PathNamedIn, PathIn, LocksAt, eqb_same, same_some, no_token}, Expressions.Stand, Pointing.{same_token as same_variable, no_global, no_function, no_known}}
use Rattle.sharc_tree.specs.Tree as tree
use Rattle.sharc_names.specs.Names as meaning

abbrev pub right_kind : Resolution → ℕ → Bool
right_kind r token = is_pointer (variable_kind (declaration_at r token))

abbrev pub SlotIsRight : Resolution → Slot → Type 0
SlotIsRight r s = s.is_pointer ≡ right_kind r s.token

abbrev pub MeaningIsHere : Context → Meaning → Type 0
MeaningIsHere c (meaning.variable d) = IsHere c d.name.site.token
MeaningIsHere c _ = Unit {0}

abbrev pub AreHere : Context → List Entry → Type 0
AreHere c names = AllByRecursion (λ e. MeaningIsHere c e.meaning) names

pub record Same (c : Context) (entries : List Entry) : Type 0 where
  pub names : AreHere c entries
  pub slots : AllByRecursion (SlotIsRight c.program.typed) c.scope

-- a parameter or a local: found by its token, no struct and no mutex
pub record Own (r : Resolution) (d : Declaration) : Type 0 where
  pub is : declaration_at r d.name.site.token ≡ Some d
  pub plain : is_aggregate (declared_kind d.written) ≡ false

-- one more variable

slot_more : (list more : List Slot) (x : ℕ) (b : Bool) → slot_kind list x ≡ Some b → slot_kind (list ++ more) x ≡ Some b
slot_more [] more x b h = absurd (false≢true (ap is_some h))
slot_more (s ∷ rest) more x b h = by (s.token == x) h (λ e. slot_more rest more x b e)
  where
    by : (z : Bool) → cond z (Some s.is_pointer) (slot_kind rest x) ≡ Some b → (slot_kind rest x ≡ Some b → slot_kind (rest ++ more) x ≡ Some b) → cond z (Some s.is_pointer) (slot_kind (rest ++ more) x) ≡ Some b
    by true e later = e
    by false e later = later e

slot_last : (r : Resolution) (list : List Slot) (s : Slot) → AllByRecursion (SlotIsRight r) (list ++ s ∷ []) → slot_kind (list ++ s ∷ []) s.token ≡ Some (right_kind r s.token)
slot_last r [] s all = ap (λ z. cond z (Some s.is_pointer) None) (eqb_same s.token) ∙ ap Some all.0
slot_last r (y ∷ rest) s all = by (y.token == s.token) refl (slot_last r rest s all.1)
  where
    by : (z : Bool) → (y.token == s.token) ≡ z → slot_kind (rest ++ s ∷ []) s.token ≡ Some (right_kind r s.token) → cond z (Some y.is_pointer) (slot_kind (rest ++ s ∷ []) s.token) ≡ Some (right_kind r s.token)
    by true h later = ap Some (all.0 ∙ ap (right_kind r) (eqb-true y.token s.token h))
    by false h later = later

one_more_slot : (r : Resolution) (list : List Slot) (s : Slot) → AllByRecursion (SlotIsRight r) list → SlotIsRight r s → AllByRecursion (SlotIsRight r) (list ++ s ∷ [])
one_more_slot r [] s all h = (h, tt)
one_more_slot r (y ∷ rest) s all h = (all.0, one_more_slot r rest s all.1 h)

still : (c : Context) (d : Declaration) (token : ℕ) → IsHere c token → IsHere (behind_declaration c d) token
still c d token h = record { slot = slot_more c.scope (slot_of d ∷ []) token _ h.slot; held = h.held }

still_meaning : (c : Context) (d : Declaration) (m : Meaning) → MeaningIsHere c m → MeaningIsHere (behind_declaration c d) m
still_meaning c d (meaning.variable x) h = still c d x.name.site.token h
still_meaning c d _ h = tt

still_all : (c : Context) (d : Declaration) (names : List Entry) → AreHere c names → AreHere (behind_declaration c d) names
still_all c d [] h = tt
still_all c d (e ∷ rest) h = (still_meaning c d e.meaning h.0, still_all c d rest h.1)

pub new_slots : (c : Context) (d : Declaration) → AllByRecursion (SlotIsRight c.program.typed) c.scope → Own c.program.typed d → AllByRecursion (SlotIsRight c.program.typed) (c.scope ++ slot_of d ∷ [])
new_slots c d s o = one_more_slot c.program.typed c.scope (slot_of d) s (sym (ap (λ z. is_pointer (variable_kind z)) o.is))

pub new_here : (c : Context) (d : Declaration) → AllByRecursion (SlotIsRight c.program.typed) c.scope → Own c.program.typed d → IsHere (behind_declaration c d) d.name.site.token
new_here c d s o = record { slot = slot_last c.program.typed c.scope (slot_of d) (new_slots c d s o); held = ap (λ z. is_aggregate (variable_kind z)) o.is ∙ o.plain }

either : (c : Context) (names : List Entry) (e : Entry) (b : Bool) → AreHere c names → MeaningIsHere c e.meaning → AreHere c (cond b names (e ∷ names))
either c names e true all h = all
either c names e false all h = (h, all)

pub with_variable : (c : Context) (block : ℕ) (d : Declaration) (names : List Entry) → Same c names → Own c.program.typed d → Same (behind_declaration c d) (declared block d names)
with_variable c block d names s o = record {
  names = either (behind_declaration c d) names (record { name = d.name.text; block = block; meaning = meaning.variable d }) (is_here block names d) (still_all c d names s.names) (new_here c d s.slots o);
  slots = new_slots c d s.slots o;
}

-- what is named is in scope

pub found_or_later : {A : Type 0} (P : A → Type 0) (x y : A) (later : Option A) (b : Bool) → cond b (Some x) later ≡ Some y → P x → (later ≡ Some y → P y) → P y
found_or_later P x y later true h p q = subst P (same_some x y h) p
found_or_later P x y later false h p q = q h

found : (c : Context) (names : List Entry) (name : List ℕ) (e : Entry) → AreHere c names → look_up names name ≡ Some e → MeaningIsHere c e.meaning
found c [] name e all is = absurd (false≢true (ap is_some is))
found c (x ∷ rest) name e all is = found_or_later (λ (z : Entry). MeaningIsHere c z.meaning) x e (look_up rest name) (bytes_eq x.name name) is all.0 (λ h. found c rest name e all.1 h)

meant : (c : Context) (m : Meaning) (token : ℕ) → MeaningIsHere c m → named_of m ≡ Named.Variable token → IsHere c token
meant c (meaning.variable d) token h is = subst (IsHere c) (same_variable _ _ is) h
meant c (meaning.global n g) token h is = absurd (no_global _ _ is)
meant c (meaning.function n s) token h is = absurd (no_function _ _ is)
meant c (meaning.condition k) token h is = absurd (no_known _ is)

name_stands : (c : Context) (scope : Scope) → AreHere c scope.names → (e : Expression) → NamesFound c.program.typed (record { scope = scope; expression = e }) e → NameStands c e
name_stands c scope all (tree.identifier s i) h = λ token is. meant c h.0.meaning token (found c scope.names i.text h.0 all h.1) (sym h.2 ∙ is)
name_stands c scope all _ h = tt

-- lock paths

variable_here : (c : Context) (names : List Entry) (x : ℕ) → AreHere c names → IsVariableIn names x → IsHere c x
variable_here c [] x all h = absurd h
variable_here c (e ∷ rest) x all (inr h) = variable_here c rest x all.1 h
variable_here c (e ∷ rest) x all (inl h) = by e.meaning all.0 h
  where
    by : (m : Meaning) → MeaningIsHere c m → meaning_token m ≡ Some x → IsHere c x
    by (meaning.variable d) a is = subst (IsHere c) (same_some _ _ is) a
    by _ a is = absurd (no_token x is)

path_named : (c : Context) (names : List Entry) → AreHere c names → (n : Named) (m : Option (List ℕ)) → PathNamedIn c.program.typed names n m → PathNamed c.scope n m
path_named c names all (Named.Variable x) (Some m) h = (variable_here c names x all h.0).slot ∙ ap Some h.1
path_named c names all _ _ h = tt

pub path_stands : (c : Context) (names : List Entry) → AreHere c names → (s : Sharing) → PathIn c.program.typed names s → PathStands c.program.typed c.scope s
path_stands c names all (locked l) h = path_named c names all (named_at c.program.typed l.first) l.second h
path_stands c names all _ h = tt

-- expressions at their places

abbrev pub Known : Context → Placing → Type 0
Known c p = NamesFound c.program.typed p p.expression × LocksAt c.program p

pub stand : (c : Context) (scope : Scope) → AreHere c scope.names → (list : List Expression) → AllByRecursion (Known c) (at scope list) → AllByRecursion (λ e. HasType c.program.typed e (kind_at c.program.typed e)) list → Stand c list
stand c scope all [] k h = tt
stand c scope all (e ∷ rest) k h =
    (record { has = h.0; name = name_stands c scope all e k.0.0; cell = path_stands c scope.names all _ k.0.1.cell; row = path_stands c scope.names all _ k.0.1.row }, stand c scope all rest k.1 h.1)
