-- What no thread reaches, and that private globals are named there alone.
use Rattle.sharc_accepted_laws.proofs.{Imports.{◌≡◌, ◌⊎◌, inl, inr, ⊎_elim, ℕ, zero, suc, ◌+◌, ◌<◌, ◌≤◌, Bool, true, false, cond, ◌&&◌, List, [], ◌∷◌, ◌++◌, length, slice_get, refl, ap, sym, ◌∙◌, subst, arith, Option, Some, None, IsSomeAnd, Contains, false≢true, and_parts, get_or as slice_index_or, AllByRecursion, option_or, Base, Mode, Private, Readonly, Locked, Racy, Span, Declaration, Identifier, WrittenType, Dot, Dereference, GlobalDefinition, expressions, in_function, Expression, Function, Named, Kind, is_array, declared_kind, Role, Entity, Numbered, declared, entities_in, numbered, is_told_by, positions_of, Names, Spawns, Runs, Leads, IsReached, tokens_of, Resolution, named_at, global_at, function_at, declaration_at, globals_in, functions_in, structs_in, kind_at, HasType, Callee, of_program, of_conditions, a_variable, a_global, a_function, a_field, IsItself, IsFound, EachTypeFound, EachNamesItself, EachPathFound, MeetsConstraints, NodeFinding, finding_at, is_mutex_kind, is_behind_pointer, written_cell, top_of, field_cell, declared_cell, field_named, first_mode, global_cell, named_cell, pointed, cell_at, IsFirst, Touches, IsRoot, mode_found, LinkLaws, Assignment, position_count, row_at, is_mutex, settled, settled_modes, settled_in, settled_at, Sharing, private, readonly, locked, racy, lock_of, sharing_of, RulesAreMet, ReachedAreTold, MeetsRules, in_global, in_global_at, in_object_at, global_of, own_field, named_target, target, IsInside, AreAlone, SomeAreAlone, IsAccepted, front, each, of_each, place_there}, Arrays.{IsNameOf, array_name}, Places.{InFile, FileKnown, FieldInFile, file_known, struct_fields, field_found, at_number, IfSome}, Tokens.{Named as IsAmong, names_among}, Settling.{IsPositioned, positioned}, Written.found_there, Found.global_low, TargetMembers.top_written}
use Rattle.sharc_tree.specs.Tree as tree
use Rattle.sharc_mode.specs.Sharings.{is_private, is_dynamic}

-- ---- what is reached
module _ (r : Resolution) where
  after : (between : List ℕ) (b n k : ℕ) → Leads r b between n → Runs r n k → Leads r b (between ++ k ∷ []) k
  after [] b n k h runs = (subst (λ x. Runs r x k) (sym h) runs, refl)
  after (x ∷ rest) b n k h runs = (h.0, after rest x n k h.1 runs)

  reached_on : (n k : ℕ) → IsReached r n → Runs r n k → IsReached r k
  reached_on n k h runs = record { spawner = h.spawner; first = h.first; spawned = h.spawned; between = h.between ++ k ∷ []; leads = after h.between h.first n k h.leads runs }

  reached_first : (n k : ℕ) → Spawns r n k → IsReached r k
  reached_first n k h = record { spawner = n; first = k; spawned = h; between = []; leads = refl }

less_or : (j n : ℕ) → (j < n) ⊎ (n ≤ j)
less_or j n = grind arith

-- ---- modes
private_mode : (mode : Mode) → sharing_of mode ≡ private → mode ≡ Private
private_mode Private h = refl
private_mode _ h = absurd (false≢true (ap is_private h))

private_is : (q : Sharing) → is_private q ≡ true → q ≡ private
private_is private h = refl
private_is _ h = absurd (false≢true h)

not_racy : Racy ≡ Private → ⊥
not_racy h = false≢true (ap (λ mode. is_private (sharing_of mode)) h)

-- a top that is found private is written so, or nothing is settled of it
top_settled : (b : Base) (levels : List (Option Mode)) → 0 < length levels → (finding : NodeFinding) → mode_found (slice_index_or (settled b None levels) 0 (Some Private)) finding ≡ Private
    → (top_of levels ≡ Some Private) ⊎ (slice_index_or (settled b None levels) 0 (Some Private) ≡ None)
top_settled b [] low finding h = absurd (omega (arith, low))
top_settled b (level ∷ below) low finding h = by (is_mutex b below) level h
  where
    by : (z : Bool) (level : Option Mode) → mode_found (cond z (Some Racy) (option_or level None)) finding ≡ Private → (level ≡ Some Private) ⊎ (cond z (Some Racy) (option_or level None) ≡ None)
    by true level h = absurd (not_racy h)
    by false None h = inr refl
    by false (Some mode) h = inl (ap Some h)

written_private : (r : Resolution) (q : Sharing) (w : WrittenType) → (top_of w.ctype.levels ≡ Some Private → ⊥) → field_cell r q w ≡ private → q ≡ private
written_private r q w none h = by (is_mutex_kind (declared_kind w)) (top_of w.ctype.levels) none h
  where
    in_readonly : (z : Bool) → is_private q ≡ z → cond z private readonly ≡ private → q ≡ private
    in_readonly true is h = private_is q is
    in_readonly false is h = absurd (false≢true (ap is_private h))

    by : (z : Bool) (top : Option Mode) → (top ≡ Some Private → ⊥) → cond z racy (written_cell r q top) ≡ private → q ≡ private
    by true top none h = absurd (false≢true (ap is_private h))
    by false None none h = h
    by false (Some Private) none h = absurd (none refl)
    by false (Some Readonly) none h = in_readonly (is_private q) refl h
    by false (Some (Locked path)) none h = in_locked (is_behind_pointer r (lock_of path) && is_private q) refl h
      where
        in_locked : (z : Bool) → (is_behind_pointer r (lock_of path) && is_private q) ≡ z → cond z private (locked (lock_of path)) ≡ private → q ≡ private
        in_locked true is h = private_is q (and_parts (is_behind_pointer r (lock_of path)) (is_private q) is).1
        in_locked false is h = absurd (false≢true (ap is_private h))
    by false _ none h = absurd (false≢true (ap is_private h))

-- ---- names
pub no_callee : (r : Resolution) (i : Identifier) (parameters : List Kind) (result : Kind) (g : ℕ) → Callee r i parameters result → named_at r i.site.token ≡ Named.Global g → ⊥
no_callee r i _ _ g (of_program f names at text main) is = let e = sym names ∙ is in cc
no_callee r i _ _ g (of_conditions k names text) is = let e = sym names ∙ is in cc

pub number_of : (g h : ℕ) → Named.Global g ≡ Named.Global h → g ≡ h
number_of g h e = cc

global_there : (r : Resolution) (s : Span) (i : Identifier) (k : Kind) (g : ℕ) → HasType r (tree.identifier s i) k → named_at r i.site.token ≡ Named.Global g → (d : GlobalDefinition) × (global_at r g ≡ Some d)
global_there r s i _ g (a_variable names at text) is = absurd (let e = sym names ∙ is in cc)
global_there r s i _ g (a_global {n = h} {g = d} names at text) is = (d, ap (global_at r) (number_of g h (sym is ∙ names)) ∙ at)
global_there r s i _ g (a_function {parameters = ps} {result = k} callee) is = absurd (no_callee r i ps k g callee is)

module _ (told : ReachedAreTold) (links : LinkLaws) (rules : RulesAreMet) (found : EachTypeFound) (paths : EachPathFound) (themselves : EachNamesItself) (constraints : MeetsConstraints) (m : Assignment) (a : IsAccepted m) where
  abbrev r2 : Resolution
  r2 = m.typed

  abbrev modes_met : MeetsRules m
  modes_met = (rules m).0 a.well

  file : FileKnown r2 r2.program.items
  file = file_known r2 r2.program.items (found r2 a.resolved a.placed a.low) (paths r2 a.resolved a.placed a.low).types

  -- ---- a global that is private
  module _ (g : ℕ) (d : GlobalDefinition) (at : global_at r2 g ≡ Some d) where
    abbrev token : ℕ
    token = d.declaration.name.site.token

    there : IsFound r2 (declared Role.Global d.declaration)
    there = (subst (IfSome (λ x. InFile r2 (declared Role.Global x.declaration))) at (at_number (λ x. InFile r2 (declared Role.Global x.declaration)) (globals_in r2.program.items) g file.globals)).0

    abbrev n2 : Numbered
    n2 = there.numbered

    levels_low : 0 < length d.declaration.written.ctype.levels
    levels_low = global_low r2.program.items a.low d (place_there (globals_in r2.program.items) g d at)

    positions_low : 0 < positions_of n2.entity
    positions_low = subst (λ e. 0 < positions_of e) (sym there.itself) levels_low

    stands : IsPositioned (entities_in r2.program.items) 0 n2
    stands = positioned (entities_in r2.program.items) 0 n2 (found_there (is_told_by token token) (numbered (entities_in r2.program.items)) n2 there.found)

    settled_is : settled_at r2 n2.first ≡ slice_index_or (settled d.declaration.written.ctype.base None d.declaration.written.ctype.levels) 0 (Some Private)
    settled_is =
        let z : n2.first ≡ stands.skip + 0 = omega (arith, stands.first) in
        ap (λ p. slice_index_or (settled_in (entities_in r2.program.items)) p (Some Private)) z ∙ stands.levels 0 positions_low ∙ ap (λ e. slice_index_or (settled_modes e) 0 (Some Private)) there.itself

    abbrev mode : Mode
    mode = slice_index_or m.modes n2.first Private

    cell_is : global_cell m (global_at r2 g) ≡ sharing_of mode
    cell_is = ap (global_cell m) at ∙ ap (first_mode m) there.found

    is_first : IsSomeAnd (global_at r2 g) (λ x. IsFirst r2 x.declaration.name.site.token n2.first)
    is_first = subst (λ o. IsSomeAnd o (λ x. IsFirst r2 x.declaration.name.site.token n2.first)) (sym at) (subst (λ o. IsSomeAnd o (λ n. (0 < positions_of n.entity) × (n.first ≡ n2.first))) (sym there.found) (positions_low, refl))

    module _ (is : mode ≡ Private) where
      found_private : mode_found (slice_index_or (settled d.declaration.written.ctype.base None d.declaration.written.ctype.levels) 0 (Some Private)) (finding_at a.least.findings n2.first) ≡ Private
      found_private =
          let low = positions_low in
          let within : n2.first < position_count r2 = omega (arith, stands.first, stands.ends, low) in
          ap (λ o. mode_found o (finding_at a.least.findings n2.first)) (sym settled_is) ∙ sym (a.least.mode n2.first within) ∙ is

      first_touch : (n : ℕ) → Touches r2 n g → ((j : ℕ) → j < n → Touches r2 j g → ⊥) → ⊥
      first_touch n t none =
          ⊎_elim
          (λ top. modes_met.m7.globals g d (record { by = n; reached = t.0; names = t.1 }) at top)
          (λ unsettled.
          let root : IsRoot r2 n2.first = (n, inl (record { global = g; top = is_first; touches = t; least = λ j o. ⊎_elim (λ less. absurd (none j less o)) (λ more. more) (less_or j n) })) in
          false≢true (ap (λ x. is_dynamic (sharing_of x)) (sym is) ∙ (links.enough m a.least).roots n2.first (settled_is ∙ unsettled) root))
          (top_settled d.declaration.written.ctype.base d.declaration.written.ctype.levels levels_low (finding_at a.least.findings n2.first) found_private)

      never_touched : (b n : ℕ) → n < b → Touches r2 n g → ⊥
      never_touched zero n low t = omega (arith, low)
      never_touched (suc b) n low t = first_touch n t (λ j less o. never_touched b j (omega (arith, low, less)) o)

    untouched : global_cell m (global_at r2 g) ≡ private → (n : ℕ) → Touches r2 n g → ⊥
    untouched is n t = never_touched (private_mode mode (sym cell_is ∙ is)) (suc n) n (omega arith) t

  -- ---- members of structs
  record Member (n : Identifier) : Type 0 where
    of : Declaration
    itself : declaration_at r2 of.name.site.token ≡ Some of
    names : named_at r2 n.site.token ≡ Named.Field of.name.site.token
    field : IsFound r2 (declared Role.Field of)

  a_member : (s : Span) (e : Expression) (n : Identifier) (k : Kind) → HasType r2 (tree.field s e Dot n) k → Member n
  a_member s e n _ (a_field {x = x} {d = d} t h is) = record {
    of = d;
    itself = (field_found (IsItself r2 Named.Field) h.0.fields n.text d (struct_fields (IsItself r2 Named.Field) (structs_in r2.program.items) x h.0 (themselves r2 a.resolved a.placed a.low).fields h.1) h.2).1;
    names = is;
    field = (field_found (FieldInFile r2) h.0.fields n.text d (struct_fields (FieldInFile r2) (structs_in r2.program.items) x h.0 file.fields h.1) h.2).0;
  }

  never_written : (d : Declaration) → IsFound r2 (declared Role.Field d) → top_of d.written.ctype.levels ≡ Some Private → ⊥
  never_written d f top =
      modes_met.m6 f.numbered 0 (found_there (is_told_by d.name.site.token d.name.site.token) (numbered (entities_in r2.program.items)) f.numbered f.found) (ap (λ (e : Entity). e.role) f.itself)
      (subst (λ (e : Entity). slice_get e.written.ctype.levels 0 ≡ Some (Some Private)) (sym f.itself) (top_written d.written.ctype.levels Private top))

  -- ---- a function that is reached
  module _ (n : ℕ) (f : Function) (at : function_at r2 n ≡ Some f) (reached : IsReached r2 n) where
    abbrev Known : Expression → Type 0
    Known e = HasType r2 e (kind_at r2 e) × IsAmong (tokens_of f) e

    array_target : (e : Expression) (g : ℕ) → IsNameOf r2 e g → target r2 None e ≡ in_global g 0
    array_target (tree.identifier s i) g is = ap (λ what. named_target what 0) is
    array_target (tree.parentheses s e) g is = array_target e g is
    array_target _ g is = absurd is

    named_private : (s : Span) (i : Identifier) → Known (tree.identifier s i) → (k : ℕ) → named_at r2 i.site.token ≡ Named.Global k → global_cell m (global_at r2 k) ≡ private → ⊥
    named_private s i known k names is =
        let d = global_there r2 s i _ k known.0 names in
        untouched k d.0 d.1 is n (reached, subst (λ o. IsSomeAnd o (λ x. Names r2 (Named.Global k) (tokens_of x))) (sym at) (i.site.token, known.1, names))

    never_private : (e : Expression) → AllByRecursion Known (expressions e) → (o : Option ℕ) (g : ℕ) → IsInside (target r2 o e) g → cell_at m e ≡ private → ⊥
    never_private (tree.identifier s i) h o g inside is = by (named_at r2 i.site.token) refl inside is
      where
        by : (what : Named) → named_at r2 i.site.token ≡ what → IsInside (named_target what (own_field o 0)) g → named_cell m what ≡ private → ⊥
        by (Named.Global k) names inside is = named_private s i h.0 k names is
        by _ names inside is = inside
    never_private (tree.parentheses s e) h o g inside is = never_private e h.1 o g inside is
    never_private (tree.index s e i) h o g inside is = by (is_array (kind_at r2 e)) refl inside is (never_private e base None)
      where
        base : AllByRecursion Known (expressions e)
        base = front Known (expressions e) (expressions i) h.1

        by : (z : Bool) → is_array (kind_at r2 e) ≡ z → IsInside (cond z (in_global_at (global_of (target r2 None e)) (own_field o 0)) (in_object_at (own_field o 0))) g → cond z (cell_at m e) (pointed m (row_at r2 e)) ≡ private
            → ((g : ℕ) → IsInside (target r2 None e) g → cell_at m e ≡ private → ⊥) → ⊥
        by true kind inside is never =
            let x = array_name r2 e (each Known (λ e. HasType r2 e (kind_at r2 e)) (λ e k. k.0) (expressions e) base) kind in
            never x.0 (subst (λ t. IsInside t x.0) (sym (array_target e x.0 x.1)) refl) is
        by false kind inside is never = inside
    never_private (tree.field s e Dot x) h o g inside is =
        let d = a_member s e x _ h.0.0 in
        let same : field_cell r2 (cell_at m e) d.of.written ≡ private = sym (ap (field_named r2 (cell_at m e)) d.names ∙ ap (declared_cell r2 (cell_at m e)) d.itself) ∙ is in
        never_private e h.1 _ g inside (written_private r2 (cell_at m e) d.of.written (never_written d.of d.field) same)
    never_private (tree.unary s Dereference e) h o g inside is = inside
    never_private _ h o g inside is = inside

  -- ---- the test
  abbrev reached_test : ℕ → Bool
  reached_test = (told r2).0

  abbrev alone : ℕ → Bool
  alone k = cond (reached_test k) false true

  alone_not : (k : ℕ) → IsReached r2 k → alone k ≡ false
  alone_not k h = ap (λ z. cond z false true) (((told r2).1 k).1 h)

  -- what leads to nothing where it is reached
  alone_by : (k : ℕ) → (IsReached r2 k → ⊥) → alone k ≡ true
  alone_by k none = by (reached_test k) refl
    where
      by : (z : Bool) → reached_test k ≡ z → alone k ≡ true
      by true is = absurd (none (((told r2).1 k).0 is))
      by false is = ap (λ z. cond z false true) is

  known_in : (f : Function) → Contains (functions_in r2.program.items) f → (e : Expression) → Contains (in_function f) e → HasType r2 e (kind_at r2 e) × IsAmong (tokens_of f) e
  known_in f is_function e has = (
    of_each (λ e. HasType r2 e (kind_at r2 e)) (in_function f) e (of_each (λ f. AllByRecursion (λ e. HasType r2 e (kind_at r2 e)) (in_function f)) (functions_in r2.program.items) f (constraints r2 a.resolved a.placed a.low) is_function) has,
    of_each (IsAmong (tokens_of f)) (in_function f) e (names_among f) has,
  )

  are_alone : AreAlone m alone
  are_alone = record {
    spawned = λ n k s. alone_not k (reached_first r2 n k s);
    caller = λ n k runs is. alone_by n (λ h. false≢true (sym (alone_not k (reached_on r2 n k h runs)) ∙ is));
    own = λ n f at e within g inside is.
        alone_by n (λ h. never_private n f at h e
        (each (λ x. Contains (in_function f) x) (λ x. HasType r2 x (kind_at r2 x) × IsAmong (tokens_of f) x) (known_in f (place_there (functions_in r2.program.items) n f at)) (expressions e) within) None g inside is);
  }

pub some_are_alone : ReachedAreTold → LinkLaws → RulesAreMet → EachTypeFound → EachPathFound → EachNamesItself → MeetsConstraints → SomeAreAlone
some_are_alone told links rules found paths themselves constraints m a = (alone told links rules found paths themselves constraints m a, are_alone told links rules found paths themselves constraints m a)
