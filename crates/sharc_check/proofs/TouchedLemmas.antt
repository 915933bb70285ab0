-- Which globals are touched can be determined for every number, from what is answered of those that there are.
use Rattle.sharc_check.proofs.Imports.{◌≡◌, inl, inr, ℕ, zero, suc, ◌+◌, ◌<◌, ◌≤◌, ◌==◌, Bool, true, false, ◌||◌, ◌&&◌, List, [], ◌∷◌, ◌++◌, length, get_or, Option, Some, None, is_some, refl, ap, sym, ◌∙◌, subst, arith, slice_get_within, IfSome, unwrap_or, list_any, flat_map, GlobalDefinition, Function, Named, tokens_of, IsTouched, Resolution, named_at, functions_in, globals_in, function_at, entities_in, numbered, Reaching, AreReached, IsFirstOf, is_chosen, first_of, PrivateReachesThread, top_of, items_notes, Assignment, error_where, is_private_level, type_notes, errors_of, AreModeErrors, spawned_notes, touched_notes, notes_about, touched_by, equal_number, same_number, either, both_true, false_true, some_there as some_and, and_some}
use Rattle.std.specs.List.{slice_get}
use Rattle.sharc_ctype.specs.Reaches.{Names}

not_true : (b : Bool) → (b ≡ true → ⊥) → false ≡ b
not_true true never = absurd (never refl)
not_true false never = refl

none_is_some : {A X : Type 0} (x : X) → None ≡ Some x → A
none_is_some {A} {X} x e = let P : Option X → Type 0 = λ o. IfSome o (λ y. ⊥) in absurd (subst P e tt)

some_same : {X : Type 0} {x y : X} → Some x ≡ Some y → x ≡ y
some_same {X} {x} e = ap (λ o. unwrap_or o x) e

abbrev is_global : ℕ → Named → Bool
is_global g (Named.Global n) = n == g
is_global g _ = false

global_told : (g : ℕ) (what : Named) → is_global g what ≡ true → what ≡ Named.Global g
global_told g (Named.Global n) h = ap Named.Global (same_number n g h)
global_told g _ h = false_true h

global_tells : (g : ℕ) (what : Named) → what ≡ Named.Global g → is_global g what ≡ true
global_tells g what is = ap (is_global g) is ∙ equal_number g

abbrev any_names : Resolution → ℕ → List ℕ → Bool
any_names r g tokens = list_any (λ token. is_global g (named_at r token)) tokens

names_told : (r : Resolution) (g : ℕ) (tokens : List ℕ) → any_names r g tokens ≡ true → Names r (Named.Global g) tokens
names_told r g [] h = false_true h
names_told r g (token ∷ rest) h =
    elim (either (is_global g (named_at r token)) (any_names r g rest) h) [
      | inl here ↦ (token, (0, omega arith, refl), global_told g (named_at r token) here)
      | inr there ↦ let found = names_told r g rest there in let at = found.1 in let below : at.0 < length rest = at.1 in (found.0, (suc at.0, omega (arith, below), at.2), found.2)
    ]

or_right : (a : Bool) → (a || true) ≡ true
or_right true = refl
or_right false = refl

any_at : (r : Resolution) (g : ℕ) (tokens : List ℕ) (i token : ℕ) → i < length tokens → get_or tokens i token ≡ token → named_at r token ≡ Named.Global g → any_names r g tokens ≡ true
any_at r g [] i token below at is = absurd (omega (arith, below))
any_at r g (x ∷ xs) zero token below at is = ap (λ b. b || any_names r g xs) (global_tells g (named_at r x) (ap (named_at r) at ∙ is))
any_at r g (x ∷ xs) (suc i) token below at is = ap (λ b. is_global g (named_at r x) || b) (any_at r g xs i token (omega (arith, below)) at is) ∙ or_right (is_global g (named_at r x))

names_tell : (r : Resolution) (g : ℕ) (tokens : List ℕ) → Names r (Named.Global g) tokens → any_names r g tokens ≡ true
names_tell r g tokens names = let at = names.1 in any_at r g tokens at.0 names.0 at.1 at.2 names.2

-- ---- some reached function names the global

abbrev test : Resolution → Reaching → ℕ → ℕ → Function → Bool
test r a g n f = is_chosen a.functions n && any_names r g (tokens_of f)

abbrev any_from : Resolution → Reaching → ℕ → ℕ → List Function → Bool
any_from r a g n [] = false
any_from r a g n (f ∷ rest) = test r a g n f || any_from r a g (n + 1) rest

-- by this function, the k-th of those from number n on
record IsNamedFrom (r : Resolution) (a : Reaching) (g n : ℕ) (fs : List Function) : Type 0 where
  number : ℕ
  k : ℕ
  f : Function
  counted : number ≡ n + k
  at : slice_get fs k ≡ Some f
  chosen : is_chosen a.functions number ≡ true
  names : any_names r g (tokens_of f) ≡ true

named_from : (r : Resolution) (a : Reaching) (g n : ℕ) (fs : List Function) → any_from r a g n fs ≡ true → IsNamedFrom r a g n fs
named_from r a g n [] h = false_true h
named_from r a g n (f ∷ rest) h =
    elim (either (test r a g n f) (any_from r a g (n + 1) rest) h) [
      | inl here ↦ let parts = both_true (is_chosen a.functions n) (any_names r g (tokens_of f)) here in record { number = n; k = 0; f = f; counted = omega arith; at = refl; chosen = parts.0; names = parts.1 }
      | inr there ↦
          let found = named_from r a g (n + 1) rest there in
          let counted = found.counted in
          record { number = found.number; k = suc found.k; f = found.f; counted = omega (arith, counted); at = found.at; chosen = found.chosen; names = found.names }
    ]

from_named : (r : Resolution) (a : Reaching) (g n : ℕ) (fs : List Function) (k number : ℕ) (f : Function) → number ≡ n + k → slice_get fs k ≡ Some f → is_chosen a.functions number ≡ true → any_names r g (tokens_of f) ≡ true
    → any_from r a g n fs ≡ true
from_named r a g n [] k number f counted at chosen names = none_is_some f at
from_named r a g n (x ∷ rest) zero number f counted at chosen names =
    let same : number ≡ n = omega (arith, counted) in
    let is : x ≡ f = some_same at in
    ap (λ b. b || any_from r a g (n + 1) rest)
    (ap (λ b. b && any_names r g (tokens_of x)) (ap (is_chosen a.functions) (sym same) ∙ chosen) ∙ ap (λ y. any_names r g (tokens_of y)) is ∙ names)
from_named r a g n (x ∷ rest) (suc k) number f counted at chosen names =
    ap (λ b. test r a g n x || b) (from_named r a g (n + 1) rest k number f (omega (arith, counted)) at chosen names) ∙ or_right (test r a g n x)

abbrev decided : Resolution → Reaching → ℕ → Bool
decided r a g = any_from r a g 0 (functions_in r.program.items)

module _ (r : Resolution) (a : Reaching) (reached : AreReached r a) where
  told : (g : ℕ) → decided r a g ≡ true → IsTouched r g
  told g h =
      let found = named_from r a g 0 (functions_in r.program.items) h in
      let counted = found.counted in
      let same : found.k ≡ found.number = omega (arith, counted) in
      let at : function_at r found.number ≡ Some found.f = ap (slice_get (functions_in r.program.items)) (sym same) ∙ found.at in
      let within = slice_get_within (functions_in r.program.items) found.number found.f at in
      let count = reached.function_count in
      let below : found.number < length a.functions = omega (arith, within, count) in
      record {
        by = found.number;
        reached = (reached.functions found.number below).0 found.chosen;
        names = and_some (λ f. Names r (Named.Global g) (tokens_of f)) (function_at r found.number) found.f at (names_told r g (tokens_of found.f) found.names);
      }

  tell : (g : ℕ) → IsTouched r g → decided r a g ≡ true
  tell g touched =
      let n = touched.by in
      let found = some_and (λ f. Names r (Named.Global g) (tokens_of f)) (function_at r n) touched.names in
      let within = slice_get_within (functions_in r.program.items) n found.0 found.1 in
      let count = reached.function_count in
      let below : n < length a.functions = omega (arith, within, count) in
      from_named r a g 0 (functions_in r.program.items) n n found.0 (omega arith) found.1 ((reached.functions n below).1 touched.reached) (names_tell r g (tokens_of found.0) found.2)

  by_first : (g : ℕ) (first : Option ℕ) → IsFirstOf r g first → is_some first ≡ decided r a g
  by_first g None none = not_true (decided r a g) (λ h. none (told g h))
  by_first g (Some n) is = sym (tell g (record { by = n; reached = is.reached; names = is.names }))

  same_below : (g : ℕ) → g < length (globals_in r.program.items) → touched_by a g ≡ decided r a g
  same_below g below = let count = reached.global_count in by_first g (first_of a g) (reached.globals g (omega (arith, count, below)))

same_notes : (s t : ℕ → Bool) (limit : ℕ) → ((g : ℕ) → g < limit → s g ≡ t g) → (n : ℕ) (list : List GlobalDefinition) → n + length list ≤ limit → touched_notes s n list ≡ touched_notes t n list
same_notes s t limit same n [] ends = refl
same_notes s t limit same n (g ∷ rest) ends =
    ap (λ b. error_where (b && is_private_level (top_of g.declaration.written.ctype.levels)) PrivateReachesThread g.declaration.written.span g.declaration.name.text ++ touched_notes s (n + 1) rest) (same n (omega (arith, ends)))
    ∙ ap (λ x. error_where (t n && is_private_level (top_of g.declaration.written.ctype.levels)) PrivateReachesThread g.declaration.written.span g.declaration.name.text ++ x) (same_notes s t limit same (n + 1) rest (omega (arith, ends)))

-- the cases that arise by what is reached
pub all_arise : (m : Assignment) (a : Reaching) → AreReached m.typed a → AreModeErrors m (errors_of m.typed (notes_about m (touched_by a)))
all_arise m a reached =
    let gs = globals_in m.typed.program.items in
    record {
      touched = decided m.typed a;
      tells = λ g. (told m.typed a reached g, tell m.typed a reached g);
      are = ap (λ x. errors_of m.typed (flat_map (type_notes m) (numbered (entities_in m.typed.program.items)) ++ spawned_notes m 0 (functions_in m.typed.program.items) ++ x ++ items_notes m m.typed.program.items))
          (same_notes (touched_by a) (decided m.typed a) (length gs) (same_below m.typed a reached) 0 gs (omega arith));
    }
