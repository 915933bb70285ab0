-- Where a cast is suggested its type has as many stars as the expression, and its lock paths name what is there.
use Rattle.sharc_suggest_laws.proofs.{Imports.{◌≡◌, ℕ, zero, suc, ◌+◌, ◌&&◌, not, Bool, true, false, List, [], ◌∷◌, ◌++◌, cond, length, map, bytes_eq, Option, Some, None, option_map, refl, ap, sym, subst, ◌∙◌, arith, false≢true, and_parts, AllByRecursion, Base, Mode, Declaration, Dot, Arrow, Dereference, GlobalForm, Array, without_parentheses, is_lvalue, IsLow, expressions, IsPlaced, Expression, identifier, parentheses, cast, index, field, unary, Scope, Kind, object, is_null, Entry, look_up, global_kind, modes_notes, file_scope, notes_about, Resolution, IsResolved, functions_in, variable_kind, kind_at, with_names, HasType, a_variable, a_global, a_function, in_parentheses, element_of_pointer, element_of_array, a_field, a_field_behind, pointed_to, HasWrittenLocks, Cast, cell_at, Assignment, IsWhole, taken_variable, Targets, modes_of, row_at, Sharing, is_readonly, mode_of, Giving, items_givings, differ_first, keeps_first, keeps_all, may_be_cast, back, none_some, one_some}, Expects.{Agreed, same, integers, agreed, IsExpected, expected_of}, Filed.{IsMeant, AreMeant, file_meant, file_structs}, FoundThere.{HasNames, has_names, found_there}, Given.{AreKnown, AreOwn, IsWell, givings_well, IsWellFunction}, Leads.{IsFoundIn, modes_clean}, Mild.IsSpelled, ModesKept.modes_of_row, Noted.{Clean, clean_from}, ReadySite.{PathsRead, IsPointed}, Site.IsFor, SpelledAll.spelled, Targets.{IsRowOf, IsKnownProgram, targets_of}, World.{TypedLaws, known_program, known_functions}}
use Rattle.sharc_suggest.specs.Repairs.{is_free}

-- ---- what may be cast is no NULL

global_not_null : (f : GlobalForm) (b : Base) (n : ℕ) → is_null (global_kind f (object b n)) ≡ false
global_not_null (Array at k) b n = refl
global_not_null _ b n = refl

not_null : (r : Resolution) (e : Expression) (k : Kind) → HasType r e k → is_lvalue e ≡ true → is_null k ≡ false
not_null r (identifier s i) _ (a_variable at is text) there = refl
not_null r (identifier s i) _ (a_global {g = g} at is text) there = global_not_null g.form _ _
not_null r (identifier s i) _ (a_function callee) there = refl
not_null r (parentheses s a) _ (in_parentheses typed) there = not_null r a _ typed there
not_null r (index s a i) _ (element_of_pointer typed other integer) there = refl
not_null r (index s a i) _ (element_of_array typed other integer) there = refl
not_null r (field s a Dot n) _ (a_field typed member names) there = refl
not_null r (field s a Arrow n) _ (a_field_behind typed member names) there = refl
not_null r (unary s Dereference a) _ (pointed_to typed) there = refl
not_null r _ k typed there = absurd (false≢true there)

-- ---- what is repairable

record IsApt (m : Assignment) (g : Giving) (modes found : List Sharing) : Type 0 where
  differ : differ_first m.typed modes found ≡ true
  place : is_lvalue g.given ≡ true
  keeps : keeps_all m.typed g.scope modes ≡ true

apt : (m : Assignment) (c : Cast) (tells : ℕ → Bool) (site : IsFor m tells c (items_givings m.typed.program.items)) → IsApt m site.giving site.expected site.found
apt m c tells site =
    let e : Expression = site.giving.given in
    let parts = and_parts (differ_first m.typed site.expected site.found) (may_be_cast m tells e && keeps_all m.typed site.giving.scope site.expected) site.repairable in
    let later = and_parts (may_be_cast m tells e) (keeps_all m.typed site.giving.scope site.expected) parts.1 in
    let first = and_parts (is_lvalue e) (not (is_readonly (cell_at m e)) && is_free tells (taken_variable m.typed (without_parentheses e))) later.0 in
    record { differ = parts.0; place = first.0; keeps = later.1 }

no_length : (l : List Sharing) → length l ≡ 0 → l ≡ []
no_length [] h = refl
no_length (s ∷ rest) h = absurd (omega (arith, h))

-- two types without a star do not differ
never_differ : (r : Resolution) (a b : List Sharing) → length a ≡ 0 → length b ≡ 0 → differ_first r a b ≡ true → ⊥
never_differ r a b none also is = false≢true (ap (λ (l : List Sharing). differ_first r l []) (sym (no_length a none)) ∙ ap (differ_first r a) (sym (no_length b also)) ∙ is)

-- ---- so the expression is a pointer with as many stars

found_many : (m : Assignment) → IsWhole m → HasWrittenLocks m → (b : Base) (n : ℕ) (o : Option Targets) → IsRowOf m.typed (object b n) o → (found : List Sharing) → option_map (modes_of m) o ≡ Some found → length found ≡ n
found_many m whole locks b n None is found has = absurd is
found_many m whole locks b n (Some row) is found has = ap length (sym (one_some (modes_of m row) found has)) ∙ (modes_of_row m whole locks n row is).many

stars_by : (m : Assignment) (e : Expression) (modes found : List Sharing) (b : Base) (n : ℕ) → differ_first m.typed modes found ≡ true → length modes ≡ n → ((c : Base) (k : ℕ) → kind_at m.typed e ≡ object c k → length found ≡ k) → Agreed b n (kind_at m.typed e)
    → IsPointed m e modes
stars_by m e modes found b zero differ many finds (same is) = absurd (never_differ m.typed modes found many (finds b 0 is) differ)
stars_by m e modes found b (suc n) differ many finds (same is) =
    let next : suc n ≡ n + 1 = omega arith in
    record { base = b; stars = n; kind = is ∙ ap (object b) next; many = many ∙ next }
stars_by m e modes found b n differ many finds (integers c none is) = absurd (never_differ m.typed modes found (many ∙ none) (finds c 0 is) differ)

-- ---- the giving

itself : (r : Resolution) (e : Expression) → AreKnown r (expressions e) → HasType r e (kind_at r e)
itself r (cast s t a) h = h.0.0
itself r _ h = h.0.0

well_site : (r : Resolution) (before behind gs : List Giving) (g : Giving) → gs ≡ before ++ g ∷ behind → AllByRecursion (IsWell r) gs → IsWell r g
well_site r before behind gs g split all = (back (IsWell r) before (g ∷ behind) (subst (AllByRecursion (IsWell r)) split all)).0

own_meant : (r : Resolution) (scope : List Entry) → AreOwn r scope → AreMeant r scope
own_meant r [] own text e found = absurd (none_some e found)
own_meant r (x ∷ rest) own text e found = by (bytes_eq x.name text) found (own_meant r rest own.1 text e)
  where
    here : IsMeant r x.meaning
    here =
        let d : Declaration = own.0.0 in
        subst (λ (z : Entry). IsMeant r z.meaning) (sym own.0.1) (record { kind = ap variable_kind (sym own.0.2.1); main = λ main. absurd (false≢true main) })

    by : (b : Bool) → cond b (Some x) (look_up rest text) ≡ Some e → (look_up rest text ≡ Some e → IsMeant r e.meaning) → IsMeant r e.meaning
    by true is later = subst (λ (z : Entry). IsMeant r z.meaning) (one_some x e is) here
    by false is later = later is

-- what is known of a program and of the giving that a cast was suggested for
record IsSet (m : Assignment) (c : Cast) (tells : ℕ → Bool) (site : IsFor m tells c (items_givings m.typed.program.items)) : Type 0 where
  known : IsKnownProgram m.typed
  well : IsWell m.typed site.giving
  expects : IsExpected m site.giving.given site.expected

set : TypedLaws → (m : Assignment) (c : Cast) (tells : ℕ → Bool) → IsResolved m.typed → IsPlaced m.typed.program → IsLow m.typed.program → IsWhole m → HasWrittenLocks m → (site : IsFor m tells c (items_givings m.typed.program.items)) → IsSet m c tells site
set laws m c tells resolved placed low whole locks site =
    let r : Resolution = m.typed in
    let known : IsKnownProgram r = known_program laws r resolved placed low in
    let functions : AllByRecursion (IsWellFunction r) (functions_in r.program.items) = known_functions laws r resolved placed low in
    let well : IsWell r site.giving = well_site r site.before site.behind (items_givings r.program.items) site.giving site.split (givings_well r r.program.items functions) in
    record { known = known; well = well; expects = expected_of m whole locks known functions site.giving.receiver site.giving.given well.receives site.expected site.wants }

pub is_pointed : TypedLaws → (m : Assignment) (c : Cast) (tells : ℕ → Bool) → IsResolved m.typed → IsPlaced m.typed.program → IsLow m.typed.program → IsWhole m → HasWrittenLocks m → (site : IsFor m tells c (items_givings m.typed.program.items))
    → IsPointed m site.giving.given site.expected
is_pointed laws m c tells resolved placed low whole locks site =
    let r : Resolution = m.typed in
    let e : Expression = site.giving.given in
    let all : IsSet m c tells site = set laws m c tells resolved placed low whole locks site in
    let x : IsExpected m e site.expected = all.expects in
    let a : IsApt m site.giving site.expected site.found = apt m c tells site in
    let typed : HasType r e (kind_at r e) = itself r e all.well.given in
    let finds : (b : Base) (n : ℕ) → kind_at r e ≡ object b n → length site.found ≡ n = λ b n is.
    found_many m whole locks b n (row_at r e) (subst (λ (k : Kind). IsRowOf r k (row_at r e)) is (targets_of r all.known e all.well.given)) site.found site.finds in
    stars_by m e site.expected site.found x.base x.stars a.differ x.has.many finds (agreed x.base x.stars (kind_at r e) (not_null r e (kind_at r e) typed a.place) x.fits)

-- ---- and the lock paths name what is there

pub paths_read : TypedLaws → (m : Assignment) (c : Cast) (tells : ℕ → Bool) → IsResolved m.typed → IsPlaced m.typed.program → IsLow m.typed.program → IsWhole m → HasWrittenLocks m → (site : IsFor m tells c (items_givings m.typed.program.items))
    → PathsRead m c site.giving
paths_read laws m c tells resolved placed low whole locks site names scoped =
    let r : Resolution = m.typed in
    let file : Scope = file_scope r.program.items in
    let all : IsSet m c tells site = set laws m c tells resolved placed low whole locks site in
    let a : IsApt m site.giving site.expected site.found = apt m c tells site in
    let clean : Clean (notes_about r.program) = clean_from (notes_about r.program) resolved.typed in
    let spelt : IsSpelled r file.names = spelled r resolved placed clean (laws.only r resolved placed low) (laws.once r resolved placed low) in
    let has : HasNames r file.names = has_names r resolved placed clean (laws.once r resolved placed low) in
    let found : (token : ℕ) → keeps_first r site.giving.scope token ≡ true → IsFoundIn r names token =
    found_there r file.names names site.giving.scope spelt has (file_meant r) (own_meant r site.giving.scope all.well.scope) scoped in
    let modes : Clean (modes_notes (with_names file names) [] (map (λ (s : Sharing). Some (mode_of r s)) site.expected)) =
    modes_clean r file (file_structs r.program.items) names site.giving.scope found site.expected all.expects.has.sound a.keeps in
    subst (λ (l : List (Option Mode)). Clean (modes_notes (with_names file names) [] l)) (ap (λ (x : Cast). x.to.levels) site.is) modes
