-- Each token names what it named, where the program with a suggested cast is typed.
use Rattle.sharc_suggest_laws.proofs.{Imports.{IsLow, Span, WrittenType, expressions, IsPlaced, span_of, Expression, IsSuggested, differ_first, may_be_cast, keeps_all, Giving, items_givings, ModeError, Cast, Assignment, Some, ◌≡◌, ℕ, ◌+◌, ◌≤◌, ◌==◌, ◌&&◌, Bool, true, List, [], ◌∷◌, length, refl, ap, sym, subst, ◌∙◌, eq-eqb, arith, and_parts, and_from, AllByRecursion, Recast, type_at, is_there, program_with_cast, recast_of, base_site, program_with, NamesStayWhereTyped, count_of, met_by, met_in_items, Entity, entities_in, numbered, file_scope, notes_about, IsTyped, Resolution, IsResolved, EachNameOnce, OnlyNames, EachTypeFound, IsNamedType, back, joint, each, IsFound}, Added.at_tokens, Bases.{Have, HaveCasts, in_all, IsGiven}, Counted.{counted, counted_append}, Beside.items_counted, Few.at_most_one, Spread.begins_once, Folded.keeps, Mild.{IsSpelled, NamesBase, type_mild}, Noted.{Clean, clean_from, Noted}, Owned.all_own, Renamed.{HasBase, each_has, base_named, given_based}, Reread.{setting_of, in_program}, Retyped.{Setting, IsMild, AreMild}, Site.{IsFor, HasSite, has_site}, SpelledAll.spelled}

-- ---- the cast is at one giving alone

pub none_there : (test : Expression → Bool) (P : Giving → Type 0) → ((g : Giving) → (test g.given ≡ true → ⊥) → P g) → (gs : List Giving) → counted test gs ≡ 0 → AllByRecursion P gs
none_there test P absent [] none = tt
none_there test P absent (g ∷ rest) none =
    let sum : met_by test g.given + counted test rest ≡ 0 = none in (
      absent g (λ there.
          let one : met_by test g.given ≡ 1 = ap count_of there in
          omega (arith, sum, one)),
      none_there test P absent rest (omega (arith, sum)),
    )

-- what lies on either side of it is not there
pub record IsAlone (m : Assignment) (c : Cast) (before behind : List Giving) : Type 0 where
  pub before_none : counted (is_there (recast_of m.typed c)) before ≡ 0
  pub behind_none : counted (is_there (recast_of m.typed c)) behind ≡ 0

pub alone : (m : Assignment) (c : Cast) (named : ℕ → Bool) → IsPlaced m.typed.program → (site : IsFor m named c (items_givings m.typed.program.items)) → IsAlone m c site.before site.behind
alone m c named placed site =
    let r : Recast = recast_of m.typed c in
    let test = is_there r in
    let s : Span = span_of site.giving.given in
    let first : s.first.token ≡ c.from = ap (λ (x : Cast). x.from) site.is in
    let last : s.last.token ≡ c.until = ap (λ (x : Cast). x.until) site.is in
    let here : met_by test site.giving.given ≡ 1 = ap count_of (and_from (s.first.token == c.from) (s.last.token == c.until) (eq-eqb s.first.token c.from first) (eq-eqb s.last.token c.until last)) in
    let few : met_in_items test m.typed.program.items ≤ 1 =
    at_most_one (at_tokens r) 0 (length m.typed.program.tokens.list) (met_in_items test m.typed.program.items)
    (begins_once m.typed.program.tokens.list (at_tokens r) m.typed.program.items (length m.typed.program.tokens.list) placed.follow placed.items) in
    let many : met_in_items test m.typed.program.items ≡ counted test site.before + counted test (site.giving ∷ site.behind) =
    items_counted m test m.typed.program.items ∙ ap (counted test) site.split ∙ counted_append test site.before (site.giving ∷ site.behind) in
    let rest : counted test (site.giving ∷ site.behind) ≡ met_by test site.giving.given + counted test site.behind = refl in
    record { before_none = omega (arith, here, few, many, rest); behind_none = omega (arith, here, few, many, rest) }

-- ---- and what is said of its type does no harm

pub keeps_expected : (m : Assignment) (c : Cast) (named : ℕ → Bool) (site : IsFor m named c (items_givings m.typed.program.items)) → keeps_all m.typed site.giving.scope site.expected ≡ true
keeps_expected m c named site =
    let e = site.giving.given in
    (and_parts (may_be_cast m named e) (keeps_all m.typed site.giving.scope site.expected)
    (and_parts (differ_first m.typed site.expected site.found) (may_be_cast m named e && keeps_all m.typed site.giving.scope site.expected) site.repairable).1).1

site_mild : (m : Assignment) (c : Cast) (named : ℕ → Bool) → Have (IsNamedType m.typed) (entities_in m.typed.program.items) → IsSpelled m.typed (file_scope m.typed.program.items).names → (site : IsFor m named c (items_givings m.typed.program.items))
    → IsMild (setting_of m.typed (recast_of m.typed c)) site.giving
site_mild m c named types spelt site = λ there names scoped s clean.
    let r : Resolution = m.typed in
    let all : List Entity = entities_in r.program.items in
    let Q : WrittenType → Type 0 = λ (w : WrittenType). HasBase all w.ctype.base in
    let given = in_all Q r (each_has all all (λ b h. h)) in
    let at : HaveCasts Q (expressions site.giving.given) = (back (IsGiven Q) site.before (site.giving ∷ site.behind) (subst (AllByRecursion (IsGiven Q)) site.split given.given)).0 in
    let has : HasBase all c.to.base = subst (HasBase all) (ap (λ (x : Cast). x.to.base) site.is) (given_based r site.giving.given at) in
    let named_base : NamesBase r (base_site (numbered all) c.to.base c.site).token c.to.base = base_named r c.to.base c.site types has in
    type_mild r (file_scope r.program.items) names site.giving.scope spelt scoped (type_at (recast_of r c) s) site.expected (ap (λ (x : Cast). x.to.levels) (sym site.is)) named_base (keeps_expected m c named site) clean

mild : (m : Assignment) (c : Cast) (named : ℕ → Bool) → IsPlaced m.typed.program → Have (IsNamedType m.typed) (entities_in m.typed.program.items) → IsSpelled m.typed (file_scope m.typed.program.items).names
    → (site : IsFor m named c (items_givings m.typed.program.items)) → AreMild (setting_of m.typed (recast_of m.typed c)) (items_givings m.typed.program.items)
mild m c named placed types spelt site =
    let w : Setting = setting_of m.typed (recast_of m.typed c) in
    let one : IsAlone m c site.before site.behind = alone m c named placed site in
    subst (AreMild w) (sym site.split)
    (joint (IsMild w) site.before (site.giving ∷ site.behind) (elsewhere site.before one.before_none) (site_mild m c named types spelt site, elsewhere site.behind one.behind_none))
  where
    elsewhere : (gs : List Giving) → counted (is_there (recast_of m.typed c)) gs ≡ 0 → AreMild (setting_of m.typed (recast_of m.typed c)) gs
    elsewhere gs none = none_there (is_there (recast_of m.typed c)) (IsMild (setting_of m.typed (recast_of m.typed c))) (λ g never there. absurd (never there)) gs none

-- ---- so

-- the notes of the program with the cast
pub notes_grown : EachNameOnce → OnlyNames → EachTypeFound → (m : Assignment) (e : ModeError) (c : Cast) → IsResolved m.typed → IsPlaced m.typed.program → IsLow m.typed.program → IsSuggested m e (Some c) → IsTyped (program_with c m.typed)
    → Noted m.typed (notes_about m.typed.program) (notes_about (program_with c m.typed))
notes_grown once only found m e c resolved placed low says typed =
    let r : Resolution = m.typed in
    let rc : Recast = recast_of r c in
    let site : HasSite m e c says = has_site m e c says in
    let old : Clean (notes_about r.program) = clean_from (notes_about r.program) resolved.typed in
    let new : Clean (notes_about (program_with_cast rc r.program)) = clean_from (notes_about (program_with_cast rc r.program)) typed in
    let types : Have (IsNamedType r) (entities_in r.program.items) = each (IsFound r) (λ (e : Entity). IsNamedType r e.written) (λ e f. f.named) (entities_in r.program.items) (found r resolved placed low) in
    in_program r rc (mild m c says.are.named placed types (spelled r resolved placed old (only r resolved placed low) (once r resolved placed low)) site.for) new

pub names_stay_where_typed : EachNameOnce → OnlyNames → EachTypeFound → NamesStayWhereTyped
names_stay_where_typed once only found m e c resolved placed low says typed token =
    let r : Resolution = m.typed in
    keeps r (program_with c r) token resolved refl (all_own r token (only r resolved placed low token) (once r resolved placed low token)) (notes_grown once only found m e c resolved placed low says typed)
