-- Where a suggested cast is written its type has no fault, and the expression is a place with a pointer of that type.
use Rattle.sharc_suggest_laws.proofs.{Imports.{◌≡◌, is_some, ℕ, suc, ◌+◌, ◌-◌, Bool, true, false, not, ◌&&◌, ◌||◌, nat_lt, List, [], ◌∷◌, ◌++◌, length, map, Option, Some, None, refl, ap, ap₂, sym, subst, ◌∙◌, arith, false≢true, and_parts, AllByRecursion, Base, WrittenType, without_parentheses, is_lvalue, Expression, TypeNotAllowed, Scope, Kind, object, is_pointer, Entry, StructTable, StructMeaning, struct_of, named_struct, fault_unless, is_known, struct_note, base_notes, is_allowed, allowed_there, modes_notes, Role, type_at, recast_of, file_scope, notes_about, Resolution, kind_at, with_names, Cast, cell_at, Assignment, base_of, taken_variable, Sharing, mode_of, is_readonly, differ_first, may_be_cast, keeps_all, Giving, items_givings, back, map_length, is_below}, Noted.{Clean, none, joined, unless, referring}, Reread.setting_of, Scoped.Scoped, Site.IsFor, Sound.{IsBare, IsSound, stars_in, IsGivenSound, given_sound}, TypedWith.IsReady, Expects.no_star_less as no_star}
use Rattle.sharc_suggest.specs.Repairs.{is_free}

-- the lock paths of its type name what is there
abbrev pub PathsRead : (m : Assignment) (c : Cast) → Giving → Type 0
PathsRead m c g =
    (names : List Entry) → Scoped (file_scope m.typed.program.items).names names g.scope → Clean (modes_notes (with_names (file_scope m.typed.program.items) names) [] c.to.levels)

-- the expression is a pointer, with as many stars as there are modes expected
pub record IsPointed (m : Assignment) (e : Expression) (expected : List Sharing) : Type 0 where
  pub base : Base
  pub stars : ℕ
  pub kind : kind_at m.typed e ≡ object base (stars + 1)
  pub many : length expected ≡ stars + 1

-- ---- the base of its type is known, and it is no pointer to `void`

struct_clean : (token : ℕ) (o : Option StructMeaning) → is_some o ≡ true → Clean (struct_note token o)
struct_clean token None is = absurd (false≢true is)
struct_clean token (Some s) is = referring token (named_struct s) [] none

base_clean : (structs : StructTable) (token : ℕ) (b : Base) → is_known structs b ≡ true → Clean (base_notes structs token b)
base_clean structs token (Base.Struct name) is = struct_clean token (struct_of structs name) is
base_clean structs token _ is = none

or_true : (b : Bool) → (b || true) ≡ true
or_true true = refl
or_true false = refl

pointer_allowed : (b : Base) (n : ℕ) → IsBare b (n + 1) → is_allowed Role.Cast b (n + 1) ≡ true
pointer_allowed Base.Mutex n h = or_true (nat_lt 0 (n + 1))
pointer_allowed Base.Void n h = absurd (no_star n h)
pointer_allowed (Base.Struct name) n h = or_true (nat_lt 0 (n + 1))
pointer_allowed _ n h = refl

below_any : (n : ℕ) → nat_lt 0 (n + 1) ≡ true
below_any n = is_below 0 (n + 1) (omega arith)

-- ---- so

lvalue_at : (m : Assignment) (c : Cast) (named : ℕ → Bool) (site : IsFor m named c (items_givings m.typed.program.items)) → is_lvalue site.giving.given ≡ true
lvalue_at m c named site =
    let e : Expression = site.giving.given in
    (and_parts (is_lvalue e) (not (is_readonly (cell_at m e)) && is_free named (taken_variable m.typed (without_parentheses e)))
    (and_parts (may_be_cast m named e) (keeps_all m.typed site.giving.scope site.expected)
    (and_parts (differ_first m.typed site.expected site.found) (may_be_cast m named e && keeps_all m.typed site.giving.scope site.expected) site.repairable).1).0).0

pub site_ready : (m : Assignment) (c : Cast) (named : ℕ → Bool) → Clean (notes_about m.typed.program) → (site : IsFor m named c (items_givings m.typed.program.items)) → PathsRead m c site.giving → IsPointed m site.giving.given site.expected
    → IsReady (setting_of m.typed (recast_of m.typed c)) site.giving
site_ready m c named clean site paths pointed = λ there names scoped.
    let r : Resolution = m.typed in
    let file : Scope = file_scope r.program.items in
    let σ : Scope = with_names file names in
    let e : Expression = site.giving.given in
    let b : Base = pointed.base in
    let n : ℕ = pointed.stars in
    let sound : IsSound file.structs (kind_at r e) =
    (back (IsGivenSound r) site.before (site.giving ∷ site.behind) (subst (AllByRecursion (IsGivenSound r)) site.split (given_sound r clean))).0 in
    let own : base_of (kind_at r e) ≡ b = ap base_of pointed.kind in
    let based : c.to.base ≡ b = ap (λ (x : Cast). x.to.base) (sym site.is) ∙ own in
    let levels : length c.to.levels ≡ suc (length (map (λ (s : Sharing). Some (mode_of r s)) site.expected)) = ap (λ (x : Cast). length x.to.levels) (sym site.is) in
    let many : length (map (λ (s : Sharing). Some (mode_of r s)) site.expected) ≡ length site.expected = map_length (λ (s : Sharing). Some (mode_of r s)) site.expected in
    let stars : length c.to.levels - 1 ≡ n + 1 = omega (arith, levels, many, pointed.many) in
    let known : is_known file.structs c.to.base ≡ true = ap (is_known file.structs) (based ∙ sym own) ∙ sound.known in
    let bare : IsBare b (n + 1) = subst (λ (k : Kind). IsBare (base_of k) (stars_in k)) pointed.kind sound.bare in
    let allowed : is_allowed Role.Cast c.to.base (length c.to.levels - 1) ≡ true = ap₂ (is_allowed Role.Cast) based stars ∙ pointer_allowed b n bare in
    record {
      types = λ s.
          let t : WrittenType = type_at (recast_of r c) s in
          joined (base_notes file.structs t.base.token t.ctype.base ++ fault_unless (allowed_there Role.Cast t) s.first.token TypeNotAllowed) (modes_notes σ [] c.to.levels)
          (joined (base_notes file.structs t.base.token t.ctype.base) _ (base_clean file.structs t.base.token c.to.base known) (unless (allowed_there Role.Cast t) s.first.token TypeNotAllowed allowed))
          (paths names scoped);
      lvalue = lvalue_at m c named site;
      kind = λ s. pointed.kind ∙ ap₂ object (sym based) (sym stars);
      pointer = ap is_pointer pointed.kind ∙ below_any n;
    }
