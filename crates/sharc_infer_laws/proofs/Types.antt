-- What `well_formed` says of the type of an entity is reported of it.
use Rattle.sharc_infer_laws.proofs.Imports.{◌≡◌, ℕ, zero, suc, ◌+◌, ◌<◌, Bool, true, false, not, ◌&&◌, ◌||◌, cond, List, [], ◌∷◌, ◌++◌, length, map, take, drop, get_or, Option, Some, None, is_some, refl, ap, sym, ◌∙◌, subst, arith, false≢true, or_right, or_left, drop-drop, Contains, before, behind, head_there, of_each, both, AllByRecursion, flat_map, list_any, option_or, Base, Path, Mode, Private, Racy, Span, path_text, mode_text, Role, Entity, Numbered, entities_in, first_depth, numbered, numbered_from, positions_of, written_modes, ErrorCode, PrivateTarget, LockPathNotConstant, ModeNotAllowed, PrivateField, Finding, Wrong, IsLeastAssignment, SettledStay, SettledAreCounted, Assignment, position_count, error, mismatch, no_type, error_where, top_levels, position_levels, levels_of, printed_type, private_notes, path_notes, mode_notes, is_private_level, is_field_role, private_field_notes, names_of, names_in, names_in_level, type_notes, is_mutex, settled, field_target, otherwise_of, settled_modes, settled_in, Sharing, locked, sharing_of, text_at, object_of, place_of, is_private_mode, begins_private, holds_private, meant, first_unfit_path, first_unfit_mode, lowest, code_of, IsTold, TypesAreTold}

-- ---- levels that are known more of than others

abbrev Agrees : List (Option Mode) → List (Option Mode) → Type 0
Agrees [] [] = Unit {0}
Agrees (None ∷ xs) (y ∷ ys) = Agrees xs ys
Agrees (Some x ∷ xs) (y ∷ ys) = (y ≡ Some x) × Agrees xs ys
Agrees _ _ = ⊥

or_kept : (a b c d : Bool) → (a ≡ true → c ≡ true) → (b ≡ true → d ≡ true) → (a || b) ≡ true → (c || d) ≡ true
or_kept true b c d left right is = or_left c d (left refl)
or_kept false b c d left right is = or_right c d (right is)

and_kept : (a b c : Bool) → (b ≡ true → c ≡ true) → (a && b) ≡ true → (a && c) ≡ true
and_kept true b c more is = more is
and_kept false b c more is = is

begins_kept : (a b : List (Option Mode)) → Agrees a b → begins_private a ≡ true → begins_private b ≡ true
begins_kept [] [] h is = is
begins_kept [] (y ∷ b) h is = absurd h
begins_kept (None ∷ a) b h is = absurd (false≢true is)
begins_kept (Some x ∷ a) [] h is = absurd h
begins_kept (Some x ∷ a) (y ∷ b) h is = ap (λ (l : Option Mode). begins_private (l ∷ b)) h.0 ∙ is

holds_later : (y : Option Mode) (b : List (Option Mode)) → holds_private b ≡ true → holds_private (y ∷ b) ≡ true
holds_later None b is = is
holds_later (Some m) b is = or_right (not (is_private_mode m) && begins_private b) (holds_private b) is

-- a private target below a level that is not stays one
holds_kept : (a b : List (Option Mode)) → Agrees a b → holds_private a ≡ true → holds_private b ≡ true
holds_kept [] [] h is = is
holds_kept (None ∷ a) (y ∷ b) h is = holds_later y b (holds_kept a b h is)
holds_kept (Some x ∷ a) (y ∷ b) h is =
    ap (λ (l : Option Mode). holds_private (l ∷ b)) h.0
    ∙ or_kept (not (is_private_mode x) && begins_private a) (holds_private a) (not (is_private_mode x) && begins_private b) (holds_private b)
    (and_kept (not (is_private_mode x)) (begins_private a) (begins_private b) (begins_kept a b h.1)) (holds_kept a b h.1) is
holds_kept _ _ h is = absurd h

-- ---- the modes of the positions agree with what is settled of them

abbrev known : List Mode → List (Option Mode)
known = map (λ mode. Some mode)

all_agree : (s : List (Option Mode)) (ms : List Mode) → length s ≡ length ms → ((i : ℕ) → i < length s → (x : Mode) → get_or s i (Some Private) ≡ Some x → get_or ms i Private ≡ x) → Agrees s (known ms)
all_agree [] [] size h = tt
all_agree (None ∷ s) (y ∷ ms) size h = all_agree s ms (omega (arith, size)) (λ i low x is. h (suc i) (omega (arith, low)) x is)
all_agree (Some x ∷ s) (y ∷ ms) size h = (ap Some (h zero (omega arith) x refl), all_agree s ms (omega (arith, size)) (λ i low z is. h (suc i) (omega (arith, low)) z is))
all_agree _ _ size h = absurd (omega (arith, size))

in_front : (a b : List (Option Mode)) (ms : List Mode) → Agrees (a ++ b) (known ms) → Agrees a (known (take (length a) ms))
in_front [] b ms h = tt
in_front (None ∷ a) b [] h = absurd h
in_front (Some x ∷ a) b [] h = absurd h
in_front (None ∷ a) b (y ∷ ms) h = in_front a b ms h
in_front (Some x ∷ a) b (y ∷ ms) h = (h.0, in_front a b ms h.1)

in_back : (a b : List (Option Mode)) (ms : List Mode) → Agrees (a ++ b) (known ms) → Agrees b (known (drop (length a) ms))
in_back [] b ms h = h
in_back (None ∷ a) b [] h = absurd h
in_back (Some x ∷ a) b [] h = absurd h
in_back (None ∷ a) b (y ∷ ms) h = in_back a b ms h
in_back (Some x ∷ a) b (y ∷ ms) h = in_back a b ms h.1

settled_size : (b : Base) (o : Option Mode) (l : List (Option Mode)) → length (settled b o l) ≡ length l
settled_size b o [] = refl
settled_size b o (x ∷ l) = ap suc (settled_size b o l)

pub modes_size : (e : Entity) → length (settled_modes e) ≡ positions_of e
modes_size e = settled_size e.written.ctype.base (otherwise_of e.role e.written.ctype.levels) (written_modes e)

of_entity : (ms : List Mode) (k : ℕ) (es : List Entity) → Agrees (settled_in es) (known (drop k ms)) → (n : Numbered) (i : ℕ) → i < length (numbered_from k es) → get_or (numbered_from k es) i n ≡ n
    → Agrees (settled_modes n.entity) (known (take (positions_of n.entity) (drop n.first ms)))
of_entity ms k [] all n i low is = absurd (omega (arith, low))
of_entity ms k (e ∷ rest) all n zero low is =
    subst (λ (x : Numbered). Agrees (settled_modes x.entity) (known (take (positions_of x.entity) (drop x.first ms)))) is
    (subst (λ (size : ℕ). Agrees (settled_modes e) (known (take size (drop k ms)))) (modes_size e) (in_front (settled_modes e) (settled_in rest) (drop k ms) all))
of_entity ms k (e ∷ rest) all n (suc i) low is =
    of_entity ms (k + positions_of e) rest
    (subst (λ (l : List Mode). Agrees (settled_in rest) (known l)) (drop-drop (positions_of e) k ms)
    (subst (λ (size : ℕ). Agrees (settled_in rest) (known (drop size (drop k ms)))) (modes_size e) (in_back (settled_modes e) (settled_in rest) (drop k ms) all)))
    n i (omega (arith, low)) is

positions_agree : SettledStay → SettledAreCounted → (m : Assignment) → IsLeastAssignment m → (n : Numbered) → Contains (numbered (entities_in m.typed.program.items)) n → Agrees (settled_modes n.entity) (position_levels m n)
positions_agree stay counted m least n at =
    let es : List Entity = entities_in m.typed.program.items in
    let size : length (settled_in es) ≡ length m.modes = counted m.typed ∙ sym least.modes in
    let total : length (settled_in es) ≡ position_count m.typed = counted m.typed in
    let all : Agrees (settled_in es) (known m.modes) = all_agree (settled_in es) m.modes size (λ i low x is. (stay m least i (subst (λ (k : ℕ). i < k) total low) x is).0) in
    of_entity m.modes 0 es all n at.0 at.1 at.2

-- ---- M3

no_mutex : (b : Base) (x : Option Mode) (l : List (Option Mode)) → is_mutex b (x ∷ l) ≡ false
no_mutex (Base.Struct name) x l = refl
no_mutex _ x l = refl

single_by : (b : Bool) → ((not b && false) || false) ≡ false
single_by true = refl
single_by false = refl

single : (x : Option Mode) → holds_private (x ∷ []) ≡ false
single None = refl
single (Some m) = single_by (is_private_mode m)

top_agrees : (top mine : Option Mode) (s ps : List (Option Mode)) → ((x : Mode) → top ≡ Some x → mine ≡ Some x) → Agrees s ps → Agrees (option_or top None ∷ s) (mine ∷ ps)
top_agrees None mine s ps keep h = h
top_agrees (Some x) mine s ps keep h = (keep x refl, h)

-- what is meant at the levels of a type, beside the modes of its top and of its positions
topped : (b : Base) (top mine o : Option Mode) (below ps : List (Option Mode)) → ((x : Mode) → top ≡ Some x → mine ≡ Some x) → Agrees (settled b o below) ps
    → holds_private (cond (is_mutex b below) (Some Racy) (option_or top None) ∷ settled b o below) ≡ true → holds_private (mine ∷ ps) ≡ true
topped b top mine o [] ps keep h is = absurd (false≢true (sym (single (cond (is_mutex b []) (Some Racy) (option_or top None))) ∙ is))
topped b top mine o (next ∷ below) ps keep h is =
    holds_kept (option_or top None ∷ settled b o (next ∷ below)) (mine ∷ ps) (top_agrees top mine (settled b o (next ∷ below)) ps keep h)
    (ap (λ (c : Bool). holds_private (cond c (Some Racy) (option_or top None) ∷ settled b o (next ∷ below))) (sym (no_mutex b next below)) ∙ is)

or_private : (top : Option Mode) (x : Mode) → top ≡ Some x → option_or top (Some Private) ≡ Some x
or_private top x is = ap (λ (t : Option Mode). option_or t (Some Private)) is

holds_by : (what : Role) (b : Base) (levels ps : List (Option Mode)) → Agrees (settled b (otherwise_of what levels) (drop (first_depth what) levels)) ps → holds_private (meant (place_of what) b levels) ≡ true
    → holds_private (top_levels what levels ++ ps) ≡ true
holds_by Role.Global b (top ∷ below) ps h is = holds_kept (settled b None (top ∷ below)) ps h is
holds_by Role.Field b (top ∷ below) ps h is = topped b top top (Some (field_target (top ∷ below))) below ps (λ x same. same) h is
holds_by Role.Local b (top ∷ below) ps h is = topped b top (option_or top (Some Private)) None below ps (or_private top) h is
holds_by Role.Parameter b (top ∷ below) ps h is = topped b top (option_or top (Some Private)) None below ps (or_private top) h is
holds_by Role.Result b (top ∷ below) ps h is = topped b top top None below ps (λ x same. same) h is
holds_by Role.Cast b (top ∷ below) ps h is = topped b top top None below ps (λ x same. same) h is
holds_by Role.Made b (top ∷ below) ps h is = topped b top top None below ps (λ x same. same) h is
holds_by _ b [] ps h is = absurd (false≢true is)

-- ---- what is reported

module _ (m : Assignment) (n : Numbered) where
  abbrev span : Span
  span = n.entity.written.span

  abbrev levels : List (Option Mode)
  levels = n.entity.written.ctype.levels

  abbrev path : Option Path
  path = first_unfit_path m.typed (place_of n.entity.role) n.entity.written.ctype.base levels

  abbrev mode : Option Mode
  mode = first_unfit_mode (place_of n.entity.role) n.entity.written.ctype.base levels

  abbrev names : List Finding
  names = flat_map (names_in_level m.typed) levels

  abbrev fields : List Finding
  fields = private_field_notes m.typed n

  third : holds_private (levels_of m n) ≡ true → IsTold m n PrivateTarget
  third is =
      let x : Finding = mismatch PrivateTarget span (printed_type m n) (printed_type m n) in
      let here : Contains (private_notes m n) x = subst (λ (b : Bool). Contains (cond b (x ∷ []) []) x) (sym is) (head_there x []) in
      record {
        error = record { code = PrivateTarget; site = span.first; expected = printed_type m n; found = printed_type m n; subject = [] };
        stands = before (private_notes m n ++ path_notes span path ++ mode_notes span mode ++ fields) names x
            (before (private_notes m n ++ path_notes span path ++ mode_notes span mode) fields x (before (private_notes m n ++ path_notes span path) (mode_notes span mode) x (before (private_notes m n) (path_notes span path) x here)));
        coded = refl;
        placed = refl;
      }

  fourth : (p : Path) → path ≡ Some p → IsTold m n LockPathNotConstant
  fourth p is =
      let x : Finding = error LockPathNotConstant span (path_text p) in
      let here : Contains (path_notes span path) x = subst (λ (o : Option Path). Contains (path_notes span o) x) (sym is) (head_there x []) in
      record {
        error = record { code = LockPathNotConstant; site = span.first; expected = no_type; found = no_type; subject = path_text p };
        stands = before (private_notes m n ++ path_notes span path ++ mode_notes span mode ++ fields) names x
            (before (private_notes m n ++ path_notes span path ++ mode_notes span mode) fields x (before (private_notes m n ++ path_notes span path) (mode_notes span mode) x (behind (private_notes m n) (path_notes span path) x here)));
        coded = refl;
        placed = refl;
      }

  fifth : (x : Mode) → mode ≡ Some x → IsTold m n ModeNotAllowed
  fifth w is =
      let x : Finding = error ModeNotAllowed span (mode_text w) in
      let here : Contains (mode_notes span mode) x = subst (λ (o : Option Mode). Contains (mode_notes span o) x) (sym is) (head_there x []) in
      record {
        error = record { code = ModeNotAllowed; site = span.first; expected = no_type; found = no_type; subject = mode_text w };
        stands = before (private_notes m n ++ path_notes span path ++ mode_notes span mode ++ fields) names x
            (before (private_notes m n ++ path_notes span path ++ mode_notes span mode) fields x (behind (private_notes m n ++ path_notes span path) (mode_notes span mode) x here));
        coded = refl;
        placed = refl;
      }

  same_code : (a b : ErrorCode) → Some a ≡ Some b → a ≡ b
  same_code a b is = cc

  no_code : (b : ErrorCode) → None ≡ Some b → ⊥
  no_code b is = cc

  some_is : {A : Type 0} (o : Option A) → is_some o ≡ true → (x : A) × (o ≡ Some x)
  some_is None is = absurd (false≢true is)
  some_is (Some x) is = (x, refl)

  told_by : (a b c : Bool) → (a ≡ true → IsTold m n PrivateTarget) → is_some path ≡ b → is_some mode ≡ c → (code : ErrorCode) → lowest a b c ≡ Some code → IsTold m n code
  told_by true b c first pathed moded code is = subst (IsTold m n) (same_code PrivateTarget code is) (first refl)
  told_by false true c first pathed moded code is = let p = some_is path pathed in subst (IsTold m n) (same_code LockPathNotConstant code is) (fourth p.0 p.1)
  told_by false false true first pathed moded code is = let x = some_is mode moded in subst (IsTold m n) (same_code ModeNotAllowed code is) (fifth x.0 x.1)
  told_by false false false first pathed moded code is = absurd (no_code code is)

  -- ---- where none is reported, there is neither an M4 nor an M5

  abbrev IsOther : Finding → Type 0
  IsOther (Wrong e) = (e.code ≡ LockPathNotConstant → ⊥) × (e.code ≡ ModeNotAllowed → ⊥)
  IsOther _ = Unit {0}

  private_other : (b : Bool) → AllByRecursion IsOther (cond b (mismatch PrivateTarget span (printed_type m n) (printed_type m n) ∷ []) [])
  private_other true = ((λ is. absurd (cc), λ is. absurd (cc)), tt)
  private_other false = tt

  path_other : (o : Option Path) → is_some o ≡ false → AllByRecursion IsOther (path_notes span o)
  path_other None is = tt
  path_other (Some p) is = absurd (false≢true (sym is))

  mode_other : (o : Option Mode) → is_some o ≡ false → AllByRecursion IsOther (mode_notes span o)
  mode_other None is = tt
  mode_other (Some x) is = absurd (false≢true (sym is))

  where_other : (b : Bool) (subject : List ℕ) → AllByRecursion IsOther (error_where b PrivateField span subject)
  where_other true subject = ((λ is. absurd (cc), λ is. absurd (cc)), tt)
  where_other false subject = tt

  field_other : (b c : Bool) (subject : List ℕ) → AllByRecursion IsOther (cond b (error_where c PrivateField span subject) [])
  field_other true c subject = where_other c subject
  field_other false c subject = tt

  name_other : (x : Option ℕ) → AllByRecursion IsOther (names_of x)
  name_other None = tt
  name_other (Some x) = (tt, tt)

  sharing_other : (s : Sharing) → AllByRecursion IsOther (names_in m.typed s)
  sharing_other (locked l) = name_other (object_of m.typed l)
  sharing_other _ = tt

  level_other : (level : Option Mode) → AllByRecursion IsOther (names_in_level m.typed level)
  level_other None = tt
  level_other (Some x) = sharing_other (sharing_of x)

  names_other : (l : List (Option Mode)) → AllByRecursion IsOther (flat_map (names_in_level m.typed) l)
  names_other [] = tt
  names_other (level ∷ l) = both IsOther (names_in_level m.typed level) (flat_map (names_in_level m.typed) l) (level_other level) (names_other l)

  others : is_some path ≡ false → is_some mode ≡ false → AllByRecursion IsOther (type_notes m n)
  others pathed moded =
      both IsOther (private_notes m n ++ path_notes span path ++ mode_notes span mode ++ fields) names
      (both IsOther (private_notes m n ++ path_notes span path ++ mode_notes span mode) fields
      (both IsOther (private_notes m n ++ path_notes span path) (mode_notes span mode)
      (both IsOther (private_notes m n) (path_notes span path) (private_other (holds_private (levels_of m n))) (path_other path pathed)) (mode_other mode moded))
      (field_other (is_field_role n.entity.role) (list_any is_private_level levels) (text_at m.typed n.entity.token)))
      (names_other levels)

  neither : (a b c : Bool) → is_some path ≡ b → is_some mode ≡ c → lowest a b c ≡ None → (is_some path ≡ false) × (is_some mode ≡ false)
  neither true b c pathed moded is = absurd (no_code PrivateTarget (sym is))
  neither false true c pathed moded is = absurd (no_code LockPathNotConstant (sym is))
  neither false false true pathed moded is = absurd (no_code ModeNotAllowed (sym is))
  neither false false false pathed moded is = (pathed, moded)

  none_other : code_of m n ≡ None → (told : (code : ErrorCode) × IsTold m n code) → IsOther (Wrong told.1.error)
  none_other is told =
      let no = neither (holds_private (meant (place_of n.entity.role) n.entity.written.ctype.base levels)) (is_some path) (is_some mode) refl refl is in
      of_each IsOther (type_notes m n) (Wrong told.1.error) (others no.0 no.1) told.1.stands

pub types_are_told : SettledStay → SettledAreCounted → TypesAreTold
types_are_told stay counted m least n at = record {
  told = told_by m n (holds_private (meant (place_of n.entity.role) n.entity.written.ctype.base n.entity.written.ctype.levels)) (is_some (path m n)) (is_some (mode m n))
      (λ is. third m n (holds_by n.entity.role n.entity.written.ctype.base n.entity.written.ctype.levels (position_levels m n) (positions_agree stay counted m least n at) is)) refl refl;
  no_path = λ none told. (none_other m n none (LockPathNotConstant, told)).0 told.coded;
  no_mode = λ none told. (none_other m n none (ModeNotAllowed, told)).1 told.coded;
}
