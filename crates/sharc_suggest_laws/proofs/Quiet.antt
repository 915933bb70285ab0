-- What is said of a construct without a mismatch of what is given to something.
use Rattle.sharc_suggest_laws.proofs.Imports.{◌≡◌, ℕ, ◌+◌, ◌==◌, Bool, true, false, ◌&&◌, cond, List, [], ◌∷◌, ◌++◌, drop, Option, Some, None, refl, arith, and_left, true≢false, flat_map, list_any, Base, Mode, Path, Span, Declaration, GlobalDefinition, PlaceCall, Free, without_parentheses, span_of, Expression, Arguments, Function, Numbered, Resolution, named_at, ErrorCode, ReadonlyWrite, PrivateTarget, PrivateField, PrivateReachesThread, CastChangesInnerMode, ReadonlySource, Finding, Wrong, cell_at, top_of, is_mismatch, Assignment, span_text, error_where, write_notes, private_notes, is_private_level, is_field_role, private_field_notes, names_of, names_in, names_in_all, names_in_level, unmet_notes, first_unmet, names_read, parameter_names, names_at_call, call_notes, taken_variable, takes, source_notes, sibling_notes, levels_of, printed_type, mismatch, shown, PathReading, at_call, read, declared_row, modes_of, written, Lock as LockPath, Sharing, locked, sharing_of, text_at, same_all, is_readonly, is_sibling, variable_named, object_of, place_of, holds_private, first_unfit_path, first_unfit_mode, is_spawned, has_private_target, parameter_notes, spawned_notes, touched_notes, is_mismatch_at}
use Rattle.sharc_mode.specs.{Expressions.place_notes, Notes.{path_notes, mode_notes, type_notes, cast_notes, field_notes}}

-- how many mismatches at a token are said
abbrev pub one : ℕ → Finding → ℕ
one t (Wrong e) = cond (is_mismatch_at t e) 1 0
one t _ = 0

abbrev pub ones : ℕ → List Finding → ℕ
ones t [] = 0
ones t (n ∷ rest) = one t n + ones t rest

pub ones_append : (t : ℕ) (xs ys : List Finding) → ones t (xs ++ ys) ≡ ones t xs + ones t ys
ones_append t [] ys = let same : ones t ys ≡ 0 + ones t ys = omega arith in same
ones_append t (n ∷ xs) ys =
    let more : ones t (xs ++ ys) ≡ ones t xs + ones t ys = ones_append t xs ys in
    let same : one t n + ones t (xs ++ ys) ≡ one t n + ones t xs + ones t ys = omega (arith, more) in
    same

pub both_quiet : (t : ℕ) (xs ys : List Finding) → ones t xs ≡ 0 → ones t ys ≡ 0 → ones t (xs ++ ys) ≡ 0
both_quiet t xs ys left right = let sum : ones t (xs ++ ys) ≡ ones t xs + ones t ys = ones_append t xs ys in omega (arith, sum, left, right)

pub all_quiet : {A : Type 0} (t : ℕ) (f : A → List Finding) → ((x : A) → ones t (f x) ≡ 0) → (xs : List A) → ones t (flat_map f xs) ≡ 0
all_quiet t f quiet [] = refl
all_quiet t f quiet (x ∷ xs) = both_quiet t (f x) (flat_map f xs) (quiet x) (all_quiet t f quiet xs)

no_count : (b : Bool) (n k : ℕ) → b ≡ false → cond b n k + 0 ≡ k
no_count true n k other = absurd (true≢false other)
no_count false n k other = let same : k + 0 ≡ k = omega arith in same

where_quiet : (t : ℕ) (wrong : Bool) (code : ErrorCode) (s : Span) (subject : List ℕ) → is_mismatch code ≡ false → ones t (error_where wrong code s subject) ≡ 0
where_quiet t true code s subject other = no_count (is_mismatch code && (s.first.token == t)) 1 0 (and_left (is_mismatch code) (s.first.token == t) other)
where_quiet t false code s subject other = refl

-- ---- of expressions

pub write_quiet : (t : ℕ) (m : Assignment) (u : Expression) → ones t (write_notes m u) ≡ 0
write_quiet t m u = where_quiet t (is_readonly (cell_at m u)) ReadonlyWrite (span_of u) (span_text m.typed (span_of u)) refl

takes_quiet : (t : ℕ) (s : Span) (x : Option ℕ) → ones t (takes s x) ≡ 0
takes_quiet t s None = refl
takes_quiet t s (Some x) = refl

pub source_quiet : (t : ℕ) (m : Assignment) (a : Expression) → ones t (source_notes m a) ≡ 0
source_quiet t m a =
    both_quiet t (error_where (is_readonly (cell_at m a)) ReadonlySource (span_of a) (span_text m.typed (span_of a))) (takes (span_of a) (taken_variable m.typed (without_parentheses a)))
    (where_quiet t (is_readonly (cell_at m a)) ReadonlySource (span_of a) (span_text m.typed (span_of a)) refl) (takes_quiet t (span_of a) (taken_variable m.typed (without_parentheses a)))

pub place_quiet : (t : ℕ) (m : Assignment) (w : PlaceCall) (a : Expression) → ones t (place_notes m w a) ≡ 0
place_quiet t m Free a = source_quiet t m a
place_quiet t m _ a = refl

deep_by : (t : ℕ) (r : Resolution) (s : Span) (b : Base) (to from : List Sharing) (same : Bool) → ones t (cond same [] (mismatch CastChangesInnerMode s (shown r b to) (shown r b from) ∷ [])) ≡ 0
deep_by t r s b to from true = refl
deep_by t r s b to from false = refl

pub cast_quiet : (t : ℕ) (r : Resolution) (s : Span) (b : Base) (to : List Sharing) (from : Option (List Sharing)) → ones t (cast_notes r s b to from) ≡ 0
cast_quiet t r s b to None = refl
cast_quiet t r s b to (Some from) = deep_by t r s b to from (same_all r (drop 1 to) (drop 1 from))

names_quiet : (t : ℕ) (x : Option ℕ) → ones t (names_of x) ≡ 0
names_quiet t None = refl
names_quiet t (Some x) = refl

names_in_quiet : (t : ℕ) (r : Resolution) (s : Sharing) → ones t (names_in r s) ≡ 0
names_in_quiet t r (locked l) = names_quiet t (object_of r l)
names_in_quiet t r _ = refl

read_quiet : (t : ℕ) (r : Resolution) (how : PathReading) (level : Option Mode) → ones t (names_read r how level) ≡ 0
read_quiet t r how None = refl
read_quiet t r how (Some mode) = names_in_quiet t r (read r how (sharing_of mode))

read_all_quiet : (t : ℕ) (m : Assignment) (how : PathReading) (d : Declaration) → ones t (parameter_names m how d) ≡ 0
read_all_quiet t m how d =
    let modes : List Sharing = modes_of m (declared_row m.typed how d.name.site.token) in
    let levels : List (Option Mode) = d.written.ctype.levels in
    both_quiet t (names_in_all m.typed modes) (flat_map (names_read m.typed how) levels) (all_quiet t (names_in m.typed) (names_in_quiet t m.typed) modes) (all_quiet t (names_read m.typed how) (read_quiet t m.typed how) levels)

unmet_quiet : (t : ℕ) (r : Resolution) (s : Span) (l : Option LockPath) → ones t (unmet_notes r s l) ≡ 0
unmet_quiet t r s None = refl
unmet_quiet t r s (Some l) = refl

pub call_quiet : (t : ℕ) (m : Assignment) (s : Span) (ds : List Declaration) (all : Arguments) → ones t (call_notes m s ds all) ≡ 0
call_quiet t m s ds all =
    both_quiet t (unmet_notes m.typed s (first_unmet m ds all ds)) (names_at_call m ds all ds) (unmet_quiet t m.typed s (first_unmet m ds all ds))
    (all_quiet t (parameter_names m (at_call ds all)) (read_all_quiet t m (at_call ds all)) ds)

sibling_quiet : (t : ℕ) (r : Resolution) (s : Span) (x : Option ℕ) → ones t (sibling_notes r s x) ≡ 0
sibling_quiet t r s None = refl
sibling_quiet t r s (Some x) = names_quiet t (variable_named (named_at r x))

if_quiet : (t : ℕ) (b : Bool) (notes : List Finding) → ones t notes ≡ 0 → ones t (cond b notes []) ≡ 0
if_quiet t true notes quiet = quiet
if_quiet t false notes quiet = refl

pub field_quiet : (t : ℕ) (r : Resolution) (s : Span) (x : Option ℕ) (modes : List Sharing) → ones t (field_notes r s x modes) ≡ 0
field_quiet t r s x modes = if_quiet t (list_any (is_sibling r) modes) (sibling_notes r s x) (sibling_quiet t r s x)

-- ---- of types

private_quiet : (t : ℕ) (m : Assignment) (n : Numbered) → ones t (private_notes m n) ≡ 0
private_quiet t m n = if_quiet t (holds_private (levels_of m n)) (mismatch PrivateTarget n.entity.written.span (printed_type m n) (printed_type m n) ∷ []) refl

path_quiet : (t : ℕ) (s : Span) (p : Option Path) → ones t (path_notes s p) ≡ 0
path_quiet t s None = refl
path_quiet t s (Some p) = refl

mode_quiet : (t : ℕ) (s : Span) (p : Option Mode) → ones t (mode_notes s p) ≡ 0
mode_quiet t s None = refl
mode_quiet t s (Some p) = refl

private_field_quiet : (t : ℕ) (r : Resolution) (n : Numbered) → ones t (private_field_notes r n) ≡ 0
private_field_quiet t r n =
    if_quiet t (is_field_role n.entity.role) (error_where (list_any is_private_level n.entity.written.ctype.levels) PrivateField n.entity.written.span (text_at r n.entity.token))
    (where_quiet t (list_any is_private_level n.entity.written.ctype.levels) PrivateField n.entity.written.span (text_at r n.entity.token) refl)

level_quiet : (t : ℕ) (r : Resolution) (level : Option Mode) → ones t (names_in_level r level) ≡ 0
level_quiet t r None = refl
level_quiet t r (Some m) = names_in_quiet t r (sharing_of m)

type_quiet : (t : ℕ) (m : Assignment) (n : Numbered) → ones t (type_notes m n) ≡ 0
type_quiet t m n =
    let s : Span = n.entity.written.span in
    let path : List Finding = path_notes s (first_unfit_path m.typed (place_of n.entity.role) n.entity.written.ctype.base n.entity.written.ctype.levels) in
    let mode : List Finding = mode_notes s (first_unfit_mode (place_of n.entity.role) n.entity.written.ctype.base n.entity.written.ctype.levels) in
    let names : List Finding = flat_map (names_in_level m.typed) n.entity.written.ctype.levels in
    both_quiet t (private_notes m n ++ path ++ mode ++ private_field_notes m.typed n) names
    (both_quiet t (private_notes m n ++ path ++ mode) (private_field_notes m.typed n)
    (both_quiet t (private_notes m n ++ path) mode
    (both_quiet t (private_notes m n) path (private_quiet t m n) (path_quiet t s (first_unfit_path m.typed (place_of n.entity.role) n.entity.written.ctype.base n.entity.written.ctype.levels)))
    (mode_quiet t s (first_unfit_mode (place_of n.entity.role) n.entity.written.ctype.base n.entity.written.ctype.levels)))
    (private_field_quiet t m.typed n))
    (all_quiet t (names_in_level m.typed) (level_quiet t m.typed) n.entity.written.ctype.levels)

pub types_quiet : (t : ℕ) (m : Assignment) (list : List Numbered) → ones t (flat_map (type_notes m) list) ≡ 0
types_quiet t m list = all_quiet t (type_notes m) (type_quiet t m) list

-- ---- of what threads get

parameter_quiet : (t : ℕ) (m : Assignment) (name : List ℕ) (d : Declaration) → ones t (parameter_notes m name d) ≡ 0
parameter_quiet t m name d = where_quiet t (has_private_target (modes_of m (declared_row m.typed written d.name.site.token))) PrivateReachesThread d.written.span name refl

pub spawned_quiet : (t : ℕ) (m : Assignment) (n : ℕ) (list : List Function) → ones t (spawned_notes m n list) ≡ 0
spawned_quiet t m n [] = refl
spawned_quiet t m n (f ∷ rest) =
    let notes : List Finding = flat_map (parameter_notes m f.name.text) f.parameters in
    both_quiet t (cond (is_spawned m.typed n) notes []) (spawned_notes m (n + 1) rest)
    (if_quiet t (is_spawned m.typed n) notes (all_quiet t (parameter_notes m f.name.text) (parameter_quiet t m f.name.text) f.parameters)) (spawned_quiet t m (n + 1) rest)

pub touched_quiet : (t : ℕ) (touched : ℕ → Bool) (n : ℕ) (list : List GlobalDefinition) → ones t (touched_notes touched n list) ≡ 0
touched_quiet t touched n [] = refl
touched_quiet t touched n (g ∷ rest) =
    let wrong : Bool = touched n && is_private_level (top_of g.declaration.written.ctype.levels) in
    both_quiet t (error_where wrong PrivateReachesThread g.declaration.written.span g.declaration.name.text) (touched_notes touched (n + 1) rest)
    (where_quiet t wrong PrivateReachesThread g.declaration.written.span g.declaration.name.text refl) (touched_quiet t touched (n + 1) rest)
