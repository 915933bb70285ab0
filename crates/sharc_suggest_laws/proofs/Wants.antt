-- What is expected at the cast is what was expected.
use Rattle.sharc_suggest_laws.proofs.{Imports.{◌≡◌, ◌⊎◌, inl, inr, ℕ, zero, suc, ◌≤◌, ◌==◌, Bool, true, false, not, ◌&&◌, ◌||◌, cond, List, [], ◌∷◌, map, length, take, drop, Option, Some, None, option_map, is_some, is_none, slice_get, refl, ap, ap₂, sym, subst, ◌∙◌, eq-eqb, false≢true, and_parts, AllByRecursion, flat_map, Mode, Declaration, without_parentheses, Expression, identifier, cast, Arguments, no_arguments, argument, Function, span_of, Named, Entry, look_up, Recast, is_there, around, with_cast, all_with_cast, function_with_cast, type_at, recast_of, targets, inserted, assignment_with, is_dull, KeepsName, Resolution, named_at, function_at, functions_in, parameters_of, parameters_named, Cast, Finding, Names, expected, Assignment, is_named, names_of, names_in, names_in_all, names_read, parameter_names, taken_variable, PathReading, at_call, Targets, is_constant_named, constant_use, argument_use, lock_through, with_base, lock_for, read_lock, read, reading_through, declared_row, modes_of, Lock, Sharing, locked, sharing_of, is_field, variable_named, object_named, text_at, is_call_at, keeps_named, keeps, keeps_all, beyond, no_token as no_use, one_some as one_use, none_some, one_some}, Arguments.{nth, args_met, one_nth}, CallNames.{named_left, named_right}, Grown.span_same, Rows.{IsShifted, same_stretch}, RowsStay.{Frame, now, many, first_at, IsRowMoved, AreRowsMoved, IsClearOf, clear_moved, functions_same, use_same}, Stands.first_is}
use Rattle.sharc_suggest.specs.Repairs.{is_free}

-- ---- the modes of a row that was moved, where its lock paths are read alike

-- of what has this property, so are the paths that are read in it
abbrev pub ReadAlike : Resolution → Resolution → (Sharing → Type 0) → PathReading → PathReading → Type 0
ReadAlike r new good how later = (l : Lock) → good (locked (read_lock r how l)) → read_lock new later l ≡ read_lock r how l

read_one : (r new : Resolution) (good : Sharing → Type 0) (how later : PathReading) → ReadAlike r new good how later → (s : Sharing) → good (read r how s) → read new later s ≡ read r how s
read_one r new good how later alike (locked l) is = ap locked (alike l is)
read_one r new good how later alike _ is = refl

read_all : (r new : Resolution) (good : Sharing → Type 0) (how later : PathReading) → ReadAlike r new good how later → (l : List Mode) → AllByRecursion good (map (λ mode. read r how (sharing_of mode)) l)
    → map (λ mode. read new later (sharing_of mode)) l ≡ map (λ mode. read r how (sharing_of mode)) l
read_all r new good how later alike [] are = refl
read_all r new good how later alike (x ∷ rest) are = ap₂ (λ (s : Sharing) (l : List Sharing). s ∷ l) (read_one r new good how later alike (sharing_of x) are.0) (read_all r new good how later alike rest are.1)

abbrev modes_with : Resolution → PathReading → ℕ → ℕ → List Mode → List Sharing
modes_with r how first count modes = map (λ mode. read r how (sharing_of mode)) (take count (drop first modes))

pub modes_moved : (m : Assignment) (c : Cast) (frame : Frame m c) → first_at m c frame ≤ length m.modes → (good : Sharing → Type 0) (how later : PathReading) → ReadAlike m.typed (now m c) good how later → (old new : Targets)
    → IsRowMoved (first_at m c frame) (many c) how later old new → AllByRecursion good (modes_of m old) → modes_of (assignment_with c m) new ≡ modes_of m old
modes_moved m c frame fits good how later alike old new moved are = by moved.place
  where
    next : Assignment
    next = assignment_with c m

    ones : List Mode
    ones = targets c.to.levels

    modes : next.modes ≡ inserted (first_at m c frame) ones m.modes
    modes = ap (λ (n : ℕ). inserted n ones m.modes) (first_is m c frame.added)

    by : (old.count ≡ 0) ⊎ (IsShifted (first_at m c frame) (many c) old.first new.first old.count × (old.reading ≡ how) × (new.reading ≡ later)) → modes_of next new ≡ modes_of m old
    by (inl none) =
        ap (λ (k : ℕ). modes_with (now m c) new.reading new.first k next.modes) (moved.counted ∙ none) ∙ sym (ap (λ (k : ℕ). modes_with m.typed old.reading old.first k m.modes) none)
    by (inr w) =
        let stretch : take old.count (drop new.first (inserted (first_at m c frame) ones m.modes)) ≡ take old.count (drop old.first m.modes) =
        same_stretch (first_at m c frame) ones m.modes old.first new.first old.count fits w.0 in
        let good_ones : AllByRecursion good (modes_with m.typed how old.first old.count m.modes) = subst (λ (x : PathReading). AllByRecursion good (modes_with m.typed x old.first old.count m.modes)) w.1 are in
        ap (λ (x : PathReading). modes_with (now m c) x new.first new.count next.modes) w.2
        ∙ ap (λ (k : ℕ). modes_with (now m c) later new.first k next.modes) moved.counted
        ∙ ap (λ (l : List Mode). modes_with (now m c) later new.first old.count l) modes
        ∙ ap (map (λ mode. read (now m c) later (sharing_of mode))) stretch
        ∙ read_all m.typed (now m c) good how later alike (take old.count (drop old.first m.modes)) good_ones
        ∙ ap (λ (x : PathReading). modes_with m.typed x old.first old.count m.modes) (sym w.1)

-- ---- a path that begins with no field begins with none later

kept_apart : (so : Bool) (v w : Named) → KeepsName v w → (e : Option Entry) → keeps_named so v e ≡ true → (is_field v ≡ false → so ≡ true → is_field w ≡ false) → is_field v ≡ false → is_field w ≡ false
kept_apart so v w (inl same) e is calls other = ap is_field (sym same) ∙ other
kept_apart so (Named.Struct n) w (inr p) None is calls other = absurd (false≢true is)
kept_apart so (Named.Struct n) w (inr p) (Some e) is calls other = absurd (false≢true is)
kept_apart so (Named.Global n) w (inr p) e is calls other = absurd (false≢true p.0)
kept_apart so (Named.Function n) w (inr p) e is calls other = absurd (false≢true p.0)
kept_apart so (Named.Variable x) w (inr p) e is calls other = absurd (false≢true p.0)
kept_apart so (Named.Field f) w (inr p) e is calls other = absurd (false≢true (sym other))
kept_apart so Named.Known w (inr p) None is calls other = calls other is
kept_apart so Named.Known w (inr p) (Some e) is calls other = absurd (false≢true is)

abbrev IsKeeping : Assignment → List Entry → Sharing → Type 0
IsKeeping m scope s = keeps m.typed scope s ≡ true

are_keeping : (m : Assignment) (scope : List Entry) (l : List Sharing) → keeps_all m.typed scope l ≡ true → AllByRecursion (IsKeeping m scope) l
are_keeping m scope [] is = tt
are_keeping m scope (s ∷ rest) is =
    let parts : (keeps m.typed scope s ≡ true) × (keeps_all m.typed scope rest ≡ true) = and_parts (keeps m.typed scope s) (keeps_all m.typed scope rest) is in
    (parts.0, are_keeping m scope rest parts.1)

-- ---- a left side

field_kept : (v w : Named) → KeepsName v w → is_field v ≡ true → is_field w ≡ true
field_kept v w (inl same) is = ap is_field (sym same) ∙ is
field_kept v w (inr p) is = p.2 is

through_by : (m : Assignment) (c : Cast) → Frame m c → (scope : List Entry) (at : ℕ) (l : Lock) (b : Bool) → is_field (named_at m.typed l.first) ≡ b → keeps m.typed scope (locked (lock_through m.typed at l)) ≡ true
    → lock_through (now m c) at l ≡ lock_through m.typed at l
through_by m c frame scope at l true is good =
    let later : is_field (named_at (now m c) l.first) ≡ true = field_kept (named_at m.typed l.first) (named_at (now m c) l.first) (frame.kept l.first) is in
    ap (λ (f : Bool). cond (f && is_none l.second) (record { first = at; second = Some (text_at m.typed l.first) }) l) (later ∙ sym is)
through_by m c frame scope at l false is good =
    let plain : lock_through m.typed at l ≡ l = ap (λ (f : Bool). cond (f && is_none l.second) (record { first = at; second = Some (text_at m.typed l.first) }) l) is in
    let first : keeps m.typed scope (locked l) ≡ true = subst (λ (x : Lock). keeps m.typed scope (locked x) ≡ true) plain good in
    let later : is_field (named_at (now m c) l.first) ≡ false =
    kept_apart (is_call_at m.typed l.first) (named_at m.typed l.first) (named_at (now m c) l.first) (frame.kept l.first) (look_up scope (text_at m.typed l.first)) first (frame.calls l.first) is in
    ap (λ (f : Bool). cond (f && is_none l.second) (record { first = at; second = Some (text_at m.typed l.first) }) l) (later ∙ sym is)

reads_alike : (m : Assignment) (c : Cast) → Frame m c → (scope : List Entry) (at : Option ℕ) → ReadAlike m.typed (now m c) (IsKeeping m scope) (reading_through at) (reading_through at)
reads_alike m c frame scope None l good = refl
reads_alike m c frame scope (Some at) l good = through_by m c frame scope at l (is_field (named_at m.typed l.first)) refl good

pub left_wanted : (m : Assignment) (c : Cast) (frame : Frame m c) → first_at m c frame ≤ length m.modes → (scope : List Entry) (want : List Sharing) → keeps_all m.typed scope want ≡ true → (old new : Option Targets)
    → AreRowsMoved (first_at m c frame) (many c) old new → option_map (modes_of m) old ≡ Some want → option_map (modes_of (assignment_with c m)) new ≡ Some want
left_wanted m c frame fits scope want kept None new moved is = absurd (none_some want is)
left_wanted m c frame fits scope want kept (Some old) None moved is = absurd moved
left_wanted m c frame fits scope want kept (Some old) (Some new) moved is =
    let same : modes_of m old ≡ want = one_some (modes_of m old) want is in
    let are : AllByRecursion (IsKeeping m scope) (modes_of m old) = subst (AllByRecursion (IsKeeping m scope)) (sym same) (are_keeping m scope want kept) in
    ap Some (modes_moved m c frame fits (IsKeeping m scope) (reading_through moved.0) (reading_through moved.0) (reads_alike m c frame scope moved.0) old new moved.1 are ∙ same)

-- ---- a parameter

-- the parameters are the same
dull_parameters : (r : Resolution) (v : Named) → is_dull v ≡ true → parameters_named r v ≡ []
dull_parameters r (Named.Global n) is = absurd (false≢true is)
dull_parameters r (Named.Function n) is = absurd (false≢true is)
dull_parameters r (Named.Variable t) is = absurd (false≢true is)
dull_parameters r _ is = refl

of_option_same : (c : Recast) (o : Option Function) → parameters_of (option_map (function_with_cast c) o) ≡ parameters_of o
of_option_same c None = refl
of_option_same c (Some f) = refl

of_name_same : (m : Assignment) (c : Cast) (v : Named) → parameters_named (now m c) v ≡ parameters_named m.typed v
of_name_same m c (Named.Function n) = ap parameters_of (functions_same m c n) ∙ of_option_same (recast_of m.typed c) (function_at m.typed n)
of_name_same m c _ = refl

parameters_by : (m : Assignment) (c : Cast) (v w : Named) → KeepsName v w → parameters_named (now m c) w ≡ parameters_named m.typed v
parameters_by m c v w (inl same) = ap (parameters_named (now m c)) (sym same) ∙ of_name_same m c v
parameters_by m c v w (inr p) = dull_parameters (now m c) w p.1 ∙ sym (dull_parameters m.typed v p.0)

pub parameters_same : (m : Assignment) (c : Cast) → Frame m c → (f : ℕ) → parameters_named (now m c) (named_at (now m c) f) ≡ parameters_named m.typed (named_at m.typed f)
parameters_same m c frame f = parameters_by m c (named_at m.typed f) (named_at (now m c) f) (frame.kept f)

abbrev pub AreClearOf : Assignment → List Declaration → Type 0
AreClearOf m ds = AllByRecursion (λ (d : Declaration). IsClearOf m d.name.site.token) ds

of_functions : (m : Assignment) (fs : List Function) (n : ℕ) → AllByRecursion (λ (f : Function). AreClearOf m f.parameters) fs → AreClearOf m (parameters_of (slice_get fs n))
of_functions m [] n all = tt
of_functions m (f ∷ rest) zero all = all.0
of_functions m (f ∷ rest) (suc n) all = of_functions m rest n all.1

pub parameters_clear : (m : Assignment) (c : Cast) → Frame m c → (v : Named) → AreClearOf m (parameters_named m.typed v)
parameters_clear m c frame (Named.Function n) = of_functions m (functions_in m.typed.program.items) n frame.clear.parameters
parameters_clear m c frame _ = tt

dropped : {A : Type 0} (P : A → Type 0) (l : List A) → AllByRecursion P l → AllByRecursion P (drop 1 l)
dropped P [] h = tt
dropped P (x ∷ rest) h = h.1

pub beyond_clear : (m : Assignment) (k : ℕ) (ds : List Declaration) → AreClearOf m ds → AreClearOf m (beyond k ds)
beyond_clear m zero ds h = h
beyond_clear m (suc k) ds h = dropped (λ (d : Declaration). IsClearOf m d.name.site.token) (beyond k ds) (beyond_clear m k ds h)

-- what is named in what the parameters from one on expect is named at the call
more_named : (f : Declaration → List Finding) (x : ℕ) (ds : List Declaration) → is_named x (flat_map f (drop 1 ds)) ≡ true → is_named x (flat_map f ds) ≡ true
more_named f x [] is = is
more_named f x (d ∷ rest) is = named_right x (f d) (flat_map f rest) is

pub beyond_named : (f : Declaration → List Finding) (x k : ℕ) (ds : List Declaration) → is_named x (flat_map f (beyond k ds)) ≡ true → is_named x (flat_map f ds) ≡ true
beyond_named f x zero ds is = is
beyond_named f x (suc k) ds is = beyond_named f x k ds (more_named f x (beyond k ds) is)

-- what is expected: the variables that its paths name are named
record IsGood (m : Assignment) (tells : ℕ → Bool) (s : Sharing) : Type 0 where
  named_so : (z : ℕ) → is_named z (names_in m.typed s) ≡ true → tells z ≡ true

are_good : (m : Assignment) (tells : ℕ → Bool) (l : List Sharing) → ((z : ℕ) → is_named z (names_in_all m.typed l) ≡ true → tells z ≡ true) → AllByRecursion (IsGood m tells) l
are_good m tells [] named_so = tt
are_good m tells (s ∷ rest) named_so = (
  record { named_so = λ z h. named_so z (named_left z (names_in m.typed s) (names_in_all m.typed rest) h) },
  are_good m tells rest (λ z h. named_so z (named_right z (names_in m.typed s) (names_in_all m.typed rest) h)),
)

-- arguments stay the constant variables that they were, but for one that the cast is put round

argument_by : (m : Assignment) (c : Cast) → Frame m c → (a : Expression) (w : Option ℕ) → constant_use m.typed a ≡ w → ((y : ℕ) → is_there (recast_of m.typed c) a ≡ true → w ≡ Some y → ⊥) → (b : Bool) → is_there (recast_of m.typed c) a ≡ b
    → constant_use (now m c) (cond b (cast (span_of (with_cast (recast_of m.typed c) a)) (type_at (recast_of m.typed c) (span_of (with_cast (recast_of m.typed c) a))) (with_cast (recast_of m.typed c) a)) (with_cast (recast_of m.typed c) a)) ≡ w
argument_by m c frame a None is never true there = refl
argument_by m c frame a (Some y) is never true there = absurd (never y there refl)
argument_by m c frame a w is never false other = use_same m c frame.kept a ∙ is

there_same : (c : Recast) (a : Expression) → is_there c (with_cast c a) ≡ is_there c a
there_same c a = ap (λ s. s.first.token == c.from && s.last.token == c.until) (span_same c a)

uses_same : (m : Assignment) (c : Cast) (frame : Frame m c) (whole : Arguments) (x : ℕ) (w : Option ℕ) (ds : List Declaration) (all : Arguments) → ((e : Expression) (j : ℕ) → nth j all ≡ Some e → (i : ℕ) × (nth i whole ≡ Some e))
    → ((a : Expression) (i y : ℕ) → nth i whole ≡ Some a → is_there (recast_of m.typed c) a ≡ true → w ≡ Some y → constant_use m.typed a ≡ Some y → ⊥) → argument_use m.typed ds all x ≡ w
    → argument_use (now m c) ds (all_with_cast (recast_of m.typed c) all) x ≡ w
uses_same m c frame whole x w [] all among never is = is
uses_same m c frame whole x w (d ∷ rest) no_arguments among never is = is
uses_same m c frame whole x w (d ∷ rest) (argument a more) among never is =
    by (d.name.site.token == x) is (uses_same m c frame whole x w rest more (λ e j at. among e (suc j) at) never)
  where
    rc : Recast
    rc = recast_of m.typed c

    here : constant_use m.typed a ≡ w → constant_use (now m c) (around rc (with_cast rc a)) ≡ w
    here same =
        ap (λ (b : Bool). constant_use (now m c) (cond b (cast (span_of (with_cast rc a)) (type_at rc (span_of (with_cast rc a))) (with_cast rc a)) (with_cast rc a))) (there_same rc a)
        ∙ argument_by m c frame a w same (λ y there so. never a (among a zero refl).0 y (among a zero refl).1 there so (same ∙ so)) (is_there rc a) refl

    by : (b : Bool) → cond b (constant_use m.typed a) (argument_use m.typed rest more x) ≡ w → (argument_use m.typed rest more x ≡ w → argument_use (now m c) rest (all_with_cast rc more) x ≡ w)
        → cond b (constant_use (now m c) (around rc (with_cast rc a))) (argument_use (now m c) rest (all_with_cast rc more) x) ≡ w
    by true same later = here same
    by false same later = later same

-- what is a constant variable is taken, and named if a path begins with it

named_itself : (z : ℕ) → is_named z (Names z ∷ []) ≡ true
named_itself z = ap (λ (b : Bool). b || false) (eq-eqb z z refl)

constant_variable : (r : Resolution) (tells : ℕ → Bool) (v : Named) → is_constant_named r v ≡ true → is_free tells (object_named r v) ≡ true → ((z : ℕ) → is_named z (names_of (object_named r v)) ≡ true → tells z ≡ true) → ⊥
constant_variable r tells (Named.Variable z) is free told = false≢true (sym (ap not (told z (named_itself z))) ∙ free)
constant_variable r tells _ is free told = false≢true is

free_use : (r : Resolution) (tells : ℕ → Bool) (a : Expression) (y : ℕ) → constant_use r a ≡ Some y → is_free tells (taken_variable r (without_parentheses a)) ≡ true → ((z : ℕ) → is_named z (names_of (object_named r (named_at r y))) ≡ true → tells z ≡ true) → ⊥
free_use r tells (identifier s i) y is free told = by (is_constant_named r (named_at r i.site.token)) refl is
  where
    by : (b : Bool) → is_constant_named r (named_at r i.site.token) ≡ b → cond b (Some i.site.token) None ≡ Some y → ⊥
    by true constant_so same =
        let at : i.site.token ≡ y = one_use i.site.token y same in
        constant_variable r tells (named_at r i.site.token) constant_so free (λ z h. told z (subst (λ (k : ℕ). is_named z (names_of (object_named r (named_at r k))) ≡ true) at h))
    by false constant_so same = no_use y same
free_use r tells _ y is free told = no_use y is

-- the call, where the value is one of its arguments, and the only one with the tokens of the cast
pub record IsCall (m : Assignment) (c : Cast) (tells : ℕ → Bool) (all : Arguments) (e : Expression) : Type 0 where
  pub few : args_met (is_there (recast_of m.typed c)) all ≤ 1
  pub number : ℕ
  pub given : nth number all ≡ Some e
  pub there : is_there (recast_of m.typed c) e ≡ true
  pub free : is_free tells (taken_variable m.typed (without_parentheses e)) ≡ true

variable_read : (m : Assignment) (c : Cast) (frame : Frame m c) (tells : ℕ → Bool) (ds : List Declaration) (all : Arguments) (e : Expression) → IsCall m c tells all e → (l : Lock) (x : ℕ) (w : Option ℕ) → argument_use m.typed ds all x ≡ w
    → IsGood m tells (locked (with_base w l)) → with_base (argument_use (now m c) ds (all_with_cast (recast_of m.typed c) all) x) l ≡ with_base w l
variable_read m c frame tells ds all e at l x w is good =
    ap (λ (o : Option ℕ). with_base o l)
    (uses_same m c frame all x w ds all (λ a j h. (j, h))
    (λ a i y there_a is_there_a so used.
    let same : a ≡ e = one_nth (is_there (recast_of m.typed c)) all at.few i at.number a e there_a at.given is_there_a at.there in
    free_use m.typed tells a y used (subst (λ (z : Expression). is_free tells (taken_variable m.typed (without_parentheses z)) ≡ true) (sym same) at.free)
    (subst (λ (o : Option ℕ). (z : ℕ) → is_named z (names_in m.typed (locked (with_base o l))) ≡ true → tells z ≡ true) so good.named_so)) is)

-- a path that begins with no variable stays as it is

dull_none : (w : Named) → is_dull w ≡ true → variable_named w ≡ None
dull_none (Named.Variable x) dull = absurd (false≢true dull)
dull_none _ dull = refl

none_later : (v w : Named) → KeepsName v w → variable_named v ≡ None → variable_named w ≡ None
none_later v w (inl same) none = ap variable_named (sym same) ∙ none
none_later v w (inr p) none = dull_none w p.1

plain_lock : (m : Assignment) (c : Cast) (ds : List Declaration) (all : Arguments) (l : Lock) (v w : Named) → KeepsName v w → variable_named v ≡ None
    → lock_for (now m c) ds (all_with_cast (recast_of m.typed c) all) (variable_named w) l ≡ lock_for m.typed ds all (variable_named v) l
plain_lock m c ds all l v w h none =
    ap (λ (o : Option ℕ). lock_for (now m c) ds (all_with_cast (recast_of m.typed c) all) o l) (none_later v w h none) ∙ sym (ap (λ (o : Option ℕ). lock_for m.typed ds all o l) none)

lock_read : (m : Assignment) (c : Cast) (frame : Frame m c) (tells : ℕ → Bool) (ds : List Declaration) (all : Arguments) (e : Expression) → IsCall m c tells all e → (l : Lock) (v w : Named) → named_at m.typed l.first ≡ v → named_at (now m c) l.first ≡ w
    → KeepsName v w → IsGood m tells (locked (lock_for m.typed ds all (variable_named v) l)) → lock_for (now m c) ds (all_with_cast (recast_of m.typed c) all) (variable_named w) l ≡ lock_for m.typed ds all (variable_named v) l
lock_read m c frame tells ds all e at l (Named.Variable x) w is later h good =
    ap (λ (o : Option ℕ). lock_for (now m c) ds (all_with_cast (recast_of m.typed c) all) o l) (ap variable_named (same_variable x w h))
    ∙ variable_read m c frame tells ds all e at l x (argument_use m.typed ds all x) refl good
  where
    same_variable : (x : ℕ) (w : Named) → KeepsName (Named.Variable x) w → w ≡ Named.Variable x
    same_variable x w (inl same) = sym same
    same_variable x w (inr p) = absurd (false≢true p.0)
lock_read m c frame tells ds all e at l k w is later h good = plain_lock m c ds all l k w h refl

call_alike : (m : Assignment) (c : Cast) (frame : Frame m c) (tells : ℕ → Bool) (ds : List Declaration) (all : Arguments) (e : Expression) → IsCall m c tells all e
    → ReadAlike m.typed (now m c) (IsGood m tells) (at_call ds all) (at_call ds (all_with_cast (recast_of m.typed c) all))
call_alike m c frame tells ds all e at l good = by (is_some l.second) refl good
  where
    by : (b : Bool) → is_some l.second ≡ b → IsGood m tells (locked (lock_for m.typed ds all (cond b (variable_named (named_at m.typed l.first)) None) l))
        → lock_for (now m c) ds (all_with_cast (recast_of m.typed c) all) (cond b (variable_named (named_at (now m c) l.first)) None) l ≡ lock_for m.typed ds all (cond b (variable_named (named_at m.typed l.first)) None) l
    by true is good_so = lock_read m c frame tells ds all e at l (named_at m.typed l.first) (named_at (now m c) l.first) refl refl (frame.kept l.first) good_so
    by false is good_so = refl

-- what the parameter expects
pub parameter_wanted : (m : Assignment) (c : Cast) (frame : Frame m c) → first_at m c frame ≤ length m.modes → (tells : ℕ → Bool) (ds : List Declaration) (all : Arguments) (e : Expression) → IsCall m c tells all e
    → (left : List Declaration) → AreClearOf m left → (want : List Sharing)
    → ((z : ℕ) → is_named z (flat_map (parameter_names m (at_call ds all)) left) ≡ true → tells z ≡ true)
    → expected m ds all left ≡ Some want → expected (assignment_with c m) ds (all_with_cast (recast_of m.typed c) all) left ≡ Some want
parameter_wanted m c frame fits tells ds all e at [] clear want told is = absurd (none_some want is)
parameter_wanted m c frame fits tells ds all e at (d ∷ rest) clear want told is =
    let how : PathReading = at_call ds all in
    let later : PathReading = at_call ds (all_with_cast (recast_of m.typed c) all) in
    let old : Targets = declared_row m.typed how d.name.site.token in
    let same : modes_of m old ≡ want = one_some (modes_of m old) want is in
    let of_first : (z : ℕ) → is_named z (names_in_all m.typed want) ≡ true → tells z ≡ true =
    λ z h. told z
    (named_left z (parameter_names m how d) (flat_map (parameter_names m how) rest)
    (named_left z (names_in_all m.typed (modes_of m old)) (flat_map (names_read m.typed how) d.written.ctype.levels) (ap (λ (l : List Sharing). is_named z (names_in_all m.typed l)) same ∙ h))) in
    let are : AllByRecursion (IsGood m tells) (modes_of m old) = subst (AllByRecursion (IsGood m tells)) (sym same) (are_good m tells want of_first) in
    ap Some (modes_moved m c frame fits (IsGood m tells) how later (call_alike m c frame tells ds all e at) old (declared_row (now m c) later d.name.site.token) (clear_moved m c frame how later d.name.site.token clear.0) are ∙ same)
