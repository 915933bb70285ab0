-- The mismatch for which a cast was suggested is gone.
use Rattle.sharc_suggest_laws.proofs.{Imports.{◌≡◌, ℕ, ◌+◌, ◌<◌, ◌≤◌, ◌==◌, ◌&&◌, Bool, true, List, ◌∷◌, ◌++◌, length, Some, refl, ap, subst, ◌∙◌, eq-eqb, arith, not, and_parts, and_from, AllByRecursion, Span, Declaration, without_parentheses, is_lvalue, IsPlaced, span_of, Expression, Scope, Recast, is_there, all_with_cast, recast_of, assignment_with, receiver_with, RepairsWhereTyped, count_of, met_by, met_in_items, begins_at, AsLvalue, heads_notes, no_heads, sizes_notes, file_scope, items_notes, main_missing, notes_about, Resolution, named_at, parameters_named, Cast, ModeError, cell_at, expected, Assignment, IsWhole, is_named, parameter_names, names_at_call, taken_variable, at_call, row_at, is_readonly, said_of_paths, EachNameOnce, OnlyNames, EachTypeFound, SameKinds, IsSuggested, differ_first, may_be_cast, keeps_all, Receiver, of_declared, of_left, of_parameter, Giving, items_givings, beyond, wanted, wanted_of, front, back}, Added.{suggested_is_added_once, at_tokens}, Arguments.IsGivenTo, CallNames.IsSaid, Beside.{calls_said, items_counted, arguments_in}, Calls.call_stays, Clear.all_clear, Counted.{counted, counted_append}, Few.at_most_one, Spread.begins_once, Gone.gone_again, Lefts.{IsBehind, Stands, in_items as lefts_in}, Folded.IsOwnAt, Noted.{Clean, clean_from, Noted}, Owned.all_own, RowsStay.{Frame, now, first_at}, Site.{IsFor, has_site}, Spines.spine, Stands.first_fits, Stay.{notes_grown, names_stay_where_typed, keeps_expected}, Strong.{IsStrong, AreStrong, all_strong}, Types.types_stay, Wants.{left_wanted, IsCall, parameters_same, parameters_clear, beyond_clear, beyond_named, parameter_wanted}}
use Rattle.sharc_suggest.specs.Repairs.{is_free}

-- of the giving that the cast was suggested for
of_site : (P : Giving → Type 0) (gs before behind : List Giving) (g : Giving) → gs ≡ before ++ g ∷ behind → AllByRecursion P gs → P g
of_site P gs before behind g split all = (back P before (g ∷ behind) (subst (AllByRecursion P) split all)).0

begun_at : (m : Assignment) (c : Cast) (tells : ℕ → Bool) (site : IsFor m tells c (items_givings m.typed.program.items)) → 0 < met_in_items (begins_at c.from) m.typed.program.items
begun_at m c tells site =
    let test = begins_at c.from in
    let first : (span_of site.giving.given).first.token ≡ c.from = ap (λ (x : Cast). x.from) site.is in
    let here : met_by test site.giving.given ≡ 1 = ap count_of (eq-eqb (span_of site.giving.given).first.token c.from first) in
    let sum : met_in_items test m.typed.program.items ≡ counted test site.before + counted test (site.giving ∷ site.behind) =
    items_counted m test m.typed.program.items ∙ ap (counted test) site.split ∙ counted_append test site.before (site.giving ∷ site.behind) in
    let rest : counted test (site.giving ∷ site.behind) ≡ met_by test site.giving.given + counted test site.behind = refl in
    omega (arith, here, sum, rest)

there_at : (m : Assignment) (c : Cast) (tells : ℕ → Bool) (site : IsFor m tells c (items_givings m.typed.program.items)) → is_there (recast_of m.typed c) site.giving.given ≡ true
there_at m c tells site =
    let s : Span = span_of site.giving.given in
    let first : s.first.token ≡ c.from = ap (λ (x : Cast). x.from) site.is in
    let last : s.last.token ≡ c.until = ap (λ (x : Cast). x.until) site.is in
    and_from (s.first.token == c.from) (s.last.token == c.until) (eq-eqb s.first.token c.from first) (eq-eqb s.last.token c.until last)

free_at : (m : Assignment) (c : Cast) (tells : ℕ → Bool) (site : IsFor m tells c (items_givings m.typed.program.items)) → is_free tells (taken_variable m.typed (without_parentheses site.giving.given)) ≡ true
free_at m c tells site =
    let e : Expression = site.giving.given in
    (and_parts (not (is_readonly (cell_at m e))) (is_free tells (taken_variable m.typed (without_parentheses e)))
    (and_parts (is_lvalue e) (not (is_readonly (cell_at m e)) && is_free tells (taken_variable m.typed (without_parentheses e)))
    (and_parts (may_be_cast m tells e) (keeps_all m.typed site.giving.scope site.expected)
    (and_parts (differ_first m.typed site.expected site.found) (may_be_cast m tells e && keeps_all m.typed site.giving.scope site.expected) site.repairable).1).0).1).1

-- ---- what is expected by each receiver

-- what is known of the program and the cast
record Setup (m : Assignment) (e : ModeError) (c : Cast) (says : IsSuggested m e (Some c)) : Type 0 where
  frame : Frame m c
  whole : IsWhole m
  placed : IsPlaced m.typed.program
  site : IsFor m says.are.named c (items_givings m.typed.program.items)

fits : (m : Assignment) (e : ModeError) (c : Cast) (says : IsSuggested m e (Some c)) (setup : Setup m e c says) → first_at m c setup.frame ≤ length m.modes
fits m e c says setup = first_fits m c setup.frame.added setup.whole setup.placed

begins : (m : Assignment) (e : ModeError) (c : Cast) (says : IsSuggested m e (Some c)) (setup : Setup m e c says) → (span_of setup.site.giving.given).first.token ≡ c.from
begins m e c says setup = ap (λ (x : Cast). x.from) setup.site.is

wanted_again : (m : Assignment) (e : ModeError) (c : Cast) (says : IsSuggested m e (Some c)) (setup : Setup m e c says) → (to : Receiver) → Stands m.typed (now m c) to setup.site.giving.given
    → IsSaid m (said_of_paths m) (record { scope = setup.site.giving.scope; receiver = to; given = setup.site.giving.given }) → IsGivenTo (is_there (recast_of m.typed c)) 1 (record { scope = setup.site.giving.scope; receiver = to; given = setup.site.giving.given })
    → wanted m to ≡ Some setup.site.expected → wanted (assignment_with c m) (receiver_with (recast_of m.typed c) to) ≡ Some setup.site.expected
wanted_again m e c says setup (of_declared token) stands said given wants =
    let less : token < (span_of setup.site.giving.given).first.token = stands in
    let at : (span_of setup.site.giving.given).first.token ≡ c.from = begins m e c says setup in
    ap Some (types_stay m e c setup.whole setup.placed says token token (λ same also. omega (arith, same, less, at))) ∙ wants
wanted_again m e c says setup (of_left u) stands said given wants =
    let at : (span_of setup.site.giving.given).first.token ≡ c.from = begins m e c says setup in
    let h = spine m c setup.frame stands.scope AsLvalue u stands.placed (omega (arith, at, stands.before)) stands.typed stands.strong stands.held in
    left_wanted m c setup.frame (fits m e c says setup) setup.site.giving.scope setup.site.expected (keeps_expected m c says.are.named setup.site) (row_at m.typed u) _ h.rows wants
wanted_again m e c says setup (of_parameter f all k) stands said given wants =
    let tells : ℕ → Bool = says.are.named in
    let g : Expression = setup.site.giving.given in
    let ds : List Declaration = parameters_named m.typed (named_at m.typed f) in
    let named_so : (z : ℕ) → is_named z (names_at_call m ds all ds) ≡ true → tells z ≡ true = λ z h. says.are.tells z ∙ said z h in
    let call : IsCall m c tells all g =
    record { few = given.0; number = given.1; given = given.2; there = there_at m c tells setup.site; free = free_at m c tells setup.site } in
    let again : expected (assignment_with c m) ds (all_with_cast (recast_of m.typed c) all) (beyond k ds) ≡ Some setup.site.expected =
    parameter_wanted m c setup.frame (fits m e c says setup) tells ds all g call (beyond k ds) (beyond_clear m k ds (parameters_clear m c setup.frame (named_at m.typed f))) setup.site.expected
    (λ z h. named_so z (beyond_named (parameter_names m (at_call ds all)) z k ds h)) wants in
    ap (λ (l : List Declaration). wanted_of (assignment_with c m) l (all_with_cast (recast_of m.typed c) all) k) (parameters_same m c setup.frame f) ∙ again

-- ---- so

pub repairs_where_typed : EachNameOnce → OnlyNames → EachTypeFound → SameKinds → RepairsWhereTyped
repairs_where_typed once only found same_kinds m e c resolved placed low whole says typed =
    let r : Resolution = m.typed in
    let rc : Recast = recast_of r c in
    let tells : ℕ → Bool = says.are.named in
    let items = r.program.items in
    let file : Scope = file_scope items in
    let site : IsFor m tells c (items_givings items) = (has_site m e c says).for in
    let g : Giving = site.giving in
    let kept = names_stay_where_typed once only found m e c resolved placed low says typed in
    let said_again : Noted r (notes_about r.program) (notes_about (now m c).program) = notes_grown once only found m e c resolved placed low says typed in
    let own : (t : ℕ) → AllByRecursion (IsOwnAt t (named_at r t)) (notes_about r.program) = λ t. all_own r t (only r resolved placed low t) (once r resolved placed low t) in
    let frame : Frame m c = record {
      kept = kept;
      added = suggested_is_added_once m e c placed says;
      clear = all_clear r.program.tokens.list items (length r.program.tokens.list) placed.follow placed.items;
      begun = begun_at m c tells site;
      calls = call_stays r (now m c) refl own said_again;
    } in
    let setup : Setup m e c says = record { frame = frame; whole = whole; placed = placed; site = site } in
    let clean : Clean (notes_about r.program) = clean_from (notes_about r.program) resolved.typed in
    let strong : AreStrong r (now m c) (notes_about r.program) =
    all_strong r (now m c) resolved refl refl kept clean own said_again in
    let heads = heads_notes no_heads items in
    let sizes = sizes_notes file.structs 0 items in
    let missing = main_missing (length r.program.tokens.list) file.names in
    let of_items : AreStrong r (now m c) (items_notes file items) =
    back (IsStrong r (now m c)) heads (items_notes file items)
    (front (IsStrong r (now m c)) (heads ++ items_notes file items) sizes (front (IsStrong r (now m c)) (heads ++ items_notes file items ++ sizes) missing strong)) in
    let stands : Stands r (now m c) g.receiver g.given =
    of_site (IsBehind r (now m c)) (items_givings items) site.before site.behind g site.split (lefts_in r (now m c) file items placed.items (same_kinds r resolved placed low) of_items) in
    let said : IsSaid m (said_of_paths m) g = of_site (IsSaid m (said_of_paths m)) (items_givings items) site.before site.behind g site.split (calls_said m) in
    let few : met_in_items (is_there rc) items ≤ 1 =
    at_most_one (at_tokens rc) 0 (length r.program.tokens.list) (met_in_items (is_there rc) items) (begins_once r.program.tokens.list (at_tokens rc) items (length r.program.tokens.list) placed.follow placed.items) in
    let given : IsGivenTo (is_there rc) 1 g = of_site (IsGivenTo (is_there rc) 1) (items_givings items) site.before site.behind g site.split (arguments_in m (is_there rc) 1 items few) in
    gone_again m e c whole placed says (wanted_again m e c says setup g.receiver stands said given site.wants)
