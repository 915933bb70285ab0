-- What the threads of a run report, among the events of all threads.
use Rattle.sharc_compile_laws.proofs.Imports.{◌≡◌, ℕ, ℤ, ◌<◌, inl, inr, ⊎_elim, Bool, true, false, cond, List, [], ◌∷◌, ◌++◌, length, map, reverse, refl, sym, ap, ◌∙◌, subst, arith, slice_get, nat_tests, append-nil, reverse-reverse, filter-append, ◌==◌, nat_eq, filter, slice_index_or, SourceEvent, function_at, functions_in, Assignment, events_of, is_of, asks, IsNamedAt, answers_of, by, Code, Row, no_function, Said, said_by, Erase, FlatCode, flat_of, rows_of, names_of, Flattens, globals_of, entered_at, place, dropped, begins, program_of, told_in, IsCodeOf, RunsFollowSource, FollowsSource, TellsIn, ThreadsTell, reverse_cons, AreOfThread, IsFirstOf, OwnAreTold, same_test}
use Rattle.sharc_flat_lemmas.proofs.{Functions.{are_rows, row_of, rows_as_many}, Laid.{mapped_same, rows_many, rows_same}}
use Rattle.sharc_lemmas.proofs.{Lists.some_there, Numbers.same_test}

-- ---- lists
filter_reverse : (f : SourceEvent → Bool) (xs : List SourceEvent) → filter f (reverse xs) ≡ reverse (filter f xs)
filter_reverse f [] = refl
filter_reverse f (x ∷ xs) =
    ap (filter f) (reverse_cons x xs) ∙ filter-append f (reverse xs) (x ∷ []) ∙ ap (λ ys. ys ++ filter f (x ∷ [])) (filter_reverse f xs) ∙ by (f x)
  where
    by : (b : Bool) → reverse (filter f xs) ++ cond b (x ∷ []) [] ≡ reverse (cond b (x ∷ filter f xs) (filter f xs))
    by true = sym (reverse_cons x (filter f xs))
    by false = append-nil (reverse (filter f xs))

-- ---- whose events they are
of_append : (t : ℕ) (xs ys : List SourceEvent) → AreOfThread t xs → AreOfThread t ys → AreOfThread t (xs ++ ys)
of_append t [] ys a b = b
of_append t (x ∷ xs) ys a b = (a.0, of_append t xs ys a.1 b)

of_reverse : (t : ℕ) (xs : List SourceEvent) → AreOfThread t xs → AreOfThread t (reverse xs)
of_reverse t [] h = tt
of_reverse t (x ∷ xs) h = subst (AreOfThread t) (sym (reverse_cons x xs)) (of_append t (reverse xs) (x ∷ []) (of_reverse t xs h.1) (h.0, tt))

of_map : (t : ℕ) (es : List SourceEvent) → AreOfThread t (map (by t) es)
of_map t [] = tt
of_map t (e ∷ es) = (refl, of_map t es)

-- each is said by its own thread
abbrev AreSaidByOwn : List (Said SourceEvent) → Type 0
AreSaidByOwn [] = Unit {0}
AreSaidByOwn (s ∷ says) = (s.told.thread ≡ s.thread) × AreSaidByOwn says

all_own : (says : List (Said SourceEvent)) → ((t : ℕ) → AreOfThread t (told_in (said_by t says))) → AreSaidByOwn says
all_own [] h = tt
all_own (s ∷ says) h = (head, all_own says (λ t. drops t (nat_eq t s.thread) (h t)))
  where
    self : nat_eq s.thread s.thread ≡ true
    self = grind (arith, nat_tests)

    head : s.told.thread ≡ s.thread
    head = (subst (AreOfThread s.thread) (ap (λ b. told_in (cond b (s ∷ said_by s.thread says) (said_by s.thread says))) self) (h s.thread)).0

    drops : (t : ℕ) (b : Bool) → AreOfThread t (told_in (cond b (s ∷ said_by t says) (said_by t says))) → AreOfThread t (told_in (said_by t says))
    drops t true k = k.1
    drops t false k = k

filtered : (t : ℕ) (says : List (Said SourceEvent)) → AreSaidByOwn says → filter (is_of t) (told_in says) ≡ told_in (said_by t says)
filtered t [] h = refl
filtered t (s ∷ says) h =
    ap (λ b. cond b (s.told ∷ filter (is_of t) (told_in says)) (filter (is_of t) (told_in says))) (ap (λ n. n == t) h.0 ∙ same_test s.thread t)
    ∙ ap (λ es. cond (nat_eq t s.thread) (s.told ∷ es) es) (filtered t says h.1) ∙ by (nat_eq t s.thread)
  where
    by : (b : Bool) → cond b (s.told ∷ told_in (said_by t says)) (told_in (said_by t says)) ≡ told_in (cond b (s ∷ said_by t says) (said_by t says))
    by true = refl
    by false = refl

-- ---- where its first event is
split : (t : ℕ) (R : List SourceEvent) (e : SourceEvent) (es : List SourceEvent) → events_of t R ≡ e ∷ es → IsFirstOf t R e es
split t [] e es q = absurd (cc)
split t (x ∷ R) e es q = by (is_of t x) refl q (split t R e es)
  where
    by : (b : Bool) → is_of t x ≡ b → cond b (x ∷ events_of t R) (events_of t R) ≡ e ∷ es → (events_of t R ≡ e ∷ es → IsFirstOf t R e es) → IsFirstOf t (x ∷ R) e es
    by true w q rec = record { before = []; after = R; stands = let h : x ≡ e = cc in ap (λ x. x ∷ R) h; first = refl; rest = cc }
    by false w q rec =
        let h = rec q in
        record {
          before = x ∷ h.before;
          after = h.after;
          stands = ap (λ R. x ∷ R) h.stands;
          first = ap (λ b. cond b (x ∷ events_of t h.before) (events_of t h.before)) w ∙ h.first;
          rest = h.rest;
        }

pub told_are_own : OwnAreTold
told_are_own = record {
  own = λ says own t. filter_reverse (is_of t) (told_in says) ∙ ap reverse (filtered t says (all_own says (λ t. subst (AreOfThread t) (reverse-reverse (told_in (said_by t says))) (of_reverse t (reverse (told_in (said_by t says))) (own t)))));
  first = split;
}

-- ---- the site of a Started is the name of its function
-- the Started of an existing function is at its name
pub started_at_name : (m : Assignment) (flat : FlatCode) → Flattens m flat → (code : Code) → (is : IsCodeOf flat code) → (f : ℕ) (argument : ℤ) → f < length flat.functions.items
    → IsNamedAt (function_at m.typed f) (begins (program_of is.g) f argument).site
started_at_name m flat made code is f argument known =
    let fs = functions_in m.typed.program.items in
    let gs = globals_of m.typed in
    let pl = place (dropped (flat_of flat)) flat.lines.items in
    let rows = rows_of m gs 0 fs in
    let are = are_rows m gs 0 fs in
    let x = some_there fs f (omega (arith, known, rows_as_many m gs 0 fs rows are, rows_many flat.texts.items rows (names_of fs) flat.functions.items made.functions)) in
    let site : (begins (program_of is.g) f argument).site ≡ (slice_index_or rows f no_function).site =
    ap (λ (rows : List Row). (slice_index_or rows f no_function).site) is.made.functions ∙ mapped_same (λ row. row.site) (entered_at pl) (λ row. refl) flat.functions.items f
    ∙ rows_same (λ row. row.site) (λ row name. refl) flat.texts.items rows (names_of fs) flat.functions.items made.functions f
    in
    subst (IsNamedAt (slice_get fs f)) (sym site) (subst (λ o. IsNamedAt o (slice_index_or rows f no_function).site) (sym x.1) (row_of m gs 0 fs rows are f x.0 x.1).site)

-- ---- all together
pub answers_by : (t : ℕ) (es : List SourceEvent) → answers_of (map (by t) es) ≡ answers_of es
answers_by t [] = refl
answers_by t (e ∷ es) = ap (λ xs. e.answer ∷ xs) (answers_by t es)

pub tail_same : (a b : SourceEvent) (xs ys : List SourceEvent) → a ∷ xs ≡ b ∷ ys → xs ≡ ys
tail_same a b xs ys e = cc

pub tell : RunsFollowSource → ThreadsTell
tell law m suits flat made fits code is s run checked consistent t =
    let says = Erase code s run in
    let R = reverse (told_in says) in
    let told : ℕ → List SourceEvent = λ t. reverse (told_in (said_by t (Erase code s run))) in
    let owned : (t : ℕ) → AreOfThread t (told t) = λ t. ⊎_elim
    (λ b. subst (AreOfThread t) (sym b.nothing) tt)
    (λ (h : FollowsSource m code (program_of is.g) (length flat.functions.items) t _ (told t) _ _). subst (AreOfThread t) (sym h.starts) (refl, of_map t h.after))
    (law m suits flat made fits code is s t run checked (consistent t))
    in
    let events : events_of t R ≡ told t = told_are_own.own says owned t in
    ⊎_elim
    (λ b. inl (events ∙ b.nothing))
    (λ (h : FollowsSource m code (program_of is.g) (length flat.functions.items) t _ (told t) _ _). inr (tells R h events))
    (law m suits flat made fits code is s t run checked (consistent t))
  where
    tells : {at : _} {lowered : List ℕ} {paced : ℕ} {said : List SourceEvent} (R : List SourceEvent) → (h : FollowsSource m code (program_of is.g) (length flat.functions.items) t at said lowered paced) → events_of t R ≡ said → TellsIn m R t
    tells R h events =
        let start = by t (begins (program_of is.g) h.function h.argument) in
        let sp = split t R start (map (by t) h.after) (events ∙ h.starts) in
        record {
          function = h.function;
          argument = h.argument;
          before = sp.before;
          begins = start;
          after = sp.after;
          stands = sp.stands;
          own = refl;
          first = sp.first;
          act = refl;
          answer = refl;
          site = started_at_name m flat made code is h.function h.argument h.known;
          asked = λ may.
              let k = h.told may in
              let same : map (by t) (asks m h.function h.argument h.answers k.fuel).events ≡ map (by t) h.after = tail_same _ _ _ _ (sym k.events ∙ h.starts) in
              let own : answers_of (events_of t sp.after) ≡ h.answers =
              ap answers_of (sp.rest ∙ sym same) ∙ answers_by t (asks m h.function h.argument h.answers k.fuel).events ∙ sym k.own
              in
              (k.fuel, ap (λ xs. map (by t) (asks m h.function h.argument xs k.fuel).events) own ∙ same ∙ sym sp.rest);
        }
