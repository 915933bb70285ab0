-- How an event is named, and the lines of all.
use Rattle.std.proofs.{Common.{◌≡◌, ℕ, ◌+◌, ◌<◌, Some, List, [], ◌∷◌, ◌++◌, length, get_or, take, drop, sym, ap, subst, ◌∙◌, append_assoc}, lemmas.List.{reverse-append, take_more, drop_more}}
use Rattle.std.specs.{Prelude.{reverse, if◌then◌else◌}, HashMap.get}
use Rattle.sharc_code.specs.declared.code.Code.{Code}
use Rattle.sharc_history.specs.{declared.cells.Origin.Origin, declared.cells.Where.Where, declared.event.Event.Event}
use Rattle.sharc_history.specs.declared.cells.Where.TheVariants as places
use Rattle.sharc_history.specs.{declared.places.names.LastOrigins.LastOrigins, Names.{same_pair, found, AreNames, IsNoted}, Places.{is_same, event_line, event_lines}}

-- ---- one event more

-- ---- an lvalue, or the name

-- ---- one line more
pub one_more : (events : List Event) (i : ℕ) (d : Event) → i < length events → reverse (take (i + 1) events) ≡ get_or events i d ∷ reverse (take i events)
one_more events i d low = ap reverse (take_more events i d low) ∙ reverse-append (take i events) (get_or events i d ∷ [])

pub line_more : (code : Code) (events : List Event) (i : ℕ) (d : Event) (text more all : List ℕ) → i < length events → more ≡ text ++ event_line code (reverse (take i events)) (get_or events i d)
    → text ++ event_lines code (reverse (take i events)) (drop i events) ≡ all → more ++ event_lines code (reverse (take (i + 1) events)) (drop (i + 1) events) ≡ all
line_more code events i d text more all low line h =
    let e : Event = get_or events i d in
    let earlier : List Event = reverse (take i events) in
    let later : List Event = drop (i + 1) events in
    ap (λ t. t ++ event_lines code (reverse (take (i + 1) events)) later) line
    ∙ ap (λ es. (text ++ event_line code earlier e) ++ event_lines code es later) (one_more events i d low)
    ∙ append_assoc text (event_line code earlier e) (event_lines code (e ∷ earlier) later)
    ∙ sym (ap (λ es. text ++ event_lines code earlier es) (drop_more events i d low))
    ∙ h

pub names_more : (table : LastOrigins) (events : List Event) (i : ℕ) (d : Event) → i < length events → AreNames table (get_or events i d ∷ reverse (take i events)) → AreNames table (reverse (take (i + 1) events))
names_more table events i d low are = subst (AreNames table) (sym (one_more events i d low)) are

-- ---- the table
pub noted_global : (old new : LastOrigins) (at : Where) (number cell : ℕ) (origin : Origin) → at ≡ places.Global number cell
    → ((q : ℕ × ℕ) → get same_pair new.globals q ≡ (if same_pair (number, cell) q then Some origin else get same_pair old.globals q)) → new.made ≡ old.made → IsNoted at origin old new
noted_global old new at number cell origin is updates same = λ q. subst (λ (w : Where). found new q ≡ (if is_same w q then Some origin else found old q)) (sym is) (by q)
  where
    by : (q : Where) → found new q ≡ (if is_same (places.Global number cell) q then Some origin else found old q)
    by (places.Global n i) = updates (n, i)
    by (places.Made n i) = ap (λ m. get same_pair m (n, i)) same

pub noted_made : (old new : LastOrigins) (at : Where) (number cell : ℕ) (origin : Origin) → at ≡ places.Made number cell
    → ((q : ℕ × ℕ) → get same_pair new.made q ≡ (if same_pair (number, cell) q then Some origin else get same_pair old.made q)) → new.globals ≡ old.globals → IsNoted at origin old new
noted_made old new at number cell origin is updates same = λ q. subst (λ (w : Where). found new q ≡ (if is_same w q then Some origin else found old q)) (sym is) (by q)
  where
    by : (q : Where) → found new q ≡ (if is_same (places.Made number cell) q then Some origin else found old q)
    by (places.Global n i) = ap (λ m. get same_pair m (n, i)) same
    by (places.Made n i) = updates (n, i)
