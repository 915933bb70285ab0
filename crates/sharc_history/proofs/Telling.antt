-- A run that has one turn more has one event more, if the turn is one.
use Rattle.std.proofs.{Common.{◌≡◌, ℕ, ◌%◌, ◌^◌, List, [], ◌∷◌, ◌++◌, map, Option, Some, None, refl, ap, sym, ◌∙◌}, lemmas.List.reverse-append}
use Rattle.std.specs.{Prelude.{reverse, IfSome}, Option.option_map}
use Rattle.sharc_tree.specs.{declared.event.Act.Act, declared.event.SourceEvent.SourceEvent}
use Rattle.sharc_tree.specs.declared.event.Act.TheVariants as acts
use Rattle.sharc_code.specs.{declared.code.Code.Code, declared.shape.Shape.Shape, Machine.instr_at, Runs.{Said, Turn, result_of, told_by, with_told}, Says.{says, speaks_of, reference, elements_in, elements_after}, Whole.{one_thread, Erase, place_after}}
use Rattle.sharc_history.specs.{declared.event.Event.Event, declared.next.Coming.Coming, Told.{Told, shown, bare, told, told_of_event, bare_of, comes, spoken}, History.{elements_behind, told_events, with_shown}, Going.{AwaitsAt, with_event, elements_by}}
use Rattle.sharc_lemmas.proofs.Lists.{map_both}

-- ---- the turn
what_comes_at : (code : Code) (s : Shape) (turns : List Turn) → ℕ → ℕ → Option Told
what_comes_at code s turns t found =
    let m = (place_after code s turns).threads t in
    bare_of (says code m found (elements_in (told_events code s turns) (speaks_of (instr_at code m.at.pc) m found)))

pub what_comes : (code : Code) (s : Shape) (turns : List Turn) (t : ℕ) (coming : Coming) (found held : ℕ) (one : Turn) → AwaitsAt code s turns t coming
    → one.thread ≡ t → found ≡ result_of one.event → held ≡ elements_in (told_events code s turns) (spoken coming.next found)
    → comes code t coming found held ≡ bare_of (told_by (one_thread code s) (Erase code s turns) (place_after code s turns) one)
unfolding what_comes_at
what_comes code s turns t coming found held one awaits own is elements =
    ap (λ k. comes code t coming found k) elements
    ∙ ap (λ n. comes code n coming found (elements_in (told_events code s turns) (spoken coming.next found))) (sym awaits.number)
    ∙ awaits.is found (elements_in (told_events code s turns))
    ∙ ap (λ k. what_comes_at code s turns k found) (sym own)
    ∙ ap (what_comes_at code s turns one.thread) is

-- ---- the events
abbrev pub with_source : Option SourceEvent → List SourceEvent → List SourceEvent
with_source None events = events
with_source (Some e) events = e ∷ events

pub told_grown : (t : ℕ) (o : Option SourceEvent) (earlier : List (Said SourceEvent)) → map (λ (x : Said SourceEvent). x.told) (with_told t o earlier) ≡ with_source o (map (λ (x : Said SourceEvent). x.told) earlier)
told_grown t None earlier = refl
told_grown t (Some e) earlier = refl

pub events_more : (code : Code) (sources : List SourceEvent) (events : List Event) (e : Option Event) (x : Option SourceEvent) → option_map (told code) e ≡ bare_of x
    → map (told code) events ≡ map told_of_event (reverse sources) → map (told code) (with_event e events) ≡ map told_of_event (reverse (with_source x sources))
events_more code sources events None None same h = h
events_more code sources events None (Some x) same h = absurd (cc)
events_more code sources events (Some e) None same h = absurd (cc)
events_more code sources events (Some e) (Some x) same h =
    let one : told code e ≡ told_of_event x = cc in
    map_both (told code) events (e ∷ [])
    ∙ ap (λ l. l ++ told code e ∷ []) h
    ∙ ap (λ k. map told_of_event (reverse sources) ++ k ∷ []) one
    ∙ sym (map_both told_of_event (reverse sources) (x ∷ []))
    ∙ ap (map told_of_event) (sym (reverse-append (x ∷ []) sources))

-- ---- the elements of objects
behind_is : (x : SourceEvent) (a : Act) (number earlier : ℕ) → elements_behind (bare a x.answer) number earlier ≡ elements_after x a number earlier
behind_is x (acts.Read c mode) number earlier = refl
behind_is x (acts.Write c mode v) number earlier = refl
behind_is x (acts.New cells elements mode) number earlier = refl
behind_is x (acts.Take taken kind) number earlier = refl
behind_is x (acts.Give reference mode) number earlier = refl
behind_is x (acts.Freed reference) number earlier = refl
behind_is x (acts.Lock c) number earlier = refl
behind_is x (acts.Unlock c) number earlier = refl
behind_is x (acts.Spawn f v) number earlier = refl
behind_is x (acts.Started v) number earlier = refl
behind_is x (acts.Join thread) number earlier = refl
behind_is x (acts.Print v) number earlier = refl
behind_is x acts.Return number earlier = refl
behind_is x acts.Gone number earlier = refl
behind_is x (acts.Enter c) number earlier = refl
behind_is x (acts.Woken c) number earlier = refl
behind_is x (acts.Signal c) number earlier = refl
behind_is x (acts.Broadcast c) number earlier = refl

pub elements_more : (code : Code) (sources : List SourceEvent) (e : Option Event) (x : Option SourceEvent) (number held : ℕ) → option_map (told code) e ≡ bare_of x
    → held ≡ elements_in sources number → elements_by e number held ≡ elements_in (with_source x sources) number
elements_more code sources None None number held same h = h
elements_more code sources None (Some x) number held same h = absurd (cc)
elements_more code sources (Some e) None number held same h = absurd (cc)
elements_more code sources (Some e) (Some x) number held same h =
    let one : told code e ≡ told_of_event x = cc in
    ap (elements_behind (shown e.deed) number) h
    ∙ ap (λ (k : Told). elements_behind k.bare number (elements_in sources number)) one
    ∙ behind_is x x.act number (elements_in sources number)

-- ---- what else is shown of them
pub shown_more : {A : Type 0} (code : Code) (shows : Event → A) (all : List A) (events : List Event) (e : Option Event) (x : Option SourceEvent) (at here : A) → option_map (told code) e ≡ bare_of x
    → IfSome e (λ e. shows e ≡ at) → at ≡ here → map shows events ≡ reverse all
    → map shows (with_event e events) ≡ reverse (with_shown x here all)
shown_more code shows all events None None at here same own is h = h
shown_more code shows all events None (Some x) at here same own is h = absurd (cc)
shown_more code shows all events (Some e) None at here same own is h = absurd (cc)
shown_more code shows all events (Some e) (Some x) at here same own is h =
    map_both shows events (e ∷ [])
    ∙ ap (λ l. l ++ shows e ∷ []) h
    ∙ ap (λ k. reverse all ++ k ∷ []) (own ∙ is)
    ∙ sym (reverse-append (here ∷ []) all)
