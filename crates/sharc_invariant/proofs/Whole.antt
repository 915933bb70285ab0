-- Runs stay in the invariant, and their events obey the sharing rules.
use Rattle.sharc_invariant.proofs.{Imports.{◌≡◌, ℕ, ◌≢◌, Bool, List, [], ◌∷◌, refl, sym, ap, ◌∙◌, subst, ⊎_elim, cases_eq, ◌++◌, Code, Shape, Machine, instr_at, Turn, Global, at, after_turn, state_now, one_thread, bounds, put_other, TypeRules, World, lang_of, has_returned, size_of_run, Effect, Gives, MakesOf as Makes, Returns, NoneOf, events_of, Event, Return, Tied, first_world, first_place, Keeps, Followed, RunsStay, RunsFromTheBeginning, StateStands, RunsStand, NothingYet, NoneReturned, MachineInvariant, changes_objects, objects_now}, Obeyed.effect_tied}
use Rattle.sharc_invariant.specs.{Effect.{Accesses}, Laws.Begins}

joined : {A : Type 0} (a b c : List A) → a ++ (b ++ c) ≡ (a ++ b) ++ c
joined [] b c = refl
joined (x ∷ a) b c = ap (λ l. x ∷ l) (joined a b c)

-- the events of another thread's turn add no access of this one
others_none : (l : TypeRules) (t : ℕ) (returned changes : Bool) (w w' : World) (log : List Event) (u : ℕ) → u ≢ t → NoneOf l log u → (e : Effect l t returned changes w w') → NoneOf l (events_of l t returned changes w w' e ++ log) u
others_none l t returned changes w w' log u ne h (Accesses write b i right alone s) o g k = ⊎_elim (λ z. ne (sym z.3)) (h o g k)
others_none l t returned changes w w' log u ne h (Gives r ty c e q) o g k = λ z. h o g k z.1
others_none l t returned changes w w' log u ne h (Makes r o ty found c d n q) p g k = λ z. h p g k z.1
others_none l t returned changes w w' log u ne h (Returns s) o g k = λ z. h o g k z.1
others_none l t returned changes w w' log u ne h _ p i k = h p i k

-- what a turn leaves of the histories of threads that have returned
returned_stay : (x : Rattle.sharc_invariant.specs.Types.Targets) (code : Code) (s : Shape) (ls : Rattle.sharc_invariant.specs.Labels.Labels) (g : Global Machine) (world : World) (turn : Turn) (k : Followed x code s ls g world turn) (log : List Event)
    → NoneReturned (lang_of x) log g → NoneReturned (lang_of x) (events_of (lang_of x) turn.thread (has_returned (g.threads turn.thread)) (changes_objects (instr_at code (g.threads turn.thread).at.pc) (g.threads turn.thread)) world k.turned.0 k.turned.2 ++ log) (after_turn bounds (one_thread code s) g turn)
returned_stay x code s ls g world turn k log h u r =
    let t = turn.thread in
    let l = lang_of x in
    let new = events_of l t (has_returned (g.threads t)) (changes_objects (instr_at code (g.threads t).at.pc) (g.threads t)) world k.turned.0 k.turned.2 in
    let now = state_now (one_thread code s) g turn in
    ⊎_elim
    (λ (e : u ≡ t). subst (NoneOf l (new ++ log)) (sym e) (⊎_elim
    (λ z. subst (λ evs. NoneOf l (evs ++ log) t) (sym z.1) (h t z.0))
    (λ (z : new ≡ Return t ∷ []). subst (λ evs. NoneOf l (evs ++ log) t) (sym z) (λ o g k a. a.0 refl))
    (k.ends (ap (λ u. has_returned ((after_turn bounds (one_thread code s) g turn).threads u)) (sym e) ∙ r))))
    (λ (ne : u ≡ t → ⊥). others_none l t (has_returned (g.threads t)) (changes_objects (instr_at code (g.threads t).at.pc) (g.threads t)) world k.turned.0 log u ne (h u (ap has_returned (sym (put_other g.threads t u now ne)) ∙ r)) k.turned.2)
    (cases_eq u t)

pub runs_stay : Keeps → RunsStay
runs_stay keeps x code s ls wt fits few f log g world st tied none' [] run = record { stands = record { world = world; state = st; events = []; tied = tied; returned = none' }; objects = refl }
runs_stay keeps x code s ls wt fits few f log g world st tied none' (turn ∷ earlier) run =
    let behind = runs_stay keeps x code s ls wt fits few f log g world st tied none' earlier run.0 in
    let before = behind.stands in
    let place = at bounds (one_thread code s) g earlier in
    let k = keeps x code s ls wt fits few place before.world before.state turn run.1 in
    let back = has_returned (place.threads turn.thread) in
    let changes = changes_objects (instr_at code (place.threads turn.thread).at.pc) (place.threads turn.thread) in
    let w' = k.turned.0 in
    let t = effect_tied (size_of_run code s) (lang_of x) f before.world w' (before.events ++ log) before.state.inv before.tied turn.thread back changes (before.returned turn.thread) k.turned.2 in
    let new = events_of (lang_of x) turn.thread back changes before.world w' k.turned.2 in
    let r = returned_stay x code s ls place before.world turn k (before.events ++ log) before.returned in
    record {
      stands = record {
        world = w';
        state = k.turned.1;
        events = new ++ before.events;
        tied = subst (Tied (lang_of x) f w') (joined new before.events log) t;
        returned = subst (λ evs. NoneReturned (lang_of x) evs (after_turn bounds (one_thread code s) place turn)) (joined new before.events log) r;
      };
      objects = k.objects ∙ ap (objects_now code s ls place turn) behind.objects;
    }

pub nothing_yet : NothingYet
nothing_yet x = record { obj = refl; mutex = refl; acc = λ o g t k h. absurd h; clean = record { none = λ o g t u k h j. absurd h }; obeys = tt }

pub from_the_beginning : Begins → Keeps → RunsFromTheBeginning
from_the_beginning begins keeps x code s ls wt fits few turns run =
    runs_stay keeps x code s ls wt fits few (first_world x).obj [] (first_place code s) (first_world x) (begins x code s ls wt fits) (nothing_yet x) (λ t r o g k z. z) turns run

-- what stands of counts and of references stands at each place
pub runs_stand : StateStands → RunsFromTheBeginning → RunsStand
runs_stand stands runs x code s ls wt fits few turns run =
    let r = runs x code s ls wt fits few turns run in
    let g = at bounds (one_thread code s) (first_place code s) turns in
    subst (MachineInvariant x code s ls g) r.objects (stands x code s ls wt fits g r.stands.world r.stands.state)
