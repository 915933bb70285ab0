-- The machine reads what the grammar has, and stops at the first fault.
use Rattle.sharc_parse.proofs.{Imports.{◌≡◌, List, [], ◌∷◌, ◌++◌, Option, Some, None, refl, sym, ap, ◌∙◌, append_assoc, append-nil, subst, Bool, true, false, cond, Word, Part, program_words, IsProgram, EndsAt, FirstFault, Core, Top, Fixed, State, At, fixed_words, is_fixed, core_step, step, Outcome, Read, Stuck, finish, then_on, reads, first_state, over}, CompleteProgram.reads_program, Sound.{so_far, Sound}, Completed.{LowCore, Completed, completed}, Within.{not_over, From, core_goes}, Steps.fixed_is}

-- a program is what is read
pub only : (p : List Part) → IsProgram p → reads (program_words p []) first_state ≡ Read p
only p w = reads_program p w []

-- the state has read what f puts in front, but for what has to come next
abbrev pub Reached : (List Word → List Word) → State → Type 0
Reached f (At fs c) = Sound c × ((y : List Word) → so_far c y ≡ f (fixed_words fs y))

abbrev pub LowState : State → Type 0
LowState (At fs c) = LowCore c

-- the next state, which is within the limits where P holds and the test is passed, and then alone
abbrev pub ReachedNext : (List Word → List Word) → Word → Type 0 → Option State → Type 0
ReachedNext f t P None = Unit {0}
ReachedNext f t P (Some n) = Reached (λ y. f (t ∷ y)) n × (P → over n ≡ false → LowState n) × (LowState n → P × (over n ≡ false))

core_reached : (f : List Word → List Word) (c : Core) (t : Word) (o : Option State) → ((y : List Word) → so_far c y ≡ f y) → From c t o → ReachedNext f t (LowCore c) o
core_reached f c t None e h = tt
core_reached f c t (Some (At fs n)) e h = ((h.0, λ y. h.1 y ∙ e (t ∷ fixed_words fs y)), h.2.up, λ l. (h.2.down l, not_over n l))

fixed_reached : (f : List Word → List Word) (b : Bool) (w : Fixed) (fs : List Fixed) (c : Core) (t : Word) → is_fixed w t ≡ b → Reached f (At (w ∷ fs) c) → ReachedNext f t (LowCore c) (cond b (Some (At fs c)) None)
fixed_reached f true w fs c t e h = ((h.0, λ y. h.1 y ∙ ap (λ u. f (u ∷ fixed_words fs y)) (sym (fixed_is w t e))), λ l v. l, λ l. (l, not_over c l))
fixed_reached f false w fs c t e h = tt

pub step_reached : (f : List Word → List Word) (s : State) (t : Word) → Reached f s → ReachedNext f t (LowState s) (step s t)
step_reached f (At [] c) t h = core_reached f c t (core_step c t) h.1 (core_goes c h.0 t)
step_reached f (At (w ∷ fs) c) t h = fixed_reached f (is_fixed w t) w fs c t refl h

pub first_reached : Reached (λ y. y) first_state
first_reached = (tt, λ y. refl)

-- a state that was reached has a completion
pub completed_at : (f : List Word → List Word) (s : State) → Reached f s → Completed f (LowState s)
completed_at f (At fs c) h =
    let r = completed c h.0 in
    record { parts = r.parts; fits = r.fits; rest = fixed_words fs r.rest; is = r.is ∙ h.1 r.rest; low = r.low }

-- where it stops
abbrev pub Stops : State → List Word → Type 0
Stops s [] = finish s ≡ Stuck []
Stops s (t ∷ rest) = step s t ≡ None

-- the words up to where it stops, in a state that `low` holds of
pub record Halts (low : State → Type 0) (stops : State → List Word → Type 0) (f : List Word → List Word) (ts : List Word) (s : State) (rest : List Word) : Type 0 where
  pub before : List Word
  pub whole : ts ≡ before ++ rest
  pub at : State
  pub reached : Reached (λ y. f (before ++ y)) at
  pub is_low : low at
  pub moves : (y : List Word) → reads (before ++ y) s ≡ reads y at
  pub stops_here : stops at rest

pub here : (low : State → Type 0) (stops : State → List Word → Type 0) (f : List Word → List Word) (ts : List Word) (s : State) → Reached f s → low s → stops s ts → Halts low stops f ts s ts
here low stops f ts s a l h = record { before = []; whole = refl; at = s; reached = a; is_low = l; moves = λ y. refl; stops_here = h }

pub later : (low : State → Type 0) (stops : State → List Word → Type 0) (f : List Word → List Word) (t : Word) (ts : List Word) (s n : State) (rest : List Word) → step s t ≡ Some n → Halts low stops (λ y. f (t ∷ y)) ts n rest → Halts low stops f (t ∷ ts) s rest
later low stops f t ts s n rest is r = record {
  before = t ∷ r.before;
  whole = ap (λ z. t ∷ z) r.whole;
  at = r.at;
  reached = r.reached;
  is_low = r.is_low;
  moves = λ y. ap (λ o. then_on o (λ n. reads (r.before ++ y) n) (Stuck (t ∷ (r.before ++ y)))) is ∙ r.moves y;
  stops_here = r.stops_here;
}

abbrev Any : State → Type 0
Any s = Unit {0}

-- what is read is spelled so
abbrev Gives : (List Word → List Word) → List Word → State → Outcome → Type 0
Gives f ts s (Read p) = IsProgram p × (program_words p [] ≡ f ts)
Gives f ts s (Stuck rest) = Halts Any Stops f ts s rest

gives_end : (f : List Word → List Word) (s : State) → Reached f s → Gives f [] s (finish s)
gives_end f (At [] (Top all)) a = (a.0, a.1 [])
gives_end f j a = here Any Stops f [] j a tt refl

gives_later : (f : List Word → List Word) (t : Word) (ts : List Word) (s n : State) (o : Outcome) → step s t ≡ Some n → Gives (λ y. f (t ∷ y)) ts n o → Gives f (t ∷ ts) s o
gives_later f t ts s n (Read p) is r = r
gives_later f t ts s n (Stuck rest) is r = later Any Stops f t ts s n rest is r

gives_on : (f : List Word → List Word) (t : Word) (ts : List Word) (s : State) (o : Option State) → step s t ≡ o → Reached f s → ReachedNext f t (LowState s) o → ((n : State) → Reached (λ y. f (t ∷ y)) n → Gives (λ y. f (t ∷ y)) ts n (reads ts n)) → Gives f (t ∷ ts) s (then_on o (λ n. reads ts n) (Stuck (t ∷ ts)))
gives_on f t ts s None is a h ih = here Any Stops f (t ∷ ts) s a tt is
gives_on f t ts s (Some n) is a h ih = gives_later f t ts s n (reads ts n) is (ih n h.0)

gives : (f : List Word → List Word) (ts : List Word) (s : State) → Reached f s → Gives f ts s (reads ts s)
gives f [] s a = gives_end f s a
gives f (t ∷ ts) s a = gives_on f t ts s (step s t) refl a (step_reached f s t a) (λ n b. gives (λ y. f (t ∷ y)) ts n b)

gives_from_first : (ts : List Word) (o : Outcome) → reads ts first_state ≡ o → Gives (λ y. y) ts first_state o
gives_from_first ts o e = subst (λ o. Gives (λ y. y) ts first_state o) e (gives (λ y. y) ts first_state first_reached)

-- what is read is a program, and is spelled so
pub found : (ts : List Word) (p : List Part) → reads ts first_state ≡ Read p → IsProgram p × (program_words p [] ≡ ts)
found ts p e = gives_from_first ts (Read p) e

pub stuck_at : (s : State) (t : Word) (ts : List Word) → step s t ≡ None → reads (t ∷ ts) s ≡ Stuck (t ∷ ts)
stuck_at s t ts e = ap (λ o. then_on o (λ n. reads ts n) (Stuck (t ∷ ts))) e

pub never_stuck : (p : List Part) (rest : List Word) → Read p ≡ Stuck rest → ⊥
never_stuck p rest e = cc

pub ends : (before : List Word) (s : State) (rest : List Word) → ((y : List Word) → reads (before ++ y) first_state ≡ reads y s) → Stops s rest → EndsAt before rest
ends before s [] m stop = λ p w e. never_stuck p [] (sym (only p w) ∙ ap (λ z. reads z first_state) (e ∙ sym (append-nil before)) ∙ m [] ∙ stop)
ends before s (t ∷ rest) m stop = λ b.
    never_stuck b.0 (t ∷ b.2) (sym (only b.0 b.1) ∙ ap (λ z. reads z first_state) (b.3 ∙ append_assoc before (t ∷ []) b.2) ∙ m (t ∷ b.2) ∙ stuck_at s t b.2 stop)

-- where it stops is the first fault
pub first_fault : (ts rest : List Word) → reads ts first_state ≡ Stuck rest → FirstFault ts rest
first_fault ts rest e =
    let h = gives_from_first ts (Stuck rest) e in
    let c = completed_at (λ y. h.before ++ y) h.at h.reached in
    record { before = h.before; whole = h.whole; begins = (c.parts, c.fits, c.rest, c.is); ends = ends h.before h.at rest h.moves h.stops_here }
