-- The machine within the limits: what it reads, and its first faults.
use Rattle.sharc_parse.proofs.{Imports.{◌≡◌, List, [], ◌∷◌, ◌++◌, Option, Some, None, refl, sym, ap, ◌∙◌, append_assoc, subst, Bool, true, false, cond, Word, Part, program_words, IsProgram, Core, Top, State, At, step, Read, Stuck, core_finish, finish, then_on, reads, first_state, LowProgram, BeginsWithin, FirstWrong, Exceeds, FirstExcess, over, Limited, ReadWithin, StuckAt, Over, lifted, next_within, reads_within}, Completed.LowCore, Whole.{only, found, Reached, ReachedNext, step_reached, first_reached, LowState, completed_at, Stops, ends, Halts, here, later}}

-- a program within the limits is read, and each state on the way is within them

core_finish_low : (c : Core) (p : List Part) → core_finish c ≡ Read p → LowProgram p → LowCore c
core_finish_low (Top all) p e l = let is : p ≡ all = cc in subst LowProgram is l
core_finish_low _ p e l = cc

finish_low : (s : State) (p : List Part) → finish s ≡ Read p → LowProgram p → LowState s
finish_low (At [] c) p e l = core_finish_low c p e l
finish_low (At (w ∷ fs) c) p e l = cc

backward_on : (f : List Word → List Word) (t : Word) (ts : List Word) (P : Type 0) (p : List Part) (o : Option State) → ReachedNext f t P o → then_on o (λ n. reads ts n) (Stuck (t ∷ ts)) ≡ Read p → ((n : State) → Reached (λ y. f (t ∷ y)) n → reads ts n ≡ Read p → LowState n × (reads_within ts n ≡ ReadWithin p)) → P × (next_within o (λ n. reads_within ts n) (t ∷ ts) ≡ ReadWithin p)
backward_on f t ts P p (Some n) m e ih =
    let r = ih n m.0 e in
    let d = m.2 r.0 in
    (d.0, ap (λ b. cond b (Over (t ∷ ts)) (reads_within ts n)) d.1 ∙ r.1)
backward_on f t ts P p None m e ih = cc

pub backward : (f : List Word → List Word) (ts : List Word) (s : State) (p : List Part) → Reached f s → reads ts s ≡ Read p → LowProgram p → LowState s × (reads_within ts s ≡ ReadWithin p)
backward f [] s p a e l = (finish_low s p e l, ap lifted e)
backward f (t ∷ ts) s p a e l = backward_on f t ts (LowState s) p (step s t) (step_reached f s t a) e (λ n b h. backward (λ y. f (t ∷ y)) ts n p b h l)

-- where it stops

abbrev pub OverHere : State → List Word → Type 0
OverHere s [] = ⊥
OverHere s (t ∷ rest) = (n : State) × (step s t ≡ Some n) × (over n ≡ true)

abbrev pub GivesWithin : (List Word → List Word) → List Word → State → Limited → Type 0
GivesWithin f ts s (ReadWithin p) = (reads ts s ≡ Read p) × LowProgram p
GivesWithin f ts s (StuckAt rest) = Halts LowState Stops f ts s rest
GivesWithin f ts s (Over rest) = Halts LowState OverHere f ts s rest

later_of : (f : List Word → List Word) (t : Word) (ts : List Word) (s n : State) (o : Limited) → step s t ≡ Some n → GivesWithin (λ y. f (t ∷ y)) ts n o → GivesWithin f (t ∷ ts) s o
later_of f t ts s n (ReadWithin p) is r = (ap (λ o. then_on o (λ n. reads ts n) (Stuck (t ∷ ts))) is ∙ r.0, r.1)
later_of f t ts s n (StuckAt rest) is r = later LowState Stops f t ts s n rest is r
later_of f t ts s n (Over rest) is r = later LowState OverHere f t ts s n rest is r

tested_on : (f : List Word → List Word) (b : Bool) (t : Word) (ts : List Word) (s n : State) → over n ≡ b → step s t ≡ Some n → Reached f s → LowState s → (LowState s → over n ≡ false → LowState n) → (LowState n → GivesWithin (λ y. f (t ∷ y)) ts n (reads_within ts n)) → GivesWithin f (t ∷ ts) s (cond b (Over (t ∷ ts)) (reads_within ts n))
tested_on f true t ts s n v is a l m ih = here LowState OverHere f (t ∷ ts) s a l (n, is, v)
tested_on f false t ts s n v is a l m ih = later_of f t ts s n (reads_within ts n) is (ih (m l v))

forward_on : (f : List Word → List Word) (t : Word) (ts : List Word) (s : State) (o : Option State) → step s t ≡ o → Reached f s → LowState s → ReachedNext f t (LowState s) o → ((n : State) → Reached (λ y. f (t ∷ y)) n → LowState n → GivesWithin (λ y. f (t ∷ y)) ts n (reads_within ts n)) → GivesWithin f (t ∷ ts) s (next_within o (λ n. reads_within ts n) (t ∷ ts))
forward_on f t ts s (Some n) is a l m ih = tested_on f (over n) t ts s n refl is a l m.1 (ih n m.0)
forward_on f t ts s None is a l m ih = here LowState Stops f (t ∷ ts) s a l is

core_finish_on : (f : List Word → List Word) (c : Core) → Reached f (At [] c) → LowCore c → GivesWithin f [] (At [] c) (lifted (core_finish c))
core_finish_on f (Top all) a l = (refl, l)
core_finish_on f j a l = here LowState Stops f [] (At [] j) a l refl

finish_on : (f : List Word → List Word) (s : State) → Reached f s → LowState s → GivesWithin f [] s (lifted (finish s))
finish_on f (At [] c) a l = core_finish_on f c a l
finish_on f (At (w ∷ fs) c) a l = here LowState Stops f [] (At (w ∷ fs) c) a l refl

pub forward : (f : List Word → List Word) (ts : List Word) (s : State) → Reached f s → LowState s → GivesWithin f ts s (reads_within ts s)
forward f [] s a l = finish_on f s a l
forward f (t ∷ ts) s a l = forward_on f t ts s (step s t) refl a l (step_reached f s t a) (λ n b h. forward (λ y. f (t ∷ y)) ts n b h)

-- a program within the limits is what is read
pub only_within : (p : List Part) → IsProgram p → LowProgram p → reads_within (program_words p []) first_state ≡ ReadWithin p
only_within p w l = (backward (λ y. y) (program_words p []) first_state p first_reached (only p w) l).1

gives : (ts : List Word) (o : Limited) → reads_within ts first_state ≡ o → GivesWithin (λ y. y) ts first_state o
gives ts o e = subst (λ o. GivesWithin (λ y. y) ts first_state o) e (forward (λ y. y) ts first_state first_reached tt)

pub found_within : (ts : List Word) (p : List Part) → reads_within ts first_state ≡ ReadWithin p → IsProgram p × LowProgram p × (program_words p [] ≡ ts)
found_within ts p e = let g = gives ts (ReadWithin p) e in let h = found ts p g.0 in (h.0, g.1, h.1)

begins_within : (s : State) (before : List Word) → Reached (λ y. before ++ y) s → LowState s → BeginsWithin before
begins_within s before a l = let c = completed_at (λ y. before ++ y) s a in (c.parts, c.fits, c.low l, c.rest, c.is)

pub first_wrong : (ts rest : List Word) → reads_within ts first_state ≡ StuckAt rest → FirstWrong ts rest
first_wrong ts rest e =
    let h = gives ts (StuckAt rest) e in
    record { before = h.before; whole = h.whole; begins = begins_within h.at h.before h.reached h.is_low; ends = ends h.before h.at rest h.moves h.stops_here }

never_over : {A : Type 0} (o : Limited) (p : List Part) (all : List Word) → o ≡ ReadWithin p → o ≡ Over all → A
never_over o p all a b = cc

exceeds : (before : List Word) (s : State) (rest : List Word) → Reached (λ y. before ++ y) s → ((y : List Word) → reads (before ++ y) first_state ≡ reads y s) → OverHere s rest → Exceeds before rest
exceeds before s [] a m h = absurd h
exceeds before s (t ∷ rest) a m h =
    let x : Reached (λ y. before ++ t ∷ y) h.0 = (subst (λ o. ReachedNext (λ y. before ++ y) t (LowState s) o) h.1 (step_reached (λ y. before ++ y) s t a)).0 in
    let c = completed_at (λ y. before ++ t ∷ y) h.0 x in (
      (c.parts, c.fits, c.rest, c.is ∙ sym (append_assoc before (t ∷ []) c.rest)),
      λ b.
          let read : reads (t ∷ b.3) s ≡ Read b.0 = sym (m (t ∷ b.3)) ∙ sym (ap (λ z. reads z first_state) (b.4 ∙ append_assoc before (t ∷ []) b.3)) ∙ only b.0 b.1 in
          never_over (reads_within (t ∷ b.3) s) b.0 (t ∷ b.3) (backward (λ y. before ++ y) (t ∷ b.3) s b.0 a read b.2).1
          (ap (λ o. next_within o (λ n. reads_within b.3 n) (t ∷ b.3)) h.1 ∙ ap (λ v. cond v (Over (t ∷ b.3)) (reads_within b.3 h.0)) h.2),
    )

pub first_excess : (ts rest : List Word) → reads_within ts first_state ≡ Over rest → FirstExcess ts rest
first_excess ts rest e =
    let h = gives ts (Over rest) e in
    record { before = h.before; whole = h.whole; begins = begins_within h.at h.before h.reached h.is_low; exceeds = exceeds h.before h.at rest h.reached h.moves h.stops_here }
