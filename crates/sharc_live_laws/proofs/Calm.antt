-- Runs that do nothing with locals and make no calls.
use Rattle.sharc_live_laws.proofs.{Imports.{◌≡◌, ℕ, zero, suc, Bool, true, false, cond, List, [], ◌∷◌, refl, ◌∙◌, length, ℤ, not, Some, Result, Ok, Err, nat_lt, codes, slice_index_or, bytes_eq, Readonly, Locked, Object, Made, Site, Trap, Kind, Resolution, Sharing, locked, cell_of, Guard, mutex, nothing, guard_of, instance_mode, held_mutexes, holds_mutex, NULL, is_null, number_of, GivenUp, Released, Emptied, State, Out, go, over, Run, then_on, ◌>>=◌, give, stop, unless_stop, enters, enters_with, happens, answered, performs, gives_up, drops, holds, holds_reference, moves, moves_on, is_reference, value_of, looks_at, sets, stands, Variable, StorePlace, cell, pointee, based, guarding, access_mode, cast_to, freed, cell_at_place, moves_base, gives_up_base, lock_call, unlock_call, wait_call, signal_call, broadcast_call, condition_call, resulting, goes_away, Next, Ends, goes_on}, Ways.{way_goes, way_stays}, Along.{Any, onward, Along, Reached, moved_not}}
use Rattle.sharc_tree.specs.declared.event.Act.{Act}
use Rattle.sharc_meaning.specs.{Cells.behind, State.done}

-- the trace, the number of calls and the frame are what they were
abbrev pub Same : State → State → Type 0
Same s t = (t.trace ≡ s.trace) × (t.calls ≡ s.calls) × (t.frame.call ≡ s.frame.call)

abbrev pub Kept : {A : Type 0} → State → Out A → Type 0
Kept s (go v t) = Same s t
Kept s (over o t) = Same s t

pub record Calm {A : Type 0} (m : Run A) : Type 0 where
  pub keeps : (s : State) → Kept s (m s)

pub calm_then : {A B : Type 0} {m : Run A} {f : A → Run B} → Calm m → ((v : A) → Calm (f v)) → Calm (m >>= f)
calm_then {A = A} {B = B} {m = m} {f = f} hm hf = record { keeps = λ s. on s (m s) (hm.keeps s) }
  where
    twice : (s t : State) (o : Out B) → Same s t → Kept t o → Kept s o
    twice s t (go v u) e h = (h.0 ∙ e.0, h.1 ∙ e.1, h.2 ∙ e.2)
    twice s t (over o u) e h = (h.0 ∙ e.0, h.1 ∙ e.1, h.2 ∙ e.2)

    on : (s : State) (o : Out A) → Kept s o → Kept s (then_on o f)
    on s (go v t) h = twice s t (f v t) h ((hf v).keeps t)
    on s (over o t) h = h

-- it goes along code that does nothing
pub idle : {A : Type 0} (r : Resolution) (x : ℕ) {m : Run A} → Calm m → Along r x goes_on onward Any m
idle {A = A} r x {m = m} h = record { from_state = λ s ready. seen s (m s) (h.keeps s) }
  where
    seen : (s : State) (o : Out A) → Kept s o → Reached r x goes_on onward Any s o
    seen s (go v t) k = (k.2, moved_not r x goes_on Next s.frame.call s.calls t.calls s.trace t.trace k.0 k.1 (way_goes x Next), tt)
    seen s (over o t) k = moved_not r x goes_on Ends s.frame.call s.calls t.calls s.trace t.trace k.0 k.1 (way_stays x goes_on)

pub calm_give : {A : Type 0} (v : A) → Calm (give v)
calm_give v = record { keeps = λ s. (refl, refl, refl) }

pub calm_done : Calm done
calm_done = record { keeps = λ s. (refl, refl, refl) }

pub calm_stop : {A : Type 0} (trap : Trap) (site : Site) → Calm (stop {A = A} trap site)
calm_stop trap site = record { keeps = λ s. (refl, refl, refl) }

pub calm_looks : {A : Type 0} (f : State → A) → Calm (looks_at f)
calm_looks f = record { keeps = λ s. (refl, refl, refl) }

pub calm_gives_up : (more : List GivenUp) → Calm (gives_up more)
calm_gives_up more = record { keeps = λ s. (refl, refl, refl) }

pub calm_holds_reference : (v : ℤ) → Calm (holds_reference v)
calm_holds_reference v = record { keeps = λ s. (refl, refl, refl) }

pub calm_moves_on : (n : ℕ) → Calm (moves_on n)
calm_moves_on n = record { keeps = λ s. (refl, refl, refl) }

pub calm_sets : (x : ℕ) (v : ℤ) → Calm (sets x v)
calm_sets x v = record { keeps = λ s. (refl, refl, refl) }

pub calm_stands : (x : Variable) → Calm (stands x)
calm_stands x = record { keeps = λ s. (refl, refl, refl) }

pub calm_enters : Calm enters
calm_enters = record { keeps = λ s. with_fuel s s.fuel }
  where
    with_fuel : (s : State) (n : ℕ) → Kept s (enters_with n s)
    with_fuel s zero = (refl, refl, refl)
    with_fuel s (suc n) = (refl, refl, refl)

pub calm_answered : (site : Site) (act : Act) → Calm (answered site act)
calm_answered site act = record { keeps = λ s. with_answers s s.answers }
  where
    with_answers : (s : State) (l : List ℤ) → Kept s (happens l site act s)
    with_answers s [] = (refl, refl, refl)
    with_answers s (y ∷ l) = (refl, refl, refl)

pub calm_either : {A : Type 0} (b : Bool) {m n : Run A} → Calm m → Calm n → Calm (cond b m n)
calm_either true hm hn = hm
calm_either false hm hn = hn

pub calm_unless : (b : Bool) (trap : Trap) (site : Site) → Calm (unless_stop b trap site)
calm_unless true trap site = calm_done
calm_unless false trap site = calm_stop trap site

pub calm_performs : (site : Site) (act : Act) → Calm (performs site act)
calm_performs site act = calm_then (calm_answered site act) (λ v. calm_done)

pub calm_drops : (kind : Kind) (v : ℤ) → Calm (drops kind v)
calm_drops kind v = calm_either (is_reference kind) (calm_gives_up _) calm_done

pub calm_holds : (kind : Kind) (v : ℤ) → Calm (holds kind v)
calm_holds kind v = calm_either (is_reference kind) (calm_holds_reference v) calm_done

pub calm_moves : (kind : Kind) → Calm (moves kind)
calm_moves kind = calm_either (is_reference kind) (calm_moves_on 1) calm_done

pub calm_resulting : (site : Site) (v : Result ℤ Trap) → Calm (resulting site v)
calm_resulting site (Ok v) = calm_give v
calm_resulting site (Err trap) = calm_stop trap site

-- ---- places

pub calm_based : (site : Site) (kind : Kind) (p : ℤ) → Calm (based site kind p)
calm_based site kind p = calm_then (calm_holds kind p) (λ v. calm_unless (not (is_null p)) Trap.NullPointer site)

calm_guarding : (site : Site) (g : Guard) → Calm (guarding site g)
calm_guarding site (mutex c) = calm_give c
calm_guarding site (behind c) = calm_then (calm_answered site (Act.Read c Readonly)) (λ p. calm_then (calm_unless (not (is_null p)) Trap.NullPointer site) (λ v. calm_give (cell_of (Made (number_of p)) 0)))
calm_guarding site nothing = calm_stop Trap.NullPointer site

pub calm_mode : (r : Resolution) (site : Site) (mode : Sharing) (o : Object) (first : ℕ) → Calm (access_mode r site mode o first)
calm_mode r site (locked l) o first = calm_then (calm_looks value_of) (λ held. calm_then (calm_guarding site (guard_of r held o first l)) (λ c. calm_give (Locked (Some c))))
calm_mode r site _ o first = calm_give _

pub calm_cast : (r : Resolution) (site : Site) (mode : Sharing) (v : ℤ) → Calm (cast_to r site mode v)
calm_cast r site mode v = calm_then (calm_holds_reference v) (λ a. calm_then (calm_looks value_of) (λ held. calm_then (calm_performs site (Act.Give v (instance_mode r held mode))) (λ b. calm_then (calm_moves_on 1) (λ c. calm_give v))))

pub calm_freed : (site : Site) (v : ℤ) → Calm (freed site v)
calm_freed site v = calm_then (calm_gives_up (Emptied (number_of v) ∷ [])) (λ a. calm_then (calm_holds_reference v) (λ b. calm_then (calm_performs site (Act.Freed v)) (λ c. calm_moves_on 1)))

-- ---- mutexes and condition variables

calm_moves_base : (p : StorePlace) → Calm (moves_base p)
calm_moves_base (cell (Made n) first c) = calm_moves_on 1
calm_moves_base _ = calm_done

calm_gives_up_base : (p : StorePlace) → Calm (gives_up_base p)
calm_gives_up_base (cell (Made n) first c) = calm_gives_up (Released n ∷ [])
calm_gives_up_base _ = calm_done

pub calm_lock : (site : Site) (p : StorePlace) → Calm (lock_call site p)
calm_lock site p = calm_then (calm_looks (λ s. s.events)) (λ own. calm_then (calm_unless (not (holds_mutex own (cell_at_place p))) Trap.MutexAlreadyHeld site) (λ a.
    calm_then (calm_unless (nat_lt (length (held_mutexes own)) 16) Trap.TooManyLocks site) (λ b. calm_then (calm_performs site (Act.Lock (cell_at_place p))) (λ c. calm_moves_base p))))

pub calm_unlock : (site : Site) (p : StorePlace) → Calm (unlock_call site p)
calm_unlock site p = calm_then (calm_looks (λ s. s.events)) (λ own. calm_then (calm_unless (holds_mutex own (cell_at_place p)) Trap.MutexNotHeld site) (λ a.
    calm_then (calm_performs site (Act.Unlock (cell_at_place p))) (λ b. calm_gives_up_base p)))

calm_wait : (site : Site) (c m : ℤ) → Calm (wait_call site c m)
calm_wait site c m = calm_then (calm_unless (not (is_null c)) Trap.NullPointer site) (λ a. calm_then (calm_unless (not (is_null m)) Trap.NullPointer site) (λ b. calm_then (calm_looks (λ s. s.events)) (λ own.
    calm_then (calm_unless (holds_mutex own (cell_at_place (pointee m))) Trap.MutexNotHeld site) (λ d. calm_then (calm_performs site (Act.Enter (cell_at_place (pointee c)))) (λ e.
    calm_then (calm_performs site (Act.Unlock (cell_at_place (pointee m)))) (λ f. calm_then (calm_holds_reference m) (λ g. calm_then (calm_performs site (Act.Woken (cell_at_place (pointee c)))) (λ h.
    calm_then (calm_performs site (Act.Lock (cell_at_place (pointee m)))) (λ i. calm_moves_on 1)))))))))

calm_signal : (site : Site) (c : ℤ) → Calm (signal_call site c)
calm_signal site c = calm_then (calm_unless (not (is_null c)) Trap.NullPointer site) (λ a. calm_then (calm_answered site (Act.Signal (cell_at_place (pointee c)))) (λ v. calm_done))

calm_broadcast : (site : Site) (c : ℤ) → Calm (broadcast_call site c)
calm_broadcast site c = calm_then (calm_unless (not (is_null c)) Trap.NullPointer site) (λ a. calm_performs site (Act.Broadcast (cell_at_place (pointee c))))

pub calm_condition : (site : Site) (name : List ℕ) (vs : List ℤ) → Calm (condition_call site name vs)
calm_condition site name vs = calm_either (bytes_eq name (codes "wait")) (calm_wait site (slice_index_or vs 0 NULL) (slice_index_or vs 1 NULL))
    (calm_either (bytes_eq name (codes "signal")) (calm_signal site (slice_index_or vs 0 NULL)) (calm_broadcast site (slice_index_or vs 0 NULL)))

pub calm_away : (name site : Site) → Calm (goes_away name site)
calm_away name site = calm_then (calm_looks (λ s. s.events)) (λ own. calm_then (calm_unless (not (nat_lt 0 (length (held_mutexes own)))) Trap.ReturnWithLockHeld site) (λ a.
    calm_then (calm_performs name Act.Return) (λ b. calm_performs name Act.Gone)))
