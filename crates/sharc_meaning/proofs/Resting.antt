-- What a thread holds where more fuel changes nothing.
use Rattle.sharc_meaning.proofs.{Imports.{◌≡◌, ℕ, ◌+◌, ◌-◌, ◌<◌, ◌≤◌, List, sym, subst, arith, ◌≢◌, SourceEvent, Assignment, events_of, ReferencesAtRest, ReferencesFromSomeFuel, Begun, asked_with, held_count, ThreadHolds, ThreadHoldsWith, in_thread, answers_of, spent}, Asking.more_fuel_same}

module _ (m : Assignment) (R : List SourceEvent) (thread : ℕ) where
  same_at : (b : Begun m R thread) (fuel more : ℕ) → (asked_with b fuel).outcome ≢ spent → asked_with b (fuel + more) ≡ asked_with b fuel
  same_at b fuel more rests = more_fuel_same m b.own.function b.own.argument (answers_of (events_of thread b.own.after)) fuel more rests

  module _ (which n fuel : ℕ) where
    from_then_on : (h : ThreadHoldsWith fuel m R thread which n) → (asked_with h.begun fuel).outcome ≢ spent → ThreadHolds m R thread which n
    from_then_on h rests = record {
      begun = h.begun;
      from = fuel;
      holds = λ later le. let sum : fuel + (later - fuel) ≡ later = omega (arith, le) in
          subst (λ k. which < held_count (asked_with h.begun k) n) sum (subst (λ a. which < held_count a n) (sym (same_at h.begun fuel (later - fuel) rests)) h.holds);
    }

    at_this : (h : ThreadHolds m R thread which n) → (asked_with h.begun fuel).outcome ≢ spent → ThreadHoldsWith fuel m R thread which n
    at_this h rests = record {
      begun = h.begun;
      holds = let le : h.from ≤ fuel + h.from = omega arith in subst (λ a. which < held_count a n) (same_at h.begun fuel h.from rests) (h.holds (fuel + h.from) le);
    }

pub at_rest : ReferencesAtRest
at_rest fuel m R n (in_thread thread which) rest = (λ h. at_this m R thread which n fuel h (rest thread h.begun), λ h. from_then_on m R thread which n fuel h (rest thread h.begun))
at_rest fuel m R n _ rest = (λ h. h, λ h. h)

pub from_some_fuel : ReferencesFromSomeFuel
from_some_fuel m R n (in_thread thread which) h = record { from = h.from; with_each = λ fuel le. record { begun = h.begun; holds = h.holds fuel le } }
from_some_fuel m R n _ h = record { from = 0; with_each = λ fuel le. h }
