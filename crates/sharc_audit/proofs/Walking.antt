-- Walks that are long enough.
use Rattle.sharc_audit.proofs.{Imports.{◌≡◌, ℕ, ◌+◌, ◌-◌, ◌<◌, ◌≤◌, Bool, true, false, not, ◌&&◌, List, length, refl, ap, sym, subst, ◌∙◌, arith, ltb-true, ltb-false, ℤ, ◌≢◌, nat_lt, slice_get, Assignment, AskLaws, asks, spent, ThreadWalk, is_spent, event_at, next_in, IsWalk, needs_more}, Telling.at_front}

module _ (laws : AskLaws) (m : Assignment) (f : ℕ) (v : ℤ) (answers : List ℤ) (fuel t place : ℕ) (w : ThreadWalk) (walk : IsWalk m f v answers w) (within : w.fuel ≤ fuel) where
  all_fuel : w.fuel + (fuel - w.fuel) ≡ fuel
  all_fuel = omega (arith, within)

  same_end : event_at t w.spent (slice_get w.events place) ≡ next_in t place (asks m f v answers w.fuel)
  same_end = ap (λ z. event_at t z (slice_get w.events place)) walk.spent ∙ ap (λ z. event_at t (is_spent (asks m f v answers w.fuel).outcome) (slice_get z place)) walk.events

  -- the event at this place is the same with all the fuel, or there is none
  pub far_enough : needs_more place fuel w ≡ false → event_at t w.spent (slice_get w.events place) ≡ next_in t place (asks m f v answers fuel)
  far_enough h = by_place (nat_lt place (length w.events)) refl
    where
      by_fuel : (b : Bool) → nat_lt w.fuel fuel ≡ b → w.spent ≡ true → nat_lt place (length w.events) ≡ false → event_at t w.spent (slice_get w.events place) ≡ next_in t place (asks m f v answers fuel)
      by_fuel true less s none = let z : true ≡ false = sym (ap (λ b. not b && (w.spent && nat_lt w.fuel fuel)) none ∙ ap (λ b. b && nat_lt w.fuel fuel) s ∙ less) ∙ h in absurd (cc)
      by_fuel false less s none = let past = ltb-false w.fuel fuel less in let all : w.fuel ≡ fuel = omega (arith, past, within) in same_end ∙ ap (λ z. next_in t place (asks m f v answers z)) all

      by_end : (b : Bool) → w.spent ≡ b → nat_lt place (length w.events) ≡ false → event_at t w.spent (slice_get w.events place) ≡ next_in t place (asks m f v answers fuel)
      by_end true s none = by_fuel (nat_lt w.fuel fuel) refl s none
      by_end false s none =
          let rests : (asks m f v answers w.fuel).outcome ≢ spent = λ o. let z : false ≡ true = sym s ∙ walk.spent ∙ ap is_spent o in absurd (cc) in
          same_end ∙ ap (next_in t place) (sym (laws.fuel_same m f v answers w.fuel (fuel - w.fuel) rests)) ∙ ap (λ z. next_in t place (asks m f v answers z)) all_fuel

      by_place : (b : Bool) → nat_lt place (length w.events) ≡ b → event_at t w.spent (slice_get w.events place) ≡ next_in t place (asks m f v answers fuel)
      by_place false none = by_end w.spent refl none
      by_place true there =
          let p = (laws.fuel m f v answers w.fuel (fuel - w.fuel)).events in
          let inside : place < length (asks m f v answers w.fuel).events = subst (λ z. place < length z) walk.events (ltb-true place (length w.events) there) in
          same_end
          ∙ sym (at_front t _ _ (asks m f v answers w.fuel).events p.0 place inside)
          ∙ sym (ap (λ z. event_at t (is_spent (asks m f v answers (w.fuel + (fuel - w.fuel))).outcome) (slice_get z place)) p.1)
          ∙ ap (λ z. next_in t place (asks m f v answers z)) all_fuel
