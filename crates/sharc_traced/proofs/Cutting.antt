-- How many of a run's events have lines that audit accepts.
use Rattle.std.proofs.Common.{◌≡◌, ℕ, zero, suc, ◌-◌, ◌<◌, ◌≤◌, List, [], ◌∷◌, length, take, refl, ap, sym, subst, ◌∙◌, arith}
use Rattle.sharc_mode.specs.Moded.{Assignment}
use Rattle.sharc_audit.specs.{declared.audit.EventFault.EventFault, declared.line.EventLine.EventLine, Audited.{Refused, Audits}}
use Rattle.sharc_audit.specs.declared.audit.Verdict.TheVariants as verdict
use Rattle.sharc_history.specs.declared.event.Event.{Event}
use Rattle.sharc_traced.specs.{declared.cut.Cut.Cut, Cut.{HasLines, IsEnd, IsFront}, Writing.AreLinesOf}
use Rattle.sharc_traced.specs.declared.cut.Cut.TheVariants as cut
use Rattle.sharc_traced.proofs.Matching.{front_lines}
use Rattle.sharc_lemmas.proofs.Lists.{there_is}

-- ---- lists
length_take : {A : Type 0} (n : ℕ) (xs : List A) → n ≤ length xs → length (take n xs) ≡ n
length_take zero xs h = refl
length_take (suc n) [] h = absurd (omega (arith, h))
length_take (suc n) (x ∷ xs) h = ap suc (length_take n xs (omega (arith, h)))

take_front : {A : Type 0} (n k : ℕ) (xs : List A) → n ≤ k → take n (take k xs) ≡ take n xs
take_front zero k xs h = refl
take_front (suc n) zero xs h = absurd (omega (arith, h))
take_front (suc n) (suc k) [] h = refl
take_front (suc n) (suc k) (x ∷ xs) h = ap (λ z. x ∷ z) (take_front n k xs (omega (arith, h)))

-- ---- the ends

module _ (m : Assignment) (events : List Event) (lines : List EventLine) (why : Cut) (has : HasLines m.typed events lines why) where
  part_front : (n : ℕ) (end : Cut) (h : Refused m 65536 lines n) → IsEnd m events (take h.place lines) end → IsFront m events record { count = n - 1; cut = end }
  part_front n end h is =
      let low : h.place < length lines = there_is lines h.place h.line_at h.first.stands in
      let count : n - 1 ≡ h.place = let e = h.counted in omega (arith, e) in
      let many : length (take h.place lines) ≡ h.place = length_take h.place lines (omega (arith, low)) in
      let few = has.few in
      let within = has.within in
      record {
        lines = take h.place lines;
        are = subst (λ k. AreLinesOf m.typed (take h.place lines) (take k events)) (sym count)
            (subst (AreLinesOf m.typed (take h.place lines)) (take_front h.place (length lines) events (omega (arith, low))) (front_lines m.typed h.place lines (take (length lines) events) has.are));
        count = count ∙ sym many;
        few = omega (arith, many, low, few);
        within = omega (arith, many, low, within);
        accepted = h.first.before;
        ends = is;
      }

  placed : (n : ℕ) (h : Refused m 65536 lines n) → n ≡ suc (length (take h.place lines))
  placed n h =
      let low : h.place < length lines = there_is lines h.place h.line_at h.first.stands in
      let many : length (take h.place lines) ≡ h.place = length_take h.place lines (omega (arith, low)) in
      let e = h.counted in omega (arith, many, e)

  pub fuel_front : (n : ℕ) → Audits m 65536 lines (verdict.Fuel n) → IsFront m events record { count = n - 1; cut = cut.Fuel }
  fuel_front n audits = part_front n cut.Fuel audits.0 (lines, has.are, subst (λ k. Audits m 65536 lines (verdict.Fuel k)) (placed n audits.0) audits)

  pub refused_front : (n : ℕ) (fault : EventFault) → Audits m 65536 lines (verdict.Fails n fault) → IsFront m events record { count = n - 1; cut = cut.Refused fault }
  refused_front n fault audits = part_front n (cut.Refused fault) audits.0 (lines, has.are, subst (λ k. Audits m 65536 lines (verdict.Fails k fault)) (placed n audits.0) audits)
