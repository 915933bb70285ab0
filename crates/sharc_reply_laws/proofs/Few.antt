-- A thread that is chosen has made fewer events than the limit.
use Rattle.sharc_reply_laws.proofs.Imports.{◌≡◌, ℕ, ◌+◌, ◌<◌, ◌≤◌, ⊎_elim, true, not, ◌&&◌, List, [], ◌∷◌, length, sym, subst, arith, cases_eq, nat_lt, Code, Shape, TurnState, RunLaws, counted, may_go, Turn, waits_now, bounds, place_after, Standing, is_enabled, EnabledLaws, AreChosen, IsChosen, enabled, left, right, below}
use Rattle.sharc_code.specs.declared.state.TurnState.TheVariants.{Runs}

counts_few : (state : TurnState) → counted state ≤ 1
counts_few Runs = omega arith
counts_few _ = omega arith

bounded : (x y c limit : ℕ) → x ≡ y + c → y < limit → c ≤ 1 → x ≤ limit
bounded x y c limit e low few = omega arith

module _ (code : Code) (s : Shape) (limit : ℕ) (g : Standing) (t : ℕ) where
  has_room : is_enabled code s limit g t ≡ true → g.made t < limit
  has_room e =
      let waits = not (waits_now code s g.words (g.threads t)) in
      let room = nat_lt (g.made t) limit in
      below (g.made t) limit (left room waits (right (may_go (g.threads t).at.state) (room && waits) (right (g.started t) (may_go (g.threads t).at.state && (room && waits)) e)))

module _ (laws : RunLaws) (listed : EnabledLaws) (chooser : ℕ → ℕ → ℕ) (code : Code) (s : Shape) (limit : ℕ) where
  abbrev answers : ℕ → ℕ → ℕ → Type 0
  answers number count place = place ≡ chooser number count

  own : (turn : Turn) (earlier : List Turn) → IsChosen answers (length earlier) (enabled code s limit (place_after code s earlier)) turn.thread → (place_after code s (turn ∷ earlier)).made turn.thread ≤ limit
  own turn earlier c =
      let g = place_after code s earlier in
      let on = subst (λ u. is_enabled code s limit g u ≡ true) (sym c.is) (listed.listed code s limit g c.place c.within).yes in
      bounded _ (g.made turn.thread) _ limit (laws.counts bounds code s g turn) (has_room code s limit g turn.thread on) (counts_few _)

  pub few : (turns : List Turn) → AreChosen answers code s limit turns → (t : ℕ) → (place_after code s turns).made t ≤ limit
  few [] chosen t = omega arith
  few (turn ∷ earlier) chosen t = ⊎_elim
      (λ (e : t ≡ turn.thread). subst (λ u. (place_after code s (turn ∷ earlier)).made u ≤ limit) (sym e) (own turn earlier chosen.1))
      (λ (ne : t ≡ turn.thread → ⊥). subst (λ n. n ≤ limit) (sym (laws.others bounds code s (place_after code s earlier) turn t ne).1) (few earlier chosen.0 t))
      (cases_eq t turn.thread)
