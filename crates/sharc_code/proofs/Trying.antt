-- A thread waits where its next turn would be a failed try, and a failed try changes nothing else.
use Rattle.sharc_code.proofs.{Imports.{◌≡◌, ℕ, ℤ, pos, negsuc, Bool, true, false, not, ◌||◌, ◌==◌, nat_lt, Some, None, List, if◌then◌else◌, refl, sym, ap, ◌∙◌, subst, eqb-true, ◌↔◌, slice_index, Trap, WordOp, THREADS, waits_in, Code, Instr, Shape, Tries, state_word, Machine, Local, Asks, step_of, act, int, word, fails, goes, trapped, joined, join, instr_at, TurnOutcome, Fails, state_after, IsStill, after, may_go, asks_for, joins, held_up, waits_now, found_now, behind, Wait}, Moving.{is_try, Sorted, Other, Locks, Joins, Conds, sorted}, Outcomes.comes_out}

untried : (m x : Machine) → is_try x.at.state ≡ false → x.at.state ≡ Tries → ⊥
untried m x off is = let e : is_try Tries ≡ false = ap is_try (sym is) ∙ off in cc

-- ---- a failed try changes nothing
failed : (m x : Machine) (o : TurnOutcome) → IsStill o m x → state_after o ≡ Tries → x ≡ fails m
failed m x Fails still is = still
failed m x _ still is = absurd (cc)

pub trying : (code : Code) (s : Shape) (m : Machine) (i : Instr) (found : ℕ) → (after (act code s i m) found).at.state ≡ Tries → after (act code s i m) found ≡ fails m
trying code s m i found is = let out = comes_out code s m i found in failed m _ out.outcome out.still (sym out.state ∙ is)

-- ---- waiting
no_wait : (m x : Machine) (b : Bool) → b ≡ false → is_try x.at.state ≡ false → (b ≡ true) ↔ (x.at.state ≡ Tries)
no_wait m x b out off = ((λ on. absurd (let e : false ≡ true = sym out ∙ on in cc)), (λ is. absurd (untried m x off is)))

unless : (m : Machine) (b : Bool) (x : Machine) → is_try x.at.state ≡ false → (not b ≡ true) ↔ ((if b then x else fails m).at.state ≡ Tries)
unless m true x off = no_wait m x false refl off
unless m false x off = ((λ h. refl), (λ h. refl))

provided : (m : Machine) (b : Bool) (x : Machine) → is_try x.at.state ≡ false → (b ≡ true) ↔ ((if b then fails m else x).at.state ≡ Tries)
provided m true x off = ((λ h. refl), (λ h. refl))
provided m false x off = no_wait m x false refl off

join_waits : (m : Machine) (site found : ℕ) → ((found == 1 || found == 2) ≡ true) ↔ ((joined m site found).at.state ≡ Tries)
join_waits m site found =
    elim (found == 0) as (λ b. (found == 0) ≡ b → ((found == 1 || found == 2) ≡ true) ↔ ((if b then trapped m Trap.NoSuchThread site else (if found == 1 || found == 2 then fails m else goes m)).at.state ≡ Tries)) [
      | true ↦ λ e.
          let zero : found ≡ 0 = eqb-true found 0 e in
          no_wait m (trapped m Trap.NoSuchThread site) (found == 1 || found == 2) (ap (λ f. f == 1 || f == 2) zero) refl
      | false ↦ λ e. provided m (found == 1 || found == 2) (goes m) refl
    ] refl

module _ (code : Code) (s : Shape) (words : List ℕ) (m : Machine) where
  at_join_waits : (z : ℤ) (site : ℕ) → (held_up words m.own.number (joins z site) ≡ true) ↔ ((after (join m z site) (found_now words (join m z site))).at.state ≡ Tries)
  at_join_waits (pos n) site =
      elim (nat_lt n THREADS) as (λ b.
      (held_up words m.own.number (if b then Some (Wait.Join n site) else None) ≡ true)
      ↔ ((after (if b then Asks (step_of (state_word n) WordOp.Load) (joined m site) else Local (trapped m Trap.NoSuchThread site))
      (found_now words (if b then Asks (step_of (state_word n) WordOp.Load) (joined m site) else Local (trapped m Trap.NoSuchThread site)))).at.state ≡ Tries)) [
        | true ↦ join_waits m site (slice_index words (state_word n))
        | false ↦ no_wait m (trapped m Trap.NoSuchThread site) false refl refl
      ]
  at_join_waits (negsuc n) site = no_wait m (trapped m Trap.NoSuchThread site) false refl refl

  asks_waits : (i : Instr) → Sorted code s m i → (held_up words m.own.number (asks_for s i m) ≡ true) ↔ ((after (act code s i m) (found_now words (act code s i m))).at.state ≡ Tries)
  asks_waits i (Other none moves) = no_wait m (after (act code s i m) (found_now words (act code s i m))) (held_up words m.own.number (asks_for s i m)) (ap (held_up words m.own.number) none) (moves (found_now words (act code s i m)))
  asks_waits i (Locks cell site is) =
      subst (λ i. (held_up words m.own.number (asks_for s i m) ≡ true) ↔ ((after (act code s i m) (found_now words (act code s i m))).at.state ≡ Tries)) (sym is)
      (unless m (slice_index words (word s m cell) == 0) _ refl)
  asks_waits i (Joins r site is) =
      subst (λ i. (held_up words m.own.number (asks_for s i m) ≡ true) ↔ ((after (act code s i m) (found_now words (act code s i m))).at.state ≡ Tries)) (sym is)
      (at_join_waits (int m r) site)
  asks_waits i (Conds cell site is) =
      subst (λ i. (held_up words m.own.number (asks_for s i m) ≡ true) ↔ ((after (act code s i m) (found_now words (act code s i m))).at.state ≡ Tries)) (sym is)
      (provided m (waits_in (slice_index words (word s m cell)) m.own.number) _ refl)

  pub waits_where : may_go m.at.state ≡ true → (waits_now code s words m ≡ true) ↔ ((behind code s words m).at.state ≡ Tries)
  waits_where on =
      let i = instr_at code m.at.pc in
      subst (λ b. (held_up words m.own.number (if b then asks_for s i m else None) ≡ true) ↔ ((behind code s words m).at.state ≡ Tries)) (sym on) (asks_waits i (sorted code s m i))
