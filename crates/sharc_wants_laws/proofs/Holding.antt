-- From the registers of code to what the program holds that was asked by the answers of its own events.
use Rattle.sharc_wants_laws.proofs.{Imports.{◌≡◌, ◌≢◌, ℕ, zero, suc, ℤ, pos, ◌+◌, ◌<◌, ◌⊎◌, inl, inr, ⊎_elim, Bool, List, [], ◌∷◌, ◌++◌, map, refl, sym, ap, ◌∙◌, subst, arith, append_assoc, append-nil, cond, ◌==◌, eq-eqb, true, false, false≢true, get_or-set_other, slice_index, slice_set, CellAt, SourceEvent, Assignment, GivenUp, Emptied, Released, Replaced, number_of, Code, TestSole, Free, Shape, Machine, instr_at, Flat, At, goes, asks, halts, turn, on_turn, exec, MayStart, Thread, statement_at, Resolved, AreLowered, IsReleased, IsReplaced, OnWay, Quietly, place, Elements, instr_of, IsReference, IsAt, IsLinking, is_freed, register_of, IsAccounted, IsLowered, IsHolding, IsHoldingThere}, Emptying.{at_free, not_linking}, Testing.{test_is, no_free, tested}, Coming.{Coming, Rests, asked_by, asked_events, begun_with, comes, instr_is, rest, there, told, with_some}, Cells.number_is}
use Rattle.sharc_meaning.specs.Meaning as Meaning
use Rattle.sharc_flat.specs.{Machine.Turn, Quiet.{IsQuiet, PathLaws}}
use Rattle.sharc_compile.specs.Correct.{by}

-- ---- what flat code does without an answer
pub record Way (flat : Flat) (m final : At) : Type 0 where
  pub turns : ℕ
  pub mid : At
  pub quietly : Quietly flat turns m mid
  pub refs : final.refs ≡ mid.refs
  pub more : List GivenUp
  pub more_given : mid.given ≡ m.given ++ more
  pub extra : List GivenUp
  pub given : final.given ≡ mid.given ++ extra

pub way : (paths : PathLaws) (flat : Flat) (k : ℕ) (m : At) → Way flat m (exec flat k [] m).at
way paths flat zero m = record { turns = 0; mid = m; quietly = refl; refs = refl; more = []; more_given = sym (append-nil m.given); extra = []; given = sym (append-nil m.given) }
way paths flat (suc k) m = by_turn (turn flat m) refl (paths.quiet flat m) (way paths flat k)
  where
    by_turn : (t : Turn) → turn flat m ≡ t → IsQuiet m t → ((m2 : At) → Way flat m2 (exec flat k [] m2).at) → Way flat m (on_turn t [] m (exec flat k)).at
    by_turn (goes m2) e q rec =
        let r = rec m2 in
        record {
          turns = suc r.turns;
          mid = r.mid;
          quietly = (m2, e, r.quietly);
          refs = r.refs;
          more = q.0.1 ++ r.more;
          more_given = r.more_given ∙ ap (λ gs. gs ++ r.more) q.0.2 ∙ append_assoc m.given q.0.1 r.more;
          extra = r.extra;
          given = r.given;
        }
    by_turn (asks m2 site act held go) e q rec = record { turns = 0; mid = m; quietly = refl; refs = q.1; more = []; more_given = sym (append-nil m.given); extra = q.0.1; given = q.0.2 }
    by_turn (halts o) e q rec = record { turns = 0; mid = m; quietly = refl; refs = refl; more = []; more_given = sym (append-nil m.given); extra = []; given = sym (append-nil m.given) }

-- ---- what is lowered
lowered_resolved : (gs : List GivenUp) (ns : List ℕ) → AreLowered gs ns → Resolved gs ns
lowered_resolved [] [] h = tt
lowered_resolved (Released g ∷ gs) (n ∷ ns) h = (h.0, lowered_resolved gs ns h.1)
lowered_resolved (Replaced c ∷ gs) (n ∷ ns) h = lowered_resolved gs ns h
lowered_resolved (Emptied g ∷ gs) ns h = lowered_resolved gs ns h
lowered_resolved _ _ h = absurd h

released_more : (gs extra : List GivenUp) (n : ℕ) → IsReleased gs n → IsReleased (gs ++ extra) n
released_more [] extra n h = absurd h
released_more (Released g ∷ gs) extra n (inl h) = inl h
released_more (Released g ∷ gs) extra n (inr h) = inr (released_more gs extra n h)
released_more (Replaced c ∷ gs) extra n h = released_more gs extra n h
released_more (Emptied g ∷ gs) extra n h = released_more gs extra n h

module _ {m : Assignment} {code : Code} {s : Shape} {T : Elements} {thread : ℕ} {at : Machine} {said : List SourceEvent} {lowered : List ℕ} (w : Coming m code s T thread at said lowered) where
  abbrev a : Thread
  a = there w

  statement_is : (register site : ℕ) → instr_at code at.at.pc ≡ TestSole register site → statement_at w.p at.at.pc ≡ TestSole register site
  statement_is register site tests = test_is w.g.functions.items (statement_at w.p at.at.pc) register site (sym (instr_is w at.at.pc) ∙ tests)

  number_here : (k n : ℕ) → slice_index at.refs k ≡ n → IsReference T (slice_index at.refs k) (a.refs k) → number_of (a.refs k) ≡ n
  number_here k n e r = ap number_of r.is ∙ number_is (slice_index at.refs k) (T (slice_index at.refs k)) r.small ∙ e

  not_null : (v : ℤ) (n : ℕ) → number_of v ≡ n → 0 < n → v ≢ pos 0
  not_null v n e some q = let o : 0 ≡ n = ap number_of (sym q) ∙ e in omega arith

  done_resolved : AreLowered (rest w).given a.lowered ⊎ ((c : CellAt) × ((rest w).given ≡ Replaced c ∷ []) × (a.lowered ≡ [])) → (next : List ℕ) × Resolved (rest w).given (lowered ++ next)
  done_resolved (inl h) = ([], subst (Resolved (rest w).given) (sym w.has.lowers ∙ sym (append-nil lowered)) (lowered_resolved (rest w).given a.lowered h))
  done_resolved (inr h) = (0 ∷ [], subst (λ gs. Resolved gs (lowered ++ 0 ∷ [])) (sym h.1) (subst (λ xs. Resolved (Replaced h.0 ∷ []) (xs ++ 0 ∷ [])) (sym (w.has.lowers ∙ h.2)) tt))

  module _ (fuel : ℕ) (r : Rests w fuel) where
    abbrev x : Meaning.Asked
    x = asked_by w fuel

    y : Way w.flat (rest w) (exec w.flat (suc r.0) [] (rest w)).at
    y = way w.paths w.flat (suc r.0) (rest w)

    given : x.given_up ≡ y.mid.given ++ y.extra
    given = sym r.1.given_up ∙ y.given

    accounted : (k n : ℕ) → number_of (a.refs k) ≡ n → IsReplaced w.p (rest w) a k ⊎ ((q : ℕ) (m3 : At) → Quietly w.flat q (rest w) m3 → OnWay (a.refs k) (rest w) m3)
        → (place : ℕ) → (place ≡ at.at.pc) ⊎ (place ≡ at.at.pc + 1) → a.pc ≡ place → a.refs_from ≡ at.at.refs → IsAccounted code at lowered x k n
    accounted k n number (inl c) place near pc from = inr (inr (record {
      place = place;
      near = near;
      register = c.register;
      next = instr_is w place ∙ ap (instr_of w.g.functions.items) (ap (statement_at w.p) (sym pc) ∙ c.next);
      here = c.at ∙ ap (λ b. b + c.register) from;
      cell = c.cell;
      after = y.more ++ y.extra;
      given_is = given ∙ ap (λ gs. gs ++ y.extra) (y.more_given ∙ ap (λ gs. gs ++ y.more) c.given);
      none = w.has.lowers ∙ c.none;
    }))
    accounted k n number (inr flight) place near pc from =
        let o = flight y.turns y.mid y.quietly in
        ⊎_elim
        (λ (h : (j : ℕ) × (y.mid.refs j ≡ a.refs k)). inl (h.0, ap number_of (sym (r.1.held h.0) ∙ ap (λ (f : ℕ → ℤ). f h.0) y.refs ∙ h.1) ∙ number))
        (λ (h : IsReleased o.more (number_of (a.refs k))). inr (inl (record {
          before = (rest w).given;
          later = o.more ++ y.extra;
          is = given ∙ ap (λ gs. gs ++ y.extra) o.given_is ∙ append_assoc (rest w).given o.more y.extra;
          lowers = done_resolved (comes w).stands.lowered;
          released = released_more o.more y.extra n (subst (IsReleased o.more) number h);
        })))
        o.stays

    lowers_first : IsLowered x.given_up lowered
    lowers_first = record {
      before = (rest w).given;
      later = y.more ++ y.extra;
      is = given ∙ ap (λ gs. gs ++ y.extra) y.more_given ∙ append_assoc (rest w).given y.more y.extra;
      lowers = done_resolved (comes w).stands.lowered;
    }

  -- ---- registers that are not freed
  chosen : (b : Bool) (v n : ℕ) → cond b 0 v ≡ n → 0 < n → (b ≡ false) × (v ≡ n)
  chosen true v n e some = absurd (let none : 0 ≡ n = e in omega (arith, none, some))
  chosen false v n e some = (refl, e)

  unfreed : (k n : ℕ) → register_of code at k ≡ n → 0 < n → slice_index at.refs k ≡ n
  unfreed k n e some = (chosen (is_freed (instr_at code at.at.pc) at.own.stage at.at.refs k) (slice_index at.refs k) n e some).1

  -- while the block of a freed object is linked, the others are as they were
  linked_number : (l : IsLinking code s w.p T at a) (k n : ℕ) → register_of code at k ≡ n → 0 < n → number_of (a.refs k) ≡ n
  linked_number l k n e some =
      let instr : instr_at code at.at.pc ≡ Free l.register l.layout l.site = instr_is w at.at.pc ∙ ap (instr_of w.g.functions.items) l.statement in
      let test : is_freed (instr_at code at.at.pc) at.own.stage at.at.refs k ≡ (k == at.at.refs + l.register) =
      ap (λ i. is_freed i at.own.stage at.at.refs k) instr ∙ ap (λ st. is_freed (Free l.register l.layout l.site) st at.at.refs k) l.stage in
      let c = chosen (is_freed (instr_at code at.at.pc) at.own.stage at.at.refs k) (slice_index at.refs k) n e some in
      let other : k ≢ at.at.refs + l.register = λ same. false≢true (sym (sym test ∙ c.0) ∙ eq-eqb k (at.at.refs + l.register) same) in
      let kept : slice_index (slice_set at.refs (at.at.refs + l.register) 0) k ≡ n = get_or-set_other at.refs (at.at.refs + l.register) k 0 0 other ∙ c.1 in
      let r = l.same.in_refs.are k in
      ap number_of r.is ∙ number_is (slice_index (slice_set at.refs (at.at.refs + l.register) 0) k) (T (slice_index (slice_set at.refs (at.at.refs + l.register) 0) k)) r.small ∙ kept

  holds_by : MayStart m w.has.function → IsHolding m code w.has.function w.has.argument thread (told w) at lowered
  holds_by may =
      let f = with_some w may in
      let r = f.1 in
      let y = y f.0 r in
      let c = (comes w).stands in
      record {
        fuel = f.0;
        events = ap (map (by thread)) (sym (asked_events w f.0 r));
        registers = λ k n e some. ⊎_elim
            (λ (i : IsAt code s w.p T at a).
            let number = number_here k n (unfreed k n e some) (i.same.in_refs.are k) in
            accounted f.0 r k n number (c.flight k (not_null (a.refs k) n number some)) at.at.pc (inl refl) i.pc_is i.same.from_refs)
            (λ (l : IsLinking code s w.p T at a).
            let number = linked_number l k n e some in
            accounted f.0 r k n number (c.flight k (not_null (a.refs k) n number some)) (at.at.pc + 1) (inr refl) l.pc_is l.same.from_refs)
            w.has.stands;
        lowers = lowers_first f.0 r;
        tested = λ register site is_test.
            let statement = statement_is register site is_test in
            let i : IsAt code s w.p T at a = ⊎_elim (λ (i : IsAt code s w.p T at a). i) (λ (l : IsLinking code s w.p T at a). absurd (no_free l.register l.layout l.site register site (sym l.statement ∙ statement))) w.has.stands in
            tested w.flat w.p (rest w) y.mid (exec w.flat (suc r.0) [] (rest w)).at a at (asked_by w f.0) r.0 y.turns register site (ap (statement_at w.p) i.pc_is ∙ statement) c.tells c.held y.quietly y.refs r.1.held r.1.outcome
            i.same.from_refs (λ k n e. number_here k n e (i.same.in_refs.are k));
        emptying = λ empties.
            let i : IsAt code s w.p T at a = ⊎_elim (λ (i : IsAt code s w.p T at a). i) (λ (l : IsLinking code s w.p T at a). absurd (not_linking l.elements at.own.stage empties l.stage)) w.has.stands in
            at_free w.paths code s T w.g.functions.items w.flat w.p (rest w) a at (asked_by w f.0) r.0 i (instr_is w at.at.pc) c.tells (sym r.1.given_up) (λ k. number_here k (slice_index at.refs k) refl (i.same.in_refs.are k)) empties;
      }

  pub held_there : IsHoldingThere m code thread at said lowered
  held_there = begun_with w (λ f argument told. IsHolding m code f argument thread told at lowered) holds_by
