-- One more turn of guarded code.
use Rattle.sharc_guard.proofs.{Imports.{get_or_from_slice_get, ◌≡◌, ℕ, ℤ, ◌+◌, ◌*◌, ◌≤◌, ◌⊎◌, inl, inr, Bool, true, List, [], ◌∷◌, ◌++◌, length, Some, refl, sym, ap, ◌∙◌, subst, arith, ⊎_elim, slice_get, get_or as slice_index_or, Instr, Char, Int, Long, Op, Flat, At, Turn, goes, asks, halts, turn, op_turn, may_go, at_after, IsFlatPath, asked_by, asked, Program, Thread, statement_at, thread_after, weight, weight_in, place, guarded, head, own, body, tail, Tells, LocksFrom, IsLevel, guarded_asked_by, guarded_asked, is_enter, moves}, Placing.HasAt, Gates.GivesNow, Turns.behind, Near.{quiet, IsQuiet, Near, Ending, Follow}, Phases.{IsMoving, Stage, ahead, behind_it, leaves, Bound, opens, enters_all}}
use Rattle.sharc_guard.specs.Machine as Form
use Rattle.sharc_guard.specs.Path as Path

pub statement_is : (xs : List Instr) (n : ℕ) (i : Instr) → slice_get xs n ≡ Some i → slice_index_or xs n Instr.Exit ≡ i
statement_is xs n i e = get_or_from_slice_get xs n i Instr.Exit e

pub one_body : (pl : ℕ → ℕ) (s : ℕ) (o : Op) → IsMoving o → (i : Instr) × (own (body pl s o) ≡ i ∷ [])
one_body pl s Op.Enter h = absurd h
one_body pl s Op.BlockEnd h = absurd h
one_body pl s (Op.Compute Char o i a b spot) h = (_, refl)
one_body pl s (Op.Negate Char i a spot) h = (_, refl)
one_body pl s _ h = (_, refl)

enters_one : (o : Op) → IsMoving o → is_enter (Some o) ≡ 1
enters_one Op.Enter h = absurd h
enters_one Op.BlockEnd h = absurd h
enters_one _ h = refl

module _ (dropped : ℕ → Bool) (flat : Flat) (level : IsLevel flat) where
  abbrev pl : ℕ → ℕ
  pl = place dropped flat.lines

  abbrev p : Program
  p = guarded dropped flat

  abbrev N : At → Thread → List Instr → Type 0
  N = Near dropped flat level

  abbrev pub StraightBy : Op → List Instr → Type 0
  StraightBy o [] = Unit {0}
  StraightBy o (i ∷ is) = (a : Thread) (x : ℤ) → (tail o ≡ []) ⊎ ((Path.after a (Form.step p i a) x).pc ≡ a.pc + 1)

  pub straight : (s : ℕ) (o : Op) → StraightBy o (own (body pl s o))
  straight s Op.Enter = tt
  straight s Op.BlockEnd = tt
  straight s (Op.Compute Char o i a b spot) = λ a x. inl refl
  straight s (Op.Compute Int o i a b spot) = λ a x. inl refl
  straight s (Op.Compute Long o i a b spot) = λ a x. inl refl
  straight s (Op.Negate Char i a spot) = λ a x. inl refl
  straight s (Op.Negate Int i a spot) = λ a x. inl refl
  straight s (Op.Negate Long i a spot) = λ a x. inl refl
  straight s (Op.LoadRef r cell spot) = λ a x. inr refl
  straight s (Op.StoreRef r cell spot) = λ a x. inr refl
  straight s (Op.Settle r from) = λ a x. inr refl
  straight s _ = λ a x. inl refl

  pub quiet_turn : (i : Instr) (a : Thread) → IsQuiet (i ∷ []) → (Form.step p i a ≡ Form.Goes (quiet i a)) × (weight i ≡ 1)
  quiet_turn (Instr.RaiseLoaded r) a h = (refl, refl)
  quiet_turn (Instr.Lower r) a h = (refl, refl)
  quiet_turn (Instr.MoveReference r from) a h = (refl, refl)
  quiet_turn _ a h = absurd h

  module _ (from : At) (begun : Thread) (locks : LocksFrom flat from) where
    -- what the last turn was, where nothing but a statement's own turn is to come
    abbrev pub PassedBy : At → Turn → Form.Turn → Type 0
    PassedBy m t (Form.Goes b) = GivesNow dropped flat m t
    PassedBy m t (Form.Checks check s b) = Tells p (Form.Checks check s b) t
    PassedBy m t _ = ⊥

    abbrev pub LastPassed : At → List ℤ → Turn → Type 0
    LastPassed m [] t = ⊥
    LastPassed m (x ∷ earlier) t = PassedBy m t (Form.turn p (thread_after p begun earlier))

    abbrev pub Was : (m : At) (a : Thread) → Stage dropped flat level m a → List ℤ → Type 0
    Was m a (ahead y) answers = y.hs ≡ [] → (head (dropped m.pc) m.pc y.o ≡ []) ⊎ LastPassed m answers (op_turn flat y.o m)
    Was m a _ answers = Unit {0}

    pub record Coming (answers : List ℤ) : Type 0 where
      pub ys : List ℤ
      pub path : IsFlatPath flat from ys
      pub stage : Stage dropped flat level (at_after flat from ys) (thread_after p begun answers)
      pub same_answers : asked flat from ys ≡ guarded_asked p begun answers
      pub few : moves flat from ys ≤ length answers
      pub bound : Bound dropped flat level (at_after flat from ys) (thread_after p begun answers) stage (weight_in p begun answers) (length ys)
      pub was : Was (at_after flat from ys) (thread_after p begun answers) stage answers

    -- flat code has come to a place, and guarded code is near
    pub landed : (answers zs : List ℤ) (rest : List Instr) → IsFlatPath flat from zs → N (at_after flat from zs) (thread_after p begun answers) rest → HasAt p.statements (thread_after p begun answers).pc rest
        → asked flat from zs ≡ guarded_asked p begun answers → moves flat from zs ≤ length answers → weight_in p begun answers + length rest ≤ 4 * length zs → Coming answers
    landed answers zs [] path near has e le w =
        let r = enters_all dropped flat level (length flat.lines) from (thread_after p begun answers) [] zs path near (omega arith) in
        let a = opens dropped flat level (at_after flat from r.ys) (thread_after p begun answers) r.near r.o r.at r.moving (locks r.ys r.path r.o r.at) in
        record {
          ys = r.ys;
          path = r.path;
          stage = ahead a;
          same_answers = r.same_answers ∙ e;
          few = let z = r.same_moves in omega arith;
          bound = let z = r.more in let f = a.few in omega arith;
          was = λ e. inl e;
        }
    landed answers zs (i ∷ is) path near has e le w =
        let r = enters_all dropped flat level (length flat.lines) from (thread_after p begun answers) (i ∷ is) zs path near (omega arith) in
        let alone : is ≡ [] = only i is near.few in
        record {
          ys = r.ys;
          path = r.path;
          stage = behind_it (record { i = i; near = subst (λ is. N (at_after flat from r.ys) (thread_after p begun answers) (i ∷ is)) alone r.near; has = has.0; o = r.o; at = r.at; moving = r.moving });
          same_answers = r.same_answers ∙ e;
          few = let z = r.same_moves in omega arith;
          bound = let z = r.more in omega arith;
          was = tt;
        }
      where
        only : (i : Instr) (is : List Instr) → IsQuiet (i ∷ is) → is ≡ []
        only (Instr.RaiseLoaded r) is h = h
        only (Instr.Lower r) is h = h
        only (Instr.MoveReference r from) is h = h
        only _ is h = absurd h

    -- a statement's own turn
    pub own_turn : (earlier ys : List ℤ) (x : ℤ) (o : Op) (i : Instr) → let m = at_after flat from ys in let a = thread_after p begun earlier in
        IsFlatPath flat from ys → asked flat from ys ≡ guarded_asked p begun earlier → moves flat from ys ≤ length earlier → slice_get flat.lines m.pc ≡ Some o → IsMoving o → statement_at p a.pc ≡ i
        → HasAt p.statements (a.pc + 1) (tail o) → ((tail o ≡ []) ⊎ ((Path.after a (Form.turn p a) x).pc ≡ a.pc + 1)) → weight_in p begun earlier + (weight i + length (tail o)) ≤ 4 * length ys + 4
        → (t : Turn) (t2 : Form.Turn) → turn flat m ≡ t → Form.turn p a ≡ t2 → Path.may_go t2 ≡ true → Follow dropped flat level (tail o) t t2 → Coming (x ∷ earlier)
    own_turn earlier ys x o i path e le at mv st has pc w t t2 et et2 go fo = by t t2 et et2 go fo
      where
        m : At
        m = at_after flat from ys

        a : Thread
        a = thread_after p begun earlier

        moved_on : moves flat from (x ∷ ys) ≤ length (x ∷ earlier)
        moved_on = let z : is_enter (slice_get flat.lines m.pc) ≡ 1 = ap is_enter at ∙ enters_one o mv in omega arith

        has_next : (b : Thread) → Path.after a (Form.turn p a) x ≡ b → HasAt p.statements b.pc (tail o)
        has_next b eb = ⊎_elim
            (λ (n : tail o ≡ []). subst (HasAt p.statements b.pc) (sym n) tt)
            (λ (z : (Path.after a (Form.turn p a) x).pc ≡ a.pc + 1). subst (λ q. HasAt p.statements q (tail o)) (sym z ∙ ap (λ (b : Thread). b.pc) eb) has)
            pc

        weighs : weight_in p begun (x ∷ earlier) + length (tail o) ≤ 4 * length (x ∷ ys)
        weighs = let z : weight (statement_at p a.pc) ≡ weight i = ap weight st in omega arith

        by : (t : Turn) (t2 : Form.Turn) → turn flat m ≡ t → Form.turn p a ≡ t2 → Path.may_go t2 ≡ true → Follow dropped flat level (tail o) t t2 → Coming (x ∷ earlier)
        by (goes m2) (Form.Goes b) et et2 go fo =
            let em : at_after flat from (x ∷ ys) ≡ m2 = ap (λ t. behind t m x) et in
            let eb : thread_after p begun (x ∷ earlier) ≡ b = ap (λ t. Path.after a t x) et2 in
            let ea : asked flat from (x ∷ ys) ≡ guarded_asked p begun (x ∷ earlier) =
            ap (λ t. asked flat from ys ++ asked_by t x) et ∙ ap (λ l. l ++ []) e ∙ sym (ap (λ t. guarded_asked p begun earlier ++ guarded_asked_by t x) et2) in
            ⊎_elim
            (λ (n : N m2 b (tail o)). landed (x ∷ earlier) (x ∷ ys) (tail o) (path, ap may_go et) (subst (λ m. N m (thread_after p begun (x ∷ earlier)) (tail o)) (sym em) (subst (λ b. N m2 b (tail o)) (sym eb) n))
            (subst (λ (b : Thread). HasAt p.statements b.pc (tail o)) (sym eb) (has_next b eb)) ea moved_on weighs)
            (λ (n : Ending dropped flat level m2 b). record {
              ys = x ∷ ys;
              path = (path, ap may_go et);
              stage = leaves (subst (λ m. Ending dropped flat level m (thread_after p begun (x ∷ earlier))) (sym em) (subst (Ending dropped flat level m2) (sym eb) n));
              same_answers = ea;
              few = moved_on;
              bound = let z = weighs in omega arith;
              was = tt;
            })
            fo
        by (asks m2 s act held f) (Form.Asks s2 act2 g) et et2 go fo =
            let m3 = behind (asks m2 s act held f) m x in
            let em : at_after flat from (x ∷ ys) ≡ m3 = ap (λ t. behind t m x) et in
            let eb : thread_after p begun (x ∷ earlier) ≡ g x = ap (λ t. Path.after a t x) et2 in
            let ea : asked flat from (x ∷ ys) ≡ guarded_asked p begun (x ∷ earlier) =
            ap (λ t. asked flat from ys ++ asked_by t x) et ∙ ap (λ l. l ++ x ∷ []) e ∙ sym (ap (λ t. guarded_asked p begun earlier ++ guarded_asked_by t x) et2) in
            landed (x ∷ earlier) (x ∷ ys) (tail o) (path, ap may_go et) (subst (λ m. N m (thread_after p begun (x ∷ earlier)) (tail o)) (sym em) (subst (λ b. N m3 b (tail o)) (sym eb) (fo.2 x)))
            (subst (λ (b : Thread). HasAt p.statements b.pc (tail o)) (sym eb) (has_next (g x) eb)) ea moved_on weighs
        by (halts o1) (Form.Halts o2) et et2 go fo = absurd (cc)
        by _ _ et et2 go fo = absurd fo
