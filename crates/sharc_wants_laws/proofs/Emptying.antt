-- Where the pointer cells of a freed object are emptied, flat code gives them up, and wants the Freed of the object.
use Rattle.sharc_wants_laws.proofs.{Imports.{◌≡◌, ℕ, suc, ℤ, ◌+◌, true, List, [], ◌∷◌, ◌++◌, refl, sym, ap, ◌∙◌, subst, false≢true, slice_index, Act, Emptied, Asked, number_of, Code, Row, Instr, Free, Shape, Stage, Empties, Lowers, FreeLooks, FreeClears, Uncounts, Links, Machine, instr_at, Flat, At, asks, turn, on_turn, exec, Program, Thread, statement_at, Tells, Elements, instr_of, IsAt, IsAtStage, IsInFree, IsEmptying, is_emptying}}
use Rattle.sharc_flat.specs.{Machine.{Turn}, Quiet.{IsQuiet, PathLaws}}
use Rattle.sharc_guard.specs.Machine as Form

-- so it stands where it wants the Freed
given_there : (v : ℤ) (flat : Flat) (p : Program) (a : Thread) (m : At) (more register layout site : ℕ) (t : Turn) → Form.ref a register ≡ v → Tells p (Form.step p (Free register layout site) a) t → IsQuiet m t
    → (on_turn t [] m (exec flat more)).at.given ≡ m.given ++ Emptied (number_of v) ∷ []
given_there v flat p a m more register layout site (asks m2 place act held go) is h q = q.3 v (sym h.1 ∙ ap Act.Freed is)
given_there v flat p a m more register layout site _ is h q = absurd h

-- ---- at the Free
pub emptying : (paths : PathLaws) (flat : Flat) (p : Program) (m : At) (a : Thread) (code : Code) (at : Machine) (x : Asked) (more register layout site : ℕ) → instr_at code at.at.pc ≡ Free register layout site
    → statement_at p a.pc ≡ Free register layout site → Tells p (Form.turn p a) (turn flat m) → x.given_up ≡ (exec flat (suc more) [] m).at.given
    → number_of (Form.ref a register) ≡ slice_index at.refs (at.at.refs + register) → IsEmptying code x at
emptying paths flat p m a code at x more register layout site instr statement tells given number =
    let v = Form.ref a register in
    record {
      register = register;
      layout = layout;
      site = site;
      next = instr;
      before = m.given;
      given_is = given ∙ given_there v flat p a m more register layout site (turn flat m) refl (subst (λ i. Tells p (Form.step p i a) (turn flat m)) statement tells) (paths.quiet flat m)
          ∙ ap (λ n. m.given ++ Emptied n ∷ []) number;
    }

free_is : (i : Instr) → IsInFree i → (r : ℕ) × (layout : ℕ) × (site : ℕ) × (i ≡ Free r layout site)
free_is (Free r layout site) h = (r, layout, site, refl)
free_is _ h = absurd h

-- a stage before the Freed is inside a Free
in_free : (at : Machine) (i : Instr) (stage : Stage) → is_emptying stage ≡ true → IsAtStage at i stage → IsInFree i
in_free at i (Empties k elements) e h = h
in_free at i (Lowers k elements found) e h = h
in_free at i (FreeLooks done elements) e h = h
in_free at i (FreeClears done elements seen) e h = h
in_free at i (Uncounts elements) e h = h
in_free at i _ e h = absurd (false≢true e)

pub at_free : (paths : PathLaws) (code : Code) (s : Shape) (T : Elements) (rows : List Row) (flat : Flat) (p : Program) (m : At) (a : Thread) (at : Machine) (x : Asked) (more : ℕ) → IsAt code s p T at a
    → instr_at code at.at.pc ≡ instr_of rows (statement_at p at.at.pc) → Tells p (Form.turn p a) (turn flat m) → x.given_up ≡ (exec flat (suc more) [] m).at.given
    → ((k : ℕ) → number_of (a.refs k) ≡ slice_index at.refs k) → is_emptying at.own.stage ≡ true → IsEmptying code x at
at_free paths code s T rows flat p m a at x more y instr tells given numbers empties =
    let f = free_is (statement_at p a.pc) (in_free at (statement_at p a.pc) at.own.stage empties y.stage) in
    emptying paths flat p m a code at x more f.0 f.1 f.2 (instr ∙ ap (instr_of rows) (ap (statement_at p) (sym y.pc_is) ∙ f.3)) f.3 tells given
    (numbers (a.refs_from + f.0) ∙ ap (λ b. slice_index at.refs (b + f.0)) y.same.from_refs)

-- then the block is not linked yet
pub not_linking : (elements : ℕ) (stage : Stage) → is_emptying stage ≡ true → stage ≡ Links elements → ⊥
not_linking elements stage e h = false≢true (sym (ap is_emptying h) ∙ e)
