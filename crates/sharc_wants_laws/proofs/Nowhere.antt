-- At a test that passed no argument, no held mutex and no pointer cell but of an object that is being freed refers to
-- the object.
use Rattle.sharc_wants_laws.proofs.{Imports.{◌≡◌, ◌≢◌, ℕ, ℤ, pos, negsuc, ◌+◌, true, List, refl, sym, ap, ◌∙◌, eqb-true, and_parts, false≢true, Any, Act, Spawn, SourceEvent, Resolution, function_at, has_pointer, passes, refers, is_natural, is_spawn, spawns, Code, TestSole, Shape, Machine, instr_at, Global, Targets, ObjectState, IsAlone, IsBeingFreed}, Cause.{no_free, register_there}}

-- ---- the Spawn that gave an argument
natural_is : (n : ℕ) (z : ℤ) → is_natural n z ≡ true → z ≡ pos n
natural_is n (pos k) e = ap pos (sym (eqb-true n k e))
natural_is n (negsuc k) e = absurd (false≢true e)

-- the function and the argument that it gave
pub record Gives (r : Resolution) (R : List SourceEvent) (thread n : ℕ) : Type 0 where
  pub function : ℕ
  pub argument : ℤ
  pub spawned : Any (λ e. (e.act ≡ Spawn function argument) × (e.answer ≡ pos thread)) R
  pub takes : has_pointer (function_at r function) ≡ true
  pub refers_there : refers n argument ≡ true

given_by : (r : Resolution) (n : ℕ) (a : Act) → passes r n a ≡ true → (f : ℕ) × (v : ℤ) × (a ≡ Spawn f v) × (has_pointer (function_at r f) ≡ true) × (refers n v ≡ true)
given_by r n (Spawn f v) e = let k = and_parts (has_pointer (function_at r f)) (refers n v) e in (f, v, refl, k.0, k.1)
given_by r n _ e = absurd (false≢true e)

pub gives : (r : Resolution) (R : List SourceEvent) (thread n : ℕ) → Any (λ e. (spawns thread e ≡ true) × (passes r n e.act ≡ true)) R → Gives r R thread n
gives r R thread n h =
    let e = h.1 in
    let k = given_by r n e.act h.4.1 in
    record {
      function = k.0;
      argument = k.1;
      spawned = (h.0, h.1, h.2, h.3, (k.2, natural_is thread e.answer (and_parts (is_spawn e.act) (is_natural thread e.answer) h.4.0).1));
      takes = k.3;
      refers_there = k.4;
    }

-- ---- an object that is being freed is another one
module _ (x : Targets) (code : Code) (s : Shape) (g : Global Machine) (obj : ℕ → ObjectState) (t k n : ℕ) (alone : IsAlone x code s g obj t k n) (register site : ℕ) (tests : instr_at code (g.threads t).at.pc ≡ TestSole register site) where
  pub other_freed : (p : ℕ) → IsBeingFreed code g p → p ≢ n
  other_freed p y same =
      let at = g.threads y.thread in
      let here = register_there code at y.register y.layout y.site (at.at.refs + y.register) y.is_free y.clearing ∙ y.object ∙ same in
      let own : y.thread ≡ t = (alone.registers y.thread (at.at.refs + y.register) here).0 in
      no_free register site y.register y.layout y.site (sym tests ∙ ap (λ u. instr_at code (g.threads u).at.pc) (sym own) ∙ y.is_free)
