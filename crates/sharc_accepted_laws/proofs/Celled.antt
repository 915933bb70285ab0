-- The cells of an accepted program, by the laws of accesses.
use Rattle.sharc_accepted_laws.proofs.{Imports.{◌≡◌, ℕ, Bool, true, refl, ap, sym, ◌∙◌, arith, lt-ltb, Contains, AllByRecursion, expressions, in_function, Expression, call, Function, is_pointer, mutex_pointer, Code, functions_in, function_at, Assignment, IsExpression, kind_of, Context, Refers, Setting, type_by, IsPointer, IsCodeOf, type_of_mutex, type_of_condition, KnowsCondition, HasFirstCells, FirstsFit, IsTypingOf, PathsLead, IsOf, LvaluesAreTyped, AreAlone, KnownCalls, ScopeLaws, ExpressionStands, entry_of, ValueLaws, typing, CellsAreTyped, ConditionsTyped, CellsTyped, setting_of, IsSet, each, place_there}, Members.first_of, Calls.alone_is as same_alone}

told_alone : (m : Assignment) (alone told : ℕ → Bool) → ((k : ℕ) → told k ≡ alone k) → AreAlone m alone → AreAlone m told
told_alone m alone told same a = record {
  spawned = λ n k h. same k ∙ a.spawned n k h;
  caller = λ n k h is. same n ∙ a.caller n k h (sym (same k) ∙ is);
  own = λ n f is e all g inside mode. same n ∙ a.own n f is e all g inside mode;
}

module _ (values : ValueLaws) (scopes : ScopeLaws) (lvalues : LvaluesAreTyped) (lead : PathsLead) (firsts : FirstsFit) (calls : KnownCalls) (c : Context) (code : Code) (alone : ℕ → Bool) (lines : ℕ) (set : IsSet c.program c.globals code alone) (n : ℕ) (g : Function) where
  abbrev z : Setting
  z = setting_of c.program c.globals code alone lines

  code_of : IsCodeOf c code
  code_of = record { accepted = set.accepted; globals = set.globals_are; tables = set.tables }

  typing_of : IsTypingOf typing c
  typing_of = record { pointers = λ x stands. ap type_by (scopes.has c x stands).2; names = λ q held. held }

  signatures_alone : AreAlone c.program (λ k. (z.signature k).alone)
  signatures_alone = told_alone c.program alone (λ k. (z.signature k).alone) (λ k. same_alone c.program c.globals (alone k) (function_at c.program.typed k)) set.alone_are

  inside : (e : Expression) → IsOf c n g e → AllByRecursion (IsExpression c.program) (expressions e)
  inside e at =
      each (λ x. Contains (in_function g) x) (IsExpression c.program) (λ x has. record { owner = g; stands = place_there (functions_in c.program.typed.program.items) n g at.function; inside = has }) (expressions e) at.parts

  -- a pointer refers to what its type says
  entry_is : (e : Expression) → IsOf c n g e → is_pointer (kind_of c e) ≡ true → entry_of c e ≡ Refers (type_by (entry_of c e))
  entry_is e at kind =
      let pointer : IsPointer z n typing c e = values.pointers z n c set.accepted e (record { inside = inside e at; stands = first_of (ExpressionStands c) e at.stand }) kind in
      pointer.1

  one_star : is_pointer mutex_pointer ≡ true
  one_star = lt-ltb 0 1 (omega arith)

  cells : HasFirstCells z c
  cells = firsts z c refl set.accepted

  conditions : KnowsCondition c.program → ConditionsTyped z c n g
  conditions knows = record {
    conditions = λ e at kind. cells.condition knows e (first_of (IsExpression c.program) e (inside e at)) kind (type_by (entry_of c e)) (entry_is e at (ap is_pointer kind ∙ one_star));
    mutexes = λ e at kind. cells.mutex e (first_of (IsExpression c.program) e (inside e at)) kind (type_by (entry_of c e)) (entry_is e at (ap is_pointer kind ∙ one_star));
    no_condition = (type_of_condition c.program, refl, cells.no_condition knows);
    no_mutex = (type_of_mutex c.program, refl, cells.no_mutex);
  }

  cells_typed : CellsTyped z c n g
  cells_typed = record {
    lvalues = λ e at bases cell. lvalues c code code_of z.signature z.starts lines signatures_alone typing typing_of (λ p. refl) n g e at bases cell;
    paths = λ e at. lead c set.accepted e (inside e at) at.stand;
    known = λ s i all at names. conditions (calls c.program set.accepted s i all (first_of (IsExpression c.program) (call s i all) (inside (call s i all) at)) names);
  }

pub cells_are_typed : ValueLaws → ScopeLaws → LvaluesAreTyped → PathsLead → FirstsFit → KnownCalls → CellsAreTyped
cells_are_typed values scopes lvalues lead firsts calls c code alone lines set n g = cells_typed values scopes lvalues lead firsts calls c code alone lines set n g
