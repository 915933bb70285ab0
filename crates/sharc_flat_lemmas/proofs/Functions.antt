-- The functions of a program one after the other: where each begins, whose each line is, and what is known before each line of all of them.
use Rattle.std.proofs.{Common.{Bool, List, Some, [], ap, arith, cond, false, length, length-append, refl, subst, suc, sym, true, zero, ℕ, ◌++◌, ◌+◌, ◌-◌, ◌<◌, ◌∙◌, ◌∷◌, ◌≡◌, ◌≤◌}, lemmas.Bool.Decides.nat_tests}
use Rattle.std.specs.Prelude.{nat_lt, slice_get, slice_index_or}
use Rattle.sharc_lemmas.proofs.{Lists.{front_got, there_is}, Numbers.is_below, Options.{none_some, same_some}}
use Rattle.sharc_tree.specs.Tree.{Function}
use Rattle.sharc_code.specs.{Machine.no_function, declared.code.Function.{Function as Row}, declared.code.GlobalCells.GlobalCells}
use Rattle.sharc_mode.specs.Moded.{Assignment}
use Rattle.sharc_flat.specs.{Flattened.{AreRows, IsRow, function_code, functions_code, rows_of}, declared.op.Op.Op}
use Rattle.sharc_flat_lemmas.{proofs.Flow.{Part, agrees_left, agrees_right, get_right, pick}, specs.Pieces.{Agrees, Levels}}

module _ (m : Assignment) (globals : List GlobalCells) where
  abbrev code : ℕ → Function → List Op
  code = function_code m globals

  abbrev lines : ℕ → List Function → List Op
  lines = functions_code m globals

  -- where the function of this number begins, and the function of each line
  abbrev pub begin_of : ℕ → List Function → ℕ → ℕ
  begin_of pc [] d = pc
  begin_of pc (f ∷ fs) zero = pc
  begin_of pc (f ∷ fs) (suc d) = begin_of (pc + length (code pc f)) fs d

  abbrev pub owner_of : ℕ → List Function → ℕ → ℕ
  owner_of pc [] q = 0
  owner_of pc (f ∷ fs) q = cond (nat_lt q (pc + length (code pc f))) zero (suc (owner_of (pc + length (code pc f)) fs q))

  -- the lines of the function of this number are its own
  pub record IsThere (pc : ℕ) (fs : List Function) (d : ℕ) (f : Function) : Type 0 where
    pub low : pc ≤ begin_of pc fs d
    pub high : begin_of pc fs d + length (code (begin_of pc fs d) f) ≤ pc + length (lines pc fs)
    pub owned : (q : ℕ) → begin_of pc fs d ≤ q → q < begin_of pc fs d + length (code (begin_of pc fs d) f) → owner_of pc fs q ≡ d
    pub line : (j : ℕ) (o : Op) → slice_get (code (begin_of pc fs d) f) j ≡ Some o → (i : ℕ) × (slice_get (lines pc fs) i ≡ Some o)

  pub is_there : (pc : ℕ) (fs : List Function) (d : ℕ) (f : Function) → slice_get fs d ≡ Some f → IsThere pc fs d f
  is_there pc [] d f at = absurd (none_some f at)
  is_there pc (g ∷ fs) zero f at =
      let count = length-append (code pc g) (lines (pc + length (code pc g)) fs) in
      subst (IsThere pc (g ∷ fs) zero) (same_some g f at) (record {
        low = omega arith;
        high = omega (arith, count);
        owned = λ q low high. ap (λ b. cond b zero (suc (owner_of (pc + length (code pc g)) fs q))) (is_below q (pc + length (code pc g)) high);
        line = λ j o e. (j, front_got (code pc g) (lines (pc + length (code pc g)) fs) j (there_is (code pc g) j o e) ∙ e);
      })
  is_there pc (g ∷ fs) (suc d) f at =
      let to = pc + length (code pc g) in
      let w = is_there to fs d f at in
      let count = length-append (code pc g) (lines to fs) in
      record {
        low = omega (arith, w.low);
        high = omega (arith, w.high, count);
        owned = λ q low high. let e : nat_lt q to ≡ false = grind (arith, nat_tests, w.low, low) in ap (λ b. cond b zero (suc (owner_of to fs q))) e ∙ ap suc (w.owned q low high);
        line = λ j o e. let x = w.line j o e in (length (code pc g) + x.0, get_right (code pc g) (lines to fs) x.0 ∙ x.1);
      }

  -- the rows of the table
  pub are_rows : (pc : ℕ) (fs : List Function) → AreRows m globals pc fs (rows_of m globals pc fs)
  are_rows pc [] = refl
  are_rows pc (f ∷ rest) = (record { entry = refl; parameter = refl; site = refl; ints = refl; refs = refl }, are_rows (pc + length (code pc f)) rest)

  pub row_of : (pc : ℕ) (fs : List Function) (rows : List Row) → AreRows m globals pc fs rows → (d : ℕ) (f : Function) → slice_get fs d ≡ Some f → IsRow m globals (begin_of pc fs d) f (slice_index_or rows d no_function)
  row_of pc [] rows are d f at = absurd (none_some f at)
  row_of pc (g ∷ fs) [] are d f at = absurd are
  row_of pc (g ∷ fs) (row ∷ rows) are zero f at = subst (λ f. IsRow m globals pc f row) (same_some g f at) are.0
  row_of pc (g ∷ fs) (row ∷ rows) are (suc d) f at = row_of (pc + length (code pc g)) fs rows are.1 d f at

  pub rows_as_many : (pc : ℕ) (fs : List Function) (rows : List Row) → AreRows m globals pc fs rows → length fs ≡ length rows
  rows_as_many pc [] rows are = sym (ap length are)
  rows_as_many pc (f ∷ fs) [] are = absurd are
  rows_as_many pc (f ∷ fs) (row ∷ rows) are = ap suc (rows_as_many (pc + length (code pc f)) fs rows are.1)

  -- ---- what is known before each line of all of them, by what is known in each
  module _ {St : Type 0} (D : (ℕ → St) → Type 0) where
    abbrev pub Parts : (ℕ → (ℕ → St) → ℕ → St → Op → Type 0) → (ℕ → Function → St → Type 0) → ℕ → List Function → Type 0
    Parts Needs Begins pc fs = (d : ℕ) (f : Function) → slice_get fs d ≡ Some f → Part (Needs d) (Begins d f) D (begin_of pc fs d) (code (begin_of pc fs d) f)

    abbrev At : (ℕ → (ℕ → St) → ℕ → St → Op → Type 0) → (ℕ → St) → ℕ → ℕ → Op → Type 0
    At Needs table d q o = Needs d table q (table q) o

    pub record Whole (Needs : ℕ → (ℕ → St) → ℕ → St → Op → Type 0) (Begins : ℕ → Function → St → Type 0) (pc : ℕ) (fs : List Function) : Type 0 where
      pub states : List St
      pub many : length states ≡ length (lines pc fs)
      pub begins : (table : ℕ → St) → Agrees table pc states → (d : ℕ) (f : Function) → slice_get fs d ≡ Some f → Begins d f (table (begin_of pc fs d))
      pub runs : (table : ℕ → St) → D table → Agrees table pc states → (j : ℕ) (o : Op) → slice_get (lines pc fs) j ≡ Some o → At Needs table (owner_of pc fs (pc + j)) (pc + j) o

    pub whole : (Needs : ℕ → (ℕ → St) → ℕ → St → Op → Type 0) (Begins : ℕ → Function → St → Type 0) (pc : ℕ) (fs : List Function) → Parts Needs Begins pc fs → Whole Needs Begins pc fs
    whole Needs Begins pc [] part = record { states = []; many = refl; begins = λ table a d f at. absurd (none_some f at); runs = λ table d a j o at. absurd (none_some o at) }
    whole Needs Begins pc (f ∷ fs) part =
        let p = part zero f refl in
        let q = whole (λ d. Needs (suc d)) (λ d. Begins (suc d)) (pc + length C) fs (λ d g at. part (suc d) g at) in
        record {
          states = p.states ++ q.states;
          many = omega (arith, p.many, q.many, length-append C R, length-append p.states q.states);
          begins = λ table a. begins_by table (p.begins table (agrees_left table pc p.states q.states a)) (q.begins table (agrees_right table pc p.states q.states (length C) p.many a));
          runs = λ table d a. runs_by table (p.runs table d (agrees_left table pc p.states q.states a)) (q.runs table d (agrees_right table pc p.states q.states (length C) p.many a));
        }
      where
        C : List Op
        C = code pc f

        R : List Op
        R = lines (pc + length C) fs

        begins_by : (table : ℕ → St) → Begins zero f (table pc) → ((d : ℕ) (g : Function) → slice_get fs d ≡ Some g → Begins (suc d) g (table (begin_of (pc + length C) fs d))) → (d : ℕ) (g : Function) → slice_get (f ∷ fs) d ≡ Some g
            → Begins d g (table (begin_of pc (f ∷ fs) d))
        begins_by table p q zero g at = subst (λ g. Begins zero g (table pc)) (same_some f g at) p
        begins_by table p q (suc d) g at = q d g at

        runs_by : (table : ℕ → St) → Levels (Needs zero) table pc C → ((j : ℕ) (o : Op) → slice_get R j ≡ Some o → At Needs table (suc (owner_of (pc + length C) fs (pc + length C + j))) (pc + length C + j) o) → (j : ℕ) (o : Op)
            → slice_get (C ++ R) j ≡ Some o → At Needs table (owner_of pc (f ∷ fs) (pc + j)) (pc + j) o
        runs_by table p q j o at = by (nat_lt j (length C)) refl
          where
            by : (b : Bool) → nat_lt j (length C) ≡ b → At Needs table (cond (nat_lt (pc + j) (pc + length C)) zero (suc (owner_of (pc + length C) fs (pc + j)))) (pc + j) o
            by true e =
                let lt : j < length C = grind (arith, nat_tests, e) in
                let is : nat_lt (pc + j) (pc + length C) ≡ true = grind (arith, nat_tests, lt) in
                subst (λ b. At Needs table (cond b zero (suc (owner_of (pc + length C) fs (pc + j)))) (pc + j) o) (sym is) (pick (Needs zero) table pc C p j o (sym (front_got C R j lt) ∙ at))
            by false e =
                let ge : length C ≤ j = grind (arith, nat_tests, e) in
                let is : nat_lt (pc + j) (pc + length C) ≡ false = grind (arith, nat_tests, ge) in
                let split : length C + (j - length C) ≡ j = omega (arith, ge) in
                let place : pc + length C + (j - length C) ≡ pc + j = omega (arith, ge) in
                subst (λ b. At Needs table (cond b zero (suc (owner_of (pc + length C) fs (pc + j)))) (pc + j) o) (sym is)
                (subst (λ n. At Needs table (suc (owner_of (pc + length C) fs n)) n o) place (q (j - length C) o (sym (get_right C R (j - length C)) ∙ ap (slice_get (C ++ R)) split ∙ at)))
