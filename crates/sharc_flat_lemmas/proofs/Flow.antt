-- Pieces of flat code one after the other: tests, choices, loops.
use Rattle.std.proofs.{Common.{List, [], Some, ap, arith, append_assoc, length, length-append, refl, subst, suc, sym, zero, ℕ, ◌++◌, ◌+◌, ◌∙◌, ◌∷◌, ◌≡◌, ◌≤◌}, Math.Seq.get_or-append_seam}
use Rattle.std.specs.Prelude.{slice_get, slice_index_or}
use Rattle.sharc_lemmas.proofs.Options.{none_some, same_some}
use Rattle.sharc_flat.specs.declared.op.Op.{Op}
use Rattle.sharc_flat_lemmas.specs.Pieces.{Agrees, first}
use Rattle.sharc_flat_lemmas.specs.Pieces as pieces

agrees_at : {St : Type 0} (table : ℕ → St) (p q : ℕ) (list : List St) → p ≡ q → Agrees table p list → Agrees table q list
agrees_at table p q list e h = subst (λ n. Agrees table n list) e h

pub agrees_left : {St : Type 0} (table : ℕ → St) (pc : ℕ) (a b : List St) → Agrees table pc (a ++ b) → Agrees table pc a
agrees_left table pc [] b h = tt
agrees_left table pc (s ∷ rest) b h = (h.0, agrees_left table (pc + 1) rest b h.1)

pub agrees_right : {St : Type 0} (table : ℕ → St) (pc : ℕ) (a b : List St) (n : ℕ) → length a ≡ n → Agrees table pc (a ++ b) → Agrees table (pc + n) b
agrees_right table pc [] b n e h = agrees_at table pc (pc + n) b (omega (arith, e)) h
agrees_right table pc (s ∷ rest) b n e h = agrees_at table (pc + 1 + length rest) (pc + n) b (omega (arith, e)) (agrees_right table (pc + 1) rest b (length rest) refl h.1)

-- so it is of a table made of them
pub agrees_all : {St : Type 0} (before list : List St) (d : St) (n : ℕ) → n ≡ length before → Agrees (λ q. slice_index_or (before ++ list) q d) n list
agrees_all before [] d n e = tt
agrees_all before (s ∷ rest) d n e = (
  ap (λ k. slice_index_or (before ++ s ∷ rest) k d) e ∙ get_or-append_seam before s rest d,
  subst (λ l. Agrees (λ q. slice_index_or l q d) (n + 1) rest) (append_assoc before (s ∷ []) rest) (agrees_all (before ++ s ∷ []) rest d (n + 1) (let z = length-append before (s ∷ []) in omega (arith, e, z))),
)

-- a line of code that stands behind other code
pub get_right : (xs ys : List Op) (j : ℕ) → slice_get (xs ++ ys) (length xs + j) ≡ slice_get ys j
get_right [] ys j = let e : 0 + j ≡ j = omega arith in ap (slice_get ys) e
get_right (x ∷ xs) ys j = let e : length (x ∷ xs) + j ≡ suc (length xs + j) = omega arith in ap (slice_get (x ∷ (xs ++ ys))) e ∙ get_right xs ys j

-- at one of them
pub pick : {St : Type 0} (needs : (ℕ → St) → ℕ → St → Op → Type 0) (table : ℕ → St) (pc : ℕ) (os : List Op) → pieces.Levels needs table pc os → (j : ℕ) (o : Op) → slice_get os j ≡ Some o → needs table (pc + j) (table (pc + j)) o
pick needs table pc [] h j o at = absurd (none_some o at)
pick needs table pc (x ∷ os) h zero o at = let z : pc ≡ pc + 0 = omega arith in subst (λ q. needs table q (table q) o) z (subst (needs table pc (table pc)) (same_some x o at) h.0)
pick needs table pc (x ∷ os) h (suc j) o at = let z : pc + 1 + j ≡ pc + suc j = omega arith in subst (λ q. needs table q (table q) o) z (pick needs table (pc + 1) os h.1 j o at)

-- a part of code that nothing leads out of: before its first line something is known, and where a table says this before each line, each has what it needs
pub record Part {St : Type 0} (needs : (ℕ → St) → ℕ → St → Op → Type 0) (begin : St → Type 0) (D : (ℕ → St) → Type 0) (pc : ℕ) (os : List Op) : Type 0 where
  pub states : List St
  pub many : length states ≡ length os
  pub begins : (table : ℕ → St) → Agrees table pc states → begin (table pc)
  pub runs : (table : ℕ → St) → D table → Agrees table pc states → pieces.Levels needs table pc os

-- A kind of knowledge: which fits which; which lines may be led to; what an operation needs, by what is known at each line, at this line, where this is known. At lines that lead elsewhere some of it is known to be plain, and the
-- place that a jump over lines leads to may be known less well. Where a register holds NULL this is known, and where it does not, that.
pub record Knowledge : Type 1 where
  pub St : Type 0
  pub Fit : St → St → Type 0
  pub same : (s : St) → Fit s s
  pub through : (s t u : St) → Fit s t → Fit t u → Fit s u
  pub Own : ℕ → Type 0
  pub Needs : (ℕ → St) → ℕ → St → Op → Type 0
  pub Far : St → St → Type 0
  pub far : (s t : St) → Fit s t → Far s t
  pub far_through : (s t u : St) → Far s t → Fit t u → Far s u
  pub Plain : St → Type 0
  pub PlainNull : St → ℕ → Type 0
  pub cleared : St → ℕ → St
  pub noted : St → ℕ → St
  pub on_zero : (table : ℕ → St) (pc : ℕ) (s : St) (i n : ℕ) → Plain s → Own (pc + 1 + n) × Far s (table (pc + 1 + n)) → Own (pc + 1) × Fit s (table (pc + 1)) → Needs table pc s (Op.SkipIfZero i n)
  pub on_null : (table : ℕ → St) (pc : ℕ) (s : St) (r n : ℕ) → PlainNull s r → Own (pc + 1 + n) × Fit (cleared s r) (table (pc + 1 + n)) → Own (pc + 1) × Fit (noted s r) (table (pc + 1)) → Needs table pc s (Op.SkipIfNull r n)
  pub on_skip : (table : ℕ → St) (pc : ℕ) (s : St) (n : ℕ) → Plain s → Own (pc + 1 + n) × Fit s (table (pc + 1 + n)) → Needs table pc s (Op.Skip n)

module _ (k : Knowledge) where
  abbrev pub Leads : (ℕ → k.St) → k.St → ℕ → Type 0
  Leads table s q = k.Own q × k.Fit s (table q)

  abbrev pub Levels : (ℕ → k.St) → ℕ → List Op → Type 0
  Levels = pieces.Levels k.Needs

  abbrev pub Piece : ((ℕ → k.St) → Type 0) → k.St → ℕ → List Op → k.St → Type 0
  Piece = pieces.Piece k.Fit k.Own k.Needs

  pub levels_at : (table : ℕ → k.St) (p q : ℕ) (os : List Op) → p ≡ q → Levels table p os → Levels table q os
  levels_at table p q os e h = subst (λ n. Levels table n os) e h

  pub levels_both : (table : ℕ → k.St) (pc : ℕ) (xs ys : List Op) → Levels table pc xs → Levels table (pc + length xs) ys → Levels table pc (xs ++ ys)
  levels_both table pc [] ys a b = levels_at table (pc + 0) pc ys (omega arith) b
  levels_both table pc (x ∷ xs) ys a b = (a.0, levels_both table (pc + 1) xs ys a.1 (levels_at table (pc + length (x ∷ xs)) (pc + 1 + length xs) ys (omega arith) b))

  there : (table : ℕ → k.St) (s : k.St) (p q : ℕ) → p ≡ q → k.Fit s (table p) → k.Fit s (table q)
  there table s p q e h = subst (λ n. k.Fit s (table n)) e h

  -- where it begins
  pub enters : (D : (ℕ → k.St) → Type 0) (s : k.St) (pc : ℕ) (os : List Op) (e : k.St) (p : Piece D s pc os e) (table : ℕ → k.St) → Agrees table pc p.states → k.Fit e (table (pc + length os)) → k.Fit s (table pc)
  enters D s pc os e p table a h = by p.states p.begins a (let n = p.many in n)
    where
      by : (list : List k.St) → k.Fit s (first list e) → Agrees table pc list → length list ≡ length os → k.Fit s (table pc)
      by [] b a n = let z : pc + length os ≡ pc = omega (arith, n) in k.through s e (table pc) b (subst (λ q. k.Fit e (table q)) z h)
      by (x ∷ rest) b a n = subst (k.Fit s) (sym a.0) b

  -- a piece and a line behind it that leads nowhere
  pub ends : (D : (ℕ → k.St) → Type 0) (s e : k.St) (pc : ℕ) (os : List Op) (o : Op) → Piece D s pc os e → pieces.AreOwn k.Own pc (length os) → ((table : ℕ → k.St) → k.Needs table (pc + length os) e o) → Part k.Needs (k.Fit s) D pc (os ++ o ∷ [])
  ends D s e pc os o p own last = record {
    states = p.states ++ e ∷ [];
    many = let n = p.many in omega (arith, n, length-append os (o ∷ []), length-append p.states (e ∷ []));
    begins = λ table a. enters D s pc os e p table (agrees_left table pc p.states (e ∷ []) a) (at_end table a);
    runs = λ table d a.
        levels_both table pc os (o ∷ []) (p.runs table d own (agrees_left table pc p.states (e ∷ []) a) (at_end table a))
        (subst (λ x. k.Needs table (pc + length os) x o) (sym (agrees_right table pc p.states (e ∷ []) (length os) p.many a).0) (last table), tt);
  }
    where
      at_end : (table : ℕ → k.St) → Agrees table pc (p.states ++ e ∷ []) → k.Fit e (table (pc + length os))
      at_end table a = subst (k.Fit e) (sym (agrees_right table pc p.states (e ∷ []) (length os) p.many a).0) (k.same e)

  pub wider : (D : (ℕ → k.St) → Type 0) (s0 s : k.St) (pc : ℕ) (os : List Op) (e : k.St) → k.Fit s0 s → Piece D s pc os e → Piece D s0 pc os e
  wider D s0 s pc os e h p = record { states = p.states; many = p.many; begins = k.through s0 s (first p.states e) h p.begins; runs = p.runs }

  pub wider_end : (D : (ℕ → k.St) → Type 0) (s : k.St) (pc : ℕ) (os : List Op) (e e2 : k.St) → k.Fit e e2 → Piece D s pc os e → Piece D s pc os e2
  wider_end D s pc os e e2 h p = record {
    states = p.states;
    many = p.many;
    begins = by p.states p.begins;
    runs = λ table d own a end. p.runs table d own a (k.through e e2 (table (pc + length os)) h end);
  }
    where
      by : (list : List k.St) → k.Fit s (first list e) → k.Fit s (first list e2)
      by [] b = k.through s e e2 b h
      by (x ∷ rest) b = b

  pub known : (D E : (ℕ → k.St) → Type 0) (s : k.St) (pc : ℕ) (os : List Op) (e : k.St) → ((table : ℕ → k.St) → E table → D table) → Piece D s pc os e → Piece E s pc os e
  known D E s pc os e f p = record { states = p.states; many = p.many; begins = p.begins; runs = λ table d own a end. p.runs table (f table d) own a end }

  pub moved : (D : (ℕ → k.St) → Type 0) (s : k.St) (p q : ℕ) (os : List Op) (e : k.St) → p ≡ q → Piece D s p os e → Piece D s q os e
  moved D s p q os e h x = subst (λ n. Piece D s n os e) h x

  pub nothing : (D : (ℕ → k.St) → Type 0) (s : k.St) (pc : ℕ) (e : k.St) → k.Fit s e → Piece D s pc [] e
  nothing D s pc e h = record { states = []; many = refl; begins = h; runs = λ table d own a end. tt }

  unfoldable pub joins : (D : (ℕ → k.St) → Type 0) (s m e : k.St) (pc : ℕ) (xs ys : List Op) → Piece D s pc xs m → Piece D m (pc + length xs) ys e → Piece D s pc (xs ++ ys) e
  joins D s m e pc xs ys p q = record {
    states = p.states ++ q.states;
    many = let a = p.many in let b = q.many in omega (arith, a, b, length-append p.states q.states, length-append xs ys);
    begins = by p.states p.begins;
    runs = λ table d own a end.
        let right = agrees_right table pc p.states q.states (length xs) p.many a in
        let last : pc + length (xs ++ ys) ≡ pc + length xs + length ys = omega (arith, length-append xs ys) in
        let there : k.Fit e (table (pc + length xs + length ys)) = subst (λ n. k.Fit e (table n)) last end in
        levels_both table pc xs ys
        (p.runs table d (λ n low high. own n low (omega (arith, low, high, length-append xs ys))) (agrees_left table pc p.states q.states a) (enters D m (pc + length xs) ys e q table right there))
        (q.runs table d (λ n low high. own n (omega (arith, low)) (omega (arith, high, length-append xs ys))) right there);
  }
    where
      by : (list : List k.St) → k.Fit s (first list m) → k.Fit s (first (list ++ q.states) e)
      by [] b = k.through s m (first q.states e) b q.begins
      by (x ∷ rest) b = b

  -- one line
  pub line : (D : (ℕ → k.St) → Type 0) (s : k.St) (pc : ℕ) (o : Op) (e : k.St) → ((table : ℕ → k.St) → D table → k.Own (pc + 1) → k.Fit e (table (pc + 1)) → k.Needs table pc s o) → Piece D s pc (o ∷ []) e
  line D s pc o e l = record {
    states = s ∷ [];
    many = refl;
    begins = k.same s;
    runs = λ table d own a end. (subst (λ x. k.Needs table pc x o) (sym a.0) (l table d (own (pc + 1) (omega arith) (omega arith)) end), tt);
  }

  -- that leads to the next, where this is known
  pub step : (D : (ℕ → k.St) → Type 0) (s : k.St) (pc : ℕ) (o : Op) (t e : k.St) → k.Fit t e → ((table : ℕ → k.St) → Leads table t (pc + 1) → k.Needs table pc s o) → Piece D s pc (o ∷ []) e
  step D s pc o t e h l = line D s pc o e (λ table d own end. l table (own, k.through t e (table (pc + 1)) h end))

  -- a loop: what decides, the body, and what leads back
  pub record Inner (D : (ℕ → k.St) → Type 0) (n : k.St) (pc : ℕ) (T B S : List Op) : Type 0 where
    pub piece : Piece D n pc (T ++ (B ++ S)) n
    pub step_at : (table : ℕ → k.St) → Agrees table pc piece.states → k.Fit n (table (pc + length (T ++ (B ++ S)))) → k.Fit n (table (pc + (length T + length B)))

  -- over a piece, or into it
  pub over : (D : (ℕ → k.St) → Type 0) (s m e : k.St) (pc i : ℕ) (xs ys : List Op) → k.Plain s → k.Far s m → Piece D s (pc + 1) xs m → Piece D m (pc + 1 + length xs) ys e → Piece D s pc (Op.SkipIfZero i (length xs) ∷ (xs ++ ys)) e
  unfolding joins
  over D s m e pc i xs ys plain h p q =
      let j = joins D s m e (pc + 1) xs ys p q in
      record {
        states = s ∷ j.states;
        many = let n = j.many in omega (arith, n);
        begins = k.same s;
        runs = λ table d own a end.
            let last : pc + length (Op.SkipIfZero i (length xs) ∷ (xs ++ ys)) ≡ pc + 1 + length (xs ++ ys) = omega arith in
            let there : k.Fit e (table (pc + 1 + length (xs ++ ys))) = subst (λ n. k.Fit e (table n)) last end in
            let last2 : pc + 1 + length (xs ++ ys) ≡ pc + 1 + length xs + length ys = omega (arith, length-append xs ys) in
            let there2 : k.Fit e (table (pc + 1 + length xs + length ys)) = subst (λ n. k.Fit e (table n)) last2 there in
            let right = agrees_right table (pc + 1) p.states q.states (length xs) p.many a.1 in
            let o1 = own (pc + 1 + length xs) (omega arith) (omega (arith, length-append xs ys)) in
            let o2 = own (pc + 1) (omega arith) (omega arith) in (
              subst (λ x. k.Needs table pc x (Op.SkipIfZero i (length xs))) (sym a.0)
                  (k.on_zero table pc s i (length xs) plain (o1, k.far_through s m (table (pc + 1 + length xs)) h (enters D m (pc + 1 + length xs) ys e q table right there2)) (o2, enters D s (pc + 1) (xs ++ ys) e j table a.1 there)),
              j.runs table d (λ n low high. own n (omega (arith, low)) (omega (arith, high))) a.1 there,
            );
      }

  -- over one line where a register holds NULL
  pub over_null : (D : (ℕ → k.St) → Type 0) (s m e : k.St) (pc r : ℕ) (o : Op) → k.PlainNull s r → k.Fit (k.noted s r) m → k.Fit (k.cleared s r) e → Piece D m (pc + 1) (o ∷ []) e → Piece D s pc (Op.SkipIfNull r 1 ∷ o ∷ []) e
  over_null D s m e pc r o plain h g q = record {
    states = s ∷ q.states;
    many = let n = q.many in omega (arith, n);
    begins = k.same s;
    runs = λ table d own a end.
        let last : pc + 2 ≡ pc + 1 + 1 = omega arith in
        let there : k.Fit e (table (pc + 1 + 1)) = subst (λ n. k.Fit e (table n)) last end in
        let o1 = own (pc + 1 + 1) (omega arith) (omega arith) in
        let o2 = own (pc + 1) (omega arith) (omega arith) in (
          subst (λ x. k.Needs table pc x (Op.SkipIfNull r 1)) (sym a.0)
              (k.on_null table pc s r 1 plain (o1, k.through (k.cleared s r) e (table (pc + 1 + 1)) g there) (o2, k.through (k.noted s r) m (table (pc + 1)) h (enters D m (pc + 1) (o ∷ []) e q table a.1 there))),
          q.runs table d (λ n low high. own n (omega (arith, low)) (omega (arith, high))) a.1 there,
        );
  }

  module _ (D : (ℕ → k.St) → Type 0) where
    abbrev Q : k.St → ℕ → List Op → k.St → Type 0
    Q = Piece D

    -- a piece after another begins as it is said to
    pub between : (s m e : k.St) (pc : ℕ) (xs ys : List Op) (p : Q s pc xs m) (q : Q m (pc + length xs) ys e) (table : ℕ → k.St) → Agrees table pc (p.states ++ q.states) → k.Fit e (table (pc + length (xs ++ ys))) → k.Fit m (table (pc + length xs))
    between s m e pc xs ys p q table a end =
        enters D m (pc + length xs) ys e q table (agrees_right table pc p.states q.states (length xs) p.many a) (there table e (pc + length (xs ++ ys)) (pc + length xs + length ys) (omega (arith, length-append xs ys)) end)

    -- ---- a test, and what it leads over
    abbrev tested : List Op → ℕ → ℕ → List Op
    tested xs i over = xs ++ Op.SkipIfZero i over ∷ []

    test_many : (xs : List Op) (i over : ℕ) → length (tested xs i over) ≡ length xs + 1
    test_many xs i over = length-append xs (Op.SkipIfZero i over ∷ [])

    abbrev tested_states : List k.St → k.St → List k.St → List k.St
    tested_states a s b = (a ++ s ∷ []) ++ b

    states_many : (a : List k.St) (s : k.St) → length (a ++ s ∷ []) ≡ length a + 1
    states_many a s = length-append a (s ∷ [])

    first_tested : (a : List k.St) (s0 s e : k.St) (b : List k.St) → k.Fit s0 (first a s) → k.Fit s0 (first (tested_states a s b) e)
    first_tested [] s0 s e b h = h
    first_tested (x ∷ rest) s0 s e b h = h

    -- at the lines of the test, and after them
    record Halves (table : ℕ → k.St) (pc : ℕ) (xs : List Op) (a : List k.St) (s : k.St) (b : List k.St) : Type 0 where
      test : Agrees table pc a
      last : table (pc + length xs) ≡ s
      rest : Agrees table (pc + length xs + 1) b

    halves : (table : ℕ → k.St) (pc : ℕ) (xs : List Op) (a : List k.St) (s : k.St) (b : List k.St) → length a ≡ length xs → Agrees table pc (tested_states a s b) → Halves table pc xs a s b
    halves table pc xs a s b n h =
        let left = agrees_left table pc (a ++ s ∷ []) b h in
        let z : pc + (length xs + 1) ≡ pc + length xs + 1 = omega arith in
        record {
          test = agrees_left table pc a (s ∷ []) left;
          last = (agrees_right table pc a (s ∷ []) (length xs) n left).0;
          rest = subst (λ q. Agrees table q b) z (agrees_right table pc (a ++ s ∷ []) b (length xs + 1) (states_many a s ∙ ap (λ m. m + 1) n) h);
        }

    -- the lines of a test that leads over this many, to a place where registers hold what these hold
    test_levels : (s : k.St) (pc i over : ℕ) (xs ys : List Op) → k.Plain s → (p : Q s pc xs s) (table : ℕ → k.St) → D table → pieces.AreOwn k.Own pc (length (tested xs i over ++ ys)) → Agrees table pc p.states → table (pc + length xs) ≡ s → over ≤ length ys
        → k.Fit s (table (pc + length xs + 1 + over)) → k.Fit s (table (pc + length xs + 1)) → Levels table (pc + length xs + 1) ys → Levels table pc (tested xs i over ++ ys)
    test_levels s pc i over xs ys plain p table d own a last le far next rest =
        let n1 = test_many xs i over in
        let n2 = length-append (tested xs i over) ys in
        let o1 = own (pc + length xs + 1 + over) (omega arith) (omega (arith, n1, n2, le)) in
        let o2 = own (pc + length xs + 1) (omega arith) (omega (arith, n1, n2)) in
        levels_both table pc (tested xs i over) ys
        (levels_both table pc xs (Op.SkipIfZero i over ∷ [])
        (p.runs table d (λ q low high. own q low (omega (arith, high, n1, n2))) a (subst (k.Fit s) (sym last) (k.same s)))
        (subst (λ x. k.Needs table (pc + length xs) x (Op.SkipIfZero i over)) (sym last) (k.on_zero table (pc + length xs) s i over plain (o1, k.far s (table (pc + length xs + 1 + over)) far) (o2, next)), tt))
        (levels_at table (pc + length xs + 1) (pc + length (tested xs i over)) ys (omega (arith, n1)) rest)

    -- where it is met, this is done
    pub turned : (s e : k.St) (pc i : ℕ) (xs ys : List Op) → k.Plain s → k.Fit s e → Q s pc xs s → Q s (pc + length xs + 1) ys e → Q s pc (tested xs i (length ys) ++ ys) e
    turned s e pc i xs ys plain h p q = record {
      states = tested_states p.states s q.states;
      many =
          let a = p.many in
          let b = q.many in
          omega (arith, a, b, length-append (p.states ++ s ∷ []) q.states, states_many p.states s, length-append (tested xs i (length ys)) ys, test_many xs i (length ys));
      begins = first_tested p.states s s e q.states p.begins;
      runs = λ table d own a end.
          let n1 = test_many xs i (length ys) in
          let n2 = length-append (tested xs i (length ys)) ys in
          let w = halves table pc xs p.states s q.states p.many a in
          let end2 = there table e (pc + length (tested xs i (length ys) ++ ys)) (pc + length xs + 1 + length ys) (omega (arith, n1, n2)) end in
          test_levels s pc i (length ys) xs ys plain p table d own w.test w.last (omega arith) (k.through s e (table (pc + length xs + 1 + length ys)) h end2) (enters D s (pc + length xs + 1) ys e q table w.rest end2)
          (q.runs table d (λ n low high. own n (omega (arith, low)) (omega (arith, high, n1, n2))) w.rest end2);
    }

    -- where it is met the one side is done, else the other
    pub sides : (s m e : k.St) (pc i : ℕ) (xs ys zs : List Op) → k.Plain s → k.Plain m → k.Fit m e → Q s pc xs s → Q s (pc + length xs + 1) ys m → Q s (pc + length xs + 1 + length ys + 1) zs e → Q s pc (tested xs i (length ys + 1) ++ (ys ++ (Op.Skip (length zs) ∷ zs))) e
    sides s m e pc i xs ys zs plain plain2 h p q z = record {
      states = tested_states p.states s (q.states ++ m ∷ z.states);
      many =
          let a = p.many in
          let b = q.many in
          let d = z.many in
          let n4 = length-append q.states (m ∷ z.states) in
          let n5 = length-append ys (Op.Skip (length zs) ∷ zs) in
          omega (arith, a, b, d, length-append (p.states ++ s ∷ []) (q.states ++ m ∷ z.states), states_many p.states s, length-append (tested xs i (length ys + 1)) (ys ++ (Op.Skip (length zs) ∷ zs)), test_many xs i (length ys + 1), n4, n5);
      begins = first_tested p.states s s e (q.states ++ m ∷ z.states) p.begins;
      runs = λ table d own a end.
          let T = tested xs i (length ys + 1) in
          let Y = ys ++ (Op.Skip (length zs) ∷ zs) in
          let n1 = test_many xs i (length ys + 1) in
          let n2 = length-append T Y in
          let n3 = length-append ys (Op.Skip (length zs) ∷ zs) in
          let pc1 = pc + length xs + 1 in
          let w = halves table pc xs p.states s (q.states ++ m ∷ z.states) p.many a in
          let right = agrees_right table pc1 q.states (m ∷ z.states) (length ys) q.many w.rest in
          let end2 = there table e (pc + length (T ++ Y)) (pc1 + length ys + 1 + length zs) (omega (arith, n1, n2, n3)) end in
          let o1 = own (pc1 + length ys + 1 + length zs) (omega arith) (omega (arith, n1, n2, n3)) in
          let begin : k.Fit s (table (pc1 + (length ys + 1))) = there table s (pc1 + length ys + 1) (pc1 + (length ys + 1)) (omega arith) (enters D s (pc1 + length ys + 1) zs e z table right.1 end2) in
          let middle : k.Fit m (table (pc1 + length ys)) = subst (k.Fit m) (sym right.0) (k.same m) in
          test_levels s pc i (length ys + 1) xs Y plain p table d own w.test w.last (omega (arith, n3)) begin (enters D s pc1 ys m q table (agrees_left table pc1 q.states (m ∷ z.states) w.rest) middle)
          (levels_both table pc1 ys (Op.Skip (length zs) ∷ zs)
          (q.runs table d (λ n low high. own n (omega (arith, low)) (omega (arith, high, n1, n2, n3))) (agrees_left table pc1 q.states (m ∷ z.states) w.rest) middle) (
            subst (λ x. k.Needs table (pc1 + length ys) x (Op.Skip (length zs))) (sym right.0) (k.on_skip table (pc1 + length ys) m (length zs) plain2 (o1, k.through m e (table (pc1 + length ys + 1 + length zs)) h end2)),
            z.runs table d (λ n low high. own n (omega (arith, low)) (omega (arith, high, n1, n2, n3))) right.1 end2,
          ));
    }

    -- ---- a loop

    pub always : (n : k.St) (pc : ℕ) (B S : List Op) → Q n pc B n → Q n (pc + length B) S n → Inner D n pc [] B S
    unfolding joins
    always n pc B S p q = record {
      piece = joins D n n n pc B S p q;
      step_at = λ table a end. let z : pc + length B ≡ pc + (0 + length B) = omega arith in there table n (pc + length B) (pc + (0 + length B)) z (between n n n pc B S p q table a end);
    }

    pub decided : (n : k.St) (pc i : ℕ) (xs B S : List Op) → k.Plain n → Q n pc xs n → Q n (pc + length xs + 1) B n → Q n (pc + length xs + 1 + length B) S n → Inner D n pc (tested xs i (length (B ++ S))) B S
    unfolding joins turned
    decided n pc i xs B S plain t p q = record {
      piece = turned n n pc i xs (B ++ S) plain (k.same n) t (joins D n n n (pc + length xs + 1) B S p q);
      step_at = λ table a end.
          let T = tested xs i (length (B ++ S)) in
          let n1 = test_many xs i (length (B ++ S)) in
          let n2 = length-append T (B ++ S) in
          let w = halves table pc xs t.states n (p.states ++ q.states) t.many a in
          there table n (pc + length xs + 1 + length B) (pc + (length T + length B)) (omega (arith, n1))
          (between n n n (pc + length xs + 1) B S p q table w.rest (there table n (pc + length (T ++ (B ++ S))) (pc + length xs + 1 + length (B ++ S)) (omega (arith, n1, n2)) end));
    }

  -- The loop at this place. Of its code is known what is known around it, and that its second and third line and what decides may be led to.
  pub looped : (D E : (ℕ → k.St) → Type 0) (n : k.St) (pc : ℕ) (T B S : List Op) (out : ℕ) → k.Plain n
      → ((table : ℕ → k.St) → D table → Leads table n (pc + 1) → Leads table n (pc + 2) → Leads table n (pc + 3) → E table) → out ≡ length T + length B + length S + 1 → Inner E n (pc + 3) T B S
      → Piece D n pc (Op.Skip 2 ∷ Op.Skip out ∷ Op.Skip (length T + length B) ∷ (T ++ (B ++ S))) n
  looped D E n pc T B S out plain into count x =
      let R = T ++ (B ++ S) in
      let p = x.piece in
      record {
        states = n ∷ n ∷ n ∷ p.states;
        many = let m = p.many in omega (arith, m);
        begins = k.same n;
        runs = λ table d own a end.
            let n1 = length-append T (B ++ S) in
            let n2 = length-append B S in
            let at2 : pc + 1 + 1 ≡ pc + 2 = omega arith in
            let at3 : pc + 1 + 1 + 1 ≡ pc + 3 = omega arith in
            let agrees : Agrees table (pc + 3) p.states = subst (λ q. Agrees table q p.states) at3 a.1.1.1 in
            let end3 : k.Fit n (table (pc + 3 + length R)) = there table n (pc + length (Op.Skip 2 ∷ Op.Skip out ∷ Op.Skip (length T + length B) ∷ R)) (pc + 3 + length R) (omega arith) end in
            let from : (q : ℕ) → pc ≤ q → q ≤ pc + 3 + length R → k.Fit n (table q) → Leads table n q = λ q low high fits. (own q low (omega (arith, high)), fits) in
            let begin : k.Fit n (table (pc + 3)) = enters E n (pc + 3) R n p table agrees end3 in
            let e1 = from (pc + 1) (omega arith) (omega arith) (subst (k.Fit n) (sym a.1.0) (k.same n)) in
            let e2 = from (pc + 2) (omega arith) (omega arith) (there table n (pc + 1 + 1) (pc + 2) at2 (subst (k.Fit n) (sym a.1.1.0) (k.same n))) in
            let e3 = from (pc + 3) (omega arith) (omega arith) begin in
            let far : k.Fit n (table (pc + 1 + 1 + out)) = there table n (pc + 3 + length R) (pc + 1 + 1 + out) (omega (arith, n1, n2, count)) end3 in
            let steps : k.Fit n (table (pc + 1 + 1 + 1 + (length T + length B))) = there table n (pc + 3 + (length T + length B)) (pc + 1 + 1 + 1 + (length T + length B)) (omega arith) (x.step_at table agrees end3) in (
              subst (λ y. k.Needs table pc y (Op.Skip 2)) (sym a.0) (k.on_skip table pc n 2 plain (from (pc + 1 + 2) (omega arith) (omega arith) (there table n (pc + 3) (pc + 1 + 2) (omega arith) begin))),
              (
                subst (λ y. k.Needs table (pc + 1) y (Op.Skip out)) (sym a.1.0) (k.on_skip table (pc + 1) n out plain (from (pc + 1 + 1 + out) (omega arith) (omega (arith, n1, n2, count)) far)),
                (
                  subst (λ y. k.Needs table (pc + 1 + 1) y (Op.Skip (length T + length B))) (sym a.1.1.0) (k.on_skip table (pc + 1 + 1) n (length T + length B) plain (from (pc + 1 + 1 + 1 + (length T + length B)) (omega arith) (omega (arith, n1, n2)) steps)),
                  levels_at table (pc + 3) (pc + 1 + 1 + 1) R (sym at3) (p.runs table (into table d e1 e2 e3) (λ q low high. own q (omega (arith, low)) (omega (arith, high))) agrees end3),
                ),
              ),
            );
      }
