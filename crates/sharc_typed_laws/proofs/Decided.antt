-- Choices and loops at a line.
use Rattle.sharc_typed_laws.proofs.{Imports.{◌≡◌, ℕ, ◌+◌, Bool, List, [], ◌∷◌, ◌++◌, length, Some, subst, arith, length-append, Op, body_at, Label, IsScoped, ints_in, refs_in, Mark, Setting, Way, Stretch, AreOpen, LeadsFrom, RegistersStand, mark, turn_by, loop_ways, DecisionsAreTyped, IfLeads, ChoiceLeads, JoinLeads, LoopLeads, EverLeads}, Rules.{Plain, on_jump}, Parts.within_right, Closing.within_left, Fitting.fits_same, Marked.marked}
use Rattle.sharc_flat_lemmas.proofs.Flow as flow

module _ (z : Setting) (f : ℕ) (named : ℕ → Bool) (from i r : ℕ) (l : Label) (stands : RegistersStand named i r l) (owned : l.function ≡ Some f) where
  abbrev here : Mark
  here = mark l from i

  abbrev fi : ℕ
  fi = ints_in z.code (Some f)

  abbrev fr : ℕ
  fr = refs_in z.code (Some f)

  abbrev Q : List Way → ℕ → Mark → List Op → Mark → Type 0
  Q ways = LeadsFrom z f ways

  plain : IsScoped fi fr l → Plain z f here
  plain h = record { owned = owned; scoped = h; closed = stands.closed }

  join : (ways : List Way) → JoinLeads z f ways named from i r l
  join ways pc s m e xs ys p q = λ w h.
      let a = p (within_left fi fr xs ys w) h in
      let b = q (within_right fi fr xs ys w) a.scoped in
      record { stretch = flow.joins (marked z f) (AreOpen z ways) s m e pc xs ys a.stretch b.stretch; scoped = b.scoped }

  moved : (ways : List Way) (p q : ℕ) (os : List Op) → p ≡ q → Stretch z f (AreOpen z ways) here p os here → Stretch z f (AreOpen z ways) here q os here
  moved ways p q os e x = flow.moved (marked z f) (AreOpen z ways) here p q os here e x

  turn_many : (test : List Op) (over : ℕ) → length (turn_by test i over) ≡ length test + 1
  turn_many test over = length-append test (Op.SkipIfZero i over ∷ [])

  if_then : (ways : List Way) → IfLeads z f ways named from i r l
  if_then ways pc test body p q = λ w h.
      let at = pc + length (turn_by test i 0) in
      let ys = body at in
      let t = turn_by test i (length ys) in
      let a = p (within_left fi fr test (Op.SkipIfZero i (length ys) ∷ []) (within_left fi fr t ys w)) h in
      let b = q (within_right fi fr t ys w) h in
      let n = turn_many test 0 in
      record { stretch = flow.turned (marked z f) (AreOpen z ways) here here pc i test ys (plain h) (fits_same z.targets here) a.stretch (moved ways at (pc + length test + 1) ys (omega (arith, n)) b.stretch); scoped = h }

  choice : (ways : List Way) → ChoiceLeads z f ways named from i r l
  choice ways pc test first second p q s = λ w h.
      let at = pc + length (turn_by test i 0) in
      let ys = first at in
      let at2 = at + length ys + 1 in
      let zs = second at2 in
      let t = turn_by test i (length ys + 1) in
      let a = p (within_left fi fr test (Op.SkipIfZero i (length ys + 1) ∷ []) (within_left fi fr t (ys ++ (Op.Skip (length zs) ∷ zs)) w)) h in
      let rest = within_right fi fr t (ys ++ (Op.Skip (length zs) ∷ zs)) w in
      let b = q (within_left fi fr ys (Op.Skip (length zs) ∷ zs) rest) h in
      let d = s (within_right fi fr ys (Op.Skip (length zs) ∷ zs) rest).1 h in
      let n = turn_many test 0 in
      record {
        stretch = flow.sides (marked z f) (AreOpen z ways) here here here pc i test ys zs (plain h) (plain h) (fits_same z.targets here) a.stretch (moved ways at (pc + length test + 1) ys (omega (arith, n)) b.stretch) (moved ways at2 (pc + length test + 1 + length ys + 1) zs (omega (arith, n)) d.stretch);
        scoped = h;
      }

  -- the step, and back
  back : (ways : List Way) (pc at : ℕ) (step : List Op) → IsScoped fi fr l → Stretch z f (AreOpen z (loop_ways pc here ways)) here at step here → Stretch z f (AreOpen z (loop_ways pc here ways)) here at (step ++ Op.Jump (pc + 3) ∷ []) here
  back ways pc at step h p =
      let D = AreOpen z (loop_ways pc here ways) in
      flow.joins (marked z f) D here here here at step (Op.Jump (pc + 3) ∷ []) p
      (flow.line (marked z f) D here (at + length step) (Op.Jump (pc + 3)) here (λ table d own end. on_jump z f table (at + length step) here (pc + 3) (plain h) d.1.1.0))

  looped : (ways : List Way) (pc : ℕ) (turn body step : List Op) → IsScoped fi fr l → flow.Inner (marked z f) (AreOpen z (loop_ways pc here ways)) here (pc + 3) turn body (step ++ Op.Jump (pc + 3) ∷ [])
      → Stretch z f (AreOpen z ways) here pc (Op.Skip 2 ∷ Op.Skip (length turn + length body + length step + 2) ∷ Op.Skip (length turn + length body) ∷ (turn ++ (body ++ (step ++ Op.Jump (pc + 3) ∷ [])))) here
  looped ways pc turn body step h x =
      let n = length-append step (Op.Jump (pc + 3) ∷ []) in
      flow.looped (marked z f) (AreOpen z ways) (AreOpen z (loop_ways pc here ways)) here pc turn body (step ++ Op.Jump (pc + 3) ∷ []) (length turn + length body + length step + 2) (plain h) (λ table d a b e. (a, (b, (e, d)))) (omega (arith, n)) x

  loop : (ways : List Way) → LoopLeads z f ways named from i r l
  loop ways pc test step body p q s = λ w h.
      let D = AreOpen z (loop_ways pc here ways) in
      let at = body_at pc (turn_by test i) in
      let ys = body at in
      let over = length ys + length step + 1 in
      let S = step ++ Op.Jump (pc + 3) ∷ [] in
      let t = turn_by test i over in
      let rest = within_right fi fr t (ys ++ S) w.1.1.1 in
      let a = p (within_left fi fr test (Op.SkipIfZero i over ∷ []) (within_left fi fr t (ys ++ S) w.1.1.1)) h in
      let b = q (within_left fi fr ys S rest) h in
      let d = s (within_left fi fr step (Op.Jump (pc + 3) ∷ []) (within_right fi fr ys S rest)) h in
      let n = turn_many test 0 in
      let m : length (ys ++ S) ≡ over = omega (arith, length-append ys S, length-append step (Op.Jump (pc + 3) ∷ [])) in
      let e1 : at ≡ pc + 3 + length test + 1 = omega (arith, n) in
      let e2 : at + length ys ≡ pc + 3 + length test + 1 + length ys = omega (arith, n) in
      let inner = flow.decided (marked z f) D here (pc + 3) i test ys S (plain h) a.stretch (moved (loop_ways pc here ways) at (pc + 3 + length test + 1) ys e1 b.stretch) (moved (loop_ways pc here ways) (at + length ys) (pc + 3 + length test + 1 + length ys) S e2 (back ways pc (at + length ys) step h d.stretch)) in
      record { stretch = looped ways pc t ys step h (subst (λ k. flow.Inner (marked z f) D here (pc + 3) (turn_by test i k) ys S) m inner); scoped = h }

  ever : (ways : List Way) → EverLeads z f ways named from i r l
  ever ways pc step body q s = λ w h.
      let D = AreOpen z (loop_ways pc here ways) in
      let at = body_at pc (λ over. []) in
      let ys = body at in
      let S = step ++ Op.Jump (pc + 3) ∷ [] in
      let b = q (within_left fi fr ys S w.1.1.1) h in
      let d = s (within_left fi fr step (Op.Jump (pc + 3) ∷ []) (within_right fi fr ys S w.1.1.1)) h in
      let e1 : at ≡ pc + 3 = omega arith in
      let e2 : at + length ys ≡ pc + 3 + length ys = omega arith in
      let inner = flow.always (marked z f) D here (pc + 3) ys S (moved (loop_ways pc here ways) at (pc + 3) ys e1 b.stretch) (moved (loop_ways pc here ways) (at + length ys) (pc + 3 + length ys) S e2 (back ways pc (at + length ys) step h d.stretch)) in
      record { stretch = looped ways pc [] ys step h inner; scoped = h }

pub decisions_typed : DecisionsAreTyped
decisions_typed z f ways named from i r l stands owned = record {
  join = join z f named from i r l stands owned ways;
  if_then = if_then z f named from i r l stands owned ways;
  choice = choice z f named from i r l stands owned ways;
  loop = loop z f named from i r l stands owned ways;
  ever = ever z f named from i r l stands owned ways;
}
