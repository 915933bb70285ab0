-- Code after which nothing is asked: it ends with a line that is typed whatever is said after it.
use Rattle.sharc_typed_laws.proofs.{Imports.{◌≡◌, ℕ, ◌+◌, List, [], ◌∷◌, ◌++◌, length, Some, sym, subst, arith, length-append, Op, IsScoped, ints_in, refs_in, Mark, Setting, Fits, IsLine, first, AreWithin, Way, AreOpen, LeadsFrom, FunctionLines, agrees_left, agrees_right}, Fitting.fits_same, Marked.marked}
use Rattle.sharc_flat_lemmas.proofs.Flow as flow

-- ---- lists of lines
pub within_left : (ints refs : ℕ) (xs ys : List Op) → AreWithin ints refs (xs ++ ys) → AreWithin ints refs xs
within_left ints refs [] ys h = tt
within_left ints refs (x ∷ xs) ys h = (h.0, within_left ints refs xs ys h.1)

module _ (z : Setting) (f : ℕ) where
  abbrev fi : ℕ
  fi = ints_in z.code (Some f)

  abbrev fr : ℕ
  fr = refs_in z.code (Some f)

  -- a line that is typed in every table
  abbrev pub Anyhow : Mark → Op → Type 0
  Anyhow m o = IsScoped fi fr m.label → (table : ℕ → Mark) (pc : ℕ) → IsLine z f table pc m o

  -- it leads to anything that is scoped
  pub last_line : (ways : List Way) (pc : ℕ) (m e : Mark) (o : Op) → Anyhow m o → IsScoped fi fr e.label → LeadsFrom z f ways pc m (o ∷ []) e
  last_line ways pc m e o line h = λ w s. record {
    stretch = flow.line (marked z f) (AreOpen z ways) m pc o e (λ table d own end. line s table pc);
    scoped = h;
  }

  -- at the end of a function it leads nowhere
  pub closes : (pc : ℕ) (s m : Mark) (os : List Op) (o : Op) → AreWithin fi fr (os ++ o ∷ []) → IsScoped fi fr s.label → LeadsFrom z f [] pc s os m → Anyhow m o → FunctionLines z f pc s (os ++ o ∷ [])
  closes pc s m os o w h p line =
      let a = p (within_left fi fr os (o ∷ []) w) h in
      let q = a.stretch in
      let long = q.many in
      record {
        marks = q.states ++ m ∷ [];
        many = omega (arith, long, length-append q.states (m ∷ []), length-append os (o ∷ []));
        begins = by q.states q.begins;
        runs = λ table own agrees.
            let is : table (pc + length os) ≡ m = (agrees_right table pc q.states (m ∷ []) (length os) long agrees).0 in
            flow.levels_both (marked z f) table pc os (o ∷ [])
            (q.runs table tt (λ n low high. omega (arith, own, high, length-append os (o ∷ []))) (agrees_left table pc q.states (m ∷ []) agrees) (subst (Fits z.targets m) (sym is) (fits_same z.targets m)))
            (subst (λ x. IsLine z f table (pc + length os) x o) (sym is) (line a.scoped table (pc + length os)), tt);
      }
    where
      by : (list : List Mark) → Fits z.targets s (first list m) → Fits z.targets s (first (list ++ m ∷ []) s)
      by [] b = b
      by (x ∷ rest) b = b
