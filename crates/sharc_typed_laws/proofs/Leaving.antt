-- How blocks are left.
use Rattle.sharc_typed_laws.proofs.{Imports.{◌≡◌, ℕ, ◌+◌, ◌≤◌, List, [], ◌∷◌, ◌++◌, length, drop, Some, subst, ⊎_elim, Op, Context, int_count, ref_count, ends_from, leaves, Label, IsScoped, ints_in, refs_in, Mark, Setting, Way, Fits, IsLine, AreOpen, LeadsAmong, AreLow, Typing, StandsBefore, before, back, AreNested, LeavesAreTyped, IsOpen, JumpsAreTyped}, Fitting.fits_same, Ending.ends_typed, Rules.on_jump, Parts.{then_do, none}, Closing.within_left, Marked.marked}
use Rattle.sharc_flat_lemmas.proofs.Flow as flow

module _ (z : Setting) (f : ℕ) (ways : List Way) where
  abbrev fi : ℕ
  fi = ints_in z.code (Some f)

  abbrev fr : ℕ
  fr = refs_in z.code (Some f)

  abbrev Q : Mark → List Op → Mark → Type 0
  Q = LeadsAmong z f ways

  -- the last line leads elsewhere
  last : (s m : Mark) (os : List Op) (o : Op) → Q s os m → ((table : ℕ → Mark) (pc : ℕ) → IsScoped fi fr m.label → AreOpen z ways table → IsLine z f table pc m o) → Q s (os ++ o ∷ []) s
  last s m os o p line = λ w h.
      let a = p (within_left fi fr os (o ∷ []) w) h in
      record { stretch = λ pc. flow.joins (marked z f) (AreOpen z ways) s m s pc os (o ∷ []) (a.stretch pc) (flow.line (marked z f) (AreOpen z ways) m (pc + length os) o s (λ table opens own end. line table (pc + length os) a.scoped opens)); scoped = h }

  way_at : (list : List Way) (table : ℕ → Mark) (q : ℕ) (m : Mark) → AreOpen z list table → IsOpen list q m → (q ≤ z.lines) × Fits z.targets m (table q)
  way_at [] table q m opens h = absurd h
  way_at (way ∷ rest) table q m opens h = ⊎_elim
      (λ (w : (way.line ≡ q) × (way.mark ≡ m)). subst (λ n. (n ≤ z.lines) × Fits z.targets m (table n)) w.0 (subst (λ k. (way.line ≤ z.lines) × Fits z.targets k (table way.line)) w.1 opens.0))
      (λ (w : IsOpen rest q m). way_at rest table q m opens.1 w) h

  -- ---- blocks that end one after the other
  leave : (y : Typing) (d : Context) (k : Label) (inside : List ℕ) (c : Context) (l : Label) → AreLow (y.named c) (ref_count c.scope) → StandsBefore y c f l → AreNested y f c l inside d k → Q (before c l) (leaves c.scope inside) (before d k)
  leave y d k [] c l low here h =
      subst (λ e. Q (before c l) [] (before e k)) h.0 (subst (λ b. Q (before c l) [] (before c b)) h.1 (none z f (AreOpen z ways) (y.named c) (ref_count c.scope) low (int_count c.scope) (before c l) (before c l) (fits_same z.targets (before c l)) (λ h. h)))
  leave y d k (n ∷ outer) c l low here h =
      let b = back c n in
      then_do z f (AreOpen z ways) (y.named c) (ref_count c.scope) low (int_count c.scope) (before c l) (before b h.0) (before d k) (ends_from c.scope n) (leaves b.scope outer)
      (ends_typed z f ways y b c (drop n c.scope) h.3 h.2 h.0 l h.1 here)
      (leave y d k outer b h.0 h.3 h.1 h.4)

pub leaves_typed : LeavesAreTyped
leaves_typed z f ways y c d l k low here inside h = leave z f ways y d k inside c l low here h

pub jumps_typed : JumpsAreTyped
jumps_typed z f ways y c l here q opens s os p = last z f ways s (before c l) os (Op.Jump q) p
    (λ table pc h known. on_jump z f table pc (before c l) q (record { owned = here.stands.owned; scoped = h; closed = here.stands.stands.closed }) (way_at z f ways ways table q (before c l) known opens))
