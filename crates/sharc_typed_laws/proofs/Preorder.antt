-- A label that says no more than one that says no more than a third says no more than that.
use Rattle.sharc_typed_laws.proofs.Imports.{◌≡◌, ℕ, true, List, [], ◌∷◌, sym, ◌∙◌, subst, Width, Char, Int, Long, Lock, Global, Through, Self, Entry, Empty, Refers, Unknown, Number, Anything, Exactly, Within, Gate, Closed, Loaded, HoldsLoaded, Sole, Label, Less, SameReference, Itself, IsCopy, HasCopy, Copies, Chained, SameLock, AllSame, LessEntry, Narrower, LessNumber, LessGate, wider}

pub turned : (l : Label) (p q : ℕ) → SameReference l p q → SameReference l q p
turned l p q (Itself e) = Itself (sym e)
turned l p q (IsCopy e) = HasCopy e
turned l p q (HasCopy e) = IsCopy e
turned l p q (Copies e) = Copies (sym e)
turned l p q (Chained c h k) = Chained c (turned l c q k) (turned l p c h)

module _ (l k : Label) (same : (r : ℕ) → SameReference l r (k.same r)) where
  -- what are the same by less are the same
  pub same_before : (p q : ℕ) → SameReference k p q → SameReference l p q
  same_before p q (Itself e) = Itself e
  same_before p q (IsCopy e) = subst (SameReference l p) e (same p)
  same_before p q (HasCopy e) = turned l q p (subst (SameReference l q) e (same q))
  same_before p q (Copies e) = Chained (k.same p) (same p) (subst (λ c. SameReference l c q) (sym e) (turned l q (k.same q) (same q)))
  same_before p q (Chained c h j) = Chained c (same_before p c h) (same_before c q j)

  lock_before : (r : ℕ) (a b c : Lock) → SameLock l r a b → SameLock k r b c → SameLock l r a c
  lock_before r (Global i) (Global j) (Global n) g h = g ∙ h
  lock_before r (Through x i) (Through y j) (Through z n) g h = (g.0 ∙ h.0, Chained y g.1 (same_before y z h.1))
  lock_before r (Through x i) (Through y j) (Self n) g h = (g.0 ∙ h.0, Chained y (same_before r y h.1) (turned l x y g.1))
  lock_before r (Through x i) (Self j) (Self n) g h = (g.0 ∙ h, g.1)
  lock_before r (Through x i) (Self j) (Through z n) g h = (g.0 ∙ h.0, Chained r (turned l r x g.1) (same_before r z h.1))
  lock_before r (Self i) (Self j) (Self n) g h = g ∙ h
  lock_before r (Self i) (Self j) (Through z n) g h = (g ∙ h.0, same_before r z h.1)
  lock_before r (Self i) (Through y j) (Through z n) g h = (g.0 ∙ h.0, Chained y g.1 (same_before y z h.1))
  lock_before r (Self i) (Through y j) (Self n) g h = g.0 ∙ h.0
  lock_before r (Global i) (Through y j) c g h = absurd g
  lock_before r (Global i) (Self j) c g h = absurd g
  lock_before r (Through x i) (Global j) c g h = absurd g
  lock_before r (Self i) (Global j) c g h = absurd g
  lock_before r _ _ _ g h = absurd h

  locks_before : (r : ℕ) (a b c : List Lock) → AllSame (SameLock l r) a b → AllSame (SameLock k r) b c → AllSame (SameLock l r) a c
  locks_before r [] [] [] g h = tt
  locks_before r (x ∷ xs) (y ∷ ys) (z ∷ zs) g h = (lock_before r x y z g.0 h.0, locks_before r xs ys zs g.1 h.1)
  locks_before r [] (y ∷ ys) c g h = absurd g
  locks_before r (x ∷ xs) [] c g h = absurd g
  locks_before r [] [] (z ∷ zs) g h = absurd h
  locks_before r (x ∷ xs) (y ∷ ys) [] g h = absurd h

  entry_before : (r : ℕ) (a b c : Entry) → LessEntry l r a b → LessEntry k r b c → LessEntry l r a c
  entry_before r Empty b (Refers z) g h = tt
  entry_before r Unknown Unknown (Refers z) g h = h
  entry_before r a Empty (Refers z) g h = let e : a ≡ Empty = g in absurd (cc)
  entry_before r Unknown (Refers y) (Refers z) g h = g
  entry_before r (Refers x) Unknown (Refers z) g h = absurd h
  entry_before r (Refers x) (Refers y) (Refers z) g h = record { target = g.target ∙ h.target; locks = locks_before r x.locks y.locks z.locks g.locks h.locks }
  entry_before r a b _ g h = subst (LessEntry l r a) h g

pub narrower_before : (u v w : Width) → Narrower u v → Narrower v w → Narrower u w
narrower_before Char v w g h = tt
narrower_before Int Int w g h = h
narrower_before Int Long Long g h = tt
narrower_before Int Long Char g h = absurd h
narrower_before Int Long Int g h = absurd h
narrower_before Long Long w g h = h
narrower_before _ _ w g h = absurd g

number_before : (a b c : Number) → LessNumber a b → LessNumber b c → LessNumber a c
number_before a b Anything g h = tt
number_before a (Exactly z) (Within w) g h = subst (λ n. LessNumber n (Within w)) (sym g) h
number_before (Within u) (Within v) (Within w) g h = narrower_before u v w g h
number_before (Exactly z) (Within v) (Within w) g h = wider v w z h g
number_before a (Within v) (Within w) g h = let e : a ≡ Within v = g in absurd (cc)
number_before a _ _ g h = subst (LessNumber a) h g

gate_before : (a b c : Gate) → LessGate a b → LessGate b c → LessGate a c
gate_before (Sole r true) b c g h = subst (λ y. LessGate y c) g h
gate_before (Loaded x) b c g h = subst (λ y. LessGate y c) g h
gate_before (HoldsLoaded x) b c g h = subst (λ y. LessGate y c) g h
gate_before a b Closed g h = tt
gate_before a Closed c g h = let e : c ≡ Closed = h in absurd (cc)
gate_before a b c g h = subst (λ y. LessGate y c) g h

pub less_through : (a b c : Label) → Less a b → Less b c → Less a c
less_through a b c g h = record {
  function = h.function ∙ g.function;
  env = λ r. entry_before a b g.same r (a.env r) (b.env r) (c.env r) (g.env r) (h.env r);
  same = λ r. same_before a b g.same r (c.same r) (h.same r);
  known = λ r e. g.known r (h.known r e);
  ints = λ r. number_before (a.ints r) (b.ints r) (c.ints r) (g.ints r) (h.ints r);
  gate = gate_before a.gate b.gate c.gate g.gate h.gate;
  passed = λ p k. g.passed p (h.passed p k);
  room = λ e. g.room (h.room e);
}
