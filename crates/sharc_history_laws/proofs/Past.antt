-- No turn but that of a Start leads to the place where threads begin.
use Rattle.sharc_history_laws.proofs.{Imports.{◌≡◌, ℕ, ◌*◌, ◌≢◌, zero, suc, ◌+◌, ◌<◌, ◌⊎◌, inl, inr, Bool, true, false, length, Some, None, if◌then◌else◌, refl, sym, ap, ◌∙◌, min, nat_lt, Code, Layout, Instr, Shape, Stage, Machine, act, ref, looks, clear, data_granules, free_looks, empties, emptied, free, layout_at, function_of, fields, largest, instr_at, after, Looks, Clears, Empties, Lowers, FreeLooks, FreeClears, Uncounts, Links, Label, Labels, Leads, View, FramesStand, IsWellTyped, Fine, Targets}, Onward.{Ways, onward}}

-- after its turn the thread is at its place still, or at none where threads begin
pub record Departs (m y : Machine) : Type 0 where
  pub place : (y.at.pc ≡ m.at.pc) ⊎ (y.at.pc ≢ 0)

module _ (x : Targets) (code : Code) (s : Shape) (ls : Labels) (wt : IsWellTyped x code ls) (m : Machine) (f0 : ℕ) (known : (ls.at m.at.pc).function ≡ Some f0) (t : ℕ) (v : View) (frames : FramesStand x code ls t v m (ls.at m.at.pc).function) where
  abbrev pc : ℕ
  pc = m.at.pc

  abbrev l : Label
  l = ls.at m.at.pc

  abbrev U : ℕ → Type 0
  U to = to ≢ 0

  some_none : (f : ℕ) → Some f ≡ None → ⊥
  some_none f e = cc

  past : (to f : ℕ) → (ls.at to).function ≡ Some f → U to
  past to f is e = some_none f (sym is ∙ ap (λ n. (ls.at n).function) e ∙ wt.first.0)

  leads : (to : ℕ) (k : Label) → k.function ≡ l.function → Leads ls to k → U to
  leads to k e h = past to f0 (h.function ∙ e ∙ known)

  exit_closed : (to : ℕ) → instr_at code to ≡ Instr.Exit → U to
  exit_closed to is e = let z : Instr.Exit ≡ Instr.Start wt.begin.0 = sym is ∙ ap (instr_at code) e ∙ wt.begin.1 in cc

  -- ---- machines
  -- at another place
  arrives : (y : Machine) → U y.at.pc → Departs m y
  arrives y u = record { place = inr u }

  -- at its own
  remains : (y : Machine) → y.at.pc ≡ m.at.pc → Departs m y
  remains y e = record { place = inl e }

  either : (b : Bool) (y z : Machine) → Departs m y → Departs m z → Departs m (if b then y else z)
  either true y z h k = h
  either false y z h k = k

  -- a function begins elsewhere
  entry_closed : (f : ℕ) → f < length code.functions.items → U (function_of code f).entry
  entry_closed f lt = past (function_of code f).entry f (wt.entries f lt).function

  at_looks : (done all : ℕ) → U (pc + 1) → Departs m (looks m done all)
  at_looks done all u = either (nat_lt done all) _ _ (remains _ refl) (arrives _ u)

  at_clear : (h cells : ℕ) (stage : Stage) (found : ℕ) → U (pc + 1) → Departs m (after (clear s m h cells stage) found)
  at_clear h cells (Looks done all) found u = remains _ refl
  at_clear h cells (Clears done all seen) found u = at_looks (done + 1) all u
  at_clear h cells _ found u = at_looks 0 (data_granules found cells) u

  at_free_looks : (k : Layout) (done elements : ℕ) → Departs m (free_looks m k done elements)
  at_free_looks k done elements = either (nat_lt done (data_granules elements k.cells)) _ _ (remains _ refl) (remains _ refl)

  at_empties : (k : Layout) (i elements : ℕ) → Departs m (empties m k i elements)
  at_empties k i elements = either (nat_lt i (min (elements * fields k) largest)) _ _ (remains _ refl) (at_free_looks k 0 elements)

  at_emptied : (k : Layout) (i elements found : ℕ) → Departs m (emptied m k i elements found)
  at_emptied k i elements zero = at_empties k (i + 1) elements
  at_emptied k i elements (suc h) = remains _ refl

  at_free : (r : ℕ) (k : Layout) (stage : Stage) (found : ℕ) → U (pc + 1) → Departs m (after (free code s m r k stage) found)
  at_free r k (Empties i elements) found u = at_emptied k i elements found
  at_free r k (Lowers i elements got) found u = at_empties k (i + 1) elements
  at_free r k (FreeLooks done elements) found u = remains _ refl
  at_free r k (FreeClears done elements seen) found u = at_free_looks k (done + 1) elements
  at_free r k (Uncounts elements) found u = remains _ refl
  at_free r k (Links elements) found u = arrives _ u
  at_free r k _ found u = at_empties k 0 found

  ways : Ways code ls m (λ y. Departs m y) U
  ways = record {
    arrives = λ y k u. arrives y u;
    remains = λ y k e. remains y e;
    halts = λ y k e same. remains y same;
    leads = λ to k u same h. leads to k same h;
    back = λ to f k u is h. past to f (h.function ∙ is);
    ends = exit_closed;
    begins = entry_closed;
  }

  pub arriving : (i : Instr) (found : ℕ) → Fine x code ls m.at.pc (ls.at m.at.pc) i → Departs m (after (act code s i m) found)
  arriving (Instr.Clear r cells) found f = at_clear (ref m r) cells m.own.stage found (leads (pc + 1) _ refl f.2.3)
  arriving (Instr.Free r layout site) found f = at_free r (layout_at code layout) m.own.stage found (leads (pc + 1) _ refl f.4)
  arriving (Instr.Start site) found f = absurd (some_none f0 (sym known ∙ f.1))
  arriving i found f = onward x code s ls wt m t v frames (λ y. Departs m y) U ways i found refl f
