-- Only the last turn of a Clear leads to a place where it is known that an object was cleared.
use Rattle.sharc_history_laws.proofs.{Imports.{◌≡◌, ℕ, zero, suc, ◌<◌, ◌≤◌, ◌⊎◌, inl, inr, Bool, true, false, length, List, [], ◌∷◌, if◌then◌else◌, refl, sym, ap, ◌∙◌, subst, ⊎_elim, arith, cases_lt, slice_index_or, Code, Parameter, Instr, Shape, Stage, Rests, Enters, Machine, act, has_room, with_parameter, entered, start, function_of, instr_at, no_function, after, may_go, Gate, Closed, Checked, Holds, Loaded, HoldsLoaded, Sole, Label, Labels, Leads, LessGate, View, FramesStand, IsWellTyped, Fine, entry_label, Targets, yes}, Onward.{Ways, onward, walks, IsUncleared}}

-- ---- gates
not_sole : (k : Gate) (r : ℕ) → IsUncleared k → LessGate k (Sole r true) → ⊥
not_sole Closed r u h = let f : Sole r true ≡ Closed = h in cc
not_sole (Checked w c) r u h = let f : Sole r true ≡ Checked w c = h in cc
not_sole (Holds c) r u h = let f : Sole r true ≡ Holds c = h in cc
not_sole (Loaded c) r u h = let f : Sole r true ≡ Loaded c = h in cc
not_sole (HoldsLoaded c) r u h = let f : Sole r true ≡ HoldsLoaded c = h in cc
not_sole (Sole q true) r u h = u
not_sole (Sole q false) r u h = let f : Sole r true ≡ Sole q false = h in cc

pub less_uncleared : (k y : Gate) → IsUncleared k → LessGate k y → IsUncleared y
less_uncleared k (Sole r true) u h = not_sole k r u h
less_uncleared k _ u h = tt

abbrev pub is_clearing : Instr → Bool
is_clearing (Instr.Clear r cells) = true
is_clearing (Instr.Free r layout site) = true
is_clearing _ = false

-- after a turn of another instruction nothing is being cleared, and the thread is at its place still or it is not known there that an object was cleared
pub record Arrives (ls : Labels) (m y : Machine) : Type 0 where
  pub stage : walks y.own.stage ≡ false
  pub place : may_go y.at.state ≡ true → (y.at.pc ≡ m.at.pc) ⊎ IsUncleared (ls.at y.at.pc).gate

past_any : {A : Type 0} (xs : List A) (n : ℕ) (d : A) → length xs ≤ n → slice_index_or xs n d ≡ d
past_any [] n d le = refl
past_any (x ∷ xs) zero d le = absurd (omega arith)
past_any (x ∷ xs) (suc n) d le = past_any xs n d (omega arith)

module _ (x : Targets) (code : Code) (s : Shape) (ls : Labels) (wt : IsWellTyped x code ls) (m : Machine) (calm : walks m.own.stage ≡ false) (t : ℕ) (v : View) (frames : FramesStand x code ls t v m (ls.at m.at.pc).function) where
  abbrev U : ℕ → Type 0
  U pc = IsUncleared (ls.at pc).gate

  leads : (to : ℕ) (k : Label) → IsUncleared k.gate → Leads ls to k → U to
  leads to k u h = less_uncleared k.gate (ls.at to).gate u h.gate

  exit_closed : (to : ℕ) → instr_at code to ≡ Instr.Exit → U to
  exit_closed to is = let f : Fine x code ls to (ls.at to) Instr.Exit = subst (Fine x code ls to (ls.at to)) is (wt.fine to) in subst IsUncleared (sym f.0) tt

  either : (b : Bool) (y z : Machine) → Arrives ls m y → Arrives ls m z → Arrives ls m (if b then y else z)
  either true y z h k = h
  either false y z h k = k

  parameter_stage : (y : Machine) (p : Parameter) (argument : ℕ) → (with_parameter y p argument).own.stage ≡ y.own.stage
  parameter_stage y Parameter.None argument = refl
  parameter_stage y Parameter.Int argument = refl
  parameter_stage y Parameter.Reference argument = refl

  -- a function begins where nothing is cleared
  entry_closed : (f : ℕ) → U (function_of code f).entry
  entry_closed f = ⊎_elim
      (λ (lt : f < length code.functions.items). leads (function_of code f).entry (entry_label ls f) tt (wt.entries f lt))
      (λ (ge : length code.functions.items ≤ f). subst U (sym (ap (λ (h : Rattle.sharc_code.specs.declared.code.Function.Function). h.entry) (past_any code.functions.items f no_function ge))) (subst IsUncleared (sym wt.first.1) tt))
      (cases_lt f (length code.functions.items))

  at_enter : (function site argument : ℕ) → Arrives ls m (entered code m function site argument)
  at_enter function site argument =
      let f = function_of code function in
      let y = record m { own = record m.own { stage = Rests; function = function } } in
      let e : (with_parameter y f.parameter argument).own.stage ≡ Rests = parameter_stage y f.parameter argument in
      either (has_room (with_parameter y f.parameter argument) 0 0) _ _
      (record { stage = ap walks e; place = λ _. inr (entry_closed function) }) (record { stage = ap walks e; place = λ go. absurd (yes (sym go)) })

  at_start : (site : ℕ) (stage : Stage) (found : ℕ) → Arrives ls m (after (start code m site stage) found)
  at_start site (Enters function) found = at_enter function site found
  at_start site _ found = record { stage = refl; place = λ _. inl refl }

  ways : Ways code ls m (λ y. Arrives ls m y) U
  ways = record {
    arrives = λ y k u. record { stage = k calm; place = λ _. inr u };
    remains = λ y k e. record { stage = k calm; place = λ _. inl e };
    halts = λ y k e same. record { stage = k calm; place = λ go. absurd (yes (sym go ∙ e)) };
    leads = λ to k u same h. leads to k u h;
    back = λ to f k u is h. leads to k u h;
    ends = exit_closed;
    begins = λ f lt. entry_closed f;
  }

  pub arriving : (i : Instr) (found : ℕ) → is_clearing i ≡ false → Fine x code ls m.at.pc (ls.at m.at.pc) i → Arrives ls m (after (act code s i m) found)
  arriving (Instr.Clear r cells) found other f = absurd (yes other)
  arriving (Instr.Free r layout site) found other f = absurd (yes other)
  arriving (Instr.Start site) found other f = at_start site m.own.stage found
  arriving i found other f = onward x code s ls wt m t v frames (λ y. Arrives ls m y) U ways i found refl f
