-- What a turn lowers, in guarded code and in code.
use Rattle.sharc_compile.proofs.Imports.{◌≡◌, ℕ, ℤ, zero, suc, ◌⊎◌, inl, inr, true, List, [], ◌∷◌, ◌++◌, length, Option, Some, None, refl, sym, ap, ◌∙◌, arith, append-nil, length-append, option_to_list, SourceEvent, Function, Instr, Shape, Machine, ref, lower, number_of, Thread, Turn, Goes, Asks, Checks, Halts, instr_of, lowered_by, unless_told}
use Rattle.sharc_code.specs.Path as Code
use Rattle.sharc_guard.specs.Machine as Form
use Rattle.sharc_guard.specs.{Logged.{Leaves, lowered_of}, Path.{after, may_go}}

-- its instruction lowers the same
pub lowered_same : (fs : List Function) (m : Machine) (a : Thread) → ((r : ℕ) → number_of (Form.ref a r) ≡ ref m r) → (i : Instr) → lowered_by m (instr_of fs i) ≡ lowered_of a i
lowered_same fs m a h (Instr.Call f ints refs site) = refl
lowered_same fs m a h (Instr.Lower r) = ap (λ n. n ∷ []) (sym (h r))
lowered_same fs m a h _ = refl

pub is_lower : (a : Thread) (i : Instr) → ((r : ℕ) × (i ≡ Instr.Lower r)) ⊎ (lowered_of a i ≡ [])
is_lower a (Instr.Lower r) = inl (r, refl)
is_lower a _ = inr refl

pub lower_goes : (s : Shape) (n : ℕ) (then_ : Machine) (found : ℕ) → Code.after (lower s n then_) found ≡ then_
lower_goes s zero then_ found = refl
lower_goes s (suc n) then_ found = refl

-- ---- a turn of guarded code
longer : (xs : List SourceEvent) (e : SourceEvent) → xs ≡ xs ++ e ∷ [] → ⊥
longer xs e q = let l = ap length q in let m = length-append xs (e ∷ []) in omega arith

-- by the event that the turn reported
pub lowers_next : (t : Turn) (a : Thread) (low : List ℕ) (x : ℤ) (ev : Option SourceEvent) → may_go t ≡ true → Leaves a low t → (after a t x).events ≡ a.events ++ option_to_list ev
    → (after a t x).lowered ≡ unless_told ev (a.lowered ++ low)
lowers_next (Goes b) a low x None go h e = h.2
lowers_next (Goes b) a low x (Some ev) go h e = absurd (longer a.events ev (sym h.0 ∙ e))
lowers_next (Asks site act then_) a low x None go h e = absurd (longer a.events (Form.event_of site act (h x).0) (sym (append-nil a.events) ∙ sym e ∙ (h x).1))
lowers_next (Asks site act then_) a low x (Some ev) go h e = (h x).3
lowers_next (Checks check site b) a low x None go h e = h.2
lowers_next (Checks check site b) a low x (Some ev) go h e = absurd (longer a.events ev (sym h.0 ∙ e))
lowers_next (Halts outcome) a low x ev go h e = absurd (cc)
