-- Nothing leads to an access whose check is dropped.
use Rattle.sharc_guard.proofs.{Imports.{◌≡◌, ℕ, zero, suc, ◌+◌, ◌-◌, ◌<◌, ◌≤◌, Bool, true, false, List, [], ◌∷◌, ◌++◌, length, Some, refl, sym, ap, ◌∙◌, subst, ⊎_elim, arith, slice_get, get_or as slice_index_or, cases_lt, or_right, or_left, length-append, length-map, ◌==◌, Function, Instr, Char, no_function, Kind, Op, Spot, Flat, Program, expand, head, body, tail, own, offset, place, guarded, entered_at, check_under, access_of, LeadsTo, IsNoTarget, leads_to, line_leads, is_led_to, is_entry, is_target, is_dynamic, tells, has_passed, place_of, known, drops, drops_at, dropped, DroppedIsNoTarget, and_left, within}, Checking.{grows, at_line}, Framing.{AllIn, all_append, all_at, head_all}, Placing.{entered_is, width_is, place_next}, Repeating.{eq_same, no_some, true_false, dynamic_is, repeated}}
use Rattle.sharc_guard.specs.Checked.{Access}
use Rattle.sharc_guard.specs.Known as Known

-- ---- where the statements of a line lead
abbrev Leads : (ℕ → ℕ) → ℕ → Op → Instr → Type 0
Leads pl n o i = (pc : ℕ) → LeadsTo i pc → (t : ℕ) × (leads_to n o t ≡ true) × (pl t ≡ pc)

pub itself : (n : ℕ) → (n == n) ≡ true
itself n = eq_same n n refl

own_leads : (pl : ℕ → ℕ) (n : ℕ) (o : Op) → AllIn (Leads pl n o) (own (body pl n o))
own_leads pl n Op.Enter = tt
own_leads pl n Op.BlockEnd = tt
own_leads pl n (Op.Compute Char operator i a b spot) = (λ pc h. absurd h, tt)
own_leads pl n (Op.Negate Char i a spot) = (λ pc h. absurd h, tt)
own_leads pl n (Op.Skip k) = (λ pc h. (n + 1 + k, itself (n + 1 + k), h), tt)
own_leads pl n (Op.SkipIfZero i k) = (λ pc h. (n + 1 + k, itself (n + 1 + k), h), tt)
own_leads pl n (Op.SkipIfNull r k) = (λ pc h. (n + 1 + k, itself (n + 1 + k), h), tt)
own_leads pl n (Op.Jump to) = (λ pc h. (to, itself to, h), tt)
own_leads pl n _ = (λ pc h. absurd h, tt)

tail_leads : (pl : ℕ → ℕ) (n : ℕ) (o of : Op) → AllIn (Leads pl n of) (tail o)
tail_leads pl n (Op.LoadRef r cell spot) of = (λ pc h. absurd h, tt)
tail_leads pl n (Op.StoreRef r cell spot) of = (λ pc h. absurd h, tt)
tail_leads pl n (Op.Settle x from) of = (λ pc h. absurd h, tt)
tail_leads pl n _ of = tt

all_leads : (pl : ℕ → ℕ) (drop : Bool) (n : ℕ) (o : Op) → AllIn (Leads pl n o) (expand pl drop n o)
all_leads pl drop n o =
    all_append (Leads pl n o) (head drop n o ++ own (body pl n o)) (tail o)
    (all_append (Leads pl n o) (head drop n o) (own (body pl n o))
    (head_all (Leads pl n o) drop n o (λ c pc h. absurd h) (λ c pc h. absurd h) (λ c pc h. absurd h) (λ pc h. absurd h) (λ r pc h. absurd h) (λ r c pc h. absurd h)) (own_leads pl n o))
    (tail_leads pl n o o)

pub is_led : (lines : List Op) (n k : ℕ) (o : Op) (t : ℕ) → k < n → slice_get lines k ≡ Some o → leads_to k o t ≡ true → is_led_to lines n t ≡ true
is_led lines zero k o t lt e l = absurd (omega arith)
is_led lines (suc n) k o t lt e l =
    ⊎_elim
    (λ (less : k < n). or_left (is_led_to lines n t) (line_leads n (slice_get lines n) t) (is_led lines n k o t less e l))
    (λ (le : n ≤ k).
    let same : k ≡ n = omega arith in
    or_right (is_led_to lines n t) (line_leads n (slice_get lines n) t) (subst (λ m. line_leads m (slice_get lines m) t ≡ true) same (ap (λ q. line_leads k q t) e ∙ l)))
    (cases_lt k n)

is_entered : (fs : List Function) (f : ℕ) → f < length fs → is_entry fs (slice_index_or fs f no_function).entry ≡ true
is_entered [] f lt = absurd (omega arith)
is_entered (x ∷ fs) zero lt = or_left (x.entry == x.entry) (is_entry fs x.entry) (itself x.entry)
is_entered (x ∷ fs) (suc f) lt = or_right ((slice_index_or fs f no_function).entry == x.entry) (is_entry fs (slice_index_or fs f no_function).entry) (is_entered fs f (omega arith))

-- ---- the site of an access is its line
abbrev Sited : ℕ → Instr → Type 0
Sited n i = (a : Access) → access_of i ≡ Some a → a.site ≡ n

same_site : (a b : Access) → Some a ≡ Some b → b.site ≡ a.site
same_site a b e = let q : a ≡ b = cc in ap (λ (a : Access). a.site) (sym q)

own_sited : (pl : ℕ → ℕ) (n : ℕ) (o : Op) → AllIn (Sited n) (own (body pl n o))
own_sited pl n Op.Enter = tt
own_sited pl n Op.BlockEnd = tt
own_sited pl n (Op.Compute Char operator i a b spot) = (λ q e. no_some q e, tt)
own_sited pl n (Op.Negate Char i a spot) = (λ q e. no_some q e, tt)
own_sited pl n (Op.Load i cell spot) = (λ q e. same_site record { cell = cell; site = n; is_write = false } q e, tt)
own_sited pl n (Op.Store i cell spot) = (λ q e. same_site record { cell = cell; site = n; is_write = true } q e, tt)
own_sited pl n (Op.LoadRef r cell spot) = (λ q e. same_site record { cell = cell; site = n; is_write = false } q e, tt)
own_sited pl n (Op.LoadGuard cell spot) = (λ q e. same_site record { cell = cell; site = n; is_write = false } q e, tt)
own_sited pl n (Op.StoreRef r cell spot) = (λ q e. same_site record { cell = cell; site = n; is_write = true } q e, tt)
own_sited pl n (Op.TakeCell r cell spot) = (λ q e. same_site record { cell = cell; site = n; is_write = true } q e, tt)
own_sited pl n _ = (λ q e. no_some q e, tt)

tail_sited : (n : ℕ) (o : Op) → AllIn (Sited n) (tail o)
tail_sited n (Op.LoadRef r cell spot) = (λ q e. no_some q e, tt)
tail_sited n (Op.StoreRef r cell spot) = (λ q e. no_some q e, tt)
tail_sited n (Op.Settle x from) = (λ q e. no_some q e, tt)
tail_sited n _ = tt

all_sited : (pl : ℕ → ℕ) (drop : Bool) (n : ℕ) (o : Op) → AllIn (Sited n) (expand pl drop n o)
all_sited pl drop n o =
    all_append (Sited n) (head drop n o ++ own (body pl n o)) (tail o)
    (all_append (Sited n) (head drop n o) (own (body pl n o))
    (head_all (Sited n) drop n o (λ c q e. no_some q e) (λ c q e. no_some q e) (λ c q e. no_some q e) (λ q e. no_some q e) (λ r q e. no_some q e) (λ r c q e. no_some q e)) (own_sited pl n o))
    (tail_sited n o)

-- ---- how many statements a line becomes
count : (pl : ℕ → ℕ) (drop : Bool) (n : ℕ) (o : Op) (i : Instr) → body pl n o ≡ Some i → length (expand pl drop n o) ≡ length (head drop n o) + 1 + length (tail o)
count pl drop n o i e =
    let all = length-append (head drop n o ++ own (body pl n o)) (tail o) in
    let first = length-append (head drop n o) (own (body pl n o)) in
    let one : length (own (body pl n o)) ≡ 1 = ap (λ b. length (own b)) e in
    omega arith

-- that of an access, one at least
is_some : (pl : ℕ → ℕ) (drop : Bool) (n : ℕ) (o : Op) (a : Known.Access) → Known.access o ≡ Some a → 0 < length (expand pl drop n o)
is_some pl drop n (Op.Load i cell spot) a e = let c = count pl drop n (Op.Load i cell spot) (Instr.Load i cell n) refl in omega arith
is_some pl drop n (Op.Store i cell spot) a e = let c = count pl drop n (Op.Store i cell spot) (Instr.Store i cell n) refl in omega arith
is_some pl drop n (Op.LoadRef r cell spot) a e = let c = count pl drop n (Op.LoadRef r cell spot) (Instr.LoadRef cell n) refl in omega arith
is_some pl drop n (Op.StoreRef r cell spot) a e = let c = count pl drop n (Op.StoreRef r cell spot) (Instr.Exchange r cell n) refl in omega arith
is_some pl drop n _ a e = no_some a e

-- without its check, an access alone
unchecked : (dynamic : Instr) (spot : Spot) (n : ℕ) → tells spot ≡ true → check_under true dynamic spot n spot.mode ≡ []
unchecked dynamic spot n e = ap (check_under true dynamic spot n) (dynamic_is spot.mode (and_left (is_dynamic spot.mode) spot.is_simple e))

is_one : (pl : ℕ → ℕ) (k : Known.Know) (n : ℕ) (o : Op) → drops k o ≡ true → length (expand pl true n o) ≡ 1
is_one pl k n (Op.Load i cell spot) e =
    let c = count pl true n (Op.Load i cell spot) (Instr.Load i cell n) refl in
    let h = ap length (unchecked (Instr.ChkRead cell n) spot n (and_left (tells spot) (has_passed k Kind.Read (place_of k cell)) e)) in
    omega arith
is_one pl k n (Op.Store i cell spot) e =
    let c = count pl true n (Op.Store i cell spot) (Instr.Store i cell n) refl in
    let h = ap length (unchecked (Instr.ChkWrite cell n) spot n (and_left (tells spot) (has_passed k Kind.Write (place_of k cell)) e)) in
    omega arith
is_one pl k n _ e = true_false (sym e)

module _ (flat : Flat) where
  abbrev d : ℕ → Bool
  d = dropped flat

  abbrev pl : ℕ → ℕ
  pl = place (dropped flat) flat.lines

  abbrev p : Program
  p = guarded (dropped flat) flat

  grows_to : (n m : ℕ) → n ≤ m → pl n ≤ pl m
  grows_to n m le =
      let h = grows (dropped flat) 0 flat.lines n (m - n) in
      let z : n + (m - n) ≡ m = omega arith in
      let h2 : offset (dropped flat) 0 flat.lines n ≤ offset (dropped flat) 0 flat.lines m = subst (λ x. offset (dropped flat) 0 flat.lines n ≤ offset (dropped flat) 0 flat.lines x) z h in
      omega arith

  -- no line that is led to goes to the place of one whose check is dropped
  apart : (n t : ℕ) → d n ≡ true → is_target flat t ≡ true → pl t ≡ pl n → ⊥
  apart n t e target same =
      let r = repeated flat n e in
      let c = r.checked in
      let before = c.before in
      ⊎_elim
      (λ (later : n < t).
      let up = grows_to (n + 1) t (omega arith) in
      let next = place_next d flat n r.simple.o r.simple.line in
      let some = is_some pl (d n) n r.simple.o r.simple.a r.simple.accesses in
      omega arith)
      (λ (le : t ≤ n). ⊎_elim
      (λ (inside : c.at < t). true_false (sym target ∙ c.piece.no_target t inside le))
      (λ (earlier : t ≤ c.at).
      let low = grows_to t c.at earlier in
      let up = grows_to (c.at + 1) n (omega arith) in
      let next = place_next d flat c.at c.checks.o c.checks.line in
      let some = is_some pl (d c.at) c.at c.checks.o c.checks.a c.checks.accesses in
      omega arith)
      (cases_lt c.at t))
      (cases_lt n t)

  leading : (q : ℕ) (i : Instr) (pc : ℕ) → slice_get p.statements q ≡ Some i → LeadsTo i pc → (t : ℕ) × (is_target flat t ≡ true) × (pl t ≡ pc)
  leading zero i pc e h = let s : Instr.Start 0 ≡ i = cc in absurd (subst (λ i. LeadsTo i pc) (sym s) h)
  leading (suc zero) i pc e h = let s : Instr.Exit ≡ i = cc in absurd (subst (λ i. LeadsTo i pc) (sym s) h)
  leading (suc (suc q)) i pc e h =
      let w = at_line flat d (suc (suc q)) i (omega arith) e in
      let l = all_at (Leads pl w.line w.op_is) (expand pl (d w.line) w.line w.op_is) w.step i (all_leads pl (d w.line) w.line w.op_is) w.statement pc h in (
        l.0,
        or_left (is_led_to flat.lines (length flat.lines) l.0) (is_entry flat.functions l.0) (is_led flat.lines (length flat.lines) w.line w.op_is l.0 (within flat.lines w.line w.op_is w.at) w.at l.1),
        l.2,
      )

  no_target : (n : ℕ) → d n ≡ true → IsNoTarget p (pl n)
  no_target n e = record {
    jumps = λ q i s h. let l = leading q i (pl n) s h in apart n l.0 e l.1 l.2;
    entries = λ f lt h.
        let m = length-map flat.functions (entered_at pl) in
        let known : f < length flat.functions = omega arith in
        let to = (slice_index_or flat.functions f no_function).entry in
        apart n to e (or_right (is_led_to flat.lines (length flat.lines) to) (is_entry flat.functions to) (is_entered flat.functions f known)) (sym (ap (λ (g : Function). g.entry) (entered_is (dropped flat) flat f known)) ∙ h);
  }

  at_access : (pc : ℕ) (i : Instr) (a : Access) → slice_get p.statements pc ≡ Some i → access_of i ≡ Some a → d a.site ≡ true → IsNoTarget p pc
  at_access zero i a e acc dr = let s : Instr.Start 0 ≡ i = cc in no_some a (ap access_of s ∙ acc)
  at_access (suc zero) i a e acc dr = let s : Instr.Exit ≡ i = cc in no_some a (ap access_of s ∙ acc)
  at_access (suc (suc q)) i a e acc dr =
      let w = at_line flat d (suc (suc q)) i (omega arith) e in
      let site_is = all_at (Sited w.line) (expand pl (d w.line) w.line w.op_is) w.step i (all_sited pl (d w.line) w.line w.op_is) w.statement a acc in
      let here : d w.line ≡ true = sym (ap d site_is) ∙ dr in
      let one = is_one pl (known flat w.line) w.line w.op_is (sym (ap (drops_at (known flat w.line)) w.at) ∙ here) in
      let same : length (expand pl (d w.line) w.line w.op_is) ≡ length (expand pl true w.line w.op_is) = ap (λ b. length (expand pl b w.line w.op_is)) here in
      let width_here = width_is pl (d w.line) w.line w.op_is in
      let within_here = w.within in
      let at = w.pc_is in
      let first : pl w.line ≡ suc (suc q) = omega arith in
      subst (IsNoTarget p) first (no_target w.line here)

pub untargeted : DroppedIsNoTarget
untargeted flat = at_access flat
