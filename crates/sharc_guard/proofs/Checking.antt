-- Each access comes after its check.
use Rattle.sharc_guard.proofs.{Imports.{within as get_inside, ◌≡◌, ℕ, zero, suc, ◌+◌, ◌-◌, ◌<◌, ◌≤◌, ◌⊎◌, inl, inr, Bool, true, false, List, [], ◌∷◌, ◌++◌, length, refl, sym, ap, ◌∙◌, subst, ⊎_elim, arith, Some, None, slice_get, cond, cases_lt, append_assoc, length-map, Function, PlaceMode, Dynamic, LockedGlobal, LockedSibling, LockedThrough, LockedLoaded, SourcePlace, Global, Object, Char, Instr, Op, Spot, Flat, Program, source_at, expand, head, body, tail, own, width, offset, place, guarded, entered_at, source_of, check_under, access_of, IsCheckOf, LeadsTo, IsNoTarget, IsAfterCheck, IsCheckedAt}, Placing.{HasAt, entered_is, width_is, stands, place_next, source_is}, Framing.{there_is, AllIn, all_append, all_at, has_at, head_all}}
use Rattle.sharc_guard.specs.Checked.{Access}

-- ---- places grow
pub grows : (dropped : ℕ → Bool) (k : ℕ) (lines : List Op) (n d : ℕ) → offset dropped k lines n ≤ offset dropped k lines (n + d)
grows dropped k [] n d = omega arith
grows dropped k (o ∷ os) zero d = omega arith
grows dropped k (o ∷ os) (suc n) d =
    let h = grows dropped (k + 1) os n d in
    let z : suc (n + d) ≡ suc n + d = omega arith in
    subst (λ x. width (dropped k) k o + offset dropped (k + 1) os n ≤ offset dropped k (o ∷ os) x) z (omega arith)

module _ (flat : Flat) (dropped : ℕ → Bool) where
  abbrev p : Program
  p = guarded dropped flat

  abbrev pl : ℕ → ℕ
  pl = place dropped flat.lines

  -- a place inside a line is no line's
  inner : (n k j : ℕ) (o : Op) → slice_get flat.lines n ≡ Some o → j + 1 < width (dropped n) n o → pl k ≡ pl n + (j + 1) → ⊥
  inner n k j o e lt q = ⊎_elim
      (λ (l : n < k). let h = grows dropped 0 flat.lines (n + 1) (k - (n + 1)) in
      let w = width_is pl (dropped n) n o in
      let nx = place_next dropped flat n o e in
      let z : n + 1 + (k - (n + 1)) ≡ k = omega arith in
      let h2 : offset dropped 0 flat.lines (n + 1) ≤ offset dropped 0 flat.lines k = subst (λ x. offset dropped 0 flat.lines (n + 1) ≤ offset dropped 0 flat.lines x) z h in
      omega arith)
      (λ (le : k ≤ n). let h = grows dropped 0 flat.lines k (n - k) in
      let z : k + (n - k) ≡ n = omega arith in
      let h2 : offset dropped 0 flat.lines k ≤ offset dropped 0 flat.lines n = subst (λ x. offset dropped 0 flat.lines k ≤ offset dropped 0 flat.lines x) z h in
      omega arith)
      (cases_lt n k)

  -- jumps lead to lines
  abbrev ToLine : Instr → Type 0
  ToLine i = (pc : ℕ) → LeadsTo i pc → (k : ℕ) × (pl k ≡ pc)

  own_to : (n : ℕ) (o : Op) → AllIn ToLine (own (body pl n o))
  own_to n Op.Enter = tt
  own_to n Op.BlockEnd = tt
  own_to n (Op.Compute Char operator i a b spot) = (λ pc h. absurd h, tt)
  own_to n (Op.Negate Char i a spot) = (λ pc h. absurd h, tt)
  own_to n (Op.Skip k) = (λ pc h. (n + 1 + k, h), tt)
  own_to n (Op.SkipIfZero i k) = (λ pc h. (n + 1 + k, h), tt)
  own_to n (Op.SkipIfNull r k) = (λ pc h. (n + 1 + k, h), tt)
  own_to n (Op.Jump to) = (λ pc h. (to, h), tt)
  own_to n _ = (λ pc h. absurd h, tt)

  tail_to : (o : Op) → AllIn ToLine (tail o)
  tail_to (Op.LoadRef r cell spot) = (λ pc h. absurd h, tt)
  tail_to (Op.StoreRef r cell spot) = (λ pc h. absurd h, tt)
  tail_to (Op.Settle x from) = (λ pc h. absurd h, tt)
  tail_to _ = tt

  expand_to : (drop : Bool) (n : ℕ) (o : Op) → AllIn ToLine (expand pl drop n o)
  expand_to drop n o =
      all_append ToLine (head drop n o ++ own (body pl n o)) (tail o)
      (all_append ToLine (head drop n o) (own (body pl n o)) (head_all ToLine drop n o (λ c pc h. absurd h) (λ c pc h. absurd h) (λ c pc h. absurd h) (λ pc h. absurd h) (λ r pc h. absurd h) (λ r c pc h. absurd h)) (own_to n o))
      (tail_to o)

  -- the line of a place after the first two
  pub record AtLine (pc : ℕ) (i : Instr) : Type 0 where
    pub line : ℕ
    pub op_is : Op
    pub at : slice_get flat.lines line ≡ Some op_is
    pub step : ℕ
    pub within : step < width (dropped line) line op_is
    pub pc_is : pc ≡ pl line + step
    pub statement : slice_get (expand pl (dropped line) line op_is) step ≡ Some i

  pub at_line : (pc : ℕ) (i : Instr) → 2 ≤ pc → slice_get p.statements pc ≡ Some i → AtLine pc i
  at_line pc i le e =
      let n0 = get_inside p.statements pc i e in
      let w = there_is pl dropped 0 flat.lines (pc - 2) (omega arith) in
      let z : 0 + w.line ≡ w.line = omega arith in
      let lt : w.step < width (dropped w.line) w.line w.op_is = subst (λ k. w.step < width (dropped k) k w.op_is) z w.within in
      let q = w.pos_is in
      let here : pc ≡ pl w.line + w.step = omega arith in
      let wi = width_is pl (dropped w.line) w.line w.op_is in
      record {
        line = w.line;
        op_is = w.op_is;
        at = w.at;
        step = w.step;
        within = lt;
        pc_is = here;
        statement = sym (has_at p.statements (pl w.line) (expand pl (dropped w.line) w.line w.op_is) w.step (stands dropped flat w.line w.op_is w.at) (omega arith)) ∙ ap (slice_get p.statements) (sym here) ∙ e;
      }

  no_jump : (q : ℕ) (i : Instr) (pc : ℕ) → slice_get p.statements q ≡ Some i → LeadsTo i pc → (k : ℕ) × (pl k ≡ pc)
  no_jump zero i pc e h = let s : Instr.Start 0 ≡ i = cc in absurd (subst (λ i. LeadsTo i pc) (sym s) h)
  no_jump (suc zero) i pc e h = let s : Instr.Exit ≡ i = cc in absurd (subst (λ i. LeadsTo i pc) (sym s) h)
  no_jump (suc (suc q)) i pc e h =
      let w = at_line (suc (suc q)) i (omega arith) e in
      all_at ToLine (expand pl (dropped w.line) w.line w.op_is) w.step i (expand_to (dropped w.line) w.line w.op_is) w.statement pc h

  inner_no_target : (n j : ℕ) (o : Op) → slice_get flat.lines n ≡ Some o → j + 1 < width (dropped n) n o → IsNoTarget p (pl n + (j + 1))
  inner_no_target n j o e lt = record {
    jumps = λ q i s h. let k = no_jump q i (pl n + (j + 1)) s h in inner n k.0 j o e lt k.1;
    entries = λ f lf h.
        let l = length-map flat.functions (entered_at pl) in
        inner n _ j o e lt (sym (ap (λ (g : Function). g.entry) (entered_is dropped flat f (omega arith))) ∙ h);
  }

  behind : (n pc : ℕ) (o : Op) (e : slice_get flat.lines n ≡ Some o) (mode : PlaceMode) (a : Access) (check : Instr) (rest : List Instr) → expand pl (dropped n) n o ≡ check ∷ rest → 0 < length rest → pc ≡ pl n + 1 → IsCheckOf mode a check → IsAfterCheck p pc mode a
  behind n pc o e mode a check rest x lt q k =
      let w = width_is pl (dropped n) n o in
      let l = ap length x in
      let z : pl n + (0 + 1) ≡ pc = omega arith in
      let h : HasAt p.statements (pl n) (check ∷ rest) = subst (HasAt p.statements (pl n)) x (stands dropped flat n o e) in
      record {
        before = pl n;
        before_is = sym q;
        check = check;
        stands = h.0;
        checks = k;
        no_target = subst (IsNoTarget p) z (inner_no_target n 0 o e (omega arith));
      }

  -- ---- accesses
  -- an access under a mode, after what the mode asks for
  checked : (n pc : ℕ) (o : Op) (e : slice_get flat.lines n ≡ Some o) (drop : Bool) (spot : Spot) (mode : PlaceMode) (a : Access) (dynamic : Instr) (rest : List Instr) → a.site ≡ n → dynamic ≡ (cond a.is_write (Instr.ChkWrite a.cell a.site) (Instr.ChkRead a.cell a.site))
      → (drop ≡ true → dropped n ≡ true) → expand pl (dropped n) n o ≡ check_under drop dynamic spot n mode ++ rest → 0 < length rest → pc ≡ pl n + length (check_under drop dynamic spot n mode) → IsCheckedAt dropped p pc mode a
  checked n pc o e true spot Dynamic a dynamic rest s d dr x lt q = inl (ap dropped s ∙ dr refl)
  checked n pc o e false spot Dynamic a dynamic rest s d dr x lt q = inr (behind n pc o e Dynamic a dynamic rest x lt q d)
  checked n pc o e drop spot (LockedGlobal g pl2) a dynamic rest s d dr x lt q = behind n pc o e (LockedGlobal g pl2) a (Instr.ChkLock (Global g pl2) n) rest x lt q (ap (Instr.ChkLock (Global g pl2)) (sym s))
  checked n pc o e drop spot (LockedSibling f m) a dynamic rest s d dr x lt q = behind n pc o e (LockedSibling f m) a (Instr.ChkLock spot.lock n) rest x lt q (spot.lock, ap (Instr.ChkLock spot.lock) (sym s))
  checked n pc o e drop spot (LockedThrough r pl2) a dynamic rest s d dr x lt q = behind n pc o e (LockedThrough r pl2) a (Instr.ChkLock (Object r pl2) n) rest x lt q (ap (Instr.ChkLock (Object r pl2)) (sym s))
  checked n pc o e drop spot LockedLoaded a dynamic rest s d dr x lt q = behind n pc o e LockedLoaded a (Instr.ChkLockLoaded n) rest x lt q (ap Instr.ChkLockLoaded (sym s))
  checked n pc o e drop spot _ a dynamic rest s d dr x lt q = tt

  -- the other statements access nothing
  abbrev Idle : Instr → Type 0
  Idle i = access_of i ≡ None

  head_idle : (drop : Bool) (n : ℕ) (o : Op) → AllIn Idle (head drop n o)
  head_idle drop n o = head_all Idle drop n o (λ c. refl) (λ c. refl) (λ c. refl) refl (λ r. refl) (λ r c. refl)

  tail_idle : (o : Op) → AllIn Idle (tail o)
  tail_idle (Op.LoadRef r cell spot) = (refl, tt)
  tail_idle (Op.StoreRef r cell spot) = (refl, tt)
  tail_idle (Op.Settle x from) = (refl, tt)
  tail_idle _ = tt

  -- an operation with an access of its own, or with none
  abbrev Accesses : Op → Type 0
  Accesses (Op.Load i cell spot) = Unit {0}
  Accesses (Op.Store i cell spot) = Unit {0}
  Accesses (Op.LoadRef r cell spot) = Unit {0}
  Accesses (Op.StoreRef r cell spot) = Unit {0}
  Accesses (Op.LoadGuard cell spot) = Unit {0}
  Accesses (Op.TakeCell r cell spot) = Unit {0}
  Accesses _ = ⊥

  own_idle : (n : ℕ) (o : Op) → Accesses o ⊎ AllIn Idle (own (body pl n o))
  own_idle n Op.Enter = inr tt
  own_idle n Op.BlockEnd = inr tt
  own_idle n (Op.Compute Char operator i a b spot) = inr (refl, tt)
  own_idle n (Op.Negate Char i a spot) = inr (refl, tt)
  own_idle n (Op.Load i cell spot) = inl tt
  own_idle n (Op.Store i cell spot) = inl tt
  own_idle n (Op.LoadRef r cell spot) = inl tt
  own_idle n (Op.StoreRef r cell spot) = inl tt
  own_idle n (Op.LoadGuard cell spot) = inl tt
  own_idle n (Op.TakeCell r cell spot) = inl tt
  own_idle n _ = inr (refl, tt)

  found_own : (hs : List Instr) (x : Instr) (ts : List Instr) (j : ℕ) (i : Instr) (a : Access) → AllIn Idle hs → AllIn Idle ts → slice_get (hs ++ x ∷ ts) j ≡ Some i → access_of i ≡ Some a → (j ≡ length hs) × (x ≡ i)
  found_own [] x ts zero i a h k e q = (refl, cc)
  found_own [] x ts (suc j) i a h k e q = let z : None ≡ Some a = sym (all_at Idle ts j i k e) ∙ q in absurd (cc)
  found_own (y ∷ hs) x ts zero i a h k e q = let s : y ≡ i = cc in let z : None ≡ Some a = sym h.0 ∙ ap access_of s ∙ q in absurd (cc)
  found_own (y ∷ hs) x ts (suc j) i a h k e q = let r = found_own hs x ts j i a h.1 k e q in (ap suc r.0, r.1)

  access_checked : (n : ℕ) (o : Op) (e : slice_get flat.lines n ≡ Some o) (j : ℕ) (i : Instr) (a : Access) (drop : Bool) (spot : Spot) (dynamic x : Instr) (a0 : Access) (ts : List Instr)
      → slice_get (check_under drop dynamic spot n spot.mode ++ x ∷ ts) j ≡ Some i → access_of i ≡ Some a → AllIn Idle (check_under drop dynamic spot n spot.mode) → AllIn Idle ts → access_of x ≡ Some a0
      → a0.site ≡ n → dynamic ≡ (cond a0.is_write (Instr.ChkWrite a0.cell a0.site) (Instr.ChkRead a0.cell a0.site)) → (drop ≡ true → dropped n ≡ true) → expand pl (dropped n) n o ≡ check_under drop dynamic spot n spot.mode ++ x ∷ ts → (source_of o).mode ≡ spot.mode
      → IsCheckedAt dropped p (pl n + j) (source_at p a.site).mode a
  access_checked n o e j i a drop spot dynamic x a0 ts st acc hi ti ax s d dr whole md =
      let r = found_own (check_under drop dynamic spot n spot.mode) x ts j i a hi ti st acc in
      let same : Some a0 ≡ Some a = sym ax ∙ ap access_of r.1 ∙ acc in
      let a_is : a0 ≡ a = cc in
      let mode_is : (source_at p a0.site).mode ≡ spot.mode = ap (λ k. (source_at p k).mode) s ∙ ap (λ (sp : SourcePlace). sp.mode) (source_is dropped flat n o e) ∙ md in
      subst (λ (a : Access). IsCheckedAt dropped p (pl n + j) (source_at p a.site).mode a) a_is
      (subst (λ m. IsCheckedAt dropped p (pl n + j) m a0) (sym mode_is) (checked n (pl n + j) o e drop spot spot.mode a0 dynamic (x ∷ ts) s d dr whole (omega arith) (ap (λ k. pl n + k) r.0)))

  whole_is : (drop : Bool) (n : ℕ) (o : Op) (i : Instr) → body pl n o ≡ Some i → expand pl drop n o ≡ head drop n o ++ i ∷ tail o
  whole_is drop n o i b = ap (λ b. head drop n o ++ own b ++ tail o) b ∙ append_assoc (head drop n o) (i ∷ []) (tail o)

  by_op : (n : ℕ) (o : Op) (e : slice_get flat.lines n ≡ Some o) (j : ℕ) (i : Instr) (a : Access) → Accesses o → slice_get (expand pl (dropped n) n o) j ≡ Some i → access_of i ≡ Some a → IsCheckedAt dropped p (pl n + j) (source_at p a.site).mode a
  by_op n (Op.Load r cell spot) e j i a w st acc =
      let wh = whole_is (dropped n) n (Op.Load r cell spot) (Instr.Load r cell n) refl in
      access_checked n (Op.Load r cell spot) e j i a (dropped n) spot (Instr.ChkRead cell n) (Instr.Load r cell n) record { cell = cell; site = n; is_write = false } [] (sym (ap (λ xs. slice_get xs j) wh) ∙ st) acc (head_idle (dropped n) n (Op.Load r cell spot)) tt refl refl refl (λ k. k) wh refl
  by_op n (Op.Store r cell spot) e j i a w st acc =
      let wh = whole_is (dropped n) n (Op.Store r cell spot) (Instr.Store r cell n) refl in
      access_checked n (Op.Store r cell spot) e j i a (dropped n) spot (Instr.ChkWrite cell n) (Instr.Store r cell n) record { cell = cell; site = n; is_write = true } [] (sym (ap (λ xs. slice_get xs j) wh) ∙ st) acc (head_idle (dropped n) n (Op.Store r cell spot)) tt refl refl refl (λ k. k) wh refl
  by_op n (Op.LoadRef r cell spot) e j i a w st acc =
      let wh = whole_is (dropped n) n (Op.LoadRef r cell spot) (Instr.LoadRef cell n) refl in
      access_checked n (Op.LoadRef r cell spot) e j i a false spot (Instr.ChkRead cell n) (Instr.LoadRef cell n) record { cell = cell; site = n; is_write = false } (tail (Op.LoadRef r cell spot)) (sym (ap (λ xs. slice_get xs j) wh) ∙ st) acc (head_idle (dropped n) n (Op.LoadRef r cell spot)) (tail_idle (Op.LoadRef r cell spot)) refl refl refl (λ k. absurd (cc)) wh refl
  by_op n (Op.StoreRef r cell spot) e j i a w st acc =
      let wh = whole_is (dropped n) n (Op.StoreRef r cell spot) (Instr.Exchange r cell n) refl in
      access_checked n (Op.StoreRef r cell spot) e j i a false spot (Instr.ChkWrite cell n) (Instr.Exchange r cell n) record { cell = cell; site = n; is_write = true } (tail (Op.StoreRef r cell spot)) (sym (ap (λ xs. slice_get xs j) wh) ∙ st) acc (head_idle (dropped n) n (Op.StoreRef r cell spot)) (tail_idle (Op.StoreRef r cell spot)) refl refl refl (λ k. absurd (cc)) wh refl
  by_op n (Op.TakeCell r cell spot) e j i a w st acc =
      let wh = whole_is (dropped n) n (Op.TakeCell r cell spot) (Instr.TakeCell r cell n) refl in
      access_checked n (Op.TakeCell r cell spot) e j i a false spot (Instr.ChkWrite cell n) (Instr.TakeCell r cell n) record { cell = cell; site = n; is_write = true } [] (sym (ap (λ xs. slice_get xs j) wh) ∙ st) acc (head_idle (dropped n) n (Op.TakeCell r cell spot)) tt refl refl refl (λ k. absurd (cc)) wh refl
  by_op n (Op.LoadGuard cell spot) e j i a w st acc =
      let wh = whole_is (dropped n) n (Op.LoadGuard cell spot) (Instr.LoadRef cell n) refl in
      let r = found_own [] (Instr.LoadRef cell n) [] j i a tt tt (sym (ap (λ xs. slice_get xs j) wh) ∙ st) acc in
      let same : Some record { cell = cell; site = n; is_write = false } ≡ Some a = ap access_of r.1 ∙ acc in
      let a_is : record { cell = cell; site = n; is_write = false } ≡ a = cc in
      subst (λ (a : Access). IsCheckedAt dropped p (pl n + j) (source_at p a.site).mode a) a_is
      (subst (λ (sp : SourcePlace). IsCheckedAt dropped p (pl n + j) sp.mode record { cell = cell; site = n; is_write = false }) (sym (source_is dropped flat n (Op.LoadGuard cell spot) e)) tt)
  by_op n _ e j i a w st acc = absurd w

  pub accesses_checked : (pc : ℕ) (i : Instr) (a : Access) → slice_get p.statements pc ≡ Some i → access_of i ≡ Some a → IsCheckedAt dropped p pc (source_at p a.site).mode a
  accesses_checked zero i a e acc = let s : Instr.Start 0 ≡ i = cc in let z : None ≡ Some a = ap access_of s ∙ acc in absurd (cc)
  accesses_checked (suc zero) i a e acc = let s : Instr.Exit ≡ i = cc in let z : None ≡ Some a = ap access_of s ∙ acc in absurd (cc)
  accesses_checked (suc (suc q)) i a e acc =
      let w = at_line (suc (suc q)) i (omega arith) e in
      subst (λ pc. IsCheckedAt dropped p pc (source_at p a.site).mode a) (sym w.pc_is) (⊎_elim
      (λ (k : Accesses w.op_is). by_op w.line w.op_is w.at w.step i a k w.statement acc)
      (λ (k : AllIn Idle (own (body pl w.line w.op_is))).
      let all = all_append Idle (head (dropped w.line) w.line w.op_is ++ own (body pl w.line w.op_is)) (tail w.op_is)
      (all_append Idle (head (dropped w.line) w.line w.op_is) (own (body pl w.line w.op_is)) (head_idle (dropped w.line) w.line w.op_is) k) (tail_idle w.op_is) in
      let z : None ≡ Some a = sym (all_at Idle (expand pl (dropped w.line) w.line w.op_is) w.step i all w.statement) ∙ acc in
      absurd (cc))
      (own_idle w.line w.op_is))
