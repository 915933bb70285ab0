-- Statements, by how they are left.
use Rattle.sharc_flat.proofs.{Imports.{◌≡◌, ℕ, ◌+◌, ◌<◌, ◌≤◌, true, List, [], ◌∷◌, ◌++◌, length, get_or, take, refl, sym, ap, ◌∙◌, subst, ⊎_elim, arith, append_assoc, length-append, inl, inr, append-nil, take_at, length-map, ℤ, pos, ◌⊎◌, Site, Kind, is_integer, Assignment, State, Run, entered, is_reference, in_block, Flow, next, broken, continued, returned, Op, Spot, ref_count, at_site, ends_from, leaves, Slot, Around, result_code, zero_code}, Runs.{HasAt, has_front, has_back, Fin, fin_then, Same, weaken, step, enters_at, without_variables, unblock}, Agreeing.{slot_in, Standing, place, Agree, holding, same_frame, loose_of}, Popping.{AllNull, none_behind}, Blocks.block_ends}

module _ (m : Assignment) (z : Standing) (kind : Kind) (ints0 : ℕ → ℤ) where
  -- the variables of a scope are in place, and the callers' integers are untouched
  pub record Stand (scope : List Slot) (L : List ℤ) (int_bank ref_bank : ℕ → ℤ) (s : State) : Type 0 where
    pub agree : Agree z [] scope L int_bank ref_bank s
    pub kept : (n : ℕ) → n < z.ints → int_bank n ≡ ints0 n

  -- how a function is left with a value: the blocks end, and what makes the result comes after
  pub record Returning (scope : List Slot) (marks : List ℕ) (site : Site) (v : ℤ) (pc : ℕ) (int_bank ref_bank : ℕ → ℤ) (s : State) : Type 0 where
    pub tail : List Op
    pub code : HasAt z.flat.lines pc (leaves scope marks ++ tail)
    pub Z : List ℤ
    pub X : List ℤ
    pub nulls_are : AllNull Z
    pub stand : Stand scope (Z ++ X) int_bank ref_bank s
    pub made : ((i r : ℕ) × (tail ≡ result_code (is_reference kind) i r ++ Op.Return (at_site site) ∷ []) × (X ≡ loose_of (is_reference kind) v) × (r ≡ ref_count scope + length Z) × (is_integer kind ≡ true → int_bank (z.ints + i) ≡ v))
        ⊎ ((tail ≡ zero_code (is_reference kind) 0 0 ++ Op.Return (at_site site) ∷ []) × (X ≡ []) × (v ≡ pos 0))

  -- from where a statement is left, in each way
  pub record After (a : Around) (leaving : List Slot → Type 0) (end : ℕ) (scope : List Slot) (c : ℕ) (k : Flow → State → Fin) : Type 0 where
    pub next_runs : (ints refs : ℕ → ℤ) (s : State) → Stand scope [] ints refs s → Same z.flat s.fuel (c + 1 + ref_count scope) (k next s) s.answers (place z end ints refs s)
    pub broken_runs : (a.broken ≡ 0 → ⊥) → (at : List Slot) → leaving at → (pc : ℕ) (ints refs : ℕ → ℤ) (s : State) → HasAt z.flat.lines pc (leaves at a.inside ++ Op.Jump a.broken ∷ []) → Stand at [] ints refs s → Same z.flat s.fuel (c + 3 + ref_count at) (k broken s) s.answers (place z pc ints refs s)
    pub continued_runs : (a.broken ≡ 0 → ⊥) → (at : List Slot) → leaving at → (pc : ℕ) (ints refs : ℕ → ℤ) (s : State) → HasAt z.flat.lines pc (leaves at a.inside ++ Op.Jump a.continued ∷ []) → Stand at [] ints refs s → Same z.flat s.fuel (c + 3 + ref_count at) (k continued s) s.answers (place z pc ints refs s)
    pub returned_runs : (at : List Slot) → leaving at → (site : Site) (v : ℤ) (pc : ℕ) (ints refs : ℕ → ℤ) (s : State) → Returning at (a.inside ++ a.outside) site v pc ints refs s → Same z.flat s.fuel (c + 4 + ref_count at) (k (returned site v) s) s.answers (place z pc ints refs s)

  abbrev pub Here : List Slot → List Slot → Type 0
  Here scope at = at ≡ scope

  abbrev pub Beyond : List Slot → List Slot → Type 0
  Beyond scope at = (more : List Slot) × (at ≡ scope ++ more)

  abbrev pub StatementAs : Around → (List Slot → Type 0) → List Slot → List Slot → ℕ → Run Flow → (ℕ → List Op) → Type 0
  StatementAs a leaving scope scope' need run code = (pc c : ℕ) (ints refs : ℕ → ℤ) (s : State) (k : Flow → State → Fin) → HasAt z.flat.lines pc (code pc) → Stand scope [] ints refs s
      → After a leaving (pc + length (code pc)) scope' c k → Same z.flat s.fuel (c + need + ref_count scope) (fin_then (run s) k) s.answers (place z pc ints refs s)

  -- with fewer turns to spare
  pub after_less : (a : Around) (leaving : List Slot → Type 0) (end : ℕ) (scope : List Slot) (c d : ℕ) (k : Flow → State → Fin) → c ≤ d → After a leaving end scope c k → After a leaving end scope d k
  after_less a leaving end scope c d k le h = record {
    next_runs = λ ints refs s st. weaken z.flat s.fuel (c + 1 + ref_count scope) (d + 1 + ref_count scope) _ s.answers _ (omega arith) (h.next_runs ints refs s st);
    broken_runs = λ il at l pc ints refs s has st. weaken z.flat s.fuel (c + 3 + ref_count at) (d + 3 + ref_count at) _ s.answers _ (omega arith) (h.broken_runs il at l pc ints refs s has st);
    continued_runs = λ il at l pc ints refs s has st. weaken z.flat s.fuel (c + 3 + ref_count at) (d + 3 + ref_count at) _ s.answers _ (omega arith) (h.continued_runs il at l pc ints refs s has st);
    returned_runs = λ at l site v pc ints refs s w. weaken z.flat s.fuel (c + 4 + ref_count at) (d + 4 + ref_count at) _ s.answers _ (omega arith) (h.returned_runs at l site v pc ints refs s w);
  }

  pub after_at : (a : Around) (leaving : List Slot → Type 0) (end end' : ℕ) (scope : List Slot) (c : ℕ) (k : Flow → State → Fin) → end ≡ end' → After a leaving end' scope c k → After a leaving end scope c k
  after_at a leaving end end' scope c k e h = subst (λ q. After a leaving q scope c k) (sym e) h

  stand_same : (scope : List Slot) (L : List ℤ) (ints refs : ℕ → ℤ) (s s' : State) → s'.frame ≡ s.frame → s'.callers ≡ s.callers → Stand scope L ints refs s → Stand scope L ints refs s'
  stand_same scope L ints refs s s' ef ec h = record { agree = same_frame z [] scope L ints refs s s' ef ec h.agree; kept = h.kept }

  -- one more is entered
  pub entered_statement : (a : Around) (leaving : List Slot → Type 0) (scope scope' : List Slot) (need : ℕ) (run : Run Flow) (code : ℕ → List Op) → need ≤ 7 → StatementAs a leaving scope scope' need run code → StatementAs a leaving scope scope' 0 (entered run) (λ pc. Op.Enter ∷ code (pc + 1))
  entered_statement a leaving scope scope' need run code few of_run pc c ints refs s k has st rest =
      let end : pc + 1 + length (code (pc + 1)) ≡ pc + length (Op.Enter ∷ code (pc + 1)) = omega arith in
      weaken z.flat s.fuel (c + ref_count scope) (c + 0 + ref_count scope) _ s.answers _ (omega arith)
      (enters_at z.flat s.fuel (c + ref_count scope) run k s (place z pc ints refs s) (place z (pc + 1) ints refs s) refl (holding z [] scope ints refs s st.agree) refl refl has.0 refl
      (λ f. weaken z.flat f (c + need + ref_count scope) (c + ref_count scope + 7) _ s.answers _ (omega arith)
      (of_run (pc + 1) c ints refs (record s { fuel = f }) k has.1 (stand_same scope [] ints refs s (record s { fuel = f }) refl refl st) (after_at a leaving _ _ scope' c k end rest))))

  -- the line that marks the end of a block
  pub closed_runs : (a : Around) (scope : List Slot) (need : ℕ) (run : Run Flow) (code : ℕ → List Op) → StatementAs a (Here scope) scope scope need run code
      → StatementAs a (Here scope) scope scope (need + 1) run (λ pc. code pc ++ Op.BlockEnd ∷ [])
  closed_runs a scope need run code of_run pc c ints refs s k has st rest =
      let cs = code pc in
      let end : pc + length cs + 1 ≡ pc + length (cs ++ Op.BlockEnd ∷ []) = omega (arith, length-append cs (Op.BlockEnd ∷ [])) in
      let more = after_less a (Here scope) _ scope c (c + 1) k (omega arith) rest in
      weaken z.flat s.fuel (c + 1 + need + ref_count scope) (c + (need + 1) + ref_count scope) _ s.answers _ (omega arith)
      (of_run pc (c + 1) ints refs s k (has_front z.flat.lines pc cs (Op.BlockEnd ∷ []) has) st (record {
        next_runs = λ ints1 refs1 s1 st1.
            weaken z.flat s1.fuel (c + 1 + ref_count scope + 1) (c + 1 + 1 + ref_count scope) _ s1.answers _ (omega arith)
            (step z.flat Op.BlockEnd s1.fuel (c + 1 + ref_count scope) (k next s1) s1.answers (place z (pc + length cs) ints1 refs1 s1) (place z (pc + length cs + 1) ints1 refs1 s1) (has_back z.flat.lines pc cs (Op.BlockEnd ∷ []) has).0 refl
            (subst (λ q. Same z.flat s1.fuel (c + 1 + ref_count scope) (k next s1) s1.answers (place z q ints1 refs1 s1)) (sym end) (rest.next_runs ints1 refs1 s1 st1)));
        broken_runs = more.broken_runs;
        continued_runs = more.continued_runs;
        returned_runs = more.returned_runs;
      }))

  -- ---- blocks
  take_front : (xs ys : List Slot) → take (length xs) (xs ++ ys) ≡ xs
  take_front xs ys = take_at xs ys (length xs) refl

  -- what is done at the end of a block on the way out of it
  pub leave_block : {A : Type 0} (scope more : List Slot) (marks : List ℕ) (tail : List Op) (Z X : List ℤ) (pc c : ℕ) (x : A) (ints refs : ℕ → ℤ) (s : State) (k : A → State → Fin) → AllNull Z → HasAt z.flat.lines pc (leaves (scope ++ more) (length scope ∷ marks) ++ tail)
      → Stand (scope ++ more) (Z ++ X) ints refs s
      → ((pc' : ℕ) (refs' : ℕ → ℤ) (N : List ℤ) → AllNull N → ref_count scope + length N ≡ ref_count (scope ++ more) + length Z → HasAt z.flat.lines pc' (leaves scope marks ++ tail) → Stand scope (N ++ X) ints refs' (without_variables (length scope) s)
      → Same z.flat s.fuel (c + ref_count scope) (k x (without_variables (length scope) s)) s.answers (place z pc' ints refs' (without_variables (length scope) s)))
      → Same z.flat s.fuel (c + ref_count (scope ++ more)) (k x (without_variables (length scope) s)) s.answers (place z pc ints refs s)
  leave_block scope more marks tail Z X pc c x ints refs s k nz has st rest =
      let sc = scope ++ more in
      let n = length scope in
      let e : take n sc ≡ scope = take_front scope more in
      let has1 : HasAt z.flat.lines pc (ends_from sc n ++ (leaves (take n sc) marks ++ tail)) = subst (HasAt z.flat.lines pc) (append_assoc (ends_from sc n) (leaves (take n sc) marks) tail) has in
      block_ends z sc n Z X pc c x ints refs s k nz (has_front z.flat.lines pc (ends_from sc n) _ has1) st.agree
      (λ refs' N nn ln a1.
      let has2 : HasAt z.flat.lines (pc + length (ends_from sc n)) (leaves scope marks ++ tail) = subst (λ q. HasAt z.flat.lines (pc + length (ends_from sc n)) (leaves q marks ++ tail)) e (has_back z.flat.lines pc (ends_from sc n) _ has1) in
      let a2 : Agree z [] scope (N ++ X) ints refs' (without_variables n s) = subst (λ q. Agree z [] q (N ++ X) ints refs' (without_variables n s)) e a1 in
      subst (λ q. Same z.flat s.fuel (c + ref_count q) (k x (without_variables n s)) s.answers (place z (pc + length (ends_from sc n)) ints refs' (without_variables n s))) (sym e)
      (rest (pc + length (ends_from sc n)) refs' N nn (subst (λ q. ref_count q + length N ≡ ref_count sc + length Z) e ln) has2 (record { agree = a2; kept = st.kept })))

  -- a block, by its statements
  pub block_runs : (a : Around) (scope inner : List Slot) (need : ℕ) (run : Run Flow) (code : ℕ → List Op) → Beyond scope inner → StatementAs (record a { inside = length scope ∷ a.inside }) (Beyond scope) scope inner need run code
      → StatementAs a (Here scope) scope scope need (in_block run) (λ pc. code pc ++ ends_from inner (length scope))
  block_runs a scope inner need run code beyond of_run pc c ints refs s k has st rest =
      let n = length scope in
      let cs = code pc in
      let K : Flow → State → Fin = λ fl u. k fl (without_variables n u) in
      let variables_are : length s.frame.variables ≡ n = sym (length-map s.frame.variables slot_in) ∙ ap length st.agree.shape in
      let end : pc + length cs + length (ends_from inner n) ≡ pc + length (cs ++ ends_from inner n) = omega (arith, length-append cs (ends_from inner n)) in
      unblock z.flat s.fuel (c + need + ref_count scope) (length s.frame.variables) s.answers (run s) k (place z pc ints refs s)
      (subst (λ q. Same z.flat s.fuel (c + need + ref_count scope) (fin_then (run s) (λ fl u. k fl (without_variables q u))) s.answers (place z pc ints refs s)) (sym variables_are)
      (of_run pc c ints refs s K (has_front z.flat.lines pc cs (ends_from inner n) has) st (record {
        next_runs = λ ints1 refs1 s1 st1.
            let has1 = subst (λ q. HasAt z.flat.lines (pc + length cs) q) (sym (append-nil (ends_from inner n))) (has_back z.flat.lines pc cs (ends_from inner n) has) in
            let e : take n inner ≡ scope = ap (take n) beyond.1 ∙ take_front scope beyond.0 in
            block_ends z inner n [] [] (pc + length cs) (c + 1) next ints1 refs1 s1 k (λ j. refl) (has_back z.flat.lines pc cs (ends_from inner n) has) st1.agree
            (λ refs' N nn ln a1.
            let a2 : Agree z [] scope [] ints1 refs' (without_variables n s1) = subst (λ q. Agree z [] q [] ints1 refs' (without_variables n s1)) e (none_behind z (take n inner) [] (N ++ []) ints1 refs' (without_variables n s1) (λ j. ap (λ l. get_or l j (pos 0)) (append-nil N) ∙ nn j) a1) in
            subst (λ q. Same z.flat s1.fuel (c + 1 + ref_count q) (k next (without_variables n s1)) s1.answers (place z (pc + length cs + length (ends_from inner n)) ints1 refs' (without_variables n s1))) (sym e)
            (subst (λ q. Same z.flat s1.fuel (c + 1 + ref_count scope) (k next (without_variables n s1)) s1.answers (place z q ints1 refs' (without_variables n s1))) (sym end)
            (rest.next_runs ints1 refs' (without_variables n s1) (record { agree = a2; kept = st1.kept }))));
        broken_runs = λ il at l pc1 ints1 refs1 s1 has1 st1.
            subst (λ q. Same z.flat s1.fuel (c + 3 + ref_count q) (K broken s1) s1.answers (place z pc1 ints1 refs1 s1)) (sym l.1)
            (leave_block scope l.0 a.inside (Op.Jump a.broken ∷ []) [] [] pc1 (c + 3) broken ints1 refs1 s1 k (λ j. refl) (subst (λ q. HasAt z.flat.lines pc1 (leaves q (n ∷ a.inside) ++ Op.Jump a.broken ∷ [])) l.1 has1) (subst (λ q. Stand q [] ints1 refs1 s1) l.1 st1)
            (λ pc2 refs' N nn ln has2 st2. rest.broken_runs il scope refl pc2 ints1 refs' (without_variables n s1) has2
            (record { agree = none_behind z scope [] (N ++ []) ints1 refs' (without_variables n s1) (λ j. ap (λ l. get_or l j (pos 0)) (append-nil N) ∙ nn j) st2.agree; kept = st2.kept })));
        continued_runs = λ il at l pc1 ints1 refs1 s1 has1 st1.
            subst (λ q. Same z.flat s1.fuel (c + 3 + ref_count q) (K continued s1) s1.answers (place z pc1 ints1 refs1 s1)) (sym l.1)
            (leave_block scope l.0 a.inside (Op.Jump a.continued ∷ []) [] [] pc1 (c + 3) continued ints1 refs1 s1 k (λ j. refl) (subst (λ q. HasAt z.flat.lines pc1 (leaves q (n ∷ a.inside) ++ Op.Jump a.continued ∷ [])) l.1 has1) (subst (λ q. Stand q [] ints1 refs1 s1) l.1 st1)
            (λ pc2 refs' N nn ln has2 st2. rest.continued_runs il scope refl pc2 ints1 refs' (without_variables n s1) has2
            (record { agree = none_behind z scope [] (N ++ []) ints1 refs' (without_variables n s1) (λ j. ap (λ l. get_or l j (pos 0)) (append-nil N) ∙ nn j) st2.agree; kept = st2.kept })));
        returned_runs = λ at l site v pc1 ints1 refs1 s1 w.
            subst (λ q. Same z.flat s1.fuel (c + 4 + ref_count q) (K (returned site v) s1) s1.answers (place z pc1 ints1 refs1 s1)) (sym l.1)
            (leave_block scope l.0 (a.inside ++ a.outside) w.tail w.Z w.X pc1 (c + 4) (returned site v) ints1 refs1 s1 k w.nulls_are (subst (λ q. HasAt z.flat.lines pc1 (leaves q (n ∷ (a.inside ++ a.outside)) ++ w.tail)) l.1 w.code) (subst (λ q. Stand q (w.Z ++ w.X) ints1 refs1 s1) l.1 w.stand)
            (λ pc2 refs' N nn ln has2 st2. rest.returned_runs scope refl site v pc2 ints1 refs' (without_variables n s1) (record {
              tail = w.tail;
              code = has2;
              Z = N;
              X = w.X;
              nulls_are = nn;
              stand = st2;
              made = ⊎_elim
                  (λ (h : (i r : ℕ) × (w.tail ≡ result_code (is_reference kind) i r ++ Op.Return (at_site site) ∷ []) × (w.X ≡ loose_of (is_reference kind) v) × (r ≡ ref_count at + length w.Z) × (is_integer kind ≡ true → ints1 (z.ints + i) ≡ v)).
                  inl (h.0, h.1, h.2, h.3, h.4 ∙ ap (λ q. ref_count q + length w.Z) l.1 ∙ sym ln, h.5))
                  (λ (h : (w.tail ≡ zero_code (is_reference kind) 0 0 ++ Op.Return (at_site site) ∷ []) × (w.X ≡ []) × (v ≡ pos 0)). inr h)
                  w.made;
            })));
      })))
