-- Functions, from their first statement to where they return.
use Rattle.sharc_flat.proofs.{Imports.{◌≡◌, ℕ, ◌+◌, ◌<◌, Bool, true, false, cond, List, [], ◌∷◌, ◌++◌, length, get_or, map, Some, refl, sym, ap, ◌∙◌, subst, ⊎_elim, arith, append_assoc, append-nil, ℤ, pos, slice_get, Site, Declaration, Function, Kind, is_integer, is_pointer, declared_kind, declared_kinds, Assignment, State, Run, ◌>>=◌, ◌>>◌, give, entered, is_reference, pointers_among, ends_variables, new_variable, Flow, Variable, parameters_begin, left_at, Op, Spot, put, int_count, ref_count, at_site, ends_from, slot_of, Slot, result_code, zero_code, around_body, parameters_scope}, Banks.{bank_is, put_same, put_other}, Runs.{HasAt, has_front, has_back, Fin, fin_then, Same, weaken, step, bind, enters_at, without_variables, unblock}, Agreeing.{slots_of, int_values, ints_length, Standing, place, Agree, below, holding, push, drop_last, last_is, with_int, same_frame, loose_of}, Values.apart, Popping.{AllNull, none_behind}, Blocks.block_ends, Executing.{Stand, Beyond, StatementAs, leave_block}, Calling.{refs_of, ints_of}}

-- the variables that the parameters are
abbrev pub begun : List Declaration → List ℤ → List Variable
begun [] vs = []
begun (d ∷ ds) [] = new_variable d (pos 0) ∷ begun ds []
begun (d ∷ ds) (v ∷ vs) = new_variable d v ∷ begun ds vs

pub begun_slots : (ds : List Declaration) (vs : List ℤ) → slots_of (begun ds vs) ≡ map slot_of ds
begun_slots [] vs = refl
begun_slots (d ∷ ds) [] = ap (λ l. slot_of d ∷ l) (begun_slots ds [])
begun_slots (d ∷ ds) (v ∷ vs) = ap (λ l. slot_of d ∷ l) (begun_slots ds vs)

pub begun_refs : (ds : List Declaration) (vs : List ℤ) → length vs ≡ length ds → pointers_among (begun ds vs) ≡ refs_of (declared_kinds ds) vs
begun_refs [] vs h = refl
begun_refs (d ∷ ds) [] h = absurd (omega arith)
begun_refs (d ∷ ds) (v ∷ vs) h = ap (λ l. cond (is_pointer (declared_kind d.written)) (v ∷ l) l) (begun_refs ds vs (omega arith))

pub begun_ints : (ds : List Declaration) (vs : List ℤ) → length vs ≡ length ds → int_values (begun ds vs) ≡ ints_of (declared_kinds ds) vs
begun_ints [] vs h = refl
begun_ints (d ∷ ds) [] h = absurd (omega arith)
begun_ints (d ∷ ds) (v ∷ vs) h = ap (λ l. cond (is_pointer (declared_kind d.written)) l (v ∷ l)) (begun_ints ds vs (omega arith))

module _ (m : Assignment) (z : Standing) (f : Function) (ints0 : ℕ → ℤ) where
  abbrev kind : Kind
  kind = declared_kind f.result

  abbrev S : List Slot → List ℤ → (ℕ → ℤ) → (ℕ → ℤ) → State → Type 0
  S scope L ints refs s = Stand m z kind ints0 scope L ints refs s

  abbrev with_variables : List Variable → State → State → Type 0
  with_variables vs s s' = (s'.frame.variables ≡ s.frame.variables ++ vs) × (s'.frame.temporaries ≡ s.frame.temporaries) × (s'.callers ≡ s.callers)

  parameters_run : (ds : List Declaration) (vs : List ℤ) (pc c : ℕ) (ints refs : ℕ → ℤ) (s : State) (k : Unit {0} → State → Fin)
      → ((s' : State) → with_variables (begun ds vs) s s' → Same z.flat s'.fuel c (k tt s') s'.answers (place z pc ints refs s')) → Same z.flat s.fuel c (fin_then (parameters_begin ds vs s) k) s.answers (place z pc ints refs s)
  parameters_run [] vs pc c ints refs s k h = h s (sym (append-nil s.frame.variables), refl, refl)
  parameters_run (d ∷ ds) [] pc c ints refs s k h =
      parameters_run ds [] pc c ints refs _ k (λ s' w. h s' (w.0 ∙ append_assoc s.frame.variables (new_variable d (pos 0) ∷ []) (begun ds []), w.1, w.2))
  parameters_run (d ∷ ds) (v ∷ vs) pc c ints refs s k h =
      parameters_run ds vs pc c ints refs _ k (λ s' w. h s' (w.0 ∙ append_assoc s.frame.variables (new_variable d v ∷ []) (begun ds vs), w.1, w.2))

  -- where a function returns
  abbrev pub AtReturn : ℕ → (Site × ℤ → State → Fin) → Type 0
  AtReturn c k = (site : Site) (v : ℤ) (pc : ℕ) (ints refs : ℕ → ℤ) (s : State) → slice_get z.flat.lines pc ≡ Some (Op.Return (at_site site)) → S [] (loose_of (is_reference kind) v) ints refs s → (is_integer kind ≡ true → ints (z.ints + 0) ≡ v)
      → Same z.flat s.fuel (c + 1) (k (site, v) s) s.answers (place z pc ints refs s)

  zero_by : (b : Bool) (site : Site) (pc c : ℕ) (ints refs : ℕ → ℤ) (s : State) (k : Site × ℤ → State → Fin) → is_reference kind ≡ b → HasAt z.flat.lines pc (zero_code b 0 0 ++ Op.Return (at_site site) ∷ []) → S [] [] ints refs s → AtReturn c k
      → Same z.flat s.fuel (c + 2) (k (site, pos 0) s) s.answers (place z pc ints refs s)
  zero_by true site pc c ints refs s k e has st rest =
      let refs1 = put refs (z.refs + 0) (pos 0) in
      let two : c + 1 + 1 ≡ c + 2 = omega arith in
      let a1 : Agree z [] [] (pos 0 ∷ []) ints refs1 s = push z [] [] [] (pos 0) 0 ints refs s refl st.agree in
      subst (λ q. Same z.flat s.fuel q (k (site, pos 0) s) s.answers (place z pc ints refs s)) two
      (step z.flat (Op.Null 0) s.fuel (c + 1) (k (site, pos 0) s) s.answers (place z pc ints refs s) (place z (pc + 1) ints refs1 s) has.0 refl
      (rest site (pos 0) (pc + 1) ints refs1 s has.1.0 (record { agree = subst (λ b. Agree z [] [] (loose_of b (pos 0)) ints refs1 s) (sym e) a1; kept = st.kept }) (λ h. absurd (apart kind e h))))
  zero_by false site pc c ints refs s k e has st rest =
      let ints1 = put ints (z.ints + 0) (pos 0) in
      let two : c + 1 + 1 ≡ c + 2 = omega arith in
      let a1 : Agree z [] [] [] ints1 refs s = with_int z [] [] [] 0 (pos 0) ints refs s (omega arith) st.agree in
      subst (λ q. Same z.flat s.fuel q (k (site, pos 0) s) s.answers (place z pc ints refs s)) two
      (step z.flat (Op.Constant 0 (pos 0)) s.fuel (c + 1) (k (site, pos 0) s) s.answers (place z pc ints refs s) (place z (pc + 1) ints1 refs s) has.0 refl
      (rest site (pos 0) (pc + 1) ints1 refs s has.1.0 (record { agree = subst (λ b. Agree z [] [] (loose_of b (pos 0)) ints1 refs s) (sym e) a1; kept = λ n lt. put_other ints (z.ints + 0) (pos 0) n (λ h. omega arith) ∙ st.kept n lt }) (λ h. put_same ints (z.ints + 0) (pos 0))))

  value_by : (b : Bool) (site : Site) (v : ℤ) (i r pc c : ℕ) (N : List ℤ) (ints refs : ℕ → ℤ) (s : State) (k : Site × ℤ → State → Fin) → is_reference kind ≡ b → HasAt z.flat.lines pc (result_code b i r ++ Op.Return (at_site site) ∷ []) → AllNull N → r ≡ length N
      → S [] (N ++ loose_of b v) ints refs s → (is_integer kind ≡ true → ints (z.ints + i) ≡ v) → AtReturn c k → Same z.flat s.fuel (c + 2) (k (site, v) s) s.answers (place z pc ints refs s)
  value_by true site v i r pc c N ints refs s k e has nn rn st value rest =
      let r1 : r ≡ 0 + 0 + length N = omega arith in
      let two : c + 1 + 1 ≡ c + 2 = omega arith in
      let v_is : refs (z.refs + r) ≡ v = last_is z [] [] N v [] r ints refs s r1 st.agree in
      let a1 : Agree z [] [] N ints (put refs (z.refs + r) (pos 0)) s = drop_last z [] [] N v r ints refs s r1 st.agree in
      let a2 : Agree z [] [] [] ints (put refs (z.refs + r) (pos 0)) s = none_behind z [] [] N ints (put refs (z.refs + r) (pos 0)) s nn a1 in
      let bank = put (put refs (z.refs + r) (pos 0)) (z.refs + 0) (refs (z.refs + r)) in
      let a3 : Agree z [] [] (v ∷ []) ints bank s = subst (λ x. Agree z [] [] (x ∷ []) ints bank s) v_is (push z [] [] [] (refs (z.refs + r)) 0 ints (put refs (z.refs + r) (pos 0)) s refl a2) in
      subst (λ q. Same z.flat s.fuel q (k (site, v) s) s.answers (place z pc ints refs s)) two
      (step z.flat (Op.MoveReference 0 r) s.fuel (c + 1) (k (site, v) s) s.answers (place z pc ints refs s) (place z (pc + 1) ints bank s) has.0 refl
      (rest site v (pc + 1) ints bank s has.1.0 (record { agree = subst (λ b. Agree z [] [] (loose_of b v) ints bank s) (sym e) a3; kept = st.kept }) (λ h. absurd (apart kind e h))))
  value_by false site v i r pc c N ints refs s k e has nn rn st value rest =
      let ints1 = put ints (z.ints + 0) (ints (z.ints + i)) in
      let two : c + 1 + 1 ≡ c + 2 = omega arith in
      let a0 : Agree z [] [] [] ints refs s = none_behind z [] [] (N ++ []) ints refs s (λ j. ap (λ l. get_or l j (pos 0)) (append-nil N) ∙ nn j) st.agree in
      let a1 : Agree z [] [] [] ints1 refs s = with_int z [] [] [] 0 (ints (z.ints + i)) ints refs s (omega arith) a0 in
      subst (λ q. Same z.flat s.fuel q (k (site, v) s) s.answers (place z pc ints refs s)) two
      (step z.flat (Op.Move 0 i) s.fuel (c + 1) (k (site, v) s) s.answers (place z pc ints refs s) (place z (pc + 1) ints1 refs s) has.0 refl
      (rest site v (pc + 1) ints1 refs s has.1.0 (record { agree = subst (λ b. Agree z [] [] (loose_of b v) ints1 refs s) (sym e) a1; kept = λ n lt. put_other ints (z.ints + 0) _ n (λ h. omega arith) ∙ st.kept n lt })
      (λ h. put_same ints (z.ints + 0) _ ∙ value h)))

  -- a function runs, from its first statement on
  pub function_runs : (vs : List ℤ) (entry c : ℕ) (refs : ℕ → ℤ) (run : Run Flow) (inner : List Slot) (code : ℕ → List Op) → (let ps = parameters_scope f.parameters in
      Beyond m z kind ints0 ps inner → StatementAs m z kind ints0 (around_body f) (Beyond m z kind ints0 ps) ps inner 1 run code
      → HasAt z.flat.lines entry (Op.Enter ∷ (code (entry + 1) ++ (ends_from inner 0 ++ (zero_code (is_reference kind) 0 0 ++ Op.Return (at_site f.body.last) ∷ []))))
      → (s : State) (k : Site × ℤ → State → Fin) → s.frame.variables ≡ [] → Agree z [] [] (pointers_among (begun f.parameters vs)) ints0 refs s
      → ((j : ℕ) → j < length (int_values (begun f.parameters vs)) → ints0 (z.ints + j) ≡ get_or (int_values (begun f.parameters vs)) j (pos 0))
      → AtReturn c k
      → Same z.flat s.fuel (c + ref_count ps) (fin_then (ends_variables 0 ((parameters_begin f.parameters vs >> (entered run >>= λ flow. give (left_at f flow))) s)) k) s.answers (place z entry ints0 refs s))
  function_runs vs entry c refs run inner code beyond statements has s k none a values rest =
      let ps = parameters_scope f.parameters in
      let C = code (entry + 1) in
      let tail = zero_code (is_reference kind) 0 0 ++ Op.Return (at_site f.body.last) ∷ [] in
      let E = ends_from inner 0 in
      let has_e = has_back z.flat.lines (entry + 1) C (E ++ tail) has.1 in
      let K : Site × ℤ → State → Fin = λ x u. k x (without_variables 0 u) in
      unblock z.flat s.fuel (c + ref_count ps) 0 s.answers ((parameters_begin f.parameters vs >> (entered run >>= λ flow. give (left_at f flow))) s) k (place z entry ints0 refs s)
      (bind z.flat s.fuel (c + ref_count ps) s.answers (parameters_begin f.parameters vs s) (λ _. entered run >>= λ flow. give (left_at f flow)) K (place z entry ints0 refs s)
      (parameters_run f.parameters vs entry (c + ref_count ps) ints0 refs s (λ _ u. fin_then ((entered run >>= λ flow. give (left_at f flow)) u) K) (λ s1 w.
      let vars : s1.frame.variables ≡ begun f.parameters vs = w.0 ∙ ap (λ l. l ++ begun f.parameters vs) none in
      let shape : slots_of s1.frame.variables ≡ ps = ap slots_of vars ∙ begun_slots f.parameters vs in
      let count : length (int_values (begun f.parameters vs)) ≡ int_count ps = ints_length (begun f.parameters vs) ∙ ap int_count (begun_slots f.parameters vs) in
      let a1 : Agree z [] ps [] ints0 refs s1 = record {
        callers = w.2 ∙ a.callers;
        temporaries = w.1 ∙ a.temporaries;
        shape = shape;
        ints = λ j lt. values j (omega (arith, count)) ∙ ap (λ l. get_or (int_values l) j (pos 0)) (sym vars);
        refs = bank_is refs _ _ (ap (λ l. below z.callers ++ (l ++ pointers_among (begun f.parameters vs))) (ap pointers_among none) ∙ ap (λ l. below z.callers ++ l) (sym (append-nil (pointers_among (begun f.parameters vs)))) ∙ ap (λ l. below z.callers ++ (pointers_among l ++ [])) (sym vars)) a.refs;
      } in
      bind z.flat s1.fuel (c + ref_count ps) s1.answers (entered run s1) (λ flow. give (left_at f flow)) K (place z entry ints0 refs s1)
      (enters_at z.flat s1.fuel (c + ref_count ps) run (λ flow u. K (left_at f flow) u) s1 (place z entry ints0 refs s1) (place z (entry + 1) ints0 refs s1) refl (holding z [] ps ints0 refs s1 a1) refl refl has.0 refl
      (λ fuel.
      let s2 : State = record s1 { fuel = fuel } in
      let a2 : Agree z [] ps [] ints0 refs s2 = same_frame z [] ps [] ints0 refs s1 s2 refl refl a1 in
      weaken z.flat fuel (c + 1 + 1 + ref_count ps) (c + ref_count ps + 7) _ s1.answers _ (omega arith)
      (statements (entry + 1) (c + 1) ints0 refs s2 (λ flow u. K (left_at f flow) u) (has_front z.flat.lines (entry + 1) C (E ++ tail) has.1) (record { agree = a2; kept = λ n lt. refl }) (record {
        next_runs = λ ints1 refs1 s3 st.
            weaken z.flat s3.fuel (c + 2 + ref_count inner) (c + 1 + 1 + ref_count inner) _ s3.answers _ (omega arith)
            (block_ends z inner 0 [] [] (entry + 1 + length C) (c + 2) (f.body.last, pos 0) ints1 refs1 s3 k (λ j. refl) (has_front z.flat.lines (entry + 1 + length C) E tail has_e) st.agree
            (λ refs2 N nn ln a3.
            let a4 : Agree z [] [] [] ints1 refs2 (without_variables 0 s3) = none_behind z [] [] (N ++ []) ints1 refs2 (without_variables 0 s3) (λ j. ap (λ l. get_or l j (pos 0)) (append-nil N) ∙ nn j) a3 in
            weaken z.flat s3.fuel (c + 2) (c + 2 + 0) _ s3.answers _ (omega arith)
            (zero_by (is_reference kind) f.body.last (entry + 1 + length C + length E) c ints1 refs2 (without_variables 0 s3) k refl (has_back z.flat.lines (entry + 1 + length C) E tail has_e) (record { agree = a4; kept = st.kept }) rest)));
        broken_runs = λ il at l. absurd (il refl);
        continued_runs = λ il at l. absurd (il refl);
        returned_runs = λ at l site v pc ints1 refs1 s3 w3.
            weaken z.flat s3.fuel (c + 2 + ref_count at) (c + 1 + 4 + ref_count at) _ s3.answers _ (omega arith)
            (leave_block m z kind ints0 [] at [] w3.tail w3.Z w3.X pc (c + 2) (site, v) ints1 refs1 s3 k w3.nulls_are w3.code w3.stand
            (λ pc2 refs2 N nn ln has2 st2.
            weaken z.flat s3.fuel (c + 2) (c + 2 + 0) _ s3.answers _ (omega arith)
            (⊎_elim
            (λ (h : (i r : ℕ) × (w3.tail ≡ result_code (is_reference kind) i r ++ Op.Return (at_site site) ∷ []) × (w3.X ≡ loose_of (is_reference kind) v) × (r ≡ ref_count at + length w3.Z) × (is_integer kind ≡ true → ints1 (z.ints + i) ≡ v)).
            value_by (is_reference kind) site v h.0 h.1 pc2 c N ints1 refs2 (without_variables 0 s3) k refl (subst (HasAt z.flat.lines pc2) h.2 has2) nn (omega (arith, h.4, ln)) (subst (λ x. S [] (N ++ x) ints1 refs2 (without_variables 0 s3)) h.3 st2) h.5 rest)
            (λ (h : (w3.tail ≡ zero_code (is_reference kind) 0 0 ++ Op.Return (at_site site) ∷ []) × (w3.X ≡ []) × (v ≡ pos 0)).
            let a4 : Agree z [] [] [] ints1 refs2 (without_variables 0 s3) = none_behind z [] [] (N ++ []) ints1 refs2 (without_variables 0 s3) (λ j. ap (λ l. get_or l j (pos 0)) (append-nil N) ∙ nn j) (subst (λ x. Agree z [] [] (N ++ x) ints1 refs2 (without_variables 0 s3)) h.1 st2.agree) in
            subst (λ x. Same z.flat s3.fuel (c + 2) (k (site, x) (without_variables 0 s3)) s3.answers (place z pc2 ints1 refs2 (without_variables 0 s3))) (sym h.2)
            (zero_by (is_reference kind) site pc2 c ints1 refs2 (without_variables 0 s3) k refl (subst (HasAt z.flat.lines pc2) h.0 has2) (record { agree = a4; kept = st2.kept }) rest))
            w3.made)));
      })))))))
