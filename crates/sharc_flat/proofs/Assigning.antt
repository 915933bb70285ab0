-- Assignments, declarations, calls as statements, and returns.
use Rattle.sharc_flat.proofs.{Imports.{◌≡◌, ℕ, ◌+◌, ◌<◌, Bool, true, false, cond, List, [], ◌∷◌, ◌++◌, length, Option, Some, None, refl, sym, ap, ◌∙◌, subst, arith, length-append, append-nil, ℤ, pos, Site, Span, Kind, is_integer, is_pointer, Register, Int, Reference, Assignment, Sharing, Released, StorePlace, variable, stored, number_of, State, Run, ◌>>=◌, is_reference, all_released, temporarily, done, gives_up as source_gives_up, drops, Op, Spot, goes, put, Lvalue, int_count, ref_count, register_of, slot_kind, Slot, Target, in_global_at, in_object_at, has_base, base_width, field_of, guard_field, beside_field, guard_cell, guard_code, spot_of, drop_base, settle_base, settle_code, cell_store_code, store_code, cell_take_code, take_code, target, own_field, global_of, bounds_code, index_code, pointee_code, width_of, base_as_width, width_code, guard_width, index_width, PathStands, is_cell, drop_code}, Runs.{HasAt, has_front, has_back, Fin, fin_then, Same, weaken, step, bind, without}, Agreeing.{Standing, place, Agree, drop_last, last_is, same_frame, loose_of, Valued}, Accessing.context, Values.{bases_count, BasesOf, RunsAs, Lies, bases_are, PlaceAs, at_cell, temporarily_runs}, Computing.none_end, Executing.Stand, Statements.StepAs, Storing.{store_cell, store_int, store_reference, stores}}
use Rattle.sharc_flat.specs.Places as targets

module _ (m : Assignment) (z : Standing) (kind : Kind) (ints0 : ℕ → ℤ) where
  abbrev S : List Slot → List ℤ → (ℕ → ℤ) → (ℕ → ℤ) → State → Type 0
  S scope L ints refs s = Stand m z kind ints0 scope L ints refs s

  -- ---- what an lvalue names is not moved by what comes after it
  lies_kept : (scope : List Slot) (t : Target) (guard : Option ℕ) (i : ℕ) (ints ints' : ℕ → ℤ) (bases : List ℤ) (p : StorePlace) → ((n : ℕ) → n < z.ints + (i + index_width t guard) → ints' n ≡ ints n) → Lies m z scope t guard i ints bases p → Lies m z scope t guard i ints' bases p
  lies_kept scope (in_global_at g f) None i ints ints' bases p kept h = (h.0, h.1, h.2, kept (z.ints + i) (omega arith) ∙ h.3, λ mutex e. absurd (cc))
  lies_kept scope (in_global_at g f) (Some n) i ints ints' bases p kept h = (h.0, h.1, h.2, kept (z.ints + i) (omega arith) ∙ h.3, λ mutex e. kept (z.ints + (i + 1)) (omega arith) ∙ h.4 mutex e)
  lies_kept scope (in_object_at f) None i ints ints' bases p kept h = (h.0, h.1, h.2, h.3, kept (z.ints + i) (omega arith) ∙ h.4, λ mutex e. absurd (cc), h.6)
  lies_kept scope (in_object_at f) (Some n) i ints ints' bases p kept h = (h.0, h.1, h.2, h.3, kept (z.ints + i) (omega arith) ∙ h.4, λ mutex e. kept (z.ints + (i + 1)) (omega arith) ∙ h.5 mutex e, h.6)
  lies_kept scope _ guard i ints ints' bases p kept h = h

  store_code_is : (scope : List Slot) (i r vi vr : ℕ) (site : Site) (lvalue : Lvalue) (mode : Sharing) (b : Bool) (t : Target) → is_cell t ≡ true → store_code (context m z scope) i r vi vr site lvalue mode b t ≡ cell_store_code (context m z scope) i r vi vr site lvalue mode b t
  store_code_is scope i r vi vr site lvalue mode b (targets.variable x) e = absurd (cc)
  store_code_is scope i r vi vr site lvalue mode b _ e = refl

  -- what comes after the base and the index of a place
  base_of : (b : Bool) (bases : List ℤ) → BasesOf b bases → (r n : ℕ) → r ≡ n + 0 → r + cond b 1 0 ≡ n + length bases
  base_of b bases h r n e = omega (arith, bases_count b bases h)

  -- ---- an assignment to a cell
  pub assign_cell_runs : (scope : List Slot) (t : Target) (ku kr : Kind) (place_run : Run StorePlace) (pcode : ℕ → ℕ → List Op) (right : Run ℤ) (rcode : ℕ → ℕ → List Op) (site : Site) (lvalue : Lvalue) (mode : Sharing)
      → is_cell t ≡ true → is_pointer ku ≡ is_reference ku → is_reference kr ≡ is_reference ku → (is_reference ku ≡ false → is_integer kr ≡ true) → PathStands m.typed scope mode
      → PlaceAs m z scope t None (beside_field m.typed mode) 0 place_run pcode → RunsAs m z scope kr 3 right rcode
      → (let c = context m z scope in let i = int_count scope in let r = ref_count scope in let vi = i + index_width t (beside_field m.typed mode) in let vr = r + base_width t in
      StepAs m z kind ints0 scope scope 0 (temporarily (place_run >>= λ p. right >>= λ v. stored m.typed site ku mode p v)) (pcode i r ++ (rcode vi vr ++ store_code c i r vi vr site lvalue mode (is_reference ku) t)))
  assign_cell_runs scope t ku kr place_run pcode right rcode site lvalue mode cell_t pointer same scalar path found of_right pc c ints refs s k has st rest =
      let ctx = context m z scope in
      let i = int_count scope in
      let r = ref_count scope in
      let guard = beside_field m.typed mode in
      let vi = i + index_width t guard in
      let vr = r + base_width t in
      let b = is_reference ku in
      let d = c + ref_count scope in
      let sc = store_code ctx i r vi vr site lvalue mode b t in
      let cs = cell_store_code ctx i r vi vr site lvalue mode b t in
      let code_is = store_code_is scope i r vi vr site lvalue mode b t cell_t in
      let P = pcode i r in
      let R = rcode vi vr in
      let has_r = has_back z.flat.lines pc P (R ++ sc) has in
      let has_s = subst (HasAt z.flat.lines (pc + length P + length R)) code_is (has_back z.flat.lines (pc + length P) R sc has_r) in
      let end : pc + length P + length R + length cs ≡ pc + length (P ++ (R ++ sc)) = omega (arith, length-append P (R ++ sc), length-append R sc, ap length code_is) in
      let K : Unit {0} → State → Fin = λ x u. k x (without 0 u) in
      let r0 : r ≡ r + 0 = omega arith in
      weaken z.flat s.fuel (d + 0) (c + 0 + ref_count scope) _ s.answers _ (omega arith)
      (temporarily_runs m z scope [] s.fuel (d + 0) s.answers (place_run >>= λ p. right >>= λ v. stored m.typed site ku mode p v) s k (place z pc ints refs s) st.agree.temporaries
      (bind z.flat s.fuel (d + 0) s.answers (place_run s) (λ p. right >>= λ v. stored m.typed site ku mode p v) K (place z pc ints refs s)
      (found [] i r pc d ints refs s (λ p u. fin_then ((right >>= λ v. stored m.typed site ku mode p v) u) K) (has_front z.flat.lines pc P (R ++ sc) has) (omega arith) r0 st.agree
      (λ p bases ints1 refs1 s1 w.
      let count = bases_are m z scope t guard i ints1 bases p w.lies in
      let vr_is : vr ≡ ref_count scope + length bases = base_of (has_base t) bases count r (ref_count scope) r0 in
      bind z.flat s1.fuel (d + 6) s1.answers (right s1) (λ v. stored m.typed site ku mode p v) K (place z (pc + length P) ints1 refs1 s1)
      (weaken z.flat s1.fuel (d + 3) (d + 6) _ s1.answers _ (omega arith)
      (of_right bases vi vr (pc + length P) d ints1 refs1 s1 (λ v u. fin_then (stored m.typed site ku mode p v u) K) (has_front z.flat.lines (pc + length P) R sc has_r) (omega arith) vr_is w.agree
      (λ v ints2 refs2 s2 w2.
      let a2 : Agree z bases scope (loose_of b v) ints2 refs2 s2 = subst (λ x. Agree z bases scope (loose_of x v) ints2 refs2 s2) same w2.agree in
      let lies2 = lies_kept scope t guard i ints1 ints2 bases p w2.kept w.lies in
      let at = at_cell m z scope t guard [] (loose_of b v) i r bases p ints2 refs2 s2 cell_t r0 a2 lies2 in
      subst (λ q. Same z.flat s2.fuel (d + 6) (fin_then (stored m.typed site ku mode q v s2) K) s2.answers (place z (pc + length P + length R) ints2 refs2 s2)) (sym at.is)
      (subst (λ bp. Same z.flat s2.fuel (d + 6) (fin_then (stores m z scope b bp site mode at.object at.first (at.first + field_of t) v s2) K) s2.answers (place z (pc + length P + length R) ints2 refs2 s2)) (sym pointer)
      (weaken z.flat s2.fuel (d + 3) (d + 6) _ s2.answers _ (omega arith)
      (store_cell m z scope [] bases t guard i r vi vr ints2 refs2 p at site lvalue mode refl path refl r0 count b v (pc + length P + length R) d s2 k has_s a2 (λ e. w2.value (scalar e))
      (λ refs3 u a3. subst (λ q. Same z.flat u.fuel d (k tt u) u.answers (place z q ints2 refs3 u)) (sym end)
      (rest ints2 refs3 u (record { agree = a3; kept = λ n lt. w2.kept n (omega arith) ∙ w.kept n (omega arith) ∙ st.kept n lt })))))))))))))

  -- ---- an assignment to a variable
  pub assign_variable_runs : (scope : List Slot) (x : ℕ) (ku kr : Kind) (right : Run ℤ) (rcode : ℕ → ℕ → List Op) (site : Site) (mode : Sharing)
      → is_reference kr ≡ is_reference ku → (is_reference ku ≡ false → is_integer kr ≡ true) → slot_kind scope x ≡ Some (is_reference ku) → RunsAs m z scope kr 3 right rcode
      → (let i = int_count scope in let r = ref_count scope in
      (pc c : ℕ) (ints refs : ℕ → ℤ) (s : State) (k : Unit {0} → State → Fin) → HasAt z.flat.lines pc (rcode i r ++ settle_code i r (register_of scope x)) → S scope [] ints refs s
      → ((ints' refs' : ℕ → ℤ) (s' : State) → S scope [] ints' refs' s' → Same z.flat s'.fuel (c + ref_count scope) (k tt s') s'.answers (place z (pc + length (rcode i r) + 1) ints' refs' s'))
      → Same z.flat s.fuel (c + 3 + ref_count scope) (fin_then ((right >>= λ v. stored m.typed site ku mode (variable x) v) s) k) s.answers (place z pc ints refs s))
  assign_variable_runs scope x ku kr right rcode site mode same scalar stands of_right pc c ints refs s k has st rest =
      let i = int_count scope in
      let r = ref_count scope in
      let d = c + ref_count scope in
      let R = rcode i r in
      let r0 : r ≡ r + 0 = omega arith in
      let credit : d + 3 ≡ c + 3 + ref_count scope = omega arith in
      subst (λ q. Same z.flat s.fuel q (fin_then ((right >>= λ v. stored m.typed site ku mode (variable x) v) s) k) s.answers (place z pc ints refs s)) credit
      (bind z.flat s.fuel (d + 3) s.answers (right s) (λ v. stored m.typed site ku mode (variable x) v) k (place z pc ints refs s)
      (of_right [] i r pc d ints refs s (λ v u. fin_then (stored m.typed site ku mode (variable x) v u) k) (has_front z.flat.lines pc R (settle_code i r (register_of scope x)) has) (omega arith) r0 st.agree
      (λ v ints1 refs1 s1 w. by (is_reference ku) refl v ints1 refs1 s1 (subst (λ b. Agree z [] scope (loose_of b v) ints1 refs1 s1) same w.agree) w)))
    where
      by : (b : Bool) → is_reference ku ≡ b → (v : ℤ) (ints1 refs1 : ℕ → ℤ) (s1 : State) → Agree z [] scope (loose_of (is_reference ku) v) ints1 refs1 s1 → Valued z kr [] scope (int_count scope) v ints ints1 refs1 s1
          → Same z.flat s1.fuel (c + ref_count scope + 6) (fin_then (stored m.typed site ku mode (variable x) v s1) k) s1.answers (place z (pc + length (rcode (int_count scope) (ref_count scope))) ints1 refs1 s1)
      by false e v ints1 refs1 s1 a w =
          weaken z.flat s1.fuel (c + ref_count scope + 1) (c + ref_count scope + 6) _ s1.answers _ (omega arith)
          (store_int m z scope [] x ku site mode v (int_count scope) (ref_count scope) (pc + length (rcode (int_count scope) (ref_count scope))) (c + ref_count scope) ints1 refs1 s1 k (stands ∙ ap Some e) e
          (has_back z.flat.lines pc (rcode (int_count scope) (ref_count scope)) _ has) (subst (λ b. Agree z [] scope (loose_of b v) ints1 refs1 s1) e a) (w.value (scalar e))
          (λ ints2 u a2 kept. rest ints2 refs1 u (record { agree = a2; kept = λ n lt. kept n lt ∙ w.kept n (omega arith) ∙ st.kept n lt })))
      by true e v ints1 refs1 s1 a w =
          let r0 : ref_count scope ≡ ref_count scope + 0 = omega arith in
          weaken z.flat s1.fuel (c + ref_count scope + 1) (c + ref_count scope + 6) _ s1.answers _ (omega arith)
          (store_reference m z scope [] x ku site mode v (int_count scope) (ref_count scope) (pc + length (rcode (int_count scope) (ref_count scope))) (c + ref_count scope) ints1 refs1 s1 k (stands ∙ ap Some e) e
          (has_back z.flat.lines pc (rcode (int_count scope) (ref_count scope)) _ has) (subst (λ b. Agree z [] scope (loose_of b v) ints1 refs1 s1) e a) r0
          (λ refs2 u a2. rest ints1 refs2 u (record { agree = a2; kept = λ n lt. w.kept n (omega arith) ∙ st.kept n lt })))

  pub settle_length : (i r : ℕ) (g : Register) → length (settle_code i r g) ≡ 1
  settle_length i r (Int n) = refl
  settle_length i r (Reference n) = refl

  -- the place of a variable
  pub assign_name_runs : (scope : List Slot) (x : ℕ) (ku kr : Kind) (place_run : Run StorePlace) (pcode : ℕ → ℕ → List Op) (right : Run ℤ) (rcode : ℕ → ℕ → List Op) (site : Site) (mode : Sharing)
      → is_reference kr ≡ is_reference ku → (is_reference ku ≡ false → is_integer kr ≡ true) → slot_kind scope x ≡ Some (is_reference ku)
      → PlaceAs m z scope (targets.variable x) None (beside_field m.typed mode) 0 place_run pcode → RunsAs m z scope kr 3 right rcode
      → (let i = int_count scope in let r = ref_count scope in
      StepAs m z kind ints0 scope scope 0 (temporarily (place_run >>= λ p. right >>= λ v. stored m.typed site ku mode p v)) (pcode i r ++ (rcode (i + 0) (r + 0) ++ settle_code (i + 0) (r + 0) (register_of scope x))))
  assign_name_runs scope x ku kr place_run pcode right rcode site mode same scalar stands found of_right pc c ints refs s k has st rest =
      let i = int_count scope in
      let r = ref_count scope in
      let d = c + ref_count scope in
      let P = pcode i r in
      let R = rcode (i + 0) (r + 0) in
      let g = register_of scope x in
      let sc = settle_code (i + 0) (r + 0) g in
      let i0 : i + 0 ≡ i = omega arith in
      let r0 : r ≡ r + 0 = omega arith in
      let K : Unit {0} → State → Fin = λ q u. k q (without 0 u) in
      let has_r : HasAt z.flat.lines (pc + length P) (rcode i r ++ settle_code i r g) = subst (λ q. HasAt z.flat.lines (pc + length P) (rcode q r ++ settle_code q r g)) i0 (subst (λ q. HasAt z.flat.lines (pc + length P) (rcode (i + 0) q ++ settle_code (i + 0) q g)) (sym r0) (has_back z.flat.lines pc P (R ++ sc) has)) in
      let code_is : length (R ++ sc) ≡ length (rcode i r) + 1 = ap (λ q. length (rcode q (r + 0) ++ settle_code q (r + 0) g)) i0 ∙ ap (λ q. length (rcode i q ++ settle_code i q g)) (sym r0) ∙ length-append (rcode i r) (settle_code i r g) ∙ ap (λ q. length (rcode i r) + q) (settle_length i r g) in
      let end : pc + length P + length (rcode i r) + 1 ≡ pc + length (P ++ (R ++ sc)) = omega (arith, length-append P (R ++ sc), code_is) in
      weaken z.flat s.fuel (d + 0) (c + 0 + ref_count scope) _ s.answers _ (omega arith)
      (temporarily_runs m z scope [] s.fuel (d + 0) s.answers (place_run >>= λ p. right >>= λ v. stored m.typed site ku mode p v) s k (place z pc ints refs s) st.agree.temporaries
      (bind z.flat s.fuel (d + 0) s.answers (place_run s) (λ p. right >>= λ v. stored m.typed site ku mode p v) K (place z pc ints refs s)
      (found [] i r pc d ints refs s (λ p u. fin_then ((right >>= λ v. stored m.typed site ku mode p v) u) K) (has_front z.flat.lines pc P (R ++ sc) has) (omega arith) r0 st.agree
      (λ p bases ints1 refs1 s1 w.
      let a1 : Agree z [] scope [] ints1 refs1 s1 = subst (λ bs. Agree z bs scope [] ints1 refs1 s1) w.lies.0 w.agree in
      subst (λ q. Same z.flat s1.fuel (d + 6) (fin_then ((right >>= λ v. stored m.typed site ku mode q v) s1) K) s1.answers (place z (pc + length P) ints1 refs1 s1)) (sym w.lies.1)
      (weaken z.flat s1.fuel (c + 3 + ref_count scope) (d + 6) _ s1.answers _ (omega arith)
      (assign_variable_runs scope x ku kr right rcode site mode same scalar stands of_right (pc + length P) c ints1 refs1 s1 K has_r (record { agree = a1; kept = λ n lt. w.kept n (omega arith) ∙ st.kept n lt })
      (λ ints2 refs2 u st2.
      let n3 = none_end m z scope [] [] (pc + length P + length (rcode i r) + 1) ints2 refs2 u st2.agree in
      subst (λ q. Same z.flat u.fuel d (k tt (without 0 u)) u.answers q) n3.1
      (subst (λ q. Same z.flat u.fuel d (k tt (without 0 u)) u.answers (place z q ints2 refs2 (without 0 u))) (sym end)
      (rest ints2 refs2 (without 0 u) (record { agree = n3.0; kept = st2.kept }))))))))))

  -- ---- a call as a statement
  drop_by : (b : Bool) (ke : Kind) (scope : List Slot) (run : Run ℤ) (ce : ℕ → ℕ → List Op) → is_reference ke ≡ b → RunsAs m z scope ke 0 run ce
      → StepAs m z kind ints0 scope scope 0 (run >>= λ v. cond b (source_gives_up (all_released (v ∷ []))) done) (ce (int_count scope) (ref_count scope) ++ drop_code b (ref_count scope))
  drop_by false ke scope run ce e of_run pc c ints refs s k has st rest =
      let i = int_count scope in
      let r = ref_count scope in
      let d = c + ref_count scope in
      let C = ce i r in
      let r0 : r ≡ r + 0 = omega arith in
      let end : pc + length C ≡ pc + length (C ++ []) = ap (λ l. pc + length l) (sym (append-nil C)) in
      bind z.flat s.fuel (c + 0 + ref_count scope) s.answers (run s) (λ v. done) k (place z pc ints refs s)
      (weaken z.flat s.fuel (d + 0) (c + 0 + ref_count scope) _ s.answers _ (omega arith)
      (of_run [] i r pc d ints refs s (λ v u. k tt u) (has_front z.flat.lines pc C [] has) (omega arith) r0 st.agree
      (λ v ints1 refs1 s1 w. weaken z.flat s1.fuel d (d + 6) _ s1.answers _ (omega arith)
      (subst (λ q. Same z.flat s1.fuel d (k tt s1) s1.answers (place z q ints1 refs1 s1)) (sym end)
      (rest ints1 refs1 s1 (record { agree = subst (λ b. Agree z [] scope (loose_of b v) ints1 refs1 s1) e w.agree; kept = λ n lt. w.kept n (omega arith) ∙ st.kept n lt }))))))
  drop_by true ke scope run ce e of_run pc c ints refs s k has st rest =
      let i = int_count scope in
      let r = ref_count scope in
      let d = c + ref_count scope in
      let C = ce i r in
      let r0 : r ≡ r + 0 = omega arith in
      let r1 : r ≡ r + 0 + 0 = omega arith in
      let end : pc + length C + 1 ≡ pc + length (C ++ Op.Pop r ∷ []) = omega (arith, length-append C (Op.Pop r ∷ [])) in
      bind z.flat s.fuel (c + 0 + ref_count scope) s.answers (run s) (λ v. source_gives_up (all_released (v ∷ []))) k (place z pc ints refs s)
      (weaken z.flat s.fuel (d + 0) (c + 0 + ref_count scope) _ s.answers _ (omega arith)
      (of_run [] i r pc d ints refs s (λ v u. k tt (record u { given_up = u.given_up ++ all_released (v ∷ []) })) (has_front z.flat.lines pc C (Op.Pop r ∷ []) has) (omega arith) r0 st.agree
      (λ v ints1 refs1 s1 w.
      let a1 : Agree z [] scope (v ∷ []) ints1 refs1 s1 = subst (λ b. Agree z [] scope (loose_of b v) ints1 refs1 s1) e w.agree in
      let u : State = record s1 { given_up = s1.given_up ++ Released (number_of v) ∷ [] } in
      let refs2 = put refs1 (z.refs + r) (pos 0) in
      let v_is : refs1 (z.refs + r) ≡ v = last_is z [] scope [] v [] r ints1 refs1 s1 r1 a1 in
      let a2 : Agree z [] scope [] ints1 refs2 u = same_frame z [] scope [] ints1 refs2 s1 u refl refl (drop_last z [] scope [] v r ints1 refs1 s1 r1 a1) in
      weaken z.flat s1.fuel (d + 1) (d + 6) _ s1.answers _ (omega arith)
      (step z.flat (Op.Pop r) s1.fuel d (k tt u) s1.answers (place z (pc + length C) ints1 refs1 s1) (place z (pc + length C + 1) ints1 refs2 u) (has_back z.flat.lines pc C (Op.Pop r ∷ []) has).0
      (ap (λ x. goes (record (place z (pc + length C + 1) ints1 refs2 s1) { given = s1.given_up ++ Released (number_of x) ∷ [] })) v_is)
      (subst (λ q. Same z.flat s1.fuel d (k tt u) s1.answers (place z q ints1 refs2 u)) (sym end)
      (rest ints1 refs2 u (record { agree = a2; kept = λ n lt. w.kept n (omega arith) ∙ st.kept n lt })))))))

  pub call_runs : (ke : Kind) (scope : List Slot) (run : Run ℤ) (ce : ℕ → ℕ → List Op) → RunsAs m z scope ke 0 run ce → StepAs m z kind ints0 scope scope 0 (run >>= λ v. drops ke v) (ce (int_count scope) (ref_count scope) ++ drop_code (is_reference ke) (ref_count scope))
  call_runs ke scope run ce of_run = drop_by (is_reference ke) ke scope run ce refl of_run
