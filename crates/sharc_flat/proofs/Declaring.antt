-- Declarations, returns, and loops with a head.
use Rattle.sharc_flat.proofs.{Imports.{◌≡◌, ℕ, ◌+◌, ◌<◌, Bool, true, false, cond, List, [], ◌∷◌, ◌++◌, length, get_or, Some, refl, sym, ap, ◌∙◌, subst, ⊎_elim, arith, length-append, inl, inr, append-nil, get_or_append_left, get_or_at, map-append, cases_eq, ℤ, pos, ◌||◌, Site, Declaration, WrittenType, Kind, is_integer, is_pointer, declared_kind, Assignment, Sharing, variable, stored, State, Run, ◌>>=◌, ◌>>◌, give, is_reference, pointers_among, writes, begins_with, new_variable, Flow, next, returned, loop, Op, put, int_count, ref_count, register_of, slot_kind, at_site, leaves, slot_of, Slot, settle_code, Around, looping, result_code, zero_code, loop_code, or_false}, Banks.{bank_is, put_at, put_other}, Runs.{HasAt, has_front, has_back, Fin, fin_then, Same, weaken, step, bind}, Agreeing.{slot_in, int_values, ints_length, Standing, place, Agree, below, push, loose_of}, Values.RunsAs, Executing.{Stand, After, Here, Beyond, StatementAs}, Statements.{StepAs, DecidesAs, loop_runs}, Blocks.{pointers_append, ints_append}, Assigning.{assign_variable_runs, settle_length}}

pub declared_reference : (w : WrittenType) → is_reference (declared_kind w) ≡ is_pointer (declared_kind w)
declared_reference w = or_false (is_pointer (declared_kind w))

pub ref_count_more : (scope : List Slot) (x : Slot) → ref_count (scope ++ x ∷ []) ≡ ref_count scope + cond x.is_pointer 1 0
ref_count_more [] x = by x.is_pointer
  where
    by : (b : Bool) → cond b (0 + 1) 0 ≡ 0 + cond b 1 0
    by true = refl
    by false = refl
ref_count_more (y ∷ rest) x = more y.is_pointer (ref_count (rest ++ x ∷ [])) (ref_count rest) (cond x.is_pointer 1 0) (ref_count_more rest x)
  where
    more : (b : Bool) (n k d : ℕ) → n ≡ k + d → cond b (n + 1) n ≡ cond b (k + 1) k + d
    more true n k d e = omega arith
    more false n k d e = e

pub int_count_more : (scope : List Slot) (x : Slot) → int_count (scope ++ x ∷ []) ≡ int_count scope + cond x.is_pointer 0 1
int_count_more [] x = by x.is_pointer
  where
    by : (b : Bool) → cond b 0 (0 + 1) ≡ 0 + cond b 0 1
    by true = refl
    by false = refl
int_count_more (y ∷ rest) x = more y.is_pointer (int_count (rest ++ x ∷ [])) (int_count rest) (cond x.is_pointer 0 1) (int_count_more rest x)
  where
    more : (b : Bool) (n k d : ℕ) → n ≡ k + d → cond b n (n + 1) ≡ cond b k (k + 1) + d
    more true n k d e = e
    more false n k d e = omega arith

module _ (m : Assignment) (z : Standing) (kind : Kind) (ints0 : ℕ → ℤ) where
  abbrev S : List Slot → List ℤ → (ℕ → ℤ) → (ℕ → ℤ) → State → Type 0
  S scope L ints refs s = Stand m z kind ints0 scope L ints refs s

  abbrev begun_state : Declaration → State → State
  begun_state d s = record s {
    frame = record s.frame { variables = s.frame.variables ++ new_variable d (pos 0) ∷ [] };
    trace = s.trace ++ record { use_made = writes; variable = d.name.site.token; site = d.name.site; call = s.frame.call } ∷ [];
  }

  begin_by : (b : Bool) (scope : List Slot) (d : Declaration) (pc c : ℕ) (ints refs : ℕ → ℤ) (s : State) (k : Unit {0} → State → Fin) → is_pointer (declared_kind d.written) ≡ b → HasAt z.flat.lines pc (zero_code b (int_count scope) (ref_count scope)) → S scope [] ints refs s
      → ((ints' refs' : ℕ → ℤ) → S (scope ++ slot_of d ∷ []) [] ints' refs' (begun_state d s) → Same z.flat s.fuel (c + ref_count (scope ++ slot_of d ∷ [])) (k tt (begun_state d s)) s.answers (place z (pc + 1) ints' refs' (begun_state d s)))
      → Same z.flat s.fuel (c + 2 + ref_count scope) (k tt (begun_state d s)) s.answers (place z pc ints refs s)
  begin_by true scope d pc c ints refs s k e has st rest =
      let V = s.frame.variables in
      let x = new_variable d (pos 0) in
      let u = begun_state d s in
      let r = ref_count scope in
      let refs1 = put refs (z.refs + r) (pos 0) in
      let r0 : r ≡ r + 0 + 0 = omega arith in
      let a1 : Agree z [] scope (pos 0 ∷ []) ints refs1 s = push z [] scope [] (pos 0) r ints refs s r0 st.agree in
      let P : pointers_among (V ++ x ∷ []) ≡ pointers_among V ++ pos 0 ∷ [] = pointers_append V (x ∷ []) ∙ ap (λ b. pointers_among V ++ cond b (pos 0 ∷ []) []) e in
      let I : int_values (V ++ x ∷ []) ≡ int_values V = ints_append V (x ∷ []) ∙ ap (λ b. int_values V ++ cond b [] (pos 0 ∷ [])) e ∙ append-nil (int_values V) in
      let count : int_count (scope ++ slot_of d ∷ []) ≡ int_count scope = int_count_more scope (slot_of d) ∙ ap (λ b. int_count scope + cond b 0 1) e ∙ (let q : int_count scope + 0 ≡ int_count scope = omega arith in q) in
      let refs_count : ref_count (scope ++ slot_of d ∷ []) ≡ r + 1 = ref_count_more scope (slot_of d) ∙ ap (λ b. r + cond b 1 0) e in
      let a2 : Agree z [] (scope ++ slot_of d ∷ []) [] ints refs1 u = record {
        callers = st.agree.callers;
        temporaries = st.agree.temporaries;
        shape = map-append slot_in V (x ∷ []) ∙ ap (λ l. l ++ slot_of d ∷ []) st.agree.shape;
        ints = λ q lt. st.agree.ints q (omega (arith, count)) ∙ ap (λ l. get_or l q (pos 0)) (sym I);
        refs = bank_is refs1 _ _ (ap (λ l. below z.callers ++ l) (sym (append-nil (pointers_among V ++ pos 0 ∷ []))) ∙ ap (λ l. below z.callers ++ (l ++ [])) (sym P)) a1.refs;
      } in
      let credit : c + ref_count (scope ++ slot_of d ∷ []) + 1 ≡ c + 2 + r = omega (arith, refs_count) in
      subst (λ q. Same z.flat s.fuel q (k tt u) s.answers (place z pc ints refs s)) credit
      (step z.flat (Op.Null r) s.fuel (c + ref_count (scope ++ slot_of d ∷ [])) (k tt u) s.answers (place z pc ints refs s) (place z (pc + 1) ints refs1 u) has.0 refl
      (rest ints refs1 (record { agree = a2; kept = st.kept })))
  begin_by false scope d pc c ints refs s k e has st rest =
      let V = s.frame.variables in
      let x = new_variable d (pos 0) in
      let u = begun_state d s in
      let i = int_count scope in
      let ints1 = put ints (z.ints + i) (pos 0) in
      let P : pointers_among (V ++ x ∷ []) ≡ pointers_among V = pointers_append V (x ∷ []) ∙ ap (λ b. pointers_among V ++ cond b (pos 0 ∷ []) []) e ∙ append-nil (pointers_among V) in
      let I : int_values (V ++ x ∷ []) ≡ int_values V ++ pos 0 ∷ [] = ints_append V (x ∷ []) ∙ ap (λ b. int_values V ++ cond b [] (pos 0 ∷ [])) e in
      let il : length (int_values V) ≡ i = ints_length V ∙ ap int_count st.agree.shape in
      let count : int_count (scope ++ slot_of d ∷ []) ≡ i + 1 = int_count_more scope (slot_of d) ∙ ap (λ b. i + cond b 0 1) e in
      let refs_count : ref_count (scope ++ slot_of d ∷ []) ≡ ref_count scope = ref_count_more scope (slot_of d) ∙ ap (λ b. ref_count scope + cond b 1 0) e ∙ (let q : ref_count scope + 0 ≡ ref_count scope = omega arith in q) in
      let a2 : Agree z [] (scope ++ slot_of d ∷ []) [] ints1 refs u = record {
        callers = st.agree.callers;
        temporaries = st.agree.temporaries;
        shape = map-append slot_in V (x ∷ []) ∙ ap (λ l. l ++ slot_of d ∷ []) st.agree.shape;
        ints = λ q lt. ⊎_elim
            (λ (is : q ≡ i). put_at ints (z.ints + i) (z.ints + q) (pos 0) (ap (λ n. z.ints + n) is) ∙ sym (ap (λ l. get_or l q (pos 0)) I ∙ get_or_at (int_values V) (pos 0) [] (pos 0) q (il ∙ sym is)))
            (λ (ne : q ≡ i → ⊥).
            let lt1 : q < i = omega (arith, count, lt) in
            let lt2 : q < length (int_values V) = omega (arith, il) in
            put_other ints (z.ints + i) (pos 0) (z.ints + q) (λ h. ne (omega arith)) ∙ st.agree.ints q lt1 ∙ sym (ap (λ l. get_or l q (pos 0)) I ∙ get_or_append_left (int_values V) (pos 0 ∷ []) (pos 0) q lt2))
            (cases_eq q i);
        refs = bank_is refs _ _ (ap (λ l. below z.callers ++ (l ++ [])) (sym P)) st.agree.refs;
      } in
      let credit : c + ref_count (scope ++ slot_of d ∷ []) + 1 ≡ c + 1 + ref_count scope = omega (arith, refs_count) in
      weaken z.flat s.fuel (c + 1 + ref_count scope) (c + 2 + ref_count scope) _ s.answers _ (omega arith)
      (subst (λ q. Same z.flat s.fuel q (k tt u) s.answers (place z pc ints refs s)) credit
      (step z.flat (Op.Constant i (pos 0)) s.fuel (c + ref_count (scope ++ slot_of d ∷ [])) (k tt u) s.answers (place z pc ints refs s) (place z (pc + 1) ints1 refs u) has.0 refl
      (rest ints1 refs (record { agree = a2; kept = λ n lt. put_other ints (z.ints + i) (pos 0) n (λ h. omega arith) ∙ st.kept n lt }))))

  zero_length : (b : Bool) (i r : ℕ) → length (zero_code b i r) ≡ 1
  zero_length true i r = refl
  zero_length false i r = refl

  -- a variable begins
  pub begin_runs : (scope : List Slot) (d : Declaration) → StepAs m z kind ints0 scope (scope ++ slot_of d ∷ []) 2 (begins_with d (pos 0)) (zero_code (is_reference (declared_kind d.written)) (int_count scope) (ref_count scope))
  begin_runs scope d pc c ints refs s k has st rest =
      let e = declared_reference d.written in
      let one : pc + length (zero_code (is_reference (declared_kind d.written)) (int_count scope) (ref_count scope)) ≡ pc + 1 = ap (λ n. pc + n) (zero_length (is_reference (declared_kind d.written)) (int_count scope) (ref_count scope)) in
      begin_by (is_pointer (declared_kind d.written)) scope d pc c ints refs s k refl (subst (λ b. HasAt z.flat.lines pc (zero_code b (int_count scope) (ref_count scope))) e has) st
      (λ ints1 refs1 st1. subst (λ q. Same z.flat s.fuel (c + ref_count (scope ++ slot_of d ∷ [])) (k tt (begun_state d s)) s.answers (place z q ints1 refs1 (begun_state d s))) one (rest ints1 refs1 (begun_state d s) st1))

  -- and gets its first value
  pub initial_runs : (scope : List Slot) (d : Declaration) (kr : Kind) (right : Run ℤ) (rcode : ℕ → ℕ → List Op) (mode : Sharing) → (let sc = scope ++ slot_of d ∷ [] in let ku = declared_kind d.written in
      is_reference kr ≡ is_reference ku → (is_reference ku ≡ false → is_integer kr ≡ true) → slot_kind sc d.name.site.token ≡ Some (is_reference ku) → RunsAs m z sc kr 3 right rcode
      → StepAs m z kind ints0 scope sc 5 (begins_with d (pos 0) >> (right >>= λ v. stored m.typed d.name.site ku mode (variable d.name.site.token) v))
      (zero_code (is_reference ku) (int_count scope) (ref_count scope) ++ (rcode (int_count sc) (ref_count sc) ++ settle_code (int_count sc) (ref_count sc) (register_of sc d.name.site.token))))
  initial_runs scope d kr right rcode mode same scalar stands of_right pc c ints refs s k has st rest =
      let sc = scope ++ slot_of d ∷ [] in
      let ku = declared_kind d.written in
      let Z = zero_code (is_reference ku) (int_count scope) (ref_count scope) in
      let R = rcode (int_count sc) (ref_count sc) in
      let g = settle_code (int_count sc) (ref_count sc) (register_of sc d.name.site.token) in
      let end : pc + length Z + length R + 1 ≡ pc + length (Z ++ (R ++ g)) = omega (arith, length-append Z (R ++ g), length-append R g, settle_length m z kind ints0 (int_count sc) (ref_count sc) (register_of sc d.name.site.token)) in
      let credit : c + 3 + 2 + ref_count scope ≡ c + 5 + ref_count scope = omega arith in
      bind z.flat s.fuel (c + 5 + ref_count scope) s.answers (begins_with d (pos 0) s) (λ _. right >>= λ v. stored m.typed d.name.site ku mode (variable d.name.site.token) v) k (place z pc ints refs s)
      (subst (λ q. Same z.flat s.fuel q (fin_then (begins_with d (pos 0) s) (λ _ u. fin_then ((right >>= λ v. stored m.typed d.name.site ku mode (variable d.name.site.token) v) u) k)) s.answers (place z pc ints refs s)) credit
      (begin_runs scope d pc (c + 3) ints refs s (λ _ u. fin_then ((right >>= λ v. stored m.typed d.name.site ku mode (variable d.name.site.token) v) u) k) (has_front z.flat.lines pc Z (R ++ g) has) st
      (λ ints1 refs1 s1 st1. assign_variable_runs m z kind ints0 sc d.name.site.token ku kr right rcode d.name.site mode same scalar stands of_right (pc + length Z) c ints1 refs1 s1 k (has_back z.flat.lines pc Z (R ++ g) has) st1
      (λ ints2 refs2 s2 st2. subst (λ q. Same z.flat s2.fuel (c + ref_count sc) (k tt s2) s2.answers (place z q ints2 refs2 s2)) (sym end) (rest ints2 refs2 s2 st2)))))

  -- ---- returns
  pub return_none_runs : (a : Around) (scope : List Slot) (site : Site) → StatementAs m z kind ints0 a (Here m z kind ints0 scope) scope scope 4 (give (returned site (pos 0)))
      (λ pc. leaves scope (a.inside ++ a.outside) ++ (zero_code (is_reference kind) 0 0 ++ Op.Return (at_site site) ∷ []))
  return_none_runs a scope site pc c ints refs s k has st rest =
      rest.returned_runs scope refl site (pos 0) pc ints refs s (record { tail = zero_code (is_reference kind) 0 0 ++ Op.Return (at_site site) ∷ []; code = has; Z = []; X = []; nulls_are = λ j. refl; stand = st; made = inr (refl, refl, refl) })

  pub return_value_runs : (a : Around) (scope : List Slot) (site : Site) (kr : Kind) (right : Run ℤ) (rcode : ℕ → ℕ → List Op) → is_reference kr ≡ is_reference kind → (is_integer kind ≡ true → is_integer kr ≡ true) → RunsAs m z scope kr 1 right rcode
      → StatementAs m z kind ints0 a (Here m z kind ints0 scope) scope scope 1 (right >>= λ v. give (returned site v))
      (λ pc. rcode (int_count scope) (ref_count scope) ++ (leaves scope (a.inside ++ a.outside) ++ (result_code (is_reference kind) (int_count scope) (ref_count scope) ++ Op.Return (at_site site) ∷ [])))
  return_value_runs a scope site kr right rcode same ints_same of_right pc c ints refs s k has st rest =
      let i = int_count scope in
      let r = ref_count scope in
      let R = rcode i r in
      let tail = result_code (is_reference kind) i r ++ Op.Return (at_site site) ∷ [] in
      let L = leaves scope (a.inside ++ a.outside) ++ tail in
      let r0 : r ≡ r + 0 = omega arith in
      bind z.flat s.fuel (c + 1 + r) s.answers (right s) (λ v. give (returned site v)) k (place z pc ints refs s)
      (subst (λ q. Same z.flat s.fuel q (fin_then (right s) (λ v u. k (returned site v) u)) s.answers (place z pc ints refs s)) (let q : c + r + 1 ≡ c + 1 + r = omega arith in q)
      (of_right [] i r pc (c + r) ints refs s (λ v u. k (returned site v) u) (has_front z.flat.lines pc R L has) (omega arith) r0 st.agree
      (λ v ints1 refs1 s1 w. weaken z.flat s1.fuel (c + 4 + r) (c + r + 6) _ s1.answers _ (omega arith)
      (rest.returned_runs scope refl site v (pc + length R) ints1 refs1 s1 (record {
        tail = tail;
        code = has_back z.flat.lines pc R L has;
        Z = [];
        X = loose_of (is_reference kind) v;
        nulls_are = λ j. refl;
        stand = record { agree = subst (λ b. Agree z [] scope (loose_of b v) ints1 refs1 s1) same w.agree; kept = λ n lt. w.kept n (omega arith) ∙ st.kept n lt };
        made = inl (i, r, refl, refl, r0, λ h. w.value (ints_same h));
      })))))

  -- ---- a loop after what its head begins with
  pub headed_runs : (a : Around) (scope more : List Slot) (need gain : ℕ) (first : Run (Unit {0})) (fc : List Op) (test : Run Bool) (ct : ℕ → List Op) (update : Run (Unit {0})) (cs : List Op) (body : Run Flow) (cb : ℕ → ℕ → List Op) (pc0 : ℕ)
      → StepAs m z kind ints0 scope (scope ++ more) need first fc → DecidesAs m z kind ints0 (scope ++ more) gain test ct → ((n : ℕ) → length (ct n) ≡ length (ct 0)) → StepAs m z kind ints0 (scope ++ more) (scope ++ more) 0 update cs
      → StatementAs m z kind ints0 (looping a (pc0 + length fc + 1) (pc0 + length fc + 2)) (Here m z kind ints0 (scope ++ more)) (scope ++ more) (scope ++ more) 0 body (λ at. cb pc0 at)
      → (c : ℕ) (ints refs : ℕ → ℤ) (s : State) (k : Flow → State → Fin) → HasAt z.flat.lines pc0 (fc ++ loop_code (pc0 + length fc) cs ct (λ at. cb pc0 at)) → S scope [] ints refs s
      → After m z kind ints0 a (Beyond m z kind ints0 scope) (pc0 + length (fc ++ loop_code (pc0 + length fc) cs ct (λ at. cb pc0 at))) (scope ++ more) c k
      → Same z.flat s.fuel (c + (need + 1) + ref_count scope) (fin_then ((first >> loop test update body) s) k) s.answers (place z pc0 ints refs s)
  headed_runs a scope more need gain first fc test ct update cs body cb pc0 of_first decides len updates of_body c ints refs s k has st rest =
      let L = loop_code (pc0 + length fc) cs ct (λ at. cb pc0 at) in
      let end : pc0 + length fc + length L ≡ pc0 + length (fc ++ L) = omega (arith, length-append fc L) in
      let credit : c + 1 + need + ref_count scope ≡ c + (need + 1) + ref_count scope = omega arith in
      bind z.flat s.fuel (c + (need + 1) + ref_count scope) s.answers (first s) (λ _. loop test update body) k (place z pc0 ints refs s)
      (subst (λ q. Same z.flat s.fuel q (fin_then (first s) (λ _ u. fin_then (loop test update body u) k)) s.answers (place z pc0 ints refs s)) credit
      (of_first pc0 (c + 1) ints refs s (λ _ u. fin_then (loop test update body u) k) (has_front z.flat.lines pc0 fc L has) st
      (λ ints1 refs1 s1 st1. loop_runs m z kind ints0 a (scope ++ more) (pc0 + length fc) gain test ct update cs body (λ at. cb pc0 at) decides len updates of_body c k (has_back z.flat.lines pc0 fc L has)
      (record {
        next_runs = λ ints2 refs2 s2 st2. subst (λ q. Same z.flat s2.fuel (c + 1 + ref_count (scope ++ more)) (k next s2) s2.answers (place z q ints2 refs2 s2)) (sym end) (rest.next_runs ints2 refs2 s2 st2);
        broken_runs = λ il at l. rest.broken_runs il at (more, l);
        continued_runs = λ il at l. rest.continued_runs il at (more, l);
        returned_runs = λ at l. rest.returned_runs at (more, l);
      }) ints1 refs1 s1 st1)))
