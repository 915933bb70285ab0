-- Where the places are found that lvalues name.
use Rattle.sharc_flat.proofs.{Imports.{◌≡◌, ℕ, ◌+◌, ◌*◌, ◌<◌, ◌≤◌, Bool, true, false, cond, List, [], ◌∷◌, ◌++◌, length, Option, Some, None, refl, sym, ap, ◌∙◌, subst, arith, length-append, append-nil, ℤ, pos, negsuc, not, nat_lt, Object, Global, Made, Site, Trap, Kind, is_integer, Assignment, global_elements, StorePlace, variable, cell, field_in, pointee, based, element, element_of_array, number_of, is_null, elements_of, State, Run, then_on, ◌>>=◌, ◌>>◌, give, is_reference, done, holds_reference, with_temporary, stop, stopped, unless_stop, global_at, Op, Spot, goes, put, first_cell, set_int, op_turn, indexed, halts, asserts, goes_on, Context, int_count, ref_count, at_site, Slot, Target, in_global, in_global_at, in_object, in_object_at, own_field, bounds_code, pointee_code, same_mutex}, Banks.{put_same, put_other}, Runs.{HasAt, has_front, has_back, Fin, fin_of, fin_then, Same, weaken, step, bind, without, ends}, Agreeing.{Standing, place, Agree, holding, last_is, hold, with_int, loose_of}, Accessing.context, Values.{integer_is, loosen, RunsAs, within, Lies, PlaceAs}}

module _ (m : Assignment) (z : Standing) (scope : List Slot) where
  abbrev ctx : Context
  ctx = context m z scope

  -- a base that is a pointer is held, and is not NULL
  pub based_runs : (T : List ℤ) (kind : Kind) (site : Site) (p : ℤ) (r pc c : ℕ) (os : List Op) (ints refs : ℕ → ℤ) (s : State) (k : Unit {0} → State → Fin) → is_reference kind ≡ true → HasAt z.flat.lines pc (Op.ChkNull r (at_site site) ∷ os) → r ≡ ref_count scope + length T
      → Agree z T scope (p ∷ []) ints refs s
      → (let u = record s { frame = with_temporary p s.frame } in Agree z (T ++ p ∷ []) scope [] ints refs u → is_null p ≡ false → Same z.flat s.fuel c (k tt u) s.answers (place z (pc + 1) ints refs u))
      → Same z.flat s.fuel (c + 1) (fin_then (based site kind p s) k) s.answers (place z pc ints refs s)
  based_runs T kind site p r pc c os ints refs s k e has r_is a rest =
      let u : State = record s { frame = with_temporary p s.frame } in
      let a1 : Agree z (T ++ p ∷ []) scope [] ints refs u = hold z T scope p ints refs s a in
      let r0 : r ≡ ref_count scope + length T + 0 = omega arith in
      let v : refs (z.refs + r) ≡ p = last_is z T scope [] p [] r ints refs s r0 a in
      subst (λ b. Same z.flat s.fuel (c + 1) (fin_then (then_on ((cond b (holds_reference p) done) s) (λ _. unless_stop (not (is_null p)) Trap.NullPointer site)) k) s.answers (place z pc ints refs s)) (sym e)
      (by (is_null p) refl (ap (λ q. asserts (not (is_null q)) Trap.NullPointer (at_site site) (place z pc ints refs s)) v) a1)
    where
      by : (b : Bool) → is_null p ≡ b → (let u = record s { frame = with_temporary p s.frame } in op_turn z.flat (Op.ChkNull r (at_site site)) (place z pc ints refs s) ≡ asserts (not b) Trap.NullPointer (at_site site) (place z pc ints refs s)
          → Agree z (T ++ p ∷ []) scope [] ints refs u → Same z.flat s.fuel (c + 1) (fin_then (unless_stop (not b) Trap.NullPointer site u) k) s.answers (place z pc ints refs s))
      by false e0 is a1 = step z.flat (Op.ChkNull r (at_site site)) s.fuel c (k tt (record s { frame = with_temporary p s.frame })) s.answers (place z pc ints refs s) _ has.0 is (rest a1 e0)
      by true e0 is a1 = ends z.flat (Op.ChkNull r (at_site site)) (stopped Trap.NullPointer site) c (record s { frame = with_temporary p s.frame }) (place z pc ints refs s)
          (holding z (T ++ p ∷ []) scope ints refs (record s { frame = with_temporary p s.frame }) a1) refl refl has.0 is

  -- an index becomes the number of a cell
  module _ (T bases : List ℤ) (site : Site) (refs : ℕ → ℤ) (bounds : ℕ → ℕ → Op) (cells elements : ℕ) (off : ℕ → ℕ) (o : Object)
      (turn_is : (j f pc : ℕ) (ints : ℕ → ℤ) (u : State) → op_turn z.flat (bounds j f) (place z pc ints refs u) ≡ indexed j cells (off f) (ints (z.ints + j)) elements (at_site site) (place z pc ints refs u)) where
    abbrev Found : ℕ → ℕ → Option ℕ → ℕ → ℕ → (ℕ → ℤ) → State → (StorePlace → State → Fin) → Type 0
    Found i f guard pc c ints s k = (n : ℕ) (ints' : ℕ → ℤ) → Agree z (T ++ bases) scope [] ints' refs s → ((q : ℕ) → q < z.ints + i → ints' q ≡ ints q) → ints' (z.ints + i) ≡ pos (n * cells + off f)
        → ((mutex : ℕ) → guard ≡ Some mutex → ints' (z.ints + (i + 1)) ≡ pos (n * cells + off mutex)) → Same z.flat s.fuel c (k (cell o (n * cells) (n * cells)) s) s.answers (place z pc ints' refs s)

    goes_index : (j f n pc : ℕ) (ints : ℕ → ℤ) (u : State) → nat_lt n elements ≡ true → ints (z.ints + j) ≡ pos n → op_turn z.flat (bounds j f) (place z pc ints refs u) ≡ goes (place z (pc + 1) (put ints (z.ints + j) (pos (n * cells + off f))) refs u)
    goes_index j f n pc ints u e v = turn_is j f pc ints u ∙ ap (λ x. indexed j cells (off f) x elements (at_site site) (place z pc ints refs u)) v ∙ ap (λ b. cond b (goes_on (set_int j (pos (n * cells + off f)) (place z pc ints refs u))) (halts (stopped Trap.IndexOutOfBounds site))) e

    stops_index : (j f n pc : ℕ) (ints : ℕ → ℤ) (u : State) → nat_lt n elements ≡ false → ints (z.ints + j) ≡ pos n → op_turn z.flat (bounds j f) (place z pc ints refs u) ≡ halts (stopped Trap.IndexOutOfBounds site)
    stops_index j f n pc ints u e v = turn_is j f pc ints u ∙ ap (λ x. indexed j cells (off f) x elements (at_site site) (place z pc ints refs u)) v ∙ ap (λ b. cond b (goes_on (set_int j (pos (n * cells + off f)) (place z pc ints refs u))) (halts (stopped Trap.IndexOutOfBounds site))) e

    stops_below : (j f n pc : ℕ) (ints : ℕ → ℤ) (u : State) → ints (z.ints + j) ≡ negsuc n → op_turn z.flat (bounds j f) (place z pc ints refs u) ≡ halts (stopped Trap.IndexOutOfBounds site)
    stops_below j f n pc ints u v = turn_is j f pc ints u ∙ ap (λ x. indexed j cells (off f) x elements (at_site site) (place z pc ints refs u)) v

    element_by : (b : Bool) (n i f : ℕ) (guard : Option ℕ) (pc c : ℕ) (ints : ℕ → ℤ) (s : State) (k : StorePlace → State → Fin) → nat_lt n elements ≡ b → int_count scope ≤ i → HasAt z.flat.lines pc (bounds_code bounds i f guard) → Agree z (T ++ bases) scope [] ints refs s → ints (z.ints + i) ≡ pos n
        → Found i f guard (pc + length (bounds_code bounds i f guard)) c ints s k → Same z.flat s.fuel (c + 3) (fin_then ((cond b (give (cell o (n * cells) (n * cells))) (stop Trap.IndexOutOfBounds site)) s) k) s.answers (place z pc ints refs s)
    element_by true n i f None pc c ints s k e le has a v rest =
        weaken z.flat s.fuel (c + 1) (c + 3) _ s.answers _ (omega arith)
        (step z.flat (bounds i f) s.fuel c _ s.answers (place z pc ints refs s) (place z (pc + 1) (put ints (z.ints + i) (pos (n * cells + off f))) refs s) has.0 (goes_index i f n pc ints s e v)
        (rest n (put ints (z.ints + i) (pos (n * cells + off f))) (with_int z (T ++ bases) scope [] i (pos (n * cells + off f)) ints refs s le a) (λ q lt. put_other ints (z.ints + i) _ q (λ h. omega arith)) (put_same ints (z.ints + i) _) (λ mutex h. absurd (cc))))
    element_by true n i f (Some mutex) pc c ints s k e le has a v rest =
        let ints1 = put ints (z.ints + (i + 1)) (ints (z.ints + i)) in
        let ints2 = put ints1 (z.ints + i) (pos (n * cells + off f)) in
        let ints3 = put ints2 (z.ints + (i + 1)) (pos (n * cells + off mutex)) in
        let le1 : int_count scope ≤ i + 1 = omega arith in
        let v1 : ints1 (z.ints + i) ≡ pos n = put_other ints (z.ints + (i + 1)) (ints (z.ints + i)) (z.ints + i) (λ h. omega arith) ∙ v in
        let w1 : ints1 (z.ints + (i + 1)) ≡ pos n = put_same ints (z.ints + (i + 1)) (ints (z.ints + i)) ∙ v in
        let w2 : ints2 (z.ints + (i + 1)) ≡ pos n = put_other ints1 (z.ints + i) (pos (n * cells + off f)) (z.ints + (i + 1)) (λ h. omega arith) ∙ w1 in
        let a3 = with_int z (T ++ bases) scope [] (i + 1) (pos (n * cells + off mutex)) ints2 refs s le1 (with_int z (T ++ bases) scope [] i (pos (n * cells + off f)) ints1 refs s le (with_int z (T ++ bases) scope [] (i + 1) (ints (z.ints + i)) ints refs s le1 a)) in
        let three : c + 1 + 1 + 1 ≡ c + 3 = omega arith in
        let end : pc + length (bounds_code bounds i f (Some mutex)) ≡ pc + 1 + 1 + 1 = omega arith in
        subst (λ q. Same z.flat s.fuel q (k (cell o (n * cells) (n * cells)) s) s.answers (place z pc ints refs s)) three
        (step z.flat (Op.Move (i + 1) i) s.fuel (c + 1 + 1) _ s.answers (place z pc ints refs s) (place z (pc + 1) ints1 refs s) has.0 refl
        (step z.flat (bounds i f) s.fuel (c + 1) _ s.answers (place z (pc + 1) ints1 refs s) (place z (pc + 1 + 1) ints2 refs s) has.1.0 (goes_index i f n (pc + 1) ints1 s e v1)
        (step z.flat (bounds (i + 1) mutex) s.fuel c _ s.answers (place z (pc + 1 + 1) ints2 refs s) (place z (pc + 1 + 1 + 1) ints3 refs s) has.1.1.0 (goes_index (i + 1) mutex n (pc + 1 + 1) ints2 s e w2)
        (subst (λ q. Same z.flat s.fuel c (k (cell o (n * cells) (n * cells)) s) s.answers (place z q ints3 refs s)) end
        (rest n ints3 a3
        (λ q lt. put_other ints2 (z.ints + (i + 1)) _ q (λ h. omega arith) ∙ put_other ints1 (z.ints + i) _ q (λ h. omega arith) ∙ put_other ints (z.ints + (i + 1)) _ q (λ h. omega arith))
        (put_other ints2 (z.ints + (i + 1)) _ (z.ints + i) (λ h. omega arith) ∙ put_same ints1 (z.ints + i) _)
        (λ x h. put_same ints2 (z.ints + (i + 1)) _ ∙ ap (λ q. pos (n * cells + off q)) (same_mutex mutex x h)))))))
    element_by false n i f None pc c ints s k e le has a v rest =
        weaken z.flat s.fuel (c + 1) (c + 3) _ s.answers _ (omega arith)
        (ends z.flat (bounds i f) (stopped Trap.IndexOutOfBounds site) c s (place z pc ints refs s) (holding z (T ++ bases) scope ints refs s a) refl refl has.0 (stops_index i f n pc ints s e v))
    element_by false n i f (Some mutex) pc c ints s k e le has a v rest =
        let ints1 = put ints (z.ints + (i + 1)) (ints (z.ints + i)) in
        let v1 : ints1 (z.ints + i) ≡ pos n = put_other ints (z.ints + (i + 1)) (ints (z.ints + i)) (z.ints + i) (λ h. omega arith) ∙ v in
        weaken z.flat s.fuel (c + 1 + 1) (c + 3) _ s.answers _ (omega arith)
        (step z.flat (Op.Move (i + 1) i) s.fuel (c + 1) _ s.answers (place z pc ints refs s) (place z (pc + 1) ints1 refs s) has.0 refl
        (ends z.flat (bounds i f) (stopped Trap.IndexOutOfBounds site) c s (place z (pc + 1) ints1 refs s) (holding z (T ++ bases) scope ints refs s a) refl refl has.1.0 (stops_index i f n (pc + 1) ints1 s e v1)))

    below_by : (n i f : ℕ) (guard : Option ℕ) (pc c : ℕ) (ints : ℕ → ℤ) (s : State) → HasAt z.flat.lines pc (bounds_code bounds i f guard) → Agree z (T ++ bases) scope [] ints refs s → ints (z.ints + i) ≡ negsuc n
        → Same z.flat s.fuel (c + 3) (fin_of (stopped Trap.IndexOutOfBounds site) s) s.answers (place z pc ints refs s)
    below_by n i f None pc c ints s has a v =
        weaken z.flat s.fuel (c + 1) (c + 3) _ s.answers _ (omega arith)
        (ends z.flat (bounds i f) (stopped Trap.IndexOutOfBounds site) c s (place z pc ints refs s) (holding z (T ++ bases) scope ints refs s a) refl refl has.0 (stops_below i f n pc ints s v))
    below_by n i f (Some mutex) pc c ints s has a v =
        let ints1 = put ints (z.ints + (i + 1)) (ints (z.ints + i)) in
        let v1 : ints1 (z.ints + i) ≡ negsuc n = put_other ints (z.ints + (i + 1)) (ints (z.ints + i)) (z.ints + i) (λ h. omega arith) ∙ v in
        weaken z.flat s.fuel (c + 1 + 1) (c + 3) _ s.answers _ (omega arith)
        (step z.flat (Op.Move (i + 1) i) s.fuel (c + 1) _ s.answers (place z pc ints refs s) (place z (pc + 1) ints1 refs s) has.0 refl
        (ends z.flat (bounds i f) (stopped Trap.IndexOutOfBounds site) c s (place z (pc + 1) ints1 refs s) (holding z (T ++ bases) scope ints refs s a) refl refl has.1.0 (stops_below i f n (pc + 1) ints1 s v1)))

    pub element_runs : (v : ℤ) (i f : ℕ) (guard : Option ℕ) (pc c : ℕ) (ints : ℕ → ℤ) (s : State) (k : StorePlace → State → Fin) → int_count scope ≤ i → HasAt z.flat.lines pc (bounds_code bounds i f guard) → Agree z (T ++ bases) scope [] ints refs s → ints (z.ints + i) ≡ v
        → Found i f guard (pc + length (bounds_code bounds i f guard)) c ints s k → Same z.flat s.fuel (c + 3) (fin_then (element site o cells elements v s) k) s.answers (place z pc ints refs s)
    element_runs (pos n) i f guard pc c ints s k le has a v rest = element_by (nat_lt n elements) n i f guard pc c ints s k refl le has a v rest
    element_runs (negsuc n) i f guard pc c ints s k le has a v rest = below_by n i f guard pc c ints s has a v

  plain_stack : (T : List ℤ) (L : List ℤ) (ints refs : ℕ → ℤ) (s : State) → Agree z (T ++ []) scope L ints refs s → Agree z T scope L ints refs s
  plain_stack T L ints refs s a = subst (λ t. Agree z t scope L ints refs s) (append-nil T) a

  whole_stack : (T : List ℤ) (L : List ℤ) (ints refs : ℕ → ℤ) (s : State) → Agree z T scope L ints refs s → Agree z (T ++ []) scope L ints refs s
  whole_stack T L ints refs s a = subst (λ t. Agree z t scope L ints refs s) (sym (append-nil T)) a

  -- `a[i]` behind a pointer
  pub pointer_index_runs : (ka ki : Kind) (f guard : Option ℕ) (site : Site) (cells : ℕ) (pointer number : Run ℤ) (cp : ℕ → ℕ → List Op) (ci : ℕ → ℕ → List Op) → is_reference ka ≡ true → is_integer ki ≡ true → RunsAs m z scope ka 0 pointer cp → RunsAs m z scope ki 0 number ci
      → PlaceAs m z scope (in_object_at (own_field f 0)) f guard 0 (pointer >>= λ p. based site ka p >> (number >>= λ n. element site (Made (number_of p)) cells (elements_of p) n))
      (λ i r. cp i r ++ (Op.ChkNull r (at_site site) ∷ (ci i (r + 1) ++ bounds_code (λ j n. Op.Bounds j r cells n (at_site site)) i (own_field f 0) guard)))
  pointer_index_runs ka ki f guard site cells pointer number cp ci ea ei of_pointer of_number T i r pc c ints refs s k has le re a rest =
      let bc = bounds_code (λ j n. Op.Bounds j r cells n (at_site site)) i (own_field f 0) guard in
      let tail = Op.ChkNull r (at_site site) ∷ (ci i (r + 1) ++ bc) in
      let K0 : ℤ → State → Fin = λ p u. fin_then ((based site ka p >> (number >>= λ n. element site (Made (number_of p)) cells (elements_of p) n)) u) k in
      let six : c + 0 + 6 ≡ c + 5 + 1 = omega arith in
      let has_p = has_front z.flat.lines pc (cp i r) tail has in
      let has_t = has_back z.flat.lines pc (cp i r) tail has in
      let has_i = has_front z.flat.lines (pc + length (cp i r) + 1) (ci i (r + 1)) bc has_t.1 in
      let has_b = has_back z.flat.lines (pc + length (cp i r) + 1) (ci i (r + 1)) bc has_t.1 in
      let end : pc + length (cp i r) + 1 + length (ci i (r + 1)) + length bc ≡ pc + length (cp i r ++ tail) = omega (arith, length-append (cp i r) tail, length-append (ci i (r + 1)) bc) in
      bind z.flat s.fuel (c + 0) s.answers (pointer s) (λ p. based site ka p >> (number >>= λ n. element site (Made (number_of p)) cells (elements_of p) n)) k (place z pc ints refs s)
      (of_pointer T i r pc c ints refs s K0 has_p le re a (λ p ints1 refs1 s1 w1.
      let a1 : Agree z T scope (p ∷ []) ints1 refs1 s1 = subst (λ b. Agree z T scope (loose_of b p) ints1 refs1 s1) ea w1.agree in
      let K1 : ℤ → State → Fin = λ n u. fin_then (element site (Made (number_of p)) cells (elements_of p) n u) k in
      bind z.flat s1.fuel (c + 6) s1.answers (based site ka p s1) (λ _. number >>= λ n. element site (Made (number_of p)) cells (elements_of p) n) k (place z (pc + length (cp i r)) ints1 refs1 s1)
      (subst (λ q. Same z.flat s1.fuel q (fin_then (based site ka p s1) (λ _ u. fin_then ((number >>= λ n. element site (Made (number_of p)) cells (elements_of p) n) u) k)) s1.answers (place z (pc + length (cp i r)) ints1 refs1 s1)) (let x : c + 5 + 1 ≡ c + 6 = omega arith in x)
      (based_runs T ka site p r (pc + length (cp i r)) (c + 5) (ci i (r + 1) ++ bc) ints1 refs1 s1 (λ _ u. fin_then ((number >>= λ n. element site (Made (number_of p)) cells (elements_of p) n) u) k) ea has_t re a1 (λ a2 not_null.
      let u1 : State = record s1 { frame = with_temporary p s1.frame } in
      let re1 : r + 1 ≡ ref_count scope + length (T ++ p ∷ []) = omega (arith, length-append T (p ∷ [])) in
      bind z.flat s1.fuel (c + 5) s1.answers (number u1) (λ n. element site (Made (number_of p)) cells (elements_of p) n) k (place z (pc + length (cp i r) + 1) ints1 refs1 u1)
      (weaken z.flat s1.fuel (c + 3 + 0) (c + 5) _ s1.answers _ (omega arith)
      (of_number (T ++ p ∷ []) i (r + 1) (pc + length (cp i r) + 1) (c + 3) ints1 refs1 u1 K1 has_i le re1 a2 (λ n ints2 refs2 s2 w2.
      let a3 : Agree z (T ++ p ∷ []) scope [] ints2 refs2 s2 = subst (λ b. Agree z (T ++ p ∷ []) scope (loose_of b n) ints2 refs2 s2) (integer_is ki ei) w2.agree in
      let r0 : r ≡ ref_count scope + length T + 0 = omega arith in
      let v : refs2 (z.refs + r) ≡ p = last_is z T scope [] p [] r ints2 refs2 (without (length T) s2) r0 (loosen z T scope (p ∷ []) [] ints2 refs2 s2 a3) in
      weaken z.flat s2.fuel (c + 6 + 3) (c + 3 + 6) _ s2.answers _ (omega arith)
      (element_runs T (p ∷ []) site refs2 (λ j x. Op.Bounds j r cells x (at_site site)) cells (elements_of p) (λ x. x) (Made (number_of p))
      (λ j x q bank u. ap (λ y. indexed j cells x (bank (z.ints + j)) (elements_of y) (at_site site) (place z q bank refs2 u)) v)
      n i (own_field f 0) guard (pc + length (cp i r) + 1 + length (ci i (r + 1))) (c + 6) ints2 s2 k le has_b a3 (w2.value ei)
      (λ q ints3 a4 kept v3 g3.
      subst (λ x. Same z.flat s2.fuel (c + 6) (k (cell (Made (number_of p)) (q * cells) (q * cells)) s2) s2.answers (place z x ints3 refs2 s2)) (sym end)
      (rest (cell (Made (number_of p)) (q * cells) (q * cells)) (p ∷ []) ints3 refs2 s2 (record {
        agree = a4;
        kept = λ x lt. kept x lt ∙ w2.kept x lt ∙ w1.kept x lt;
        lies = (p, q * cells, refl, field_here f (q * cells) (Made (number_of p)), v3, g3, not_null);
      }))))))))))))
    where
      field_here : (f : Option ℕ) (first : ℕ) (o : Object) → within m z scope f (cell o first first) ≡ cell o first (first + own_field f 0)
      field_here None first o = let e : first ≡ first + 0 = omega arith in ap (λ n. cell o first n) e
      field_here (Some n) first o = refl

  field_first : (f : Option ℕ) (first : ℕ) (o : Object) → within m z scope f (cell o first first) ≡ cell o first (first + own_field f 0)
  field_first None first o = let e : first ≡ first + 0 = omega arith in ap (λ n. cell o first n) e
  field_first (Some n) first o = refl

  -- `a[i]` in a global array
  pub array_index_runs : (g : ℕ) (t : Target) (ki : Kind) (f guard : Option ℕ) (site : Site) (cells : ℕ) (of_base : Run StorePlace) (number : Run ℤ) (ca : ℕ → ℕ → List Op) (ci : ℕ → ℕ → List Op) → t ≡ in_global g 0 → is_integer ki ≡ true
      → PlaceAs m z scope t None None 0 of_base ca → RunsAs m z scope ki 0 number ci
      → PlaceAs m z scope (in_global_at g (own_field f 0)) f guard 0 (of_base >>= λ base. number >>= λ n. element_of_array m.typed site cells base n)
      (λ i r. ca i r ++ (ci i r ++ bounds_code (λ j n. Op.GlobalBounds j (global_elements (global_at m.typed g)) cells (first_cell z.flat.globals g + n) (at_site site)) i (own_field f 0) guard))
  array_index_runs g t ki f guard site cells of_base number ca ci et ei of_array of_number T i r pc c ints refs s k has le re a rest =
      let elements = global_elements (global_at m.typed g) in
      let bounds : ℕ → ℕ → Op = λ j n. Op.GlobalBounds j elements cells (first_cell z.flat.globals g + n) (at_site site) in
      let bc = bounds_code bounds i (own_field f 0) guard in
      let tail = ci i r ++ bc in
      let has_a = has_front z.flat.lines pc (ca i r) tail has in
      let has_t = has_back z.flat.lines pc (ca i r) tail has in
      let has_i = has_front z.flat.lines (pc + length (ca i r)) (ci i r) bc has_t in
      let has_b = has_back z.flat.lines (pc + length (ca i r)) (ci i r) bc has_t in
      let end : pc + length (ca i r) + length (ci i r) + length bc ≡ pc + length (ca i r ++ tail) = omega (arith, length-append (ca i r) tail, length-append (ci i r) bc) in
      bind z.flat s.fuel (c + 0) s.answers (of_base s) (λ base. number >>= λ n. element_of_array m.typed site cells base n) k (place z pc ints refs s)
      (of_array T i r pc c ints refs s (λ base u. fin_then ((number >>= λ n. element_of_array m.typed site cells base n) u) k) has_a le re a (λ base bases ints1 refs1 s1 w1.
      let lies : Lies m z scope (in_global g 0) None i ints1 bases base = subst (λ x. Lies m z scope x None i ints1 bases base) et w1.lies in
      let a1 : Agree z T scope [] ints1 refs1 s1 = plain_stack T [] ints1 refs1 s1 (subst (λ bs. Agree z (T ++ bs) scope [] ints1 refs1 s1) lies.0 w1.agree) in
      let first_is : base ≡ cell (Global g) 0 0 = lies.1 in
      subst (λ x. Same z.flat s1.fuel (c + 6) (fin_then ((number >>= λ n. element_of_array m.typed site cells x n) s1) k) s1.answers (place z (pc + length (ca i r)) ints1 refs1 s1)) (sym first_is)
      (bind z.flat s1.fuel (c + 6) s1.answers (number s1) (λ n. element site (Global g) cells elements n) k (place z (pc + length (ca i r)) ints1 refs1 s1)
      (weaken z.flat s1.fuel (c + 3 + 0) (c + 6) _ s1.answers _ (omega arith)
      (of_number T i r (pc + length (ca i r)) (c + 3) ints1 refs1 s1 (λ n u. fin_then (element site (Global g) cells elements n u) k) has_i le re a1 (λ n ints2 refs2 s2 w2.
      let a2 : Agree z (T ++ []) scope [] ints2 refs2 s2 = whole_stack T [] ints2 refs2 s2 (subst (λ b. Agree z T scope (loose_of b n) ints2 refs2 s2) (integer_is ki ei) w2.agree) in
      weaken z.flat s2.fuel (c + 6 + 3) (c + 3 + 6) _ s2.answers _ (omega arith)
      (element_runs T [] site refs2 bounds cells elements (λ x. first_cell z.flat.globals g + x) (Global g) (λ j x q bank u. refl)
      n i (own_field f 0) guard (pc + length (ca i r) + length (ci i r)) (c + 6) ints2 s2 k le has_b a2 (w2.value ei)
      (λ q ints3 a3 kept v3 g3.
      subst (λ x. Same z.flat s2.fuel (c + 6) (k (cell (Global g) (q * cells) (q * cells)) s2) s2.answers (place z x ints3 refs2 s2)) (sym end)
      (rest (cell (Global g) (q * cells) (q * cells)) [] ints3 refs2 s2 (record {
        agree = a3;
        kept = λ x lt. kept x lt ∙ w2.kept x lt ∙ w1.kept x lt;
        lies = (q * cells, refl, field_first f (q * cells) (Global g), v3, g3);
      }))))))))))

  -- what a pointer refers to
  pub pointee_runs : (ka : Kind) (site : Site) (pointer : Run ℤ) (cp : ℕ → ℕ → List Op) → is_reference ka ≡ true → RunsAs m z scope ka 0 pointer cp
      → (T : List ℤ) (i r pc c : ℕ) (ints refs : ℕ → ℤ) (s : State) (k : StorePlace → State → Fin) → HasAt z.flat.lines pc (pointee_code r site (cp i r)) → int_count scope ≤ i → r ≡ ref_count scope + length T → Agree z T scope [] ints refs s
      → ((p : ℤ) (ints' refs' : ℕ → ℤ) (u : State) → is_null p ≡ false → Agree z (T ++ p ∷ []) scope [] ints' refs' u → ((q : ℕ) → q < z.ints + i → ints' q ≡ ints q) → Same z.flat u.fuel (c + 6) (k (pointee p) u) u.answers (place z (pc + length (pointee_code r site (cp i r))) ints' refs' u))
      → Same z.flat s.fuel (c + 1) (fin_then ((pointer >>= λ p. based site ka p >> give (pointee p)) s) k) s.answers (place z pc ints refs s)
  pointee_runs ka site pointer cp ea of_pointer T i r pc c ints refs s k has le re a rest =
      let tail = Op.ChkNull r (at_site site) ∷ [] in
      let end : pc + length (cp i r) + 1 ≡ pc + length (cp i r ++ tail) = omega (arith, length-append (cp i r) tail) in
      let seven : c + 6 + 1 ≡ c + 1 + 6 = omega arith in
      bind z.flat s.fuel (c + 1) s.answers (pointer s) (λ p. based site ka p >> give (pointee p)) k (place z pc ints refs s)
      (weaken z.flat s.fuel (c + 1 + 0) (c + 1) _ s.answers _ (omega arith)
      (of_pointer T i r pc (c + 1) ints refs s (λ p u. fin_then ((based site ka p >> give (pointee p)) u) k) (has_front z.flat.lines pc (cp i r) tail has) le re a (λ p ints1 refs1 s1 w1.
      let a1 : Agree z T scope (p ∷ []) ints1 refs1 s1 = subst (λ b. Agree z T scope (loose_of b p) ints1 refs1 s1) ea w1.agree in
      bind z.flat s1.fuel (c + 1 + 6) s1.answers (based site ka p s1) (λ _. give (pointee p)) k (place z (pc + length (cp i r)) ints1 refs1 s1)
      (subst (λ q. Same z.flat s1.fuel q (fin_then (based site ka p s1) (λ _ u. k (pointee p) u)) s1.answers (place z (pc + length (cp i r)) ints1 refs1 s1)) seven
      (based_runs T ka site p r (pc + length (cp i r)) (c + 6) [] ints1 refs1 s1 (λ _ u. k (pointee p) u) ea (has_back z.flat.lines pc (cp i r) tail has) re a1 (λ a2 not_null.
      let u1 : State = record s1 { frame = with_temporary p s1.frame } in
      subst (λ x. Same z.flat s1.fuel (c + 6) (k (pointee p) u1) s1.answers (place z x ints1 refs1 u1)) (sym end) (rest p ints1 refs1 u1 not_null a2 w1.kept)))))))

  field_own : (f : Option ℕ) (n : ℕ) (o : Object) → within m z scope f (cell o 0 (0 + n)) ≡ cell o 0 (0 + own_field f n)
  field_own None n o = refl
  field_own (Some x) n o = refl

  -- `*a`
  pub pointee_place_runs : (r0 : Kind) (f guard : Option ℕ) (site : Site) (pointer : Run ℤ) (cp : ℕ → ℕ → List Op) → is_reference r0 ≡ true → RunsAs m z scope r0 0 pointer cp
      → PlaceAs m z scope (in_object (own_field f 0)) f guard 1 (pointer >>= λ p. based site r0 p >> give (pointee p)) (λ i r. pointee_code r site (cp i r))
  pointee_place_runs ka f guard site pointer cp ea of_pointer T i r pc c ints refs s k has le re a rest =
      pointee_runs ka site pointer cp ea of_pointer T i r pc c ints refs s k has le re a
      (λ p ints1 refs1 u not_null a1 kept. rest (pointee p) (p ∷ []) ints1 refs1 u (record { agree = a1; kept = kept; lies = (p, refl, field_own f 0 (Made (number_of p)), not_null) }))

  -- `a->n`
  pub arrow_runs : (ka : Kind) (f guard : Option ℕ) (n : ℕ) (site : Site) (pointer : Run ℤ) (cp : ℕ → ℕ → List Op) → is_reference ka ≡ true → RunsAs m z scope ka 0 pointer cp
      → PlaceAs m z scope (in_object (own_field f n)) f guard 1 ((pointer >>= λ p. based site ka p >> give (pointee p)) >>= λ p. give (field_in n p)) (λ i r. pointee_code r site (cp i r))
  arrow_runs ka f guard n site pointer cp ea of_pointer T i r pc c ints refs s k has le re a rest =
      bind z.flat s.fuel (c + 1) s.answers ((pointer >>= λ p. based site ka p >> give (pointee p)) s) (λ p. give (field_in n p)) k (place z pc ints refs s)
      (pointee_runs ka site pointer cp ea of_pointer T i r pc c ints refs s (λ p u. k (field_in n p) u) has le re a
      (λ p ints1 refs1 u not_null a1 kept. rest (field_in n (pointee p)) (p ∷ []) ints1 refs1 u (record { agree = a1; kept = kept; lies = (p, refl, field_own f n (Made (number_of p)), not_null) })))

  field_twice : (f : Option ℕ) (n : ℕ) (p : StorePlace) → within m z scope f (field_in n p) ≡ within m z scope (Some (own_field f n)) p
  field_twice None n p = refl
  field_twice (Some x) n (variable y) = refl
  field_twice (Some x) n (cell o first c) = refl

  -- `a.n`
  pub dot_runs : (t : Target) (f guard : Option ℕ) (n : ℕ) (base : Run StorePlace) (cb : ℕ → ℕ → List Op) → PlaceAs m z scope t (Some (own_field f n)) guard 0 base cb → PlaceAs m z scope t f guard 0 (base >>= λ p. give (field_in n p)) cb
  dot_runs t f guard n base cb of_base T i r pc c ints refs s k has le re a rest =
      bind z.flat s.fuel (c + 0) s.answers (base s) (λ p. give (field_in n p)) k (place z pc ints refs s)
      (of_base T i r pc c ints refs s (λ p u. k (field_in n p) u) has le re a
      (λ p bases ints1 refs1 u w. rest (field_in n p) bases ints1 refs1 u (record { agree = w.agree; kept = w.kept; lies = subst (λ x. Lies m z scope t guard i ints1 bases x) (sym (field_twice f n p)) w.lies })))
