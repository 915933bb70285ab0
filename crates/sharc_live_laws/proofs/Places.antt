-- Places: the code that finds one, and the local that it is.
use Rattle.sharc_live_laws.proofs.{Imports.{◌≡◌, ℕ, Bool, true, false, cond, ◌==◌, List, [], Option, Some, None, refl, ◌∙◌, subst, append-nil, both_ways, ℤ, pos, negsuc, nat_lt, Object, Global, Made, Site, Span, FieldOperator, Dot, Arrow, UnaryOperator, Not, Dereference, Trap, Expression, identifier, constant, parentheses, call, index, field, unary, binary, Function, Named, Kind, is_array, element_kind, int, long, OperatorClass, Shift, Arithmetic, class_of, binary_result, Resolution, named_at, kind_at, global_at, function_at, result_kind_of, called_kind, Act, To, Next, Ends, Code, first_then, one_of, goes_on, variable_named, variable_of, of_base, of_operand, flow, place_flow, element_cells, global_elements, field_place_named, number_of, elements_of, Run, ◌>>=◌, ◌>>◌, give, stop, entered, StorePlace, variable, cell, no_place, place_named, pointee, field_in, based, element, element_of_array, index_place, pointee_place, field_place, unary_place}, Ways.{Way, way_goes, way_stays, way_then, way_leaves, way_one, way_other}, Along.{Any, onward, Along, along_as, moved_not, gives, binds, then_idle, idle_then}, Calm.{Calm, calm_enters, calm_based, idle}, Locals.{is_named, is_at, unseen, way_read_more}}
use Rattle.sharc_live.specs.Flows.{through}
use Rattle.sharc_live.specs.Flows as flows

-- ---- what no array is

promoted_no_array : (b : Bool) → is_array (cond b long int) ≡ false
promoted_no_array true = refl
promoted_no_array false = refl

result_no_array : (k : OperatorClass) (a b : Kind) → is_array (binary_result k a b) ≡ false
result_no_array Shift a b = promoted_no_array _
result_no_array Arithmetic a b = promoted_no_array _
result_no_array _ a b = refl

given_no_array : (f : Option Function) → is_array (result_kind_of f) ≡ false
given_no_array None = refl
given_no_array (Some f) = refl

called_no_array : (r : Resolution) (n : Named) → is_array (called_kind r n) ≡ false
called_no_array r (Named.Function n) = given_no_array (function_at r n)
called_no_array r (Named.Variable token) = refl
called_no_array r (Named.Field token) = refl
called_no_array r _ = refl

module _ (r : Resolution) (x : ℕ) where
  -- the place is this local, or is not
  abbrev pub Spot : Bool → StorePlace → Type 0
  Spot b p = is_at p x ≡ b

  abbrev pub names : Expression → Bool
  names e = is_named (variable_of r e) x

  pub stops : {A : Type 0} (c : Code) (exit : A → To) (fact : A → Type 0) (trap : Trap) (site : Site) → Along r x c exit fact (stop {A = A} trap site)
  stops c exit fact trap site = record { from_state = λ s ready. moved_not r x c Ends s.frame.call s.calls s.calls s.trace s.trace refl refl (way_stays x c) }

  pub either_along : {A : Type 0} {c : Code} {exit : A → To} {fact : A → Type 0} (b : Bool) {m n : Run A} → Along r x c exit fact m → Along r x c exit fact n → Along r x c exit fact (cond b m n)
  either_along true hm hn = hm
  either_along false hm hn = hn

  pub one_along : {A : Type 0} {a : Code} {exit : A → To} {fact : A → Type 0} {m : Run A} (b : Code) → Along r x a exit fact m → Along r x (one_of a b) exit fact m
  one_along {a = a} {exit = exit} b h = along_as r x (λ v us w. way_one x a b (exit v) us w) (λ us w. way_one x a b Ends us w) (λ v k. k) h

  pub other_along : {A : Type 0} {b : Code} {exit : A → To} {fact : A → Type 0} {m : Run A} (a : Code) → Along r x b exit fact m → Along r x (one_of a b) exit fact m
  other_along {b = b} {exit = exit} a h = along_as r x (λ v us w. way_other x a b (exit v) us w) (λ us w. way_other x a b Ends us w) (λ v k. k) h

  pub entered_along : {A : Type 0} {c : Code} {exit : A → To} {fact : A → Type 0} {m : Run A} → Along r x c exit fact m → Along r x c exit fact (entered m)
  entered_along h = idle_then r x (idle r x calm_enters) (λ v k. h)

  pub then_calm : {A B : Type 0} {c : Code} {m : Run A} {f : A → Run B} → Along r x c onward Any m → ((v : A) → Calm (f v)) → Along r x c onward Any (m >>= f)
  then_calm h k = then_idle r x h (λ v l. idle r x (k v))

  gives_place : (p : StorePlace) (b : Bool) → is_at p x ≡ b → Along r x goes_on onward (Spot b) (give p)
  gives_place p b h = gives r x goes_on onward (Spot b) p (way_goes x Next) h

  element_along : (site : Site) (o : Object) (cells elements : ℕ) (i : ℤ) → Along r x goes_on onward (Spot false) (element site o cells elements i)
  element_along site o cells elements (pos n) = either_along (nat_lt n elements) (gives_place _ false refl) (stops goes_on onward (Spot false) Trap.IndexOutOfBounds site)
  element_along site o cells elements (negsuc n) = stops goes_on onward (Spot false) Trap.IndexOutOfBounds site

  pub pointee_along : (site : Site) (a : Expression) (pointer : Run ℤ) (c : Code) → Along r x c onward Any pointer → Along r x c onward (Spot false) (pointee_place r site a pointer)
  pointee_along site a pointer c h = then_idle r x h (λ p k. idle_then r x (idle r x (calm_based site (kind_at r a) p)) (λ v l. gives_place (pointee p) false refl))

  field_same : (n : ℕ) (p : StorePlace) → is_at (field_in n p) x ≡ is_at p x
  field_same n (variable y) = refl
  field_same n (cell o first c) = refl

  pub field_along : (site : Site) (a : Expression) (w : FieldOperator) (n : Named) (base : Run StorePlace) (pointer : Run ℤ) → Along r x (place_flow r a) onward (Spot (names a)) base → Along r x (flow r a) onward Any pointer
      → Along r x (of_base w (place_flow r a) (flow r a)) onward (Spot (is_named (through w (variable_of r a)) x)) (field_place r site a w n base pointer)
  field_along site a Dot n base pointer hb hp = then_idle r x hb (λ p e. gives_place (field_in (field_place_named r n) p) (names a) (field_same (field_place_named r n) p ∙ e))
  field_along site a Arrow n base pointer hb hp = then_idle r x (pointee_along site a pointer (flow r a) hp) (λ p e. gives_place (field_in (field_place_named r n) p) false (field_same (field_place_named r n) p ∙ e))

  -- ---- a base that is an array: the flow may read more

  field_more : (c : Code) (o : Option ℕ) (token : ℕ) (t : To) (us : List Act) → Way x c t us → Way x (first_then c (flows.reads o token)) t us
  field_more c o token Next us w = subst (λ z. Way x (first_then c (flows.reads o token)) Next z) (append-nil us) (way_then x c (flows.reads o token) Next us [] w (way_read_more x o token))
  field_more c o token k us w = way_leaves x c (flows.reads o token) k us tt w

  abbrev Wider : Expression → Type 0
  Wider a = (t : To) (us : List Act) → Way x (place_flow r a) t us → Way x (flow r a) t us

  none_such : (a : Expression) → is_array (kind_at r a) ≡ false → is_array (kind_at r a) ≡ true → Wider a
  none_such a e h = absurd (both_ways (is_array (kind_at r a)) e h)

  unary_wider : (o : UnaryOperator) (s : Span) (a : Expression) → is_array (kind_at r (unary s o a)) ≡ true → Wider (unary s o a)
  unary_wider Not s a h = none_such (unary s Not a) refl h
  unary_wider Dereference s a h = λ t us w. w
  unary_wider k s a h = none_such (unary s k a) (promoted_no_array _) h

  wider : (a : Expression) → is_array (kind_at r a) ≡ true → Wider a
  wider (identifier s i) h = λ t us w. unseen x t us (flow r (identifier s i)) (way_read_more x (variable_named (named_at r i.site.token)) i.site.token) w
  wider (constant s c) h = λ t us w. w
  wider (parentheses s a) h = wider a h
  wider (call s f all) h = none_such (call s f all) (called_no_array r (named_at r f.site.token)) h
  wider (index s a i) h = λ t us w. w
  wider (field s a w n) h = λ t us k. field_more (of_base w (place_flow r a) (flow r a)) (through w (variable_of r a)) s.first.token t us k
  wider (unary s o a) h = unary_wider o s a h
  wider (binary s o at a b) h = none_such (binary s o at a b) (result_no_array (class_of o) (kind_at r a) (kind_at r b)) h
  wider k h = none_such k refl h

  wider_along : (a : Expression) (base : Run StorePlace) → is_array (kind_at r a) ≡ true → Along r x (place_flow r a) onward (Spot (names a)) base → Along r x (flow r a) (onward {A = StorePlace}) Any base
  wider_along a base e h = along_as r x (λ v us w. wider a e Next us w) (λ us w. wider a e Ends us w) (λ v k. tt {0}) h

  -- ---- what needs a local that is no token 0

  module _ (is_local : (0 == x) ≡ false) where
    array_along : (site : Site) (cells : ℕ) (p : StorePlace) (i : ℤ) → Along r x goes_on onward (Spot false) (element_of_array r site cells p i)
    array_along site cells (cell (Global g) first c) i = element_along site (Global g) cells (global_elements (global_at r g)) i
    array_along site cells _ i = gives_place no_place false is_local

    pub index_along : (site : Site) (a i : Expression) (base : Run StorePlace) (pointer number : Run ℤ) → Along r x (place_flow r a) onward (Spot (names a)) base → Along r x (flow r a) onward Any pointer → Along r x (flow r i) onward Any number
        → Along r x (first_then (flow r a) (flow r i)) onward (Spot false) (index_place r site a base pointer number)
    index_along site a i base pointer number hb hp hi = by_kind (is_array (kind_at r a)) refl
      where
        by_kind : (b : Bool) → is_array (kind_at r a) ≡ b → Along r x (first_then (flow r a) (flow r i)) onward (Spot false)
            (cond b (base >>= λ p. number >>= λ n. element_of_array r site (element_cells r (element_kind (kind_at r a))) p n)
            (pointer >>= λ p. based site (kind_at r a) p >> (number >>= λ n. element site (Made (number_of p)) (element_cells r (element_kind (kind_at r a))) (elements_of p) n)))
        by_kind true e = binds r x (wider_along a base e hb) (λ p k. then_idle r x hi (λ n l. array_along site _ p n))
        by_kind false e = binds r x hp (λ p k. idle_then r x (idle r x (calm_based site (kind_at r a) p)) (λ v l. then_idle r x hi (λ n q. element_along site (Made (number_of p)) _ (elements_of p) n)))

    pub named_along : (n : Named) → Along r x goes_on onward (Spot (is_named (variable_named n) x)) (give (place_named n))
    named_along (Named.Variable token) = gives_place (variable token) (token == x) refl
    named_along (Named.Global n) = gives_place (cell (Global n) 0 0) false refl
    named_along _ = gives_place no_place false is_local

    pub no_place_along : Along r x goes_on onward (Spot false) (give no_place)
    no_place_along = gives_place no_place false is_local

    pub unary_place_along : (site : Site) (o : UnaryOperator) (a : Expression) (pointer : Run ℤ) → Along r x (flow r a) onward Any pointer → Along r x (of_operand o (flow r a)) onward (Spot false) (unary_place r site o a pointer)
    unary_place_along site Dereference a pointer h = pointee_along site a pointer (flow r a) h
    unary_place_along site _ a pointer h = no_place_along
