-- What expressions are begun with, and what goes on with the value of that.
use Rattle.sharc_ask.proofs.{Imports.{◌≡◌, ℕ, Bool, List, [], ◌∷◌, length, Option, Some, refl, sym, ap, ◌∙◌, subst, ℤ, pos, if◌then◌else◌, Act, Cast, ToFree, Site, Span, Arrow, BinaryOperator, LogicalOr, LogicalAnd, Free, Negate, span_of, Identifier, WrittenType, PlaceCall, UnaryOperator, Expression, identifier, call, spawn, on_place, cast, unary, binary, Arguments, class_of, binary_result, Resolution, named_at, kind_at, parameters_named, Named, Kind, declared_kinds, cell_at, pointed, Assignment, cast_row, bits_of, field_place_named, Calls, passed, number_named, named_value, spawned, place_called, cast_value, place_value, unary_value, binary_value, eval, place_of, StorePlace, field_in, pointee_place, field_place, taken_from, cast_to, freed, is_null, State, Outcome, Out, go, over, Run, then_on, ◌>>=◌, ◌>>◌, give, done, answered, moves, ends_temporaries, lock_call, unlock_call, joined, binary_by, logic_of, place_fetched, calling, Value, number, place, number_in, place_in, gives, ends_above, inside, zero_behind, spawned_with, free_unless_null, and_with, or_with, left_with}, Outs.begun, Steps.binary_is}
use Rattle.sharc_tree.specs.declared.tree.expression.PlaceCall.TheVariants.{Lock, Unlock}

-- ---- a value that is made of that of one expression

pub passed_goes : (r : Resolution) (kinds : List Kind) (a : Expression) (x : ℤ) (t s : State) → passed r kinds a (λ z. go x t) s ≡ passed r kinds a (give x) t
passed_goes r [] a x t s = refl
passed_goes r (kind ∷ rest) a x t s = refl

pub passed_ends : (r : Resolution) (kinds : List Kind) (a : Expression) (o : Outcome) (t s : State) → passed r kinds a (λ z. over o t) s ≡ over o t
passed_ends r [] a o t s = refl
passed_ends r (kind ∷ rest) a o t s = refl

-- an argument looks at its value where it is passed

pub passed_same : (r : Resolution) (kinds : List Kind) (a : Expression) (of_a : Run ℤ) (s : State) → passed r kinds a of_a s ≡ passed r kinds a (λ z. of_a s) s
passed_same r [] a of_a s = refl
passed_same r (kind ∷ rest) a of_a s = refl

pub passed_first : (r : Resolution) (kinds : List Kind) (a : Expression) (of_a : Run ℤ) (s : State) → gives number (passed r kinds a of_a) s ≡ gives number (passed r kinds a (λ z. of_a s)) s
passed_first r [] a of_a s = refl
passed_first r (kind ∷ rest) a of_a s = refl

pub spawn_begins : (r : Resolution) (site : Site) (f : Named) (a : Expression) (of_a : Run ℤ) (mark : ℕ) (s : State) → length s.frame.temporaries ≡ mark
    → gives number (spawned r site f a of_a) s ≡ then_on (gives number of_a s) (λ v. gives number (ends_above mark (spawned_with r site f a (number_in v))))
spawn_begins r site f a of_a mark s same =
    let kinds = declared_kinds (parameters_named r f) in
    let rest : ℤ → Run ℤ = λ v. answered site (Act.Spawn (number_named f) v) >>= (λ t. moves (kind_at r a) >> give t) in
    let behind : ℕ → Out ℤ → Out Value = λ n out. then_on (ends_temporaries n (then_on out rest)) (λ x. give (number x)) in
    subst (λ (n : ℕ). gives number (spawned r site f a of_a) s ≡ then_on (gives number of_a s) (λ v. gives number (ends_above n (spawned_with r site f a (number_in v))))) same
    (ap (behind (length s.frame.temporaries)) (passed_same r kinds a of_a s)
    ∙ begun number (λ v. gives number (ends_above (length s.frame.temporaries) (spawned_with r site f a (number_in v)))) (of_a s) (λ out. gives number (spawned r site f a (λ z. out)) s)
    (λ o t. ap (behind (length s.frame.temporaries)) (passed_ends r kinds a o t s))
    (λ x t. ap (behind (length s.frame.temporaries)) (passed_goes r kinds a x t s)))

-- ---- a place

-- the 0 that a call leaves goes into what is before it
freed_next : (out : Out ℤ) (site : Site) → then_on (then_on (then_on out (λ v. if is_null v then done else freed site v)) (λ u. give (pos 0))) (λ x. give (number x)) ≡ then_on (then_on out (λ x. free_unless_null site x)) (λ x. give (number x))
freed_next (go x t) site = refl
freed_next (over o t) site = refl

pub fetch_begins : (m : Assignment) (e : Expression) (of_p : Run StorePlace) (mark : ℕ) (s : State) → length s.frame.temporaries ≡ mark
    → gives number (place_value m e of_p) s ≡ then_on (gives place of_p s) (λ v. gives number (ends_above mark (place_fetched m e (place_in v))))
fetch_begins m e of_p mark s same =
    subst (λ (n : ℕ). gives number (place_value m e of_p) s ≡ then_on (gives place of_p s) (λ v. gives number (ends_above n (place_fetched m e (place_in v))))) same
    (begun place (λ v. gives number (ends_above (length s.frame.temporaries) (place_fetched m e (place_in v)))) (of_p s) (λ out. gives number (place_value m e (λ z. out)) s) (λ o t. refl) (λ x t. refl))

pub lock_begins : (m : Assignment) (span : Span) (a : Expression) (of_p : Run StorePlace) (mark : ℕ) (s : State) → length s.frame.temporaries ≡ mark
    → gives number (place_called m span Lock a of_p >> give (pos 0)) s ≡ then_on (gives place of_p s) (λ v. gives number (ends_above mark (lock_call span.first (place_in v)) >> give (pos 0)))
lock_begins m span a of_p mark s same =
    subst (λ (n : ℕ). gives number (place_called m span Lock a of_p >> give (pos 0)) s ≡ then_on (gives place of_p s) (λ v. gives number (ends_above n (lock_call span.first (place_in v)) >> give (pos 0)))) same
    (begun place (λ v. gives number (ends_above (length s.frame.temporaries) (lock_call span.first (place_in v)) >> give (pos 0))) (of_p s) (λ out. gives number (place_called m span Lock a (λ z. out) >> give (pos 0)) s) (λ o t. refl) (λ x t. refl))

pub unlock_begins : (m : Assignment) (span : Span) (a : Expression) (of_p : Run StorePlace) (mark : ℕ) (s : State) → length s.frame.temporaries ≡ mark
    → gives number (place_called m span Unlock a of_p >> give (pos 0)) s ≡ then_on (gives place of_p s) (λ v. gives number (ends_above mark (unlock_call span.first (place_in v)) >> give (pos 0)))
unlock_begins m span a of_p mark s same =
    subst (λ (n : ℕ). gives number (place_called m span Unlock a of_p >> give (pos 0)) s ≡ then_on (gives place of_p s) (λ v. gives number (ends_above n (unlock_call span.first (place_in v)) >> give (pos 0)))) same
    (begun place (λ v. gives number (ends_above (length s.frame.temporaries) (unlock_call span.first (place_in v)) >> give (pos 0))) (of_p s) (λ out. gives number (place_called m span Unlock a (λ z. out) >> give (pos 0)) s) (λ o t. refl) (λ x t. refl))

pub free_begins : (m : Assignment) (span : Span) (a : Expression) (of_p : Run StorePlace) (mark : ℕ) (s : State) → length s.frame.temporaries ≡ mark
    → gives number (place_called m span Free a of_p >> give (pos 0)) s
    ≡ then_on (gives place of_p s) (λ v. gives number (ends_above mark (taken_from m.typed span.first (span_of a).first (cell_at m a) ToFree (place_in v)) >>= (λ x. free_unless_null (span_of a).first x)))
free_begins m span a of_p mark s same =
    subst (λ (n : ℕ). gives number (place_called m span Free a of_p >> give (pos 0)) s ≡ then_on (gives place of_p s) (λ v. gives number (ends_above n (taken_from m.typed span.first (span_of a).first (cell_at m a) ToFree (place_in v)) >>= (λ x. free_unless_null (span_of a).first x)))) same
    (begun place (λ v. gives number (ends_above (length s.frame.temporaries) (taken_from m.typed span.first (span_of a).first (cell_at m a) ToFree (place_in v)) >>= (λ x. free_unless_null (span_of a).first x))) (of_p s) (λ out. gives number (place_called m span Free a (λ z. out) >> give (pos 0)) s) (λ o t. refl)
    (λ x t. freed_next (ends_temporaries (length s.frame.temporaries) (taken_from m.typed span.first (span_of a).first (cell_at m a) ToFree x t)) (span_of a).first))

pub cast_begins : (m : Assignment) (span : Span) (a : Expression) (of_p : Run StorePlace) (mark : ℕ) (s : State) → length s.frame.temporaries ≡ mark
    → gives number (cast_value m span a of_p) s
    ≡ then_on (gives place of_p s) (λ v. gives number (ends_above mark (taken_from m.typed span.first (span_of a).first (cell_at m a) Cast (place_in v)) >>= (λ x. if is_null x then give x else cast_to m.typed (span_of a).first (pointed m (Some (cast_row m.typed span))) x)))
cast_begins m span a of_p mark s same =
    subst (λ (n : ℕ). gives number (cast_value m span a of_p) s ≡ then_on (gives place of_p s) (λ v. gives number (ends_above n (taken_from m.typed span.first (span_of a).first (cell_at m a) Cast (place_in v)) >>= (λ x. if is_null x then give x else cast_to m.typed (span_of a).first (pointed m (Some (cast_row m.typed span))) x)))) same
    (begun place (λ v. gives number (ends_above (length s.frame.temporaries) (taken_from m.typed span.first (span_of a).first (cell_at m a) Cast (place_in v)) >>= (λ x. if is_null x then give x else cast_to m.typed (span_of a).first (pointed m (Some (cast_row m.typed span))) x))) (of_p s) (λ out. gives number (cast_value m span a (λ z. out)) s) (λ o t. refl) (λ x t. refl))

-- ---- operators

pub negate_begins : (m : Assignment) (span : Span) (a : Expression) (of_a : Run ℤ) (s : State) → gives number (unary_value m span Negate a of_a) s ≡ then_on (gives number of_a s) (λ v. gives number (unary_value m span Negate a (give (number_in v))))
negate_begins m span a of_a s = begun number (λ v. gives number (unary_value m span Negate a (give (number_in v)))) (of_a s) (λ out. gives number (unary_value m span Negate a (λ z. out)) s) (λ o t. refl) (λ x t. refl)

pub and_begins : (r : Resolution) (at : Site) (a b : Expression) (of_a of_b : Run ℤ) (s : State) → gives number (binary_value r at LogicalAnd a b of_a of_b) s ≡ then_on (gives number of_a s) (λ v. gives number (and_with r a b of_b (number_in v)))
and_begins r at a b of_a of_b s = begun number (λ v. gives number (and_with r a b of_b (number_in v))) (of_a s) (λ out. gives number (binary_value r at LogicalAnd a b (λ z. out) of_b) s) (λ o t. refl) (λ x t. refl)

pub or_begins : (r : Resolution) (at : Site) (a b : Expression) (of_a of_b : Run ℤ) (s : State) → gives number (binary_value r at LogicalOr a b of_a of_b) s ≡ then_on (gives number of_a s) (λ v. gives number (or_with r a b of_b (number_in v)))
or_begins r at a b of_a of_b s = begun number (λ v. gives number (or_with r a b of_b (number_in v))) (of_a s) (λ out. gives number (binary_value r at LogicalOr a b (λ z. out) of_b) s) (λ o t. refl) (λ x t. refl)

pub joined_begins : (r : Resolution) (bits : ℕ) (at : Site) (o : BinaryOperator) (a b : Expression) (of_a of_b : Run ℤ) (mark : ℕ) (s : State) → length s.frame.temporaries ≡ mark
    → gives number (joined r bits at o a b of_a of_b) s ≡ then_on (gives number of_a s) (λ v. gives number (ends_above mark (left_with r bits at o a b of_b (number_in v))))
joined_begins r bits at o a b of_a of_b mark s same =
    subst (λ (n : ℕ). gives number (joined r bits at o a b of_a of_b) s ≡ then_on (gives number of_a s) (λ v. gives number (ends_above n (left_with r bits at o a b of_b (number_in v))))) same
    (begun number (λ v. gives number (ends_above (length s.frame.temporaries) (left_with r bits at o a b of_b (number_in v)))) (of_a s) (λ out. gives number (joined r bits at o a b (λ z. out) of_b) s) (λ o t. refl) (λ x t. refl))

-- ---- places

pub arrow_begins : (r : Resolution) (site : Site) (a : Expression) (n : Named) (of_p : Run StorePlace) (of_a : Run ℤ) (s : State) → gives place (field_place r site a Arrow n of_p of_a) s ≡ then_on (gives place (pointee_place r site a of_a) s) (λ v. gives place (give (field_in (field_place_named r n) (place_in v))))
arrow_begins r site a n of_p of_a s =
    begun place (λ v. gives place (give (field_in (field_place_named r n) (place_in v)))) (pointee_place r site a of_a s) (λ out. then_on (then_on out (λ p. give (field_in (field_place_named r n) p))) (λ p. give (place p))) (λ o t. refl) (λ x t. refl)

-- ---- each form of expression, where it is entered

pub identifier_is : (on_call : Calls) (m : Assignment) (e : Expression) (span : Span) (i : Identifier) → e ≡ identifier span i → (s : State) → inside (gives number (eval on_call m e)) s ≡ gives number (named_value m.typed (cell_at m e) i.site (named_at m.typed i.site.token)) s
identifier_is on_call m e span i same s = subst (λ x. inside (gives number (eval on_call m x)) s ≡ gives number (named_value m.typed (cell_at m x) i.site (named_at m.typed i.site.token)) s) (sym same) refl

pub call_is : (on_call : Calls) (m : Assignment) (e : Expression) (span : Span) (f : Identifier) (named : Named) (name : List ℕ) (all args : Arguments) → e ≡ call span f args → named ≡ named_at m.typed f.site.token → name ≡ f.text → all ≡ args → (s : State)
    → inside (gives number (eval on_call m e)) s ≡ gives number (calling on_call m span.first named name all) s
call_is on_call m e span f named name all args same n t a s =
    subst (λ x. inside (gives number (eval on_call m x)) s ≡ gives number (calling on_call m span.first named name all) s) (sym same)
    (subst (λ x. inside (gives number (eval on_call m (call span f args))) s ≡ gives number (calling on_call m span.first x name all) s) (sym n)
    (subst (λ x. inside (gives number (eval on_call m (call span f args))) s ≡ gives number (calling on_call m span.first (named_at m.typed f.site.token) x all) s) (sym t)
    (subst (λ x. inside (gives number (eval on_call m (call span f args))) s ≡ gives number (calling on_call m span.first (named_at m.typed f.site.token) f.text x) s) (sym a) refl)))

pub spawn_is : (on_call : Calls) (m : Assignment) (e : Expression) (span : Span) (f : Identifier) (a : Expression) (named : Named) (mark : ℕ) → e ≡ spawn span f a → named ≡ named_at m.typed f.site.token → (s : State) → length s.frame.temporaries ≡ mark
    → inside (gives number (eval on_call m e)) s ≡ then_on (gives number (eval on_call m a) s) (λ v. gives number (ends_above mark (spawned_with m.typed span.first named a (number_in v))))
spawn_is on_call m e span f a named mark same n s many =
    subst (λ x. inside (gives number (eval on_call m x)) s ≡ then_on (gives number (eval on_call m a) s) (λ v. gives number (ends_above mark (spawned_with m.typed span.first named a (number_in v))))) (sym same)
    (subst (λ x. inside (gives number (eval on_call m (spawn span f a))) s ≡ then_on (gives number (eval on_call m a) s) (λ v. gives number (ends_above mark (spawned_with m.typed span.first x a (number_in v))))) (sym n)
    (spawn_begins m.typed span.first (named_at m.typed f.site.token) a (eval on_call m a) mark s many))

pub lock_is : (on_call : Calls) (m : Assignment) (e : Expression) (span : Span) (a : Expression) (w : PlaceCall) (site : Site) (mark : ℕ) → e ≡ on_place span w a → w ≡ Lock → site ≡ (span_of a).first → (s : State) → length s.frame.temporaries ≡ mark
    → inside (gives number (eval on_call m e)) s ≡ then_on (gives place (place_of on_call m site a) s) (λ v. gives number (zero_behind (ends_above mark (lock_call span.first (place_in v)))))
lock_is on_call m e span a w site mark same word at s many =
    subst (λ x. inside (gives number (eval on_call m x)) s ≡ then_on (gives place (place_of on_call m site a) s) (λ v. gives number (zero_behind (ends_above mark (lock_call span.first (place_in v)))))) (sym (same ∙ ap (λ z. on_place span z a) word))
    (subst (λ x. inside (gives number (eval on_call m (on_place span Lock a))) s ≡ then_on (gives place (place_of on_call m x a) s) (λ v. gives number (zero_behind (ends_above mark (lock_call span.first (place_in v)))))) (sym at)
    (lock_begins m span a (place_of on_call m (span_of a).first a) mark s many))

pub unlock_is : (on_call : Calls) (m : Assignment) (e : Expression) (span : Span) (a : Expression) (w : PlaceCall) (site : Site) (mark : ℕ) → e ≡ on_place span w a → w ≡ Unlock → site ≡ (span_of a).first → (s : State) → length s.frame.temporaries ≡ mark
    → inside (gives number (eval on_call m e)) s ≡ then_on (gives place (place_of on_call m site a) s) (λ v. gives number (zero_behind (ends_above mark (unlock_call span.first (place_in v)))))
unlock_is on_call m e span a w site mark same word at s many =
    subst (λ x. inside (gives number (eval on_call m x)) s ≡ then_on (gives place (place_of on_call m site a) s) (λ v. gives number (zero_behind (ends_above mark (unlock_call span.first (place_in v)))))) (sym (same ∙ ap (λ z. on_place span z a) word))
    (subst (λ x. inside (gives number (eval on_call m (on_place span Unlock a))) s ≡ then_on (gives place (place_of on_call m x a) s) (λ v. gives number (zero_behind (ends_above mark (unlock_call span.first (place_in v)))))) (sym at)
    (unlock_begins m span a (place_of on_call m (span_of a).first a) mark s many))

pub free_is : (on_call : Calls) (m : Assignment) (e : Expression) (span : Span) (a : Expression) (w : PlaceCall) (site : Site) (mark : ℕ) → e ≡ on_place span w a → w ≡ Free → site ≡ (span_of a).first → (s : State) → length s.frame.temporaries ≡ mark
    → inside (gives number (eval on_call m e)) s ≡ then_on (gives place (place_of on_call m site a) s) (λ v. gives number (ends_above mark (taken_from m.typed span.first (span_of a).first (cell_at m a) ToFree (place_in v)) >>= (λ x. free_unless_null (span_of a).first x)))
free_is on_call m e span a w site mark same word at s many =
    subst (λ x. inside (gives number (eval on_call m x)) s ≡ then_on (gives place (place_of on_call m site a) s) (λ v. gives number (ends_above mark (taken_from m.typed span.first (span_of a).first (cell_at m a) ToFree (place_in v)) >>= (λ x. free_unless_null (span_of a).first x)))) (sym (same ∙ ap (λ z. on_place span z a) word))
    (subst (λ x. inside (gives number (eval on_call m (on_place span Free a))) s ≡ then_on (gives place (place_of on_call m x a) s) (λ v. gives number (ends_above mark (taken_from m.typed span.first (span_of a).first (cell_at m a) ToFree (place_in v)) >>= (λ x. free_unless_null (span_of a).first x)))) (sym at)
    (free_begins m span a (place_of on_call m (span_of a).first a) mark s many))

pub cast_is : (on_call : Calls) (m : Assignment) (e : Expression) (span : Span) (t : WrittenType) (a : Expression) (site : Site) (mark : ℕ) → e ≡ cast span t a → site ≡ (span_of a).first → (s : State) → length s.frame.temporaries ≡ mark
    → inside (gives number (eval on_call m e)) s
    ≡ then_on (gives place (place_of on_call m site a) s) (λ v. gives number (ends_above mark (taken_from m.typed span.first (span_of a).first (cell_at m a) Cast (place_in v)) >>= (λ x. if is_null x then give x else cast_to m.typed (span_of a).first (pointed m (Some (cast_row m.typed span))) x)))
cast_is on_call m e span t a site mark same at s many =
    subst (λ x. inside (gives number (eval on_call m x)) s
    ≡ then_on (gives place (place_of on_call m site a) s) (λ v. gives number (ends_above mark (taken_from m.typed span.first (span_of a).first (cell_at m a) Cast (place_in v)) >>= (λ x. if is_null x then give x else cast_to m.typed (span_of a).first (pointed m (Some (cast_row m.typed span))) x)))) (sym same)
    (subst (λ x. inside (gives number (eval on_call m (cast span t a))) s
    ≡ then_on (gives place (place_of on_call m x a) s) (λ v. gives number (ends_above mark (taken_from m.typed span.first (span_of a).first (cell_at m a) Cast (place_in v)) >>= (λ x. if is_null x then give x else cast_to m.typed (span_of a).first (pointed m (Some (cast_row m.typed span))) x)))) (sym at)
    (cast_begins m span a (place_of on_call m (span_of a).first a) mark s many))

-- a form whose value is what a place holds
pub place_is : (on_call : Calls) (m : Assignment) (e x : Expression) (of_p : Run StorePlace) (mark : ℕ) → e ≡ x → (s : State) → inside (gives number (eval on_call m x)) s ≡ gives number (place_value m x of_p) s → length s.frame.temporaries ≡ mark
    → inside (gives number (eval on_call m e)) s ≡ then_on (gives place of_p s) (λ v. gives number (ends_above mark (place_fetched m e (place_in v))))
place_is on_call m e x of_p mark same s form many = subst (λ z. inside (gives number (eval on_call m z)) s ≡ then_on (gives place of_p s) (λ v. gives number (ends_above mark (place_fetched m z (place_in v))))) (sym same) (form ∙ fetch_begins m x of_p mark s many)

pub unary_is : (on_call : Calls) (m : Assignment) (e : Expression) (span : Span) (o p : UnaryOperator) (a : Expression) → e ≡ unary span o a → o ≡ p → (s : State) → inside (gives number (eval on_call m e)) s ≡ gives number (unary_value m span p a (eval on_call m a)) s
unary_is on_call m e span o p a same op s = subst (λ x. inside (gives number (eval on_call m x)) s ≡ gives number (unary_value m span p a (eval on_call m a)) s) (sym (same ∙ ap (λ z. unary span z a) op)) refl

pub binary_is_by : (on_call : Calls) (m : Assignment) (e : Expression) (span : Span) (o : BinaryOperator) (at : Site) (a b : Expression) (l : Option Bool) → e ≡ binary span o at a b → l ≡ logic_of o → (s : State)
    → inside (gives number (eval on_call m e)) s ≡ gives number (binary_by l m.typed (bits_of (binary_result (class_of o) (kind_at m.typed a) (kind_at m.typed b))) at o a b (eval on_call m a) (eval on_call m b)) s
binary_is_by on_call m e span o at a b l same logic s =
    subst (λ x. inside (gives number (eval on_call m x)) s ≡ gives number (binary_by l m.typed (bits_of (binary_result (class_of o) (kind_at m.typed a) (kind_at m.typed b))) at o a b (eval on_call m a) (eval on_call m b)) s) (sym same)
    (subst (λ x. gives number (binary_value m.typed at o a b (eval on_call m a) (eval on_call m b)) s ≡ gives number (binary_by x m.typed (bits_of (binary_result (class_of o) (kind_at m.typed a) (kind_at m.typed b))) at o a b (eval on_call m a) (eval on_call m b)) s) (sym logic)
    (sym (ap (λ (r : Run ℤ). gives number r s) (binary_is m.typed at o a b (eval on_call m a) (eval on_call m b)))))
