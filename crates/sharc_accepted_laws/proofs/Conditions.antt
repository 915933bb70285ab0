-- Calls of `wait`, `signal` and `broadcast`.
use Rattle.sharc_accepted_laws.proofs.{Imports.{◌≡◌, inl, inr, ℕ, zero, suc, Bool, true, false, List, [], ◌∷◌, ◌++◌, refl, ap, sym, ◌∙◌, subst, Some, bytes_eq, codes, if◌then◌else◌, false≢true, Span, Identifier, expressions, in_arguments, Expression, call, Arguments, no_arguments, argument, Function, Base, Named, Wait, Signal, Broadcast, Kind, object, null, is_pointer, condition_pointer, mutex_pointer, Code, named_at, function_at, kind_at, HasType, HaveTypes, none_left, one_more, Callee, of_program, of_conditions, Assignable, integer, pointer, null_pointer, is_reference, kind_of, is_ref, Context, Either, ReferencesSuit, StaticType, Content, MutexWord, Waiters, SomeNames, Setting, type_by, GoesTo, FirstCell, IsTypeIn, IsVoid, Goes, AreTwo, IsOne, AreTypable, ConditionTyped, CallTypable, IsOf, entry_by, entry_of, typing, HasFirst, ConditionsTyped, setting_of, IsSet}, Arguments.{Parts, part_of, first_part, second_part, AllSuit, AllGo}, Facts.{Laws, has_type, pointer_of}, Forms.{call_typed, reference_scalar}, Given.null_modes}

-- ---- types of arguments, the first and the second
abbrev pub two_types : StaticType → StaticType → ℕ → StaticType
two_types s t zero = s
two_types s t (suc n) = t

module _ (laws : Laws) (c : Context) (code : Code) (alone : ℕ → Bool) (lines : ℕ) (set : IsSet c.program c.globals code alone) (n : ℕ) (g : Function) (cells : ConditionsTyped (setting_of c.program c.globals code alone lines) c n g) where
  open c use {program as m}
  open c.program use {typed as r}

  abbrev z : Setting
  z = setting_of c.program c.globals code alone lines

  abbrev At : Expression → Type 0
  At e = IsOf c n g e

  one : (e : Expression) (k : Kind) → HasType r e k → kind_at r e ≡ k
  one = laws.one_type r set.accepted.resolved set.accepted.placed set.accepted.low

  -- a reference to what begins with this, or NULL
  record Begins (content : Content) (e : Expression) : Type 0 where
    type : StaticType
    ref : is_ref c e ≡ true
    goes : GoesTo (entry_of c e) type
    inside : IsTypeIn z n typing c type
    first : FirstCell z type content

  begins_pointer : (content : Content) (e : Expression) → At e → is_pointer (kind_of c e) ≡ true → FirstCell z (type_by (entry_of c e)) content → Begins content e
  begins_pointer content e at leads first =
      let p = pointer_of laws c code alone lines set n g e at leads in
      record { type = type_by (entry_of c e); ref = p.0; goes = inr p.1; inside = p.2; first = first }

  none_mentioned : (s : StaticType) → s.locks ≡ [] → IsTypeIn z n typing c s
  none_mentioned s none p h = absurd (subst (SomeNames p) none h)

  begins_null : (content : Content) (e : Expression) → At e → kind_of c e ≡ null → HasFirst z content → Begins content e
  begins_null content e at is w = record { type = w.0; ref = ap is_reference is; goes = inl (ap (entry_by c (kind_of c e)) (null_modes m e is)); inside = none_mentioned w.0 w.1; first = w.2 }

  no_integer : (b : Base) (k : Kind) → is_pointer k ≡ true → k ≡ object b 0 → ⊥
  no_integer b k leads is = false≢true (sym (ap is_pointer is) ∙ leads)

  condition : (e : Expression) (k want : Kind) → At e → HasType r e k → Assignable want k → want ≡ condition_pointer → Begins Waiters e
  condition e _ _ at t (integer (b, h, is) j) same = absurd (no_integer b _ (ap is_pointer same) is)
  condition e _ _ at t (pointer {a = k} p) same = let is = one e k t ∙ same in begins_pointer Waiters e at (ap is_pointer is) (cells.conditions e at is)
  condition e _ _ at t (null_pointer p) same = begins_null Waiters e at (one e null t) cells.no_condition

  mutex : (e : Expression) (k want : Kind) → At e → HasType r e k → Assignable want k → want ≡ mutex_pointer → Begins MutexWord e
  mutex e _ _ at t (integer (b, h, is) j) same = absurd (no_integer b _ (ap is_pointer same) is)
  mutex e _ _ at t (pointer {a = k} p) same = let is = one e k t ∙ same in begins_pointer MutexWord e at (ap is_pointer is) (cells.mutexes e at is)
  mutex e _ _ at t (null_pointer p) same = begins_null MutexWord e at (one e null t) cells.no_mutex

  -- ---- a call
  -- what is asked of a known call, of the arguments that it has
  record KnownCall (name : List ℕ) (all : Arguments) : Type 0 where
    wants : ℕ → StaticType
    suit : AllSuit c n g all
    go : AllGo z n c [] wants all
    typed : ConditionTyped z n typing c name wants all

  two : (name : List ℕ) → name ≡ codes "wait" → (all : Arguments) → Parts c n g (in_arguments all) → function_at r n ≡ Some g → HaveTypes r all (condition_pointer ∷ mutex_pointer ∷ []) → ReferencesSuit c 2 all → KnownCall name all
  two name is no_arguments parts here typed suits = absurd suits
  two name is (argument a no_arguments) parts here typed suits = absurd suits.2
  two name is (argument a (argument b (argument d rest))) parts here typed suits = absurd suits.2.2
  two name is (argument a (argument b no_arguments)) parts here (one_more {k = j} ta fa (one_more {k = k} tb fb none_left)) suits =
      let x = condition a j condition_pointer (part_of c n g here a (first_part c n g (expressions a) (expressions b ++ []) parts)) ta fa refl in
      let y = mutex b k mutex_pointer (part_of c n g here b (first_part c n g (expressions b) [] (second_part c n g (expressions a) (expressions b ++ []) parts))) tb fb refl in
      record {
        wants = two_types x.type y.type;
        suit = ((suits.0, λ l. reference_scalar (kind_of c a) x.ref), ((suits.2.0, λ l. reference_scalar (kind_of c b) y.ref), tt));
        go = (subst (λ q. Goes z n typing c [] a q x.type) (sym x.ref) (x.goes, x.inside, tt), (subst (λ q. Goes z n typing c [] b q y.type) (sym y.ref) (y.goes, y.inside, tt), tt));
        typed = subst (λ t. ConditionTyped z n typing c t (two_types x.type y.type) (argument a (argument b no_arguments))) (sym is) ((x.ref, y.ref), x.first, y.first);
      }

  single : (name : List ℕ) → bytes_eq name (codes "wait") ≡ false → (all : Arguments) → Parts c n g (in_arguments all) → function_at r n ≡ Some g → HaveTypes r all (condition_pointer ∷ []) → ReferencesSuit c 1 all → KnownCall name all
  single name other no_arguments parts here typed suits = absurd suits
  single name other (argument a (argument b rest)) parts here typed suits = absurd suits.2
  single name other (argument a no_arguments) parts here (one_more {k = j} ta fa none_left) suits =
      let x = condition a j condition_pointer (part_of c n g here a (first_part c n g (expressions a) [] parts)) ta fa refl in
      record {
        wants = λ p. x.type;
        suit = ((suits.0, λ l. reference_scalar (kind_of c a) x.ref), tt);
        go = (subst (λ q. Goes z n typing c [] a q x.type) (sym x.ref) (x.goes, x.inside, tt), tt);
        typed = subst (λ b. Either b (AreTwo z n typing c (argument a no_arguments) × FirstCell z x.type Waiters × FirstCell z x.type MutexWord) (IsOne z n typing c (argument a no_arguments) × FirstCell z x.type Waiters)) (sym other) (x.ref, x.first);
      }

  by_callee : (i : Identifier) (all : Arguments) (ps : List Kind) (res : Kind) → Callee r i ps res → named_at r i.site.token ≡ Named.Known → HaveTypes r all ps → Parts c n g (in_arguments all) → function_at r n ≡ Some g
      → ReferencesSuit c (if bytes_eq i.text (codes "wait") then 2 else 1) all → KnownCall i.text all
  by_callee i all _ _ (of_program {n = k} f is at spelled other) known typed parts here suits = absurd (cc (sym is ∙ known))
  by_callee i all _ _ (of_conditions Wait is spelled) known typed parts here suits = two i.text spelled all parts here typed (subst (λ t. ReferencesSuit c (if bytes_eq t (codes "wait") then 2 else 1) all) spelled suits)
  by_callee i all _ _ (of_conditions Signal is spelled) known typed parts here suits =
      single i.text (ap (λ t. bytes_eq t (codes "wait")) spelled) all parts here typed (subst (λ t. ReferencesSuit c (if bytes_eq t (codes "wait") then 2 else 1) all) spelled suits)
  by_callee i all _ _ (of_conditions Broadcast is spelled) known typed parts here suits =
      single i.text (ap (λ t. bytes_eq t (codes "wait")) spelled) all parts here typed (subst (λ t. ReferencesSuit c (if bytes_eq t (codes "wait") then 2 else 1) all) spelled suits)

  pub known_call : (s : Span) (i : Identifier) (all : Arguments) → At (call s i all) → named_at r i.site.token ≡ Named.Known → ReferencesSuit c (if bytes_eq i.text (codes "wait") then 2 else 1) all
      → ((kinds : List Kind) (wants : ℕ → StaticType) → AllSuit c n g all → AllGo z n c kinds wants all → AreTypable z n typing c kinds wants all)
      → IsVoid z n typing c (call s i all) → CallTypable z n typing c (call s i all) Named.Known i.text all (λ kinds wants. AreTypable z n typing c kinds wants all)
  known_call s i all at known suits args void =
      let t = call_typed r s i all (kind_of c (call s i all)) (has_type laws c code alone lines set n g (call s i all) at) in
      let w = by_callee i all t.0 t.1 t.2 known t.3 (at.parts.1, at.stand.1) at.function suits in
      (w.wants, args [] w.wants w.suit w.go, void, w.typed)
