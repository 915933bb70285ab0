-- Which objects there are behind a turn.
use Rattle.sharc_invariant.proofs.{Imports.{◌≡◌, ℕ, suc, ◌+◌, ◌≢◌, Bool, true, false, List, refl, sym, ap, ◌∙◌, subst, arith, fun_ext, NewStage, Code, Instr, Shape, Stage, Rests, Makes, Uncounts, Machine, instr_at, ref, may_go, Global, Turn, after_turn, is_started, one_thread, bounds, Targets, type_of, ObjectType, Empty, Refers, Unknown, Labels, TypeRules, RegisterOf, In, World, ObjectState, in_ref, TypedReference, Effect, Silently, ClearsOf as Clears, Gives, Frees, MakesOf, Unlocks, Returns, WithdrawsOf as Withdraws, changes_objects, makes_object, frees_object, is_length, new_behind, made_behind, freed_behind, objects_behind, type_held, entry_type, State, View, view_of, EntryStands, TopStands, label_now, refs_at, types_at, made_turn, put_same, or_second, Turned, objects_now, lang_of, has_returned}, Others.OnHold, Quiet.label_held, Plain.register_plain}
use Rattle.sharc_invariant.specs.Effect.{Accesses, Locks}

-- ---- an effect without a change of objects
pub effect_objects : (l : TypeRules) (t : ℕ) (returned changes : Bool) (w w' : World) → Effect l t returned changes w w' → changes ≡ false → w'.obj ≡ w.obj
effect_objects l t returned changes w w' (Silently s) e = s.obj
effect_objects l t returned changes w w' (Accesses write b i right alone s) e = s.obj
effect_objects l t returned changes w w' (Clears r g h q) e = ap (λ (v : World). v.obj) q
effect_objects l t returned changes w w' (Gives r ty c h q) e = absurd (cc)
effect_objects l t returned changes w w' (Frees r c h q) e = absurd (cc)
effect_objects l t returned changes w w' (MakesOf r o ty found c d n q) e = absurd (cc)
effect_objects l t returned changes w w' (Locks o j f q s) e = s.obj
effect_objects l t returned changes w w' (Unlocks o j f q s) e = s.obj
effect_objects l t returned changes w w' (Returns s) e = s.obj
effect_objects l t returned changes w w' (Withdraws o g r q) e = ap (λ (v : World). v.obj) q

-- ---- a turn without one
new_same : (ls : Labels) (t r : ℕ) (m' : Machine) (y : NewStage) (f : ℕ → ObjectState) → is_length y ≡ false → new_behind ls t r m' y f ≡ f
new_same ls t r m' (NewStage.Length h) f e = absurd (cc)
new_same ls t r m' _ f e = refl

made_same : (ls : Labels) (t r : ℕ) (m' : Machine) (y : Stage) (f : ℕ → ObjectState) → makes_object y ≡ false → made_behind ls t r m' y f ≡ f
made_same ls t r m' (Makes v) f e = new_same ls t r m' v.stage f e
made_same ls t r m' _ f e = refl

freed_same : (o : ℕ) (y : Stage) (f : ℕ → ObjectState) → frees_object y ≡ false → freed_behind o y f ≡ f
freed_same o (Uncounts all) f e = absurd (cc)
freed_same o _ f e = refl

pub behind_same : (ls : Labels) (t : ℕ) (i : Instr) (m m' : Machine) (f : ℕ → ObjectState) → changes_objects i m ≡ false → objects_behind ls t i m m' f ≡ f
behind_same ls t (Instr.New r count cells site) m m' f e = made_same ls t r m' m.own.stage f e
behind_same ls t (Instr.Give r site) m m' f e = absurd (cc)
behind_same ls t (Instr.Free r layout site) m m' f e = freed_same (ref m r) m.own.stage f e
behind_same ls t _ m m' f e = refl

-- ---- the type of what a register refers to is the one that the place says
pub type_is_held : (x : Targets) (code : Code) (s : Shape) (ls : Labels) (g : Global Machine) (w : World) (st : State x code s ls g w) (t r : ℕ) → g.started t ≡ true → may_go (g.threads t).at.state ≡ true → (g.threads t).own.stage ≡ Rests
    → (ls.at (g.threads t).at.pc).env r ≢ Unknown → in_ref w (RegisterOf t ((g.threads t).at.refs + r)) ≢ 0 → (w.slots (In (RegisterOf t ((g.threads t).at.refs + r)))).ty ≡ type_held ls (g.threads t) r
type_is_held x code s ls g w st t r on go rest told nz =
    let m = g.threads t in
    let base = m.at.refs in
    let v : View = view_of st.elements w t m in
    let rn = (st.threads t).runs on go in
    let here : label_now (ls.at m.at.pc) (instr_at code m.at.pc) m.own.stage ≡ ls.at m.at.pc = label_held (ls.at m.at.pc) (instr_at code m.at.pc) m.own.stage (subst OnHold (sym rest) tt) in
    let entry = ((subst (TopStands x t v base m.at.ints rn.names) here rn.top) (suc r) 0).env r (omega arith) in
    let same : refs_at v base ≡ ref m = fun_ext (λ q. st.sim.regs t (base + q) ∙ register_plain code m rest (base + q)) in
    elim ((ls.at m.at.pc).env r) as (λ e. e ≢ Unknown → EntryStands (refs_at v base) (types_at v base) r e → (w.slots (In (RegisterOf t (base + r)))).ty ≡ entry_type (ref m) (ref m r) e) [
      | Empty ↦ λ _ k. absurd (nz k)
      | Unknown ↦ λ u k. absurd (u refl)
      | Refers y ↦ λ _ k. k nz ∙ ap (λ (f : ℕ → ℕ). type_of f (f r) y) same
    ] told entry

-- so it is of the type that a turn gave it
pub owned_is : (x : Targets) (code : Code) (s : Shape) (ls : Labels) (g : Global Machine) (tr : Turn) → g.started tr.thread ≡ true → (w : World) (st : State x code s ls (after_turn bounds (one_thread code s) g tr) w)
    → (m' : Machine) (words : List ℕ) → after_turn bounds (one_thread code s) g tr ≡ made_turn g tr.thread words m' → m'.own.stage ≡ Rests → may_go m'.at.state ≡ true
    → (r o : ℕ) (ty : ObjectType) → w.slots (In (RegisterOf tr.thread (m'.at.refs + r))) ≡ record { ty = ty; reference = o } → o ≢ 0 → (ls.at m'.at.pc).env r ≢ Unknown
    → ty ≡ type_held ls ((after_turn bounds (one_thread code s) g tr).threads tr.thread) r
owned_is x code s ls g tr on w st m' words done rest go r o ty slot nz told =
    let t = tr.thread in
    let after = after_turn bounds (one_thread code s) g tr in
    let now : after.threads t ≡ m' = ap (λ (g : Global Machine). g.threads t) done ∙ put_same g.threads t m' in
    let on' : after.started t ≡ true = ap (λ (g : Global Machine). g.started t) done ∙ or_second (is_started bounds words t) (g.started t) on in
    let at : w.slots (In (RegisterOf t ((after.threads t).at.refs + r))) ≡ record { ty = ty; reference = o } = ap (λ (m : Machine). w.slots (In (RegisterOf t (m.at.refs + r)))) now ∙ slot in
    let held = type_is_held x code s ls after w st t r on' (ap (λ (m : Machine). may_go m.at.state) now ∙ go) (ap (λ (m : Machine). m.own.stage) now ∙ rest) (λ z. told (sym (ap (λ (m : Machine). (ls.at m.at.pc).env r) now) ∙ z)) (λ z. nz (sym (ap (λ (h : TypedReference). h.reference) at) ∙ z)) in
    sym (ap (λ (h : TypedReference). h.ty) at) ∙ held

-- with a turn that changes no object
pub unchanged : (x : Targets) (code : Code) (s : Shape) (ls : Labels) (g : Global Machine) (world : World) (tr : Turn) → changes_objects (instr_at code (g.threads tr.thread).at.pc) (g.threads tr.thread) ≡ false
    → Turned x code s ls g world tr → (k : Turned x code s ls g world tr) × (k.0.obj ≡ objects_now code s ls g tr world.obj)
unchanged x code s ls g world tr c k =
    let m = g.threads tr.thread in
    let i = instr_at code m.at.pc in
    (k, effect_objects (lang_of x) tr.thread (has_returned m) (changes_objects i m) world k.0 k.2 c ∙ sym (behind_same ls tr.thread i m ((after_turn bounds (one_thread code s) g tr).threads tr.thread) world.obj c))
