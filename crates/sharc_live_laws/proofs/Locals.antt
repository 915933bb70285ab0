-- What is done at places: where a place is a local, its use is that of the flow.
use Rattle.sharc_live_laws.proofs.{Imports.{◌≡◌, ◌≢◌, ℕ, Bool, true, false, ◌==◌, List, [], ◌∷◌, inl, Option, Some, None, refl, sym, ap, ◌∙◌, subst, arith, eq-eqb, ne_eqb, eqb-true, append-nil, eqb-false, ℤ, Taken, TakeKind, Site, Declaration, Kind, is_pointer, Resolution, Sharing, Act, Reads, Nulls, Writes, Spares, To, Next, goes, done, through, Code, acts, first_then, goes_on, declares_flow, NULL, is_null, Use, reads, writes, nulls, Run, traces, reads_variable, writes_variable, value_of, new_variable, begins_with, StorePlace, variable, cell, fetched, stored, nulled, taken_from}, Covering.{Covers, covers_same, covers_both, covers_spared, covers_twice}, Ways.{Way, way_goes, way_does, idle_ends, idle_behind}, Along.{act_of, only_if, shown_if, Any, onward, Along, along_as, then_idle, idle_then, shown}, Calm.{Calm, calm_then, idle, calm_give, calm_looks, calm_sets, calm_stands, calm_either, calm_answered, calm_performs, calm_drops, calm_holds, calm_moves, calm_gives_up, calm_done, calm_mode}}
use Rattle.sharc_tree.specs.declared.event.Act.TheVariants as events
use Rattle.sharc_live.specs.Flows as flows

-- the code of a use of the local, if it is one
abbrev pub use_flow : Use → Option ℕ → ℕ → Code
use_flow reads o token = flows.reads o token
use_flow writes o token = flows.writes o
use_flow nulls o token = flows.nulls o token

abbrev pub is_named : Option ℕ → ℕ → Bool
is_named None x = false
is_named (Some y) x = y == x

-- a place that is this local
abbrev pub is_at : StorePlace → ℕ → Bool
is_at (variable y) x = y == x
is_at (cell o first c) x = false

module _ (x : ℕ) where
  spared_other : (u : Use) (y token : ℕ) → (y == x) ≡ false → Spares x (act_of y u token)
  spared_other writes y token e = λ same. eqb-false y x e same
  spared_other _ y token e = tt

  covers_use : (u : Use) (y token : ℕ) (b : Bool) → (y == x) ≡ b → Covers x (only_if b (act_of x u token)) (act_of y u token ∷ [])
  covers_use u y token true e = subst (λ z. Covers x (act_of x u token ∷ []) (act_of z u token ∷ [])) (sym (eqb-true y x e)) (covers_same x (act_of x u token ∷ []))
  covers_use u y token false e = covers_spared x (act_of y u token) (spared_other u y token e)

  use_does : (u : Use) (y token : ℕ) (us : List Act) → Covers x us (act_of y u token ∷ []) → Way x (use_flow u (Some y) token) Next us
  use_does reads y token us h = way_does x (Reads y token) us h
  use_does writes y token us h = way_does x (Writes y) us h
  use_does nulls y token us h = way_does x (Nulls y token) us h

  use_none : (u : Use) (token : ℕ) → Way x (use_flow u None token) Next []
  use_none reads token = way_goes x Next
  use_none _ token = way_goes x Next

  pub way_use : (u : Use) (o : Option ℕ) (token : ℕ) → Way x (use_flow u o token) Next (only_if (is_named o x) (act_of x u token))
  way_use u None token = use_none u token
  way_use u (Some y) token = use_does u y token (only_if (y == x) (act_of x u token)) (covers_use u y token (y == x) refl)

  -- what is about another local is not seen
  way_unnamed : (u : Use) (o : Option ℕ) (token : ℕ) → is_named o x ≡ false → Way x (use_flow u o token) Next []
  way_unnamed u o token e = subst (λ b. Way x (use_flow u o token) Next (only_if b (act_of x u token))) e (way_use u o token)

  covers_writes : (y : ℕ) (b : Bool) → (y == x) ≡ b → Covers x (only_if b (Writes x)) (Writes y ∷ (Writes y ∷ []))
  covers_writes y true e = subst (λ z. Covers x (Writes x ∷ []) (Writes z ∷ (Writes z ∷ []))) (sym (eqb-true y x e)) (covers_twice x)
  covers_writes y false e = covers_both x [] (Writes y ∷ []) [] (Writes y ∷ []) (covers_use writes y 0 false e) (covers_use writes y 0 false e)

  -- a write twice over
  way_twice : (y : ℕ) → Way x (first_then (acts (Writes y)) (first_then goes_on (acts (Writes y)))) Next (only_if (y == x) (Writes x))
  way_twice y = record { along = Writes y ∷ (Writes y ∷ []); is_path = through done (through goes done); covers = covers_writes y (y == x) refl }

  pub unseen : (t : To) (us : List Act) (c : Code) → Way x c Next [] → Way x goes_on t us → Way x c t us
  unseen t us c w h = idle_behind x c t [] us w h

  -- a read more is not seen
  pub way_read_more : (o : Option ℕ) (token : ℕ) → Way x (flows.reads o token) Next []
  way_read_more None token = way_goes x Next
  way_read_more (Some y) token = way_does x (Reads y token) [] (covers_spared x (Reads y token) tt)

module _ (r : Resolution) (x : ℕ) where
  -- one entry of the trace
  entry_shown : (u : Use) (y : ℕ) (site : Site) (call : ℕ) → shown x call (record { use_made = u; variable = y; site = site; call = call } ∷ []) ≡ only_if (y == x) (act_of x u site.token)
  entry_shown u y site call = append-nil _ ∙ ap (λ b. shown_if b (only_if (y == x) (act_of x u site.token))) (eq-eqb call call refl)

  entry_hidden : (u : Use) (y : ℕ) (site : Site) (call j : ℕ) → j ≢ call → shown x j (record { use_made = u; variable = y; site = site; call = call } ∷ []) ≡ []
  entry_hidden u y site call j n = append-nil _ ∙ ap (λ b. shown_if b (only_if (y == x) (act_of x u site.token))) (ne_eqb call j (λ e. n (sym e)))

  along_traces : (u : Use) (y : ℕ) (site : Site) (c : Code) → Way x c Next (only_if (y == x) (act_of x u site.token)) → Along r x c onward Any (traces u y site)
  along_traces u y site c way = record {
    from_state = λ s ready. (
      refl,
      record {
        more = record { use_made = u; variable = y; site = site; call = s.frame.call } ∷ [];
        trace = refl;
        calls = omega arith;
        way = subst (λ z. Way x c Next z) (sym (entry_shown u y site s.frame.call)) way;
        others = λ j n. inl (entry_hidden u y site s.frame.call j n);
      },
      tt,
    );
  }

  along_use : (u : Use) (y : ℕ) (o : Option ℕ) (site : Site) → (y == x) ≡ is_named o x → Along r x (use_flow u o site.token) onward Any (traces u y site)
  along_use u y o site e = along_traces u y site (use_flow u o site.token) (subst (λ b. Way x (use_flow u o site.token) Next (only_if b (act_of x u site.token))) (sym e) (way_use x u o site.token))

  -- where no local is at the place, none is named
  along_unnamed : (u : Use) (o : Option ℕ) (token : ℕ) {A : Type 0} {m : Run A} → is_named o x ≡ false → Calm m → Along r x (use_flow u o token) onward Any m
  along_unnamed u o token e h = along_as r x
      (λ v us w. unseen x Next us (use_flow u o token) (way_unnamed x u o token e) w) (λ us w. idle_ends x (use_flow u o token) us w) (λ v k. k) (idle r x h)

  pub reads_along : (site : Site) (y : ℕ) (o : Option ℕ) → (y == x) ≡ is_named o x → Along r x (flows.reads o site.token) onward Any (reads_variable site y)
  reads_along site y o e = then_idle r x (along_use reads y o site e) (λ v k. idle r x (calm_looks (λ s. value_of s y)))

  writes_along : (site : Site) (y : ℕ) (v : ℤ) (o : Option ℕ) → (y == x) ≡ is_named o x → Along r x (flows.writes o) onward Any (writes_variable site y v)
  writes_along site y v o e = then_idle r x (along_use writes y o site e) (λ w k. idle r x (calm_sets y v))

  nulls_along : (site : Site) (y : ℕ) (o : Option ℕ) → (y == x) ≡ is_named o x → Along r x (flows.nulls o site.token) onward Any (nulled site y)
  nulls_along site y o e = then_idle r x (along_use nulls y o site e) (λ w k. idle r x (calm_sets y NULL))

  pub fetched_along : (site : Site) (mode : Sharing) (p : StorePlace) (o : Option ℕ) → is_at p x ≡ is_named o x → Along r x (flows.reads o site.token) onward Any (fetched r site mode p)
  fetched_along site mode (variable y) o e = reads_along site y o e
  fetched_along site mode (cell object first c) o e = along_unnamed reads o site.token (sym e) (calm_then (calm_mode r site mode object first) (λ under. calm_answered site _))

  pub stored_along : (site : Site) (kind : Kind) (mode : Sharing) (p : StorePlace) (v : ℤ) (o : Option ℕ) → is_at p x ≡ is_named o x → Along r x (flows.writes o) onward Any (stored r site kind mode p v)
  stored_along site kind mode (variable y) v o e = idle_then r x (idle r x (calm_looks (λ s. value_of s y))) (λ old k. then_idle r x (writes_along site y v o e) (λ w l. idle r x (calm_drops kind old)))
  stored_along site kind mode (cell object first c) v o e = along_unnamed writes o 0 (sym e) (calm_then (calm_holds kind v) (λ a. calm_then (calm_mode r site mode object first) (λ under.
      calm_then (calm_performs site _) (λ b. calm_then (calm_moves kind) (λ d. calm_either (is_pointer kind) (calm_gives_up _) calm_done)))))

  pub taken_along : (token site : Site) (mode : Sharing) (kind : TakeKind) (p : StorePlace) (o : Option ℕ) → is_at p x ≡ is_named o x → Along r x (flows.nulls o token.token) onward Any (taken_from r token site mode kind p)
  taken_along token site mode kind (variable y) o e = idle_then r x (idle r x (calm_looks (λ s. value_of s y))) (λ v k. idle_then r x (idle r x (calm_either (is_null v) (calm_give v) (calm_answered site (events.Take (Taken.Local y) kind)))) (λ a l.
      then_idle r x (nulls_along token y o e) (λ b n. idle r x (calm_give v))))
  taken_along token site mode kind (cell object first c) o e = along_unnamed nulls o token.token (sym e) (calm_then (calm_mode r site mode object first) (λ under. calm_answered site _))

  -- a local begins: a write, and where it has no initialiser the only one
  pub begins_along : (d : Declaration) (v : ℤ) → Along r x (declares_flow d) onward Any (begins_with d v)
  begins_along d v = idle_then r x (idle r x (calm_stands (new_variable d v))) (λ a k. along_use writes d.name.site.token (Some d.name.site.token) d.name.site refl)

  pub begins_alone : (d : Declaration) (v : ℤ) → Along r x (first_then (declares_flow d) (first_then goes_on (declares_flow d))) onward Any (begins_with d v)
  begins_alone d v = idle_then r x (idle r x (calm_stands (new_variable d v))) (λ a k. along_traces writes d.name.site.token d.name.site _ (way_twice x d.name.site.token))
