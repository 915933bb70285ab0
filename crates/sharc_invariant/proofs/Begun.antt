-- A thread that is begun and has made no turn stands at the first place.
use Rattle.sharc_invariant.proofs.{Imports.{◌≡◌, ℕ, pos, ◌+◌, ◌*◌, true, false, refl, sym, ap, ◌∙◌, subst, arith, length-replicate, slice_index, blank, FRAMES, Code, Shape, granules, Machine, no_frame, begun, may_go, most_refs, most_ints, Global, Targets, Empty, Anything, Labels, IsWellTyped, refs_in, ints_in, World, RegisterOf, Shut, in_ref, Heap, State, View, view_of, EntryStands, NumberStands, TopStands, FramesStand, GateStands, Runs, IsThread, ThreadStands, refs_at, types_at, ◌<◌, ◌≤◌, List, [], ◌∷◌, ⊎_elim, cases_lt, get_or-replicate, get_or_past, slice_index_or, replicate, ListsNoted, is_noted, has_note, Pass, IsIn}, Own.runs_at, Plain.register_plain}

pub nth_replicate : {A : Type 0} (n i : ℕ) (v : A) → slice_index_or (replicate n v) i v ≡ v
nth_replicate {A} n i v = ⊎_elim (λ (lt : i < n). get_or-replicate n i v v lt) (λ (ge : n ≤ i). let e = length-replicate n v in get_or_past (replicate n v) i v (omega arith)) (cases_lt i n)

pub no_passes : (ps : List Pass) (p : Pass) → ps ≡ [] → IsIn p ps → ⊥
no_passes [] p e h = h
no_passes (q ∷ ps) p e h = absurd (cc)

pub no_note : (n : ℕ) → ListsNoted (record { notes = replicate n blank; order = [] })
no_note n = record {
  all = λ g e. let q : is_noted (replicate n blank) g ≡ false = ap has_note (nth_replicate n g blank) in absurd (cc);
  only = λ g h. absurd (let l = h.1 in omega arith);
  once = λ i j d lt l. absurd (omega arith);
}

module _ (x : Targets) (code : Code) (s : Shape) (ls : Labels) (wt : IsWellTyped x code ls) where
  begun_top : (t : ℕ) (v : View) → ((r : ℕ) → v.refs r ≡ 0) → TopStands x t v 0 0 (λ n. pos 0) (ls.at 0)
  begun_top t v zero n k =
      let sc = wt.scoped 0 in
      let fn = wt.first.0 in
      let gone : (r : ℕ) → (ls.at 0).env r ≡ Empty = λ r. sc.few r (let z = ap (refs_in code) fn in omega arith) in
      let none' : (i : ℕ) → (ls.at 0).ints i ≡ Anything = λ i. sc.numbers i (let z = ap (ints_in code) fn in omega arith) in
      record {
        env = λ r _. subst (EntryStands (refs_at v 0) (types_at v 0) r) (sym (gone r)) (zero (0 + r));
        same = λ r _. zero (0 + (ls.at 0).same r) ∙ sym (zero (0 + r));
        known = λ r _ e. absurd (sc.known r e (gone r));
        numbers = λ i _. subst (NumberStands x v.elements (refs_at v 0) (types_at v 0) (λ n. pos 0) (v.vals (0 + i))) (sym (none' i)) tt;
        passed = λ p h. absurd (no_passes (ls.at 0).passed p wt.first.2 h);
      }

  begun_runs : (elements : ℕ → ℕ) (w : World) (heap : Heap) (g : Global Machine) (t : ℕ) → ((r : ℕ) → in_ref w (RegisterOf t r) ≡ 0) → w.win t ≡ Shut → Runs x code s ls elements w heap g t (begun code s t)
  begun_runs elements w heap g t zero shut =
      let m = begun code s t in
      let v = view_of elements w t m in
      runs_at x code s ls elements w heap g t m (λ n. pos 0) refl (begun_top t v zero)
      (subst (FramesStand x code ls t v m) (sym wt.first.0) (refl, refl, refl))
      (subst (GateStands s w t m) (sym wt.first.1) shut) (λ _. omega arith)

  begun_is : (t : ℕ) → IsThread code s t (begun code s t)
  begun_is t = record {
    number = refl;
    log = record { few = omega arith; each_once = λ i j d lt l. absurd (omega arith) };
    refs = length-replicate {A = ℕ} (FRAMES * most_refs code.functions.items) 0;
    ints = length-replicate (FRAMES * most_ints code.functions.items) (pos 0);
    frames = length-replicate FRAMES no_frame;
    heads = length-replicate {A = ℕ} 16 0;
    notes = length-replicate (granules s) blank;
    table = no_note (granules s);
  }

  -- also where it was started just now
  pub begun_stands : (elements : ℕ → ℕ) (w : World) (heap : Heap) (g : Global Machine) (t : ℕ) → g.threads t ≡ begun code s t → ((r : ℕ) → in_ref w (RegisterOf t r) ≡ 0) → w.win t ≡ Shut → ThreadStands x code s ls elements w heap g t
  begun_stands elements w heap g t e zero shut = record {
    has = subst (IsThread code s t) (sym e) (begun_is t);
    runs = λ _ _. subst (Runs x code s ls elements w heap g t) (sym e) (begun_runs elements w heap g t zero shut);
    off = λ _. shut;
    stopped = λ stop. let f : true ≡ false = sym (ap (λ (m : Machine). may_go m.at.state) e) ∙ stop in absurd (cc);
    waits = λ _. e;
  }

  -- it holds nothing
  pub begun_regs : (g : Global Machine) (w : World) → State x code s ls g w → (t : ℕ) → g.threads t ≡ begun code s t → (r : ℕ) → in_ref w (RegisterOf t r) ≡ 0
  begun_regs g w st t e r = st.sim.regs t r ∙ register_plain code (g.threads t) (ap (λ (m : Machine). m.own.stage) e) r ∙ ap (λ (m : Machine). slice_index m.refs r) e ∙ nth_replicate (FRAMES * most_refs code.functions.items) r 0
