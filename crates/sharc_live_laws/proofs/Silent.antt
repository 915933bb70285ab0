-- No read of a nulled local is without a warning.
use Rattle.sharc_live_laws.proofs.{Imports.{◌≡◌, ℕ, suc, Bool, true, false, ◌==◌, List, [], ◌∷◌, ◌++◌, inl, inr, refl, sym, ap, ◌∙◌, subst, arith, eq-eqb, ne_eqb, eqb-true, All, Site, Assignment, Ends, Clear, Shows, Hits, events_of, answers_of, Use, reads, nulls, Traced, asks, IsUseIn, function_flow, traced, Untouched, SilentReadsAreSafe, SilentReadsInRunsAreSafe}, Covering.{shows_second, hits_second}, Ways.inside, Along.{act_of, only_if, shown_if, shown_one, shown, Other}, Calls.{Told, asked_told}}

module _ (x call : ℕ) where
  -- an entry that leaves the variable as it is
  clear_use : (u : Use) (token : ℕ) → u ≡ reads → Clear x (act_of x u token ∷ [])
  clear_use u token e = subst (λ z. Clear x (act_of x z token ∷ [])) (sym e) (tt, tt)

  clear_entry : (t : Traced) → Untouched call x t → Clear x (shown_one x call t)
  clear_entry t h = by_call (t.call == call) refl
    where
      by_variable : t.call ≡ call → (b : Bool) → (t.variable == x) ≡ b → Clear x (only_if b (act_of x t.use_made t.site.token))
      by_variable e true f = clear_use t.use_made t.site.token (h e (eqb-true t.variable x f))
      by_variable e false f = tt

      by_call : (b : Bool) → (t.call == call) ≡ b → Clear x (shown_if b (only_if (t.variable == x) (act_of x t.use_made t.site.token)))
      by_call true e = by_variable (eqb-true t.call call e) (t.variable == x) refl
      by_call false e = tt

  -- an entry of the variable in this call
  entry_is : (u : Use) (site : Site) → shown_one x call (traced u x site call) ≡ act_of x u site.token ∷ []
  entry_is u site = ap (λ b. shown_if b (only_if (x == x) (act_of x u site.token))) (eq-eqb call call refl) ∙ ap (λ b. only_if b (act_of x u site.token)) (eq-eqb x x refl)

  shows_behind : (between later : List Traced) (site : Site) → All (Untouched call x) between → Shows x site.token (shown x call (between ++ traced reads x site call ∷ later))
  shows_behind [] later site h = subst (λ l. Shows x site.token (l ++ shown x call later)) (sym (entry_is reads site)) (inl refl)
  shows_behind (t ∷ between) later site h = shows_second x site.token (shown_one x call t) (shown x call (between ++ traced reads x site call ∷ later)) (clear_entry t (h 0 t (omega arith)))
      (shows_behind between later site (λ k d l. h (suc k) d (omega (arith, l))))

  hits_behind : (earlier between later : List Traced) (nulling read : Site) → All (Untouched call x) between
      → Hits x nulling.token read.token (shown x call (earlier ++ traced nulls x nulling call ∷ (between ++ traced reads x read call ∷ later)))
  hits_behind [] between later nulling read h = subst (λ l. Hits x nulling.token read.token (l ++ shown x call (between ++ traced reads x read call ∷ later))) (sym (entry_is nulls nulling)) (inl (refl, shows_behind between later read h))
  hits_behind (t ∷ earlier) between later nulling read h =
      hits_second x nulling.token read.token (shown_one x call t) (shown x call (earlier ++ traced nulls x nulling call ∷ (between ++ traced reads x read call ∷ later))) (hits_behind earlier between later nulling read h)

-- what the trace shows of the call is covered by a path through its function
use_in : (m : Assignment) (x j : ℕ) (trace : List Traced) (k r : ℕ) → Told m x trace → Hits x k r (shown x j trace) → IsUseIn m.typed k r
use_in m x j trace k r told h = by_call (told.each j)
  where
    by_call : Other m.typed x 0 told.calls j (shown x j trace) → IsUseIn m.typed k r
    by_call (inl e) = absurd (subst (λ l. Hits x k r l) e h)
    by_call (inr t) = record {
      function = t.function;
      among = t.among;
      is_use = record {
        variable = x;
        reaches = record { acts = t.way.along; is_path = inside (function_flow m.typed t.function) Ends t.way.along t.way.is_path; hits = t.way.covers.hits k r h };
      };
    }

pub silent_reads_are_safe : SilentReadsAreSafe
silent_reads_are_safe m f argument answers fuel list nulling read warned h = warned.all nulling read
    (use_in m h.variable h.call (asks m f argument answers fuel).trace nulling read (asked_told m h.variable (ne_eqb 0 h.variable (λ e. h.is_local (sym e))) f argument answers fuel) hit)
  where
    hit : Hits h.variable nulling read (shown h.variable h.call (asks m f argument answers fuel).trace)
    hit = subst (λ l. Hits h.variable nulling read (shown h.variable h.call l)) (sym h.is)
        (subst (λ k. Hits h.variable k read (shown h.variable h.call (h.earlier ++ traced nulls h.variable h.null_site h.call ∷ (h.between ++ traced reads h.variable h.read_site h.call ∷ h.later)))) h.nulled_at
        (subst (λ r. Hits h.variable h.null_site.token r (shown h.variable h.call (h.earlier ++ traced nulls h.variable h.null_site h.call ∷ (h.between ++ traced reads h.variable h.read_site h.call ∷ h.later)))) h.read_at
        (hits_behind h.variable h.call h.earlier h.between h.later h.null_site h.read_site h.untouched)))

pub silent_reads_in_runs_are_safe : SilentReadsInRunsAreSafe
silent_reads_in_runs_are_safe m R fuel thread own further list nulling read warned h =
    silent_reads_are_safe m own.function own.argument (answers_of (events_of thread own.after)) further list nulling read warned h
