-- Calls: a frame of their own, and as many frames as are allowed.
use Rattle.sharc_ask.proofs.{Imports.{◌≡◌, ℕ, zero, suc, ◌-◌, List, [], ◌∷◌, ◌++◌, Some, None, Ok, Err, refl, sym, ap, ◌∙◌, subst, arith, length, take, append-nil, reverse-append, flat_map-append, ℤ, pos, reverse, flat_map, Site, Function, function_at, Assignment, Variable, with_frame, back_in, in_frame, run_function, call_value, calls, Frame, State, Run, then_on, give, without_temporaries, held_by_frame, pointers_among, RunEnd, Known, known, held_below, Does, WasKept}, Steps.ends_same}

held_more : (caller : Frame) (callers : List Frame) → held_below (caller ∷ callers) ≡ held_below callers ++ held_by_frame caller
held_more caller callers =
    ap (flat_map held_by_frame) (reverse-append (caller ∷ []) callers)
    ∙ flat_map-append held_by_frame (reverse callers) (caller ∷ [])
    ∙ ap (λ l. held_below callers ++ l) (append-nil (held_by_frame caller))

-- the new frame, with what its caller keeps
pub frame_begins : (moved : ℕ) (s : State) (mid : Known) (variables : List Variable) (temporaries below : List ℤ) → WasKept moved (known s) mid (Some (variables, temporaries, below)) → known (with_frame (without_temporaries moved s.frame) s) ≡ mid
frame_begins moved s mid variables temporaries below kept =
    let caller = without_temporaries moved s.frame in
    let on_top : List ℤ → Known = λ l. record (known s) { variables = []; temporaries = []; below = l } in
    ap on_top (held_more caller s.callers)
    ∙ ap (λ l. on_top (l ++ (pointers_among s.frame.variables ++ take (length s.frame.temporaries - moved) s.frame.temporaries))) (sym kept.2)
    ∙ ap (λ vs. on_top (below ++ (pointers_among vs ++ take (length s.frame.temporaries - moved) s.frame.temporaries))) (sym kept.0)
    ∙ ap (λ ts. on_top (below ++ (pointers_among variables ++ ts))) (sym kept.1)
    ∙ sym kept.3

-- ---- as many frames as are allowed

pub call_is : (m : Assignment) (n f : ℕ) (site : Site) (vs : List ℤ) → (n ≡ 0 → ⊥) → calls m n f site vs ≡ call_value (calls m (n - 1)) m (function_at m.typed f) vs
call_is m zero f site vs some = absurd (some refl)
call_is m (suc n) f site vs some = let e : suc n - 1 ≡ n = omega arith in ap (λ k. call_value (calls m k) m (function_at m.typed f) vs) (sym e)
