-- What is kept of code is the same for the variables at hand.
use Rattle.sharc_dataflow.proofs.{Imports.{◌≡◌, ℕ, List, [], ◌∷◌, ◌++◌, Bool, true, false, nat_eq, refl, ap, sym, ◌∙◌, append_assoc, append-nil, arith, Step, Exits, Act, Reads, Nulls, Writes, To, Next, Broken, Continued, Ends, Code, goes_to, acts, first_then, one_of, catches, repeats, step_of, listing, only, nulled, written, warn_read, last_or, front, IsBetween, Same, IsSame, exits_to, either_exits, caught_exits, loop_exits, leading, Kept, whole, nothing_kept, put_behind, then_kept, unless_none, either_kept, caught_kept, loop_kept, AllKept, all_kept, is_between, acts_if, narrows, narrowed, narrow_start}, Summed.{last_pushed, front_pushed, regroup, regroup_two}, Alike.{same_self, same_turned, same_then_same, same_then, same_either, same_caught, same_loop, same_assoc, start_same, same_end, out_same_then, out_same_either, out_same_caught, out_same_loop, out_same_goes}}
use Rattle.sharc_dataflow.specs.Narrow.{kept}

left_nil : (l m : List Step) → l ++ m ≡ [] → l ≡ []
left_nil [] m e = refl
left_nil (a ∷ l) m e = absurd (cc)

right_nil : (l m : List Step) → l ++ m ≡ [] → m ≡ []
right_nil [] m e = e
right_nil (a ∷ l) m e = absurd (cc)

same_lists : {l m l2 m2 : List Step} → l ≡ l2 → m ≡ m2 → l ++ m ≡ l2 ++ m2
same_lists e f = rw (e, f) refl

module _ (first last : ℕ) where
  -- code of which no step is written down only goes on
  nothing_same : (c : Code) → listing c ≡ [] → Same first last c (goes_to Next)
  nothing_same (goes_to Next) e = same_self first last (goes_to Next)
  nothing_same (first_then a b) e = same_then_same first last (same_then first last (nothing_same a (left_nil (listing a) (listing b) e)) (nothing_same b (right_nil (listing a) (listing b) e))) (start_same first last (goes_to Next))
  nothing_same _ e = absurd (cc)

  -- what is kept stands for code that is the same as c
  pub record Means (k : Kept) (c : Code) : Type 0 where
    pub code : Code
    pub lists : k.steps ≡ listing code
    pub same : Same first last (first_then code (leading k.behind)) c

  means_same : {k : Kept} {c d : Code} → Means k c → Same first last c d → Means k d
  means_same m s = record { code = m.code; lists = m.lists; same = same_then_same first last m.same s }

  -- only to some exits
  left_out_means : {c : Code} (e : Exits) → Same first last (leading e) c → Means (kept [] e) c
  left_out_means e s = record { code = goes_to Next; lists = refl; same = same_then_same first last (start_same first last (leading e)) s }

  out_means : (t : To) → Means (kept [] (exits_to t)) (goes_to t)
  out_means t = left_out_means (exits_to t) (out_same_goes first last t)

  -- steps of code, and then on
  steps_mean : {c : Code} (l : List Step) (d : Code) → l ≡ listing d → Same first last d c → Means (kept l (exits_to Next)) c
  steps_mean l d e s = record { code = d; lists = e; same = same_then_same first last (same_then first last (same_self first last d) (out_same_goes first last Next)) (same_then_same first last (same_end first last d) s) }

  leads_same : {k : Kept} {c : Code} → Means k c → k.steps ≡ [] → Same first last (leading k.behind) c
  leads_same {k = k} m e =
      let l = leading k.behind in
      same_then_same first last (same_turned first last (start_same first last l)) (same_then_same first last (same_then first last (same_turned first last (nothing_same m.code (sym m.lists ∙ e))) (same_self first last l)) m.same)

  then_means : (a b : Kept) (c d : Code) → Means a c → Means b d → Means (then_kept a b) (first_then c d)
  then_means a b c d m n = found b.steps refl
    where
      found : (l : List Step) → b.steps ≡ l → Means (put_behind a l b.behind) (first_then c d)
      found [] e = record {
        code = m.code;
        lists = m.lists;
        same = same_then_same first last (same_then first last (same_self first last m.code) (same_turned first last (out_same_then first last a.behind b.behind)))
            (same_then_same first last (same_turned first last (same_assoc first last m.code (leading a.behind) (leading b.behind))) (same_then first last m.same (leads_same n e)));
      }
      found (s ∷ l) e = record {
        code = first_then (first_then m.code (leading a.behind)) n.code;
        lists = same_lists (same_lists m.lists refl) (sym e ∙ n.lists);
        same = same_then_same first last (same_assoc first last (first_then m.code (leading a.behind)) n.code (leading b.behind)) (same_then first last m.same n.same);
      }

  either_means : (a b : Kept) (c d : Code) → Means a c → Means b d → Means (either_kept a b) (one_of c d)
  either_means a b c d m n = found (a.steps ++ b.steps) refl
    where
      around : List Step
      around = Step.Fork ∷ (whole a ++ Step.Other ∷ (whole b ++ Step.Join ∷ []))

      found : (l : List Step) → a.steps ++ b.steps ≡ l → Means (unless_none l around (either_exits a.behind b.behind)) (one_of c d)
      found [] e = left_out_means (either_exits a.behind b.behind)
          (same_then_same first last (same_turned first last (out_same_either first last a.behind b.behind)) (same_either first last (leads_same m (left_nil a.steps b.steps e)) (leads_same n (right_nil a.steps b.steps e))))
      found (s ∷ l) e = steps_mean around (one_of (first_then m.code (leading a.behind)) (first_then n.code (leading b.behind)))
          (ap (λ z. Step.Fork ∷ z) (same_lists (same_lists m.lists refl) (ap (λ z. Step.Other ∷ z) (same_lists (same_lists n.lists refl) refl))))
          (same_either first last m.same n.same)

  caught_means : (a : Kept) (c : Code) → Means a c → Means (caught_kept a) (catches c)
  caught_means a c m = found a.steps refl
    where
      around : List Step
      around = Step.Catch ∷ (whole a ++ Step.Caught ∷ [])

      found : (l : List Step) → a.steps ≡ l → Means (unless_none l around (caught_exits a.behind)) (catches c)
      found [] e = left_out_means (caught_exits a.behind) (same_then_same first last (same_turned first last (out_same_caught first last a.behind)) (same_caught first last (leads_same m e)))
      found (s ∷ l) e = steps_mean around (catches (first_then m.code (leading a.behind))) (ap (λ z. Step.Catch ∷ z) (same_lists (same_lists m.lists refl) refl)) (same_caught first last m.same)

  loop_means : (a : Kept) (c : Code) → Means a c → Means (loop_kept a) (repeats c)
  loop_means a c m = found a.steps refl
    where
      around : List Step
      around = Step.Head ∷ (whole a ++ Step.Again ∷ [])

      found : (l : List Step) → a.steps ≡ l → Means (unless_none l around (loop_exits a.behind)) (repeats c)
      found [] e = left_out_means (loop_exits a.behind) (same_then_same first last (same_turned first last (out_same_loop first last a.behind)) (same_loop first last (leads_same m e)))
      found (s ∷ l) e = steps_mean around (repeats (first_then m.code (leading a.behind))) (ap (λ z. Step.Head ∷ z) (same_lists (same_lists m.lists refl) refl)) (same_loop first last m.same)

  -- ---- a variable that is not at hand

  apart : (x y : ℕ) → IsBetween first last x → is_between first last y ≡ false → nat_eq y x ≡ false
  apart x y i e = by_cases (nat_eq y x) refl
    where
      by_cases : (b : Bool) → nat_eq y x ≡ b → nat_eq y x ≡ false
      by_cases false h = h
      by_cases true h = absurd (let from = i.from in let to = i.to in grind (arith, from, to, e, h))

  read_same : (y r : ℕ) → is_between first last y ≡ false → Same first last (acts (Reads y r)) (goes_to Next)
  read_same y r e = record { does = λ x i. refl; warned = λ x i v. ap (λ z. warn_read z r v) (apart x y i e) }

  null_same : (y k : ℕ) → is_between first last y ≡ false → Same first last (acts (Nulls y k)) (goes_to Next)
  null_same y k e = record { does = λ x i. ap (λ z. only (nulled z k)) (apart x y i e); warned = λ x i v. refl }

  write_same : (y : ℕ) → is_between first last y ≡ false → Same first last (acts (Writes y)) (goes_to Next)
  write_same y e = record { does = λ x i. ap (λ z. only (written z)) (apart x y i e); warned = λ x i v. refl }

  -- ---- the pass

  -- after the steps of c, what is kept stands for what was there before and then c
  pub record Goes (c : Code) (rest : List Step) (k : Kept) (w : List Kept) (e : Code) : Type 0 where
    pub kept_now : Kept
    pub means : Means kept_now (first_then e c)
    pub is : narrowed first last (listing c ++ rest) (all_kept k w) ≡ narrowed first last rest (all_kept kept_now w)

  act_goes : (a : Act) (y : ℕ) (rest : List Step) (k : Kept) (w : List Kept) (e : Code) → Means k e
      → (is_between first last y ≡ false → Same first last (acts a) (goes_to Next))
      → narrows first last (step_of a) (all_kept k w) ≡ acts_if (is_between first last y) (step_of a) (all_kept k w)
      → Goes (acts a) rest k w e
  act_goes a y rest k w e m idle steps_as = found (is_between first last y) refl
    where
      found : (b : Bool) → is_between first last y ≡ b → Goes (acts a) rest k w e
      found true h = record {
        kept_now = then_kept k (kept (step_of a ∷ []) (exits_to Next));
        means = then_means k (kept (step_of a ∷ []) (exits_to Next)) e (acts a) m (steps_mean (step_of a ∷ []) (acts a) refl (same_self first last (acts a)));
        is = ap (narrowed first last rest) (steps_as ∙ ap (λ z. acts_if z (step_of a) (all_kept k w)) h);
      }
      found false h = record {
        kept_now = k;
        means = means_same m (same_then_same first last (same_turned first last (same_end first last e)) (same_then first last (same_self first last e) (same_turned first last (idle h))));
        is = ap (narrowed first last rest) (steps_as ∙ ap (λ z. acts_if z (step_of a) (all_kept k w)) h);
      }

  exit_goes : (t : To) (rest : List Step) (k : Kept) (w : List Kept) (e : Code) → Means k e
      → narrowed first last (listing (goes_to t) ++ rest) (all_kept k w) ≡ narrowed first last rest (all_kept (then_kept k (kept [] (exits_to t))) w)
      → Goes (goes_to t) rest k w e
  exit_goes t rest k w e m is = record { kept_now = then_kept k (kept [] (exits_to t)); means = then_means k (kept [] (exits_to t)) e (goes_to t) m (out_means t); is = is }

  begun : Means nothing_kept (goes_to Next)
  begun = out_means Next

  -- a piece that ends
  closed_is : (f : Kept → Kept) (k g : Kept) (w : List Kept) → all_kept (then_kept (last_or nothing_kept (w ++ k ∷ [])) (f g)) (front (w ++ k ∷ [])) ≡ all_kept (then_kept k (f g)) w
  closed_is f k g w = rw (last_pushed nothing_kept k w, front_pushed k w) refl

  joined_is : (k g h : Kept) (w : List Kept)
      → narrows first last Step.Join (all_kept h ((w ++ k ∷ []) ++ g ∷ [])) ≡ all_kept (then_kept k (either_kept g h)) w
  joined_is k g h w = rw (last_pushed nothing_kept g (w ++ k ∷ []), front_pushed g (w ++ k ∷ []), last_pushed nothing_kept k w, front_pushed k w) refl

  pub goes : (c : Code) (rest : List Step) (k : Kept) (w : List Kept) (e : Code) → Means k e → Goes c rest k w e
  goes (goes_to Next) rest k w e m = record { kept_now = k; means = means_same m (same_turned first last (same_end first last e)); is = refl }
  goes (goes_to Broken) rest k w e m = exit_goes Broken rest k w e m refl
  goes (goes_to Continued) rest k w e m = exit_goes Continued rest k w e m refl
  goes (goes_to Ends) rest k w e m = exit_goes Ends rest k w e m refl
  goes (acts (Reads y r)) rest k w e m = act_goes (Reads y r) y rest k w e m (read_same y r) refl
  goes (acts (Nulls y n)) rest k w e m = act_goes (Nulls y n) y rest k w e m (null_same y n) refl
  goes (acts (Writes y)) rest k w e m = act_goes (Writes y) y rest k w e m (write_same y) refl
  goes (first_then a b) rest k w e m =
      let g = goes a (listing b ++ rest) k w e m in
      let h = goes b rest g.kept_now w (first_then e a) g.means in
      record {
        kept_now = h.kept_now;
        means = means_same h.means (same_assoc first last e a b);
        is = ap (λ z. narrowed first last z (all_kept k w)) (append_assoc (listing a) (listing b) rest) ∙ g.is ∙ h.is;
      }
  goes (one_of a b) rest k w e m =
      let g = goes a (Step.Other ∷ (listing b ++ Step.Join ∷ rest)) nothing_kept (w ++ k ∷ []) (goes_to Next) begun in
      let h = goes b (Step.Join ∷ rest) nothing_kept ((w ++ k ∷ []) ++ g.kept_now ∷ []) (goes_to Next) begun in
      record {
        kept_now = then_kept k (either_kept g.kept_now h.kept_now);
        means = then_means k (either_kept g.kept_now h.kept_now) e (one_of a b) m (either_means g.kept_now h.kept_now a b (means_same g.means (start_same first last a)) (means_same h.means (start_same first last b)));
        is = ap (λ z. narrowed first last z (all_kept k w)) (regroup_two Step.Fork Step.Other Step.Join (listing a) (listing b) rest) ∙ g.is ∙ h.is ∙ ap (narrowed first last rest) (joined_is k g.kept_now h.kept_now w);
      }
  goes (catches a) rest k w e m =
      let g = goes a (Step.Caught ∷ rest) nothing_kept (w ++ k ∷ []) (goes_to Next) begun in
      record {
        kept_now = then_kept k (caught_kept g.kept_now);
        means = then_means k (caught_kept g.kept_now) e (catches a) m (caught_means g.kept_now a (means_same g.means (start_same first last a)));
        is = ap (λ z. narrowed first last z (all_kept k w)) (regroup Step.Catch Step.Caught (listing a) rest) ∙ g.is ∙ ap (narrowed first last rest) (closed_is caught_kept k g.kept_now w);
      }
  goes (repeats a) rest k w e m =
      let g = goes a (Step.Again ∷ rest) nothing_kept (w ++ k ∷ []) (goes_to Next) begun in
      record {
        kept_now = then_kept k (loop_kept g.kept_now);
        means = then_means k (loop_kept g.kept_now) e (repeats a) m (loop_means g.kept_now a (means_same g.means (start_same first last a)));
        is = ap (λ z. narrowed first last z (all_kept k w)) (regroup Step.Head Step.Again (listing a) rest) ∙ g.is ∙ ap (narrowed first last rest) (closed_is loop_kept k g.kept_now w);
      }

  -- all steps that are kept of a body
  pub whole_same : (c : Code) (list : List Step) (k : Kept) (w : List Kept) → list ≡ listing c → narrowed first last list narrow_start ≡ all_kept k w → IsSame first last (whole k) c
  whole_same c list k w is e =
      let g = goes c [] nothing_kept [] (goes_to Next) begun in
      let same : k ≡ g.kept_now = ap (λ (s : AllKept). s.now) (sym e ∙ ap (λ z. narrowed first last z narrow_start) (is ∙ sym (append-nil (listing c))) ∙ g.is) in
      let m = means_same g.means (start_same first last c) in
      record {
        code = first_then m.code (leading g.kept_now.behind);
        lists = ap whole same ∙ same_lists m.lists refl;
        same = m.same;
      }
