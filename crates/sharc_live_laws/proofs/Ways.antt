-- Ways through code: paths from its start whose actions cover those that were seen.
use Rattle.sharc_live_laws.proofs.{Imports.{◌≡◌, ℕ, List, [], ◌∷◌, ◌++◌, inl, inr, refl, sym, subst, append-nil, Act, From, Start, Inside, To, Next, Broken, Continued, Ends, Piece, Leaves, Goes, goes, before, Does, done, ended, before as not_yet, Then, through, leaves, behind, Either, Caught, on, as_is, Loop, left, ended as loop_ended, again, Code, goes_to, acts, first_then, one_of, catches, repeats, paths, goes_on}, Covering.{Covers, covers_same, covers_both}}

-- ---- paths of code

-- a path may end before anything is done
pub stays : (c : Code) → paths c Start Ends []
stays (goes_to t) = before
stays (acts a) = not_yet
stays (first_then a b) = leaves tt (stays a)
stays (one_of a b) = inl (stays a)
stays (catches a) = as_is (stays a)
stays (repeats a) = loop_ended (stays a)

-- and so may one that goes on
abbrev Cuts : Piece → Type 0
Cuts A = (f : From) (t : To) (l : List Act) → A f t l → A f Ends l

cut_goes : (t : To) → Cuts (Goes t)
cut_goes t f u l goes = before
cut_goes t f u l before = before

cut_does : (a : Act) → Cuts (Does a)
cut_does a f t l done = ended
cut_does a f t l k = k

cut_then : (A B : Piece) → Cuts A → Cuts B → Cuts (Then A B)
cut_then A B ca cb f t l (through {l = l1} {m = m} p q) = through p (cb Start t m q)
cut_then A B ca cb f t l (leaves v p) = leaves tt (ca f t l p)
cut_then A B ca cb f t l (behind q) = behind (cb Inside t l q)

cut_either : (A B : Piece) → Cuts A → Cuts B → Cuts (Either A B)
cut_either A B ca cb f t l (inl p) = inl (ca f t l p)
cut_either A B ca cb f t l (inr p) = inr (cb f t l p)

cut_caught : (A : Piece) → Cuts A → Cuts (Caught A)
cut_caught A ca f t l (on p) = as_is (ca f Continued l p)
cut_caught A ca f t l (as_is p) = as_is (ca f t l p)

cut_loop : (A : Piece) → Cuts A → Cuts (Loop A)
cut_loop A ca f t l (left p) = loop_ended (ca f Broken l p)
cut_loop A ca f t l (loop_ended p) = loop_ended p
cut_loop A ca f t l (again {l = l1} {m = m} p q) = again p (cut_loop A ca Start t m q)

cut : (c : Code) → Cuts (paths c)
cut (goes_to t) = cut_goes t
cut (acts a) = cut_does a
cut (first_then a b) = cut_then (paths a) (paths b) (cut a) (cut b)
cut (one_of a b) = cut_either (paths a) (paths b) (cut a) (cut b)
cut (catches a) = cut_caught (paths a) (cut a)
cut (repeats a) = cut_loop (paths a) (cut a)

-- a path from the start is one from inside
abbrev Begins : Piece → Type 0
Begins A = (f : From) (t : To) (l : List Act) → A f t l → A Inside t l

begins_goes : (t : To) → Begins (Goes t)
begins_goes t f u l goes = goes
begins_goes t f u l before = before

begins_does : (a : Act) → Begins (Does a)
begins_does a f t l done = done
begins_does a f t l ended = ended
begins_does a f t l not_yet = not_yet

begins_then : (A B : Piece) → Begins A → Begins (Then A B)
begins_then A B ia f t l (through {l = l1} p q) = through (ia f Next l1 p) q
begins_then A B ia f t l (leaves v p) = leaves v (ia f t l p)
begins_then A B ia f t l (behind q) = behind q

begins_either : (A B : Piece) → Begins A → Begins B → Begins (Either A B)
begins_either A B ia ib f t l (inl p) = inl (ia f t l p)
begins_either A B ia ib f t l (inr p) = inr (ib f t l p)

begins_caught : (A : Piece) → Begins A → Begins (Caught A)
begins_caught A ia f t l (on p) = on (ia f Continued l p)
begins_caught A ia f t l (as_is p) = as_is (ia f t l p)

begins_loop : (A : Piece) → Begins A → Begins (Loop A)
begins_loop A ia f t l (left p) = left (ia f Broken l p)
begins_loop A ia f t l (loop_ended p) = loop_ended (ia f Ends l p)
begins_loop A ia f t l (again {l = l1} p q) = again (ia f Next l1 p) q

begins : (c : Code) → Begins (paths c)
begins (goes_to t) = begins_goes t
begins (acts a) = begins_does a
begins (first_then a b) = begins_then (paths a) (paths b) (begins a)
begins (one_of a b) = begins_either (paths a) (paths b) (begins a) (begins b)
begins (catches a) = begins_caught (paths a) (begins a)
begins (repeats a) = begins_loop (paths a) (begins a)

pub inside : (c : Code) (t : To) (l : List Act) → paths c Start t l → paths c Inside t l
inside c t l p = begins c Start t l p

-- ---- ways

module _ (x : ℕ) where
  pub record Way (c : Code) (t : To) (us : List Act) : Type 0 where
    pub along : List Act
    pub is_path : paths c Start t along
    pub covers : Covers x us along

  pub way_goes : (t : To) → Way (goes_to t) t []
  way_goes t = record { along = []; is_path = goes; covers = covers_same x [] }

  pub way_does : (a : Act) (us : List Act) → Covers x us (a ∷ []) → Way (acts a) Next us
  way_does a us h = record { along = a ∷ []; is_path = done; covers = h }

  pub way_stays : (c : Code) → Way c Ends []
  way_stays c = record { along = []; is_path = stays c; covers = covers_same x [] }

  pub way_cut : (c : Code) (t : To) (us : List Act) → Way c t us → Way c Ends us
  way_cut c t us w = record { along = w.along; is_path = cut c Start t w.along w.is_path; covers = w.covers }

  pub way_then : (a b : Code) (t : To) (us vs : List Act) → Way a Next us → Way b t vs → Way (first_then a b) t (us ++ vs)
  way_then a b t us vs p q = record { along = p.along ++ q.along; is_path = through p.is_path q.is_path; covers = covers_both x us p.along vs q.along p.covers q.covers }

  pub way_leaves : (a b : Code) (t : To) (us : List Act) → Leaves t → Way a t us → Way (first_then a b) t us
  way_leaves a b t us h p = record { along = p.along; is_path = leaves h p.is_path; covers = p.covers }

  pub way_one : (a b : Code) (t : To) (us : List Act) → Way a t us → Way (one_of a b) t us
  way_one a b t us p = record { along = p.along; is_path = inl p.is_path; covers = p.covers }

  pub way_other : (a b : Code) (t : To) (us : List Act) → Way b t us → Way (one_of a b) t us
  way_other a b t us p = record { along = p.along; is_path = inr p.is_path; covers = p.covers }

  pub way_as_is : (a : Code) (t : To) (us : List Act) → Way a t us → Way (catches a) t us
  way_as_is a t us p = record { along = p.along; is_path = as_is p.is_path; covers = p.covers }

  pub way_caught : (a : Code) (us : List Act) → Way a Continued us → Way (catches a) Next us
  way_caught a us p = record { along = p.along; is_path = on p.is_path; covers = p.covers }

  pub way_left : (a : Code) (us : List Act) → Way a Broken us → Way (repeats a) Next us
  way_left a us p = record { along = p.along; is_path = left p.is_path; covers = p.covers }

  pub way_ended : (a : Code) (us : List Act) → Way a Ends us → Way (repeats a) Ends us
  way_ended a us p = record { along = p.along; is_path = loop_ended p.is_path; covers = p.covers }

  pub way_again : (a : Code) (t : To) (us vs : List Act) → Way a Next us → Way (repeats a) t vs → Way (repeats a) t (us ++ vs)
  way_again a t us vs p q = record { along = p.along ++ q.along; is_path = again p.is_path q.is_path; covers = covers_both x us p.along vs q.along p.covers q.covers }

  -- ---- code that does nothing

  no_acts : (t u : To) (f : From) (l : List Act) → Goes t f u l → l ≡ []
  no_acts t u f l goes = refl
  no_acts t u f l before = refl

  idle_covers : (t : To) (us : List Act) → Way goes_on t us → Covers x us []
  idle_covers t us w = subst (λ l. Covers x us l) (no_acts Next t Start w.along w.is_path) w.covers

  pub idle_ends : (c : Code) (us : List Act) → Way goes_on Ends us → Way c Ends us
  idle_ends c us w = record { along = []; is_path = stays c; covers = idle_covers Ends us w }

  pub idle_before : (c : Code) (t : To) (us vs : List Act) → Way goes_on Next us → Way c t vs → Way c t (us ++ vs)
  idle_before c t us vs p q = record { along = q.along; is_path = q.is_path; covers = covers_both x us [] vs q.along (idle_covers Next us p) q.covers }

  pub idle_behind : (c : Code) (t : To) (us vs : List Act) → Way c Next us → Way goes_on t vs → Way c t (us ++ vs)
  idle_behind c t us vs p q = record { along = p.along ++ []; is_path = subst (λ l. paths c Start t l) (sym (append-nil p.along)) (to_there t q.along q.is_path); covers = covers_both x us p.along vs [] p.covers (idle_covers t vs q) }
    where
      to_there : (u : To) (l : List Act) → Goes Next Start u l → paths c Start u p.along
      to_there u l goes = p.is_path
      to_there u l before = cut c Start Next p.along p.is_path
