-- The text is the same where it says the same of each thread.
use Rattle.sharc_run.proofs.{Imports.{◌≡◌, ℕ, ◌==◌, ◌&&◌, not, suc, Bool, true, false, List, [], ◌∷◌, ◌++◌, length, map, find, codes, decimal, cond, is_some, Option, Some, None, refl, sym, ap, ◌∙◌, subst, arith, if◌then◌else◌, IsStableByKey, nat_cmp, Kind, Read, Write, note_of, site_at, lowest_other, stands, Code, ConflictAt, Print, Stop, Conflict, NoLock, NotSole, Trap, Wait, is_held_up, ThreadView, number_of, noted, refused_by, refused, is_first_write, or_refused, or_read, or_later, access_of, access_of_any, access_of_number, has_number, wrote_before, was_refused_first, refused_access, or_first_refused, against, place_of, prints_of, AreInOrder, print_line, code_of, access_text, other_text, stop_text, wait_text, made_text, unstopped_text, why_text, thread_line, is_gone, IsRunText, Shown, shown, TextIsOne}, OneOrder.one_order}
use Rattle.std.proofs.Common.{flat_map}

-- ---- lists of threads
-- a text says the same of each thread of both
abbrev Alike : List ThreadView → List ThreadView → Type 0
Alike [] [] = Unit {0}
Alike (t ∷ ts) (u ∷ us) = (shown t ≡ shown u) × Alike ts us
Alike [] (u ∷ us) = ⊥
Alike (t ∷ ts) [] = ⊥

abbrev first_of : Shown → List Shown → Shown
first_of x [] = x
first_of x (y ∷ ys) = y

abbrev rest_of : List Shown → List Shown
rest_of [] = []
rest_of (y ∷ ys) = ys

alike : (ts us : List ThreadView) → map shown ts ≡ map shown us → Alike ts us
alike [] [] e = tt
alike (t ∷ ts) (u ∷ us) e = (ap (first_of (shown t)) e, alike ts us (ap rest_of e))
alike [] (u ∷ us) e = let h : 0 ≡ suc (length (map shown us)) = ap length e in omega (arith, h)
alike (t ∷ ts) [] e = let h : suc (length (map shown ts)) ≡ 0 = ap length e in omega (arith, h)

-- what each has is the same, so what all have is
flat_same : {X : Type 0} (f g : ThreadView → List X) → ((t u : ThreadView) → shown t ≡ shown u → f t ≡ g u) → (ts us : List ThreadView) → Alike ts us → flat_map f ts ≡ flat_map g us
flat_same f g same [] [] are = refl
flat_same f g same (t ∷ ts) (u ∷ us) are = ap (λ l. l ++ flat_map f ts) (same t u are.0) ∙ ap (λ l. g u ++ l) (flat_same f g same ts us are.1)
flat_same f g same [] (u ∷ us) are = absurd are
flat_same f g same (t ∷ ts) [] are = absurd are

-- the first of which a test is true
abbrev BothAlike : Option ThreadView → Option ThreadView → Type 0
BothAlike None None = Unit {0}
BothAlike (Some t) (Some u) = shown t ≡ shown u
BothAlike None (Some u) = ⊥
BothAlike (Some t) None = ⊥

found_step : (b c : Bool) (t u : ThreadView) (o q : Option ThreadView) → b ≡ c → shown t ≡ shown u → BothAlike o q → BothAlike (cond b (Some t) o) (cond c (Some u) q)
found_step true true t u o q same are rest = are
found_step false false t u o q same are rest = rest
found_step true false t u o q same are rest = cc
found_step false true t u o q same are rest = cc

found_same : (p : ThreadView → Bool) → ((t u : ThreadView) → shown t ≡ shown u → p t ≡ p u) → (ts us : List ThreadView) → Alike ts us → BothAlike (find p ts) (find p us)
found_same p same [] [] are = tt
found_same p same (t ∷ ts) (u ∷ us) are = found_step (p t) (p u) t u (find p ts) (find p us) (same t u are.0) are.0 (found_same p same ts us are.1)
found_same p same [] (u ∷ us) are = absurd are
found_same p same (t ∷ ts) [] are = absurd are

-- ---- the other access of a conflict
module _ (c : ConflictAt) where
  module _ (t u : ThreadView) (e : shown t ≡ shown u) where
    noted_same : (kind : Kind) → noted c kind t ≡ noted c kind u
    noted_same kind = ap (λ (x : Shown). site_at (note_of x.table c.granule kind) c.epoch) e

    refused_same : refused c t ≡ refused c u
    refused_same = ap (λ (x : Shown). refused_by c x.stop) e

    or_refused_at : (o : Option ConflictAt) → or_refused t o ≡ or_refused u o
    or_refused_at None = refl
    or_refused_at (Some d) = ap (λ (x : Shown). Some (record { kind = d.kind; site = d.site; thread = x.number })) e

    or_refused_same : or_refused t (refused c t) ≡ or_refused u (refused c u)
    or_refused_same = ap (or_refused t) refused_same ∙ or_refused_at (refused c u)

    or_read_at : (o : Option ℕ) → or_read c t o ≡ or_read c u o
    or_read_at None = or_refused_same
    or_read_at (Some site) = ap (λ (x : Shown). Some (record { kind = Read; site = site; thread = x.number })) e

    or_later_at : (o : Option ℕ) → or_later c t o ≡ or_later c u o
    or_later_at None = ap (or_read c t) (noted_same Read) ∙ or_read_at (noted c Read u)
    or_later_at (Some site) = ap (λ (x : Shown). Some (record { kind = Write; site = site; thread = x.number })) e

    access_same : access_of c t ≡ access_of c u
    access_same = ap (or_later c t) (noted_same Write) ∙ or_later_at (noted c Write u)

    wrote_same : (thread : ℕ) → wrote_before c thread t ≡ wrote_before c thread u
    wrote_same thread = ap (λ (x : Shown). not (x.number == thread) && (stands c.old x.number && is_some (site_at (note_of x.table c.granule Write) c.epoch))) e

    refused_first_same : was_refused_first c t ≡ was_refused_first c u
    refused_first_same = ap is_first_write refused_same

  access_of_any_same : (o q : Option ThreadView) → BothAlike o q → access_of_any c o ≡ access_of_any c q
  access_of_any_same None None are = refl
  access_of_any_same (Some t) (Some u) are = access_same t u are
  access_of_any_same None (Some u) are = absurd are
  access_of_any_same (Some t) None are = absurd are

  refused_access_same : (o q : Option ThreadView) → BothAlike o q → refused_access c o ≡ refused_access c q
  refused_access_same None None are = refl
  refused_access_same (Some t) (Some u) are = or_refused_same t u are
  refused_access_same None (Some u) are = absurd are
  refused_access_same (Some t) None are = absurd are

  module _ (ts us : List ThreadView) (are : Alike ts us) where
    numbered_same : (n : ℕ) → access_of_any c (find (has_number n) ts) ≡ access_of_any c (find (has_number n) us)
    numbered_same n = access_of_any_same (find (has_number n) ts) (find (has_number n) us) (found_same (has_number n) (λ t u e. ap (λ (x : Shown). x.number == n) e) ts us are)

    of_number_same : (o : Option ℕ) → access_of_number c ts o ≡ access_of_number c us o
    of_number_same None = refl
    of_number_same (Some n) = numbered_same n

    first_refused_same : refused_access c (find (was_refused_first c) ts) ≡ refused_access c (find (was_refused_first c) us)
    first_refused_same =
        refused_access_same (find (was_refused_first c) ts) (find (was_refused_first c) us) (found_same (was_refused_first c) (λ t u e. refused_first_same t u e) ts us are)

    or_first_refused_same : (o q : Option ThreadView) → BothAlike o q → or_first_refused c ts o ≡ or_first_refused c us q
    or_first_refused_same None None alike = first_refused_same
    or_first_refused_same (Some t) (Some u) alike = access_same t u alike
    or_first_refused_same None (Some u) alike = absurd alike
    or_first_refused_same (Some t) None alike = absurd alike

    against_same : (kind : Kind) (thread : ℕ) → against kind c ts thread ≡ against kind c us thread
    against_same Write thread = of_number_same (lowest_other c.old thread)
    against_same Read thread = or_first_refused_same (find (wrote_before c thread) ts) (find (wrote_before c thread) us) (found_same (wrote_before c thread) (λ t u e. wrote_same t u e thread) ts us are)

-- ---- lines
module _ (code : Code) (words : List ℕ) (ts us : List ThreadView) (are : Alike ts us) where
  stop_same : (thread : ℕ) (stop : Stop) → stop_text code ts thread stop ≡ stop_text code us thread stop
  stop_same thread (Conflict c) = ap (λ o. code_of c.kind ++ access_text code c.kind c.site ++ other_text code o) (against_same c ts us are c.kind thread)
  stop_same thread (NoLock site word) = refl
  stop_same thread (NotSole site count) = refl
  stop_same thread (Trap trap site) = refl

  module _ (t u : ThreadView) (e : shown t ≡ shown u) where
    unstopped_at : (o : Option Wait) → unstopped_text code words t o ≡ unstopped_text code words u o
    unstopped_at None = ap (λ (x : Shown). made_text x.made) e
    unstopped_at (Some wait) = ap (λ (x : Shown). if is_held_up words x.number wait then wait_text code words wait else made_text x.made) e

    unstopped_same : unstopped_text code words t t.wait ≡ unstopped_text code words u u.wait
    unstopped_same = ap (λ (x : Shown). unstopped_text code words t x.wait) e ∙ unstopped_at u.wait

    why_at : (o : Option Stop) → why_text code words ts t o ≡ why_text code words us u o
    why_at None = unstopped_same
    why_at (Some stop) = ap (λ (x : Shown). stop_text code ts x.number stop) e ∙ stop_same (number_of u) stop

    why_same : why_text code words ts t t.machine.own.stop ≡ why_text code words us u u.machine.own.stop
    why_same = ap (λ (x : Shown). why_text code words ts t x.stop) e ∙ why_at u.machine.own.stop

    line_same : thread_line code words ts t ≡ thread_line code words us u
    line_same =
        ap (λ (x : Shown). if x.gone then [] else codes "thread " ++ decimal x.number ++ codes ": " ++ why_text code words ts t t.machine.own.stop ++ codes "\n") e
        ∙ ap (λ l. if is_gone u.machine.at.state then [] else codes "thread " ++ decimal (number_of u) ++ codes ": " ++ l ++ codes "\n") why_same

-- ---- texts
prints_same : (ts us : List ThreadView) (one other : List Print) → Alike ts us → AreInOrder ts one → AreInOrder us other → one ≡ other
prints_same ts us one other are a b =
    let from : flat_map prints_of us ≡ flat_map prints_of ts = sym (flat_same prints_of prints_of (λ t u e. ap (λ (x : Shown). x.prints) e) ts us are) in
    one_order place_of (flat_map prints_of ts) one other a.in_order a.ties b.in_order (subst (λ l. IsStableByKey place_of nat_cmp l other) from b.ties)

pub one_text : TextIsOne
one_text code words ts us text other e a b =
    let are : Alike ts us = alike ts us e in
    let prints : a.prints ≡ b.prints = prints_same ts us a.prints b.prints are a.in_order b.in_order in
    let lines = flat_same (thread_line code words ts) (thread_line code words us) (λ t u h. line_same code words ts us are t u h) ts us are in
    a.is
    ∙ (ap (λ ps. flat_map print_line ps ++ flat_map (thread_line code words ts) ts) prints
    ∙ (ap (λ l. flat_map print_line b.prints ++ l) lines
    ∙ sym b.is))
