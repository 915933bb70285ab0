-- What an entry of a table makes of the notes.
use Rattle.sharc_guard.proofs.{Imports.{fun_ext, ◌≡◌, ℕ, ◌+◌, Bool, true, false, ◌&&◌, ◌||◌, Option, Some, refl, sym, ap, ◌∙◌, subst, cond, ◌==◌, OnOk, Result, Ok, Err, Kind, Write, Op, Copied, KnownNumber, PassedCheck, Copying, Written, SimplePlace, in_variable, in_global, access, know_next, writes_int, writes_ref, copy_of, is_one, is_written, number_of_line, Notes, know_of, passed_at, noted_place, stronger, with_access, with_copy, with_noted, with_number, with_place, with_written, AreBefore}, Marking.{turned, known_after, noted_before}}
use Rattle.sharc_guard.specs.Marked.{access_of}

pub on_ok : {A E : Type 0} (P Q : Type 0) (r : Result A E) → (P → Q) → OnOk r P → OnOk r Q
on_ok P Q (Ok x) f h = f h
on_ok P Q (Err e) f h = tt

pub written_noted : (s : Notes) (new : ℕ → Option ℕ) (r t : ℕ) → ((q : ℕ) → new q ≡ cond (r == q) (Some t) (s.written q)) → record s { written = new } ≡ with_written (λ k. k == r) t s
written_noted s new r t h = ap (λ w. record s { written = w }) (fun_ext (λ q. h q ∙ ap (λ b. cond b (Some t) (s.written q)) (turned r q)))

pub both_written : (s : Notes) (r u t : ℕ) → with_written (λ k. k == u) t (with_written (λ k. k == r) t s) ≡ with_written (λ k. k == r || k == u) t s
both_written s r u t = ap (λ w. record s { written = w }) (fun_ext (λ q. by (q == r) (q == u) (s.written q)))
  where
    by : (a b : Bool) (old : Option ℕ) → cond b (Some t) (cond a (Some t) old) ≡ cond (a || b) (Some t) old
    by true true old = refl
    by true false old = refl
    by false b old = refl

pub copy_noted : (s : Notes) (new : ℕ → Option Copied) (c : Copying) (t : ℕ) → ((q : ℕ) → new q ≡ cond (c.register == q) (Some record { variable = c.variable; made = t }) (s.copies q)) → record s { copies = new } ≡ with_copy (Some c) t s
copy_noted s new c t h = ap (λ w. record s { copies = w }) (fun_ext (λ q. h q ∙ ap (λ b. cond b (Some record { variable = c.variable; made = t }) (s.copies q)) (turned c.register q)))

pub number_noted : (s : Notes) (new : ℕ → Option KnownNumber) (r t : ℕ) (v : Option ℕ) → ((q : ℕ) → new q ≡ cond (r == q) (Some record { number = v; made = t }) (s.numbers q)) → record s { numbers = new } ≡ with_number (is_one (Some r)) v t s
number_noted s new r t v h = ap (λ w. record s { numbers = w }) (fun_ext (λ q. h q ∙ ap (λ b. cond b (Some record { number = v; made = t }) (s.numbers q)) (turned r q)))

pub variable_noted : (s : Notes) (new : ℕ → ℕ → Option PassedCheck) (x n t : ℕ) (kind now : Kind) → now ≡ stronger (passed_at s Write (in_variable x n)) kind
    → ((q : ℕ × ℕ) → new q.0 q.1 ≡ cond (x == q.0 && n == q.1) (Some record { kind = now; made = t }) (s.in_variables q.0 q.1)) → record s { in_variables = new } ≡ with_place kind (Some (in_variable x n)) t s
variable_noted s new x n t kind now e h =
    ap (λ w. record s { in_variables = w }) (fun_ext (λ y. fun_ext (λ k. h (y, k) ∙ ap (λ z. cond (x == y && n == k) (Some record { kind = z; made = t }) (s.in_variables y k)) e)))

pub global_noted : (s : Notes) (new : ℕ → ℕ → Option PassedCheck) (x n t : ℕ) (kind now : Kind) → now ≡ stronger (passed_at s Write (in_global x n)) kind
    → ((q : ℕ × ℕ) → new q.0 q.1 ≡ cond (x == q.0 && n == q.1) (Some record { kind = now; made = t }) (s.in_globals q.0 q.1)) → record s { in_globals = new } ≡ with_place kind (Some (in_global x n)) t s
global_noted s new x n t kind now e h =
    ap (λ w. record s { in_globals = w }) (fun_ext (λ y. fun_ext (λ k. h (y, k) ∙ ap (λ z. cond (x == y && n == k) (Some record { kind = z; made = t }) (s.in_globals y k)) e)))

pub noted_same : (kind : Kind) (q : Option SimplePlace) (t : ℕ) (s : Notes) → with_noted kind (noted_place q) t s ≡ with_place kind q t s
noted_same kind (Some (in_global g n)) t s = refl
noted_same kind _ t s = refl

-- the notes after all parts of an operation
module _ (o : Op) (t : ℕ) (s a b c d : Notes) (registers : Written) (ints : Option ℕ) (number : Option ℕ) (before : AreBefore t s)
    (ea : a ≡ with_access (access_of (access o)) t s) (eb : b ≡ with_written (is_written registers) t a) (ec : c ≡ with_copy (copy_of o) t b) (ed : d ≡ with_number (is_one ints) number t c)
    (er : (k : ℕ) → is_written registers k ≡ writes_ref o k) (ei : (k : ℕ) → is_one ints k ≡ writes_int o k) (en : number ≡ number_of_line o (know_of s)) where
  all_noted : d ≡ with_number (writes_int o) (number_of_line o (know_of s)) t (with_copy (copy_of o) t (with_written (writes_ref o) t (with_access (access_of (access o)) t s)))
  all_noted =
      ed ∙ ap (λ f. with_number f number t c) (fun_ext ei) ∙ ap (λ n. with_number (writes_int o) n t c) en
      ∙ ap (λ c. with_number (writes_int o) (number_of_line o (know_of s)) t c) (ec ∙ ap (with_copy (copy_of o) t) (eb ∙ ap (λ f. with_written f t a) (fun_ext er) ∙ ap (with_written (writes_ref o) t) ea))

  pub next_known : know_of d ≡ know_next o (know_of s)
  next_known = ap know_of all_noted ∙ known_after t s before o

  pub next_before : AreBefore (t + 1) d
  next_before = subst (AreBefore (t + 1)) (sym all_noted) (noted_before t s before o (writes_ref o) (writes_int o) (number_of_line o (know_of s)) (copy_of o))
