-- The machine's steps over assignments and calls.
use Rattle.sharc_parse.proofs.{Imports.{◌≡◌, ◌≤◌, List, [], ◌∷◌, None, refl, sym, ap, ◌∙◌, arith, true, false, cond, Assign, Semicolon, CloseParenthesis, Word, mark, Phrase, Value, Doing, assign, invoke, is_call, Outer, DoingPlace, in_line, as_step, of_doing, part, subject, valued, Want, Have, At, Role, Operating, Ending, role, grip_of, grip, have, subject_end, doing_end, StuckAt, next_within, reads_within, weak, NotAt, value_within, doing_state, EndsDoing, doing_within}, Steps.{some_strength, closed_operator}, RightSteps.value_ends}

pub assign_goes : (d : DoingPlace) (o : Outer) (x : Phrase) (y : List Word) → reads_within (mark Assign ∷ y) (At [] (Have x (part (subject d) o))) ≡ reads_within y (At [] (Want (part (valued (of_doing d x)) o)))
assign_goes d o x y = refl

doing_not : (d : DoingPlace) (x : Doing) (o : Outer) (t : Word) → 1 ≤ grip_of (role t) → doing_end d x o t ≡ None
doing_not (in_line p) x o (mark Semicolon) g = absurd (omega (arith, g))
doing_not (as_step l e) x o (mark CloseParenthesis) g = absurd (omega (arith, g))
doing_not _ x o _ g = refl

subject_ends : (d : DoingPlace) (o : Outer) (x : Phrase) (t : Word) → (t ≡ mark Assign → ⊥) → subject_end d x o t ≡ cond (is_call x) (doing_end d (invoke x) o t) None
subject_ends d o x (mark Assign) n = absurd (n refl)
subject_ends d o x _ n = refl

call_role : (r : Role) (d : DoingPlace) (o : Outer) (x : Phrase) (t : Word) → role t ≡ r → grip_of r ≤ 11 → (t ≡ mark Assign → ⊥) → is_call x ≡ true → have r x (part (subject d) o) t ≡ doing_end d (invoke x) o t
call_role (Operating b) d o x t e g n i = closed_operator b x (part (subject d) o) tt (weak b) ∙ sym (doing_not d (invoke x) o t (omega (arith, ap grip_of e, some_strength b)))
call_role Ending d o x t e g n i = subject_ends d o x t n ∙ ap (λ c. cond c (doing_end d (invoke x) o t) None) i
call_role _ d o x t e g n i = absurd (omega (arith, g))

no_call_role : (r : Role) (d : DoingPlace) (o : Outer) (x : Phrase) (t : Word) → grip_of r ≤ 11 → (t ≡ mark Assign → ⊥) → is_call x ≡ false → have r x (part (subject d) o) t ≡ None
no_call_role (Operating b) d o x t g n i = closed_operator b x (part (subject d) o) tt (weak b)
no_call_role Ending d o x t g n i = subject_ends d o x t n ∙ ap (λ c. cond c (doing_end d (invoke x) o t) None) i
no_call_role _ d o x t g n i = absurd (omega (arith, g))

-- what is no call is no statement
pub no_call_there : (d : DoingPlace) (o : Outer) (x : Phrase) (ts : List Word) → grip ts ≤ 11 → NotAt (mark Assign) ts → is_call x ≡ false → reads_within ts (At [] (Have x (part (subject d) o))) ≡ StuckAt ts
no_call_there d o x [] g n i = refl
no_call_there d o x (t ∷ y) g n i = ap (λ v. next_within v (λ s. reads_within y s) (t ∷ y)) (no_call_role (role t) d o x t g n i)

assign_ends : (d : DoingPlace) (o : Outer) (u : Phrase) (r : Value) (ts : List Word) → value_within (of_doing d u) r o ts ≡ doing_within d (assign u r) o ts
assign_ends d o u r [] = refl
assign_ends d o u r (t ∷ y) = refl

pub doing_ends : (d : DoingPlace) (o : Outer) (x : Doing) (ts : List Word) → EndsDoing x ts → reads_within ts (doing_state d o x) ≡ doing_within d x o ts
doing_ends d o (assign u r) ts e = value_ends (of_doing d u) o r ts e ∙ assign_ends d o u r ts
doing_ends d o (invoke x) [] e = refl
doing_ends d o (invoke x) (t ∷ y) e = ap (λ v. next_within v (λ s. reads_within y s) (t ∷ y)) (call_role (role t) d o x t refl e.1 e.2 e.0)
