-- What a command writes for a program with its modes is one.
use Rattle.sharc_reply_laws.proofs.Imports.{◌≡◌, ℕ, List, ◌++◌, Option, Some, None, refl, ap, sym, ◌∙◌, subst, Cast, ModeError, Warning, Assignment, CheckLaws, AreSuggested, cast_for, SuggestLaws, explain_text, accepted_text, check_text, Status, SourceTask, IsModeRefusal, Checks, accepted, refused, Explains, explained, Does, WarningsAreOne, RunsNothing}

one_answer : (laws : SuggestLaws) (m : Assignment) (errors : List ModeError) (x y : List (Option Cast)) → AreSuggested m errors x → AreSuggested m errors y → x ≡ y
one_answer laws m errors x y a b = a.says ∙ sym (laws.each m errors y (λ e. cast_for a.casts e) (λ e. record { casts = a.casts; are = a.are; says = refl }) b)

module _ (warnings : WarningsAreOne) (checks : CheckLaws) (suggests : SuggestLaws) (m : Assignment) where
  pub one_refusal : (text other : List ℕ) → IsModeRefusal m text → IsModeRefusal m other → text ≡ other
  one_refusal text other a b =
      let errors = checks.list m a.errors b.errors a.all b.all in
      let moved = subst (λ (l : List ModeError). AreSuggested m l a.casts) errors a.suggested in
      let casts = one_answer suggests m b.errors a.casts b.casts moved b.suggested in
      a.written
      ∙ ap (λ (l : List ModeError). check_text m.typed l a.casts) errors
      ∙ ap (λ (l : List (Option Cast)). check_text m.typed b.errors l) casts
      ∙ sym b.written

  one_check : (s z : Status) (text other : List ℕ) → Checks m s text → Checks m z other → (s ≡ z) × (text ≡ other)
  one_check s z text other (accepted w meets are) (accepted v also them) = (refl, ap (λ (l : List Warning). accepted_text m.typed l) (warnings m.typed w v are them))
  one_check s z text other (accepted w meets are) (refused t is) = absurd (is.breaks_rules meets)
  one_check s z text other (refused t is) (accepted w meets are) = absurd (is.breaks_rules meets)
  one_check s z text other (refused t is) (refused u also) = (refl, one_refusal t u is also)

  one_explanation : (s z : Status) (text other : List ℕ) → Explains m s text → Explains m z other → (s ≡ z) × (text ≡ other)
  one_explanation s z text other (explained x t is) (explained y u also) =
      let same = one_check x y t u is also in
      (same.0, ap (λ (l : List ℕ). explain_text m ++ l) same.1)

  pub one_done : (t : SourceTask) → RunsNothing t → (s z : Status) (text other : List ℕ) → Does t m s text → Does t m z other → (s ≡ z) × (text ≡ other)
  one_done SourceTask.Check nothing s z text other a b = one_check s z text other a b
  one_done SourceTask.Explain nothing s z text other a b = one_explanation s z text other a b
  one_done (SourceTask.Run numbers) nothing s z text other a b = absurd nothing
