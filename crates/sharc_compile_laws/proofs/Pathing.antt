-- What a thread of the code of a program reports is what the program asks for by the answers of the events that are reported.
use Rattle.sharc_compile_laws.proofs.{Imports.{◌≡◌, ℕ, ◌⊎◌, inl, inr, ⊎_elim, List, ◌++◌, length, map, refl, sym, ap, ◌∙◌, subst, SourceEvent, Assignment, asks, answers_of, by, Code, Machine, FlatCode, MayStart, Flattens, Resolved, begins, IsBeginning, program_of, IsCodeOf, FollowsSource, IsOverAs, IsAskedFor, TellsProgram}, Telling.{answers_by, started_at_name, tail_same}}

module _ (m : Assignment) (flat : FlatCode) (made : Flattens m flat) (code : Code) (is : IsCodeOf flat code) (thread : ℕ) (at : Machine) (said : List SourceEvent) (lowered : List ℕ) (paced : ℕ) where
  -- it follows the source, as `sharc_compile` says it
  abbrev Follows : Type 0
  Follows = FollowsSource m code (program_of is.g) (length flat.functions.items) thread at said lowered paced

  asked : (h : Follows) → MayStart m h.function → IsAskedFor m code thread h.function h.argument (map (by thread) h.after) at lowered paced
  asked h may =
      let k = h.told may in
      let same : map (by thread) (asks m h.function h.argument h.answers k.fuel).events ≡ map (by thread) h.after = tail_same _ _ _ _ (sym k.events ∙ h.starts) in
      let own : h.answers ≡ answers_of (map (by thread) h.after) =
      k.own ∙ sym (answers_by thread (asks m h.function h.argument h.answers k.fuel).events) ∙ ap answers_of same
      in
      record {
        fuel = k.fuel;
        events = ap (λ xs. map (by thread) (asks m h.function h.argument xs k.fuel).events) (sym own) ∙ same;
        over = subst (λ xs. IsOverAs code (asks m h.function h.argument xs k.fuel).outcome at.at.state at.own.stop) own k.over;
        given = subst (λ xs. (more : List ℕ) × Resolved (asks m h.function h.argument xs k.fuel).given_up (lowered ++ more)) own k.given;
        pace = λ few less. ap (λ xs. (asks m h.function h.argument xs few).outcome) (sym own) ∙ k.pace few less;
      }

  tells : Follows → TellsProgram m code thread at said lowered paced
  tells h = record {
    function = h.function;
    argument = h.argument;
    begins = by thread (begins (program_of is.g) h.function h.argument);
    told = map (by thread) h.after;
    starts = h.starts;
    own = refl;
    act = refl;
    answer = refl;
    site = started_at_name m flat made code is h.function h.argument h.known;
    asked = asked h;
  }

  pub told_by_code : IsBeginning at said paced ⊎ Follows → IsBeginning at said paced ⊎ TellsProgram m code thread at said lowered paced
  told_by_code follows = ⊎_elim (λ (b : IsBeginning at said paced). inl b) (λ (h : Follows). inr (tells h)) follows
