-- A program has one list of casts, and so an error one answer.
use Rattle.sharc_suggest.proofs.Imports.{◌≡◌, List, Option, map, ap, sym, ◌∙◌, fun_ext, Cast, ModeError, Assignment, AreCasts, IsSuggested, AreSuggested, cast_for, suggested_in, items_givings, SuggestLaws}

one_list : (m : Assignment) (a b : List Cast) → AreCasts m a → AreCasts m b → a ≡ b
one_list m a b left right = left.are ∙ ap (λ n. suggested_in m n (items_givings m.typed.program.items)) (fun_ext (λ x. left.tells x ∙ sym (right.tells x))) ∙ sym right.are

one_answer : (m : Assignment) (e : ModeError) (a b : Option Cast) → IsSuggested m e a → IsSuggested m e b → a ≡ b
one_answer m e a b left right = left.says ∙ ap (λ l. cast_for l e) (one_list m left.casts right.casts left.are right.are) ∙ sym right.says

each_answered : (m : Assignment) (errors : List ModeError) (answer : List (Option Cast)) (each : ModeError → Option Cast) → ((e : ModeError) → IsSuggested m e (each e)) → AreSuggested m errors answer
    → answer ≡ map each errors
each_answered m errors answer each is all =
    all.says
    ∙ ap (λ f. map f errors) (fun_ext (λ e. ap (λ l. cast_for l e) (one_list m all.casts (is e).casts all.are (is e).are) ∙ sym (is e).says))

pub suggestions : SuggestLaws
suggestions = record { one = one_answer; each = each_answered }
