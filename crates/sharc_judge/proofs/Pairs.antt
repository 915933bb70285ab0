-- Tests at each place of a list.
use Rattle.std.proofs.{Common.{◌≡◌, Bool, false, List, [], ◌∷◌, ◌++◌, refl, ap, sym, ◌∙◌, append_assoc, append-nil}, lemmas.Bool.{or_parts as neither, or_from as none_of}}
use Rattle.sharc_tree.specs.declared.event.SourceEvent.{SourceEvent}
use Rattle.sharc_meaning.specs.Events.{Stands}
use Rattle.sharc_judge.specs.Deciding.{any_place}

pub at_each : (p : List SourceEvent → SourceEvent → Bool) (before l : List SourceEvent) → any_place p before l ≡ false
    → (b : List SourceEvent) (e : SourceEvent) (a : List SourceEvent) → Stands l b e a → p (before ++ b) e ≡ false
at_each p before (d ∷ l) h [] e a is =
    let same : d ≡ e = cc in
    ap (λ z. p z e) (append-nil before) ∙ ap (p before) (sym same) ∙ (neither (p before d) (any_place p (before ++ d ∷ []) l) h).0
at_each p before (d ∷ l) h (c ∷ b) e a is =
    let same : d ≡ c = cc in
    let tails : l ≡ b ++ e ∷ a = cc in
    ap (λ z. p (before ++ z ∷ b) e) (sym same) ∙ ap (λ z. p z e) (sym (append_assoc before (d ∷ []) b)) ∙ at_each p (before ++ d ∷ []) l (neither (p before d) (any_place p (before ++ d ∷ []) l) h).1 b e a tails
at_each p before [] h [] e a is = absurd (cc)
at_each p before [] h (c ∷ b) e a is = absurd (cc)

pub from_each : (p : List SourceEvent → SourceEvent → Bool) (before l : List SourceEvent)
    → ((b : List SourceEvent) (e : SourceEvent) (a : List SourceEvent) → Stands l b e a → p (before ++ b) e ≡ false) → any_place p before l ≡ false
from_each p before [] h = refl
from_each p before (d ∷ l) h =
    none_of (p before d) (any_place p (before ++ d ∷ []) l) (ap (λ z. p z d) (sym (append-nil before)) ∙ h [] d l refl)
    (from_each p (before ++ d ∷ []) l (λ b e a is. ap (λ z. p z e) (append_assoc before (d ∷ []) b) ∙ h (d ∷ b) e a (ap (λ z. d ∷ z) is)))
