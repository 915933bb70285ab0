-- Rules, one event more.
use Rattle.sharc_audit.proofs.Imports.{◌≡◌, true, false, List, [], ◌∷◌, ◌++◌, Option, Some, None, refl, ap, sym, ◌∙◌, SourceEvent, Access, access_by, Obeys, until_return, Return, Rule, breaks_with, breaks_by, Holds, IsLowestBroken, RuleLaws, AreUnbroken, IsLowestAt}

module _ (laws : RuleLaws) (R : List SourceEvent) (e : SourceEvent) where
  pub holds_more : (rule : Rule) → Obeys R until_return → breaks_by rule Return R e ≡ false → Holds (R ++ e ∷ []) until_return rule
  holds_more rule o h = (laws.unbroken rule Return (R ++ e ∷ [])).0 (laws.more rule Return R e ((laws.unbroken rule Return R).1 ((laws.each R until_return).1 o rule)) h)

  pub obeys_more : Obeys R until_return → ((rule : Rule) → breaks_by rule Return R e ≡ false) → Obeys (R ++ e ∷ []) until_return
  obeys_more o h = (laws.each (R ++ e ∷ []) until_return).0 (λ rule. holds_more rule o (h rule))

  pub broken_last : (rule : Rule) → breaks_by rule Return R e ≡ true → Holds (R ++ e ∷ []) until_return rule → ⊥
  broken_last rule h holds = by_access (access_by e.act) refl
    where
      by_access : (o : Option Access) → access_by e.act ≡ o → ⊥
      by_access None i = let z : true ≡ false = sym h ∙ ap (breaks_with rule Return R e.thread) i in absurd (cc)
      by_access (Some a) i =
          let z : true ≡ false = sym h ∙ ap (breaks_with rule Return R e.thread) i ∙ (laws.unbroken rule Return (R ++ e ∷ [])).1 holds R e [] a refl i in
          absurd (cc)

  pub lowest_broken_last : (rule : Rule) → Obeys R until_return → IsLowestAt R e (Some rule) → IsLowestBroken (R ++ e ∷ []) until_return rule
  lowest_broken_last rule o h = record { broken = broken_last rule h.0; lower = λ other less. holds_more other o (h.1 other less) }

  pub broken_is : (rule : Rule) → IsLowestAt R e (Some rule) → Obeys (R ++ e ∷ []) until_return → ⊥
  broken_is rule h o = broken_last rule h.0 ((laws.each (R ++ e ∷ []) until_return).1 o rule)

pub unbroken_so : RuleLaws → (R : List SourceEvent) → Obeys R until_return → AreUnbroken R
unbroken_so laws R o = λ rule. (laws.unbroken rule Return R).1 ((laws.each R until_return).1 o rule)
