-- What is found of a position is one.
use Rattle.sharc_infer_laws.proofs.Imports.{◌≡◌, ℕ, [], refl, ap, sym, ◌∙◌, subst, arith, NodeFinding, Apart, Source, Behind, Flow, IsOrigin, FlowsTo, IsInferredRank, IsRankFor, IsInferredReason, IsInferred}

module _ (f : Flow) where
  -- a source leads to itself
  itself : (p : ℕ) → IsOrigin f p → FlowsTo f p [] p
  itself p source = record { begins = source; follow = tt; ends = refl }

  no_source : (p rank reason : ℕ) → IsOrigin f p → IsInferredRank f p rank → IsInferredReason f p rank reason → ⊥
  no_source p rank reason source is why =
      let low = is.least p [] (itself p source) in
      let one = why.one_below in
      omega (arith, low, one)

  one_rank : (p x y : ℕ) → IsInferredRank f p x → IsInferredRank f p y → x ≡ y
  one_rank p x y a b =
      let low = a.least b.first b.rest b.path in
      let high = b.least a.first a.rest a.path in
      let left = a.edges in
      let right = b.edges in
      omega (arith, low, high, left, right)

  one_reason : (p rank x y : ℕ) → IsInferredReason f p rank x → IsInferredReason f p rank y → x ≡ y
  one_reason p rank x y a b =
      let i = a.one_below in
      let j = b.one_below in
      let same : b.below ≡ a.below = omega (arith, i, j) in
      let low = a.lowest y (subst (λ (n : ℕ). IsRankFor f y p n) same b.before) in
      let high = b.lowest x (subst (λ (n : ℕ). IsRankFor f x p n) (sym same) a.before) in
      omega (arith, low, high)

  pub one_finding : (p : ℕ) (a b : NodeFinding) → IsInferred f p a → IsInferred f p b → a ≡ b
  one_finding p Apart Apart l r = refl
  one_finding p Apart Source l r = absurd (l p [] (itself p r))
  one_finding p Apart (Behind rank reason) l r = absurd (l r.0.first r.0.rest r.0.path)
  one_finding p Source Apart l r = absurd (r p [] (itself p l))
  one_finding p Source Source l r = refl
  one_finding p Source (Behind rank reason) l r = absurd (no_source p rank reason l r.0 r.1)
  one_finding p (Behind rank reason) Apart l r = absurd (r l.0.first l.0.rest l.0.path)
  one_finding p (Behind rank reason) Source l r = absurd (no_source p rank reason r l.0 l.1)
  one_finding p (Behind x s) (Behind y t) l r =
      let same = one_rank p x y l.0 r.0 in
      let why = one_reason p y s t (subst (λ (n : ℕ). IsInferredReason f p n s) same l.1) r.1 in
      ap (λ (n : ℕ). Behind n s) same ∙ ap (λ (n : ℕ). Behind y n) why
