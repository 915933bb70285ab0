-- The inferred positions are closed under the links, and are the least that are.
use Rattle.sharc_graph.proofs.Imports.{◌≡◌, ℕ, List, [], ◌∷◌, ◌++◌, refl, sym, subst, inl, inr, NodeFinding, Apart, Source, Behind, finding_at, last_of, Flow, IsUnwritten, IsOrigin, IsFirstFor, HasLink, IsEqual, FollowLinks, FlowsTo, IsInferred, AreInferred, IsDynamic, IsClosed}

module _ (f : Flow) where
  -- ---- one edge more
  follow_more : (p : ℕ) (rest : List ℕ) (q : ℕ) → FollowLinks f p rest → HasLink f (last_of p rest) q → IsUnwritten f q → FollowLinks f p (rest ++ q ∷ [])
  follow_more p [] q follow edge unwritten = (edge, unwritten, tt)
  follow_more p (x ∷ rest) q follow edge unwritten = (follow.0, follow.1, follow_more x rest q follow.2 edge unwritten)

  last_more : (p : ℕ) (rest : List ℕ) (q : ℕ) → last_of p (rest ++ q ∷ []) ≡ q
  last_more p [] q = refl
  last_more p (x ∷ rest) q = last_more x rest q

  pub path_more : (first : ℕ) (rest : List ℕ) (p q : ℕ) → FlowsTo f first rest p → HasLink f p q → IsUnwritten f q → FlowsTo f first (rest ++ q ∷ []) q
  path_more first [] p q path edge unwritten =
      let here = subst (λ x. HasLink f x q) (sym path.ends) edge in
      record { begins = inl (path.begins, here); follow = (here, unwritten, tt); ends = refl }
  path_more first (x ∷ rest) p q path edge unwritten =
      record {
        begins = path.begins;
        follow = follow_more first (x ∷ rest) q path.follow (subst (λ y. HasLink f y q) (sym path.ends) edge) unwritten;
        ends = last_more first (x ∷ rest) q;
      }

  pub edge_of_first : (p q : ℕ) → IsFirstFor f p q → HasLink f p q
  edge_of_first p q (inl has) = has.1
  edge_of_first p q (inr has) = inl has.1

  pub enough : IsClosed f (IsDynamic f)
  enough =
      record {
        roots = λ p source unwritten. record { unwritten = unwritten; first = p; rest = []; path = record { begins = source; follow = tt; ends = refl } };
        written = λ p q leads unwritten. record { unwritten = unwritten; first = p; rest = q ∷ []; path = record { begins = leads; follow = (edge_of_first p q leads, unwritten, tt); ends = refl } };
        onward = λ p q has free edge unwritten. record { unwritten = unwritten; first = has.first; rest = has.rest ++ q ∷ []; path = path_more has.first has.rest p q has.path edge unwritten };
      }

  -- ---- no others
  module _ (Among : ℕ → Type 0) (closed : IsClosed f Among) where
    along : (p : ℕ) (rest : List ℕ) → Among p → IsUnwritten f p → FollowLinks f p rest → Among (last_of p rest)
    along p [] has unwritten follow = has
    along p (q ∷ rest) has unwritten follow = along q rest (closed.onward p q has unwritten follow.0 follow.1) follow.1 follow.2

    reached : (first : ℕ) (rest : List ℕ) (p : ℕ) → IsUnwritten f p → FlowsTo f first rest p → Among p
    reached first [] p unwritten path = closed.roots p (subst (IsOrigin f) path.ends path.begins) unwritten
    reached first (q ∷ rest) p unwritten path = subst Among path.ends (along q rest (closed.written first q path.begins path.follow.1) path.follow.1 path.follow.2)

    pub among : (p : ℕ) → IsDynamic f p → Among p
    among p has = reached has.first has.rest p has.unwritten has.path

  pub agree : (a b : ℕ) → IsEqual f a b → IsUnwritten f a → IsUnwritten f b → IsDynamic f a → IsDynamic f b
  agree a b equal left right has = enough.onward a b has left (inr equal) right

  -- ---- what is found
  none_apart : (p : ℕ) (finding : NodeFinding) → IsInferred f p finding → finding ≡ Apart → IsDynamic f p → ⊥
  none_apart p finding found is has = subst (IsInferred f p) is found has.first has.rest has.path

  some_behind : (p : ℕ) (finding : NodeFinding) → IsUnwritten f p → IsInferred f p finding → (finding ≡ Apart → ⊥) → IsDynamic f p
  some_behind p Apart unwritten found not = absurd (not refl)
  some_behind p Source unwritten found not = enough.roots p found unwritten
  some_behind p (Behind rank reason) unwritten found not = record { unwritten = unwritten; first = found.0.first; rest = found.0.rest; path = found.0.path }

  pub told : (findings : List NodeFinding) → AreInferred f findings → (p : ℕ) → IsUnwritten f p → (finding_at findings p ≡ Apart → IsDynamic f p → ⊥) × ((finding_at findings p ≡ Apart → ⊥) → IsDynamic f p)
  told findings are p unwritten =
      let found = are.each p unwritten in
      (none_apart p (finding_at findings p) found, some_behind p (finding_at findings p) unwritten found)
