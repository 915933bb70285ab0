-- What following a link, a round and all rounds make of the ranks.
use Rattle.sharc_graph.proofs.Imports.{◌≡◌, ℕ, zero, suc, ◌+◌, ◌<◌, ◌≤◌, ◌⊎◌, min, Bool, true, false, cond, ◌&&◌, List, [], ◌∷◌, length, map, Option, Some, None, refl, sym, ap, ◌∙◌, subst, inl, inr, arith, cases_eq, cases_lt, cases_Bool, and_parts, and_cases, eq-eqb, eqb-true, false≢true, length-set, get_or-set_same, get_or-set_other, length-map, sum_by-set, count_by-le-length, nat_eq, set as slice_set, PositionKind, Root, Unwritten, Dynamic, Private, Other, Link, Flow, flow_of, place_at, is_unwritten, Ranks, rank_in, link_at, first_rank, rank_by, rank_for, is_none, is_rank, is_next, ranks_behind, IsFound, IsServed, AreRanks, AreUpTo, unranked, IsLowest, IsSome}

-- ---- tests
three_true : (a b c : Bool) → (a && (b && c)) ≡ true → (a ≡ true) × (b ≡ true) × (c ≡ true)
three_true true true true is = (refl, refl, refl)
three_true true true false is = absurd (false≢true is)
three_true true false c is = absurd (false≢true is)
three_true false b c is = absurd (false≢true is)

third_false : (a b c : Bool) → (a && (b && c)) ≡ false → a ≡ true → b ≡ true → c ≡ false
third_false true true c is first second = is
third_false true false c is first second = absurd (false≢true second)
third_false false b c is first second = absurd (false≢true first)

pub rank_is : (o : Option ℕ) (rank : ℕ) → is_rank o rank ≡ true → o ≡ Some rank
rank_is None rank is = absurd (false≢true is)
rank_is (Some r) rank is = ap (λ n. Some n) (eqb-true r rank is)

pub is_the_rank : (o : Option ℕ) (rank : ℕ) → o ≡ Some rank → is_rank o rank ≡ true
is_the_rank o rank is = ap (λ x. is_rank x rank) is ∙ eq-eqb rank rank refl

none_is : (o : Option ℕ) → is_none o ≡ true → o ≡ None
none_is None is = refl
none_is (Some r) is = absurd (false≢true is)

some_is : (o : Option ℕ) → is_none o ≡ false → (rank : ℕ) × (o ≡ Some rank)
some_is None is = absurd (false≢true (sym is))
some_is (Some r) is = (r, refl)

pub none_some : (o : Option ℕ) (rank : ℕ) → o ≡ None → o ≡ Some rank → ⊥
none_some o rank none some = false≢true (sym (ap is_none some) ∙ ap is_none none)

pub same_rank : (o : Option ℕ) (a b : ℕ) → o ≡ Some a → o ≡ Some b → a ≡ b
same_rank o a b first second = let same : Some a ≡ Some b = sym first ∙ second in cc

-- ---- the rank for a link
by_kept : (place : PositionKind) (o new : Option ℕ) (below : Bool) (rank : ℕ) → ((r : ℕ) → o ≡ Some r → new ≡ Some r) → rank_by place o below ≡ Some rank → rank_by place new below ≡ Some rank
by_kept Unwritten o new below rank kept is = kept rank is
by_kept _ o new below rank kept is = is

by_back : (place : PositionKind) (o new : Option ℕ) (below : Bool) (rank : ℕ) (T : ℕ → Type 0) → ((r : ℕ) → new ≡ Some r → (o ≡ Some r) ⊎ T r) → rank_by place new below ≡ Some rank → (rank_by place o below ≡ Some rank) ⊎ T rank
by_back Unwritten o new below rank T back is = back rank is
by_back _ o new below rank T back is = inl is

-- ---- one position more
module _ (f : Flow) (ranks : Ranks) (i round : ℕ) (so_far : AreRanks f ranks round i) (inside : i < length f.links) (within : (link_at f.links i).edge.to < length f.places) where
  module _ (from : rank_for f.places ranks (link_at f.links i) ≡ Some round) (unwritten : is_unwritten (place_at f.places (link_at f.links i).edge.to) ≡ true) (none : rank_in ranks (link_at f.links i).edge.to ≡ None) where
    abbrev new : Ranks
    new = slice_set ranks (link_at f.links i).edge.to (Some (round + 1))

    here : rank_in new (link_at f.links i).edge.to ≡ Some (round + 1)
    here = let size = so_far.size in get_or-set_same ranks (link_at f.links i).edge.to (Some (round + 1)) None (omega arith)

    elsewhere : (p : ℕ) → (p ≡ (link_at f.links i).edge.to → ⊥) → rank_in new p ≡ rank_in ranks p
    elsewhere p other = get_or-set_other ranks (link_at f.links i).edge.to p (Some (round + 1)) None other

    kept : (p r : ℕ) → rank_in ranks p ≡ Some r → rank_in new p ≡ Some r
    kept p r is =
        elim (cases_eq p (link_at f.links i).edge.to) [
          | inl same ↦ absurd (none_some (rank_in ranks (link_at f.links i).edge.to) r none (ap (rank_in ranks) (sym same) ∙ is))
          | inr other ↦ elsewhere p other ∙ is
        ]

    back : (p r : ℕ) → rank_in new p ≡ Some r → (rank_in ranks p ≡ Some r) ⊎ ((p ≡ (link_at f.links i).edge.to) × (r ≡ round + 1))
    back p r is =
        elim (cases_eq p (link_at f.links i).edge.to) [
          | inl same ↦ inr (same, same_rank (rank_in new p) r (round + 1) is (ap (rank_in new) same ∙ here))
          | inr other ↦ inl (sym (elsewhere p other) ∙ is)
        ]

    for_kept : (link : Link) (r : ℕ) → rank_for f.places ranks link ≡ Some r → rank_for f.places new link ≡ Some r
    for_kept link r is = by_kept (place_at f.places link.edge.from) (rank_in ranks link.edge.from) (rank_in new link.edge.from) link.below r (kept link.edge.from) is

    found_kept : (p r : ℕ) → IsFound f ranks p r → IsFound f new p r
    found_kept p zero found = found
    found_kept p (suc r) found = (found.0, record { link = found.1.link; within = found.1.within; to = found.1.to; from = for_kept (link_at f.links found.1.link) r found.1.from })

    found_here : (p r : ℕ) → p ≡ (link_at f.links i).edge.to → r ≡ suc round → IsFound f new p r
    found_here p zero same is = absurd (omega arith)
    found_here p (suc r) same is =
        let same_round : round ≡ r = omega arith in
        (ap (λ n. is_unwritten (place_at f.places n)) same ∙ unwritten, record { link = i; within = inside; to = sym same; from = for_kept (link_at f.links i) r (from ∙ ap (λ n. Some n) same_round) })

    served_kept : (link : Link) (r : ℕ) → r ≤ round → IsServed f ranks link r → IsServed f new link r
    served_kept link r low served = λ is free.
        elim (by_back (place_at f.places link.edge.from) (rank_in ranks link.edge.from) (rank_in new link.edge.from) link.below r (λ n. (link.edge.from ≡ (link_at f.links i).edge.to) × (n ≡ round + 1)) (back link.edge.from) is) [
          | inl before ↦ let has = served before free in (has.0, kept link.edge.to has.0 has.1, has.2)
          | inr added ↦ let high = added.1 in absurd (omega arith)
        ]

    served_here : (j : ℕ) → j ≡ i → IsServed f new (link_at f.links j) round
    served_here j same = λ is free. (round + 1, ap (λ n. rank_in new (link_at f.links n).edge.to) same ∙ here, omega arith)

    pub added : AreRanks f new round (i + 1)
    added =
        record {
          size = length-set ranks (link_at f.links i).edge.to (Some (round + 1)) ∙ so_far.size;
          roots = λ p is. kept p 0 (so_far.roots p is);
          found = λ p r is. elim (back p r is) [
            | inl before ↦ found_kept p r (so_far.found p r before)
            | inr at ↦ found_here p r at.0 (at.1 ∙ next round)
          ];
          low = λ p r is. elim (back p r is) [
            | inl before ↦ so_far.low p r before
            | inr at ↦ let high = at.1 in omega arith
          ];
          before = λ j r within low. served_kept (link_at f.links j) r (omega arith) (so_far.before j r within low);
          now = λ j within below. elim (cases_lt j i) [
            | inl less ↦ served_kept (link_at f.links j) round (omega arith) (so_far.now j within less)
            | inr more ↦ served_here j (omega arith)
          ];
        }
      where
        next : (n : ℕ) → n + 1 ≡ suc n
        next n = omega arith

    pub fewer : unranked new + 1 ≡ unranked ranks
    fewer =
        let size = so_far.size in
        let at : (link_at f.links i).edge.to < length ranks = omega arith in
        let counts = sum_by-set (λ x. cond {A = ℕ} (is_none x) 1 0) ranks (link_at f.links i).edge.to (Some (round + 1)) None at in
        let was : cond {A = ℕ} (is_none (rank_in ranks (link_at f.links i).edge.to)) 1 0 ≡ 1 = ap (λ x. cond {A = ℕ} (is_none x) 1 0) none in
        omega arith

  -- ---- and none more
  pub passed : is_next f.places ranks (link_at f.links i) round ≡ false → AreRanks f ranks round (i + 1)
  passed fails =
      record {
        size = so_far.size;
        roots = so_far.roots;
        found = so_far.found;
        low = so_far.low;
        before = so_far.before;
        now = λ j within below. elim (cases_lt j i) [
          | inl less ↦ so_far.now j within less
          | inr more ↦ let same : i ≡ j = omega arith in subst (λ n. IsServed f ranks (link_at f.links n) round) same served
        ];
      }
    where
      served : IsServed f ranks (link_at f.links i) round
      served is free =
          let rank = rank_in ranks (link_at f.links i).edge.to in
          let has = some_is rank (third_false (is_rank (rank_for f.places ranks (link_at f.links i)) round) (is_unwritten (place_at f.places (link_at f.links i).edge.to)) (is_none rank) fails (is_the_rank (rank_for f.places ranks (link_at f.links i)) round is) free) in
          (has.0, has.1, so_far.low (link_at f.links i).edge.to has.0 has.1)

  -- ---- what following the link leaves
  pub stepped : (ranks_then : Ranks) (more : Bool) → ranks_then ≡ ranks_behind f.places ranks (link_at f.links i) round → more ≡ is_next f.places ranks (link_at f.links i) round
      → AreRanks f ranks_then round (i + 1) × (more ≡ true → unranked ranks_then < unranked ranks) × (more ≡ false → ranks_then ≡ ranks)
  stepped ranks_then more is found =
      let link = link_at f.links i in
      elim (cases_Bool (is_next f.places ranks link round)) [
        | inl passes ↦
            let tests = three_true (is_rank (rank_for f.places ranks link) round) (is_unwritten (place_at f.places link.edge.to)) (is_none (rank_in ranks link.edge.to)) passes in
            let from = rank_is (rank_for f.places ranks link) round tests.0 in
            let none = none_is (rank_in ranks link.edge.to) tests.2 in
            let set_is : ranks_then ≡ slice_set ranks link.edge.to (Some (round + 1)) = is ∙ ap (λ b. cond b (slice_set ranks link.edge.to (Some (round + 1))) ranks) passes in
            let less = fewer from tests.1 none in (
              subst (λ rs. AreRanks f rs round (i + 1)) (sym set_is) (added from tests.1 none),
              (λ _. subst (λ rs. unranked rs < unranked ranks) (sym set_is) (omega arith)),
              (λ no. absurd (false≢true (sym no ∙ found ∙ passes))),
            )
        | inr fails ↦
            let same : ranks_then ≡ ranks = is ∙ ap (λ b. cond b (slice_set ranks link.edge.to (Some (round + 1))) ranks) fails in
            (subst (λ rs. AreRanks f rs round (i + 1)) (sym same) (passed fails), (λ yes. absurd (false≢true (sym fails ∙ sym found ∙ yes))), (λ _. same))
      ]

pub fewer_still : (new then first : Ranks) (more : Bool) → unranked new < unranked then → (more ≡ true → unranked then < unranked first) → (more ≡ false → then ≡ first) → unranked new < unranked first
fewer_still new then first true less fewer same = let before = fewer refl in omega arith
fewer_still new then first false less fewer same = subst (λ rs. unranked new < unranked rs) (same refl) less

-- ---- rounds
pub begun : (places : List PositionKind) (links : List Link) (ranks : Ranks) → ranks ≡ map first_rank places → AreRanks (flow_of places links) ranks 0 0 × AreUpTo ranks 0 × (unranked ranks ≤ length places)
begun places links ranks is =
    let count = count_by-le-length is_none ranks in
    let size : length ranks ≡ length places = ap length is ∙ length-map places first_rank in (
      record {
        size = size;
        roots = λ p root. ap (λ rs. rank_in rs p) is ∙ first_is places p ∙ ap first_rank root;
        found = λ p r at. found p r (sym (first_is places p) ∙ ap (λ rs. rank_in rs p) (sym is) ∙ at);
        low = λ p r at. let zero_is = first_zero (place_at places p) r (sym (first_is places p) ∙ ap (λ rs. rank_in rs p) (sym is) ∙ at) in omega arith;
        before = λ j r within low. absurd (omega arith);
        now = λ j within below. absurd (omega arith);
      },
      (λ p r at. let zero_is = first_zero (place_at places p) r (sym (first_is places p) ∙ ap (λ rs. rank_in rs p) (sym is) ∙ at) in omega arith),
      omega arith,
    )
  where
    first_is : (places : List PositionKind) (p : ℕ) → rank_in (map first_rank places) p ≡ first_rank (place_at places p)
    first_is [] p = refl
    first_is (x ∷ rest) zero = refl
    first_is (x ∷ rest) (suc p) = first_is rest p

    first_zero : (place : PositionKind) (r : ℕ) → first_rank place ≡ Some r → r ≡ 0
    first_zero Root r at = same_rank (Some 0) r 0 at refl
    first_zero _ r at = absurd (none_some None r refl at)

    first_root : (place : PositionKind) (r : ℕ) → first_rank place ≡ Some r → place ≡ Root
    first_root Root r at = refl
    first_root _ r at = absurd (none_some None r refl at)

    found : (p r : ℕ) → first_rank (place_at places p) ≡ Some r → IsFound (flow_of places links) ranks p r
    found p zero at = first_root (place_at places p) 0 at
    found p (suc r) at = let zero_is = first_zero (place_at places p) (suc r) at in absurd (omega arith)

-- ---- the lowest so far
-- the link leads to the position, from one that is of the rank below for it
abbrev leads_at : Flow → Ranks → ℕ → (position below : ℕ) → Bool
leads_at f ranks i position below = nat_eq (link_at f.links i).edge.to position && is_rank (rank_for f.places ranks (link_at f.links i)) below

some_more : (f : Flow) (ranks : Ranks) (i p below lowest none : ℕ) → IsSome f ranks i p below lowest none → IsSome f ranks (i + 1) p below lowest none
some_more f ranks i p below lowest none (inl is) = inl is
some_more f ranks i p below lowest none (inr has) = let inside = has.1 in inr (has.0, omega arith, has.2, has.3, has.4)

pub lower : (f : Flow) (ranks : Ranks) (i p below old new none : ℕ) → leads_at f ranks i p below ≡ true → new ≡ min old (link_at f.links i).edge.from → IsLowest f ranks i p below old → IsSome f ranks i p below old none
    → IsLowest f ranks (i + 1) p below new × IsSome f ranks (i + 1) p below new none
lower f ranks i p below old new none leads is low some =
    let tests = and_parts (nat_eq (link_at f.links i).edge.to p) (is_rank (rank_for f.places ranks (link_at f.links i)) below) leads in (
      (λ j inside to rank. elim (cases_lt j i) [
        | inl less ↦ let lower = low j less to rank in omega arith
        | inr more ↦ let same : i ≡ j = omega arith in subst (λ n. new ≤ (link_at f.links n).edge.from) same (omega arith)
      ]),
      (elim (cases_lt (link_at f.links i).edge.from old) [
        | inl less ↦ inr (i, omega arith, eqb-true (link_at f.links i).edge.to p tests.0, rank_is (rank_for f.places ranks (link_at f.links i)) below tests.1, omega arith)
        | inr more ↦ let same : old ≡ new = omega arith in subst (λ n. IsSome f ranks (i + 1) p below n none) same (some_more f ranks i p below old none some)
      ]),
    )

pub no_lower : (f : Flow) (ranks : Ranks) (i p below old new none : ℕ) → leads_at f ranks i p below ≡ false → new ≡ old → IsLowest f ranks i p below old → IsSome f ranks i p below old none
    → IsLowest f ranks (i + 1) p below new × IsSome f ranks (i + 1) p below new none
no_lower f ranks i p below old new none fails is low some = (
  (λ j inside to rank. elim (cases_lt j i) [
    | inl less ↦ let lower = low j less to rank in omega arith
    | inr more ↦ let same : j ≡ i = omega arith in absurd (no_lead (ap (λ n. (link_at f.links n).edge.to) (sym same) ∙ to) (ap (λ n. rank_for f.places ranks (link_at f.links n)) (sym same) ∙ rank))
  ]),
  subst (λ n. IsSome f ranks (i + 1) p below n none) (sym is) (some_more f ranks i p below old none some),
)
  where
    no_lead : (link_at f.links i).edge.to ≡ p → rank_for f.places ranks (link_at f.links i) ≡ Some below → ⊥
    no_lead to rank =
        elim (and_cases (nat_eq (link_at f.links i).edge.to p) (is_rank (rank_for f.places ranks (link_at f.links i)) below) fails) [
          | inl other ↦ false≢true (sym other ∙ eq-eqb (link_at f.links i).edge.to p to)
          | inr other ↦ false≢true (sym other ∙ is_the_rank (rank_for f.places ranks (link_at f.links i)) below rank)
        ]
