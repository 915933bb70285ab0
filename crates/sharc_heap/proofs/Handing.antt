-- What a history hands out from the top lies in order.
use Rattle.sharc_heap.proofs.Imports.{◌≡◌, ℕ, ◌≤◌, ◌==◌, append_assoc, if◌then◌else◌, suc, List, [], ◌∷◌, ◌++◌, slice_index, refl, sym, ap, ◌∙◌, subst, inl, inr, arith, get_or-set_same, get_or-set_other, eq-eqb, ne_eqb, cases_eq, All-cons, AllPairs-cons, All, AllPairs, WordOp, Load, Cas, WordStep, WordEvent, word_after, words_after_step, words_after, MayFollow, LegalHistory, top_word, step_of, Granules, MovesOn, KeepsTop, HandsOut, moved_over, handed_by, handed_out, LieInOrder, TopHandsOutApart, CasHandsOut, HandedApart}

-- an operation on the top
at_top : (op : WordOp) (top found to : ℕ) (gs : List Granules) → MovesOn op → found ≡ top → LieInOrder (word_after op top) gs to → LieInOrder top (moved_over op found ++ gs) to
at_top Load top found to gs moves is rest = rest
at_top (Cas from upto) top found to gs moves is rest =
    elim (cases_eq top from) [
      | inl same ↦
          let moved : LieInOrder upto gs to = rw (eq-eqb top from same) at rest in
          rw (eq-eqb found from (is ∙ same)) (omega arith, moves, moved)
      | inr other ↦
          let stays : LieInOrder top gs to = rw (ne_eqb top from other) at rest in
          rw (ne_eqb found from (λ e. other (sym is ∙ e))) stays
    ]
at_top _ top found to gs moves is rest = absurd moves

-- an event
by_event : (opening : List ℕ) (e : WordEvent) (to : ℕ) (gs : List Granules) → MayFollow opening e → KeepsTop e → LieInOrder (slice_index (words_after_step opening e.step) top_word) gs to → LieInOrder (slice_index opening top_word) (handed_by e ++ gs) to
by_event opening e to gs may keeps rest =
    elim (cases_eq e.step.word top_word) [
      | inl same ↦
          let new : ℕ = word_after e.step.op (slice_index opening e.step.word) in
          let there : slice_index (words_after_step opening e.step) top_word ≡ word_after e.step.op (slice_index opening top_word) =
          ap (λ w. slice_index (words_after_step opening e.step) w) (sym same) ∙ get_or-set_same opening e.step.word new 0 may.on_a_word ∙ ap (λ w. word_after e.step.op (slice_index opening w)) same in
          let P = λ (top : ℕ). LieInOrder top gs to in
          rw (eq-eqb e.step.word top_word same) (at_top e.step.op (slice_index opening top_word) e.result to gs (keeps same) (may.result_is ∙ ap (slice_index opening) same) (subst P there rest))
      | inr other ↦
          let new : ℕ = word_after e.step.op (slice_index opening e.step.word) in
          let there : slice_index (words_after_step opening e.step) top_word ≡ slice_index opening top_word = get_or-set_other opening e.step.word top_word new 0 (λ is. other (sym is)) in
          let P = λ (top : ℕ). LieInOrder top gs to in
          rw (ne_eqb e.step.word top_word other) (subst P there rest)
    ]

in_order : (opening : List ℕ) (events : List WordEvent) → LegalHistory opening events → All KeepsTop events → LieInOrder (slice_index opening top_word) (handed_out events) (slice_index (words_after opening events) top_word)
in_order opening [] h keeps = omega arith
in_order opening (e ∷ es) h keeps =
    let rest : LegalHistory (words_after_step opening e.step) es = record { each = λ earlier later event is. h.each (e ∷ earlier) later event (ap (λ events. e ∷ events) is) } in
    by_event opening e (slice_index (words_after opening (e ∷ es)) top_word) (handed_out es) (h.each [] es e refl) (keeps 0 e (omega arith))
    (in_order (words_after_step opening e.step) es rest (λ k d lt. keeps (suc k) d (omega arith)))

-- what lies in order lies after its beginning, and apart
behind : (from : ℕ) (gs : List Granules) (to : ℕ) → LieInOrder from gs to → All (λ (g : Granules). from ≤ g.from) gs
behind from [] to lie = λ k d lt. absurd (omega arith)
behind from (g ∷ gs) to lie = All-cons (λ (g : Granules). from ≤ g.from) g gs lie.0 (λ k d lt. let later = behind g.to gs to lie.2 k d lt in let a = lie.0 in let b = lie.1 in omega arith)

apart : (from : ℕ) (gs : List Granules) (to : ℕ) → LieInOrder from gs to → AllPairs (λ (one later : Granules). one.to ≤ later.from) gs
apart from [] to lie = λ i j d lt within. absurd (omega arith)
apart from (g ∷ gs) to lie = AllPairs-cons (λ (one later : Granules). one.to ≤ later.from) g gs (behind g.to gs to lie.2) (apart g.to gs to lie.2)

pub top_hands_out_apart : TopHandsOutApart
top_hands_out_apart opening events legal keeps =
    let lie = in_order opening events legal keeps in
    record { in_order = lie; apart = apart (slice_index opening top_word) (handed_out events) (slice_index (words_after opening events) top_word) lie }

-- ---- two events
pub cas_hands_out : CasHandsOut
cas_hands_out event from to is found =
    let by = λ (step : WordStep) (result : ℕ). if step.word == top_word then moved_over step.op result else [] in
    ap (λ (step : WordStep). by step event.result) is ∙ ap (λ (result : ℕ). by (step_of top_word (Cas from to)) result) found ∙ here from to
  where
    here : (from to : ℕ) → (if from == from then (let g : Granules = record { from = from; to = to } in g ∷ []) else []) ≡ (let g : Granules = record { from = from; to = to } in g ∷ [])
    here from to = rw (eq-eqb from from refl)

handed_append : (xs ys : List WordEvent) → handed_out (xs ++ ys) ≡ handed_out xs ++ handed_out ys
handed_append [] ys = refl
handed_append (x ∷ xs) ys = ap (λ gs. handed_by x ++ gs) (handed_append xs ys) ∙ sym (append_assoc (handed_by x) (handed_out xs) (handed_out ys))

-- one event in the midst of others
handed_at : (xs : List WordEvent) (x : WordEvent) (ys : List WordEvent) (g : Granules) → HandsOut x g → handed_out (xs ++ x ∷ ys) ≡ handed_out xs ++ g ∷ handed_out ys
handed_at xs x ys g hands = handed_append xs (x ∷ ys) ∙ ap (λ gs. handed_out xs ++ (gs ++ handed_out ys)) hands

-- what lies at a place of a list that is in order
pub record LiesAt (from : ℕ) (g : Granules) (gs : List Granules) (to : ℕ) : Type 0 where
  pub after : from ≤ g.from
  pub some : g.from ≤ g.to
  pub rest : LieInOrder g.to gs to

lies_at : (from : ℕ) (xs : List Granules) (g : Granules) (gs : List Granules) (to : ℕ) → LieInOrder from (xs ++ g ∷ gs) to → LiesAt from g gs to
lies_at from [] g gs to lie = record { after = lie.0; some = lie.1; rest = lie.2 }
lies_at from (x ∷ xs) g gs to lie =
    let at = lies_at x.to xs g gs to lie.2 in
    let later = at.after in
    let a = lie.0 in
    let b = lie.1 in
    record { after = omega arith; some = at.some; rest = at.rest }

up_to : (from : ℕ) (gs : List Granules) (to : ℕ) → LieInOrder from gs to → from ≤ to
up_to from [] to lie = lie
up_to from (g ∷ gs) to lie = let later = up_to g.to gs to lie.2 in let a = lie.0 in let b = lie.1 in omega arith

pub handed_apart : HandedApart
handed_apart opening before between after one other earlier later legal keeps hands hands' =
    let events : List WordEvent = before ++ one ∷ (between ++ other ∷ after) in
    let top : ℕ = slice_index (words_after opening events) top_word in
    let handed : handed_out events ≡ handed_out before ++ earlier ∷ (handed_out between ++ later ∷ handed_out after) =
    handed_at before one (between ++ other ∷ after) earlier hands ∙ ap (λ gs. handed_out before ++ earlier ∷ gs) (handed_at between other after later hands') in
    let P = λ (gs : List Granules). LieInOrder (slice_index opening top_word) gs top in
    let first = lies_at (slice_index opening top_word) (handed_out before) earlier (handed_out between ++ later ∷ handed_out after) top (subst P handed (in_order opening events legal keeps)) in
    let second = lies_at earlier.to (handed_out between) later (handed_out after) top first.rest in
    record { from_opening = first.after; apart = second.after; below = up_to later.to (handed_out after) top second.rest }
