-- Which results were found up to a stage, and what is asked for there.
use Rattle.sharc_heap.proofs.{Imports.{◌≡◌, ◌≢◌, ℕ, ◌+◌, ◌<◌, ◌≤◌, List, [], ◌∷◌, ◌++◌, length, drop, refl, sym, ap, ◌∙◌, inl, inr, arith, append_assoc, if◌then◌else◌, length-append, length_push, cases_eq, cases_lt, eq-eqb, ne_eqb, le-leb, lt-leb, lt-ltb, le-ltb, Cas, NewTurn, Do, NewStage, Begins, Link, Cell, Top, Move, Count, Length, Finished, Full, NewArguments, Asks, TakesOwn, ReadsTop, MovesTop, FindsNoRoom, TakesTop, AreTops, NoneTwice, top_word, step_of, last_steps, own_steps, turn_at, granule_number, head_after, turn_of_stage, try_from, next_stage, next_head, HasBlock, OfOwn, OfTop, IsInCell, IsAtTop, IsAtStage, NewView, IsStep, IsAfter, NewBegins, NewGoesOn, NewStays}, Steps.{turn_in_cells, rest_after_cells}}

-- ---- what a stage asks for is what a New asks for
last_turn : (a : NewArguments) (results : List ℕ) (header made : ℕ) (turn : NewTurn) → HasBlock a results header made → turn ≡ turn_at (drop made (last_steps a header)) header → Asks a results turn
last_turn a results header made turn (OfOwn own is counted) asks =
    TakesOwn own (asks ∙ ap (λ h. turn_at (drop made (last_steps a h)) h) is ∙ ap (λ s. turn_at s a.head) (sym (rest_after_cells a (length results) made counted)))
last_turn a results header made turn (OfTop empty since moved fits counted) asks =
    TakesTop empty header since moved fits (asks ∙ ap (λ n. turn_at (drop n (last_steps a header)) header) (sym counted))

pub asks_at_stage : (a : NewArguments) (results : List ℕ) (stage : NewStage) → IsAtStage a results stage → Asks a results (turn_of_stage a stage)
asks_at_stage a results Begins at = absurd at
asks_at_stage a results Link at = TakesOwn at.0 (ap (λ n. turn_at (drop n (own_steps a)) a.head) (sym (ap length at.1)))
asks_at_stage a results (Cell cell) at = TakesOwn at.own (sym (turn_in_cells a (length results) cell at.counted at.within))
asks_at_stage a results Top at = ReadsTop at.0 at.1 refl
asks_at_stage a results (Move top moved) at = MovesTop at.0.empty top at.0.seen at.2 (ap (λ m. Do (step_of top_word (Cas top m))) at.1)
asks_at_stage a results (Count header) at = last_turn a results header 0 (turn_of_stage a (Count header)) at refl
asks_at_stage a results (Length header) at = last_turn a results header 1 (turn_of_stage a (Length header)) at refl
asks_at_stage a results (Finished header) at = last_turn a results header 2 (turn_of_stage a (Finished header)) at refl
asks_at_stage a results Full at = FindsNoRoom at.1.empty at.0 at.1.seen at.2 refl

-- ---- one result more
none_twice_push : (earlier : List ℕ) (top found : ℕ) → NoneTwice earlier top → top ≢ found → NoneTwice (earlier ++ top ∷ []) found
none_twice_push [] top found none other = other
none_twice_push (x ∷ []) top found none other = (none, other)
none_twice_push (x ∷ y ∷ rest) top found none other = (none.0, none_twice_push (y ∷ rest) top found none.1 other)

-- a top that was seen is tried
at_try : (a : NewArguments) (results : List ℕ) (top : ℕ) → IsAtTop a results top → IsAtStage a results (try_from a top)
at_try a results top at =
    elim (cases_lt a.end (top + a.block)) [
      | inl above ↦ rw (lt-leb (top + a.block) a.end above) (top, at, above)
      | inr fits ↦ rw (le-leb (top + a.block) a.end fits) (at, refl, fits)
    ]

-- one of the last two steps more
block_push : (a : NewArguments) (results : List ℕ) (header made found : ℕ) → HasBlock a results header made → HasBlock a (results ++ found ∷ []) header (made + 1)
block_push a results header made found (OfOwn own is counted) = OfOwn own is (let more = length_push results found in omega arith)
block_push a results header made found (OfTop empty since moved fits counted) =
    OfTop empty (since ++ found ∷ [])
    record {
      tried = moved.tried;
      tops = moved.tops;
      found = ap (λ r. r ++ found ∷ []) moved.found ∙ append_assoc moved.tried (header ∷ since) (found ∷ []);
    }
    fits (length_push since found ∙ ap (λ n. n + 1) counted)

next_cell : (a : NewArguments) (results : List ℕ) (cell found : ℕ) → IsInCell a results cell → IsAtStage a (results ++ found ∷ []) (next_stage a (Cell cell) found)
next_cell a results cell found at =
    let more = length_push results found in
    let counted = at.counted in
    let within = at.within in
    elim (cases_lt (cell + 1) a.cells) [
      | inl below ↦ rw (lt-ltb (cell + 1) a.cells below) record { own = at.own; counted = omega arith; within = below }
      | inr last ↦ rw (le-ltb (cell + 1) a.cells last) (OfOwn at.own refl (omega arith))
    ]

next_move : (a : NewArguments) (results : List ℕ) (top moved found : ℕ) → IsAtTop a results top → top + a.block ≤ a.end → IsAtStage a (results ++ found ∷ []) (next_stage a (Move top moved) found)
next_move a results top moved found at fits =
    elim (cases_eq top found) [
      | inl same ↦ rw (eq-eqb top found same) (OfTop at.empty [] record { tried = results; tops = at.seen; found = ap (λ x. results ++ x ∷ []) (sym same) } fits refl)
      | inr other ↦ rw (ne_eqb top found other) (at_try a (results ++ found ∷ []) found record {
        empty = at.empty;
        seen = record { earlier = results; tops = refl; moving = rw at.seen.tops (none_twice_push at.seen.earlier top found at.seen.moving other) };
      })
    ]

pub stage_goes_on : (a : NewArguments) (results : List ℕ) (stage : NewStage) (found : ℕ) → 1 ≤ a.cells → IsAtStage a results stage → IsStep (turn_of_stage a stage) → IsAtStage a (results ++ found ∷ []) (next_stage a stage found)
stage_goes_on a results Begins found some at step = absurd at
stage_goes_on a results Link found some at step = record { own = at.0; counted = ap (λ r. length (r ++ found ∷ [])) at.1; within = omega arith }
stage_goes_on a results (Cell cell) found some at step = next_cell a results cell found at
stage_goes_on a results Top found some at step = at_try a (results ++ found ∷ []) found record { empty = at.0; seen = record { earlier = []; tops = ap (λ r. r ++ found ∷ []) at.1; moving = tt } }
stage_goes_on a results (Move top moved) found some at step = next_move a results top moved found at.0 at.2
stage_goes_on a results (Count header) found some at step = block_push a results header 0 found at
stage_goes_on a results (Length header) found some at step = block_push a results header 1 found at
stage_goes_on a results (Finished header) found some at step = absurd step
stage_goes_on a results Full found some at step = absurd step

-- ---- the head
head_after_push : (a : NewArguments) (results : List ℕ) (found : ℕ) → 0 < length results → head_after a (results ++ found ∷ []) ≡ head_after a results
head_after_push a [] found some = absurd (omega arith)
head_after_push a (link ∷ rest) found some = refl

tops_some : (results : List ℕ) (top : ℕ) → AreTops results top → 0 < length results
tops_some results top tops = let e = ap length tops.tops ∙ length_push tops.earlier top in omega arith

block_some : (a : NewArguments) (results : List ℕ) (header made : ℕ) → HasBlock a results header made → 0 < length results
block_some a results header made (OfOwn own is counted) = omega arith
block_some a results header made (OfTop empty since moved fits counted) = let e = ap length moved.found ∙ length-append moved.tried (header ∷ since) in omega arith

pub head_goes_on : (a : NewArguments) (results : List ℕ) (stage : NewStage) (head found : ℕ) → IsAtStage a results stage → head ≡ head_after a results → next_head a stage head found ≡ head_after a (results ++ found ∷ [])
head_goes_on a results Begins head found at is = absurd at
head_goes_on a results Link head found at is = sym (ap (λ r. head_after a (r ++ found ∷ [])) at.1 ∙ ap (λ b. if b then 0 else granule_number a found) (ne_eqb a.head 0 at.0))
head_goes_on a results (Cell cell) head found at is = is ∙ sym (head_after_push a results found (let c = at.counted in omega arith))
head_goes_on a results Top head found at is =
    is ∙ ap (head_after a) at.1 ∙ at.0 ∙ sym (ap (λ r. head_after a (r ++ found ∷ [])) at.1 ∙ ap (λ b. if b then 0 else granule_number a found) (eq-eqb a.head 0 at.0))
head_goes_on a results (Move top moved) head found at is = is ∙ sym (head_after_push a results found (tops_some results top at.0.seen))
head_goes_on a results (Count header) head found at is = is ∙ sym (head_after_push a results found (block_some a results header 0 at))
head_goes_on a results (Length header) head found at is = is ∙ sym (head_after_push a results found (block_some a results header 1 at))
head_goes_on a results (Finished header) head found at is = is ∙ sym (head_after_push a results found (block_some a results header 2 at))
head_goes_on a results Full head found at is = is ∙ sym (head_after_push a results found (tops_some results at.0 at.1.seen))

-- ---- no step is left
pub stage_stays : (a : NewArguments) (results : List ℕ) (stage : NewStage) (found : ℕ) → IsAtStage a results stage → ¬ IsStep (turn_of_stage a stage) → next_stage a stage found ≡ stage
stage_stays a results Begins found at none = absurd at
stage_stays a results (Finished header) found at none = refl
stage_stays a results Full found at none = refl
stage_stays a results _ found at none = absurd (none tt)

pub head_stays : (a : NewArguments) (results : List ℕ) (stage : NewStage) (head found : ℕ) → IsAtStage a results stage → ¬ IsStep (turn_of_stage a stage) → next_head a stage head found ≡ head
head_stays a results Begins head found at none = absurd at
head_stays a results Link head found at none = absurd (none tt)
head_stays a results _ head found at none = refl

-- ---- turn by turn
pub new_begins : NewBegins
new_begins a found =
    elim (cases_eq a.head 0) [
      | inl empty ↦ rw (eq-eqb a.head 0 empty) (after_none a Top found (empty, refl))
      | inr some ↦ rw (ne_eqb a.head 0 some) (after_none a Link found (some, refl))
    ]
  where
    after_none : (a : NewArguments) (stage : NewStage) (found : ℕ) → IsAtStage a [] stage → IsAfter record { arguments = a; stage = stage; head = a.head } []
    after_none a stage found at = record { asks = asks_at_stage a [] stage at; head = refl; at = at }

pub new_goes_on : NewGoesOn
new_goes_on state results found some after step =
    let at = stage_goes_on state.arguments results state.stage found some after.at step in
    record {
      asks = asks_at_stage state.arguments (results ++ found ∷ []) (next_stage state.arguments state.stage found) at;
      head = head_goes_on state.arguments results state.stage state.head found after.at after.head;
      at = at;
    }

pub new_stays : NewStays
new_stays state results found after none =
    let stage = stage_stays state.arguments results state.stage found after.at none in
    let head = head_stays state.arguments results state.stage state.head found after.at none in
    ap (λ (s : NewStage). let v : NewView = record { arguments = state.arguments; stage = s; head = next_head state.arguments state.stage state.head found } in v) stage
    ∙ ap (λ (h : ℕ). let v : NewView = record { arguments = state.arguments; stage = state.stage; head = h } in v) head
