-- A New asks for one turn, and what follows from it.
use Rattle.sharc_heap.proofs.{Imports.{◌≡◌, ℕ, ◌+◌, ◌-◌, ◌≤◌, zero, suc, List, [], ◌∷◌, length, drop, refl, sym, ap, ◌∙◌, arith, inl, inr, subst, cases_lt, WordStep, WordOp, Load, Swap, Cas, NewTurn, Do, Made, HeapFull, NewArguments, Asks, TakesOwn, ReadsTop, MovesTop, FindsNoRoom, TakesTop, AreTops, HasMoved, top_word, step_of, last_steps, own_steps, turn_at, AsksOneTurn, HasNoRoom, HeapIsFullWithoutRoom, MovesByOneBlock, TopMovesByOneBlock, OwnListEnds, TopEnds, OwnList, MovedTop, MadeIsItsBlock}, Steps.{turn_in_cells, rest_after_cells}, Tops.{moved_is_not_trying, moved_once, tops_once, tops_are_some, moved_is_some}, Aims.same_step}

tops_of_nothing : (results : List ℕ) (top : ℕ) → results ≡ [] → AreTops results top → ⊥
tops_of_nothing results top none tops = let P = λ (r : List ℕ). AreTops r top in tops_are_some top (subst P none tops)

moved_of_nothing : (results : List ℕ) (h : ℕ) (since : List ℕ) → results ≡ [] → HasMoved results h since → ⊥
moved_of_nothing results h since none moved = let P = λ (r : List ℕ). HasMoved r h since in moved_is_some h since (subst P none moved)

pub asks_one_turn : AsksOneTurn
asks_one_turn a results turn other (TakesOwn own is) (TakesOwn own' is') = is ∙ sym is'
asks_one_turn a results turn other (TakesOwn own is) (ReadsTop empty none is') = absurd (own empty)
asks_one_turn a results turn other (TakesOwn own is) (MovesTop empty top seen fits is') = absurd (own empty)
asks_one_turn a results turn other (TakesOwn own is) (FindsNoRoom empty top seen past is') = absurd (own empty)
asks_one_turn a results turn other (TakesOwn own is) (TakesTop empty top since moved fits is') = absurd (own empty)
asks_one_turn a results turn other (ReadsTop empty none is) (TakesOwn own is') = absurd (own empty)
asks_one_turn a results turn other (ReadsTop empty none is) (ReadsTop empty' none' is') = is ∙ sym is'
asks_one_turn a results turn other (ReadsTop empty none is) (MovesTop empty' top seen fits is') = absurd (tops_of_nothing results top none seen)
asks_one_turn a results turn other (ReadsTop empty none is) (FindsNoRoom empty' top seen past is') = absurd (tops_of_nothing results top none seen)
asks_one_turn a results turn other (ReadsTop empty none is) (TakesTop empty' top since moved fits is') = absurd (moved_of_nothing results top since none moved)
asks_one_turn a results turn other (MovesTop empty top seen fits is) (TakesOwn own is') = absurd (own empty)
asks_one_turn a results turn other (MovesTop empty top seen fits is) (ReadsTop empty' none is') = absurd (tops_of_nothing results top none seen)
asks_one_turn a results turn other (MovesTop empty top seen fits is) (MovesTop empty' top' seen' fits' is') = is ∙ ap (λ t. Do (step_of top_word (Cas t (t + a.block)))) (tops_once results top top' seen seen') ∙ sym is'
asks_one_turn a results turn other (MovesTop empty top seen fits is) (FindsNoRoom empty' top' seen' past is') = let e = tops_once results top top' seen seen' in absurd (omega arith)
asks_one_turn a results turn other (MovesTop empty top seen fits is) (TakesTop empty' h since moved fits' is') = absurd (moved_is_not_trying results top h since seen moved)
asks_one_turn a results turn other (FindsNoRoom empty top seen past is) (TakesOwn own is') = absurd (own empty)
asks_one_turn a results turn other (FindsNoRoom empty top seen past is) (ReadsTop empty' none is') = absurd (tops_of_nothing results top none seen)
asks_one_turn a results turn other (FindsNoRoom empty top seen past is) (MovesTop empty' top' seen' fits is') = let e = tops_once results top top' seen seen' in absurd (omega arith)
asks_one_turn a results turn other (FindsNoRoom empty top seen past is) (FindsNoRoom empty' top' seen' past' is') = is ∙ sym is'
asks_one_turn a results turn other (FindsNoRoom empty top seen past is) (TakesTop empty' h since moved fits is') = absurd (moved_is_not_trying results top h since seen moved)
asks_one_turn a results turn other (TakesTop empty h since moved fits is) (TakesOwn own is') = absurd (own empty)
asks_one_turn a results turn other (TakesTop empty h since moved fits is) (ReadsTop empty' none is') = absurd (moved_of_nothing results h since none moved)
asks_one_turn a results turn other (TakesTop empty h since moved fits is) (MovesTop empty' top seen fits' is') = absurd (moved_is_not_trying results top h since seen moved)
asks_one_turn a results turn other (TakesTop empty h since moved fits is) (FindsNoRoom empty' top seen past is') = absurd (moved_is_not_trying results top h since seen moved)
asks_one_turn a results turn other (TakesTop empty h since moved fits is) (TakesTop empty' k after moved' fits' is') =
    let same = moved_once results h k since after moved moved' in
    is ∙ ap (λ t. turn_at (drop (length since) (last_steps a t)) t) same.value ∙ ap (λ r. turn_at (drop (length r) (last_steps a k)) k) same.rest ∙ sym is'

-- ---- neither list of steps has a Cas, and neither ends in HeapFull
pub data IsQuiet (turn : NewTurn) : Type 0 where
  Loads : (word : ℕ) → turn ≡ Do (step_of word Load) → IsQuiet turn
  Swaps : (word new : ℕ) → turn ≡ Do (step_of word (Swap new)) → IsQuiet turn
  Makes : (header : ℕ) → turn ≡ Made header → IsQuiet turn

last_is_quiet : (a : NewArguments) (header n : ℕ) → IsQuiet (turn_at (drop n (last_steps a header)) header)
last_is_quiet a header zero = Swaps _ _ refl
last_is_quiet a header (suc zero) = Swaps _ _ refl
last_is_quiet a header (suc (suc zero)) = Makes header refl
last_is_quiet a header (suc (suc (suc n))) = Makes header refl

own_is_quiet : (a : NewArguments) (n : ℕ) → IsQuiet (turn_at (drop n (own_steps a)) a.head)
own_is_quiet a zero = Loads _ refl
own_is_quiet a (suc k) =
    elim (cases_lt k a.cells) [
      | inl cell ↦ Swaps _ _ (turn_in_cells a (suc k) k (omega arith) cell)
      | inr past ↦
          let at : suc k ≡ 1 + a.cells + (k - a.cells) = omega arith in
          let P = λ (steps : List WordStep). IsQuiet (turn_at steps a.head) in
          subst P (sym (rest_after_cells a (suc k) (k - a.cells) at)) (last_is_quiet a a.head (k - a.cells))
    ]

quiet_not_full : (turn other : NewTurn) → IsQuiet other → turn ≡ other → turn ≡ HeapFull → ⊥
quiet_not_full turn other (Loads word is) same full = cc
quiet_not_full turn other (Swaps word new is) same full = cc
quiet_not_full turn other (Makes header is) same full = cc

same_op : (w v : ℕ) (o p : WordOp) → Do (step_of w o) ≡ Do (step_of v p) → o ≡ p
same_op w v o p same = ap (λ (s : WordStep). s.op) (same_step (step_of w o) (step_of v p) same)

same_word : (w v : ℕ) (o p : WordOp) → Do (step_of w o) ≡ Do (step_of v p) → w ≡ v
same_word w v o p same = ap (λ (s : WordStep). s.word) (same_step (step_of w o) (step_of v p) same)

quiet_not_cas : (turn : NewTurn) (word from to : ℕ) → IsQuiet turn → Do (step_of word (Cas from to)) ≡ turn → ⊥
quiet_not_cas turn word from to (Loads w is) same = let e : Cas from to ≡ Load = same_op word w (Cas from to) Load (same ∙ is) in cc
quiet_not_cas turn word from to (Swaps w new is) same = let e : Cas from to ≡ Swap new = same_op word w (Cas from to) (Swap new) (same ∙ is) in cc
quiet_not_cas turn word from to (Makes header is) same = let e : Do (step_of word (Cas from to)) ≡ Made header = same ∙ is in cc

full_only : (a : NewArguments) (results : List ℕ) (turn : NewTurn) → Asks a results turn → turn ≡ HeapFull → HasNoRoom a results
full_only a results turn (TakesOwn own is) full = absurd (quiet_not_full turn (turn_at (drop (length results) (own_steps a)) a.head) (own_is_quiet a (length results)) is full)
full_only a results turn (ReadsTop empty none is) full = absurd cc
full_only a results turn (MovesTop empty top seen fits is) full = absurd cc
full_only a results turn (FindsNoRoom empty top seen past is) full = record { empty = empty; top = top; seen = seen; past = past }
full_only a results turn (TakesTop empty top since moved fits is) full = absurd (quiet_not_full turn (turn_at (drop (length since) (last_steps a top)) top) (last_is_quiet a top (length since)) is full)

pub heap_is_full_without_room : HeapIsFullWithoutRoom
heap_is_full_without_room a results turn asks = record {
  only = full_only a results turn asks;
  always = λ none. asks_one_turn a results turn HeapFull asks (FindsNoRoom none.empty none.top none.seen none.past refl);
}

moves_from : (a : NewArguments) (results : List ℕ) (word from to top : ℕ) → a.head ≡ 0 → AreTops results top → top + a.block ≤ a.end → word ≡ top_word → from ≡ top → to ≡ top + a.block → MovesByOneBlock a results word from to
moves_from a results word from to top empty seen fits of_top is moved = record {
  of_top = of_top;
  empty = empty;
  seen = rw is seen;
  block = moved ∙ ap (λ t. t + a.block) (sym is);
  within = omega arith;
}

pub top_moves_by_one_block : TopMovesByOneBlock
top_moves_by_one_block a results word from to (TakesOwn own is) = absurd (quiet_not_cas (turn_at (drop (length results) (own_steps a)) a.head) word from to (own_is_quiet a (length results)) is)
top_moves_by_one_block a results word from to (ReadsTop empty none is) = absurd (let e : Cas from to ≡ Load = same_op word top_word (Cas from to) Load is in cc)
top_moves_by_one_block a results word from to (MovesTop empty top seen fits is) =
    let op : Cas from to ≡ Cas top (top + a.block) = same_op word top_word (Cas from to) (Cas top (top + a.block)) is in
    moves_from a results word from to top empty seen fits (same_word word top_word (Cas from to) (Cas top (top + a.block)) is) (cc) (cc)
top_moves_by_one_block a results word from to (FindsNoRoom empty top seen past is) = absurd cc
top_moves_by_one_block a results word from to (TakesTop empty top since moved fits is) = absurd (quiet_not_cas (turn_at (drop (length since) (last_steps a top)) top) word from to (last_is_quiet a top (length since)) is)

pub own_list_ends : OwnListEnds
own_list_ends a results turn asks own count =
    asks_one_turn a results turn (Made a.head) asks (TakesOwn own (sym (ap (λ s. turn_at s a.head) (rest_after_cells a (length results) 2 (omega arith)))))

pub top_ends : TopEnds
top_ends a results turn top since asks empty moved fits two =
    asks_one_turn a results turn (Made top) asks (TakesTop empty top since moved fits (sym (ap (λ n. turn_at (drop n (last_steps a top)) top) two)))

-- the block that is made is the one whose steps these were
made_of : (steps : List WordStep) (header made : ℕ) → turn_at steps header ≡ Made made → made ≡ header
made_of [] header made is = cc
made_of (step ∷ rest) header made is = absurd (step_is_not_made step made is)
  where
    step_is_not_made : (step : WordStep) (made : ℕ) → Do step ≡ Made made → ⊥
    step_is_not_made step made is = cc

pub made_is_its_block : MadeIsItsBlock
made_is_its_block a results header (TakesOwn own is) = OwnList own (made_of (drop (length results) (own_steps a)) a.head header (sym is))
made_is_its_block a results header (ReadsTop empty none is) = absurd cc
made_is_its_block a results header (MovesTop empty top seen fits is) = absurd cc
made_is_its_block a results header (FindsNoRoom empty top seen past is) = absurd cc
made_is_its_block a results header (TakesTop empty top since moved fits is) =
    let same : header ≡ top = made_of (drop (length since) (last_steps a top)) top header (sym is) in
    let P = λ (h : ℕ). HasMoved results h since in
    MovedTop empty since (subst P (sym same) moved) (omega arith)
