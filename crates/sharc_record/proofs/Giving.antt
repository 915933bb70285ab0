-- The seats that are given out, one for each port.
use Rattle.sharc_record.proofs.Imports.{◌≡◌, ℕ, zero, suc, ◌+◌, ◌-◌, ◌<◌, List, [], ◌∷◌, ◌++◌, length, refl, sym, ap, ◌∙◌, subst, arith, append_assoc, All, get_or as slice_index_or, TableId, unbegun, SharedView, SeatView, AreSeatsOf, seats_with}

-- the parts of the rest, one port later
pub rest_is : (count n e : ℕ) → n < e → unbegun count (suc n) (e - n) ≡ unbegun count (n + 1) (suc (e - (n + 1)))
rest_is count n e lt =
    let a : suc n ≡ n + 1 = omega arith in
    let b : e - n ≡ suc (e - (n + 1)) = omega arith in
    ap (λ m. unbegun count m (e - n)) a ∙ ap (λ m. unbegun count (n + 1) m) b

pub given_more : (xs : List SeatView) (x s : SeatView) (ws vs all : List SeatView) → x ≡ s → ws ≡ vs → xs ++ s ∷ vs ≡ all → (xs ++ x ∷ []) ++ ws ≡ all
given_more xs x s ws vs all e f h =
    append_assoc xs (x ∷ []) ws ∙ (ap (λ y. xs ++ y ∷ ws) e ∙ (ap (λ zs. xs ++ s ∷ zs) f ∙ h))

length-seats : (id : TableId) (count first more : ℕ) → length (seats_with id (unbegun count first more)) ≡ more
length-seats id count first zero = refl
length-seats id count first (suc more) = ap suc (length-seats id count (suc first) more)

seat_at : (id : TableId) (count first more n : ℕ) (d : SeatView) → n < more → slice_index_or (seats_with id (unbegun count first more)) n d ≡ record { id = id; count = count; number = first + n; events = [] }
seat_at id count first zero n d lt = absurd (omega arith)
seat_at id count first (suc more) zero d lt = ap (λ m. let s : SeatView = record { id = id; count = count; number = m; events = [] } in s) (omega arith)
seat_at id count first (suc more) (suc n) d lt = seat_at id count (suc first) more n d (omega arith) ∙ ap (λ m. let s : SeatView = record { id = id; count = count; number = m; events = [] } in s) (omega arith)

pub seats_are : (shared : SharedView) (seats : List SeatView) → seats ≡ seats_with shared.id (unbegun (length shared.opened.words) 0 shared.ports) → AreSeatsOf shared seats
seats_are shared seats is = subst (λ ss. AreSeatsOf shared ss) (sym is) (given shared) where
  given : (shared : SharedView) → AreSeatsOf shared (seats_with shared.id (unbegun (length shared.opened.words) 0 shared.ports))
  given shared = record {
    all = length-seats shared.id (length shared.opened.words) 0 shared.ports;
    id_is = (λ n d lt. ap (λ (s : SeatView). s.id) (seat_at shared.id (length shared.opened.words) 0 shared.ports n d (omega (arith, length-seats shared.id (length shared.opened.words) 0 shared.ports))));
    count_is = (λ n d lt. ap (λ (s : SeatView). s.count) (seat_at shared.id (length shared.opened.words) 0 shared.ports n d (omega (arith, length-seats shared.id (length shared.opened.words) 0 shared.ports))));
    number_is = (λ n d lt. ap (λ (s : SeatView). s.number) (seat_at shared.id (length shared.opened.words) 0 shared.ports n d (omega (arith, length-seats shared.id (length shared.opened.words) 0 shared.ports))) ∙ omega arith);
  }

pub seats_unbegun : (id : TableId) (count ports : ℕ) (seats : List SeatView) → seats ≡ seats_with id (unbegun count 0 ports) → All (λ (s : SeatView). s.events ≡ []) seats
seats_unbegun id count ports seats is = subst (λ ss. All (λ (s : SeatView). s.events ≡ []) ss) (sym is) (λ n d lt. ap (λ (s : SeatView). s.events) (seat_at id count 0 ports n d (omega (arith, length-seats id count 0 ports))))
