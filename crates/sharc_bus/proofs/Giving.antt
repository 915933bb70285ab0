-- The seats that are given out, one for each port.
use Rattle.sharc_bus.proofs.Imports.{◌≡◌, ℕ, zero, suc, ◌+◌, ◌-◌, ◌%◌, ◌^◌, ◌<◌, List, [], ◌∷◌, ◌++◌, length, refl, sym, ap, ◌∙◌, subst, arith, append_assoc, All, get_or as slice_index_or, two-pow-succ, mod-add-mod, add-mod-mod, TableId, unbegun, own_bit, BusView, SeatView, AreSeatsOf, seats_with}

-- the bit of the next port
pub next_bit : (b n : ℕ) → b ≡ own_bit n → (b + b) % 2 ^ 64 ≡ own_bit (n + 1)
next_bit b n e =
    let x : ℕ = 2 ^ suc n in
    let m : ℕ = 2 ^ 64 in
    let one_on : suc n ≡ n + 1 = omega arith in
    ap (λ (k : ℕ). (k + k) % m) e ∙ (mod-add-mod x m (x % m) ∙ (add-mod-mod x x m ∙ (ap (λ (k : ℕ). k % m) (sym (two-pow-succ (suc n))) ∙ ap own_bit one_on)))

-- the parts of the rest, one port later
pub rest_is : (words : List ℕ) (n e : ℕ) → n < e → unbegun words (suc n) (e - n) ≡ unbegun words (n + 1) (suc (e - (n + 1)))
rest_is words n e lt =
    let a : suc n ≡ n + 1 = omega arith in
    let b : e - n ≡ suc (e - (n + 1)) = omega arith in
    ap (λ m. unbegun words m (e - n)) a ∙ ap (λ m. unbegun words (n + 1) m) b

pub given_more : (xs : List SeatView) (x s : SeatView) (ws vs all : List SeatView) → x ≡ s → ws ≡ vs → xs ++ s ∷ vs ≡ all → (xs ++ x ∷ []) ++ ws ≡ all
given_more xs x s ws vs all e f h =
    append_assoc xs (x ∷ []) ws ∙ (ap (λ y. xs ++ y ∷ ws) e ∙ (ap (λ zs. xs ++ s ∷ zs) f ∙ h))

length-seats : (bus : TableId) (words : List ℕ) (first more : ℕ) → length (seats_with bus (unbegun words first more)) ≡ more
length-seats bus words first zero = refl
length-seats bus words first (suc more) = ap suc (length-seats bus words (suc first) more)

seat_at : (bus : TableId) (words : List ℕ) (first more n : ℕ) (d : SeatView) → n < more → slice_index_or (seats_with bus (unbegun words first more)) n d ≡ record { bus = bus; number = first + n; events = [] }
seat_at bus words first zero n d lt = absurd (omega arith)
seat_at bus words first (suc more) zero d lt = ap (λ m. let s : SeatView = record { bus = bus; number = m; events = [] } in s) (omega arith)
seat_at bus words first (suc more) (suc n) d lt = seat_at bus words (suc first) more n d (omega arith) ∙ ap (λ m. let s : SeatView = record { bus = bus; number = m; events = [] } in s) (omega arith)

pub seats_are : (bus : BusView) (words : List ℕ) (seats : List SeatView) → seats ≡ seats_with bus.id (unbegun words 0 bus.ports) → AreSeatsOf bus seats
seats_are bus words seats is = subst (λ ss. AreSeatsOf bus ss) (sym is) (given bus words) where
  given : (bus : BusView) (words : List ℕ) → AreSeatsOf bus (seats_with bus.id (unbegun words 0 bus.ports))
  given bus words = record {
    all = length-seats bus.id words 0 bus.ports;
    bus_is = (λ n d lt. ap (λ (s : SeatView). s.bus) (seat_at bus.id words 0 bus.ports n d (omega (arith, length-seats bus.id words 0 bus.ports))));
    number_is = (λ n d lt. ap (λ (s : SeatView). s.number) (seat_at bus.id words 0 bus.ports n d (omega (arith, length-seats bus.id words 0 bus.ports))) ∙ omega arith);
  }

pub seats_unbegun : (bus : TableId) (words : List ℕ) (ports : ℕ) (seats : List SeatView) → seats ≡ seats_with bus (unbegun words 0 ports) → All (λ (s : SeatView). s.events ≡ []) seats
seats_unbegun bus words ports seats is = subst (λ ss. All (λ (s : SeatView). s.events ≡ []) ss) (sym is) (λ n d lt. ap (λ (s : SeatView). s.events) (seat_at bus words 0 ports n d (omega (arith, length-seats bus words 0 ports))))
