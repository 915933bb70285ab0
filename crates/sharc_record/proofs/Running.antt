-- What a quantum over a port of a journal makes of a hand that makes no turn.
use Rattle.sharc_record.proofs.Imports.{◌≡◌, ℕ, ◌≤◌, false, [], Some, None, refl, sym, subst, arith, append-nil, Code, Shape, may_go, ThreadView, IsThread, SeatView, Seat, HasRun, QuantumLaws}

module _ (laws : QuantumLaws) (code : Code) (s : Shape) (limit : ℕ) where
  -- a thread that is gone or stopped stays as it is
  pub idle : (thread : ThreadView) (port : SeatView) → IsThread code s thread → thread.made ≤ limit → may_go thread.machine.at.state ≡ false
      → HasRun code s limit record { seat = Some thread; port = port } record { seat = Some thread; port = port }
  idle thread port is within off = record {
    events = [];
    made = laws.idle code s limit thread is within off;
    id_is = refl;
    count_is = refl;
    number = refl;
    events_are = sym (append-nil port.events);
    few = omega arith;
  }

-- and so does a place with none
pub nobody : (code : Code) (s : Shape) (limit : ℕ) (seat : Seat) (port : SeatView) → seat ≡ None → HasRun code s limit record { seat = seat; port = port } record { seat = None; port = port }
nobody code s limit seat port e = subst (λ (x : Seat). HasRun code s limit record { seat = x; port = port } record { seat = None; port = port }) (sym e) record {
  events = [];
  made = refl;
  id_is = refl;
  count_is = refl;
  number = refl;
  events_are = sym (append-nil port.events);
  few = omega arith;
}
