-- What is done with a value that has to fit.
use Rattle.sharc_ask.proofs.{Imports.{◌≡◌, Bool, Result, Ok, Err, ap, sym, ◌∙◌, subst, ℕ, ℤ, unsigned_abs, Act, CellMode, WrittenType, span_of, Expression, Site, Sharing, element_cells, instance_mode, fits, fitting, operand, Run, Step, then_on, ◌>>=◌, ◌>>◌, give, unless_stop, holds, answered, looks_at, value_of, value_in, returned, is_positive, Trap, Kind, declared_kind, Resolution, kind_at, RunEnd, Known, Ends, Does, DoesAs, RustFlow, view_flow, made, returned_with}, Steps.{over_then, over_then_as}}

abbrev test_of : Site → Bool → Step
test_of at b = unless_stop b Trap.OutOfRange at

pub fitted_goes : (k k1 : Known) (r : Resolution) (kind : Kind) (e : Expression) (x x1 : ℤ) (b : Bool) (at : Site) (u : Unit {0}) (result : Result ℤ RunEnd) → b ≡ fits kind x → at ≡ (span_of e).first → x1 ≡ x → Does k (Ok u) k (test_of at b) → Does k result k1 (operand r e (give x1))
    → Does k result k1 (operand r e (fitting kind e (give x)))
fitted_goes k k1 r kind e x x1 b at u result eb ea ex h later = λ s is.
    let g : Does k (Ok u) k (test_of (span_of e).first (fits kind x)) = subst (λ z. Does k (Ok u) k (test_of (span_of e).first z)) eb (subst (λ z. Does k (Ok u) k (test_of z b)) ea h) in
    let l : Does k result k1 (operand r e (give x)) = subst (λ z. Does k result k1 (operand r e (give z))) ex later in
    let w = g s is in
    subst (λ o. Ends result k1 (then_on (then_on o (λ z. give x)) (λ v. holds (kind_at r e) v >> give v))) (sym w.is) (l w.state w.looks)

pub fitted_over : (k : Known) (r : Resolution) (kind : Kind) (e : Expression) (x : ℤ) (b : Bool) (at : Site) (end : RunEnd) → b ≡ fits kind x → at ≡ (span_of e).first → Does {A = Unit {0}} k (Err end) k (test_of at b) → Does {A = ℤ} k (Err end) k (operand r e (fitting kind e (give x)))
fitted_over k r kind e x b at end eb ea h =
    let g : Does {A = Unit {0}} k (Err end) k (test_of (span_of e).first (fits kind x)) = subst (λ z. Does {A = Unit {0}} k (Err end) k (test_of (span_of e).first z)) eb (subst (λ z. Does {A = Unit {0}} k (Err end) k (test_of z b)) ea h) in
    over_then k k end (fitting kind e (give x)) (λ v. holds (kind_at r e) v >> give v) (over_then k k end (test_of (span_of e).first (fits kind x)) (λ u. give x) g)

pub returned_goes : (k : Known) (kind : Kind) (site : Site) (e : Expression) (x : ℤ) (b : Bool) (at : Site) (u : Unit {0}) (result : RustFlow) → b ≡ fits kind x → at ≡ (span_of e).first → view_flow result ≡ returned site x → Does k (Ok u) k (test_of at b) → DoesAs view_flow k (Ok result) k (returned_with kind site e x)
returned_goes k kind site e x b at u result eb ea same h = λ s is.
    let g : Does k (Ok u) k (test_of (span_of e).first (fits kind x)) = subst (λ z. Does k (Ok u) k (test_of (span_of e).first z)) eb (subst (λ z. Does k (Ok u) k (test_of z b)) ea h) in
    let w = g s is in
    record {
      state = w.state;
      is = ap (λ o. then_on (then_on o (λ z. give x)) (λ v. give (returned site v))) w.is ∙ ap (λ f. (give f) w.state) (sym same);
      looks = w.looks;
    }

pub returned_over : (k : Known) (kind : Kind) (site : Site) (e : Expression) (x : ℤ) (b : Bool) (at : Site) (end : RunEnd) → b ≡ fits kind x → at ≡ (span_of e).first → Does {A = Unit {0}} k (Err end) k (test_of at b) → DoesAs view_flow k (Err end) k (returned_with kind site e x)
returned_over k kind site e x b at end eb ea h =
    let g : Does {A = Unit {0}} k (Err end) k (test_of (span_of e).first (fits kind x)) = subst (λ z. Does {A = Unit {0}} k (Err end) k (test_of (span_of e).first z)) eb (subst (λ z. Does {A = Unit {0}} k (Err end) k (test_of z b)) ea h) in
    over_then_as view_flow k k end (fitting kind e (give x)) (λ v. give (returned site v)) (over_then k k end (test_of (span_of e).first (fits kind x)) (λ u. give x) g)

-- a new object
pub made_goes : (k k1 : Known) (r : Resolution) (site : Site) (target : Sharing) (x : ℤ) (w : WrittenType) (b : Bool) (u : Unit {0}) (cells n : ℕ) (mode : CellMode) (result : Result ℤ RunEnd)
    → b ≡ is_positive x → cells ≡ element_cells r (declared_kind w) → n ≡ unsigned_abs x → mode ≡ instance_mode r (value_in k.variables) target → Does k (Ok u) k (unless_stop b Trap.SizeNotPositive site) → Does k result k1 (answered site (Act.New cells n mode))
    → Does k result k1 (made r site target x w)
made_goes k k1 r site target x w b u cells n mode result eb ec en em h later = λ s is.
    let g : Does k (Ok u) k (unless_stop (is_positive x) Trap.SizeNotPositive site) = subst (λ z. Does k (Ok u) k (unless_stop z Trap.SizeNotPositive site)) eb h in
    let a = g s is in
    let rest : Run ℤ = looks_at value_of >>= (λ held. answered site (Act.New (element_cells r (declared_kind w)) (unsigned_abs x) (instance_mode r held target))) in
    let same : mode ≡ instance_mode r (value_of a.state) target = em ∙ ap (λ (z : Known). instance_mode r (value_in z.variables) target) (sym a.looks) in
    let act : Act.New cells n mode ≡ Act.New (element_cells r (declared_kind w)) (unsigned_abs x) (instance_mode r (value_of a.state) target) =
    ap (λ z. Act.New z n mode) ec ∙ ap (λ z. Act.New (element_cells r (declared_kind w)) z mode) en ∙ ap (λ z. Act.New (element_cells r (declared_kind w)) (unsigned_abs x) z) same in
    subst (λ o. Ends result k1 (then_on o (λ z. rest))) (sym a.is) (subst (λ (y : Act). Ends result k1 (answered site y a.state)) act (later a.state a.looks))
