-- Expressions: the value of each goes along its code, and so does the place that it names.
use Rattle.sharc_live_laws.proofs.{Imports.{◌≡◌, ℕ, true, false, ◌==◌, List, [], ◌∷◌, Option, Some, None, refl, ℤ, pos, not, drop, Global, TakeKind, Cast, ToFree, Site, Span, BinaryOperator, LogicalOr, LogicalAnd, PlaceCall, Lock, Unlock, Free, UnaryOperator, Negate, Not, Complement, Dereference, ValueCall, span_of, Expression, identifier, constant, parentheses, call, spawn, on_value, on_place, cast, index, field, unary, binary, Arguments, no_arguments, argument, Trap, Named, Kind, declared_kinds, promoted, class_of, binary_result, named_at, kind_at, parameters_named, cell_at, pointed, Assignment, cast_row, Sharing, Code, first_then, goes_on, variable_named, variable_of, of_operands, of_place_call, of_base, flow, flow_all, place_flow, bits_of, fits, is_zero, truth, operated, negated, complement, is_null, constant_value, Run, ◌>>=◌, temporarily, StorePlace, cell, pointee_place, Calls, tested, operand, fitting, passed, named_value, called, number_named, value_act, resulting, spawned, value_called, taking, place_called, cast_value, place_value, unary_value, binary_value, eval, eval_all, place_of}, Along.{Any, onward, Along, binds, then_idle, scoped}, Calm.{calm_then, idle, calm_give, calm_done, calm_unless, calm_either, calm_answered, calm_performs, calm_drops, calm_holds, calm_moves, calm_resulting, calm_cast, calm_freed, calm_lock, calm_unlock, calm_condition}, Locals.{is_named, reads_along, fetched_along, taken_along}, Places.{Spot, names, either_along, one_along, other_along, entered_along, then_calm, pointee_along, field_along, index_along, named_along, no_place_along, unary_place_along}}
use Rattle.sharc_tree.specs.declared.event.Act.{Act}
use Rattle.sharc_live.specs.Flows.{through}
use Rattle.sharc_live.specs.Flows as flows

module _ (m : Assignment) (x : ℕ) where
  abbrev pub Runs : {A : Type 0} → Code → Run A → Type 0
  Runs {A} c n = Along m.typed x c (onward {A = A}) Any n

  pub tested_along : (a : Expression) (of_a : Run ℤ) (c : Code) → Runs c of_a → Runs c (tested m.typed a of_a)
  tested_along a of_a c h = then_calm m.typed x h (λ v. calm_then (calm_drops (kind_at m.typed a) v) (λ k. calm_give (not (is_zero v))))

  operand_along : (a : Expression) (of_a : Run ℤ) (c : Code) → Runs c of_a → Runs c (operand m.typed a of_a)
  operand_along a of_a c h = then_calm m.typed x h (λ v. calm_then (calm_holds (kind_at m.typed a) v) (λ k. calm_give v))

  pub fitting_along : (kind : Kind) (a : Expression) (of_a : Run ℤ) (c : Code) → Runs c of_a → Runs c (fitting kind a of_a)
  fitting_along kind a of_a c h = then_calm m.typed x h (λ v. calm_then (calm_unless (fits kind v) Trap.OutOfRange (span_of a).first) (λ k. calm_give v))

  passed_along : (kinds : List Kind) (a : Expression) (of_a : Run ℤ) (c : Code) → Runs c of_a → Runs c (passed m.typed kinds a of_a)
  passed_along [] a of_a c h = operand_along a of_a c h
  passed_along (kind ∷ rest) a of_a c h = operand_along a (fitting kind a of_a) c (fitting_along kind a of_a c h)

  value_along : (mode : Sharing) (site : Site) (n : Named) → Runs (flows.reads (variable_named n) site.token) (named_value m.typed mode site n)
  value_along mode site (Named.Variable token) = reads_along m.typed x site token (Some token) refl
  value_along mode site (Named.Global n) = fetched_along m.typed x site mode (cell (Global n) 0 0) None refl
  value_along mode site _ = idle m.typed x (calm_give (pos 0))

  spawned_along : (site : Site) (f : Named) (a : Expression) (of_a : Run ℤ) (c : Code) → Runs c of_a → Runs c (spawned m.typed site f a of_a)
  spawned_along site f a of_a c h = scoped m.typed x (then_calm m.typed x (passed_along (declared_kinds (parameters_named m.typed f)) a of_a c h) (λ v.
      calm_then (calm_answered site (Act.Spawn (number_named f) v)) (λ t. calm_then (calm_moves (kind_at m.typed a)) (λ k. calm_give t))))

  value_called_along : (site : Site) (w : ValueCall) (of_a : Run ℤ) (c : Code) → Runs c of_a → Runs c (value_called site w of_a)
  value_called_along site w of_a c h = then_calm m.typed x h (λ v. calm_then (calm_performs site (value_act w v)) (λ k. calm_give (pos 0)))

  -- ---- places

  abbrev AtPlace : Expression → Run StorePlace → Type 0
  AtPlace a n = Along m.typed x (place_flow m.typed a) onward (Spot m.typed x (names m.typed x a)) n

  taking_along : (s : Span) (kind : TakeKind) (a : Expression) (place : Run StorePlace) → AtPlace a place → Runs (first_then (place_flow m.typed a) (flows.nulls (variable_of m.typed a) s.first.token)) (taking m s kind a place)
  taking_along s kind a place h = scoped m.typed x (binds m.typed x h (λ p e. taken_along m.typed x s.first (span_of a).first (cell_at m a) kind p (variable_of m.typed a) e))

  place_called_along : (s : Span) (w : PlaceCall) (a : Expression) (place : Run StorePlace) → AtPlace a place
      → Runs (of_place_call w (place_flow m.typed a) (flows.nulls (variable_of m.typed a) s.first.token)) (place_called m s w a place)
  place_called_along s Lock a place h = scoped m.typed x (then_idle m.typed x h (λ p e. idle m.typed x (calm_lock s.first p)))
  place_called_along s Unlock a place h = scoped m.typed x (then_idle m.typed x h (λ p e. idle m.typed x (calm_unlock s.first p)))
  place_called_along s Free a place h = then_calm m.typed x (taking_along s ToFree a place h) (λ v. calm_either (is_null v) calm_done (calm_freed (span_of a).first v))

  cast_along : (s : Span) (a : Expression) (place : Run StorePlace) → AtPlace a place → Runs (first_then (place_flow m.typed a) (flows.nulls (variable_of m.typed a) s.first.token)) (cast_value m s a place)
  cast_along s a place h = then_calm m.typed x (taking_along s Cast a place h) (λ v. calm_either (is_null v) (calm_give v) (calm_cast m.typed (span_of a).first (pointed m (Some (cast_row m.typed s))) v))

  -- the value at a place that is no local, and at one that may be
  place_value_along : (e : Expression) (place : Run StorePlace) (c : Code) → Along m.typed x c onward (Spot m.typed x false) place → Runs c (place_value m e place)
  place_value_along e place c h = scoped m.typed x (then_idle m.typed x h (λ p k. fetched_along m.typed x (span_of e).first (cell_at m e) p None k))

  part_value_along : (e : Expression) (place : Run StorePlace) (c : Code) (o : Option ℕ) → Along m.typed x c onward (Spot m.typed x (is_named o x)) place → Runs (first_then c (flows.reads o (span_of e).first.token)) (place_value m e place)
  part_value_along e place c o h = scoped m.typed x (binds m.typed x h (λ p k. fetched_along m.typed x (span_of e).first (cell_at m e) p o k))

  -- ---- operators

  unary_along : (s : Span) (o : UnaryOperator) (a : Expression) (of_a : Run ℤ) → Runs (flow m.typed a) of_a → Runs (flow m.typed a) (unary_value m s o a of_a)
  unary_along s Negate a of_a h = then_calm m.typed x h (λ v. calm_resulting s.first (negated (bits_of (promoted (kind_at m.typed a))) v))
  unary_along s Not a of_a h = then_calm m.typed x (tested_along a of_a (flow m.typed a) h) (λ is_true. calm_give (truth (not is_true)))
  unary_along s Complement a of_a h = then_calm m.typed x h (λ v. calm_give (complement v))
  unary_along s Dereference a of_a h = place_value_along (unary s Dereference a) (pointee_place m.typed s.first a of_a) (flow m.typed a) (pointee_along m.typed x s.first a of_a (flow m.typed a) h)

  both_along : (at : Site) (o : BinaryOperator) (a b : Expression) (of_a of_b : Run ℤ) → Runs (flow m.typed a) of_a → Runs (flow m.typed b) of_b → Runs (first_then (flow m.typed a) (flow m.typed b))
      (temporarily (operand m.typed a of_a >>= λ y. operand m.typed b of_b >>= λ z. resulting at (operated (bits_of (binary_result (class_of o) (kind_at m.typed a) (kind_at m.typed b))) o y z)))
  both_along at o a b of_a of_b ha hb = scoped m.typed x (binds m.typed x (operand_along a of_a (flow m.typed a) ha) (λ y k. then_calm m.typed x (operand_along b of_b (flow m.typed b) hb) (λ z.
      calm_resulting at (operated (bits_of (binary_result (class_of o) (kind_at m.typed a) (kind_at m.typed b))) o y z))))

  binary_along : (at : Site) (o : BinaryOperator) (a b : Expression) (of_a of_b : Run ℤ) → Runs (flow m.typed a) of_a → Runs (flow m.typed b) of_b → Runs (of_operands o (flow m.typed a) (flow m.typed b)) (binary_value m.typed at o a b of_a of_b)
  binary_along at LogicalAnd a b of_a of_b ha hb = binds m.typed x (tested_along a of_a (flow m.typed a) ha) (λ left k. then_calm m.typed x
      (either_along m.typed x left (other_along m.typed x goes_on (tested_along b of_b (flow m.typed b) hb)) (one_along m.typed x (flow m.typed b) (idle m.typed x (calm_give false)))) (λ right. calm_give (truth right)))
  binary_along at LogicalOr a b of_a of_b ha hb = binds m.typed x (tested_along a of_a (flow m.typed a) ha) (λ left k. then_calm m.typed x
      (either_along m.typed x left (one_along m.typed x (flow m.typed b) (idle m.typed x (calm_give true))) (other_along m.typed x goes_on (tested_along b of_b (flow m.typed b) hb))) (λ right. calm_give (truth right)))
  binary_along at o a b of_a of_b ha hb = both_along at o a b of_a of_b ha hb

  -- ---- by induction on the syntax, where calls go along code that does nothing

  module _ (is_local : (0 == x) ≡ false) (on_call : Calls) (called_quietly : (f : ℕ) (site : Site) (vs : List ℤ) → Runs goes_on (on_call f site vs)) where
    called_along : (site : Site) (n : Named) (name : List ℕ) (vs : List ℤ) → Runs goes_on (called on_call site n name vs)
    called_along site (Named.Function f) name vs = called_quietly f site vs
    called_along site Named.Known name vs = idle m.typed x (calm_then (calm_condition site name vs) (λ k. calm_give (pos 0)))
    called_along site _ name vs = idle m.typed x (calm_give (pos 0))

    mutual
      pub eval_along : (e : Expression) → Runs (flow m.typed e) (eval on_call m e)
      eval_along (identifier s i) = entered_along m.typed x (value_along (cell_at m (identifier s i)) i.site (named_at m.typed i.site.token))
      eval_along (constant s c) = entered_along m.typed x (idle m.typed x (calm_give (constant_value c)))
      eval_along (parentheses s a) = entered_along m.typed x (eval_along a)
      eval_along (call s f all) = entered_along m.typed x (scoped m.typed x (then_idle m.typed x (all_along (declared_kinds (parameters_named m.typed (named_at m.typed f.site.token))) all) (λ vs k. called_along s.first (named_at m.typed f.site.token) f.text vs)))
      eval_along (spawn s f a) = entered_along m.typed x (spawned_along s.first (named_at m.typed f.site.token) a (eval on_call m a) (flow m.typed a) (eval_along a))
      eval_along (on_value s w a) = entered_along m.typed x (value_called_along s.first w (eval on_call m a) (flow m.typed a) (eval_along a))
      eval_along (on_place s w a) = entered_along m.typed x (then_calm m.typed x (place_called_along s w a (place_of on_call m (span_of a).first a) (place_along (span_of a).first a)) (λ k. calm_give (pos 0)))
      eval_along (cast s t a) = entered_along m.typed x (cast_along s a (place_of on_call m (span_of a).first a) (place_along (span_of a).first a))
      eval_along (index s a i) = entered_along m.typed x (place_value_along (index s a i) _ (flow m.typed (index s a i))
          (index_along m.typed x is_local s.first a i (place_of on_call m s.first a) (eval on_call m a) (eval on_call m i) (place_along s.first a) (eval_along a) (eval_along i)))
      eval_along (field s a w n) = entered_along m.typed x (part_value_along (field s a w n) _ (of_base w (place_flow m.typed a) (flow m.typed a)) (through w (variable_of m.typed a))
          (field_along m.typed x s.first a w (named_at m.typed n.site.token) (place_of on_call m s.first a) (eval on_call m a) (place_along s.first a) (eval_along a)))
      eval_along (unary s o a) = entered_along m.typed x (unary_along s o a (eval on_call m a) (eval_along a))
      eval_along (binary s o at a b) = entered_along m.typed x (binary_along at o a b (eval on_call m a) (eval on_call m b) (eval_along a) (eval_along b))

      all_along : (kinds : List Kind) (all : Arguments) → Runs (flow_all m.typed all) (eval_all on_call m kinds all)
      all_along kinds no_arguments = idle m.typed x (calm_give [])
      all_along kinds (argument a rest) = binds m.typed x (passed_along kinds a (eval on_call m a) (flow m.typed a) (eval_along a)) (λ v k. then_calm m.typed x (all_along (drop 1 kinds) rest) (λ vs. calm_give (v ∷ vs)))

      pub place_along : (site : Site) (e : Expression) → AtPlace e (place_of on_call m site e)
      place_along site (identifier s i) = entered_along m.typed x (named_along m.typed x is_local (named_at m.typed i.site.token))
      place_along site (parentheses s a) = entered_along m.typed x (place_along site a)
      place_along site (index s a i) = entered_along m.typed x (index_along m.typed x is_local site a i (place_of on_call m site a) (eval on_call m a) (eval on_call m i) (place_along site a) (eval_along a) (eval_along i))
      place_along site (field s a w n) = entered_along m.typed x (field_along m.typed x site a w (named_at m.typed n.site.token) (place_of on_call m site a) (eval on_call m a) (place_along site a) (eval_along a))
      place_along site (unary s o a) = entered_along m.typed x (unary_place_along m.typed x is_local site o a (eval on_call m a) (eval_along a))
      place_along site _ = entered_along m.typed x (no_place_along m.typed x is_local)
