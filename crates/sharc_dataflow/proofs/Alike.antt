-- Code that is the same for some variables: laws of Same.
use Rattle.sharc_dataflow.proofs.{Imports.{◌≡◌, ℕ, [], ◌++◌, Option, None, Bool, true, false, ◌&&◌, ◌||◌, refl, ap, sym, ◌∙◌, append_assoc, append-nil, Way, Ways, Exits, To, Next, Broken, Continued, Ends, Code, goes_to, first_then, one_of, catches, repeats, lower, behind, follow, either, then_of, either_of, caught_of, loop_of, ways, warns, Same, exits_of, exits_to, then_exits, either_exits, caught_exits, loop_exits, leading}, Laws.kept_none, Summed.{same_ways, then_assoc, nothing_then, then_nothing}, Told.behind_follow}

module _ (first last : ℕ) where
  pub same_self : (c : Code) → Same first last c c
  same_self c = record { does = λ x i. refl; warned = λ x i v. refl }

  pub same_turned : {c d : Code} → Same first last c d → Same first last d c
  same_turned s = record { does = λ x i. sym (s.does x i); warned = λ x i v. sym (s.warned x i v) }

  pub same_then_same : {c d e : Code} → Same first last c d → Same first last d e → Same first last c e
  same_then_same s t = record { does = λ x i. s.does x i ∙ t.does x i; warned = λ x i v. s.warned x i v ∙ t.warned x i v }

  -- ---- by the parts

  pub same_then : {a b c d : Code} → Same first last a c → Same first last b d → Same first last (first_then a b) (first_then c d)
  same_then {a = a} {b = b} {c = c} {d = d} s t = record {
    does = λ x i. ap (λ z. then_of z (ways x b)) (s.does x i) ∙ ap (then_of (ways x c)) (t.does x i);
    warned = λ x i v. ap (λ z. z ++ warns x b (behind (ways x a).next v)) (s.warned x i v) ∙ ap (λ (z : Ways). warns x c v ++ warns x b (behind z.next v)) (s.does x i) ∙ ap (λ z. warns x c v ++ z) (t.warned x i (behind (ways x c).next v));
  }

  pub same_either : {a b c d : Code} → Same first last a c → Same first last b d → Same first last (one_of a b) (one_of c d)
  same_either {a = a} {b = b} {c = c} {d = d} s t = record {
    does = λ x i. ap (λ z. either_of z (ways x b)) (s.does x i) ∙ ap (either_of (ways x c)) (t.does x i);
    warned = λ x i v. ap (λ z. z ++ warns x b v) (s.warned x i v) ∙ ap (λ z. warns x c v ++ z) (t.warned x i v);
  }

  pub same_caught : {a c : Code} → Same first last a c → Same first last (catches a) (catches c)
  same_caught {a = a} {c = c} s = record { does = λ x i. ap caught_of (s.does x i); warned = s.warned }

  pub same_loop : {a c : Code} → Same first last a c → Same first last (repeats a) (repeats c)
  same_loop {a = a} {c = c} s = record {
    does = λ x i. ap loop_of (s.does x i);
    warned = λ x i v. ap (λ (z : Ways). warns x a (lower v z.next.least)) (s.does x i) ∙ s.warned x i (lower v (ways x c).next.least);
  }

  -- ---- pieces in turn

  pub same_assoc : (a b c : Code) → Same first last (first_then (first_then a b) c) (first_then a (first_then b c))
  same_assoc a b c = record {
    does = λ x i. then_assoc (ways x a) (ways x b) (ways x c);
    warned = λ x i v.
        let w = ways x a in
        let n = ways x b in
        append_assoc (warns x a v) (warns x b (behind w.next v)) (warns x c (behind (follow w.next n.next) v)) ∙ ap (λ z. warns x a v ++ (warns x b (behind w.next v) ++ warns x c z)) (behind_follow w.next n.next v);
  }

  pub start_same : (c : Code) → Same first last (first_then (goes_to Next) c) c
  start_same c = record { does = λ x i. nothing_then (ways x c); warned = λ x i v. refl }

  pub same_end : (c : Code) → Same first last (first_then c (goes_to Next)) c
  same_end c = record { does = λ x i. then_nothing (ways x c); warned = λ x i v. append-nil (warns x c v) }

-- ---- code that only leads somewhere

abbrev shut : Bool → Way
shut b = record { least = None; clear = b }

abbrev pub ways_out : Exits → Ways
ways_out e = record { next = shut e.next; broken = shut e.broken; continued = shut e.continued }

out_of : (x : ℕ) (n b c : Bool) → ways x (leading (exits_of n b c)) ≡ ways_out (exits_of n b c)
out_of x true true true = refl
out_of x true true false = refl
out_of x true false true = refl
out_of x true false false = refl
out_of x false true true = refl
out_of x false true false = refl
out_of x false false true = refl
out_of x false false false = refl

pub leads_out : (x : ℕ) (e : Exits) → ways x (leading e) ≡ ways_out e
leads_out x e = out_of x e.next e.broken e.continued

quiet_of : (x : ℕ) (n b c : Bool) (v : Option ℕ) → warns x (leading (exits_of n b c)) v ≡ []
quiet_of x true true true v = refl
quiet_of x true true false v = refl
quiet_of x true false true v = refl
quiet_of x true false false v = refl
quiet_of x false true true v = refl
quiet_of x false true false v = refl
quiet_of x false false true v = refl
quiet_of x false false false v = refl

pub leads_quietly : (x : ℕ) (e : Exits) (v : Option ℕ) → warns x (leading e) v ≡ []
leads_quietly x e v = quiet_of x e.next e.broken e.continued v

follow_shut : (a b : Bool) → follow (shut a) (shut b) ≡ shut (a && b)
follow_shut a b = ap (λ z. record { least = z; clear = a && b }) (kept_none b)

either_shut : (a n b : Bool) → either (shut a) (follow (shut n) (shut b)) ≡ shut (a || (n && b))
either_shut a n b = ap (either (shut a)) (follow_shut n b)

out_then : (a b : Exits) → then_of (ways_out a) (ways_out b) ≡ ways_out (then_exits a b)
out_then a b = same_ways _ _ _ _ _ _ (follow_shut a.next b.next) (either_shut a.broken a.next b.broken) (either_shut a.continued a.next b.continued)

out_loop : (a : Exits) → loop_of (ways_out a) ≡ ways_out (loop_exits a)
out_loop a = same_ways _ _ _ _ _ _ (follow_shut true a.broken) refl refl

module _ (first last : ℕ) where
  pub out_same_then : (a b : Exits) → Same first last (first_then (leading a) (leading b)) (leading (then_exits a b))
  out_same_then a b = record {
    does = λ x i. ap (λ z. then_of z (ways x (leading b))) (leads_out x a) ∙ ap (then_of (ways_out a)) (leads_out x b) ∙ out_then a b ∙ sym (leads_out x (then_exits a b));
    warned = λ x i v. ap (λ z. z ++ warns x (leading b) (behind (ways x (leading a)).next v)) (leads_quietly x a v) ∙ leads_quietly x b (behind (ways x (leading a)).next v) ∙ sym (leads_quietly x (then_exits a b) v);
  }

  pub out_same_either : (a b : Exits) → Same first last (one_of (leading a) (leading b)) (leading (either_exits a b))
  out_same_either a b = record {
    does = λ x i. ap (λ z. either_of z (ways x (leading b))) (leads_out x a) ∙ ap (either_of (ways_out a)) (leads_out x b) ∙ sym (leads_out x (either_exits a b));
    warned = λ x i v. ap (λ z. z ++ warns x (leading b) v) (leads_quietly x a v) ∙ leads_quietly x b v ∙ sym (leads_quietly x (either_exits a b) v);
  }

  pub out_same_caught : (a : Exits) → Same first last (catches (leading a)) (leading (caught_exits a))
  out_same_caught a = record {
    does = λ x i. ap caught_of (leads_out x a) ∙ sym (leads_out x (caught_exits a));
    warned = λ x i v. leads_quietly x a v ∙ sym (leads_quietly x (caught_exits a) v);
  }

  pub out_same_loop : (a : Exits) → Same first last (repeats (leading a)) (leading (loop_exits a))
  out_same_loop a = record {
    does = λ x i. ap loop_of (leads_out x a) ∙ out_loop a ∙ sym (leads_out x (loop_exits a));
    warned = λ x i v. leads_quietly x a (lower v (ways x (leading a)).next.least) ∙ sym (leads_quietly x (loop_exits a) v);
  }

  pub out_same_goes : (t : To) → Same first last (leading (exits_to t)) (goes_to t)
  out_same_goes Next = record { does = λ x i. refl; warned = λ x i v. refl }
  out_same_goes _ = record { does = λ x i. refl; warned = λ x i v. refl }
