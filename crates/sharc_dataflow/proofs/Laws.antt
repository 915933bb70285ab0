-- Laws of the ways to an exit.
use Rattle.sharc_dataflow.proofs.Imports.{◌≡◌, ℕ, Option, Some, None, Bool, true, false, ◌&&◌, ◌||◌, refl, ap, sym, ◌∙◌, arith, Way, lower, kept, follow, either, free, closed}

pub lower_none : (o : Option ℕ) → lower o None ≡ o
lower_none None = refl
lower_none (Some a) = refl

pub lower_same : (o : Option ℕ) → lower o o ≡ o
lower_same None = refl
lower_same (Some a) = ap Some (omega arith)

pub lower_turned : (o p : Option ℕ) → lower o p ≡ lower p o
lower_turned None (Some b) = refl
lower_turned (Some a) (Some b) = ap Some (omega arith)
lower_turned None None = refl
lower_turned (Some a) None = refl

pub lower_assoc : (o p q : Option ℕ) → lower (lower o p) q ≡ lower o (lower p q)
lower_assoc (Some a) (Some b) (Some d) = ap Some (omega arith)
lower_assoc _ _ _ = refl

and_true : (b : Bool) → b && true ≡ b
and_true true = refl
and_true false = refl

and_false : (b : Bool) → b && false ≡ false
and_false true = refl
and_false false = refl

and_assoc : (a b d : Bool) → (a && b) && d ≡ a && (b && d)
and_assoc true b d = refl
and_assoc false b d = refl

and_or : (a b d : Bool) → a && (b || d) ≡ (a && b) || (a && d)
and_or true b d = refl
and_or false b d = refl

or_false : (b : Bool) → b || false ≡ b
or_false true = refl
or_false false = refl

or_assoc : (a b d : Bool) → (a || b) || d ≡ a || (b || d)
or_assoc true b d = refl
or_assoc false b d = refl

pub kept_none : (b : Bool) → kept b None ≡ None
kept_none true = refl
kept_none false = refl

kept_lower : (b : Bool) (o p : Option ℕ) → kept b (lower o p) ≡ lower (kept b o) (kept b p)
kept_lower true o p = refl
kept_lower false o p = refl

kept_and : (a b : Bool) (o : Option ℕ) → kept b (kept a o) ≡ kept (a && b) o
kept_and true b o = refl
kept_and false b o = kept_none b

kept_or : (a b : Bool) (o : Option ℕ) → kept (a || b) o ≡ lower (kept a o) (kept b o)
kept_or true true o = sym (lower_same o)
kept_or true false o = sym (lower_none o)
kept_or false b o = refl

abbrev pub way_of : Option ℕ → Bool → Way
way_of o b = record { least = o; clear = b }

same : (o p : Option ℕ) (a b : Bool) → o ≡ p → a ≡ b → way_of o a ≡ way_of p b
same o p a b e f = rw (e, f) refl

swap_middle : (a b d e : Option ℕ) → lower (lower a b) (lower d e) ≡ lower (lower a d) (lower b e)
swap_middle a b d e =
    lower_assoc a b (lower d e) ∙ ap (lower a) (sym (lower_assoc b d e) ∙ ap (λ z. lower z e) (lower_turned b d) ∙ lower_assoc d b e) ∙ sym (lower_assoc a d (lower b e))

pub follow_free : (p : Way) → follow p free ≡ p
follow_free p = same p.least p.least (p.clear && true) p.clear refl (and_true p.clear)

pub free_follow : (p : Way) → follow free p ≡ p
free_follow p = same (lower p.least (kept p.clear None)) p.least p.clear p.clear (ap (lower p.least) (kept_none p.clear) ∙ lower_none p.least) refl

pub follow_closed : (p : Way) → follow p closed ≡ closed
follow_closed p = same None None (p.clear && false) false refl (and_false p.clear)

pub follow_assoc : (p q r : Way) → follow (follow p q) r ≡ follow p (follow q r)
follow_assoc p q r =
    same (lower r.least (kept r.clear (lower q.least (kept q.clear p.least)))) (lower (lower r.least (kept r.clear q.least)) (kept (q.clear && r.clear) p.least)) ((p.clear && q.clear) && r.clear) (p.clear && (q.clear && r.clear))
    (ap (lower r.least) (kept_lower r.clear q.least (kept q.clear p.least) ∙ ap (lower (kept r.clear q.least)) (kept_and q.clear r.clear p.least)) ∙ sym (lower_assoc r.least (kept r.clear q.least) (kept (q.clear && r.clear) p.least)))
    (and_assoc p.clear q.clear r.clear)

pub follow_either : (p q r : Way) → follow p (either q r) ≡ either (follow p q) (follow p r)
follow_either p q r =
    same (lower (lower q.least r.least) (kept (q.clear || r.clear) p.least)) (lower (lower q.least (kept q.clear p.least)) (lower r.least (kept r.clear p.least))) (p.clear && (q.clear || r.clear)) ((p.clear && q.clear) || (p.clear && r.clear))
    (ap (lower (lower q.least r.least)) (kept_or q.clear r.clear p.least) ∙ swap_middle q.least r.least (kept q.clear p.least) (kept r.clear p.least))
    (and_or p.clear q.clear r.clear)

pub either_assoc : (p q r : Way) → either (either p q) r ≡ either p (either q r)
either_assoc p q r = same (lower (lower p.least q.least) r.least) (lower p.least (lower q.least r.least)) ((p.clear || q.clear) || r.clear) (p.clear || (q.clear || r.clear)) (lower_assoc p.least q.least r.least) (or_assoc p.clear q.clear r.clear)

pub either_closed : (p : Way) → either p closed ≡ p
either_closed p = same (lower p.least None) p.least (p.clear || false) p.clear (lower_none p.least) (or_false p.clear)
