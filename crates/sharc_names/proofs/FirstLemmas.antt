-- The fault that is kept is the first of all.
use Rattle.sharc_names.proofs.Imports.{◌≡◌, ◌⊎◌, inl, inr, ℕ, ◌==◌, nat_lt, Bool, true, false, cond, ◌||◌, ◌&&◌, List, [], ◌∷◌, fold, refl, ap, sym, subst, ◌∙◌, arith, Some, None, nat_tests, AllByRecursion, Fault, Note, fault, refers, yields, Findings, digit, is_before, first_of, noted, faults, IsAmong, IsAnswer}

pub first_of_notes : (f : Findings) (list : List Note) → (fold noted f list).first ≡ fold first_of f.first (faults list)
first_of_notes f [] = refl
first_of_notes f (fault place code ∷ rest) = first_of_notes (noted f (fault place code)) rest
first_of_notes f (refers token what ∷ rest) = first_of_notes (noted f (refers token what)) rest
first_of_notes f (yields token what ∷ rest) = first_of_notes (noted f (yields token what)) rest

abbrev earlier : ℕ → ℕ → ℕ → ℕ → Bool
earlier p a q b = nat_lt p q || (p == q && nat_lt a b)

not_self : (p a : ℕ) → earlier p a p a ≡ false
not_self p a = grind (arith, nat_tests)

asymmetric : (p a q b : ℕ) → earlier p a q b ≡ true → earlier q b p a ≡ false
asymmetric p a q b h = grind (arith, nat_tests)

through : (p a q b r c : ℕ) → earlier p a q b ≡ false → earlier q b r c ≡ false → earlier p a r c ≡ false
through p a q b r c h i = grind (arith, nat_tests)

record Best (old : Fault) (list : List Fault) : Type 0 where
  first : Fault
  is : fold first_of (Some old) list ≡ Some first
  after_old : is_before old first ≡ false
  among : (first ≡ old) ⊎ IsAmong first list
  none : AllByRecursion (λ g. is_before g first ≡ false) list

old_or_later : (f old g : Fault) (rest : List Fault) → (f ≡ old) ⊎ IsAmong f rest → (f ≡ old) ⊎ IsAmong f (g ∷ rest)
old_or_later f old g rest (inl e) = inl e
old_or_later f old g rest (inr h) = inr (inr h)

next : (old g : Fault) (rest : List Fault) (b : Bool) → is_before g old ≡ b → Best g rest → Best old rest → Best old (g ∷ rest)
next old g rest true is_new r s = record {
  first = r.first;
  is = ap (λ b. fold first_of (cond b (Some g) (Some old)) rest) is_new ∙ r.is;
  after_old = through old.place (digit old.code) g.place (digit g.code) r.first.place (digit r.first.code) (asymmetric g.place (digit g.code) old.place (digit old.code) is_new) r.after_old;
  among = inr r.among;
  none = (r.after_old, r.none);
}
next old g rest false is_old r s = record {
  first = s.first;
  is = ap (λ b. fold first_of (cond b (Some g) (Some old)) rest) is_old ∙ s.is;
  after_old = s.after_old;
  among = old_or_later s.first old g rest s.among;
  none = (through g.place (digit g.code) old.place (digit old.code) s.first.place (digit s.first.code) is_old s.after_old, s.none);
}

best : (old : Fault) (list : List Fault) → Best old list
best old [] = record { first = old; is = refl; after_old = not_self old.place (digit old.code); among = inl refl; none = tt }
best old (g ∷ rest) = next old g rest (is_before g old) refl (best g rest) (best old rest)

first_is_answer : (list : List Fault) → IsAnswer (fold first_of None list) list
first_is_answer [] = refl
first_is_answer (f ∷ rest) = let r = best f rest in subst (λ a. IsAnswer a (f ∷ rest)) (sym r.is) (r.among, (r.after_old, r.none))

-- what is kept over all notes is the first fault of all
pub kept_is_answer : (f : Findings) (list : List Note) → f.first ≡ None → IsAnswer (fold noted f list).first (faults list)
kept_is_answer f list none = subst (λ a. IsAnswer a (faults list)) (sym (first_of_notes f list ∙ ap (λ o. fold first_of o (faults list)) none)) (first_is_answer (faults list))
