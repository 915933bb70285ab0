-- A thread of code tells nothing only before its Started, and has nothing then.
use Rattle.sharc_wants_laws.proofs.Imports.{◌≡◌, ℕ, ◌*◌, ◌⊎◌, inl, inr, Bool, true, false, cond, List, [], ◌∷◌, ◌++◌, length, Some, map, replicate, refl, sym, ap, ◌∙◌, subst, slice_get, slice_index, get_or as slice_index_or, option_to_list, SourceEvent, Code, Instr, Exit, Start, Shape, Rests, Enters, FRAMES, Machine, act, instr_at, after, begun, machine_after, most_refs, in_start, said, speaks_of, Elements, said_in, said_now, IsGenerated, instr_of, program_of, Guarded, IsGuarded, is_freed, staged_of, HasNothing, zero_at}
use Rattle.sharc_code.specs.{Machine.start, Path.turn}

left_empty : (xs ys : List SourceEvent) → xs ++ ys ≡ [] → xs ≡ []
left_empty [] ys e = refl
left_empty (x ∷ xs) ys e = absurd (cc)

right_empty : (xs ys : List SourceEvent) → xs ++ ys ≡ [] → ys ≡ []
right_empty [] ys e = e
right_empty (x ∷ xs) ys e = absurd (cc)

some_told : (e : SourceEvent) → option_to_list (Some e) ≡ [] → ⊥
some_told e h = cc

freed_or_zero : (b : Bool) (v : ℕ) → v ≡ 0 → cond b 0 v ≡ 0
freed_or_zero true v e = refl
freed_or_zero false v e = e

record IsUnread (code : Code) (m : Machine) : Type 0 where
  pc : m.at.pc ≡ 0
  refs : m.refs ≡ replicate (FRAMES * most_refs code.functions.items) 0
  stage : (m.own.stage ≡ Rests) ⊎ ((f : ℕ) × (m.own.stage ≡ Enters f))

module _ (code : Code) (s : Shape) (thread site : ℕ) (start_is : instr_at code 0 ≡ Start site) (T : ℕ → Elements) where
  next : (now : Machine) (E : Elements) (found : ℕ) → IsUnread code now → option_to_list (said_now code E now found) ≡ [] → IsUnread code (after (turn code s now) found)
  next now E found u none = subst (λ i. IsUnread code (after (act code s i now) found)) (sym here) (by u.stage)
    where
      here : instr_at code now.at.pc ≡ Start site
      here = ap (instr_at code) u.pc ∙ start_is

      nothing : option_to_list (said code (Start site) now found (E (speaks_of (Start site) now found))) ≡ []
      nothing = subst (λ i. option_to_list (said code i now found (E (speaks_of i now found))) ≡ []) here none

      by : (now.own.stage ≡ Rests) ⊎ ((f : ℕ) × (now.own.stage ≡ Enters f)) → IsUnread code (after (act code s (Start site) now) found)
      by (inl rests) = subst (λ st. IsUnread code (after (start code now site st) found)) (sym rests) (record { pc = u.pc; refs = u.refs; stage = inr (_, refl) })
      by (inr enters) = absurd (some_told _ (subst (λ st. option_to_list (in_start code now found (E (speaks_of (Start site) now found)) st) ≡ []) enters.1 nothing))

  unread : (founds : List ℕ) → said_in code s (begun code s thread) T founds ≡ [] → IsUnread code (machine_after code s (begun code s thread) founds)
  unread [] e = record { pc = refl; refs = refl; stage = inl refl }
  unread (found ∷ earlier) e =
      next (machine_after code s (begun code s thread) earlier) (T (length earlier)) found (unread earlier (left_empty _ _ e)) (right_empty (said_in code s (begun code s thread) T earlier) _ e)

unread_nothing : (code : Code) (m : Machine) → IsUnread code m → HasNothing code m
unread_nothing code m u = record {
  registers = λ i. freed_or_zero (is_freed (instr_at code m.at.pc) m.own.stage m.at.refs i) (slice_index m.refs i) (ap (λ xs. slice_index xs i) u.refs ∙ zero_at (FRAMES * most_refs code.functions.items) i);
  hand = by u.stage;
}
  where
    by : (m.own.stage ≡ Rests) ⊎ ((f : ℕ) × (m.own.stage ≡ Enters f)) → staged_of m.own.stage ≡ 0
    by (inl rests) = ap staged_of rests
    by (inr enters) = ap staged_of enters.1

first_is : (f : Instr → Instr) (xs : List Instr) (i : Instr) → slice_get xs 0 ≡ Some i → slice_index_or (map f xs) 0 Exit ≡ f i
first_is f [] i e = absurd (cc)
first_is f (x ∷ xs) i e = let same : x ≡ i = cc in ap f same

-- of code that is made of guarded code
pub nothing_there : (g : Guarded) (code : Code) → IsGenerated g code → IsGuarded (program_of g) → (s : Shape) (thread : ℕ) (T : ℕ → Elements) (founds : List ℕ) → said_in code s (begun code s thread) T founds ≡ []
    → HasNothing code (machine_after code s (begun code s thread) founds)
nothing_there g code is good s thread T founds e =
    unread_nothing code (machine_after code s (begun code s thread) founds) (unread code s thread good.start
    (ap (λ xs. slice_index_or xs 0 Exit) is.instrs ∙ first_is (instr_of g.functions.items) g.statements.items (Start good.start) good.starts) T founds e)
