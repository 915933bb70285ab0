-- The least of the chosen functions that name a global, and what is answered in all.
use Rattle.sharc_reach.proofs.{Imports.{◌≡◌, ◌≢◌, ℕ, ◌<◌, ◌≤◌, ◌⊎◌, min, Bool, true, false, List, [], ◌∷◌, Option, Some, None, length, get_or, fold, replicate, map, refl, ap, sym, ◌∙◌, subst, inl, inr, arith, cases_eq, cases_lt, false≢true, length-set, get_or-set_same, get_or-set_other, get_or-replicate, length-replicate, NodeFinding, AreFindings, Named, Resolution, named_at, functions_in, globals_in, Names, tokens_of, NamesGlobal, Mention, mentions_below, is_found, is_source, global_named, lower, lowered, named_by, lowered_by, Reaching, is_chosen, first_of, IsFirstOf, AreReached}, MemberLemmas.{Has, has_same, of_function_below, below_of_function, names_of, of_names, some_within}, PathLemmas.{graph_in, chosen_size, chosen_reached, reached_chosen, spawned_size, source_is_spawned, spawned_is_source}}

-- ---- the least number with a property
abbrev pub Least : (ℕ → Type 0) → Option ℕ → Type 0
Least P None = (f : ℕ) → P f → ⊥
Least P (Some a) = P a × ((f : ℕ) → P f → a ≤ f)

least_same : (P Q : ℕ → Type 0) → ((f : ℕ) → P f → Q f) → ((f : ℕ) → Q f → P f) → (o : Option ℕ) → Least P o → Least Q o
least_same P Q to back None least = λ f q. least f (back f q)
least_same P Q to back (Some a) least = (to a least.0, λ f q. least.1 f (back f q))

-- what one name adds: its function, where that is chosen and the name means the global
abbrev pub Adds : Bool → Option ℕ → ℕ → ℕ → ℕ → Type 0
Adds chosen what function g f = (function ≡ f) × (chosen ≡ true) × (what ≡ Some g)

lower_least : (P : ℕ → Type 0) (o : Option ℕ) (function g : ℕ) → Least P o → Least (λ f. P f ⊎ Adds true (Some g) function g f) (Some (lower o function))
lower_least P None function g least = (inr (refl, refl, refl), λ f either. elim either [ inl p ↦ absurd (least f p) | inr adds ↦ (let same : function ≡ f = adds.0 in omega arith) ])
lower_least P (Some a) function g least =
    elim (cases_lt a function) [
      | inl low ↦
          let is : a ≡ min a function = omega arith in
          (inl (subst P is least.0), λ f either. elim either [ inl p ↦ (let had = least.1 f p in omega arith) | inr adds ↦ (let same : function ≡ f = adds.0 in omega arith) ])
      | inr high ↦
          let is : function ≡ min a function = omega arith in
          (inr (is, refl, refl), λ f either. elim either [ inl p ↦ (let had = least.1 f p in omega arith) | inr adds ↦ (let same : function ≡ f = adds.0 in omega arith) ])
    ]

-- one name more
named_least : (P : ℕ → Type 0) (chosen : Bool) (what : Option ℕ) (function g : ℕ) (firsts : List (Option ℕ)) → g < length firsts → Least P (get_or firsts g None)
    → Least (λ f. P f ⊎ Adds chosen what function g f) (get_or (named_by chosen what function firsts) g None)
named_least P false what function g firsts below least =
    least_same P (λ f. P f ⊎ Adds false what function g f) (λ f p. inl p) (λ f either. elim either [ inl p ↦ p | inr adds ↦ absurd (false≢true adds.1) ]) (get_or firsts g None) least
named_least P true None function g firsts below least =
    least_same P (λ f. P f ⊎ Adds true None function g f) (λ f p. inl p) (λ f either. elim either [ inl p ↦ p | inr adds ↦ absurd (let no : None ≡ Some g = adds.2 in cc) ]) (get_or firsts g None) least
named_least P true (Some k) function g firsts below least =
    elim (cases_eq g k) [
      | inl same ↦
          subst (λ i. Least (λ f. P f ⊎ Adds true (Some i) function g f) (get_or (lowered i function firsts) g None)) same
          (subst (Least (λ f. P f ⊎ Adds true (Some g) function g f)) (sym (get_or-set_same firsts g (Some (lower (get_or firsts g None) function)) None below)) (lower_least P (get_or firsts g None) function g least))
      | inr ne ↦
          subst (Least (λ f. P f ⊎ Adds true (Some k) function g f)) (sym (get_or-set_other firsts k g (Some (lower (get_or firsts k None) function)) None ne))
          (least_same P (λ f. P f ⊎ Adds true (Some k) function g f) (λ f p. inl p) (λ f either. elim either [ inl p ↦ p | inr adds ↦ absurd (other g k ne adds.2) ]) (get_or firsts g None) least)
    ]
  where
    other : (g k : ℕ) → g ≢ k → Some k ≡ Some g → ⊥
    other g k ne is = ne (cc)

named_size : (chosen : Bool) (what : Option ℕ) (function : ℕ) (firsts : List (Option ℕ)) → length (named_by chosen what function firsts) ≡ length firsts
named_size false what function firsts = refl
named_size true None function firsts = refl
named_size true (Some k) function firsts = length-set firsts k _

-- what a name adds, of a program
abbrev pub AddsTo : Resolution → List Bool → ℕ → ℕ → Mention → Type 0
AddsTo r chosen g f m = Adds (is_chosen chosen m.function) (global_named (named_at r m.token)) m.function g f

all_least : (r : Resolution) (chosen : List Bool) (g : ℕ) (all : List Mention) (P : ℕ → Type 0) (firsts : List (Option ℕ)) → g < length firsts → Least P (get_or firsts g None)
    → Least (λ f. P f ⊎ Has (AddsTo r chosen g f) all) (get_or (fold (lowered_by r chosen) firsts all) g None)
all_least r chosen g [] P firsts below least =
    least_same P (λ f. P f ⊎ ⊥) (λ f p. inl p) (λ f either. elim either [ inl p ↦ p | inr bad ↦ absurd bad ]) (get_or firsts g None) least
all_least r chosen g (m ∷ all) P firsts below least =
    let size = named_size (is_chosen chosen m.function) (global_named (named_at r m.token)) m.function firsts in
    let after = lowered_by r chosen firsts m in
    least_same (λ f. (P f ⊎ AddsTo r chosen g f m) ⊎ Has (AddsTo r chosen g f) all) (λ f. P f ⊎ (AddsTo r chosen g f m ⊎ Has (AddsTo r chosen g f) all))
    (λ f either. elim either [ inl first ↦ elim first [ inl p ↦ inl p | inr here ↦ inr (inl here) ] | inr there ↦ inr (inr there) ])
    (λ f either. elim either [ inl p ↦ inl (inl p) | inr behind ↦ elim behind [ inl here ↦ inl (inr here) | inr there ↦ inr there ] ])
    (get_or (fold (lowered_by r chosen) after all) g None)
    (all_least r chosen g all (λ f. P f ⊎ AddsTo r chosen g f m) after (omega arith)
    (named_least P (is_chosen chosen m.function) (global_named (named_at r m.token)) m.function g firsts below least))

all_size : (r : Resolution) (chosen : List Bool) (all : List Mention) (firsts : List (Option ℕ)) → length (fold (lowered_by r chosen) firsts all) ≡ length firsts
all_size r chosen [] firsts = refl
all_size r chosen (m ∷ all) firsts = all_size r chosen all (lowered_by r chosen firsts m) ∙ named_size (is_chosen chosen m.function) (global_named (named_at r m.token)) m.function firsts

-- ---- the answers for a program
module _ (r : Resolution) (count : ℕ) (counted : count ≡ length (functions_in r.program.items)) (findings : List NodeFinding) (found : AreFindings (graph_in r count) findings) where
  namer_within : (f g : ℕ) → NamesGlobal r f g → f < count
  namer_within f g names = let below = some_within (λ d. Names r (Named.Global g) (tokens_of d)) (functions_in r.program.items) f names in omega arith

  adds_named : (chosen : List Bool) (f g : ℕ) → NamesGlobal r f g → is_chosen chosen f ≡ true → Has (AddsTo r chosen g f) (mentions_below r count)
  adds_named chosen f g names is =
      has_same (λ m. (m.function ≡ f) × (global_named (named_at r m.token) ≡ Some g)) (AddsTo r chosen g f) (λ m both. (both.0, ap (is_chosen chosen) both.0 ∙ is, both.1)) (mentions_below r count)
      (below_of_function r (λ m. global_named (named_at r m.token) ≡ Some g) count f (namer_within f g names) (of_names r f g names))

  named_adds : (chosen : List Bool) (f g : ℕ) → Has (AddsTo r chosen g f) (mentions_below r count) → (f < count) × NamesGlobal r f g
  named_adds chosen f g adds =
      let one =
      of_function_below r (λ m. global_named (named_at r m.token) ≡ Some g) count f
      (has_same (AddsTo r chosen g f) (λ m. (m.function ≡ f) × (global_named (named_at r m.token) ≡ Some g)) (λ m a. (a.0, a.2)) (mentions_below r count) adds) in
      (one.0, names_of r f g one.1)

  chosen_adds : (chosen : List Bool) (f g : ℕ) (all : List Mention) → Has (AddsTo r chosen g f) all → is_chosen chosen f ≡ true
  chosen_adds chosen f g [] h = absurd h
  chosen_adds chosen f g (m ∷ all) (inl here) = ap (is_chosen chosen) (sym here.0) ∙ here.1
  chosen_adds chosen f g (m ∷ all) (inr there) = chosen_adds chosen f g all there

  first_from : (g : ℕ) (o : Option ℕ) → Least (λ f. ⊥ ⊎ Has (AddsTo r (map is_found findings) g f) (mentions_below r count)) o → IsFirstOf r g o
  first_from g None least = λ touched.
      let chosen = map is_found findings in
      least touched.by (inr (adds_named chosen touched.by g touched.names (reached_chosen r count counted findings found touched.by (namer_within touched.by g touched.names) touched.reached)))
  first_from g (Some first) least =
      let chosen = map is_found findings in
      let adds : Has (AddsTo r chosen g first) (mentions_below r count) = elim least.0 [ inl bad ↦ absurd bad | inr adding ↦ adding ] in
      let one = named_adds chosen first g adds in
      record {
        reached = chosen_reached r count counted findings found first one.0 (chosen_adds chosen first g (mentions_below r count) adds);
        names = one.1;
        least = λ other reached names. least.1 other (inr (adds_named chosen other g names (reached_chosen r count counted findings found other (namer_within other g names) reached)));
      }

  pub all_reached : (a : Reaching) → a.functions ≡ map is_found findings → a.spawned ≡ map is_source findings → a.firsts ≡ fold (lowered_by r a.functions) (replicate (length (globals_in r.program.items)) None) (mentions_below r count) → AreReached r a
  all_reached a functions_are spawned_are firsts_are =
      let globals = length (globals_in r.program.items) in
      let chosen = map is_found findings in
      let start : List (Option ℕ) = replicate globals None in
      let firsts : a.firsts ≡ fold (lowered_by r chosen) start (mentions_below r count) = firsts_are ∙ ap (λ c. fold (lowered_by r c) start (mentions_below r count)) functions_are in
      let function_size : length a.functions ≡ count = ap length functions_are ∙ chosen_size r count counted findings found in
      let sources_size : length a.spawned ≡ count = ap length spawned_are ∙ spawned_size r count counted findings found in
      let start_size : length start ≡ globals = length-replicate globals None in
      let global_size : length a.firsts ≡ globals = ap length firsts ∙ all_size r chosen (mentions_below r count) start ∙ start_size in
      record {
        function_count = function_size ∙ counted;
        spawned_count = sources_size ∙ counted;
        global_count = global_size;
        functions = λ n below. (
          λ is. chosen_reached r count counted findings found n (omega arith) (ap (λ c. is_chosen c n) (sym functions_are) ∙ is),
          λ reached. ap (λ c. is_chosen c n) functions_are ∙ reached_chosen r count counted findings found n (omega arith) reached,
        );
        spawned = λ n below. (
          λ is. source_is_spawned r count counted findings found n (omega arith) (ap (λ c. is_chosen c n) (sym spawned_are) ∙ is),
          λ has. ap (λ c. is_chosen c n) spawned_are ∙ spawned_is_source r count counted findings found n (omega arith) has,
        );
        globals = λ g below.
            let inside : g < globals = omega arith in
            first_from g (first_of a g)
            (subst (λ l. Least (λ f. ⊥ ⊎ Has (AddsTo r chosen g f) (mentions_below r count)) (get_or l g None)) (sym firsts)
            (all_least r chosen g (mentions_below r count) (λ f. ⊥) start (omega arith)
            (subst (Least (λ f. ⊥)) (sym (get_or-replicate globals g None None inside)) (λ f bad. bad))));
      }
