-- Which globals threads touch can be determined: by the calls that lead only through functions below a number, as that grows.
use Rattle.sharc_check.proofs.{Imports.{◌≡◌, ◌⊎◌, ⊎_elim, ℕ, zero, suc, ◌+◌, ◌<◌, ◌==◌, Bool, true, false, ◌&&◌, ◌||◌, List, [], ◌∷◌, ◌++◌, length, slice_get, refl, ap, sym, ◌∙◌, subst, arith, eqb-true, Option, Some, None, false≢true, or_cases, and_parts, and_from, or_right, or_left, slice_get_within, list_any, in_function, Function, Named, runs, spawns, of_all, Runs, Leads, IsReached, tokens_of, IsTouched, Resolution, functions_in, function_at, named_at, names_function, all_spawned, TellsTouched, equal_number as same_number, same_some, none_some, some_there, and_some as there_some, place_of_element, place_there}, Lists.{passes_there, passes_by}, ThreadRules.{flat_there, flat_from, names_is, is_names, names_global, global_is, is_global}}
use Rattle.sharc_ctype.specs.Reaches.{Names}

equal_or_below : (j k : ℕ) → j < suc k → (j ≡ k) ⊎ (j < k)
equal_or_below j k low = grind arith

module _ (r : Resolution) where
  abbrev runs_in : Option Function → ℕ → Bool
  runs_in None m = false
  runs_in (Some f) m = list_any (λ t. names_function m (named_at r t)) (of_all runs (in_function f))

  runs_is : (o : Option Function) (n m : ℕ) → function_at r n ≡ o → runs_in o m ≡ true → Runs r n m
  runs_is None n m is h = absurd (false≢true h)
  runs_is (Some f) n m is h =
      let token = passes_there (λ t. names_function m (named_at r t)) (of_all runs (in_function f)) h in
      there_some (λ f. Names r (Named.Function m) (of_all runs (in_function f))) (function_at r n) f is (token.0, token.1, names_is m (named_at r token.0) token.2)

  is_runs : (n m : ℕ) → Runs r n m → runs_in (function_at r n) m ≡ true
  is_runs n m h =
      let f = some_there (λ f. Names r (Named.Function m) (of_all runs (in_function f))) (function_at r n) h in
      ap (λ o. runs_in o m) f.1 ∙ passes_by (λ t. names_function m (named_at r t)) (of_all runs (in_function f.0)) f.2.0 f.2.1 (is_names m (named_at r f.2.0) f.2.2)

  runs_within : (n m : ℕ) → Runs r n m → n < length (functions_in r.program.items)
  runs_within n m h =
      let f = some_there (λ f. Names r (Named.Function m) (of_all runs (in_function f))) (function_at r n) h in
      slice_get_within (functions_in r.program.items) n f.0 f.1

  -- it leads from one function to the other, between them through functions below this number alone
  abbrev leads : ℕ → ℕ → ℕ → Bool
  leads zero n m = (n == m) || runs_in (function_at r n) m
  leads (suc k) n m = leads k n m || (leads k n k && leads k k m)

  joined : (n k m : ℕ) (a b : List ℕ) → Leads r n a k → Leads r k b m → Leads r n (a ++ b) m
  joined n k m [] b h j = subst (λ x. Leads r x b m) (sym h) j
  joined n k m (x ∷ a) b h j = (h.0, joined x k m a b h.1 j)

  begins : (n m : ℕ) → leads zero n m ≡ true → (between : List ℕ) × Leads r n between m
  begins n m h = ⊎_elim (λ same. ([], eqb-true n m same)) (λ runs_it. (m ∷ [], (runs_is (function_at r n) n m refl runs_it, refl))) (or_cases (n == m) (runs_in (function_at r n) m) h)

  through : (n k m : ℕ) → (between : List ℕ) × Leads r n between k → (between : List ℕ) × Leads r k between m → (between : List ℕ) × Leads r n between m
  through n k m a b = (a.0 ++ b.0, joined n k m a.0 b.0 a.1 b.1)

  lead_is : (k n m : ℕ) → leads k n m ≡ true → (between : List ℕ) × Leads r n between m
  lead_is zero n m h = begins n m h
  lead_is (suc k) n m h =
      ⊎_elim (λ old. lead_is k n m old)
      (λ new. through n k m (lead_is k n k (and_parts (leads k n k) (leads k k m) new).0) (lead_is k k m (and_parts (leads k n k) (leads k k m) new).1))
      (or_cases (leads k n m) (leads k n k && leads k k m) h)

  more : (k n m : ℕ) → leads zero n m ≡ true → leads k n m ≡ true
  more zero n m h = h
  more (suc k) n m h = or_left (leads k n m) (leads k n k && leads k k m) (more k n m h)

  by_last : (k n m : ℕ) → leads k n k ≡ true → leads k k m ≡ true → leads (suc k) n m ≡ true
  by_last k n m a b = or_right (leads k n m) (leads k n k && leads k k m) (and_from (leads k n k) (leads k k m) a b)

  to_last : (k n : ℕ) → leads (suc k) n k ≡ true → leads k n k ≡ true
  to_last k n h = ⊎_elim (λ old. old) (λ new. (and_parts (leads k n k) (leads k k k) new).0) (or_cases (leads k n k) (leads k n k && leads k k k) h)

  from_last : (k m : ℕ) → leads (suc k) k m ≡ true → leads k k m ≡ true
  from_last k m h = ⊎_elim (λ old. old) (λ new. (and_parts (leads k k k) (leads k k m) new).1) (or_cases (leads k k m) (leads k k k && leads k k m) h)

  -- what leads to a function below that number leads on from it
  pass : (k j : ℕ) → j < k → (n m : ℕ) → leads k n j ≡ true → leads k j m ≡ true → leads k n m ≡ true
  pass zero j low n m a b = absurd (omega (arith, low))
  pass (suc k) j low n m a b =
      ⊎_elim
      (λ is. by_last k n m (to_last k n (ap (leads (suc k) n) (sym is) ∙ a)) (from_last k m (ap (λ x. leads (suc k) x m) (sym is) ∙ b)))
      (λ lower.
      ⊎_elim
      (λ a_old.
      ⊎_elim
      (λ b_old. or_left (leads k n m) (leads k n k && leads k k m) (pass k j lower n m a_old b_old))
      (λ b_new. let parts = and_parts (leads k j k) (leads k k m) b_new in by_last k n m (pass k j lower n k a_old parts.0) parts.1)
      (or_cases (leads k j m) (leads k j k && leads k k m) b))
      (λ a_new.
      let first = and_parts (leads k n k) (leads k k j) a_new in
      ⊎_elim
      (λ b_old. by_last k n m first.0 (pass k j lower k m first.1 b_old))
      (λ b_new. by_last k n m first.0 (and_parts (leads k j k) (leads k k m) b_new).1)
      (or_cases (leads k j m) (leads k j k && leads k k m) b))
      (or_cases (leads k n j) (leads k n k && leads k k j) a))
      (equal_or_below j k low)

  abbrev many : ℕ
  many = length (functions_in r.program.items)

  one_step : (n m : ℕ) → Runs r n m → leads many n m ≡ true
  one_step n m h = more many n m (or_right (n == m) (runs_in (function_at r n) m) (is_runs n m h))

  no_step : (n m : ℕ) → n ≡ m → leads many n m ≡ true
  no_step n m h = more many n m (or_left (n == m) (runs_in (function_at r n) m) (ap (λ x. n == x) (sym h) ∙ same_number n))

  is_lead : (between : List ℕ) (n m : ℕ) → Leads r n between m → leads many n m ≡ true
  is_lead [] n m h = no_step n m h
  is_lead (x ∷ []) n m h = ap (leads many n) (sym h.1) ∙ one_step n x h.0
  is_lead (x ∷ (y ∷ rest)) n m h = pass many x (runs_within x y h.1.0) n m (one_step n x h.0) (is_lead (y ∷ rest) x m h.1)

  -- ---- which functions are reached

  abbrev starts : Named → ℕ → Bool
  starts (Named.Function k) m = leads many k m
  starts _ m = false

  record IsStart (what : Named) (m : ℕ) : Type 0 where
    first : ℕ
    is : what ≡ Named.Function first
    leads_on : leads many first m ≡ true

  start_is : (what : Named) (m : ℕ) → starts what m ≡ true → IsStart what m
  start_is (Named.Function k) m h = record { first = k; is = refl; leads_on = h }
  start_is _ m h = absurd (false≢true h)

  abbrev pub reached : ℕ → Bool
  reached m = list_any (λ token. starts (named_at r token) m) (all_spawned (functions_in r.program.items))

  pub reached_is : (m : ℕ) → reached m ≡ true → IsReached r m
  reached_is m h =
      let token = passes_there (λ token. starts (named_at r token) m) (all_spawned (functions_in r.program.items)) h in
      let start = start_is (named_at r token.0) m token.2 in
      let f = flat_from (λ f. of_all spawns (in_function f)) (functions_in r.program.items) token.0 token.1 in
      let n = place_of_element (functions_in r.program.items) f.0 f.1 in
      let path = lead_is many start.first m start.leads_on in
      record {
        spawner = n.0;
        first = start.first;
        spawned = there_some (λ f. Names r (Named.Function start.first) (of_all spawns (in_function f))) (function_at r n.0) f.0 n.1 (token.0, f.2, start.is);
        between = path.0;
        leads = path.1;
      }

  pub is_reached : (m : ℕ) → IsReached r m → reached m ≡ true
  is_reached m h =
      let f = some_there (λ f. Names r (Named.Function h.first) (of_all spawns (in_function f))) (function_at r h.spawner) h.spawned in
      passes_by (λ token. starts (named_at r token) m) (all_spawned (functions_in r.program.items)) f.2.0
      (flat_there (λ f. of_all spawns (in_function f)) (functions_in r.program.items) f.0 f.2.0 (place_there (functions_in r.program.items) h.spawner f.0 f.1) f.2.1)
      (ap (λ what. starts what m) f.2.2 ∙ is_lead h.between h.first m h.leads)

  -- ---- which globals are touched

  abbrev names_in : Function → ℕ → Bool
  names_in f g = list_any (λ t. names_global g (named_at r t)) (tokens_of f)

  abbrev touched_from : ℕ → List Function → ℕ → Bool
  touched_from n [] g = false
  touched_from n (f ∷ rest) g = (reached n && names_in f g) || touched_from (n + 1) rest g

  record IsToucher (n : ℕ) (fs : List Function) (g : ℕ) : Type 0 where
    place : ℕ
    number : ℕ
    function : Function
    is : number ≡ n + place
    at : slice_get fs place ≡ Some function
    reaches : reached number ≡ true
    names : names_in function g ≡ true

  next_toucher : (n : ℕ) (f : Function) (rest : List Function) (g : ℕ) → IsToucher (n + 1) rest g → IsToucher n (f ∷ rest) g
  next_toucher n f rest g t = let is = t.is in record { place = suc t.place; number = t.number; function = t.function; is = omega (arith, is); at = t.at; reaches = t.reaches; names = t.names }

  first_toucher : (n : ℕ) (f : Function) (rest : List Function) (g : ℕ) → (reached n && names_in f g) ≡ true → IsToucher n (f ∷ rest) g
  first_toucher n f rest g h = let parts = and_parts (reached n) (names_in f g) h in record { place = zero; number = n; function = f; is = omega arith; at = refl; reaches = parts.0; names = parts.1 }

  toucher : (n : ℕ) (fs : List Function) (g : ℕ) → touched_from n fs g ≡ true → IsToucher n fs g
  toucher n [] g h = absurd (false≢true h)
  toucher n (f ∷ rest) g h = ⊎_elim (λ here. first_toucher n f rest g here) (λ later. next_toucher n f rest g (toucher (n + 1) rest g later)) (or_cases (reached n && names_in f g) (touched_from (n + 1) rest g) h)

  touches : (n : ℕ) (fs : List Function) (g i j : ℕ) (f : Function) → j ≡ n + i → slice_get fs i ≡ Some f → reached j ≡ true → names_in f g ≡ true → touched_from n fs g ≡ true
  touches n [] g i j f is at h k = absurd (none_some f at)
  touches n (x ∷ rest) g zero j f is at h k =
      let here : j ≡ n = omega (arith, is) in
      or_left (reached n && names_in x g) (touched_from (n + 1) rest g) (and_from (reached n) (names_in x g) (ap reached (sym here) ∙ h) (ap (λ y. names_in y g) (same_some x f at) ∙ k))
  touches n (x ∷ rest) g (suc i) j f is at h k =
      let later : j ≡ n + 1 + i = omega (arith, is) in
      or_right (reached n && names_in x g) (touched_from (n + 1) rest g) (touches (n + 1) rest g i j f later at h k)

  abbrev pub touched : ℕ → Bool
  touched g = touched_from 0 (functions_in r.program.items) g

  touched_is : (g : ℕ) → touched g ≡ true → IsTouched r g
  touched_is g h =
      let t = toucher 0 (functions_in r.program.items) g h in
      let is = t.is in
      let same : t.number ≡ t.place = omega (arith, is) in
      let token = passes_there (λ x. names_global g (named_at r x)) (tokens_of t.function) t.names in
      record {
        by = t.number;
        reached = reached_is t.number t.reaches;
        names = there_some (λ f. Names r (Named.Global g) (tokens_of f)) (function_at r t.number) t.function (ap (slice_get (functions_in r.program.items)) same ∙ t.at) (token.0, token.1, global_is g (named_at r token.0) token.2);
      }

  is_touched : (g : ℕ) → IsTouched r g → touched g ≡ true
  is_touched g h =
      let f = some_there (λ f. Names r (Named.Global g) (tokens_of f)) (function_at r h.by) h.names in
      let same : h.by ≡ 0 + h.by = omega arith in
      touches 0 (functions_in r.program.items) g h.by h.by f.0 same f.1 (is_reached h.by h.reached) (passes_by (λ x. names_global g (named_at r x)) (tokens_of f.0) f.2.0 f.2.1 (is_global g (named_at r f.2.0) f.2.2))

  pub tells : TellsTouched r touched
  tells g = (touched_is g, is_touched g)
