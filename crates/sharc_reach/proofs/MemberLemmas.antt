-- Elements with a property, and what names among a function's mean.
use Rattle.sharc_reach.proofs.{Imports.{◌≡◌, ℕ, zero, suc, ◌<◌, ◌⊎◌, List, [], ◌∷◌, ◌++◌, Option, Some, None, length, get_or, refl, ap, sym, ◌∙◌, subst, inl, inr, arith, cases_eq, IsSomeAnd, Contains, slice_get, filter_map, cons_option, Named, in_function, Function, Resolution, named_at, function_at, runs, spawns, of_all, Names, Spawns, Runs, tokens_of, NamesGlobal, Mention, NameUse, function_mentions, mentions_in, mentions_below, function_named, ran_as, spawned_as, ran, spawned, global_named}, TreeLemmas.{tokens, of_function}, OwnerLemmas.{Owned, own_function}, RunLemmas.{told, ran_token, spawned_token, function_runs, function_spawns}}

-- ---- some element has the property
abbrev pub Has : {A : Type 0} → (A → Type 0) → List A → Type 0
Has P [] = ⊥
Has P (x ∷ rest) = P x ⊎ Has P rest

pub has_same : {A : Type 0} (P Q : A → Type 0) → ((x : A) → P x → Q x) → (xs : List A) → Has P xs → Has Q xs
has_same P Q each [] h = h
has_same P Q each (x ∷ xs) (inl here) = inl (each x here)
has_same P Q each (x ∷ xs) (inr there) = inr (has_same P Q each xs there)

pub has_left : {A : Type 0} (P : A → Type 0) (xs ys : List A) → Has P xs → Has P (xs ++ ys)
has_left P [] ys h = absurd h
has_left P (x ∷ xs) ys (inl here) = inl here
has_left P (x ∷ xs) ys (inr there) = inr (has_left P xs ys there)

pub has_right : {A : Type 0} (P : A → Type 0) (xs ys : List A) → Has P ys → Has P (xs ++ ys)
has_right P [] ys h = h
has_right P (x ∷ xs) ys h = inr (has_right P xs ys h)

pub has_cases : {A : Type 0} (P : A → Type 0) (xs ys : List A) → Has P (xs ++ ys) → Has P xs ⊎ Has P ys
has_cases P [] ys h = inr h
has_cases P (x ∷ xs) ys (inl here) = inl (inl here)
has_cases P (x ∷ xs) ys (inr there) = elim (has_cases P xs ys there) [ inl a ↦ inl (inr a) | inr b ↦ inr b ]

has_at : {A : Type 0} (P : A → Type 0) (xs : List A) (x : A) (k : ℕ) → k < length xs → get_or xs k x ≡ x → P x → Has P xs
has_at P [] x k below is p = absurd (omega arith)
has_at P (y ∷ ys) x zero below is p = inl (subst P (sym is) p)
has_at P (y ∷ ys) x (suc k) below is p = inr (has_at P ys x k (omega arith) is p)

pub has_contained : {A : Type 0} (P : A → Type 0) (xs : List A) (x : A) → Contains xs x → P x → Has P xs
has_contained P xs x at p = has_at P xs x at.0 at.1 at.2 p

pub contained : {A : Type 0} (P : A → Type 0) (xs : List A) → Has P xs → (x : A) × Contains xs x × P x
contained P [] h = absurd h
contained P (x ∷ xs) (inl here) = (x, (0, omega arith, refl), here)
contained P (x ∷ xs) (inr there) =
    let found = contained P xs there in
    let at = found.1 in
    let below : at.0 < length xs = at.1 in
    (found.0, (suc at.0, omega arith, at.2), found.2)

-- what `filter_map` gives
made : {B : Type 0} (o : Option B) (rest : List B) (y : B) → o ≡ Some y → Has (λ z. z ≡ y) (cons_option o rest)
made None rest y is = absurd (let no : None ≡ Some y = is in cc)
made (Some z) rest y is = inl (let same : z ≡ y = cc in same)

later : {B : Type 0} (P : B → Type 0) (o : Option B) (rest : List B) → Has P rest → Has P (cons_option o rest)
later P None rest h = h
later P (Some z) rest h = inr h

pub has_made : {A B : Type 0} (f : A → Option B) (xs : List A) (y : B) → Has (λ x. f x ≡ Some y) xs → Has (λ z. z ≡ y) (filter_map f xs)
has_made f [] y h = absurd h
has_made f (x ∷ xs) y (inl here) = made (f x) (filter_map f xs) y here
has_made f (x ∷ xs) y (inr there) = later (λ z. z ≡ y) (f x) (filter_map f xs) (has_made f xs y there)

split : {B : Type 0} (o : Option B) (rest : List B) (y : B) → Has (λ z. z ≡ y) (cons_option o rest) → (o ≡ Some y) ⊎ Has (λ z. z ≡ y) rest
split None rest y h = inr h
split (Some z) rest y (inl here) = inl (ap (λ x. Some x) here)
split (Some z) rest y (inr there) = inr there

pub has_source : {A B : Type 0} (f : A → Option B) (xs : List A) (y : B) → Has (λ z. z ≡ y) (filter_map f xs) → Has (λ x. f x ≡ Some y) xs
has_source f [] y h = absurd h
has_source f (x ∷ xs) y h = elim (split (f x) (filter_map f xs) y h) [ inl here ↦ inl here | inr there ↦ inr (has_source f xs y there) ]

-- ---- what a name means
function_is : (what : Named) (n : ℕ) → function_named what ≡ Some n → what ≡ Named.Function n
function_is (Named.Function k) n is = let same : k ≡ n = cc in ap (λ i. Named.Function i) same
function_is (Named.Struct k) n is = absurd (let no : None ≡ Some n = is in cc)
function_is (Named.Global k) n is = absurd (let no : None ≡ Some n = is in cc)
function_is (Named.Variable k) n is = absurd (let no : None ≡ Some n = is in cc)
function_is (Named.Field k) n is = absurd (let no : None ≡ Some n = is in cc)
function_is Named.Known n is = absurd (let no : None ≡ Some n = is in cc)

pub global_is : (what : Named) (n : ℕ) → global_named what ≡ Some n → what ≡ Named.Global n
global_is (Named.Global k) n is = let same : k ≡ n = cc in ap (λ i. Named.Global i) same
global_is (Named.Struct k) n is = absurd (let no : None ≡ Some n = is in cc)
global_is (Named.Function k) n is = absurd (let no : None ≡ Some n = is in cc)
global_is (Named.Variable k) n is = absurd (let no : None ≡ Some n = is in cc)
global_is (Named.Field k) n is = absurd (let no : None ≡ Some n = is in cc)
global_is Named.Known n is = absurd (let no : None ≡ Some n = is in cc)

-- the tokens of those whose roles count
has_told : (f : NameUse → ℕ → List ℕ) (Q : Mention → Type 0) (P : ℕ → Type 0) → ((m : Mention) → Q m → Has P (f m.role m.token)) → (all : List Mention) → Has Q all → Has P (told f all)
has_told f Q P each [] h = h
has_told f Q P each (m ∷ all) (inl here) = has_left P (f m.role m.token) (told f all) (each m here)
has_told f Q P each (m ∷ all) (inr there) = has_right P (f m.role m.token) (told f all) (has_told f Q P each all there)

told_has : (f : NameUse → ℕ → List ℕ) (Q : Mention → Type 0) (P : ℕ → Type 0) → ((m : Mention) → Has P (f m.role m.token) → Q m) → (all : List Mention) → Has P (told f all) → Has Q all
told_has f Q P each [] h = h
told_has f Q P each (m ∷ all) h = elim (has_cases P (f m.role m.token) (told f all) h) [ inl here ↦ inl (each m here) | inr there ↦ inr (told_has f Q P each all there) ]

same_tokens : (all : List Mention) → told (λ any token. token ∷ []) all ≡ tokens all
same_tokens [] = refl
same_tokens (m ∷ all) = ap (λ l. m.token ∷ l) (same_tokens all)

module _ (r : Resolution) where
  names_has : (what : Named) (f : NameUse → ℕ → List ℕ) (Q : Mention → Type 0) → ((m : Mention) → Q m → Has (λ t. named_at r t ≡ what) (f m.role m.token)) → (all : List Mention) (list : List ℕ) → told f all ≡ list → Has Q all → Names r what list
  names_has what f Q each all list is h = subst (Names r what) is (contained (λ t. named_at r t ≡ what) (told f all) (has_told f Q (λ t. named_at r t ≡ what) each all h))

  has_names : (what : Named) (f : NameUse → ℕ → List ℕ) (Q : Mention → Type 0) → ((m : Mention) → Has (λ t. named_at r t ≡ what) (f m.role m.token) → Q m) → (all : List Mention) (list : List ℕ) → told f all ≡ list → Names r what list → Has Q all
  has_names what f Q each all list is h =
      told_has f Q (λ t. named_at r t ≡ what) each all (subst (Has (λ t. named_at r t ≡ what)) (sym is) (has_contained (λ t. named_at r t ≡ what) list h.0 h.1 h.2))

  -- called or spawned
  down_ran : (kind : NameUse) (t n : ℕ) → ran_as kind (named_at r t) ≡ Some n → Has (λ t. named_at r t ≡ Named.Function n) (ran_token kind t)
  down_ran NameUse.Named t n is = absurd (let no : None ≡ Some n = is in cc)
  down_ran NameUse.Called t n is = inl (function_is (named_at r t) n is)
  down_ran NameUse.Spawned t n is = inl (function_is (named_at r t) n is)

  up_ran : (kind : NameUse) (t n : ℕ) → Has (λ t. named_at r t ≡ Named.Function n) (ran_token kind t) → ran_as kind (named_at r t) ≡ Some n
  up_ran NameUse.Named t n h = absurd h
  up_ran NameUse.Called t n (inl is) = ap function_named is
  up_ran NameUse.Called t n (inr h) = absurd h
  up_ran NameUse.Spawned t n (inl is) = ap function_named is
  up_ran NameUse.Spawned t n (inr h) = absurd h

  down_spawned : (kind : NameUse) (t n : ℕ) → spawned_as kind (named_at r t) ≡ Some n → Has (λ t. named_at r t ≡ Named.Function n) (spawned_token kind t)
  down_spawned NameUse.Named t n is = absurd (let no : None ≡ Some n = is in cc)
  down_spawned NameUse.Called t n is = absurd (let no : None ≡ Some n = is in cc)
  down_spawned NameUse.Spawned t n is = inl (function_is (named_at r t) n is)

  up_spawned : (kind : NameUse) (t n : ℕ) → Has (λ t. named_at r t ≡ Named.Function n) (spawned_token kind t) → spawned_as kind (named_at r t) ≡ Some n
  up_spawned NameUse.Named t n h = absurd h
  up_spawned NameUse.Called t n h = absurd h
  up_spawned NameUse.Spawned t n (inl is) = ap function_named is
  up_spawned NameUse.Spawned t n (inr h) = absurd h

  -- in one function
  runs_in : (n k : ℕ) (o : Option Function) → Has (λ m. ran r m ≡ Some k) (mentions_in n o) → IsSomeAnd o (λ f. Names r (Named.Function k) (of_all runs (in_function f)))
  runs_in n k None h = h
  runs_in n k (Some f) h = names_has (Named.Function k) ran_token (λ m. ran r m ≡ Some k) (λ m. down_ran m.role m.token k) (function_mentions n f) (of_all runs (in_function f)) (function_runs n f) h

  in_runs : (n k : ℕ) (o : Option Function) → IsSomeAnd o (λ f. Names r (Named.Function k) (of_all runs (in_function f))) → Has (λ m. ran r m ≡ Some k) (mentions_in n o)
  in_runs n k None h = h
  in_runs n k (Some f) h = has_names (Named.Function k) ran_token (λ m. ran r m ≡ Some k) (λ m. up_ran m.role m.token k) (function_mentions n f) (of_all runs (in_function f)) (function_runs n f) h

  spawns_in : (n k : ℕ) (o : Option Function) → Has (λ m. spawned r m ≡ Some k) (mentions_in n o) → IsSomeAnd o (λ f. Names r (Named.Function k) (of_all spawns (in_function f)))
  spawns_in n k None h = h
  spawns_in n k (Some f) h = names_has (Named.Function k) spawned_token (λ m. spawned r m ≡ Some k) (λ m. down_spawned m.role m.token k) (function_mentions n f) (of_all spawns (in_function f)) (function_spawns n f) h

  in_spawns : (n k : ℕ) (o : Option Function) → IsSomeAnd o (λ f. Names r (Named.Function k) (of_all spawns (in_function f))) → Has (λ m. spawned r m ≡ Some k) (mentions_in n o)
  in_spawns n k None h = h
  in_spawns n k (Some f) h = has_names (Named.Function k) spawned_token (λ m. spawned r m ≡ Some k) (λ m. up_spawned m.role m.token k) (function_mentions n f) (of_all spawns (in_function f)) (function_spawns n f) h

  names_in : (n g : ℕ) (o : Option Function) → Has (λ m. global_named (named_at r m.token) ≡ Some g) (mentions_in n o) → IsSomeAnd o (λ f. Names r (Named.Global g) (tokens_of f))
  names_in n g None h = h
  names_in n g (Some f) h =
      names_has (Named.Global g) (λ any t. t ∷ []) (λ m. global_named (named_at r m.token) ≡ Some g) (λ m is. inl (global_is (named_at r m.token) g is)) (function_mentions n f) (tokens_of f) (same_tokens (function_mentions n f) ∙ of_function n f) h

  one_named : (g t : ℕ) → Has (λ t. named_at r t ≡ Named.Global g) (t ∷ []) → global_named (named_at r t) ≡ Some g
  one_named g t (inl is) = ap global_named is
  one_named g t (inr h) = absurd h

  in_names : (n g : ℕ) (o : Option Function) → IsSomeAnd o (λ f. Names r (Named.Global g) (tokens_of f)) → Has (λ m. global_named (named_at r m.token) ≡ Some g) (mentions_in n o)
  in_names n g None h = h
  in_names n g (Some f) h =
      has_names (Named.Global g) (λ any t. t ∷ []) (λ m. global_named (named_at r m.token) ≡ Some g) (λ m. one_named g m.token) (function_mentions n f) (tokens_of f) (same_tokens (function_mentions n f) ∙ of_function n f) h

  -- in all functions
  pub below_has : (Q : Mention → Type 0) (k : ℕ) → Has Q (mentions_below r k) → (n : ℕ) × (n < k) × Has Q (mentions_in n (function_at r n))
  below_has Q zero h = absurd h
  below_has Q (suc k) h =
      elim (has_cases Q (mentions_below r k) (mentions_in k (function_at r k)) h) [
        | inl earlier ↦ let found = below_has Q k earlier in let below : found.0 < k = found.1 in (found.0, omega arith, found.2)
        | inr here ↦ (k, omega arith, here)
      ]

  pub has_below : (Q : Mention → Type 0) (k n : ℕ) → n < k → Has Q (mentions_in n (function_at r n)) → Has Q (mentions_below r k)
  has_below Q zero n below h = absurd (omega arith)
  has_below Q (suc k) n below h =
      elim (cases_eq n k) [
        | inl same ↦ has_right Q (mentions_below r k) (mentions_in k (function_at r k)) (subst (λ i. Has Q (mentions_in i (function_at r i))) same h)
        | inr ne ↦ has_left Q (mentions_below r k) (mentions_in k (function_at r k)) (has_below Q k n (omega arith) h)
      ]

  owned_in : (n : ℕ) (o : Option Function) → Owned n (mentions_in n o)
  owned_in n None = tt
  owned_in n (Some f) = own_function n f

  owned_has : (Q : Mention → Type 0) (n : ℕ) (all : List Mention) → Owned n all → Has Q all → Has (λ m. (m.function ≡ n) × Q m) all
  owned_has Q n [] own h = h
  owned_has Q n (m ∷ all) own (inl here) = inl (own.0, here)
  owned_has Q n (m ∷ all) own (inr there) = inr (owned_has Q n all own.1 there)

  -- some name with a property, of the function with number a
  pub of_function_below : (Q : Mention → Type 0) (k a : ℕ) → Has (λ m. (m.function ≡ a) × Q m) (mentions_below r k) → (a < k) × Has Q (mentions_in a (function_at r a))
  of_function_below Q k a h =
      let found = below_has (λ m. (m.function ≡ a) × Q m) k h in
      let n = found.0 in
      let below : n < k = found.1 in
      let list = mentions_in n (function_at r n) in
      let one = contained (λ m. (m.function ≡ n) × ((m.function ≡ a) × Q m)) list (owned_has (λ m. (m.function ≡ a) × Q m) n list (owned_in n (function_at r n)) found.2) in
      let facts = one.2 in
      let same : n ≡ a = sym facts.0 ∙ facts.1.0 in
      (omega arith, subst (λ i. Has Q (mentions_in i (function_at r i))) same (has_same (λ m. (m.function ≡ a) × Q m) Q (λ m both. both.1) list found.2))

  pub below_of_function : (Q : Mention → Type 0) (k a : ℕ) → a < k → Has Q (mentions_in a (function_at r a)) → Has (λ m. (m.function ≡ a) × Q m) (mentions_below r k)
  below_of_function Q k a below h = has_below (λ m. (m.function ≡ a) × Q m) k a below (owned_has Q a (mentions_in a (function_at r a)) (owned_in a (function_at r a)) h)

  pub runs_of : (n k : ℕ) → Has (λ m. ran r m ≡ Some k) (mentions_in n (function_at r n)) → Runs r n k
  runs_of n k h = runs_in n k (function_at r n) h

  pub of_runs : (n k : ℕ) → Runs r n k → Has (λ m. ran r m ≡ Some k) (mentions_in n (function_at r n))
  of_runs n k h = in_runs n k (function_at r n) h

  pub spawns_of : (n k : ℕ) → Has (λ m. spawned r m ≡ Some k) (mentions_in n (function_at r n)) → Spawns r n k
  spawns_of n k h = spawns_in n k (function_at r n) h

  pub of_spawns : (n k : ℕ) → Spawns r n k → Has (λ m. spawned r m ≡ Some k) (mentions_in n (function_at r n))
  of_spawns n k h = in_spawns n k (function_at r n) h

  pub names_of : (n g : ℕ) → Has (λ m. global_named (named_at r m.token) ≡ Some g) (mentions_in n (function_at r n)) → NamesGlobal r n g
  names_of n g h = names_in n g (function_at r n) h

  pub of_names : (n g : ℕ) → NamesGlobal r n g → Has (λ m. global_named (named_at r m.token) ≡ Some g) (mentions_in n (function_at r n))
  of_names n g h = in_names n g (function_at r n) h

-- what is among elements has a lower number than there are
pub some_within : {A : Type 0} (P : A → Type 0) (xs : List A) (n : ℕ) → IsSomeAnd (slice_get xs n) P → n < length xs
some_within P [] n h = absurd h
some_within P (x ∷ xs) zero h = omega arith
some_within P (x ∷ xs) (suc n) h = let below = some_within P xs n h in omega arith
