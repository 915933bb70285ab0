-- The places of the items of one form lead to what has its number.
use Rattle.sharc_ctype.proofs.Imports.{◌≡◌, ℕ, zero, suc, ◌+◌, Bool, true, false, cond, List, [], ◌∷◌, ◌++◌, length, refl, ap, sym, ◌∙◌, arith, append_assoc, length-append, Option, Some, None, is_some, slice_get-map, slice_get, option_map, option_and_then, RustItem, Item, structure, global, function, view_item, view_items, structs_in, globals_in, functions_in, has_form, places_of, as_structure, as_global, as_function, ItemForm}

at_end : (before : List Item) (i : Item) (rest : List Item) (k : ℕ) → k ≡ length before → slice_get (before ++ i ∷ rest) k ≡ Some i
at_end [] i rest k e = ap (slice_get (i ∷ rest)) e
at_end (b ∷ before) i rest zero e = absurd (let no : 0 ≡ suc (length before) = e in omega arith)
at_end (b ∷ before) i rest (suc k) e = at_end before i rest k (omega arith)

module _ {A : Type 0} (pick : Item → Option A) where
  abbrev join : Option A → List A → List A
  join None l = l
  join (Some x) l = x ∷ l

  -- the items of one form, in order
  abbrev picked : List Item → List A
  picked [] = []
  picked (i ∷ rest) = join (pick i) (picked rest)

  abbrev through : List Item → Option ℕ → Option A
  through all o = option_and_then pick (option_and_then (slice_get all) o)

  leads_one : (all : List Item) (i : Item) (k : ℕ) (xs : List A) (more : List ℕ) → slice_get all k ≡ Some i → ((m : ℕ) → slice_get xs m ≡ through all (slice_get more m))
      → (o : Option A) (b : Bool) → is_some o ≡ b → pick i ≡ o → (n : ℕ) → slice_get (join o xs) n ≡ through all (slice_get (cond b (k ∷ more) more) n)
  leads_one all i k xs more here rest None true e at n = let no : false ≡ true = e in absurd (cc)
  leads_one all i k xs more here rest None false e at n = rest n
  leads_one all i k xs more here rest (Some x) true e at zero = sym (ap (option_and_then pick) here ∙ at)
  leads_one all i k xs more here rest (Some x) true e at (suc m) = rest m
  leads_one all i k xs more here rest (Some x) false e at n = let no : true ≡ false = e in absurd (cc)

  module _ (f : ItemForm) (fits : (i : Item) → is_some (pick i) ≡ has_form f i) where
    leads : (before items : List Item) (k n : ℕ) → k ≡ length before → slice_get (picked items) n ≡ through (before ++ items) (slice_get (places_of f k items) n)
    leads before [] k n e = refl
    leads before (i ∷ rest) k n e =
        leads_one (before ++ i ∷ rest) i k (picked rest) (places_of f (k + 1) rest) (at_end before i rest k e)
        (λ m. leads (before ++ i ∷ []) rest (k + 1) m (let more : k + 1 ≡ length (before ++ i ∷ []) = omega (arith, length-append before (i ∷ [])) in more)
        ∙ ap (λ all. through all (slice_get (places_of f (k + 1) rest) m)) (append_assoc before (i ∷ []) rest))
        (pick i) (has_form f i) (fits i) refl n

    counted_one : (k : ℕ) (xs : List A) (more : List ℕ) → length more ≡ length xs → (o : Option A) (b : Bool) → is_some o ≡ b → length (cond b (k ∷ more) more) ≡ length (join o xs)
    counted_one k xs more same None true e = let no : false ≡ true = e in absurd (cc)
    counted_one k xs more same None false e = same
    counted_one k xs more same (Some x) true e = ap suc same
    counted_one k xs more same (Some x) false e = let no : true ≡ false = e in absurd (cc)

    counted : (k : ℕ) (items : List Item) → length (places_of f k items) ≡ length (picked items)
    counted k [] = refl
    counted k (i ∷ rest) = counted_one k (picked rest) (places_of f (k + 1) rest) (counted (k + 1) rest) (pick i) (has_form f i) (fits i)

    viewed : (items : List RustItem) (o : Option ℕ) → option_and_then (slice_get (view_items items)) o ≡ option_map view_item (option_and_then (slice_get items) o)
    viewed items None = refl
    viewed items (Some p) = slice_get-map view_item items p

    leads_to : (items : List RustItem) (places : List ℕ) (n : ℕ) (found : Option RustItem) → places ≡ places_of f 0 (view_items items) → found ≡ option_and_then (slice_get items) (slice_get places n)
        → option_and_then pick (option_map view_item found) ≡ slice_get (picked (view_items items)) n
    leads_to items places n found are is =
        ap (λ o. option_and_then pick (option_map view_item o)) (is ∙ ap (λ l. option_and_then (slice_get items) (slice_get l n)) are)
        ∙ ap (option_and_then pick) (sym (viewed items (slice_get (places_of f 0 (view_items items)) n)))
        ∙ sym (leads [] (view_items items) 0 n refl)

structs_are : (items : List Item) → picked as_structure items ≡ structs_in items
structs_are [] = refl
structs_are (structure s ∷ rest) = ap (λ l. s ∷ l) (structs_are rest)
structs_are (global g ∷ rest) = structs_are rest
structs_are (function f ∷ rest) = structs_are rest

globals_are : (items : List Item) → picked as_global items ≡ globals_in items
globals_are [] = refl
globals_are (structure s ∷ rest) = globals_are rest
globals_are (global g ∷ rest) = ap (λ l. g ∷ l) (globals_are rest)
globals_are (function f ∷ rest) = globals_are rest

functions_are : (items : List Item) → picked as_function items ≡ functions_in items
functions_are [] = refl
functions_are (structure s ∷ rest) = functions_are rest
functions_are (global g ∷ rest) = functions_are rest
functions_are (function f ∷ rest) = ap (λ l. f ∷ l) (functions_are rest)

structs_fit : (i : Item) → is_some (as_structure i) ≡ has_form ItemForm.Struct i
structs_fit (structure s) = refl
structs_fit (global g) = refl
structs_fit (function f) = refl

globals_fit : (i : Item) → is_some (as_global i) ≡ has_form ItemForm.Global i
globals_fit (structure s) = refl
globals_fit (global g) = refl
globals_fit (function f) = refl

functions_fit : (i : Item) → is_some (as_function i) ≡ has_form ItemForm.Function i
functions_fit (structure s) = refl
functions_fit (global g) = refl
functions_fit (function f) = refl

pub to_struct : (items : List RustItem) (places : List ℕ) (n : ℕ) (found : Option RustItem) → places ≡ places_of ItemForm.Struct 0 (view_items items) → found ≡ option_and_then (slice_get items) (slice_get places n)
    → option_and_then as_structure (option_map view_item found) ≡ slice_get (structs_in (view_items items)) n
to_struct items places n found are is = leads_to as_structure ItemForm.Struct structs_fit items places n found are is ∙ ap (λ l. slice_get l n) (structs_are (view_items items))

pub to_global : (items : List RustItem) (places : List ℕ) (n : ℕ) (found : Option RustItem) → places ≡ places_of ItemForm.Global 0 (view_items items) → found ≡ option_and_then (slice_get items) (slice_get places n)
    → option_and_then as_global (option_map view_item found) ≡ slice_get (globals_in (view_items items)) n
to_global items places n found are is = leads_to as_global ItemForm.Global globals_fit items places n found are is ∙ ap (λ l. slice_get l n) (globals_are (view_items items))

pub to_function : (items : List RustItem) (places : List ℕ) (n : ℕ) (found : Option RustItem) → places ≡ places_of ItemForm.Function 0 (view_items items) → found ≡ option_and_then (slice_get items) (slice_get places n)
    → option_and_then as_function (option_map view_item found) ≡ slice_get (functions_in (view_items items)) n
to_function items places n found are is = leads_to as_function ItemForm.Function functions_fit items places n found are is ∙ ap (λ l. slice_get l n) (functions_are (view_items items))

pub struct_places_counted : (items : List Item) → length (places_of ItemForm.Struct 0 items) ≡ length (structs_in items)
struct_places_counted items = counted as_structure ItemForm.Struct structs_fit 0 items ∙ ap length (structs_are items)

pub global_places_counted : (items : List Item) → length (places_of ItemForm.Global 0 items) ≡ length (globals_in items)
global_places_counted items = counted as_global ItemForm.Global globals_fit 0 items ∙ ap length (globals_are items)

pub function_places_counted : (items : List Item) → length (places_of ItemForm.Function 0 items) ≡ length (functions_in items)
function_places_counted items = counted as_function ItemForm.Function functions_fit 0 items ∙ ap length (functions_are items)
