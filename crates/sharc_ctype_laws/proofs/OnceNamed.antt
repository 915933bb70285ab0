-- No two functions have one name, where no fault is noted.
use Rattle.sharc_ctype_laws.proofs.{Imports.{◌≡◌, ℕ, zero, suc, Bool, true, false, List, [], ◌∷◌, ◌++◌, Some, refl, ap, ◌∙◌, rules, is_some, both_ways, slice_get, if◌then◌else◌, Function, Item, structure, global, function, DefinedTwice, Entry, look_up, Named, sizes_notes, Heads, with_entry, global_entry, function_entry, behind, twice, within, item_head_notes as head_notes, heads_notes, no_heads, items_notes, file_scope, notes_about, functions_in, OneFunctionOfName, same_bytes}, Held.{Clean, clean, left, right, behind_head, not_wrong}}
use Rattle.std.specs.Str.{bytes_eq}

module _ (x : List ℕ) where
  abbrev knows : List Entry → Bool
  knows names = is_some (look_up names x)

  stays : (e : Entry) (names : List Entry) → knows names ≡ true → knows (with_entry e names) ≡ true
  stays e names h = by_case (is_some (look_up names e.name)) refl
    where
      by_name : (b : Bool) → is_some (if b then Some e else look_up names x) ≡ true
      by_name true = refl
      by_name false = h

      by_case : (b : Bool) → is_some (look_up names e.name) ≡ b → knows (if is_some (look_up names e.name) then names else e ∷ names) ≡ true
      by_case true i = ap (λ z. knows (if z then names else e ∷ names)) i ∙ h
      by_case false i = ap (λ z. knows (if z then names else e ∷ names)) i ∙ by_name (bytes_eq e.name x)

  comes_in : (e : Entry) (names : List Entry) → is_some (look_up names e.name) ≡ false → e.name ≡ x → knows (with_entry e names) ≡ true
  comes_in e names new h = ap (λ z. knows (if z then names else e ∷ names)) new ∙ ap (λ z. is_some (if z then Some e else look_up names x)) (same_bytes e.name x h)

  is_new : (h : Heads) (f : Function) → Clean (head_notes h (function f)) → is_some (look_up h.scope.names f.name.text) ≡ false
  is_new h f c =
      let notes = twice (is_some (look_up h.scope.names f.name.text)) f.name.site.token in
      let rest = within 16384 h.functions f.name.site.token in
      not_wrong _ (is_some (look_up h.scope.names f.name.text)) f.name.site.token DefinedTwice (left _ notes rest (behind_head _ f.name.site.token (Named.Function h.functions) (notes ++ rest) c))

  head_clean : (h : Heads) (i : Item) (rest : List Item) → Clean (heads_notes h (i ∷ rest)) → Clean (head_notes h i)
  head_clean h i rest c = left _ (head_notes h i) (heads_notes (behind h i) rest) c

  rest_clean : (h : Heads) (i : Item) (rest : List Item) → Clean (heads_notes h (i ∷ rest)) → Clean (heads_notes (behind h i) rest)
  rest_clean h i rest c = right _ (head_notes h i) (heads_notes (behind h i) rest) c

  -- where the name is known, no later function has it
  none_behind : (h : Heads) (items : List Item) → Clean (heads_notes h items) → knows h.scope.names ≡ true → (k : ℕ) (g : Function) → slice_get (functions_in items) k ≡ Some g → g.name.text ≡ x → ⊥
  none_behind h [] c known zero g at is = absurd (cc)
  none_behind h [] c known (suc k) g at is = absurd (cc)
  none_behind h (structure s ∷ rest) c known k g at is = none_behind (behind h (structure s)) rest (rest_clean h (structure s) rest c) known k g at is
  none_behind h (global s ∷ rest) c known k g at is = none_behind (behind h (global s)) rest (rest_clean h (global s) rest c) (stays (global_entry h.globals s) h.scope.names known) k g at is
  none_behind h (function f ∷ rest) c known zero g at is =
      let same : f ≡ g = cc in
      let name : f.name.text ≡ x = ap (λ (z : Function). z.name.text) same ∙ is in
      both_ways _ (is_new h f (head_clean h (function f) rest c)) (ap (λ z. is_some (look_up h.scope.names z)) name ∙ known)
  none_behind h (function f ∷ rest) c known (suc k) g at is = none_behind (behind h (function f)) rest (rest_clean h (function f) rest c) (stays (function_entry h.functions f) h.scope.names known) k g at is

  known_by : (h : Heads) (f g : Function) (rest : List Item) → Clean (heads_notes h (function f ∷ rest)) → Some f ≡ Some g → g.name.text ≡ x → knows (behind h (function f)).scope.names ≡ true
  known_by h f g rest c at is =
      let same : f ≡ g = cc in
      comes_in (function_entry h.functions f) h.scope.names (is_new h f (head_clean h (function f) rest c)) (ap (λ (z : Function). z.name.text) same ∙ is)

  pub one_place : (h : Heads) (items : List Item) → Clean (heads_notes h items) → (j k : ℕ) (f g : Function) → slice_get (functions_in items) j ≡ Some f → slice_get (functions_in items) k ≡ Some g → f.name.text ≡ x → g.name.text ≡ x → j ≡ k
  one_place h [] c zero k f g a b i j = absurd (cc)
  one_place h [] c (suc n) k f g a b i j = absurd (cc)
  one_place h (structure s ∷ rest) c n k f g a b i j = one_place (behind h (structure s)) rest (rest_clean h (structure s) rest c) n k f g a b i j
  one_place h (global s ∷ rest) c n k f g a b i j = one_place (behind h (global s)) rest (rest_clean h (global s) rest c) n k f g a b i j
  one_place h (function d ∷ rest) c zero zero f g a b i j = refl
  one_place h (function d ∷ rest) c (suc n) (suc k) f g a b i j = ap suc (one_place (behind h (function d)) rest (rest_clean h (function d) rest c) n k f g a b i j)
  one_place h (function d ∷ rest) c zero (suc k) f g a b i j = absurd (none_behind (behind h (function d)) rest (rest_clean h (function d) rest c) (known_by h d f rest c a i) k g b j)
  one_place h (function d ∷ rest) c (suc n) zero f g a b i j = absurd (none_behind (behind h (function d)) rest (rest_clean h (function d) rest c) (known_by h d g rest c b j) n f a i)

pub one_function_of_name : OneFunctionOfName
one_function_of_name r resolved n k f g a b same =
    let p = r.program in
    let some = left _ (heads_notes no_heads p.items ++ items_notes (file_scope p.items) p.items ++ sizes_notes (file_scope p.items).structs 0 p.items) _ (clean (notes_about p) resolved.typed) in
    let lists = left _ (heads_notes no_heads p.items ++ items_notes (file_scope p.items) p.items) (sizes_notes (file_scope p.items).structs 0 p.items) some in
    one_place g.name.text no_heads p.items (left _ (heads_notes no_heads p.items) (items_notes (file_scope p.items) p.items) lists) n k f g a b same refl
