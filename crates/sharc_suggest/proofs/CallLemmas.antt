-- What is suggested in a call, and in a program.
use Rattle.sharc_suggest.proofs.Imports.{◌≡◌, ℕ, zero, Bool, cond, List, [], ◌++◌, map, Option, None, ap, sym, ◌∙◌, fun_ext, flat_map-append, Span, Identifier, Expr, Expression, call, Item, view_arguments, Entry, Cast, ModeError, is_mismatch, Assignment, suggested_for, suggested_in, cast_for, CastRows, HasFirst, row_for, Giving, givings, all_givings, items_givings, told}

pub suggested_both : (m : Assignment) (named : ℕ → Bool) (a b : List Giving) → suggested_in m named (a ++ b) ≡ suggested_in m named a ++ suggested_in m named b
suggested_both m named a b = flat_map-append (suggested_for m named) a b

pub call_suggested : (m : Assignment) (named : ℕ → Bool) (scope : List Entry) (e : Expression) (s : Span) (f : Identifier) (list slice : List Expr)
    → e ≡ call s f (view_arguments list) → slice ≡ list
    → suggested_in m named (all_givings scope f.site.token (view_arguments slice) zero (view_arguments slice)) ≡ suggested_in m named (givings scope e)
call_suggested m named scope e s f list slice is slice_is =
    ap (λ (l : List Expr). suggested_in m named (all_givings scope f.site.token (view_arguments l) zero (view_arguments l))) slice_is ∙ sym (ap (λ x. suggested_in m named (givings scope x)) is)

pub casts_are : (m : Assignment) (flags : List Bool) (before after : List Cast) (items : List Item) → before ≡ [] → items ≡ m.typed.program.items
    → after ≡ before ++ suggested_in m (told flags) (items_givings items) → after ≡ suggested_in m (told flags) (items_givings m.typed.program.items)
casts_are m flags before after items none items_is is =
    is ∙ ap (λ c. c ++ suggested_in m (told flags) (items_givings items)) none ∙ ap (λ l. suggested_in m (told flags) (items_givings l)) items_is

row_is : (casts : List Cast) (rows : CastRows) → HasFirst casts rows → (e : ModeError) → row_for rows e ≡ cast_for casts e
row_is casts rows first e = ap (λ o. cond (is_mismatch e.code) o None) (first e.site.token)

-- by the table what is suggested for each of a list of errors
pub all_suggested : (casts slice : List Cast) (answer : List (Option Cast)) (rows : CastRows) (errors list : List ModeError) → slice ≡ casts → list ≡ errors → HasFirst slice rows → answer ≡ map (row_for rows) list
    → answer ≡ map (cast_for casts) errors
all_suggested casts slice answer rows errors list slice_is list_is first is =
    is ∙ ap (map (row_for rows)) list_is
    ∙ ap (λ f. map f errors) (fun_ext (λ e. row_is slice rows first e ∙ ap (λ l. cast_for l e) slice_is))
