use Rattle.sharc_suggest.proofs.Imports.{◌≡◌, ◌<◌, ◌-◌, false, List, length, Option, Some, None, slice_get, ap, ap₂, sym, refl, ◌∙◌, arith, slice_get_read, slice_get_past, Token, Program, begins_call, is_call_at}
use Rattle.sharc_suggest.proofs.repair.is_call_at.Goals as goal

none_begins : (before : Option Token) → false ≡ begins_call before None
none_begins None = refl
none_begins (Some t) = refl

pub returns-then-token-tokens : goal.returns-then-token-tokens
unfolding is_call_at
returns-then-token-tokens c =
    let l : List Token = c.as_slice-tokens.result.now in
    let token = c.args.token in
    let list : l ≡ c.args.typed.now.program.tokens.list = c.as_slice-tokens.ensures ∙ ap (λ (p : Program). p.tokens.list) c.program.ensures.program in
    let inside : token < length l = c.if-token-tokens.true in
    let two : c.saturating_sub-before.result ≡ token - 2 = c.saturating_sub-before.ensures in
    let lower : c.saturating_sub-before.result < length l = omega (arith, inside, two) in
    let before : slice_get l (token - 2) ≡ Some c.index-tokens-before.result =
    ap (slice_get l) (sym two) ∙ slice_get_read l (length l) c.saturating_sub-before.result c.index-tokens-before.result refl lower c.index-tokens-before.is in
    let here : slice_get l token ≡ Some c.index-tokens-token.result = slice_get_read l (length l) token c.index-tokens-token.result refl inside c.index-tokens-token.is in
    c.begins_call.ensures ∙ ap₂ begins_call (sym before ∙ ap (λ (x : List Token). slice_get x (token - 2)) list) (sym here ∙ ap (λ (x : List Token). slice_get x token) list)

pub returns-else-token-tokens : goal.returns-else-token-tokens
unfolding is_call_at
returns-else-token-tokens c =
    let l : List Token = c.as_slice-tokens.result.now in
    let token = c.args.token in
    let list : l ≡ c.args.typed.now.program.tokens.list = c.as_slice-tokens.ensures ∙ ap (λ (p : Program). p.tokens.list) c.program.ensures.program in
    let none : slice_get l token ≡ None = slice_get_past l token c.if-token-tokens.false in
    none_begins (slice_get c.args.typed.now.program.tokens.list (token - 2))
    ∙ ap (begins_call (slice_get c.args.typed.now.program.tokens.list (token - 2))) (sym none ∙ ap (λ (x : List Token). slice_get x token) list)
