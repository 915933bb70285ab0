use Rattle.sharc_lex.proofs.{Imports.{◌≡◌, ◌++◌, ◌∷◌, [], ◌-◌, false, length, get_or, take, drop, sym, ap, ◌∙◌, subst, arith, rules, common_steps, is_white_space, Steps, token_at}, LineLemmas.step_token}
use Rattle.sharc_lex.proofs.lines.step.Goals as goal

pub returns-in_ok-push-in-Ok-clause-read : goal.returns-in_ok-push-in-Ok-clause-read
returns-in_ok-push-in-Ok-clause-read c =
    let tokens = c.args.tokens.now.items in
    let bytes = c.args.bytes.now in
    let black : is_white_space (get_or bytes 0 0) ≡ false = search rules in
    let pushed = c.in_ok-push-in-Ok.ensures.items ∙ ap (λ t. tokens ++ t ∷ []) c.in_ok-make_token-in-Ok.ensures in
    let others : take (length bytes - 1) (drop 1 bytes) ≡ drop 1 bytes = grind (arith, common_steps) in
    subst (λ new. Steps tokens new c.args.place c.args.offset bytes c.in-Ok.found.len) (sym pushed)
    (step_token tokens c.args.place c.args.offset bytes c.in-Ok.found c.requires.some black (sym (c.token_at.ensures.token ∙ ap (token_at (get_or bytes 0 0)) others) ∙ c.in-Ok.is))
