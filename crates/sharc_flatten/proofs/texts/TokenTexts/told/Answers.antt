use Rattle.sharc_flatten.proofs.{Imports.{◌++◌, refl, subst, Option, Text, Spot, LineTexts, tokens_text, words_of, AreTexts}, PlaceLemmas.{lies_on, grows_more}}
use Rattle.sharc_flatten.proofs.texts.TokenTexts.told.Goals as goal

pub returns-in-None-clause-told : goal.returns-in-None-clause-told
returns-in-None-clause-told c more =
    let nothing : Text = record { from = 0; until = 0 } in
    let told : LineTexts = record { lvalue = nothing; lock = nothing } in
    subst (λ (s : Option Spot). AreTexts c.args.self.now.t.now (c.args.bytes.now.items ++ more) s told) c.in-None.ensures (record { lvalue = refl; lock = refl })

pub returns-in_ok-lock-in-Some-clause-told : goal.returns-in_ok-lock-in-Some-clause-told
returns-in_ok-lock-in-Some-clause-told c more =
    let t = c.args.self.now.t.now in
    let first = tokens_text t.program.tokens.list in
    let new = c.lock_text.new.bytes.items in
    let spot = c.in-Some.spot in
    let told : LineTexts = record { lvalue = c.place-lvalue.result; lock = c.in_ok-lock-in-Some.lock } in
    let grows = grows_more first c.args.bytes.now.items new c.requires c.in_ok-lock-in-Some.ensures.grows in
    subst (λ (s : Option Spot). AreTexts t (new ++ more) s told) c.in-Some.ensures
    (record { lvalue = lies_on first new (words_of t spot.lvalue.from spot.lvalue.until) c.place-lvalue.result c.place-lvalue.ensures grows more; lock = c.in_ok-lock-in-Some.ensures.lies more })
