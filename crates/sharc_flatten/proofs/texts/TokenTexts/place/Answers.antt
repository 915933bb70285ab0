use Rattle.sharc_flatten.proofs.{Imports.{◌≡◌, min, length, ap, sym, ◌∙◌, arith}, PlaceLemmas.{words_lie, no_words, places_length}}
use Rattle.sharc_flatten.proofs.texts.TokenTexts.place.Goals as goal

pub returns-then-from-until : goal.returns-then-from-until
returns-then-from-until c =
    let self = c.args.self.now in
    let list = self.t.now.program.tokens.list in
    let size : length self.places.items ≡ length list = ap length self.are ∙ places_length list 0 in
    let count : c.min-until.result ≡ min c.args.until (length list) = omega (arith, c.min-until.ensures, c.len.ensures, size, self.places.ok) in
    words_lie list self.places.items c.args.from c.args.until c.min-until.result c.index.result.now c.index-then-from-until.result.now self.are count c.if-from-until.true c.index.ensures c.index-then-from-until.ensures

pub returns-else-from-until : goal.returns-else-from-until
returns-else-from-until c more =
    let self = c.args.self.now in
    let list = self.t.now.program.tokens.list in
    let size : length self.places.items ≡ length list = ap length self.are ∙ places_length list 0 in
    let count : c.min-until.result ≡ min c.args.until (length list) = omega (arith, c.min-until.ensures, c.len.ensures, size, self.places.ok) in
    sym (no_words list c.args.from c.args.until c.min-until.result count c.if-from-until.false)
