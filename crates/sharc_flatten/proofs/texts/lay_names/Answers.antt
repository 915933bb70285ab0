use Rattle.sharc_flatten.proofs.{Imports.{◌≡◌, ℕ, [], ◌+◌, ◌<◌, ◌≤◌, ◌++◌, length, Some, refl, ap, sym, subst, ◌∙◌, arith, length-set, length-map, slice_get-map, option_map, slice_get, Function, view_function, functions_in, names_of}, LineLemmas.{name_more, named_all}, ListLemmas.left_more, PlaceLemmas.{grows_by, grows_more, lies_at_end}}
use Rattle.sharc_flatten.proofs.texts.lay_names.Goals as goal

pub loop-number-preserved : goal.loop-number-preserved
loop-number-preserved c =
    let fs = functions_in c.args.typed.now.program.items in
    let f = view_function c.in-Some.of.now in
    let old = c.loop-number.bytes.items in
    let new = c.add_text.new.bytes.items in
    let rows = c.loop-number.rows.items in
    let n = c.loop-number.number in
    let inv = c.loop-number.invariant in
    let name = c.in_ok-name-in-Some.name in
    let place = c.in_ok-name-in-Some.ensures in
    let made = record c.index.result.now { name = name } in
    let text_is : c.as_slice.result.now ≡ f.name.text = c.as_slice.ensures in
    let bytes : new ≡ old ++ f.name.text = place.bytes ∙ ap (λ l. old ++ l) text_is in
    let until : name.until ≡ length old + length f.name.text = place.until ∙ ap (λ l. length old + length l) text_is in
    let within : n < length rows = omega (arith, c.loop-number-test.true, c.len-number-end.ensures, inv.size, c.args.rows.now.ok) in
    let at : slice_get fs n ≡ Some f = subst (λ (k : ℕ). slice_get fs k ≡ Some f) c.in_ok-small.ensures (sym c.in-Some.ensures) in
    let named : slice_get (names_of fs) n ≡ Some f.name.text = slice_get-map (λ (g : Function). g.name.text) fs n ∙ ap (option_map (λ (g : Function). g.name.text)) at in
    let grows = grows_by old f.name.text new bytes in
    record {
      grows = grows_more c.args.bytes.now.items old new inv.grows grows;
      size = length-set rows n made ∙ inv.size;
      left = left_more c.args.rows.now.items rows n made inv.left;
      named = name_more old new c.args.rows.now.items rows (names_of fs) n c.index.result.now made f.name.text within inv.size inv.left c.index.ensures named grows inv.named
          (λ more. record { name_at = name; is = refl; lies = lies_at_end old f.name.text new name bytes place.from until more });
    }

pub returns-clause-named : goal.returns-clause-named
returns-clause-named c =
    let fs = functions_in c.args.typed.now.program.items in
    let n = c.loop-number.number in
    let inv = c.loop-number.invariant in
    let told : length c.args.rows.now.items ≤ n = omega (arith, c.loop-number-test.false, c.len-number-end.ensures, c.args.rows.now.ok) in
    let rows : length c.loop-number.rows.items ≤ n = omega (arith, told, inv.size) in
    let names : length (names_of fs) ≤ n = omega (arith, told, c.requires, length-map fs (λ (g : Function). g.name.text)) in
    named_all c.loop-number.bytes.items c.args.rows.now.items c.loop-number.rows.items (names_of fs) n told names rows (inv.named [])
