use Rattle.sharc_lex.proofs.{Imports.{sym, ◌∙◌, refl, arith, length, ◌∷◌, [], keywords}, WordLemmas.{entry_at-of_length, entry_at-other_length, not_among}}
use Rattle.sharc_lex.proofs.words.keyword.Goals as goal

pub returns-in-2 : goal.returns-in-2
unfolding keywords
returns-in-2 c = c.look_up.ensures ∙ sym (entry_at-of_length keywords c.args.text.now 2 (omega arith))

pub returns-in-3 : goal.returns-in-3
unfolding keywords
returns-in-3 c = c.look_up-in-3.ensures ∙ sym (entry_at-of_length keywords c.args.text.now 3 (omega arith))

pub returns-in-4 : goal.returns-in-4
unfolding keywords
returns-in-4 c = c.look_up-in-4.ensures ∙ sym (entry_at-of_length keywords c.args.text.now 4 (omega arith))

pub returns-in-5 : goal.returns-in-5
unfolding keywords
returns-in-5 c = c.look_up-in-5.ensures ∙ sym (entry_at-of_length keywords c.args.text.now 5 (omega arith))

pub returns-in-6 : goal.returns-in-6
unfolding keywords
returns-in-6 c = c.look_up-in-6.ensures ∙ sym (entry_at-of_length keywords c.args.text.now 6 (omega arith))

pub returns-in-7 : goal.returns-in-7
unfolding keywords
returns-in-7 c = c.look_up-in-7.ensures ∙ sym (entry_at-of_length keywords c.args.text.now 7 (omega arith))

pub returns-in-8 : goal.returns-in-8
unfolding keywords
returns-in-8 c = c.look_up-in-8.ensures ∙ sym (entry_at-of_length keywords c.args.text.now 8 (omega arith))

pub returns-in-9 : goal.returns-in-9
unfolding keywords
returns-in-9 c = c.look_up-in-9.ensures ∙ sym (entry_at-of_length keywords c.args.text.now 9 (omega arith))

pub returns-in-10 : goal.returns-in-10
unfolding keywords
returns-in-10 c = c.look_up-in-10.ensures ∙ sym (entry_at-of_length keywords c.args.text.now 10 (omega arith))

pub returns-in-13 : goal.returns-in-13
unfolding keywords
returns-in-13 c = c.look_up-in-13.ensures ∙ sym (entry_at-of_length keywords c.args.text.now 13 (omega arith))

pub returns-in-14 : goal.returns-in-14
unfolding keywords
returns-in-14 c = c.look_up-in-14.ensures ∙ sym (entry_at-of_length keywords c.args.text.now 14 (omega arith))

pub returns-in_default : goal.returns-in_default
unfolding keywords
returns-in_default c =
    let len = length c.args.text.now in
    sym (entry_at-other_length keywords c.args.text.now (2 ∷ 3 ∷ 4 ∷ 5 ∷ 6 ∷ 7 ∷ 8 ∷ 9 ∷ 10 ∷ 13 ∷ 14 ∷ []) refl (not_among len 2 (3 ∷ 4 ∷ 5 ∷ 6 ∷ 7 ∷ 8 ∷ 9 ∷ 10 ∷ 13 ∷ 14 ∷ []) (omega arith) (not_among len 3 (4 ∷ 5 ∷ 6 ∷ 7 ∷ 8 ∷ 9 ∷ 10 ∷ 13 ∷ 14 ∷ []) (omega arith) (not_among len 4 (5 ∷ 6 ∷ 7 ∷ 8 ∷ 9 ∷ 10 ∷ 13 ∷ 14 ∷ []) (omega arith) (not_among len 5 (6 ∷ 7 ∷ 8 ∷ 9 ∷ 10 ∷ 13 ∷ 14 ∷ []) (omega arith) (not_among len 6 (7 ∷ 8 ∷ 9 ∷ 10 ∷ 13 ∷ 14 ∷ []) (omega arith) (not_among len 7 (8 ∷ 9 ∷ 10 ∷ 13 ∷ 14 ∷ []) (omega arith) (not_among len 8 (9 ∷ 10 ∷ 13 ∷ 14 ∷ []) (omega arith) (not_among len 9 (10 ∷ 13 ∷ 14 ∷ []) (omega arith) (not_among len 10 (13 ∷ 14 ∷ []) (omega arith) (not_among len 13 (14 ∷ []) (omega arith) (not_among len 14 ([]) (omega arith) refl))))))))))))
