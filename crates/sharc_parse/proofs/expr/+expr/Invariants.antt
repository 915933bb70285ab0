use Rattle.sharc_parse.proofs.Imports.{◌≡◌, ℕ, List, [], false, ◌≤◌, ◌+◌, ◌-◌, length, ◌*◌, view_arguments, Cont, Want, Have, Called, At, floor, grip, reads_within, depth, crowded, height, highest, size, rest_size, site_in, arguments_at, phrase_of, phrases_of, from, NoCall, NoMalloc, LiesAtTokens}
use Rattle.sharc_parse.specs.Machine as machine
use Rattle.sharc_parse.proofs.expr.+expr.Given as goal

abbrev pub decreases-arguments : goal.decreases-arguments
decreases-arguments l = 8 * (length l.tokens.now - l.at.now) + 4

abbrev pub decreases-binary : goal.decreases-binary
decreases-binary l = 8 * (length l.tokens.now - l.at.now) + 3

abbrev pub decreases-name_or_call : goal.decreases-name_or_call
decreases-name_or_call l = 8 * (length l.tokens.now - l.at.now)

abbrev pub decreases-postfix : goal.decreases-postfix
decreases-postfix l = 8 * (length l.tokens.now - l.at.now) + 1

abbrev pub decreases-primary : goal.decreases-primary
decreases-primary l = 8 * (length l.tokens.now - l.at.now)

abbrev pub decreases-unary : goal.decreases-unary
decreases-unary l = 8 * (length l.tokens.now - l.at.now) + 2

abbrev pub invariant-arguments-loop-arguments : goal.invariant-arguments-loop-arguments
invariant-arguments-loop-arguments l = record {
  reads : (f : List ℕ) (k : Cont) → depth k + l.room + 1 ≡ 64 → crowded k ≡ false → reads_within (from l.tokens l.fn.at) (At [] (Called f k)) ≡ reads_within (from l.tokens l.at) (At [] (Want (machine.arguments f (phrases_of l.arguments.items) k)));
  height : l.highest ≡ highest (phrases_of l.arguments.items);
  low : l.highest ≤ l.room;
  placed : view_arguments l.arguments.items ≡ arguments_at (site_in l.tokens) l.fn.at (phrases_of l.arguments.items);
  at : l.at ≡ l.fn.at + rest_size (phrases_of l.arguments.items);
  within : l.at ≤ length l.tokens;
}

abbrev pub decreases-arguments-loop-arguments : goal.decreases-arguments-loop-arguments
decreases-arguments-loop-arguments l = length l.tokens - l.at

abbrev pub invariant-binary-loop-left : goal.invariant-binary-loop-left
invariant-binary-loop-left l = record {
  reads : (k : Cont) → floor k ≤ l.least → depth k + l.room ≡ 64 → crowded k ≡ false → NoMalloc k (from l.tokens l.fn.at) → reads_within (from l.tokens l.fn.at) (At [] (Want k)) ≡ reads_within (from l.tokens l.at) (At [] (Have (phrase_of l.left.expr) k));
  height : l.left.height ≡ height (phrase_of l.left.expr);
  low : l.left.height ≤ l.room;
  stands : LiesAtTokens l.left.expr l.tokens l.fn.at;
  at : l.at ≡ l.fn.at + size (phrase_of l.left.expr);
  grip : grip (from l.tokens l.at) ≤ 11;
  within : l.at ≤ length l.tokens;
}

abbrev pub decreases-binary-loop-left : goal.decreases-binary-loop-left
decreases-binary-loop-left l = length l.tokens - l.at

abbrev pub invariant-postfix-loop-base : goal.invariant-postfix-loop-base
invariant-postfix-loop-base l = record {
  reads : (k : Cont) → floor k ≤ 12 → depth k + l.room ≡ 64 → crowded k ≡ false → NoMalloc k (from l.tokens l.fn.at) → reads_within (from l.tokens l.fn.at) (At [] (Want k)) ≡ reads_within (from l.tokens l.at) (At [] (Have (phrase_of l.base.expr) k));
  height : l.base.height ≡ height (phrase_of l.base.expr);
  low : l.base.height ≤ l.room;
  stands : LiesAtTokens l.base.expr l.tokens l.fn.at;
  at : l.at ≡ l.fn.at + size (phrase_of l.base.expr);
  call : NoCall (phrase_of l.base.expr) (from l.tokens l.at);
  within : l.at ≤ length l.tokens;
}

abbrev pub decreases-postfix-loop-base : goal.decreases-postfix-loop-base
decreases-postfix-loop-base l = length l.tokens - l.at
