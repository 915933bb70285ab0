-- How blocks end, one after the other.
use Rattle.sharc_flatten.proofs.Imports.{◌≡◌, ℕ, ◌+◌, ◌-◌, ◌<◌, ◌≤◌, List, [], ◌∷◌, ◌++◌, length, take, drop, reverse, ap, sym, ◌∙◌, arith, take_all, take-append-drop, reverse-append, drop_all, innermost, outermost}

-- all blocks, those within the innermost loop first
pub innermost_all : (kept : ℕ) (marks : List ℕ) → innermost 0 marks ≡ innermost kept marks ++ outermost kept marks
innermost_all kept marks = ap reverse (sym (take-append-drop kept marks)) ∙ reverse-append (take kept marks) (drop kept marks)

-- within a loop of which all blocks are outside
pub innermost_none : (marks : List ℕ) → innermost (length marks) marks ≡ []
innermost_none marks = ap reverse (drop_all (length marks) marks (omega arith))

pub outermost_whole : (kept : ℕ) (marks : List ℕ) → outermost (length marks) marks ≡ innermost kept marks ++ outermost kept marks
outermost_whole kept marks = ap reverse (take_all (length marks) marks (omega arith)) ∙ innermost_all kept marks
