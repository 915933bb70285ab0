-- The machine's steps over statements that hold no other.
use Rattle.sharc_parse.proofs.{Imports.{◌≡◌, ℕ, inl, inr, ◌+◌, ◌<◌, List, [], ◌∷◌, sym, ap, ◌∙◌, arith, Bool, true, false, Option, subst, eqb_tells, lt-leb, le-leb, ◌==◌, ◌⊎◌, ◌≢◌, Result, Ok, Err, Semicolon, Jump, view_expr, view_option, view_stmt, Token, Site, Span, Expr, Stmt, Word, mark, jump, Outer, as_statement, Done, a_semicolon, At, holds_items, may_declare, reads_within, around_it, crowded_line, site_in, option_size, span_at, statement_at, sentence_size, ReadingFault, Memory, option_of, by_return, ReadsTail, IsTailPlaced, bare_statement, sentence_of, BuildsStatement, ReadsReturn, IsRestPlaced}, Steps.fixed_goes}
use Rattle.sharc_tree.specs.Tree as tree

pub line_may : (o : Outer) (may : Bool) → holds_items o ≡ may → may_declare as_statement o ≡ may
line_may o may e = e

room_case : (o : Outer) (room : ℕ) → around_it o + room ≡ 64 → (((room == 0) ≡ true) × (room ≡ 0)) ⊎ (((room == 0) ≡ false) × (room ≢ 0)) → crowded_line as_statement o ≡ (room == 0)
room_case o room e (inl h) = le-leb 64 (around_it o) (omega (arith, e, h.1)) ∙ sym h.0
room_case o room e (inr h) = lt-leb 64 (around_it o) (omega (arith, e, h.1)) ∙ sym h.0

-- where there is no room a line is crowded
pub line_room : (o : Outer) (room : ℕ) → around_it o + room ≡ 64 → crowded_line as_statement o ≡ (room == 0)
line_room o room e = room_case o room e (eqb_tells room 0)

pub jump_ends : (j : Jump) (o : Outer) (y : List Word) → around_it o < 64 → reads_within (mark Semicolon ∷ y) (At (a_semicolon ∷ []) (Done (jump j) o)) ≡ reads_within y (At [] (Done (jump j) o))
jump_ends j o y h = fixed_goes a_semicolon [] (Done (jump j) o) y (lt-leb 64 (around_it o) h)

pub return_wrong : (e : ReadingFault) (old new : List Word) → ReadsTail (Err e) old new → ReadsReturn (Err e) old new
return_wrong Memory old new t = λ o. tt
return_wrong _ old new t = λ o. t by_return o

pub return_reads : (result : Result Stmt ReadingFault) (sp : Span) (x : Option Expr) (old new : List Word) → BuildsStatement result (tree.return sp (view_option view_expr x)) → ReadsTail (Ok x) old new → ReadsReturn result old new
return_reads (Ok s) sp x old new b t = λ o. t by_return o ∙ ap (λ v. reads_within new (At [] (Done (bare_statement v) o))) (sym b)
return_reads (Err Memory) sp x old new b t = λ o. tt
return_reads _ sp x old new b t = absurd b

pub over_statement : (s : ℕ → Site) (n : ℕ) (v w : tree.Statement) → v ≡ w → w ≡ statement_at s n (bare_statement w) → v ≡ statement_at s n (bare_statement v)
over_statement s n v w e h = subst (λ v. v ≡ statement_at s n (bare_statement v)) (sym e) h

-- its first word has the number before the old place
pub return_placed : (result : Result Stmt ReadingFault) (tokens : List Token) (n old new : ℕ) (sp : Span) (x : Option Expr) → BuildsStatement result (tree.return sp (view_option view_expr x)) → old ≡ n + 1 → ((length : ℕ) → new ≡ n + length → sp ≡ span_at (site_in tokens) n length) → IsTailPlaced (Ok x) tokens old new → IsRestPlaced result tokens old new
return_placed (Ok s) tokens n old new sp x b h span t = λ m e.
    let same : n ≡ m = omega (arith, e, h) in
    let span_is = span (option_size (option_of x) + 2) (omega (arith, h, t.1)) in
    let stands = over_statement (site_in tokens) n (view_stmt s) (tree.return sp (view_option view_expr x)) b (cc) in
    (stands ∙ ap (λ i. statement_at (site_in tokens) i (sentence_of s)) same, omega (arith, h, t.1, same, ap (λ v. sentence_size (bare_statement v)) b))
return_placed (Err x) tokens n old new sp y b h span t = tt
