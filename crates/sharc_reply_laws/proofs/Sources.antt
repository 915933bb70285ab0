-- A source is one program, or has one first fault.
use Rattle.sharc_reply_laws.proofs.{Imports.{◌≡◌, ℕ, List, [], Result, Ok, Err, refl, ap, sym, ◌∙◌, subst, FaultAt, Tokens, IsLow, Program, Fault, FaultCode, Named, faults, IsFirst, LexerFault, reading, GrammarFault, Reads, named_in, notes_about, Resolution, Assignment, IsTypedAtTokens, LeastIsOne, SourceFault, Lexer, Parser, Typing, IsTypedFrom, IsFront, IsMisread, IsMistyped, IsSourceFault}, FaultLemmas.{one_first, one_told}}
use Rattle.sharc_tree.specs.Placed.{IsPlaced}
use Rattle.sharc_parse.specs.Programs as parser
use Rattle.sharc_ctype.specs.Typings as typing

same_ok : {A B : Type 0} (o : Result A B) (a b : A) → o ≡ Ok a → o ≡ Ok b → a ≡ b
same_ok o a b is also = cc

same_err : {A B : Type 0} (o : Result A B) (a b : B) → o ≡ Err a → o ≡ Err b → a ≡ b
same_err o a b is also = cc

ok_or_err : {A B : Type 0} (o : Result A B) (a : A) (b : B) → o ≡ Ok a → o ≡ Err b → ⊥
ok_or_err o a b is not = cc

same_tokens : (source : List ℕ) (a b : Tokens) → reading source ≡ Ok a → reading source ≡ Ok b → a ≡ b
same_tokens source a b is also = same_ok (reading source) a b is also

no_tokens : (source : List ℕ) (a : Tokens) (at : FaultAt LexerFault) → reading source ≡ Ok a → reading source ≡ Err at → ⊥
no_tokens source a at is not = ok_or_err (reading source) a at is not

same_refusal : (source : List ℕ) (x y : FaultAt LexerFault) → reading source ≡ Err x → reading source ≡ Err y → x ≡ y
same_refusal source x y is also = same_err (reading source) x y is also

-- a typed program has no fault
no_first : (f : Fault) (list : List Fault) → list ≡ [] → IsFirst f list → ⊥
no_first f list none first = (subst (IsFirst f) none first).0

typed_faultless : (p : Program) (at : FaultAt FaultCode) → faults (notes_about p) ≡ [] → typing.IsFaultOf p at → ⊥
typed_faultless p at none fault = no_first fault.0 (faults (notes_about p)) none fault.1

one_mistyping : (p : Program) (x y : FaultAt FaultCode) → typing.IsFaultOf p x → typing.IsFaultOf p y → x ≡ y
one_mistyping p x y a b =
    let same = one_first a.0 b.0 (faults (notes_about p)) a.1 b.1 in
    one_told p.tokens b.0 x y (subst (λ (f : Fault). typing.IsToldAt p.tokens f x) same a.2) b.2

pub record ReadingLaws : Type 0 where
  pub one : (tokens : Tokens) (p q : Program) → Reads tokens p → Reads tokens q → p ≡ q
  pub low : (tokens : Tokens) (p : Program) → Reads tokens p → IsLow p
  pub placed : (tokens : Tokens) (p : Program) → Reads tokens p → IsPlaced p
  pub faultless : (tokens : Tokens) (p : Program) (at : FaultAt GrammarFault) → Reads tokens p → parser.IsFaultOf tokens at → ⊥
  pub fault : (tokens : Tokens) (x y : FaultAt GrammarFault) → parser.IsFaultOf tokens x → parser.IsFaultOf tokens y → x ≡ y

module _ (laws : ReadingLaws) (source : List ℕ) where
  same_program : (s t : Tokens) (p q : Program) → reading source ≡ Ok s → reading source ≡ Ok t → Reads s p → Reads t q → p ≡ q
  same_program s t p q is also left right = laws.one t p q (subst (λ (k : Tokens). Reads k p) (same_tokens source s t is also) left) right

  one_typed : (r q : Resolution) → IsTypedFrom source r → IsTypedFrom source q → r ≡ q
  one_typed r q a b =
      let same = same_program a.tokens b.tokens r.program q.program a.read b.read a.reads b.reads in
      let names = a.resolved.named ∙ ap named_in same ∙ sym b.resolved.named in
      let first : r ≡ record { program = q.program; named = r.named } = ap (λ (p : Program). record { program = p; named = r.named }) same in
      let second : record { program = q.program; named = r.named } ≡ q = ap (λ (l : List Named). record { program = q.program; named = l }) names in
      first ∙ second

  whole : (r : Resolution) → IsTypedFrom source r → IsTypedAtTokens r
  whole r is = record { resolved = is.resolved; placed = laws.placed is.tokens r.program is.reads; low = laws.low is.tokens r.program is.reads }

  pub one_front : LeastIsOne → (a b : Assignment) → IsFront source a → IsFront source b → a ≡ b
  one_front least a b left right = least a b (whole a.typed left.typed) left.least right.least (one_typed a.typed b.typed left.typed right.typed)

  -- ---- faults
  no_mistyping : (r : Resolution) (at : FaultAt FaultCode) → IsTypedFrom source r → IsMistyped source at → ⊥
  no_mistyping r at is fault =
      let same = same_program fault.tokens is.tokens fault.program r.program fault.read is.read fault.reads is.reads in
      typed_faultless r.program at is.resolved.typed (subst (λ (p : Program). typing.IsFaultOf p at) same fault.fault)

  pub no_fault : (m : Assignment) → IsFront source m → (fault : SourceFault) → IsSourceFault source fault → ⊥
  no_fault m front (Lexer at) fault = no_tokens source front.typed.tokens at front.typed.read fault
  no_fault m front (Parser at) fault =
      laws.faultless fault.tokens m.typed.program at (subst (λ (t : Tokens). Reads t m.typed.program) (same_tokens source front.typed.tokens fault.tokens front.typed.read fault.read) front.typed.reads) fault.fault
  no_fault m front (Typing at) fault = no_mistyping m.typed at front.typed fault

  one_misreading : (x y : FaultAt GrammarFault) → IsMisread source x → IsMisread source y → x ≡ y
  one_misreading x y a b = laws.fault b.tokens x y (subst (λ (t : Tokens). parser.IsFaultOf t x) (same_tokens source a.tokens b.tokens a.read b.read) a.fault) b.fault

  not_both : (x : FaultAt GrammarFault) (y : FaultAt FaultCode) → IsMisread source x → IsMistyped source y → ⊥
  not_both x y a b = laws.faultless b.tokens b.program x b.reads (subst (λ (t : Tokens). parser.IsFaultOf t x) (same_tokens source a.tokens b.tokens a.read b.read) a.fault)

  one_typing : (x y : FaultAt FaultCode) → IsMistyped source x → IsMistyped source y → x ≡ y
  one_typing x y a b =
      let same = same_program a.tokens b.tokens a.program b.program a.read b.read a.reads b.reads in
      one_mistyping b.program x y (subst (λ (p : Program). typing.IsFaultOf p x) same a.fault) b.fault

  pub one_fault : (x y : SourceFault) → IsSourceFault source x → IsSourceFault source y → x ≡ y
  one_fault (Lexer x) (Lexer y) a b = ap Lexer (same_refusal source x y a b)
  one_fault (Lexer x) (Parser y) a b = absurd (no_tokens source b.tokens x b.read a)
  one_fault (Lexer x) (Typing y) a b = absurd (no_tokens source b.tokens x b.read a)
  one_fault (Parser x) (Lexer y) a b = absurd (no_tokens source a.tokens y a.read b)
  one_fault (Parser x) (Parser y) a b = ap Parser (one_misreading x y a b)
  one_fault (Parser x) (Typing y) a b = absurd (not_both x y a b)
  one_fault (Typing x) (Lexer y) a b = absurd (no_tokens source a.tokens y a.read b)
  one_fault (Typing x) (Parser y) a b = absurd (not_both y x b a)
  one_fault (Typing x) (Typing y) a b = ap Typing (one_typing x y a b)
