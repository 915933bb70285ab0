-- What a fault prints, and what a failed call says.
use Rattle.std.specs.Prelude.{◌≡◌, ℕ, List, [], ◌∷◌, Result, Ok, Err}
use Rattle.sharc_tree.specs.declared.token.FaultAt.{FaultAt}
use Rattle.sharc_lex.specs.{declared.fault.LineFailure.LineFailure, declared.fault.TokenFault.TokenFault}
use Rattle.sharc_lex.specs.{declared.fault.LexFault.LexFault, declared.fault.LineFault.LineFault}
use Rattle.sharc_lex.specs.declared.fault.LineFailure.TheVariants as failure
use Rattle.sharc_lex.specs.declared.fault.TokenFault.TheVariants as fault
use Rattle.sharc_lex.specs.declared.fault.LexFault.TheVariants as lex

-- the digit of a fault's code, and the byte that it prints
abbrev pub digit_of : TokenFault → ℕ
digit_of (fault.Byte b) = 1
digit_of fault.Number = 2
digit_of fault.Marker = 3
digit_of fault.Identifier = 4
digit_of fault.Character = 5

abbrev pub text_of : TokenFault → List ℕ
text_of (fault.Byte b) = b ∷ []
text_of fault.Number = []
text_of fault.Marker = []
text_of fault.Identifier = []
text_of fault.Character = []

-- A failure is the fault that the grammar says, or that memory ran out, of which nothing is said.
abbrev pub Fails : {A : Type 0} → LineFailure → Result A LineFault → Type 0
Fails (failure.At found) read = read ≡ Err found
Fails failure.Memory read = Unit {0}

abbrev pub Refuses : {A : Type 0} → LexFault → Result A (FaultAt TokenFault) → Type 0
Refuses (lex.At found) read = read ≡ Err found
Refuses lex.Memory read = Unit {0}

-- A fault with its place is this one, or memory was wanting.
abbrev pub Tells : LexFault → FaultAt TokenFault → Type 0
Tells (lex.At found) told = found ≡ told
Tells lex.Memory told = Unit {0}

-- What a call answers is what the grammar says: what it read, or the first fault. Only running out of memory is left
-- open.
abbrev pub Gives : {A : Type 0} → Result A LexFault → Result A (FaultAt TokenFault) → Type 0
Gives (Ok made) read = read ≡ Ok made
Gives (Err refused) read = Refuses refused read
