-- A statement that is typed from a label to a label is typed to one that says no more.
use Rattle.sharc_typed_laws.proofs.{Imports.{ℕ, Bool, inl, inr, ⊎_elim, Code, Cell, Instr, Move, MoveReference, ComputeInt, ComputeLong, NegateInt, NegateLong, Complement, CompareReferences, ChkWidth, Jump, JumpIfZero, JumpIfNull, Call, Return, ChkNull, ChkPositive, ChkRoom, ChkLockLoaded, Bounds, GlobalBounds, ChkRead, ChkWrite, Load, Store, LoadRef, Exchange, Raise, RaiseLoaded, Lower, New, TakeCell, TakeLocal, TestSole, Clear, Give, Spawn, Exit, Targets, Field, FieldMode, Content, Private, Readonly, Number, Label, Labels, Less, Numbers, Passes_on, LeadsChecked, Calls, Accesses, MayAccess, all_at, Steps}, Preorder.less_through}
use Rattle.sharc_code.specs.declared.instr.Instr.TheVariants.{Constant, Not, Free, Lock, Unlock, Join, Print}

-- ---- of what is known at places elsewhere, an access and a call ask nothing
pub may_among : (x : Targets) (code : Code) (ls : Labels) (one other : ℕ → Label) (l : Label) (write : Bool) (c : Cell) (holds : Content) (fm : FieldMode) → MayAccess x code (record ls { at = one }) l write c holds fm → MayAccess x code (record ls { at = other }) l write c holds fm
may_among x code ls one other l write (Cell.Global g p) holds Private h = h
may_among x code ls one other l write _ holds Readonly h = h
may_among x code ls one other l write _ holds _ h = h

pub accesses_among : (x : Targets) (code : Code) (ls : Labels) (one other : ℕ → Label) (l : Label) (write : Bool) (c : Cell) (site : ℕ) (f : Field) → Accesses x code (record ls { at = one }) l write c site f → Accesses x code (record ls { at = other }) l write c site f
accesses_among x code ls one other l write c site f h = record { cell = h.cell; may = may_among x code ls one other l write c f.holds f.mode h.may; apart = h.apart; mode = h.mode }

pub calls_among : (code : Code) (ls : Labels) (one other : ℕ → Label) (l : Label) (to ints refs f : ℕ) → Calls code (record ls { at = one }) l to ints refs f → Calls code (record ls { at = other }) l to ints refs f
calls_among code ls one other l to ints refs f h = record { is = h.is; entry = h.entry; caller = h.caller; from = h.from; from_int = h.from_int; passes = h.passes; numbers = h.numbers; stays = h.stays }

-- ---- one statement
module _ (x : Targets) (code : Code) (ls : Labels) (k m : Label) (weaker : Less k m) where
  to_less : (l : Label) → Less l k → Less l m
  to_less l h = less_through l k m h weaker

  numbers : (l : Label) (r : ℕ) (n : Number) → Numbers code (all_at ls k) l 0 r n → Numbers code (all_at ls m) l 0 r n
  numbers l r n h = (h.0, h.1, to_less _ h.2)

  passes : (l : Label) → Passes_on (all_at ls k) l 0 → Passes_on (all_at ls m) l 0
  passes l h = (h.0, to_less l h.1)

  checked : (l : Label) (write : Bool) (c : Cell) → LeadsChecked x (all_at ls k) l 0 write c → LeadsChecked x (all_at ls m) l 0 write c
  checked l write c (inl h) = inl (to_less _ h)
  checked l write c (inr h) = inr (h.0, h.1, h.2, to_less _ h.3)

  pub steps : (l : Label) (i : Instr) → Steps x code ls l k i → Steps x code ls l m i
  steps l (Constant r v) h = numbers l r _ h
  steps l (Move r from) h = ⊎_elim (λ h. inl (numbers l r _ h)) (λ h. inr (h.0, h.1, h.2, numbers _ r _ h.3)) h
  steps l (MoveReference r from) h = (h.0, ⊎_elim (λ h. inl (h.0, to_less _ h.1)) (λ h. inr (h.0, h.1, h.2, h.3, h.4, to_less _ h.5)) h.1)
  steps l (ComputeInt o r a b site) h = (h.0, numbers l r _ h.1)
  steps l (ComputeLong o r a b site) h = (h.0, numbers l r _ h.1)
  steps l (NegateInt r a site) h = numbers l r _ h
  steps l (NegateLong r a site) h = numbers l r _ h
  steps l (Complement r a) h = (h.0, h.1, numbers l r _ h.2)
  steps l (Not r a) h = numbers l r _ h
  steps l (CompareReferences r a b) h = numbers l r _ h
  steps l (ChkWidth width r site) h = ⊎_elim (λ h. inl (passes l h)) (λ h. inr (numbers l r _ h)) h
  steps l (Jump to) h = h
  steps l (JumpIfZero r to) h = h
  steps l (JumpIfNull r to) h = h
  steps l (Call to ints refs site) h = (h.0, (h.1.0, calls_among code ls (λ pc. k) (λ pc. m) l to ints refs h.1.0 h.1.1, to_less _ h.1.2))
  steps l (Return site) h = (h.0, (h.1.0, h.1.1, record { result = h.1.2.result; result_int = h.1.2.result_int; empty = h.1.2.empty }))
  steps l (ChkNull r site) h = (h.0, to_less _ h.1)
  steps l (ChkPositive r site) h = passes l h
  steps l (ChkRoom site) h = (h.0, to_less _ h.1)
  steps l (ChkLockLoaded site) h = (h.0, h.1, h.2, h.3, h.4, to_less _ h.5)
  steps l (Bounds r base count field site) h = (h.0, h.1, h.2, h.3, h.4, (h.5.0, h.5.1, to_less _ h.5.2))
  steps l (GlobalBounds r elements count field site) h = (h.0, h.1, h.2, (h.3.0, h.3.1, to_less _ h.3.2))
  steps l (ChkRead c site) h = (h.0, h.1, checked l _ c h.2)
  steps l (ChkWrite c site) h = (h.0, h.1, checked l _ c h.2)
  steps l (Load r c site) h = (h.0, (h.1.0, h.1.1, accesses_among x code ls (λ pc. k) (λ pc. m) l _ c site h.1.0 h.1.2, h.1.3, to_less _ h.1.4))
  steps l (Store r c site) h = (h.0, h.1, accesses_among x code ls (λ pc. k) (λ pc. m) l _ c site h.0 h.2, h.3, h.4, to_less _ h.5)
  steps l (LoadRef c site) h = (h.0, h.1, accesses_among x code ls (λ pc. k) (λ pc. m) l _ c site h.0 h.2, h.3, to_less _ h.4)
  steps l (Exchange r c site) h = (h.0, (h.1.0, h.1.1, accesses_among x code ls (λ pc. k) (λ pc. m) l _ c site h.1.0 h.1.2, h.1.3, h.1.4, h.1.5, h.1.6, to_less _ h.1.7))
  steps l (Raise r from) h = (h.0, h.1, h.2, to_less _ h.3)
  steps l (RaiseLoaded r) h = (h.0, (h.1.0, h.1.1, h.1.2, h.1.3, h.1.4, h.1.5, h.1.6, to_less _ h.1.7))
  steps l (Lower r) h = (h.0, h.1, ⊎_elim (λ h. inl (h.0, to_less _ h.1)) (λ h. inr (to_less _ h)) h.2)
  steps l (New r count size site) h = (h.0, h.1, (h.2.0, h.2.1, h.2.2, h.2.3, h.2.4, h.2.5, h.2.6, to_less _ h.2.7))
  steps l (TakeCell r c site) h = (h.0, (h.1.0, h.1.1, accesses_among x code ls (λ pc. k) (λ pc. m) l _ c site h.1.0 h.1.2, h.1.3, h.1.4, to_less _ h.1.5))
  steps l (TakeLocal r from site) h = (h.0, h.1, h.2, h.3, h.4, h.5, to_less _ h.6)
  steps l (TestSole r site) h = (h.0, h.1, h.2, to_less _ h.3)
  steps l (Clear r size) h = (h.0, h.1, (h.2.0, h.2.1, h.2.2, to_less _ h.2.3))
  steps l (Give r site) h = (h.0, h.1, (h.2.0, h.2.1, h.2.2, h.2.3, h.2.4, to_less _ h.2.5))
  steps l (Free r layout site) h = (h.0, h.1, h.2, h.3, to_less _ h.4)
  steps l (Lock c site) h = (h.0, h.1, h.2, h.3, to_less _ h.4)
  steps l (Unlock r c site) h = (h.0, h.1, h.2, to_less _ h.3)
  steps l (Spawn r f from site) h = (h.0, h.1, h.2, h.3, h.4, h.5, to_less _ h.6)
  steps l (Join r site) h = passes l h
  steps l (Print r site) h = passes l h
  steps l Exit h = h
  steps l _ h = (h.0, h.1, to_less _ h.2)
