-- What the signature of a function says: it names no register of a frame, and a thread may begin with it where its parameters are few.
use Rattle.sharc_typed_laws.proofs.Imports.{◌≡◌, ◌≢◌, ℕ, ◌+◌, ◌<◌, ◌≤◌, Bool, true, false, cond, List, [], ◌∷◌, length, map, refl, sym, ap, ◌∙◌, subst, arith, nat_tests, nat_lt, Declaration, WrittenType, Kind, declared_kind, Parameter, Width, function_of, is_reference, slot_of, int_count, ref_count, parameter_of, StaticType, Empty, Refers, Number, Anything, Within, Signature, Labels, EntryMentions, HasBase, HasName, MayStart, Setting, Typing, GivesBackBy, GivesBack, or_false}
use Rattle.sharc_names.specs.Kinds.{is_pointer}
use Rattle.sharc_invariant.specs.Typed.{IsPlain}

-- ---- parameters
pub declared_reference : (w : WrittenType) → is_reference (declared_kind w) ≡ is_pointer (declared_kind w)
declared_reference w = or_false (is_pointer (declared_kind w))

-- a function's only parameter, if it has one, takes the first register of its bank
record FewParameters (ds : List Declaration) : Type 0 where
  refs : ref_count (map slot_of ds) ≤ 1
  ints : int_count (map slot_of ds) ≤ 1
  no_reference : parameter_of ds ≢ Parameter.Reference → ref_count (map slot_of ds) ≡ 0
  no_number : parameter_of ds ≢ Parameter.Int → int_count (map slot_of ds) ≡ 0
  reference : parameter_of ds ≡ Parameter.Reference → 0 < ref_count (map slot_of ds)
  number : parameter_of ds ≡ Parameter.Int → 0 < int_count (map slot_of ds)

record FewBy (b : Bool) : Type 0 where
  refs : cond b (0 + 1) 0 ≤ 1
  ints : cond b 0 (0 + 1) ≤ 1
  no_reference : cond b Parameter.Reference Parameter.Int ≢ Parameter.Reference → cond b (0 + 1) 0 ≡ 0
  no_number : cond b Parameter.Reference Parameter.Int ≢ Parameter.Int → cond b 0 (0 + 1) ≡ 0
  reference : cond b Parameter.Reference Parameter.Int ≡ Parameter.Reference → 0 < cond b (0 + 1) 0
  number : cond b Parameter.Reference Parameter.Int ≡ Parameter.Int → 0 < cond b 0 (0 + 1)

few_by : (b : Bool) → FewBy b
few_by true = record { refs = omega arith; ints = omega arith; no_reference = λ ne. absurd (ne refl); no_number = λ ne. refl; reference = λ e. omega arith; number = λ (e : Parameter.Reference ≡ Parameter.Int). absurd (cc) }
few_by false = record { refs = omega arith; ints = omega arith; no_reference = λ ne. refl; no_number = λ ne. absurd (ne refl); reference = λ (e : Parameter.Int ≡ Parameter.Reference). absurd (cc); number = λ e. omega arith }

few_parameters : (ds : List Declaration) → length ds ≤ 1 → FewParameters ds
few_parameters [] le = record {
  refs = omega arith;
  ints = omega arith;
  no_reference = λ ne. refl;
  no_number = λ ne. refl;
  reference = λ (e : Parameter.None ≡ Parameter.Reference). absurd (cc);
  number = λ (e : Parameter.None ≡ Parameter.Int). absurd (cc);
}
few_parameters (d ∷ []) le =
    let w = few_by (is_pointer (declared_kind d.written)) in
    let same = declared_reference d.written in
    record {
      refs = w.refs;
      ints = w.ints;
      no_reference = λ ne. w.no_reference (subst (λ b. cond b Parameter.Reference Parameter.Int ≢ Parameter.Reference) same ne);
      no_number = λ ne. w.no_number (subst (λ b. cond b Parameter.Reference Parameter.Int ≢ Parameter.Int) same ne);
      reference = λ e. w.reference (subst (λ b. cond b Parameter.Reference Parameter.Int ≡ Parameter.Reference) same e);
      number = λ e. w.number (subst (λ b. cond b Parameter.Reference Parameter.Int ≡ Parameter.Int) same e);
    }
few_parameters (d ∷ (e ∷ ds)) le = absurd (omega (arith, le))

some_by : (b : Bool) (n : ℕ) → cond b Parameter.Reference Parameter.Int ≡ Parameter.Reference → 0 < cond b (n + 1) n
some_by true n e = omega arith
some_by false n e = absurd (cc)

-- where a thread is handed a reference, the first register takes it
pub handed_some : (ds : List Declaration) → parameter_of ds ≡ Parameter.Reference → 0 < ref_count (map slot_of ds)
handed_some [] e = absurd (cc)
handed_some (d ∷ ds) e = some_by (is_pointer (declared_kind d.written)) (ref_count (map slot_of ds)) (subst (λ b. cond b Parameter.Reference Parameter.Int ≡ Parameter.Reference) (declared_reference d.written) e)

-- ---- what registers hold at the entry
past_entry : (n : ℕ) (f : ℕ → StaticType) (p : ℕ) → n ≤ p → cond (nat_lt p n) (Refers (f p)) Empty ≡ Empty
past_entry n f p le = let e : nat_lt p n ≡ false = grind (arith, nat_tests, le) in ap (λ b. cond b (Refers (f p)) Empty) e

past_number : (n : ℕ) (f : ℕ → Width) (j : ℕ) → n ≤ j → cond (nat_lt j n) (Within (f j)) Anything ≡ Anything
past_number n f j le = let e : nat_lt j n ≡ false = grind (arith, nat_tests, le) in ap (λ b. cond b (Within (f j)) Anything) e

-- a number of an integer that is handed over
abbrev OfNoFrame : Number → Type 0
OfNoFrame n = ((b : ℕ) → HasBase n b → ⊥) × ((name : ℕ) → HasName n name → ⊥)

number_plain : (b : Bool) (w : Width) → OfNoFrame (cond b (Within w) Anything)
number_plain true w = ((λ q h. h), (λ q h. h))
number_plain false w = ((λ q h. h), (λ q h. h))

-- ---- signatures
module _ (z : Setting) (n : ℕ) (y : Typing) where
  abbrev S : Signature
  S = z.signature n

  -- what a function gives back names no register
  record PlainResult : Type 0 where
    entry : (q : ℕ) → EntryMentions S.result q → ⊥
    number : OfNoFrame S.result_int

  plain_result : (kind : Kind) (b : Bool) → GivesBackBy z n y kind b → PlainResult
  plain_result kind true h = record {
    entry = λ q. subst (λ e. EntryMentions e q → ⊥) (sym h.2) (h.1 q);
    number = subst OfNoFrame (sym h.3) ((λ q k. k), (λ q k. k));
  }
  plain_result kind false h = record {
    entry = λ q. subst (λ e. EntryMentions e q → ⊥) (sym h.0) (λ k. k);
    number = subst OfNoFrame (sym h.1) ((λ q k. k), (λ q k. k));
  }

  pub signature_plain : (kind : Kind) → GivesBack z n y kind → (count : ℕ) (width : ℕ → Width) → ((j : ℕ) → S.takes_ints j ≡ cond (nat_lt j count) (Within (width j)) Anything) → IsPlain S
  signature_plain kind gives count width ints =
      let r = plain_result kind (is_reference kind) gives in
      record {
        bases = λ i. subst (λ m. (b : ℕ) → HasBase m b → ⊥) (sym (ints i)) (number_plain (nat_lt i count) (width i)).0;
        names = λ i. subst (λ m. (name : ℕ) → HasName m name → ⊥) (sym (ints i)) (number_plain (nat_lt i count) (width i)).1;
        result = r.entry;
        result_base = r.number.0;
        result_name = r.number.1;
      }

  gives_none : (kind : Kind) (b : Bool) → b ≡ false → GivesBackBy z n y kind b → S.result ≡ Empty
  gives_none kind true e h = absurd (cc)
  gives_none kind false e h = h.0

  -- the row of the function says what it takes, and its frame has room for it
  pub starts_by : (ls : Labels) (signature : ls.signature n ≡ S) (kind : Kind) → GivesBack z n y kind → is_reference kind ≡ false → (ds : List Declaration) → length ds ≤ 1 → n < length z.code.functions.items
      → (type : ℕ → StaticType) → ((q : ℕ) → S.takes q ≡ cond (nat_lt q (ref_count (map slot_of ds))) (Refers (type q)) Empty) → (width : ℕ → Width)
      → ((j : ℕ) → S.takes_ints j ≡ cond (nat_lt j (int_count (map slot_of ds))) (Within (width j)) Anything) → ((q : ℕ) → EntryMentions (S.takes 0) q → ⊥)
      → (function_of z.code n).parameter ≡ parameter_of ds → ref_count (map slot_of ds) ≤ (function_of z.code n).refs → int_count (map slot_of ds) ≤ (function_of z.code n).ints → MayStart z.code ls n
  starts_by ls signature kind gives plain ds few is type takes width ints closed parameter refs_fit ints_fit =
      let w = few_parameters ds few in
      let w_refs = w.refs in
      let w_ints = w.ints in
      record {
        is = is;
        result = ap (λ (s : Signature). s.result) signature ∙ gives_none kind (is_reference kind) plain gives;
        others = λ p ne. ap (λ (s : Signature). s.takes p) signature ∙ takes p ∙ past_entry (ref_count (map slot_of ds)) type p (omega (arith, w_refs, ne));
        reference = λ ne. let none = w.no_reference (λ e. ne (parameter ∙ e)) in ap (λ (s : Signature). s.takes 0) signature ∙ takes 0 ∙ past_entry (ref_count (map slot_of ds)) type 0 (omega (arith, none));
        closed = λ q. subst (λ (s : Signature). EntryMentions (s.takes 0) q → ⊥) (sym signature) (closed q);
        number = λ ne. let none = w.no_number (λ e. ne (parameter ∙ e)) in ap (λ (s : Signature). s.takes_ints 0) signature ∙ ints 0 ∙ past_number (int_count (map slot_of ds)) width 0 (omega (arith, none));
        numbers = λ i ne. ap (λ (s : Signature). s.takes_ints i) signature ∙ ints i ∙ past_number (int_count (map slot_of ds)) width i (omega (arith, w_ints, ne));
        frame = λ e. let some = w.reference (sym parameter ∙ e) in omega (arith, some, refs_fit);
        frame_int = λ e. let some = w.number (sym parameter ∙ e) in omega (arith, some, ints_fit);
      }
