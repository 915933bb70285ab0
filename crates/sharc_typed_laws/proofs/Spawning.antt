-- A thread is started, after what it is handed.
use Rattle.sharc_typed_laws.proofs.{Imports.{◌≡◌, ℕ, ◌+◌, ◌<◌, ◌≤◌, true, false, [], ◌∷◌, length, Some, refl, sym, ap, ◌∙◌, subst, ⊎_elim, arith, cases_eq, Parameter, Register, Width, Char, function_of, put, put_same, put_other, put_all, Op, Spot, Context, ref_count, StaticType, Empty, Refers, Number, Anything, Within, Label, LessNumber, LessEntry, EntryMentions, HasBase, fill, empty, set_number, without_copies, without_index, Passes, IsShared, ints_in, refs_in, less_entry_refl, less_number_refl, with_passes, Mark, Setting, IsNamed, mark, Typing}, Standing.{less_by, without_same, uncopied, scoped_frame, unnamed, stands_number}, Handing.on_spawn, Parts.{does, with_number}, Accessed.Frame, Words.words}

module _ (around : Setting) (f : ℕ) (D : (ℕ → Mark) → Type 0) (y : Typing) (c : Context) (low : (p : ℕ) → y.named c p ≡ true → p < ref_count c.scope) (from : ℕ) where
  open words around f D (y.named c) (ref_count c.scope) low from use {named as N, top, Q}

  module _ (i r : ℕ) (l : Label) (fr : Frame around f D y c low from i r l) (g : ℕ) (spot : Spot) (is : g < length around.code.functions.items) (starts : around.starts g ≡ true) (shared : (around.signature g).alone ≡ false) where
    abbrev n : Number
    n = Within Char

    numbered : (j : ℕ) → i < ints_in around.code (Some f) → ints_in around.code (Some f) ≤ j → put l.ints i n j ≡ Anything
    numbered j int ge = put_other l.ints i j n (λ e. omega (arith, e, int, ge)) ∙ fr.at.stands.numbers j (omega (arith, int, ge))

    in_ints : i < ints_in around.code (Some f) → i < ints_in around.code l.function
    in_ints lt = subst (λ o. i < ints_in around.code o) (sym fr.at.owned) lt

    -- with an integer of this width
    pub spawn_number : (w : Width) (a b : ℕ) → (function_of around.code g).parameter ≡ Parameter.Int → LessNumber (Within w) ((around.signature g).takes_ints 0) → Q (mark (set_number l i (Within w)) a b) (Op.Spawn i g (Register.Int i) spot ∷ []) (with_number around f D N top low from l i n)
    spawn_number w a b parameter fits =
        let k = set_number l i (Within w) in
        does around f D N top low from (mark k a b) (Op.Spawn i g (Register.Int i) spot) (with_number around f D N top low from l i n)
        (λ in_it h. scoped_frame N (i + 1) r (set_number l i n) (stands_number N i r l fr.at.stands n (λ q z. absurd z)) (ints_in around.code (Some f)) (refs_in around.code (Some f)) h.few (λ j ge. numbered j in_it.0 ge))
        (λ table pc in_it h next. on_spawn around f table pc (mark k a b) (record { owned = fr.at.owned; scoped = h }) (with_number around f D N top low from l i n) next i g (Register.Int i) spot refl (in_ints in_it.0) is starts shared
        (λ ps. (parameter, subst (λ z. LessNumber z ((around.signature g).takes_ints 0)) (sym (put_same l.ints i (Within w))) fits, (w, subst (λ z. LessNumber z (Within w)) (sym (put_same l.ints i (Within w))) (less_number_refl (Within w)))))
        (less_by (set_number k i n) (set_number l i n) refl (λ q. less_entry_refl (set_number k i n) q (l.env q)) (λ q. refl) (λ q e. e) (λ j. twice w j) tt fr.at.stands.nothing_passed (λ e. e)))
      where
        twice : (w : Width) (j : ℕ) → LessNumber (put (put l.ints i (Within w)) i n j) (put l.ints i n j)
        twice w j = ⊎_elim (λ (e : j ≡ i). subst (LessNumber (put (put l.ints i (Within w)) i n j)) (ap (put (put l.ints i (Within w)) i n) e ∙ put_same (put l.ints i (Within w)) i n ∙ sym (ap (put l.ints i n) e ∙ put_same l.ints i n)) (less_number_refl (put (put l.ints i (Within w)) i n j)))
            (λ (ne : j ≡ i → ⊥). subst (LessNumber (put (put l.ints i (Within w)) i n j)) (put_other (put l.ints i (Within w)) i j n ne ∙ put_other l.ints i j (Within w) ne ∙ sym (put_other l.ints i j n ne)) (less_number_refl (put (put l.ints i (Within w)) i n j))) (cases_eq j i)

    -- with a reference
    pub spawn_reference : (s : StaticType) (v a b : ℕ) → IsNamed N r s → (function_of around.code g).parameter ≡ Parameter.Reference → ((q : ℕ) → EntryMentions ((around.signature g).takes 0) q → ⊥) → ((k : Label) → Passes k r r (Refers s) ((around.signature g).takes 0)) → IsShared around.targets ((around.signature g).takes 0)
        → Q (mark (fill l r (Refers s) v false) a b) (Op.Spawn i g (Register.Reference r) spot ∷ []) (with_number around f D N top low from l i n)
    spawn_reference s v a b fits parameter closed passes public =
        let k = fill l r (Refers s) v false in
        let u = unnamed N i r l fr.at.stands r (omega arith) in
        let high = fr.high in
        let m = set_number (empty k r) i n in
        let e = set_number l i n in
        does around f D N top low from (mark k a b) (Op.Spawn i g (Register.Reference r) spot) (with_number around f D N top low from l i n)
        (λ in_it h. scoped_frame N (i + 1) r e (stands_number N i r l fr.at.stands n (λ q z. absurd z)) (ints_in around.code (Some f)) (refs_in around.code (Some f))
        (λ q ge. let ref = in_it.1 in sym (put_other l.env r q (Refers s) (λ z. omega (arith, z, ge, ref))) ∙ h.few q ge) (λ j ge. numbered j in_it.0 ge))
        (λ table pc in_it h next. on_spawn around f table pc (mark k a b) (record { owned = fr.at.owned; scoped = h }) (with_number around f D N top low from l i n) next i g (Register.Reference r) spot refl (in_ints in_it.0) is starts shared
        (λ ps. (
          parameter,
          subst (λ o. r < refs_in around.code o) (sym fr.at.owned) in_it.1,
          record { paths = λ q ne m. put_all (λ q z. (q ≡ r → ⊥) → EntryMentions z r → ⊥) l.env r (Refers s) (λ no _. no refl) (λ q _ no m. let z = low r (fr.at.stands.paths q r m).1 in omega (arith, z, high)) q ne m },
          closed,
          subst (λ z. Passes (with_passes k ps) r r z ((around.signature g).takes 0)) (sym (put_same l.env r (Refers s))) (passes (with_passes k ps)),
          public,
        ))
        (less_by m e refl
        (λ q. subst (LessEntry m q (m.env q)) (⊎_elim (λ (z : q ≡ r). ap (put k.env r Empty) z ∙ put_same k.env r Empty ∙ sym (ap l.env z ∙ u.empty)) (λ (ne : q ≡ r → ⊥). put_other k.env r q Empty ne ∙ put_other l.env r q (Refers s) ne) (cases_eq q r)) (less_entry_refl m q (m.env q)))
        (λ q. sym (⊎_elim (λ (z : q ≡ r). ap (put (without_copies k.same r) r r) z ∙ put_same (without_copies k.same r) r r ∙ sym (ap l.same z ∙ u.alone))
        (λ (ne : q ≡ r → ⊥). let there : k.same q ≡ l.same q = put_other l.same r q v ne in put_other (without_copies k.same r) r q r ne ∙ uncopied k.same r q (λ z. u.apart q ne (sym there ∙ z)) ∙ there) (cases_eq q r)))
        (λ q z. ⊎_elim (λ (w : q ≡ r). absurd (u.unknown (sym (ap l.known w) ∙ z))) (λ (ne : q ≡ r → ⊥). put_other k.known r q false ne ∙ put_other l.known r q false ne ∙ z) (cases_eq q r))
        (λ j. number u.unbased j) tt fr.at.stands.nothing_passed (λ z. z)))
      where
        number : ((j : ℕ) → HasBase (l.ints j) r → ⊥) → (j : ℕ) → LessNumber (put (λ j. without_index r (l.ints j)) i n j) (put l.ints i n j)
        number unbased j = ⊎_elim (λ (e : j ≡ i). subst (LessNumber (put (λ j. without_index r (l.ints j)) i n j)) (ap (put (λ j. without_index r (l.ints j)) i n) e ∙ put_same (λ j. without_index r (l.ints j)) i n ∙ sym (ap (put l.ints i n) e ∙ put_same l.ints i n)) (less_number_refl (put (λ j. without_index r (l.ints j)) i n j)))
            (λ (ne : j ≡ i → ⊥). subst (LessNumber (put (λ j. without_index r (l.ints j)) i n j)) (put_other (λ j. without_index r (l.ints j)) i j n ne ∙ without_same r (l.ints j) (unbased j) ∙ sym (put_other l.ints i j n ne)) (less_number_refl (put (λ j. without_index r (l.ints j)) i n j))) (cases_eq j i)
