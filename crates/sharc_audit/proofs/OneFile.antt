-- A text is one event file at most.
use Rattle.sharc_audit.proofs.{Imports.{append-nil, ◌≡◌, inl, inr, ℕ, suc, ◌<◌, ◌≤◌, List, [], ◌∷◌, ◌++◌, length, take, drop, ap, sym, subst, ◌∙◌, arith, append_assoc, take-append-drop, take-take, join_with_byte, EventLine, Text, IsNumber, mark, AreEventLines, IsEventFile, Continues, FailsThere, IsFirstBad}, Alone.{one_number, one_listing}, Filing.{behind_first, behind_mark, one_header}}

pub one_file : (texts : List Text) (source other : Text) (fuel more : ℕ) (events others : List EventLine) → IsEventFile texts source fuel events → IsEventFile texts other more others
    → (source ≡ other) × (fuel ≡ more) × (events ≡ others)
one_file texts source other fuel more events others f g =
    let whole : f.first ∷ (f.more ++ (mark ++ f.header) ∷ f.behind) ≡ g.first ∷ (g.more ++ (mark ++ g.header) ∷ g.behind) = sym f.parts ∙ g.parts in
    let first : f.first ≡ g.first = cc in
    let tails : f.more ++ (mark ++ f.header) ∷ f.behind ≡ g.more ++ (mark ++ g.header) ∷ g.behind = ap behind_first whole in
    let one = one_header f.more g.more f.header f.behind g.behind g.header f.plain g.plain tails in
    let header = behind_mark f.header g.header one.header in
    let behind = one.behind in (
      f.source_is ∙ ap (λ z. join_with_byte 10 (z ∷ f.more)) first ∙ ap (λ z. join_with_byte 10 (g.first ∷ z)) one.before ∙ sym g.source_is,
      one_number 1 65536 g.header fuel more (omega arith) (subst (λ z. IsNumber 1 65536 z fuel) header f.fuel_is) g.fuel_is,
      one_listing g.behind events others (subst (λ z. AreEventLines z events) behind f.events_are) g.events_are,
    )

continues_front : (k : ℕ) (texts : List Text) → Continues texts → Continues (take k texts)
continues_front k texts c = record {
  rest = drop k texts ++ c.rest;
  source = c.source;
  fuel = c.fuel;
  events = c.events;
  file = subst (λ z. IsEventFile z c.source c.fuel c.events) (ap (λ z. z ++ c.rest) (sym (take-append-drop k texts)) ∙ append_assoc (take k texts) (drop k texts) c.rest) c.file;
}

continues_whole : (texts : List Text) (source : Text) (fuel : ℕ) (events : List EventLine) → IsEventFile texts source fuel events → Continues texts
continues_whole texts source fuel events f = record { rest = []; source = source; fuel = fuel; events = events; file = subst (λ z. IsEventFile z source fuel events) (sym (append-nil texts)) f }

pub no_fault : (texts : List Text) (source : Text) (fuel : ℕ) (events : List EventLine) (n : ℕ) → IsEventFile texts source fuel events → IsFirstBad texts n → ⊥
no_fault texts source fuel events n f b = elim b.fails [
  | inl h ↦ h.1 (continues_front (suc b.place) texts (continues_whole texts source fuel events f))
  | inr h ↦ h.1 source fuel events f
]

inside : (texts : List Text) (place : ℕ) → FailsThere texts place → place ≤ length texts
inside texts place (inl h) = let s = h.0 in omega (arith, s)
inside texts place (inr h) = let s = h.0 in omega (arith, s)

-- none comes before another
not_before : (texts : List Text) (p q : ℕ) → p < q → FailsThere texts p → q ≤ length texts → Continues (take q texts) → ⊥
not_before texts p q less (inl h) most c = h.1 (subst Continues (take-take (suc p) q texts (omega (arith, less))) (continues_front (suc p) (take q texts) c))
not_before texts p q less (inr h) most c = let s = h.0 in omega (arith, less, s, most)

pub one_fault : (texts : List Text) (n m : ℕ) → IsFirstBad texts n → IsFirstBad texts m → n ≡ m
one_fault texts n m a b =
    let up : a.place < b.place → ⊥ = λ less. not_before texts a.place b.place less a.fails (inside texts b.place b.fails) b.before in
    let down : b.place < a.place → ⊥ = λ less. not_before texts b.place a.place less b.fails (inside texts a.place a.fails) a.before in
    let same : a.place ≡ b.place = omega (arith, up, down) in
    a.counted ∙ ap suc same ∙ sym b.counted
