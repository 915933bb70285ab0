-- What a thread tells, by the function that the source run gives it.
use Rattle.sharc_reply_laws.proofs.Imports.{◌≡◌, ℕ, ℤ, ◌⊎◌, inl, inr, cond, List, [], ◌∷◌, ◌++◌, sym, ap, ◌∙◌, subst, filter-append, ◌==◌, Started, SourceEvent, function_at, AreOneByName, Assignment, Stands, events_of, is_of, History, Begun, IsNamedAt, Code, Machine, MayStart, IsBeginning, IsAskedFor, TellsProgram, HasBegun, HasNotBegun, same_is}

-- the events of a thread, where its first one stands
pub from_first : (t : ℕ) (R before after : History) (e : SourceEvent) → Stands R before e after → e.thread ≡ t → events_of t before ≡ [] → events_of t R ≡ e ∷ events_of t after
from_first t R before after e stands own none =
    ap (events_of t) stands ∙ filter-append (is_of t) before (e ∷ after) ∙ ap (λ es. es ++ events_of t (e ∷ after)) none
    ∙ ap (λ b. cond b (e ∷ events_of t after) (events_of t after)) (ap (λ n. n == t) own ∙ same_is t)

pub some : (e : SourceEvent) (es : List SourceEvent) → [] ≡ e ∷ es → ⊥
some e es q = cc

pub head_eq : (a b : SourceEvent) (xs ys : List SourceEvent) → a ∷ xs ≡ b ∷ ys → a ≡ b
head_eq a b xs ys q = cc

pub tail_eq : (a b : SourceEvent) (xs ys : List SourceEvent) → a ∷ xs ≡ b ∷ ys → xs ≡ ys
tail_eq a b xs ys q = cc

started_eq : (v w : ℤ) → Started v ≡ Started w → v ≡ w
started_eq v w q = cc

module _ (m : Assignment) (code : Code) (names : AreOneByName m.typed) (R : History) (thread : ℕ) (at : Machine) (said : List SourceEvent) (lowered : List ℕ) (turns : ℕ)
    (own_events : events_of thread R ≡ said) (have : (events_of thread R ≡ []) ⊎ ((b : Begun m R thread) × MayStart m b.own.function)) where
  has_begun : TellsProgram m code thread at said lowered turns → (b : Begun m R thread) → MayStart m b.own.function → HasBegun m code R thread at turns
  has_begun k b may =
      let own = b.own in
      let both : own.begins ∷ events_of thread own.after ≡ k.begins ∷ k.told = sym (from_first thread R own.before own.after own.begins own.stands own.own own.first) ∙ (own_events ∙ k.starts) in
      let begins : own.begins ≡ k.begins = head_eq own.begins k.begins (events_of thread own.after) k.told both in
      let told : events_of thread own.after ≡ k.told = tail_eq own.begins k.begins (events_of thread own.after) k.told both in
      let function : own.function ≡ k.function =
      names own.function k.function own.begins.site own.site (subst (λ (d : SourceEvent). IsNamedAt (function_at m.typed k.function) d.site) (sym begins) k.site)
      in
      let argument : own.argument ≡ k.argument = started_eq own.argument k.argument (sym own.act ∙ ap (λ (d : SourceEvent). d.act) begins ∙ k.act) in
      let asked : IsAskedFor m code thread k.function k.argument k.told at lowered turns = k.asked (subst (MayStart m) function may) in
      let by_function = subst (λ f. IsAskedFor m code thread f k.argument k.told at lowered turns) (sym function) asked in
      let by_argument = subst (λ v. IsAskedFor m code thread own.function v k.told at lowered turns) (sym argument) by_function in
      let is = subst (λ es. IsAskedFor m code thread own.function own.argument es at lowered turns) (sym told) by_argument in
      record {
        fuel = is.fuel;
        own = record {
          function = own.function;
          argument = own.argument;
          before = own.before;
          begins = own.begins;
          after = own.after;
          stands = own.stands;
          own = own.own;
          first = own.first;
          act = own.act;
          answer = own.answer;
          site = own.site;
          by_right = own.by_right;
          asked = is.events;
        };
        over = is.over;
        pace = is.pace;
      }

  pub tells : IsBeginning at said turns ⊎ TellsProgram m code thread at said lowered turns → HasNotBegun R thread at turns ⊎ HasBegun m code R thread at turns
  tells (inl b) = inl (record { nothing = own_events ∙ b.nothing; first = b.pc_is; pace = b.pace })
  tells (inr k) = inr (by have)
    where
      by : (events_of thread R ≡ []) ⊎ ((b : Begun m R thread) × MayStart m b.own.function) → HasBegun m code R thread at turns
      by (inl none) = absurd (some k.begins k.told (sym none ∙ (own_events ∙ k.starts)))
      by (inr h) = has_begun k h.0 h.1
