-- What a thread of a run holds is in its registers, whoever says with which function it was begun.
use Rattle.sharc_wants_laws.proofs.{Imports.{◌≡◌, ℕ, List, [], ◌∷◌, sym, ap, ◌∙◌, subst, SourceEvent, function_at, NameThemselves, Assignment, events_of, Begun, IsNamedAt, by, Code, Machine, Shape, Elements, begins, MayStart, HoldsRegistered}, Coming.{Coming, is_named, told}, Registering.{HoldsThere, holds_by}, Seeing.{first_event, no_first, same_argument, same_function, same_head, same_tail}}

module _ (m : Assignment) (names : NameThemselves m.typed) (code : Code) (R : List SourceEvent) (thread : ℕ) (at : Machine) (said : List SourceEvent) (is : events_of thread R ≡ said) (b : Begun m R thread) (may : MayStart m b.own.function) where
  own_events : events_of thread R ≡ b.own.begins ∷ events_of thread b.own.after
  own_events = first_event thread R b.own.before b.own.begins b.own.after b.own.stands b.own.first b.own.own

  pub not_silent : said ≡ [] → ⊥
  not_silent nothing = no_first b.own.begins (events_of thread b.own.after) (sym own_events ∙ is ∙ nothing)

  holds : {s : Shape} {T : Elements} {lowered : List ℕ} → Coming m code s T thread at said lowered → HoldsThere m code b.own.function b.own.argument (events_of thread b.own.after) at
  holds w =
      let begun = by thread (begins w.p w.has.function w.has.argument) in
      let both : begun ∷ told w ≡ b.own.begins ∷ events_of thread b.own.after = sym w.has.events ∙ sym is ∙ own_events in
      let begins : begun ≡ b.own.begins = same_head begun b.own.begins (told w) (events_of thread b.own.after) both in
      let after : told w ≡ events_of thread b.own.after = same_tail begun b.own.begins (told w) (events_of thread b.own.after) both in
      let argument : w.has.argument ≡ b.own.argument = same_argument w.has.argument b.own.argument (ap (λ (e : SourceEvent). e.act) begins ∙ b.own.act) in
      let function : w.has.function ≡ b.own.function = same_function m.typed names w.has.function b.own.function b.own.begins.site (subst (λ (e : SourceEvent). IsNamedAt (function_at m.typed w.has.function) e.site) begins (is_named w)) b.own.site in
      subst (λ f. HoldsThere m code f b.own.argument (events_of thread b.own.after) at) function
      (subst (λ v. HoldsThere m code w.has.function v (events_of thread b.own.after) at) argument
      (subst (λ es. HoldsThere m code w.has.function w.has.argument es at) after (holds_by w (subst (MayStart m) (sym function) may))))

  pub registered : {s : Shape} {T : Elements} {lowered : List ℕ} → Coming m code s T thread at said lowered → HoldsRegistered code at b
  registered w = let k = holds w in record { fuel = k.fuel; held = k.held; tested = k.tested }
