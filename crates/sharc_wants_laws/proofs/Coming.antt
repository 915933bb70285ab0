-- A thread of the code of a typed program that has come to a place, and what the program does there.
use Rattle.sharc_wants_laws.proofs.{Imports.{◌≡◌, ℕ, zero, suc, ℤ, ◌+◌, ◌<◌, ◌≤◌, ◌⊎◌, inl, inr, ⊎_elim, Bool, List, [], ◌∷◌, length, length-map, map, refl, sym, ap, ◌∙◌, subst, arith, get_or as slice_index_or, SourceEvent, Assignment, IsNamedAt, answers_of, function_at, Outcome, spent, Code, Row as Function, Instr, Exit, Shape, Machine, CodePath, begun, machine_after, instr_at, no_function, function_of, paced_in, Flat, At, exec, start, at_after, asked, AsksTheSame, MayStart, SameAs, FlatCode, Flattens, IsCodeOf, flat_of, Guarded, Program, Thread, statement_at, started, thread_after, Guards, Comes, IsGuarded, IsMade, dropped, entered_at, guarded, place, Elements, IsConsistent, said_in, begins, HasCome, IsBeginning, IsGenerated, instr_of, program_of, lowered_in, BeginsWithStarted}, Copying.more_turns}
use Rattle.sharc_meaning.specs.Meaning as Meaning
use Rattle.sharc_flat.specs.{Laws.FitsMade, Quiet.{PathLaws, given_in}}
use Rattle.sharc_guard.specs.Framed.{FramedIsGuarded}
use Rattle.sharc_compile.specs.Correct.{GeneratedKeepsPaths, by}
use Rattle.sharc_flat_laws.specs.{Stands.{TypedAsksTheSame, TypedIsFramed}, Typed.IsTypedProgram}
use Rattle.sharc_compile_laws.specs.{Laws.MadeCounts, Names.FunctionsAreNamed}
use Rattle.sharc_accepted_laws.specs.{Accepted.{AcceptedIsLevel, IsSourceProgram, OfSources}, StaticLaws.IsAccepted}

mapped_at : (f : Instr → Instr) (xs : List Instr) (n : ℕ) → f Exit ≡ Exit → slice_index_or (map f xs) n Exit ≡ f (slice_index_or xs n Exit)
mapped_at f [] n e = sym e
mapped_at f (x ∷ xs) zero e = refl
mapped_at f (x ∷ xs) (suc n) e = mapped_at f xs n e

answers_by : (t : ℕ) (es : List SourceEvent) → answers_of (map (by t) es) ≡ answers_of es
answers_by t [] = refl
answers_by t (e ∷ es) = ap (λ xs. e.answer ∷ xs) (answers_by t es)

is_spent : (o : Outcome) → (o ≡ spent) ⊎ (o ≡ spent → ⊥)
is_spent spent = inl refl
is_spent _ = inr (λ h. cc)

-- The code is made of guarded code, and that of flat code that asks for what the program does.
pub record Coming (m : Assignment) (code : Code) (s : Shape) (T : Elements) (thread : ℕ) (at : Machine) (said : List SourceEvent) (lowered : List ℕ) : Type 0 where
  pub paths : PathLaws
  pub flat : Flat
  pub same : AsksTheSame m flat
  pub drops : ℕ → Bool
  pub p : Program
  pub guards : Guards drops flat p
  pub count : length p.functions ≡ length flat.functions
  pub g : Guarded
  pub made : program_of g ≡ p
  pub is : IsGenerated g code
  pub named : (f : ℕ) → f < length code.functions.items → IsNamedAt (function_at m.typed f) (function_of code f).site
  pub paced : ℕ
  pub has : HasCome code s p T thread at said lowered paced

-- ---- by the laws
abbrev pub PathsCome : Assignment → Code → Type 0
PathsCome m code = (s : Shape) (thread : ℕ) (elements : ℕ → Elements) (founds : List ℕ) → CodePath code s thread founds → IsConsistent code s (begun code s thread) elements founds
    → let first = begun code s thread in
    let at = machine_after code s first founds in
    let said = said_in code s first elements founds in
    IsBeginning at said (paced_in code s first founds) ⊎ Coming m code s (elements (length founds)) thread at said (lowered_in code s first elements founds)

-- guarded code that was made, as a program
same : (d : ℕ → Bool) (flat : FlatCode) (g : Guarded) → IsMade d flat g → program_of g ≡ guarded d (flat_of flat)
same d flat g made = λ i. record { statements = made.statements i; functions = made.functions i; globals = (made.globals i).items; sites = made.sites i }

pub is_guarded : TypedIsFramed → FramedIsGuarded → (m : Assignment) → IsTypedProgram m → (flat : FlatCode) → Flattens m flat → FitsMade (flat_of flat) → (code : Code) → (is : IsCodeOf flat code) → IsGuarded (program_of is.g)
is_guarded framed guards m p flat flattens fits code is =
    let d = dropped (flat_of flat) in
    subst IsGuarded (sym (same d flat is.g is.made)) (guards (flat_of flat) d (framed m p.resolved p.placed p.low p.least p.well_moded flat flattens fits).1)

accepted : (m : Assignment) → IsSourceProgram m → IsAccepted m
accepted m p = record { resolved = p.typed.resolved; placed = p.typed.placed; low = p.typed.low; least = p.typed.least; well = p.typed.well_moded }

pub paths_come : TypedAsksTheSame → TypedIsFramed → MadeCounts → AcceptedIsLevel → FunctionsAreNamed → FramedIsGuarded → GeneratedKeepsPaths → PathLaws → OfSources PathsCome
paths_come asks framed counts levels named guards keeps paths m source flat flattens fits code is s thread elements founds path consistent =
    let p = source.typed in
    let d = dropped (flat_of flat) in
    let made = same d flat is.g is.made in
    let first = begun code s thread in
    let at = machine_after code s first founds in
    let said = said_in code s first elements founds in
    let lowered = lowered_in code s first elements founds in
    let paced = paced_in code s first founds in
    ⊎_elim
    (λ (h : IsBeginning at said paced). inl h)
    (λ (h : HasCome code s (program_of is.g) (elements (length founds)) thread at said lowered paced). inr (record {
      paths = paths;
      flat = flat_of flat;
      same = asks m p.resolved p.placed p.low p.least p.well_moded flat flattens;
      drops = d;
      p = guarded d (flat_of flat);
      guards = counts m flat flattens (levels m (accepted m source) source.constants source.unsigned flat flattens fits code is) d;
      count = length-map (flat_of flat).functions (entered_at (place d (flat_of flat).lines));
      g = is.g;
      made = made;
      is = is.generated;
      named = named m flat flattens code is;
      paced = paced;
      has = subst (λ p. HasCome code s p (elements (length founds)) thread at said lowered paced) made h;
    }))
    (keeps is.g code is.generated (is_guarded framed guards m p flat flattens fits code is) s thread elements founds path consistent)

-- ---- at the place
module _ {m : Assignment} {code : Code} {s : Shape} {T : Elements} {thread : ℕ} {at : Machine} {said : List SourceEvent} {lowered : List ℕ} (w : Coming m code s T thread at said lowered) where
  pub instr_is : (pc : ℕ) → instr_at code pc ≡ instr_of w.g.functions.items (statement_at w.p pc)
  instr_is pc =
      ap (λ is. slice_index_or is pc Exit) w.is.instrs ∙ mapped_at (instr_of w.g.functions.items) w.g.statements.items pc refl ∙ ap (λ (q : Program). instr_of w.g.functions.items (statement_at q pc)) w.made

  pub is_named : IsNamedAt (function_at m.typed w.has.function) (begins w.p w.has.function w.has.argument).site
  is_named =
      let f = w.has.function in
      let functions : w.p.functions ≡ code.functions.items = ap (λ (q : Program). q.functions) (sym w.made) ∙ ap (λ v. v.items) (sym w.is.functions) in
      subst (λ (fs : List Function). IsNamedAt (function_at m.typed f) (slice_index_or fs f no_function).site) (sym functions) (w.named f (subst (λ (fs : List Function). f < length fs) functions w.has.known))

  abbrev first : At
  first = start w.flat w.has.function w.has.argument

  -- where guarded code is, and what it has asked for
  abbrev pub there : Thread
  there = thread_after w.p (started w.p w.has.function w.has.argument) w.has.answers

  abbrev pub told : List SourceEvent
  told = map (by thread) there.events

  pub comes : Comes w.drops w.flat w.p first (started w.p w.has.function w.has.argument) w.has.answers
  comes = w.guards w.has.function w.has.argument (let k = w.has.known in let e = w.count in omega arith) w.has.answers w.has.path

  -- where flat code is
  abbrev pub rest : At
  rest = at_after w.flat first comes.flat_answers

  abbrev given : List ℤ
  given = given_in w.flat first comes.flat_answers

  abbrev own : List ℤ
  own = asked w.flat first given

  -- what the program asks for by the answers of these events, and flat code that goes on
  abbrev pub asked_by : ℕ → Meaning.Asked
  asked_by fuel = Meaning.asks m w.has.function w.has.argument (answers_of told) fuel

  abbrev pub Rests : ℕ → Type 0
  Rests fuel = (more : ℕ) × SameAs (exec w.flat (suc more) [] rest) (asked_by fuel)

  rests : (fuel turns : ℕ) → (length given + 1 ≤ turns) ⊎ (exec w.flat (length given + 1) own first ≡ exec w.flat turns own first)
      → SameAs (exec w.flat turns own first) (Meaning.asks m w.has.function w.has.argument own fuel) → Rests fuel
  rests fuel turns far same =
      let f = w.paths.beyond w.flat first given (w.paths.path w.flat first comes.flat_answers comes.path) turns far in
      let answers : own ≡ answers_of told = w.paths.own w.flat w.has.function w.has.argument comes.flat_answers ∙ ap answers_of (sym comes.stands.events) ∙ sym (answers_by thread there.events) in (
        f.more,
        subst (λ xs. SameAs (exec w.flat (suc f.more) [] rest) (Meaning.asks m w.has.function w.has.argument xs fuel)) answers
            (subst (λ c. SameAs c (Meaning.asks m w.has.function w.has.argument own fuel)) (f.is ∙ ap (exec w.flat (suc f.more) []) (w.paths.same w.flat first comes.flat_answers)) same),
      )

  pub with_some : MayStart m w.has.function → (fuel : ℕ) × Rests fuel
  with_some may =
      let b = w.same.back w.has.function may w.has.argument own (length given + 1) in
      (b.fuel, rests b.fuel b.later b.reached b.same)

  abbrev pub enough : ℕ
  enough = length given + 1

  pub with_more : MayStart m w.has.function → (later : ℕ) → enough ≤ later → Rests later
  with_more may later le =
      let f = w.same.forth w.has.function may w.has.argument own later in
      let x = Meaning.asks m w.has.function w.has.argument own later in
      ⊎_elim
      (λ (e : x.outcome ≡ spent). let all = f.all e in let low = f.low in rests later f.turns (inl (omega (arith, all, low, le))) f.same)
      (λ (over : x.outcome ≡ spent → ⊥).
      rests later (f.turns + enough) (inl (omega arith)) (subst (λ c. SameAs c x) (sym (more_turns w.flat f.turns enough own first (λ z. over (sym f.same.outcome ∙ z)))) f.same))
      (is_spent x.outcome)

  pub asked_events : (fuel : ℕ) → Rests fuel → there.events ≡ (asked_by fuel).events
  asked_events fuel r = comes.stands.events ∙ sym (w.paths.still w.flat (suc r.0) rest).0 ∙ r.1.events

  -- it begins with the Started of its function
  pub begun_with : (Then : ℕ → ℤ → List SourceEvent → Type 0) → (MayStart m w.has.function → Then w.has.function w.has.argument told) → BeginsWithStarted m thread said Then
  begun_with Then stands = record {
    function = w.has.function;
    argument = w.has.argument;
    begins = by thread (begins w.p w.has.function w.has.argument);
    after = there.events;
    starts = w.has.events;
    own = refl;
    act = refl;
    answer = refl;
    site = is_named;
    stands = stands;
  }
