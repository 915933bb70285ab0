-- All codes of one program are alike: the texts of its lines may lie in any order.
use Rattle.sharc_sound_laws.proofs.{Imports.{◌≡◌, ℕ, zero, suc, List, [], ◌∷◌, map, get_or, refl, sym, ap, ◌∙◌, subst, Code, Function, Instr, no_function, no_place, Resolution, functions_in, OneFunctionOfName, Assignment, flattened, names_of, AreTold, AreNamed, globals_of, LineTexts, Op, Flat, flat_of, instr_of, sites_of, entered_at, place, expanded, dropped, IsCompiled, unnamed, IsSamePlace, CompiledAreAlike}, Lists.{ap2, map_same, element_of}, Lines.{place_same, statements_same}}

-- ---- functions
entered_same : (bytes : List ℕ) (pl ql : ℕ → ℕ) → ((n : ℕ) → pl n ≡ ql n) → (xs : List Function) (names : List (List ℕ)) (ys : List Function) → AreNamed bytes xs names ys
    → map unnamed (map (entered_at pl) ys) ≡ map unnamed (map (entered_at ql) xs)
entered_same bytes pl ql same [] [] [] named = refl
entered_same bytes pl ql same (x ∷ xs) (n ∷ ns) (y ∷ ys) named = ap2 (λ z zs. z ∷ zs)
    (ap (λ f. unnamed (entered_at pl f)) named.0.is ∙ ap (λ e. unnamed (record x { entry = e })) (same x.entry)) (entered_same bytes pl ql same xs ns ys named.1)
entered_same bytes pl ql same _ _ _ named = absurd named

instr_same : (fs gs : List Function) → map unnamed fs ≡ map unnamed gs → (i : Instr) → instr_of fs i ≡ instr_of gs i
instr_same fs gs same (Instr.Call f ints refs site) = ap (λ (g : Function). Instr.Call g.entry ints refs site) (element_of unnamed fs gs f no_function same)
instr_same fs gs same i = refl

-- ---- sites
module _ (r : Resolution) (a b : Code) where
  sites_same : (os : List Op) (ts us : List LineTexts) → AreTold r a.texts.items os ts → AreTold r b.texts.items os us → (n : ℕ) → IsSamePlace a b (get_or (sites_of os ts) n no_place) (get_or (sites_of os us) n no_place)
  sites_same [] [] [] x y n = record { site = refl; at = refl; mode = refl; lvalue = refl; lock = refl }
  sites_same (o ∷ os) (t ∷ ts) (u ∷ us) x y zero = record { site = refl; at = refl; mode = refl; lvalue = x.0.lvalue ∙ sym y.0.lvalue; lock = x.0.lock ∙ sym y.0.lock }
  sites_same (o ∷ os) (t ∷ ts) (u ∷ us) x y (suc n) = sites_same os ts us x.1 y.1 n
  sites_same [] (t ∷ ts) us x y n = absurd x
  sites_same [] [] (u ∷ us) x y n = absurd y
  sites_same (o ∷ os) [] us x y n = absurd x
  sites_same (o ∷ os) (t ∷ ts) [] x y n = absurd y

-- ---- what a code is, by the program
module _ (m : Assignment) where
  abbrev told : Flat
  told = flattened m (globals_of m.typed)

  abbrev ends : ℕ → ℕ
  ends = place (dropped told) told.lines

  abbrev functions : List Function
  functions = map (entered_at ends) told.functions

  abbrev statements : List Instr
  statements = Instr.Start 0 ∷ Instr.Exit ∷ expanded ends (dropped told) 0 told.lines

  record IsCanonical (code : Code) : Type 0 where
    texts : List LineTexts
    lie : AreTold m.typed code.texts.items told.lines texts
    instrs : code.instrs.items ≡ map (instr_of functions) statements
    functions_are : map unnamed code.functions.items ≡ map unnamed functions
    sites : code.sites.items ≡ sites_of told.lines texts

  canonical : (code : Code) → IsCompiled m code → IsCanonical code
  canonical code is =
      let flat = flat_of is.flat in
      let f = is.flattens in
      let texts : code.texts.items ≡ is.flat.texts.items = ap (λ v. v.items) (is.coded.generated.texts ∙ is.coded.made.texts) in
      let names = names_of (functions_in m.typed.program.items) in
      let bytes = is.flat.texts.items in
      let same : map unnamed is.coded.g.functions.items ≡ map unnamed functions =
      ap (map unnamed) is.coded.made.functions ∙ entered_same bytes (place (dropped flat) flat.lines) ends (place_same told flat f.lines bytes names f.functions) told.functions names flat.functions f.functions in
      record {
        texts = flat.told;
        lie = subst (λ bytes. AreTold m.typed bytes told.lines flat.told) (sym texts) (subst (λ lines. AreTold m.typed bytes lines flat.told) f.lines f.told);
        instrs = is.coded.generated.instrs ∙ map_same (instr_of is.coded.g.functions.items) (instr_of functions) (instr_same is.coded.g.functions.items functions same) is.coded.g.statements.items
            ∙ ap (map (instr_of functions)) (is.coded.made.statements ∙ ap (λ z. Instr.Start 0 ∷ Instr.Exit ∷ z) (statements_same told flat f.lines bytes names f.functions));
        functions_are = ap (λ v. map unnamed v.items) is.coded.generated.functions ∙ same;
        sites = ap (λ v. v.items) is.coded.generated.sites ∙ is.coded.made.sites ∙ ap (λ lines. sites_of lines flat.told) f.lines;
      }

pub compiled_are_alike : OneFunctionOfName → CompiledAreAlike
compiled_are_alike one m resolved a b x y =
    let p = canonical m a x in
    let q = canonical m b y in
    record {
      instrs = p.instrs ∙ sym q.instrs;
      functions = p.functions_are ∙ sym q.functions_are;
      main = x.coded.generated.main ∙ x.coded.made.main ∙ main_same ∙ sym (y.coded.generated.main ∙ y.coded.made.main);
      globals = globals_same;
      granules = x.coded.generated.granules ∙ x.coded.made.granules ∙ x.flattens.granules ∙ sym (y.coded.generated.granules ∙ y.coded.made.granules ∙ y.flattens.granules);
      initial = ap (λ v. v.items) (x.coded.generated.initial ∙ x.coded.made.initial) ∙ x.flattens.initial ∙ sym (ap (λ v. v.items) (y.coded.generated.initial ∙ y.coded.made.initial) ∙ y.flattens.initial);
      layouts = ap (λ v. v.items) (x.coded.generated.layouts ∙ x.coded.made.layouts) ∙ x.flattens.layouts ∙ sym (ap (λ v. v.items) (y.coded.generated.layouts ∙ y.coded.made.layouts) ∙ y.flattens.layouts);
      pointers = ap (λ v. v.items) (x.coded.generated.pointers ∙ x.coded.made.pointers) ∙ x.flattens.pointers ∙ sym (ap (λ v. v.items) (y.coded.generated.pointers ∙ y.coded.made.pointers) ∙ y.flattens.pointers);
      sites = λ n. subst (λ ss. IsSamePlace a b (get_or ss n no_place) (get_or b.sites.items n no_place)) (sym p.sites)
          (subst (λ ss. IsSamePlace a b (get_or (sites_of (told m).lines p.texts) n no_place) (get_or ss n no_place)) (sym q.sites) (sites_same m.typed a b (told m).lines p.texts q.texts p.lie q.lie n));
      files = x.coded.generated.files ∙ x.coded.made.files ∙ x.flattens.files ∙ sym (y.coded.generated.files ∙ y.coded.made.files ∙ y.flattens.files);
    }
  where
    globals_are : (code : Code) (is : IsCompiled m code) → code.globals.items ≡ (told m).globals
    globals_are code is = ap (λ v. v.items) (is.coded.generated.globals ∙ is.coded.made.globals) ∙ is.flattens.globals

    globals_same : a.globals.items ≡ b.globals.items
    globals_same = globals_are a x ∙ sym (globals_are b y)

    main_same : x.flat.main ≡ y.flat.main
    main_same = let f = x.flattens.main in let g = y.flattens.main in one m.typed resolved x.flat.main y.flat.main f.0 g.0 f.1 g.1 (f.2 ∙ sym g.2)
