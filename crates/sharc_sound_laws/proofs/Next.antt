-- A thread asks for one event next: with enough fuel it wants it, and one answer more brings it.
use Rattle.sharc_sound_laws.proofs.Imports.{◌≡◌, ℕ, ℤ, ◌+◌, ◌<◌, ◌≢◌, List, [], ◌∷◌, ◌++◌, length, refl, sym, ap, ◌∙◌, subst, arith, SourceEvent, Assignment, AskLaws, IsPrefix, asks, Asked, Outcome, wants, IsSameAsked, OneIsNext}

-- ---- lists
longer : {A : Type 0} (xs ys : List A) → length (xs ++ ys) ≡ length xs + length ys
longer [] ys = omega arith
longer (x ∷ xs) ys = let e = longer xs ys in omega arith

-- a list with one more, and another of that length in front
last_is : (xs zs : List SourceEvent) (w d : SourceEvent) (rest : List SourceEvent) → length xs ≡ length zs → zs ++ d ∷ [] ≡ (xs ++ w ∷ []) ++ rest → d ≡ w
last_is [] [] w d rest e q = cc
last_is [] (z ∷ zs) w d rest e q = absurd (omega arith)
last_is (x ∷ xs) [] w d rest e q = absurd (omega arith)
last_is (x ∷ xs) (z ∷ zs) w d rest e q = last_is xs zs w d rest (omega arith) (let tail : zs ++ d ∷ [] ≡ (xs ++ w ∷ []) ++ rest = cc in tail)

module _ (laws : AskLaws) (m : Assignment) (f : ℕ) (argument : ℤ) (answers : List ℤ) where
  abbrev by : List ℤ → ℕ → Asked
  by given fuel = asks m f argument given fuel

  -- the event with the last answer is the one that is wanted with enough fuel
  module _ (a : ℤ) (fuel more : ℕ) (told : List SourceEvent) (w : SourceEvent) (is : (asks m f argument (answers ++ a ∷ []) fuel).events ≡ told ++ w ∷ []) (long : length told ≡ length answers) where
    prefix : IsPrefix (told ++ w ∷ []) (asks m f argument (answers ++ a ∷ []) (fuel + more)).events
    prefix = subst (λ (es : List SourceEvent). IsPrefix es (by (answers ++ a ∷ []) (fuel + more)).events) is (laws.fuel m f argument (answers ++ a ∷ []) fuel more).events

    many : length answers < length (asks m f argument (answers ++ a ∷ []) (fuel + more)).events
    many =
        let p = prefix in
        let n : length (by (answers ++ a ∷ []) (fuel + more)).events ≡ length (told ++ w ∷ []) + length p.0 = ap (λ (es : List SourceEvent). length es) p.1 ∙ longer (told ++ w ∷ []) p.0 in
        let k = longer told (w ∷ []) in
        omega arith

    -- so it wants one
    pub wanted : (o : Outcome) → (asks m f argument answers (fuel + more)).outcome ≡ o → (d : SourceEvent) × ((asks m f argument answers (fuel + more)).outcome ≡ wants d)
    wanted (wants d) e = (d, e)
    wanted o e = absurd (none (λ d q. let z : o ≡ wants d = sym e ∙ q in cc))
      where
        none : ((d : SourceEvent) → (asks m f argument answers (fuel + more)).outcome ≢ wants d) → ⊥
        none never =
            let same = laws.answers_same m f argument answers (a ∷ []) (fuel + more) never in
            let at_most = laws.events m f argument answers (fuel + more) in
            let n : length (by (answers ++ a ∷ []) (fuel + more)).events ≡ length (by answers (fuel + more)).events = ap (λ (k : Asked). length k.events) same in
            let l = many in
            omega arith

    pub comes_as : (d : SourceEvent) → (asks m f argument answers (fuel + more)).outcome ≡ wants d → IsSameAsked w d
    comes_as d e =
        let c = laws.comes m f argument answers a (fuel + more) d e in
        let n = laws.wanted m f argument answers (fuel + more) d e in
        let p = prefix in
        let same = last_is told (by answers (fuel + more)).events w (record d { answer = c.answer }) p.0 (long ∙ sym n) (sym c.events ∙ p.1) in
        record { act = ap (λ (e : SourceEvent). e.act) (sym same); site = ap (λ (e : SourceEvent). e.site) (sym same) }

pub one_is_next : AskLaws → OneIsNext
one_is_next laws m f argument answers a b fuel more told other w e is long is' long' =
    let wanted = wanted laws m f argument answers a fuel more told w is long (asks m f argument answers (fuel + more)).outcome refl in
    let left = comes_as laws m f argument answers a fuel more told w is long wanted.0 wanted.1 in
    let turned : more + fuel ≡ fuel + more = omega arith in
    let right = comes_as laws m f argument answers b more fuel other e is' long' wanted.0 (ap (λ n. (asks m f argument answers n).outcome) turned ∙ wanted.1) in
    record { act = left.act ∙ sym right.act; site = left.site ∙ sym right.site }
