-- The piece of guarded code that a line becomes is typed from what is known before the line to what may be known after it.
use Rattle.sharc_typed_laws.proofs.{Imports.{◌≡◌, ◌≢◌, ℕ, Bool, true, false, List, [], ◌∷◌, ◌++◌, refl, sym, ap, ◌∙◌, subst, inl, inr, append_assoc, map-append, map, Code, SourcePlace, Cell, Instr, put, place_at, put_same, put_other, put_all, Op, Spot, instr_of, check_under, expand, source_of, with_texts, LineTexts, Targets, StaticType, Field, Empty, Refers, Loaded, Sole, Label, Labels, EntryMentions, IsFree, empty, gated, IsUnpassed, Accesses, MayAccess, IsNotSole, IsMode, kept_pass, less_refl, all_at, Chain, known_behind, gate_behind, passed_behind, behind, before_check, tested, cleared, exchanged, inside, LeadsOn, PassesCheck, Loads, Stores, LoadsReference, StoresReference, LoadsGuard, Settles, Makes, Gives, Frees, TypedLine}, TypedAlike.{has_cell, less_entry, points_to, recasts}, Checking.{passed, chain_check, accesses, dynamic}}
use Rattle.sharc_code.specs.declared.code.PlaceMode.TheVariants.{Readonly}

mapped : {A B : Type 0} (f : A → B) (a b c : List A) → map f ((a ++ b) ++ c) ≡ map f a ++ map f (b ++ c)
mapped f a b c = ap (map f) (append_assoc a b c) ∙ map-append f a (b ++ c)

-- ---- registers
free_without : (l : Label) (to from : ℕ) → IsFree l from → IsFree (empty l to) from
free_without l to from h = record { paths = λ q ne m. h.paths q ne (without q m) }
  where
    without : (q : ℕ) → EntryMentions (put l.env to Empty q) from → EntryMentions (l.env q) from
    without = put_all (λ q e. EntryMentions e from → EntryMentions (l.env q) from) l.env to Empty (λ m. absurd m) (λ q _ m. m)

unpassed : (l : Label) (r : ℕ) → IsUnpassed (tested l r) r
unpassed l r p among base = (kept_pass r l.passed p among).1 r base refl

-- ---- operations
module _ (x : Targets) (code : Code) (ls : Labels) (n : ℕ) (l k : Label) where
  settles : (to from : ℕ) → Settles code l k to from → Chain x code ls (l ∷ empty l to ∷ []) (Instr.Lower to ∷ Instr.MoveReference to from ∷ []) k
  settles to from h =
      let other : from ≡ to → ⊥ = λ e. h.apart (sym e) in
      let plain : EntryMentions ((empty l to).env from) from → ⊥ = λ m. h.plain (subst (λ e. EntryMentions e from) (put_other l.env to from Empty other) m) in (
        (h.closed, h.target, inl (h.target_free, less_refl (empty l to))),
        ((refl, inr (record { is = h.target; empty = put_same l.env to Empty }, h.source, h.apart, free_without l to from h.source_free, plain, h.next)), tt),
      )

  makes : (r count cells : ℕ) (spot : Spot) {told : LineTexts} → place_at code n ≡ with_texts told (source_of (Op.New r count cells spot)) → Makes x code l k r cells spot → Chain x code ls (l ∷ []) (Instr.New r count cells n ∷ []) k
  makes r count cells spot site h =
      let token : (place_at code n).site.token ≡ spot.site.token = ap (λ (p : SourcePlace). p.site.token) site in
      ((h.closed, h.register, (h.type, h.some, h.row, h.size, h.few, (λ i. h.pointers i ∙ ap (λ t. x.is_made_pointer t i) (sym token)), h.other, h.next)), tt)

  gives : (r cells : ℕ) → Gives x code l k r cells
      → Chain x code ls (l ∷ tested l r ∷ cleared l r ∷ []) (Instr.TestSole r n ∷ Instr.Clear r cells ∷ Instr.Give r n ∷ []) k
  gives r cells h = (
    (h.closed, h.register, h.known, less_refl (tested l r)),
    (
      (refl, unpassed l r, (h.before, h.is, h.size, less_refl (cleared l r))),
      ((refl, record { paths = h.free.paths }, (h.before, h.given, h.is, recasts l l.known (Sole r true) (cleared l r).passed x r h.before h.given h.recasts, h.other, h.next)), tt),
    ),
  )

  frees : (r layout : ℕ) → Frees x code l k r layout → Chain x code ls (l ∷ tested l r ∷ []) (Instr.TestSole r n ∷ Instr.Free r layout n ∷ []) k
  frees r layout h = (
    (h.closed, h.register, h.known, less_refl (tested l r)),
    (((false, refl), record { paths = h.free.paths }, unpassed l r, (h.type, h.is, h.laid), h.next), tt),
  )

  loads_guard : (c : Cell) → (place_at code n).mode ≡ Readonly → LoadsGuard x code l k c → Chain x code ls (l ∷ []) (Instr.LoadRef c n ∷ []) k
  loads_guard c site h = ((h.field, h.to, access, h.holds, h.next), tt)
    where
      mode : IsMode code l c h.field.mode (place_at code n).mode
      mode = subst (λ m. IsMode code l c m (place_at code n).mode) (sym h.mode) site

      access : Accesses x code (all_at ls k) l false c n h.field
      access = record {
        cell = h.cell;
        may = subst (λ m. MayAccess x code (all_at ls k) l false c h.field.holds m) (sym h.mode) refl;
        apart = subst IsNotSole (sym h.closed) tt;
        mode = mode;
      }

  module _ (spot : Spot) (site : (place_at code n).mode ≡ spot.mode) where
    -- the statements behind the check
    behind_check : (dropped write : Bool) (c : Cell) (f : Field) → PassesCheck x code ls dropped l write c spot f → (labels : List Label) (own tail : List Instr)
        → Chain x code ls (behind x dropped l write c spot ∷ labels) (map (instr_of code.functions.items) (own ++ tail)) k
        → Chain x code ls (before_check dropped l spot.mode ++ (behind x dropped l write c spot ∷ labels))
        (map (instr_of code.functions.items) ((check_under dropped (dynamic x code ls l write c spot n) spot n spot.mode ++ own) ++ tail)) k
    behind_check dropped write c f h labels own tail chain =
        let p = passed x code ls l write c spot n dropped f spot.mode f.mode h.cell refl h.mode h.may in
        let whole = chain_check x code ls l write c spot n code.functions.items dropped spot.mode labels (map (instr_of code.functions.items) (own ++ tail)) k p.check chain in
        subst (λ is. Chain x code ls (before_check dropped l spot.mode ++ (behind x dropped l write c spot ∷ labels)) is k)
        (sym (mapped (instr_of code.functions.items) (check_under dropped (dynamic x code ls l write c spot n) spot n spot.mode) own tail)) whole

    loads : (dropped : Bool) (i : ℕ) (c : Cell) → Loads x code ls dropped l k i c spot
        → Chain x code ls (inside x dropped (record { target = 0; locks = [] }) (Op.Load i c spot) l) (map (instr_of code.functions.items) (expand (λ j. 0) dropped n (Op.Load i c spot))) k
    loads dropped i c h = behind_check dropped false c h.field h.access [] (Instr.Load i c n ∷ []) []
        ((h.register, (h.field, h.width, accesses x code ls dropped k l false c spot h.field n site h.access, h.holds, h.next)), tt)

    stores : (dropped : Bool) (i : ℕ) (c : Cell) → Stores x code ls dropped l k i c spot
        → Chain x code ls (inside x dropped (record { target = 0; locks = [] }) (Op.Store i c spot) l) (map (instr_of code.functions.items) (expand (λ j. 0) dropped n (Op.Store i c spot))) k
    stores dropped i c h = behind_check dropped true c h.field h.access [] (Instr.Store i c n ∷ []) []
        ((h.field, h.width, accesses x code ls dropped k l true c spot h.field n site h.access, h.holds, h.fits, h.next), tt)

    takes : (r : ℕ) (c : Cell) → LoadsReference x code ls true l k r c spot
        → Chain x code ls (inside x false (record { target = 0; locks = [] }) (Op.TakeCell r c spot) l) (map (instr_of code.functions.items) (expand (λ j. 0) false n (Op.TakeCell r c spot))) k
    takes r c h =
        let points = points_to l (known_behind l spot spot.mode) (gate_behind false l true c spot spot.mode) (passed_behind x false l true c spot.mode) c h.field h.type h.points in
        behind_check false true c h.field h.access [] (Instr.TakeCell r c n ∷ []) []
        ((record { is = h.register.is; empty = h.register.empty }, (h.field, h.type, accesses x code ls false k l true c spot h.field n site h.access, points, h.other, h.next)), tt)

    loads_reference : (r : ℕ) (c : Cell) → LoadsReference x code ls false l k r c spot
        → Chain x code ls (inside x false (record { target = 0; locks = [] }) (Op.LoadRef r c spot) l) (map (instr_of code.functions.items) (expand (λ j. 0) false n (Op.LoadRef r c spot))) k
    loads_reference r c h =
        let b = behind x false l false c spot in
        let points = points_to l (known_behind l spot spot.mode) (Loaded c) (passed_behind x false l false c spot.mode) c h.field h.type h.points in
        let access = accesses x code ls false (gated b (Loaded c)) l false c spot h.field n site h.access in
        behind_check false false c h.field h.access (gated b (Loaded c) ∷ []) (Instr.LoadRef c n ∷ []) (Instr.RaiseLoaded r ∷ []) (
          (h.field, h.points.to, access, h.points.holds, less_refl (gated b (Loaded c))),
          ((record { is = h.register.is; empty = h.register.empty }, (c, h.field, h.type, refl, has_cell b b.known (Loaded c) b.passed (λ r e. e) x code c h.field access.cell, points, h.other, h.next)), tt),
        )

    stores_reference : (type : StaticType) (r : ℕ) (c : Cell) → StoresReference x code ls type l k r c spot
        → Chain x code ls (inside x false type (Op.StoreRef r c spot) l) (map (instr_of code.functions.items) (expand (λ j. 0) false n (Op.StoreRef r c spot))) k
    stores_reference type r c h =
        let known = known_behind l spot spot.mode in
        let gate = gate_behind false l true c spot spot.mode in
        let remembered = passed_behind x false l true c spot.mode in
        let b = behind x false l true c spot in
        let e = exchanged b r type in
        behind_check false true c h.field h.access (e ∷ []) (Instr.Exchange r c n ∷ []) (Instr.Lower r ∷ []) (
          (
            h.register,
            (
              h.field,
              type,
              accesses x code ls false e l true c spot h.field n site h.access,
              points_to l known gate remembered c h.field type h.points,
              less_entry l known gate remembered r (l.env r) (Refers type) h.value,
              record { paths = h.free.paths },
              h.other,
              less_refl e,
            ),
          ),
          ((refl, h.register, inl (record { paths = free_again }, h.next)), tt),
        )
      where
        free_again : (q : ℕ) → q ≢ r → EntryMentions (put (put l.env r Empty) r (Refers type) q) r → ⊥
        free_again q ne m =
            let a = subst (λ e. EntryMentions e r) (put_other (put l.env r Empty) r q (Refers type) ne) m in
            h.free.paths q ne (subst (λ e. EntryMentions e r) (put_other l.env r q Empty ne) a)

-- ---- all
mode_of : (code : Code) (n : ℕ) (p : SourcePlace) → place_at code n ≡ p → (place_at code n).mode ≡ p.mode
mode_of code n p e = ap (λ (q : SourcePlace). q.mode) e

pub pieces : (x : Targets) (code : Code) (ls : Labels) (lines : ℕ) (dropped : Bool) (type : StaticType) (n : ℕ) (l k : Label) (o : Op) (pl : ℕ → ℕ) {told : LineTexts}
    → LeadsOn o → place_at code n ≡ with_texts told (source_of o) → TypedLine x code ls lines dropped type n l k o
    → Chain x code ls (inside x dropped type o l) (map (instr_of code.functions.items) (expand pl dropped n o)) k
pieces x code ls lines dropped type n l k (Op.Skip over) pl on site h = absurd on
pieces x code ls lines dropped type n l k (Op.SkipIfZero i over) pl on site h = absurd on
pieces x code ls lines dropped type n l k (Op.SkipIfNull r over) pl on site h = absurd on
pieces x code ls lines dropped type n l k (Op.Jump to) pl on site h = absurd on
pieces x code ls lines dropped type n l k Op.Enter pl on site h = tt
pieces x code ls lines dropped type n l k Op.BlockEnd pl on site h = tt
pieces x code ls lines dropped type n l k (Op.Settle to from) pl on site h = settles x code ls n l k to from h
pieces x code ls lines dropped type n l k (Op.Load i cell spot) pl on site h = loads x code ls n l k spot (mode_of code n _ site) dropped i cell h
pieces x code ls lines dropped type n l k (Op.Store i cell spot) pl on site h = stores x code ls n l k spot (mode_of code n _ site) dropped i cell h
pieces x code ls lines dropped type n l k (Op.LoadRef r cell spot) pl on site h = loads_reference x code ls n l k spot (mode_of code n _ site) r cell h
pieces x code ls lines dropped type n l k (Op.TakeCell r cell spot) pl on site h = takes x code ls n l k spot (mode_of code n _ site) r cell h
pieces x code ls lines dropped type n l k (Op.StoreRef r cell spot) pl on site h = stores_reference x code ls n l k spot (mode_of code n _ site) type r cell h
pieces x code ls lines dropped type n l k (Op.LoadGuard cell spot) pl on site h = loads_guard x code ls n l k cell (mode_of code n _ site) h
pieces x code ls lines dropped type n l k (Op.New r count cells spot) pl on site h = makes x code ls n l k r count cells spot site h
pieces x code ls lines dropped type n l k (Op.Give r cells spot) pl on site h = gives x code ls n l k r cells h
pieces x code ls lines dropped type n l k (Op.Free r layout spot) pl on site h = frees x code ls n l k r layout h
pieces x code ls lines dropped type n l k o pl on site h = (h, tt)
