-- The first names of lock paths that are kept are found where the cast is written.
use Rattle.sharc_suggest_laws.proofs.{Imports.{◌≡◌, ⊎_elim, ℕ, ◌<◌, ◌≤◌, ◌||◌, Bool, true, false, cond, List, length, get_or, Contains, Option, Some, None, bytes_eq, codes, refl, ap, sym, subst, ◌∙◌, false≢true, cases_lt, items_marks, IsPlaced, Item, Named, Wait, Signal, Broadcast, Scope, Entry, look_up, defines_condition, call_entry, with_conditions, behind_all, no_heads, file_scope, notes_about, named_in, name_tokens, Resolution, IsResolved, named_at, IsToldOnce, text_at, is_call_name, is_call_at, keeps_named, keeps_first}, Calls.{KnowsCalls, items_defined, none_defined, not_known}, Filed.{IsMeant, AreMeant}, Folded.{seen, named_seen, named_past}, Leads.IsFoundIn, Mild.{is_filed, IsSpelled, named_there}, Noted.Clean, Scoped.{IsFoundAs, Scoped}, Spelled.{IsFiledAs, AreSpelt, not_filed}, SpelledAll.{in_program, filed_as, known_said}, Words.{call_text, name_there}}

-- ---- the file has what a token names

pub record HasNames (r : Resolution) (file : List Entry) : Type 0 where
  pub filed : (token : ℕ) → is_filed (named_at r token) ≡ true → (e : Entry) × (look_up file (text_at r token) ≡ Some e)
  pub called : (token : ℕ) → named_at r token ≡ Named.Known → is_call_at r token ≡ true → (e : Entry) × (look_up file (text_at r token) ≡ Some e)

-- a file that knows the calls has their three names
calls_there : (items : List Item) → KnowsCalls (file_scope items) → (text : List ℕ) → is_call_name text ≡ true → (e : Entry) × (look_up (file_scope items).names text ≡ Some e)
calls_there items knows text called = by (defines_condition defined) knows
  where
    defined : Scope
    defined = (behind_all no_heads items).scope

    of_call : (w s b : Bool) (rest : Option Entry) → (w || (s || b)) ≡ true
        → (e : Entry) × (cond b (Some (call_entry (codes "broadcast") Broadcast)) (cond s (Some (call_entry (codes "signal") Signal)) (cond w (Some (call_entry (codes "wait") Wait)) rest)) ≡ Some e)
    of_call w s true rest so = (call_entry (codes "broadcast") Broadcast, refl)
    of_call w true false rest so = (call_entry (codes "signal") Signal, refl)
    of_call true false false rest so = (call_entry (codes "wait") Wait, refl)
    of_call false false false rest so = absurd (false≢true so)

    by : (b : Bool) → KnowsCalls (cond b defined (with_conditions defined)) → (e : Entry) × (look_up (cond b defined (with_conditions defined)).names text ≡ Some e)
    by true so = absurd (not_known defined (items_defined no_heads items none_defined) so)
    by false so = of_call (bytes_eq (codes "wait") text) (bytes_eq (codes "signal") text) (bytes_eq (codes "broadcast") text) (look_up defined.names text) called

pub has_names : (r : Resolution) → IsResolved r → IsPlaced r.program → Clean (notes_about r.program) → ((token : ℕ) → Contains (name_tokens (items_marks r.program.items)) token → IsToldOnce r token) → HasNames r (file_scope r.program.items).names
has_names r resolved placed clean once = record {
  filed = λ token filed. let there = filed_as r resolved placed clean token filed in (there.0, there.1);
  called = λ token known call.
      calls_there r.program.items (known_said r (file_scope r.program.items) token (in_program r placed clean) (once token (name_there r token placed.marked call)) known) (text_at r token) (call_text r token call);
}

-- ---- so a first name that is kept is found, and means what it names

found_by : (r : Resolution) (file names scope : List Entry) → HasNames r file → AreMeant r file → AreMeant r scope → (token : ℕ) → (v : Named) → named_at r token ≡ v → (c : Option Entry) → look_up scope (text_at r token) ≡ c → keeps_named (is_call_at r token) v c ≡ true
    → IsFoundAs c (look_up names (text_at r token)) (look_up file (text_at r token)) → (e : Entry) × (look_up names (text_at r token) ≡ Some e) × IsMeant r e.meaning
found_by r file names scope has meant own token (Named.Struct n) is None at kept found = absurd (false≢true kept)
found_by r file names scope has meant own token (Named.Global n) is None at kept found =
    let there = has.filed token (ap is_filed is) in
    (there.0, found ∙ there.1, meant (text_at r token) there.0 there.1)
found_by r file names scope has meant own token (Named.Function n) is None at kept found =
    let there = has.filed token (ap is_filed is) in
    (there.0, found ∙ there.1, meant (text_at r token) there.0 there.1)
found_by r file names scope has meant own token (Named.Variable x) is (Some c) at kept found =
    (found.0, found.1, subst (IsMeant r) (sym found.2) (own (text_at r token) c at))
found_by r file names scope has meant own token (Named.Field f) is None at kept found = absurd (false≢true kept)
found_by r file names scope has meant own token Named.Known is None at kept found =
    let there = has.called token is kept in
    (there.0, found ∙ there.1, meant (text_at r token) there.0 there.1)
found_by r file names scope has meant own token _ is _ at kept found = absurd (false≢true kept)

pub found_there : (r : Resolution) (file names scope : List Entry) → IsSpelled r file → HasNames r file → AreMeant r file → AreMeant r scope → Scoped file names scope → (token : ℕ) → keeps_first r scope token ≡ true → IsFoundIn r names token
found_there r file names scope spelled has meant own scoped token kept =
    let there = found_by r file names scope has meant own token (named_at r token) refl (look_up scope (text_at r token)) refl kept (scoped (text_at r token)) in (
      there.0,
      there.1,
      named_there r file names token spelled (named_at r token) refl (look_up scope (text_at r token)) kept (scoped (text_at r token)) there.0 there.1,
      there.2,
    )
