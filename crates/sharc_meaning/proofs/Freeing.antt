-- What a `free` has taken is freed next.
use Rattle.sharc_meaning.proofs.{Imports.{◌≡◌, inl, inr, ℕ, ℤ, pos, List, [], ◌∷◌, ◌++◌, length, get_or, reverse, refl, sym, ap, ◌∙◌, subst, append_assoc, both_ways, AllByRecursion, SourceEvent, function_at, GivenUp, Emptied, asked_at, asked_by, number_of, State, Outcome, Out, go, over, held_by_frame, held_references, pointers_among, FreesFollowIn, FreesFollow, WasTaken, EmptiedWereTaken}, Closed.{NotEmptied, thread_kept}, Settled.{Followed, Settled, settled_followed, pending_followed, followed_there, settled_last, pending_some, Freeing, Calm, Quiet, calm, no_emptied}}
use Rattle.std.specs.List.{flat_map}
use Rattle.sharc_meaning.specs.Meaning.{start}

pub last_same : {A : Type 0} (a b : List A) (x y : A) → a ++ x ∷ [] ≡ b ++ y ∷ [] → x ≡ y
last_same [] [] x y h = cc
last_same [] (c ∷ []) x y h = absurd (cc)
last_same [] (c ∷ d ∷ b) x y h = absurd (cc)
last_same (c ∷ []) [] x y h = absurd (cc)
last_same (c ∷ d ∷ a) [] x y h = absurd (cc)
last_same (c ∷ a) (d ∷ b) x y h = let tails : a ++ x ∷ [] ≡ b ++ y ∷ [] = cc in last_same a b x y tails

last_there : (xs : List ℤ) (v : ℤ) → get_or (xs ++ v ∷ []) (length xs) (pos 0) ≡ v
last_there [] v = refl
last_there (x ∷ xs) v = last_there xs v

-- a temporary that is the last one is held
held_last : (s : State) (others : List ℤ) (v : ℤ) → s.frame.temporaries ≡ others ++ v ∷ [] → (k : ℕ) × (get_or (held_references s) k (pos 0) ≡ v)
held_last s others v is =
    let callers = flat_map held_by_frame (reverse s.callers) in
    let variables = pointers_among s.frame.variables in
    let all : held_references s ≡ (callers ++ (variables ++ others)) ++ v ∷ [] =
    ap (λ l. callers ++ (variables ++ l)) is ∙ ap (λ l. callers ++ l) (sym (append_assoc variables others (v ∷ []))) ∙ sym (append_assoc callers (variables ++ others) (v ∷ [])) in
    (length (callers ++ (variables ++ others)), ap (λ l. get_or l (length (callers ++ (variables ++ others))) (pos 0)) all ∙ last_there (callers ++ (variables ++ others)) v)

settled_follow : (o : Outcome) (s : State) → Settled s.events → FreesFollowIn (asked_at o s)
settled_follow o s h = record {
  followed = λ before e d after is. followed_there s.events before e d after (settled_followed s.events h) is;
  last = λ before e is takes. absurd (both_ways _ (settled_last s.events before e h is) takes);
}

freeing_follow : (o : Outcome) (s : State) → Freeing o s → FreesFollowIn (asked_at o s)
freeing_follow o s f = record {
  followed = λ before e d after is. followed_there s.events before e d after (subst Followed (sym f.pending.stands) (pending_followed f.pending.before f.pending.event f.pending.settled)) is;
  last = λ before e is takes.
      let same : f.reference ≡ e.answer = sym f.pending.answer ∙ ap (λ (d : SourceEvent). d.answer) (last_same f.pending.before before f.pending.event e (sym f.pending.stands ∙ is)) in
      let number : number_of f.reference ≡ number_of e.answer = ap number_of same in
      record {
        before = f.before;
        given_is = f.given_is ∙ ap (λ n. f.before ++ Emptied n ∷ []) number;
        event = f.event;
        wanted = f.wanted;
        reference = f.reference;
        act = f.act;
        number = number;
        some = pending_some f.reference s f.pending;
        held = held_last s f.held.0 f.reference f.held.1;
      };
}

calm_follow : {A : Type 0} (o : Out A) → Calm o → FreesFollowIn (asked_by o)
calm_follow (go x s) h = settled_follow _ s h.0
calm_follow (over o s) (inl h) = settled_follow o s h.0
calm_follow (over o s) (inr f) = freeing_follow o s f

pub frees_follow : FreesFollow
frees_follow m f argument answers fuel = calm_follow _ (thread_kept (λ _. Quiet) calm m (function_at m.typed f) argument (start answers fuel) (tt, tt))

-- ---- the other way
emptied_number : (m n : ℕ) → Emptied m ≡ Emptied n → m ≡ n
emptied_number m n e = cc

freeing_taken : (o : Outcome) (s : State) → Freeing o s → (before : List GivenUp) (n : ℕ) → s.given_up ≡ before ++ Emptied n ∷ [] → WasTaken (asked_at o s) n
freeing_taken o s f before n given = record {
  before = f.pending.before;
  event = f.pending.event;
  stands = f.pending.stands;
  takes = f.pending.takes;
  number = ap number_of f.pending.answer ∙ emptied_number (number_of f.reference) n (last_same f.before before (Emptied (number_of f.reference)) (Emptied n) (sym f.given_is ∙ given));
}

calm_taken : {A : Type 0} (o : Out A) → Calm o → (before : List GivenUp) (n : ℕ) → (asked_by o).given_up ≡ before ++ Emptied n ∷ [] → WasTaken (asked_by o) n
calm_taken (go x s) h before n given = absurd (no_emptied before n (subst (AllByRecursion NotEmptied) given h.1))
calm_taken (over o s) (inl h) before n given = absurd (no_emptied before n (subst (AllByRecursion NotEmptied) given h.1))
calm_taken (over o s) (inr f) before n given = freeing_taken o s f before n given

pub emptied_were_taken : EmptiedWereTaken
emptied_were_taken m f argument answers fuel = calm_taken _ (thread_kept (λ _. Quiet) calm m (function_at m.typed f) argument (start answers fuel) (tt, tt))
