-- The plain list of last tokens.
use Rattle.std.proofs.Common.{◌≡◌, ◌≤◌, ◌+◌, ◌-◌, ◌↔◌, if◌then◌else◌, ℕ, suc, Bool, true, false, not, cond, ◌&&◌, List, [], ◌∷◌, ◌++◌, length, length-append, find, filter, Option, Some, None, Result, Ok, Err, OnOk, OnErr, ◌<◌, refl, sym, ap, subst, ◌∙◌, inl, inr, arith}
use Rattle.std.specs.List.{list_any}
use Rattle.std.specs.Option.{option_or}
use Rattle.std.proofs.lemmas.List.Folds.{find-append}
use Rattle.std.proofs.lemmas.Bool.{cases_Bool}
use Rattle.std.proofs.lemmas.Option.{none-some, same_Some}
use Rattle.tags.specs.declared.param.Param.{Param}
use Rattle.tags.specs.declared.tag.Tag.TheVariants.{AuthTimeout}
use Rattle.tags.specs.Values.{passes}
use Rattle.tag_lists.specs.Lookups.{number_of}
use Rattle.std.proofs.lemmas.List.Filters.{length-filter_both}
use Rattle.auth_tokens.specs.declared.token.AuthToken.{AuthToken}
use Rattle.token_store.specs.Fitting.{fits, is_recent, opens}
use Rattle.token_store.specs.Table.{is_of, is_like, IsLast, IsNew, is_held, others_of, other_triples, triple_count, IsEachOnce, IsSound, SameTokens, AddsToken, with_last, FindsAdded, is_timely, IsTimely}
use Rattle.token_store.proofs.Triples.{like_itself, like_back, unlike_back, like_same, like_triple}
use Rattle.tags.specs.declared.limits.TheConstants.{MOST_TRIPLES}

-- ---- filters

module _ {X : Type 0} where
  pub no_more : (p : X → Bool) (xs : List X) → length (filter p xs) ≤ length xs
  no_more p xs = omega (arith, length-filter_both p (λ x. not (p x)) (λ x. refl) xs)

  -- a filter that takes none out
  pub all_kept : (p : X → Bool) (xs : List X) → length xs ≤ length (filter p xs) → filter p xs ≡ xs
  all_kept p [] h = refl
  all_kept p (x ∷ xs) h = elim (cases_Bool (p x)) [
    | inl e ↦ (let shorter : length xs ≤ length (filter p xs) = omega (arith, rw e at h) in rw e (ap (λ ys. x ∷ ys) (all_kept p xs shorter)))
    | inr e ↦ absurd (let longer : suc (length xs) ≤ length (filter p xs) = rw e at h in omega (arith, longer, no_more p xs))
  ]

  -- a look-up in what a filter leaves
  pub found_out : (p q : X → Bool) → ((x : X) → p x ≡ true → q x ≡ false) → (xs : List X) → find p (filter q xs) ≡ None
  found_out p q apart [] = refl
  found_out p q apart (x ∷ xs) = elim (cases_Bool (q x)) [
    | inl e ↦ elim (cases_Bool (p x)) [
      | inl f ↦ absurd (let g = apart x f in cc)
      | inr f ↦ rw (e, f) (found_out p q apart xs)
    ]
    | inr e ↦ rw e (found_out p q apart xs)
  ]

  pub found_still : (p q : X → Bool) → ((x : X) → p x ≡ true → q x ≡ true) → (xs : List X) → find p (filter q xs) ≡ find p xs
  found_still p q kept [] = refl
  found_still p q kept (x ∷ xs) = elim (cases_Bool (p x)) [
    | inl f ↦ rw (kept x f, f) refl
    | inr f ↦ elim (cases_Bool (q x)) [
      | inl e ↦ rw (e, f) (found_still p q kept xs)
      | inr e ↦ rw (e, f) (found_still p q kept xs)
    ]
  ]

  pub found_less : (p q : X → Bool) (xs : List X) → find p xs ≡ None → find p (filter q xs) ≡ None
  found_less p q [] h = refl
  found_less p q (x ∷ xs) h = elim (cases_Bool (p x)) [
    | inl f ↦ absurd (none-some x (sym (rw f at h)))
    | inr f ↦ (let later : find p xs ≡ None = rw f at h in elim (cases_Bool (q x)) [
      | inl e ↦ rw (e, f) (found_less p q xs later)
      | inr e ↦ rw e (found_less p q xs later)
    ])
  ]

  or_none : (o : Option X) → option_or o None ≡ o
  or_none None = refl
  or_none (Some x) = refl

  -- a look-up in a list with one more
  pub found_more : (p : X → Bool) (xs : List X) (y : X) → p y ≡ false → find p (xs ++ y ∷ []) ≡ find p xs
  found_more p xs y e = find-append p xs (y ∷ []) ∙ rw e (or_none (find p xs))

  pub found_last : (p : X → Bool) (xs : List X) (y : X) → find p xs ≡ None → p y ≡ true → find p (xs ++ y ∷ []) ≡ Some y
  found_last p xs y none e = find-append p xs (y ∷ []) ∙ rw (none, e) refl

  -- what is found passes each test that decides for the list
  pub any_found : (p q : X → Bool) (xs : List X) (y : X) → find p xs ≡ Some y → q y ≡ true → list_any q xs ≡ true
  any_found p q [] y e passes = absurd (none-some y e)
  any_found p q (x ∷ xs) y e passes = elim (cases_Bool (q x)) [
    | inl g ↦ rw g refl
    | inr g ↦ elim (cases_Bool (p x)) [
      | inl f ↦ absurd (let same : x ≡ y = same_Some x y (rw f at e) in let t : q x ≡ true = ap q same ∙ passes in cc)
      | inr f ↦ rw g (any_found p q xs y (rw f at e) passes)
    ]
  ]

-- ---- one token more

-- the look-ups then
pub finds_added : (tokens : List AuthToken) (token : AuthToken) → FindsAdded tokens (with_last tokens token) token
finds_added tokens token = λ u a k. elim (cases_Bool (is_of u a k token)) [
  | inl own ↦ rw own (found_last (is_of u a k) (others_of tokens token) token
      (found_out (is_of u a k) (λ other. not (is_like token other)) (λ x of. ap not (like_same u a k token x own of)) tokens) own)
  | inr other ↦ rw other (found_more (is_of u a k) (others_of tokens token) token other
      ∙ found_still (is_of u a k) (λ x. not (is_like token x)) (λ x of. kept u a k x other of) tokens)
] where
  kept : (u a k : ℕ) (x : AuthToken) → is_of u a k token ≡ false → is_of u a k x ≡ true → not (is_like token x) ≡ true
  kept u a k x other of = elim (cases_Bool (is_like token x)) [
    | inl same ↦ absurd (let back = like_triple u a k x token of (like_back token x same) in cc)
    | inr e ↦ ap not e
  ]

-- each triple still has one
once_filter : (q : AuthToken → Bool) (tokens : List AuthToken) → IsEachOnce tokens → IsEachOnce (filter q tokens)
once_filter q [] h = tt
once_filter q (t ∷ ts) h = elim (cases_Bool (q t)) [
  | inl e ↦ rw e (found_less (is_like t) q ts h.0, once_filter q ts h.1)
  | inr e ↦ rw e (once_filter q ts h.1)
]

once_push : (tokens : List AuthToken) (token : AuthToken) → IsEachOnce tokens → find (is_like token) tokens ≡ None → IsEachOnce (tokens ++ token ∷ [])
once_push [] token h none = (refl, tt)
once_push (t ∷ ts) token h none = elim (cases_Bool (is_like token t)) [
  | inl e ↦ absurd (none-some t (sym (rw e at none)))
  | inr e ↦ (found_more (is_like t) ts token (unlike_back token t e) ∙ h.0, once_push ts token h.1 (rw e at none))
]

pub once_with_last : (tokens : List AuthToken) (token : AuthToken) → IsEachOnce tokens → IsEachOnce (with_last tokens token)
once_with_last tokens token h =
    once_push (others_of tokens token) token (once_filter (λ other. not (is_like token other)) tokens h)
    (found_out (is_like token) (λ other. not (is_like token other)) (λ x e. ap not e) tokens)

-- ---- how many triples there are

-- tokens of one triple are like the same tokens
same_test : (t token x : AuthToken) → is_like token t ≡ true → is_like t x ≡ is_like token x
same_test t token x e = elim (cases_Bool (is_like token x)) [
  | inl f ↦ like_same token.user token.authenticator token.kind t x e f ∙ sym f
  | inr f ↦ elim (cases_Bool (is_like t x)) [
    | inl g ↦ absurd (let h = like_triple token.user token.authenticator token.kind t x e g in cc)
    | inr g ↦ g ∙ sym f
  ]
]

same_look_up : (t token : AuthToken) (ts : List AuthToken) → is_like token t ≡ true → find (is_like t) ts ≡ find (is_like token) ts
same_look_up t token [] e = refl
same_look_up t token (x ∷ xs) e = rw (same_test t token x e) (ap (λ o. cond (is_like token x) (Some x) o) (same_look_up t token xs e))

-- where none is of its triple, all are of other triples
all_others : (tokens : List AuthToken) (token : AuthToken) → find (is_like token) tokens ≡ None → other_triples tokens token ≡ triple_count tokens
all_others [] token none = refl
all_others (t ∷ ts) token none = elim (cases_Bool (is_like token t)) [
  | inl e ↦ absurd (none-some t (sym (rw e at none)))
  | inr e ↦ rw e (ap suc (all_others ts token (rw e at none)))
]

pub others_count : (tokens : List AuthToken) (token : AuthToken) → IsEachOnce tokens → other_triples tokens token ≡ (if is_held tokens token then triple_count tokens - 1 else triple_count tokens)
others_count [] token h = refl
others_count (t ∷ ts) token h = elim (cases_Bool (is_like token t)) [
  | inl e ↦ (let rest : other_triples ts token ≡ triple_count ts = all_others ts token (sym (same_look_up t token ts e) ∙ h.0) in rw e (omega (arith, rest)))
  | inr e ↦ elim (cases_Bool (is_held ts token)) [
    | inl f ↦ (let later : other_triples ts token ≡ triple_count ts - 1 = others_count ts token h.1 ∙ rw f refl in let some : 0 < triple_count ts = some_held ts token f in rw (e, f) (omega (arith, later, some)))
    | inr f ↦ (let later : other_triples ts token ≡ triple_count ts = others_count ts token h.1 ∙ rw f refl in rw (e, f) (ap suc later))
  ]
] where
  some_held : (ts : List AuthToken) (token : AuthToken) → is_held ts token ≡ true → 0 < triple_count ts
  some_held [] token e = absurd (let t : false ≡ true = e in cc)
  some_held (t ∷ ts) token e = omega arith

-- ---- which token opens a key

last_more : (t : AuthToken) (ts : List AuthToken) (token : AuthToken) → IsNew ts t → IsLast ts token → IsLast (t ∷ ts) token
last_more t ts token new last = elim (cases_Bool (is_like token t)) [
  | inl e ↦ absurd (let found : find (is_like t) ts ≡ Some token = same_look_up t token ts e ∙ last in none-some token (sym new ∙ found))
  | inr e ↦ rw e last
]

some_opens : (tokens : List AuthToken) (key : List Param) (boot : ℕ) → IsEachOnce tokens → is_timely tokens key boot ≡ true → IsTimely tokens key boot
some_opens [] key boot h e = absurd (let t : false ≡ true = e in cc)
some_opens (t ∷ ts) key boot h e = elim (cases_Bool (opens key boot t)) [
  | inl f ↦ (t, rw (like_itself t) refl, f)
  | inr f ↦ (let later = some_opens ts key boot h.1 (rw f at e) in (later.0, last_more t ts later.0 h.0 later.1, later.2))
]

-- the answer as a bool, and as a fact about look-ups
pub timely_is : (tokens : List AuthToken) (key : List Param) (boot : ℕ) (answer : Bool) → IsEachOnce tokens → answer ≡ is_timely tokens key boot → (answer ≡ true) ↔ IsTimely tokens key boot
timely_is tokens key boot answer h is =
    ((λ yes'. some_opens tokens key boot h (sym is ∙ yes')), λ found. is ∙ any_found (is_like found.0) (opens key boot) tokens found.0 found.1 found.2)

pub timely_within : (tokens : List AuthToken) (key : List Param) (seconds boot : ℕ) → number_of AuthTimeout key ≡ Some seconds → list_any (λ token. is_recent seconds boot token && fits key token) tokens ≡ is_timely tokens key boot
timely_within tokens key seconds boot e =
    subst (λ (o : Option ℕ). list_any (λ token. is_recent seconds boot token && fits key token) tokens ≡ list_any (λ token. passes (λ s. is_recent s boot token) o && fits key token) tokens) (sym e) refl

none_opens : (tokens : List AuthToken) → list_any (λ (token : AuthToken). false) tokens ≡ false
none_opens [] = refl
none_opens (t ∷ ts) = none_opens ts

pub timely_never : (tokens : List AuthToken) (key : List Param) (boot : ℕ) → number_of AuthTimeout key ≡ None → false ≡ is_timely tokens key boot
timely_never tokens key boot e =
    subst (λ (o : Option ℕ). false ≡ list_any (λ token. passes (λ s. is_recent s boot token) o && fits key token) tokens) (sym e) (sym (none_opens tokens))

-- ---- what `add` keeps

pub sound_after : {T E : Type 0} (result : Result T E) (old new : List AuthToken) (token : AuthToken) → IsSound old → OnOk result (AddsToken old new token) → OnOk result (other_triples old token < MOST_TRIPLES) → OnErr result (SameTokens old new) → IsSound new
sound_after (Ok x) old new token sound added few same = subst IsSound (sym added) (record {
  once = once_with_last old token sound.once;
  few = omega (arith, few, length-append (others_of old token) (token ∷ []));
})
sound_after (Err e) old new token sound added few same = subst IsSound (sym same) sound

pub found_after : {T E : Type 0} (result : Result T E) (old new : List AuthToken) (token : AuthToken) → OnOk result (AddsToken old new token) → OnOk result (FindsAdded old new token)
found_after (Ok x) old new token added = subst (λ tokens. FindsAdded old tokens token) (sym added) (finds_added old token)
found_after (Err e) old new token added = tt

pub count_after : {T E : Type 0} (result : Result T E) (old new : List AuthToken) (token : AuthToken) → OnOk result (AddsToken old new token) → OnOk result (triple_count new ≡ other_triples old token + 1)
count_after (Ok x) old new token added = ap length added ∙ length-append (others_of old token) (token ∷ [])
count_after (Err e) old new token added = tt
