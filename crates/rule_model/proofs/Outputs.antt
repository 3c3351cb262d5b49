-- The finishes that gave output with a key are no more than its uses: each brought back a ticket that went out with a use.
use Rattle.std.proofs.Common.{◌≡◌, ◌⊎◌, inl, inr, ℕ, ◌+◌, ◌≤◌, Bool, true, false, ◌==◌, ◌&&◌, ◌||◌, not, if◌then◌else◌, List, [], ◌∷◌, ◌++◌, map, filter, find, length, Some, refl, sym, ap, ◌∙◌, subst, arith}
use Rattle.std.proofs.lemmas.Bool.{eqb-true}
use Rattle.std.specs.List.{list_any}
use Rattle.std.specs.Option.{option_and_then}
use Rattle.rule_model.specs.Entries.{gives}
use Rattle.rule_model.specs.declared.operation.Open.{Open}
use Rattle.rule_model.specs.declared.operation.Operation.{Operation}
use Rattle.rule_model.specs.Operations.{has_number, limited_key, used_key}
use Rattle.rule_model.proofs.Bounds.{Each, each_changed, each_left, each_more}

-- ---- operations of different numbers

-- the numbers are at most this one, and each differs from those behind it
abbrev pub IsFew : ℕ → Open → Type 0
IsFew most o = o.operation.number ≤ most

abbrev pub Differs : ℕ → Open → Type 0
Differs number o = o.operation.number ≡ number → ⊥

abbrev pub Apart : List Open → Type 0
Apart [] = Unit {0}
Apart (o ∷ opened) = Each (Differs o.operation.number) opened × Apart opened

pub apart_left : (test : Open → Bool) (opened : List Open) → Apart opened → Apart (filter test opened)
apart_left test [] apart = tt
apart_left test (o ∷ opened) apart = by_test (test o) (apart_left test opened apart.1) where
  by_test : (b : Bool) → Apart (filter test opened) → Apart (if b then o ∷ filter test opened else filter test opened)
  by_test true rest = (each_left (Differs o.operation.number) test opened apart.0, rest)
  by_test false rest = rest

pub apart_changed : (change : Open → Open) → ((o : Open) → (change o).operation ≡ o.operation) → (opened : List Open) → Apart opened → Apart (map change opened)
apart_changed change same [] apart = tt
apart_changed change same (o ∷ opened) apart = (
  each_changed (Differs o.operation.number) (Differs (change o).operation.number) change
      (λ p differs is. differs (ap (λ (it : Operation). it.number) (sym (same p)) ∙ is ∙ ap (λ (it : Operation). it.number) (same o))) opened apart.0,
  apart_changed change same opened apart.1,
)

pub apart_more : (opened : List Open) (o : Open) → Each (Differs o.operation.number) opened → Apart opened → Apart (opened ++ o ∷ [])
apart_more [] o differs apart = (tt, tt)
apart_more (first ∷ opened) o differs apart =
    (each_more (Differs first.operation.number) opened o apart.0 (λ is. differs.0 (sym is)), apart_more opened o differs.1 apart.1)

-- ---- an operation of a number with the limited key of another

abbrev pub works_on : ℕ → ℕ → Open → Bool
works_on number id o = has_number number o && gives (limited_key o) id

-- that some operation is so does not come about by an entry that opens none of this number
pub any_left : (test : Open → Bool) (p : Open → Bool) (opened : List Open) → list_any p (filter test opened) ≡ true → list_any p opened ≡ true
any_left test p [] e = e
any_left test p (o ∷ opened) e = by_own (test o) (p o) refl e (any_left test p opened) where
  by_own : (b own : Bool) → p o ≡ own → list_any p (if b then o ∷ filter test opened else filter test opened) ≡ true → (list_any p (filter test opened) ≡ true → list_any p opened ≡ true) → (p o || list_any p opened) ≡ true
  by_own b true is any rest = rw is refl
  by_own true false is any rest = rw is (rest (subst (λ own. (own || list_any p (filter test opened)) ≡ true) is any))
  by_own false false is any rest = rw is (rest any)

pub any_changed : (change : Open → Open) (p : Open → Bool) → ((o : Open) → p (change o) ≡ p o) → (opened : List Open) → list_any p (map change opened) ≡ list_any p opened
any_changed change p same [] = refl
any_changed change p same (o ∷ opened) = ap (λ b. b || list_any p (map change opened)) (same o) ∙ ap (λ b. p o || b) (any_changed change p same opened)

pub any_more : (p : Open → Bool) (opened : List Open) (o : Open) → list_any p (opened ++ o ∷ []) ≡ true → (list_any p opened ≡ true) ⊎ (p o ≡ true)
any_more p [] o e = inr (only (p o) e) where
  only : (b : Bool) → (b || false) ≡ true → b ≡ true
  only true is = refl
  only false is = is
any_more p (first ∷ opened) o e = by_first (p first) e (any_more p opened o) where
  by_first : (b : Bool) → (b || list_any p (opened ++ o ∷ [])) ≡ true → (list_any p (opened ++ o ∷ []) ≡ true → (list_any p opened ≡ true) ⊎ (p o ≡ true)) → ((b || list_any p opened) ≡ true) ⊎ (p o ≡ true)
  by_first true is rest = inl refl
  by_first false is rest = rest is

-- none of the number, where all differ from it
none_of : (number id : ℕ) (opened : List Open) → Each (Differs number) opened → list_any (works_on number id) opened ≡ false
none_of number id [] differs = refl
none_of number id (o ∷ opened) differs = rw (other (o.operation.number == number) refl, none_of number id opened differs.1) refl where
  other : (b : Bool) → (o.operation.number == number) ≡ b → (b && gives (limited_key o) id) ≡ false
  other true is = absurd (differs.0 (eqb-true o.operation.number number is))
  other false is = refl

only : (b : Bool) → (b || false) ≡ true → b ≡ true
only true is = refl
only false is = is

-- the one that is found is the one that is so
pub used_from_any : (number id : ℕ) (opened : List Open) → Apart opened → list_any (works_on number id) opened ≡ true → gives (used_key number opened) id ≡ true
used_from_any number id [] apart e = cc
used_from_any number id (o ∷ opened) apart e = by_number (o.operation.number == number) refl e (used_from_any number id opened apart.1) where
  by_number : (b : Bool) → (o.operation.number == number) ≡ b → ((b && gives (limited_key o) id) || list_any (works_on number id) opened) ≡ true
      → (list_any (works_on number id) opened ≡ true → gives (used_key number opened) id ≡ true) → gives (option_and_then limited_key (if b then Some o else find (has_number number) opened)) id ≡ true
  by_number false is any rest = rest any
  by_number true is any rest =
      let none : list_any (works_on number id) opened ≡ false = none_of number id opened (subst (λ n. Each (Differs n) opened) (eqb-true o.operation.number number is) apart.0) in
      only (gives (limited_key o) id) (subst (λ b. (gives (limited_key o) id || b) ≡ true) none any)

pub any_from_used : (number id : ℕ) (opened : List Open) → gives (used_key number opened) id ≡ true → list_any (works_on number id) opened ≡ true
any_from_used number id [] e = cc
any_from_used number id (o ∷ opened) e = by_number (o.operation.number == number) e (any_from_used number id opened) where
  by_number : (b : Bool) → gives (option_and_then limited_key (if b then Some o else find (has_number number) opened)) id ≡ true
      → (gives (used_key number opened) id ≡ true → list_any (works_on number id) opened ≡ true) → ((b && gives (limited_key o) id) || list_any (works_on number id) opened) ≡ true
  by_number true is rest = rw is refl
  by_number false is rest = rest is

-- ---- tickets

-- fewer tickets are left without one that is among them
pub left_length : (ticket : ℕ) (tickets : List ℕ) → length (filter (λ t. not (t == ticket)) tickets) ≤ length tickets
left_length ticket [] = omega arith
left_length ticket (t ∷ tickets) = by_same (t == ticket) (left_length ticket tickets) where
  by_same : (b : Bool) → length (filter (λ t. not (t == ticket)) tickets) ≤ length tickets → length (if not b then t ∷ filter (λ t. not (t == ticket)) tickets else filter (λ t. not (t == ticket)) tickets) ≤ length (t ∷ tickets)
  by_same true less = omega (arith, less)
  by_same false less = omega (arith, less)

pub less_length : (ticket : ℕ) (tickets : List ℕ) → list_any (λ t. t == ticket) tickets ≡ true → length (filter (λ t. not (t == ticket)) tickets) + 1 ≤ length tickets
less_length ticket [] e = cc
less_length ticket (t ∷ tickets) e = by_same (t == ticket) e (less_length ticket tickets) where
  by_same : (b : Bool) → (b || list_any (λ t. t == ticket) tickets) ≡ true → (list_any (λ t. t == ticket) tickets ≡ true → length (filter (λ t. not (t == ticket)) tickets) + 1 ≤ length tickets)
      → length (if not b then t ∷ filter (λ t. not (t == ticket)) tickets else filter (λ t. not (t == ticket)) tickets) + 1 ≤ length (t ∷ tickets)
  by_same true is less = omega (arith, left_length ticket tickets)
  by_same false is less = omega (arith, less is)

pub any_ticket_left : (ticket other : ℕ) (tickets : List ℕ) → (ticket ≡ other → ⊥) → list_any (λ t. t == other) tickets ≡ true → list_any (λ t. t == other) (filter (λ t. not (t == ticket)) tickets) ≡ true
any_ticket_left ticket other [] differs e = e
any_ticket_left ticket other (t ∷ tickets) differs e = by_both (t == ticket) refl (t == other) refl e (any_ticket_left ticket other tickets differs) where
  Rest : List ℕ
  Rest = filter (λ t. not (t == ticket)) tickets

  by_both : (a : Bool) → (t == ticket) ≡ a → (b : Bool) → (t == other) ≡ b → (b || list_any (λ t. t == other) tickets) ≡ true → (list_any (λ t. t == other) tickets ≡ true → list_any (λ t. t == other) Rest ≡ true)
      → list_any (λ t. t == other) (if not a then t ∷ Rest else Rest) ≡ true
  by_both true is true same any rest = absurd (differs (sym (eqb-true t ticket is) ∙ eqb-true t other same))
  by_both true is false same any rest = rest any
  by_both false is true same any rest = rw same refl
  by_both false is false same any rest = rw same (rest any)
