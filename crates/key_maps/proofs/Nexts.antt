-- What the first key from a start on tells of the keys of an owner, and of a user.
use Rattle.std.proofs.Common.{◌≡◌, ℕ, zero, suc, ◌*◌, ◌/◌, ◌<◌, ◌≤◌, Bool, true, false, ◌==◌, List, [], ◌∷◌, ◌++◌, length, take, Option, Some, None, refl, sym, ap, ◌∙◌, subst, arith, inl, inr}
use Rattle.std.specs.Prelude.{find, is_some, IsSome, IsSomeAnd}
use Rattle.std.specs.Ordering.{nat_cmp, is_eq, is_lt, is_gt, ordering_then, ordering_reverse}
use Rattle.std.specs.Cmp.{nat_cmp_is}
use Rattle.std.specs.declared.cmp.Ordering.{Ordering}
use Rattle.std.specs.declared.cmp.Ordering.TheVariants.{Less, Equal, Greater}
use Rattle.std.specs.declared.ops.Bound.{Bound}
use Rattle.std.specs.declared.ops.Bound.TheVariants.{Included}
use Rattle.std.specs.BTreeMap.Range.{IsFromStart}
use Rattle.std.specs.Str.{bytes_eq}
use Rattle.std.proofs.lemmas.Bool.{both_ways, cases_Bool, cases_order, and_parts, and_from, eqb-true, eq-eqb}
use Rattle.std.proofs.lemmas.Option.{none-some}
use Rattle.grants.proofs.Finding.{found_has}
use Rattle.journal_records.specs.declared.record.KeyRecord.{KeyRecord}
use Rattle.journal_records.specs.LastingPart.{has_id, is_owned, is_named, is_of_user}
use Rattle.key_maps.specs.Names.{Name, owner_cmp, name_cmp, name_of, key_name, is_at_name}
use Rattle.key_maps.specs.Rows.{AreRows, IsBefore, IsFit, NonePass}
use Rattle.journal_records.specs.Lookups.{alias_cmp, is_after, IsNextName}
use Rattle.key_maps.specs.First.{start_of}
use Rattle.key_maps.specs.First.{IsFirstFrom}
use Rattle.key_maps.proofs.NameOrder.{name_total, owner_test, owner_total, named_cmp, pads_are, cut_test}
use Rattle.key_maps.proofs.KeyRows.{name_push, absent_before, later_name, all_fit, id_from_found}
use Rattle.key_maps.proofs.Firsts.{name_is}
use Rattle.key_maps.proofs.Whole.{append_none, named_is, found_short, owned_parts}
use Rattle.tags.specs.declared.limits.TheConstants.{ALIAS_BYTES, USER_UIDS}

-- ---- with the newest key

same_names : (name : Name) → is_eq (name_cmp name name) ≡ true
same_names name = self (name_cmp name name) (name_total.antisymm name name)
  where
    self : (o : Ordering) → o ≡ ordering_reverse o → is_eq o ≡ true
    self Less e = absurd cc
    self Equal e = refl
    self Greater e = absurd cc

not_gt_from_same : (name other : Name) → name ≡ other → is_gt (name_cmp name other) ≡ false
not_gt_from_same name other e = at (name_cmp name other) (subst (λ n. is_eq (name_cmp name n) ≡ true) e (same_names name))
  where
    at : (o : Ordering) → is_eq o ≡ true → is_gt o ≡ false
    at Less e = refl
    at Equal e = refl
    at Greater e = absurd cc

-- an order that is not Greater, and another behind it
le_trans : (a b c : Name) → is_gt (name_cmp a b) ≡ false → is_gt (name_cmp b c) ≡ false → is_gt (name_cmp a c) ≡ false
le_trans a b c first second = at (name_cmp a b) (name_cmp b c) refl refl first second
  where
    less_not_gt : (o : Ordering) → o ≡ Less → is_gt o ≡ false
    less_not_gt o e = rw e refl

    turned : (o : Ordering) → o ≡ Greater → ordering_reverse o ≡ Less
    turned o e = rw e refl

    at : (o p : Ordering) → name_cmp a b ≡ o → name_cmp b c ≡ p → is_gt o ≡ false → is_gt p ≡ false → is_gt (name_cmp a c) ≡ false
    at Greater p e f h k = absurd cc
    at o Greater e f h k = absurd cc
    at Equal p e f h k = ap is_gt (name_total.congr a b c e ∙ f) ∙ k
    at Less Less e f h k = less_not_gt (name_cmp a c) (name_total.trans a b c e f)
    at Less Equal e f h k =
        let back : name_cmp c a ≡ Greater = sym (name_total.congr b c a f) ∙ name_total.antisymm b a ∙ ap ordering_reverse e in
        less_not_gt (name_cmp a c) (name_total.antisymm a c ∙ turned (name_cmp c a) back)

found_some : (found : Option KeyRecord) (key : KeyRecord) → found ≡ Some key → is_some found ≡ true
found_some found key e = rw e refl

module _ (rows : List KeyRecord) (last : KeyRecord) (t : AreRows (rows ++ last ∷ [])) where
  -- a key of the maps is not at the newest one's name, and is found as before
  held_still : (key : KeyRecord) → find (is_at_name (key_name key)) rows ≡ Some key → find (is_at_name (key_name key)) (rows ++ last ∷ []) ≡ Some key
  held_still key e =
      name_push (key_name key) rows last t ∙ elim (cases_Bool (is_at_name (key_name key) last)) [
        | inl clash ↦ absurd (none-some key (sym (absent_before (key_name key) rows last t clash) ∙ e))
        | inr other ↦ rw other e
      ]

  -- a name of the whole is the newest one's, or is found in the maps
  module _ (name : Name) where
    in_maps : is_at_name name last ≡ false → IsSome (find (is_at_name name) (rows ++ last ∷ [])) → IsSome (find (is_at_name name) rows)
    in_maps other some = subst (λ found. IsSome found) (name_push name rows last t ∙ rw other refl) some

  pub newest_before : (start : Bound Name) (found : Option KeyRecord) → (IsFromStart name_cmp start (key_name last) → ⊥) → IsFirstFrom rows start found → IsFirstFrom (rows ++ last ∷ []) start found
  newest_before start None before none = λ name from.
      name_push name rows last t ∙ elim (cases_Bool (is_at_name name last)) [
        | inl here ↦ absurd (before (subst (IsFromStart name_cmp start) (name_is name last here) from))
        | inr other ↦ rw other (none name from)
      ]
  newest_before start (Some key) before least = record {
    held = held_still key least.held;
    from = least.from;
    least = λ name from some. elim (cases_Bool (is_at_name name last)) [
      | inl here ↦ absurd (before (subst (IsFromStart name_cmp start) (name_is name last here) from))
      | inr other ↦ least.least name from (in_maps name other some)
    ];
  }

  newest_held : find (is_at_name (key_name last)) (rows ++ last ∷ []) ≡ Some last
  newest_held = name_push (key_name last) rows last t ∙ rw (same_names (key_name last)) refl

  pub newest_alone : (start : Bound Name) → IsFromStart name_cmp start (key_name last) → IsFirstFrom rows start None → IsFirstFrom (rows ++ last ∷ []) start (Some last)
  newest_alone start from none = record {
    held = newest_held;
    from = from;
    least = λ name from' some. elim (cases_Bool (is_at_name name last)) [
      | inl here ↦ not_gt_from_same (key_name last) name (sym (name_is name last here))
      | inr other ↦ absurd (both_ways (is_some (find (is_at_name name) rows)) (ap is_some (none name from')) (in_maps name other some))
    ];
  }

  pub newest_after : (start : Bound Name) (key : KeyRecord) → name_cmp (key_name key) (key_name last) ≡ Less → IsFirstFrom rows start (Some key) → IsFirstFrom (rows ++ last ∷ []) start (Some key)
  newest_after start key less least = record {
    held = held_still key least.held;
    from = least.from;
    least = λ name from some. elim (cases_Bool (is_at_name name last)) [
      | inl here ↦ subst (λ n. is_gt (name_cmp (key_name key) n) ≡ false) (sym (name_is name last here)) (rw less refl)
      | inr other ↦ least.least name from (in_maps name other some)
    ];
  }

  pub newest_first : (start : Bound Name) (key : KeyRecord) → IsFromStart name_cmp start (key_name last) → (name_cmp (key_name key) (key_name last) ≡ Less → ⊥) → IsFirstFrom rows start (Some key) → IsFirstFrom (rows ++ last ∷ []) start (Some last)
  newest_first start key from apart least =
      let before : is_gt (name_cmp (key_name last) (key_name key)) ≡ false = ap is_gt (name_total.antisymm (key_name last) (key_name key)) ∙ turned (name_cmp (key_name key) (key_name last)) apart in
      record {
        held = newest_held;
        from = from;
        least = λ name from' some. elim (cases_Bool (is_at_name name last)) [
          | inl here ↦ not_gt_from_same (key_name last) name (sym (name_is name last here))
          | inr other ↦ le_trans (key_name last) (key_name key) name before (least.least name from' (in_maps name other some))
        ];
      }
    where
      turned : (o : Ordering) → (o ≡ Less → ⊥) → is_gt (ordering_reverse o) ≡ false
      turned Less h = absurd (h refl)
      turned Equal h = refl
      turned Greater h = refl

pub none_newest : (rows : List KeyRecord) (start : Bound Name) (found : Option KeyRecord) → IsFirstFrom rows start found → IsFirstFrom (rows ++ []) start found
none_newest rows start found first = subst (λ keys. IsFirstFrom keys start found) (sym (append_none rows)) first

-- ---- the keys of an owner

lt_less : (o : Ordering) → is_lt o ≡ true → o ≡ Less
lt_less Less e = refl
lt_less Equal e = absurd cc
lt_less Greater e = absurd cc

low_alias : (alias : List ℕ) → is_gt (alias_cmp [] alias) ≡ false
low_alias [] = refl
low_alias (x ∷ alias) = refl

take_short : (n : ℕ) (past : List ℕ) → length (take n past) ≤ n
take_short n past = omega (arith, length-take n past)
  where
    length-take : (n : ℕ) (past : List ℕ) → length (take n past) ≤ n
    length-take zero past = omega arith
    length-take (suc n) [] = omega arith
    length-take (suc n) (x ∷ past) = omega (arith, length-take n past)

-- a name of the owner stands from the start on exactly where its alias is greater than past
pub from_after : (domain nspace : ℕ) (past : Option (List ℕ)) (alias : List ℕ) → length alias ≤ ALIAS_BYTES → is_after past alias ≡ true → IsFromStart name_cmp (start_of domain nspace past) (name_of domain nspace alias)
from_after domain nspace None alias le after = ap is_gt (named_cmp domain nspace [] alias (omega arith) le) ∙ low_alias alias
from_after domain nspace (Some past) alias le after =
    named_cmp domain nspace (take ALIAS_BYTES past) alias (take_short ALIAS_BYTES past) le ∙ lt_less (alias_cmp (take ALIAS_BYTES past) alias) (cut_test ALIAS_BYTES past alias le ∙ after)

pub after_from : (domain nspace : ℕ) (past : Option (List ℕ)) (alias : List ℕ) → length alias ≤ ALIAS_BYTES → IsFromStart name_cmp (start_of domain nspace past) (name_of domain nspace alias) → is_after past alias ≡ true
after_from domain nspace None alias le from = refl
after_from domain nspace (Some past) alias le from =
    sym (cut_test ALIAS_BYTES past alias le) ∙ ap is_lt (sym (named_cmp domain nspace (take ALIAS_BYTES past) alias (take_short ALIAS_BYTES past) le) ∙ from)

-- the owner of a name that stands from a start on is not before the start's
owner_le : (first second : Ordering) → is_gt (ordering_then first second) ≡ false → is_gt first ≡ false
owner_le Less second e = refl
owner_le Equal second e = refl
owner_le Greater second e = absurd cc

less_not_gt : (o : Ordering) → o ≡ Less → is_gt o ≡ false
less_not_gt o e = rw e refl

owner_from : (domain nspace : ℕ) (past : Option (List ℕ)) (name : Name) → IsFromStart name_cmp (start_of domain nspace past) name → is_gt (owner_cmp (domain, nspace) name.0) ≡ false
owner_from domain nspace None name from = owner_le (owner_cmp (domain, nspace) name.0) _ from
owner_from domain nspace (Some past) name from = owner_le (owner_cmp (domain, nspace) name.0) _ (less_not_gt _ from)

-- a key of another owner that is first leaves the owner no key
other_owner : (domain nspace : ℕ) (past : Option (List ℕ)) (key : KeyRecord) (alias : List ℕ) → is_owned domain nspace key ≡ false → IsFromStart name_cmp (start_of domain nspace past) (key_name key) → is_gt (name_cmp (key_name key) (name_of domain nspace alias)) ≡ false → ⊥
other_owner domain nspace past key alias other from le =
    let not_gt = owner_from domain nspace past (key_name key) from in
    let not_eq : is_eq (owner_cmp (domain, nspace) (key.domain, key.nspace)) ≡ false = owner_test domain nspace key.domain key.nspace ∙ other in
    let back : is_gt (owner_cmp (key.domain, key.nspace) (domain, nspace)) ≡ false = owner_le (owner_cmp (key.domain, key.nspace) (domain, nspace)) _ le in
    clash (owner_cmp (domain, nspace) (key.domain, key.nspace)) not_gt not_eq (sym (ap is_gt (owner_total.antisymm (key.domain, key.nspace) (domain, nspace))) ∙ back)
  where
    clash : (o : Ordering) → is_gt o ≡ false → is_eq o ≡ false → is_gt (ordering_reverse o) ≡ false → ⊥
    clash Less a b c = cc
    clash Equal a b c = cc
    clash Greater a b c = cc

none_at : (found : Option KeyRecord) → (IsSome found → ⊥) → found ≡ None
none_at None h = refl
none_at (Some key) h = absurd (h refl)

module _ (rows : List KeyRecord) (t : AreRows rows) (domain nspace : ℕ) (past : Option (List ℕ)) where
  pub no_next : IsFirstFrom rows (start_of domain nspace past) None → IsNextName rows domain nspace past None
  no_next none = λ alias after. none_at (find (is_named domain nspace alias) rows) (λ some.
      let short = found_short domain nspace alias rows t some in
      both_ways (is_some (find (is_named domain nspace alias) rows)) (ap is_some (sym (named_is domain nspace alias rows t short) ∙ none (name_of domain nspace alias) (from_after domain nspace past alias short after))) some)

  -- the least key, at an alias of the owner behind past
  at_least : (key : KeyRecord) → IsFirstFrom rows (start_of domain nspace past) (Some key) → (alias : List ℕ) → is_after past alias ≡ true → IsSome (find (is_named domain nspace alias) rows) → is_gt (name_cmp (key_name key) (name_of domain nspace alias)) ≡ false
  at_least key first alias after some =
      let short = found_short domain nspace alias rows t some in
      first.least (name_of domain nspace alias) (from_after domain nspace past alias short after) (subst (λ found. IsSome found) (sym (named_is domain nspace alias rows t short)) some)

  pub next_of_other : (key : KeyRecord) → is_owned domain nspace key ≡ false → IsFirstFrom rows (start_of domain nspace past) (Some key) → IsNextName rows domain nspace past None
  next_of_other key other first = λ alias after. none_at (find (is_named domain nspace alias) rows) (λ some.
      other_owner domain nspace past key alias other first.from (at_least key first alias after some))

  pub next_is : (key : KeyRecord) → key.domain ≡ domain → key.nspace ≡ nspace → IsFirstFrom rows (start_of domain nspace past) (Some key) → IsNextName rows domain nspace past (Some key)
  next_is key d n first =
      let fit : length key.alias ≤ ALIAS_BYTES = (fit_of (find (is_at_name (key_name key)) rows) refl first.held).0 in
      let same : key_name key ≡ name_of domain nspace key.alias = ap (λ x. name_of x key.nspace key.alias) d ∙ ap (λ x. name_of domain x key.alias) n in
      record {
        owned = (d, n);
        held = sym (named_is domain nspace key.alias rows t fit) ∙ subst (λ name. find (is_at_name name) rows ≡ Some key) same first.held;
        after = after_from domain nspace past key.alias fit (subst (IsFromStart name_cmp (start_of domain nspace past)) same first.from);
        least = λ alias after some.
            ap is_gt (sym (named_cmp domain nspace key.alias alias fit (found_short domain nspace alias rows t some))) ∙ subst (λ name. is_gt (name_cmp name (name_of domain nspace alias)) ≡ false) same (at_least key first alias after some);
      }
    where
      fit_of : (found : Option KeyRecord) → find (is_at_name (key_name key)) rows ≡ found → found ≡ Some key → IsFit key
      fit_of found e is = found_has IsFit (is_at_name (key_name key)) rows key (all_fit rows t) (e ∙ is)

-- ---- no key passes a test

-- where no key that is found by its name passes
pub none_by_name : (p : KeyRecord → Bool) (rows : List KeyRecord) → AreRows rows → ((key : KeyRecord) → find (is_at_name (key_name key)) rows ≡ Some key → p key ≡ true → ⊥) → NonePass p rows
none_by_name p [] t h = tt
none_by_name p (first ∷ rows) t h = (
  (elim (cases_Bool (p first)) [
    | inl passes ↦ absurd (h first (rw (same_names (key_name first)) refl) passes)
    | inr fails ↦ fails
  ]),
  none_by_name p rows t.2 (λ key found passes. h key (elim (cases_Bool (is_at_name (key_name key) first)) [
    | inl clash ↦ absurd (both_ways (is_at_name (key_name key) key)
        (later_name (key_name key) first key t.0 (found_has IsFit (is_at_name (key_name key)) rows key (all_fit rows t.2) found) clash (found_has (IsBefore first) (is_at_name (key_name key)) rows key t.1 found))
        (same_names (key_name key)))
    | inr other ↦ rw other found
  ]) passes),
)

-- an owner without a next name has no key
pub none_owned : (domain nspace : ℕ) (rows : List KeyRecord) → AreRows rows → IsNextName rows domain nspace None None → NonePass (is_owned domain nspace) rows
none_owned domain nspace rows t none =
    none_by_name (is_owned domain nspace) rows t (λ key found owned.
    let parts = owned_parts domain nspace key owned in
    let same : key_name key ≡ name_of domain nspace key.alias = ap (λ x. name_of x key.nspace key.alias) parts.0 ∙ ap (λ x. name_of domain x key.alias) parts.1 in
    let fit = found_has IsFit (is_at_name (key_name key)) rows key (all_fit rows t) found in
    none-some key (sym (none key.alias refl) ∙ sym (named_is domain nspace key.alias rows t fit.0) ∙ subst (λ name. find (is_at_name name) rows ≡ Some key) same found))

-- ---- the keys of a user

user_parts : (user : ℕ) (key : KeyRecord) → is_of_user user key ≡ true → (key.domain ≡ 0) × (key.nspace / USER_UIDS ≡ user)
user_parts user key e =
    let parts = and_parts (key.domain == 0) (key.nspace / USER_UIDS == user) e in
    (eqb-true key.domain 0 parts.0, eqb-true (key.nspace / USER_UIDS) user parts.1)

not_gt_le : (n k : ℕ) → is_gt (nat_cmp n k) ≡ false → n ≤ k
not_gt_le n k h =
    elim (cases_order n k) [
      | inl same ↦ omega (arith, same)
      | inr other ↦ elim other [
        | inl below ↦ omega (arith, below)
        | inr above ↦ absurd (both_ways (is_gt (nat_cmp n k)) h (rw (sym (nat_cmp_is n k Greater above)) refl))
      ]
    ]

le_not_gt : (n k : ℕ) → n ≤ k → is_gt (nat_cmp n k) ≡ false
le_not_gt n k le =
    elim (cases_order n k) [
      | inl same ↦ rw (sym (nat_cmp_is n k Equal same)) refl
      | inr other ↦ elim other [
        | inl below ↦ rw (sym (nat_cmp_is n k Less below)) refl
        | inr above ↦ absurd (omega (arith, above, le))
      ]
    ]

then_not_gt : (first second : Ordering) → is_gt first ≡ false → is_gt second ≡ false → is_gt (ordering_then first second) ≡ false
then_not_gt Less second a b = refl
then_not_gt Equal second a b = b
then_not_gt Greater second a b = absurd cc

second_not_gt : (n : ℕ) (second : Ordering) → is_gt (ordering_then (nat_cmp n n) second) ≡ false → is_gt second ≡ false
second_not_gt n second h = rw (sym (nat_cmp_is n n Equal refl)) at h

low_name : (nspace : ℕ) (key : KeyRecord) → IsFit key → key.domain ≡ 0 → nspace ≤ key.nspace → is_gt (name_cmp (name_of 0 nspace []) (key_name key)) ≡ false
low_name nspace key fit app le =
    then_not_gt (owner_cmp (0, nspace) (key.domain, key.nspace)) _
    (then_not_gt (nat_cmp 0 key.domain) (nat_cmp nspace key.nspace) (le_not_gt 0 key.domain (omega arith)) (le_not_gt nspace key.nspace le))
    (ap is_gt (pads_are ALIAS_BYTES [] key.alias (omega arith) fit.0) ∙ low_alias key.alias)

in_user : (user nspace other : ℕ) → user * USER_UIDS ≤ nspace → nspace ≤ other → other / USER_UIDS ≡ user → nspace / USER_UIDS ≡ user
in_user user nspace other low high is = omega (arith, low, high, is)

user_low : (user nspace : ℕ) → nspace / USER_UIDS ≡ user → user * USER_UIDS ≤ nspace
user_low user nspace is = omega (arith, is)

module _ (rows : List KeyRecord) (t : AreRows rows) (user : ℕ) where
  from_user : (key : KeyRecord) → find (is_at_name (key_name key)) rows ≡ Some key → is_of_user user key ≡ true → IsFromStart name_cmp (Included (name_of 0 (user * USER_UIDS) [])) (key_name key)
  from_user key found of =
      let parts = user_parts user key of in
      low_name (user * USER_UIDS) key (found_has IsFit (is_at_name (key_name key)) rows key (all_fit rows t) found) parts.0 (user_low user key.nspace parts.1)

  pub user_none : IsFirstFrom rows (Included (name_of 0 (user * USER_UIDS) [])) None → NonePass (is_of_user user) rows
  user_none none = none_by_name (is_of_user user) rows t (λ key found of. none-some key (sym (none (key_name key) (from_user key found of)) ∙ found))

  pub user_beyond : (first : KeyRecord) → is_of_user user first ≡ false → IsFirstFrom rows (Included (name_of 0 (user * USER_UIDS) [])) (Some first) → NonePass (is_of_user user) rows
  user_beyond first other least = none_by_name (is_of_user user) rows t (λ key found of.
      let parts = user_parts user key of in
      let before = least.least (key_name key) (from_user key found of) (rw found refl) in
      let owners : is_gt (owner_cmp (first.domain, first.nspace) (key.domain, key.nspace)) ≡ false = owner_le (owner_cmp (first.domain, first.nspace) (key.domain, key.nspace)) _ before in
      let app : first.domain ≡ 0 = omega (arith, parts.0, not_gt_le first.domain key.domain (owner_le (nat_cmp first.domain key.domain) _ owners)) in
      let high : first.nspace ≤ key.nspace = not_gt_le first.nspace key.nspace (second_not_gt 0 (nat_cmp first.nspace key.nspace) (subst (λ d. is_gt (ordering_then (nat_cmp 0 d) (nat_cmp first.nspace key.nspace)) ≡ false) parts.0 (subst (λ d. is_gt (ordering_then (nat_cmp d key.domain) (nat_cmp first.nspace key.nspace)) ≡ false) app owners))) in
      let start : is_gt (owner_cmp (0, user * USER_UIDS) (first.domain, first.nspace)) ≡ false = owner_le (owner_cmp (0, user * USER_UIDS) (first.domain, first.nspace)) _ least.from in
      let low : user * USER_UIDS ≤ first.nspace = not_gt_le (user * USER_UIDS) first.nspace (second_not_gt 0 (nat_cmp (user * USER_UIDS) first.nspace) (subst (λ d. is_gt (ordering_then (nat_cmp 0 d) (nat_cmp (user * USER_UIDS) first.nspace)) ≡ false) app start)) in
      both_ways (is_of_user user first) other (and_from (first.domain == 0) (first.nspace / USER_UIDS == user) (eq-eqb first.domain 0 app) (eq-eqb (first.nspace / USER_UIDS) user (in_user user first.nspace key.nspace low high parts.1))))

-- a key that is found first is found by its number
pub first_numbered : (rows : List KeyRecord) (start : Bound Name) (key : KeyRecord) (Q : KeyRecord → Type 0) → AreRows rows → IsFirstFrom rows start (Some key) → Q key → IsSomeAnd (find (has_id key.id) rows) Q
first_numbered rows start key Q t first q = rw (id_from_found (is_at_name (key_name key)) rows key t first.held) q

pub next_numbered : (rows : List KeyRecord) (domain nspace : ℕ) (key : KeyRecord) → AreRows rows → IsNextName rows domain nspace None (Some key) → IsSomeAnd (find (has_id key.id) rows) (λ other. is_owned domain nspace other ≡ true)
next_numbered rows domain nspace key t next =
    rw (id_from_found (is_named domain nspace key.alias) rows key t next.held)
    (and_from (key.domain == domain) (key.nspace == nspace) (eq-eqb key.domain domain next.owned.0) (eq-eqb key.nspace nspace next.owned.1))

-- no key has a domain of more than a byte
pub none_wide : (domain nspace : ℕ) (alias : List ℕ) (rows : List KeyRecord) → AreRows rows → (domain < 256 → ⊥) → find (is_named domain nspace alias) rows ≡ None
none_wide domain nspace alias [] t wide = refl
none_wide domain nspace alias (key ∷ rows) t wide =
    elim (cases_Bool (is_named domain nspace alias key)) [
      | inl named ↦ absurd (wide (omega (arith, (owned_parts domain nspace key (and_parts (is_owned domain nspace key) (bytes_eq key.alias alias) named).0).0, t.0.1)))
      | inr other ↦ rw other (none_wide domain nspace alias rows t.2 wide)
    ]
