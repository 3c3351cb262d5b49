-- Reading parameters one after the other into a map, as a loop does.
use Rattle.std.proofs.Common.{◌≡◌, ℕ, suc, ◌-◌, ◌+◌, ◌≤◌, ◌<◌, Bool, true, false, cond, ltb, eqb, List, [], ◌∷◌, map, length, Result, Ok, refl, sym, ap, ◌∙◌, arith}
use Rattle.std.specs.declared.cmp.Ordering.TheVariants.{Less, Equal, Greater}
use Rattle.std.specs.Ordering.{nat_cmp, match_ordering}
use Rattle.std.proofs.lemmas.Bool.{eqb-true}
use Rattle.std.specs.BTreeMap.{insert_entry}
use Rattle.std.specs.Map.{values_of}
use Rattle.tags.specs.declared.param.Param.{Param}
use Rattle.tag_lists.specs.declared.fault.ListFault.{ListFault}
use Rattle.tag_lists.specs.declared.fault.ListFault.TheVariants.{UnknownTag, WrongKind, Repeated, Truncated, Trailing, Memory}
use Rattle.tag_lists.specs.Order.{rank, with_param}
use Rattle.tag_lists.specs.Reading.{Fails, param_at, params_at}

-- the entries of a map whose keys are the ranks
abbrev pub by_rank : List Param → List (ℕ × Param)
by_rank ps = map (λ p. (rank p, p)) ps

pub values_of-by_rank : (ps : List Param) → values_of (by_rank ps) ≡ ps
values_of-by_rank [] = refl
values_of-by_rank (p ∷ ps) = ap (λ qs. p ∷ qs) (values_of-by_rank ps)

insert_step : (less same : Bool) (p q : Param) (qs : List Param) (rest : List (ℕ × Param)) → (same ≡ true → rank p ≡ rank q) → rest ≡ by_rank (with_param p qs)
    → match_ordering (cond less Less (cond same Equal Greater)) ((rank p, p) ∷ (rank q, q) ∷ by_rank qs) ((rank q, p) ∷ by_rank qs) ((rank q, q) ∷ rest)
    ≡ by_rank (cond less (p ∷ q ∷ qs) (cond same (p ∷ qs) (q ∷ with_param p qs)))
insert_step true same p q qs rest ties r = refl
insert_step false true p q qs rest ties r = ap (λ n. (n, p) ∷ by_rank qs) (sym (ties refl))
insert_step false false p q qs rest ties r = ap (λ es. (rank q, q) ∷ es) r

insert-by_rank : (p : Param) (ps : List Param) → insert_entry nat_cmp (by_rank ps) (rank p) p ≡ by_rank (with_param p ps)
insert-by_rank p [] = refl
insert-by_rank p (q ∷ qs) = insert_step (ltb (rank p) (rank q)) (eqb (rank p) (rank q)) p q qs _ (eqb-true (rank p) (rank q)) (insert-by_rank p qs)

-- a map's values with one more
pub record Inserts (p : Param) (old new : List (ℕ × Param)) : Type 0 where
  pub keyed : new ≡ by_rank (values_of new)
  pub adds : values_of new ≡ with_param p (values_of old)

pub inserts : (p : Param) (old new : List (ℕ × Param)) → old ≡ by_rank (values_of old) → new ≡ insert_entry nat_cmp old (rank p) p → Inserts p old new
inserts p old new keyed is =
    let ps : List Param = values_of old in
    let all : new ≡ by_rank (with_param p ps) = is ∙ ap (λ es. insert_entry nat_cmp es (rank p) p) keyed ∙ insert-by_rank p ps in
    let adds : values_of new ≡ with_param p ps = ap values_of all ∙ values_of-by_rank (with_param p ps) in
    record { keyed = all ∙ ap by_rank (sym adds); adds = adds }

pub goes_on : (count i total : ℕ) (before : List Param) (bytes : List ℕ) (p : Param) (after : List ℕ) (goal : Result (List Param × List ℕ) ListFault) → i < count
    → param_at (total - length bytes) before bytes ≡ Ok (p, after) → params_at (count - i) total before bytes ≡ goal → params_at (count - (i + 1)) total (with_param p before) after ≡ goal
unfolding params_at
goes_on count i total before bytes p after goal lt h so_far =
    let k : count - i ≡ suc (count - (i + 1)) = omega (arith, lt) in
    let one : params_at (count - i) total before bytes ≡ params_at (count - (i + 1)) total (with_param p before) after = rw (k, h) refl in
    sym one ∙ so_far

fails : (e : ListFault) (n total : ℕ) (before : List Param) (bytes : List ℕ) → Fails e (param_at (total - length bytes) before bytes) → Fails e (params_at (suc n) total before bytes)
unfolding params_at
fails Memory n total before bytes h = tt
fails (UnknownTag at) n total before bytes h = rw h refl
fails (WrongKind at) n total before bytes h = rw h refl
fails (Repeated at) n total before bytes h = rw h refl
fails (Truncated at) n total before bytes h = rw h refl
fails (Trailing at) n total before bytes h = rw h refl

pub ends : (e : ListFault) (count i total : ℕ) (before : List Param) (bytes : List ℕ) (goal : Result (List Param × List ℕ) ListFault) → i < count
    → Fails e (param_at (total - length bytes) before bytes) → params_at (count - i) total before bytes ≡ goal → Fails e goal
ends e count i total before bytes goal lt h so_far =
    let k : suc (count - (i + 1)) ≡ count - i = omega (arith, lt) in
    rw (← so_far) (rw (← k) (fails e (count - (i + 1)) total before bytes h))

pub is_done : (count i total : ℕ) (before : List Param) (bytes : List ℕ) (goal : Result (List Param × List ℕ) ListFault) → count ≤ i → params_at (count - i) total before bytes ≡ goal → goal ≡ Ok (before, bytes)
unfolding params_at
is_done count i total before bytes goal le so_far =
    let k : count - i ≡ 0 = omega (arith, le) in
    let one : params_at (count - i) total before bytes ≡ Ok (before, bytes) = rw k refl in
    sym so_far ∙ one
