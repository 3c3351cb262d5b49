-- A walk over a list, with the next item of each pass.
use Rattle.std.proofs.Common.{◌≡◌, ◌≢◌, ℕ, zero, suc, ◌+◌, ◌<◌, ◌≤◌, Bool, true, false, cond, eqb, List, [], ◌∷◌, ◌++◌, length, get_or, take, drop, set, arith, refl, sym, ap, ◌∙◌, subst, length-append, length-set, get_or-set_same, get_or-set_other}
use Rattle.std.proofs.lemmas.Bool.{eq-eqb, ne_eqb}
use Rattle.std.proofs.lemmas.List.{append-nil, get_or_append_left, take-append-drop, drop_more}
use Rattle.std.proofs.lemmas.List.Elements.{filter-append}
use Rattle.std.proofs.Math.Seq.{get_or-append_seam}
use mathlib.Core.Logic.{dite}
use native.Mathlib.Decide.{ℕ_discrete}
use Rattle.turn_lock.specs.Rule.{own}
use Rattle.shared_list.specs.declared.list.ListEntry.{ListEntry}
use Rattle.shared_list.specs.Lists.{by, entry, counted, IsInOrder}
use Rattle.shared_list.proofs.Rows.{counted_next}

-- these were walked over, and the next item of each pass is known
pub record IsWalk (threads : ℕ) (done : List ListEntry) (next : List ℕ) : Type 0 where
  pub wide : length next ≡ threads
  pub each : (k : ℕ) → k < threads → own by k done ≡ counted k (get_or next k 0)
  pub none : (k : ℕ) → threads ≤ k → own by k done ≡ []

pub counted_long : (n k : ℕ) → length (counted n k) ≡ k
counted_long n zero = refl
counted_long n (suc k) = length-append (counted n k) (entry n k ∷ []) ∙ omega (arith, counted_long n k)

own_short : (n : ℕ) (xs : List ListEntry) → length (own by n xs) ≤ length xs
own_short n [] = omega arith
own_short n (e ∷ xs) = one e (own by n xs) xs (own_short n xs) (eqb (by e) n)
  where
    one : (e : ListEntry) (ys xs : List ListEntry) → length ys ≤ length xs → (b : Bool) → length (cond b (e ∷ ys) ys) ≤ length (e ∷ xs)
    one e ys xs le true = omega (arith, le)
    one e ys xs le false = omega (arith, le)

own_mine : (n : ℕ) (xs : List ListEntry) (e : ListEntry) (rest : List ListEntry) → e.by ≡ n → own by n (xs ++ e ∷ rest) ≡ own by n xs ++ e ∷ own by n rest
own_mine n xs e rest mine =
    filter-append (λ e. eqb (by e) n) xs (e ∷ rest) ∙ ap (λ (b : Bool). own by n xs ++ cond b (e ∷ own by n rest) (own by n rest)) (eq-eqb e.by n mine)

own_other : (n : ℕ) (xs : List ListEntry) (e : ListEntry) → e.by ≢ n → own by n (xs ++ e ∷ []) ≡ own by n xs
own_other n xs e other =
    filter-append (λ e. eqb (by e) n) xs (e ∷ []) ∙ (ap (λ (b : Bool). own by n xs ++ cond b (e ∷ []) []) (ne_eqb e.by n other) ∙ append-nil (own by n xs))

-- no next item is greater than what was walked over
pub next_few : (threads : ℕ) (done : List ListEntry) (next : List ℕ) (k : ℕ) → IsWalk threads done next → k < threads → get_or next k 0 ≤ length done
next_few threads done next k w lt = omega (arith, own_short k done, ap length (w.each k lt), counted_long k (get_or next k 0))

-- one entry more
pub walks_on : (threads : ℕ) (done : List ListEntry) (next : List ℕ) (e : ListEntry) → IsWalk threads done next → e.by < threads → get_or next e.by 0 ≡ e.item → IsWalk threads (done ++ e ∷ []) (set next e.by (get_or next e.by 0 + 1))
walks_on threads done next e w inside is =
    let wide = w.wide in
    let now : List ℕ = set next e.by (get_or next e.by 0 + 1) in
    let here : get_or now e.by 0 ≡ get_or next e.by 0 + 1 = get_or-set_same next e.by (get_or next e.by 0 + 1) 0 (omega arith) in
    let mine : own by e.by (done ++ e ∷ []) ≡ counted e.by (get_or now e.by 0) =
    own_mine e.by done e [] refl ∙ (λ i. w.each e.by inside i ++ record { by = e.by; item = sym is i } ∷ []) ∙ sym (counted_next e.by (get_or next e.by 0)) ∙ ap (counted e.by) (sym here) in record {
      wide = length-set next e.by (get_or next e.by 0 + 1) ∙ wide;
      each = λ k lt. dite (ℕ_discrete k e.by)
          (λ same. subst (λ (n : ℕ). own by n (done ++ e ∷ []) ≡ counted n (get_or now n 0)) (sym same) mine)
          (λ other. own_other k done e (λ z. other (sym z)) ∙ (w.each k lt ∙ ap (counted k) (sym (get_or-set_other next e.by k (get_or next e.by 0 + 1) 0 other))));
      none = λ k le. own_other k done e (λ z. omega arith) ∙ w.none k le;
    }

nothing : (xs : List ListEntry) (e : ListEntry) (ys : List ListEntry) → xs ++ e ∷ ys ≡ [] → ⊥
nothing xs e ys is = omega (arith, sym (length-append xs (e ∷ ys)), ap length is)

-- an entry of no pass is never in order
pub strange : (threads items : ℕ) (done : List ListEntry) (e : ListEntry) (rest all : List ListEntry) → all ≡ done ++ e ∷ rest → threads ≤ e.by → IsInOrder threads items all → ⊥
strange threads items done e rest all is le order = nothing _ e _ (sym (own_mine e.by done e rest refl) ∙ (ap (own by e.by) (sym is) ∙ order.none e.by le))

counted_at : (n k j : ℕ) (d : ListEntry) → j < k → get_or (counted n k) j d ≡ entry n j
counted_at n zero j d lt = absurd (omega arith)
counted_at n (suc k) j d lt = dite (ℕ_discrete j k)
    (λ e. let long : j ≡ length (counted n k) = e ∙ sym (counted_long n k) in
    ap (λ (i : ℕ). get_or (counted n k ++ entry n k ∷ []) i d) long ∙ (get_or-append_seam (counted n k) (entry n k) [] d ∙ ap (entry n) (sym e)))
    (λ ne. let long = counted_long n k in get_or_append_left (counted n k) (entry n k ∷ []) d j (omega arith) ∙ counted_at n k j d (omega arith))

-- nor is one out of its turn
pub untimely : (threads items : ℕ) (done : List ListEntry) (next : List ℕ) (e : ListEntry) (rest all : List ListEntry) → all ≡ done ++ e ∷ rest → IsWalk threads done next → e.by < threads → get_or next e.by 0 ≢ e.item
    → IsInOrder threads items all → ⊥
untimely threads items done next e rest all is w inside other order =
    let n : ℕ = get_or next e.by 0 in
    let lists : counted e.by n ++ e ∷ own by e.by rest ≡ counted e.by items =
    (λ i. sym (w.each e.by inside) i ++ e ∷ own by e.by rest) ∙ (sym (own_mine e.by done e rest refl) ∙ (ap (own by e.by) (sym is) ∙ order.each e.by inside)) in
    let long_1 = counted_long e.by n in
    let long_2 = counted_long e.by items in
    let long : n < items = omega (arith, sym (length-append (counted e.by n) (e ∷ own by e.by rest)), ap length lists) in
    let at : get_or (counted e.by n ++ e ∷ own by e.by rest) n e ≡ e =
    ap (λ (i : ℕ). get_or (counted e.by n ++ e ∷ own by e.by rest) i e) (sym long_1) ∙ get_or-append_seam (counted e.by n) e (own by e.by rest) e in
    let same : e ≡ entry e.by n = sym at ∙ (ap (λ (l : List ListEntry). get_or l n e) lists ∙ counted_at e.by items n e long) in
    other (sym (ap (λ (x : ListEntry). x.item) same))

-- all of it was walked over
pub walked : (threads items : ℕ) (all : List ListEntry) (next : List ℕ) → IsWalk threads all next → ((k : ℕ) → k < threads → get_or next k 0 ≡ items) → IsInOrder threads items all
walked threads items all next w is = record { each = λ k lt. w.each k lt ∙ ap (counted k) (is k lt); none = w.none }

pub unfinished : (threads items : ℕ) (all : List ListEntry) (next : List ℕ) (k : ℕ) → IsWalk threads all next → k < threads → get_or next k 0 ≢ items → IsInOrder threads items all → ⊥
unfinished threads items all next k w lt other order =
    other (omega (arith, ap length (sym (w.each k lt) ∙ order.each k lt), counted_long k (get_or next k 0), counted_long k items))

-- an entry of a list, between those before and behind it
pub parted : (xs : List ListEntry) (i : ℕ) (d : ListEntry) → i < length xs → xs ≡ take i xs ++ get_or xs i d ∷ drop (i + 1) xs
parted xs i d lt = sym (take-append-drop i xs) ∙ ap (λ (l : List ListEntry). take i xs ++ l) (drop_more xs i d lt)
