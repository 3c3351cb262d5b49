-- Lists that fill from the front, and what the modes put there.
use Rattle.std.proofs.Common.{◌≡◌, ℕ, zero, suc, ◌+◌, ◌%◌, ◌^◌, ◌<◌, true, false, Bool, List, [], ◌∷◌, ◌++◌, length, take, drop, map, set, get_or, refl, sym, ◌∙◌, ap, arith, length-take}
use Rattle.std.specs.List.{concat}
use Rattle.std.specs.Simd.Lanes.{zip2}
use Rattle.std.specs.Int.{w128, from_be_bytes, to_be_bytes}
use Rattle.std.proofs.lemmas.List.{take_more}
use Rattle.tags.specs.declared.plan.Plan.{Plan}
use Rattle.tags.specs.declared.plan.Plan.TheVariants.{Ecb, Cbc, Ctr, Gcm, HmacSign, HmacVerify}
use Rattle.block_modes.specs.Texts.{xor_bytes}
use Rattle.block_modes.specs.Modes.{next_counter}
use Rattle.block_modes.specs.Steps.{step_out, step_chain, outs, through, chain_after, counter_blocks, counter_after, before_each, before_next}
use Rattle.block_modes.proofs.StepLemmas.{chain_after-snoc}

-- one place more is written
pub put_next : {X : Type 0} (done start : List X) (i : ℕ) (x : X) → length done ≡ i → i < length start → set (done ++ drop i start) i x ≡ (done ++ x ∷ []) ++ drop (i + 1) start
put_next [] [] i x e h = absurd (omega arith)
put_next [] (m ∷ ms) zero x e h = refl
put_next [] (m ∷ ms) (suc i) x e h = absurd (omega arith)
put_next (a ∷ more) start zero x e h = absurd (omega arith)
put_next (a ∷ more) [] (suc i) x e h = absurd (omega arith)
put_next {X = X} (a ∷ more) (m ∷ ms) (suc i) x e h =
    let longer : suc i + 1 ≡ suc (i + 1) = omega arith in
    rw longer (ap (λ (l : List X). a ∷ l) (put_next more ms i x (omega arith) (omega arith)))

get_after_all : {X : Type 0} (done : List X) (i : ℕ) (d : X) → length done ≡ i → get_or (done ++ []) i d ≡ d
get_after_all [] i d e = refl
get_after_all (a ∷ more) zero d e = absurd (omega arith)
get_after_all (a ∷ more) (suc i) d e = get_after_all more i d (omega arith)

-- what is read there is not written yet
pub get_next : {X : Type 0} (done start : List X) (i : ℕ) (d : X) → length done ≡ i → get_or (done ++ drop i start) i d ≡ get_or start i d
get_next [] start zero d e = refl
get_next [] start (suc i) d e = absurd (omega arith)
get_next (a ∷ more) start zero d e = absurd (omega arith)
get_next (a ∷ more) [] (suc i) d e = get_after_all more i d (omega arith)
get_next (a ∷ more) (m ∷ ms) (suc i) d e = get_next more ms i d (omega arith)

-- the step of a loop that fills a list: what is done grows by what is written
pub filled_more : {X : Type 0} (now done more start : List X) (i : ℕ) (x : X) → now ≡ done ++ drop i start → length done ≡ i → i < length start → more ≡ done ++ x ∷ [] →
    set now i x ≡ more ++ drop (i + 1) start
filled_more {X = X} now done more start i x is size within grown =
    ap (λ (l : List X). set l i x) is ∙ put_next done start i x size within ∙ ap (λ (l : List X). l ++ drop (i + 1) start) (sym grown)

pub zip2-snoc : (f : List ℕ → List ℕ → List ℕ) (xs ys : List (List ℕ)) (x y : List ℕ) → length xs ≡ length ys → zip2 f (xs ++ x ∷ []) (ys ++ y ∷ []) ≡ zip2 f xs ys ++ f x y ∷ []
zip2-snoc f [] [] x y e = refl
zip2-snoc f [] (b ∷ ys) x y e = absurd (omega arith)
zip2-snoc f (a ∷ xs) [] x y e = absurd (omega arith)
zip2-snoc f (a ∷ xs) (b ∷ ys) x y e = ap (λ l. f a b ∷ l) (zip2-snoc f xs ys x y (omega arith))

-- ---- one by one

outs-snoc : (c i : List ℕ → List ℕ) (plan : Plan) (chain : List ℕ) (bs : List (List ℕ)) (b : List ℕ) →
    outs c i plan chain (bs ++ b ∷ []) ≡ outs c i plan chain bs ++ step_out c i plan (chain_after c i plan chain bs) b ∷ []
outs-snoc c i plan chain [] b = refl
outs-snoc c i plan chain (x ∷ bs) b = ap (λ t. step_out c i plan chain x ∷ t) (outs-snoc c i plan (step_chain c i plan chain x) bs b)

pub outs_next : (c i : List ℕ → List ℕ) (plan : Plan) (chain : List ℕ) (bs : List (List ℕ)) (k : ℕ) (out : List ℕ) → k < length bs →
    out ≡ step_out c i plan (chain_after c i plan chain (take k bs)) (get_or bs k []) → outs c i plan chain (take (k + 1) bs) ≡ outs c i plan chain (take k bs) ++ out ∷ []
outs_next c i plan chain bs k out h e =
    ap (outs c i plan chain) (take_more bs k [] h) ∙ outs-snoc c i plan chain (take k bs) (get_or bs k []) ∙ ap (λ t. outs c i plan chain (take k bs) ++ t ∷ []) (sym e)

pub chain_next : (c i : List ℕ → List ℕ) (plan : Plan) (chain : List ℕ) (bs : List (List ℕ)) (k : ℕ) → k < length bs →
    step_chain c i plan (chain_after c i plan chain (take k bs)) (get_or bs k []) ≡ chain_after c i plan chain (take (k + 1) bs)
chain_next c i plan chain bs k h = sym (ap (chain_after c i plan chain) (take_more bs k [] h) ∙ chain_after-snoc c i plan chain (take k bs) (get_or bs k []))

pub length-outs : (c i : List ℕ → List ℕ) (plan : Plan) (chain : List ℕ) (bs : List (List ℕ)) → length (outs c i plan chain bs) ≡ length bs
length-outs c i plan chain [] = refl
length-outs c i plan chain (b ∷ bs) = ap suc (length-outs c i plan (step_chain c i plan chain b) bs)

pub through_outs : (c i : List ℕ → List ℕ) (plan : Plan) (chain : List ℕ) (bs : List (List ℕ)) → concat (outs c i plan chain bs) ≡ through c i plan chain bs
through_outs c i plan chain [] = refl
through_outs c i plan chain (b ∷ bs) = ap (λ t. step_out c i plan chain b ++ t) (through_outs c i plan (step_chain c i plan chain b) bs)

-- ---- counters

pub length-counter_blocks : (n : ℕ) (first : List ℕ) → length (counter_blocks n first) ≡ n
length-counter_blocks zero first = refl
length-counter_blocks (suc n) first = ap suc (length-counter_blocks n (next_counter first))

pub counters_next : (n : ℕ) (first : List ℕ) → counter_blocks (n + 1) first ≡ counter_blocks n first ++ counter_after n first ∷ []
counters_next zero first = refl
counters_next (suc n) first =
    let longer : suc n + 1 ≡ suc (n + 1) = omega arith in
    ap (λ k. counter_blocks k first) longer ∙ ap (λ t. first ∷ t) (counters_next n (next_counter first))

pub counter_next : (n : ℕ) (first : List ℕ) → counter_after (n + 1) first ≡ next_counter (counter_after n first)
counter_next zero first = refl
counter_next (suc n) first =
    let longer : suc n + 1 ≡ suc (n + 1) = omega arith in
    ap (λ k. counter_after k first) longer ∙ counter_next n (next_counter first)

number_again : (n : ℕ) → n < 2 ^ 128 → from_be_bytes w128 (to_be_bytes w128 n) ≡ n
number_again n h = omega arith

-- the number behind a counter block
pub number_next : (n : ℕ) (first : List ℕ) (number : ℕ) → number < 2 ^ 128 → to_be_bytes w128 number ≡ counter_after n first →
    to_be_bytes w128 ((number + 1) % 2 ^ 128) ≡ counter_after (n + 1) first
number_next n first number small is =
    ap (λ k. to_be_bytes w128 ((k + 1) % 2 ^ 128)) (sym (number_again number small))
    ∙ ap next_counter is
    ∙ sym (counter_next n first)

-- ---- the chain of cipher text

pub length-before_each : (before : List ℕ) (bs : List (List ℕ)) → length (before_each before bs) ≡ length bs
length-before_each before [] = refl
length-before_each before (b ∷ bs) = ap suc (length-before_each b bs)

before_each-snoc : (before : List ℕ) (bs : List (List ℕ)) (b : List ℕ) → before_each before (bs ++ b ∷ []) ≡ before_each before bs ++ before_next before bs ∷ []
before_each-snoc before [] b = refl
before_each-snoc before (x ∷ bs) b = ap (λ t. before ∷ t) (before_each-snoc x bs b)

before_next-snoc : (before : List ℕ) (bs : List (List ℕ)) (b : List ℕ) → before_next before (bs ++ b ∷ []) ≡ b
before_next-snoc before [] b = refl
before_next-snoc before (x ∷ bs) b = before_next-snoc x bs b

pub before_next_more : (before : List ℕ) (bs : List (List ℕ)) (k : ℕ) → k < length bs → get_or bs k [] ≡ before_next before (take (k + 1) bs)
before_next_more before bs k h = sym (ap (before_next before) (take_more bs k [] h) ∙ before_next-snoc before (take k bs) (get_or bs k []))

pub unchained_next : (f : List ℕ → List ℕ → List ℕ) (xs bs : List (List ℕ)) (before : List ℕ) (k : ℕ) (out : List ℕ) → k < length xs → length bs ≡ length xs →
    out ≡ f (get_or xs k []) (before_next before (take k bs)) →
    zip2 f (take (k + 1) xs) (before_each before (take (k + 1) bs)) ≡ zip2 f (take k xs) (before_each before (take k bs)) ++ out ∷ []
unchained_next f xs bs before k out h same e =
    let here : k < length bs = omega arith in
    let size : length (take k xs) ≡ length (before_each before (take k bs)) = omega (arith, length-take k xs, length-take k bs, length-before_each before (take k bs)) in
    ap (λ t. zip2 f t (before_each before (take (k + 1) bs))) (take_more xs k [] h)
    ∙ ap (λ t. zip2 f (take k xs ++ get_or xs k [] ∷ []) t) (ap (before_each before) (take_more bs k [] here) ∙ before_each-snoc before (take k bs) (get_or bs k []))
    ∙ zip2-snoc f (take k xs) (before_each before (take k bs)) (get_or xs k []) (before_next before (take k bs)) size
    ∙ ap (λ t. zip2 f (take k xs) (before_each before (take k bs)) ++ t ∷ []) (sym e)

pub added_next : (f : List ℕ → List ℕ → List ℕ) (xs ys : List (List ℕ)) (k : ℕ) (out : List ℕ) → k < length xs → length xs ≡ length ys →
    out ≡ f (get_or xs k []) (get_or ys k []) → zip2 f (take (k + 1) xs) (take (k + 1) ys) ≡ zip2 f (take k xs) (take k ys) ++ out ∷ []
added_next f xs ys k out h same e =
    let here : k < length ys = omega arith in
    let size : length (take k xs) ≡ length (take k ys) = omega (arith, length-take k xs, length-take k ys) in
    ap (λ t. zip2 f t (take (k + 1) ys)) (take_more xs k [] h)
    ∙ ap (λ t. zip2 f (take k xs ++ get_or xs k [] ∷ []) t) (take_more ys k [] here)
    ∙ zip2-snoc f (take k xs) (take k ys) (get_or xs k []) (get_or ys k []) size
    ∙ ap (λ t. zip2 f (take k xs) (take k ys) ++ t ∷ []) (sym e)

-- ---- the modes

outs_seal : (c i : List ℕ → List ℕ) (padded : Bool) (chain : List ℕ) (bs : List (List ℕ)) → map c bs ≡ outs c i (Ecb true padded) chain bs
outs_seal c i padded chain [] = refl
outs_seal c i padded chain (b ∷ bs) = ap (λ t. c b ∷ t) (outs_seal c i padded chain bs)

outs_open : (c i : List ℕ → List ℕ) (padded : Bool) (chain : List ℕ) (bs : List (List ℕ)) → map i bs ≡ outs c i (Ecb false padded) chain bs
outs_open c i padded chain [] = refl
outs_open c i padded chain (b ∷ bs) = ap (λ t. i b ∷ t) (outs_open c i padded chain bs)

pub ecb_seal : (c i : List ℕ → List ℕ) (plan : Plan) (seal padded : Bool) (chain : List ℕ) (bs : List (List ℕ)) → plan ≡ Ecb seal padded → seal ≡ true → map c bs ≡ outs c i plan chain bs
ecb_seal c i plan seal padded chain bs is t = rw (is, t) (outs_seal c i padded chain bs)

pub ecb_open : (c i : List ℕ → List ℕ) (plan : Plan) (seal padded : Bool) (chain : List ℕ) (bs : List (List ℕ)) → plan ≡ Ecb seal padded → seal ≡ false → map i bs ≡ outs c i plan chain bs
ecb_open c i plan seal padded chain bs is t = rw (is, t) (outs_open c i padded chain bs)

chain_stays : (c i : List ℕ → List ℕ) (seal padded : Bool) (chain : List ℕ) (bs : List (List ℕ)) → chain ≡ chain_after c i (Ecb seal padded) chain bs
chain_stays c i seal padded chain [] = refl
chain_stays c i seal padded chain (b ∷ bs) = chain_stays c i seal padded chain bs

pub ecb_chain : (c i : List ℕ → List ℕ) (plan : Plan) (seal padded : Bool) (chain : List ℕ) (bs : List (List ℕ)) → plan ≡ Ecb seal padded → chain ≡ chain_after c i plan chain bs
ecb_chain c i plan seal padded chain bs is = rw is (chain_stays c i seal padded chain bs)

outs_unchained : (c i : List ℕ → List ℕ) (padded : Bool) (chain : List ℕ) (bs : List (List ℕ)) → zip2 xor_bytes (map i bs) (before_each chain bs) ≡ outs c i (Cbc false padded) chain bs
outs_unchained c i padded chain [] = refl
outs_unchained c i padded chain (b ∷ bs) = ap (λ t. xor_bytes (i b) chain ∷ t) (outs_unchained c i padded b bs)

chain_unchained : (c i : List ℕ → List ℕ) (padded : Bool) (chain : List ℕ) (bs : List (List ℕ)) → before_next chain bs ≡ chain_after c i (Cbc false padded) chain bs
chain_unchained c i padded chain [] = refl
chain_unchained c i padded chain (b ∷ bs) = chain_unchained c i padded b bs

pub cbc_open_outs : (c i : List ℕ → List ℕ) (plan : Plan) (seal padded : Bool) (chain : List ℕ) (bs : List (List ℕ)) → plan ≡ Cbc seal padded → seal ≡ false →
    zip2 xor_bytes (map i bs) (before_each chain bs) ≡ outs c i plan chain bs
cbc_open_outs c i plan seal padded chain bs is t = rw (is, t) (outs_unchained c i padded chain bs)

pub cbc_open_chain : (c i : List ℕ → List ℕ) (plan : Plan) (seal padded : Bool) (chain : List ℕ) (bs : List (List ℕ)) → plan ≡ Cbc seal padded → seal ≡ false →
    before_next chain bs ≡ chain_after c i plan chain bs
cbc_open_chain c i plan seal padded chain bs is t = rw (is, t) (chain_unchained c i padded chain bs)

-- the padding does not show in what is sealed
pub sealed_any : (c i : List ℕ → List ℕ) (plan : Plan) (seal padded : Bool) (chain : List ℕ) (bs : List (List ℕ)) → plan ≡ Cbc seal padded → seal ≡ true →
    outs c i (Cbc true false) chain bs ≡ outs c i plan chain bs
sealed_any c i plan seal padded chain bs is t = rw (is, t) (all chain bs)
  where
    all : (before : List ℕ) (blocks : List (List ℕ)) → outs c i (Cbc true false) before blocks ≡ outs c i (Cbc true padded) before blocks
    all before [] = refl
    all before (b ∷ blocks) = ap (λ t. c (xor_bytes b before) ∷ t) (all (c (xor_bytes b before)) blocks)

pub sealed_after : (c i : List ℕ → List ℕ) (plan : Plan) (seal padded : Bool) (chain : List ℕ) (bs : List (List ℕ)) → plan ≡ Cbc seal padded → seal ≡ true →
    chain_after c i (Cbc true false) chain bs ≡ chain_after c i plan chain bs
sealed_after c i plan seal padded chain bs is t = rw (is, t) (all chain bs)
  where
    all : (before : List ℕ) (blocks : List (List ℕ)) → chain_after c i (Cbc true false) before blocks ≡ chain_after c i (Cbc true padded) before blocks
    all before [] = refl
    all before (b ∷ blocks) = all (c (xor_bytes b before)) blocks

-- a plan that counts
pub record Counts (c i : List ℕ → List ℕ) (plan : Plan) : Type 0 where
  pub out : (chain b : List ℕ) → xor_bytes b (c chain) ≡ step_out c i plan chain b
  pub chain : (chain b : List ℕ) → next_counter chain ≡ step_chain c i plan chain b

pub counts : (c i : List ℕ → List ℕ) (plan : Plan) → ((seal padded : Bool) → plan ≡ Ecb seal padded → ⊥) → ((seal padded : Bool) → plan ≡ Cbc seal padded → ⊥) → Counts c i plan
counts c i (Ecb seal padded) not_ecb not_cbc = absurd (not_ecb seal padded refl)
counts c i (Cbc seal padded) not_ecb not_cbc = absurd (not_cbc seal padded refl)
counts c i Ctr not_ecb not_cbc = record { out = λ chain b. refl; chain = λ chain b. refl }
counts c i (Gcm seal tag) not_ecb not_cbc = record { out = λ chain b. refl; chain = λ chain b. refl }
counts c i (HmacSign digest size) not_ecb not_cbc = record { out = λ chain b. refl; chain = λ chain b. refl }
counts c i (HmacVerify digest least) not_ecb not_cbc = record { out = λ chain b. refl; chain = λ chain b. refl }

pub counted_outs : (c i : List ℕ → List ℕ) (plan : Plan) (chain : List ℕ) (bs : List (List ℕ)) → Counts c i plan →
    zip2 xor_bytes bs (map c (counter_blocks (length bs) chain)) ≡ outs c i plan chain bs
counted_outs c i plan chain [] k = refl
counted_outs c i plan chain (b ∷ bs) k =
    ap (λ t. xor_bytes b (c chain) ∷ t) (counted_outs c i plan (next_counter chain) bs k)
    ∙ ap (λ t. t ∷ outs c i plan (next_counter chain) bs) (k.out chain b)
    ∙ ap (λ t. step_out c i plan chain b ∷ outs c i plan t bs) (k.chain chain b)

pub counted_chain : (c i : List ℕ → List ℕ) (plan : Plan) (chain : List ℕ) (bs : List (List ℕ)) → Counts c i plan → counter_after (length bs) chain ≡ chain_after c i plan chain bs
counted_chain c i plan chain [] k = refl
counted_chain c i plan chain (b ∷ bs) k = counted_chain c i plan (next_counter chain) bs k ∙ ap (λ t. chain_after c i plan t bs) (k.chain chain b)
