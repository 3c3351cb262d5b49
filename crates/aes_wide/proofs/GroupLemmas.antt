-- Groups of blocks, and the rounds over them.
use Rattle.std.proofs.Common.{◌≡◌, ◌≢◌, ℕ, ◌+◌, ◌-◌, ◌<◌, ◌≤◌, true, List, [], ◌∷◌, ◌++◌, map, take, drop, length, set, slice_index_or, replicate, sym, ◌∙◌, ap, subst, arith, add-one, below_more, Fits, w8}
use Rattle.std.specs.Simd.Lanes.{Each1}
use Rattle.std.specs.List.{range_with_len}
use borrow.Rule.Slice.PartMut.{put_mid}
use Rattle.std.proofs.lemmas.Bool.Decides.{nat_tests}
use Rattle.std.proofs.lemmas.List.{take_at, drop_at, drop-drop, drop_all, take_all, map-append, append_assoc, append-nil, length-map, length-take-le, length-drop, length-append, get_or-set_same, get_or-set_other, length-set}
use Rattle.std.proofs.lemmas.Simd.{get_or-replicate}
use Rattle.std.proofs.Math.Seq.{take-add}
use Rattle.aes_core.specs.State.{sub_bytes, shift_rows, mix_columns, add_round_key}
use Rattle.aes_core.specs.Expansion.{key_expansion, round_key, rounds_of}
use Rattle.aes_core.specs.Cipher.{rounds, cipher_by, cipher, is_key_size}
use Rattle.aes_core.specs.KeyOf.{key_of}
use Rattle.aes_core.specs.Laws.AesLaws.{key_of_is_key}
use Rattle.aes_core.specs.declared.aes_key.AesKey.{AesKey}
use Rattle.aes_wide.specs.declared.wide_aes.KeyPlanes.{KeyPlanes}
use Rattle.aes_wide.specs.RoundKeyPlanes.{HasKeys, held_key, planes_in, planes_at}
use Rattle.aes_wide.specs.Planes.{IsWhole, block, by_rows, standing}
use Rattle.aes_wide.specs.Steps.{constant}
use Rattle.aes_wide.proofs.Standing.{by_rows_back, by_rows_block, each_byte}
use Rattle.aes_wide.proofs.MovedLemmas.{held_later}
use Rattle.aes_wide.proofs.SingleLemmas.{row_block}
use Rattle.aes_wide.proofs.TwiceLemmas.{back_0, back_1, back_2, back_3, back_4, back_5, back_6, back_7}

-- ---- the rounds

-- the state after n rounds, from x on
pub record IsGoing (schedule : List ℕ) (n : ℕ) (x state : List (List ℕ)) : Type 0 where
  pub whole : IsWhole 8 state
  pub blocks : (b : ℕ) → b < 8 → standing state b ≡ rounds schedule n (add_round_key (standing x b) (round_key schedule 0))

pub rounds_more : (w : List ℕ) (n : ℕ) (start : List ℕ) → rounds w (n + 1) start ≡ add_round_key (mix_columns (shift_rows (sub_bytes (rounds w n start)))) (round_key w (n + 1))
unfolding rounds
rounds_more w n start =
    ap (λ m. rounds w m start) (add-one n)
    ∙ ap (λ m. add_round_key (mix_columns (shift_rows (sub_bytes (rounds w n start)))) (round_key w m)) (sym (add-one n))

pub begun : (w : List ℕ) (x state key : List (List ℕ)) → IsWhole 8 state → ((b : ℕ) → standing state b ≡ add_round_key (standing x b) (standing key b)) →
    ((b : ℕ) → b < 8 → standing key b ≡ round_key w 0) → IsGoing w 0 x state
unfolding rounds
begun w x state key whole added is_key = record {
  whole = whole;
  blocks = λ b h. added b ∙ ap (add_round_key (standing x b)) (is_key b h);
}

pub going_on : (w : List ℕ) (n : ℕ) (x state mixed next key : List (List ℕ)) → IsGoing w n x state → IsWhole 8 next →
    ((b : ℕ) (k : List ℕ) → add_round_key (standing mixed b) (add_round_key k constant) ≡ add_round_key (mix_columns (shift_rows (sub_bytes (standing state b)))) k) →
    ((b : ℕ) → standing next b ≡ add_round_key (standing mixed b) (standing key b)) →
    ((b : ℕ) → b < 8 → standing key b ≡ held_key w (n + 1)) → IsGoing w (n + 1) x next
going_on w n x state mixed next key going whole step added is_key = record {
  whole = whole;
  blocks = λ b h.
      let k = round_key w (n + 1) in
      added b
      ∙ ap (add_round_key (standing mixed b)) (is_key b h ∙ held_later w (n + 1) (omega arith))
      ∙ step b k
      ∙ ap (λ t. add_round_key (mix_columns (shift_rows (sub_bytes t))) k) (going.blocks b h)
      ∙ sym (rounds_more w n (add_round_key (standing x b) (round_key w 0)));
}

pub ended : (key : List ℕ) (n : ℕ) (x state mixed out last : List (List ℕ)) → n ≡ rounds_of key - 1 → 0 < rounds_of key → IsGoing (key_expansion key) n x state →
    ((b : ℕ) (k : List ℕ) → add_round_key (standing mixed b) (add_round_key k constant) ≡ add_round_key (shift_rows (sub_bytes (standing state b))) k) →
    ((b : ℕ) → standing out b ≡ add_round_key (standing mixed b) (standing last b)) →
    ((b : ℕ) → b < 8 → standing last b ≡ held_key (key_expansion key) (rounds_of key)) →
    (b : ℕ) → b < 8 → standing out b ≡ cipher key (standing x b)
unfolding cipher cipher_by
ended key n x state mixed out last is_n some going step added is_key b h =
    let w = key_expansion key in
    let k = round_key w (rounds_of key) in
    added b
    ∙ ap (add_round_key (standing mixed b)) (is_key b h ∙ held_later w (rounds_of key) some)
    ∙ step b k
    ∙ ap (λ t. add_round_key (shift_rows (sub_bytes t)) k) (going.blocks b h ∙ ap (λ m. rounds w m (add_round_key (standing x b) (round_key w 0))) is_n)

size_small : (n : ℕ) → is_key_size n ≡ true → n ≤ 32
size_small n h = grind (arith, nat_tests)

size_large : (n : ℕ) → is_key_size n ≡ true → 16 ≤ n
size_large n h = grind (arith, nat_tests)

-- at most 14 rounds, and some
pub rounds_few : (aes : AesKey) → rounds_of (key_of aes) ≤ 14
rounds_few aes = let small = size_small (length (key_of aes)) (key_of_is_key aes).sized in omega arith

pub rounds_some : (aes : AesKey) → 10 ≤ rounds_of (key_of aes)
rounds_some aes = let large = size_large (length (key_of aes)) (key_of_is_key aes).sized in omega arith

-- ---- the round keys

pub all_bytes : (x : List ℕ) (k : ℕ) → k < 8 → Each1 (Fits w8) x → Each1 (Fits w8) (slice_index_or (replicate 8 x) k [])
all_bytes x k h fits = let e : x ≡ slice_index_or (replicate 8 x) k [] = sym (get_or-replicate 8 k x [] h) in subst (Each1 (Fits w8)) e fits

-- the first n of 15
pub record IsFilled (n : ℕ) (keys : List KeyPlanes) (key : List ℕ) : Type 0 where
  pub long : length keys ≡ 15
  pub has : HasKeys n keys key

pub more_keys : (n : ℕ) (keys : List KeyPlanes) (new : KeyPlanes) (planes : List (List ℕ)) (key : List ℕ) → n < 15 → IsFilled n keys key →
    planes_in new ≡ planes → IsWhole 8 planes → ((b : ℕ) → b < 8 → standing planes b ≡ held_key (key_expansion key) n) → IsFilled (n + 1) (set keys n new) key
more_keys n keys new planes key few filled is_new whole blocks =
    let within : n < length keys = omega (arith, filled.long) in
    let none : KeyPlanes = record { p0 = []; p1 = []; p2 = []; p3 = []; p4 = []; p5 = []; p6 = []; p7 = [] } in
    let here : planes ≡ planes_at (set keys n new) n = sym (ap planes_in (get_or-set_same keys n new none within) ∙ is_new) in
    let there : (k : ℕ) → k < n → planes_at keys k ≡ planes_at (set keys n new) k =
    λ k h. let other : k ≢ n = omega arith in sym (ap planes_in (get_or-set_other keys n k new none other)) in
    let Whole : ℕ → Type 0 = λ k. IsWhole 8 (planes_at (set keys n new) k) in
    let Blocks : ℕ → Type 0 = λ k. (b : ℕ) → b < 8 → standing (planes_at (set keys n new) k) b ≡ held_key (key_expansion key) k in
    let wholes : (k : ℕ) → k < n + 1 → Whole k = below_more Whole n (λ k h. subst (IsWhole 8) (there k h) (filled.has.whole k h)) (subst (IsWhole 8) here whole) in
    let every : (k : ℕ) → k < n + 1 → Blocks k =
    below_more Blocks n (λ k h b hb. ap (λ t. standing t b) (sym (there k h)) ∙ filled.has.blocks k b h hb) (λ b hb. ap (λ t. standing t b) (sym here) ∙ blocks b hb) in
    record {
      long = length-set keys n new ∙ filled.long;
      has = record { whole = wholes; blocks = λ r b h hb. every r h b hb };
    }

-- ---- groups

-- the bytes of a block that was turned about
pub rows_long : (x : List ℕ) → length x ≡ 16 → Each1 (Fits w8) x → length (by_rows x) ≡ 16
rows_long x long fits = (by_rows_block x (row_block x long fits).bytes).whole

pub rows_fit : (x : List ℕ) → length x ≡ 16 → Each1 (Fits w8) x → Each1 (Fits w8) (by_rows x)
rows_fit x long fits = each_byte (by_rows x) (by_rows_block x (row_block x long fits).bytes).bytes

-- what was made of a block, turned back
made_of : (f : List ℕ → List ℕ) (x : List ℕ) (p q : List (List ℕ)) (b : ℕ) → length x ≡ 16 → standing q b ≡ f (standing p b) → block p b ≡ by_rows x →
    by_rows (block q b) ≡ f x
unfolding standing
made_of f x p q b long step is = step ∙ ap (λ t. f (by_rows t)) is ∙ ap f (by_rows_back x long)

pub eight_done : (f : List ℕ → List ℕ) (x0 x1 x2 x3 x4 x5 x6 x7 : List ℕ) (p q : List (List ℕ)) →
    length x0 ≡ 16 → length x1 ≡ 16 → length x2 ≡ 16 → length x3 ≡ 16 → length x4 ≡ 16 → length x5 ≡ 16 → length x6 ≡ 16 → length x7 ≡ 16 →
    Each1 (Fits w8) x0 → Each1 (Fits w8) x1 → Each1 (Fits w8) x2 → Each1 (Fits w8) x3 → Each1 (Fits w8) x4 → Each1 (Fits w8) x5 → Each1 (Fits w8) x6 → Each1 (Fits w8) x7 →
    p ≡ map (block (map by_rows (x0 ∷ x1 ∷ x2 ∷ x3 ∷ x4 ∷ x5 ∷ x6 ∷ x7 ∷ []))) (range_with_len 0 8) → ((b : ℕ) → b < 8 → standing q b ≡ f (standing p b)) →
    map by_rows (map (block q) (range_with_len 0 8)) ≡ map f (x0 ∷ x1 ∷ x2 ∷ x3 ∷ x4 ∷ x5 ∷ x6 ∷ x7 ∷ [])
eight_done f x0 x1 x2 x3 x4 x5 x6 x7 p q l0 l1 l2 l3 l4 l5 l6 l7 b0 b1 b2 b3 b4 b5 b6 b7 is_p step =
    let y0 = by_rows x0 in
    let y1 = by_rows x1 in
    let y2 = by_rows x2 in
    let y3 = by_rows x3 in
    let y4 = by_rows x4 in
    let y5 = by_rows x5 in
    let y6 = by_rows x6 in
    let y7 = by_rows x7 in
    let e0 : by_rows (block q 0) ≡ f x0 =
    made_of f x0 p q 0 l0 (step 0 (omega arith)) (ap (λ t. block t 0) is_p ∙ back_0 y0 y1 y2 y3 y4 y5 y6 y7 (rows_long x0 l0 b0) (rows_fit x0 l0 b0)) in
    let e1 : by_rows (block q 1) ≡ f x1 =
    made_of f x1 p q 1 l1 (step 1 (omega arith)) (ap (λ t. block t 1) is_p ∙ back_1 y0 y1 y2 y3 y4 y5 y6 y7 (rows_long x1 l1 b1) (rows_fit x1 l1 b1)) in
    let e2 : by_rows (block q 2) ≡ f x2 =
    made_of f x2 p q 2 l2 (step 2 (omega arith)) (ap (λ t. block t 2) is_p ∙ back_2 y0 y1 y2 y3 y4 y5 y6 y7 (rows_long x2 l2 b2) (rows_fit x2 l2 b2)) in
    let e3 : by_rows (block q 3) ≡ f x3 =
    made_of f x3 p q 3 l3 (step 3 (omega arith)) (ap (λ t. block t 3) is_p ∙ back_3 y0 y1 y2 y3 y4 y5 y6 y7 (rows_long x3 l3 b3) (rows_fit x3 l3 b3)) in
    let e4 : by_rows (block q 4) ≡ f x4 =
    made_of f x4 p q 4 l4 (step 4 (omega arith)) (ap (λ t. block t 4) is_p ∙ back_4 y0 y1 y2 y3 y4 y5 y6 y7 (rows_long x4 l4 b4) (rows_fit x4 l4 b4)) in
    let e5 : by_rows (block q 5) ≡ f x5 =
    made_of f x5 p q 5 l5 (step 5 (omega arith)) (ap (λ t. block t 5) is_p ∙ back_5 y0 y1 y2 y3 y4 y5 y6 y7 (rows_long x5 l5 b5) (rows_fit x5 l5 b5)) in
    let e6 : by_rows (block q 6) ≡ f x6 =
    made_of f x6 p q 6 l6 (step 6 (omega arith)) (ap (λ t. block t 6) is_p ∙ back_6 y0 y1 y2 y3 y4 y5 y6 y7 (rows_long x6 l6 b6) (rows_fit x6 l6 b6)) in
    let e7 : by_rows (block q 7) ≡ f x7 =
    made_of f x7 p q 7 l7 (step 7 (omega arith)) (ap (λ t. block t 7) is_p ∙ back_7 y0 y1 y2 y3 y4 y5 y6 y7 (rows_long x7 l7 b7) (rows_fit x7 l7 b7)) in
    cc

-- the first n blocks are done
pub record IsDone (f : List ℕ → List ℕ) (n : ℕ) (old new : List (List ℕ)) : Type 0 where
  pub within : n ≤ length old
  pub same : length new ≡ length old
  pub blocks : new ≡ map f (take n old) ++ drop n old

front_long : (f : List ℕ → List ℕ) (n : ℕ) (old : List (List ℕ)) → n ≤ length old → length (map f (take n old)) ≡ n
front_long f n old h = length-map (take n old) f ∙ length-take-le n old h

rest_is : (f : List ℕ → List ℕ) (n : ℕ) (old new : List (List ℕ)) → IsDone f n old new → drop n new ≡ drop n old
rest_is f n old new done = ap (drop n) done.blocks ∙ drop_at (map f (take n old)) (drop n old) n (front_long f n old done.within)

front_is : (f : List ℕ → List ℕ) (n : ℕ) (old new : List (List ℕ)) → IsDone f n old new → take n new ≡ map f (take n old)
front_is f n old new done = ap (take n) done.blocks ∙ take_at (map f (take n old)) (drop n old) n (front_long f n old done.within)

-- a part is done
pub part_done : (f : List ℕ → List ℕ) (n k : ℕ) (old new part : List (List ℕ)) → IsDone f n old new → n + k ≤ length new →
    part ≡ map f (take k (drop n new)) → IsDone f (n + k) old (put_mid n k new part)
part_done f n k old new part done room is_part =
    let a = map f (take n old) in
    let within : n + k ≤ length old = omega (arith, done.same) in
    let is_part_old : part ≡ map f (take k (drop n old)) = is_part ∙ ap (λ t. map f (take k t)) (rest_is f n old new done) in
    let rest : drop k (drop n new) ≡ drop (n + k) old = ap (drop k) (rest_is f n old new done) ∙ drop-drop k n old in
    let whole : put_mid n k new part ≡ map f (take (n + k) old) ++ drop (n + k) old =
    ap (λ t. t ++ (part ++ drop k (drop n new))) (front_is f n old new done)
    ∙ ap (λ t. a ++ (t ++ drop k (drop n new))) is_part_old
    ∙ ap (λ t. a ++ (map f (take k (drop n old)) ++ t)) rest
    ∙ sym (append_assoc a (map f (take k (drop n old))) (drop (n + k) old))
    ∙ ap (λ t. t ++ drop (n + k) old) (sym (map-append f (take n old) (take k (drop n old))) ∙ ap (map f) (sym (take-add n k old))) in
    record {
      within = within;
      same = ap length whole ∙ length-append (map f (take (n + k) old)) (drop (n + k) old) ∙ omega (arith, front_long f (n + k) old within, length-drop (n + k) old);
      blocks = whole;
    }

-- all are done
pub all_done : (f : List ℕ → List ℕ) (n : ℕ) (old new : List (List ℕ)) → IsDone f n old new → n ≡ length old → new ≡ map f old
all_done f n old new done all =
    done.blocks
    ∙ ap (λ t. map f t ++ drop n old) (take_all n old (omega arith))
    ∙ ap (λ t. map f old ++ t) (drop_all n old (omega arith))
    ∙ append-nil (map f old)
