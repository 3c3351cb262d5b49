-- Sixteen chains: each takes every sixteenth block, times the key to the power 16.
use Rattle.std.proofs.Common.{◌≡◌, ℕ, zero, suc, ◌+◌, ◌-◌, ◌%◌, ◌^◌, ◌<◌, ◌≤◌, List, [], ◌∷◌, ◌++◌, length, take, get_or, refl, sym, ap, ◌∙◌, arith}
use Rattle.std.proofs.lemmas.List.{take_more, take_all}
use Rattle.std.proofs.lemmas.Simd.{get_or-replicate}
use Rattle.std.specs.Int.Bits.{xor_zero_l, xor_zero_r}
use Rattle.std.specs.Int.RustNames.{bit_xor}
use Rattle.ghash.specs.Field.{element, product}
use Rattle.ghash.specs.Hash.{hash_after, Holds}
use Rattle.ghash.specs.declared.state.Ghash.{Ghash}
use Rattle.ghash.specs.Lanes.{byte_in, lane_of, IsGrid}
use Rattle.ghash.specs.Chains.{repeated, folded_from}
use Rattle.ghash.proofs.Algebra.{interchange, product_left}
use Rattle.ghash.proofs.Linear.{IsLinear, linear_zero, linear_product, linear_after, product_assoc, product-lt}
use Rattle.ghash.proofs.Gather.{gathered-lt}
use Rattle.ghash.proofs.Steps.{hash_after-push}

-- ---- repeated products

pub linear_repeated : (h n : ℕ) → IsLinear (λ v. repeated h n v)
unfolding repeated
linear_repeated h zero = record { sums = λ a b. refl }
linear_repeated h (suc n) = linear_after (λ x. product x h) (λ v. repeated h n v) (linear_product h) (linear_repeated h n)

pub repeated-lt : (h n v : ℕ) → h < 2 ^ 128 → v < 2 ^ 128 → repeated h n v < 2 ^ 128
unfolding repeated
repeated-lt h zero v lh lv = lv
repeated-lt h (suc n) v lh lv = product-lt (repeated h n v) h lh

repeated-product : (h n a : ℕ) → repeated h n (product a h) ≡ product (repeated h n a) h
unfolding repeated
repeated-product h zero a = refl
repeated-product h (suc n) a = ap (λ (t : ℕ). product t h) (repeated-product h n a)

pub repeated_none : (h v : ℕ) → repeated h 0 v ≡ v
unfolding repeated
repeated_none h v = refl

pub repeated_more : (h n v : ℕ) → repeated h (n + 1) v ≡ product (repeated h n v) h
unfolding repeated
repeated_more h n v = (let next : n + 1 ≡ suc n = omega arith in ap (λ (k : ℕ). repeated h k v) next)

-- the product with a power of h
pub by_power : (h n a : ℕ) → h < 2 ^ 128 → a < 2 ^ 128 → product a (repeated h n h) ≡ repeated h (suc n) a
unfolding repeated
by_power h zero a lh la = refl
by_power h (suc n) a lh la =
    product_assoc a (repeated h n h) h la (repeated-lt h n h lh lh) lh
    ∙ ap (λ (t : ℕ). product t h) (by_power h n a lh la)

-- ---- the hash of a run of elements

pub folded-same : (h y : ℕ) (w v : ℕ → ℕ) (n : ℕ) → ((k : ℕ) → k < n → w k ≡ v k) → folded_from h y w n ≡ folded_from h y v n
unfolding folded_from
folded-same h y w v zero same = refl
folded-same h y w v (suc n) same =
    ap (λ (t : ℕ). product (bit_xor t (w n)) h) (folded-same h y w v n (λ k l. same k (omega arith)))
    ∙ ap (λ (t : ℕ). product (bit_xor (folded_from h y v n) t) h) (same n (omega arith))

folded-xor : (h a b : ℕ) (w v : ℕ → ℕ) (n : ℕ) → folded_from h (bit_xor a b) (λ k. bit_xor (w k) (v k)) n ≡ bit_xor (folded_from h a w n) (folded_from h b v n)
unfolding folded_from
folded-xor h a b w v zero = refl
folded-xor h a b w v (suc n) =
    ap (λ (t : ℕ). product (bit_xor t (bit_xor (w n) (v n))) h) (folded-xor h a b w v n)
    ∙ ap (λ (t : ℕ). product t h) (interchange (folded_from h a w n) (folded_from h b v n) (w n) (v n))
    ∙ product_left (bit_xor (folded_from h a w n) (w n)) (bit_xor (folded_from h b v n) (v n)) h

folded-zero : (h y n : ℕ) → folded_from h y (λ _. 0) n ≡ repeated h n y
unfolding folded_from repeated
folded-zero h y zero = refl
folded-zero h y (suc n) = ap (λ (t : ℕ). product t h) (xor_zero_r (folded_from h y (λ _. 0) n) ∙ folded-zero h y n)

folded-repeated : (h m y : ℕ) (w : ℕ → ℕ) (n : ℕ) → folded_from h (repeated h m y) (λ k. repeated h m (w k)) n ≡ repeated h m (folded_from h y w n)
unfolding folded_from
folded-repeated h m y w zero = refl
folded-repeated h m y w (suc n) =
    ap (λ (t : ℕ). product (bit_xor t (repeated h m (w n))) h) (folded-repeated h m y w n)
    ∙ ap (λ (t : ℕ). product t h) (sym ((linear_repeated h m).sums (folded_from h y w n) (w n)))
    ∙ sym (repeated-product h m (bit_xor (folded_from h y w n) (w n)))

-- the first is s, the others are zero
abbrev pub alone : ℕ → ℕ → ℕ
alone s zero = s
alone s (suc k) = 0

folded-alone : (h s n : ℕ) → folded_from h 0 (alone s) (suc n) ≡ repeated h (suc n) s
unfolding folded_from repeated
folded-alone h s zero = ap (λ (t : ℕ). product t h) (xor_zero_l s)
folded-alone h s (suc n) = ap (λ (t : ℕ). product t h) (xor_zero_r (folded_from h 0 (alone s) (suc n)) ∙ folded-alone h s n)

-- the chains stand for the hash y
pub record IsChained (h : ℕ) (grid : List (List ℕ)) (y : ℕ) : Type 0 where
  pub chained : folded_from h 0 (lane_of grid) 16 ≡ repeated h 16 y

pub chained_first : (h s : ℕ) (grid : List (List ℕ)) → ((l : ℕ) → l < 16 → lane_of grid l ≡ alone s l) → IsChained h grid s
chained_first h s grid lanes = record { chained = folded-same h 0 (lane_of grid) (alone s) 16 lanes ∙ folded-alone h s 15 }

-- the hash y and then sixteen elements, by the chains
pub chained_last : (h y : ℕ) (grid last : List (List ℕ)) (x : ℕ → ℕ) → IsChained h grid y → ((l : ℕ) → l < 16 → lane_of last l ≡ bit_xor (lane_of grid l) (x l))
    → folded_from h 0 (lane_of last) 16 ≡ folded_from h y x 16
chained_last h y grid last x c lanes =
    folded-same h 0 (lane_of last) (λ l. bit_xor (lane_of grid l) (x l)) 16 lanes
    ∙ folded-xor h 0 0 (lane_of grid) x 16
    ∙ ap (λ (t : ℕ). bit_xor t (folded_from h 0 x 16)) (c.chained ∙ sym (folded-zero h y 16))
    ∙ sym (folded-xor h y 0 (λ _. 0) x 16)
    ∙ ap (λ (t : ℕ). folded_from h t (λ k. bit_xor 0 (x k)) 16) (xor_zero_r y)
    ∙ folded-same h y (λ k. bit_xor 0 (x k)) x 16 (λ k l. xor_zero_l (x k))

pub chained_more : (h y key : ℕ) (grid last next : List (List ℕ)) (x : ℕ → ℕ) → IsChained h grid y → ((l : ℕ) → l < 16 → lane_of last l ≡ bit_xor (lane_of grid l) (x l))
    → ((l : ℕ) → l < 16 → lane_of next l ≡ repeated h 16 (lane_of last l)) → IsChained h next (folded_from h y x 16)
chained_more h y key grid last next x c lanes powers = record {
  chained =
      folded-same h 0 (lane_of next) (λ l. repeated h 16 (lane_of last l)) 16 powers
      ∙ ap (λ (t : ℕ). folded_from h t (λ l. repeated h 16 (lane_of last l)) 16) (sym (linear_zero (λ v. repeated h 16 v) (linear_repeated h 16)))
      ∙ folded-repeated h 16 0 (lane_of last) 16
      ∙ ap (λ (t : ℕ). repeated h 16 t) (chained_last h y grid last x c lanes);
}

pub lane-lt : (grid : List (List ℕ)) (l : ℕ) → IsGrid grid → l < 16 → lane_of grid l < 2 ^ 128
unfolding lane_of
lane-lt grid l g h = gathered-lt (λ p. byte_in grid p l) 16 (λ p k. (g.rows p k).bytes l h)

-- ---- the hash of blocks

pub hash_run : (h y : ℕ) (blocks : List (List ℕ)) (at n : ℕ) → at + n ≤ length blocks
    → hash_after h y (take (at + n) blocks) ≡ folded_from h (hash_after h y (take at blocks)) (λ l. element (get_or blocks (at + l) [])) n
unfolding folded_from
hash_run h y blocks at zero le = ap (λ (k : ℕ). hash_after h y (take k blocks)) (omega arith)
hash_run h y blocks at (suc n) le =
    let next : at + suc n ≡ at + n + 1 = omega arith in
    ap (λ (k : ℕ). hash_after h y (take k blocks)) next
    ∙ ap (λ (xs : List (List ℕ)). hash_after h y xs) (take_more blocks (at + n) [] (omega arith))
    ∙ hash_after-push h y (take (at + n) blocks) (get_or blocks (at + n) [])
    ∙ ap (λ (t : ℕ). product (bit_xor t (element (get_or blocks (at + n) []))) h) (hash_run h y blocks at n (omega arith))

pub hash_after-append : (h y : ℕ) (xs ys : List (List ℕ)) → hash_after h y (xs ++ ys) ≡ hash_after h (hash_after h y xs) ys
hash_after-append h y [] ys = refl
hash_after-append h y (x ∷ xs) ys = hash_after-append h (product (bit_xor y (element x)) h) xs ys

-- ---- the loops

pub folded_none : (h y : ℕ) (w : ℕ → ℕ) → folded_from h y w 0 ≡ y
unfolding folded_from
folded_none h y w = refl

pub folded_more : (h y : ℕ) (w : ℕ → ℕ) (n total value : ℕ) → total ≡ folded_from h y w n → value ≡ w n → product (bit_xor total value) h ≡ folded_from h y w (n + 1)
unfolding folded_from
folded_more h y w n total value is same =
    let next : suc n ≡ n + 1 = omega arith in
    rw (is, same) (ap (λ (k : ℕ). folded_from h y w k) next)

-- what holds before each group but the last: the chains stand for the hash of the blocks before it
pub record Groups (h sum power : ℕ) (high low : List (List ℕ)) (blocks lanes : List (List ℕ)) (at : ℕ) : Type 0 where
  pub whole : at % 16 ≡ 0
  pub room : at + 16 ≤ length blocks
  pub grid_is : IsGrid lanes
  pub chained : IsChained h lanes (hash_after h sum (take at blocks))

pub first_values : (s : ℕ) (l : ℕ) → l < 16 → get_or (s ∷ 0 ∷ 0 ∷ 0 ∷ 0 ∷ 0 ∷ 0 ∷ 0 ∷ 0 ∷ 0 ∷ 0 ∷ 0 ∷ 0 ∷ 0 ∷ 0 ∷ 0 ∷ []) l 0 ≡ alone s l
first_values s zero h = refl
first_values s (suc l) h = get_or-replicate 15 l 0 0 (omega arith)

abbrev pub group_of : List (List ℕ) → ℕ → ℕ → ℕ
group_of blocks at l = element (get_or blocks (at + l) [])

pub group_more : (h sum power : ℕ) (high low : List (List ℕ)) (blocks lanes group joined next : List (List ℕ)) (at : ℕ) → h < 2 ^ 128 → Groups h sum power high low blocks lanes at
    → 16 < length blocks - at → length blocks % 16 ≡ 0 → power ≡ repeated h 15 h
    → IsGrid joined → ((l : ℕ) → l < 16 → lane_of group l ≡ group_of blocks at l) → ((l : ℕ) → l < 16 → lane_of joined l ≡ bit_xor (lane_of lanes l) (lane_of group l))
    → IsGrid next → ((l : ℕ) → l < 16 → lane_of next l ≡ product (lane_of joined l) power) → Groups h sum power high low blocks next (at + 16)
group_more h sum power high low blocks lanes group joined next at lh g more multiple power_is gj group_is joined_is gn next_is = record {
  whole = omega (arith, g.whole);
  room = omega (arith, g.room, g.whole);
  grid_is = gn;
  chained = rw (hash_run h sum blocks at 16 g.room)
      (chained_more h (hash_after h sum (take at blocks)) power lanes joined next (group_of blocks at) g.chained
      (λ l k. joined_is l k ∙ ap (λ (t : ℕ). bit_xor (lane_of lanes l) t) (group_is l k))
      (λ l k. next_is l k ∙ ap (λ (t : ℕ). product (lane_of joined l) t) power_is ∙ by_power h 15 (lane_of joined l) lh (lane-lt joined l gj k)));
}

pub group_last : (h sum power : ℕ) (high low : List (List ℕ)) (blocks lanes group last : List (List ℕ)) (at : ℕ) → Groups h sum power high low blocks lanes at
    → length blocks - at ≤ 16 → ((l : ℕ) → l < 16 → lane_of group l ≡ group_of blocks at l) → ((l : ℕ) → l < 16 → lane_of last l ≡ bit_xor (lane_of lanes l) (lane_of group l))
    → folded_from h 0 (lane_of last) 16 ≡ hash_after h sum blocks
group_last h sum power high low blocks lanes group last at g end group_is last_is =
    let all : at + 16 ≡ length blocks = omega (arith, g.room) in
    chained_last h (hash_after h sum (take at blocks)) lanes last (group_of blocks at) g.chained
    (λ l k. last_is l k ∙ ap (λ (t : ℕ). bit_xor (lane_of lanes l) t) (group_is l k))
    ∙ sym (hash_run h sum blocks at 16 g.room)
    ∙ ap (λ (n : ℕ). hash_after h sum (take n blocks)) all ∙ ap (λ (xs : List (List ℕ)). hash_after h sum xs) (take_all (length blocks) blocks (omega arith))

pub holds_all : (s n : Ghash) (h : List ℕ) (before blocks : List (List ℕ)) → Holds s h before → n.subkey ≡ s.subkey
    → n.sum ≡ hash_after s.subkey s.sum blocks → Holds n h (before ++ blocks)
unfolding Holds
holds_all s n h before blocks held key sum =
    let more = hash_after-append (element h) 0 before blocks in
    let same : n.sum ≡ hash_after (element h) 0 (before ++ blocks) = rw (more, ← held.1, ← held.0) sum in
    (rw key held.0, same)
