-- The product by a table of sixteen products.
use Rattle.std.proofs.Common.{◌≡◌, ℕ, zero, suc, ◌+◌, ◌-◌, ◌*◌, ◌/◌, ◌%◌, ◌^◌, ◌<◌, ◌==◌, List, [], ◌∷◌, get_or, true, refl, sym, ap, ◌∙◌, arith}
use Rattle.std.proofs.lemmas.Nat.{xor_comm, pow_pos, pow-add, mod-pow-add, shr-shr, shl_below, mod_below}
use Rattle.std.proofs.lemmas.Bool.{agree_below}
use Rattle.std.specs.Int.RustNames.{bit_xor}
use Rattle.ghash.specs.Field.{times_x, shifted, product}
use Rattle.ghash.specs.Tables.{IsProducts}
use Rattle.ghash.specs.declared.table.TheConstants.{REMAINDERS}
use Rattle.ghash.proofs.Algebra.{shifted-xor, product_left, product_power}
use Rattle.ghash.proofs.Linear.{same_at, linear_zero, linear_product, product_shifted}
use Rattle.ghash.proofs.Gather.{shifted_even, sum_apart}

-- ---- the table

entry_at : (a b c d y : ℕ) → a ≡ product (8 * 2 ^ 124) y → b ≡ product (4 * 2 ^ 124) y → c ≡ product (2 * 2 ^ 124) y → d ≡ product (1 * 2 ^ 124) y → (n : ℕ) → n < 16
    → get_or (0 ∷ d ∷ c ∷ bit_xor c d ∷ b ∷ bit_xor b d ∷ bit_xor b c ∷ bit_xor (bit_xor b c) d ∷ a ∷ bit_xor a d ∷ bit_xor a c ∷ bit_xor (bit_xor a c) d ∷ bit_xor a b ∷ bit_xor (bit_xor a b) d ∷ bit_xor (bit_xor a b) c ∷ bit_xor (bit_xor (bit_xor a b) c) d ∷ []) n 0 ≡ product (n * 2 ^ 124) y
entry_at a b c d y ea eb ec ed zero h = sym (linear_zero (λ v. product v y) (linear_product y))
entry_at a b c d y ea eb ec ed (suc zero) h = ed
entry_at a b c d y ea eb ec ed (suc (suc zero)) h = ec
entry_at a b c d y ea eb ec ed (suc (suc (suc zero))) h = rw (ec, ed) (sym (product_left (2 * 2 ^ 124) (1 * 2 ^ 124) y))
entry_at a b c d y ea eb ec ed (suc (suc (suc (suc zero)))) h = eb
entry_at a b c d y ea eb ec ed (suc (suc (suc (suc (suc zero))))) h = rw (eb, ed) (sym (product_left (4 * 2 ^ 124) (1 * 2 ^ 124) y))
entry_at a b c d y ea eb ec ed (suc (suc (suc (suc (suc (suc zero)))))) h = rw (eb, ec) (sym (product_left (4 * 2 ^ 124) (2 * 2 ^ 124) y))
entry_at a b c d y ea eb ec ed (suc (suc (suc (suc (suc (suc (suc zero))))))) h = rw (eb, ec, ed) (sym (product_left (bit_xor (4 * 2 ^ 124) (2 * 2 ^ 124)) (1 * 2 ^ 124) y ∙ ap (λ (t : ℕ). bit_xor t (product (1 * 2 ^ 124) y)) (product_left (4 * 2 ^ 124) (2 * 2 ^ 124) y)))
entry_at a b c d y ea eb ec ed (suc (suc (suc (suc (suc (suc (suc (suc zero)))))))) h = ea
entry_at a b c d y ea eb ec ed (suc (suc (suc (suc (suc (suc (suc (suc (suc zero))))))))) h = rw (ea, ed) (sym (product_left (8 * 2 ^ 124) (1 * 2 ^ 124) y))
entry_at a b c d y ea eb ec ed (suc (suc (suc (suc (suc (suc (suc (suc (suc (suc zero)))))))))) h = rw (ea, ec) (sym (product_left (8 * 2 ^ 124) (2 * 2 ^ 124) y))
entry_at a b c d y ea eb ec ed (suc (suc (suc (suc (suc (suc (suc (suc (suc (suc (suc zero))))))))))) h = rw (ea, ec, ed) (sym (product_left (bit_xor (8 * 2 ^ 124) (2 * 2 ^ 124)) (1 * 2 ^ 124) y ∙ ap (λ (t : ℕ). bit_xor t (product (1 * 2 ^ 124) y)) (product_left (8 * 2 ^ 124) (2 * 2 ^ 124) y)))
entry_at a b c d y ea eb ec ed (suc (suc (suc (suc (suc (suc (suc (suc (suc (suc (suc (suc zero)))))))))))) h = rw (ea, eb) (sym (product_left (8 * 2 ^ 124) (4 * 2 ^ 124) y))
entry_at a b c d y ea eb ec ed (suc (suc (suc (suc (suc (suc (suc (suc (suc (suc (suc (suc (suc zero))))))))))))) h = rw (ea, eb, ed) (sym (product_left (bit_xor (8 * 2 ^ 124) (4 * 2 ^ 124)) (1 * 2 ^ 124) y ∙ ap (λ (t : ℕ). bit_xor t (product (1 * 2 ^ 124) y)) (product_left (8 * 2 ^ 124) (4 * 2 ^ 124) y)))
entry_at a b c d y ea eb ec ed (suc (suc (suc (suc (suc (suc (suc (suc (suc (suc (suc (suc (suc (suc zero)))))))))))))) h = rw (ea, eb, ec) (sym (product_left (bit_xor (8 * 2 ^ 124) (4 * 2 ^ 124)) (2 * 2 ^ 124) y ∙ ap (λ (t : ℕ). bit_xor t (product (2 * 2 ^ 124) y)) (product_left (8 * 2 ^ 124) (4 * 2 ^ 124) y)))
entry_at a b c d y ea eb ec ed (suc (suc (suc (suc (suc (suc (suc (suc (suc (suc (suc (suc (suc (suc (suc zero))))))))))))))) h = rw (ea, eb, ec, ed) (sym (product_left (bit_xor (bit_xor (8 * 2 ^ 124) (4 * 2 ^ 124)) (2 * 2 ^ 124)) (1 * 2 ^ 124) y ∙ ap (λ (t : ℕ). bit_xor t (product (1 * 2 ^ 124) y)) (product_left (bit_xor (8 * 2 ^ 124) (4 * 2 ^ 124)) (2 * 2 ^ 124) y ∙ ap (λ (t : ℕ). bit_xor t (product (2 * 2 ^ 124) y)) (product_left (8 * 2 ^ 124) (4 * 2 ^ 124) y))))
entry_at a b c d y ea eb ec ed (suc (suc (suc (suc (suc (suc (suc (suc (suc (suc (suc (suc (suc (suc (suc (suc n)))))))))))))))) h = absurd (omega arith)

pub table_is : (a b c d y : ℕ) → y < 2 ^ 128 → a ≡ y → b ≡ times_x a → c ≡ times_x b → d ≡ times_x c
    → IsProducts (0 ∷ d ∷ c ∷ bit_xor c d ∷ b ∷ bit_xor b d ∷ bit_xor b c ∷ bit_xor (bit_xor b c) d ∷ a ∷ bit_xor a d ∷ bit_xor a c ∷ bit_xor (bit_xor a c) d ∷ bit_xor a b ∷ bit_xor (bit_xor a b) d ∷ bit_xor (bit_xor a b) c ∷ bit_xor (bit_xor (bit_xor a b) c) d ∷ []) y
unfolding shifted
table_is a b c d y b128 ea eb ec ed =
    let pa : a ≡ product (8 * 2 ^ 124) y = ea ∙ sym (product_power 0 y (omega arith)) in
    let pb : b ≡ product (4 * 2 ^ 124) y = eb ∙ ap times_x ea ∙ sym (product_power 1 y (omega arith)) in
    let pc : c ≡ product (2 * 2 ^ 124) y = ec ∙ ap times_x (eb ∙ ap times_x ea) ∙ sym (product_power 2 y (omega arith)) in
    let pd : d ≡ product (1 * 2 ^ 124) y = ed ∙ ap times_x (ec ∙ ap times_x (eb ∙ ap times_x ea)) ∙ sym (product_power 3 y (omega arith)) in
    record { small = b128; entries = entry_at a b c d y pa pb pc pd }

-- ---- x^4 times an element

remainders_same : agree_below (λ n. get_or REMAINDERS n 0 * 2 ^ 112 % 2 ^ 128 == shifted n 4) (λ _. true) 16 ≡ true
unfolding shifted times_x
remainders_same = refl

pub four_shifted : (v : ℕ) → bit_xor (v / 16) (get_or REMAINDERS (v % 16) 0 * 2 ^ 112 % 2 ^ 128) ≡ shifted v 4
four_shifted v =
    let whole : v ≡ v / 16 * 2 ^ 4 + v % 16 = omega arith in
    let low : get_or REMAINDERS (v % 16) 0 * 2 ^ 112 % 2 ^ 128 ≡ shifted (v % 16) 4 = same_at (λ n. get_or REMAINDERS n 0 * 2 ^ 112 % 2 ^ 128) (λ n. shifted n 4) 16 (v % 16) remainders_same (omega arith) in
    ap (λ (t : ℕ). bit_xor (v / 16) t) low
    ∙ ap (λ (t : ℕ). bit_xor t (shifted (v % 16) 4)) (sym (shifted_even (v / 16) 4))
    ∙ sym (shifted-xor (v / 16 * 2 ^ 4) (v % 16) 4)
    ∙ ap (λ (t : ℕ). shifted t 4) (sym (whole ∙ sum_apart (v / 16) (v % 16) 4 (omega arith)))

-- ---- four bits more of a product

-- the last 4 * i bits of x, as the first ones of an element
abbrev pub last_bits : ℕ → ℕ → ℕ
last_bits x i = x % 2 ^ (4 * i) * 2 ^ (128 - 4 * i)

joined : (n m j k y : ℕ) → j + k ≡ 124 → m < 2 ^ j → y < 2 ^ 128 → product ((n * 2 ^ j + m) * 2 ^ k) y ≡ bit_xor (shifted (product (m * 2 ^ (k + 4)) y) 4) (product (n * 2 ^ 124) y)
joined n m j k y jk small b =
    let power : 2 ^ (j + k) ≡ 2 ^ j * 2 ^ k = pow-add 2 j k in
    let power4 : 2 ^ (k + 4) ≡ 2 ^ k * 2 ^ 4 = pow-add 2 k 4 in
    let powers : 2 ^ 124 ≡ 2 ^ j * 2 ^ k = ap (λ (t : ℕ). 2 ^ t) (sym jk) ∙ power in
    let room : m * 2 ^ k < 2 ^ 124 = shl_whole m j k jk small in
    let room4 : m * 2 ^ (k + 4) < 2 ^ 128 = rw power4 (room_4 m (2 ^ k) room) in
    let split : (n * 2 ^ j + m) * 2 ^ k ≡ n * 2 ^ 124 + m * 2 ^ k = rw powers (spread n m (2 ^ j) (2 ^ k)) in
    let down : shifted (m * 2 ^ (k + 4)) 4 ≡ m * 2 ^ k =
    ap (λ (t : ℕ). shifted t 4) (rw power4 (regroup m (2 ^ k))) ∙ shifted_even (m * 2 ^ k) 4 in
    ap (λ (t : ℕ). product t y) (split ∙ sum_apart n (m * 2 ^ k) 124 room)
    ∙ product_left (n * 2 ^ 124) (m * 2 ^ k) y
    ∙ xor_comm (product (n * 2 ^ 124) y) (product (m * 2 ^ k) y)
    ∙ ap (λ (t : ℕ). bit_xor t (product (n * 2 ^ 124) y)) (ap (λ (t : ℕ). product t y) (sym down) ∙ product_shifted (m * 2 ^ (k + 4)) y 4 room4 b)
  where
    spread : (n m p q : ℕ) → (n * p + m) * q ≡ n * (p * q) + m * q
    spread n m p q = omega arith

    regroup : (m q : ℕ) → m * (q * 2 ^ 4) ≡ m * q * 2 ^ 4
    regroup m q = omega arith

    room_4 : (m q : ℕ) → m * q < 2 ^ 124 → m * (q * 2 ^ 4) < 2 ^ 128
    room_4 m q h = omega arith

    shl_whole : (m j k : ℕ) → j + k ≡ 124 → m < 2 ^ j → m * 2 ^ k < 2 ^ 124
    shl_whole m j k jk h = rw (ap (λ (t : ℕ). 2 ^ t) jk) at (shl_below m j k h)

pub part_more : (x i y z : ℕ) → i < 32 → y < 2 ^ 128 → z ≡ product (last_bits x i) y
    → bit_xor (shifted z 4) (product (x / 2 ^ (4 * i) % 16 * 2 ^ 124) y) ≡ product (last_bits x (i + 1)) y
part_more x i y z h b is =
    let places : 4 * (i + 1) ≡ 4 + 4 * i = omega arith in
    let room : 128 - (4 + 4 * i) ≡ 124 - 4 * i = omega arith in
    let before : 124 - 4 * i + 4 ≡ 128 - 4 * i = omega arith in
    let bits : x % 2 ^ (4 + 4 * i) ≡ x / 2 ^ (4 * i) % 2 ^ 4 * 2 ^ (4 * i) + x % 2 ^ (4 * i) = mod-pow-add x 4 (4 * i) in
    let parts = joined (x / 2 ^ (4 * i) % 2 ^ 4) (x % 2 ^ (4 * i)) (4 * i) (124 - 4 * i) y (omega arith) (mod_below x (2 ^ (4 * i)) (pow_pos (4 * i))) b in
    rw is (sym (rw (places, room, bits) (rw before at parts)))

pub part_none : (x y : ℕ) → 0 ≡ product (last_bits x 0) y
part_none x y =
    let none : x % 2 ^ (4 * 0) * 2 ^ (128 - 4 * 0) ≡ 0 = omega arith in
    sym (ap (λ (t : ℕ). product t y) none ∙ linear_zero (λ v. product v y) (linear_product y))

pub part_all : (x i y z : ℕ) → x < 2 ^ 128 → i ≡ 32 → z ≡ product (last_bits x i) y → z ≡ product x y
part_all x i y z h end is =
    let whole : x % 2 ^ (4 * 32) * 2 ^ (128 - 4 * 32) ≡ x = omega arith in
    is ∙ ap (λ (n : ℕ). product (last_bits x n) y) end ∙ ap (λ (t : ℕ). product t y) whole

pub rest_more : (x i : ℕ) → x / 2 ^ (4 * i) / 16 ≡ x / 2 ^ (4 * (i + 1))
rest_more x i =
    let places : 4 * i + 4 ≡ 4 * (i + 1) = omega arith in
    shr-shr x (4 * i) 4 ∙ ap (λ (n : ℕ). x / 2 ^ n) places

-- the four bits behind
pub lower_is : (table low : List ℕ) (y n : ℕ) → IsProducts table y → n < 16 → get_or low n 0 ≡ shifted (get_or table n 0) 4 → get_or low n 0 ≡ product (n * 2 ^ 120) y
lower_is table low y n t h is =
    let split : n * 2 ^ 124 ≡ n * 2 ^ 120 * 2 ^ 4 = omega arith in
    is ∙ ap (λ (v : ℕ). shifted v 4) (t.entries n h) ∙ sym (product_shifted (n * 2 ^ 124) y 4 (omega arith) t.small)
    ∙ ap (λ (v : ℕ). product v y) (ap (λ (v : ℕ). shifted v 4) split ∙ shifted_even (n * 2 ^ 120) 4)
