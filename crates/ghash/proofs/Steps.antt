-- One more bit of a product, and one more block of a hash.
use Rattle.std.proofs.Common.{◌≡◌, ℕ, ◌+◌, ◌==◌, List, [], ◌∷◌, ◌++◌, refl, add-one, if◌then◌else◌}
use Rattle.std.specs.Int.RustNames.{bit_xor}
use Rattle.ghash.specs.Field.{element, product, shifted, sum_of, times_x, bit_of}
use Rattle.ghash.specs.Hash.{hash_after, Holds}
use Rattle.ghash.specs.declared.state.Ghash.{Ghash}

pub shifted_none : (y : ℕ) → shifted y 0 ≡ y
unfolding shifted
shifted_none y = refl

pub shifted_more : (y i : ℕ) → shifted y (i + 1) ≡ times_x (shifted y i)
unfolding shifted
shifted_more y i = rw add-one refl

pub sum_none : (x y : ℕ) → sum_of x y 0 ≡ 0
unfolding sum_of
sum_none x y = refl

pub sum_more : (x y i : ℕ) → sum_of x y (i + 1) ≡ (if bit_of x i == 1 then bit_xor (sum_of x y i) (shifted y i) else sum_of x y i)
unfolding sum_of
sum_more x y i = rw add-one refl

-- one more block behind the others
pub hash_after-push : (h y : ℕ) (xs : List (List ℕ)) (x : List ℕ) → hash_after h y (xs ++ x ∷ []) ≡ product (bit_xor (hash_after h y xs) (element x)) h
hash_after-push h y [] x = refl
hash_after-push h y (b ∷ xs) x = hash_after-push h (product (bit_xor y (element b)) h) xs x

pub holds_more : (s n : Ghash) (h x : List ℕ) (blocks : List (List ℕ)) → Holds s h blocks → n.subkey ≡ s.subkey
    → n.sum ≡ product (bit_xor s.sum (element x)) s.subkey → Holds n h (blocks ++ x ∷ [])
unfolding Holds
holds_more s n h x blocks held key sum =
    let more = hash_after-push (element h) 0 blocks x in
    let same : n.sum ≡ hash_after (element h) 0 (blocks ++ x ∷ []) = rw (more, ← held.1, ← held.0) sum in
    (rw key held.0, same)
