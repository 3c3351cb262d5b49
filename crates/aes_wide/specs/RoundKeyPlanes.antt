-- The round keys of a key in planes, each in all eight blocks.
use Rattle.std.specs.Prelude.{ℕ, zero, suc, ◌≡◌, ◌<◌, ◌+◌, List, [], ◌∷◌, slice_index_or}
use Rattle.aes_core.specs.Expansion.{key_expansion, round_key, rounds_of}
use Rattle.aes_core.specs.State.{add_round_key}
use Rattle.aes_wide.specs.Steps.{constant}
use Rattle.aes_wide.specs.declared.wide_aes.KeyPlanes.{KeyPlanes}
use Rattle.aes_wide.specs.Planes.{IsWhole, standing}

-- a round key of a schedule as it is held: with the constant of the S-box in each byte, but for the first
abbrev pub held_key : List ℕ → ℕ → List ℕ
held_key w zero = round_key w 0
held_key w (suc r) = add_round_key (round_key w (suc r)) constant

-- the planes of a round key
abbrev pub planes_in : KeyPlanes → List (List ℕ)
planes_in k = k.p0 ∷ k.p1 ∷ k.p2 ∷ k.p3 ∷ k.p4 ∷ k.p5 ∷ k.p6 ∷ k.p7 ∷ []

-- those at an index
abbrev pub planes_at : List KeyPlanes → ℕ → List (List ℕ)
planes_at keys r = planes_in (slice_index_or keys r (record { p0 = []; p1 = []; p2 = []; p3 = []; p4 = []; p5 = []; p6 = []; p7 = [] }))

-- the first n
pub record HasKeys (n : ℕ) (keys : List KeyPlanes) (key : List ℕ) : Type 0 where
  pub whole : (r : ℕ) → r < n → IsWhole 8 (planes_at keys r)
  pub blocks : (r b : ℕ) → r < n → b < 8 → standing (planes_at keys r) b ≡ held_key (key_expansion key) r

-- all of them
abbrev pub HasAllKeys : List KeyPlanes → List ℕ → Type 0
HasAllKeys keys key = HasKeys (rounds_of key + 1) keys key
