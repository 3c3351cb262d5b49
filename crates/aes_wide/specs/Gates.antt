-- The gates of the S-box without its constant, in five parts.
use Rattle.std.specs.Prelude.{ℕ, List, [], ◌∷◌}
use Rattle.aes_wide.specs.Circuit.{Gate}
use Rattle.aes_wide.specs.Circuit.Gate.{Xor, And}

unfoldable pub top_gates : List Gate
top_gates =
    Xor 4 2 ∷ Xor 7 1 ∷ Xor 7 4 ∷ Xor 7 2 ∷ Xor 6 5 ∷ Xor 12 0 ∷
    Xor 13 4 ∷ Xor 9 8 ∷ Xor 13 7 ∷ Xor 13 1 ∷ Xor 17 11 ∷ Xor 3 15 ∷
    Xor 19 2 ∷ Xor 19 6 ∷ Xor 20 0 ∷ Xor 20 12 ∷ Xor 21 10 ∷ Xor 0 24 ∷
    Xor 23 24 ∷ Xor 23 11 ∷ Xor 12 24 ∷ Xor 9 28 ∷ Xor 7 28 ∷ []

unfoldable pub top_outs : List ℕ
top_outs = 0 ∷ 13 ∷ 16 ∷ 18 ∷ 14 ∷ 17 ∷ 22 ∷ 25 ∷ 11 ∷ 10 ∷ 23 ∷ 24 ∷ 15 ∷ 9 ∷ 8 ∷ 20 ∷ 28 ∷ 26 ∷ 30 ∷ 27 ∷ 21 ∷ 29 ∷ []

unfoldable pub shared_gates : List Gate
shared_gates =
    And 12 15 ∷ And 3 6 ∷ Xor 23 22 ∷ And 4 0 ∷ Xor 25 22 ∷ And 13 16 ∷
    And 5 1 ∷ Xor 28 27 ∷ And 2 7 ∷ Xor 30 27 ∷ And 9 11 ∷ And 14 17 ∷
    Xor 33 32 ∷ And 8 10 ∷ Xor 35 32 ∷ Xor 24 34 ∷ Xor 26 36 ∷ Xor 29 34 ∷
    Xor 31 36 ∷ Xor 37 20 ∷ Xor 38 19 ∷ Xor 39 21 ∷ Xor 40 18 ∷ []

unfoldable pub shared_outs : List ℕ
shared_outs = 41 ∷ 42 ∷ 43 ∷ 44 ∷ []

unfoldable pub inverted_gates : List Gate
inverted_gates =
    Xor 0 1 ∷ And 0 2 ∷ Xor 3 5 ∷ And 4 6 ∷ Xor 7 1 ∷ Xor 2 3 ∷
    Xor 1 5 ∷ And 10 9 ∷ Xor 11 3 ∷ Xor 2 12 ∷ Xor 6 12 ∷ And 3 14 ∷
    Xor 15 13 ∷ Xor 6 15 ∷ And 8 17 ∷ Xor 4 18 ∷ Xor 19 16 ∷ Xor 8 12 ∷
    Xor 8 19 ∷ Xor 12 16 ∷ Xor 21 20 ∷ []

unfoldable pub inverted_outs : List ℕ
inverted_outs = 8 ∷ 12 ∷ 16 ∷ 19 ∷ 20 ∷ 21 ∷ 22 ∷ 23 ∷ 24 ∷ []

unfoldable pub products_gates : List Gate
products_gates =
    And 7 24 ∷ And 2 15 ∷ And 1 9 ∷ And 6 25 ∷ And 3 10 ∷ And 0 16 ∷
    And 5 20 ∷ And 8 26 ∷ And 4 19 ∷ And 7 21 ∷ And 2 12 ∷ And 1 13 ∷
    And 6 22 ∷ And 3 14 ∷ And 0 11 ∷ And 5 18 ∷ And 8 23 ∷ And 4 17 ∷ []

unfoldable pub products_outs : List ℕ
products_outs = 31 ∷ 32 ∷ 33 ∷ 34 ∷ 35 ∷ 36 ∷ 37 ∷ 38 ∷ 39 ∷ 40 ∷ 41 ∷ 42 ∷ 43 ∷ 44 ∷ 45 ∷ 46 ∷ 47 ∷ 48 ∷ []

unfoldable pub bottom_gates : List Gate
bottom_gates =
    Xor 15 16 ∷ Xor 10 11 ∷ Xor 5 13 ∷ Xor 9 10 ∷ Xor 2 12 ∷ Xor 2 5 ∷
    Xor 7 8 ∷ Xor 0 3 ∷ Xor 6 7 ∷ Xor 16 17 ∷ Xor 12 20 ∷ Xor 22 25 ∷
    Xor 4 18 ∷ Xor 3 26 ∷ Xor 18 29 ∷ Xor 14 29 ∷ Xor 24 30 ∷ Xor 21 30 ∷
    Xor 4 31 ∷ Xor 33 34 ∷ Xor 1 35 ∷ Xor 31 35 ∷ Xor 28 34 ∷ Xor 20 32 ∷
    Xor 36 37 ∷ Xor 25 38 ∷ Xor 23 38 ∷ Xor 19 37 ∷ Xor 36 43 ∷ Xor 27 42 ∷ []

unfoldable pub bottom_outs : List ℕ
bottom_outs = 41 ∷ 40 ∷ 45 ∷ 44 ∷ 43 ∷ 47 ∷ 46 ∷ 39 ∷ []

unfoldable pub unlinear_gates : List Gate
unlinear_gates =
    Xor 2 5 ∷ Xor 8 7 ∷ Xor 3 6 ∷ Xor 10 0 ∷ Xor 4 7 ∷ Xor 12 1 ∷ Xor 5 0 ∷ Xor 14 2 ∷
    Xor 6 1 ∷ Xor 16 3 ∷ Xor 7 2 ∷ Xor 18 4 ∷ Xor 0 3 ∷ Xor 20 5 ∷ Xor 1 4 ∷ Xor 22 6 ∷ []

unfoldable pub unlinear_outs : List ℕ
unlinear_outs = 9 ∷ 11 ∷ 13 ∷ 15 ∷ 17 ∷ 19 ∷ 21 ∷ 23 ∷ []
