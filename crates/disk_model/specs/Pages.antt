-- Bytes in pages of 4,096: a place's page is the place divided by 4,096, and its offset there is the rest.
use Rattle.std.specs.Prelude.{◌≡◌, ◌⊎◌, ℕ, ◌+◌, ◌-◌, ◌/◌, ◌%◌, ◌<◌, ◌≤◌, List, get_or, Option, Some, None, nat_eq}
use Rattle.std.specs.HashMap.{HashMap, get}
use Rattle.std.specs.declared.hash.FoldHasher.{FoldHasher}
use Rattle.std.specs.declared.hash.BuildHasherDefault.{BuildHasherDefault}
use Rattle.disk_model.specs.declared.pages.Page.{Page}

-- pages by their numbers
abbrev pub Rows : Type 0
Rows = HashMap ℕ Page (BuildHasherDefault FoldHasher)

-- the byte of a page at an offset; a page that is not held is all 00
abbrev pub byte_of : Option Page → ℕ → ℕ
byte_of None offset = 0
byte_of (Some page) offset = get_or page.bytes offset 0

-- the byte at a place
abbrev pub byte_in : Rows → ℕ → ℕ
byte_in rows place = byte_of (get nat_eq rows (place / 4096)) (place % 4096)

-- the first n bytes of the piece stand from the place on, and every other byte stays
pub record Overlaid (before now : ℕ → ℕ) (at n : ℕ) (piece : List ℕ) : Type 0 where
  pub inside : (i : ℕ) → i < n → now (at + i) ≡ get_or piece i 0
  pub outside : (place : ℕ) → (place < at) ⊎ (at + n ≤ place) → now place ≡ before place

-- the pages have these bytes, and 00 past them
abbrev pub AreBytes : Rows → List ℕ → Type 0
AreBytes rows bytes = (place : ℕ) → byte_in rows place ≡ get_or bytes place 0

-- at most so many pages have a byte of the n from a place on
abbrev pub pages_over : ℕ → ℕ → ℕ
pages_over at n = (at + n) / 4096 - at / 4096 + 1
