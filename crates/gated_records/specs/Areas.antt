-- Areas of gated records, in words of places.
use Rattle.std.specs.Prelude.{◌≡◌, ◌≢◌, ◌⊎◌, ◌<◌, ◌≤◌, ℕ, ◌+◌, Bool, true, false, List, [], ◌∷◌, ◌++◌, length, take, drop}
use Rattle.ks_outside.specs.declared.disk.Disk.{Ghosts}
use Rattle.ks_outside.specs.Images.{AllImages}

-- these bytes stand at this place
abbrev pub HoldsAt : ℕ → List ℕ → List ℕ → Type 0
HoldsAt at bytes image = take (length bytes) (drop at image) ≡ bytes

-- some bytes at a place stand outside the n bytes from another place on
pub record IsOutside (place : ℕ) (bytes : List ℕ) (at n : ℕ) : Type 0 where
  pub some : 0 < length bytes
  pub apart : (place + length bytes ≤ at) ⊎ (at + n ≤ place)

-- an area that begins here holds these records, and behind them a gate that is shut; what follows the gate is anything
pub record IsArea (start : ℕ) (records image : List ℕ) : Type 0 where
  pub gate : ℕ
  pub closed : gate ≢ 75
  pub is : HoldsAt start (records ++ gate ∷ []) image

-- an open gate, 4b, and what stands behind it
abbrev pub opened_before : List ℕ → List ℕ
opened_before more = 75 ∷ more

-- the records, an open gate, and what stands behind it
abbrev pub with_more : List ℕ → List ℕ → List ℕ
with_more records more = records ++ opened_before more

-- what publishing is handed: an open gate, what is to count, and a shut gate
abbrev pub closed_by : List ℕ → List ℕ
closed_by more = opened_before (more ++ 0 ∷ [])

-- the area holds the records, or the records and more
abbrev pub IsWithOrWithout : ℕ → List ℕ → List ℕ → List ℕ → Type 0
IsWithOrWithout start records more image = IsArea start records image ⊎ IsArea start (with_more records more) image

-- the records that count, where the gate behind them is open or not
abbrev pub opened_to : Bool → List ℕ → List ℕ → List ℕ
opened_to true records more = with_more records more
opened_to false records more = records

-- on each image the area holds these records, and this is the place of the gate behind them
pub record HasArea {D : Type 0} (g : Ghosts D) (disk : D) (start : ℕ) (records : List ℕ) (at : ℕ) : Type 0 where
  pub place : at ≡ start + length records
  pub images : AllImages g disk (IsArea start records)
