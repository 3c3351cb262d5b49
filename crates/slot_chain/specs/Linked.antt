-- Lists that are linked by index through an array.
use Rattle.std.specs.Prelude.{◌≡◌, ◌≢◌, ◌<◌, ◌≤◌, ◌-◌, ◌^◌, ℕ, zero, suc, Bool, ◌==◌, List, [], ◌∷◌, map, length, get_or, find, Option, Some, None, if◌then◌else◌, ⊤}
use Rattle.std.specs.List.{AllByRecursion}
use Rattle.slot_chain.specs.declared.heads.Head.{Head}
use Rattle.slot_chain.specs.declared.links.ChainLink.{ChainLink}
use Rattle.slot_chain.specs.Ordered.{IsOrdered}

-- ---- the array

-- what an array has past its end
abbrev pub blank : ChainLink
blank = record { owner = 0; before = 0; after = 0 }

abbrev pub owner_of : ChainLink → ℕ
owner_of link = link.owner

abbrev pub before_of : ChainLink → ℕ
before_of link = link.before

abbrev pub after_of : ChainLink → ℕ
after_of link = link.after

-- of each place whose list it is in, the place before it, and the one behind it
abbrev pub owners : List ChainLink → List ℕ
owners links = map owner_of links

abbrev pub befores : List ChainLink → List ℕ
befores links = map before_of links

abbrev pub afters : List ChainLink → List ℕ
afters links = map after_of links

-- one number was written
abbrev pub Puts : List ℕ → List ℕ → ℕ → ℕ → Type 0
Puts old new place number = (other : ℕ) → get_or new other 0 ≡ (if other == place then number else get_or old other 0)

-- ---- the lists

-- a number is none of these
abbrev pub NoneIs : ℕ → List ℕ → Type 0
NoneIs n [] = ⊤
NoneIs n (k ∷ ks) = (k ≢ n) × NoneIs n ks

-- no two are the same
abbrev pub AllDiffer : List ℕ → Type 0
AllDiffer [] = ⊤
AllDiffer (k ∷ ks) = NoneIs k ks × AllDiffer ks

-- so many places from one on, each behind the one before it
abbrev pub walk : List ℕ → ℕ → ℕ → List ℕ
walk after zero p = []
walk after (suc n) p = p ∷ walk after n (get_or after p 0)

-- the last of a list that begins with this one
abbrev pub last_of : ℕ → List ℕ → ℕ
last_of p [] = p
last_of p (q ∷ qs) = last_of q qs

-- each place has the next one behind it, which has it before itself
abbrev pub IsPath : List ℕ → List ℕ → ℕ → List ℕ → Type 0
IsPath after before p [] = ⊤
IsPath after before p (q ∷ qs) = (get_or after p 0 ≡ q) × (get_or before q 0 ≡ p) × IsPath after before q qs

-- each is a place, and this uid's
abbrev pub IsOwned : List ℕ → ℕ → List ℕ → Type 0
IsOwned owner uid [] = ⊤
IsOwned owner uid (p ∷ ps) = (p < length owner) × (get_or owner p 0 ≡ uid) × IsOwned owner uid ps

abbrev pub uid_of : Head → ℕ
uid_of head = head.uid

abbrev pub has_uid : ℕ → Head → Bool
has_uid uid head = head.uid == uid

-- the head of a list of one place
abbrev pub new_head : ℕ → ℕ → Head
new_head uid place = record { uid = uid; oldest = place; newest = place; count = 1 }

-- the places of a head's list behind the first
abbrev pub rest_of : List ℕ → Head → List ℕ
rest_of after head = walk after (head.count - 1) (get_or after head.oldest 0)

-- the places of a head's list
abbrev pub places_of : List ℕ → Head → List ℕ
places_of after head = head.oldest ∷ rest_of after head

-- a head of a list that is linked
pub record IsHead (after before owner : List ℕ) (head : Head) : Type 0 where
  pub some : 0 < head.count
  pub path : IsPath after before head.oldest (rest_of after head)
  pub owned : IsOwned owner head.uid (places_of after head)
  pub differ : AllDiffer (places_of after head)
  pub newest : last_of head.oldest (rest_of after head) ≡ head.newest

-- the list of the head that was found
abbrev pub found_places : List ℕ → Option Head → List ℕ
found_places after None = []
found_places after (Some head) = places_of after head

-- the list of a uid
abbrev pub list_of : List ℕ → List Head → ℕ → List ℕ
list_of after heads uid = found_places after (find (has_uid uid) heads)

-- what is kept of the array and the heads, for which there is memory
pub record IsKept (after before owner : List ℕ) (heads : List Head) (room : ℕ) : Type 0 where
  pub befores : length before ≡ length after
  pub owned : length owner ≡ length after
  pub few : length after < 2 ^ 32 - 1
  pub heads_are : AllByRecursion (IsHead after before owner) heads
  pub uids : IsOrdered uid_of heads
  pub memory : length after ≤ room
