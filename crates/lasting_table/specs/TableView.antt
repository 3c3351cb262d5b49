-- The table of what lasts as its callers see it: the lasting part, and the room that a change of it needs.
use Rattle.std.specs.Prelude.{◌≡◌, ◌<◌, ◌≤◌, ℕ, Bool, true, false, ◌||◌}
use Rattle.journal_records.specs.declared.change.Change.{Change}
use Rattle.journal_records.specs.declared.change.Change.TheVariants.{Create, Delete, Use, Grant, Ungrant, Clear, Removed, Upgrade}
use Rattle.journal_records.specs.LastingPart.{Lasting}
use Rattle.journal_records.specs.Needs.{is_met}

-- the lasting part, and for how many more keys and grants there is room
pub record TableView : Type 0 where
  pub part : Lasting
  pub key_places : ℕ
  pub grant_places : ℕ

-- the lasting part of a table
abbrev pub lasting_in : TableView → Lasting
lasting_in held = held.part

-- there is room for one more key
abbrev pub HasRoomForKey : TableView → Type 0
HasRoomForKey held = 0 < held.key_places

-- there is room for one more grant
abbrev pub HasRoomForGrant : TableView → Type 0
HasRoomForGrant held = 0 < held.grant_places

-- room for at least as many more of each
abbrev pub KeepsRoom : TableView → TableView → Type 0
KeepsRoom old new = (old.key_places ≤ new.key_places) × (old.grant_places ≤ new.grant_places)

-- whether a change makes a key
abbrev pub makes_key : Change → Bool
makes_key (Create id domain nspace alias blob list limit) = true
makes_key (Delete id) = false
makes_key (Use id) = false
makes_key (Grant row) = false
makes_key (Ungrant grant) = false
makes_key (Clear domain nspace) = false
makes_key (Removed user) = false
makes_key (Upgrade id blob list) = false

-- whether it makes a grant, or gives one other bits
abbrev pub makes_grant : Change → Bool
makes_grant (Create id domain nspace alias blob list limit) = false
makes_grant (Delete id) = false
makes_grant (Use id) = false
makes_grant (Grant row) = true
makes_grant (Ungrant grant) = false
makes_grant (Clear domain nspace) = false
makes_grant (Removed user) = false
makes_grant (Upgrade id blob list) = false

-- whether a change takes memory before it is made
abbrev pub takes_memory : Change → Bool
takes_memory change = makes_key change || makes_grant change

-- there is room for the key that a change makes, and for the grant
abbrev pub HasRoomFor : Change → TableView → Type 0
HasRoomFor change held = (makes_key change ≡ true → HasRoomForKey held) × (makes_grant change ≡ true → HasRoomForGrant held)

-- the change's need is met, and there is room for it
abbrev pub CanMake : TableView → Change → Type 0
CanMake held change = (is_met (lasting_in held) change ≡ true) × HasRoomFor change held
