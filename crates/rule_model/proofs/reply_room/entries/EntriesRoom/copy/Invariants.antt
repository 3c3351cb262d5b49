use Rattle.std.proofs.Common.{◌≡◌, ◌+◌, ◌≤◌, length, take}
use Rattle.std.specs.Prelude.{vec_capacity}
use Rattle.rule_model.proofs.reply_room.entries.EntriesRoom.copy.Given as goal

abbrev pub invariant-loop-alias : goal.invariant-loop-alias
invariant-loop-alias l =
    (l.entries.items ≡ take l.alias-index l.source) × (length l.source ≤ vec_capacity l.entries) × (length l.source ≤ l.alias-index + length l.aliases.items)
