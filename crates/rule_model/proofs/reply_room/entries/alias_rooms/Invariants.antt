use Rattle.std.proofs.Common.{◌≡◌, length}
use Rattle.rule_model.proofs.reply_room.entries.alias_rooms.Given as goal

abbrev pub invariant-loop-made : goal.invariant-loop-made
invariant-loop-made l = length l.rooms.items ≡ l._made
