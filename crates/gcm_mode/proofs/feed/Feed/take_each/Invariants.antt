-- The bytes so far were taken.
use Rattle.std.proofs.Common.{ℕ, List, ◌++◌, take}
use Rattle.gcm_mode.specs.Parts.{Feeds}
use Rattle.gcm_mode.proofs.feed.Feed.take_each.Given as goal

abbrev pub invariant-bytes : goal.invariant-bytes
invariant-bytes l = (h bytes : List ℕ) → Feeds l.fn.self h bytes → Feeds l.self h (bytes ++ take l.byte-index l.input)
