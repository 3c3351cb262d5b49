-- The words of the command line.
use Rattle.std.specs.Prelude.{ℕ, List, codes, Option, Some, None, if◌then◌else◌}
use Rattle.std.specs.Str.{bytes_eq}
use Rattle.turn_list.specs.declared.words.ListKind.{ListKind}
use Rattle.turn_list.specs.declared.words.ListKind.TheVariants.{Lock, Mutex}

abbrev pub kind_named : List ℕ → Option ListKind
kind_named word = if bytes_eq word (codes "lock") then Some Lock else if bytes_eq word (codes "mutex") then Some Mutex else None
