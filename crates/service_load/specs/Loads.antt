-- A load, as words ask for it.
use Rattle.std.specs.Prelude.{◌≡◌, ℕ, List, codes, Option, Some, None, if◌then◌else◌}
use Rattle.std.specs.Str.{bytes_eq}
use Rattle.byte_strings.specs.Numbers.{number_in, threads_in}
use Rattle.service_load.specs.declared.load.LoadKind.{LoadKind}
use Rattle.service_load.specs.declared.load.LoadKind.TheVariants.{Macs, Updates, Book}
use Rattle.service_load.specs.declared.load.Load.{Load}

abbrev pub kind_named : List ℕ → Option LoadKind
kind_named word =
    if bytes_eq word (codes "macs") then Some Macs
    else if bytes_eq word (codes "updates") then Some Updates
    else if bytes_eq word (codes "book") then Some Book
    else None

-- the words `KIND ROUNDS THREADS` ask for this load
pub record AsksFor (kind rounds threads : List ℕ) (load : Load) : Type 0 where
  pub kind_is : kind_named kind ≡ Some load.kind
  pub rounds_are : number_in 0 4294967295 rounds ≡ Some load.rounds
  pub threads_are : threads_in threads ≡ Some load.threads
