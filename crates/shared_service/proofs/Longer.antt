-- How a step makes the book longer.
use Rattle.std.proofs.Common.{◌≡◌, ℕ, ◌+◌, ◌-◌, ◌<◌, List, [], ◌∷◌, ◌++◌, length, Option, Some, None, refl, ap, ◌∙◌, arith, length-append}
use Rattle.tags.specs.declared.settled.Settled.{Settled}
use Rattle.turn_lock.specs.Fronts.{AllMade, Appends}
use Rattle.service_book.specs.declared.entry.BookEntry.{BookEntry}
use Rattle.shared_service.specs.Calls.{OneStep, entries_of, settling_by}
use Rattle.shared_service.specs.Owning.{by}
use Rattle.shared_service.specs.Requests.{AreNumbers, GrowsBy}
use Rattle.shared_service.proofs.Logs.{acted_of}

made_settled : (pass : ℕ) (s : OneStep) (v : Option Settled) → AllMade by pass (settling_by pass s.before s.behind v ++ acted_of pass s ∷ [])
made_settled pass s None = (refl, tt)
made_settled pass s (Some settled) = (refl, (refl, tt))

some_settled : (pass : ℕ) (s : OneStep) (v : Option Settled) → 0 < length (settling_by pass s.before s.behind v ++ acted_of pass s ∷ [])
some_settled pass s None = omega arith
some_settled pass s (Some settled) = omega arith

-- its entries are the pass's
pub grows_by : (pass : ℕ) (s : OneStep) (old new : List BookEntry) → new ≡ old ++ entries_of pass s → GrowsBy pass old new
grows_by pass s old new grown = record { more = entries_of pass s; grown = grown; some = some_settled pass s s.settled; made = made_settled pass s s.settled }

pub longer_by : (pass : ℕ) (old new : List BookEntry) → GrowsBy pass old new → length old < length new
longer_by pass old new grows =
    let some = grows.some in
    let long : length new ≡ length old + length grows.more = ap length grows.grown ∙ length-append old grows.more in
    omega arith

pub appends_one : (pass : ℕ) (old new : List BookEntry) → GrowsBy pass old new → length new ≡ length old + 1 → Appends by pass 1 old new
appends_one pass old new grows one =
    let long : length new ≡ length old + length grows.more = ap length grows.grown ∙ length-append old grows.more in
    record { more = grows.more; grown = grows.grown; long = omega arith; made = grows.made }

pub appends_by : (pass first last : ℕ) (old new : List BookEntry) → GrowsBy pass old new → AreNumbers old new first last → Appends by pass (last + 1 - first) old new
appends_by pass first last old new grows numbers =
    let from = numbers.first_is in
    let to = numbers.last_is in
    let long : length new ≡ length old + length grows.more = ap length grows.grown ∙ length-append old grows.more in
    record { more = grows.more; grown = grows.grown; long = omega arith; made = grows.made }

pub added_some : (first last : ℕ) (old new : List BookEntry) → length old < length new → AreNumbers old new first last → 0 < last + 1 - first
added_some first last old new longer numbers =
    let from = numbers.first_is in
    let to = numbers.last_is in
    omega arith
