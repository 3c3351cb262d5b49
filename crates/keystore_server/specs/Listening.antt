-- Passes of a service as workers, and what passes did that served connections.
use Rattle.std.specs.Prelude.{◌≡◌, ◌<◌, ◌≤◌, ℕ, false, List, [], length, slice_index_or, Option, Some}
use Rattle.ks_outside.specs.declared.clock.Reading.{Reading}
use Rattle.ks_outside.specs.declared.disk.Disk.{Ghosts as DiskGhosts}
use Rattle.ks_outside.specs.declared.entropy.Entropy.{Ghosts as EntropyGhosts}
use Rattle.ks_outside.specs.declared.link.Link.{Ghosts as LinkGhosts}
use Rattle.ks_outside.specs.declared.listener.Listener.{Ghosts as ListenerGhosts}
use Rattle.connection_workers.specs.Arrivals.{links_of, taken_by}
use Rattle.connection_workers.specs.Workers.{ByLinks, IsAttended, answerer_of}
use Rattle.connection_workers.specs.declared.intake.Arrival.{Arrival}
use Rattle.connection_workers.specs.declared.serving.Attendance.{Attendance}
use Rattle.connection_workers.specs.declared.worker.Worker.{Worker}
use Rattle.shared_service.specs.declared.pass.Pass.{Pass}
use Rattle.shared_service.specs.declared.shared.Shared.{Shared}
use Rattle.shared_service.specs.Passes.{IsOurs, connected_of, number_of}
use Rattle.keystore_server.specs.Calling.{IsAnswered}

-- a pass that has no client
abbrev pub IsIdle : {N : Type 0} {n : EntropyGhosts N} → Pass N n → Type 0
IsIdle pass = connected_of pass ≡ false

module _ {B L A : Type 0} where
  -- somebody answers for each worker
  abbrev pub AllAnswered : List (Worker B L A) → Type 0
  AllAnswered workers = (k : ℕ) (w : Worker B L A) → k < length workers → (caller : A) × (answerer_of (slice_index_or workers k w) ≡ Some caller)

  -- as many workers as passes; who answers for each stands so to the pass at its place
  pub record ArePaired {N : Type 0} {n : EntropyGhosts N} (passes : List (Pass N n)) (workers : List (Worker B L A)) (Suits : Pass N n → A → Type 0) : Type 0 where
    pub count : length workers ≡ length passes
    pub each : (k : ℕ) (p : Pass N n) (w : Worker B L A) → k < length passes
        → (caller : A) × (answerer_of (slice_index_or workers k w) ≡ Some caller) × Suits (slice_index_or passes k p) caller

module _ {L D N : Type 0} {d : DiskGhosts D} {n : EntropyGhosts N} (g : LinkGhosts L) (shared : Shared D N d n) (shows : Reading → Type 0) (leaves : L → Option L → Type 0) where
  -- a pass of the service went on by one connection of each of these links, in their order, and by nothing else, and has no client now
  pub record PassServed (links : List L) (old new : Pass N n) : Type 0 where
    pub ours : IsOurs shared new
    pub number : number_of new ≡ number_of old
    pub visits : ByLinks g (IsAnswered shared shows) leaves old links new
    pub idle : IsIdle new

  -- each pass did, in their order, by the links that the worker at its place took
  pub record PassesServed (arrivals : List (Arrival L)) (old new : List (Pass N n)) : Type 0 where
    pub count : length new ≡ length old
    pub each : (k : ℕ) (p q : Pass N n) → k < length old → PassServed (links_of (taken_by k arrivals)) (slice_index_or old k p) (slice_index_or new k q)

  -- The links that the listener gave, in the order in which it gave them, each with the place of the pass by which it was served, once.
  pub record IsListened {B : Type 0} (b : ListenerGhosts B L) (connections : ℕ) (listener later : B) (attendance : Attendance) (old new : List (Pass N n)) : Type 0 where
    pub arrivals : List (Arrival L)
    pub attended : IsAttended b connections (length arrivals) listener later attendance
    pub served : PassesServed arrivals old new
    pub others : (place : ℕ) → length old ≤ place → taken_by place arrivals ≡ []
