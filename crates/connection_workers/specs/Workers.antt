-- What workers did, as far as clauses can tell.
use Rattle.std.specs.Prelude.{◌≡◌, ◌⊎◌, ◌<◌, ◌≤◌, ◌^◌, ◌-◌, ℕ, Bool, true, false, List, [], ◌∷◌, ◌++◌, length, slice_index_or, Option, Some}
use Rattle.std.specs.List.{AllByRecursion}
use Rattle.ks_outside.specs.Carried.{Listened}
use Rattle.ks_outside.specs.declared.link.Link.{Ghosts as LinkGhosts}
use Rattle.ks_outside.specs.declared.listener.Listener.{Ghosts as ListenerGhosts}
use Rattle.rule_model.specs.declared.event.Act.{Act}
use Rattle.rule_model.specs.declared.reply.Reply.{Reply}
use Rattle.wire_frames.specs.Spelling.{IsRequest}
use Rattle.wire_frames.specs.Streams.{stream_of}
use Rattle.connections.specs.Ends.{EndsWhole, Serves}
use Rattle.connections.specs.declared.end.End.{End}
use Rattle.turn_lock.specs.declared.lock.LockPass.{LockPass}
use Rattle.turn_lock.specs.declared.lock.LastTurn.{LastTurn}
use Rattle.turn_lock.specs.declared.lock.Locked.{Locked}
use Rattle.turn_lock.specs.declared.view.View.{View}
use Rattle.turn_lock.specs.declared.rule.Turns.{Turns}
use Rattle.turn_lock.specs.Fronts.{AllMade}
use Rattle.turn_lock.specs.Passes.{IsPassOf, Took, front, made_before, number_of}
use Rattle.connection_workers.specs.Arrivals.{links_of, taken_by, worker_of}
use Rattle.connection_workers.specs.declared.intake.Arrival.{Arrival}
use Rattle.connection_workers.specs.declared.intake.Start.{Start}
use Rattle.connection_workers.specs.declared.intake.Intake.{Intake}
use Rattle.connection_workers.specs.declared.serving.Attendance.{Attendance}
use Rattle.connection_workers.specs.declared.serving.Attendance.TheVariants.{Served, ListenFault, Memory}
use Rattle.connection_workers.specs.declared.worker.Worker.{Worker}

-- ---- connections

-- a connection that was served: its link when it was taken from the listener, and after it was served; what was left of it; and how it
-- ended
pub record Visit (L : Type 0) : Type 0 where
  pub link : L
  pub after : L
  pub left : Option L
  pub end : End

module _ {L A : Type 0} (g : LinkGhosts L) (answers : A → Act → Reply → A → Type 0) where
  -- where a link brought whole frames of requests that were due and did not fail, all were answered, unless the run is full or memory is
  -- wanting
  abbrev pub Completes : L → L → A → End → Type 0
  Completes link after before end = (acts : List Act) → AllByRecursion IsRequest acts → g.incoming link ≡ Some (stream_of acts []) → g.fault_count link < 2 ^ 64 - 1
      → g.fault_count after ≡ g.fault_count link → EndsWhole answers before acts end

  -- One answerer became the other by a connection: its requests were answered from its first byte on, each when it was due, and whatever
  -- its end was, a client that had come by them was then disconnected; and what is left of the link is what it leaves that is hung up so.
  pub record IsVisit (leaves : L → Option L → Type 0) (before : A) (visit : Visit L) (now : A) : Type 0 where
    pub serves : Serves g answers visit.link visit.after before now visit.end
    pub complete : Completes visit.link visit.after before visit.end
    pub hung_up : leaves visit.after visit.left

  -- by these, one behind another
  abbrev pub Visits : (L → Option L → Type 0) → A → List (Visit L) → A → Type 0
  Visits leaves before [] now = now ≡ before
  Visits leaves before (v ∷ visits) now = (next : A) × IsVisit leaves before v next × Visits leaves next visits now

-- the links of visits
abbrev pub visited : {L : Type 0} → List (Visit L) → List L
visited [] = []
visited (v ∷ visits) = v.link ∷ visited visits

module _ {L A : Type 0} (g : LinkGhosts L) (answers : A → Act → Reply → A → Type 0) (leaves : L → Option L → Type 0) where
  -- by one connection of each of these links, in their order, and by nothing else
  abbrev pub ByLinks : A → List L → A → Type 0
  ByLinks before links now = (visits : List (Visit L)) × Visits g answers leaves before visits now × (links ≡ visited visits)

  -- by the connection of this link, of which this is left
  abbrev pub ByLink : A → L → Option L → A → Type 0
  ByLink before link left now = (visit : Visit L) × IsVisit g answers leaves before visit now × (visit.link ≡ link) × (visit.left ≡ left)

  -- A worker took more links, and its answerer went on by the connections of these.
  pub record HasTaken (worker : ℕ) (old new : List (Arrival L)) (before now : A) : Type 0 where
    pub more : List (Arrival L)
    pub grown : new ≡ old ++ more
    pub made : AllMade worker_of worker more
    pub served : ByLinks before (links_of more) now

-- ---- workers

-- a pass to an intake, the last turn, and an intake behind its lock
abbrev pub IntakePass : Type 0 → Type 0 → Type 0
IntakePass B L = LockPass (Intake B L) (Arrival L) (Start B)

abbrev pub IntakeClosing : Type 0 → Type 0 → Type 0
IntakeClosing B L = LastTurn (Option (Intake B L)) (View (Arrival L) (Start B))

abbrev pub IntakeLock : Type 0 → Type 0 → Type 0
IntakeLock B L = Locked (Option (Intake B L)) (View (Arrival L) (Start B)) (Start B) Turns

-- the links that a pass took
abbrev pub own_of : {B L : Type 0} → IntakePass B L → List (Arrival L)
own_of pass = taken_by (number_of pass) (front pass)

module _ {B L A : Type 0} where
  -- who answers for a worker
  abbrev pub answerer_of : Worker B L A → Option A
  answerer_of worker = worker.answerer

  abbrev pub pass_of : Worker B L A → Option (IntakePass B L)
  pass_of worker = worker.pass

  -- a worker has an answerer, to whom no client has come
  abbrev pub IsFree : (A → Bool) → Worker B L A → Type 0
  IsFree connected worker = (answerer : A) × (answerer_of worker ≡ Some answerer) × (connected answerer ≡ false)

  -- A worker's answerer has gone on by the connections of these links, each once, and by nothing else, and no client of it is left
  -- connected.
  abbrev pub HasServed : LinkGhosts L → (A → Act → Reply → A → Type 0) → (L → Option L → Type 0) → (A → Bool) → List L → Worker B L A → Worker B L A → Type 0
  HasServed g answers leaves connected links old new = (before : A) → answerer_of old ≡ Some before
      → (now : A) × (answerer_of new ≡ Some now) × ByLinks g answers leaves before links now × (connected now ≡ false)

  -- a worker took more links and served them
  abbrev pub HasGone : LinkGhosts L → (A → Act → Reply → A → Type 0) → (L → Option L → Type 0) → (A → Bool) → ℕ → List (Arrival L) → List (Arrival L) → Worker B L A → Worker B L A → Type 0
  HasGone g answers leaves connected number was now old new = (before : A) → answerer_of old ≡ Some before
      → (after : A) × (answerer_of new ≡ Some after) × HasTaken g answers leaves number was now before after × (connected after ≡ false)

  -- it has a pass of this lock, of this number, which took nothing
  abbrev pub IsLetIn : IntakeLock B L → ℕ → Worker B L A → Type 0
  IsLetIn lock number worker = (pass : IntakePass B L) × (pass_of worker ≡ Some pass) × IsPassOf lock pass × (number_of pass ≡ number) × (front pass ≡ [])

  -- it has a pass of this lock, of some number, and served all links that this pass took
  pub record HasTurned (lock : IntakeLock B L) (g : LinkGhosts L) (answers : A → Act → Reply → A → Type 0) (leaves : L → Option L → Type 0) (connected : A → Bool) (number : ℕ) (old new : Worker B L A) : Type 0 where
    pub pass : IntakePass B L
    pub pass_is : pass_of new ≡ Some pass
    pub ours : IsPassOf lock pass
    pub number_is : number_of pass ≡ number
    pub served : HasServed g answers leaves connected (links_of (own_of pass)) old new

  -- each of these has it
  abbrev pub AllFree : (A → Bool) → List (Worker B L A) → Type 0
  AllFree connected workers = (k : ℕ) (d : Worker B L A) → k < length workers → IsFree connected (slice_index_or workers k d)

  abbrev pub AllLetIn : IntakeLock B L → List (Worker B L A) → Type 0
  AllLetIn lock workers = (k : ℕ) (d : Worker B L A) → k < length workers → IsLetIn lock k (slice_index_or workers k d)

  abbrev pub AllTurned : IntakeLock B L → LinkGhosts L → (A → Act → Reply → A → Type 0) → (L → Option L → Type 0) → (A → Bool) → List (Worker B L A) → List (Worker B L A) → Type 0
  AllTurned lock g answers leaves connected old new =
      (k : ℕ) (d : Worker B L A) → k < length old → HasTurned lock g answers leaves connected k (slice_index_or old k d) (slice_index_or new k d)

  -- each has a pass of this lock; and a last turn has taken these in
  abbrev pub AllOurs : IntakeLock B L → List (Worker B L A) → Type 0
  AllOurs lock workers = (k : ℕ) (d : Worker B L A) → k < length workers → (pass : IntakePass B L) × (pass_of (slice_index_or workers k d) ≡ Some pass) × IsPassOf lock pass

  abbrev pub AllTookIn : IntakeClosing B L → List (Worker B L A) → Type 0
  AllTookIn closing workers = (k : ℕ) (d : Worker B L A) → k < length workers → (pass : IntakePass B L) → pass_of (slice_index_or workers k d) ≡ Some pass → Took closing pass

  pub record SameAnswerers (old new : List (Worker B L A)) : Type 0 where
    pub count : length new ≡ length old
    pub same : (k : ℕ) (d : Worker B L A) → k < length old → answerer_of (slice_index_or new k d) ≡ answerer_of (slice_index_or old k d)

  -- each has served what it took
  abbrev pub AllServed : LinkGhosts L → (A → Act → Reply → A → Type 0) → (L → Option L → Type 0) → (A → Bool) → List (Arrival L) → List (Worker B L A) → List (Worker B L A) → Type 0
  AllServed g answers leaves connected arrivals old new =
      (k : ℕ) (d : Worker B L A) → k < length old → HasServed g answers leaves connected (links_of (taken_by k arrivals)) (slice_index_or old k d) (slice_index_or new k d)

-- ---- an end

-- what passes took that were taken in is what the intake has of them
pub record AreKept {B L : Type 0} (closing : IntakeClosing B L) (arrivals : List (Arrival L)) : Type 0 where
  pub own : (pass : IntakePass B L) → Took closing pass → taken_by (number_of pass) arrivals ≡ own_of pass
  pub others : (number : ℕ) → made_before closing ≤ number → taken_by number arrivals ≡ []

-- the first of them took what was left, and the others stay as they were
pub record HasFinished {B L A : Type 0} (g : LinkGhosts L) (answers : A → Act → Reply → A → Type 0) (leaves : L → Option L → Type 0) (connected : A → Bool) (was now : List (Arrival L)) (old new : List (Worker B L A)) : Type 0 where
  pub count : length new ≡ length old
  pub more : List (Arrival L)
  pub grown : now ≡ was ++ more
  pub made : AllMade worker_of 0 more
  pub first : (d : Worker B L A) → HasServed g answers leaves connected (links_of more) (slice_index_or old 0 d) (slice_index_or new 0 d)
  pub others : (k : ℕ) (d : Worker B L A) → 0 < k → slice_index_or new k d ≡ slice_index_or old k d

-- what the end says of how many links were given, and how often it was said that no more come
abbrev pub Attends : ℕ → Attendance → ℕ → ℕ → Type 0
Attends connections Served links ends = (links ≡ connections) ⊎ (0 < ends)
Attends connections ListenFault links ends = Unit {0}
Attends connections Memory links ends = (links ≡ 0) × (ends ≡ 0)

abbrev pub is_fault : Attendance → Bool
is_fault ListenFault = true
is_fault attendance = false

-- there was memory to serve
abbrev pub HadMemory : Attendance → Type 0
HadMemory Memory = ⊥
HadMemory attendance = Unit {0}

-- the connections of a listener were attended, so many of them at most: it gave so many links, said so often that no more come, and a
-- call of it failed exactly where the end says so
pub record IsAttended {B L : Type 0} (g : ListenerGhosts B L) (connections links : ℕ) (old new : B) (attendance : Attendance) : Type 0 where
  pub ends : ℕ
  pub listened : Listened g old new links ends (is_fault attendance)
  pub attends : Attends connections attendance links ends
  pub most : links ≤ connections

-- The links that the listener gave, in the order in which it gave them, and the worker that took each: one of these, which served it once,
-- and served nothing else.
pub record AreServed {B L A : Type 0} (b : ListenerGhosts B L) (g : LinkGhosts L) (answers : A → Act → Reply → A → Type 0) (leaves : L → Option L → Type 0) (connected : A → Bool) (connections : ℕ) (listener later : B) (attendance : Attendance) (old new : List (Worker B L A)) : Type 0 where
  pub arrivals : List (Arrival L)
  pub attended : IsAttended b connections (length arrivals) listener later attendance
  pub served : AllServed g answers leaves connected arrivals old new
  pub others : (number : ℕ) → length old ≤ number → taken_by number arrivals ≡ []
