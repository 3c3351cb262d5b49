-- Passes become workers and come back, in their order.
use Rattle.std.proofs.Common.{◌≡◌, ℕ, ◌+◌, ◌-◌, ◌<◌, ◌≤◌, Bool, true, false, List, [], ◌∷◌, ◌++◌, length, length-drop, get_or, drop, suc, Option, Some, None, inl, inr, refl, sym, ap, subst, ◌∙◌, arith}
use Rattle.std.proofs.lemmas.List.{drop_more, get_or_default, same_lists}
use Rattle.std.proofs.lemmas.Bool.{cases_lt}
use Rattle.std.specs.Option.{IsSome}
use Rattle.std.specs.Prelude.{All}
use Rattle.ks_outside.specs.declared.disk.Disk.{Ghosts as DiskGhosts}
use Rattle.ks_outside.specs.declared.entropy.Entropy.{Ghosts as EntropyGhosts}
use Rattle.ks_outside.specs.declared.link.Link.{Ghosts as LinkGhosts}
use Rattle.ks_outside.specs.declared.clock.Reading.{Reading}
use Rattle.ks_outside.specs.declared.listener.Listener.{Ghosts as ListenerGhosts}
use Rattle.connection_workers.specs.Arrivals.{links_of, taken_by}
use Rattle.connection_workers.specs.Workers.{AllFree, AllServed, AreServed, answerer_of}
use Rattle.connection_workers.specs.declared.intake.Arrival.{Arrival}
use Rattle.connection_workers.specs.declared.serving.Attendance.{Attendance}
use Rattle.connection_workers.specs.declared.worker.Worker.{Worker}
use Rattle.connection_workers.specs.declared.serving.Attendance.TheVariants.{Memory}
use Rattle.connection_workers.proofs.Rounds.{none_attended}
use Rattle.connection_workers.proofs.Visiting.{no_link}
use Rattle.shared_service.specs.declared.pass.Pass.{Pass}
use Rattle.shared_service.specs.declared.shared.Shared.{Shared}
use Rattle.shared_service.specs.Passes.{IsOurs, connected_of}
use Rattle.shared_service.proofs.NewPasses.{each_more}
use Rattle.keystore_server.specs.Calling.{IsAnswered}
use Rattle.keystore_server.specs.Listening.{AllAnswered, ArePaired, IsIdle, IsListened, PassServed, PassesServed}
use Rattle.keystore_server.proofs.Chains.{Asks, visited_by}

-- ---- what is left of a list, from a place on

module _ {A : Type 0} (xs : List A) (k : ℕ) (x : A) (rest : List A) (e : drop k xs ≡ x ∷ rest) where
  pub next_within : k < length xs
  next_within = let long : length xs - k ≡ suc (length rest) = sym (length-drop k xs) ∙ ap (λ (l : List A). length l) e in omega (arith, long)

  pub next_is : (d : A) → get_or xs k d ≡ x
  next_is d = let both : get_or xs k d ∷ drop (k + 1) xs ≡ x ∷ rest = sym (drop_more xs k d next_within) ∙ e in cc

  pub next_rest : drop (k + 1) xs ≡ rest
  next_rest = let both : get_or xs k x ∷ drop (k + 1) xs ≡ x ∷ rest = sym (drop_more xs k x next_within) ∙ e in cc

pub all_given : {A : Type 0} (xs : List A) (k : ℕ) (left : List A) → left ≡ drop k xs → length left ≡ 0 → length xs ≤ k
all_given {A} xs k left e none = let long : length xs - k ≡ 0 = sym (length-drop k xs) ∙ ap (λ (l : List A). length l) (sym e) ∙ none in omega (arith, long)

-- where an iterator gives nothing, it has nothing
pub none_left : {A : Type 0} (o : Option A) (n : ℕ) → o ≡ None → (0 < n → IsSome o) → n ≡ 0
none_left {A} o n none some = elim (cases_lt 0 n) [
  | inl less ↦ let never : ◌≡◌ {A = Bool} false true = subst (λ (x : Option A). IsSome x) none (some less) in absurd cc
  | inr least ↦ omega (arith, least)
]

-- one of a list that has some
some_of : {A : Type 0} (xs : List A) (k : ℕ) → k < length xs → A
some_of [] k less = absurd (omega (arith, less))
some_of (x ∷ xs) k less = x

some_is : {A : Type 0} (o : Option A) (x y : A) → o ≡ Some x → o ≡ Some y → x ≡ y
some_is o x y p q = let both : Some x ≡ Some y = sym p ∙ q in cc

-- ---- pairs

module _ {B L A : Type 0} where
  -- who answers for a worker suits the pass at a place
  abbrev pub Suited : {N : Type 0} {n : EntropyGhosts N} → List (Pass N n) → ℕ → Worker B L A → (Pass N n → A → Type 0) → Type 0
  Suited {N} {n} passes k worker Suits = (p : Pass N n) → (caller : A) × (answerer_of worker ≡ Some caller) × Suits (get_or passes k p) caller

  -- the pass at a place suits who answers for the worker there
  abbrev pub Taken : {N : Type 0} {n : EntropyGhosts N} → List (Worker B L A) → ℕ → Pass N n → (Pass N n → A → Type 0) → Type 0
  Taken workers k pass Suits = (w : Worker B L A) → (caller : A) × (answerer_of (get_or workers k w) ≡ Some caller) × Suits pass caller

  pub worker_more : {N : Type 0} {n : EntropyGhosts N} (passes : List (Pass N n)) (ws vs : List (Worker B L A)) (w : Worker B L A) (left : List (Pass N n)) (pass : Pass N n) (caller : A) (Suits : Pass N n → A → Type 0) → vs ≡ ws ++ w ∷ [] → drop (length ws) passes ≡ pass ∷ left
      → answerer_of w ≡ Some caller → Suits pass caller → ((k : ℕ) (v : Worker B L A) → k < length ws → Suited passes k (get_or ws k v) Suits)
      → (k : ℕ) (v : Worker B L A) → k < length vs → Suited passes k (get_or vs k v) Suits
  worker_more {N} {n} passes ws vs w left pass caller Suits e at answers suits before =
      each_more (λ (k : ℕ) (v : Worker B L A). Suited passes k v Suits) ws vs w e before (λ p. (caller, answers, subst (λ (q : Pass N n). Suits q caller) (sym (next_is passes (length ws) pass left at p)) suits))

  pub pass_more : {N : Type 0} {n : EntropyGhosts N} (workers : List (Worker B L A)) (ps qs : List (Pass N n)) (pass : Pass N n) (left : List (Worker B L A)) (w : Worker B L A) (caller : A) (Suits : Pass N n → A → Type 0) → qs ≡ ps ++ pass ∷ [] → drop (length ps) workers ≡ w ∷ left
      → answerer_of w ≡ Some caller → Suits pass caller → ((k : ℕ) (p : Pass N n) → k < length ps → Taken workers k (get_or ps k p) Suits)
      → (k : ℕ) (p : Pass N n) → k < length qs → Taken workers k (get_or qs k p) Suits
  pass_more {N} {n} workers ps qs pass left w caller Suits e at answers suits before =
      each_more (λ (k : ℕ) (q : Pass N n). Taken workers k q Suits) ps qs pass e before (λ v. (caller, ap (λ (u : Worker B L A). answerer_of u) (next_is workers (length ps) w left at v) ∙ answers, suits))

  pub paired_workers : {N : Type 0} {n : EntropyGhosts N} (passes : List (Pass N n)) (workers : List (Worker B L A)) (Suits : Pass N n → A → Type 0) → length workers ≡ length passes
      → ((k : ℕ) (v : Worker B L A) → k < length workers → Suited passes k (get_or workers k v) Suits) → ArePaired passes workers Suits
  paired_workers passes workers Suits long each = record { count = long; each = λ k p w less. each k w (omega (arith, less, long)) p }

  pub paired_passes : {N : Type 0} {n : EntropyGhosts N} (passes : List (Pass N n)) (workers : List (Worker B L A)) (Suits : Pass N n → A → Type 0) → length workers ≡ length passes
      → ((k : ℕ) (p : Pass N n) → k < length passes → Taken workers k (get_or passes k p) Suits) → ArePaired passes workers Suits
  paired_passes passes workers Suits long each = record { count = long; each = λ k p w less. each k p less w }

-- ---- the service of a listener's connections

-- a caller of the service by this pass, with this clock
abbrev pub CallsBy : {A C D N : Type 0} {d : DiskGhosts D} {n : EntropyGhosts N} → (A → Shared D N d n) → (A → C) → (A → Pass N n) → Shared D N d n → C → Pass N n → A → Type 0
CallsBy shared_of clock_of pass_of shared clock pass caller = (shared_of caller ≡ shared) × (clock_of caller ≡ clock) × (pass_of caller ≡ pass)

abbrev pub HasPass : {A N : Type 0} {n : EntropyGhosts N} → (A → Pass N n) → Pass N n → A → Type 0
HasPass pass_of pass caller = pass_of caller ≡ pass

abbrev pub connected : {A N : Type 0} {n : EntropyGhosts N} → (A → Pass N n) → A → Bool
connected pass_of caller = connected_of (pass_of caller)

module _ {B L A C D N : Type 0} {d : DiskGhosts D} {n : EntropyGhosts N} (workers : List (Worker B L A)) (shared_of : A → Shared D N d n) (clock_of : A → C) (pass_of : A → Pass N n) (shared : Shared D N d n) (clock : C) where
  pub all_free : (passes : List (Pass N n)) → ArePaired passes workers (CallsBy shared_of clock_of pass_of shared clock) → All IsIdle passes → AllFree (connected pass_of) workers
  all_free passes paired idle = λ k w less.
      let count = paired.count in
      let within : k < length passes = omega (arith, less, count) in
      let p : Pass N n = some_of passes k within in
      let a = paired.each k p w within in
      (a.0, a.1, ap (λ (q : Pass N n). connected_of q) a.2.2 ∙ idle k p within)

  -- where the workers stayed as they were, the passes come back as they went
  pub passes_unserved : (passes back : List (Pass N n)) (after : List (Worker B L A)) → ArePaired passes workers (CallsBy shared_of clock_of pass_of shared clock) → after ≡ workers → ArePaired back after (HasPass pass_of) → back ≡ passes
  passes_unserved passes back after paired same came =
      let count = paired.count in
      let again = came.count in
      let long : length after ≡ length workers = ap (λ (ws : List (Worker B L A)). length ws) same in
      same_lists back passes (omega (arith, count, again, long)) each where
        each : (k : ℕ) (q : Pass N n) → k < length back → get_or back k q ≡ get_or passes k q
        each k q less =
            let count = paired.count in
            let again = came.count in
            let long : length after ≡ length workers = ap (λ (ws : List (Worker B L A)). length ws) same in
            let w : Worker B L A = some_of workers k (omega (arith, less, again, long)) in
            let a = paired.each k q w (omega (arith, less, count, again, long)) in
            let b = came.each k q w less in
            let here : answerer_of (get_or workers k w) ≡ Some b.0 = ap (λ (ws : List (Worker B L A)). answerer_of (get_or ws k w)) (sym same) ∙ b.1 in
            let one : b.0 ≡ a.0 = some_is (answerer_of (get_or workers k w)) b.0 a.0 here a.1 in
            sym b.2 ∙ ap pass_of one ∙ a.2.2

  module _ (shows : C → Reading → Type 0) (g : LinkGhosts L) (leaves : L → Option L → Type 0) (arrivals : List (Arrival L)) (after : List (Worker B L A)) (long : length after ≡ length workers)
      (served : AllServed g (Asks shared_of clock_of pass_of shows) leaves (connected pass_of) arrivals workers after) where
    pub all_answered : AllFree (connected pass_of) workers → AllAnswered after
    all_answered free = λ k w less.
        let within : k < length workers = omega (arith, less, long) in
        let a = free k w within in
        let s = served k w within a.0 a.1 in
        (s.0, s.1)

    pub passes_served : (passes back : List (Pass N n)) → All (IsOurs shared) passes → ArePaired passes workers (CallsBy shared_of clock_of pass_of shared clock) → ArePaired back after (HasPass pass_of)
        → PassesServed g shared (shows clock) leaves arrivals passes back
    passes_served passes back ours paired came =
        let count = paired.count in
        let again = came.count in
        record { count = omega (arith, count, again, long); each = each } where
          each : (k : ℕ) (p q : Pass N n) → k < length passes → PassServed g shared (shows clock) leaves (links_of (taken_by k arrivals)) (get_or passes k p) (get_or back k q)
          each k p q less =
              let count = paired.count in
              let again = came.count in
              let within : k < length workers = omega (arith, less, count) in
              let there : k < length back = omega (arith, less, count, again, long) in
              let w : Worker B L A = some_of workers k within in
              let a = paired.each k p w less in
              let s = served k w within a.0 a.1 in
              let b = came.each k q w there in
              let same : s.0 ≡ b.0 = some_is (answerer_of (get_or after k w)) s.0 b.0 s.1 b.1 in
              let mine : IsOurs shared (pass_of a.0) = subst (λ (o : Pass N n). IsOurs shared o) (sym a.2.2) (ours k p less) in
              let links : List L = links_of (taken_by k arrivals) in
              let visited = visited_by a.0 s.0 shared_of clock_of pass_of shows shared clock a.2.0 a.2.1 mine g leaves links s.2 in
              let is : PassServed g shared (shows clock) leaves links (pass_of a.0) (pass_of s.0) = record { ours = visited.1.ours; number = visited.1.number_is; visits = visited.0; idle = s.3 } in
              subst (λ (z : Pass N n × Pass N n). PassServed g shared (shows clock) leaves links z.0 z.1) (λ i. (a.2.2 i, (ap pass_of same ∙ b.2) i)) is

  -- all connections of a listener
  pub listened : (shows : C → Reading → Type 0) (g : LinkGhosts L) (leaves : L → Option L → Type 0) (b : ListenerGhosts B L) (connections : ℕ) (listener later : B) (attendance : Attendance) (after : List (Worker B L A)) (passes back : List (Pass N n))
      → length after ≡ length workers → AreServed b g (Asks shared_of clock_of pass_of shows) leaves (connected pass_of) connections listener later attendance workers after
      → All (IsOurs shared) passes → ArePaired passes workers (CallsBy shared_of clock_of pass_of shared clock) → ArePaired back after (HasPass pass_of)
      → IsListened g shared (shows clock) leaves b connections listener later attendance passes back
  listened shows g leaves b connections listener later attendance after passes back long are ours paired came =
      let count = paired.count in
      record {
        arrivals = are.arrivals;
        attended = are.attended;
        served = passes_served shows g leaves are.arrivals after long are.served passes back ours paired came;
        others = λ place past. are.others place (omega (arith, past, count));
      }

-- nothing was served
pub none_listened : {B L D N : Type 0} {d : DiskGhosts D} {n : EntropyGhosts N} (g : LinkGhosts L) (shared : Shared D N d n) (shows : Reading → Type 0) (leaves : L → Option L → Type 0) (b : ListenerGhosts B L) (connections : ℕ) (listener : B) (passes : List (Pass N n))
    → All (IsOurs shared) passes → All IsIdle passes → IsListened g shared shows leaves b connections listener listener Memory passes passes
none_listened {N = N} {n = n} g shared shows leaves b connections listener passes ours idle = record {
  arrivals = [];
  attended = none_attended b connections listener;
  served = record {
    count = refl;
    each = λ k p q less.
        subst (λ (o : Pass N n). PassServed g shared shows leaves [] (get_or passes k p) o) (get_or_default passes k p q less)
        (record { ours = ours k p less; number = refl; visits = no_link g (IsAnswered shared shows) leaves (get_or passes k p); idle = idle k p less });
  };
  others = λ place past. refl;
}
