-- What a history leaves on a disk, part by part.
use Rattle.std.proofs.Common.{◌≡◌, ℕ, ◌+◌, ◌-◌, ◌^◌, ◌<◌, ◌≤◌, ◌⊎◌, inl, inr, ⊎_elim, Bool, true, false, if◌then◌else◌, List, [], ◌∷◌, ◌++◌, Option, None, Some, refl, sym, ap, ◌∙◌, arith, append_assoc}
use Rattle.ks_outside.proofs.Joins.{each_moment, passes_as, passes_none, passes_on}
use Rattle.ks_outside.proofs.Shown.{counts_none, counts_on}
use Rattle.ks_outside.specs.Faults.{CountsFaults}
use Rattle.ks_outside.specs.Images.{AllImages, Passes, tells}
use Rattle.ks_outside.specs.declared.disk.Disk.{Ghosts}
use Rattle.tags.specs.declared.settled.Settled.{Settled}
use Rattle.key_database.specs.Store.{StandsFor}
use Rattle.rule_model.specs.declared.entry.Entry.TheVariants.{Acted, Settling}
use Rattle.rule_model.specs.declared.event.Event.{Event}
use Rattle.rule_model.specs.declared.reply.Reply.{Reply}
use Rattle.rule_model.specs.Entries.{History, after_settling, after_step}
use Rattle.rule_model.specs.Settling.{is_disk_fault}
use Rattle.rule_model.specs.Setup.{Setup}
use Rattle.keystore_core.specs.Engine.{MayHold, MayHoldEither}
use Rattle.keystore_core.specs.Opening.{IsOpenedFrom}
use Rattle.keystore_core.specs.Restarting.{is_other_store}
use Rattle.keystore_run.specs.KeptStores.{AtSome, AtSomeSince, IsFront, Keeps, KeepsMore, estranged_of, failed_of}
use Rattle.keystore_run.proofs.DrawLemmas.{counted, unchanged}

-- ---- fronts

front_self : (past : History) → IsFront past past
front_self past = ([], refl)

front_none : (past : History) → IsFront [] past
front_none past = (past, sym (append_nothing past)) where
  append_nothing : (xs : History) → xs ++ [] ≡ xs
  append_nothing [] = refl
  append_nothing (x ∷ xs) = ap (λ l. x ∷ l) (append_nothing xs)

front_on : (front mid later : History) → IsFront front mid → IsFront mid later → IsFront front later
front_on front mid later first second = (second.0 ++ first.0, second.1 ∙ ap (λ l. second.0 ++ l) first.1 ∙ sym (append_assoc second.0 first.0 front))

front_step : (settled : Option Settled) (event : Event) (drawn : List ℕ) (reply : Reply) (past : History) → IsFront past (after_step settled event drawn reply past)
front_step None event drawn reply past = (Acted event drawn reply ∷ [], refl)
front_step (Some settled) event drawn reply past = (Acted event drawn reply ∷ Settling settled ∷ [], refl)

some_on : (setup : Setup) (mid later : History) (c : List ℕ) → IsFront mid later → AtSome setup mid c → AtSome setup later c
some_on setup mid later c front (at, is, held) = (at, front_on at mid later is front, held)

-- what holds since an earlier history, up to a later one still
since_more : (setup : Setup) (past mid later : History) (c : List ℕ) → IsFront mid later → AtSomeSince setup past mid c → AtSomeSince setup past later c
since_more setup past mid later c front (at, since, is, held) = (at, since, front_on at mid later is front, held)

-- and since an earlier history still
since_less : (setup : Setup) (past mid later : History) (c : List ℕ) → IsFront past mid → AtSomeSince setup mid later c → AtSomeSince setup past later c
since_less setup past mid later c front (at, since, is, held) = (at, front_on past mid at front since, is, held)

since_any : (setup : Setup) (past later : History) (c : List ℕ) → AtSomeSince setup past later c → AtSome setup later c
since_any setup past later c (at, since, is, held) = (at, is, held)

either_since : (setup : Setup) (past later : History) (c : List ℕ) → IsFront past later → MayHoldEither setup past later c → AtSomeSince setup past later c
either_since setup past later c front (inl held) = (past, front_self past, front, held)
either_since setup past later c front (inr held) = (later, front, front_self later, held)

-- ---- what was counted

settled_failed : (settled : Option Settled) (past : History) → failed_of (after_settling settled past) ≡ failed_of past
settled_failed None past = refl
settled_failed (Some settled) past = refl

settled_estranged : (settled : Option Settled) (past : History) → estranged_of (after_settling settled past) ≡ estranged_of past
settled_estranged None past = refl
settled_estranged (Some settled) past = refl

not_estranged : (other : Bool) (n m : ℕ) → n ≡ m → other ≡ false → (if other then n + 1 else n) ≡ m
not_estranged other n m e none = rw none e

module _ {D : Type 0} (d : Ghosts D) (setup : Setup) where
  -- ---- parts of a history

  -- nothing came
  pub keeps_nothing : (disk : D) (past : History) → KeepsMore d setup disk disk past past false
  keeps_nothing disk past = record {
    front = front_self past;
    passes = passes_none d disk (AtSomeSince setup past past);
    faults = counts_none (d.fault_count disk);
    failures = refl;
    telling = refl;
    same = λ told. refl;
  }

  -- one step
  pub keeps_step : (old new : D) (past : History) (settled : Option Settled) (event : Event) (drawn : List ℕ) (reply : Reply)
      → Passes d old new (MayHoldEither setup past (after_step settled event drawn reply past))
      → CountsFaults (d.fault_count old) (d.fault_count new) (is_disk_fault reply) → tells d new ≡ tells d old
      → (tells d old ≡ true → is_other_store reply ≡ false)
      → KeepsMore d setup old new past (after_step settled event drawn reply past) (is_disk_fault reply)
  keeps_step old new past settled event drawn reply passes faults telling same = record {
    front = front_step settled event drawn reply past;
    passes = passes_as d old new _ (AtSomeSince setup past (after_step settled event drawn reply past)) passes
        (λ c held. either_since setup past (after_step settled event drawn reply past) c (front_step settled event drawn reply past) held);
    faults = faults;
    failures = ap (λ n. if is_disk_fault reply then n + 1 else n) (settled_failed settled past);
    telling = telling;
    same = λ told. not_estranged (is_other_store reply) (estranged_of (after_settling settled past)) (estranged_of past) (settled_estranged settled past) (same told);
  }

  -- two parts, of which the first had no call that failed
  pub keeps_both : (a b c : D) (past mid later : History) (failed : Bool) → KeepsMore d setup a b past mid false → KeepsMore d setup b c mid later failed → KeepsMore d setup a c past later failed
  keeps_both a b c past mid later failed first second = record {
    front = front_on past mid later first.front second.front;
    passes = passes_on d a b c (AtSomeSince setup past mid) (AtSomeSince setup mid later) (AtSomeSince setup past later) first.passes second.passes
        (λ image. since_more setup past mid later image second.front) (λ image. since_less setup past mid later image first.front);
    faults = counts_on _ _ _ false failed first.faults second.faults;
    failures = second.failures ∙ ap (λ n. if failed then n + 1 else n) first.failures;
    telling = second.telling ∙ first.telling;
    same = λ told. second.same (first.telling ∙ told) ∙ first.same told;
  }

  -- ---- since the beginning

  -- what is known of the disk since a moment; where all images stood for the start then, each that came stands for what may be kept after
  -- some front
  pub record KeptSince (begin now : D) (past : History) : Type 0 where
    pub passes : AllImages d begin (StandsFor setup.start) → Passes d begin now (AtSome setup past)
    pub faults : d.fault_count now < 2 ^ 64 - 1 → failed_of past + d.fault_count begin ≤ d.fault_count now
    pub none : failed_of past ≡ 0 → d.fault_count now ≡ d.fault_count begin
    pub later : d.fault_count begin ≤ d.fault_count now
    pub telling : tells d now ≡ tells d begin
    pub same : tells d begin ≡ true → estranged_of past ≡ 0

  pub since_none : (begin now : D) → IsOpenedFrom d begin now → KeptSince begin now []
  since_none begin now is = record {
    passes = λ stood. passes_as d begin now (StandsFor setup.start) (AtSome setup []) (is.brought.stays setup.start stood).passes (λ c stands. ([], front_none [], stands));
    faults = λ few. omega (arith, is.count);
    none = λ none. is.count;
    later = omega (arith, is.count);
    telling = is.telling;
    same = λ told. refl;
  }

  pub since_on : (begin mid new : D) (past later : History) (failed : Bool) → KeptSince begin mid past → KeepsMore d setup mid new past later failed → KeptSince begin new later
  since_on begin mid new past later failed since more = record {
    passes = λ stood. passes_on d begin mid new (AtSome setup past) (AtSomeSince setup past later) (AtSome setup later) (since.passes stood) more.passes
        (λ c held. some_on setup past later c more.front held) (λ c held. since_any setup past later c held);
    faults = counted failed (failed_of past) (failed_of later) (d.fault_count begin) (d.fault_count mid) (d.fault_count new) since.faults more.failures more.faults.later more.faults.rises;
    none = unchanged failed (failed_of past) (failed_of later) (d.fault_count begin) (d.fault_count mid) (d.fault_count new) since.none more.failures more.faults.same;
    later = omega (arith, since.later, more.faults.later);
    telling = more.telling ∙ since.telling;
    same = λ told. more.same (since.telling ∙ told) ∙ since.same told;
  }

  -- the whole of it
  pub keeps_all : ((disk : D) (c : List ℕ) → d.images_since disk (d.moment disk) c → d.images disk c) → (begin new : D) (past : History)
      → KeptSince begin new past → AllImages d new (MayHold setup past) → Keeps d setup begin new past
  keeps_all only_now begin new past since holds = record {
    holds = holds;
    moments = λ stood.
        each_moment d only_now begin new (AtSome setup past) (λ c image. ([], front_none past, stood c image)) (since.passes stood);
    faults = since.faults;
    none = since.none;
    later = since.later;
    same = since.same;
  }
