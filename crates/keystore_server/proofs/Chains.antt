-- What was done by one who answers, seen as what its pass did.
use Rattle.std.proofs.Common.{◌≡◌, ℕ, Bool, true, false, List, [], ◌∷◌, Option, refl, sym, ap, subst, ◌∙◌}
use Rattle.ks_outside.specs.declared.clock.Reading.{Reading}
use Rattle.ks_outside.specs.declared.disk.Disk.{Ghosts as DiskGhosts}
use Rattle.ks_outside.specs.declared.entropy.Entropy.{Ghosts as EntropyGhosts}
use Rattle.ks_outside.specs.declared.link.Link.{Ghosts as LinkGhosts}
use Rattle.rule_model.specs.declared.event.Act.{Act}
use Rattle.rule_model.specs.declared.event.Act.TheVariants.{Disconnect}
use Rattle.rule_model.specs.declared.reply.Reply.{Reply}
use Rattle.connections.specs.Talks.{Exchange, Talks, Closes}
use Rattle.connections.specs.Ends.{AnsweredOf, EndsWhole, Serves}
use Rattle.connections.specs.declared.end.End.{End}
use Rattle.connections.specs.declared.end.End.TheVariants.{EndOfInput, Truncated, BadFrame, LinkFault, RunFull, Memory}
use Rattle.connection_workers.specs.Workers.{ByLinks, Completes, IsVisit, Visit, Visits}
use Rattle.shared_service.specs.declared.pass.Pass.{Pass}
use Rattle.shared_service.specs.declared.shared.Shared.{Shared}
use Rattle.shared_service.specs.Passes.{IsOurs, number_of}
use Rattle.keystore_server.specs.Calling.{IsAnswered}

-- each step of one who answers is one of what is seen of it, as long as something is kept
module _ {A P : Type 0} (seen : A → P) (R : A → Act → Reply → A → Type 0) (S : P → Act → Reply → P → Type 0) (keeps : A → Type 0) (step : (a : A) (act : Act) (reply : Reply) (b : A) → keeps a → R a act reply b → S (seen a) act reply (seen b) × keeps b) where
  talks_seen : (a b : A) (talk : List Exchange) → keeps a → Talks R a talk b → Talks S (seen a) talk (seen b) × keeps b
  talks_seen a b [] start same = (ap seen same, subst keeps (sym same) start)
  talks_seen a b (x ∷ talk) start then =
      let one = step a x.act x.reply then.0 start then.1 in
      let rest = talks_seen then.0 b talk one.1 then.2 in
      ((seen then.0, one.0, rest.0), rest.1)

  closes_seen : (joined : Bool) (a b : A) → keeps a → Closes R joined a b → Closes S joined (seen a) (seen b) × keeps b
  closes_seen false a b start same = (ap seen same, subst keeps (sym same) start)
  closes_seen true a b start closed =
      let one = step a Disconnect closed.0 b start closed.1 in
      ((closed.0, one.0, closed.2), one.1)

  serves_seen : {L : Type 0} (g : LinkGhosts L) (link after : L) (a b : A) (end : End) → keeps a → Serves g R link after a b end → Serves g S link after (seen a) (seen b) end × keeps b
  serves_seen g link after a b end start served =
      let t = served.talked in
      let talks = talks_seen a served.last t.talk start t.talks in
      let closes = closes_seen served.joined served.last b talks.1 served.closes in (
        record {
          last = seen served.last;
          joined = served.joined;
          talked = record {
            talk = t.talk;
            taken = t.taken;
            rest = t.rest;
            part = t.part;
            missing = t.missing;
            talks = talks.0;
            requests = t.requests;
            each = t.each;
            turn = t.turn;
            replies = t.replies;
            carried = t.carried;
            ends = t.ends;
            joined_is = t.joined_is;
          };
          closes = closes.0;
        },
        closes.1,
      )

  answered_seen : (a : A) (acts more : List Act) → keeps a → AnsweredOf R a acts more → AnsweredOf S (seen a) acts more
  answered_seen a acts more start of = record { talk = of.talk; last = seen of.last; talks = (talks_seen a of.last of.talk start of.talks).0; acts_are = of.acts_are }

  ends_seen : (a : A) (acts : List Act) (end : End) → keeps a → EndsWhole R a acts end → EndsWhole S (seen a) acts end
  unfolding answered_seen
  ends_seen a acts EndOfInput start ends = answered_seen a acts [] start ends
  ends_seen a acts (BadFrame offset) start ends = record { act = ends.act; more = ends.more; answered = answered_seen a acts (ends.act ∷ ends.more) start ends.answered; undue = ends.undue; offset_is = ends.offset_is }
  ends_seen a acts Memory start ends = tt
  ends_seen a acts RunFull start ends = tt
  ends_seen a acts Truncated start ends = absurd ends
  ends_seen a acts LinkFault start ends = absurd ends

  completes_seen : {L : Type 0} (g : LinkGhosts L) (link after : L) (a : A) (end : End) → keeps a → Completes g R link after a end → Completes g S link after (seen a) end
  completes_seen g link after a end start complete = λ acts each told below same. ends_seen a acts end start (complete acts each told below same)

  visits_seen : {L : Type 0} (g : LinkGhosts L) (leaves : L → Option L → Type 0) (a b : A) (visits : List (Visit L)) → keeps a → Visits g R leaves a visits b → Visits g S leaves (seen a) visits (seen b) × keeps b
  visits_seen g leaves a b [] start same = (ap seen same, subst keeps (sym same) start)
  visits_seen g leaves a b (v ∷ visits) start then =
      let first = then.1 in
      let one = serves_seen g v.link v.after a then.0 v.end start first.serves in
      let rest = visits_seen g leaves then.0 b visits one.1 then.2 in
      let visit : IsVisit g S leaves (seen a) v (seen then.0) = record { serves = one.0; complete = completes_seen g v.link v.after a v.end start first.complete; hung_up = first.hung_up } in
      ((seen then.0, visit, rest.0), rest.1)

  pub visited_seen : {L : Type 0} (g : LinkGhosts L) (leaves : L → Option L → Type 0) (a b : A) (links : List L) → keeps a → ByLinks g R leaves a links b → ByLinks g S leaves (seen a) links (seen b) × keeps b
  visited_seen g leaves a b links start visited =
      let all = visits_seen g leaves a b visited.0 start visited.1 in
      ((visited.0, all.0, visited.2), all.1)

module _ {A C D N : Type 0} {d : DiskGhosts D} {n : EntropyGhosts N} (shared_of : A → Shared D N d n) (clock_of : A → C) (pass_of : A → Pass N n) (shows : C → Reading → Type 0) where
  -- what a caller tells of a call
  abbrev pub Asks : A → Act → Reply → A → Type 0
  Asks old act reply new = (shared_of new ≡ shared_of old) × (clock_of new ≡ clock_of old) × IsAnswered (shared_of old) (shows (clock_of old)) (pass_of old) act reply (pass_of new)

  -- it is a caller of this service, with this clock, by a pass of this number
  pub record IsCallerOf (shared : Shared D N d n) (clock : C) (number : ℕ) (caller : A) : Type 0 where
    pub shared_is : shared_of caller ≡ shared
    pub clock_is : clock_of caller ≡ clock
    pub ours : IsOurs shared (pass_of caller)
    pub number_is : number_of (pass_of caller) ≡ number

  asks_once : (shared : Shared D N d n) (clock : C) (number : ℕ) (a : A) (act : Act) (reply : Reply) (b : A) → IsCallerOf shared clock number a → Asks a act reply b
      → IsAnswered shared (shows clock) (pass_of a) act reply (pass_of b) × IsCallerOf shared clock number b
  asks_once shared clock number a act reply b is asks =
      let answered : IsAnswered shared (shows clock) (pass_of a) act reply (pass_of b) =
      subst (λ (p : Shared D N d n × C). IsAnswered p.0 (shows p.1) (pass_of a) act reply (pass_of b)) (λ i. (is.shared_is i, is.clock_is i)) asks.2 in (
        answered,
        record { shared_is = asks.0 ∙ is.shared_is; clock_is = asks.1 ∙ is.clock_is; ours = answered.ours; number_is = answered.number ∙ is.number_is },
      )

  caller_of : (shared : Shared D N d n) (clock : C) (a : A) → shared_of a ≡ shared → clock_of a ≡ clock → IsOurs shared (pass_of a) → IsCallerOf shared clock (number_of (pass_of a)) a
  caller_of shared clock a same timed ours = record { shared_is = same; clock_is = timed; ours = ours; number_is = refl }

module _ {A C D N : Type 0} {d : DiskGhosts D} {n : EntropyGhosts N} (a b : A) (shared_of : A → Shared D N d n) (clock_of : A → C) (pass_of : A → Pass N n) (shows : C → Reading → Type 0) (shared : Shared D N d n) (clock : C) (same : shared_of a ≡ shared) (timed : clock_of a ≡ clock) (ours : IsOurs shared (pass_of a)) where
  abbrev Asked : A → Act → Reply → A → Type 0
  Asked = Asks shared_of clock_of pass_of shows

  abbrev Answered : Pass N n → Act → Reply → Pass N n → Type 0
  Answered = IsAnswered shared (shows clock)

  abbrev pub IsStill : A → Type 0
  IsStill = IsCallerOf shared_of clock_of pass_of shows shared clock (number_of (pass_of a))

  pub serves_by : {L : Type 0} (g : LinkGhosts L) (link after : L) (end : End) → Serves g Asked link after a b end → Serves g Answered link after (pass_of a) (pass_of b) end × IsStill b
  serves_by g link after end served =
      serves_seen pass_of Asked Answered IsStill (asks_once shared_of clock_of pass_of shows shared clock (number_of (pass_of a))) g link after a b end (caller_of shared_of clock_of pass_of shows shared clock a same timed ours) served

  pub visited_by : {L : Type 0} (g : LinkGhosts L) (leaves : L → Option L → Type 0) (links : List L) → ByLinks g Asked leaves a links b → ByLinks g Answered leaves (pass_of a) links (pass_of b) × IsStill b
  visited_by g leaves links visited =
      visited_seen pass_of Asked Answered IsStill (asks_once shared_of clock_of pass_of shows shared clock (number_of (pass_of a))) g leaves a b links (caller_of shared_of clock_of pass_of shows shared clock a same timed ours) visited

  pub completes_by : {L : Type 0} (g : LinkGhosts L) (link after : L) (end : End) → Completes g Asked link after a end → Completes g Answered link after (pass_of a) end
  completes_by g link after end complete =
      completes_seen pass_of Asked Answered IsStill (asks_once shared_of clock_of pass_of shows shared clock (number_of (pass_of a))) g link after a end (caller_of shared_of clock_of pass_of shows shared clock a same timed ours) complete
