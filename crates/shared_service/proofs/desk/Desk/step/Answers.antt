use Rattle.std.proofs.Common.{◌≡◌, ◌+◌, ◌*◌, ◌≤◌, ◌^◌, List, ◌++◌, length, is_some, refl, sym, ap, ◌∙◌, subst, arith}
use Rattle.std.proofs.Math.Logic.{∥∥₁_elim, ∥∥₁_map₂}
use Rattle.std.proofs.Math.Bool.{Bool-set}
use Rattle.std.proofs.Math.Bridge.{le_prop}
use Rattle.rule_model.specs.ReplyRooms.{Fits, sizes_of}
use Rattle.rule_model.specs.declared.event.Event.{Event}
use Rattle.rule_model.specs.Entries.{History}
use Rattle.rule_model.specs.Jobs.{HasJob}
use Rattle.service_book.specs.Book.{history_of, log_of}
use Rattle.service_book.specs.Limits.{MOST_ENTRIES, acted_bytes, recorded}
use Rattle.shared_service.specs.Records.{book_in}
use Rattle.service_book.specs.declared.entry.BookEntry.{BookEntry}
use Rattle.shared_service.specs.Calls.{entries_of}
use Rattle.shared_service.specs.Desks.{IsDesk, weight}
use Rattle.shared_service.specs.DeskWords.{desk_book, desk_places}
use Rattle.shared_service.proofs.Logs.{history_length, log_step, history_step, step_log}
use Rattle.shared_service.proofs.ReplyLengths.{body_few, fits_prop, small_sizes}
use Rattle.shared_service.proofs.Stepping.{Step, desk_step, step_grown, step_small}
use Rattle.shared_service.proofs.StepNumbers.{parting_admits, step_places, step_weight}
use Rattle.shared_service.proofs.Longer.{grows_by}
use Rattle.shared_service.proofs.Weights.{one_if, one_some, settling_length}
use Rattle.shared_service.proofs.desk.Desk.step.Goals as goal

pub step-settled-requires-clause-few : goal.step-settled-requires-clause-few
step-settled-requires-clause-few g c =
    let few = c.args.self.now.few in
    let long = history_length (log_of (desk_book c.args.self.now)) in
    ∥∥₁_elim c.args.self.now.stands le_prop (λ t. omega (arith, (t.stands t.setup t.is_setup).entries))

pub step-settled-requires-clause-takes : goal.step-settled-requires-clause-takes
step-settled-requires-clause-takes g c = ∥∥₁_map₂ c.args.self.now.stands c.requires.may (λ t m. record {
  setup = t.setup;
  past = history_of (log_of (desk_book c.args.self.now));
  stands = t.stands t.setup t.is_setup;
  back_is = m.back_is t.setup t.is_setup;
})

pub settle-requires-clause-place : goal.settle-requires-clause-place
settle-requires-clause-place g c some =
    let old = c.args.self.now in
    let is : one_if (is_some c.step-settled.result.settled) ≡ 1 = one_some c.step-settled.result.settled some in
    ∥∥₁_elim old.stands le_prop (λ t. ∥∥₁_elim c.requires.may le_prop (λ m.
    let p = step_places g.D.Disk g.N.Entropy old.name old.engine old.disk old.entropy (desk_book old) c.args.pass c.args.prepared.room c.args.back
    (Step g.D.Disk g.N.Entropy old.disk c.step-settled.new.disk old.entropy c.step-settled.new.entropy c.args.prepared.event c.step-settled.result.settled c.step-settled.result.drawn c.step-settled.result.reply)
    t m c.step-settled.ensures.follows (desk_places old) old.places c.requires.places in omega (arith, is)))

pub recorded_bytes-bytes-requires-clause-short : goal.recorded_bytes-bytes-requires-clause-short
recorded_bytes-bytes-requires-clause-short g c =
    let old = c.args.self.now in
    ∥∥₁_elim old.stands le_prop (λ t. ∥∥₁_elim c.requires.may le_prop (λ m.
    body_few (sizes_of c.args.prepared.event.act m.out) c.step-settled.result.reply (small_sizes c.args.prepared.event.act m.out m.few)
    (c.step-settled.ensures.fits t.setup (history_of (log_of (desk_book old))) m.out (t.stands t.setup t.is_setup) (m.back_is t.setup t.is_setup) (m.enough t.setup t.is_setup))))

pub copy-requires : goal.copy-requires
copy-requires g c =
    let old = c.args.self.now in
    let reply = c.step-settled.result.reply in
    record {
      fits = ∥∥₁_elim old.stands (fits_prop c.args.prepared.room reply) (λ t. ∥∥₁_elim c.requires.may (fits_prop c.args.prepared.room reply) (λ m.
          subst (λ z. Fits z reply) (sym m.room_is)
          (c.step-settled.ensures.fits t.setup (history_of (log_of (desk_book old))) m.out (t.stands t.setup t.is_setup) (m.back_is t.setup t.is_setup) (m.enough t.setup t.is_setup))));
    }

pub add-requires-clause-place : goal.add-requires-clause-place
add-requires-clause-place g c =
    let old = c.args.self.now in
    let more : length (book_in c.settle.new.self) ≡ length (desk_book old) + one_if (is_some c.step-settled.result.settled) = ap length c.settle.ensures.added ∙ settling_length c.args.pass _ _ c.step-settled.result.settled (desk_book old) in
    let room = c.settle.ensures.places in
    ∥∥₁_elim old.stands le_prop (λ t. ∥∥₁_elim c.requires.may le_prop (λ m.
    let p = step_places g.D.Disk g.N.Entropy old.name old.engine old.disk old.entropy (desk_book old) c.args.pass c.args.prepared.room c.args.back
    (Step g.D.Disk g.N.Entropy old.disk c.step-settled.new.disk old.entropy c.step-settled.new.entropy c.args.prepared.event c.step-settled.result.settled c.step-settled.result.drawn c.step-settled.result.reply) t m c.step-settled.ensures.follows (desk_places old) old.places c.requires.places in omega arith))

pub invariant_of-self : goal.invariant_of-self
invariant_of-self g c =
    let old = c.args.self.now in
    let grown : book_in c.add.new.self ≡ desk_book old ++ entries_of c.args.pass (Step g.D.Disk g.N.Entropy old.disk c.step-settled.new.disk old.entropy c.step-settled.new.entropy c.args.prepared.event c.step-settled.result.settled c.step-settled.result.drawn c.step-settled.result.reply) =
    step_grown g.D.Disk g.N.Entropy old.name old.engine c.step-settled.new.self old.disk c.step-settled.new.disk old.entropy c.step-settled.new.entropy (desk_book old) c.args.pass c.args.prepared.event c.args.prepared.room c.args.back
    c.step-settled.result.settled c.step-settled.result.drawn c.step-settled.result.reply
    (book_in c.settle.new.self) (book_in c.add.new.self) c.entry.result c.copy.result c.args.prepared.copy c.faults-disk_before.result c.faults.result c.faults-entropy_before.result c.faults-2.result
    c.faults-disk_before.ensures c.faults.ensures c.faults-entropy_before.ensures c.faults-2.ensures c.settle.ensures.added c.add.ensures.added c.entry.ensures c.requires.same c.copy.ensures.copy in
    let log : log_of (book_in c.add.new.self) ≡ step_log c.args.pass (Step g.D.Disk g.N.Entropy old.disk c.step-settled.new.disk old.entropy c.step-settled.new.entropy c.args.prepared.event c.step-settled.result.settled c.step-settled.result.drawn c.step-settled.result.reply) (log_of (desk_book old)) = ap log_of grown ∙ log_step c.args.pass (Step g.D.Disk g.N.Entropy old.disk c.step-settled.new.disk old.entropy c.step-settled.new.entropy c.args.prepared.event c.step-settled.result.settled c.step-settled.result.drawn c.step-settled.result.reply) (desk_book old) in
    let bytes : acted_bytes c.args.prepared.event.act c.step-settled.result.reply ≡ c.recorded_bytes-bytes.result = ap (λ (e : Event). acted_bytes e.act c.step-settled.result.reply) (sym c.requires.same) ∙ sym c.recorded_bytes-bytes.ensures.bytes in
    let few = c.recorded_bytes-bytes.ensures.small in
    let room_1 = c.settle.ensures.places in
    let room_2 = c.add.ensures.places in
    let weights : ∥ (weight (log_of (book_in c.add.new.self)) ≤ desk_places old) × (weight (log_of (book_in c.add.new.self)) ≤ MOST_ENTRIES) ∥₁ = ∥∥₁_map₂ old.stands c.requires.may (λ t m.
    subst (λ (l : List BookEntry). (weight l ≤ desk_places old) × (weight l ≤ MOST_ENTRIES)) (sym log)
    (step_weight g.D.Disk g.N.Entropy old.name old.engine old.disk old.entropy (desk_book old) c.args.pass c.args.prepared.room c.args.back
    (Step g.D.Disk g.N.Entropy old.disk c.step-settled.new.disk old.entropy c.step-settled.new.entropy c.args.prepared.event c.step-settled.result.settled c.step-settled.result.drawn c.step-settled.result.reply) t m c.step-settled.ensures.follows (desk_places old) old.places old.few c.requires.places)) in
    record {
      stands = ∥∥₁_map₂ old.stands c.requires.may (λ t m. subst (IsDesk g.D.Disk g.N.Entropy old.name c.step-settled.new.self c.step-settled.new.disk c.step-settled.new.entropy) (sym grown)
          (desk_step g.D.Disk g.N.Entropy old.name old.engine c.step-settled.new.self old.disk c.step-settled.new.disk old.entropy c.step-settled.new.entropy (desk_book old) c.args.pass c.args.prepared.event c.args.prepared.room c.args.back
          c.step-settled.result.settled c.step-settled.result.drawn c.step-settled.result.reply t m c.step-settled.ensures.stands c.step-settled.ensures.follows c.step-settled.ensures.stays c.step-settled.ensures.store
          c.step-settled.ensures.goes.cause c.step-settled.ensures.drew));
      places = ∥∥₁_elim weights le_prop (λ w. let a = w.0 in omega arith);
      few = ∥∥₁_elim weights le_prop (λ w. w.1);
      small = subst (λ (l : List BookEntry). recorded (log_of l) ≤ length l * 2 ^ 35) (sym grown)
          (step_small g.D.Disk g.N.Entropy old.name old.engine c.step-settled.new.self old.disk c.step-settled.new.disk old.entropy c.step-settled.new.entropy (desk_book old) c.args.pass c.args.prepared.event c.args.prepared.room c.args.back
          c.step-settled.result.settled c.step-settled.result.drawn c.step-settled.result.reply old.small (omega arith));
    }

pub returns-clause-made : goal.returns-clause-made
returns-clause-made g c =
    let old = c.args.self.now in
    let grown : book_in c.add.new.self ≡ desk_book old ++ entries_of c.args.pass (Step g.D.Disk g.N.Entropy old.disk c.step-settled.new.disk old.entropy c.step-settled.new.entropy c.args.prepared.event c.step-settled.result.settled c.step-settled.result.drawn c.step-settled.result.reply) =
    step_grown g.D.Disk g.N.Entropy old.name old.engine c.step-settled.new.self old.disk c.step-settled.new.disk old.entropy c.step-settled.new.entropy (desk_book old) c.args.pass c.args.prepared.event c.args.prepared.room c.args.back
    c.step-settled.result.settled c.step-settled.result.drawn c.step-settled.result.reply
    (book_in c.settle.new.self) (book_in c.add.new.self) c.entry.result c.copy.result c.args.prepared.copy c.faults-disk_before.result c.faults.result c.faults-entropy_before.result c.faults-2.result
    c.faults-disk_before.ensures c.faults.ensures c.faults-entropy_before.ensures c.faults-2.ensures c.settle.ensures.added c.add.ensures.added c.entry.ensures c.requires.same c.copy.ensures.copy in
    ∥∥₁_map₂ old.stands c.requires.may (λ t m. record {
      s = (Step g.D.Disk g.N.Entropy old.disk c.step-settled.new.disk old.entropy c.step-settled.new.entropy c.args.prepared.event c.step-settled.result.settled c.step-settled.result.drawn c.step-settled.result.reply);
      event_is = refl;
      reply_is = refl;
      grown = grown;
      job_is = λ setup of. subst (λ (h : History). HasJob setup h c.step-settled.result.reply c.step-settled.result.job)
          (sym (ap (λ (l : List BookEntry). history_of (log_of l)) grown ∙ (ap history_of (log_step c.args.pass (Step g.D.Disk g.N.Entropy old.disk c.step-settled.new.disk old.entropy c.step-settled.new.entropy c.args.prepared.event c.step-settled.result.settled c.step-settled.result.drawn c.step-settled.result.reply) (desk_book old)) ∙ history_step c.args.pass (Step g.D.Disk g.N.Entropy old.disk c.step-settled.new.disk old.entropy c.step-settled.new.entropy c.args.prepared.event c.step-settled.result.settled c.step-settled.result.drawn c.step-settled.result.reply) (log_of (desk_book old)))))
          (c.step-settled.ensures.job setup (history_of (log_of (desk_book old))) (t.stands setup of) (m.back_is setup of));
    })

pub returns-clause-grown : goal.returns-clause-grown
returns-clause-grown g c =
    let old = c.args.self.now in
    let s = Step g.D.Disk g.N.Entropy old.disk c.step-settled.new.disk old.entropy c.step-settled.new.entropy c.args.prepared.event c.step-settled.result.settled c.step-settled.result.drawn c.step-settled.result.reply in
    grows_by c.args.pass s (desk_book old) (book_in c.add.new.self)
    (step_grown g.D.Disk g.N.Entropy old.name old.engine c.step-settled.new.self old.disk c.step-settled.new.disk old.entropy c.step-settled.new.entropy (desk_book old) c.args.pass c.args.prepared.event c.args.prepared.room c.args.back
    c.step-settled.result.settled c.step-settled.result.drawn c.step-settled.result.reply
    (book_in c.settle.new.self) (book_in c.add.new.self) c.entry.result c.copy.result c.args.prepared.copy c.faults-disk_before.result c.faults.result c.faults-entropy_before.result c.faults-2.result
    c.faults-disk_before.ensures c.faults.ensures c.faults-entropy_before.ensures c.faults-2.ensures c.settle.ensures.added c.add.ensures.added c.entry.ensures c.requires.same c.copy.ensures.copy)

pub returns-clause-parts : goal.returns-clause-parts
returns-clause-parts g c p =
    let old = c.args.self.now in
    ∥∥₁_elim old.stands (Bool-set _ _) (λ t. ∥∥₁_elim c.requires.may (Bool-set _ _) (λ m.
    parting_admits g.D.Disk g.N.Entropy old.name old.engine old.disk old.entropy (desk_book old) c.args.pass c.args.prepared.room c.args.back
    (Step g.D.Disk g.N.Entropy old.disk c.step-settled.new.disk old.entropy c.step-settled.new.entropy c.args.prepared.event c.step-settled.result.settled c.step-settled.result.drawn c.step-settled.result.reply)
    t m c.step-settled.ensures.follows p))

pub returns-clause-told : goal.returns-clause-told
returns-clause-told g c =
    let old = c.args.self.now in
    ∥∥₁_elim old.stands le_prop (λ t. ∥∥₁_elim c.requires.may le_prop (λ m.
    body_few (sizes_of c.args.prepared.event.act m.out) c.step-settled.result.reply (small_sizes c.args.prepared.event.act m.out m.few)
    (c.step-settled.ensures.fits t.setup (history_of (log_of (desk_book old))) m.out (t.stands t.setup t.is_setup) (m.back_is t.setup t.is_setup) (m.enough t.setup t.is_setup))))
