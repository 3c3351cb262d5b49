-- A desk with the empty book.
use Rattle.std.proofs.Common.{◌≡◌, ℕ, true, false, List, [], Some, None, refl, sym, subst, arith}
use Rattle.ks_outside.specs.declared.disk.Disk.{Ghosts as DiskGhosts}
use Rattle.ks_outside.specs.declared.entropy.Entropy.{Ghosts as EntropyGhosts}
use Rattle.rule_model.specs.Setup.{Setup}
use Rattle.keystore_core.specs.declared.engine.Engine.{Engine}
use Rattle.keystore_core.specs.Engine.{Stands, StandsAtFirst, StoreStands}
use Rattle.service_book.specs.declared.entry.BookEntry.{BookEntry}
use Rattle.shared_service.specs.declared.name.ServiceId.{ServiceId}
use Rattle.shared_service.specs.Desks.{IsDesk}
use Rattle.shared_service.specs.Drawn.{DrewAll}
use Rattle.shared_service.specs.Facts.{ClientFacts, Facts, TicketFacts}
use Rattle.shared_service.specs.Making.{IsNameOf}
use Rattle.shared_service.proofs.Drawing.{drew_none}

none_some : {A : Type 0} {n : ℕ} → None ≡ Some n → A
none_some e = cc

false_true : {A : Type 0} → false ≡ true → A
false_true e = cc

no_tickets : TicketFacts []
no_tickets = record {
  own_is = λ pass ticket e. none_some e;
  out_is = λ pass ticket e. none_some e;
  known = λ ticket e. false_true e;
  whole = λ pass ticket e f. false_true e;
  few = λ pass ticket e. none_some e;
  covers = record { numbers = []; few = omega arith; all = λ pass ticket e. none_some e };
}

no_clients : ClientFacts []
no_clients = record {
  own_is = λ pass number e. none_some e;
  has_client = λ pass e. false_true e;
  seen = λ pass number e. none_some e;
  few = λ pass number e. none_some e;
  nobody = refl;
  none_zero = refl;
  covers = record { numbers = []; few = omega arith; all = λ pass number e f. false_true e };
}

no_facts : (setup : Setup) → Facts setup []
no_facts setup = record { tickets = no_tickets; clients = no_clients; busy = tt; still = tt }

pub new_desk : {D N : Type 0} (d : DiskGhosts D) (n : EntropyGhosts N) (name : ServiceId N) (engine : Engine) (disk : D) (entropy : N) (book : List BookEntry) → book ≡ [] → StandsAtFirst engine → ((setup : Setup) → Stands setup engine [] → StoreStands d setup engine disk [])
    → IsNameOf engine (d.fault_count disk) (n.fault_count entropy) entropy name → IsDesk d n name engine disk entropy book
new_desk {D} {N} d n name engine disk entropy book none first store is = subst (IsDesk d n name engine disk entropy) (sym none) (record {
  setup = first.setup;
  is_setup = subst (λ (e : Engine). Stands first.setup e []) (sym is.engine_is) first.stands;
  stands = λ s of. subst (λ (e : Engine). Stands s e []) is.engine_is of;
  store = λ s of. store s (subst (λ (e : Engine). Stands s e []) is.engine_is of);
  caused = tt;
  counts = record { disk = omega (arith, is.disk_is); entropy = omega (arith, is.entropy_is) };
  drew = subst (λ (begin : N). DrewAll n begin entropy []) (sym is.drawn_is) (drew_none n entropy);
  facts = λ s of. no_facts s;
})
