use Rattle.std.proofs.Common.{◌≡◌, ◌+◌, ◌<◌, ◌==◌, List, ◌∷◌, Option, Some, get_or, sym, ap, ◌∙◌, subst, arith}
use Rattle.std.proofs.Math.Logic.{∥∥₁_elim, ∥∥₁_map}
use Rattle.std.proofs.Math.Bridge.{le_prop}
use Rattle.std.proofs.lemmas.Bool.{eqb-true}
use Rattle.std.proofs.lemmas.List.Quantifiers.{position-Some}
use Rattle.std.proofs.lemmas.List.Sorted.{All-permutation, IsPermutation-swap_remove, IsPermutation-sym}
use Rattle.std.specs.Prelude.{All}
use Rattle.std.specs.List.{position}
use Rattle.std.specs.List.Sorted.{IsPermutation}
use Rattle.turn_lock.specs.Fronts.{IsFrontOf}
use Rattle.rule_model.specs.Legal.{Legal}
use Rattle.keystore_core.specs.declared.engine.Engine.{Engine}
use Rattle.keystore_core.specs.Engine.{Stands, StoreStands}
use Rattle.service_book.specs.declared.entry.BookEntry.{BookEntry}
use Rattle.service_book.specs.Book.{AreLater, IsCaused, counts_after, history_of, log_of}
use Rattle.shared_service.specs.declared.desk.Desk.{Desk}
use Rattle.shared_service.specs.declared.name.ServiceId.{ServiceId}
use Rattle.shared_service.specs.declared.pass.Pass.{Pass}
use Rattle.shared_service.specs.Closings.{TookFront}
use Rattle.shared_service.specs.DeskWords.{desk_book, desk_name}
use Rattle.shared_service.specs.Desks.{counts_of}
use Rattle.shared_service.specs.Names.{IsSetupOf, counts_before, entropy_before}
use Rattle.shared_service.specs.Owning.{by}
use Rattle.shared_service.specs.Passes.{HoldsMaker, IsOurs, entropy_of, front_of, number_of, passes_of, service_lock, service_name, start_of}
use Rattle.shared_service.proofs.Drawing.{drew_at}
use Rattle.shared_service.proofs.TakenIn.{all_first, front_in, not_found}
use Rattle.shared_service.proofs.shared.Shared.close.Goals as goal

slot_is : {A : Type 0} (slot : Option A) (x y : A) → slot ≡ Some x → slot ≡ Some y → x ≡ y
slot_is slot x y p q = let both : Some x ≡ Some y = sym p ∙ q in cc

pub unreachable-requires : goal.unreachable-requires
unreachable-requires g c =
    let some = c.requires.some in
    not_found (λ (p : Pass g.row.N.Denot g.N.Entropy). number_of p == c.from.result) c.args.passes.items
    (sym (ap (position (λ (p : Pass g.row.N.Denot g.N.Entropy). number_of p == c.from.result)) c.deref.ensures.value) ∙ (sym c.place_of.ensures ∙ c.in_default.is)) (c.requires.all c.from.result (omega (arith, c.from.ensures)))

pub unreachable-requires-in_default-maker : goal.unreachable-requires-in_default-maker
unreachable-requires-in_default-maker g c =
    let self = c.args.self in
    let x = c.swap_remove-seat.result in
    let some = c.requires.some in
    let from = c.from.ensures in
    let at = position-Some (λ (p : Pass g.row.N.Denot g.N.Entropy). number_of p == c.from.result) c.args.passes.items c.in-Some.place x (sym (ap (position (λ (p : Pass g.row.N.Denot g.N.Entropy). number_of p == c.from.result)) c.deref.ensures.value) ∙ (sym c.place_of.ensures ∙ c.in-Some.is)) in
    let ours : IsOurs self x = subst (IsOurs self) (sym c.swap_remove-seat.ensures.value) (c.requires.ours c.in-Some.place x at.0) in
    let number : number_of x ≡ c.from.result = ap number_of c.swap_remove-seat.ensures.value ∙ eqb-true (number_of (get_or c.args.passes.items c.in-Some.place x)) c.from.result at.1 in
    let less : number_of x + 1 < passes_of self = subst (HoldsMaker (service_lock self) (service_name self) (passes_of self) (number_of x)) c.in_default-maker.is ours.maker_is in
    omega arith

pub returns-clause-legal : goal.returns-clause-legal
returns-clause-legal g c setup of =
    let self = c.args.self in
    let desk = c.in-Some-slot.desk in
    let same : c.end-slot.ensures.value ≡ desk = slot_is c.end-slot.result.0 c.end-slot.ensures.value desk c.end-slot.ensures.is c.in-Some-slot.is in
    let named : desk_name desk ≡ service_name self = ap (λ (x : Desk g.row.D.Denot g.row.N.Denot g.D.Disk g.N.Entropy). desk_name x) (sym same) ∙ c.end-slot.ensures.fit in
    let book : c.into_parts.result.3 ≡ desk_book desk = c.into_parts.ensures.book in
    let parts = c.into_parts.ensures.parts in
    ∥∥₁_map desk.stands (λ t. subst (λ (b : List BookEntry). Legal setup (history_of (log_of b))) (sym book) (t.stands setup (subst (λ (n : ServiceId g.row.N.Denot). IsSetupOf n setup) (sym named) of)).legal)

pub returns-clause-caused : goal.returns-clause-caused
returns-clause-caused g c =
    let self = c.args.self in
    let desk = c.in-Some-slot.desk in
    let same : c.end-slot.ensures.value ≡ desk = slot_is c.end-slot.result.0 c.end-slot.ensures.value desk c.end-slot.ensures.is c.in-Some-slot.is in
    let named : desk_name desk ≡ service_name self = ap (λ (x : Desk g.row.D.Denot g.row.N.Denot g.D.Disk g.N.Entropy). desk_name x) (sym same) ∙ c.end-slot.ensures.fit in
    let book : c.into_parts.result.3 ≡ desk_book desk = c.into_parts.ensures.book in
    let parts = c.into_parts.ensures.parts in
    ∥∥₁_map desk.stands (λ t. subst (λ (z : ServiceId g.row.N.Denot × List BookEntry). IsCaused (counts_before z.0) z.1) (λ i. (named i, sym book i)) t.caused)

pub returns-clause-stands : goal.returns-clause-stands
returns-clause-stands g c setup of =
    let self = c.args.self in
    let desk = c.in-Some-slot.desk in
    let same : c.end-slot.ensures.value ≡ desk = slot_is c.end-slot.result.0 c.end-slot.ensures.value desk c.end-slot.ensures.is c.in-Some-slot.is in
    let named : desk_name desk ≡ service_name self = ap (λ (x : Desk g.row.D.Denot g.row.N.Denot g.D.Disk g.N.Entropy). desk_name x) (sym same) ∙ c.end-slot.ensures.fit in
    let book : c.into_parts.result.3 ≡ desk_book desk = c.into_parts.ensures.book in
    let parts = c.into_parts.ensures.parts in
    ∥∥₁_map desk.stands (λ t. subst (λ (z : Engine × List BookEntry). Stands setup z.0 (history_of (log_of z.1))) (λ i. (sym parts.0 i, sym book i)) (t.stands setup (subst (λ (n : ServiceId g.row.N.Denot). IsSetupOf n setup) (sym named) of)))

pub returns-clause-store : goal.returns-clause-store
returns-clause-store g c setup of =
    let self = c.args.self in
    let desk = c.in-Some-slot.desk in
    let same : c.end-slot.ensures.value ≡ desk = slot_is c.end-slot.result.0 c.end-slot.ensures.value desk c.end-slot.ensures.is c.in-Some-slot.is in
    let named : desk_name desk ≡ service_name self = ap (λ (x : Desk g.row.D.Denot g.row.N.Denot g.D.Disk g.N.Entropy). desk_name x) (sym same) ∙ c.end-slot.ensures.fit in
    let book : c.into_parts.result.3 ≡ desk_book desk = c.into_parts.ensures.book in
    let parts = c.into_parts.ensures.parts in
    ∥∥₁_map desk.stands (λ t.
    subst (λ (z : Engine × List BookEntry). StoreStands g.D.Disk setup z.0 c.into_parts.result.1 (history_of (log_of z.1))) (λ i. (sym parts.0 i, sym book i))
    (subst (λ (x : g.row.D.Denot). StoreStands g.D.Disk setup desk.engine x (history_of (log_of (desk_book desk)))) (sym parts.1)
    (t.store setup (subst (λ (n : ServiceId g.row.N.Denot). IsSetupOf n setup) (sym named) of))))

pub returns-clause-counts : goal.returns-clause-counts
returns-clause-counts g c =
    let self = c.args.self in
    let desk = c.in-Some-slot.desk in
    let same : c.end-slot.ensures.value ≡ desk = slot_is c.end-slot.result.0 c.end-slot.ensures.value desk c.end-slot.ensures.is c.in-Some-slot.is in
    let named : desk_name desk ≡ service_name self = ap (λ (x : Desk g.row.D.Denot g.row.N.Denot g.D.Disk g.N.Entropy). desk_name x) (sym same) ∙ c.end-slot.ensures.fit in
    let book : c.into_parts.result.3 ≡ desk_book desk = c.into_parts.ensures.book in
    let parts = c.into_parts.ensures.parts in
    let later : ∥ AreLater (counts_after (start_of self) (log_of c.into_parts.result.3)) (counts_of g.D.Disk g.N.Entropy c.into_parts.result.1 c.into_parts.result.2) ∥₁ = ∥∥₁_map desk.stands (λ t.
    subst (λ (e : g.row.N.Denot). AreLater (counts_after (start_of self) (log_of c.into_parts.result.3)) (counts_of g.D.Disk g.N.Entropy c.into_parts.result.1 e)) (sym parts.2)
    (subst (λ (x : g.row.D.Denot). AreLater (counts_after (start_of self) (log_of c.into_parts.result.3)) (counts_of g.D.Disk g.N.Entropy x desk.entropy)) (sym parts.1)
    (subst (λ (z : ServiceId g.row.N.Denot × List BookEntry). AreLater (counts_after (counts_before z.0) (log_of z.1)) (counts_of g.D.Disk g.N.Entropy desk.disk desk.entropy)) (λ i. (named i, sym book i)) t.counts))) in
    record { disk = ∥∥₁_elim later le_prop (λ l. l.disk); entropy = ∥∥₁_elim later le_prop (λ l. l.entropy) }

pub returns-clause-drew : goal.returns-clause-drew
returns-clause-drew g c =
    let self = c.args.self in
    let desk = c.in-Some-slot.desk in
    let same : c.end-slot.ensures.value ≡ desk = slot_is c.end-slot.result.0 c.end-slot.ensures.value desk c.end-slot.ensures.is c.in-Some-slot.is in
    let named : desk_name desk ≡ service_name self = ap (λ (x : Desk g.row.D.Denot g.row.N.Denot g.D.Disk g.N.Entropy). desk_name x) (sym same) ∙ c.end-slot.ensures.fit in
    let parts = c.into_parts.ensures.parts in
    ∥∥₁_map desk.stands (λ t. drew_at g.N.Entropy (entropy_before (desk_name desk)) (entropy_of self) desk.entropy c.into_parts.result.2 (desk_book desk) c.into_parts.result.3
    (ap entropy_before named) (sym parts.2) (sym c.into_parts.ensures.book) t.drew)

pub returns-clause-fronts : goal.returns-clause-fronts
returns-clause-fronts g c k d lt =
    let self = c.args.self in
    let desk = c.in-Some-slot.desk in
    let same : c.end-slot.ensures.value ≡ desk = slot_is c.end-slot.result.0 c.end-slot.ensures.value desk c.end-slot.ensures.is c.in-Some-slot.is in
    let named : desk_name desk ≡ service_name self = ap (λ (x : Desk g.row.D.Denot g.row.N.Denot g.D.Disk g.N.Entropy). desk_name x) (sym same) ∙ c.end-slot.ensures.fit in
    let book : c.into_parts.result.3 ≡ desk_book desk = c.into_parts.ensures.book in
    let parts = c.into_parts.ensures.parts in
    let closing = c.take_in-closing.result in
    let x = c.swap_remove-seat.result in
    let items : List (Pass g.row.N.Denot g.N.Entropy) = c.args.passes.items in
    let rest : List (Pass g.row.N.Denot g.N.Entropy) = c.swap_remove-seat.new.self.items in
    let at = position-Some (λ (p : Pass g.row.N.Denot g.N.Entropy). number_of p == c.from.result) items c.in-Some.place x (sym (ap (position (λ (p : Pass g.row.N.Denot g.N.Entropy). number_of p == c.from.result)) c.deref.ensures.value) ∙ (sym c.place_of.ensures ∙ c.in-Some.is)) in
    let perm = subst (λ (r : List (Pass g.row.N.Denot g.N.Entropy)). IsPermutation items (x ∷ r)) (sym c.swap_remove-seat.ensures.items) (IsPermutation-swap_remove items c.in-Some.place x at.0 c.swap_remove-seat.ensures.value) in
    let took : All (λ (p : Pass g.row.N.Denot g.N.Entropy). TookFront closing (number_of p) (front_of p)) items = All-permutation (λ (p : Pass g.row.N.Denot g.N.Entropy). TookFront closing (number_of p) (front_of p)) (x ∷ rest) items (IsPermutation-sym items (x ∷ rest) perm)
    (all_first (λ (p : Pass g.row.N.Denot g.N.Entropy). TookFront closing (number_of p) (front_of p)) x rest
    (c.take_in-closing.ensures.kept (number_of x) (front_of x) (record { pass = c.wake.result; took = c.last_turn-last.ensures.taken; number_is = c.wake.ensures.same.0; front_is = c.wake.ensures.same.1 }))
    c.take_in-closing.ensures.taken) in
    let p = get_or items k d in
    let front = subst (IsFrontOf by (number_of p) (front_of p)) (ap (λ (x : Desk g.row.D.Denot g.row.N.Denot g.D.Disk g.N.Entropy). desk_book x) same ∙ sym book)
    (front_in closing (number_of p) (front_of p) (desk_book c.end-slot.ensures.value) c.end-slot.ensures.all (took k d lt)) in
    front.begins

pub returns-clause-own : goal.returns-clause-own
returns-clause-own g c k d lt =
    let self = c.args.self in
    let desk = c.in-Some-slot.desk in
    let same : c.end-slot.ensures.value ≡ desk = slot_is c.end-slot.result.0 c.end-slot.ensures.value desk c.end-slot.ensures.is c.in-Some-slot.is in
    let named : desk_name desk ≡ service_name self = ap (λ (x : Desk g.row.D.Denot g.row.N.Denot g.D.Disk g.N.Entropy). desk_name x) (sym same) ∙ c.end-slot.ensures.fit in
    let book : c.into_parts.result.3 ≡ desk_book desk = c.into_parts.ensures.book in
    let parts = c.into_parts.ensures.parts in
    let closing = c.take_in-closing.result in
    let x = c.swap_remove-seat.result in
    let items : List (Pass g.row.N.Denot g.N.Entropy) = c.args.passes.items in
    let rest : List (Pass g.row.N.Denot g.N.Entropy) = c.swap_remove-seat.new.self.items in
    let at = position-Some (λ (p : Pass g.row.N.Denot g.N.Entropy). number_of p == c.from.result) items c.in-Some.place x (sym (ap (position (λ (p : Pass g.row.N.Denot g.N.Entropy). number_of p == c.from.result)) c.deref.ensures.value) ∙ (sym c.place_of.ensures ∙ c.in-Some.is)) in
    let perm = subst (λ (r : List (Pass g.row.N.Denot g.N.Entropy)). IsPermutation items (x ∷ r)) (sym c.swap_remove-seat.ensures.items) (IsPermutation-swap_remove items c.in-Some.place x at.0 c.swap_remove-seat.ensures.value) in
    let took : All (λ (p : Pass g.row.N.Denot g.N.Entropy). TookFront closing (number_of p) (front_of p)) items = All-permutation (λ (p : Pass g.row.N.Denot g.N.Entropy). TookFront closing (number_of p) (front_of p)) (x ∷ rest) items (IsPermutation-sym items (x ∷ rest) perm)
    (all_first (λ (p : Pass g.row.N.Denot g.N.Entropy). TookFront closing (number_of p) (front_of p)) x rest
    (c.take_in-closing.ensures.kept (number_of x) (front_of x) (record { pass = c.wake.result; took = c.last_turn-last.ensures.taken; number_is = c.wake.ensures.same.0; front_is = c.wake.ensures.same.1 }))
    c.take_in-closing.ensures.taken) in
    let p = get_or items k d in
    let front = subst (IsFrontOf by (number_of p) (front_of p)) (ap (λ (x : Desk g.row.D.Denot g.row.N.Denot g.D.Disk g.N.Entropy). desk_book x) same ∙ sym book)
    (front_in closing (number_of p) (front_of p) (desk_book c.end-slot.ensures.value) c.end-slot.ensures.all (took k d lt)) in
    sym front.owned
