-- What a reply says of the client of a pass, and that a pass of a service is one in one way alone.
use Rattle.std.proofs.Common.{◌≡◌, ℕ, Bool, true, false, ◌&&◌, ◌||◌, if◌then◌else◌, List, [], ◌∷◌, Option, Some, None, refl, sym, subst}
use Rattle.std.proofs.Props.{props}
use Rattle.std.specs.Coded.{Coded-set, Unit-prop, ×_prop}
use Rattle.ks_outside.specs.declared.disk.Disk.{Ghosts as DiskGhosts}
use Rattle.ks_outside.specs.declared.entropy.Entropy.{Ghosts as EntropyGhosts}
use Rattle.rule_model.specs.declared.event.Act.{Act}
use Rattle.rule_model.specs.declared.event.Act.TheVariants.{Disconnect}
use Rattle.rule_model.specs.declared.reply.Reply.{Reply}
use Rattle.rule_model.specs.declared.reply.Reply.TheVariants.{Done, Broken, Stopped}
use Rattle.rule_model.specs.Acts.{is_connect, is_disconnect}
use Rattle.rule_model.specs.Entries.{is_done}
use Rattle.rule_model.specs.Acts.{is_framed}
use Rattle.service_book.specs.declared.entry.BookEntry.{BookEntry}
use Rattle.connections.specs.Talks.{is_refusal}
use Rattle.atomic_table.specs.Seated.{TableId, table_id_coded}
use Rattle.turn_lock.specs.declared.lock.RestingMaker.{RestingMaker}
use Rattle.turn_lock.specs.declared.view.Hand.{Hand}
use Rattle.turn_lock.specs.Views.{AllNamed}
use Rattle.shared_service.specs.declared.name.ServiceId.{ServiceId}
use Rattle.shared_service.specs.declared.pass.Pass.{Pass}
use Rattle.shared_service.specs.declared.shared.Shared.{Shared}
use Rattle.shared_service.specs.Kinds.{connected_after}
use Rattle.shared_service.specs.Passes.{HoldsMaker, IsOurs, RestsAt}
use Rattle.keystore_server.specs.Equality.{IsEqualInOneWay}

-- ---- clients

no_disconnect : (act : Act) → is_framed act ≡ true → is_disconnect act ≡ false
no_disconnect Disconnect e = absurd (cc)
no_disconnect _ e = refl

one_of : (joins made parts before : Bool) → parts ≡ false → (if joins then true else if made && parts then false else before) ≡ (before || joins)
one_of true made parts true e = refl
one_of true made parts false e = refl
one_of false made true before e = absurd (cc)
one_of false true false true e = refl
one_of false true false false e = refl
one_of false false false true e = refl
one_of false false false false e = refl

-- a request that has a frame brings a client where it is a connect that was admitted, and ends none
pub stays_connected : (act : Act) (reply : Reply) (before : Bool) → is_framed act ≡ true → connected_after act reply before ≡ (before || (is_done reply && is_connect act))
stays_connected act reply before e = one_of (is_done reply && is_connect act) (is_done reply) (is_disconnect act) before (no_disconnect act e)

gone : (reply : Reply) (before : Bool) → is_done reply ≡ true → connected_after Disconnect reply before ≡ false
gone (Done fields) before e = refl
gone (Broken rule code) before e = absurd (cc)
gone (Stopped code) before e = absurd (cc)

unrefused : (reply : Reply) → is_done reply ≡ true → is_refusal reply ≡ false
unrefused (Done fields) e = refl
unrefused (Broken rule code) e = refl
unrefused (Stopped code) e = absurd (cc)

-- an admitted disconnect ends the client, and is no refusal
pub goes_away : (act : Act) (reply : Reply) (before : Bool) → act ≡ Disconnect → is_done reply ≡ true → (connected_after act reply before ≡ false) × (is_refusal reply ≡ false)
goes_away act reply before e admitted = (
  subst (λ (a : Act). connected_after a reply before ≡ false) (sym e) (gone reply before admitted),
  unrefused reply admitted,
)

-- ---- passes

named_prop : {E K : Type 0} → IsEqualInOneWay K → (name : K) (hands : List (Hand E K)) → IsProp (AllNamed name hands)
named_prop set name [] = Unit-prop
named_prop set name (h ∷ hs) = ×_prop (set h.name name) (named_prop set name hs)

rests_prop : {N : Type 0} {n : EntropyGhosts N} → IsEqualInOneWay (ServiceId N) → (lock : TableId) (name : ServiceId N) (pass : Pass N n) → IsProp (RestsAt lock name pass)
rests_prop {N} set lock name pass = hlevel (props, Coded-set table_id_coded, named_prop {E = BookEntry} {K = ServiceId N} set)

holds_prop : {N : Type 0} → IsEqualInOneWay (ServiceId N) → (lock : TableId) (name : ServiceId N) (count number : ℕ) (maker : Option (RestingMaker BookEntry (ServiceId N))) → IsProp (HoldsMaker lock name count number maker)
holds_prop set lock name count number None = hlevel props
holds_prop {N} set lock name count number (Some maker) = hlevel (props, Coded-set table_id_coded, named_prop {E = BookEntry} {K = ServiceId N} set)

pub ours_prop : {D N : Type 0} {d : DiskGhosts D} {n : EntropyGhosts N} → IsEqualInOneWay (ServiceId N) → (shared : Shared D N d n) (pass : Pass N n) → IsProp (IsOurs shared pass)
ours_prop {n = n} set shared pass = hlevel (rests_prop {n = n} set, holds_prop set)
