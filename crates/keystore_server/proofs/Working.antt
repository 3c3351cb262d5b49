-- What the book of a service has of its workers.
use Rattle.std.proofs.Common.{◌≡◌, ℕ, zero, suc, ◌<◌, ◌≤◌, ◌==◌, if◌then◌else◌, inl, inr, Bool, true, false, List, [], ◌∷◌, length, get_or, Option, refl, sym, ap, subst, ◌∙◌, arith}
use Rattle.std.proofs.lemmas.Bool.{both_ways, cases_lt, eq-eqb}
use Rattle.std.specs.Prelude.{All}
use mathlib.Core.List.{IsPrefix}
use Rattle.turn_lock.specs.Rule.{own}
use Rattle.ks_outside.specs.declared.disk.Disk.{Ghosts as DiskGhosts}
use Rattle.ks_outside.specs.declared.entropy.Entropy.{Ghosts as EntropyGhosts}
use Rattle.ks_outside.specs.declared.link.Link.{Ghosts as LinkGhosts}
use Rattle.rule_model.specs.declared.event.Act.{Act}
use Rattle.rule_model.specs.declared.reply.Reply.{Reply}
use Rattle.service_book.specs.declared.entry.BookEntry.{BookEntry}
use Rattle.ks_outside.specs.declared.clock.Reading.{Reading}
use Rattle.connection_workers.specs.Arrivals.{links_of, taken_by}
use Rattle.connection_workers.specs.Workers.{ByLinks}
use Rattle.connection_workers.specs.declared.intake.Arrival.{Arrival}
use Rattle.shared_service.specs.declared.pass.Pass.{Pass}
use Rattle.shared_service.specs.declared.shared.Shared.{Shared}
use Rattle.shared_service.specs.Calls.{IsCall}
use Rattle.shared_service.specs.Owning.{by}
use Rattle.shared_service.specs.Passes.{AreNumbered, IsNew, front_of, number_of}
use Rattle.keystore_server.specs.Calling.{IsAnswered}
use Rattle.keystore_server.specs.Listening.{PassesServed}
use Rattle.keystore_server.proofs.Chains.{visited_seen}
use Rattle.keystore_server.specs.Ends.{HasWorked, IsCalled}

-- ---- entries of passes

-- where a filter leaves nothing, its first was not kept
not_kept : {A : Type 0} (kept : Bool) (x : A) (xs : List A) → (if kept then x ∷ xs else xs) ≡ [] → (kept ≡ false) × (xs ≡ [])
not_kept true x xs e = absurd (cc)
not_kept false x xs e = (refl, e)

-- where each pass from a number on made nothing, each entry is of one below it
pub all_below : (count : ℕ) (book : List BookEntry) → ((number : ℕ) → count ≤ number → own by number book ≡ []) → (k : ℕ) (d : BookEntry) → k < length book → by (get_or book k d) < count
all_below count [] none k d less = absurd (omega (arith, less))
all_below count (e ∷ book) none zero d less = elim (cases_lt (by e) count) [
  | inl below ↦ below
  | inr more ↦ absurd (both_ways (by e == by e) (not_kept (by e == by e) e (own by (by e) book) (none (by e) more)).0 (eq-eqb (by e) (by e) refl))
]
all_below count (e ∷ book) none (suc k) d less =
    all_below count book (λ number more. (not_kept (by e == number) e (own by number book) (none number more)).1) k d (omega (arith, less))

-- where no pass made anything, there is no entry
pub none_made : (book : List BookEntry) → ((number : ℕ) → own by number book ≡ []) → book ≡ []
none_made [] none = refl
none_made (e ∷ book) none = absurd (both_ways (by e == by e) (not_kept (by e == by e) e (own by (by e) book) (none (by e))).0 (eq-eqb (by e) (by e) refl))

-- ---- passes that came back from serving

-- one of a list that has some
some_of : {A : Type 0} (xs : List A) (k : ℕ) → k < length xs → A
some_of [] k less = absurd (omega (arith, less))
some_of (x ∷ xs) k less = x

module _ {L D N : Type 0} {d : DiskGhosts D} {n : EntropyGhosts N} (g : LinkGhosts L) (shared : Shared D N d n) (shows : Reading → Type 0) (leaves : L → Option L → Type 0) where
  called : (number : ℕ) (a : Pass N n) (act : Act) (reply : Reply) (b : Pass N n) → number_of a ≡ number → IsAnswered shared shows a act reply b
      → IsCalled shows number (front_of a) act reply (front_of b) × (number_of b ≡ number)
  called number a act reply b same is = (
    (is.reading, is.served, is.shown, is.reply_is, subst (λ (m : ℕ). ∥ IsCall m is.reading act (front_of a) (front_of b) is.served ∥₁) same is.call),
    is.number ∙ same,
  )

  visits_called : (number : ℕ) (a b : Pass N n) (links : List L) → number_of a ≡ number → ByLinks g (IsAnswered shared shows) leaves a links b → ByLinks g (IsCalled shows number) leaves (front_of a) links (front_of b)
  visits_called number a b links same visited =
      (visited_seen front_of (IsAnswered shared shows) (IsCalled shows number) (λ (p : Pass N n). number_of p ≡ number) (called number) g leaves a b links same visited).0

  -- each pass made what its connections had it do
  pub has_worked : (arrivals : List (Arrival L)) (old new : List (Pass N n)) (book : List BookEntry) → PassesServed g shared shows leaves arrivals old new → AreNumbered old → All IsNew old → All (λ (p : Pass N n). IsPrefix (front_of p) book) new
      → All (λ (p : Pass N n). own by (number_of p) book ≡ own by (number_of p) (front_of p)) new → (number : ℕ) → number < length old → HasWorked g shows leaves number (links_of (taken_by number arrivals)) book
  has_worked arrivals old new book served numbered fresh fronts owned number less =
      let count = served.count in
      let within : number < length new = omega (arith, less, count) in
      let p : Pass N n = some_of old number less in
      let first : Pass N n = get_or old number p in
      let last : Pass N n = get_or new number p in
      let is = served.each number p p less in
      let first_is : number_of first ≡ number = numbered number p less in
      let last_is : number_of last ≡ number = is.number ∙ first_is in
      let links = links_of (taken_by number arrivals) in
      let visits : ByLinks g (IsCalled shows number) leaves (front_of first) links (front_of last) = visits_called number first last links first_is is.visits in
      record {
        front = front_of last;
        visits = subst (λ (f : List BookEntry). ByLinks g (IsCalled shows number) leaves f links (front_of last)) (fresh number p less).0 visits;
        begins = record {
          begins = fronts number p within;
          owned = subst (λ (m : ℕ). own by m (front_of last) ≡ own by m book) last_is (sym (owned number p within));
        };
      }

-- where the passes came back as new as they went, there is no entry
pub unserved_empty : {N : Type 0} {n : EntropyGhosts N} (count : ℕ) (passes back : List (Pass N n)) (book : List BookEntry) → back ≡ passes → length passes ≡ count → AreNumbered passes → All IsNew passes
    → All (λ (p : Pass N n). own by (number_of p) book ≡ own by (number_of p) (front_of p)) back → ((number : ℕ) → count ≤ number → own by number book ≡ []) → book ≡ []
unserved_empty {N} {n} count passes back book same long numbered fresh owned none = none_made book (λ number. by_place number) where
  by_place : (number : ℕ) → own by number book ≡ []
  by_place number = elim (cases_lt number count) [
    | inl less ↦
        let within : number < length passes = omega (arith, less, long) in
        let p : Pass N n = some_of passes number within in
        let here : All (λ (q : Pass N n). own by (number_of q) book ≡ own by (number_of q) (front_of q)) passes =
        subst (λ (ps : List (Pass N n)). All (λ (q : Pass N n). own by (number_of q) book ≡ own by (number_of q) (front_of q)) ps) same owned in
        let made : own by number book ≡ own by number (front_of (get_or passes number p)) =
        subst (λ (m : ℕ). own by m book ≡ own by m (front_of (get_or passes number p))) (numbered number p within) (here number p within) in
        made ∙ ap (λ (f : List BookEntry). own by number f) (fresh number p within).0
    | inr more ↦ none number more
  ]
