-- What a link and a listener show between two moments, in turn: two parts join into one, and nothing was shown where nothing was called.
use Rattle.std.proofs.Common.{◌≡◌, inl, inr, ◌⊎◌, ℕ, zero, suc, ◌+◌, ◌-◌, ◌^◌, List, [], ◌++◌, Bool, true, false, ◌||◌, Option, Some, None, Ok, Err, refl, ap, ◌∙◌, arith, take}
use Rattle.std.specs.Io.KnownBytes.{Keeps, Consumes, Appends, ReadConsumes, WriteAppends}
use Rattle.std.proofs.KnownBytes.{Appends-nil, Appends-trans, Appends-kept, Consumes-nil, Consumes-trans, Consumes-kept}
use Rattle.std.proofs.lemmas.Bool.{cases_lt}
use Rattle.std.specs.Prelude.{min}
use Rattle.ks_outside.specs.Faults.{HasCause, CountsFaults, one_more}
use Rattle.ks_outside.specs.Listening.{given_after, ended_after, raised}
use Rattle.ks_outside.specs.Carried.{Carried, Listened}
use Rattle.ks_outside.specs.declared.link.Link.{Ghosts as LinkGhosts}
use Rattle.ks_outside.specs.declared.listener.Listener.{Ghosts as ListenerGhosts}
use Rattle.ks_outside.proofs.Shown.{counts_none, counts_call, counts_on}

-- what a direction shows that a call left alone
none_taken : (a b : Option (List ℕ)) → Keeps a b → Consumes a b []
none_taken a b kept = Consumes-kept a a b [] (Consumes-nil a) kept

none_written : (a b : Option (List ℕ)) → Keeps a b → Appends a b []
none_written a b kept = Appends-kept a a b [] (Appends-nil a) kept

counts_same : (before now : ℕ) → now ≡ before → CountsFaults before now false
counts_same before now same = record { later = omega (arith, same); rises = λ (e : ◌≡◌ {A = Bool} false true). absurd (cc); same = λ e. same }

module _ {L : Type 0} (g : LinkGhosts L) where
  pub carried_none : (link : L) → Carried g link link [] [] false
  carried_none link = record { incoming = Consumes-nil (g.incoming link); outgoing = Appends-nil (g.outgoing link); faults = counts_none (g.fault_count link) }

  -- one read
  pub carried_read_ok : {E : Type 0} (old new : L) (n : ℕ) (out : List ℕ) → ReadConsumes {E = E} (g.incoming old) (g.incoming new) (Ok n) out
      → Keeps (g.outgoing old) (g.outgoing new) → HasCause {T = ℕ} {E = E} (g.fault_count old) (g.fault_count new) (Ok n) → Carried g old new (take n out) [] false
  carried_read_ok old new n out bytes other cause = record { incoming = bytes.0; outgoing = none_written _ _ other; faults = counts_call _ _ (Ok n) cause }

  pub carried_read_err : {E : Type 0} (old new : L) (out : List ℕ) (e : E) → ReadConsumes {E = E} (g.incoming old) (g.incoming new) (Err e) out
      → Keeps (g.outgoing old) (g.outgoing new) → HasCause {T = ℕ} {E = E} (g.fault_count old) (g.fault_count new) (Err e) → Carried g old new [] [] true
  carried_read_err old new out e kept other cause = record { incoming = none_taken _ _ kept; outgoing = none_written _ _ other; faults = counts_call _ _ (Err e) cause }

  -- one write
  pub carried_write_ok : {E : Type 0} (old new : L) (n : ℕ) (piece : List ℕ) → WriteAppends {E = E} (g.outgoing old) (g.outgoing new) (Ok n) piece
      → Keeps (g.incoming old) (g.incoming new) → HasCause {T = ℕ} {E = E} (g.fault_count old) (g.fault_count new) (Ok n) → Carried g old new [] (take n piece) false
  carried_write_ok old new n piece bytes other cause = record { incoming = none_taken _ _ other; outgoing = bytes; faults = counts_call _ _ (Ok n) cause }

  pub carried_write_err : {E : Type 0} (old new : L) (piece : List ℕ) (e : E) → WriteAppends {E = E} (g.outgoing old) (g.outgoing new) (Err e) piece
      → Keeps (g.incoming old) (g.incoming new) → HasCause {T = ℕ} {E = E} (g.fault_count old) (g.fault_count new) (Err e) → Carried g old new [] [] true
  carried_write_err old new piece e kept other cause = record { incoming = none_taken _ _ other; outgoing = none_written _ _ kept; faults = counts_call _ _ (Err e) cause }

  pub carried_on : (a b c : L) (taken more written later : List ℕ) (failed then : Bool) → Carried g a b taken written failed → Carried g b c more later then
      → Carried g a c (taken ++ more) (written ++ later) (failed || then)
  carried_on a b c taken more written later failed then p q = record {
    incoming = Consumes-trans (g.incoming a) (g.incoming b) (g.incoming c) taken more p.incoming q.incoming;
    outgoing = Appends-trans (g.outgoing a) (g.outgoing b) (g.outgoing c) written later p.outgoing q.outgoing;
    faults = counts_on (g.fault_count a) (g.fault_count b) (g.fault_count c) failed then p.faults q.faults;
  }

pub raised_on : (m n count : ℕ) → raised n (raised m count) ≡ raised (m + n) count
raised_on zero n count = let same : n ≡ 0 + n = omega arith in ap (λ (k : ℕ). raised k count) same
raised_on (suc m) n count = let same : suc (m + n) ≡ suc m + n = omega arith in raised_on m n (one_more count) ∙ ap (λ (k : ℕ). raised k count) same

raised_more : (n count : ℕ) → raised (suc n) count ≡ min (count + suc n) (2 ^ 64 - 1)
raised_more zero count = omega arith
raised_more (suc n) count = let next = raised_more n (one_more count) in omega (arith, next)

-- a number that rose so often is as much greater, or stands at its greatest value
pub raised_is : (n count : ℕ) → (raised n count ≡ count + n) ⊎ (raised n count ≡ 2 ^ 64 - 1)
raised_is zero count = inl (omega arith)
raised_is (suc n) count =
    let more = raised_more n count in
    elim (cases_lt (count + suc n) (2 ^ 64 - 1)) [
      | inl fits ↦ inl (omega (arith, more, fits))
      | inr past ↦ inr (omega (arith, more, past))
    ]

module _ {B L : Type 0} (g : ListenerGhosts B L) where
  pub listened_none : (listener : B) → Listened g listener listener 0 0 false
  listened_none listener = record { given = refl; ended = refl; faults = counts_none (g.fault_count listener) }

  -- one answer
  pub listened_given : {E : Type 0} (old new : B) (link : L) → g.given new ≡ given_after {E = E} (Ok (Some link)) (g.given old)
      → g.ended new ≡ ended_after {E = E} (Ok (Some link)) (g.ended old) → HasCause {T = Option L} {E = E} (g.fault_count old) (g.fault_count new) (Ok (Some link))
      → Listened g old new 1 0 false
  listened_given old new link gives ends cause = record { given = gives; ended = ends; faults = counts_call _ _ (Ok (Some link)) cause }

  pub listened_ended : {E : Type 0} (old new : B) → g.given new ≡ given_after {L = L} {E = E} (Ok None) (g.given old)
      → g.ended new ≡ ended_after {L = L} {E = E} (Ok None) (g.ended old) → HasCause {T = Option L} {E = E} (g.fault_count old) (g.fault_count new) (Ok None)
      → Listened g old new 0 1 false
  listened_ended old new gives ends cause = record { given = gives; ended = ends; faults = counts_call {T = Option L} _ _ (Ok None) cause }

  pub listened_err : {E : Type 0} (old new : B) (e : E) → g.given new ≡ given_after {L = L} (Err e) (g.given old) → g.ended new ≡ ended_after {L = L} (Err e) (g.ended old)
      → HasCause {T = Option L} (g.fault_count old) (g.fault_count new) (Err e) → Listened g old new 0 0 true
  listened_err old new e gives ends cause = record { given = gives; ended = ends; faults = counts_call {T = Option L} _ _ (Err e) cause }

  -- a link handed back
  pub listened_done : (old new : B) → g.given new ≡ g.given old → g.ended new ≡ g.ended old → g.fault_count new ≡ g.fault_count old → Listened g old new 0 0 false
  listened_done old new gives ends same = record { given = gives; ended = ends; faults = counts_same (g.fault_count old) (g.fault_count new) same }

  pub listened_on : (a b c : B) (links more ends later : ℕ) (failed then : Bool) → Listened g a b links ends failed → Listened g b c more later then
      → Listened g a c (links + more) (ends + later) (failed || then)
  listened_on a b c links more ends later failed then p q = record {
    given = q.given ∙ ap (λ (n : ℕ). raised more n) p.given ∙ raised_on links more (g.given a);
    ended = q.ended ∙ ap (λ (n : ℕ). raised later n) p.ended ∙ raised_on ends later (g.ended a);
    faults = counts_on (g.fault_count a) (g.fault_count b) (g.fault_count c) failed then p.faults q.faults;
  }
