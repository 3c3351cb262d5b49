-- What is shown between two moments, in turn: two parts join into one, and nothing was shown where nothing was called.
use Rattle.std.proofs.Common.{◌≡◌, inl, inr, ℕ, ◌≤◌, List, [], ◌++◌, Bool, true, false, ◌||◌, Result, Ok, Err, refl, ◌∙◌, arith, take}
use Rattle.std.specs.Prelude.{is_err}
use Rattle.std.proofs.lemmas.Bool.{cases_lt}
use Rattle.std.specs.Io.KnownBytes.{ReadConsumes, WriteAppends}
use Rattle.std.proofs.KnownBytes.{Appends-nil, Appends-trans, Appends-kept, Consumes-nil, Consumes-trans, Consumes-kept}
use Rattle.ks_outside.specs.Draws.{DrawGives}
use Rattle.ks_outside.specs.Faults.{Rises, HasCause, CountsFaults}
use Rattle.ks_outside.specs.Shown.{Took, Put, Drew}
use Rattle.ks_outside.specs.declared.source.Source.{Ghosts as SourceGhosts}
use Rattle.ks_outside.specs.declared.sink.Sink.{Ghosts as SinkGhosts}
use Rattle.ks_outside.specs.declared.entropy.Entropy.{Ghosts as EntropyGhosts}
use Rattle.ks_outside.proofs.DrawLaws.{Draws-nil, Draws-trans}

pub rises_on : (a b c : ℕ) → Rises a b → b ≤ c → Rises a c
rises_on a b c (inl rose) le = inl (omega (arith, rose, le))
rises_on a b c (inr stands) le = elim (cases_lt a c) [
  | inl rose ↦ inl rose
  | inr not_later ↦ inr (stands.0, omega (arith, not_later, le, stands.1))
]

pub rises_after : (a b c : ℕ) → a ≤ b → Rises b c → Rises a c
rises_after a b c le (inl rose) = inl (omega (arith, rose, le))
rises_after a b c le (inr stands) = elim (cases_lt a b) [
  | inl rose ↦ inl (omega (arith, rose, stands.1))
  | inr not_later ↦ inr (omega (arith, not_later, stands.0), omega (arith, not_later, le, stands.1))
]

pub counts_none : (n : ℕ) → CountsFaults n n false
counts_none n = record { later = omega arith; rises = λ (e : ◌≡◌ {A = Bool} false true). absurd (cc); same = λ e. refl }

-- one call
pub counts_call : {T E : Type 0} (before now : ℕ) (result : Result T E) → HasCause before now result → CountsFaults before now (is_err result)
counts_call before now (Ok x) cause = record { later = cause.later; rises = λ (e : ◌≡◌ {A = Bool} false true). absurd (cc); same = λ e. cause.same }
counts_call before now (Err e) cause = record { later = cause.later; rises = λ e. cause.rises; same = λ (e : ◌≡◌ {A = Bool} true false). absurd (cc) }

pub counts_on : (a b c : ℕ) (first second : Bool) → CountsFaults a b first → CountsFaults b c second → CountsFaults a c (first || second)
counts_on a b c true second p q = record {
  later = omega (arith, p.later, q.later);
  rises = λ e. rises_on a b c (p.rises refl) q.later;
  same = λ (e : ◌≡◌ {A = Bool} true false). absurd (cc);
}
counts_on a b c false second p q = record {
  later = omega (arith, p.later, q.later);
  rises = λ e. rises_after a b c p.later (q.rises e);
  same = λ e. q.same e ∙ p.same refl;
}

module _ {S : Type 0} (g : SourceGhosts S) where
  pub took_none : (source : S) → Took g source source [] false
  took_none source = record { bytes = Consumes-nil (g.content source); faults = counts_none (g.fault_count source) }

  -- one read
  pub took_ok : {E : Type 0} (old new : S) (n : ℕ) (out : List ℕ) → ReadConsumes {E = E} (g.content old) (g.content new) (Ok n) out
      → HasCause {T = ℕ} {E = E} (g.fault_count old) (g.fault_count new) (Ok n) → Took g old new (take n out) false
  took_ok old new n out bytes cause = record { bytes = bytes.0; faults = counts_call _ _ (Ok n) cause }

  pub took_err : {E : Type 0} (old new : S) (out : List ℕ) (e : E) → ReadConsumes {E = E} (g.content old) (g.content new) (Err e) out
      → HasCause {T = ℕ} {E = E} (g.fault_count old) (g.fault_count new) (Err e) → Took g old new [] true
  took_err old new out e kept cause = record {
    bytes = Consumes-kept (g.content old) (g.content old) (g.content new) [] (Consumes-nil (g.content old)) kept;
    faults = counts_call _ _ (Err e) cause;
  }

  pub took_on : (a b c : S) (first second : List ℕ) (failed then : Bool) → Took g a b first failed → Took g b c second then
      → Took g a c (first ++ second) (failed || then)
  took_on a b c first second failed then p q = record {
    bytes = Consumes-trans (g.content a) (g.content b) (g.content c) first second p.bytes q.bytes;
    faults = counts_on (g.fault_count a) (g.fault_count b) (g.fault_count c) failed then p.faults q.faults;
  }

module _ {K : Type 0} (g : SinkGhosts K) where
  pub put_none : (sink : K) → Put g sink sink [] false
  put_none sink = record { bytes = Appends-nil (g.content sink); faults = counts_none (g.fault_count sink) }

  -- one write
  pub put_ok : {E : Type 0} (old new : K) (n : ℕ) (piece : List ℕ) → WriteAppends {E = E} (g.content old) (g.content new) (Ok n) piece
      → HasCause {T = ℕ} {E = E} (g.fault_count old) (g.fault_count new) (Ok n) → Put g old new (take n piece) false
  put_ok old new n piece bytes cause = record { bytes = bytes; faults = counts_call _ _ (Ok n) cause }

  pub put_err : {E : Type 0} (old new : K) (piece : List ℕ) (e : E) → WriteAppends {E = E} (g.content old) (g.content new) (Err e) piece
      → HasCause {T = ℕ} {E = E} (g.fault_count old) (g.fault_count new) (Err e) → Put g old new [] true
  put_err old new piece e kept cause = record {
    bytes = Appends-kept (g.content old) (g.content old) (g.content new) [] (Appends-nil (g.content old)) kept;
    faults = counts_call _ _ (Err e) cause;
  }

  pub put_on : (a b c : K) (first second : List ℕ) (failed then : Bool) → Put g a b first failed → Put g b c second then
      → Put g a c (first ++ second) (failed || then)
  put_on a b c first second failed then p q = record {
    bytes = Appends-trans (g.content a) (g.content b) (g.content c) first second p.bytes q.bytes;
    faults = counts_on (g.fault_count a) (g.fault_count b) (g.fault_count c) failed then p.faults q.faults;
  }

module _ {N : Type 0} (g : EntropyGhosts N) where
  pub drew_none : (entropy : N) → Drew g entropy entropy [] false
  drew_none entropy = record { bytes = Draws-nil (g.content entropy); faults = counts_none (g.fault_count entropy) }

  -- one draw
  pub drew_ok : {T E : Type 0} (old new : N) (out : List ℕ) (x : T) → DrawGives {T = T} {E = E} (g.content old) (g.content new) (Ok x) out
      → HasCause {T = T} {E = E} (g.fault_count old) (g.fault_count new) (Ok x) → Drew g old new out false
  drew_ok old new out x bytes cause = record { bytes = bytes; faults = counts_call _ _ (Ok x) cause }

  pub drew_err : {T E : Type 0} (old new : N) (out : List ℕ) (e : E) → DrawGives {T = T} {E = E} (g.content old) (g.content new) (Err e) out
      → HasCause {T = T} {E = E} (g.fault_count old) (g.fault_count new) (Err e) → Drew g old new [] true
  drew_err old new out e bytes cause = record { bytes = bytes; faults = counts_call _ _ (Err e) cause }

  pub drew_on : (a b c : N) (first second : List ℕ) (failed then : Bool) → Drew g a b first failed → Drew g b c second then
      → Drew g a c (first ++ second) (failed || then)
  drew_on a b c first second failed then p q = record {
    bytes = Draws-trans (g.content a) (g.content b) (g.content c) first second p.bytes q.bytes;
    faults = counts_on (g.fault_count a) (g.fault_count b) (g.fault_count c) failed then p.faults q.faults;
  }
