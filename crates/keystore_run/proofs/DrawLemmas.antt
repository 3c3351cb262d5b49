-- What a history drew, part by part.
use Rattle.std.proofs.Common.{◌≡◌, ℕ, ◌+◌, ◌-◌, ◌^◌, ◌<◌, ◌≤◌, inl, inr, Bool, true, false, if◌then◌else◌, List, [], ◌++◌, Option, None, Some, refl, sym, ap, ◌∙◌, subst, arith, append-nil, append_assoc, ◌||◌, ◌&&◌}
use Rattle.ks_outside.proofs.DrawLaws.{Draws-nil, Draws-trans}
use Rattle.ks_outside.proofs.Shown.{drew_on as drew_on_drew}
use Rattle.ks_outside.specs.Faults.{Rises}
use Rattle.ks_outside.specs.Shown.{Drew}
use Rattle.ks_outside.specs.declared.entropy.Entropy.{Ghosts}
use Rattle.tags.specs.declared.settled.Settled.{Settled}
use Rattle.rule_model.specs.declared.event.Event.{Event}
use Rattle.rule_model.specs.declared.reply.Reply.{Reply}
use Rattle.rule_model.specs.Drawn.{drawn_of, is_entropy_fault, undrawn_of}
use Rattle.rule_model.specs.Entries.{History, after_settling, after_step}
use Rattle.keystore_run.specs.Drawn.{DrewAll, DrewMore}

settled_drawn : (settled : Option Settled) (past : History) → drawn_of (after_settling settled past) ≡ drawn_of past
settled_drawn None past = refl
settled_drawn (Some settled) past = append-nil (drawn_of past)

settled_undrawn : (settled : Option Settled) (past : History) → undrawn_of (after_settling settled past) ≡ undrawn_of past
settled_undrawn None past = refl
settled_undrawn (Some settled) past = refl

-- so many faults and one more where a call failed
pub counted : (failed : Bool) (n m a b c : ℕ) → (b < 2 ^ 64 - 1 → n + a ≤ b) → m ≡ (if failed then n + 1 else n) → b ≤ c → (failed ≡ true → Rises b c) → c < 2 ^ 64 - 1 → m + a ≤ c
counted true n m a b c so is later rises few =
    elim (rises refl) [ inl rose ↦ omega (arith, so (omega (arith, rose, few)), is, rose) | inr most ↦ absurd (omega (arith, most.0, most.1, few)) ]
counted false n m a b c so is later rises few = omega (arith, so (omega (arith, later, few)), is, later)

pub unchanged : (failed : Bool) (n m a b c : ℕ) → (n ≡ 0 → b ≡ a) → m ≡ (if failed then n + 1 else n) → (failed ≡ false → c ≡ b) → m ≡ 0 → c ≡ a
unchanged true n m a b c so is same e = absurd (omega (arith, is, e))
unchanged false n m a b c so is same e = same refl ∙ so (sym is ∙ e)

-- what two steps add to it, of which the first had no draw that failed
pub undrawn_step : (past : History) (settled : Option Settled) (event : Event) (drawn : List ℕ) (reply : Reply)
    → undrawn_of (after_step settled event drawn reply past) ≡ (if is_entropy_fault reply then undrawn_of past + 1 else undrawn_of past)
undrawn_step past settled event drawn reply = ap (λ n. if is_entropy_fault reply then n + 1 else n) (settled_undrawn settled past)

pub undrawn_both : (past : History) (settled : Option Settled) (event next : Event) (drawn more : List ℕ) (reply left : Reply) → is_entropy_fault reply ≡ false
    → undrawn_of (after_step None next more left (after_step settled event drawn reply past)) ≡ (if is_entropy_fault left then undrawn_of past + 1 else undrawn_of past)
undrawn_both past settled event next drawn more reply left fine =
    ap (λ n. if is_entropy_fault left then n + 1 else n) (ap (λ failed. if failed then undrawn_of (after_settling settled past) + 1 else undrawn_of (after_settling settled past)) fine ∙ settled_undrawn settled past)

-- at most one more of two counts, where they do not both rise
pub one_more : (first second : Bool) (n m a b : ℕ) → (first && second) ≡ false → n ≡ (if first then a + 1 else a) → m ≡ (if second then b + 1 else b) → n + m ≤ a + b + 1
one_more true true n m a b fine e f = absurd (let no = fine in cc)
one_more true false n m a b fine e f = omega (arith, e, f)
one_more false true n m a b fine e f = omega (arith, e, f)
one_more false false n m a b fine e f = omega (arith, e, f)

module _ {N : Type 0} (g : Ghosts N) where
  -- the history without entries drew nothing
  pub drew_none : (entropy : N) → DrewAll g entropy entropy []
  drew_none entropy = record { bytes = Draws-nil (g.content entropy); faults = λ few. omega arith; none = λ e. refl; later = omega arith }

  -- a history stayed, and nothing was drawn
  pub drew_nothing : (old new : N) (past : History) → Drew g old new [] false → DrewMore g old new past past
  drew_nothing old new past none = record { drawn = []; failed = false; added = sym (append-nil (drawn_of past)); drew = none; undrawn = refl }

  -- a history went on by a step
  pub drew_step : (old new : N) (past : History) (settled : Option Settled) (event : Event) (drawn : List ℕ) (reply : Reply)
      → Drew g old new drawn (is_entropy_fault reply) → DrewMore g old new past (after_step settled event drawn reply past)
  drew_step old new past settled event drawn reply drew = record {
    drawn = drawn;
    failed = is_entropy_fault reply;
    added = ap (λ bytes. bytes ++ drawn) (settled_drawn settled past);
    drew = drew;
    undrawn = undrawn_step past settled event drawn reply;
  }

  -- a history went on by two steps, of which the first had no draw that failed
  pub drew_both : (old mid new : N) (past : History) (settled : Option Settled) (event next : Event) (drawn more : List ℕ) (reply left : Reply)
      → is_entropy_fault reply ≡ false → Drew g old mid drawn (is_entropy_fault reply) → Drew g mid new more (is_entropy_fault left)
      → DrewMore g old new past (after_step None next more left (after_step settled event drawn reply past))
  drew_both old mid new past settled event next drawn more reply left fine first second = record {
    drawn = drawn ++ more;
    failed = is_entropy_fault left;
    added = ap (λ bytes. (bytes ++ drawn) ++ more) (settled_drawn settled past) ∙ append_assoc (drawn_of past) drawn more;
    drew = subst (λ failed. Drew g old new (drawn ++ more) (failed || is_entropy_fault left)) fine (drew_on_drew g old mid new drawn more _ _ first second);
    undrawn = undrawn_both past settled event next drawn more reply left fine;
  }

  -- a part after another
  pub drew_on : (a b c : N) (past later : History) → DrewAll g a b past → DrewMore g b c past later → DrewAll g a c later
  drew_on a b c past later drew more = record {
    bytes = rw more.added (Draws-trans (g.content a) (g.content b) (g.content c) (drawn_of past) more.drawn drew.bytes more.drew.bytes);
    faults = counted more.failed (undrawn_of past) (undrawn_of later) (g.fault_count a) (g.fault_count b) (g.fault_count c) drew.faults more.undrawn more.drew.faults.later more.drew.faults.rises;
    none = unchanged more.failed (undrawn_of past) (undrawn_of later) (g.fault_count a) (g.fault_count b) (g.fault_count c) drew.none more.undrawn more.drew.faults.same;
    later = omega (arith, drew.later, more.drew.faults.later);
  }
