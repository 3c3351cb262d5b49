-- Workers that have served, one round behind another.
use Rattle.std.proofs.Common.{◌≡◌, ◌≢◌, inl, inr, ◌<◌, ◌≤◌, ℕ, zero, suc, ◌+◌, Bool, true, false, cond, eqb, List, [], ◌∷◌, ◌++◌, length, get_or, set, Option, Some, refl, sym, ap, subst, ◌∙◌, arith, append-nil, get_or-set_same, get_or-set_other, length-set, ne_eqb}
use Rattle.std.proofs.lemmas.Bool.{cases_eq, cases_lt}
use Rattle.std.proofs.lemmas.Grind.{get_or-set_at}
use Rattle.std.proofs.lemmas.List.{get_or_default, map-append}
use Rattle.std.proofs.lemmas.List.Elements.{filter-append}
use Rattle.ks_outside.specs.declared.link.Link.{Ghosts as LinkGhosts}
use Rattle.ks_outside.specs.declared.listener.Listener.{Ghosts as ListenerGhosts}
use Rattle.rule_model.specs.declared.event.Act.{Act}
use Rattle.rule_model.specs.declared.reply.Reply.{Reply}
use Rattle.turn_lock.specs.Fronts.{AllMade}
use Rattle.turn_lock.specs.Passes.{IsPassOf, Took, front, made_before, number_of}
use Rattle.turn_lock.proofs.Prefixes.{own_append}
use Rattle.connection_workers.specs.Arrivals.{links_of, taken_by, worker_of}
use Rattle.connection_workers.specs.Workers.{AllFree, AllOurs, AllServed, AllTookIn, AllTurned, AreKept, AreServed, ByLinks, HasFinished, HasGone, HasServed, HasTaken, HasTurned, IsAttended, IntakeClosing, IntakeLock, IntakePass, IsFree, IsLetIn, SameAnswerers, answerer_of, own_of, pass_of}
use Rattle.connection_workers.specs.declared.intake.Arrival.{Arrival}
use Rattle.connection_workers.specs.declared.serving.Attendance.TheVariants.{Memory}
use Rattle.connection_workers.specs.declared.worker.Worker.{Worker}
use Rattle.connection_workers.proofs.Visiting.{links_on, no_link}

pub some_same : {A : Type 0} (o : Option A) (x y : A) → o ≡ Some x → o ≡ Some y → x ≡ y
some_same o x y p q = let both : Some x ≡ Some y = sym p ∙ q in cc

-- nothing was taken from a listener
pub none_attended : {B L : Type 0} (b : ListenerGhosts B L) (connections : ℕ) (listener : B) → IsAttended b connections 0 listener listener Memory
none_attended b connections listener = record {
  ends = 0;
  listened = record { given = refl; ended = refl; faults = record { later = omega arith; rises = λ (e : false ≡ true). absurd (cc); same = λ _. refl } };
  attends = (refl, refl);
  most = omega arith;
}

-- ---- what a worker took

-- where another took more, it took what it had
none_of : {L : Type 0} (number other : ℕ) (more : List (Arrival L)) → other ≢ number → AllMade worker_of other more → taken_by number more ≡ []
none_of number other [] apart made = refl
none_of number other (x ∷ xs) apart made =
    let not : x.worker ≢ number = λ (e : x.worker ≡ number). apart (sym made.0 ∙ e) in
    ap (λ (b : Bool). cond b (x ∷ taken_by number xs) (taken_by number xs)) (ne_eqb x.worker number not) ∙ none_of number other xs apart made.1

taken_still : {L : Type 0} (number other : ℕ) (was more : List (Arrival L)) → other ≢ number → AllMade worker_of other more → taken_by number (was ++ more) ≡ taken_by number was
taken_still number other was more apart made =
    filter-append (λ e. eqb (worker_of e) number) was more ∙ (ap (λ (l : List (Arrival _)). taken_by number was ++ l) (none_of number other more apart made) ∙ append-nil (taken_by number was))

module _ {L B A : Type 0} (g : LinkGhosts L) (answers : A → Act → Reply → A → Type 0) (leaves : L → Option L → Type 0) (connected : A → Bool) where
  served_same : (w : Worker B L A) → IsFree connected w → HasServed g answers leaves connected [] w w
  served_same w free = λ before is.
      let same : free.0 ≡ before = some_same (answerer_of w) free.0 before free.1 is in
      (before, is, no_link g answers leaves before, subst (λ (a : A). connected a ≡ false) same free.2)

  free_after : (links : List L) (u v : Worker B L A) → IsFree connected u → HasServed g answers leaves connected links u v → IsFree connected v
  free_after links u v free served = let a = served free.0 free.1 in (a.0, a.1, a.3)

  pub all_same : (ws : List (Worker B L A)) → AllFree connected ws → AllServed g answers leaves connected [] ws ws
  all_same ws free = λ k d less. served_same (get_or ws k d) (free k d less)

  -- where there was no memory, nobody took any
  pub none_served : (b : ListenerGhosts B L) (connections : ℕ) (listener later : B) (ws : List (Worker B L A)) → later ≡ listener → AllFree connected ws
      → AreServed b g answers leaves connected connections listener later Memory ws ws
  none_served b connections listener later ws same free = subst (λ (l : B). AreServed b g answers leaves connected connections listener l Memory ws ws) (sym same) (record {
    arrivals = [];
    attended = none_attended b connections listener;
    served = all_same ws free;
    others = λ number past. refl;
  })

  -- its pass was of this number, and had taken nothing
  pub turned : (lock : IntakeLock B L) (number : ℕ) (old new : Worker B L A) (pass next : IntakePass B L) (before now : A) → IsLetIn lock number old → pass_of old ≡ Some pass → answerer_of old ≡ Some before
      → pass_of new ≡ Some next → answerer_of new ≡ Some now → IsPassOf lock next → number_of next ≡ number_of pass → HasTaken g answers leaves (number_of pass) (own_of pass) (own_of next) before now
      → connected now ≡ false → HasTurned lock g answers leaves connected number old new
  turned lock number old new pass next before now is has asked got told ours same taken gone =
      let one : is.0 ≡ pass = some_same (pass_of old) is.0 pass is.1 has in
      let none : own_of pass ≡ [] = ap (λ (p : IntakePass B L). own_of p) (sym one) ∙ ap (λ (f : List (Arrival L)). taken_by (number_of is.0) f) is.4 in
      let all : own_of next ≡ taken.more = taken.grown ∙ ap (λ (l : List (Arrival L)). l ++ taken.more) none in
      record {
        pass = next;
        pass_is = got;
        ours = ours;
        number_is = same ∙ (ap (λ (p : IntakePass B L). number_of p) (sym one) ∙ is.3);
        served = λ other known.
            let who : before ≡ other = some_same (answerer_of old) before other asked known in
            (now, told, subst (λ (p : A × List (Arrival L)). ByLinks g answers leaves p.0 (links_of p.1) now) (λ i. (who i, sym all i)) taken.served, gone);
      }

  pub all_ours : (lock : IntakeLock B L) (us vs : List (Worker B L A)) → length vs ≡ length us → AllTurned lock g answers leaves connected us vs → AllOurs lock vs
  all_ours lock us vs long turns = λ k d less.
      let t = turns k d (omega (arith, less, long)) in
      (t.pass, t.pass_is, t.ours)

  -- those whose answerers stayed
  pub free_still : (us vs : List (Worker B L A)) → SameAnswerers us vs → AllFree connected us → AllFree connected vs
  free_still us vs same free = λ k d less.
      let before : k < length us = omega (arith, less, same.count) in
      let it = free k d before in
      (it.0, same.same k d before ∙ it.1, it.2)

  pub free_turned : (lock : IntakeLock B L) (us vs : List (Worker B L A)) → length vs ≡ length us → AllFree connected us → AllTurned lock g answers leaves connected us vs → AllFree connected vs
  free_turned lock us vs long free turns = λ k d less.
      let before : k < length us = omega (arith, less, long) in
      let t = turns k d before in
      free_after (links_of (own_of t.pass)) (get_or us k d) (get_or vs k d) (free k d before) t.served

  -- What the workers `ts` had taken by the end: each had a pass by which it turned (`vs`), the passes were taken in (`ws`), and the first of
  -- them took the rest (`xs`).
  module _ (lock : IntakeLock B L) (closing : IntakeClosing B L) (was now : List (Arrival L)) (ts us vs ws xs : List (Worker B L A)) (first : SameAnswerers ts us) (long : length vs ≡ length us)
      (turns : AllTurned lock g answers leaves connected us vs) (took : AllTookIn closing vs) (then : SameAnswerers vs ws) (kept : AreKept closing was) (free : AllFree connected ws) (end : HasFinished g answers leaves connected was now ws xs) where
    at_turn : (k : ℕ) (d : Worker B L A) → k < length ts → HasServed g answers leaves connected (links_of (taken_by k was)) (get_or ts k d) (get_or ws k d)
    at_turn k d less = λ before is.
        let here : k < length us = omega (arith, less, first.count) in
        let there : k < length vs = omega (arith, here, long) in
        let t = turns k d here in
        let mine : taken_by k was ≡ own_of t.pass = subst (λ (m : ℕ). taken_by m was ≡ own_of t.pass) t.number_is (kept.own t.pass (took k d there t.pass t.pass_is)) in
        let a = t.served before (first.same k d less ∙ is) in
        (a.0, then.same k d there ∙ a.1, subst (λ (l : List (Arrival L)). ByLinks g answers leaves before (links_of l) a.0) (sym mine) a.2, a.3)

    pub all_served : 0 < length ts → AllServed g answers leaves connected now ts xs
    all_served some = λ k d less. by_place k d less where
      by_place : (k : ℕ) (d : Worker B L A) → k < length ts → HasServed g answers leaves connected (links_of (taken_by k now)) (get_or ts k d) (get_or xs k d)
      by_place zero d less = λ before is.
          let a = at_turn 0 d less before is in
          let b = end.first d a.0 a.1 in
          let grown : taken_by 0 now ≡ taken_by 0 was ++ end.more = ap (λ (l : List (Arrival L)). taken_by 0 l) end.grown ∙ own_append worker_of 0 was end.more end.made in
          let same : links_of (taken_by 0 was) ++ links_of end.more ≡ links_of (taken_by 0 now) =
          sym (map-append (λ (x : Arrival L). x.link.value) (taken_by 0 was) end.more) ∙ ap (λ (l : List (Arrival L)). links_of l) (sym grown) in
          (b.0, b.1, subst (λ (l : List L). ByLinks g answers leaves before l b.0) same (links_on g answers leaves before a.0 b.0 (links_of (taken_by 0 was)) (links_of end.more) a.2 b.2), b.3)
      by_place (suc k) d less = λ before is.
          let a = at_turn (suc k) d less before is in
          let same : taken_by (suc k) was ≡ taken_by (suc k) now =
          sym (ap (λ (l : List (Arrival L)). taken_by (suc k) l) end.grown ∙ taken_still (suc k) 0 was end.more (λ (e : 0 ≡ suc k). absurd (omega (arith, e))) end.made) in (
            a.0,
            ap (λ (w : Worker B L A). answerer_of w) (end.others (suc k) d (omega arith)) ∙ a.1,
            subst (λ (l : List (Arrival L)). ByLinks g answers leaves before (links_of l) a.0) same a.2,
            a.3,
          )

    -- no pass of another number took any: there is one more, by which the lock was ended
    pub none_else : (own : IntakePass B L) → Took closing own → number_of own ≡ length ts → front own ≡ [] → made_before closing ≡ length ts + 1 → 0 < length ts → (number : ℕ) → length ts ≤ number → taken_by number now ≡ []
    none_else own inside number_is new made some number past =
        ap (λ (l : List (Arrival L)). taken_by number l) end.grown ∙ (taken_still number 0 was end.more (λ (e : 0 ≡ number). absurd (omega (arith, e, past, some))) end.made ∙ before) where
          above : (number : ℕ) → length ts ≤ number → number ≢ length ts → made_before closing ≤ number
          above number past other = elim (cases_lt (length ts) number) [
            | inl more ↦ omega (arith, more, made)
            | inr least ↦ let same : number ≡ length ts = omega (arith, past, least) in absurd (other same)
          ]

          before : taken_by number was ≡ []
          before = elim (cases_eq number (length ts)) [
            | inl same ↦
                let mine : taken_by (number_of own) was ≡ [] = kept.own own inside ∙ ap (λ (f : List (Arrival L)). taken_by (number_of own) f) new in
                subst (λ (m : ℕ). taken_by m was ≡ []) (number_is ∙ sym same) mine
            | inr other ↦ kept.others number (above number past other)
          ]

  -- the first of them took the rest alone
  pub finished_of : (was now : List (Arrival L)) (ws : List (Worker B L A)) (x w : Worker B L A) → 0 < length ws → AllFree connected ws → HasGone g answers leaves connected 0 was now (get_or ws 0 x) w
      → HasFinished g answers leaves connected was now ws (set ws 0 w)
  finished_of was now ws x w some free goes =
      let f = free 0 x some in
      let gone = goes f.0 f.1 in
      record {
        count = length-set ws 0 w;
        more = gone.2.more;
        grown = gone.2.grown;
        made = gone.2.made;
        first = λ d before is.
            let same : get_or ws 0 x ≡ get_or ws 0 d = get_or_default ws 0 x d some in
            let who : f.0 ≡ before = some_same (answerer_of (get_or ws 0 x)) f.0 before f.1 (ap (λ (v : Worker B L A). answerer_of v) same ∙ is) in
            let here : get_or (set ws 0 w) 0 d ≡ w = get_or-set_same ws 0 w d some in (
              gone.0,
              ap (λ (v : Worker B L A). answerer_of v) here ∙ gone.1,
              subst (λ (a : A). ByLinks g answers leaves a (links_of gone.2.more) gone.0) who gone.2.served,
              gone.3,
            );
        others = λ k d more. get_or-set_other ws 0 k w d (λ (e : k ≡ 0). absurd (omega (arith, e, more)));
      }

-- ---- passes that are given and taken back, one worker after another

module _ {L B A : Type 0} (ws : List (Worker B L A)) (place : ℕ) (w : Worker B L A) (less : place < length ws) where
  below : (k : ℕ) → k < place + 1 → k ≢ place → k < place
  below k small other = elim (cases_lt k place) [
    | inl it ↦ it
    | inr past ↦ let same : k ≡ place = omega (arith, small, past) in absurd (other same)
  ]

  pub let_in_more : (lock : IntakeLock B L) → IsLetIn lock place w → ((k : ℕ) (d : Worker B L A) → k < place → IsLetIn lock k (get_or ws k d)) → (k : ℕ) (d : Worker B L A) → k < place + 1
      → IsLetIn lock k (get_or (set ws place w) k d)
  let_in_more lock one before = λ k d small.
      elim (cases_eq k place) [
        | inl same ↦ subst (λ (p : ℕ × Worker B L A). IsLetIn lock p.0 p.1) (λ i. (sym same i, sym (get_or-set_at ws place k w d same less) i)) one
        | inr other ↦ subst (λ (v : Worker B L A). IsLetIn lock k v) (sym (get_or-set_other ws place k w d other)) (before k d (below k small other))
      ]

  pub still_more : (us : List (Worker B L A)) (x : Worker B L A) → x ≡ get_or ws place x → answerer_of w ≡ answerer_of x
      → ((k : ℕ) (d : Worker B L A) → k < length us → answerer_of (get_or ws k d) ≡ answerer_of (get_or us k d)) → (k : ℕ) (d : Worker B L A) → k < length us
      → answerer_of (get_or (set ws place w) k d) ≡ answerer_of (get_or us k d)
  still_more us x read one before = λ k d small.
      elim (cases_eq k place) [
        | inl same ↦
            let here : x ≡ get_or ws k d = read ∙ get_or_default ws place x d less ∙ ap (λ (i : ℕ). get_or ws i d) (sym same) in
            ap (λ (v : Worker B L A). answerer_of v) (get_or-set_at ws place k w d same less) ∙ one ∙ ap (λ (v : Worker B L A). answerer_of v) here ∙ before k d small
        | inr other ↦ ap (λ (v : Worker B L A). answerer_of v) (get_or-set_other ws place k w d other) ∙ before k d small
      ]

  -- those behind it are as they were
  pub left_more : (us : List (Worker B L A)) → ((k : ℕ) (d : Worker B L A) → place ≤ k → pass_of (get_or ws k d) ≡ pass_of (get_or us k d)) → (k : ℕ) (d : Worker B L A) → place + 1 ≤ k
      → pass_of (get_or (set ws place w) k d) ≡ pass_of (get_or us k d)
  left_more us before = λ k d past.
      ap (λ (v : Worker B L A). pass_of v) (get_or-set_other ws place k w d (λ (e : k ≡ place). absurd (omega (arith, e, past)))) ∙ before k d (omega (arith, past))

  pub took_more : (us : List (Worker B L A)) (closing later : IntakeClosing B L) (pass : IntakePass B L) → ((d : Worker B L A) → pass_of (get_or us place d) ≡ Some pass) → Took later pass
      → ((other : IntakePass B L) → Took closing other → Took later other) → ((k : ℕ) (d : Worker B L A) → k < place → (other : IntakePass B L) → pass_of (get_or us k d) ≡ Some other → Took closing other)
      → (k : ℕ) (d : Worker B L A) → k < place + 1 → (other : IntakePass B L) → pass_of (get_or us k d) ≡ Some other → Took later other
  took_more us closing later pass here now kept before = λ k d small other is.
      elim (cases_eq k place) [
        | inl same ↦
            let one : pass ≡ other = some_same (pass_of (get_or us place d)) pass other (here d) (ap (λ (i : ℕ). pass_of (get_or us i d)) (sym same) ∙ is) in
            subst (λ (p : IntakePass B L). Took later p) one now
        | inr apart ↦ kept other (before k d (below k small apart) other is)
      ]
