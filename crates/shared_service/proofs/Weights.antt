-- The places of a book after a step.
use Rattle.std.proofs.Common.{◌≡◌, ℕ, ◌+◌, ◌≤◌, ◌&&◌, Bool, true, false, if◌then◌else◌, List, [], ◌∷◌, ◌++◌, length, Option, Some, None, is_some, length-append, refl, ap, ◌∙◌, arith}
use Rattle.std.specs.Prelude.{IsSome}
use Rattle.tags.specs.declared.settled.Settled.{Settled}
use Rattle.rule_model.specs.declared.entry.Entry.{Entry}
use Rattle.rule_model.specs.declared.entry.Entry.TheVariants.{Acted, Settling}
use Rattle.rule_model.specs.declared.event.Act.{Act}
use Rattle.rule_model.specs.declared.event.Act.TheVariants.{Connect, Disconnect, EnterAad, EnterUpdate, EnterFinish}
use Rattle.rule_model.specs.Acts.{is_connect, is_disconnect, is_enter, is_leave}
use Rattle.rule_model.specs.Entries.{admits, is_done}
use Rattle.service_book.specs.declared.entry.BookEntry.{BookEntry}
use Rattle.service_book.specs.Book.{Counts}
use Rattle.rule_model.specs.Acts.{need_of}
use Rattle.service_book.specs.Limits.{count, is_of}
use Rattle.shared_service.specs.Calls.{OneStep, entry_by, settling_by}
use Rattle.shared_service.specs.Desks.{weight}
use Rattle.shared_service.specs.Facts.{has}
use Rattle.shared_service.proofs.Fitting.{then_is}
use Rattle.shared_service.proofs.Logs.{acted_of, settled_log, step_log}

-- what one entry adds to a count
abbrev pub one_if : Bool → ℕ
one_if true = 1
one_if false = 0

pub one_some : (settled : Option Settled) → IsSome settled → one_if (is_some settled) ≡ 1
one_some None some = cc
one_some (Some settled) some = refl

pub settling_length : (pass : ℕ) (before behind : Counts) (settled : Option Settled) (book : List BookEntry) → length (book ++ settling_by pass before behind settled) ≡ length book + one_if (is_some settled)
settling_length pass before behind None book = length-append book []
settling_length pass before behind (Some settled) book = length-append book (entry_by pass before behind (Settling settled) ∷ [])

count_next : (test : Entry → Bool) (e : BookEntry) (log : List BookEntry) → count test (e ∷ log) ≡ count test log + one_if (test e.entry)
count_next test e log = by_test (test e.entry) where
  by_test : (b : Bool) → (if b then count test log + 1 else count test log) ≡ count test log + one_if b
  by_test true = refl
  by_test false = omega arith

pub some_length : (number : ℕ) (numbers : List ℕ) → has number numbers ≡ true → 1 ≤ length numbers
some_length number [] e = cc
some_length number (n ∷ numbers) e = omega arith

-- a settling has one place
pub weight_settled : (pass : ℕ) (s : OneStep) (settled : Option Settled) (log : List BookEntry) → weight (settled_log pass s settled log) ≡ weight log + one_if (is_some settled)
weight_settled pass s None log = omega arith
weight_settled pass s (Some settled) log = omega arith

pub length_settled : (pass : ℕ) (s : OneStep) (settled : Option Settled) (log : List BookEntry) → length (settled_log pass s settled log) ≡ length log + one_if (is_some settled)
length_settled pass s None log = omega arith
length_settled pass s (Some settled) log = omega arith

-- the counts after an entry
module _ (pass : ℕ) (s : OneStep) (log : List BookEntry) where
  abbrev E : Entry
  E = Acted s.event s.drawn s.reply

  few_bool : (b : Bool) → one_if b ≤ 1
  few_bool true = omega arith
  few_bool false = omega arith

  -- at most one place more than the entry's own
  pub weight_acted : weight (acted_of pass s ∷ log) ≤ weight log + 1 + one_if (admits is_connect (Acted s.event s.drawn s.reply)) + one_if (admits is_enter (Acted s.event s.drawn s.reply))
  weight_acted =
      let a = count_next (admits is_connect) (acted_of pass s) log in
      let b = count_next (admits is_disconnect) (acted_of pass s) log in
      let c = count_next (admits is_enter) (acted_of pass s) log in
      let d = count_next (is_of is_leave) (acted_of pass s) log in
      omega arith

  -- a leave gives back its place
  pub weight_left : is_leave s.event.act ≡ true → is_connect s.event.act ≡ false → is_enter s.event.act ≡ false → count (is_of is_leave) log + 1 ≤ count (admits is_enter) log → weight (acted_of pass s ∷ log) ≤ weight log
  weight_left leaves no_connect no_enter out =
      let a = count_next (admits is_connect) (acted_of pass s) log in
      let b = count_next (admits is_disconnect) (acted_of pass s) log in
      let c = count_next (admits is_enter) (acted_of pass s) log in
      let d : count (is_of is_leave) (acted_of pass s ∷ log) ≡ count (is_of is_leave) log + 1 = then_is (is_leave s.event.act) (count (is_of is_leave) log + 1) (count (is_of is_leave) log) leaves in
      let p : one_if (admits is_connect (Acted s.event s.drawn s.reply)) ≡ 0 = ap (λ (x : Bool). one_if (is_done s.reply && x)) no_connect ∙ none (is_done s.reply) in
      let q : one_if (admits is_enter (Acted s.event s.drawn s.reply)) ≡ 0 = ap (λ (x : Bool). one_if (is_done s.reply && x)) no_enter ∙ none (is_done s.reply) in
      omega arith
    where
      none : (b : Bool) → one_if (b && false) ≡ 0
      none true = refl
      none false = refl

  -- and so does the admitted disconnect of a client
  pub weight_parted : admits is_disconnect (Acted s.event s.drawn s.reply) ≡ true → is_connect s.event.act ≡ false → is_enter s.event.act ≡ false → count (admits is_disconnect) log + 1 ≤ count (admits is_connect) log → weight (acted_of pass s ∷ log) ≤ weight log
  weight_parted parts no_connect no_enter there =
      let a = count_next (admits is_connect) (acted_of pass s) log in
      let b : count (admits is_disconnect) (acted_of pass s ∷ log) ≡ count (admits is_disconnect) log + 1 = then_is (admits is_disconnect (Acted s.event s.drawn s.reply)) (count (admits is_disconnect) log + 1) (count (admits is_disconnect) log) parts in
      let c = count_next (admits is_enter) (acted_of pass s) log in
      let d = count_next (is_of is_leave) (acted_of pass s) log in
      let p : one_if (admits is_connect (Acted s.event s.drawn s.reply)) ≡ 0 = ap (λ (x : Bool). one_if (is_done s.reply && x)) no_connect ∙ none (is_done s.reply) in
      let q : one_if (admits is_enter (Acted s.event s.drawn s.reply)) ≡ 0 = ap (λ (x : Bool). one_if (is_done s.reply && x)) no_enter ∙ none (is_done s.reply) in
      omega arith
    where
      none : (b : Bool) → one_if (b && false) ≡ 0
      none true = refl
      none false = refl

-- what an act needs is enough for a settling, its entry, and the place that it sets aside
need_enough : (act : Act) (done : Bool) (settles : ℕ) → settles ≤ 1 → (is_disconnect act ≡ true → settles ≡ 0) → settles + 1 + one_if (done && is_connect act) + one_if (done && is_enter act) ≤ need_of act
need_enough act done settles one none = by_act act done none where
  both : (b : Bool) → one_if (b && true) ≤ 1
  both true = omega arith
  both false = omega arith

  neither : (b : Bool) → one_if (b && false) ≡ 0
  neither true = refl
  neither false = refl

  by_act : (act : Act) (done : Bool) → (is_disconnect act ≡ true → settles ≡ 0) → settles + 1 + one_if (done && is_connect act) + one_if (done && is_enter act) ≤ need_of act
  by_act (Connect uid) done none = omega (arith, both done, neither done)
  by_act Disconnect done none = omega (arith, none refl, neither done)
  by_act (EnterAad op input) done none = omega (arith, both done, neither done)
  by_act (EnterUpdate op input) done none = omega (arith, both done, neither done)
  by_act (EnterFinish op input signature) done none = omega (arith, both done, neither done)
  by_act _ done none = omega (arith, neither done)

pub weight_step : (pass : ℕ) (s : OneStep) (log : List BookEntry) → (is_disconnect s.event.act ≡ true → s.settled ≡ None) → weight (step_log pass s log) ≤ weight log + need_of s.event.act
weight_step pass s log none =
    let acted = weight_acted pass s (settled_log pass s s.settled log) in
    let settled = weight_settled pass s s.settled log in
    let enough = need_enough s.event.act (is_done s.reply) (one_if (is_some s.settled)) (few (is_some s.settled)) (λ d. ap (λ (o : Option Settled). one_if (is_some o)) (none d)) in
    omega arith
  where
    few : (b : Bool) → one_if b ≤ 1
    few true = omega arith
    few false = omega arith

-- before the step there are places for its entries
pub need_some : (act : Act) (settles : ℕ) → settles ≤ 1 → (is_disconnect act ≡ true → settles ≡ 0) → settles + 1 ≤ need_of act
need_some act settles one none = let enough = need_enough act true settles one none in omega arith
