-- What a step makes of the tickets and the clients of all passes.
use Rattle.std.proofs.Common.{◌≡◌, ℕ, ◌+◌, ◌==◌, Bool, true, false, not, if◌then◌else◌, ◌∷◌, Option, Some, None, is_some, filter, refl, sym, ap, ◌∙◌, arith, ⊎_elim}
use Rattle.std.proofs.lemmas.Bool.{cases_Bool, eqb-true, eqb-false, eq-eqb, ne_eqb}
use Rattle.rule_model.proofs.Outputs.{any_ticket_left, less_length}
use Rattle.shared_service.specs.Facts.{ClientsFit, TicketsFit, has}

pub then_is : {A : Type 0} (b : Bool) (x y : A) → b ≡ true → (if b then x else y) ≡ x
then_is true x y e = refl
then_is false x y e = cc

pub else_is : {A : Type 0} (b : Bool) (x y : A) → b ≡ false → (if b then x else y) ≡ y
else_is true x y e = cc
else_is false x y e = refl

pub same_if : {A : Type 0} (b : Bool) (x : A) → (if b then x else x) ≡ x
same_if true x = refl
same_if false x = refl

some_is : (a b : ℕ) → Some a ≡ Some b → a ≡ b
some_is a b e = cc

none_some : (a : ℕ) → None ≡ Some a → ⊥
none_some a e = cc

-- ---- tickets

module _ (out out' : ℕ → Option ℕ) (at at' : ℕ → Bool) (owner owner' : ℕ → Option ℕ) (given given' enters enters' leaves leaves' : ℕ) (fit : TicketsFit out at owner given enters leaves) where
  -- nothing changes
  pub tickets_same : ((n : ℕ) → out' n ≡ out n) → ((t : ℕ) → at' t ≡ at t) → ((t : ℕ) → owner' t ≡ owner t) → given' ≡ given → enters' ≡ enters → leaves' ≡ leaves → TicketsFit out' at' owner' given' enters' leaves'
  tickets_same o a w g en le =
      let few = fit.covers.few in record {
        own_is = λ n t h. w t ∙ fit.own_is n t (sym (o n) ∙ h);
        out_is = λ n t h. a t ∙ fit.out_is n t (sym (o n) ∙ h);
        known = λ t h. ap is_some (w t) ∙ fit.known t (sym (a t) ∙ h);
        whole = λ n t h k. o n ∙ fit.whole n t (sym (a t) ∙ h) (sym (w t) ∙ k);
        few = λ n t h. let le = fit.few n t (sym (w t) ∙ h) in omega arith;
        covers = record { numbers = fit.covers.numbers; few = omega arith; all = λ n t h. fit.covers.all n t (sym (o n) ∙ h) };
      }

  -- one goes out, with the next number
  pub tickets_out : (pass ticket : ℕ) → ticket ≡ given + 1 → ((n : ℕ) → out' n ≡ (if pass == n then Some ticket else out n)) → ((t : ℕ) → at' t ≡ (if ticket == t then true else at t))
      → ((t : ℕ) → owner' t ≡ (if ticket == t then Some pass else owner t)) → given' ≡ given + 1 → enters' ≡ enters + 1 → leaves' ≡ leaves → out pass ≡ None → TicketsFit out' at' owner' given' enters' leaves'
  tickets_out pass ticket next o a w g en le idle =
      let few = fit.covers.few in
      let other : (n t : ℕ) → owner t ≡ Some n → (ticket == t) ≡ false = λ n t h. let small = fit.few n t h in ne_eqb ticket t (λ e. omega arith) in
      let mine : (n t : ℕ) → (pass == n) ≡ true → out' n ≡ Some t → ticket ≡ t = λ n t e h. some_is ticket t (sym (o n ∙ then_is (pass == n) (Some ticket) (out n) e) ∙ h) in
      let theirs : (n t : ℕ) → (pass == n) ≡ false → out' n ≡ Some t → out n ≡ Some t = λ n t e h. sym (o n ∙ else_is (pass == n) (Some ticket) (out n) e) ∙ h in
      record {
        own_is = λ n t h. ⊎_elim
            (λ (e : (pass == n) ≡ true). w t ∙ (then_is (ticket == t) (Some pass) (owner t) (eq-eqb ticket t (mine n t e h)) ∙ ap Some (eqb-true pass n e)))
            (λ (e : (pass == n) ≡ false). let was = fit.own_is n t (theirs n t e h) in w t ∙ (else_is (ticket == t) (Some pass) (owner t) (other n t was) ∙ was))
            (cases_Bool (pass == n));
        out_is = λ n t h. ⊎_elim
            (λ (e : (pass == n) ≡ true). a t ∙ then_is (ticket == t) true (at t) (eq-eqb ticket t (mine n t e h)))
            (λ (e : (pass == n) ≡ false). let was = theirs n t e h in a t ∙ (else_is (ticket == t) true (at t) (other n t (fit.own_is n t was)) ∙ fit.out_is n t was))
            (cases_Bool (pass == n));
        known = λ t h. ⊎_elim
            (λ (e : (ticket == t) ≡ true). ap is_some (w t ∙ then_is (ticket == t) (Some pass) (owner t) e))
            (λ (e : (ticket == t) ≡ false). ap is_some (w t ∙ else_is (ticket == t) (Some pass) (owner t) e) ∙ fit.known t (sym (a t ∙ else_is (ticket == t) true (at t) e) ∙ h))
            (cases_Bool (ticket == t));
        whole = λ n t h k. ⊎_elim
            (λ (e : (ticket == t) ≡ true).
            let is : pass ≡ n = some_is pass n (sym (w t ∙ then_is (ticket == t) (Some pass) (owner t) e) ∙ k) in
            o n ∙ (then_is (pass == n) (Some ticket) (out n) (eq-eqb pass n is) ∙ ap Some (eqb-true ticket t e)))
            (λ (e : (ticket == t) ≡ false).
            let was = fit.whole n t (sym (a t ∙ else_is (ticket == t) true (at t) e) ∙ h) (sym (w t ∙ else_is (ticket == t) (Some pass) (owner t) e) ∙ k) in
            o n ∙ (else_is (pass == n) (Some ticket) (out n) (ne_eqb pass n (λ q. none_some t (sym idle ∙ (ap out q ∙ was)))) ∙ was))
            (cases_Bool (ticket == t));
        few = λ n t h. ⊎_elim
            (λ (e : (ticket == t) ≡ true). let is = eqb-true ticket t e in omega arith)
            (λ (e : (ticket == t) ≡ false). let small = fit.few n t (sym (w t ∙ else_is (ticket == t) (Some pass) (owner t) e) ∙ h) in omega arith)
            (cases_Bool (ticket == t));
        covers = record {
          numbers = ticket ∷ fit.covers.numbers;
          few = omega arith;
          all = λ n t h. ⊎_elim
              (λ (e : (pass == n) ≡ true). in_first t (eq-eqb ticket t (mine n t e h)))
              (λ (e : (pass == n) ≡ false). in_rest t (fit.covers.all n t (theirs n t e h)))
              (cases_Bool (pass == n));
        };
      }
    where
      in_first : (t : ℕ) → (ticket == t) ≡ true → has t (ticket ∷ fit.covers.numbers) ≡ true
      in_first t e = rw e refl

      in_rest : (t : ℕ) → has t fit.covers.numbers ≡ true → has t (ticket ∷ fit.covers.numbers) ≡ true
      in_rest t e = ⊎_elim (λ (f : (ticket == t) ≡ true). in_first t f) (λ (f : (ticket == t) ≡ false). rw (f, e) refl) (cases_Bool (ticket == t))

  -- one comes back
  pub tickets_back : (pass ticket : ℕ) → out pass ≡ Some ticket → ((n : ℕ) → out' n ≡ (if pass == n then None else out n)) → ((t : ℕ) → at' t ≡ (if ticket == t then false else at t)) → ((t : ℕ) → owner' t ≡ owner t)
      → given' ≡ given → enters' ≡ enters → leaves' ≡ leaves + 1 → TicketsFit out' at' owner' given' enters' leaves'
  tickets_back pass ticket is o a w g en le =
      let few = fit.covers.few in
      let less = less_length ticket fit.covers.numbers (fit.covers.all pass ticket is) in
      let apart : (n t : ℕ) → out' n ≡ Some t → (pass == n) ≡ false = λ n t h. ⊎_elim
      (λ (e : (pass == n) ≡ true). absurd (none_some t (sym (o n ∙ then_is (pass == n) None (out n) e) ∙ h)))
      (λ (e : (pass == n) ≡ false). e) (cases_Bool (pass == n)) in
      let theirs : (n t : ℕ) → out' n ≡ Some t → out n ≡ Some t = λ n t h. sym (o n ∙ else_is (pass == n) None (out n) (apart n t h)) ∙ h in
      let other : (n t : ℕ) → out' n ≡ Some t → (ticket == t) ≡ false = λ n t h. ne_eqb ticket t (λ e.
      eqb-false pass n (apart n t h) (some_is pass n (sym (fit.own_is pass ticket is) ∙ (ap owner e ∙ fit.own_is n t (theirs n t h))))) in
      let still : (t : ℕ) → at' t ≡ true → (ticket == t) ≡ false = λ t h. ⊎_elim
      (λ (e : (ticket == t) ≡ true). absurd (false_true (sym (a t ∙ then_is (ticket == t) false (at t) e) ∙ h)))
      (λ (e : (ticket == t) ≡ false). e) (cases_Bool (ticket == t)) in
      let before : (t : ℕ) → at' t ≡ true → at t ≡ true = λ t h. sym (a t ∙ else_is (ticket == t) false (at t) (still t h)) ∙ h in
      record {
        own_is = λ n t h. w t ∙ fit.own_is n t (theirs n t h);
        out_is = λ n t h. a t ∙ (else_is (ticket == t) false (at t) (other n t h) ∙ fit.out_is n t (theirs n t h));
        known = λ t h. ap is_some (w t) ∙ fit.known t (before t h);
        whole = λ n t h k.
            let was = fit.whole n t (before t h) (sym (w t) ∙ k) in
            o n ∙ (else_is (pass == n) None (out n) (ne_eqb pass n (λ q. eqb-false ticket t (still t h) (some_is ticket t (sym is ∙ (ap out q ∙ was))))) ∙ was);
        few = λ n t h. let small = fit.few n t (sym (w t) ∙ h) in omega arith;
        covers = record {
          numbers = filter (λ t. not (t == ticket)) fit.covers.numbers;
          few = omega arith;
          all = λ n t h. any_ticket_left ticket t fit.covers.numbers (λ e. eqb-false ticket t (other n t h) e) (fit.covers.all n t (theirs n t h));
        };
      }
    where
      false_true : false ≡ true → ⊥
      false_true e = cc

-- ---- clients

module _ (client client' : ℕ → Option ℕ) (connected connected' there there' : ℕ → Bool) (owner owner' : ℕ → Option ℕ) (given given' connects connects' disconnects disconnects' : ℕ) (fit : ClientsFit client connected there owner given connects disconnects) where
  -- nothing changes
  pub clients_same : ((n : ℕ) → client' n ≡ client n) → ((n : ℕ) → connected' n ≡ connected n) → ((c : ℕ) → there' c ≡ there c) → ((c : ℕ) → owner' c ≡ owner c) → given' ≡ given → connects' ≡ connects → disconnects' ≡ disconnects
      → ClientsFit client' connected' there' owner' given' connects' disconnects'
  clients_same cl co th w g cs ds =
      let few = fit.covers.few in record {
        own_is = λ n c h. w c ∙ fit.own_is n c (sym (cl n) ∙ h);
        has_client = λ n h. ap is_some (cl n) ∙ fit.has_client n (sym (co n) ∙ h);
        seen = λ n c h. th c ∙ (fit.seen n c (sym (cl n) ∙ h) ∙ sym (co n));
        few = λ n c h. let small = fit.few n c (sym (w c) ∙ h) in omega arith;
        nobody = th 0 ∙ fit.nobody;
        none_zero = w 0 ∙ fit.none_zero;
        covers = record { numbers = fit.covers.numbers; few = omega arith; all = λ n c h k. fit.covers.all n c (sym (co n) ∙ h) (sym (cl n) ∙ k) };
      }

  -- one comes, with the next number
  pub clients_come : (pass number : ℕ) → number ≡ given + 1 → ((n : ℕ) → client' n ≡ (if pass == n then Some number else client n)) → ((n : ℕ) → connected' n ≡ (if pass == n then true else connected n))
      → ((c : ℕ) → there' c ≡ (if number == c then true else there c)) → ((c : ℕ) → owner' c ≡ (if number == c then Some pass else owner c)) → given' ≡ given + 1 → connects' ≡ connects + 1 → disconnects' ≡ disconnects
      → ClientsFit client' connected' there' owner' given' connects' disconnects'
  clients_come pass number next cl co th w g cs ds =
      let few = fit.covers.few in
      let other : (n c : ℕ) → owner c ≡ Some n → (number == c) ≡ false = λ n c h. let small = fit.few n c h in ne_eqb number c (λ e. omega arith) in
      let mine : (n c : ℕ) → (pass == n) ≡ true → client' n ≡ Some c → (number == c) ≡ true = λ n c e h. eq-eqb number c (some_is number c (sym (cl n ∙ then_is (pass == n) (Some number) (client n) e) ∙ h)) in
      let theirs : (n c : ℕ) → (pass == n) ≡ false → client' n ≡ Some c → client n ≡ Some c = λ n c e h. sym (cl n ∙ else_is (pass == n) (Some number) (client n) e) ∙ h in
      let zero : (number == 0) ≡ false = ne_eqb number 0 (λ e. omega arith) in
      record {
        own_is = λ n c h. ⊎_elim
            (λ (e : (pass == n) ≡ true). w c ∙ (then_is (number == c) (Some pass) (owner c) (mine n c e h) ∙ ap Some (eqb-true pass n e)))
            (λ (e : (pass == n) ≡ false). let was = fit.own_is n c (theirs n c e h) in w c ∙ (else_is (number == c) (Some pass) (owner c) (other n c was) ∙ was))
            (cases_Bool (pass == n));
        has_client = λ n h. ⊎_elim
            (λ (e : (pass == n) ≡ true). ap is_some (cl n ∙ then_is (pass == n) (Some number) (client n) e))
            (λ (e : (pass == n) ≡ false). ap is_some (cl n ∙ else_is (pass == n) (Some number) (client n) e) ∙ fit.has_client n (sym (co n ∙ else_is (pass == n) true (connected n) e) ∙ h))
            (cases_Bool (pass == n));
        seen = λ n c h. ⊎_elim
            (λ (e : (pass == n) ≡ true). th c ∙ (then_is (number == c) true (there c) (mine n c e h) ∙ sym (co n ∙ then_is (pass == n) true (connected n) e)))
            (λ (e : (pass == n) ≡ false).
            let was = theirs n c e h in
            th c ∙ (else_is (number == c) true (there c) (other n c (fit.own_is n c was)) ∙ (fit.seen n c was ∙ sym (co n ∙ else_is (pass == n) true (connected n) e))))
            (cases_Bool (pass == n));
        few = λ n c h. ⊎_elim
            (λ (e : (number == c) ≡ true). let is = eqb-true number c e in omega arith)
            (λ (e : (number == c) ≡ false). let small = fit.few n c (sym (w c ∙ else_is (number == c) (Some pass) (owner c) e) ∙ h) in omega arith)
            (cases_Bool (number == c));
        nobody = th 0 ∙ (else_is (number == 0) true (there 0) zero ∙ fit.nobody);
        none_zero = w 0 ∙ (else_is (number == 0) (Some pass) (owner 0) zero ∙ fit.none_zero);
        covers = record {
          numbers = number ∷ fit.covers.numbers;
          few = omega arith;
          all = λ n c h k. ⊎_elim
              (λ (e : (pass == n) ≡ true). in_first c (mine n c e k))
              (λ (e : (pass == n) ≡ false). in_rest c (fit.covers.all n c (sym (co n ∙ else_is (pass == n) true (connected n) e) ∙ h) (theirs n c e k)))
              (cases_Bool (pass == n));
        };
      }
    where
      in_first : (c : ℕ) → (number == c) ≡ true → has c (number ∷ fit.covers.numbers) ≡ true
      in_first c e = rw e refl

      in_rest : (c : ℕ) → has c fit.covers.numbers ≡ true → has c (number ∷ fit.covers.numbers) ≡ true
      in_rest c e = ⊎_elim (λ (f : (number == c) ≡ true). in_first c f) (λ (f : (number == c) ≡ false). rw (f, e) refl) (cases_Bool (number == c))

  -- the client of a pass goes
  pub clients_go : (pass number : ℕ) → client pass ≡ Some number → connected pass ≡ true → ((n : ℕ) → client' n ≡ client n) → ((n : ℕ) → connected' n ≡ (if pass == n then false else connected n))
      → ((c : ℕ) → there' c ≡ (if number == c then false else there c)) → ((c : ℕ) → owner' c ≡ owner c) → given' ≡ given → connects' ≡ connects → disconnects' ≡ disconnects + 1
      → ClientsFit client' connected' there' owner' given' connects' disconnects'
  clients_go pass number is on cl co th w g cs ds =
      let few = fit.covers.few in
      let less = less_length number fit.covers.numbers (fit.covers.all pass number on is) in
      let only : (n c : ℕ) → client n ≡ Some c → (number == c) ≡ true → pass ≡ n = λ n c h e.
      some_is pass n (sym (fit.own_is pass number is) ∙ (ap owner (eqb-true number c e) ∙ fit.own_is n c h)) in
      let still : (n : ℕ) → connected' n ≡ true → (pass == n) ≡ false = λ n h. ⊎_elim
      (λ (e : (pass == n) ≡ true). absurd (false_true (sym (co n ∙ then_is (pass == n) false (connected n) e) ∙ h)))
      (λ (e : (pass == n) ≡ false). e) (cases_Bool (pass == n)) in
      let before : (n : ℕ) → connected' n ≡ true → connected n ≡ true = λ n h. sym (co n ∙ else_is (pass == n) false (connected n) (still n h)) ∙ h in
      record {
        own_is = λ n c h. w c ∙ fit.own_is n c (sym (cl n) ∙ h);
        has_client = λ n h. ap is_some (cl n) ∙ fit.has_client n (before n h);
        seen = λ n c h. ⊎_elim
            (λ (e : (number == c) ≡ true).
            th c ∙ (then_is (number == c) false (there c) e ∙ sym (co n ∙ then_is (pass == n) false (connected n) (eq-eqb pass n (only n c (sym (cl n) ∙ h) e)))))
            (λ (e : (number == c) ≡ false).
            let was : client n ≡ Some c = sym (cl n) ∙ h in
            let apart : (pass == n) ≡ false = ne_eqb pass n (λ q. eqb-false number c e (some_is number c (sym is ∙ (ap client q ∙ was)))) in
            th c ∙ (else_is (number == c) false (there c) e ∙ (fit.seen n c was ∙ sym (co n ∙ else_is (pass == n) false (connected n) apart))))
            (cases_Bool (number == c));
        few = λ n c h. let small = fit.few n c (sym (w c) ∙ h) in omega arith;
        nobody = th 0 ∙ ⊎_elim (λ (e : (number == 0) ≡ true). then_is (number == 0) false (there 0) e) (λ (e : (number == 0) ≡ false). else_is (number == 0) false (there 0) e ∙ fit.nobody) (cases_Bool (number == 0));
        none_zero = w 0 ∙ fit.none_zero;
        covers = record {
          numbers = filter (λ t. not (t == number)) fit.covers.numbers;
          few = omega arith;
          all = λ n c h k.
              let was : client n ≡ Some c = sym (cl n) ∙ k in
              any_ticket_left number c fit.covers.numbers (λ e. eqb-false pass n (still n h) (only n c was (eq-eqb number c e))) (fit.covers.all n c (before n h) was);
        };
      }
    where
      false_true : false ≡ true → ⊥
      false_true e = cc
