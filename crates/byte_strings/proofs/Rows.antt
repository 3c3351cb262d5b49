-- Fields in a row, and tables of rows by a number: what is read of them, and that it is read again.
use Rattle.std.proofs.Common.{◌≡◌, ⊎_elim, ℕ, Bool, true, false, cond, eqb, List, [], ◌∷◌, ◌++◌, length, Option, Some, None, refl, sym, ap, subst, ◌∙◌, append_assoc}
use Rattle.std.specs.List.{AllByRecursion}
use Rattle.std.specs.Option.{option_and_then}
use Rattle.std.proofs.lemmas.Bool.{eqb-true}
use Rattle.std.proofs.lemmas.List.{append-nil, nil_from_length}
use Rattle.byte_strings.specs.Readers.{Reader, ◌>>=◌, done, row_of, ended}
use Rattle.byte_strings.specs.Codecs.{IsBytes, Takes, IsCodec, IsRead, IsAgain}
use Rattle.byte_strings.proofs.Fields.{Takes-then, bind_some, chosen, some_is}

-- ---- what was read

-- nothing more is read
pub made_read : {X : Type 0} {IsSo : List ℕ → X → Type 0} (x : X) → IsSo [] x → IsRead (done x) IsSo
made_read {IsSo = IsSo} x so = record {
  takes = λ bytes y rest fits e.
      subst (λ (q : _ × List ℕ). (text : List ℕ) × Takes bytes text q.1 × IsSo text q.0) (some_is (x, bytes) (y, rest) e)
      ([], record { parts = refl; rest_fits = fits }, so);
}

module _ {A X : Type 0} {f : Reader A} {s : A → List ℕ} {P : A → Type 0} (codec : IsCodec f s P) where
  -- one field, and then the others
  pub field_read : {g : A → Reader X} {IsSo : List ℕ → X → Type 0} → ((a : A) → P a → IsRead (g a) (λ text x. IsSo (s a ++ text) x)) → IsRead (f >>= g) IsSo
  field_read {g = g} {IsSo = IsSo} more = record {
    takes = λ bytes x rest fits e.
        let b = bind_some (λ (a : A × List ℕ). g a.0 a.1) (f bytes) (x, rest) e in
        let t = codec.takes bytes b.0.0 b.0.1 fits b.1 in
        let m = (more b.0.0 t.1).takes b.0.1 x rest t.0.rest_fits b.2 in
        (s b.0.0 ++ m.0, Takes-then bytes (s b.0.0) b.0.1 m.0 rest t.0 m.1, m.2);
  }

  -- the last field
  pub last_read : {IsSo : List ℕ → X → Type 0} (make : A → X) → ((a : A) → P a → IsSo (s a) (make a)) → IsRead (f >>= λ a. done (make a)) IsSo
  last_read {IsSo = IsSo} make so = record {
    takes = λ bytes x rest fits e.
        let b = bind_some (λ (a : A × List ℕ). Some (make a.0, a.1)) (f bytes) (x, rest) e in
        let t = codec.takes bytes b.0.0 b.0.1 fits b.1 in
        subst (λ (q : X × List ℕ). (text : List ℕ) × Takes bytes text q.1 × IsSo text q.0) (some_is (make b.0.0, b.0.1) (x, rest) b.2) (s b.0.0, t.0, so b.0.0 t.1);
  }

  -- ---- and the other way

  pub field_again : {text : List ℕ} {x : X} (g : A → Reader X) (a : A) → P a → IsAgain (g a) text x → IsAgain (f >>= g) (s a ++ text) x
  field_again {text = text} {x = x} g a fits more = record {
    again = λ rest.
        let one : f ((s a ++ text) ++ rest) ≡ Some (a, text ++ rest) = ap f (append_assoc (s a) text rest) ∙ codec.again a (text ++ rest) fits in
        ap (option_and_then (λ (b : A × List ℕ). g b.0 b.1)) one ∙ more.again rest;
  }

  pub last_again : (make : A → X) (a : A) → P a → IsAgain (f >>= λ a. done (make a)) (s a) (make a)
  last_again make a fits = record {
    again = λ rest. ap (option_and_then (λ (b : A × List ℕ). Some (make b.0, b.1))) (codec.again a rest fits);
  }

-- a row that is read both ways is a field
module _ {X : Type 0} {read : Reader X} {spell : X → List ℕ} {Fits : X → Type 0} where
  pub row_codec : IsRead read (λ text x. (text ≡ spell x) × Fits x) → ((x : X) → Fits x → IsAgain read (spell x) x) → IsCodec read spell Fits
  row_codec one other = record {
    takes = λ bytes x rest fits e.
        let t = one.takes bytes x rest fits e in
        (subst (λ (text : List ℕ). Takes bytes text rest) t.2.0 t.1, t.2.1);
    again = λ x rest fits. (other x fits).again rest;
  }

-- ---- tables

-- a row is so behind its number
abbrev pub IsRow : {X : Type 0} → (List ℕ → X → Type 0) → ℕ × Reader X → Type 0
IsRow IsSo row = IsRead row.1 (λ text x. IsSo (row.0 ∷ text) x)

module _ {X : Type 0} (IsSo : List ℕ → X → Type 0) where
  pub rows_read : (rows : List (ℕ × Reader X)) (number : ℕ) → AllByRecursion (IsRow IsSo) rows → IsRead (row_of number rows) (λ text x. IsSo (number ∷ text) x)
  rows_read [] number each = record { takes = λ bytes x rest fits e. absurd (let never : ◌≡◌ {A = Option (X × List ℕ)} None (Some (x, rest)) = e in cc) }
  rows_read (row ∷ rows) number each = record {
    takes = λ bytes x rest fits e. ⊎_elim
        (λ (p : (eqb number row.0 ≡ true) × (row.1 bytes ≡ Some (x, rest))).
        subst (λ (n : ℕ). (text : List ℕ) × Takes bytes text rest × IsSo (n ∷ text) x) (sym (eqb-true number row.0 p.0)) (each.0.takes bytes x rest fits p.1))
        (λ (p : (eqb number row.0 ≡ false) × (row_of number rows bytes ≡ Some (x, rest))). (rows_read rows number each.1).takes bytes x rest fits p.1)
        (chosen (eqb number row.0) (row.1 bytes) (row_of number rows bytes) (Some (x, rest)) e);
  }

-- ---- the whole of bytes

guard_end : {A : Type 0} (b : Bool) (x y : A) → cond b (Some x) None ≡ Some y → (b ≡ true) × (x ≡ y)
guard_end true x y e = (refl, cc)
guard_end false x y e = absurd cc

none_left : (bytes : List ℕ) → eqb (length bytes) 0 ≡ true → bytes ≡ []
none_left bytes e = nil_from_length bytes (eqb-true (length bytes) 0 e)

pub ended_is : {X : Type 0} (o : Option (X × List ℕ)) (x : X) → ended o ≡ Some x → o ≡ Some (x, [])
ended_is None x e = absurd cc
ended_is (Some y) x e =
    let g = guard_end (eqb (length y.1) 0) y.0 x e in
    (λ i. Some (g.1 i, none_left y.1 g.0 i))

module _ {X : Type 0} {read : Reader X} where
  pub whole_takes : {IsSo : List ℕ → X → Type 0} → IsRead read IsSo → (bytes : List ℕ) (x : X) → IsBytes bytes → ended (read bytes) ≡ Some x → IsSo bytes x
  whole_takes {IsSo = IsSo} row bytes x fits e =
      let t = row.takes bytes x [] fits (ended_is (read bytes) x e) in
      subst (λ (text : List ℕ). IsSo text x) (sym (t.1.parts ∙ append-nil t.0)) t.2

  pub whole_again : {text : List ℕ} {x : X} → IsAgain read text x → ended (read text) ≡ Some x
  whole_again {text = text} {x = x} row =
      let back : read text ≡ Some (x, []) = ap read (sym (append-nil text)) ∙ row.again [] in
      rw back refl
