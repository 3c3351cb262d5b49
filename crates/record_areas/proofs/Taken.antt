-- A record that stands first of some bytes.
use Rattle.std.proofs.Common.{◌≡◌, ℕ, suc, ◌-◌, ◌≤◌, List, [], ◌∷◌, ◌++◌, length, take, drop, sym, ap, ◌∙◌, arith, length-append}
use Rattle.std.proofs.lemmas.List.{drop_at, take_rest}
use Rattle.journal_records.specs.declared.record.Record.{Record}
use Rattle.journal_records.specs.Spelling.{record_framed, record_tail}

pub rest_is : (held left : List ℕ) (it : Record) → take (length held - 1) (drop 1 held) ≡ record_tail it ++ left → drop 1 held ≡ record_tail it ++ left
rest_is held left it is = sym (take_rest held 1) ∙ is

pub taken_long : (held left : List ℕ) (it : Record) → 1 ≤ length held → drop 1 held ≡ record_tail it ++ left → length held - length left ≡ length (record_framed it)
taken_long [] left it some is = absurd (omega (arith, some))
taken_long (gate ∷ rest) left it some is = omega (arith, ap length is, length-append (record_tail it) left)

pub taken_left : (held left : List ℕ) (it : Record) → 1 ≤ length held → drop 1 held ≡ record_tail it ++ left → drop (length held - length left) held ≡ left
taken_left [] left it some is = absurd (omega (arith, some))
taken_left (gate ∷ rest) left it some is =
    let count : length (gate ∷ rest) - length left ≡ suc (length (record_tail it)) = omega (arith, ap length is, length-append (record_tail it) left) in
    ap (λ (k : ℕ). drop k (gate ∷ rest)) count ∙ ap (drop (length (record_tail it))) is ∙ drop_at (record_tail it) left (length (record_tail it)) (λ i. length (record_tail it))
