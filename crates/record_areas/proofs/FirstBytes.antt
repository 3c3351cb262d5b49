-- A record's body has the length that its first bytes tell.
use Rattle.std.proofs.Common.{◌≡◌, ⊎_elim, inl, inr, ℕ, zero, suc, ◌+◌, ◌-◌, ◌<◌, ◌≤◌, Bool, true, false, ◌&&◌, eqb, leb, ltb, List, [], ◌∷◌, length, take, drop, Option, Some, None, refl, sym, ap, subst, ◌∙◌, arith, length-drop, length-take}
use Rattle.std.specs.List.{AllByRecursion}
use Rattle.std.specs.Prelude.{min}
use Rattle.std.proofs.lemmas.Bool.{and_from, and_parts, cases_lt, eq-eqb, eqb-true, le-leb, le-ltb, lt-ltb, ltb-false}
use Rattle.std.proofs.lemmas.List.{drop-drop, drop-take, drop_all, drop_min, take_rest}
use Rattle.byteorder.specs.Endian.{big_number}
use Rattle.byteorder.specs.Numbers.{big_from-take}
use Rattle.byte_strings.specs.Readers.{Reader, ◌>>=◌, byte_at, bytes_at, counted_at, done, ended, number_at, row_of}
use Rattle.byte_strings.proofs.Fields.{bind_some, chosen, guard_some, number_size, some_is}
use Rattle.journal_records.specs.declared.change.Change.{Change}
use Rattle.journal_records.specs.declared.record.Record.{Record}
use Rattle.journal_records.specs.declared.record.Record.TheVariants as records
use Rattle.journal_records.specs.Reading.{body_at, body_in, changed_at, cleared_at, created_at, deleted_at, fields_of, fields_within, granted_at, held_at, held_grant_at, is_row, kinds, next_at, removed_at, rows, ungranted_at, upgraded_at, used_at}
use Rattle.record_areas.specs.BodyLengths.{may_begin, may_fill, may_go_on, may_have}

-- ---- lengths that are told

untold : (bytes : List ℕ) → length bytes < 4 → number_at 4 bytes ≡ None
untold bytes few = rw (lt-ltb (length bytes) 4 few) refl

told : (bytes : List ℕ) → 4 ≤ length bytes → number_at 4 bytes ≡ Some (big_number 4 bytes, drop 4 bytes)
told bytes some = rw (le-ltb (length bytes) 4 some) refl

-- behind the first bytes of a list
drop_of_take : (n m : ℕ) (bytes : List ℕ) → drop n (take m bytes) ≡ take (m - n) (drop n bytes)
drop_of_take n m bytes = elim (cases_lt m n) [
  | inl less ↦ (let none : m - n ≡ 0 = omega (arith, less) in
      drop_all n (take m bytes) (omega (arith, length-take m bytes, less)) ∙ ap (λ (k : ℕ). take k (drop n bytes)) (sym none))
  | inr some ↦ (let whole : m ≡ n + (m - n) = omega (arith, some) in
      ap (λ (k : ℕ). drop n (take k bytes)) whole ∙ drop-take n (m - n) bytes)
]

-- what all bytes may be, their first may
fill_front : (texts behind size m : ℕ) (bytes : List ℕ) → may_fill texts behind size bytes ≡ true → may_fill texts behind size (take m bytes) ≡ true
fill_front zero behind size m bytes may = may
fill_front (suc texts) behind size m bytes may = elim (cases_lt (length (take m bytes)) 4) [
  | inl few ↦ ap (may_go_on size (may_fill texts behind)) (untold (take m bytes) few)
  | inr some ↦ (
      let front = take m bytes in
      let n = big_number 4 bytes in
      let long : (4 ≤ m) × (4 ≤ length bytes) = omega (arith, length-take m bytes, some) in
      let same : big_number 4 front ≡ n = big_from-take 0 4 m bytes long.0 in
      let parts = and_parts (leb (4 + n) size) (may_fill texts behind (size - (4 + n)) (drop n (drop 4 bytes)))
      (sym (ap (may_go_on size (may_fill texts behind)) (told bytes long.1)) ∙ may) in
      let rest : drop n (drop 4 front) ≡ take (m - 4 - n) (drop n (drop 4 bytes)) =
      ap (drop n) (drop_of_take 4 m bytes) ∙ drop_of_take n (m - 4) (drop 4 bytes) in
      let more : may_fill texts behind (size - (4 + n)) (drop n (drop 4 front)) ≡ true =
      ap (may_fill texts behind (size - (4 + n))) rest ∙ fill_front texts behind (size - (4 + n)) (m - 4 - n) (drop n (drop 4 bytes)) parts.1 in
      ap (may_go_on size (may_fill texts behind)) (told front some ∙ ap (λ (k : ℕ). Some (k, drop 4 front)) same)
      ∙ and_from (leb (4 + n) size) (may_fill texts behind (size - (4 + n)) (drop n (drop 4 front))) parts.0 more)
]

-- a turn of the loop
fill_step : (count behind left : ℕ) (rest : List ℕ) → 0 < count → may_fill count behind left rest ≡ may_go_on left (may_fill (count - 1) behind) (number_at 4 rest)
fill_step zero behind left rest some = absurd (omega (arith, some))
fill_step (suc n) behind left rest some =
    let same : n ≡ suc n - 1 = omega arith in
    ap (λ (k : ℕ). may_go_on left (may_fill k behind) (number_at 4 rest)) same

pub fill_turn : (count behind left n k whole : ℕ) (rest text : List ℕ) → 0 < count → number_at 4 rest ≡ Some (n, text) → whole ≡ n → 4 + n ≤ left → k ≡ min n (length text)
    → may_fill (count - 1) behind (left - (4 + whole)) (take (length text - k) (drop k text)) ≡ may_fill count behind left rest
fill_turn count behind left n k whole rest text some number whole_is fits k_is =
    let rest_is : take (length text - k) (drop k text) ≡ drop n text = take_rest text k ∙ ap (λ (j : ℕ). drop j text) k_is ∙ drop_min n text in
    (λ i. may_fill (count - 1) behind (left - (4 + whole_is i)) (rest_is i))
    ∙ sym (ap (λ (b : Bool). b && may_fill (count - 1) behind (left - (4 + n)) (drop n text)) (le-leb (4 + n) left fits))
    ∙ sym (ap (may_go_on left (may_fill (count - 1) behind)) number)
    ∙ sym (fill_step count behind left rest some)

-- ---- what is read is so long

-- a reader that takes so many bytes
abbrev IsLong : (X : Type 0) → Reader X → ℕ → Type 0
IsLong X read n = (bytes : List ℕ) (x : X) (rest : List ℕ) → read bytes ≡ Some (x, rest) → (length bytes ≡ n + length rest) × (rest ≡ drop n bytes)

number_long : (n : ℕ) → IsLong ℕ (number_at n) n
number_long n bytes x rest e =
    let g = guard_some (ltb (length bytes) n) (big_number n bytes, drop n bytes) (x, rest) e in
    (omega (arith, number_size n bytes x rest e), sym (ap (λ (p : ℕ × List ℕ). p.1) g.1))

byte_long : IsLong ℕ byte_at 1
byte_long [] x rest e = absurd (let never : ◌≡◌ {A = Option (ℕ × List ℕ)} None (Some (x, rest)) = e in cc)
byte_long (b ∷ bytes) x rest e =
    let pair = some_is (b, bytes) (x, rest) e in
    let same : rest ≡ bytes = sym (ap (λ (p : ℕ × List ℕ). p.1) pair) in
    (omega (arith, ap length same), same)

module _ {X : Type 0} where
  made_long : (x : X) → IsLong X (done x) 0
  made_long x bytes y rest e =
      let same : rest ≡ bytes = sym (ap (λ (p : X × List ℕ). p.1) (some_is (x, bytes) (y, rest) e)) in
      (omega (arith, ap length same), same)

  then_long : {A : Type 0} {first : Reader A} {more : A → Reader X} (n m : ℕ) → IsLong A first n → ((a : A) → IsLong X (more a) m) → IsLong X (first >>= more) (n + m)
  then_long {A = A} {first = first} {more = more} n m one other bytes x rest e =
      let b = bind_some (λ (p : A × List ℕ). more p.0 p.1) (first bytes) (x, rest) e in
      let l = one bytes b.0.0 b.0.1 b.1 in
      let r = other b.0.0 b.0.1 x rest b.2 in
      (omega (arith, l.0, r.0), r.1 ∙ ap (drop m) l.1 ∙ drop-drop m n bytes)

  -- a reader of counted texts, and of some bytes behind them
  abbrev Fills : Reader X → ℕ → ℕ → Type 0
  Fills read texts behind = (bytes : List ℕ) (x : X) (rest : List ℕ) → read bytes ≡ Some (x, rest) → length rest ≡ 0 → may_fill texts behind (length bytes) bytes ≡ true

  fills_last : {read : Reader X} (n : ℕ) → IsLong X read n → Fills read 0 n
  fills_last n long bytes x rest e none = eq-eqb (length bytes) n (omega (arith, (long bytes x rest e).0, none))

  fills_text : {more : List ℕ → Reader X} (texts behind : ℕ) → ((text : List ℕ) → Fills (more text) texts behind) → Fills (counted_at 4 >>= more) (suc texts) behind
  unfolding counted_at
  fills_text {more = more} texts behind each bytes x rest e none =
      let b = bind_some (λ (p : List ℕ × List ℕ). more p.0 p.1) (counted_at 4 bytes) (x, rest) e in
      let text = b.0.0 in
      let left = b.0.1 in
      let c = bind_some (λ (n : ℕ × List ℕ). bytes_at n.0 n.1) (number_at 4 bytes) (text, left) b.1 in
      let n = c.0.0 in
      let after = c.0.1 in
      let g = guard_some (ltb (length after) n) (take n after, drop n after) (text, left) c.2 in
      let left_is : drop n after ≡ left = ap (λ (p : List ℕ × List ℕ). p.1) g.1 in
      let size : length bytes - (4 + n) ≡ length left =
      omega (arith, number_size 4 bytes n after c.1, ltb-false (length after) n g.0, length-drop n after, ap length left_is) in
      let whole : 4 + n ≤ length bytes = omega (arith, number_size 4 bytes n after c.1, ltb-false (length after) n g.0) in
      let more_may : may_fill texts behind (length bytes - (4 + n)) (drop n after) ≡ true = (λ i. may_fill texts behind (size i) (left_is i)) ∙ each text left x rest b.2 none in
      ap (may_go_on (length bytes) (may_fill texts behind)) c.1
      ∙ and_from (leb (4 + n) (length bytes)) (may_fill texts behind (length bytes - (4 + n)) (drop n after)) (le-leb (4 + n) (length bytes) whole) more_may

  -- the same behind some bytes
  abbrev Skips : Reader X → ℕ → ℕ → ℕ → Type 0
  Skips read n texts behind = (bytes : List ℕ) (x : X) (rest : List ℕ) → read bytes ≡ Some (x, rest) → length rest ≡ 0
      → (n ≤ length bytes) × (may_fill texts behind (length bytes - n) (drop n bytes) ≡ true)

  skips_none : {A : Type 0} {first : Reader A} {more : A → Reader X} (n texts behind : ℕ) → IsLong A first n → ((a : A) → Fills (more a) texts behind) → Skips (first >>= more) n texts behind
  skips_none {A = A} {first = first} {more = more} n texts behind one each bytes x rest e none =
      let b = bind_some (λ (p : A × List ℕ). more p.0 p.1) (first bytes) (x, rest) e in
      let l = one bytes b.0.0 b.0.1 b.1 in
      let size : length bytes - n ≡ length b.0.1 = omega (arith, l.0) in
      (omega (arith, l.0), (λ i. may_fill texts behind (size i) (sym l.1 i)) ∙ each b.0.0 b.0.1 x rest b.2 none)

  skips_field : {A : Type 0} {first : Reader A} {more : A → Reader X} (n m texts behind : ℕ) → IsLong A first n → ((a : A) → Skips (more a) m texts behind) → Skips (first >>= more) (n + m) texts behind
  skips_field {A = A} {first = first} {more = more} n m texts behind one each bytes x rest e none =
      let b = bind_some (λ (p : A × List ℕ). more p.0 p.1) (first bytes) (x, rest) e in
      let l = one bytes b.0.0 b.0.1 b.1 in
      let s = each b.0.0 b.0.1 x rest b.2 none in
      let size : length bytes - (n + m) ≡ length b.0.1 - m = omega (arith, l.0) in
      let same : drop (n + m) bytes ≡ drop m b.0.1 = sym (drop-drop m n bytes) ∙ ap (drop m) (sym l.1) in
      (omega (arith, l.0, s.0), (λ i. may_fill texts behind (size i) (same i)) ∙ s.1)

-- ---- each kind

-- behind its kind, what is read to its end may begin so
abbrev Begins : (X : Type 0) → ℕ × Reader X → Type 0
Begins X row = (bytes : List ℕ) (x : X) (rest : List ℕ) (m : ℕ) → row.1 bytes ≡ Some (x, rest) → length rest ≡ 0
    → may_begin (suc (length bytes)) (row.0 ∷ take m bytes) ≡ true

other_begins : (X : Type 0) (kind n : ℕ) (read : Reader X) → ((size : ℕ) (fields : List ℕ) → may_begin size (kind ∷ fields) ≡ leb size 25) → n ≤ 24 → IsLong X read n → Begins X (kind, read)
other_begins X kind n read other few long bytes x rest m e none =
    other (suc (length bytes)) (take m bytes) ∙ le-leb (suc (length bytes)) 25 (omega (arith, (long bytes x rest e).0, none, few))

texts_begin : (X : Type 0) (kind numbers texts behind : ℕ) (read : Reader X) → ((size : ℕ) (fields : List ℕ) → may_begin size (kind ∷ fields) ≡ may_have numbers texts behind size fields) → Skips read numbers texts behind
    → Begins X (kind, read)
texts_begin X kind numbers texts behind read has skips bytes x rest m e none =
    let s = skips bytes x rest e none in
    let size : suc (length bytes) - (numbers + 1) ≡ length bytes - numbers = omega (arith, s.0) in
    has (suc (length bytes)) (take m bytes)
    ∙ (λ i. may_fill texts behind (size i) (drop_of_take numbers m bytes i))
    ∙ fill_front texts behind (length bytes - numbers) (m - numbers) (drop numbers bytes) s.1

created_skips : Skips created_at 17 3 4
unfolding created_at
created_skips = skips_field 8 9 3 4 (number_long 8) (λ id. skips_field 1 8 3 4 byte_long (λ domain. skips_none 8 3 4 (number_long 8) (λ nspace.
    fills_text 2 4 (λ alias. fills_text 1 4 (λ blob. fills_text 0 4 (λ list. fills_last 4 (then_long 4 0 (number_long 4) (λ limit. made_long _))))))))

held_skips : Skips held_at 17 3 8
unfolding held_at
held_skips = skips_field 8 9 3 8 (number_long 8) (λ id. skips_field 1 8 3 8 byte_long (λ domain. skips_none 8 3 8 (number_long 8) (λ nspace.
    fills_text 2 8 (λ alias. fills_text 1 8 (λ blob. fills_text 0 8 (λ list. fills_last 8 (then_long 4 4 (number_long 4) (λ limit. then_long 4 0 (number_long 4) (λ left. made_long _)))))))))

upgraded_skips : Skips upgraded_at 8 2 0
unfolding upgraded_at
upgraded_skips = skips_none 8 2 0 (number_long 8) (λ id. fills_text 1 0 (λ blob. fills_text 0 0 (λ list. fills_last 0 (made_long _))))

granted_long : IsLong Change granted_at 24
unfolding granted_at
granted_long = then_long 8 16 (number_long 8) (λ grant. then_long 8 8 (number_long 8) (λ key. then_long 4 4 (number_long 4) (λ uid. then_long 4 0 (number_long 4) (λ bits. made_long _))))

held_grant_long : IsLong Record held_grant_at 24
unfolding held_grant_at
held_grant_long = then_long 8 16 (number_long 8) (λ grant. then_long 8 8 (number_long 8) (λ key. then_long 4 4 (number_long 4) (λ uid. then_long 4 0 (number_long 4) (λ bits. made_long _))))

next_long : IsLong Record next_at 16
unfolding next_at
next_long = then_long 8 8 (number_long 8) (λ key. then_long 8 0 (number_long 8) (λ grant. made_long _))

one_long : (n : ℕ) (make : ℕ → Change) → IsLong Change (number_at n >>= λ a. done (make a)) (n + 0)
one_long n make = then_long n 0 (number_long n) (λ a. made_long _)

kinds_begin : AllByRecursion (Begins Change) kinds
kinds_begin = (
  texts_begin Change 1 17 3 4 created_at (λ size fields. refl) created_skips,
  (
    other_begins Change 2 8 deleted_at (λ size fields. refl) (omega arith) (one_long 8 _),
    (
      other_begins Change 3 8 used_at (λ size fields. refl) (omega arith) (one_long 8 _),
      (
        other_begins Change 4 24 granted_at (λ size fields. refl) (omega arith) granted_long,
        (
          other_begins Change 5 8 ungranted_at (λ size fields. refl) (omega arith) (one_long 8 _),
          (
            other_begins Change 6 9 cleared_at (λ size fields. refl) (omega arith) (then_long 1 8 byte_long (λ domain. one_long 8 _)),
            (
              other_begins Change 7 4 removed_at (λ size fields. refl) (omega arith) (one_long 4 _),
              (texts_begin Change 11 8 2 0 upgraded_at (λ size fields. refl) upgraded_skips, tt),
            ),
          ),
        ),
      ),
    ),
  ),
)

rows_begin : AllByRecursion (Begins Record) rows
rows_begin = (
  other_begins Record 8 16 next_at (λ size fields. refl) (omega arith) next_long,
  (
    texts_begin Record 9 17 3 8 held_at (λ size fields. refl) held_skips,
    (other_begins Record 10 24 held_grant_at (λ size fields. refl) (omega arith) held_grant_long, tt),
  ),
)

row_begins : (X : Type 0) (table : List (ℕ × Reader X)) (kind : ℕ) → AllByRecursion (Begins X) table → Begins X (kind, row_of kind table)
row_begins X [] kind each bytes x rest m e none = absurd (let never : ◌≡◌ {A = Option (X × List ℕ)} None (Some (x, rest)) = e in cc)
row_begins X (row ∷ table) kind each bytes x rest m e none = ⊎_elim
    (λ (p : (eqb kind row.0 ≡ true) × (row.1 bytes ≡ Some (x, rest))).
    subst (λ (k : ℕ). may_begin (suc (length bytes)) (k ∷ take m bytes) ≡ true) (sym (eqb-true kind row.0 p.0)) (each.0 bytes x rest m p.1 none))
    (λ (p : (eqb kind row.0 ≡ false) × (row_of kind table bytes ≡ Some (x, rest))). row_begins X table kind each.1 bytes x rest m p.1 none)
    (chosen (eqb kind row.0) (row.1 bytes) (row_of kind table bytes) (Some (x, rest)) e)

changed_begins : (kind : ℕ) → Begins Record (kind, changed_at kind)
changed_begins kind bytes it rest m e none =
    let b = bind_some (λ (x : Change × List ℕ). Some (records.Change x.0, x.1)) (row_of kind kinds bytes) (it, rest) e in
    let same : b.0.1 ≡ rest = ap (λ (p : Record × List ℕ). p.1) (some_is (records.Change b.0.0, b.0.1) (it, rest) b.2) in
    row_begins Change kinds kind kinds_begin bytes b.0.0 b.0.1 m b.1 (ap length same ∙ none)

fields_begin : (greatest kind : ℕ) → Begins Record (kind, fields_within greatest kind)
fields_begin greatest kind bytes it rest m e none = ⊎_elim
    (λ (p : (leb kind greatest ≡ true) × (fields_of kind bytes ≡ Some (it, rest))). ⊎_elim
    (λ (q : (is_row kind ≡ true) × (row_of kind rows bytes ≡ Some (it, rest))). row_begins Record rows kind rows_begin bytes it rest m q.1 none)
    (λ (q : (is_row kind ≡ false) × (changed_at kind bytes ≡ Some (it, rest))). changed_begins kind bytes it rest m q.1 none)
    (chosen (is_row kind) (row_of kind rows bytes) (changed_at kind bytes) (Some (it, rest)) p.1))
    (λ (p : (leb kind greatest ≡ false) × (◌≡◌ {A = Option (Record × List ℕ)} None (Some (it, rest)))). absurd (let never = p.1 in cc))
    (chosen (leb kind greatest) (fields_of kind bytes) None (Some (it, rest)) e)

-- ---- a body

body_begins : (greatest m : ℕ) (body : List ℕ) (it : Record) (rest : List ℕ) → body_at greatest body ≡ Some (it, rest) → length rest ≡ 0 → may_begin (length body) (take m body) ≡ true
unfolding body_at
body_begins greatest zero body it rest e none = refl
body_begins greatest (suc m) [] it rest e none = refl
body_begins greatest (suc m) (kind ∷ fields) it rest e none = fields_begin greatest kind fields it rest m e none

-- what stands there to its end
to_end : (read : Option (Record × List ℕ)) (it : Record) → ended read ≡ Some it → (rest : List ℕ) × (read ≡ Some (it, rest)) × (length rest ≡ 0)
to_end None it e = absurd (let never : ◌≡◌ {A = Option Record} None (Some it) = e in cc)
to_end (Some x) it e = ⊎_elim
    (λ (p : (eqb (length x.1) 0 ≡ true) × (Some x.0 ≡ Some it)).
    let same = some_is x.0 it p.1 in (x.1, ap (λ (y : Record). Some (y, x.1)) same, eqb-true (length x.1) 0 p.0))
    (λ (p : (eqb (length x.1) 0 ≡ false) × (◌≡◌ {A = Option Record} None (Some it))). absurd (let never = p.1 in cc))
    (chosen (eqb (length x.1) 0) (Some x.0) None (Some it) e)

pub body_may : (greatest m : ℕ) (body : List ℕ) (it : Record) → body_in greatest body ≡ Some it → may_begin (length body) (take m body) ≡ true
body_may greatest m body it e =
    let t = to_end (body_at greatest body) it e in
    body_begins greatest m body it t.0 t.1 t.2

-- the first bytes that may not begin a body begin none
pub no_body_begins : (greatest m : ℕ) (body : List ℕ) (found : Option Record) → body_in greatest body ≡ found → may_begin (length body) (take m body) ≡ false → found ≡ None
no_body_begins greatest m body None e never = refl
no_body_begins greatest m body (Some it) e never = absurd (let may = body_may greatest m body it e in cc)
