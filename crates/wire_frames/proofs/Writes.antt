-- Several writes, one behind the other.
use Rattle.std.proofs.Common.{◌≡◌, ℕ, ◌+◌, ◌<◌, ◌≤◌, ◌^◌, List, [], ◌∷◌, ◌++◌, length, get_or, take, flat_map, Result, Ok, Err, refl, ap, sym, ◌∙◌, arith, append_assoc}
use Rattle.std.specs.Prelude.{OnOk}
use Rattle.std.proofs.lemmas.List.{take_more, length-append}
use Rattle.std.proofs.lemmas.List.Folds.{length-flat_map-take}
use Rattle.std.proofs.lemmas.Grind.{flat_map-append}
use Rattle.byteorder.specs.Numbers.{length-bytes_high_first}
use Rattle.byteorder.specs.Endian.{big_bytes}
use Rattle.wire_frames.specs.Spelling.{counted}
use Rattle.wire_frames.specs.Replies.{entry_of, entries_of}
use Rattle.wire_frames.specs.Windows.{Window, window_after}
use Rattle.wire_frames.proofs.Windows.{then}

-- the last write makes the whole
pub at_last : {A E : Type 0} (r : Result A E) (now before piece all : List ℕ) → before ++ piece ≡ all → OnOk r (now ≡ before ++ piece) → OnOk r (now ≡ all)
at_last (Ok x) now before piece all e h = h ∙ e
at_last (Err x) now before piece all e h = tt

-- five fields, the last of which makes the whole
pub five_fields : {A E : Type 0} (r : Result A E) (old a b c d e one two three four five : List ℕ) → one ≡ old ++ a → two ≡ one ++ b → three ≡ two ++ c → four ≡ three ++ d
    → OnOk r (five ≡ four ++ e) → OnOk r (five ≡ old ++ (a ++ (b ++ (c ++ (d ++ e)))))
five_fields r old a b c d e one two three four five p q s t h = at_last r five four e (old ++ (a ++ (b ++ (c ++ (d ++ e))))) (simp (t, s, q, p, append_assoc)) h

abbrev Entry : Type 0
Entry = List ℕ × ℕ

entry_some : (entry : Entry) → 1 ≤ length (entry_of entry)
entry_some entry = omega (arith, length-append (counted entry.0) (big_bytes 8 entry.1), length-bytes_high_first 8 entry.1)

entries_many : (entries : List Entry) → length entries ≤ length (flat_map entry_of entries)
entries_many [] = omega arith
entries_many (x ∷ entries) = omega (arith, entry_some x, entries_many entries, length-append (entry_of x) (flat_map entry_of entries))

entries_length : (entries : List Entry) → length (entries_of entries) ≡ 4 + length (flat_map entry_of entries)
entries_length entries = length-append (big_bytes 4 (length entries)) (flat_map entry_of entries) ∙ omega (arith, length-bytes_high_first 4 (length entries))

pub count_fits : (entries : List Entry) → length (entries_of entries) < 2 ^ 32 → length entries < 2 ^ 32
count_fits entries lt = omega (arith, entries_many entries, entries_length entries, lt)

pub alias_fits : (entries : List Entry) (i : ℕ) (d : Entry) → i < length entries → length (entries_of entries) < 2 ^ 32 → length (get_or entries i d).0 < 2 ^ 32
alias_fits entries i d inside lt =
    let entry = get_or entries i d in
    omega (arith, length-flat_map-take entry_of entries i d inside, entries_length entries, lt, length-append (counted entry.0) (big_bytes 8 entry.1), length-append (big_bytes 4 (length entry.0)) entry.0)

-- one entry more
pub entry_more : (entries : List Entry) (i : ℕ) (d : Entry) → i < length entries → flat_map entry_of (take (i + 1) entries) ≡ flat_map entry_of (take i entries) ++ (counted (get_or entries i d).0 ++ big_bytes 8 (get_or entries i d).1)
entry_more entries i d inside =
    ap (flat_map entry_of) (take_more entries i d inside) ∙ flat_map-append entry_of (take i entries) (get_or entries i d ∷ []) ∙ ap (λ (l : List ℕ). flat_map entry_of (take i entries) ++ l) (only (entry_of (get_or entries i d)))
  where
    only : (xs : List ℕ) → xs ++ [] ≡ xs
    only [] = refl
    only (x ∷ xs) = ap (λ (l : List ℕ). x ∷ l) (only xs)

-- one entry more goes by a window
pub entry_put : (start before between behind : Window) (head : List ℕ) (entries : List Entry) (i : ℕ) (d : Entry) → i < length entries
    → before ≡ window_after start (head ++ flat_map entry_of (take i entries)) → between ≡ window_after before (counted (get_or entries i d).0)
    → behind ≡ window_after between (big_bytes 8 (get_or entries i d).1) → behind ≡ window_after start (head ++ flat_map entry_of (take (i + 1) entries))
entry_put start before between behind head entries i d inside so_far alias key =
    let gone : List ℕ = flat_map entry_of (take i entries) in
    let one : List ℕ = counted (get_or entries i d).0 ++ big_bytes 8 (get_or entries i d).1 in
    let all : behind ≡ window_after start ((head ++ gone) ++ one) = then start before behind (head ++ gone) one so_far (then before between behind _ _ alias key) in
    all ∙ ap (λ (l : List ℕ). window_after start l) (append_assoc head gone one ∙ ap (λ (l : List ℕ). head ++ l) (sym (entry_more entries i d inside)))
