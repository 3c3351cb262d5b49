-- How deep written members nest.
use Rattle.std.proofs.Common.{◌≡◌, ◌≤◌, ℕ, List, [], ◌∷◌, map, Bool, true, false, if◌then◌else◌, Ordering, Less, Equal, Greater, Option, Some, None, max, arith, refl}
use Rattle.std.specs.Ordering.{nat_cmp, match_ordering}
use Rattle.std.specs.Cmp.Lexicographic.{slice_cmp}
use Rattle.std.specs.Str.{is_utf8}
use Rattle.serde_json.specs.Data.{Data, Members, no_members, member, put, depth, members_depth, items_depth}
use Rattle.serde_json.specs.View.{items_of}
use Rattle.line_members.specs.Values.{alias_data, entry_data, entries_data, with_field}

-- ---- members one by one

left_max : (a b n : ℕ) → max a b ≤ n → a ≤ n
left_max a b n h = omega arith

right_max : (a b n : ℕ) → max a b ≤ n → b ≤ n
right_max a b n h = omega arith

both_max : (a b n : ℕ) → a ≤ n → b ≤ n → max a b ≤ n
both_max a b n h k = omega arith

pub least : (n : ℕ) → 0 ≤ n
least n = omega arith

chosen : (n : ℕ) (o : Ordering) (a b c : Members) → members_depth a ≤ n → members_depth b ≤ n → members_depth c ≤ n → members_depth (match_ordering o a b c) ≤ n
chosen n Less a b c x y z = x
chosen n Equal a b c x y z = y
chosen n Greater a b c x y z = z

pub put_depth : (n : ℕ) (k : List ℕ) (d : Data) (ms : Members) → depth d ≤ n → members_depth ms ≤ n → members_depth (put k d ms) ≤ n
put_depth n k d no_members value h = both_max (depth d) 0 n value (least n)
put_depth n k d (member l e ms) value h =
    let first = left_max (depth e) (members_depth ms) n h in
    let rest = right_max (depth e) (members_depth ms) n h in
    chosen n (slice_cmp nat_cmp k l) _ _ _ (both_max (depth d) _ n value h) (both_max (depth d) _ n value rest)
    (both_max (depth e) _ n first (put_depth n k d ms value rest))

-- one that nests nothing
pub flat : (k : List ℕ) (d : Data) (n : ℕ) (ms : Members) → depth d ≡ 0 → members_depth ms ≤ n → members_depth (put k d ms) ≤ n
flat k d n ms same h = put_depth n k d ms (rw same (least n)) h

pub if_there : {A : Type 0} (written : A → Data) (k : List ℕ) (o : Option A) (n : ℕ) (ms : Members) → ((x : A) → depth (written x) ≤ n) → members_depth ms ≤ n → members_depth (with_field written k o ms) ≤ n
if_there written k None n ms each h = h
if_there written k (Some x) n ms each h = put_depth n k (written x) ms (each x) h

-- ---- aliases

alias_depth : (b : Bool) (x y : Data) → depth x ≤ 1 → depth y ≤ 1 → depth (if b then x else y) ≤ 1
alias_depth true x y h k = h
alias_depth false x y h k = k

pub an_alias : (alias : List ℕ) → depth (alias_data alias) ≤ 1
an_alias alias = alias_depth (is_utf8 alias) _ _ (least 1) (omega arith)

pub an_alias_deep : (alias : List ℕ) → depth (alias_data alias) ≤ 2
an_alias_deep alias = let h = an_alias alias in omega (arith, h)

-- ---- entries of a listing

pairs_depth : (es : List (List ℕ × ℕ)) → items_depth (items_of (map entry_data es)) ≤ 1
pairs_depth [] = least 1
pairs_depth (e ∷ es) = both_max 1 _ 1 (omega arith) (pairs_depth es)

pub entries_depth : (es : List (List ℕ × ℕ)) → depth (entries_data es) ≤ 2
entries_depth es = let inner = pairs_depth es in omega (arith, inner)
