-- Members without floats stay so under `put`.
use Rattle.std.proofs.Common.{◌≡◌, ℕ, List, [], ◌∷◌, map, Bool, true, false, ◌||◌, true≢false, Ordering, Less, Equal, Greater, Result, Ok, Err, OnOk, OnErr, String, Global, refl}
use Rattle.std.specs.Ordering.{nat_cmp, match_ordering}
use Rattle.std.specs.Cmp.Lexicographic.{slice_cmp}
use Rattle.serde_json.specs.Data.{Data, Members, no_members, member, put}
use Rattle.serde_json.specs.View.{view, members_view, items_view, items_of}
use Rattle.serde_json.specs.Written.{has_float, items_have_float, members_have_float}
use Rattle.serde_json.specs.declared.value.Value.{Value}
use Rattle.line_members.specs.Values.{entry_data}

or_left : (a b : Bool) → (a || b) ≡ false → a ≡ false
or_left false b h = refl
or_left true b h = h

or_right : (a b : Bool) → (a || b) ≡ false → b ≡ false
or_right false b h = h
or_right true b h = absurd (true≢false h)

both_false : (a b : Bool) → a ≡ false → b ≡ false → (a || b) ≡ false
both_false false b x y = y
both_false true b x y = x

chosen : (o : Ordering) (a b c : Members) → members_have_float a ≡ false → members_have_float b ≡ false → members_have_float c ≡ false → members_have_float (match_ordering o a b c) ≡ false
chosen Less a b c x y z = x
chosen Equal a b c x y z = y
chosen Greater a b c x y z = z

put_has_none : (k : List ℕ) (d : Data) (ms : Members) → has_float d ≡ false → members_have_float ms ≡ false → members_have_float (put k d ms) ≡ false
put_has_none k d no_members value h = both_false (has_float d) false value refl
put_has_none k d (member l e ms) value h =
    let first = or_left (has_float e) (members_have_float ms) h in
    let rest = or_right (has_float e) (members_have_float ms) h in
    chosen (slice_cmp nat_cmp k l) _ _ _ (both_false (has_float d) _ value h) (both_false (has_float d) _ value rest)
    (both_false (has_float e) _ first (put_has_none k d ms value rest))

-- whether a member was put or no memory was found
pub put_keeps : {T E : Type 0} (r : Result T E) (old new : List (String Global × Value)) (k : List ℕ) (d : Data) → OnOk r (members_view new ≡ put k d (members_view old)) → OnErr r (new ≡ old)
    → has_float d ≡ false → members_have_float (members_view old) ≡ false → members_have_float (members_view new) ≡ false
put_keeps (Ok x) old new k d ok err value h = rw ok (put_has_none k d (members_view old) value h)
put_keeps (Err e) old new k d ok err value h = rw err h

items_have_none : (es : List (List ℕ × ℕ)) → items_have_float (items_of (map entry_data es)) ≡ false
items_have_none [] = refl
items_have_none (e ∷ es) = items_have_none es

-- the entries of a listing have no float
pub entries_have_none : (values : List Value) (es : List (List ℕ × ℕ)) → map view values ≡ map entry_data es → items_have_float (items_view values) ≡ false
entries_have_none values es h = rw h (items_have_none es)
