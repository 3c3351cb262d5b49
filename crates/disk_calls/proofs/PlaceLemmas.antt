-- One write behind another, and one torn range within another.
use Rattle.std.proofs.Common.{◌≡◌, ℕ, zero, suc, ◌+◌, ◌-◌, ◌≤◌, List, [], ◌∷◌, ◌++◌, length, take, drop, refl, sym, ap, ◌∙◌, subst, arith, length-take, length-append}
use Rattle.std.proofs.lemmas.List.{take-take, drop-take, drop-drop}
use Rattle.ks_outside.specs.Ranges.{Holds, Torn}

take_none : (m : ℕ) → take {A = ℕ} m [] ≡ []
take_none zero = refl
take_none (suc m) = refl

pub take_join : (n m : ℕ) (c : List ℕ) → take n c ++ take m (drop n c) ≡ take (n + m) c
take_join zero m c = let k : m ≡ 0 + m = omega arith in ap (λ (k : ℕ). take k c) k
take_join (suc n) m [] = take_none m ∙ sym (take_none (suc n + m))
take_join (suc n) m (x ∷ c) = let k : suc (n + m) ≡ suc n + m = omega arith in ap (λ (l : List ℕ). x ∷ l) (take_join n m c) ∙ ap (λ (k : ℕ). take k (x ∷ c)) k

-- what stands below a range stays
front : (k at : ℕ) (old new : List ℕ) → k ≤ at → k ≤ length old → take (length (take at old)) new ≡ take at old → take k new ≡ take k old
front k at old new below within f =
    let m = length (take at old) in
    let le : k ≤ m = omega (arith, length-take at old) in
    sym (take-take k m new le) ∙ ap (λ (l : List ℕ). take k l) f ∙ take-take k at old below

-- what stands above a range stays
behind : (past far : ℕ) (old new : List ℕ) → past ≤ far → drop past new ≡ drop past old → drop far new ≡ drop far old
behind past far old new above f =
    let more = far - past in
    let sum : past + more ≡ far = omega (arith, above) in
    ap (λ (k : ℕ). drop k new) (sym sum) ∙ sym (drop-drop more past new) ∙ ap (λ (l : List ℕ). drop more l) f ∙ drop-drop more past old ∙ ap (λ (k : ℕ). drop k old) sum

joined : (at : ℕ) (first second mid new : List ℕ) → at + length first ≤ length mid → Holds (at + length first) second mid new
    → take (length first) (drop at mid) ≡ first → take (length (first ++ second)) (drop at new) ≡ first ++ second
joined at first second mid new within held there =
    let n = length first in
    let m = length second in
    let stays : take n (drop at new) ≡ first =
    sym (drop-take at n new) ∙ ap (λ (l : List ℕ). drop at l) (front (at + n) (at + n) mid new (omega arith) within held.front) ∙ drop-take at n mid ∙ there in
    let then : take m (drop n (drop at new)) ≡ second = ap (λ (l : List ℕ). take m l) (drop-drop n at new) ∙ held.range in
    ap (λ (k : ℕ). take k (drop at new)) (length-append first second) ∙ sym (take_join n m (drop at new)) ∙ (λ i. stays i ++ then i)

-- two pieces written in turn, the second right behind the first, are one
pub holds_on : (at place : ℕ) (first second old mid new : List ℕ) → place ≡ at + length first → Holds at first old mid → Holds place second mid new
    → Holds at (first ++ second) old new
holds_on at place first second old mid new is one other = from (subst (λ (p : ℕ). Holds p second mid new) is other)
  where
    from : Holds (at + length first) second mid new → Holds at (first ++ second) old new
    from two = record {
      front =
          let k = length (take at old) in
          front k (at + length first) mid new (omega (arith, length-take at old)) (omega (arith, length-take at old, one.size)) two.front ∙ one.front;
      range = joined at first second mid new (omega (arith, one.size)) two one.range;
      after =
          let end : at + length (first ++ second) ≡ at + length first + length second = omega (arith, length-append first second) in
          ap (λ (k : ℕ). drop k new) end ∙ two.after ∙ behind (at + length first) (at + length first + length second) old mid (omega arith) one.after ∙ ap (λ (k : ℕ). drop k old) (sym end);
      size = omega (arith, one.size, two.size, length-append first second);
    }

-- a torn range, of which a part is torn again, is that range torn
pub torn_within : (at n place m : ℕ) (old mid new : List ℕ) → at ≤ place → place + m ≤ at + n → Torn at n old mid → Torn place m mid new → Torn at n old new
torn_within at n place m old mid new begins ends one two = record {
  front =
      let k = length (take at old) in
      front k place mid new (omega (arith, length-take at old, begins)) (omega (arith, length-take at old, one.no_shorter)) two.front ∙ one.front;
  after = behind (place + m) (at + n) mid new ends two.after ∙ one.after;
  no_shorter = omega (arith, one.no_shorter, two.no_shorter);
  no_longer = omega (arith, one.no_longer, two.no_longer, ends);
}

-- nothing was written: the range is torn in no byte
pub torn_none : (at n : ℕ) (image : List ℕ) → Torn at n image image
torn_none at n image = record {
  front = front_of at image;
  after = refl;
  no_shorter = omega arith;
  no_longer = omega arith;
}
  where
    front_of : (at : ℕ) (l : List ℕ) → take (length (take at l)) l ≡ take at l
    front_of zero l = refl
    front_of (suc at) [] = refl
    front_of (suc at) (x ∷ l) = ap (λ (t : List ℕ). x ∷ t) (front_of at l)
