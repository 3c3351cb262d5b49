-- A window of a buffer, moved, filled and passed on.
use Rattle.std.proofs.Common.{◌≡◌, ℕ, ◌+◌, ◌-◌, ◌≤◌, List, ◌++◌, length, take, drop, sym, ap, ◌∙◌, subst, arith, append_assoc, length-drop}
use Rattle.std.proofs.lemmas.List.{take-append-le, take-take, drop-take, drop-drop, length-take-le}
use Rattle.std.proofs.Math.Seq.{take-add, take-append_seam}

-- what a rotation of the buffer's front brings to the front
pub moved : (buffer rotated x y : List ℕ) (start end : ℕ) → start ≤ end → end ≤ length buffer → rotated ≡ drop start (take end buffer) ++ x
    → take (end - start) (rotated ++ y) ≡ take (end - start) (drop start buffer)
moved buffer rotated x y start end h k e =
    let m : ℕ = end - start in
    let rest : List ℕ = drop start buffer in
    let ends : end ≡ start + m = omega arith in
    let inner : drop start (take end buffer) ≡ take m rest = ap (λ n. drop start (take n buffer)) ends ∙ drop-take start m buffer in
    let fits : m ≤ length rest = omega (arith, length-drop start buffer) in
    let long : m ≤ length (take m rest) = omega (arith, length-take-le m rest fits) in
    let whole : rotated ++ y ≡ take m rest ++ (x ++ y) = ap (λ l. l ++ y) (e ∙ ap (λ l. l ++ x) inner) ∙ append_assoc (take m rest) x y in
    ap (take m) whole ∙ take-append-le m (take m rest) (x ++ y) long ∙ take-take m m rest (omega arith)

-- n bytes behind the front of a buffer that stayed
pub filled : (old mid new : List ℕ) (from n room : ℕ) → take from mid ≡ old → take from new ≡ take from mid → n ≤ room → from + room ≤ length new
    → (length (take n (drop from new)) ≡ n) × (take (from + n) new ≡ old ++ take n (drop from new))
filled old mid new from n room e f h k =
    let fits : n ≤ length (drop from new) = omega (arith, length-drop from new) in
    (length-take-le n (drop from new) fits, take-add from n new ∙ ap (λ l. l ++ take n (drop from new)) (f ∙ e))

-- a vector of so many items through a slice of as many
pub written : (len : ℕ) (new rest : List ℕ) → length new ≡ len → take len (new ++ rest) ≡ new
written len new rest e = subst (λ n. take n (new ++ rest) ≡ new) e (take-append_seam new rest)

-- what is left of a window behind its first bytes
pub passed : (buffer : List ℕ) (start end count : ℕ) → start + count + 1 ≤ end → take (end - (start + count + 1)) (drop (start + count + 1) buffer) ≡ drop (count + 1) (take (end - start) (drop start buffer))
passed buffer start end count h =
    let rest : List ℕ = drop start buffer in
    let m : ℕ = end - (start + count + 1) in
    let whole : end - start ≡ (count + 1) + m = omega arith in
    let at : start + count + 1 ≡ start + (count + 1) = omega arith in
    let dropped : drop (start + count + 1) buffer ≡ drop (count + 1) rest = ap (λ n. drop n buffer) at ∙ sym (drop-drop (count + 1) start buffer) in
    ap (take m) dropped ∙ sym (ap (λ n. drop (count + 1) (take n rest)) whole ∙ drop-take (count + 1) m rest)
