-- Draws one after another, and what a loop that draws has after one more byte.
use Rattle.std.proofs.Common.{◌≡◌, ℕ, suc, ◌+◌, ◌<◌, List, [], ◌∷◌, ◌++◌, None, Some, refl, sym, ap, ◌∙◌, take, set, length, arith}
use Rattle.std.proofs.lemmas.List.{take_more_set}
use Rattle.std.specs.declared.option.Option.{Option}
use Rattle.ks_outside.specs.Draws.{led_by, followed, Draws}

pub followed-append : (bytes more : List ℕ) (later : ℕ → ℕ) → followed (bytes ++ more) later ≡ followed bytes (followed more later)
followed-append [] more later = refl
followed-append (byte ∷ bytes) more later = ap (led_by byte) (followed-append bytes more later)

-- none drawn
pub Draws-nil : (a : Option (ℕ → ℕ)) → Draws a a []
Draws-nil None = tt
Draws-nil (Some coming) = refl

-- two draws, one after the other
pub Draws-trans : (a b c : Option (ℕ → ℕ)) (first second : List ℕ) → Draws a b first → Draws b c second → Draws a c (first ++ second)
Draws-trans None b c first second p q = tt
Draws-trans (Some x) None c first second p q = absurd p
Draws-trans (Some x) (Some y) None first second p q = absurd q
Draws-trans (Some x) (Some y) (Some z) first second p q = p ∙ ap (followed first) q ∙ sym (followed-append first second z)

pub draw_more : (out : List ℕ) (i byte : ℕ) (start now later : ℕ → ℕ) → i < length out
    → start ≡ followed (take i out) now → now ≡ led_by byte later → start ≡ followed (take (i + 1) (set out i byte)) later
draw_more out i byte start now later within drawn next =
    let parts = followed-append (take i out) (byte ∷ []) later in
    drawn ∙ ap (followed (take i out)) next ∙ rw (take_more_set out i byte within) (sym parts)

same_front : (first second : List ℕ) (x y : ℕ → ℕ) → length first ≡ length second → followed first x ≡ followed second y → first ≡ second
same_front [] [] x y same e = refl
same_front [] (b ∷ second) x y same e = absurd (omega (arith, same))
same_front (a ∷ first) [] x y same e = absurd (omega (arith, same))
same_front (a ∷ first) (b ∷ second) x y same e =
    let less : length first ≡ length second = omega (arith, same) in
    let head : a ≡ b = ap (λ f. f 0) e in
    rw (head, same_front first second x y less (ap (λ f i. f (suc i)) e)) refl

-- as many bytes that were drawn from the same content are the same
pub Draws-same : (coming : ℕ → ℕ) (a b : Option (ℕ → ℕ)) (first second : List ℕ) → length first ≡ length second
    → Draws (Some coming) a first → Draws (Some coming) b second → first ≡ second
Draws-same coming None b first second same p q = absurd p
Draws-same coming (Some x) None first second same p q = absurd q
Draws-same coming (Some x) (Some y) first second same p q = same_front first second x y same (sym p ∙ q)
