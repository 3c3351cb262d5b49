-- Lines of bytes, and the histories that follow them.
use Rattle.std.proofs.Common.{◌≡◌, ◌≢◌, ℕ, suc, zero, ◌<◌, ◌≤◌, ◌==◌, false, List, [], ◌∷◌, ◌++◌, length, get_or, take, drop, refl, sym, ap, ◌∙◌, subst, arith, append_assoc, append-nil}
use Rattle.std.proofs.lemmas.Bool.Decides.{nat_tests}
use Rattle.rule_model.specs.Entries.{History}
use Rattle.script_lines.specs.Lines.{event_of}
use Rattle.keystore_run.specs.Follows.{Follows, Says}
use Rattle.line_members.specs.LineFeeds.{IsFree, begun_with, ended, lines_of}
use Rattle.keystore_run.specs.Lines.{AreLines}
use Rattle.keystore_run.specs.Window.{HasNoFeedBelow}
use Rattle.tags.specs.declared.limits.TheConstants.{LINE_BYTES}

-- ---- bytes without LF

pub free_take : (bytes : List ℕ) (n : ℕ) → HasNoFeedBelow bytes n → n ≤ length bytes → IsFree (take n bytes)
free_take bytes zero h k = tt
free_take [] (suc n) h k = tt
free_take (b ∷ bytes) (suc n) h k = (h 0 (omega arith), free_take bytes n (λ i lt. h (suc i) (omega arith)) (omega arith))

pub free_whole : (bytes : List ℕ) → HasNoFeedBelow bytes (length bytes) → IsFree bytes
free_whole [] h = tt
free_whole (b ∷ bytes) h = (h 0 (omega arith), free_whole bytes (λ i lt. h (suc i) (omega arith)))

-- bytes around an LF
pub split_feed : (bytes : List ℕ) (n : ℕ) → n < length bytes → get_or bytes n 0 ≡ 10 → bytes ≡ (take n bytes ++ 10 ∷ []) ++ drop (suc n) bytes
split_feed [] n lt e = absurd (omega arith)
split_feed (b ∷ bytes) zero lt e = ap (λ x. x ∷ bytes) e
split_feed (b ∷ bytes) (suc n) lt e = ap (λ l. b ∷ l) (split_feed bytes n (omega arith) e)

-- ---- lines

pub ended-more : (lines : List (List ℕ)) (line rest : List ℕ) → ended (lines ++ line ∷ []) ++ rest ≡ ended lines ++ ((line ++ 10 ∷ []) ++ rest)
ended-more [] line rest = ap (λ l. l ++ rest) (append-nil (line ++ 10 ∷ []))
ended-more (first ∷ lines) line rest =
    append_assoc (first ++ 10 ∷ []) (ended (lines ++ line ∷ [])) rest ∙ ap (λ l. (first ++ 10 ∷ []) ++ l) (ended-more lines line rest)
    ∙ sym (append_assoc (first ++ 10 ∷ []) (ended lines) ((line ++ 10 ∷ []) ++ rest))

pub are_more : (lines : List (List ℕ)) (line : List ℕ) → AreLines lines → IsFree line → length line ≤ LINE_BYTES → AreLines (lines ++ line ∷ [])
are_more [] line are free short = ((free, short), tt)
are_more (first ∷ lines) line are free short = (are.0, are_more lines line are.1 free short)

not_feed : (b : ℕ) → b ≢ 10 → (b == 10) ≡ false
not_feed b h = grind (arith, nat_tests)

lines_of-line : (line rest : List ℕ) → IsFree line → lines_of ((line ++ 10 ∷ []) ++ rest) ≡ line ∷ lines_of rest
lines_of-line [] rest free = refl
lines_of-line (b ∷ line) rest free = rw (not_feed b free.0) (ap (begun_with b) (lines_of-line line rest free.1))

pub lines_of-ended : (lines : List (List ℕ)) (rest : List ℕ) → AreLines lines → lines_of (ended lines ++ rest) ≡ lines ++ lines_of rest
lines_of-ended [] rest are = refl
lines_of-ended (line ∷ lines) rest are =
    ap lines_of (append_assoc (line ++ 10 ∷ []) (ended lines) rest) ∙ lines_of-line line (ended lines ++ rest) are.0.0 ∙ ap (λ ls. line ∷ ls) (lines_of-ended lines rest are.1)

lines_of-bytes : (b : ℕ) (line : List ℕ) → IsFree (b ∷ line) → lines_of (b ∷ line) ≡ (b ∷ line) ∷ []
lines_of-bytes b [] free = rw (not_feed b free.0) refl
lines_of-bytes b (c ∷ line) free = rw (not_feed b free.0) (ap (begun_with b) (lines_of-bytes c line free.1))

pub lines_of-last : (line : List ℕ) → IsFree line → 0 < length line → lines_of line ≡ line ∷ []
lines_of-last [] free some = absurd (omega arith)
lines_of-last (b ∷ line) free some = lines_of-bytes b line free

-- ---- histories

pub follows_more : (past : History) (front : List (List ℕ)) (line : List ℕ) (mid later : History) (said text : List ℕ) → Follows past front mid said → Says mid (event_of line) later text
    → Follows past (front ++ line ∷ []) later (said ++ text)
follows_more past [] line mid later said text f s =
    (later, text, [], subst (λ (h : History). Says h (event_of line) later text) f.0 s, (refl, refl), ap (λ t. t ++ text) f.1 ∙ sym (append-nil text))
follows_more past (first ∷ front) line mid later said text f s =
    (f.0, f.1, f.2 ++ text, f.3, follows_more f.0 front line mid later f.2 text f.4 s, ap (λ t. t ++ text) f.5 ∙ append_assoc f.1 f.2 text)
