-- The forms of the command line.
use Rattle.std.specs.Prelude.{ℕ, ◌-◌, ◌^◌, ◌<◌, ◌≤◌, Bool, true, false, List, [], ◌∷◌, Option, Some, None, if◌then◌else◌, codes, string_bytes}
use Rattle.std.specs.declared.string.String.{String}
use Rattle.std.specs.declared.alloc.Global.{Global}
use Rattle.byte_strings.specs.Numbers.{is_word, number_in}
use Rattle.keystore_run.specs.declared.words.Form.{Form}
use Rattle.keystore_run.specs.declared.written.Written.{Written}
use Rattle.keystore_run.specs.declared.written.Written.TheVariants.{Replies, Trace}
use Rattle.keystore_run.specs.declared.words.Form.TheVariants.{Init, Run, Soak}
use Rattle.tags.specs.declared.limits.TheConstants.{MOST_SLOTS}

-- the slots that a word gives: a number from 1 to the most slots
abbrev pub slots_in : List ℕ → Option ℕ
slots_in text = number_in 1 MOST_SLOTS text

-- `--trace` alone, or no word
abbrev pub written_in : List (String Global) → Option Written
written_in [] = Some Replies
written_in (word ∷ []) = if is_word (codes "--trace") word then Some Trace else None
written_in _ = None

-- the run of a word that gives its slots and of what is written, where both are there
abbrev pub run_with : Bool → Option ℕ → Option Written → Option Form
run_with fresh (Some slots) (Some written) = Some (Run fresh slots written)
run_with fresh _ _ = None

-- behind `--slots`: N, and what is written
abbrev pub slots_run : Bool → List (String Global) → Option Form
slots_run fresh [] = None
slots_run fresh (number ∷ rest) = run_with fresh (slots_in (string_bytes number)) (written_in rest)

-- optionally `--slots N`, where 16 stands for N that is not said, and what is written
abbrev pub sized_run : Bool → List (String Global) → Option Form
sized_run fresh [] = run_with fresh (Some 16) (Some Replies)
sized_run fresh (first ∷ rest) = if is_word (codes "--slots") first then slots_run fresh rest else run_with fresh (Some 16) (written_in (first ∷ rest))

-- optionally `--fresh`, and more
abbrev pub run_of : List (String Global) → Option Form
run_of [] = sized_run false []
run_of (first ∷ rest) = if is_word (codes "--fresh") first then sized_run true rest else sized_run false (first ∷ rest)

-- the load of two words that give its seed, which has 64 bits, and its lines, from 1 to 100,000
abbrev pub load_with : Option ℕ → Option ℕ → Option Form
load_with (Some seed) (Some lines) = Some (Soak seed lines)
load_with _ _ = None

abbrev pub load_of : List ℕ → List ℕ → Option Form
load_of seed lines = load_with (number_in 0 (2 ^ 64 - 1) seed) (number_in 1 100000 lines)

-- the forms that are no run
abbrev pub other_form : String Global → List (String Global) → Option Form
other_form first [] = if is_word (codes "init") first then Some Init else None
other_form first (second ∷ third ∷ []) = if is_word (codes "soak") first then load_of (string_bytes second) (string_bytes third) else None
other_form first _ = None

-- `init`; or `run`, optionally `--fresh`, then optionally `--slots N`, where 16 stands for N that is not said, and then optionally
-- `--trace`; or `soak SEED N`. Other words are no form.
abbrev pub form_of : List (String Global) → Option Form
form_of [] = None
form_of (first ∷ rest) = if is_word (codes "run") first then run_of rest else other_form first rest

-- a slot at least, and at most the most slots
abbrev pub AreSlots : ℕ → Type 0
AreSlots slots = (0 < slots) × (slots ≤ MOST_SLOTS)

-- a run has so many slots, and a load at most 100,000 lines
abbrev pub IsWithin : Form → Type 0
IsWithin Init = Unit {0}
IsWithin (Run fresh slots written) = AreSlots slots
IsWithin (Soak seed lines) = lines ≤ 100000
