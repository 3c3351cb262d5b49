-- What words ask for.
use Rattle.std.specs.Prelude.{ℕ, Bool, false, ◌||◌, ◌&&◌, List, [], ◌∷◌, Option, Some, None, if◌then◌else◌, codes, length, ◌-◌, slice_get, string_bytes, bytes_eq}
use Rattle.std.specs.declared.string.String.{String}
use Rattle.std.specs.declared.alloc.Global.{Global}
use Rattle.byte_strings.specs.Numbers.{is_word}
use Rattle.keystore_process.specs.declared.asked.TextAsked.{TextAsked}
use Rattle.keystore_process.specs.declared.asked.TextAsked.TheVariants.{Help, Version}

-- a form begins with this word
abbrev pub begins_form : List ℕ → Bool
begins_form word = bytes_eq word (codes "init") || bytes_eq word (codes "run") || bytes_eq word (codes "soak") || bytes_eq word (codes "serve")

-- the text that a word alone asks for
abbrev pub asked_by : List ℕ → Option TextAsked
asked_by word =
    if bytes_eq word (codes "--help") || bytes_eq word (codes "-h") || bytes_eq word (codes "help") then Some Help
    else if bytes_eq word (codes "--version") || bytes_eq word (codes "-V") then Some Version
    else None

-- the help behind a form's first word
abbrev pub help_behind : List ℕ → List ℕ → Option TextAsked
help_behind first last = if begins_form first && bytes_eq last (codes "--help") then Some Help else None

-- by the first word, and the last one behind it, where there is one
abbrev pub asked_behind : List ℕ → Option (String Global) → Option TextAsked
asked_behind first None = asked_by first
asked_behind first (Some last) = help_behind first (string_bytes last)

-- the help, also where the first word is a form's and the last is `--help`, or the version
abbrev pub text_asked : List (String Global) → Option TextAsked
text_asked [] = None
text_asked (first ∷ rest) = asked_behind (string_bytes first) (slice_get rest (length rest - 1))

-- the first word is this one
abbrev pub begins_with : List ℕ → List (String Global) → Bool
begins_with word [] = false
begins_with word (first ∷ rest) = is_word word first

-- the words are this one alone
abbrev pub is_alone : List ℕ → List (String Global) → Bool
is_alone word (only ∷ []) = is_word word only
is_alone word _ = false
