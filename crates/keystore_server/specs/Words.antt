-- The form of the command line that serves.
use Rattle.std.specs.Prelude.{ℕ, ◌<◌, ◌≤◌, Bool, true, false, ◌&&◌, List, [], ◌∷◌, Option, Some, None, if◌then◌else◌, codes, string_bytes}
use Rattle.std.specs.declared.string.String.{String}
use Rattle.std.specs.declared.alloc.Global.{Global}
use Rattle.byte_strings.specs.Numbers.{is_word, number_in, threads_in}
use Rattle.keystore_server.specs.declared.words.ServeForm.{ServeForm}

-- the form of a port, connections and workers, where there are all three, and whether the book is written at the end
abbrev pub form_with : Option ℕ → Option ℕ → Option ℕ → Bool → Option ServeForm
form_with (Some port) (Some connections) (Some workers) traced = Some (record { port = port; connections = connections; workers = workers; traced = traced })
form_with _ _ _ traced = None

abbrev pub form_in : List ℕ → List ℕ → List ℕ → Bool → Option ServeForm
form_in port connections workers traced = form_with (number_in 0 65535 port) (number_in 1 65536 connections) (threads_in workers) traced

-- `serve PORT CONNECTIONS WORKERS`, and optionally `--trace`; other words are no form of it
abbrev pub form_of : List (String Global) → Option ServeForm
form_of (first ∷ port ∷ connections ∷ workers ∷ []) =
    if is_word (codes "serve") first then form_in (string_bytes port) (string_bytes connections) (string_bytes workers) false else None
form_of (first ∷ port ∷ connections ∷ workers ∷ last ∷ []) =
    if is_word (codes "serve") first && is_word (codes "--trace") last then form_in (string_bytes port) (string_bytes connections) (string_bytes workers) true else None
form_of _ = None

pub record IsWithin (form : ServeForm) : Type 0 where
  pub port : form.port ≤ 65535
  pub some : 0 < form.connections
  pub few : form.connections ≤ 65536
  pub someone : 0 < form.workers
  pub few_workers : form.workers ≤ 64
