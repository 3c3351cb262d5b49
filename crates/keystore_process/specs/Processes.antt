-- What a process does: which of its files, store, input, output, random device, clock and port reach what its words ask for, and the number
-- that it ends with.
use Rattle.std.specs.Prelude.{◌≡◌, ◌↔◌, ◌⊎◌, ℕ, Bool, true, false, ◌&&◌, List, [], ◌∷◌, Option, Some, None, is_none, Result, Ok, Err, codes}
use Rattle.std.specs.declared.string.String.{String}
use Rattle.std.specs.declared.alloc.Global.{Global}
use Rattle.ks_outside.specs.declared.clock.Reading.{Reading}
use Rattle.ks_outside.specs.declared.disk.Disk.{Ghosts as DiskGhosts}
use Rattle.ks_outside.specs.declared.entropy.Entropy.{Ghosts as EntropyGhosts}
use Rattle.ks_outside.specs.declared.link.Link.{Ghosts as LinkGhosts}
use Rattle.ks_outside.specs.declared.listener.Listener.{Ghosts as ListenerGhosts}
use Rattle.ks_outside.specs.declared.sink.Sink.{Ghosts as SinkGhosts}
use Rattle.ks_outside.specs.declared.source.Source.{Ghosts as SourceGhosts}
use Rattle.tags.specs.declared.policy.PolicyRow.{PolicyRow}
use Rattle.tags.specs.declared.secrets.DeviceSecrets.{DeviceSecrets}
use Rattle.tags.specs.Secrets.{demo_device}
use Rattle.device_files.specs.Device.{device_in}
use Rattle.device_files.specs.Policy.{policy_in}
use Rattle.device_files.specs.declared.files.FileTrouble.{FileTrouble}
use Rattle.device_files.specs.declared.files.FileTrouble.TheVariants as troubles
use Rattle.service_book.specs.declared.entry.BookEntry.{BookEntry}
use Rattle.book_traces.specs.Books.{Writes, book_trace}
use Rattle.book_traces.specs.declared.book.BookFault.{BookFault}
use Rattle.book_traces.specs.declared.book.BookFault.TheVariants.{Memory, Write}
use Rattle.keystore_run.specs.Status.{number_of}
use Rattle.keystore_run.specs.declared.words.Form.{Form}
use Rattle.keystore_run.specs.declared.status.Status.{Status}
use Rattle.keystore_run.specs.declared.status.Status.TheVariants as statuses
use Rattle.keystore_run.specs.Ends.{outside}
use Rattle.keystore_run.specs.Runs.{Does as DoesForm}
use Rattle.keystore_run.specs.Words.{form_of}
use Rattle.keystore_server.specs.declared.end.ServeEnd.{ServeEnd}
use Rattle.keystore_server.specs.declared.end.ServeStatus.{ServeStatus}
use Rattle.keystore_server.specs.declared.end.ServeStatus.TheVariants as served
use Rattle.keystore_server.specs.declared.words.ServeForm.{ServeForm}
use Rattle.keystore_server.specs.Ends.{Serves}
use Rattle.keystore_server.specs.Words.{form_of as serve_form_of}
use Rattle.keystore_process.specs.Asked.{begins_with, is_alone, text_asked}
use Rattle.keystore_process.specs.declared.asked.TextAsked.{TextAsked}
use Rattle.keystore_process.specs.declared.device.Device.{Device}
use Rattle.keystore_process.specs.declared.device.RefusedFile.{RefusedFile}
use Rattle.keystore_process.specs.declared.ended.RunEnd.{RunEnd}
use Rattle.keystore_process.specs.declared.system.System.{Ghosts as SystemGhosts}

-- the status of the program whose service ended so
abbrev pub served_as : ServeStatus → Status
served_as served.Ok = statuses.Ok
served_as served.Memory = statuses.Memory
served_as served.Usage = statuses.Usage
served_as served.DiskFault = statuses.DiskFault
served_as (served.Corrupted offset) = statuses.Corrupted offset
served_as served.ListenFault = statuses.ListenFault

-- the status of a process a file of whose device was not taken
abbrev pub refused_as : FileTrouble → Status
refused_as troubles.Memory = statuses.Memory
refused_as _ = statuses.Usage

-- whether a service ended well
abbrev pub is_served : ServeStatus → Bool
is_served served.Ok = true
is_served _ = false

-- the status of what came of a trace
abbrev pub traced_as : Result (Unit {0}) BookFault → Status
traced_as (Ok u) = statuses.Ok
traced_as (Err Memory) = statuses.Memory
traced_as (Err Write) = statuses.WriteFault

-- the trace of a book was written, as its status says; where there is no book, nothing was
abbrev pub Traces : {O : Type 0} → SinkGhosts O → Option (List BookEntry) → O → O → Status → Type 0
Traces k None old new status = (new ≡ old) × (status ≡ statuses.Ok)
Traces k (Some book) old new status = (result : Result (Unit {0}) BookFault) × Writes k (book_trace book) old new result × (status ≡ traced_as result)

-- the secrets of the bytes of a device's file; the demo device's where there is no file
abbrev pub secrets_of : Option (List ℕ) → Option DeviceSecrets
secrets_of None = Some demo_device
secrets_of (Some bytes) = device_in bytes

-- the secrets that bytes spell, which are not those of the demo device, or none where they spell none
abbrev pub ReadsSecrets : List ℕ → Result (DeviceSecrets × Bool) FileTrouble → Type 0
ReadsSecrets bytes (Ok found) = (device_in bytes ≡ Some found.0) × (found.1 ≡ false)
ReadsSecrets bytes (Err trouble) = device_in bytes ≡ None

-- the policy of the bytes of its file; the demo policy where there is no file
abbrev pub policy_of : Option (List ℕ) → Option (List PolicyRow)
policy_of None = Some (record { uid = 1000; nspace = 100; bits = 509 } ∷ record { uid = 1000; nspace = 0; bits = 64 } ∷ [])
policy_of (Some bytes) = policy_in bytes

module _ {P I O S R T Q L : Type 0} (p : SystemGhosts P I O S R T Q L) (system : P) where
  -- these are the secrets of the process's device, and whether it is the demo device
  pub record HasSecrets (secrets : DeviceSecrets) (is_demo : Bool) : Type 0 where
    pub bytes : Option (List ℕ)
    pub file : p.has_file system (codes "device.key") bytes
    pub secrets_are : secrets_of bytes ≡ Some secrets
    pub told : is_demo ≡ is_none bytes

  -- this is its policy
  pub record HasPolicy (policy : List PolicyRow) : Type 0 where
    pub bytes : Option (List ℕ)
    pub file : p.has_file system (codes "policy.json") bytes
    pub policy_is : policy_of bytes ≡ Some policy

  -- Why a file of the device is not taken: want of memory; it was not read, for this; or it has bytes that spell nothing.
  pub data IsRefused (name : List ℕ) (IsSpoilt : List ℕ → Type 0) (trouble : FileTrouble) : Type 0 where
    Wanting : trouble ≡ troubles.Memory → IsRefused name IsSpoilt trouble
    Unread : p.has_trouble system name trouble → IsRefused name IsSpoilt trouble
    Spoilt : (bytes : List ℕ) → p.has_file system name (Some bytes) → IsSpoilt bytes → IsRefused name IsSpoilt trouble

  abbrev pub NoSecrets : FileTrouble → Type 0
  NoSecrets trouble = IsRefused (codes "device.key") (λ bytes. device_in bytes ≡ None) trouble

  abbrev pub NoPolicy : FileTrouble → Type 0
  NoPolicy trouble = IsRefused (codes "policy.json") (λ bytes. policy_in bytes ≡ None) trouble

  -- what is found of the two files, by the answer
  abbrev pub FindsSecrets : Result (DeviceSecrets × Bool) FileTrouble → Type 0
  FindsSecrets (Ok found) = HasSecrets found.0 found.1
  FindsSecrets (Err trouble) = NoSecrets trouble

  abbrev pub FindsPolicy : Result (List PolicyRow) FileTrouble → Type 0
  FindsPolicy (Ok policy) = HasPolicy policy
  FindsPolicy (Err trouble) = NoPolicy trouble

  -- this is its device
  pub record IsDevice (device : Device) : Type 0 where
    pub secrets : HasSecrets device.secrets device.is_demo
    pub policy : HasPolicy device.policy

  -- the device of its files, or why there is none
  abbrev pub FindsDevice : Result Device RefusedFile → Type 0
  FindsDevice (Ok device) = IsDevice device
  FindsDevice (Err file) = NoSecrets file.trouble ⊎ NoPolicy file.trouble

  module _ (s : SourceGhosts I) (k : SinkGhosts O) (d : DiskGhosts S) (n : EntropyGhosts R) where
    -- The words were run over the process's input, output, store and random device, by this device, and it ended so.
    pub record IsRun (words : List (String Global)) (device : Device) (end : RunEnd O S) : Type 0 where
      pub source : I
      pub later : I
      pub sink : O
      pub disk : S
      pub entropy : R
      pub drawn : R
      pub is_input : p.has_input system source
      pub is_output : p.has_output system sink
      pub is_store : p.has_store system (codes "store.ks") (is_alone (codes "init") words) disk
      pub is_random : p.has_random system entropy
      pub usage : (end.status ≡ statuses.Usage) ↔ (form_of words ≡ None)
      pub does : (form : Form) → form_of words ≡ Some form
          → DoesForm s k d n device.secrets device.policy form (outside source sink disk entropy) (outside later end.output end.store drawn) end.status

  -- The trace of a service's book was written to an output of the process, where there is a book, and this came of it.
  pub record IsTraced (k : SinkGhosts O) (book : Option (List BookEntry)) (status : Status) : Type 0 where
    pub output : O
    pub later : O
    pub is_output : p.has_output system output
    pub traces : Traces k book output later status

  module _ (k : SinkGhosts O) (d : DiskGhosts S) (n : EntropyGhosts R) (b : ListenerGhosts Q L) (l : LinkGhosts L) (shows : T → Reading → Type 0) (leaves : L → Option L → Type 0) where
    -- A service was made of the process's port and store, random device and clock, by this device, and it ended so.
    pub record IsServed (device : Device) (form : ServeForm) (end : ServeEnd Q S R) : Type 0 where
      pub port : Q
      pub disk : S
      pub entropy : R
      pub clock : T
      pub is_port : p.has_port system form.port port
      pub is_store : p.has_store system (codes "store.ks") false disk
      pub is_random : p.has_random system entropy
      pub is_clock : p.has_clock system clock
      pub serves : Serves b l d n (shows clock) leaves device.secrets device.policy form port disk entropy end

    -- what the status of a process says whose service ended so: its end, or what came of the trace that was asked for
    pub data Tells (traced : Bool) (end : ServeEnd Q S R) (status : Status) : Type 0 where
      AsEnded : (traced && is_served end.status) ≡ false → status ≡ served_as end.status → Tells traced end status
      AsTraced : traced ≡ true → is_served end.status ≡ true → IsTraced k end.book status → Tells traced end status

    -- The words were served by this device, with this status: they are no form; the port was not had; or a service ended so.
    pub data Serving (words : List (String Global)) (device : Device) (status : Status) : Type 0 where
      NoForm : serve_form_of words ≡ None → status ≡ statuses.Usage → Serving words device status
      NoPort : (form : ServeForm) (port : Q) → serve_form_of words ≡ Some form → p.has_port system form.port port → p.is_had port ≡ false → status ≡ statuses.ListenFault → Serving words device status
      Served : (form : ServeForm) (end : ServeEnd Q S R) → serve_form_of words ≡ Some form → IsServed device form end → Tells form.traced end status → Serving words device status

    module _ (s : SourceGhosts I) where
      -- what a device does of words that ask for no text
      pub data DoesWords (words : List (String Global)) (device : Device) (status : Status) : Type 0 where
        Runs : begins_with (codes "serve") words ≡ false → (end : RunEnd O S) → IsRun s k d n words device end → status ≡ end.status → DoesWords words device status
        ServesWords : begins_with (codes "serve") words ≡ true → Serving words device status → DoesWords words device status

      -- A file of the process's device was not taken; or its device did what the words ask for.
      pub data ByDevice (words : List (String Global)) (status : Status) : Type 0 where
        Refused : (trouble : FileTrouble) → NoSecrets trouble ⊎ NoPolicy trouble → status ≡ refused_as trouble → ByDevice words status
        Does : (device : Device) → IsDevice device → DoesWords words device status → ByDevice words status

      -- What a process did, and the number that it ended with: it had no memory for its words; it printed a text that these ask for; or it did
      -- what else they ask for.
      pub data Ends (number : ℕ) : Type 0 where
        WithoutWords : number ≡ number_of statuses.Memory → Ends number
        Printed : (words : List (String Global)) (asked : TextAsked) (status : Status) → p.has_words system words → text_asked words ≡ Some asked → p.has_printed system asked status → number ≡ number_of status → Ends number
        Did : (words : List (String Global)) (status : Status) → p.has_words system words → text_asked words ≡ None → ByDevice words status → number ≡ number_of status → Ends number
