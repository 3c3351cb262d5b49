-- The lines of a load, served one after another over an empty store.
use Rattle.std.proofs.Common.{◌≡◌, ℕ, ℤ, zero, suc, ◌+◌, ◌≤◌, ◌<◌, inl, inr, Bool, true, false, ◌||◌, List, [], ◌∷◌, ◌++◌, length, drop, max, take, Option, Some, None, Ok, is_some, refl, sym, ap, ◌∙◌, subst, arith, append_assoc, append-nil, length-append, length-drop, length-take}
use Rattle.ks_outside.specs.Draws.{Draws}
use Rattle.ks_outside.specs.Images.{AllImages, tells}
use Rattle.ks_outside.specs.Seeded.{bytes_from}
use Rattle.ks_outside.specs.Shown.{Put}
use Rattle.ks_outside.specs.declared.disk.Disk.{Ghosts as DiskGhosts}
use Rattle.ks_outside.specs.declared.entropy.Entropy.{Ghosts as EntropyGhosts}
use Rattle.ks_outside.specs.declared.sink.Sink.{Ghosts as SinkGhosts}
use Rattle.disk_model.specs.DiskCalls.{DiskCall}
use Rattle.disk_model.specs.CrashImages.{IsImage, WasImage}
use Rattle.rand_chacha.specs.ChaCha.{of_seed}
use Rattle.tags.specs.declared.code.Code.{Code}
use Rattle.tags.specs.declared.policy.PolicyRow.{PolicyRow}
use Rattle.tags.specs.declared.secrets.DeviceSecrets.{DeviceSecrets}
use Rattle.tags.specs.Secrets.{demo_device}
use Rattle.tags.specs.declared.settled.Settled.{Settled}
use Rattle.journal_records.specs.LastingPart.{empty_lasting}
use Rattle.key_database.specs.Store.{StandsFor as IsStoreOf}
use Rattle.rule_model.specs.declared.reply.Reply.{Reply}
use Rattle.rule_model.specs.Drawn.{drawn_of}
use Rattle.rule_model.specs.Entries.{History}
use Rattle.rule_model.specs.Setup.{Setup}
use Rattle.keystore_core.specs.Opening.{setup_of}
use Rattle.keystore_core.specs.declared.engine.Engine.{Engine}
use Rattle.keystore_core.specs.Engine.{Stands, StoreStands, lasting_of}
use Rattle.script_lines.specs.Replies.{line_of}
use Rattle.soak_lines.specs.declared.summary.Summary.{Summary}
use Rattle.soak_lines.specs.Lines.{Place, after_line, lines_from, lines_of, opening, seed_of}
use Rattle.soak_lines.specs.Summary.{summary_of}
use Rattle.soak_lines.specs.Summing.{HasSummed}
use Rattle.keystore_run.specs.declared.answer.Answer.{Answer}
use Rattle.keystore_run.specs.declared.session.Session.{Session}
use Rattle.keystore_run.specs.declared.status.Status.{Status}
use Rattle.keystore_run.specs.declared.status.Status.TheVariants as statuses
use Rattle.keystore_run.specs.declared.written.Written.TheVariants.{Replies}
use Rattle.keystore_run.specs.Answers.{IsAnswer}
use Rattle.keystore_run.specs.Drawn.{DrewAll}
use Rattle.keystore_run.specs.Ends.{is_read_fault}
use Rattle.keystore_run.specs.Follows.{Follows}
use Rattle.keystore_run.specs.Jobs.{JobsStand}
use Rattle.keystore_run.specs.Loading.{IsEmptyDisk, IsLoadSession, IsLoaded}
use Rattle.keystore_run.specs.Runs.{disk_told}
use Rattle.keystore_run.specs.Session.{Serves, StandsFor, devices, engine_of, jobs_of}
use Rattle.keystore_run.specs.Soak.{AreLasting, IsLoadSetup, IsSummaryOf, Soaks, demo_policy, is_failure, number_of, numbers_of, tells_failure, text_of}
use Rattle.keystore_run.proofs.DrawLemmas.{drew_none, drew_on}
use Rattle.keystore_run.proofs.LineLemmas.{follows_more}
use Rattle.keystore_run.proofs.Openings.{session_stands}
use Rattle.keystore_run.proofs.Tickets.{none_settled}

-- ---- the lines of a load, one after another

neither : (a b : Bool) → (a || b) ≡ false → (a ≡ false) × (b ≡ false)
neither true b e = absurd (let no = e in cc)
neither false b e = (refl, e)

module _ {D N : Type 0} (d : DiskGhosts D) (n : EntropyGhosts N) where
  -- the lines so far were served, and the summary was given what they were answered
  pub record Loading (setup : Setup) (all left : List (List ℕ)) (session : Session) (disk : D) (old now : N) (summary : Summary) : Type 0 where
    pub lines : List (List ℕ)
    pub split : all ≡ lines ++ left
    pub past : History
    pub replies : List Reply
    pub stands : StandsFor d setup session disk past
    pub follows : Follows [] lines past (text_of replies)
    pub drew : DrewAll n old now past
    pub lasting : AreLasting replies
    pub summed : HasSummed (numbers_of replies) (text_of replies) summary

  pub loads_none : (setup : Setup) (all : List (List ℕ)) (session : Session) (disk : D) (entropy : N) (summary : Summary) → StandsFor d setup session disk [] → HasSummed [] [] summary
      → Loading setup all all session disk entropy entropy summary
  loads_none setup all session disk entropy summary for none = record {
    lines = [];
    split = refl;
    past = [];
    replies = [];
    stands = for;
    follows = (refl, refl);
    drew = drew_none n entropy;
    lasting = tt;
    summed = none;
  }

  -- one line more
  pub loads_on : (setup : Setup) (all left rest : List (List ℕ)) (session session' : Session) (disk disk' : D) (old now now' : N) (summary summary' : Summary)
      (line bytes said : List ℕ) (answer : Answer) (code : ℤ) (fails : Bool)
      → (loading : Loading setup all left session disk old now summary) → left ≡ line ∷ rest → bytes ≡ line
      → Serves d n Replies setup loading.past session' bytes (devices disk now) (devices disk' now') (Ok answer.text) → IsAnswer Replies answer
      → fails ≡ tells_failure answer → fails ≡ false → code ≡ number_of answer.code → said ≡ answer.text
      → HasSummed (code ∷ numbers_of loading.replies) (text_of loading.replies ++ said) summary'
      → Loading setup all rest session' disk' old now' summary'
  loads_on setup all left rest session session' disk disk' old now now' summary summary' line bytes said answer code fails loading next bytes_are serves is fails_is fine code_is said_is summed =
      let served = subst (λ (b : List ℕ). Serves d n Replies setup loading.past session' b (devices disk now) (devices disk' now') (Ok answer.text)) bytes_are serves in
      let goes = served.2 in
      let both = neither (is_some answer.settled) (is_failure answer.code) (sym fails_is ∙ fine) in
      let told : answer.text ≡ line_of None is.reply = is.text_is ∙ ap (λ (settled : Option Settled). line_of settled is.reply) (none_settled answer.settled both.0) in
      let text : served.1 ≡ line_of None is.reply = sym served.3 ∙ told in
      record {
        lines = loading.lines ++ line ∷ [];
        split = loading.split ∙ ap (λ (ls : List (List ℕ)). loading.lines ++ ls) next ∙ sym (append_assoc loading.lines (line ∷ []) rest);
        past = served.0;
        replies = is.reply ∷ loading.replies;
        stands = goes.stands;
        follows = subst (λ (t : List ℕ). Follows [] (loading.lines ++ line ∷ []) served.0 (text_of loading.replies ++ t)) text
            (follows_more [] loading.lines line loading.past served.0 (text_of loading.replies) served.1 loading.follows goes.says);
        drew = drew_on n old now now' loading.past served.0 loading.drew goes.drew;
        lasting = (subst (λ (c : Option Code). is_failure c ≡ false) is.code_is both.1, loading.lasting);
        summed = subst (λ (t : List ℕ). HasSummed (numbers_of (is.reply ∷ loading.replies)) (text_of loading.replies ++ t) summary') (said_is ∙ told)
            (subst (λ (z : ℤ). HasSummed (z ∷ numbers_of loading.replies) (text_of loading.replies ++ said) summary') (code_is ∙ ap number_of is.code_is) summed);
      }

  -- all lines were served
  pub loads_all : (setup : Setup) (all left : List (List ℕ)) (session : Session) (disk : D) (old now : N) (summary : Summary) → Loading setup all left session disk old now summary → left ≡ []
      → IsLoaded n setup all old now summary
  loads_all setup all left session disk old now summary loading none =
      let whole : all ≡ loading.lines = loading.split ∙ ap (λ (ls : List (List ℕ)). loading.lines ++ ls) none ∙ append-nil loading.lines in
      record {
        history = loading.past;
        replies = loading.replies;
        legal = loading.stands.stands.legal;
        follows = subst (λ (ls : List (List ℕ)). Follows [] ls loading.past (text_of loading.replies)) (sym whole) loading.follows;
        drew = loading.drew;
        lasting = loading.lasting;
        summed = loading.summed;
      }

-- how many lines a load has
length_from : (n : ℕ) (place : Place) → length (lines_from n place) ≡ n
length_from zero place = refl
length_from (suc n) place = ap suc (length_from n (after_line place))

pub few_lines : (seed lines : ℕ) (script : List (List ℕ)) → script ≡ lines_of seed lines → lines ≤ 100000 → length script ≤ 100007
few_lines seed lines script is few =
    let start : Place = record { number = 7; begins = 0; generator = of_seed (seed_of seed 0) } in
    let whole : length (lines_of seed lines) ≡ length opening + length (lines_from lines start) = length-append opening (lines_from lines start) in
    let seven : length opening ≡ 7 = refl in
    omega (arith, ap length is, whole, seven, length_from lines start, few)

-- ---- the store of a load

-- a disk in memory that made no call is empty
pub no_image : (calls : List DiskCall) (image : List ℕ) → calls ≡ [] → IsImage calls image → image ≡ []
no_image calls image none is = subst (λ (made : List DiskCall). IsImage made image) none is

pub no_moment : (calls : List DiskCall) (t : ℕ) (image : List ℕ) → calls ≡ [] → WasImage calls t image → image ≡ []
no_moment calls t image none was = (subst (λ (made : List DiskCall). WasImage made t image) none was).1

module _ {D : Type 0} (d : DiskGhosts D) where
  -- the session over it
  pub load_session : (fresh formatted opened : D) (device : DeviceSecrets) (policy : List PolicyRow) (engine : Engine) (session : Session)
      → IsEmptyDisk d fresh → device ≡ demo_device → policy ≡ demo_policy
      → AllImages d formatted (IsStoreOf empty_lasting) → tells d formatted ≡ tells d fresh
      → Stands (setup_of device policy 16 engine) engine [] → StoreStands d (setup_of device policy 16 engine) engine opened []
      → (AllImages d formatted (IsStoreOf empty_lasting) → tells d formatted ≡ true → lasting_of engine ≡ empty_lasting)
      → engine_of session ≡ engine → JobsStand (setup_of device policy 16 engine) (jobs_of session) []
      → IsLoadSession d opened session
  load_session fresh formatted opened device policy engine session empty device_is policy_is stores telling stands holds finds same jobs =
      let setup : Setup = setup_of device policy 16 engine in
      let formatted_tells : tells d formatted ≡ true = telling ∙ empty.telling in
      record {
        setup = setup;
        is = record {
          device_is = device_is;
          policy_is = policy_is;
          slots_are = refl;
          empty = finds stores formatted_tells;
        };
        stands = session_stands d setup engine session opened same stands holds jobs;
      }

-- ---- the summary of a load

-- the summary of all its lines, for which the bytes of the second generator were drawn
pub load_summary : {N : Type 0} {n : EntropyGhosts N} (seed lines : ℕ) (setup : Setup) (script : List (List ℕ)) (old new : N) (summary : Summary) (text : List ℕ) (coming later : ℕ → ℕ)
    → IsLoadSetup setup → IsLoaded n setup script old new summary → script ≡ lines_of seed lines
    → n.content old ≡ Some coming → n.content new ≡ Some later → coming ≡ bytes_from (of_seed (seed_of seed 1))
    → ((replied : List ℤ) (said : List ℕ) → HasSummed replied said summary → text ≡ summary_of replied said) → IsSummaryOf seed lines text
load_summary {n = n} seed lines setup script old new summary text coming later is loaded lines_are before after begins says =
    let drawn : Draws (Some coming) (Some later) (drawn_of loaded.history) =
    subst (λ (o : Option (ℕ → ℕ)). Draws (Some coming) o (drawn_of loaded.history)) after
    (subst (λ (o : Option (ℕ → ℕ)). Draws o (n.content new) (drawn_of loaded.history)) before loaded.drew.bytes) in
    record {
      setup = setup;
      is_setup = is;
      history = loaded.history;
      replies = loaded.replies;
      legal = loaded.legal;
      follows = subst (λ (ls : List (List ℕ)). Follows [] ls loaded.history (text_of loaded.replies)) lines_are loaded.follows;
      later = later;
      draws = sym begins ∙ drawn;
      lasting = loaded.lasting;
      is = says (numbers_of loaded.replies) (text_of loaded.replies) loaded.summed;
    }

module _ {K : Type 0} (k : SinkGhosts K) where
  -- it was written, all of it or a front
  pub soaks_all : (seed lines : ℕ) (old new : K) (summary bytes : List ℕ) → IsSummaryOf seed lines summary → bytes ≡ summary → Put k old new bytes false → Soaks k seed lines old new statuses.Ok
  soaks_all seed lines old new summary bytes is same put = (summary, is, subst (λ (b : List ℕ). Put k old new b false) same put)

  pub soaks_front : (seed lines : ℕ) (old new : K) (summary bytes part missing : List ℕ) → IsSummaryOf seed lines summary → bytes ≡ summary → Put k old new part true → bytes ≡ part ++ missing
      → Soaks k seed lines old new statuses.WriteFault
  soaks_front seed lines old new summary bytes part missing is same put split = record {
    part = part;
    missing = missing;
    summary = subst (λ (b : List ℕ). IsSummaryOf seed lines b) (sym same ∙ split) is;
    put = put;
  }

  -- ---- the statuses of a load: it tells no fault of the disk or the source, and its words are a form

  pub soak_usage : (seed lines : ℕ) (old new : K) (status : Status) → Soaks k seed lines old new status → status ≡ statuses.Usage → ⊥
  soak_usage seed lines old new status soaks e = subst (λ (s : Status). Soaks k seed lines old new s) e soaks

  pub soak_disk : (seed lines : ℕ) (old new : K) (status : Status) → Soaks k seed lines old new status → disk_told status ≡ None
  soak_disk seed lines old new statuses.Ok soaks = refl
  soak_disk seed lines old new statuses.Memory soaks = refl
  soak_disk seed lines old new statuses.WriteFault soaks = refl
  soak_disk seed lines old new statuses.Usage soaks = absurd soaks
  soak_disk seed lines old new statuses.ReadFault soaks = absurd soaks
  soak_disk seed lines old new (statuses.LineTooLong line) soaks = absurd soaks
  soak_disk seed lines old new statuses.DiskFault soaks = absurd soaks
  soak_disk seed lines old new (statuses.Corrupted offset) soaks = absurd soaks
  soak_disk seed lines old new statuses.ScriptTooLong soaks = absurd soaks
  soak_disk seed lines old new statuses.ListenFault soaks = absurd soaks

  pub soak_source : (seed lines : ℕ) (old new : K) (status : Status) → Soaks k seed lines old new status → is_read_fault status ≡ false
  soak_source seed lines old new statuses.Ok soaks = refl
  soak_source seed lines old new statuses.Memory soaks = refl
  soak_source seed lines old new statuses.WriteFault soaks = refl
  soak_source seed lines old new statuses.Usage soaks = absurd soaks
  soak_source seed lines old new statuses.ReadFault soaks = absurd soaks
  soak_source seed lines old new (statuses.LineTooLong line) soaks = absurd soaks
  soak_source seed lines old new statuses.DiskFault soaks = absurd soaks
  soak_source seed lines old new (statuses.Corrupted offset) soaks = absurd soaks
  soak_source seed lines old new statuses.ScriptTooLong soaks = absurd soaks
  soak_source seed lines old new statuses.ListenFault soaks = absurd soaks
