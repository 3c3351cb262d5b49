-- A run between two lines, and how it goes on and ends.
use Rattle.std.proofs.Common.{◌≡◌, ℕ, suc, Bool, true, false, ◌==◌, ◌+◌, ◌^◌, ◌<◌, ◌≤◌, List, [], ◌∷◌, ◌++◌, length, take, drop, Option, Some, None, Err, IfSome, inl, inr, refl, sym, ap, ◌∙◌, subst, arith, append_assoc, append-nil, length-append}
use Rattle.std.proofs.lemmas.List.{length-take-le}
use Rattle.std.proofs.lemmas.Bool.Decides.{nat_tests}
use Rattle.std.specs.Io.KnownBytes.{Consumes, IsAtEnd}
use Rattle.ks_outside.specs.Shown.{Outside, Put, Took}
use Rattle.ks_outside.specs.declared.disk.Disk.{Ghosts as DiskGhosts}
use Rattle.ks_outside.specs.declared.entropy.Entropy.{Ghosts as EntropyGhosts}
use Rattle.ks_outside.specs.declared.sink.Sink.{Ghosts as SinkGhosts}
use Rattle.ks_outside.specs.declared.source.Source.{Ghosts as SourceGhosts}
use Rattle.ks_outside.proofs.Shown.{put_none, put_on, took_none, took_on}
use Rattle.rule_model.specs.Entries.{History}
use Rattle.rule_model.specs.Setup.{Setup}
use Rattle.keystore_core.specs.Opening.{IsOpenedFrom, store_images}
use Rattle.keystore_run.specs.declared.session.Session.{Session}
use Rattle.keystore_run.specs.declared.serve.Halt.{Halt}
use Rattle.keystore_run.specs.declared.serve.Halt.TheVariants as halts
use Rattle.keystore_run.specs.declared.written.Written.{Written}
use Rattle.keystore_run.specs.declared.written.Written.TheVariants.{Replies, Trace}
use Rattle.keystore_run.specs.declared.status.Status.{Status}
use Rattle.keystore_run.specs.Drawn.{DrewAll}
use Rattle.keystore_run.specs.Ends.{AreTaken, EndsAmid, Ends, EndsCut, EndsOk}
use Rattle.keystore_run.specs.Follows.{Follows}
use Rattle.keystore_run.specs.Halts.{status_of}
use Rattle.line_members.specs.LineFeeds.{IsFree, ended, lines_of}
use Rattle.keystore_run.specs.Lines.{AreLines}
use Rattle.keystore_run.specs.Serving.{IsServed, IsServedInPart, IsUnserved, ServesLine}
use Rattle.keystore_run.specs.KeptStores.{Keeps}
use Rattle.keystore_run.specs.Session.{GoesOn, StandsFor, devices, engine_of}
use Rattle.keystore_run.specs.Written.{Adds, written_of}
use Rattle.keystore_run.specs.Window.{HasNoFeedBelow, IsFirstFeed}
use Rattle.keystore_run.proofs.Adding.{adds_nothing, written_on}
use Rattle.keystore_run.proofs.DrawLemmas.{drew_none, drew_nothing, drew_on}
use Rattle.keystore_run.proofs.KeepLemmas.{KeptSince, keeps_all, since_none, since_on}
use Rattle.keystore_run.proofs.LineLemmas.{are_more, ended-more, follows_more, free_take, free_whole, lines_of-ended, lines_of-last, split_feed}
use Rattle.tags.specs.declared.limits.TheConstants.{LINE_BYTES, SCRIPT_BYTES}

-- the held bytes around their first LF
at_feed : (lines : List (List ℕ)) (held : List ℕ) (n : ℕ) → IsFirstFeed held n → ended (lines ++ take n held ∷ []) ++ drop (n + 1) held ≡ ended lines ++ held
at_feed lines held n feed =
    let next : n + 1 ≡ suc n = omega arith in
    ap (λ m. ended (lines ++ take n held ∷ []) ++ drop m held) next ∙ ended-more lines (take n held) (drop (suc n) held)
    ∙ ap (λ l. ended lines ++ l) (sym (split_feed held n feed.within feed.feed))

-- all of a source that is at its end was taken
all_taken : (source left : Option (List ℕ)) (taken : List ℕ) → Consumes source left taken → IsAtEnd left → IfSome source (λ bytes. bytes ≡ taken)
all_taken None left taken took end = tt
all_taken (Some x) None taken took end = absurd took
all_taken (Some x) (Some y) taken took end = took ∙ ap (λ l. taken ++ l) end ∙ append-nil taken

-- where a line with its LF was taken
pub taken_feed : (left : Option (List ℕ)) (lines : List (List ℕ)) (held : List ℕ) (n : ℕ) → IsFirstFeed held n → AreTaken left (ended lines ++ held) (lines ++ take n held ∷ [])
taken_feed left lines held n feed = inl (drop (n + 1) held, sym (at_feed lines held n feed))

-- where a last line was taken
pub taken_last : (left : Option (List ℕ)) (lines : List (List ℕ)) (held : List ℕ) → IsAtEnd left → AreTaken left (ended lines ++ held) (lines ++ held ∷ [])
taken_last left lines held end = inr (lines, held, refl, refl, end)

empty : (xs : List ℕ) → length xs ≡ 0 → xs ≡ []
empty [] e = refl
empty (x ∷ xs) e = absurd (omega arith)

module _ {S K D N : Type 0} (s : SourceGhosts S) (k : SinkGhosts K) (d : DiskGhosts D) (n : EntropyGhosts N)
    (only_now : (disk : D) (c : List ℕ) → d.images_since disk (d.moment disk) c → d.images disk c) where
  -- the lines so far were served and what is written of them was, and some bytes are held after them; a read failed, or none did
  pub record Going (written : Written) (setup : Setup) (old now : Outside S K D N) (session : Session) (held : List ℕ) (taken served : ℕ) (failed : Bool) : Type 0 where
    pub lines : List (List ℕ)
    pub past : History
    pub text : List ℕ
    pub stands : StandsFor d setup session now.disk past
    pub follows : Follows [] lines past text
    pub drew : DrewAll n old.entropy now.entropy past
    pub since : KeptSince d setup old.disk now.disk past
    pub put : Put k old.sink now.sink (written_of written past text) false
    pub took : Took s old.source now.source (ended lines ++ held) failed
    pub short : AreLines lines
    pub count : served ≡ length lines
    pub sum : taken ≡ length (ended lines ++ held)

  -- what the run leaves of the disk
  kept : {written : Written} {setup : Setup} {old now : Outside S K D N} {session : Session} {held : List ℕ} {taken served : ℕ} {failed : Bool} (going : Going written setup old now session held taken served failed) → Keeps d setup old.disk now.disk going.past
  kept {setup = setup} {old = old} {now = now} {session = session} going = keeps_all d setup only_now old.disk now.disk going.past going.since (store_images d setup (engine_of session) now.disk going.past going.stands.store)

  -- and what it leaves after one line more
  kept_more : (setup : Setup) (old now : Outside S K D N) (disk : D) (entropy : N) (past : History) (session : Session) (line : List ℕ) (later : History) (text : List ℕ) → KeptSince d setup old.disk now.disk past
      → GoesOn d n setup past session line (devices now.disk now.entropy) (devices disk entropy) later text → Keeps d setup old.disk disk later
  kept_more setup old now disk entropy past session line later text since goes =
      keeps_all d setup only_now old.disk disk later (since_on d setup old.disk now.disk disk past later goes.failed since goes.keeps) (store_images d setup (engine_of session) disk later goes.stands.store)

  -- nothing is written of nothing
  put_nothing : (written : Written) (sink : K) → Put k sink sink (written_of written [] []) false
  put_nothing Replies sink = put_none k sink
  put_nothing Trace sink = put_none k sink

  -- what is written of one line more
  puts : (written : Written) (past later : History) (old sink sink' : K) (text more added : List ℕ) → Put k old sink (written_of written past text) false → Adds written past later more added → Put k sink sink' added false
      → Put k old sink' (written_of written later (text ++ more)) false
  puts written past later old sink sink' text more added so_far adds put =
      subst (λ (bytes : List ℕ). Put k old sink' bytes false) (sym (written_on written past later text more added adds)) (put_on k old sink sink' (written_of written past text) added false false so_far put)

  -- nothing was taken yet
  pub begins : (written : Written) (setup : Setup) (begin : D) (now : Outside S K D N) (session : Session) (held : List ℕ) (taken : ℕ) → StandsFor d setup session now.disk [] → IsOpenedFrom d begin now.disk → held ≡ [] → taken ≡ 0
      → Going written setup (record now { disk = begin }) now session held taken 0 false
  begins written setup begin now session held taken for leaves nothing none = record {
    lines = [];
    past = [];
    text = [];
    stands = for;
    follows = (refl, refl);
    drew = drew_none n now.entropy;
    since = since_none d setup begin now.disk leaves;
    put = put_nothing written now.sink;
    took = rw nothing (took_none s now.source);
    short = tt;
    count = refl;
    sum = none ∙ sym (ap length nothing);
  }

  -- more bytes are held
  pub fills : (written : Written) (setup : Setup) (old now : Outside S K D N) (source : S) (session : Session) (held held' piece : List ℕ) (taken taken' served : ℕ) (failed : Bool)
      → Going written setup old now session held taken served false → held' ≡ held ++ piece → taken' ≡ taken + length piece → Took s now.source source piece failed
      → Going written setup old (record now { source = source }) session held' taken' served failed
  fills written setup old now source session held held' piece taken taken' served failed going e f took =
      let more : ended going.lines ++ held' ≡ (ended going.lines ++ held) ++ piece = ap (λ l. ended going.lines ++ l) e ∙ sym (append_assoc (ended going.lines) held piece) in
      let grown : length ((ended going.lines ++ held) ++ piece) ≡ length (ended going.lines ++ held) + length piece = length-append (ended going.lines ++ held) piece in
      record {
        lines = going.lines;
        past = going.past;
        text = going.text;
        stands = going.stands;
        follows = going.follows;
        drew = going.drew;
        since = going.since;
        put = going.put;
        took = rw more (took_on s old.source now.source source (ended going.lines ++ held) piece false failed going.took took);
        short = going.short;
        count = going.count;
        sum = f ∙ ap (λ m. m + length piece) going.sum ∙ sym grown ∙ sym (ap length more);
      }

  -- a line is served and passed on
  pub passes : (written : Written) (setup : Setup) (old now : Outside S K D N) (sink : K) (disk : D) (entropy : N) (session session' : Session) (held : List ℕ) (taken served count : ℕ)
      → (going : Going written setup old now session held taken served false) → IsFirstFeed held count → count ≤ LINE_BYTES
      → IsServed k d n written setup going.past session' (take count held) now.sink sink (devices now.disk now.entropy) (devices disk entropy)
      → Going written setup old (record now { sink = sink; disk = disk; entropy = entropy }) session' (drop (count + 1) held) taken (served + 1) false
  passes written setup old now sink disk entropy session session' held taken served count going feed short done =
      let line : List ℕ = take count held in
      let same = at_feed going.lines held count feed in
      let long : length line ≡ count = length-take-le count held (omega (arith, feed.within)) in
      let free : IsFree line = free_take held count feed.free (omega (arith, feed.within)) in
      record {
        lines = going.lines ++ line ∷ [];
        past = done.later;
        text = going.text ++ done.text;
        stands = done.goes_on.stands;
        follows = follows_more [] going.lines line going.past done.later going.text done.text going.follows done.goes_on.says;
        drew = drew_on n old.entropy now.entropy entropy going.past done.later going.drew done.goes_on.drew;
        since = since_on d setup old.disk now.disk disk going.past done.later done.goes_on.failed going.since done.goes_on.keeps;
        put = puts written going.past done.later old.sink now.sink sink going.text done.text done.added going.put done.adds done.put;
        took = rw same going.took;
        short = are_more going.lines line going.short free (omega (arith, long));
        count = omega (arith, going.count, length-append going.lines (line ∷ []));
        sum = going.sum ∙ sym (ap length same);
      }

  -- the source ends after an LF, or is empty
  pub ends_empty : (written : Written) (setup : Setup) (old now : Outside S K D N) (session : Session) (held : List ℕ) (taken served : ℕ)
      → Going written setup old now session held taken served false → IsAtEnd (s.content now.source) → taken < SCRIPT_BYTES → length held ≡ 0 → EndsOk s k d n written setup old now
  ends_empty written setup old now session held taken served going end few none =
      let nothing : held ≡ [] = empty held none in
      let split : lines_of (ended going.lines ++ held) ≡ going.lines = ap (λ l. lines_of (ended going.lines ++ l)) nothing ∙ lines_of-ended going.lines [] going.short ∙ append-nil going.lines in
      record {
        lines = going.lines;
        text = going.text;
        taken = ended going.lines ++ held;
        served = record { history = going.past; legal = going.stands.stands.legal; follows = going.follows; drew = going.drew; keeps = kept going };
        put = going.put;
        took = going.took;
        end = end;
        all = sym split;
        known = all_taken (s.content old.source) (s.content now.source) (ended going.lines ++ held) going.took.bytes end;
        short = going.short;
        few = omega (arith, going.sum, few);
      }

  -- the source ends in a line without LF, which is served
  pub ends_last : (written : Written) (setup : Setup) (old now : Outside S K D N) (sink : K) (disk : D) (entropy : N) (session session' : Session) (held : List ℕ) (taken served : ℕ)
      → (going : Going written setup old now session held taken served false) → HasNoFeedBelow held (length held) → length held ≤ LINE_BYTES → IsAtEnd (s.content now.source) → taken < SCRIPT_BYTES → 0 < length held
      → IsServed k d n written setup going.past session' held now.sink sink (devices now.disk now.entropy) (devices disk entropy) → EndsOk s k d n written setup old (record now { sink = sink; disk = disk; entropy = entropy })
  ends_last written setup old now sink disk entropy session session' held taken served going feeds short end few some done =
      let free : IsFree held = free_whole held feeds in
      let split : lines_of (ended going.lines ++ held) ≡ going.lines ++ held ∷ [] = lines_of-ended going.lines held going.short ∙ ap (λ ls. going.lines ++ ls) (lines_of-last held free some) in
      record {
        lines = going.lines ++ held ∷ [];
        text = going.text ++ done.text;
        taken = ended going.lines ++ held;
        served = record {
          history = done.later;
          legal = done.goes_on.stands.stands.legal;
          follows = follows_more [] going.lines held going.past done.later going.text done.text going.follows done.goes_on.says;
          drew = drew_on n old.entropy now.entropy entropy going.past done.later going.drew done.goes_on.drew;
          keeps = kept_more setup old now disk entropy going.past session' held done.later done.text going.since done.goes_on;
        };
        put = puts written going.past done.later old.sink now.sink sink going.text done.text done.added going.put done.adds done.put;
        took = going.took;
        end = end;
        all = sym split;
        known = all_taken (s.content old.source) (s.content now.source) (ended going.lines ++ held) going.took.bytes end;
        short = are_more going.lines held going.short free short;
        few = omega (arith, going.sum, few);
      }

  -- the run ends amid the bytes of a line
  pub ends_amid : (written : Written) (setup : Setup) (old now : Outside S K D N) (session : Session) (held : List ℕ) (taken served : ℕ) (failed : Bool)
      → (going : Going written setup old now session held taken served failed) → HasNoFeedBelow held (length held) → EndsAmid s k d n written setup old now going.lines held failed
  ends_amid written setup old now session held taken served failed going feeds = record {
    text = going.text;
    served = record { history = going.past; legal = going.stands.stands.legal; follows = going.follows; drew = going.drew; keeps = kept going };
    put = going.put;
    took = going.took;
    short = going.short;
    free = free_whole held feeds;
  }

  -- the run stops at a line that was served with a front of its text written
  ends_in_part : (written : Written) (setup : Setup) (old now : Outside S K D N) (sink : K) (disk : D) (entropy : N) (session session' : Session) (held line : List ℕ) (taken served : ℕ) (failed : Bool)
      → (going : Going written setup old now session held taken served false) → taken ≤ SCRIPT_BYTES → IsFree line → length line ≤ LINE_BYTES
      → AreTaken (s.content now.source) (ended going.lines ++ held) (going.lines ++ line ∷ [])
      → IsServedInPart k d n written setup going.past session' line now.sink sink (devices now.disk now.entropy) (devices disk entropy) failed → EndsCut s k d n written setup old (record now { sink = sink; disk = disk; entropy = entropy }) failed
  ends_in_part written setup old now sink disk entropy session session' held line taken served failed going few free short are done = record {
    front = going.lines;
    last = line ∷ [];
    one = omega arith;
    mid = going.past;
    later = done.later;
    whole = going.text;
    text = done.text;
    part = done.part;
    missing = done.missing;
    legal = done.goes_on.stands.stands.legal;
    drew = drew_on n old.entropy now.entropy entropy going.past done.later going.drew done.goes_on.drew;
    keeps = kept_more setup old now disk entropy going.past session' line done.later done.text going.since done.goes_on;
    served = going.follows;
    stopped = (done.later, done.text, [], done.goes_on.says, (refl, refl), sym (append-nil done.text));
    adds = done.adds;
    put = put_on k old.sink now.sink sink (written_of written going.past going.text) done.part false failed going.put done.put;
    taken = ended going.lines ++ held;
    took = going.took;
    are = are;
    short = are_more going.lines line going.short free short;
    few = omega (arith, going.sum, few);
  }

  -- the run stops at a line that was not served
  ends_unserved : (written : Written) (setup : Setup) (old now : Outside S K D N) (sink : K) (disk : D) (entropy : N) (session session' : Session) (held : List ℕ) (taken served : ℕ)
      → (going : Going written setup old now session held taken served false) → taken ≤ SCRIPT_BYTES
      → IsUnserved k d n setup going.past session' now.sink sink (devices now.disk now.entropy) (devices disk entropy) → EndsCut s k d n written setup old (record now { sink = sink; disk = disk; entropy = entropy }) false
  ends_unserved written setup old now sink disk entropy session session' held taken served going few done = record {
    front = going.lines;
    last = [];
    one = omega arith;
    mid = going.past;
    later = going.past;
    whole = going.text;
    text = [];
    part = [];
    missing = [];
    legal = going.stands.stands.legal;
    drew = drew_on n old.entropy now.entropy entropy going.past going.past going.drew (drew_nothing n now.entropy entropy going.past done.stays.undrawn);
    keeps = subst (λ (x : D). Keeps d setup old.disk x going.past) (sym done.stays.uncalled) (kept going);
    served = going.follows;
    stopped = (refl, refl);
    adds = adds_nothing written going.past;
    put = put_on k old.sink now.sink sink (written_of written going.past going.text) [] false false going.put done.put;
    taken = ended going.lines ++ held;
    took = going.took;
    are = inl (held, ap (λ ls. ended ls ++ held) (sym (append-nil going.lines)));
    short = subst AreLines (sym (append-nil going.lines)) going.short;
    few = omega (arith, going.sum, few);
  }

  -- the run stops at a line, by why it does
  pub cut_line : (halt : Halt) (status : Status) (written : Written) (setup : Setup) (old now : Outside S K D N) (sink : K) (disk : D) (entropy : N) (session session' : Session) (held line own : List ℕ) (taken served : ℕ)
      → status ≡ status_of halt → (going : Going written setup old now session held taken served false) → taken ≤ SCRIPT_BYTES → IsFree line → length line ≤ LINE_BYTES
      → AreTaken (s.content now.source) (ended going.lines ++ held) (going.lines ++ line ∷ []) → own ≡ line
      → ServesLine k d n written setup going.past session' own now.sink sink (devices now.disk now.entropy) (devices disk entropy) (Err halt) → Ends s k d n written setup old (record now { sink = sink; disk = disk; entropy = entropy }) status
  cut_line halts.Write status written setup old now sink disk entropy session session' held line own taken served e going few free short are is done =
      rw e (ends_in_part written setup old now sink disk entropy session session' held line taken served true going few free short are
      (subst (λ l. IsServedInPart k d n written setup going.past session' l now.sink sink (devices now.disk now.entropy) (devices disk entropy) true) is done))
  cut_line halts.Memory status written setup old now sink disk entropy session session' held line own taken served e going few free short are is (inl done) =
      rw e (ends_in_part written setup old now sink disk entropy session session' held line taken served false going few free short are
      (subst (λ l. IsServedInPart k d n written setup going.past session' l now.sink sink (devices now.disk now.entropy) (devices disk entropy) false) is done))
  cut_line halts.Memory status written setup old now sink disk entropy session session' held line own taken served e going few free short are is (inr done) =
      rw e (ends_unserved written setup old now sink disk entropy session session' held taken served going few done)

-- a line that is held with its LF
pub held_line : (held : List ℕ) (count : ℕ) → IsFirstFeed held count → IsFree (take count held)
held_line held count feed = free_take held count feed.free (omega (arith, feed.within))

pub short_line : (held : List ℕ) (count : ℕ) → IsFirstFeed held count → count ≤ LINE_BYTES → length (take count held) ≤ LINE_BYTES
short_line held count feed short = omega (arith, length-take-le count held (omega (arith, feed.within)), short)

-- all the held bytes
pub whole_line : (held line : List ℕ) (count : ℕ) → line ≡ take count held → count ≡ length held → line ≡ held
whole_line held line count e f = e ∙ ap (λ m. take m held) f ∙ all held where
  all : (xs : List ℕ) → take (length xs) xs ≡ xs
  all [] = refl
  all (x ∷ xs) = ap (λ l. x ∷ l) (all xs)

pub is_zero : (m : ℕ) (b : Bool) → b ≡ (m == 0) → b ≡ true → m ≡ 0
is_zero m b e f = grind (arith, nat_tests)

pub is_some_length : (m : ℕ) (b : Bool) → b ≡ (m == 0) → b ≡ false → 0 < m
is_some_length m b e f = grind (arith, nat_tests)
