-- A token that the system hands over: its answer, and the tables after it.
use Rattle.std.proofs.Common.{◌≡◌, ℕ, Bool, true, false, ◌==◌, if◌then◌else◌, List, [], ◌∷◌, length, map, Option, Some, None, Ok, Err, refl, sym, ap, ◌∙◌, arith}
use Rattle.tags.specs.declared.code.Code.{Code}
use Rattle.tags.specs.declared.code.Code.TheVariants.{TokensFull}
use Rattle.tags.specs.declared.rule.Rule.{Rule}
use Rattle.tags.specs.declared.rule.RuleTable.TheVariants.{A}
use Rattle.tags.specs.Table.{first_broken}
use Rattle.call_rules.specs.declared.facts.SystemCallFacts.{SystemCallFacts}
use Rattle.call_rules.specs.Table.{token_rules}
use Rattle.auth_tokens.specs.declared.token.AuthToken.{AuthToken}
use Rattle.cipher_ops.specs.declared.state.CipherState.{CipherState}
use Rattle.operation_slots.specs.declared.operation.SlotOperation.{SlotOperation as Slot}
use Rattle.operation_slots.specs.Table.{capacity_of, idle_value, operations_of, stamp_of}
use Rattle.rule_model.specs.Kept.{open_of, operation_change}
use Rattle.rule_model.specs.declared.entry.Entry.TheVariants.{Acted}
use Rattle.rule_model.specs.declared.event.Event.{Event}
use Rattle.rule_model.specs.declared.facts.Caller.{Caller}
use Rattle.rule_model.specs.declared.reply.Reply.{Reply}
use Rattle.rule_model.specs.declared.reply.Reply.TheVariants.{Done, Broken, Stopped}
use Rattle.rule_model.specs.Answer.{answer_by_rules}
use Rattle.rule_model.specs.declared.entry_change.BootChange.TheVariants.{Accepts}
use Rattle.rule_model.specs.Boot.{last_tokens, other_triples}
use Rattle.rule_model.specs.Calls.{accepted_in, add_auth_token_ruling, has_right_mac, system_facts}
use Rattle.rule_model.specs.Clients.{caller_of}
use Rattle.rule_model.specs.Entries.{History}
use Rattle.rule_model.specs.Jobs.{Stays}
use Rattle.rule_model.specs.Legal.{Answered}
use Rattle.rule_model.specs.declared.operation.Open.{Open}
use Rattle.rule_model.specs.declared.entry_change.OperationChange.TheVariants.{SameOperations, Shows}
use Rattle.rule_model.specs.Operations.{as_shown, is_for}
use Rattle.rule_model.specs.Replies.{broken_or, no_fields}
use Rattle.rule_model.specs.Setup.{Setup}
use Rattle.rule_model.proofs.Kept.{quiet_stored}
use Rattle.live_tables.specs.declared.operations.OperationRow.{OperationRow}
use Rattle.keystore_core.specs.declared.tables.Tables.{Tables}
use Rattle.live_tables.specs.Alike.{Alike}
use Rattle.live_tables.specs.Begins.{begins_in}
use Rattle.live_tables.specs.Clients.{clients_given, uid_in}
use Rattle.live_tables.specs.Device.{early_in, unlocked_in}
use Rattle.live_tables.specs.Operations.{IsRow, is_for_row, most_operations, operations_given, rows_in, shown}
use Rattle.keystore_core.specs.Slots.{IsKept, IsSlot}
use Rattle.keystore_core.specs.Tables.{AnswersAfter, IsCaller, SameTables, TablesStand, event_by}
use Rattle.live_tables.specs.Tickets.{out_in, tickets_given}
use Rattle.keystore_core.specs.TokenCalls.{AcceptsToken, RefusesToken, adding}
use Rattle.live_tables.specs.Tokens.{token_key_in, tokens_in}
use Rattle.live_tables.proofs.Alike.{alike_change}
use Rattle.keystore_core.proofs.Booted.{boot_after}
use Rattle.keystore_core.proofs.KeyTable.{keys_stay, same_keys_as}
use Rattle.keystore_core.proofs.Opened.{stays_same, stays_shown}
use Rattle.keystore_core.proofs.Standing.{called, clients_stay, denied_tables, rows_after, same_tables, slots_after, tickets_stay}
use Rattle.tags.specs.declared.limits.TheConstants.{MOST_TRIPLES}

-- a token is for a row where it is for its operation
for_same : (token : AuthToken) (row : OperationRow) (o : Open) → IsRow row o → is_for_row token row ≡ is_for token o
for_same token row o r = rw (r.challenge_is, r.list_is) refl

row_shown : (row : OperationRow) (o : Open) → IsRow row o → IsRow (shown row) (as_shown o)
row_shown row o r = record {
  number = r.number;
  client = r.client;
  key = r.key;
  plan = r.plan;
  limited = r.limited;
  aad_is = r.aad_is;
  text_is = r.text_is;
  busy_is = r.busy_is;
  challenge_is = r.challenge_is;
  shown_is = refl;
  list_is = r.list_is;
}

-- a slot stays that of its operation
kept_shown : (v : Option CipherState) (stamp : ℕ) (o : Open) (ticket : Option ℕ) → IsKept v stamp o ticket → IsKept v stamp (as_shown o) ticket
kept_shown None stamp o (Some ticket) kept = tt
kept_shown (Some state) stamp o None kept = kept
kept_shown None stamp o None kept = absurd kept
kept_shown (Some state) stamp o (Some ticket) kept = absurd kept

slot_shown : (slot : Slot CipherState) (o : Open) → IsSlot slot o → (b : Bool) → IsSlot slot (if b then as_shown o else o)
slot_shown slot o r true = record { number = r.number; uid = r.uid; client = r.client; state = kept_shown (idle_value (Some slot)) (stamp_of slot) o o.ticket r.state }
slot_shown slot o r false = r

slots_shown : (token : AuthToken) (slots : List (Slot CipherState)) (os : List Open) → Alike IsSlot slots os → Alike IsSlot slots (map (λ o. if is_for token o then as_shown o else o) os)
slots_shown token [] [] h = tt
slots_shown token (slot ∷ slots) (o ∷ os) h = (slot_shown slot o h.0 (is_for token o), slots_shown token slots os h.1)
slots_shown token [] (o ∷ os) h = absurd h
slots_shown token (slot ∷ slots) [] h = absurd h

module _ (setup : Setup) (past : History) (tables : Tables) (caller : Caller) (token : AuthToken) (stands : TablesStand setup tables past) (is_caller : IsCaller tables caller) where
  abbrev Adding : Event
  Adding = event_by caller (adding token)

  same : caller ≡ caller_of past Adding
  same = called past tables caller (adding token) stands.clients is_caller

  -- the ruling over what the tables say is that of the history
  pub ruling_is : (right : Bool) (facts : SystemCallFacts) → right ≡ has_right_mac (token_key_in tables.boot.tokens) token → facts ≡ system_facts caller
      → first_broken A (token_rules right facts) ≡ add_auth_token_ruling setup.device.token caller token
  ruling_is right facts e f = rw (e, f, stands.boot.tokens.key_is) refl

  pub refused : (rule : Rule) (code : Code) → add_auth_token_ruling setup.device.token caller token ≡ Err (rule, code)
      → AnswersAfter setup past tables Adding (record { reply = Broken rule code; job = None; drawn = [] })
  refused rule code e =
      let none : operation_change setup past Adding [] (Broken rule code) ≡ SameOperations = either (Rattle.step_rules.specs.Table.ends_operation rule) in
      record {
        follows = λ ready. Answered (record {
          ready = ready;
          drew = refl;
          is_answer = sym (ap (λ found. broken_or found (accepted_in (last_tokens setup past) token)) e) ∙ ap (λ c. answer_by_rules (adding token) setup past c []) same;
        });
        stands = denied_tables setup past Adding [] (Broken rule code) tables tables stands (same_tables tables) refl refl none refl;
        has_job = refl;
        stays = stays_same setup past Adding [] (Broken rule code) none;
      } where
        either : (b : Bool) → (if b then SameOperations else SameOperations) ≡ SameOperations
        either true = refl
        either false = refl

  -- the answer of a token that no rule refuses, by whether there is a place
  answer_is : (full : Bool) → add_auth_token_ruling setup.device.token caller token ≡ Ok tt → full ≡ (length (other_triples token (tokens_in tables.boot.tokens)) == MOST_TRIPLES)
      → (if full then Stopped TokensFull else Done no_fields) ≡ answer_by_rules (adding token) setup past (caller_of past Adding) []
  answer_is full e is =
      ap (λ b. if b then Stopped TokensFull else Done no_fields) (is ∙ ap (λ tokens. length (other_triples token tokens) == MOST_TRIPLES) stands.boot.tokens.tokens_are)
      ∙ sym (ap (λ found. broken_or found (accepted_in (last_tokens setup past) token)) e) ∙ ap (λ c. answer_by_rules (adding token) setup past c []) same

  refused_same : (new : Tables) → RefusesToken tables new → SameTables tables new
  refused_same new is = record {
    clients = record { uids = λ client. ap (λ c. uid_in c client) is.clients; given = ap clients_given is.clients };
    keys = same_keys_as tables new is.secrets is.policy is.keys;
    operations = record { rows = ap rows_in is.operations; given = ap operations_given is.operations; most = ap most_operations is.operations };
    slots = is.slots;
    tickets = record { outs = λ ticket. ap (λ t. out_in t ticket) is.tickets; given = ap tickets_given is.tickets };
    boot = record { device = is.device; tokens = is.tokens; begins = λ key. ap (λ b. begins_in b key) is.begins };
  }

  pub full : (new : Tables) → add_auth_token_ruling setup.device.token caller token ≡ Ok tt → true ≡ (length (other_triples token (tokens_in tables.boot.tokens)) == MOST_TRIPLES) → RefusesToken tables new
      → AnswersAfter setup past new Adding (record { reply = Stopped TokensFull; job = None; drawn = [] })
  full new e is still = record {
    follows = λ ready. Answered (record { ready = ready; drew = refl; is_answer = answer_is true e is });
    stands = denied_tables setup past Adding [] (Stopped TokensFull) tables new stands (refused_same new still) refl refl refl refl;
    has_job = refl;
    stays = stays_same setup past Adding [] (Stopped TokensFull) refl;
  }

  pub accepted : (new : Tables) → add_auth_token_ruling setup.device.token caller token ≡ Ok tt → false ≡ (length (other_triples token (tokens_in tables.boot.tokens)) == MOST_TRIPLES) → AcceptsToken token tables new
      → AnswersAfter setup past new Adding (record { reply = Done no_fields; job = None; drawn = [] })
  accepted new e is takes =
      let reply : Reply = Done no_fields in
      let stays : Stays setup past (Acted Adding [] reply ∷ past) = stays_shown setup past Adding [] reply token refl in
      record {
        follows = λ ready. Answered (record { ready = ready; drew = refl; is_answer = answer_is false e is });
        stands = record {
          clients = clients_stay setup past Adding [] reply tables.clients new.clients stands.clients
              (record { uids = λ client. ap (λ c. uid_in c client) takes.clients; given = ap clients_given takes.clients }) refl refl;
          keys = keys_stay setup past (Acted Adding [] reply ∷ past) tables new stands.keys (same_keys_as tables new takes.secrets takes.policy takes.keys) (quiet_stored setup past Adding [] reply refl refl);
          operations = rows_after setup past Adding [] reply (Shows token) new.operations refl
              (rw takes.rows.rows (alike_change IsRow (is_for_row token) (is_for token) shown as_shown (for_same token) (λ row o r b. row_shown row o r) (rows_in tables.operations) (open_of setup past) stands.operations.rows))
              (takes.rows.given ∙ stands.operations.given) (takes.rows.most ∙ stands.operations.most);
          slots = slots_after setup past Adding [] reply (Shows token) tables.slots new.slots stands.slots refl
              (rw takes.slots (slots_shown token (operations_of tables.slots) (open_of setup past) stands.slots.slots_are))
              (ap capacity_of takes.slots)
              (λ number l. rw takes.slots (stands.slots.fresh number l))
              (λ next l. rw takes.slots (stands.slots.later next (omega (arith, l))));
          tickets = tickets_stay setup past Adding [] reply tables.tickets new.tickets stands.tickets
              (record { outs = λ ticket. ap (λ t. out_in t ticket) takes.tickets; given = ap tickets_given takes.tickets }) refl refl stays;
          boot = boot_after setup past Adding [] reply (Accepts token) tables.boot new.boot stands.boot refl
              (record { users = λ user. ap (λ device. unlocked_in device user) takes.device; early = ap early_in takes.device })
              takes.tokens
              (λ key. ap (λ b. begins_in b key) takes.begins);
        };
        has_job = refl;
        stays = stays;
      }
