-- What lines stage are commands that a script can ask for, and so are the changes of the groups that they commit.
use Rattle.std.proofs.Common.{◌≡◌, ℕ, List, [], ◌∷◌, ◌++◌, length, Bool, true, false, cond, Option, Some, None, IfSome}
use Rattle.std.proofs.Common.{Result, Ok, Err, refl, ap, ◌∙◌, subst, codes, nat_lt, ◌==◌, arith}
use Rattle.std.specs.List.{AllByRecursion, slice_split, onto_first}
use Rattle.std.specs.Option.{option_map_or}
use Rattle.store_model.specs.declared.refusal.Refusal.{Refusal}
use Rattle.store_model.specs.declared.refusal.Refusal.TheVariants as refusals
use Rattle.store_model.specs.Parameters.{Parameters}
use Rattle.store_model.specs.Trees.{Tree}
use Rattle.store_model.specs.Commands.{Command, IsCommand}
use Rattle.store_model.specs.Grammar.{◌>>=◌, number_of, command_of_fields, command_of, has_short_paths, checked_command}
use Rattle.store_model.specs.Grammar.{parse}
use Rattle.store_model.specs.Lists.{same_bytes}
use Rattle.store_model.specs.Scripts.{line_limit}
use Rattle.store_model.proofs.GrammarLemmas.{IsCommand-parse}
use Rattle.script_lines.specs.Parsing.{parts_of}
use Rattle.script_lines.specs.Sessions.{SessionCall, SessionAnswer, is_change, is_question, command_that}
use Rattle.script_lines.specs.Sessions.{call_of_fields, call_has_short_paths, checked_call, parse_session}
use Rattle.script_lines.specs.Sessions.SessionCall.{Begin, Ask, Stage, Commit, Leave}
use Rattle.session_core.specs.Machine.{Event, happens}
use Rattle.session_core.specs.Machine.Event.{Acts}
use Rattle.session_core.specs.Traces.{Entry, world_after, trace, begins, staged_by, staged_since, committed_by, groups}
use Rattle.session_core.specs.Traces.{changes_of}
use Rattle.script_runs.specs.SessionRuns.{session_reading}
use Rattle.store_claims.specs.Groups.{event_of, session_events, session_groups}

-- ---- the grammar

-- what a call stages is what these fields spell
abbrev Spells : List (List ℕ) → SessionCall → Type 0
Spells fields Begin = Unit {0}
Spells fields (Ask id question) = Unit {0}
Spells fields (Stage id change) = command_of_fields fields ≡ Some change
Spells fields (Commit id) = Unit {0}
Spells fields (Leave id) = Unit {0}

if_picked : {A : Type 0} (P : A → Type 0) (b : Bool) (x y : Option A) → IfSome x P → IfSome y P → IfSome (cond b x y) P
if_picked P true x y f g = f
if_picked P false x y f g = g

if_next : {A B : Type 0} (Q : B → Type 0) (o : Option A) (f : A → Option B)
    → ((x : A) → o ≡ Some x → IfSome (f x) Q) → IfSome (o >>= f) Q
if_next Q None f g = tt
if_next Q (Some x) f g = g x refl

-- a command of a kind is the one that the fields spell
of_kind : (wanted : Command → Bool) (spelled : Option Command) (c : Command)
    → (spelled >>= λ d. cond (wanted d) (Some d) None) ≡ Some c → spelled ≡ Some c
of_kind wanted None c e = e
of_kind wanted (Some d) c e = by (wanted d) e
  where
    by : (b : Bool) → cond b (Some d) None ≡ Some c → Some d ≡ Some c
    by true e = e
    by false e = absurd (cc)

abbrev fields_behind : List (List ℕ) → List (List ℕ)
fields_behind (w ∷ s ∷ fields) = fields
fields_behind fields = []

spelled_call : (fields : List (List ℕ)) → IfSome (call_of_fields fields) (Spells (fields_behind fields))
unfolding call_of_fields
spelled_call [] = tt
spelled_call (w ∷ []) = if_picked (Spells []) (same_bytes w (codes "begin")) (Some Begin) None tt tt
spelled_call (w ∷ s ∷ []) =
    if_picked (Spells []) (same_bytes w (codes "commit")) (number_of s >>= λ n. Some (Commit n)) _
    (if_next (Spells []) (number_of s) (λ n. Some (Commit n)) (λ n e. tt))
    (if_picked (Spells []) (same_bytes w (codes "drop")) (number_of s >>= λ n. Some (Leave n)) None
    (if_next (Spells []) (number_of s) (λ n. Some (Leave n)) (λ n e. tt)) tt)
spelled_call (w ∷ s ∷ a ∷ fields) =
    let spells = Spells (a ∷ fields) in
    if_picked spells (same_bytes w (codes "ask"))
    (number_of s >>= λ n. command_that is_question (a ∷ fields) >>= λ c. Some (Ask n c)) _
    (if_next spells (number_of s) (λ n. command_that is_question (a ∷ fields) >>= λ c. Some (Ask n c))
    (λ n e. if_next spells (command_that is_question (a ∷ fields)) (λ c. Some (Ask n c)) (λ c f. tt)))
    (if_picked spells (same_bytes w (codes "stage"))
    (number_of s >>= λ n. command_that is_change (a ∷ fields) >>= λ c. Some (Stage n c)) None
    (if_next spells (number_of s) (λ n. command_that is_change (a ∷ fields) >>= λ c. Some (Stage n c))
    (λ n e. if_next spells (command_that is_change (a ∷ fields)) (λ c. Some (Stage n c))
    (λ c f. of_kind is_change (command_of_fields (a ∷ fields)) c f)))
    tt)

-- a change that is staged is what its fields spell, with paths that keys can hold
staged_of : (spelled : Option SessionCall) (fields : List (List ℕ)) (id : ℕ) (c : Command)
    → IfSome spelled (Spells fields) → checked_call spelled ≡ Ok (Stage id c)
    → (command_of_fields fields ≡ Some c) × (has_short_paths c ≡ true)
unfolding call_has_short_paths
staged_of None fields id c spells e = absurd (cc)
staged_of (Some call) fields id c spells e = by (call_has_short_paths call) refl e
  where
    by : (b : Bool) → call_has_short_paths call ≡ b → cond b (Ok call) (Err refusals.Path) ≡ Ok (Stage id c)
        → (command_of_fields fields ≡ Some c) × (has_short_paths c ≡ true)
    by true short e = let same : call ≡ Stage id c = cc
        in (subst (Spells fields) same spells, subst (λ (x : SessionCall). call_has_short_paths x ≡ true) same short)
    by false short e = absurd (cc)

-- ---- the fields of a command are those of a line of its own

-- what stands behind the first part of a text is a text
text_behind : (test : ℕ → Bool) (text first second : List ℕ) (others : List (List ℕ))
    → slice_split test text ≡ first ∷ second ∷ others → (rest : List ℕ) × (slice_split test rest ≡ second ∷ others)
text_behind test [] first second others e = absurd (cc)
text_behind test (byte ∷ bytes) first second others e =
    by (test byte) (slice_split test bytes) refl e (λ part split. text_behind test bytes part second others split)
  where
    by : (b : Bool) (parts : List (List ℕ)) → slice_split test bytes ≡ parts
        → cond b ([] ∷ parts) (onto_first byte parts) ≡ first ∷ second ∷ others
        → ((part : List ℕ) → slice_split test bytes ≡ part ∷ second ∷ others
        → (rest : List ℕ) × (slice_split test rest ≡ second ∷ others))
        → (rest : List ℕ) × (slice_split test rest ≡ second ∷ others)
    by true parts split e more = let same : parts ≡ second ∷ others = cc in (bytes, split ∙ same)
    by false [] split e more = absurd (cc)
    by false (part ∷ parts) split e more = let same : parts ≡ second ∷ others = cc
        in more part (split ∙ ap (λ (behind : List (List ℕ)). part ∷ behind) same)

-- so what they spell a line spells
line_of_fields : (text : List ℕ) (parts : List (List ℕ)) (c : Command) → parts_of text ≡ parts
    → command_of_fields (fields_behind parts) ≡ Some c → (rest : List ℕ) × (command_of rest ≡ Some c)
unfolding command_of_fields command_of
line_of_fields text [] c split e = absurd (cc)
line_of_fields text (w ∷ []) c split e = absurd (cc)
line_of_fields text (w ∷ s ∷ []) c split e = absurd (cc)
line_of_fields text (w ∷ s ∷ a ∷ fields) c split e =
    let one = text_behind (λ b. b == 0x20) text w s (a ∷ fields) split in
    let two = text_behind (λ b. b == 0x20) one.0 s a fields one.1 in
    (two.0, ap command_of_fields two.1 ∙ e)

-- and is a command that a script can ask for
command_spelled : (text : List ℕ) (c : Command) → command_of text ≡ Some c → has_short_paths c ≡ true → IsCommand c
unfolding parse
command_spelled text c e short = IsCommand-parse text c
    (ap checked_command e ∙ ap (λ (b : Bool). cond b (Ok c) (Err refusals.Path)) short)

parsed : (text : List ℕ) (id : ℕ) (c : Command) → parse_session text ≡ Ok (Stage id c) → IsCommand c
unfolding parse_session
parsed text id c e =
    let staged = staged_of (call_of_fields (parts_of text)) (fields_behind (parts_of text)) id c
    (spelled_call (parts_of text)) e in
    let spelled = line_of_fields text (parts_of text) c refl staged.0 in
    command_spelled spelled.0 c spelled.1 staged.1

staged_by_line : (text : List ℕ) (id : ℕ) (c : Command) → session_reading text ≡ Ok (Stage id c) → IsCommand c
unfolding session_reading
staged_by_line text id c = by (nat_lt line_limit (length text))
  where
    by : (b : Bool) → cond b (Err refusals.Long) (parse_session text) ≡ Ok (Stage id c) → IsCommand c
    by true e = absurd (cc)
    by false e = parsed text id c e

-- ---- histories

-- an event stages nothing but commands that a script can ask for
abbrev IsMeant : Event → Type 0
IsMeant event = (id : ℕ) (change : Command) → event ≡ Acts (Stage id change) → IsCommand change

all_of_both : {X : Type 0} (P : X → Type 0) (xs ys : List X) → AllByRecursion P xs → AllByRecursion P ys
    → AllByRecursion P (xs ++ ys)
all_of_both P [] ys f g = g
all_of_both P (x ∷ xs) ys f g = (f.0, all_of_both P xs ys f.1 g)

event_meant : (text : List ℕ) (reading : Result SessionCall Refusal) → session_reading text ≡ reading
    → AllByRecursion IsMeant (event_of reading)
event_meant text (Err refusal) e = tt
event_meant text (Ok call) e = (
  (λ id change is. let same : call ≡ Stage id change = cc
      in staged_by_line text id change (e ∙ ap Ok same)),
  tt,
)

events_meant : (texts : List (List ℕ)) → AllByRecursion IsMeant (session_events texts)
unfolding session_events
events_meant [] = tt
events_meant (text ∷ texts) = all_of_both IsMeant (session_events texts) (event_of (session_reading text))
    (events_meant texts) (event_meant text (session_reading text) refl)

-- ---- what is staged and committed

abbrev pub AreCommands : List Command → Type 0
AreCommands changes = AllByRecursion IsCommand changes

entry_stages : (id : ℕ) (event : Event) (answer : Option SessionAnswer) → IsMeant event
    → AreCommands (staged_by id (event, answer))
entry_stages id event answer is = grind arith

staged_or_none : (b : Bool) (changes : List Command) → AreCommands changes → AreCommands (cond b [] changes)
staged_or_none true changes is = tt
staged_or_none false changes is = is

since_are : (p : Parameters) (t : Tree) (id : ℕ) (events : List Event) → AllByRecursion IsMeant events
    → AreCommands (staged_since id (trace p t events))
unfolding trace staged_since
since_are p t id [] all = tt
since_are p t id (event ∷ before) all =
    let entry : Entry = (event, (happens p (world_after p t before) event).0) in
    staged_or_none (begins id entry) (staged_since id (trace p t before) ++ staged_by id entry)
    (all_of_both IsCommand (staged_since id (trace p t before)) (staged_by id entry) (since_are p t id before all.1)
    (entry_stages id event entry.1 all.0))

one_group : (before : List Entry) (committed : Option ℕ) → ((id : ℕ) → AreCommands (staged_since id before))
    → AllByRecursion AreCommands (option_map_or (λ id. staged_since id before ∷ []) committed [])
one_group before None are = tt
one_group before (Some id) are = (are id, tt)

groups_are : (p : Parameters) (t : Tree) (events : List Event) → AllByRecursion IsMeant events
    → AllByRecursion AreCommands (groups (trace p t events))
unfolding trace groups
groups_are p t [] all = tt
groups_are p t (event ∷ before) all =
    let entry : Entry = (event, (happens p (world_after p t before) event).0) in
    all_of_both AreCommands (groups (trace p t before))
    (option_map_or (λ id. staged_since id (trace p t before) ∷ []) (committed_by entry) [])
    (groups_are p t before all.1)
    (one_group (trace p t before) (committed_by entry) (λ id. since_are p t id before all.1))

changes_are : (gs : List (List Command)) → AllByRecursion AreCommands gs → AreCommands (changes_of gs)
changes_are [] all = tt
changes_are (group ∷ gs) all = all_of_both IsCommand group (changes_of gs) all.0 (changes_are gs all.1)

-- the changes of the groups that lines commit
pub session_changes : (t : Tree) (texts : List (List ℕ)) (p : Parameters)
    → AreCommands (changes_of (session_groups t texts p))
session_changes t texts p = changes_are (session_groups t texts p)
    (groups_are p t (session_events texts) (events_meant texts))
