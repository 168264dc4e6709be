-- A refused line changes nothing, and `full` is exact.
use Rattle.std.proofs.Common.{◌≡◌, ◌⊎◌, inl, inr, ℕ, zero, suc, Bool, true, false, ◌&&◌, nat_lt, if◌then◌else◌}
use Rattle.std.proofs.Common.{List, [], ◌∷◌, ◌++◌, take, Option, Some, None, refl, sym, ap, ◌∙◌, subst}
use Rattle.std.proofs.Common.{⊎_elim, arith}
use Rattle.std.specs.List.{AllByRecursion}
use Rattle.std.proofs.lemmas.Bool.{and_parts, and_from, ltb-true, lt-ltb, true_from_ne_false}
use Rattle.std.proofs.lemmas.List.{append-nil}
use Rattle.store_model.specs.declared.refusal.Refusal.{Refusal}
use Rattle.store_model.specs.declared.refusal.Refusal.TheVariants as refusals
use Rattle.store_model.specs.Parameters.{Parameters}
use Rattle.store_model.specs.Trees.{Tree}
use Rattle.store_model.specs.Pages.{page_count, Fits}
use Rattle.store_model.specs.Trees.{IsTree}
use Rattle.store_model.specs.Images.{layout, Represents}
use Rattle.store_model.specs.Commands.{Command, Reply, reply_text}
use Rattle.store_model.specs.Commands.Reply.{Refused}
use Rattle.store_model.specs.Steps.{Step, Condition, step, step_by, conditions, first_refusal, refusal_of, reply_of}
use Rattle.store_model.specs.Steps.{next_tree, may_fill, lacks_version}
use Rattle.store_model.specs.Scripts.{lines, answer, answers_by, state_by, replies_by, tree_by}
use Rattle.store_model.specs.Scripts.{replies, tree_after, replies_text}
use Rattle.store_model.proofs.ScriptsLemmas.{refused_answer_keeps}
use Rattle.store_model.proofs.TreesLemmasFits.{needs_no_more}
use Rattle.store_model.proofs.TreesLemmasSteps.{step_of_version, step_by_refusal}
use Rattle.gate_journal.specs.Phases.{HasEmptyJournal}
use Rattle.gate_journal.proofs.Layouts.{layout-has-empty-journal}
use Rattle.script_lines.specs.Memory.{SourceMemory, SinkMemory, source_state, sink_state}
use Rattle.image_subcommands.specs.declared.status.Status.TheVariants as statuses
use Rattle.image_subcommands.specs.Outside.{outside_of}
use Rattle.script_runs.specs.Generations.{is_refused}
use Rattle.script_runs.specs.ScriptCall.{IsRun}
use Rattle.store_claims.specs.Answered.{AnswersScript}
use Rattle.store_claims.specs.Machines.{Disk, Ended, bytes_of, meaning}
use Rattle.store_claims.specs.Refusals.{IsRefusal, IsAtRest, IsUntouched, IsOneLine, NeedsMoreSlots, AnswersFull}
use Rattle.store_claims.specs.Refusals.{without_refused}
use Rattle.store_claims.proofs.BigLemmas.{answer_of_parsed}

-- ---- lines that are refused

-- they leave the tree
refused_keep : (t : Tree) (texts : List (List ℕ)) (p : Parameters) → AllByRecursion IsRefusal (replies t texts p)
    → (k : ℕ) → tree_after t (take k texts) p ≡ t
unfolding replies replies_by answers_by tree_after tree_by state_by
refused_keep t [] p all zero = refl
refused_keep t [] p all (suc k) = refl
refused_keep t (text ∷ texts) p all zero = refl
refused_keep t (text ∷ texts) p all (suc k) =
    let same : (answer t text p).tree ≡ t = refused_answer_keeps t text p (all.0).0 (all.0).1 in
    refused_keep (answer t text p).tree texts p all.1 k ∙ same

pub untouched : (t : Tree) (p : Parameters) (disk : Disk) (source : SourceMemory) (sink : SinkMemory) (after : Ended)
    → IsRun meaning source_state sink_state (outside_of disk source sink) after → IsAtRest (bytes_of disk) t p
    → AllByRecursion IsRefusal (replies t (lines source.left) p)
    → (after.status ≡ statuses.DiskFault → ⊥) → IsUntouched disk after.disk
untouched t p disk source sink after run rest all other =
    let is = rest.represents in
    let empty = subst (HasEmptyJournal p.slots) (sym rest.layout_is)
    (layout-has-empty-journal t p is.names.in_range is.tree is.fits) in
    let kept = refused_keep t (lines source.left) p all in
    let unwritten = ((run.observed refl).does t p is refl).carried.quiet empty other (λ k few. kept k ∙ sym (kept 0)) in
    record { bytes = unwritten.bytes; writes = unwritten.writes }

-- ---- lines that are left out

-- a reply that is a refusal
refusal_of_reply : (reply : Reply) → is_refused reply ≡ true → IsRefusal reply
refusal_of_reply reply e = grind arith

-- the lines that are not refused lead to the same tree
same_without : (t : Tree) (texts : List (List ℕ)) (p : Parameters)
    → tree_after t (without_refused t texts p) p ≡ tree_after t texts p
unfolding tree_after tree_by state_by
same_without t [] p = refl
same_without t (text ∷ texts) p =
    elim (is_refused (answer t text p).reply) as (λ b. is_refused (answer t text p).reply ≡ b
    → tree_after t (if b then without_refused t texts p else text ∷ without_refused (answer t text p).tree texts p) p
    ≡ tree_after (answer t text p).tree texts p) [
      | true ↦ λ e.
          let refused = refusal_of_reply (answer t text p).reply e in
          same_without t texts p ∙ ap (λ (u : Tree). tree_after u texts p)
          (sym (refused_answer_keeps t text p refused.0 refused.1))
      | false ↦ λ e. same_without (answer t text p).tree texts p
    ] refl

pub left_out : (t : Tree) (p : Parameters) (disk other_disk : Disk) (source other : SourceMemory)
    (sink other_sink : SinkMemory) (whole short : Ended)
    → AnswersScript t p disk source sink whole → AnswersScript t p other_disk other other_sink short
    → lines other.left ≡ without_refused t (lines source.left) p
    → whole.status ≡ statuses.Done → short.status ≡ statuses.Done → bytes_of short.disk ≡ bytes_of whole.disk
left_out t p disk other_disk source other sink other_sink whole short answers short_answers lines_are e d =
    (short_answers.image d).bytes
    ∙ ap (λ (u : Tree). layout u p) (ap (λ (texts : List (List ℕ)). tree_after t texts p) lines_are
    ∙ same_without t (lines source.left) p)
    ∙ sym (answers.image e).bytes

-- ---- full

-- a refusal other than `full`
abbrev IsOther : Refusal → Type 0
IsOther (refusals.Full need slots) = ⊥
IsOther refusal = Unit {0}

other_first : (all : List Condition) (refusal : Refusal) → AllByRecursion (λ condition. IsOther condition.1) all
    → first_refusal all ≡ Some refusal → IsOther refusal
unfolding first_refusal
other_first [] refusal others e = absurd (cc)
other_first (condition ∷ all) refusal others e =
    (elim condition.0 as (λ b. (if b then Some condition.1 else first_refusal all) ≡ Some refusal → IsOther refusal) [
      | true ↦ λ is. let same : condition.1 ≡ refusal = cc in subst IsOther same others.0
      | false ↦ λ is. other_first all refusal others.1 is
    ]) e

others : (t : Tree) (c : Command) → AllByRecursion (λ condition. IsOther condition.1) (conditions t c)
unfolding conditions
others t c = grind arith

-- what is not refused is not answered by a refusal
not_refused : (t : Tree) (c : Command) (p : Parameters) (r : Refusal) → reply_of t c p ≡ Refused r → ⊥
unfolding reply_of
not_refused t c p r e = grind arith

abbrev full_reply : Tree → Command → Parameters → Reply
full_reply t c p = Refused (refusals.Full (page_count (next_tree t c) p) p.slots)

-- where the step refuses by `full`, nothing else refuses, the pages exceed the slots, and the numbers are these
pub record IsFullStep (t : Tree) (c : Command) (p : Parameters) (need slots : ℕ) : Type 0 where
  pub needs : NeedsMoreSlots c t p
  pub need_is : need ≡ page_count (next_tree t c) p
  pub slots_are : slots ≡ p.slots

-- the reply of one of two steps, by a test
picked : (b : Bool) (x y : Step) (r : Reply) → (if b then x else y).reply ≡ r
    → ((b ≡ true) × (x.reply ≡ r)) ⊎ ((b ≡ false) × (y.reply ≡ r))
picked true x y r e = inl (refl, e)
picked false x y r e = inr (refl, e)

picked_first : (b : Bool) (x y : Step) → b ≡ true → (if b then x else y).reply ≡ x.reply
picked_first true x y e = refl
picked_first false x y e = absurd (cc)

full_by : (t : Tree) (c : Command) (p : Parameters) (need slots : ℕ) (o : Option Refusal) → lacks_version c p ≡ false
    → refusal_of t c ≡ o → (step_by t c p o).reply ≡ Refused (refusals.Full need slots) → IsFullStep t c p need slots
full_by t c p need slots (Some refusal) has o e =
    let same : refusal ≡ refusals.Full need slots = cc in
    absurd (subst IsOther same (other_first (conditions t c) refusal (others t c) o))
full_by t c p need slots None has o e =
    ⊎_elim
    (λ full.
    let said = full.1 in
    let need_is : need ≡ page_count (next_tree t c) p = cc in
    let slots_are : slots ≡ p.slots = cc in
    record {
      needs = record {
        served = has;
        not_refused = o;
        exceeds = ltb-true p.slots (page_count (next_tree t c) p) (and_parts _ _ full.0).1;
      };
      need_is = need_is;
      slots_are = slots_are;
    })
    (λ room. absurd (not_refused t c p (refusals.Full need slots) room.1))
    (picked (may_fill c && nat_lt p.slots (page_count (next_tree t c) p)) _ _ (Refused (refusals.Full need slots)) e)

full_step : (t : Tree) (c : Command) (p : Parameters) (need slots : ℕ)
    → (step t c p).reply ≡ Refused (refusals.Full need slots) → IsFullStep t c p need slots
full_step t c p need slots e = by_test (lacks_version c p) refl
  where
    by_test : (b : Bool) → lacks_version c p ≡ b → IsFullStep t c p need slots
    by_test true lacks = let other : Refused refusals.Version ≡ Refused (refusals.Full need slots) =
        sym (ap (λ (s : Step). s.reply) (step_of_version t c p lacks)) ∙ e in absurd (cc)
    by_test false has = full_by t c p need slots (refusal_of t c) has refl
        (sym (ap (λ (s : Step). s.reply) (step_by_refusal t c p has)) ∙ e)

-- and where they exceed the slots the step refuses so
step_full : (t : Tree) (c : Command) (p : Parameters) → IsTree t → Fits t p → NeedsMoreSlots c t p
    → (step t c p).reply ≡ full_reply t c p
step_full t c p tree fits needs =
    let fills : may_fill c ≡ true = true_from_ne_false (may_fill c)
    (λ e. let fewer = needs_no_more t c p tree e needs.not_refused in let more = needs.exceeds
    in let room = fits.room in absurd (omega arith)) in
    let full : (may_fill c && nat_lt p.slots (page_count (next_tree t c) p)) ≡ true =
    and_from _ _ fills (lt-ltb p.slots (page_count (next_tree t c) p) needs.exceeds) in
    ap (λ (s : Step). s.reply) (step_by_refusal t c p needs.served)
    ∙ ap (λ (o : Option Refusal). (step_by t c p o).reply) needs.not_refused
    ∙ picked_first (may_fill c && nat_lt p.slots (page_count (next_tree t c) p)) _ _ full

-- the reply to a script of one line
one_reply : (t : Tree) (text : List ℕ) (p : Parameters)
    → replies_text (replies t (text ∷ []) p) ≡ reply_text (answer t text p).reply
unfolding replies replies_by answers_by replies_text
one_reply t text p = append-nil (reply_text (answer t text p).reply)

pub answers_full : (command : Command) (t : Tree) (p : Parameters) (disk : Disk) (source : SourceMemory)
    (sink : SinkMemory) (after : Ended) → Represents (bytes_of disk) t p → IsOneLine source.left command
    → AnswersScript t p disk source sink after → after.status ≡ statuses.Done → AnswersFull command t p sink after
answers_full command t p disk source sink after is one answers e =
    record {
      reply = (step t command p).reply;
      written_is = answers.replied e
          ∙ ap (λ (text : List ℕ). sink.written ++ text)
          (ap (λ (texts : List (List ℕ)). replies_text (replies t texts p)) one.lines_are ∙ one_reply t one.text p
          ∙ ap (λ (s : Step). reply_text s.reply) (answer_of_parsed t one.text command p one.fits one.parsed));
      exact = (
        (λ full. (full_step t command p (page_count (next_tree t command) p) p.slots full).needs),
        step_full t
            command p is.tree is.fits,
      );
      numbers = λ need slots full. let so = full_step t command p need slots full in (so.need_is, so.slots_are);
    }
