-- An image that was upgraded is the one that is made with version 2: from what an upgrade and makings promise.
use Rattle.std.proofs.Common.{◌≡◌, ℕ, Bool, true, false, ◌&&◌, nat_lt, cond, List, [], ◌∷◌, ◌++◌, length}
use Rattle.std.proofs.Common.{map, Option, Some, None, Result, Ok, Err, codes, refl, sym, ap, ◌∙◌, subst, arith}
use Rattle.std.specs.List.{flat_map, AllByRecursion}
use Rattle.store_model.specs.declared.draw_kind.DrawKind.{DrawKind}
use Rattle.store_model.specs.declared.refusal.Refusal.{Refusal}
use Rattle.store_model.specs.declared.refusal.Refusal.TheVariants as refusals
use Rattle.store_model.specs.declared.version.Version.TheVariants.{One, Two}
use Rattle.store_model.specs.Parameters.{Parameters, with_version, slots_limit, height_limit}
use Rattle.store_model.specs.Trees.{Tree, empty_tree}
use Rattle.store_model.specs.Pages.{page_count}
use Rattle.store_model.specs.Images.{layout}
use Rattle.store_model.specs.Commands.{Command}
use Rattle.store_model.specs.Commands.Reply.{Refused}
use Rattle.store_model.specs.Steps.{Step, step, step_by, step_to, refusal_of, next_tree, may_fill, is_on_attributes}
use Rattle.store_model.specs.Steps.{lacks_version, reply_of}
use Rattle.store_model.proofs.TreesLemmasSteps.{step_of_version, step_by_refusal}
use Rattle.store_model.specs.Grammar.{parse}
use Rattle.store_model.specs.Scripts.{lines, line_limit, answer, answer_by, answers_by, state_by, replies_by, tree_by}
use Rattle.store_model.specs.Scripts.{replies, tree_after}
use Rattle.store_model.specs.Words.{request_of, number_in, kind_of_word, seed_of_word, version_of_word}
use Rattle.store_model.specs.Words.Request.{Format}
use Rattle.image_check.specs.Standing.{IsFitting}
use Rattle.script_lines.specs.Memory.{SourceMemory, SinkMemory, source_state, sink_state}
use Rattle.image_subcommands.specs.declared.status.Status.TheVariants as statuses
use Rattle.image_subcommands.specs.Outside.{outside_of, KeepsOutside}
use Rattle.image_subcommands.specs.Statuses.{Subcommand as words, IsStopOf}
use Rattle.store_top.specs.UpgradeCall.{IsUpgrade}
use Rattle.store_claims.specs.Machines.{Disk, Ended, HasImage, meaning}
use Rattle.store_claims.specs.Makings.{made_tree}
use Rattle.store_claims.specs.Upgrades.{HaveSameArguments, AreSameScripts, IsNotFull, IsServed, IsUpgradedAsMade}
use Rattle.store_claims.specs.Upgrades.{StopsUpgrade}
use Rattle.store_claims.proofs.MakingLemmas.{represented}
use Rattle.store_claims.proofs.RequestedParameters.{format_by}
use Rattle.store_claims.proofs.RunWays.{found, image_of, upgrade_stop}
use Rattle.store_claims.proofs.StoppingLemmas.{disk_by}

-- ---- words

asks_two : (slots height : Option ℕ) (kind : Option DrawKind) (seed : Option (List ℕ)) (p : Parameters)
    → format_by (Some One) slots height kind seed ≡ Some (Format p)
    → format_by (Some Two) slots height kind seed ≡ Some (Format (with_version p Two))
asks_two slots height kind seed p e = grind arith

-- with the same arguments `format2` asks for what `format` does, with version 2
format2_asks : (arguments : List (List ℕ)) (p : Parameters) → request_of (codes "format" ∷ arguments) ≡ Some (Format p)
    → request_of (codes "format2" ∷ arguments) ≡ Some (Format (with_version p Two))
unfolding request_of version_of_word
format2_asks [] p e = absurd (cc)
format2_asks (a ∷ []) p e = absurd (cc)
format2_asks (a ∷ b ∷ []) p e = absurd (cc)
format2_asks (a ∷ b ∷ c ∷ []) p e = absurd (cc)
format2_asks (a ∷ b ∷ c ∷ d ∷ []) p e = asks_two (number_in 1 slots_limit a) (number_in 1 height_limit b)
    (kind_of_word c) (seed_of_word d) p e
format2_asks (a ∷ b ∷ c ∷ d ∷ x ∷ rest) p e = absurd (cc)

pub asks_for_two : (format format2 : List (List ℕ)) (p : Parameters) → HaveSameArguments format format2
    → request_of format ≡ Some (Format p) → request_of format2 ≡ Some (Format (with_version p Two))
asks_for_two format format2 p same asked =
    ap request_of same.format2_is ∙ format2_asks same.arguments p (ap request_of (sym same.format_is) ∙ asked)

-- ---- trees

-- a step that is not `full` leads to the next tree, whatever the parameters
goes_on : (b : Bool) (need slots : ℕ) (t : Tree) (to : Step)
    → IsNotFull (cond b (record { reply = Refused (refusals.Full need slots); tree = t }) to).reply
    → (cond b (record { reply = Refused (refusals.Full need slots); tree = t }) to).tree ≡ to.tree
goes_on true need slots t to never = absurd (never need slots refl)
goes_on false need slots t to never = refl

-- version 2 serves each command, and another version one that it did not answer `version`
two_serves : (c : Command) (p : Parameters) → lacks_version c (with_version p Two) ≡ false
two_serves c p = elim (is_on_attributes c) as (λ b. (b && false) ≡ false) [ true ↦ refl | false ↦ refl ]

served : (t : Tree) (c : Command) (p : Parameters) → IsServed (step t c p).reply → lacks_version c p ≡ false
served t c p serves = by_test (lacks_version c p) refl
  where
    by_test : (b : Bool) → lacks_version c p ≡ b → b ≡ false
    by_test true lacks = absurd (serves (ap (λ (s : Step). s.reply) (step_of_version t c p lacks)))
    by_test false has = refl

same_step : (t : Tree) (c : Command) (p : Parameters) → IsServed (step t c p).reply → IsNotFull (step t c p).reply
    → IsNotFull (step t c (with_version p Two)).reply → (step t c p).tree ≡ (step t c (with_version p Two)).tree
same_step t c p serves one other =
    let first = step_by_refusal t c p (served t c p serves) in
    let second = step_by_refusal t c (with_version p Two) (two_serves c p) in
    ap (λ (s : Step). s.tree) first
    ∙ by (refusal_of t c) (subst (λ (s : Step). IsNotFull s.reply) first one)
    (subst (λ (s : Step). IsNotFull s.reply) second other)
    ∙ sym (ap (λ (s : Step). s.tree) second)
  where
    leads : (r : Parameters) → IsNotFull (step_to t c r (next_tree t c)).reply
        → (step_to t c r (next_tree t c)).tree ≡ next_tree t c
    leads r = goes_on (may_fill c && nat_lt r.slots (page_count (next_tree t c) r))
        (page_count (next_tree t c) r) r.slots t (record { reply = reply_of t c r; tree = next_tree t c })

    by : (refusal : Option Refusal) → IsNotFull (step_by t c p refusal).reply
        → IsNotFull (step_by t c (with_version p Two) refusal).reply
        → (step_by t c p refusal).tree ≡ (step_by t c (with_version p Two) refusal).tree
    by (Some refusal) one other = refl
    by None one other = leads p one ∙ sym (leads (with_version p Two) other)

-- the answer to a line, by whether it is too long
abbrev by_length : Tree → Bool → Result Command Refusal → Parameters → Step
by_length t long parsed p = cond long (record { reply = Refused refusals.Long; tree = t }) (answer_by t parsed p)

same_answer : (t : Tree) (text : List ℕ) (p : Parameters) → IsServed (answer t text p).reply
    → IsNotFull (answer t text p).reply → IsNotFull (answer t text (with_version p Two)).reply
    → (answer t text p).tree ≡ (answer t text (with_version p Two)).tree
unfolding answer
same_answer t text p = by (nat_lt line_limit (length text)) (parse text)
  where
    by : (b : Bool) (parsed : Result Command Refusal) → IsServed (by_length t b parsed p).reply
        → IsNotFull (by_length t b parsed p).reply → IsNotFull (by_length t b parsed (with_version p Two)).reply
        → (by_length t b parsed p).tree ≡ (by_length t b parsed (with_version p Two)).tree
    by true parsed serves one other = refl
    by false (Err refusal) serves one other = refl
    by false (Ok c) serves one other = same_step t c p serves one other

-- lines that version 1 serves, and of which none is answered `full`, leave the same tree under version 2
same_trees : (t : Tree) (texts : List (List ℕ)) (p : Parameters) → AllByRecursion IsServed (replies t texts p)
    → AllByRecursion IsNotFull (replies t texts p) → AllByRecursion IsNotFull (replies t texts (with_version p Two))
    → tree_after t texts p ≡ tree_after t texts (with_version p Two)
unfolding replies replies_by answers_by tree_after tree_by state_by
same_trees t [] p serves one other = refl
same_trees t (text ∷ texts) p serves one other =
    let q = with_version p Two in
    let same : (answer t text p).tree ≡ (answer t text q).tree = same_answer t text p serves.0 one.0 other.0 in
    same_trees (answer t text p).tree texts p
    serves.1 one.1 (subst (λ (u : Tree). AllByRecursion IsNotFull (replies u texts q)) (sym same) other.1)
    ∙ ap (λ (u : Tree). tree_after u texts q) same

-- ---- images

-- an upgrade that ended with 0 leaves the image of the tree, of version 2
pub upgraded : (t : Tree) (p : Parameters) (disk : Disk) (source : SourceMemory) (sink : SinkMemory) (after : Ended)
    → IsUpgrade meaning (outside_of disk source sink) after
    → IsFitting t p → HasImage disk t p → after.status ≡ statuses.Done → HasImage after.disk t (with_version p Two)
upgraded t p disk source sink after upgrade is image e =
    image_of after.disk t (with_version p Two)
    (((upgrade.observed refl).does t p (represented disk t p is image)).upgraded e)

-- one that did not was stopped by its disk, or by want of memory
pub upgrade_stops : (t : Tree) (p : Parameters) (disk : Disk) (source : SourceMemory) (sink : SinkMemory)
    (after : Ended) → IsUpgrade meaning (outside_of disk source sink) after
    → KeepsOutside after.status (meaning disk) (meaning after.disk) (source_state source) (source_state after.source)
    (sink_state sink) (sink_state after.sink)
    → IsFitting t p → HasImage disk t p → (after.status ≡ statuses.Done → ⊥) → StopsUpgrade disk after
upgrade_stops t p disk source sink after upgrade outside is image other =
    let on_disk = upgrade.observed refl in
    record {
      ends = upgrade_stop after.status (found words.Upgrade t p disk after.status upgrade.ends
          on_disk.not_image on_disk.damaged (represented disk t p is image)) other;
      disk_fault = disk_by disk source sink after outside statuses.DiskFault;
    }

-- there was no memory for the word `upgrade`
pub unupgraded_stops : (disk : Disk) (ended : Ended) → ended.status ≡ statuses.NoMemory → StopsUpgrade disk ended
unupgraded_stops disk ended is = record {
  ends = subst (IsStopOf words.Upgrade) (sym is) refl;
  disk_fault = λ e. absurd (cc);
}

-- the lines of scripts are those of their bytes
lines_of : (scripts : List SourceMemory) → flat_map (λ (script : SourceMemory). lines script.left) scripts
    ≡ flat_map lines (map (λ (script : SourceMemory). script.left) scripts)
lines_of [] = refl
lines_of (script ∷ scripts) = ap (λ (rest : List (List ℕ)). lines script.left ++ rest) (lines_of scripts)

pub upgraded_as_made : (scripts others : List SourceMemory) (p : Parameters) (one two : Disk)
    → AreSameScripts scripts others → HasImage one (made_tree scripts p) (with_version p Two)
    → HasImage two (made_tree others (with_version p Two)) (with_version p Two)
    → IsUpgradedAsMade scripts p one two
upgraded_as_made scripts others p one two same image_one image_two =
    let q = with_version p Two in
    let texts = flat_map (λ (script : SourceMemory). lines script.left) scripts in
    let lines_are : flat_map (λ (script : SourceMemory). lines script.left) others ≡ texts =
    lines_of others ∙ ap (flat_map lines) same ∙ sym (lines_of scripts) in
    let made : HasImage two (made_tree scripts q) q =
    subst (λ (ts : List (List ℕ)). HasImage two (tree_after empty_tree ts q) q) lines_are image_two in
    record {
      upgraded_image = image_one;
      made_image = made;
      same = λ serves never_one never_two. image_one.bytes
          ∙ ap (λ (t : Tree). layout t q) (same_trees empty_tree texts p serves never_one never_two) ∙ sym made.bytes;
    }
