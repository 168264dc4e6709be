-- Layouts that are found in slots: the verdict on them is that on their tree.
use Rattle.std.proofs.Common.{◌≡◌, ℕ, List, ap, ◌∙◌}
use Rattle.store_model.specs.Parameters.{Parameters, IsParameters}
use Rattle.store_model.specs.Trees.{Tree}
use Rattle.layout_conditions.specs.Conditions.{MeetConditions}
use Rattle.layout_conditions.proofs.LawLemmas.{conditions_tell, one_layout}
use Rattle.image_check.specs.declared.contents.Contents.{Contents}
use Rattle.image_check.specs.declared.verdict.Verdict.TheVariants as verdicts
use Rattle.image_check.specs.Contents.{AreContents}
use Rattle.image_check.specs.Verdicts.{clean_of, AreCleanSlots}
use Rattle.image_check.specs.SlotCalls.{AreFound, clean_on}

-- the verdict on the contents of a tree
pub verdict_on : (t : Tree) (p : Parameters) (contents : Contents) → AreContents t p contents
    → clean_on contents ≡ clean_of t p
verdict_on t p contents are =
    let used = are.used_is in
    let dirs = are.counts_are.dirs_are in
    let files = are.counts_are.files_are in
    let bytes = are.counts_are.bytes_are in
    λ i. verdicts.Clean (used i) (dirs i) (files i) (bytes i)

-- the verdict on slots in which they are found is clean
pub clean_slots : (slots : List (List ℕ)) (p : Parameters) (contents : Contents) → AreFound slots p contents
    → AreCleanSlots slots p (clean_on contents)
clean_slots slots p contents found = record {
  meets = found.meets;
  verdict_is = verdict_on found.meets.tree p contents found.contents_are;
}

-- the slots have one tree
pub one_met : (slots : List (List ℕ)) (p : Parameters) → IsParameters p
    → (a b : MeetConditions slots p) → a.tree ≡ b.tree
one_met slots p valid a b = one_layout slots p a.tree b.tree valid (conditions_tell slots p valid a)
    (conditions_tell slots p valid b)

-- and it is that on each tree that they hold
pub clean_with : (slots : List (List ℕ)) (p : Parameters) (contents : Contents) → AreFound slots p contents
    → (meets : MeetConditions slots p) → clean_on contents ≡ clean_of meets.tree p
clean_with slots p contents found meets =
    verdict_on found.meets.tree p contents found.contents_are
    ∙ ap (λ (v : Tree). clean_of v p) (one_met slots p found.contents_are.in_range found.meets meets)
