-- Steps for which every tree has room.
use Rattle.std.proofs.Common.{◌≡◌, ℕ, Bool, true, false, Option, None, Some, List, length, nat_lt}
use Rattle.std.proofs.Common.{if◌then◌else◌, refl, sym, ap, subst, ◌∙◌, ⊎_elim}
use Rattle.std.specs.Option.{option_or}
use Rattle.std.proofs.lemmas.Bool.{cases_Bool, cond-true, cond-false}
use Rattle.store_model.specs.declared.refusal.Refusal.{Refusal}
use Rattle.store_model.specs.declared.refusal.Refusal.TheVariants as refusals
use Rattle.store_model.specs.Parameters.{Parameters}
use Rattle.store_model.specs.Trees.{Tree, IsTree}
use Rattle.store_model.specs.Pairs.{has_attributes}
use Rattle.store_model.specs.Pages.{page_count, Fits, IsBare, IsTreeUnder}
use Rattle.store_model.specs.Commands.{Command, Reply, IsCommand}
use Rattle.store_model.specs.Commands.Reply.{Acknowledged, Refused}
use Rattle.store_model.specs.Steps.{Step, lacks_version, refusal_of, step}
use Rattle.store_model.proofs.TreesLemmasSteps.{step_of_version}
use Rattle.tree_pairs.specs.TreeCalls.{uncounted_by, uncounted_step}
use Rattle.tree_commands.specs.Counted.{counted_step}
use Rattle.tree_commands.proofs.StepLemmas.{uncounted_tree, acked_step, answered_step}
use Rattle.staged_tree.specs.Groups.{tree_unless}
use Rattle.staged_tree.specs.Guards.{Guarded, is_due}
use Rattle.staged_tree.specs.Roomy.{roomy_step, guarded_step, refused_roomy, roomy_tree, full_behind, refused_at_end}
use Rattle.staged_tree.specs.Roomy.{streamed_tree}
use Rattle.staged_tree.proofs.BareTrees.{bare_next}

module _ (p : Parameters) (t : Tree) (c : Command) where
  -- by whether the version has the command
  pub roomy_lacks : lacks_version c p ≡ true
      → roomy_step p t c ≡ record { reply = Refused refusals.Version; tree = t }
  roomy_lacks is = cond-true (lacks_version c p) _ _ is

  pub roomy_has : lacks_version c p ≡ false → roomy_step p t c ≡ uncounted_step t c p
  roomy_has is = cond-false (lacks_version c p) _ _ is

  -- a command that is refused so is refused
  pub roomy_refused : (refusal : Refusal) → Refused refusal ≡ (roomy_step p t c).reply
      → step t c p ≡ record { reply = Refused refusal; tree = t }
  roomy_refused refusal is =
      ⊎_elim
      (λ lacks. step_of_version t c p lacks
      ∙ ap (λ (r : Reply). record { reply = r; tree = t }) (sym (is ∙ ap (λ (s : Step). s.reply) (roomy_lacks lacks))))
      (λ has. answered_step t c p (Refused refusal) has (is ∙ ap (λ (s : Step). s.reply) (roomy_has has)) (λ e. cc))
      (cases_Bool (lacks_version c p))

  -- of one that is carried out the pages are counted
  pub roomy_acked : IsTree t → Fits t p → Acknowledged ≡ (roomy_step p t c).reply
      → step t c p ≡ counted_step t (roomy_step p t c).tree p
  roomy_acked tree fits is =
      ⊎_elim
      (λ lacks. absurd (let other : Acknowledged ≡ Refused refusals.Version =
      is ∙ ap (λ (s : Step). s.reply) (roomy_lacks lacks) in cc))
      (λ has. acked_step t c p tree fits has (sym (is ∙ ap (λ (s : Step). s.reply) (roomy_has has)))
      ∙ ap (λ (s : Step). counted_step t s.tree p) (sym (roomy_has has)))
      (cases_Bool (lacks_version c p))

  -- its tree is one that an image may hold
  pub roomy_under : IsTreeUnder t p → IsCommand c → IsTreeUnder (roomy_step p t c).tree p
  roomy_under under command =
      ⊎_elim
      (λ lacks. subst (λ (s : Step). IsTreeUnder s.tree p) (sym (roomy_lacks lacks)) under)
      (λ has. subst (λ (s : Step). IsTreeUnder s.tree p) (sym (roomy_has has)) (record {
        is_tree = uncounted_tree t c p under.is_tree command;
        bare = λ one. bare_by has one (refusal_of t c);
      }))
      (cases_Bool (lacks_version c p))
    where
      bare_by : lacks_version c p ≡ false → has_attributes p.version ≡ false → (o : Option Refusal)
          → IsBare (uncounted_by t c p o).tree
      bare_by has one (Some refusal) = under.bare one
      bare_by has one None = bare_next t c p has one (under.bare one)

-- ---- a change with a guard

module _ (p : Parameters) (t : Tree) (g : Guarded) where
  pub guarded_due : is_due t g ≡ true → guarded_step p t g ≡ roomy_step p t g.change
  guarded_due is = cond-true (is_due t g) _ _ is

  pub guarded_passed : is_due t g ≡ false → guarded_step p t g ≡ record { reply = Acknowledged; tree = t }
  guarded_passed is = cond-false (is_due t g) _ _ is

  pub guarded_under : IsTreeUnder t p → IsCommand g.change → IsTreeUnder (guarded_step p t g).tree p
  guarded_under under command =
      ⊎_elim
      (λ due. subst (λ (s : Step). IsTreeUnder s.tree p) (sym (guarded_due due))
      (roomy_under p t g.change under command))
      (λ passed. subst (λ (s : Step). IsTreeUnder s.tree p) (sym (guarded_passed passed)) under)
      (cases_Bool (is_due t g))

-- ---- a whole group

module _ (p : Parameters) (t : Tree) (changes : List Guarded) (none : refused_roomy p t changes ≡ None) where
  abbrev next : Tree
  next = roomy_tree p t changes

  -- where none of the changes is refused, it is by their pages alone
  pub only_full : refused_at_end p t changes ≡ full_behind p next (length changes)
  only_full = ap (λ (o : Option (ℕ × Refusal)). option_or o (full_behind p next (length changes))) none

  pub whole_tree : streamed_tree p t true changes ≡ (counted_step t next p).tree
  whole_tree = ap (λ (o : Option (ℕ × Refusal)). tree_unless o next t) only_full
      ∙ by (nat_lt p.slots (page_count next p))
    where
      by : (full : Bool)
          → tree_unless (if full then Some (length changes, refusals.Full (page_count next p) p.slots) else None) next t
          ≡ Step.tree (if full then (record {
            reply = Refused (refusals.Full (page_count next p) p.slots);
            tree = t;
          }) else
          (record { reply = Acknowledged; tree = next }))
      by true = refl
      by false = refl
