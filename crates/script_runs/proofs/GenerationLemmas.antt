-- Lemmas on the commands that a number gives, and on the trees and replies that they make.
use Rattle.std.proofs.Common.{◌≡◌, ℕ, zero, suc, ◌+◌, ◌-◌, ◌≤◌, List, [], ◌∷◌, ◌++◌, length, take, refl, sym, ap, ◌∙◌}
use Rattle.std.proofs.Common.{arith, append_assoc, length-append}
use Rattle.std.specs.List.{filter}
use Rattle.std.proofs.lemmas.List.{take_at, take_all, append-nil}
use Rattle.std.proofs.lemmas.List.Elements.{filter-append}
use Rattle.store_model.specs.Parameters.{Parameters}
use Rattle.store_model.specs.Trees.{Tree}
use Rattle.store_model.specs.Commands.{Command, Reply}
use Rattle.store_model.specs.Commands.Reply.{Acknowledged, Content, Listing, AttributeListing, PagesUsed, ImageDigest}
use Rattle.store_model.specs.Commands.Reply.{Refused}
use Rattle.store_model.specs.Steps.{step}
use Rattle.store_model.specs.Scripts.{answers_by, state_by, replies_by, tree_by}
use Rattle.store_model.proofs.ScriptsLemmas.{replies_by-append, tree_by-append}
use Rattle.script_lines.specs.Generated.{generated}
use Rattle.staged_tree.specs.Groups.{step_under}
use Rattle.script_runs.specs.Generations.{first_commands, generated_replies, generated_trees, is_refused, count_refused}
use Rattle.script_runs.specs.Generations.{count_answered}

-- ---- the commands

commands_more : (number n : ℕ) → first_commands number (n + 1) ≡ first_commands number n ++ generated number n ∷ []
unfolding first_commands
commands_more number n = let more : n + 1 ≡ suc n = omega arith in ap (first_commands number) more

length-commands : (number n : ℕ) → length (first_commands number n) ≡ n
unfolding first_commands
length-commands number zero = refl
length-commands number (suc n) =
    omega (arith, length-append (first_commands number n) (generated number n ∷ []), length-commands number n)

-- the first of them are the first of more
commands_front : (number n k : ℕ) → (rest : List Command)
    × (first_commands number (n + k) ≡ first_commands number n ++ rest)
commands_front number n zero =
    let same : n + 0 ≡ n = omega arith in
    ([], ap (first_commands number) same ∙ sym (append-nil (first_commands number n)))
commands_front number n (suc k) =
    let before = commands_front number n k in
    let more : n + suc k ≡ (n + k) + 1 = omega arith in
    let last : List Command = generated number (n + k) ∷ [] in (
      before.0 ++ last,
      ap (first_commands number) more ∙ commands_more number (n + k) ∙ ap (λ xs. xs ++ last) before.1
          ∙ append_assoc (first_commands number n) before.0 last,
    )

take-commands : (number count n : ℕ) → n ≤ count → take n (first_commands number count) ≡ first_commands number n
take-commands number count n low =
    let size : count ≡ n + (count - n) = omega (arith, low) in
    let front = commands_front number n (count - n) in
    ap (λ k. take n (first_commands number k)) size ∙ ap (take n) front.1
    ∙ take_at (first_commands number n) front.0 n (length-commands number n)

-- ---- trees

one_step : (p : Parameters) (t : Tree) (c : Command) → tree_by (step_under p) t (c ∷ []) ≡ (step t c p).tree
unfolding tree_by state_by
one_step p t c = refl

module _ (t : Tree) (number count : ℕ) (p : Parameters) where
  pub no_command : generated_trees t number count p 0 ≡ t
  unfolding tree_by state_by
  no_command = refl

  -- the tree after so many commands
  pub tree_at : (n : ℕ) → n ≤ count → generated_trees t number count p n
      ≡ tree_by (step_under p) t (first_commands number n)
  tree_at n low = ap (tree_by (step_under p) t) (take-commands number count n low)

  -- one command more
  pub tree_more : (n : ℕ) → n + 1 ≤ count → generated_trees t number count p (n + 1)
      ≡ (step (generated_trees t number count p n) (generated number n) p).tree
  tree_more n low =
      tree_at (n + 1) low ∙ ap (tree_by (step_under p) t) (commands_more number n)
      ∙ tree_by-append (step_under p) t (first_commands number n) (generated number n ∷ [])
      ∙ one_step p (tree_by (step_under p) t (first_commands number n)) (generated number n)
      ∙ ap (λ (u : Tree). (step u (generated number n) p).tree) (sym (tree_at n (omega (arith, low))))

  -- behind the last there is no other tree
  pub tree_past : generated_trees t number count p (count + 1) ≡ generated_trees t number count p count
  tree_past =
      ap (tree_by (step_under p) t)
      (take_all (count + 1) (first_commands number count) (omega (arith, length-commands number count))
      ∙ sym (take_all count (first_commands number count) (omega (arith, length-commands number count))))

-- ---- replies

one_reply : (p : Parameters) (t : Tree) (c : Command) → replies_by (step_under p) t (c ∷ []) ≡ (step t c p).reply ∷ []
unfolding replies_by answers_by
one_reply p t c = refl

pub no_reply : (t : Tree) (number : ℕ) (p : Parameters) → count_refused (generated_replies t number 0 p) ≡ 0
unfolding first_commands replies_by answers_by
no_reply t number p = refl

length-replies_by : (p : Parameters) (t : Tree) (cs : List Command)
    → length (replies_by (step_under p) t cs) ≡ length cs
unfolding replies_by answers_by
length-replies_by p t [] = refl
length-replies_by p t (c ∷ cs) = ap suc (length-replies_by p (step t c p).tree cs)

refused-append : (a b : List Reply) → count_refused (a ++ b) ≡ count_refused a + count_refused b
refused-append a b = ap (λ (xs : List Reply). length xs) (filter-append is_refused a b)
    ∙ length-append (filter is_refused a) (filter is_refused b)

-- one reply more
pub refused_more : (t : Tree) (number count n : ℕ) (p : Parameters) → n ≤ count
    → count_refused (generated_replies t number (n + 1) p) ≡ count_refused (generated_replies t number n p)
    + count_refused ((step (generated_trees t number count p n) (generated number n) p).reply ∷ [])
refused_more t number count n p low =
    ap (λ cs. count_refused (replies_by (step_under p) t cs)) (commands_more number n)
    ∙ ap count_refused (replies_by-append (step_under p) t (first_commands number n) (generated number n ∷ []))
    ∙ refused-append (replies_by (step_under p) t (first_commands number n))
    (replies_by (step_under p) (tree_by (step_under p) t (first_commands number n)) (generated number n ∷ []))
    ∙ ap (λ rs. count_refused (replies_by (step_under p) t (first_commands number n)) + count_refused rs)
    (one_reply p (tree_by (step_under p) t (first_commands number n)) (generated number n)
    ∙ ap (λ (u : Tree). (step u (generated number n) p).reply ∷ []) (sym (tree_at t number count p n low)))

-- every reply is a refusal or is not
pub counted_all : (rs : List Reply) → count_answered rs + count_refused rs ≡ length rs
counted_all [] = refl
counted_all (Acknowledged ∷ rs) = omega (arith, counted_all rs)
counted_all (Content bytes ∷ rs) = omega (arith, counted_all rs)
counted_all (Listing children ∷ rs) = omega (arith, counted_all rs)
counted_all (AttributeListing attributes ∷ rs) = omega (arith, counted_all rs)
counted_all (PagesUsed used slots ∷ rs) = omega (arith, counted_all rs)
counted_all (ImageDigest digest ∷ rs) = omega (arith, counted_all rs)
counted_all (Refused refusal ∷ rs) = omega (arith, counted_all rs)

pub answered_are : (t : Tree) (number count : ℕ) (p : Parameters)
    → count - count_refused (generated_replies t number count p) ≡ count_answered (generated_replies t number count p)
answered_are t number count p =
    omega (
      arith,
      counted_all (generated_replies t number count p),
      length-replies_by p t
          (first_commands number count),
      length-commands number count,
    )
