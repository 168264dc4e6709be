-- Serial runs of groups.
use Rattle.std.proofs.Common.{Bool, true, false, ◌&&◌, nat_lt, if◌then◌else◌, ◌≡◌, ℕ, List, [], ◌∷◌, ◌++◌, Option, None}
use Rattle.std.proofs.Common.{Some, refl, sym, ap, ◌∙◌, subst}
use Rattle.std.specs.List.{AllByRecursion}
use Rattle.std.proofs.lemmas.List.{append-nil}
use Rattle.std.proofs.lemmas.Grind.{flat_map-append}
use Rattle.store_model.specs.declared.refusal.Refusal.{Refusal}
use Rattle.store_model.specs.Parameters.{Parameters}
use Rattle.store_model.specs.Trees.{Tree}
use Rattle.store_model.specs.Commands.{Command, Reply}
use Rattle.store_model.specs.Commands.Command.{Make, Write, Cut, Rename, Remove, Prune, SetAttribute, UnsetAttribute}
use Rattle.store_model.specs.Commands.Reply.{Acknowledged}
use Rattle.store_model.specs.Pages.{page_count}
use Rattle.store_model.specs.Steps.{Step, step, step_by, reply_of, refusal_of, next_tree, may_fill, lacks_version}
use Rattle.script_lines.specs.Sessions.{is_change}
use Rattle.store_model.specs.Scripts.{replies_by, tree_by, answers_by, state_by}
use Rattle.store_model.proofs.ListsLemmas.{all_append}
use Rattle.store_model.proofs.ScriptsLemmas.{replies_by-append, tree_by-append}
use Rattle.staged_tree.specs.Groups.{step_under, refusal_in, first_refused, refused_in, group_tree}
use Rattle.session_core.specs.Traces.{changes_of, serial_tree}

-- no reply refuses
abbrev pub NoneRefuses : List Reply → Type 0
NoneRefuses replies = AllByRecursion (λ reply. refusal_in reply ≡ None) replies

-- where no first refusal is found, there is none
none_refused : (replies : List Reply) → first_refused replies ≡ None → NoneRefuses replies
unfolding first_refused
none_refused [] h = tt
none_refused (reply ∷ replies) h = by (refusal_in reply) (first_refused replies) refl refl (none_refused replies)
  where
    by : (here : Option Refusal) (later : Option (ℕ × Refusal)) → refusal_in reply ≡ here
        → first_refused replies ≡ later → (first_refused replies ≡ None → NoneRefuses replies)
        → (refusal_in reply ≡ None) × NoneRefuses replies
    by (Some refusal) later e f rest = let other = rw e at h in absurd (cc)
    by None (Some found) e f rest = let other = rw (e, f) at h in absurd (cc)
    by None None e f rest = (e, rest f)

-- A tree is that of one serial run of groups, in which nothing is refused.
pub record RunsTo (p : Parameters) (t : Tree) (gs : List (List Command)) (now : Tree) : Type 0 where
  pub tree : now ≡ serial_tree p t gs
  pub whole : NoneRefuses (replies_by (step_under p) t (changes_of gs))

-- no group
pub run_none : (p : Parameters) (t : Tree) → RunsTo p t [] t
unfolding replies_by answers_by tree_by state_by
run_none p t = record { tree = refl; whole = tt }

-- the changes of one group more
changes_more : (gs : List (List Command)) (changes : List Command)
    → changes_of (gs ++ changes ∷ []) ≡ changes_of gs ++ changes
changes_more gs changes = flat_map-append (λ (g : List Command). g) gs (changes ∷ [])
    ∙ ap (λ more. changes_of gs ++ more) (append-nil changes)

-- the tree of a group of which nothing is refused
group_whole : (p : Parameters) (t : Tree) (changes : List Command) → refused_in p t changes ≡ None
    → group_tree p t changes ≡ tree_by (step_under p) t changes
group_whole p t changes h = rw h

-- one group more
pub run_more : (p : Parameters) (t : Tree) (gs : List (List Command)) (now : Tree) (changes : List Command)
    → RunsTo p t gs now → refused_in p now changes ≡ None
    → RunsTo p t (gs ++ changes ∷ []) (group_tree p now changes)
run_more p t gs now changes runs h =
    let front = changes_of gs in
    record {
      tree =
          group_whole p now changes h ∙ ap (λ u. tree_by (step_under p) u changes) runs.tree
          ∙ sym (tree_by-append (step_under p) t (changes_of gs) changes)
          ∙ ap (tree_by (step_under p) t) (sym (changes_more gs changes));
      whole =
          subst NoneRefuses
          (sym (ap (replies_by (step_under p) t) (changes_more gs changes)
          ∙ replies_by-append (step_under p) t (changes_of gs) changes))
          (all_append (λ reply. refusal_in reply ≡ None) (replies_by (step_under p) t (changes_of gs)) _ runs.whole
          (subst (λ u. NoneRefuses (replies_by (step_under p) u changes))
          runs.tree (none_refused (replies_by (step_under p) now changes) h)));
    }

-- the same groups
pub run_same : (p : Parameters) (t : Tree) (gs hs : List (List Command)) (now : Tree) → gs ≡ hs
    → RunsTo p t gs now → RunsTo p t hs now
run_same p t gs hs now e runs = subst (λ groups. RunsTo p t groups now) e runs

-- ---- changes are acknowledged

-- a change that is carried out
carried_out : (t : Tree) (c : Command) (p : Parameters) → is_change c ≡ true → reply_of t c p ≡ Acknowledged
unfolding reply_of
carried_out t (Make path) p h = refl
carried_out t (Write path at bytes) p h = refl
carried_out t (Cut path len) p h = refl
carried_out t (Rename from to) p h = refl
carried_out t (Remove path) p h = refl
carried_out t (Prune path) p h = refl
carried_out t (SetAttribute path a bytes) p h = refl
carried_out t (UnsetAttribute path a) p h = refl
carried_out t c p h = absurd (cc)

-- of two steps that do not refuse, the one that a test picks acknowledges, where each does
picked : (b : Bool) (x y : Step) → (refusal_in x.reply ≡ None → x.reply ≡ Acknowledged)
    → (refusal_in y.reply ≡ None → y.reply ≡ Acknowledged)
    → refusal_in (if b then x else y).reply ≡ None → (if b then x else y).reply ≡ Acknowledged
picked true x y f g = f
picked false x y f g = g

-- a change that is not refused
acknowledges : (t : Tree) (c : Command) (p : Parameters) → is_change c ≡ true → refusal_in (step t c p).reply ≡ None
    → (step t c p).reply ≡ Acknowledged
unfolding step
acknowledges t c p h = picked (lacks_version c p) _ _ (λ e. absurd (cc)) (by (refusal_of t c))
  where
    by : (refusal : Option Refusal) → refusal_in (step_by t c p refusal).reply ≡ None
        → (step_by t c p refusal).reply ≡ Acknowledged
    by (Some refusal) e = absurd (cc)
    by None e = picked (may_fill c && nat_lt p.slots (page_count (next_tree t c) p)) _ _ (λ f. absurd (cc))
        (λ f. carried_out t c p h) e

-- changes of which none is refused
pub all_acknowledged : (p : Parameters) (t : Tree) (changes : List Command)
    → AllByRecursion (λ change. is_change change ≡ true) changes → NoneRefuses (replies_by (step_under p) t changes)
    → AllByRecursion (λ reply. reply ≡ Acknowledged) (replies_by (step_under p) t changes)
unfolding replies_by answers_by
all_acknowledged p t [] h none = tt
all_acknowledged p t (change ∷ changes) h none =
    (acknowledges t change p h.0 none.0, all_acknowledged p (step t change p).tree changes h.1 none.1)
