-- How a stream of changes is answered: as `full` exactly where all of them came, none is refused, and the tree after
-- them has more pages than slots.
use Rattle.std.proofs.Common.{◌≡◌, ◌<◌, ◌≤◌, ℕ, suc, Bool, true, false, List, [], ◌∷◌, length, Option, None, Some}
use Rattle.std.proofs.Common.{nat_lt, if◌then◌else◌, refl, sym, ap, subst, ◌∙◌, arith, ltb-true, ltb-false}
use Rattle.std.specs.List.{AllByRecursion}
use Rattle.std.specs.Option.{option_or}
use Rattle.store_model.specs.declared.refusal.Refusal.{Refusal}
use Rattle.store_model.specs.declared.refusal.Refusal.TheVariants as refusals
use Rattle.store_model.specs.Parameters.{Parameters}
use Rattle.store_model.specs.Trees.{Tree}
use Rattle.store_model.specs.Pages.{page_count}
use Rattle.store_model.specs.Commands.{Command, Reply}
use Rattle.store_model.specs.Commands.Command.{Make, Write, Cut, Rename, Remove, Prune, ListChildren, Read, Space}
use Rattle.store_model.specs.Commands.Command.{Digest, SetAttribute, UnsetAttribute, GetAttribute, ListAttributes}
use Rattle.store_model.specs.Commands.Reply.{Acknowledged, Content, Listing, AttributeListing, PagesUsed, ImageDigest}
use Rattle.store_model.specs.Commands.Reply.{Refused}
use Rattle.store_model.specs.Steps.{Step, Condition, first_refusal, conditions, refusal_of, reply_of, lacks_version}
use Rattle.store_model.specs.Scripts.{replies_by, answers_by}
use Rattle.tree_pairs.specs.TreeCalls.{uncounted_by, uncounted_step}
use Rattle.staged_tree.specs.Groups.{refusal_in, or_later, first_refused, tree_unless}
use Rattle.staged_tree.specs.Guards.{Guarded, is_due}
use Rattle.staged_tree.specs.Roomy.{roomy_step, guarded_step, refused_roomy, roomy_tree, full_behind, refused_so_far}
use Rattle.staged_tree.specs.Roomy.{streamed_tree}

-- another refusal than `full`
abbrev pub IsOther : Refusal → Type 0
IsOther refusal = (need slots : ℕ) → refusal ≡ refusals.Full need slots → ⊥

-- ---- a command is never refused as `full` but for its pages

pub first_other : (cs : List Condition) → AllByRecursion (λ c. IsOther c.1) cs → (refusal : Refusal)
    → first_refusal cs ≡ Some refusal → IsOther refusal
unfolding first_refusal
first_other [] others refusal e = cc
first_other (c ∷ cs) others refusal e = by c.0 e (first_other cs others.1 refusal)
  where
    by : (holds : Bool) → (if holds then Some c.1 else first_refusal cs) ≡ Some refusal
        → (first_refusal cs ≡ Some refusal → IsOther refusal) → IsOther refusal
    by true is later = let same : c.1 ≡ refusal = cc in subst IsOther same others.0
    by false is later = later is

no-root : IsOther refusals.Root
no-root need slots e = cc

no-parent : IsOther refusals.Parent
no-parent need slots e = cc

no-exists : IsOther refusals.Exists
no-exists need slots e = cc

no-missing : IsOther refusals.Missing
no-missing need slots e = cc

no-inside : IsOther refusals.Inside
no-inside need slots e = cc

no-kind : IsOther refusals.Kind
no-kind need slots e = cc

no-gap : IsOther refusals.Gap
no-gap need slots e = cc

no-big : IsOther refusals.Big
no-big need slots e = cc

no-path : IsOther refusals.Path
no-path need slots e = cc

no-children : IsOther refusals.NotEmpty
no-children need slots e = cc

pub no-version : IsOther refusals.Version
no-version need slots e = cc

no-attribute : IsOther refusals.NoAttr
no-attribute need slots e = cc

pub all_other : (t : Tree) (c : Command) → AllByRecursion (λ condition. IsOther condition.1) (conditions t c)
unfolding conditions
all_other t (Make path) = (no-root, (no-parent, (no-exists, tt)))
all_other t (Write path at bytes) = (no-parent, (no-kind, (no-gap, (no-big, tt))))
all_other t (Cut path len) = (no-missing, (no-kind, (no-gap, tt)))
all_other t (Rename from to) = (no-root, (no-missing, (no-inside, (no-parent, (no-exists, (no-path, tt))))))
all_other t (Remove path) = (no-root, (no-missing, (no-children, tt)))
all_other t (Prune path) = (no-root, (no-missing, tt))
all_other t (ListChildren path) = (no-missing, (no-kind, tt))
all_other t (Read path at len) = (no-missing, (no-kind, (no-gap, (no-big, tt))))
all_other t Space = tt
all_other t Digest = tt
all_other t (SetAttribute path a bytes) = (no-root, (no-missing, (no-big, (no-path, tt))))
all_other t (UnsetAttribute path a) = (no-root, (no-missing, (no-attribute, tt)))
all_other t (GetAttribute path a) = (no-root, (no-missing, (no-attribute, tt)))
all_other t (ListAttributes path) = (no-root, (no-missing, tt))

-- one that is not refused replies something else
replies_so : (t : Tree) (c : Command) (p : Parameters) (refusal : Refusal) → Refused refusal ≡ reply_of t c p → ⊥
unfolding reply_of
replies_so t (Make path) p refusal e = cc
replies_so t (Write path at bytes) p refusal e = cc
replies_so t (Cut path len) p refusal e = cc
replies_so t (Rename from to) p refusal e = cc
replies_so t (Remove path) p refusal e = cc
replies_so t (Prune path) p refusal e = cc
replies_so t (ListChildren path) p refusal e = cc
replies_so t (Read path at len) p refusal e = cc
replies_so t Space p refusal e = cc
replies_so t Digest p refusal e = cc
replies_so t (SetAttribute path a bytes) p refusal e = cc
replies_so t (UnsetAttribute path a) p refusal e = cc
replies_so t (GetAttribute path a) p refusal e = cc
replies_so t (ListAttributes path) p refusal e = cc

uncounted_other : (t : Tree) (c : Command) (p : Parameters) (refusal : Refusal) (o : Option Refusal)
    → refusal_of t c ≡ o → Refused refusal ≡ (uncounted_by t c p o).reply → IsOther refusal
uncounted_other t c p refusal (Some other) is e =
    let same : other ≡ refusal = cc in
    subst IsOther same (first_other (conditions t c) (all_other t c) other is)
uncounted_other t c p refusal None is e = absurd (replies_so t c p refusal e)

roomy_other : (p : Parameters) (t : Tree) (c : Command) (refusal : Refusal)
    → Refused refusal ≡ (roomy_step p t c).reply → IsOther refusal
roomy_other p t c refusal e = by (lacks_version c p) e
  where
    by : (lacks : Bool) → Refused refusal ≡ Step.reply (if lacks then (record {
      reply = Refused refusals.Version;
      tree = t;
    }) else uncounted_step t c p) → IsOther refusal
    by true is = let same : refusals.Version ≡ refusal = cc in subst IsOther same no-version
    by false is = uncounted_other t c p refusal (refusal_of t c) refl is

guarded_other : (p : Parameters) (t : Tree) (g : Guarded) (refusal : Refusal)
    → Refused refusal ≡ (guarded_step p t g).reply → IsOther refusal
guarded_other p t g refusal e = by (is_due t g) e
  where
    by : (due : Bool) → Refused refusal ≡ Step.reply (if due then roomy_step p t g.change else (record {
      reply = Acknowledged;
      tree = t;
    })) → IsOther refusal
    by true is = roomy_other p t g.change refusal is
    by false is = cc

-- ---- the first that is refused is one of them

refused_reply : (reply : Reply) (refusal : Refusal) → refusal_in reply ≡ Some refusal → Refused refusal ≡ reply
refused_reply Acknowledged refusal e = cc
refused_reply (Content bytes) refusal e = cc
refused_reply (Listing children) refusal e = cc
refused_reply (AttributeListing attributes) refusal e = cc
refused_reply (PagesUsed used slots) refusal e = cc
refused_reply (ImageDigest digest) refusal e = cc
refused_reply (Refused other) refusal e = cc

some_pair : (one other : ℕ × Refusal) → Some one ≡ Some other → (one.0 ≡ other.0) × (one.1 ≡ other.1)
some_pair one other e =
    let same : one ≡ other = cc in
    (ap (λ (found : ℕ × Refusal). found.0) same, ap (λ (found : ℕ × Refusal). found.1) same)

full_parts : (need slots pages room : ℕ) → refusals.Full need slots ≡ refusals.Full pages room
    → (need ≡ pages) × (slots ≡ room)
full_parts need slots pages room e =
    let need_is : need ≡ pages = cc in
    let slots_is : slots ≡ room = cc in
    (need_is, slots_is)

module _ (p : Parameters) where
  -- the first of these, or one behind it
  refused_among : (changes : List Guarded) (t : Tree) (found : ℕ × Refusal) → refused_roomy p t changes ≡ Some found
      → (found.0 < length changes) × IsOther found.1
  unfolding first_refused replies_by answers_by
  refused_among [] t found e = cc
  refused_among (g ∷ changes) t found e =
      by (refusal_in (guarded_step p t g).reply) (refused_roomy p (guarded_step p t g).tree changes) refl refl e
      (refused_among changes (guarded_step p t g).tree)
    where
      by : (here : Option Refusal) (later : Option (ℕ × Refusal)) → refusal_in (guarded_step p t g).reply ≡ here
          → refused_roomy p (guarded_step p t g).tree changes ≡ later → or_later here later ≡ Some found
          → ((other : ℕ × Refusal) → refused_roomy p (guarded_step p t g).tree changes ≡ Some other
          → (other.0 < length changes) × IsOther other.1) → (found.0 < suc (length changes)) × IsOther found.1
      by (Some refusal) later at behind is rest =
          let same = some_pair (0, refusal) found is in (
            omega (arith, same.0),
            subst IsOther same.1 (guarded_other p t g refusal (refused_reply (guarded_step p t g).reply refusal at)),
          )
      by None (Some other) at behind is rest =
          let same = some_pair (suc other.0, other.1) found is in
          let inside = rest other behind in
          (omega (arith, same.0, inside.0), subst IsOther same.1 inside.1)
      by None None at behind is rest = cc

-- ---- what an answer says

-- all came, none of them is refused, and the tree after them has so many pages, which are more than the slots
pub record AreTooMany (p : Parameters) (t : Tree) (is_whole : Bool) (changes : List Guarded)
    (need slots : ℕ) : Type 0 where
  pub whole : is_whole ≡ true
  pub none : refused_roomy p t changes ≡ None
  pub need_is : need ≡ page_count (roomy_tree p t changes) p
  pub slots_is : slots ≡ p.slots
  pub more : slots < need

-- none of them is refused, and the tree after them has room, and is the one that a store has then
pub record AreCarriedOut (p : Parameters) (t : Tree) (changes : List Guarded) : Type 0 where
  pub none : refused_roomy p t changes ≡ None
  pub room : page_count (roomy_tree p t changes) p ≤ p.slots
  pub tree : streamed_tree p t true changes ≡ roomy_tree p t changes

module _ (p : Parameters) (t : Tree) (changes : List Guarded) where
  abbrev next : Tree
  next = roomy_tree p t changes

  -- `full`, by whether the pages are more than the slots
  abbrev full_if : Bool → Option (ℕ × Refusal)
  full_if more = if more then Some (length changes, refusals.Full (page_count next p) p.slots) else None

  pub full_is : (is_whole : Bool) (index need slots : ℕ)
      → Some (index, refusals.Full need slots) ≡ refused_so_far p t is_whole changes
      → AreTooMany p t is_whole changes need slots
  full_is false index need slots is =
      absurd ((refused_among p changes t (index, refusals.Full need slots) (sym is)).1 need slots refl)
  full_is true index need slots is = by (refused_roomy p t changes) refl is
    where
      by_pages : (more : Bool) → nat_lt p.slots (page_count next p) ≡ more → refused_roomy p t changes ≡ None
          → Some (index, refusals.Full need slots) ≡ full_if more → AreTooMany p t true changes need slots
      by_pages true test at e =
          let behind : ℕ × Refusal = (length changes, refusals.Full (page_count next p) p.slots) in
          let parts = full_parts need slots (page_count next p) p.slots
          (some_pair (index, refusals.Full need slots) behind e).1 in
          let more = ltb-true p.slots (page_count next p) test in
          record {
            whole = refl;
            none = at;
            need_is = parts.0;
            slots_is = parts.1;
            more = omega (arith, parts.0, parts.1, more);
          }
      by_pages false test at e = cc

      by : (o : Option (ℕ × Refusal)) → refused_roomy p t changes ≡ o
          → Some (index, refusals.Full need slots) ≡ option_or o (full_behind p next (length changes))
          → AreTooMany p t true changes need slots
      by (Some found) at e =
          let same = some_pair (index, refusals.Full need slots) found e in
          absurd ((refused_among p changes t found at).1 need slots (sym same.1))
      by None at e = by_pages (nat_lt p.slots (page_count next p)) refl at e

  pub other_is : (is_whole : Bool) (index : ℕ) (reply : Refusal) → IsOther reply
      → Some (index, reply) ≡ refused_so_far p t is_whole changes → refused_roomy p t changes ≡ Some (index, reply)
  other_is false index reply other is = sym is
  other_is true index reply other is = by (refused_roomy p t changes) refl is
    where
      by_pages : (more : Bool) → Some (index, reply) ≡ full_if more → refused_roomy p t changes ≡ Some (index, reply)
      by_pages true e =
          let behind : ℕ × Refusal = (length changes, refusals.Full (page_count next p) p.slots) in
          absurd (other (page_count next p) p.slots (some_pair (index, reply) behind e).1)
      by_pages false e = cc

      by : (o : Option (ℕ × Refusal)) → refused_roomy p t changes ≡ o
          → Some (index, reply) ≡ option_or o (full_behind p next (length changes))
          → refused_roomy p t changes ≡ Some (index, reply)
      by (Some found) at e = at ∙ sym e
      by None at e = by_pages (nat_lt p.slots (page_count next p)) e

  -- where they are refused, so or as `full`, the tree stays
  pub refused_stays : (is_whole : Bool) (found : ℕ × Refusal) → Some found ≡ refused_so_far p t is_whole changes
      → streamed_tree p t is_whole changes ≡ t
  refused_stays false found is = refl
  refused_stays true found is = ap (λ (o : Option (ℕ × Refusal)). tree_unless o next t) (sym is)

  pub done_is : None ≡ refused_so_far p t true changes → AreCarriedOut p t changes
  done_is is = by (refused_roomy p t changes) refl is
    where
      by_pages : (more : Bool) → nat_lt p.slots (page_count next p) ≡ more → refused_roomy p t changes ≡ None
          → None ≡ full_if more → AreCarriedOut p t changes
      by_pages true test at e = cc
      by_pages false test at e = record {
        none = at;
        room = ltb-false p.slots (page_count next p) test;
        tree = ap (λ (o : Option (ℕ × Refusal)). tree_unless o next t) (sym is);
      }

      by : (o : Option (ℕ × Refusal)) → refused_roomy p t changes ≡ o
          → None ≡ option_or o (full_behind p next (length changes)) → AreCarriedOut p t changes
      by (Some found) at e = cc
      by None at e = by_pages (nat_lt p.slots (page_count next p)) refl at e
