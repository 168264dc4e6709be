-- Lemmas on the steps of commands, by the replies that they have where pages are not counted.
use Rattle.std.proofs.Common.{◌≡◌, ◌<◌, ◌≤◌, Bool, true, false, ◌&&◌, nat_lt, if◌then◌else◌, Option, Some, None, refl}
use Rattle.std.proofs.Common.{sym, ap, subst, ◌∙◌, arith}
use Rattle.std.proofs.lemmas.Bool.{le-ltb, lt-ltb}
use Rattle.store_model.specs.declared.refusal.Refusal.{Refusal}
use Rattle.store_model.specs.declared.refusal.Refusal.TheVariants as refusals
use Rattle.store_model.specs.Parameters.{Parameters}
use Rattle.store_model.specs.Trees.{Tree, IsTree}
use Rattle.store_model.specs.Pages.{Fits, page_count}
use Rattle.sha2.specs.Sha256.{sha256}
use Rattle.store_model.specs.Images.{layout}
use Rattle.store_model.specs.Commands.{Command, Reply, IsCommand}
use Rattle.store_model.specs.Commands.Command.{Make, Write, Cut, Rename, Remove, Prune, ListChildren, Read, Space}
use Rattle.store_model.specs.Commands.Command.{Digest, SetAttribute, UnsetAttribute, GetAttribute, ListAttributes}
use Rattle.store_model.specs.Commands.Reply.{Acknowledged, PagesUsed, ImageDigest, Refused}
use Rattle.store_model.specs.Steps.{Step, step, step_by, conditions, first_refusal, refusal_of, next_tree, reply_of}
use Rattle.store_model.specs.Steps.{may_fill, is_on_attributes, lacks_version}
use Rattle.store_model.proofs.TreesLemmasFits.{needs_no_more, Fits-step}
use Rattle.store_model.proofs.TreesLemmasSteps.{IsTree-next_tree, step_by_refusal}
use Rattle.tree_pairs.specs.TreeCalls.{uncounted_by, uncounted_step}
use Rattle.tree_pairs.proofs.CallLemmas.{step_where_refused}
use Rattle.tree_commands.specs.Answers.{is_look}
use Rattle.tree_commands.specs.Counted.{counted_step}

-- ---- the digest and the space

pub digest_step : (t : Tree) (p : Parameters) → step t Digest p ≡ record {
  reply = ImageDigest (sha256 (layout t p));
  tree = t;
}
unfolding step conditions first_refusal next_tree reply_of may_fill is_on_attributes
digest_step t p = refl

pub space_step : (t : Tree) (p : Parameters) → step t Space p ≡ record {
  reply = PagesUsed (page_count t p) p.slots;
  tree = t;
}
unfolding step conditions first_refusal next_tree reply_of may_fill is_on_attributes
space_step t p = refl

-- ---- trees

tree_by : (t : Tree) (c : Command) (p : Parameters) (o : Option Refusal) → refusal_of t c ≡ o → IsTree t → IsCommand c
    → IsTree (uncounted_by t c p o).tree
tree_by t c p (Some refusal) is tree command = tree
tree_by t c p None is tree command = IsTree-next_tree t c tree command is

pub uncounted_tree : (t : Tree) (c : Command) (p : Parameters) → IsTree t → IsCommand c
    → IsTree (uncounted_step t c p).tree
uncounted_tree t c p tree command = tree_by t c p (refusal_of t c) refl tree command

-- ---- the pages counted

-- a next tree that fits, and one that does not
pub counted_fits : (t next : Tree) (p : Parameters) → page_count next p ≤ p.slots → counted_step t next p ≡ record {
  reply = Acknowledged;
  tree = next;
}
counted_fits t next p fits =
    ap (λ (b : Bool). if b then (record { reply = Refused (refusals.Full (page_count next p) p.slots); tree = t }) else
    (record { reply = Acknowledged; tree = next })) (le-ltb p.slots (page_count next p) fits)

pub counted_full : (t next : Tree) (p : Parameters) → p.slots < page_count next p → counted_step t next p ≡ record {
  reply = Refused (refusals.Full (page_count next p) p.slots);
  tree = t;
}
counted_full t next p more =
    ap (λ (b : Bool). if b then (record { reply = Refused (refusals.Full (page_count next p) p.slots); tree = t }) else
    (record { reply = Acknowledged; tree = next })) (lt-ltb p.slots (page_count next p) more)

-- the step of a command that nothing but its pages may refuse, by the test of these
abbrev by_test : Tree → Command → Parameters → Bool → Step
by_test t c p b = if b then (record {
  reply = Refused (refusals.Full (page_count (next_tree t c) p) p.slots);
  tree = t;
}) else
    (record { reply = reply_of t c p; tree = next_tree t c })

counted : (t : Tree) (c : Command) (p : Parameters) → lacks_version c p ≡ false → refusal_of t c ≡ None
    → step t c p ≡ by_test t c p (may_fill c && nat_lt p.slots (page_count (next_tree t c) p))
counted t c p has none = step_by_refusal t c p has ∙ ap (step_by t c p) none

and_false : (a b : Bool) → b ≡ false → (a && b) ≡ false
and_false true b e = e
and_false false b e = refl

-- ---- a command that is acknowledged

acked_none : (t : Tree) (c : Command) (p : Parameters) (o : Option Refusal)
    → (uncounted_by t c p o).reply ≡ Acknowledged → o ≡ None
acked_none t c p (Some refusal) is = let other : Refused refusal ≡ Acknowledged = is in cc
acked_none t c p None is = refl

acked_reply : (t : Tree) (c : Command) (p : Parameters) → (uncounted_step t c p).reply ≡ Acknowledged
    → reply_of t c p ≡ Acknowledged
acked_reply t c p acked =
    sym (ap (λ (o : Option Refusal). (uncounted_by t c p o).reply) (acked_none t c p (refusal_of t c) acked)) ∙ acked

-- its step is that from its tree to the next, with the pages counted
module _ (t : Tree) (c : Command) (p : Parameters) (tree : IsTree t) (fits : Fits t p) (has : lacks_version c p ≡ false)
    (acked : (uncounted_step t c p).reply ≡ Acknowledged) where
  none : refusal_of t c ≡ None
  none = acked_none t c p (refusal_of t c) acked

  uncounted_is : uncounted_step t c p ≡ uncounted_by t c p None
  uncounted_is = ap (uncounted_by t c p) none

  reply_is : reply_of t c p ≡ Acknowledged
  reply_is = acked_reply t c p acked

  by_fill : (fill full : Bool) → may_fill c ≡ fill → nat_lt p.slots (page_count (next_tree t c) p) ≡ full
      → by_test t c p (fill && full) ≡ counted_step t (next_tree t c) p
  by_fill fill false is full_is =
      ap (by_test t c p) (and_false fill false refl)
      ∙ ap (λ (r : Reply). record { reply = r; tree = next_tree t c }) reply_is
      ∙ sym (ap (λ (b : Bool). if b then (record {
        reply = Refused (refusals.Full (page_count (next_tree t c) p) p.slots);
        tree = t;
      }) else
      (record { reply = Acknowledged; tree = next_tree t c })) full_is)
  by_fill true true is full_is =
      sym (ap (λ (b : Bool). if b then (record {
        reply = Refused (refusals.Full (page_count (next_tree t c) p) p.slots);
        tree = t;
      }) else
      (record { reply = Acknowledged; tree = next_tree t c })) full_is)
  by_fill false true is full_is =
      let fewer = needs_no_more t c p tree is none in
      let test = le-ltb p.slots (page_count (next_tree t c) p) (omega (arith, fewer, fits.room)) in
      let other : true ≡ false = sym full_is ∙ test in
      cc

  pub acked_step : step t c p ≡ counted_step t (uncounted_step t c p).tree p
  acked_step =
      counted t c p has none ∙ by_fill (may_fill c) (nat_lt p.slots (page_count (next_tree t c) p)) refl refl
      ∙ ap (λ (s : Step). counted_step t s.tree p) (sym uncounted_is)

  -- and that tree fits where the slots have room for it
  pub acked_fits : page_count (uncounted_step t c p).tree p ≤ p.slots → Fits (uncounted_step t c p).tree p
  acked_fits room = subst (λ (s : Step). Fits s.tree p) (acked_step ∙ counted_fits t (uncounted_step t c p).tree p room)
      (Fits-step t c p tree fits)

-- ---- a command that is not

-- it changes nothing
still_command : (t : Tree) (c : Command) (p : Parameters) → (reply_of t c p ≡ Acknowledged → ⊥)
    → (may_fill c ≡ false) × (next_tree t c ≡ t)
unfolding reply_of next_tree may_fill
still_command t (Make q) p other = absurd (other refl)
still_command t (Write q at bytes) p other = absurd (other refl)
still_command t (Cut q len) p other = absurd (other refl)
still_command t (Rename from to) p other = absurd (other refl)
still_command t (Remove q) p other = absurd (other refl)
still_command t (Prune q) p other = absurd (other refl)
still_command t (ListChildren q) p other = (refl, refl)
still_command t (Read q at len) p other = (refl, refl)
still_command t Space p other = (refl, refl)
still_command t Digest p other = (refl, refl)
still_command t (SetAttribute q a bytes) p other = absurd (other refl)
still_command t (UnsetAttribute q a) p other = absurd (other refl)
still_command t (GetAttribute q a) p other = (refl, refl)
still_command t (ListAttributes q) p other = (refl, refl)

-- its step is its reply, and the tree stays
pub answered_step : (t : Tree) (c : Command) (p : Parameters) (reply : Reply) → lacks_version c p ≡ false
    → reply ≡ (uncounted_step t c p).reply → (reply ≡ Acknowledged → ⊥) → step t c p ≡ record {
      reply = reply;
      tree = t;
    }
answered_step t c p reply has is other = by_option (refusal_of t c) refl
  where
    by_option : (o : Option Refusal) → refusal_of t c ≡ o → step t c p ≡ record { reply = reply; tree = t }
    by_option (Some refusal) so =
        let same = ap (uncounted_by t c p) so in
        step_where_refused t c p refusal has so ∙ same
        ∙ ap (λ (r : Reply). record { reply = r; tree = t }) (sym (is ∙ ap (λ (s : Step). s.reply) same))
    by_option None so =
        let same : reply ≡ reply_of t c p = is ∙ ap (λ (o : Option Refusal). (uncounted_by t c p o).reply) so in
        let still = still_command t c p (λ e. other (same ∙ e)) in
        counted t c p has so ∙ ap (λ (b : Bool). by_test t c p (b && nat_lt p.slots (page_count (next_tree t c) p)))
        still.0
        ∙ (λ i. record { reply = sym same i; tree = still.1 i })

-- and the tree stays where the pages are not counted
pub uncounted_still : (t : Tree) (c : Command) (p : Parameters) → ((uncounted_step t c p).reply ≡ Acknowledged → ⊥)
    → (uncounted_step t c p).tree ≡ t
uncounted_still t c p other = by_option (refusal_of t c) refl
  where
    by_option : (o : Option Refusal) → refusal_of t c ≡ o → (uncounted_by t c p o).tree ≡ t
    by_option (Some refusal) so = refl
    by_option None so =
        (still_command t c p (λ e. other (ap (λ (o : Option Refusal). (uncounted_by t c p o).reply) so ∙ e))).1

-- ---- a command that only looks

look_reply : (t : Tree) (c : Command) (p : Parameters) → is_look c ≡ true → reply_of t c p ≡ Acknowledged → ⊥
unfolding reply_of
look_reply t (Make q) p looks is = cc
look_reply t (Write q at bytes) p looks is = cc
look_reply t (Cut q len) p looks is = cc
look_reply t (Rename from to) p looks is = cc
look_reply t (Remove q) p looks is = cc
look_reply t (Prune q) p looks is = cc
look_reply t (ListChildren q) p looks is = cc
look_reply t (Read q at len) p looks is = cc
look_reply t Space p looks is = cc
look_reply t Digest p looks is = cc
look_reply t (SetAttribute q a bytes) p looks is = cc
look_reply t (UnsetAttribute q a) p looks is = cc
look_reply t (GetAttribute q a) p looks is = cc
look_reply t (ListAttributes q) p looks is = cc

-- it is not acknowledged
look_step : (t : Tree) (c : Command) (p : Parameters) → is_look c ≡ true
    → (uncounted_step t c p).reply ≡ Acknowledged → ⊥
look_step t c p looks acked = look_reply t c p looks (acked_reply t c p acked)

-- its reply is another
pub look_other : (t : Tree) (c : Command) (p : Parameters) → is_look c ≡ true → (reply : Reply)
    → reply ≡ (uncounted_step t c p).reply → reply ≡ Acknowledged → ⊥
look_other t c p looks reply is acked = look_step t c p looks (sym is ∙ acked)
