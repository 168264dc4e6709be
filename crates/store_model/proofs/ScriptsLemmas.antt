-- What a refusal leaves, and lines that run one after another.
use Rattle.std.proofs.Common.{◌≡◌, ℕ, List, [], ◌∷◌, ◌++◌, Bool, true, false, ◌&&◌, nat_lt, codes, Option, Some, None}
use Rattle.std.proofs.Common.{Result, Ok, Err, length, refl, ap, if◌then◌else◌}
use Rattle.store_model.specs.declared.refusal.Refusal.{Refusal}
use Rattle.store_model.specs.Parameters.{Parameters}
use Rattle.store_model.specs.Trees.{Tree}
use Rattle.store_model.specs.Pages.{page_count}
use Rattle.sha2.specs.Sha256.{sha256}
use Rattle.store_model.specs.Images.{layout}
use Rattle.store_model.specs.Commands.{Command}
use Rattle.store_model.specs.Commands.Command.{Make, Write, Cut, Rename, Remove, Prune, ListChildren, Read, Space}
use Rattle.store_model.specs.Commands.Command.{Digest, SetAttribute, UnsetAttribute, GetAttribute, ListAttributes}
use Rattle.store_model.specs.Commands.Reply.{Refused, ImageDigest}
use Rattle.store_model.specs.Steps.{Step, step, step_to, step_by, first_refusal, conditions, reply_of, refusal_of}
use Rattle.store_model.specs.Steps.{next_tree, may_fill, is_on_attributes, lacks_version}
use Rattle.store_model.specs.Scripts.{answer, answer_by, line_limit, answers_by, state_by, by_step, replies_by, tree_by}
use Rattle.store_model.specs.Scripts.{replies, tree_after}
use Rattle.store_model.specs.Grammar.{command_of_fields, command_of, has_short_paths, parse}

-- a command that is carried out is not refused
reply_of-not_refused : (t : Tree) (c : Command) (p : Parameters) (r : Refusal) → reply_of t c p ≡ Refused r → ⊥
unfolding reply_of
reply_of-not_refused t (Make path) p r e = cc
reply_of-not_refused t (Write path at bytes) p r e = cc
reply_of-not_refused t (Cut path len) p r e = cc
reply_of-not_refused t (Rename from to) p r e = cc
reply_of-not_refused t (Remove path) p r e = cc
reply_of-not_refused t (Prune path) p r e = cc
reply_of-not_refused t (ListChildren path) p r e = cc
reply_of-not_refused t (Read path at len) p r e = cc
reply_of-not_refused t Space p r e = cc
reply_of-not_refused t Digest p r e = cc
reply_of-not_refused t (SetAttribute path a bytes) p r e = cc
reply_of-not_refused t (UnsetAttribute path a) p r e = cc
reply_of-not_refused t (GetAttribute path a) p r e = cc
reply_of-not_refused t (ListAttributes path) p r e = cc

-- of two steps that keep the tree where they refuse, the one that a test picks does so
picked_keeps : (b : Bool) (x y : Step) (t : Tree) (r : Refusal) → (x.reply ≡ Refused r → x.tree ≡ t)
    → (y.reply ≡ Refused r → y.tree ≡ t)
    → (if b then x else y).reply ≡ Refused r → (if b then x else y).tree ≡ t
picked_keeps true x y t r f g = f
picked_keeps false x y t r f g = g

-- so does the step of a command whose other refusals do not hold
step_to_keeps : (t : Tree) (c : Command) (p : Parameters) (next : Tree) (r : Refusal)
    → (step_to t c p next).reply ≡ Refused r → (step_to t c p next).tree ≡ t
step_to_keeps t c p next r = picked_keeps (may_fill c && nat_lt p.slots (page_count next p)) _ _ t r (λ e. refl)
    (λ e. absurd (reply_of-not_refused t c p r e))

-- a step keeps the tree where it refuses, by whichever refusal
step_by_keeps : (t : Tree) (c : Command) (p : Parameters) (o : Option Refusal) (r : Refusal)
    → (step_by t c p o).reply ≡ Refused r → (step_by t c p o).tree ≡ t
step_by_keeps t c p (Some x) r e = refl
step_by_keeps t c p None r e = step_to_keeps t c p (next_tree t c) r e

-- a command that is refused leaves the tree
pub refused_step_keeps : (t : Tree) (c : Command) (p : Parameters) (r : Refusal) → (step t c p).reply ≡ Refused r
    → (step t c p).tree ≡ t
unfolding step
refused_step_keeps t c p r = picked_keeps (lacks_version c p) _ _ t r (λ e. refl)
    (step_by_keeps t c p (refusal_of t c) r)

-- so does the answer to a line that was parsed
answer_by_keeps : (t : Tree) (parsed : Result Command Refusal) (p : Parameters) (r : Refusal)
    → (answer_by t parsed p).reply ≡ Refused r → (answer_by t parsed p).tree ≡ t
answer_by_keeps t (Err x) p r e = refl
answer_by_keeps t (Ok c) p r e = refused_step_keeps t c p r e

-- a line that is refused leaves the tree
pub refused_answer_keeps : (t : Tree) (text : List ℕ) (p : Parameters) (r : Refusal)
    → (answer t text p).reply ≡ Refused r → (answer t text p).tree ≡ t
unfolding answer
refused_answer_keeps t text p r = picked_keeps (nat_lt line_limit (length text)) _ _ t r (λ e. refl)
    (answer_by_keeps t (parse text) p r)

-- the answers to questions and then to more questions, whatever answers them
pub answers_by-append : {S Q A : Type 0} (answered : S → Q → A × S) (s : S) (a b : List Q)
    → answers_by answered s (a ++ b) ≡ answers_by answered s a ++ answers_by answered (state_by answered s a) b
unfolding answers_by state_by
answers_by-append answered s [] b = refl
answers_by-append answered s (question ∷ a) b =
    ap (λ xs. (answered s question).0 ∷ xs) (answers_by-append answered (answered s question).1 a b)

-- the state after questions and then after more questions
pub state_by-append : {S Q A : Type 0} (answered : S → Q → A × S) (s : S) (a b : List Q)
    → state_by answered s (a ++ b) ≡ state_by answered (state_by answered s a) b
unfolding state_by
state_by-append answered s [] b = refl
state_by-append answered s (question ∷ a) b = state_by-append answered (answered s question).1 a b

-- the same for replies and trees
pub replies_by-append : {Q : Type 0} (answered : Tree → Q → Step) (t : Tree) (a b : List Q)
    → replies_by answered t (a ++ b) ≡ replies_by answered t a ++ replies_by answered (tree_by answered t a) b
unfolding replies_by tree_by
replies_by-append answered t a b = answers_by-append (by_step answered) t a b

pub tree_by-append : {Q : Type 0} (answered : Tree → Q → Step) (t : Tree) (a b : List Q)
    → tree_by answered t (a ++ b) ≡ tree_by answered (tree_by answered t a) b
unfolding tree_by
tree_by-append answered t a b = state_by-append (by_step answered) t a b

-- the replies to lines and then to more lines
pub replies-append : (t : Tree) (a b : List (List ℕ)) (p : Parameters)
    → replies t (a ++ b) p ≡ replies t a p ++ replies (tree_after t a p) b p
unfolding replies tree_after
replies-append t a b p = replies_by-append (λ u text. answer u text p) t a b

-- the tree after lines and then after more lines
pub tree_after-append : (t : Tree) (a b : List (List ℕ)) (p : Parameters)
    → tree_after t (a ++ b) p ≡ tree_after (tree_after t a p) b p
unfolding tree_after
tree_after-append t a b p = tree_by-append (λ u text. answer u text p) t a b

-- the reply to the line `digest`
pub digest_of_layout : (t : Tree) (p : Parameters)
    → (answer t (codes "digest") p).reply ≡ ImageDigest (sha256 (layout t p))
unfolding answer parse command_of command_of_fields has_short_paths step first_refusal conditions reply_of
    may_fill is_on_attributes
digest_of_layout t p = refl
