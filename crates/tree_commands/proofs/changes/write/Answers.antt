use Rattle.std.proofs.Common.{rules, ◌≡◌, ℕ, ◌+◌, List, [], ◌∷◌, length, nat_lt, false, not, IsTrue, IsNone, IfSome}
use Rattle.std.proofs.Common.{unwrap_or, Option, Some, None, refl, sym, ap, ◌∙◌}
use Rattle.std.proofs.lemmas.Bool.{false≢true}
use Rattle.store_model.specs.declared.refusal.Refusal.TheVariants as refusals
use Rattle.store_model.specs.Paths.{Path, is_root, parent}
use Rattle.store_model.specs.Trees.{Tree, is_directory, node_at, contents, file_limit}
use Rattle.store_model.specs.Commands.Command.{Write}
use Rattle.store_model.specs.Commands.Reply.{Acknowledged}
use Rattle.store_model.specs.Steps.{conditions, first_refusal, refusal_of}
use Rattle.tree_pairs.proofs.CallLemmas.{step_refused}
use Rattle.dir_tree.proofs.RefusalLemmas.{dir_stands, no_dir_stands}
use Rattle.tree_commands.proofs.changes.write.Goals as goal

-- the parent of a path, and of the root the root
parent_or_self : (x : Path) (o : Option Path) → (IsNone o → IsTrue (is_root x)) → IfSome o (λ q. q ≡ parent x)
    → unwrap_or o x ≡ parent x
unfolding parent
parent_or_self [] None root is = refl
parent_or_self (n ∷ x) None root is = absurd (false≢true (root refl))
parent_or_self x (Some q) root is = is

-- a file whose path has no parent is not written
no_parent : (t : Tree) (x : Path) (at : ℕ) (bytes : List ℕ) → is_directory t (parent x) ≡ false
    → refusal_of t (Write x at bytes) ≡ Some refusals.Parent
unfolding conditions first_refusal
no_parent t x at bytes h =
    ap (λ b. first_refusal ((not b, refusals.Parent) ∷ (is_directory t x, refusals.Kind)
    ∷ (nat_lt (length (contents t x)) at, refusals.Gap)
    ∷ (nat_lt file_limit (at + length bytes), refusals.Big) ∷ [])) h

pub write_at-requires-clause-parent : goal.write_at-requires-clause-parent
write_at-requires-clause-parent g c seen t p holds =
    let up = c.in_ok-kind_of.ensures in
    let before = up.hidden seen in
    let at = c.unwrap_or.ensures
    ∙ parent_or_self c.args.path.now c.parent.result c.parent.ensures.none.0 c.parent.ensures.value in
    let told = up.call.told before t p (record {
      tree = holds.tree;
      pairs_are = sym (up.call.keeps.unchanged before) ∙ holds.pairs_are;
    }) in
    ap (is_directory t) (sym at) ∙ dir_stands (node_at t c.unwrap_or.result) c.in_ok-kind_of.field-0 told (search rules)

pub returns-then-ne : goal.returns-then-ne
returns-then-ne g c =
    let up = c.in_ok-kind_of.ensures.call in
    let at = c.unwrap_or.ensures
    ∙ parent_or_self c.args.path.now c.parent.result c.parent.ensures.none.0 c.parent.ensures.value in
    record {
      call = record {
        faults = up.faults;
        observable = up.keeps.observable;
        carried = λ seen t p under holds.
            let none = ap (is_directory t) (sym at)
            ∙ no_dir_stands (node_at t c.unwrap_or.result) c.in_ok-kind_of.field-0 (up.told seen t p holds)
            (λ is. search rules) in
            step_refused (λ _. Acknowledged) refusals.Parent t (Write c.args.path.now c.args.at c.args.bytes.now) p
            (g.P.OrderedPairs.state c.kind_of.new.pairs)
            (no_parent t c.args.path.now c.args.at c.args.bytes.now none) (up.keeps.unchanged seen ∙ holds.pairs_are);
      };
      follows = c.in_ok-kind_of.ensures.follows;
    }
