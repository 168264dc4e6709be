-- Which steps of the dump of a tree are carried out at once, and which wait.
use Rattle.std.proofs.Common.{◌≡◌, ℕ, zero, suc, ◌*◌, ◌<◌, ◌≤◌, Bool, true, false, ◌&&◌, ◌==◌, List, [], ◌∷◌, ◌++◌, map}
use Rattle.std.proofs.Common.{length, take, drop, refl, sym, ap, ap₂, subst, ◌∙◌, arith, nat_le, leb-true}
use Rattle.std.specs.List.{AllByRecursion, flat_map}
use Rattle.std.proofs.lemmas.Bool.{leb-false}
use Rattle.std.proofs.lemmas.List.{length-drop, length-take-le, take-append-drop}
use Rattle.store_model.specs.Paths.{Path}
use Rattle.store_model.specs.Trees.{Tree, Node, Entry}
use Rattle.store_model.specs.Trees.Node.{Directory, File}
use Rattle.dump_streams.specs.Dumps.{DumpStep, dump_piece, file_steps, node_steps, attribute_steps, entry_steps, dump}
use Rattle.dump_streams.specs.Dumps.DumpStep.{Write}
use Rattle.dump_streams.proofs.PieceLemmas.{one_piece, pieces_more}
use Rattle.host_builder.specs.declared.attribute.Wanted.{Wanted}
use Rattle.host_builder.specs.declared.plan.Made.{Made}
use Rattle.host_builder.specs.declared.plan.Made.TheVariants as made
use Rattle.host_builder.specs.Turns.{steps_now, steps_later, made_by}
use Rattle.host_builder.proofs.Steps.{now_parts, later_parts, made_parts}
use Rattle.host_builder.proofs.ViewNames.{DoRise, now_names, later_names, made_of, node_names}

module _ (wanted : Wanted) where
  -- Steps that are all carried out at once, whatever was made before.
  record Makes (last : Made) (steps : List DumpStep) (behind : Made) : Type 0 where
    now_is : steps_now wanted last steps ≡ steps
    later_is : steps_later wanted last steps ≡ []
    made_is : made_by wanted last steps ≡ behind

  makes_join : (last mid behind : Made) (first more : List DumpStep) → Makes last first mid → Makes mid more behind
      → Makes last (first ++ more) behind
  makes_join last mid behind first more a b = record {
    now_is = now_parts wanted last first more ∙ ap₂ (λ (x y : List DumpStep). x ++ y) a.now_is
        (ap (λ (m : Made). steps_now wanted m more) a.made_is ∙ b.now_is);
    later_is = later_parts wanted last first more ∙ ap₂ (λ (x y : List DumpStep). x ++ y) a.later_is
        (ap (λ (m : Made). steps_later wanted m more) a.made_is ∙ b.later_is);
    made_is = made_parts wanted last first more ∙ ap (λ (m : Made). made_by wanted m more) a.made_is ∙ b.made_is;
  }

  makes_write : (last : Made) (x : Path) (at : ℕ) (bytes : List ℕ)
      → Makes last (Write x at bytes ∷ []) (made.File x (at == 0 && length bytes == 0))
  makes_write last x at bytes = record { now_is = refl; later_is = refl; made_is = refl }

  -- those of a file
  makes_file : (n : ℕ) (last : Made) (x : Path) (content : List ℕ) → length content ≤ dump_piece * suc n
      → Makes last (file_steps x content) (made.File x (length content == 0))
  makes_file zero last x content short =
      subst (λ (steps : List DumpStep). Makes last steps (made.File x (length content == 0)))
      (sym (one_piece x content (omega (arith, short)))) (makes_write last x 0 content)
  makes_file (suc n) last x content short =
      by_test (makes_file n last x) (nat_le (length content) (dump_piece * suc n)) refl
    where
      by_test : ((content : List ℕ) → length content ≤ dump_piece * suc n
          → Makes last (file_steps x content) (made.File x (length content == 0)))
          → (b : Bool) → nat_le (length content) (dump_piece * suc n) ≡ b
          → Makes last (file_steps x content) (made.File x (length content == 0))
      by_test fewer true few = fewer content (leb-true (length content) (dump_piece * suc n) few)
      by_test fewer false many =
          let cut = dump_piece * suc n in
          let old : List ℕ = take cut content in
          let run : List ℕ = drop cut content in
          let more : cut < length content = leb-false (length content) cut many in
          let full : length old ≡ cut = length-take-le cut content (omega (arith, more)) in
          let rest = length-drop cut content in
          let whole : old ++ run ≡ content = take-append-drop cut content in
          let some : 1 ≤ length run = omega (arith, more, rest) in
          let few : length run ≤ dump_piece = omega (arith, short, rest) in
          let not_old : (length old == 0) ≡ false = grind (arith, full) in
          let not_all : (length content == 0) ≡ false = grind (arith, more) in
          let empty : (length old == 0 && length run == 0) ≡ (length content == 0) =
          ap (λ (b : Bool). b && length run == 0) not_old ∙ sym not_all in
          let front = fewer old (omega (arith, full)) in
          subst (λ (e : Bool). Makes last (file_steps x content) (made.File x e)) empty
          (subst (λ (all : List ℕ). Makes last (file_steps x all) (made.File x (length old == 0 && length run == 0)))
          whole
          (subst (λ (steps : List DumpStep). Makes last steps (made.File x (length old == 0 && length run == 0)))
          (sym (pieces_more x n old run full some few))
          (makes_join last (made.File x (length old == 0)) (made.File x (length old == 0 && length run == 0))
          (file_steps x old) (Write x (length old) run ∷ []) front
          (makes_write (made.File x (length old == 0)) x (length old) run))))

  makes_node : (last : Made) (x : Path) (node : Node) → Makes last (node_steps x node) (made_of x node)
  makes_node last x Directory = record { now_is = refl; later_is = refl; made_is = refl }
  makes_node last x (File content) = makes_file (length content) last x content (omega arith)

  -- ---- entries, and trees

  -- what of an entry is made at once
  abbrev pub now_entry : Entry → Entry
  now_entry entry = record { node = entry.node; attributes = now_names wanted entry.node entry.attributes }

  abbrev pub now_view : Tree → Tree
  now_view t = map (λ e. (e.0, now_entry e.1)) t

  -- the steps of an entry that wait, and those of a tree
  abbrev pub later_of : Path × Entry → List DumpStep
  later_of e = attribute_steps e.0 (later_names wanted e.1.node e.1.attributes)

  -- Of steps these are carried out at once, and these wait.
  record Parts (last : Made) (steps now later : List DumpStep) : Type 0 where
    now_is : steps_now wanted last steps ≡ now
    later_is : steps_later wanted last steps ≡ later

  entry_parts : (last : Made) (e : Path × Entry) → DoRise e.1.attributes
      → Parts last (entry_steps e.0 e.1) (entry_steps e.0 (now_entry e.1)) (later_of e)
  entry_parts last e rise =
      let nodes = node_steps e.0 e.1.node in
      let names = attribute_steps e.0 e.1.attributes in
      let node = makes_node last e.0 e.1.node in
      let own = node_names wanted e.0 e.1.node e.1.attributes rise in
      record {
        now_is = now_parts wanted last nodes names ∙ ap₂ (λ (x y : List DumpStep). x ++ y) node.now_is
            (ap (λ (m : Made). steps_now wanted m names) node.made_is ∙ own.now_is);
        later_is = later_parts wanted last nodes names ∙ ap₂ (λ (x y : List DumpStep). x ++ y) node.later_is
            (ap (λ (m : Made). steps_later wanted m names) node.made_is ∙ own.later_is);
      }

  tree_parts : (last : Made) (t : Tree) → AllByRecursion (λ e. DoRise e.1.attributes) t
      → Parts last (dump t) (dump (now_view t)) (flat_map later_of t)
  unfolding dump
  tree_parts last [] rise = record { now_is = refl; later_is = refl }
  tree_parts last (e ∷ t) rise =
      let first = entry_steps e.0 e.1 in
      let here = entry_parts last e rise.0 in
      let rest = tree_parts (made_by wanted last first) t rise.1 in
      record {
        now_is = now_parts wanted last first (flat_map (λ e. entry_steps e.0 e.1) t)
            ∙ ap₂ (λ (x y : List DumpStep). x ++ y) here.now_is rest.now_is;
        later_is = later_parts wanted last first (flat_map (λ e. entry_steps e.0 e.1) t)
            ∙ ap₂ (λ (x y : List DumpStep). x ++ y) here.later_is rest.later_is;
      }

  -- so it is with the steps of a tree
  pub tree_now : (last : Made) (t : Tree) → AllByRecursion (λ e. DoRise e.1.attributes) t
      → steps_now wanted last (dump t) ≡ dump (now_view t)
  tree_now last t rise = (tree_parts last t rise).now_is

  pub tree_later : (last : Made) (t : Tree) → AllByRecursion (λ e. DoRise e.1.attributes) t
      → steps_later wanted last (dump t) ≡ flat_map later_of t
  tree_later last t rise = (tree_parts last t rise).later_is
