use Rattle.std.proofs.Common.{◌≡◌, Some, None, refl, sym, subst, ◌∙◌, arith}
use Rattle.store_model.specs.Pairs.{inline_value}
use Rattle.tree_pairs.specs.declared.kind.Kind.TheVariants as kinds
use Rattle.tree_pairs.specs.Kinds.{kind_of, LacksBytes}
use Rattle.dump_streams.specs.Spots.{node_value}
use Rattle.dump_streams.proofs.FirstLemmas.{first_told, short_node, inline_made, directory_made, empty_made, file_made}
use Rattle.dump_streams.proofs.FirstLemmas.{no_node}
use Rattle.dump_streams.proofs.maker.StepMaker.take_node.Goals as goal

pub returns-in-Some : goal.returns-in-Some
returns-in-Some c p node valid first_is =
    let bytes = c.in-Some.bytes.now in
    let same : Some (node_value p.version node) ≡ Some (inline_value bytes) = sym first_is ∙ c.in-Some.ensures.first in
    let value_is : node_value p.version node ≡ inline_value bytes = cc in
    inline_made p c.args.path c.args.self.now c.write.new.self node bytes value_is c.in-Some.ensures.fits c.requires
    c.write.ensures

pub returns-in-Some-Directory : goal.returns-in-Some-Directory
returns-in-Some-Directory c p node valid first_is =
    let told = c.kind_told.ensures (Some node) p.version (short_node node valid)
    (first_is ∙ first_told p.version node) in
    let is = c.in-Some-Directory.is in
    let which = c.in-Some-Directory.field-0-is in
    let kind : Some (kind_of node) ≡ Some kinds.Directory = cc in
    directory_made p c.args.path c.args.self.now c.make.new.self node kind c.requires c.make.ensures

pub returns-in-Some-File-eq0 : goal.returns-in-Some-File-eq0
returns-in-Some-File-eq0 c p node valid first_is =
    let told = c.kind_told.ensures (Some node) p.version (short_node node valid)
    (first_is ∙ first_told p.version node) in
    let is = c.in-Some-File-eq0.is in
    let which = c.in-Some-File-eq0.field-0-is in
    let number = c.in-Some-File-eq0.field-0-0-is in
    let kind : Some (kind_of node) ≡ Some (kinds.File 0) = cc in
    empty_made p c.args.path c.args.self.now c.write-in-Some-File-eq0.new.self node kind c.requires
    c.write-in-Some-File-eq0.ensures

pub returns-in-Some-File : goal.returns-in-Some-File
returns-in-Some-File c p node valid first_is =
    let told = c.kind_told.ensures (Some node) p.version (short_node node valid)
    (first_is ∙ first_told p.version node) in
    let is = c.in-Some-File.is in
    let which = c.in-Some-File.field-0-is in
    let number = c.in-Some-File.len-is in
    let kind : Some (kind_of node) ≡ Some (kinds.File c.in-Some-File.len) = cc in
    file_made p c.args.path _ c.args.into.now node c.in-Some-File.len _ valid kind
    (omega (arith, c.in-Some-File.len-test)) (subst LacksBytes first_is c.in_default.ensures.first)
    refl c.clear.ensures refl refl refl

pub returns-in-None : goal.returns-in-None
returns-in-None c p node valid first_is =
    let told = c.kind_told.ensures (Some node) p.version (short_node node valid)
    (first_is ∙ first_told p.version node) in
    let is = c.in-None.is in
    let kind : Some (kind_of node) ≡ None = cc in
    no_node node kind
