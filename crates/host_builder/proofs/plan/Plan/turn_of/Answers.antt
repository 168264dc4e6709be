use Rattle.host_builder.proofs.Attributes.{of_folder, of_other_folder, of_file, of_other_file}
use Rattle.host_builder.proofs.plan.Plan.turn_of.Goals as goal

pub returns-then-eq : goal.returns-then-eq
returns-then-eq c =
    of_folder c.args.self.now.wanted c.args.self.now.made c.in-Folder.at c.args.path.now c.args.attribute
    c.eq.result c.eq.ensures c.turn_of_folder.result c.in-Folder.is c.if-eq.true c.turn_of_folder.ensures

pub returns-else-eq : goal.returns-else-eq
returns-else-eq c =
    of_other_folder c.args.self.now.wanted c.args.self.now.made c.in-Folder.at c.args.path.now c.args.attribute
    c.eq.result c.eq.ensures c.in-Folder.is c.if-eq.false

pub returns-then-eq-2 : goal.returns-then-eq-2
returns-then-eq-2 c =
    of_file c.args.self.now.wanted c.args.self.now.made c.in-File.at c.args.path.now c.args.attribute
    c.eq-in-File.result c.eq-in-File.ensures c.in-File.is_empty c.in-File.is c.turn_of_file.result
    c.if-eq-2.true c.turn_of_file.ensures

pub returns-else-eq-2 : goal.returns-else-eq-2
returns-else-eq-2 c =
    of_other_file c.args.self.now.wanted c.args.self.now.made c.in-File.at c.args.path.now c.args.attribute
    c.eq-in-File.result c.eq-in-File.ensures c.in-File.is_empty c.in-File.is c.if-eq-2.false
