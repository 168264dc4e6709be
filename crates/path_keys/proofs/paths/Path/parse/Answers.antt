use Rattle.std.proofs.Common.{Ok, Err, arith, sym, ◌∙◌}
use Rattle.std.proofs.lemmas.Bool.{eqb-true, eqb-false}
use Rattle.path_keys.specs.declared.paths.PathFault.TheVariants.{Syntax}
use Rattle.path_keys.proofs.ParsedText.{parsed_names, parsed_root, parsed_other, parsed_nothing, value_from}
use Rattle.path_keys.proofs.ParsedText.{syntax_from, too_long_from, too_long_field_from}
use Rattle.path_keys.proofs.paths.Path.parse.Goals as goal

pub returns-in_default-clause-syntax : goal.returns-in_default-clause-syntax
returns-in_default-clause-syntax c =
    syntax_from c.args.text.now (Err Syntax)
    (parsed_nothing c.args.text.now c.in_default.ensures.cases)

pub returns-then-first-ne47-clause-syntax : goal.returns-then-first-ne47-clause-syntax
returns-then-first-ne47-clause-syntax c =
    syntax_from c.args.text.now (Err Syntax)
    (parsed_other c.args.text.now c.in-Some.first.now c.in-Some.names.now
    c.in-Some.ensures.cases.0 c.if-first-ne47.true)

pub returns-then-first-ne47-clause-too_long : goal.returns-then-first-ne47-clause-too_long
returns-then-first-ne47-clause-too_long c =
    too_long_from c.args.text.now (Err Syntax)
    (parsed_other c.args.text.now c.in-Some.first.now c.in-Some.names.now
    c.in-Some.ensures.cases.0 c.if-first-ne47.true)

pub returns-then-is_empty-clause-value : goal.returns-then-is_empty-clause-value
returns-then-is_empty-clause-value c =
    value_from c.args.text.now (Ok c.root.result)
    (parsed_root c.args.text.now c.in-Some.first.now c.in-Some.names.now c.root.result c.in-Some.ensures.cases.0
    c.if-first-ne47.false (omega (arith, eqb-true _ _ (sym c.is_empty.ensures ∙ c.if-is_empty.true)))
    c.root.ensures)

pub returns-then-is_empty-clause-syntax : goal.returns-then-is_empty-clause-syntax
returns-then-is_empty-clause-syntax c =
    syntax_from c.args.text.now (Ok c.root.result)
    (parsed_root c.args.text.now c.in-Some.first.now c.in-Some.names.now c.root.result c.in-Some.ensures.cases.0
    c.if-first-ne47.false (omega (arith, eqb-true _ _ (sym c.is_empty.ensures ∙ c.if-is_empty.true)))
    c.root.ensures)

pub returns-clause-value : goal.returns-clause-value
returns-clause-value c =
    value_from c.args.text.now c.of_names.result
    (parsed_names c.args.text.now c.in-Some.first.now c.in-Some.names.now c.of_names.result c.in-Some.ensures.cases.0
    c.if-first-ne47.false (omega (arith, eqb-false _ _ (sym c.is_empty.ensures ∙ c.if-is_empty.false)))
    c.of_names.ensures)

pub returns-clause-syntax : goal.returns-clause-syntax
returns-clause-syntax c =
    syntax_from c.args.text.now c.of_names.result
    (parsed_names c.args.text.now c.in-Some.first.now c.in-Some.names.now c.of_names.result c.in-Some.ensures.cases.0
    c.if-first-ne47.false (omega (arith, eqb-false _ _ (sym c.is_empty.ensures ∙ c.if-is_empty.false)))
    c.of_names.ensures)

pub returns-clause-too_long : goal.returns-clause-too_long
returns-clause-too_long c =
    too_long_from c.args.text.now c.of_names.result
    (parsed_names c.args.text.now c.in-Some.first.now c.in-Some.names.now c.of_names.result c.in-Some.ensures.cases.0
    c.if-first-ne47.false (omega (arith, eqb-false _ _ (sym c.is_empty.ensures ∙ c.if-is_empty.false)))
    c.of_names.ensures)

pub returns-clause-too_long_field : goal.returns-clause-too_long_field
returns-clause-too_long_field c =
    too_long_field_from c.args.text.now c.of_names.result
    (parsed_names c.args.text.now c.in-Some.first.now c.in-Some.names.now c.of_names.result c.in-Some.ensures.cases.0
    c.if-first-ne47.false (omega (arith, eqb-false _ _ (sym c.is_empty.ensures ∙ c.if-is_empty.false)))
    c.of_names.ensures)
