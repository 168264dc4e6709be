use Rattle.std.proofs.Common.{◌∙◌, [], ap, arith, refl, sym}
use Rattle.std.specs.String.{string_bytes}
use Rattle.std.proofs.lemmas.Bool.{false≢true}
use Rattle.clap.specs.Matches.{found_of}
use Rattle.clap.specs.Simple.{subcommand_rows_of}
use Rattle.clap.specs.Walk.{rows_of}
use Rattle.clap.proofs.WalkLemmas.{first_value-rows}
use Rattle.command_line.proofs.LineLemmas.{both_held, holds_line, mapped_at, name_held, other_there, same_there}
use Rattle.command_line.proofs.LineLemmas.{text_same}
use Rattle.command_line.proofs.line_read.holds.Goals as goal

pub returns-then-ne-2 : goal.returns-then-ne-2
returns-then-ne-2 c = (
  λ h. absurd (false≢true h),
  λ held. absurd (other_there c.args.words.now c.arguments_of-arguments.result.now
      (rows_of (found_of c.in-Some.given.now)) c.loop-i.i _ c.index-words-i.result c.get_str.result
      c.as_str-in-loop-i.result (omega arith) (omega arith)
      (c.get_str.ensures ∙ first_value-rows (found_of c.in-Some.given.now) _) c.index-words-i.is
      c.as_str-in-loop-i.ensures.value c.if-ne-2.ensures _ c.in-Some.name.now held
      (c.in-Some.ensures.name ∙ name_held c.args.matches.now held.subcommand held.rows held.found_is)
      c.in-Some.ensures.rows c.arguments_of-arguments.ensures),
)

pub loop-i-preserved : goal.loop-i-preserved
loop-i-preserved c =
    same_there c.args.words.now c.arguments_of-arguments.result.now (rows_of (found_of c.in-Some.given.now))
    c.loop-i.i _ c.index-words-i.result c.get_str.result c.as_str-in-loop-i.result (omega arith) (omega arith)
    (c.get_str.ensures ∙ first_value-rows (found_of c.in-Some.given.now) _) c.index-words-i.is
    c.as_str-in-loop-i.ensures.value c.if-ne-2.ensures c.loop-i.invariant

pub returns : goal.returns
returns c = (
  λ all. holds_line c.args.words.now c.arguments_of-arguments.result.now (rows_of (found_of c.in-Some.given.now))
      (subcommand_rows_of c.args.matches.now) c.in-Some.name.now c.arguments_of-arguments.ensures (omega arith)
      (sym (mapped_at string_bytes c.args.words.now 0 c.index-words-0.result [] (omega arith))
      ∙ sym (ap string_bytes c.index-words-0.is) ∙ sym c.as_str.ensures.value ∙ text_same _ _ c.if-ne.ensures)
      (both_held c.args.matches.now c.in-Some.name.now (rows_of (found_of c.in-Some.given.now)) c.in-Some.ensures.name
      c.in-Some.ensures.rows) c.loop-i.i c.loop-i-test.false c.loop-i.invariant,
  λ held. refl,
)
