use Rattle.box_changes.specs.Telling.{told_of, text_in}
use Rattle.box_changes.proofs.Told.{text_is}
use Rattle.box_changes.proofs.telling.tell.Goals as goal

pub returns-clause-tells : goal.returns-clause-tells
returns-clause-tells g c = record {
  found = c.ask-disk.result.1;
  text = told_of c.text_found-text.result;
  answers = c.ask-disk.ensures.answers;
  unread = c.ask-disk.ensures.unread;
  untouched = c.ask-disk.ensures.untouched;
  is_text = text_is c.text_found-text.result (text_in c.args.asked.now.is_hex c.ask-disk.result.1)
      c.text_found-text.ensures.ok c.text_found-text.ensures.err;
  puts = c.put_found-status.ensures.puts;
}
