-- Opens every definition at once, so that worked examples are proved by computing.
use Rattle.std.specs.Fmt as fmt
use Rattle.hex.specs.Hex as hex
use Rattle.sha2.specs.Sha256 as sha256
use Rattle.store_model.specs.Commands as commands
use Rattle.store_model.specs.Draws as draws
use Rattle.store_model.specs.Grammar as grammar
use Rattle.store_model.specs.Images as images
use Rattle.store_model.specs.Labels as labels
use Rattle.store_model.specs.Lists as lists
use Rattle.store_model.specs.Pages as pages
use Rattle.store_model.specs.Pairs as pairs
use Rattle.store_model.specs.Parameters as parameters
use Rattle.store_model.specs.Paths as paths
use Rattle.store_model.specs.Placement as placement
use Rattle.store_model.specs.Scripts as scripts
use Rattle.store_model.specs.Steps as steps
use Rattle.store_model.specs.Trees as trees
use Rattle.store_model.specs.Words as words

unfoldable pub everything : Unit {0}
unfolding fmt.digits hex.encode_with hex.decode_pairs sha256.sha256 sha256.digest_bytes sha256.hash_after
    sha256.compress sha256.rounds sha256.schedule sha256.first_words commands.refusal_text commands.content_text
    commands.child_line commands.attribute_line commands.reply_text draws.ruler_start draws.ruler_level
    draws.start_of_digest draws.level_of_digest draws.sha256_start draws.sha256_level draws.draw_of grammar.digits_value
    grammar.number_of grammar.path_of grammar.content_of grammar.command_of_fields grammar.command_of
    grammar.has_short_paths grammar.parse images.header images.cell_bytes images.page_bytes images.slot_bytes
    images.table_bytes images.journal_len images.layout images.is_flag_set images.is_marked images.viewed_header
    images.recovered_slot images.recovered images.scrubbed_block images.scrubbed_slot images.scrubbed labels.label_bytes
    lists.zero_filled lists.numbers_from lists.runs lists.onto_part lists.cut_before lists.insert_in_order
    lists.in_order pages.level_list pages.groups pages.lead_of pages.group_pages pages.level_pages pages.pages_of_pairs
    pages.pages pairs.node_pairs pairs.attribute_pairs pairs.pairs parameters.mark_blocks parameters.shadow_at
    parameters.table_at parameters.image_len paths.name_bytes paths.path_text paths.parent paths.last_name
    paths.is_inside paths.replanted paths.field paths.key placement.probes placement.put_first_free placement.put_all
    placement.place placement.pages_in scripts.lines scripts.answer scripts.answers_by scripts.state_by
    scripts.replies_by scripts.tree_by scripts.replies scripts.tree_after scripts.replies_text steps.first_refusal
    steps.outgrows steps.conditions steps.next_tree steps.child_of steps.reply_of steps.may_fill steps.is_on_attributes
    steps.step trees.children trees.tree_of trees.without_attribute trees.without trees.without_subtree trees.moved
    words.number_in words.kind_of_word words.seed_of_word words.version_of_word words.request_of
everything = tt
