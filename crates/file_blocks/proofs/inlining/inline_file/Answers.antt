use Rattle.file_blocks.proofs.UpgradeFileLemmas.{room_without}
use Rattle.file_blocks.proofs.inlining.inline_file.Goals as goal

pub put-requires : goal.put-requires
put-requires g c = room_without _ _ _ _ c.in_ok-block.ensures.call c.requires.room
