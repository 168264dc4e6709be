use Rattle.std.proofs.Common.{◌≡◌, ◌-◌, false, length, take}
use Rattle.store_model.specs.Paths.{is_root}
use Rattle.host_folders.specs.FoundEntries.{own_attributes}
use Rattle.image_create.specs.Counts.{AddsKeys}
use Rattle.image_create.specs.FoundKeys.{HaveFields, name_keys, own_names}
use Rattle.image_create.proofs.keys.KeyCounter.push_own_names.Given as goal

-- the names before this one are counted
abbrev pub invariant-loop-attribute : goal.invariant-loop-attribute
invariant-loop-attribute l = record {
  levels : l.self.levels ≡ l.fn.self.levels;
  counted : is_root l.fn.found.path ≡ false → HaveFields l.fn.found.path (own_names l.fn.found)
      → AddsKeys l.fn.self l.self (name_keys l.fn.found.path (take l.at (own_names l.fn.found)));
}

abbrev pub decreases-loop-attribute : goal.decreases-loop-attribute
decreases-loop-attribute l = length (own_attributes l.fn.found) - l.at
